use Rattle.std.proofs.Common.{Bool, true, false, [], ◌∷◌, refl, sym, subst, ◌∙◌}
use Rattle.std.specs.Prelude.{if◌then◌else◌}
use Rattle.step_table.specs.Acts.{LetGo}
use Rattle.mds_state.specs.Acted.{Acted}
use Rattle.mds_flushes.proofs.Taken.{stands_by}
use Rattle.mds_flushes.proofs.taking.on_drop.Goals as goal

pub returns-then-only_reads-clause-acts : goal.returns-then-only_reads-clause-acts
returns-then-only_reads-clause-acts c = λ s stands.
    subst (λ (b : Bool). Acted c.let_go.new.self s (if b then LetGo c.args.client c.args.ino ∷ [] else []) true)
    (sym c.if-only_reads.true ∙ c.only_reads.ensures s s.hand stands)
    (stands_by c.let_go.new.self s.hand _ (c.let_go.ensures.table s s.hand stands), refl)

pub returns-clause-acts : goal.returns-clause-acts
returns-clause-acts c = λ s stands.
    subst (λ (b : Bool). Acted c.args.state.now s (if b then LetGo c.args.client c.args.ino ∷ [] else []) false)
    (sym c.if-only_reads.false ∙ c.only_reads.ensures s s.hand stands) (stands, refl)

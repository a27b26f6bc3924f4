use Rattle.std.proofs.Common.{Bool, [], ◌∷◌, sym, subst, ◌∙◌}
use Rattle.std.specs.Prelude.{if◌then◌else◌}
use Rattle.step_table.specs.Acts.{MarkRecalled, TellRecall, acts}
use Rattle.mds_state.specs.Stands.{StandsFor}
use Rattle.mds_state.proofs.state.MdsState.recall.Goals as goal

pub returns-then-is_recalled-clause-table : goal.returns-then-is_recalled-clause-table
returns-then-is_recalled-clause-table c = λ s taken stands.
    subst (λ (b : Bool). StandsFor c.args.self.now taken (acts s (if b then [] else MarkRecalled c.args.client c.args.ino ∷ TellRecall c.args.client c.args.ino ∷ [])))
    (sym c.if-is_recalled.true ∙ c.is_recalled.ensures s taken stands) stands

pub returns-clause-table : goal.returns-clause-table
returns-clause-table c = λ s taken stands.
    subst (λ (b : Bool). StandsFor c.tell_recall.new.self taken (acts s (if b then [] else MarkRecalled c.args.client c.args.ino ∷ TellRecall c.args.client c.args.ino ∷ [])))
    (sym c.if-is_recalled.false ∙ c.is_recalled.ensures s taken stands)
    (c.in_ok-tell_recall.ensures.table _ taken (c.in_ok-mark.ensures.table s taken stands))

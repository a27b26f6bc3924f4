use Rattle.std.proofs.Common.{Bool, [], ◌∷◌, sym, subst, rules, ◌≡◌, false}
use Rattle.std.specs.Prelude.{if◌then◌else◌}
use Rattle.step_table.specs.Acts.{Settled, acts}
use Rattle.mds_state.specs.Stands.{StandsFor}
use Rattle.mds_flushes.proofs.back.settle_brought.Goals as goal

pub returns-then-not-flush-clause-table : goal.returns-then-not-flush-clause-table
returns-then-not-flush-clause-table c = λ s taken stands.
    let f = c.args.flush.now in
    let kept : f.release ≡ false = search rules in
    subst (λ (b : Bool). StandsFor c.settle.new.self taken (acts s (if b then [] else Settled c.args.client f.ino f.upto ∷ [])))
    (sym kept) (c.settle.ensures.table s taken stands)

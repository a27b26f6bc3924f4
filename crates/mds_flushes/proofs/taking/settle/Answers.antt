use Rattle.std.proofs.Common.{Bool, sym, subst}
use Rattle.std.specs.Prelude.{if◌then◌else◌}
use Rattle.step_table.specs.Acts.{LetGo, Settled, act}
use Rattle.mds_state.specs.Stands.{StandsFor}
use Rattle.mds_flushes.proofs.taking.settle.Goals as goal

pub returns-then-flush-clause-table : goal.returns-then-flush-clause-table
returns-then-flush-clause-table c = λ s taken stands.
    let f = c.args.flush.now in
    subst (λ (b : Bool). StandsFor c.let_go.new.self taken (act s (if b then LetGo c.args.client f.ino else Settled c.args.client f.ino f.upto)))
    (sym c.if-flush.true) (c.let_go.ensures.table s taken stands)

pub returns-else-flush-clause-table : goal.returns-else-flush-clause-table
returns-else-flush-clause-table c = λ s taken stands.
    let f = c.args.flush.now in
    subst (λ (b : Bool). StandsFor c.settle.new.self taken (act s (if b then LetGo c.args.client f.ino else Settled c.args.client f.ino f.upto)))
    (sym c.if-flush.false) (c.settle.ensures.table s taken stands)

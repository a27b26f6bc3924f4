use Rattle.std.proofs.Common.{subst, sym}
use Rattle.mds_state.specs.Parts.{Parts}
use Rattle.mds_state.specs.Stands.{StandsFor}
use Rattle.mds_state.proofs.Acted.{settles}
use Rattle.mds_state.proofs.state.MdsState.settle.Goals as goal

pub returns-clause-table : goal.returns-clause-table
returns-clause-table c = λ s taken stands.
    let now = subst (λ (p : Parts). StandsFor p taken s) (sym c.self.view_is) stands in
    rw c.settle.ensures
    (settles _ taken s now c.args.client c.args.ino c.args.upto (c.tables_stay_tables.ensures.flushed c.args.client c.args.ino c.args.upto _ now.tenures.table)
    (c.a_flush_settles.ensures _ _ s c.args.client c.args.ino c.args.upto now.tenures.stands))

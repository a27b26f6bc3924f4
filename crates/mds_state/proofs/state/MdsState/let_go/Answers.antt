use Rattle.std.proofs.Common.{subst, sym}
use Rattle.mds_state.specs.Parts.{Parts}
use Rattle.mds_state.specs.Stands.{StandsFor}
use Rattle.mds_state.proofs.Acted.{lets_go}
use Rattle.mds_state.proofs.state.MdsState.let_go.Goals as goal

pub returns-clause-table : goal.returns-clause-table
returns-clause-table c = λ s taken stands.
    let now = subst (λ (p : Parts). StandsFor p taken s) (sym c.self.view_is) stands in
    rw c.let_go.ensures
    (lets_go _ taken s now c.args.client c.args.ino (c.tables_stay_tables.ensures.released c.args.client c.args.ino _ now.tenures.table)
    (c.a_file_is_let_go.ensures.mark_goes _ _ s c.args.client c.args.ino now.tenures.stands))

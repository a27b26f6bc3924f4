use Rattle.std.proofs.Common.{ℕ, ◌≤◌, subst, sym}
use Rattle.mds_state.specs.Parts.{Parts}
use Rattle.mds_state.specs.Stands.{StandsFor}
use Rattle.mds_state.proofs.Acted.{comes_back}
use Rattle.mds_state.proofs.state.MdsState.come_back.Goals as goal

pub returns-clause-table : goal.returns-clause-table
returns-clause-table c = λ s taken stands made.
    let now = subst (λ (p : Parts). StandsFor p taken s) (sym c.self.view_is) stands in
    rw c.in_ok-rebuild.ensures
    (comes_back _ taken s c.args.client c.args.claims.now now c.requires.from_one (subst (λ (n : ℕ). c.args.client ≤ n) stands.clients c.requires.upto) made
    (c.tables_stay_tables.ensures.rebuilt c.args.client c.args.claims.now _ now.tenures.table)
    (c.a_client_comes_back.ensures _ _ s c.args.client c.args.claims.now now.tenures.stands))

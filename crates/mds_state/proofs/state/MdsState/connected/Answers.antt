use Rattle.std.proofs.Common.{ℕ, ◌≤◌, ◌<◌, refl, subst, sym}
use Rattle.server_sessions.specs.Calls.{at_client}
use Rattle.mds_state.specs.Parts.{Parts}
use Rattle.mds_state.specs.Stands.{StandsFor}
use Rattle.mds_state.proofs.Seats.{connection_is}
use Rattle.mds_state.proofs.Waits.{connects}
use Rattle.mds_state.proofs.state.MdsState.connected.Goals as goal

pub returns-clause-table : goal.returns-clause-table
returns-clause-table c = λ s taken stands above.
    let now = subst (λ (p : Parts). StandsFor p taken s) (sym c.self.view_is) stands in
    let upto = subst (λ (p : Parts). c.args.client ≤ p.clients) (sym c.self.view_is) c.requires.upto in
    connects _ taken s now c.args.client c.args.conn c.requires.from_one (subst (λ (n : ℕ). c.args.client ≤ n) stands.clients c.requires.upto) above
    c.connect_in.new.sessions.items c.drop_of.new.self c.drop_of-2.new.self
    (c.connect_in.ensures.table (subst (λ (n : ℕ). n < c.args.conn) (sym (connection_is _ taken s now c.args.client c.requires.from_one upto (at_client c.self.inside.sessions.items c.args.client) refl)) above))
    c.drop_of.ensures c.drop_of-2.ensures

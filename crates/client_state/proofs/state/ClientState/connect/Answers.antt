use Rattle.std.proofs.Common.{ap, ◌∙◌}
use Rattle.client_state.specs.Acts.{under_of, under_fits}
use Rattle.client_state.proofs.Rows.{connected}
use Rattle.client_state.proofs.Linked.{fits_again}
use Rattle.client_state.proofs.state.ClientState.connect.Goals as goal

pub invariant_of-self : goal.invariant_of-self
invariant_of-self c = ap under_fits c.send_again.ensures ∙ fits_again (under_of c.self.inside.under) c.self.invariant

pub returns : goal.returns
returns c = connected c.telling.result _ c.args.self.now c.self.view_is c.in_ok-conn.conn _ c.in_ok-claims.claims _ c.in_ok-asked.asked
    c.in_ok-conn.ensures c.send_again.ensures c.in_ok-claims.ensures (c.in_ok-flushes.ensures ∙ c.deref.ensures.value) c.in_ok-asked.ensures c.telling.ensures

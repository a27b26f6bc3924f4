use Rattle.std.proofs.Common.{ap, ◌∙◌}
use Rattle.client_state.specs.Acts.{under_of, under_fits}
use Rattle.client_state.proofs.Rows.{asked}
use Rattle.client_state.proofs.state.ClientState.ask.Goals as goal

pub invariant_of-self : goal.invariant_of-self
invariant_of-self c = ap under_fits c.asked.ensures ∙ c.requires

pub returns : goal.returns
returns c = asked c.telling.result _ c.args.self.now c.self.view_is c.args.number c.in_ok-tid.tid c.args.line c.args.request c.in_ok-copy.copy
    (under_of c.asked.result) c.in_ok-tid.ensures c.in_ok-copy.ensures.cases c.asked.ensures c.telling.ensures

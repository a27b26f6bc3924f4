use Rattle.std.proofs.Common.{ap, ◌∙◌}
use Rattle.client_state.specs.Acts.{under_of, under_fits}
use Rattle.client_state.proofs.Changed.{is_let_go}
use Rattle.client_state.proofs.Linked.{fits_let_go}
use Rattle.client_state.proofs.state.ClientState.let_go.Goals as goal

pub invariant_of-self : goal.invariant_of-self
invariant_of-self c = ap under_fits c.in_err-remember.ensures.as_before ∙ c.self.invariant

pub invariant_of-self-2 : goal.invariant_of-self-2
invariant_of-self-2 c = ap under_fits c.in_ok-remember.ensures.remembers ∙ fits_let_go c.args.ino (under_of c.self.inside.under) c.self.invariant

pub returns : goal.returns
returns c = is_let_go _ c.args.self.now c.self.view_is c.args.ino _ _ c.in_ok-remember.ensures.remembers c.let_go.ensures

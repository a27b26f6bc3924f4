use Rattle.std.proofs.Common.{◌≡◌, true, ap, subst}
use Rattle.step_table.specs.ClientState.{Client}
use Rattle.client_state.specs.Acts.{under_fits}
use Rattle.client_state.proofs.state.ClientState.under.Goals as goal

pub returns-clause-under : goal.returns-clause-under
returns-clause-under c = ap (λ (s : Client). s.under) c.self.view_is

pub returns-clause-fits : goal.returns-clause-fits
returns-clause-fits c = subst (λ (s : Client). under_fits s.under ≡ true) c.self.view_is c.self.invariant

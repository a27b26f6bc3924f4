use Rattle.std.proofs.Common.{ℕ, Option, ◌||◌, is_none, ap, ◌∙◌}
use Rattle.step_table.specs.ClientTakes.{is_own}
use Rattle.client_state.proofs.state.ClientState.may_take.Goals as goal

pub returns-in-Some : goal.returns-in-Some
returns-in-Some c = c.is_own.ensures ∙ ap (λ (o : Option ℕ). is_none o || is_own c.args.self.now c.args.told.now) c.in-Some.ensures

pub returns-in-None : goal.returns-in-None
returns-in-None c = ap (λ (o : Option ℕ). is_none o || is_own c.args.self.now c.args.told.now) c.in-None.ensures

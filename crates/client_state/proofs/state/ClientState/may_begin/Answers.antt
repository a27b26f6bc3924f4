use Rattle.client_state.proofs.Seen.{front_some, front_none, ready, not_ready}
use Rattle.client_state.proofs.state.ClientState.may_begin.Goals as goal

pub returns-in-Some : goal.returns-in-Some
returns-in-Some c = ready _ c.args.self.now c.self.view_is c.in-Some.line.now c.can_begin.result c.can_begin.ensures
    (front_some c.self.inside.lines.items c.in-Some.line.now c.in-Some.ensures.lookup c.in-Some.ensures.item.3.0)

pub returns-in-None : goal.returns-in-None
returns-in-None c = not_ready _ c.args.self.now c.self.view_is (front_none c.self.inside.lines.items c.in-None.ensures.item.2)

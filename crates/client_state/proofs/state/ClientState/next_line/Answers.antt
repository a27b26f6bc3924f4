use Rattle.std.proofs.Common.{ap, slice_get, ◌∙◌}
use Rattle.step_table.specs.ClientState.{Client}
use Rattle.client_state.proofs.Seen.{front_some, front_none}
use Rattle.client_state.proofs.state.ClientState.next_line.Goals as goal

pub returns-in-Some : goal.returns-in-Some
returns-in-Some c = front_some c.self.inside.lines.items c.in-Some.line.now c.in-Some.ensures.lookup c.in-Some.ensures.item.3.0 ∙ ap (λ (s : Client). slice_get s.lines 0) c.self.view_is

pub returns-in-None : goal.returns-in-None
returns-in-None c = front_none c.self.inside.lines.items c.in-None.ensures.item.2 ∙ ap (λ (s : Client). slice_get s.lines 0) c.self.view_is

use Rattle.std.proofs.Common.{Some, ap, ◌∙◌}
use Rattle.plain_types.specs.declared.message.ToStore.{ToStore}
use Rattle.held_files.specs.Files.{file_of}
use Rattle.step_table.specs.ClientState.{Client}
use Rattle.step_table.specs.ClientLines.{unsent_in}
use Rattle.client_state.specs.Acts.{order_in}
use Rattle.client_state.proofs.Seen.{order_some, order_none}
use Rattle.client_state.proofs.state.ClientState.order.Goals as goal

pub returns-in_ok-order_of-in-Some : goal.returns-in_ok-order_of-in-Some
returns-in_ok-order_of-in-Some c = ap (λ (o : ToStore). Some o) c.in_ok-order_of-in-Some.ensures
    ∙ order_some c.args.ino _ _ c.in-Some.ensures ∙ ap (λ (s : Client). order_in c.args.ino (unsent_in (file_of c.args.ino s.files))) c.self.view_is

pub returns-in-None : goal.returns-in-None
returns-in-None c = order_none c.args.ino _ c.in-None.ensures ∙ ap (λ (s : Client). order_in c.args.ino (unsent_in (file_of c.args.ino s.files))) c.self.view_is

-- What the acts of a client make, in the words of the protocol's table.
use Rattle.std.specs.Prelude.{ℕ, ◌+◌, Bool, true, false, not, ◌&&◌, List, [], ◌∷◌, drop, Option, None, Some}
use Rattle.snap_ids.specs.declared.id.Ino.{Ino}
use Rattle.snap_ids.specs.declared.values.Mode.TheVariants.{Write}
use Rattle.plain_types.specs.declared.answer.Answer.TheVariants.{Done}
use Rattle.plain_types.specs.declared.change.Change.{Change}
use Rattle.plain_types.specs.declared.message.ToStore.{ToStore}
use Rattle.plain_types.specs.declared.request.Request.{Request}
use Rattle.plain_types.specs.declared.request.Request.TheVariants as request
use Rattle.plain_types.specs.declared.script.Line.{Line}
use Rattle.held_files.specs.Buffer.{Buffer}
use Rattle.held_files.specs.Files.{Item, OfPiece, OfMark, HeldFiles, is_writer}
use Rattle.step_table.specs.Row.{Row}
use Rattle.step_table.specs.Messages.{is_size}
use Rattle.step_table.specs.ClientLines.{may_begin, order_of}
use Rattle.step_table.specs.ClientState.{Under, Idle, Open, AtStore, Client, Edit, edit_of}
use Rattle.client_state.specs.declared.acted.Acted.{Acted}
use Rattle.client_state.specs.declared.under_way.UnderWay.{UnderWay}
use Rattle.client_state.specs.declared.under_way.UnderWay.TheVariants as way

-- what is under way, as the table has it
abbrev pub under_of : UnderWay → Under
under_of way.Idle = Idle
under_of (way.Open number tid line request let_go) = Open number tid line request let_go
under_of (way.AtStore number entry ino head) = AtStore number entry ino head

-- the row of an act that leaves this state
abbrev pub row_of : Client → Acted → Row Client
row_of state acted = record { state = state; sent = acted.sent; effects = acted.effects; replies = acted.replies }

-- a line and so many others are left, none under way but for `break`: the next line may begin
abbrev pub ready_in : Client → List Line → Bool
ready_in c [] = false
ready_in c (text ∷ rest) = not c.frozen && may_begin c.under text

abbrev pub is_ready : Client → Bool
is_ready c = ready_in c c.lines

-- the next line is taken off
abbrev pub with_begun : Client → Client
with_begun c = record c { lines = drop 1 c.lines; begun = c.begun + 1 }

abbrev pub asks_to_write : Request → Bool
asks_to_write (request.Cap ino Write) = true
asks_to_write asked = false

-- a change of bytes ends within the largest file, and is asked for by its file for Write
abbrev pub edit_asked : Option Edit → Request → Bool
edit_asked None asked = true
edit_asked (Some e) asked = is_size e.ends && asks_to_write asked

-- a change of bytes under way ends within the largest file, and asks for its file for Write
abbrev pub under_fits : Under → Bool
under_fits (Open number tid line asked let_go) = edit_asked (edit_of line) asked
under_fits Idle = true
under_fits (AtStore number entry ino head) = true

-- the files that were let go since the open request was last sent
abbrev pub let_go_in : Under → List Ino
let_go_in (Open number tid line asked let_go) = let_go
let_go_in Idle = []
let_go_in (AtStore number entry ino head) = []

-- a change of bytes ends within the largest file, and its file is held for Write
abbrev pub can_edit : Option Edit → Ino → HeldFiles → Bool
can_edit None ino files = true
can_edit (Some e) ino files = is_size e.ends && is_writer ino files

-- a client's own change has taken effect, and its line is done
abbrev pub edited : Client → ℕ → Change → Row Client
edited c number change = record {
  state = record c { under = Idle };
  sent = [];
  effects = record { client = c.number; entry = 0; change = change } ∷ [];
  replies = record { client = c.number; line = number; changed = true; entry = 0; answer = Done } ∷ [];
}

-- the piece that stands first, as the store is sent it
abbrev pub order_in : Ino → List Item → Option ToStore
order_in ino [] = None
order_in ino (OfPiece piece ∷ items) = Some (order_of ino piece)
order_in ino (OfMark mark ∷ items) = None

-- the size of a file that is held, 0 where it isn't
abbrev pub size_kept : Option Buffer → ℕ
size_kept None = 0
size_kept (Some buffer) = buffer.size

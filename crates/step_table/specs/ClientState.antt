-- A client's table state, and what is read off it.
use Rattle.std.specs.Prelude.{ℕ, ◌+◌, Bool, true, false, not, List, [], ◌∷◌, ◌++◌, length, filter, if◌then◌else◌, Option, None, Some}
use Rattle.snap_ids.specs.declared.id.Ino.{Ino}
use Rattle.snap_ids.specs.Context.{Context}
use Rattle.plain_types.specs.declared.answer.Answer.{Answer}
use Rattle.plain_types.specs.declared.answer.Answer.TheVariants.{Done, Refused}
use Rattle.plain_types.specs.declared.answer.Refusal.{Refusal}
use Rattle.plain_types.specs.declared.change.Change.{Change}
use Rattle.plain_types.specs.declared.change.Change.TheVariants as change
use Rattle.plain_types.specs.declared.history.Sent.{Sent}
use Rattle.plain_types.specs.declared.message.FlushMsg.{FlushMsg}
use Rattle.plain_types.specs.declared.message.Message.TheVariants as message
use Rattle.plain_types.specs.declared.message.ToServer.{ToServer}
use Rattle.plain_types.specs.declared.message.ToServer.TheVariants.{Connect, Ask}
use Rattle.plain_types.specs.declared.message.ToStore.{ToStore}
use Rattle.plain_types.specs.declared.message.ToStore.TheVariants.{ReadHead}
use Rattle.plain_types.specs.declared.request.Request.{Request}
use Rattle.plain_types.specs.declared.script.Line.{Line}
use Rattle.plain_types.specs.declared.script.Line.TheVariants as line
use Rattle.plain_tree.specs.State.{Handle}
use Rattle.held_files.specs.declared.piece.Piece.{Piece}
use Rattle.held_files.specs.declared.piece.Piece.TheVariants as piece
use Rattle.held_files.specs.Files.{HeldFile, HeldFiles, is_ino, file_of, claims, with_file, with_piece}
use Rattle.step_table.specs.Row.{Row, sends}

-- The line under way: none; or a request of the line is open, by its number, with the files that were let go since it was
-- last sent; or the store was asked about a file, where the line has this entry stamp, and `head` says that its live bytes
-- were asked for.
pub data Under : Type 0 where
  Idle : Under
  Open : ℕ → ℕ → Line → Request → List Ino → Under
  AtStore : ℕ → ℕ → Ino → Bool → Under

-- The entry stamps of the last message of the server that a client took, and of the last one of its own connection. No row
-- reads them: they say which entries a change of bytes knows of.
pub record Heard : Type 0 where
  pub any : ℕ
  pub own : ℕ

-- A client's table state: its number and the store's; the lines that it has left, and how many it has begun; the line
-- under way; its connection number, and whether it waits for the server to welcome that; how many requests, flushes and
-- barriers it has numbered; the flushes that aren't acknowledged; what it has open; the files that it holds, and the
-- contexts of those that it holds for Write; and what it heard.
pub record Client : Type 0 where
  pub number : ℕ
  pub store : ℕ
  pub lines : List Line
  pub begun : ℕ
  pub under : Under
  pub conn : ℕ
  pub frozen : Bool
  pub tid : ℕ
  pub flushes : ℕ
  pub barriers : ℕ
  pub unacked : List FlushMsg
  pub handles : List Handle
  pub files : HeldFiles
  pub contexts : List (Ino × Context)
  pub heard : Heard

abbrev pub new_client : ℕ → ℕ → List Line → Client
new_client number store lines = record {
  number = number;
  store = store;
  lines = lines;
  begun = 0;
  under = Idle;
  conn = 1;
  frozen = false;
  tid = 0;
  flushes = 0;
  barriers = 0;
  unacked = [];
  handles = [];
  files = [];
  contexts = [];
  heard = record { any = 0; own = 0 };
}

abbrev pub to_server : ToServer → Sent
to_server said = record { to = 0; message = message.ToServer said }

abbrev pub to_store : Client → ToStore → Sent
to_store c order = record { to = c.store; message = message.ToStore order }

-- a row in which nothing happens
abbrev pub stays : Client → Row Client
stays c = sends c []

-- a row that tells the server, or asks the store
abbrev pub tells : Client → ToServer → Row Client
tells c said = sends c (to_server said ∷ [])

abbrev pub asks_store : Client → ToStore → Row Client
asks_store c order = sends c (to_store c order ∷ [])

-- a row that gives a line its reply; the line's Reply had this entry stamp
abbrev pub replies : Client → ℕ → Bool → ℕ → Answer → Row Client
replies c line changed entry answer = record {
  state = c;
  sent = [];
  effects = [];
  replies = record { client = c.number; line = line; changed = changed; entry = entry; answer = answer } ∷ [];
}

abbrev pub refuses : Client → ℕ → Refusal → Row Client
refuses c line refusal = replies c line false 0 (Refused refusal)

-- the context of a file that is held for Write
abbrev pub context_at_first : Context
context_at_first = record { seq = record { 0 = 1 }; ids = [] }

abbrev pub context_in : List (Ino × Context) → Ino → Context
context_in [] ino = context_at_first
context_in (known ∷ contexts) ino = if is_ino ino known.0 then known.1 else context_in contexts ino

abbrev pub without_context : Ino → List (Ino × Context) → List (Ino × Context)
without_context ino contexts = filter (λ (known : Ino × Context). not (is_ino ino known.0)) contexts

-- the contexts with a file's new one
abbrev pub with_context : Ino → Context → List (Ino × Context) → List (Ino × Context)
with_context ino context contexts = without_context ino contexts ++ (ino, context) ∷ []

-- one held file is changed
abbrev pub on_file : Client → Ino → (HeldFile → HeldFile) → Client
on_file c ino change = record c { files = with_file ino change c.files }

abbrev pub size_in : Option HeldFile → ℕ
size_in None = 0
size_in (Some file) = file.size

abbrev pub size_of : Client → Ino → ℕ
size_of c ino = size_in (file_of ino c.files)

-- a request of a line is sent, under the next number
abbrev pub asks : Client → ℕ → Line → Request → Row Client
asks c number line asked =
    tells (record c { tid = c.tid + 1; under = Open number (c.tid + 1) line asked [] }) (Ask c.conn (c.tid + 1) asked)

-- the store is asked for a held file's live bytes; the line's number is the key of what it asks
abbrev pub reads_head : Client → ℕ → ℕ → Ino → Row Client
reads_head c number entry ino =
    asks_store (record c { under = AtStore number entry ino true }) (ReadHead number ino (size_of c ino))

-- a change of an open file's bytes: where they end, the piece that it makes under a context, and the change
pub record Edit : Type 0 where
  pub handle : ℕ
  pub ends : ℕ
  pub piece : Context → Piece
  pub change : Change

abbrev pub edit_of : Line → Option Edit
edit_of (line.Write handle offset bytes) = Some (record {
  handle = handle;
  ends = offset + length bytes;
  piece = λ context. piece.Put offset bytes context;
  change = change.WriteFile handle offset bytes;
})
edit_of (line.Truncate handle size) = Some (record {
  handle = handle;
  ends = size;
  piece = λ context. piece.Cut size context;
  change = change.Truncate handle size;
})
edit_of other = None

-- it takes effect on a file that is held for Write, with the context that the file has now
abbrev pub edits : Client → ℕ → Ino → Edit → Row Client
edits c number ino e = record {
  state = on_file (record c { under = Idle }) ino (with_piece (e.piece (context_in c.contexts ino)));
  sent = [];
  effects = record { client = c.number; entry = 0; change = e.change } ∷ [];
  replies = record { client = c.number; line = number; changed = true; entry = 0; answer = Done } ∷ [];
}

abbrev pub open_request : Under → Option (ℕ × Request)
open_request (Open number tid line asked let_go) = Some (tid, asked)
open_request Idle = None
open_request (AtStore number entry ino head) = None

-- the open request is sent again: what was let go before counts no more
abbrev pub sent_again : Under → Under
sent_again (Open number tid line asked let_go) = Open number tid line asked []
sent_again Idle = Idle
sent_again (AtStore number entry ino head) = AtStore number entry ino head

-- the link is broken: the client connects anew with all that it holds, and waits for the Welcome
abbrev pub connects : Client → Row Client
connects c = tells
    (record c { conn = c.conn + 1; frozen = true; under = sent_again c.under })
    (Connect (c.conn + 1) (claims c.files) c.unacked (open_request c.under))

-- The rows of a client's own steps: a line is begun, and what is due is sent.
use Rattle.std.specs.Prelude.{ℕ, ◌+◌, Bool, true, false, not, ◌&&◌, List, [], ◌∷◌, ◌++◌, if◌then◌else◌, Option, None, Some, Result, Ok, Err}
use Rattle.snap_ids.specs.declared.id.Ino.{Ino}
use Rattle.snap_ids.specs.declared.id.SnapId.{SnapId}
use Rattle.snap_ids.specs.declared.id.TheConstants.{NOSNAP}
use Rattle.snap_ids.specs.declared.values.Mode.TheVariants.{Read, Write}
use Rattle.plain_types.specs.declared.answer.Answer.TheVariants.{Done}
use Rattle.plain_types.specs.declared.answer.Refusal.{Refusal}
use Rattle.plain_types.specs.declared.answer.Refusal.TheVariants.{BadHandle}
use Rattle.plain_types.specs.declared.change.Change.{Change}
use Rattle.plain_types.specs.declared.message.FlushMsg.{FlushMsg}
use Rattle.plain_types.specs.declared.message.ToServer.TheVariants.{Flush, DropRead}
use Rattle.plain_types.specs.declared.message.ToStore.{ToStore}
use Rattle.plain_types.specs.declared.message.ToStore.TheVariants.{WriteAt, Cut}
use Rattle.plain_types.specs.declared.request.Request.{Request}
use Rattle.plain_types.specs.declared.request.Request.TheVariants as request
use Rattle.plain_types.specs.declared.script.Line.{Line}
use Rattle.plain_types.specs.declared.script.Line.TheVariants as line
use Rattle.plain_tree.specs.State.{Handle}
use Rattle.plain_tree.specs.Change.{open_of}
use Rattle.plain_tree.specs.Line.{request_of, data_change}
use Rattle.held_files.specs.declared.due.Due.{Due}
use Rattle.held_files.specs.declared.due.Due.TheVariants as due
use Rattle.held_files.specs.declared.piece.Piece.{Piece}
use Rattle.held_files.specs.declared.piece.Piece.TheVariants as piece
use Rattle.held_files.specs.Files.{Item, OfPiece, OfMark, HeldFile, file_of, is_writer, is_held}
use Rattle.held_files.specs.Due.{first_due, sent}
use Rattle.step_table.specs.Row.{Row}
use Rattle.step_table.specs.ClientState.{Under, Idle, Open, AtStore, Client, stays, tells, asks_store, refuses, context_in, without_context, asks, reads_head, Edit, edit_of, edits, connects}

-- a change of bytes takes effect at once where the file is held for Write, and else asks for that
abbrev pub edit_file : Client → ℕ → Line → Edit → Ino → Result Change Refusal → Row Client
edit_file c number text e ino (Err refusal) = refuses c number refusal
edit_file c number text e ino (Ok made) =
    if is_writer ino c.files then edits c number ino e else asks c number text (request.Cap ino Write)

abbrev pub edit_line : Client → ℕ → Line → Edit → Option Handle → Row Client
edit_line c number text e None = refuses c number BadHandle
edit_line c number text e (Some opened) = edit_file c number text e opened.ino (data_change (Some opened) e.ends e.change)

-- `read` asks the store at once where the file is held, and else asks for Read
abbrev pub read_line : Client → ℕ → Line → Option Handle → Row Client
read_line c number text None = refuses c number BadHandle
read_line c number text (Some opened) =
    if is_held opened.ino c.files then reads_head c number 0 opened.ino else asks c number text (request.Cap opened.ino Read)

-- what the client has open under a number
abbrev pub opened : Client → ℕ → Option Handle
opened c handle = open_of c.handles c.number handle

-- `break` is answered at once, and its line doesn't disturb the one under way
abbrev pub breaks : Client → ℕ → Row Client
breaks c number =
    record (connects c) { replies = record { client = c.number; line = number; changed = false; entry = 0; answer = Done } ∷ [] }

-- barriers are numbered by each client in the order of its lines
abbrev pub asks_barrier : Client → ℕ → Row Client
asks_barrier c number = asks (record c { barriers = c.barriers + 1 }) number line.Barrier (request.Barrier (c.barriers + 1))

-- a line that the server is asked for
abbrev pub begin_asked : Client → ℕ → Line → Option Request → Row Client
begin_asked c number text None = stays c
begin_asked c number text (Some asked) = asks c number text asked

abbrev pub begin_other : Client → ℕ → Line → Row Client
begin_other c number (line.Read handle) = read_line c number (line.Read handle) (opened c handle)
begin_other c number line.Barrier = asks_barrier c number
begin_other c number line.Break = breaks c number
begin_other c number text = begin_asked c number text (request_of text)

abbrev pub begin_with : Client → ℕ → Line → Option Edit → Row Client
begin_with c number text (Some e) = edit_line c number text e (opened c e.handle)
begin_with c number text None = begin_other c number text

-- a line is begun
abbrev pub begin : Client → ℕ → Line → Row Client
begin c number text = begin_with c number text (edit_of text)

-- a line may begin where none is under way; `break` always may
abbrev pub may_begin : Under → Line → Bool
may_begin Idle text = true
may_begin under line.Break = true
may_begin under text = false

abbrev pub op_of : Client → List Line → Option (Row Client)
op_of c [] = None
op_of c (text ∷ rest) =
    if not c.frozen && may_begin c.under text
    then Some (begin (record c { lines = rest; begun = c.begun + 1 }) (c.begun + 1) text) else None

-- the next line
abbrev pub on_op : Client → Option (Row Client)
on_op c = op_of c c.lines

-- the file about which the store was asked
abbrev pub reading : Under → Option Ino
reading (AtStore number entry ino head) = Some ino
reading Idle = None
reading (Open number tid text asked let_go) = None

-- a flush is sent under the next number, and kept until it is acknowledged
abbrev pub flushes_with : Client → FlushMsg → Row Client
flushes_with c f = tells (record c { flushes = c.flushes + 1; unacked = c.unacked ++ f ∷ [] }) (Flush c.conn f)

abbrev pub mark_flush : Client → Ino → SnapId → SnapId → ℕ → FlushMsg
mark_flush c ino follows upto size =
    record { number = c.flushes + 1; ino = ino; follows = follows; upto = upto; size = size; release = false }

abbrev pub release_flush : Client → Ino → ℕ → FlushMsg
release_flush c ino size =
    record { number = c.flushes + 1; ino = ino; follows = (context_in c.contexts ino).seq; upto = NOSNAP; size = size; release = true }

abbrev pub with_let_go : Ino → Under → Under
with_let_go ino (Open number tid text asked let_go) = Open number tid text asked (ino ∷ let_go)
with_let_go ino Idle = Idle
with_let_go ino (AtStore number entry file head) = AtStore number entry file head

-- a file is let go: it has no context, and an open request remembers it
abbrev pub lets_go : Client → Ino → Client
lets_go c ino = record c { contexts = without_context ino c.contexts; under = with_let_go ino c.under }

-- a piece as the store is sent it
abbrev pub order_of : Ino → Piece → ToStore
order_of ino (piece.Put offset bytes context) = WriteAt ino offset bytes context
order_of ino (piece.Cut size context) = Cut ino size context

abbrev pub send_item : Client → Ino → List Item → Row Client
send_item c ino (OfPiece p ∷ items) = asks_store c (order_of ino p)
send_item c ino (OfMark mark ∷ items) = stays c
send_item c ino [] = stays c

abbrev pub unsent_in : Option HeldFile → List Item
unsent_in None = []
unsent_in (Some file) = file.unsent

-- what is due is sent, from a client in which it counts as sent
abbrev pub send_due : Client → List Item → Due → Row Client
send_due c unsent (due.Piece ino) = send_item c ino unsent
send_due c unsent (due.Mark ino follows upto size) = flushes_with c (mark_flush c ino follows upto size)
send_due c unsent (due.Release ino size) = flushes_with (lets_go c ino) (release_flush c ino size)
send_due c unsent (due.DropRead ino) = tells (lets_go c ino) (DropRead c.conn ino)

abbrev pub file_due : Due → Ino
file_due (due.Piece ino) = ino
file_due (due.Mark ino follows upto size) = ino
file_due (due.Release ino size) = ino
file_due (due.DropRead ino) = ino

abbrev pub sends_due : Client → Option Due → Option (Row Client)
sends_due c None = None
sends_due c (Some item) =
    Some (send_due (record c { files = sent item c.files }) (unsent_in (file_of (file_due item) c.files)) item)

-- the due item of the first file that has one
abbrev pub on_flush : Client → Option (Row Client)
on_flush c = if c.frozen then None else sends_due c (first_due (reading c.under) c.files)

-- What each row of a client keeps: its number, that of its store, and that it talks with the server and with the store alone.
use Rattle.std.proofs.Common.{◌≡◌, ℕ, ◌+◌, Bool, true, false, not, ◌&&◌, ◌==◌, eqb, List, [], ◌∷◌, Option, None, Some, Result, Ok, Err, refl, arith, leb, if◌then◌else◌}
use Rattle.std.specs.List.{list_all}
use Rattle.snap_ids.specs.declared.id.Ino.{Ino}
use Rattle.snap_ids.specs.declared.values.Mode.{Mode}
use Rattle.plain_types.specs.declared.answer.Answer.{Answer}
use Rattle.plain_types.specs.declared.answer.Answer.TheVariants as answer
use Rattle.plain_types.specs.declared.answer.Refusal.{Refusal}
use Rattle.plain_types.specs.declared.change.Change.{Change}
use Rattle.plain_types.specs.declared.history.Sent.{Sent}
use Rattle.plain_types.specs.declared.message.FileTrace.{FileTrace}
use Rattle.plain_types.specs.declared.message.FromStore.{FromStore}
use Rattle.plain_types.specs.declared.message.FromStore.TheVariants.{Stored, Got, NotThere, CloneListIs}
use Rattle.plain_types.specs.declared.message.Message.{Message}
use Rattle.plain_types.specs.declared.message.Message.TheVariants as message
use Rattle.plain_types.specs.declared.message.Stamp.{Stamp}
use Rattle.plain_types.specs.declared.message.ToClient.{ToClient}
use Rattle.plain_types.specs.declared.message.ToClient.TheVariants.{Reply, Grant, Recall, Notice, FlushAck, Welcome, Restarted}
use Rattle.plain_types.specs.declared.message.ToServer.{ToServer}
use Rattle.plain_types.specs.declared.message.ToStore.{ToStore}
use Rattle.plain_types.specs.declared.request.Request.{Request}
use Rattle.plain_types.specs.declared.script.Line.{Line}
use Rattle.plain_types.specs.declared.script.Line.TheVariants as line
use Rattle.plain_tree.specs.State.{Handle}
use Rattle.plain_tree.specs.Line.{request_of, data_change}
use Rattle.held_files.specs.declared.due.Due.{Due}
use Rattle.held_files.specs.declared.due.Due.TheVariants as due
use Rattle.held_files.specs.declared.piece.Piece.TheVariants as piece
use Rattle.held_files.specs.Due.{first_due, sent}
use Rattle.held_files.specs.Files.{Item, OfPiece, OfMark, file_of, is_held, is_writer}
use Rattle.node_core.specs.Steps.{is_report, is_order}
use Rattle.step_table.specs.Messages.{to_client_fits, from_store_fits, context_by}
use Rattle.step_table.specs.Row.{Row}
use Rattle.step_table.specs.ClientState.{Under, Idle, Open, AtStore, Client, Edit, edit_of, edits, stays, tells, asks_store, replies, asks, reads_head, connects}
use Rattle.step_table.specs.ClientLines.{edit_file, edit_line, read_line, opened, begin_asked, begin_other, begin_with, op_of, on_op, may_begin, reading, send_item, send_due, sends_due, file_due, unsent_in, on_flush}
use Rattle.step_table.specs.ClientTakes.{goes_on, granted, take_grant, with_found, found, take_answer, takes_answer, take_reply, take_own, may_take, having_heard, on_told, is_key, key_of, take_read, take_stored, on_stored, renewed, updated, acked, wants_bytes, asks_for}

-- a message of a client goes to the server or to the store, and is none that only those two send each other
abbrev pub goes_well : ℕ → ℕ → Message → Bool
goes_well store to (message.ToServer said) = to == 0 && not (is_report (message.ToServer said))
goes_well store to (message.ToStore order) = to == store && not (is_order (message.ToStore order))
goes_well store to (message.ToClient told) = false
goes_well store to (message.FromStore said) = false

abbrev pub is_well : ℕ → Sent → Bool
is_well store sent = goes_well store sent.to sent.message

-- a row leaves the client with this number and this store, and sends well
pub record Keeps (n s : ℕ) (row : Row Client) : Type 0 where
  pub number : row.state.number ≡ n
  pub store : row.state.store ≡ s
  pub sent : list_all (is_well s) row.sent ≡ true

-- where there is a row
abbrev pub KeepsIf : ℕ → ℕ → Option (Row Client) → Type 0
KeepsIf number store None = Unit {0}
KeepsIf number store (Some row) = Keeps number store row

same_number : (n : ℕ) → eqb n n ≡ true
same_number n = grind arith

of_bool : {X : Type 0} (P : X → Type 0) (b : Bool) (x y : X) → P x → P y → P (if b then x else y)
of_bool P true x y one other = one
of_bool P false x y one other = other

module _ (n s : ℕ) where
  -- a client with this number and this store
  record Is (c : Client) : Type 0 where
    number : c.number ≡ n
    store : c.store ≡ s

  stay : (c : Client) → Is c → Keeps n s (stays c)
  stay c is = record { number = is.number; store = is.store; sent = refl }

  told : (c : Client) (said : ToServer) → Is c → is_report (message.ToServer said) ≡ false → Keeps n s (tells c said)
  told c said is plain = record { number = is.number; store = is.store; sent = rw plain refl }

  asked : (c : Client) (order : ToStore) → Is c → is_order (message.ToStore order) ≡ false → Keeps n s (asks_store c order)
  asked c order is plain = record { number = is.number; store = is.store; sent = rw (is.store, same_number s, plain) refl }

  replied : (c : Client) (number : ℕ) (changed : Bool) (entry : ℕ) (said : Answer) → Is c → Keeps n s (replies c number changed entry said)
  replied c number changed entry said is = record { number = is.number; store = is.store; sent = refl }

  requested : (c : Client) (number : ℕ) (text : Line) (wanted : Request) → Is c → Keeps n s (asks c number text wanted)
  requested c number text wanted is = record { number = is.number; store = is.store; sent = refl }

  head_read : (c : Client) (number entry : ℕ) (ino : Ino) → Is c → Keeps n s (reads_head c number entry ino)
  head_read c number entry ino is = record { number = is.number; store = is.store; sent = rw (is.store, same_number s) refl }

  edited : (c : Client) (number : ℕ) (ino : Ino) (e : Edit) → Is c → Keeps n s (edits c number ino e)
  edited c number ino e is = record { number = is.number; store = is.store; sent = refl }

  connected : (c : Client) → Is c → Keeps n s (connects c)
  connected c is = record { number = is.number; store = is.store; sent = refl }

  -- the rows of a line
  file_edited : (c : Client) (number : ℕ) (text : Line) (e : Edit) (ino : Ino) (made : Result Change Refusal) → Is c → Keeps n s (edit_file c number text e ino made)
  file_edited c number text e ino (Err refusal) is = replied c number false 0 (answer.Refused refusal) is
  file_edited c number text e ino (Ok made) is =
      of_bool (Keeps n s) (is_writer ino c.files) _ _ (edited c number ino e is) (requested c number text _ is)

  line_edited : (c : Client) (number : ℕ) (text : Line) (e : Edit) (at : Option Handle) → Is c → Keeps n s (edit_line c number text e at)
  line_edited c number text e None is = replied c number false 0 _ is
  line_edited c number text e (Some handle) is = file_edited c number text e handle.ino (data_change (Some handle) e.ends e.change) is

  line_read : (c : Client) (number : ℕ) (text : Line) (at : Option Handle) → Is c → Keeps n s (read_line c number text at)
  line_read c number text None is = replied c number false 0 _ is
  line_read c number text (Some handle) is =
      of_bool (Keeps n s) (is_held handle.ino c.files) _ _ (head_read c number 0 handle.ino is) (requested c number text _ is)

  begun_asked : (c : Client) (number : ℕ) (text : Line) (wanted : Option Request) → Is c → Keeps n s (begin_asked c number text wanted)
  begun_asked c number text None is = stay c is
  begun_asked c number text (Some wanted) is = requested c number text wanted is

  begun_other : (c : Client) (number : ℕ) (text : Line) → Is c → Keeps n s (begin_other c number text)
  begun_other c number (line.Read handle) is = line_read c number (line.Read handle) (opened c handle) is
  begun_other c number line.Barrier is = record { number = is.number; store = is.store; sent = refl }
  begun_other c number line.Break is = record { number = is.number; store = is.store; sent = refl }
  begun_other c number (line.Mkdir path) is = begun_asked c number (line.Mkdir path) (request_of (line.Mkdir path)) is
  begun_other c number (line.Rmdir path) is = begun_asked c number (line.Rmdir path) (request_of (line.Rmdir path)) is
  begun_other c number (line.Create path mode) is = begun_asked c number (line.Create path mode) (request_of (line.Create path mode)) is
  begun_other c number (line.Unlink path) is = begun_asked c number (line.Unlink path) (request_of (line.Unlink path)) is
  begun_other c number (line.Link path target) is = begun_asked c number (line.Link path target) (request_of (line.Link path target)) is
  begun_other c number (line.Rename path target) is = begun_asked c number (line.Rename path target) (request_of (line.Rename path target)) is
  begun_other c number (line.Chmod path mode) is = begun_asked c number (line.Chmod path mode) (request_of (line.Chmod path mode)) is
  begun_other c number (line.Open handle path writable) is = begun_asked c number (line.Open handle path writable) (request_of (line.Open handle path writable)) is
  begun_other c number (line.Close handle) is = begun_asked c number (line.Close handle) (request_of (line.Close handle)) is
  begun_other c number (line.Write handle offset bytes) is = begun_asked c number (line.Write handle offset bytes) (request_of (line.Write handle offset bytes)) is
  begun_other c number (line.Truncate handle length) is = begun_asked c number (line.Truncate handle length) (request_of (line.Truncate handle length)) is
  begun_other c number (line.Cat path) is = begun_asked c number (line.Cat path) (request_of (line.Cat path)) is
  begun_other c number (line.Stat path) is = begun_asked c number (line.Stat path) (request_of (line.Stat path)) is
  begun_other c number (line.List path) is = begun_asked c number (line.List path) (request_of (line.List path)) is
  begun_other c number (line.Realm path) is = begun_asked c number (line.Realm path) (request_of (line.Realm path)) is
  begun_other c number (line.Clones path index) is = begun_asked c number (line.Clones path index) (request_of (line.Clones path index)) is

  begun_with : (c : Client) (number : ℕ) (text : Line) (e : Option Edit) → Is c → Keeps n s (begin_with c number text e)
  begun_with c number text (Some e) is = line_edited c number text e (opened c e.handle) is
  begun_with c number text None is = begun_other c number text is

  if_row : (b : Bool) (row : Row Client) → Keeps n s row → KeepsIf n s (if b then Some row else None)
  if_row true row keeps = keeps
  if_row false row keeps = tt

  op_kept : (c : Client) (lines : List Line) → Is c → KeepsIf n s (op_of c lines)
  op_kept c [] is = tt
  op_kept c (text ∷ rest) is =
      if_row (not c.frozen && may_begin c.under text) _
      (begun_with (record c { lines = rest; begun = c.begun + 1 }) (c.begun + 1) text (edit_of text) (record { number = is.number; store = is.store }))

  -- what is due
  item_sent : (c : Client) (ino : Ino) (items : List Item) → Is c → Keeps n s (send_item c ino items)
  item_sent c ino (OfPiece (piece.Put offset bytes context) ∷ items) is = asked c _ is refl
  item_sent c ino (OfPiece (piece.Cut size context) ∷ items) is = asked c _ is refl
  item_sent c ino (OfMark mark ∷ items) is = stay c is
  item_sent c ino [] is = stay c is

  due_sent : (c : Client) (unsent : List Item) (item : Due) → Is c → Keeps n s (send_due c unsent item)
  due_sent c unsent (due.Piece ino) is = item_sent c ino unsent is
  due_sent c unsent (due.Mark ino follows upto size) is = record { number = is.number; store = is.store; sent = refl }
  due_sent c unsent (due.Release ino size) is = record { number = is.number; store = is.store; sent = refl }
  due_sent c unsent (due.DropRead ino) is = record { number = is.number; store = is.store; sent = refl }

  dues_sent : (c : Client) (item : Option Due) → Is c → KeepsIf n s (sends_due c item)
  dues_sent c None is = tt
  dues_sent c (Some item) is =
      due_sent (record c { files = sent item c.files }) (unsent_in (file_of (file_due item) c.files)) item (record { number = is.number; store = is.store })

  unless_frozen : (b : Bool) (row : Option (Row Client)) → KeepsIf n s row → KeepsIf n s (if b then None else row)
  unless_frozen true row keeps = tt
  unless_frozen false row keeps = keeps

  flush_kept : (c : Client) → Is c → KeepsIf n s (on_flush c)
  flush_kept c is = unless_frozen c.frozen _ (dues_sent c (first_due (reading c.under) c.files) is)

  -- what is taken from the server
  renews : (b : Bool) (c : Client) (ino : Ino) (file : FileTrace) → Is c → Is (if b then renewed c ino (context_by file) else c)
  renews true c ino file is = record { number = is.number; store = is.store }
  renews false c ino file is = is

  updates : (c : Client) (update : List FileTrace) → Is c → Is (updated c update)
  updates c [] is = is
  updates c (file ∷ more) is = updates (if is_writer file.ino c.files then renewed c file.ino (context_by file) else c) more (renews (is_writer file.ino c.files) c file.ino file is)

  went_on : (c : Client) (number : ℕ) (ino : Ino) (e : Option Edit) → Is c → Keeps n s (goes_on c number ino e)
  went_on c number ino (Some e) is = edited c number ino e is
  went_on c number ino None is = head_read c number 0 ino is

  grant_taken : (c : Client) (tid : ℕ) (stamp : Stamp) (ino : Ino) (mode : Mode) (size : ℕ) (file : FileTrace) (under : Under) → Is c
      → Keeps n s (take_grant c tid stamp ino mode size file under)
  grant_taken c tid stamp ino mode size file (Open number open_tid text wanted let_go) is =
      of_bool (Keeps n s) (open_tid == tid && asks_for wanted ino mode && not (is_writer ino c.files)) _ _
      (went_on (granted c ino mode size stamp.snap file) number ino (edit_of text) (record { number = is.number; store = is.store })) (stay c is)
  grant_taken c tid stamp ino mode size file Idle is = stay c is
  grant_taken c tid stamp ino mode size file (AtStore number entry at head) is = stay c is

  was_found : (c : Client) (number : ℕ) (wanted : Request) (entry : ℕ) (ino : Ino) (perm : ℕ) → Is c → Keeps n s (with_found c number wanted entry ino perm)
  was_found c number wanted entry ino perm is =
      of_bool (Keeps n s) (wants_bytes wanted) _ _ (head_read c number entry ino is) (record { number = is.number; store = is.store; sent = refl })

  answer_taken : (c : Client) (number : ℕ) (text : Line) (wanted : Request) (let_go : List Ino) (stamp : Stamp) (said : Answer) → Is c
      → Keeps n s (take_answer c number text wanted let_go stamp said)
  answer_taken c number text wanted let_go stamp (answer.FoundLive ino perm size write_held) is =
      of_bool (Keeps n s) _ _ _ (record { number = is.number; store = is.store; sent = refl })
      (was_found (found c ino size stamp.snap write_held) number wanted stamp.entry ino perm (record { number = is.number; store = is.store }))
  answer_taken c number text wanted let_go stamp (answer.FoundSnap ino snap size) is = record { number = is.number; store = is.store; sent = rw (is.store, same_number s) refl }
  answer_taken c number text wanted let_go stamp (answer.FoundObject ino index) is = record { number = is.number; store = is.store; sent = rw (is.store, same_number s) refl }
  answer_taken c number text wanted let_go stamp answer.Done is = record { number = is.number; store = is.store; sent = refl }
  answer_taken c number text wanted let_go stamp (answer.Snap id) is = record { number = is.number; store = is.store; sent = refl }
  answer_taken c number text wanted let_go stamp (answer.Opened ino) is = record { number = is.number; store = is.store; sent = refl }
  answer_taken c number text wanted let_go stamp (answer.Refused refusal) is = record { number = is.number; store = is.store; sent = refl }
  answer_taken c number text wanted let_go stamp (answer.Pending client) is = record { number = is.number; store = is.store; sent = refl }
  answer_taken c number text wanted let_go stamp answer.Gone is = record { number = is.number; store = is.store; sent = refl }
  answer_taken c number text wanted let_go stamp (answer.FileBytes bytes) is = record { number = is.number; store = is.store; sent = refl }
  answer_taken c number text wanted let_go stamp (answer.StatFile mode size) is = record { number = is.number; store = is.store; sent = refl }
  answer_taken c number text wanted let_go stamp (answer.StatDir mode) is = record { number = is.number; store = is.store; sent = refl }
  answer_taken c number text wanted let_go stamp (answer.Listed entries) is = record { number = is.number; store = is.store; sent = refl }
  answer_taken c number text wanted let_go stamp (answer.RealmIs ino context) is = record { number = is.number; store = is.store; sent = refl }
  answer_taken c number text wanted let_go stamp (answer.ClonesAre list) is = record { number = is.number; store = is.store; sent = refl }

  reply_taken : (c : Client) (tid : ℕ) (stamp : Stamp) (said : Answer) (under : Under) → Is c → Keeps n s (take_reply c tid stamp said under)
  reply_taken c tid stamp said (Open number open_tid text wanted let_go) is =
      of_bool (Keeps n s) (open_tid == tid && takes_answer c said) _ _ (answer_taken c number text wanted let_go stamp said is) (stay c is)
  reply_taken c tid stamp said Idle is = stay c is
  reply_taken c tid stamp said (AtStore number entry at head) is = stay c is

  own_taken : (c : Client) (it : ToClient) → Is c → Keeps n s (take_own c it)
  own_taken c (Restarted stamp) is = connected c is
  own_taken c (Reply conn tid stamp said) is = reply_taken c tid stamp said c.under is
  own_taken c (Grant conn tid stamp ino mode size file) is = grant_taken c tid stamp ino mode size file c.under is
  own_taken c (Recall conn stamp ino) is = record { number = is.number; store = is.store; sent = refl }
  own_taken c (Notice conn stamp update) is = stay _ (updates c update is)
  own_taken c (FlushAck conn stamp number) is = record { number = is.number; store = is.store; sent = refl }
  own_taken c (Welcome conn stamp last update) is =
      stay _ (updates (acked (record c { frozen = false }) (λ k. leb k last)) update (record { number = is.number; store = is.store }))

  told_kept : (c : Client) (it : ToClient) → Is c → Keeps n s (on_told c it)
  told_kept c it is =
      let heard : Is (having_heard c it) = record { number = is.number; store = is.store } in
      of_bool (Keeps n s) (may_take c it && to_client_fits it) _ _ (own_taken (having_heard c it) it heard) (stay (having_heard c it) heard)

  -- and from the store
  read_taken : (c : Client) (said : FromStore) (under : Under) → Is c → Keeps n s (take_read c said under)
  read_taken c said (AtStore number entry ino head) is =
      of_bool (Keeps n s) (is_key number (key_of said)) _ _ (record { number = is.number; store = is.store; sent = refl }) (stay c is)
  read_taken c said Idle is = stay c is
  read_taken c said (Open number tid text wanted let_go) is = stay c is

  stored_taken : (c : Client) (said : FromStore) → Is c → Keeps n s (take_stored c said)
  stored_taken c (Stored ino) is = record { number = is.number; store = is.store; sent = refl }
  stored_taken c (Got key bytes) is = read_taken c (Got key bytes) c.under is
  stored_taken c (NotThere key) is = read_taken c (NotThere key) c.under is
  stored_taken c (CloneListIs key list) is = read_taken c (CloneListIs key list) c.under is

  stored_kept : (c : Client) (said : FromStore) → Is c → Keeps n s (on_stored c said)
  stored_kept c said is = of_bool (Keeps n s) (from_store_fits said) _ _ (stored_taken c said is) (stay c is)

of_itself : (c : Client) → Is c.number c.store c
of_itself c = record { number = refl; store = refl }

pub op_keeps : (c : Client) → KeepsIf c.number c.store (on_op c)
op_keeps c = op_kept c.number c.store c c.lines (of_itself c)

pub flush_keeps : (c : Client) → KeepsIf c.number c.store (on_flush c)
flush_keeps c = flush_kept c.number c.store c (of_itself c)

pub told_keeps : (c : Client) (it : ToClient) → Keeps c.number c.store (on_told c it)
told_keeps c it = told_kept c.number c.store c it (of_itself c)

pub stored_keeps : (c : Client) (said : FromStore) → Keeps c.number c.store (on_stored c said)
stored_keeps c said = stored_kept c.number c.store c said (of_itself c)

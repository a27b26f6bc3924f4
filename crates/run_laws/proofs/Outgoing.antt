-- What clients send goes to the server or to the store as theirs; what the store sends goes back to who asked it.
use Rattle.std.proofs.Common.{◌≡◌, ℕ, ◌+◌, List, [], ◌∷◌, Bool, true, false, cond, Option, None, Some, refl, IfSome}
use Rattle.std.specs.Prelude.{◌==◌, ◌&&◌, not, Result, Ok, Err}
use Rattle.std.specs.List.{list_any}
use Rattle.snap_ids.specs.declared.id.Ino.{Ino}
use Rattle.snap_ids.specs.declared.values.Mode.{Mode}
use Rattle.plain_types.specs.declared.answer.Answer.{Answer}
use Rattle.plain_types.specs.declared.answer.Answer.TheVariants as answer
use Rattle.plain_types.specs.declared.answer.Refusal.{Refusal}
use Rattle.plain_types.specs.declared.change.Change.{Change}
use Rattle.plain_types.specs.declared.message.FileTrace.{FileTrace}
use Rattle.plain_types.specs.declared.message.FromStore.{FromStore}
use Rattle.plain_types.specs.declared.message.FromStore.TheVariants.{Stored}
use Rattle.plain_types.specs.declared.message.Message.{Message}
use Rattle.plain_types.specs.declared.message.Message.TheVariants as message
use Rattle.plain_types.specs.declared.message.Stamp.{Stamp}
use Rattle.plain_types.specs.declared.message.ToClient.{ToClient}
use Rattle.plain_types.specs.declared.message.ToClient.TheVariants.{Reply, Grant, Recall, Notice, FlushAck, Welcome, Restarted}
use Rattle.plain_types.specs.declared.message.ToServer.{ToServer}
use Rattle.plain_types.specs.declared.message.ToStore.{ToStore}
use Rattle.plain_types.specs.declared.history.Sent.{Sent}
use Rattle.plain_types.specs.declared.request.Request.{Request}
use Rattle.plain_types.specs.declared.script.Line.{Line}
use Rattle.plain_types.specs.declared.script.Line.TheVariants as line
use Rattle.plain_tree.specs.State.{Handle}
use Rattle.plain_tree.specs.Line.{request_of, data_change}
use Rattle.held_files.specs.declared.due.Due.{Due}
use Rattle.held_files.specs.declared.due.Due.TheVariants as due
use Rattle.held_files.specs.Files.{Item, OfPiece, OfMark, is_ino, is_writer, is_held, file_of}
use Rattle.held_files.specs.Due.{first_due, sent}
use Rattle.step_table.specs.Messages.{to_client_fits, to_store_fits, from_store_fits}
use Rattle.step_table.specs.Row.{Row}
use Rattle.step_table.specs.ClientState.{Client, Under, Idle, Open, AtStore, Edit, edit_of, stays}
use Rattle.step_table.specs.ClientLines.{edit_file, edit_line, read_line, opened, begin_asked, begin_other, begin_with, begin, may_begin, op_of, on_op, reading, send_item, send_due, sends_due, unsent_in, file_due, on_flush}
use Rattle.step_table.specs.ClientTakes.{updated, goes_on, granted, asks_for, take_grant, wants_bytes, with_found, found, take_answer, takes_answer, take_reply, take_own, having_heard, may_take, on_told, is_key, key_of, take_read, take_stored, on_stored}
use Rattle.step_table.specs.StoreRows.{answers, reports, send_answers, send_reports, takes, on_asked, on_ordered}
use Rattle.run_laws.proofs.Clients.{updated_same}
use Rattle.run_laws.proofs.Sending.{AllSent}

-- a client tells the server, and asks the store
abbrev pub ByClient : ℕ → ℕ → Message → Type 0
ByClient store to (message.ToServer said) = to ≡ 0
ByClient store to (message.ToStore order) = to ≡ store
ByClient store to other = ⊥

-- a row that sends so, and keeps the store's number
pub record Goes (c : Client) (r : Row Client) : Type 0 where
  pub store : r.state.store ≡ c.store
  pub all : AllSent (ByClient c.store) r.sent

goes_if : (c : Client) (b : Bool) (x y : Row Client) → Goes c x → Goes c y → Goes c (cond b x y)
goes_if c true x y here other = here
goes_if c false x y here other = other

-- it sends nothing, or one message
stays_goes : (c : Client) → Goes c (stays c)
stays_goes c = record { store = refl; all = tt }

-- a line is begun
edit_goes : (c : Client) (number : ℕ) (text : Line) (e : Edit) (ino : Ino) (o : Result Change Refusal) → Goes c (edit_file c number text e ino o)
edit_goes c number text e ino (Err refusal) = record { store = refl; all = tt }
edit_goes c number text e ino (Ok made) = goes_if c (is_writer ino c.files) _ _ (record { store = refl; all = tt }) (record { store = refl; all = (refl, tt) })

edit_line_goes : (c : Client) (number : ℕ) (text : Line) (e : Edit) (o : Option Handle) → Goes c (edit_line c number text e o)
edit_line_goes c number text e None = record { store = refl; all = tt }
edit_line_goes c number text e (Some h) = edit_goes c number text e h.ino (data_change (Some h) e.ends e.change)

read_goes : (c : Client) (number : ℕ) (text : Line) (o : Option Handle) → Goes c (read_line c number text o)
read_goes c number text None = record { store = refl; all = tt }
read_goes c number text (Some h) = goes_if c (is_held h.ino c.files) _ _ (record { store = refl; all = (refl, tt) }) (record { store = refl; all = (refl, tt) })

asked_goes : (c : Client) (number : ℕ) (text : Line) (o : Option Request) → Goes c (begin_asked c number text o)
asked_goes c number text None = record { store = refl; all = tt }
asked_goes c number text (Some asked) = record { store = refl; all = (refl, tt) }

other_goes : (c : Client) (number : ℕ) (text : Line) → Goes c (begin_other c number text)
other_goes c number (line.Read handle) = read_goes c number (line.Read handle) (opened c handle)
other_goes c number line.Barrier = record { store = refl; all = (refl, tt) }
other_goes c number line.Break = record { store = refl; all = (refl, tt) }
other_goes c number text = asked_goes c number text (request_of text)

begin_goes : (c : Client) (number : ℕ) (text : Line) (o : Option Edit) → Goes c (begin_with c number text o)
begin_goes c number text (Some e) = edit_line_goes c number text e (opened c e.handle)
begin_goes c number text None = other_goes c number text

pub op_goes : (c : Client) → IfSome (on_op c) (Goes c)
op_goes c = by_lines c.lines
  where
    by_test : (b : Bool) (rest : List Line) (text : Line) → IfSome (cond b (Some (begin (record c { lines = rest; begun = c.begun + 1 }) (c.begun + 1) text)) None) (Goes c)
    by_test true rest text = let q = begin_goes (record c { lines = rest; begun = c.begun + 1 }) (c.begun + 1) text (edit_of text) in record { store = q.store; all = q.all }
    by_test false rest text = tt

    by_lines : (lines : List Line) → IfSome (op_of c lines) (Goes c)
    by_lines [] = tt
    by_lines (text ∷ rest) = by_test (not c.frozen && may_begin c.under text) rest text

-- what is due is sent
item_goes : (c : Client) (ino : Ino) (items : List Item) → Goes c (send_item c ino items)
item_goes c ino [] = record { store = refl; all = tt }
item_goes c ino (OfPiece p ∷ items) = record { store = refl; all = (refl, tt) }
item_goes c ino (OfMark m ∷ items) = record { store = refl; all = tt }

due_goes : (c : Client) (unsent : List Item) (item : Due) → Goes c (send_due c unsent item)
due_goes c unsent (due.Piece ino) = item_goes c ino unsent
due_goes c unsent (due.Mark ino follows upto size) = record { store = refl; all = (refl, tt) }
due_goes c unsent (due.Release ino size) = record { store = refl; all = (refl, tt) }
due_goes c unsent (due.DropRead ino) = record { store = refl; all = (refl, tt) }

pub flush_goes : (c : Client) → IfSome (on_flush c) (Goes c)
flush_goes c = by_test c.frozen
  where
    by_due : (o : Option Due) → IfSome (sends_due c o) (Goes c)
    by_due None = tt
    by_due (Some item) = let q = due_goes (record c { files = sent item c.files }) (unsent_in (file_of (file_due item) c.files)) item in record { store = q.store; all = q.all }

    by_test : (b : Bool) → IfSome (cond b None (sends_due c (first_due (reading c.under) c.files))) (Goes c)
    by_test true = tt
    by_test false = by_due (first_due (reading c.under) c.files)

-- what the server says is taken
grant_goes : (c : Client) (tid : ℕ) (stamp : Stamp) (ino : Ino) (mode : Mode) (size : ℕ) (file : FileTrace) (under : Under) → Goes c (take_grant c tid stamp ino mode size file under)
grant_goes c tid stamp ino mode size file Idle = stays_goes c
grant_goes c tid stamp ino mode size file (AtStore number entry other head) = stays_goes c
grant_goes c tid stamp ino mode size file (Open number open_tid text asked let_go) =
    goes_if c (open_tid == tid && asks_for asked ino mode && not (is_writer ino c.files)) _ (stays c) (on (edit_of text)) (stays_goes c)
  where
    on : (o : Option Edit) → Goes c (goes_on (granted c ino mode size stamp.snap file) number ino o)
    on None = record { store = refl; all = (refl, tt) }
    on (Some e) = record { store = refl; all = tt }

found_goes : (c : Client) (number : ℕ) (asked : Request) (entry : ℕ) (ino : Ino) (perm : ℕ) → Goes c (with_found c number asked entry ino perm)
found_goes c number asked entry ino perm = goes_if c (wants_bytes asked) _ _ (record { store = refl; all = (refl, tt) }) (record { store = refl; all = tt })

answer_goes : (c : Client) (number : ℕ) (text : Line) (asked : Request) (let_go : List Ino) (stamp : Stamp) (said : Answer) → Goes c (take_answer c number text asked let_go stamp said)
answer_goes c number text asked let_go stamp (answer.FoundLive ino perm size write_held) = goes_if c (list_any (is_ino ino) let_go) _ _
    (record { store = refl; all = (refl, (refl, tt)) })
    (let q = found_goes (found c ino size stamp.snap write_held) number asked stamp.entry ino perm in record { store = q.store; all = q.all })
answer_goes c number text asked let_go stamp (answer.FoundSnap ino snap size) = record { store = refl; all = (refl, tt) }
answer_goes c number text asked let_go stamp (answer.FoundObject ino index) = record { store = refl; all = (refl, tt) }
answer_goes c number text asked let_go stamp said = record { store = refl; all = tt }

reply_goes : (c : Client) (tid : ℕ) (stamp : Stamp) (said : Answer) (under : Under) → Goes c (take_reply c tid stamp said under)
reply_goes c tid stamp said Idle = stays_goes c
reply_goes c tid stamp said (AtStore number entry ino head) = stays_goes c
reply_goes c tid stamp said (Open number open_tid text asked let_go) = goes_if c (open_tid == tid && takes_answer c said) _ (stays c) (answer_goes c number text asked let_go stamp said) (stays_goes c)

updated_goes : (c : Client) (update : List FileTrace) → (updated c update).store ≡ c.store
updated_goes c update = updated_same (λ (v : Client). v.store) (λ v ino new. refl) update c

own_goes : (c : Client) (m : ToClient) → Goes c (take_own c m)
own_goes c (Restarted st) = record { store = refl; all = (refl, tt) }
own_goes c (Reply conn tid st said) = reply_goes c tid st said c.under
own_goes c (Grant conn tid st ino mode size file) = grant_goes c tid st ino mode size file c.under
own_goes c (Recall conn st ino) = record { store = refl; all = tt }
own_goes c (Notice conn st update) = record { store = updated_goes c update; all = tt }
own_goes c (FlushAck conn st number) = record { store = refl; all = tt }
own_goes c (Welcome conn st last update) = record { store = updated_goes _ update; all = tt }

pub told_goes : (c : Client) (m : ToClient) → Goes c (on_told c m)
told_goes c m = goes_if c (may_take c m && to_client_fits m) _ _
    (let q = own_goes (having_heard c m) m in record { store = q.store; all = q.all }) (record { store = refl; all = tt })

-- what the store says is taken
read_goes_on : (c : Client) (said : FromStore) (under : Under) → Goes c (take_read c said under)
read_goes_on c said Idle = stays_goes c
read_goes_on c said (Open number tid text asked let_go) = stays_goes c
read_goes_on c said (AtStore number entry ino head) = goes_if c (is_key number (key_of said)) _ (stays c) (record { store = refl; all = tt }) (stays_goes c)

pub stored_goes : (c : Client) (said : FromStore) → Goes c (on_stored c said)
stored_goes c said = goes_if c (from_store_fits said) (take_stored c said) (stays c) (by_said said) (stays_goes c)
  where
    by_said : (said : FromStore) → Goes c (take_stored c said)
    by_said (Stored ino) = record { store = refl; all = tt }
    by_said said = read_goes_on c said c.under

-- the store answers a client at its own number, and reports to the server
abbrev pub ByStore : ℕ → Message → Type 0
ByStore to (message.FromStore said) = (to == 0) ≡ false
ByStore to (message.ToServer said) = to ≡ 0
ByStore to other = ⊥

answers_go : (x : ℕ) → (x == 0) ≡ false → (list : List FromStore) → AllSent ByStore (send_answers x list)
answers_go x other [] = tt
answers_go x other (said ∷ list) = (other, answers_go x other list)

reports_go : (list : List ToServer) → AllSent ByStore (send_reports list)
reports_go [] = tt
reports_go (said ∷ list) = (refl, reports_go list)

taken_goes : (taken : List ToStore) (order : ToStore) (list : List Sent) → AllSent ByStore list → AllSent ByStore (takes taken order list).sent
taken_goes taken order [] all = tt
taken_goes taken order (said ∷ list) all = all

abbrev StoreGoes : Row (List ToStore) → Type 0
StoreGoes r = AllSent ByStore r.sent

store_if : (b : Bool) (x y : Row (List ToStore)) → StoreGoes x → StoreGoes y → StoreGoes (cond b x y)
store_if true x y here other = here
store_if false x y here other = other

pub asked_of_store : (object : ℕ) (taken : List ToStore) (x : ℕ) (order : ToStore) → (x == 0) ≡ false → AllSent ByStore (on_asked object taken x order).sent
asked_of_store object taken x order other = store_if (to_store_fits order) (takes taken order (send_answers x (answers object taken order))) _
    (taken_goes taken order (send_answers x (answers object taken order)) (answers_go x other (answers object taken order))) tt

pub ordered_of_store : (taken : List ToStore) (order : ToStore) → AllSent ByStore (on_ordered taken order).sent
ordered_of_store taken order = store_if (to_store_fits order) (takes taken order (send_reports (reports order))) _ (taken_goes taken order (send_reports (reports order)) (reports_go (reports order))) tt

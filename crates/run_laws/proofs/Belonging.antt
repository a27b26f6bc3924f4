-- An open request for a capability belongs to its line, along each run.
use Rattle.std.proofs.Common.{◌≡◌, ℕ, ◌+◌, List, [], ◌∷◌, Bool, true, false, cond, Option, None, Some, refl, sym, subst, IfSome}
use Rattle.std.specs.Prelude.{◌==◌, ◌&&◌, not, nat_le, Result, Ok, Err}
use Rattle.std.specs.List.{list_any}
use Rattle.snap_ids.specs.declared.id.Ino.{Ino}
use Rattle.snap_ids.specs.declared.values.Mode.{Mode}
use Rattle.snap_ids.specs.declared.values.Mode.TheVariants.{Read, Write}
use Rattle.plain_types.specs.declared.answer.Answer.{Answer}
use Rattle.plain_types.specs.declared.answer.Answer.TheVariants as answer
use Rattle.plain_types.specs.declared.answer.Refusal.{Refusal}
use Rattle.plain_types.specs.declared.answer.Refusal.TheVariants.{ReadOnly, TooLarge}
use Rattle.plain_types.specs.declared.change.Change.{Change}
use Rattle.plain_types.specs.declared.history.Event.{Event}
use Rattle.plain_types.specs.declared.message.FileTrace.{FileTrace}
use Rattle.plain_types.specs.declared.message.FromStore.{FromStore}
use Rattle.plain_types.specs.declared.message.FromStore.TheVariants.{Got, NotThere, CloneListIs, Stored}
use Rattle.plain_types.specs.declared.message.Stamp.{Stamp}
use Rattle.plain_types.specs.declared.message.ToClient.{ToClient}
use Rattle.plain_types.specs.declared.message.ToClient.TheVariants.{Reply, Grant, Recall, Notice, FlushAck, Welcome, Restarted}
use Rattle.plain_types.specs.declared.request.Request.{Request}
use Rattle.plain_types.specs.declared.request.Request.TheVariants as request
use Rattle.plain_types.specs.declared.script.Line.{Line}
use Rattle.plain_types.specs.declared.script.Line.TheVariants as line
use Rattle.plain_types.specs.declared.script.Script.{Script}
use Rattle.plain_tree.specs.State.{Handle}
use Rattle.plain_tree.specs.Change.{is_too_large}
use Rattle.plain_tree.specs.Line.{request_of, data_change}
use Rattle.held_files.specs.Files.{Item, OfPiece, OfMark, file_of, is_writer, is_held, is_ino}
use Rattle.held_files.specs.declared.due.Due.{Due}
use Rattle.held_files.specs.declared.due.Due.TheVariants as due
use Rattle.held_files.specs.Due.{first_due, sent}
use Rattle.step_table.specs.Messages.{to_client_fits, from_store_fits}
use Rattle.step_table.specs.Row.{Row}
use Rattle.step_table.specs.ClientState.{Client, Under, Idle, Open, AtStore, Edit, edit_of, stays, asks, edits, reads_head, replies, sent_again, connects}
use Rattle.step_table.specs.ClientLines.{edit_file, edit_line, read_line, opened, begin_asked, begin_other, begin_with, begin, may_begin, op_of, on_flush, send_item, send_due, sends_due, unsent_in, file_due, reading, with_let_go}
use Rattle.step_table.specs.ClientTakes.{having_heard, may_take, goes_on, granted, asks_for, take_grant, with_found, found, asks_anew, take_answer, takes_answer, take_reply, take_own, wants_bytes, updated, acked, on_told, key_of, is_key, store_answer, take_read, take_stored, on_stored}
use Rattle.step_table.specs.World.{start}
use Rattle.run_laws.specs.Moments.{steps_of, world_after}
use Rattle.run_laws.specs.Links.{EachClient}
use Rattle.run_laws.specs.OpenLines.{IsOf, Writes, EditsFile, ReadsFile, BelongsTo, BelongsUnder, OfItsLine}
use Rattle.run_laws.proofs.Clients.{updated_same}
use Rattle.run_laws.proofs.Linked.{at_start}
use Rattle.run_laws.proofs.Views.{run_keeps}
use Rattle.run_laws.proofs.ViewActs.{KeptViews, AnyOf, all_fit, rows_of_acts}

abbrev Mine : Client → Type 0
Mine c = BelongsUnder c c.under

mine_if : (b : Bool) (x y : Row Client) → Mine x.state → Mine y.state → Mine (cond b x y).state
mine_if true x y here other = here
mine_if false x y here other = other

-- what a client has open and its number are the same
abbrev SameHandles : Client → Client → Type 0
SameHandles c d = (d.handles ≡ c.handles) × (d.number ≡ c.number)

same_belongs : (c d : Client) (under : Under) → SameHandles c d → BelongsUnder c under → BelongsUnder d under
same_belongs c d Idle same is = tt
same_belongs c d (AtStore number entry ino head) same is = tt
same_belongs c d (Open number tid text asked let_go) same is = by_request asked is
  where
    by_handle : (handle : ℕ) → opened d handle ≡ opened c handle
    by_handle handle = rw (same.0, same.1) refl

    by_edit : (ino : Ino) (o : Option Edit) → EditsFile c ino o → EditsFile d ino o
    by_edit ino None is = is
    by_edit ino (Some e) is = subst (Writes ino) (sym (by_handle e.handle)) is

    by_read : (ino : Ino) (text : Line) → ReadsFile c ino text → ReadsFile d ino text
    by_read ino (line.Read handle) is = subst (IsOf ino) (sym (by_handle handle)) is
    by_read ino text is = absurd is

    by_request : (asked : Request) → BelongsTo c text asked → BelongsTo d text asked
    by_request (request.Cap ino Write) is = by_edit ino (edit_of text) is
    by_request (request.Cap ino Read) is = by_read ino text is
    by_request asked is = tt

again_belongs : (c : Client) (under : Under) → BelongsUnder c under → BelongsUnder c (sent_again under)
again_belongs c Idle is = tt
again_belongs c (AtStore number entry ino head) is = tt
again_belongs c (Open number tid text asked let_go) is = is

let_go_belongs : (c : Client) (ino : Ino) (under : Under) → BelongsUnder c under → BelongsUnder c (with_let_go ino under)
let_go_belongs c ino Idle is = tt
let_go_belongs c ino (AtStore number entry file head) is = tt
let_go_belongs c ino (Open number tid text asked let_go) is = is

connects_mine : (c : Client) → Mine c → Mine (connects c).state
connects_mine c is = same_belongs c (connects c).state (sent_again c.under) (refl, refl) (again_belongs c c.under is)

-- a line is begun
data_writable : (h : Handle) (size : ℕ) (made by : Change) → data_change (Some h) size made ≡ Ok by → h.writable ≡ true
data_writable h size made by is = by_test h.writable refl is
  where
    by_test : (b : Bool) → h.writable ≡ b → cond (not b) (Err ReadOnly) (cond (is_too_large size) (Err TooLarge) (Ok made)) ≡ Ok by → h.writable ≡ true
    by_test true writable is = writable
    by_test false writable is = cc

edit_mine : (c : Client) (number : ℕ) (text : Line) (e : Edit) (h : Handle) → edit_of text ≡ Some e → opened c e.handle ≡ Some h → Mine c → (o : Result Change Refusal) → ((made : Change) → o ≡ Ok made → h.writable ≡ true) → Mine (edit_file c number text e h.ino o).state
edit_mine c number text e h is at mine (Err refusal) writes = mine
edit_mine c number text e h is at mine (Ok made) writes = mine_if (is_writer h.ino c.files) (edits c number h.ino e) (asks c number text (request.Cap h.ino Write)) tt
    (subst (EditsFile (asks c number text (request.Cap h.ino Write)).state h.ino) (sym is) (subst (Writes h.ino) (sym at) (refl, writes made refl)))

edit_line_mine : (c : Client) (number : ℕ) (text : Line) (e : Edit) → edit_of text ≡ Some e → Mine c → (o : Option Handle) → opened c e.handle ≡ o → Mine (edit_line c number text e o).state
edit_line_mine c number text e is mine None at = mine
edit_line_mine c number text e is mine (Some h) at = edit_mine c number text e h is at mine (data_change (Some h) e.ends e.change) (λ made so. data_writable h e.ends e.change made so)

read_mine : (c : Client) (number handle : ℕ) → Mine c → (o : Option Handle) → opened c handle ≡ o → Mine (read_line c number (line.Read handle) o).state
read_mine c number handle mine None at = mine
read_mine c number handle mine (Some h) at = mine_if (is_held h.ino c.files) (reads_head c number 0 h.ino) (asks c number (line.Read handle) (request.Cap h.ino Read)) tt (subst (IsOf h.ino) (sym at) refl)

other_mine : (c : Client) (number : ℕ) (text : Line) → Mine c → Mine (begin_other c number text).state
other_mine c number (line.Read handle) mine = read_mine c number handle mine (opened c handle) refl
other_mine c number line.Barrier mine = tt
other_mine c number line.Break mine = connects_mine c mine
other_mine c number text mine = by_line text
  where
    by_line : (text : Line) → Mine (begin_asked c number text (request_of text)).state
    by_line (line.Mkdir path) = tt
    by_line (line.Rmdir path) = tt
    by_line (line.Create path mode) = tt
    by_line (line.Unlink path) = tt
    by_line (line.Link path target) = tt
    by_line (line.Rename path target) = tt
    by_line (line.Chmod path mode) = tt
    by_line (line.Open handle path writable) = tt
    by_line (line.Close handle) = tt
    by_line (line.Cat path) = tt
    by_line (line.Stat path) = tt
    by_line (line.List path) = tt
    by_line (line.Realm path) = tt
    by_line (line.Clones path index) = tt
    by_line text = mine

with_mine : (c : Client) (number : ℕ) (text : Line) → Mine c → (o : Option Edit) → edit_of text ≡ o → Mine (begin_with c number text o).state
with_mine c number text mine (Some e) is = edit_line_mine c number text e is mine (opened c e.handle) refl
with_mine c number text mine None is = other_mine c number text mine

op_mine : (c : Client) (lines : List Line) → Mine c → IfSome (op_of c lines) (λ r. Mine r.state)
op_mine c [] mine = tt
op_mine c (text ∷ rest) mine = by_test (not c.frozen && may_begin c.under text)
  where
    now : Client
    now = record c { lines = rest; begun = c.begun + 1 }

    by_test : (b : Bool) → IfSome (cond b (Some (begin now (c.begun + 1) text)) None) (λ r. Mine r.state)
    by_test true = with_mine now (c.begun + 1) text (same_belongs c now c.under (refl, refl) mine) (edit_of text) refl
    by_test false = tt

-- an answer is taken
grant_mine : (c : Client) (tid : ℕ) (stamp : Stamp) (ino : Ino) (mode : Mode) (size : ℕ) (file : FileTrace) (under : Under) → Mine c → Mine (take_grant c tid stamp ino mode size file under).state
grant_mine c tid stamp ino mode size file Idle mine = mine
grant_mine c tid stamp ino mode size file (AtStore number entry other head) mine = mine
grant_mine c tid stamp ino mode size file (Open number open_tid text asked let_go) mine =
    mine_if (open_tid == tid && asks_for asked ino mode && not (is_writer ino c.files)) (goes_on (granted c ino mode size stamp.snap file) number ino (edit_of text)) (stays c) (by_edit (edit_of text)) mine
  where
    by_edit : (o : Option Edit) → Mine (goes_on (granted c ino mode size stamp.snap file) number ino o).state
    by_edit (Some e) = tt
    by_edit None = tt

answer_mine : (c : Client) (number tid : ℕ) (text : Line) (asked : Request) (let_go : List Ino) (stamp : Stamp) (said : Answer) → BelongsTo c text asked → Mine (take_answer c number text asked let_go stamp said).state
answer_mine c number tid text asked let_go stamp (answer.FoundLive ino perm size write_held) is = mine_if (list_any (is_ino ino) let_go) (asks_anew c number text asked ino) (with_found (found c ino size stamp.snap write_held) number asked stamp.entry ino perm)
    (same_belongs c (asks_anew c number text asked ino).state (Open number (c.tid + 1) text asked []) (refl, refl) is) (by_wants (wants_bytes asked) refl)
  where
    by_wants : (b : Bool) → wants_bytes asked ≡ b → Mine (with_found (found c ino size stamp.snap write_held) number asked stamp.entry ino perm).state
    by_wants true test = rw test tt
    by_wants false test = rw test tt
answer_mine c number tid text asked let_go stamp (answer.FoundSnap ino snap size) is = tt
answer_mine c number tid text asked let_go stamp (answer.FoundObject ino index) is = tt
answer_mine c number tid text asked let_go stamp said is = tt

reply_mine : (c : Client) (tid : ℕ) (stamp : Stamp) (said : Answer) (under : Under) → BelongsUnder c under → Mine c → Mine (take_reply c tid stamp said under).state
reply_mine c tid stamp said Idle is mine = mine
reply_mine c tid stamp said (AtStore number entry ino head) is mine = mine
reply_mine c tid stamp said (Open number open_tid text asked let_go) is mine = mine_if (open_tid == tid && takes_answer c said) (take_answer c number text asked let_go stamp said) (stays c) (answer_mine c number open_tid text asked let_go stamp said is) mine

updated_mine : (c : Client) (update : List FileTrace) → Mine c → Mine (updated c update)
updated_mine c update mine = subst (BelongsUnder (updated c update)) (sym (updated_same (λ (v : Client). v.under) (λ v ino new. refl) update c))
    (same_belongs c (updated c update) c.under (updated_same (λ (v : Client). v.handles) (λ v ino new. refl) update c, updated_same (λ (v : Client). v.number) (λ v ino new. refl) update c) mine)

heard_mine : (c : Client) (m : ToClient) → Mine c → Mine (having_heard c m)
heard_mine c m mine = same_belongs c (having_heard c m) c.under (refl, refl) mine

own_mine : (c : Client) (m : ToClient) → Mine c → Mine (take_own c m).state
own_mine c (Restarted stamp) mine = connects_mine c mine
own_mine c (Reply conn tid stamp said) mine = reply_mine c tid stamp said c.under mine mine
own_mine c (Grant conn tid stamp ino mode size file) mine = grant_mine c tid stamp ino mode size file c.under mine
own_mine c (Recall conn stamp ino) mine = same_belongs c (take_own c (Recall conn stamp ino)).state c.under (refl, refl) mine
own_mine c (Notice conn stamp update) mine = updated_mine c update mine
own_mine c (FlushAck conn stamp number) mine = same_belongs c (take_own c (FlushAck conn stamp number)).state c.under (refl, refl) mine
own_mine c (Welcome conn stamp last update) mine = let d = acked (record c { frozen = false }) (λ n. nat_le n last) in updated_mine d update (same_belongs c d c.under (refl, refl) mine)

told_mine : (c : Client) (m : ToClient) → Mine c → Mine (on_told c m).state
told_mine c m mine = mine_if (may_take c m && to_client_fits m) (take_own (having_heard c m) m) (stays (having_heard c m)) (own_mine (having_heard c m) m (heard_mine c m mine)) (heard_mine c m mine)

-- the store's answer
read_taken : (c : Client) (said : FromStore) (under : Under) → Mine c → Mine (take_read c said under).state
read_taken c said Idle mine = mine
read_taken c said (Open number tid text asked let_go) mine = mine
read_taken c said (AtStore number entry ino head) mine = mine_if (is_key number (key_of said)) (replies (record c { under = Idle }) number false entry (store_answer c ino head said)) (stays c) tt mine

stored_taken : (c : Client) (said : FromStore) → Mine c → Mine (take_stored c said).state
stored_taken c (Stored ino) mine = same_belongs c (take_stored c (Stored ino)).state c.under (refl, refl) mine
stored_taken c (Got key bytes) mine = read_taken c (Got key bytes) c.under mine
stored_taken c (NotThere key) mine = read_taken c (NotThere key) c.under mine
stored_taken c (CloneListIs key list) mine = read_taken c (CloneListIs key list) c.under mine

stored_mine : (c : Client) (said : FromStore) → Mine c → Mine (on_stored c said).state
stored_mine c said mine = mine_if (from_store_fits said) (take_stored c said) (stays c) (stored_taken c said mine) mine

-- what is due is sent
item_mine : (c : Client) (ino : Ino) (items : List Item) → Mine c → Mine (send_item c ino items).state
item_mine c ino [] mine = mine
item_mine c ino (OfPiece p ∷ items) mine = mine
item_mine c ino (OfMark m ∷ items) mine = mine

due_mine : (c : Client) (unsent : List Item) (item : Due) → Mine c → Mine (send_due c unsent item).state
due_mine c unsent (due.Piece ino) mine = item_mine c ino unsent mine
due_mine c unsent (due.Mark ino follows upto size) mine = same_belongs c (send_due c unsent (due.Mark ino follows upto size)).state c.under (refl, refl) mine
due_mine c unsent (due.Release ino size) mine = same_belongs c (send_due c unsent (due.Release ino size)).state (with_let_go ino c.under) (refl, refl) (let_go_belongs c ino c.under mine)
due_mine c unsent (due.DropRead ino) mine = same_belongs c (send_due c unsent (due.DropRead ino)).state (with_let_go ino c.under) (refl, refl) (let_go_belongs c ino c.under mine)

flush_mine : (c : Client) → Mine c → IfSome (on_flush c) (λ r. Mine r.state)
flush_mine c mine = by_test c.frozen
  where
    by_due : (o : Option Due) → IfSome (sends_due c o) (λ r. Mine r.state)
    by_due None = tt
    by_due (Some item) = let d = record c { files = sent item c.files } in due_mine d (unsent_in (file_of (file_due item) c.files)) item (same_belongs c d c.under (refl, refl) mine)

    by_test : (b : Bool) → IfSome (cond b None (sends_due c (first_due (reading c.under) c.files))) (λ r. Mine r.state)
    by_test true = tt
    by_test false = by_due (first_due (reading c.under) c.files)

-- the server changes nothing of it
pub of_its_line : KeptViews AnyOf OfItsLine OfItsLine
of_its_line = record {
  op = λ n c up down s mine. op_mine c c.lines mine;
  flush = λ n c up down s mine. flush_mine c mine;
  told = λ n c up m down s mine. told_mine c m mine;
  stored = λ n c m up down s mine. stored_mine c m mine;
  one = λ n c up down s a fit mine. mine;
  pops = λ n c m up down s mine. mine;
  accepts = λ n c conn said flushes asked up down s mine. mine;
  accepts_other = λ n x c conn asked up down s other mine. mine;
  asks = λ n c conn tid asked up down s is mine. mine;
  asks_other = λ n x c tid asked up down s other mine. mine;
  hands = λ n c up down s mine. mine;
  durable = λ n c up down s mine. mine;
  survives = λ n c up down s k fits mine. mine;
}

pub line_law : (script : Script) (history : List Event) → EachClient OfItsLine (world_after script history)
line_law script history = run_keeps OfItsLine (rows_of_acts OfItsLine of_its_line (all_fit OfItsLine)) (start script) (steps_of history) (at_start OfItsLine script (λ n is. tt))

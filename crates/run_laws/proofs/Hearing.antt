-- What a client hears is stamped with durable entries, and the stamps never fall, along each run.
use Rattle.std.proofs.Common.{◌≡◌, ◌≤◌, ℕ, ◌+◌, List, [], ◌∷◌, ◌++◌, length, take, Bool, true, false, not, cond, Option, None, Some, refl, sym, ap, ◌∙◌, subst, IfSome, arith, ◌<◌, ◌≢◌, true≢false, map}
use Rattle.std.proofs.lemmas.List.{length-take-le}
use Rattle.std.specs.Prelude.{◌==◌, ◌&&◌, nat_le, Result, Ok, Err, nat_lt, is_none, ◌||◌}
use Rattle.std.specs.List.{list_any, cons_option}
use Rattle.snap_ids.specs.declared.id.TheConstants.{NOSNAP}
use Rattle.snap_ids.specs.declared.id.Ino.{Ino}
use Rattle.snap_ids.specs.declared.values.Mode.{Mode}
use Rattle.snap_ids.specs.declared.values.Mode.TheVariants.{Read, Write}
use Rattle.plain_types.specs.declared.answer.Answer.{Answer}
use Rattle.plain_types.specs.declared.answer.Answer.TheVariants as answer
use Rattle.plain_types.specs.declared.answer.Refusal.{Refusal}
use Rattle.plain_types.specs.declared.change.Change.{Change}
use Rattle.plain_types.specs.declared.entry.Entry.{Entry}
use Rattle.plain_types.specs.declared.history.Event.{Event}
use Rattle.plain_types.specs.declared.history.Sent.{Sent}
use Rattle.plain_types.specs.declared.message.FileTrace.{FileTrace}
use Rattle.plain_types.specs.declared.message.FromStore.{FromStore}
use Rattle.plain_types.specs.declared.message.FromStore.TheVariants.{Got, NotThere, CloneListIs, Stored}
use Rattle.plain_types.specs.declared.message.Message.{Message}
use Rattle.plain_types.specs.declared.message.Message.TheVariants as message
use Rattle.plain_types.specs.declared.message.Stamp.{Stamp}
use Rattle.plain_types.specs.declared.message.ToClient.{ToClient}
use Rattle.plain_types.specs.declared.message.ToClient.TheVariants.{Reply, Grant, Recall, Notice, FlushAck, Welcome, Restarted}
use Rattle.plain_types.specs.declared.message.ToServer.{ToServer}
use Rattle.plain_types.specs.declared.request.Request.{Request}
use Rattle.plain_types.specs.declared.request.Request.TheVariants as request
use Rattle.plain_types.specs.declared.script.Line.{Line}
use Rattle.plain_types.specs.declared.script.Line.TheVariants as line
use Rattle.plain_types.specs.declared.script.Script.{Script}
use Rattle.plain_tree.specs.History.{stamp_of}
use Rattle.plain_tree.specs.State.{Handle}
use Rattle.plain_tree.specs.Line.{request_of, data_change}
use Rattle.plain_journal.specs.Entries.{applied}
use Rattle.held_files.specs.declared.due.Due.{Due}
use Rattle.held_files.specs.declared.due.Due.TheVariants as due
use Rattle.held_files.specs.Due.{first_due, sent}
use Rattle.held_files.specs.Files.{Item, OfPiece, OfMark, file_of, is_ino, is_held, is_writer}
use Rattle.step_table.specs.Messages.{to_client_fits, from_store_fits}
use Rattle.step_table.specs.Row.{Row}
use Rattle.step_table.specs.ServerState.{Server, number_of}
use Rattle.step_table.specs.ServerRows.{on_take, on_report, on_commit, on_restart, on_tend}
use Rattle.step_table.specs.ClientState.{Client, Heard, Under, Idle, Open, AtStore, Edit, edit_of, stays, asks, edits, reads_head, replies, new_client}
use Rattle.step_table.specs.ClientLines.{edit_file, edit_line, read_line, opened, begin_asked, begin_other, begin_with, begin, may_begin, op_of, on_op, on_flush, send_item, send_due, sends_due, unsent_in, file_due, reading}
use Rattle.step_table.specs.ClientTakes.{is_own, having_heard, may_take, goes_on, granted, asks_for, take_grant, with_found, found, asks_anew, wants_bytes, take_answer, takes_answer, take_reply, take_own, acked, on_told, key_of, is_key, store_answer, take_read, take_stored, on_stored, conn_of}
use Rattle.step_table.specs.World.{start, to_clients, told_to, lines_of}
use Rattle.std.proofs.lemmas.Bool.Decides.{nat_tests}
use Rattle.run_laws.proofs.ViewActs.{rows_of_acts, all_fit}
use Rattle.run_laws.proofs.Taking.{KeptBefore, joined, alone}
use Rattle.run_laws.proofs.Link.{flowing}
use Rattle.run_laws.proofs.Lending.{Opens, op_opens}
use Rattle.run_laws.specs.Links.{View, EachClient, mine, Offer, offer, mark, IsNow, mail_of}
use Rattle.run_laws.specs.Moments.{steps_of, world_after}
use Rattle.run_laws.specs.Stamps.{told_by, entry_of, StampsRise, HearsRising, HearsOwn, WillHearRising}
use Rattle.run_laws.proofs.Clients.{updated_same, store_hidden, flush_acts, Keeps as FlushActs}
use Rattle.run_laws.proofs.Growing.{Begins, begins_gives, take_take}
use Rattle.run_laws.proofs.Linked.{at_start, each_part, OpenLinked, linked, first_link}
use Rattle.run_laws.proofs.Mail.{Mailed, GoneAt, Gone, HandedOut, mailed_gives, MadeAt, Waiting}
use Rattle.run_laws.proofs.Stamped.{start_mailed}
use Rattle.run_laws.proofs.Views.{Client's, Server's, KeptByRows, run_keeps}

-- rising stamps
rise_lower : (entries : List Entry) (low least high : ℕ) (p : List ToClient) → least ≤ low → StampsRise entries low high p → StampsRise entries least high p
rise_lower entries low least high [] less all = omega (arith, less, all)
rise_lower entries low least high (m ∷ p) less all = (let more = all.0 in omega (arith, less, more), all.1, all.2, all.3)

-- other entries, and more of them durable, where the first ones are the same
rise_more : (entries more : List Entry) (low high most : ℕ) (p : List ToClient) → high ≤ most → ((k : ℕ) → k ≤ high → take k more ≡ take k entries) → StampsRise entries low high p → StampsRise more low most p
rise_more entries more low high most [] less same all = omega (arith, less, all)
rise_more entries more low high most (m ∷ p) less same all = (
  all.0,
  (let few = all.1 in omega (arith, few, less)),
  all.2 ∙ ap applied (sym (same (entry_of m) all.1)),
  rise_more entries more (entry_of m) high most p less same all.3,
)

-- what goes comes behind
rise_append : (entries : List Entry) (low middle high : ℕ) (p q : List ToClient) → StampsRise entries low middle p → StampsRise entries middle high q → middle ≤ high → StampsRise entries low high (p ++ q)
rise_append entries low middle high [] q all more less = rise_lower entries middle low high q all more
rise_append entries low middle high (m ∷ p) q all more less = (all.0, (let few = all.1 in omega (arith, few, less)), all.2, rise_append entries (entry_of m) middle high p q all.3 more less)

gone_most : (entries : List Entry) (low high : ℕ) (sent : List Sent) → Gone entries low high sent → low ≤ high
gone_most entries low high [] gone = gone
gone_most entries low high (m ∷ sent) gone = one (told_by m.message) gone (λ next rest. gone_most entries next high sent rest)
  where
    one : (o : Option ToClient) → GoneAt entries low high o (λ next. Gone entries next high sent) → ((next : ℕ) → Gone entries next high sent → next ≤ high) → low ≤ high
    one None rest go = go low rest
    one (Some told) rest go = let a = rest.0 in let b = rest.1 in omega (arith, a, b)

gone_rise : (n : ℕ) (entries : List Entry) (low high : ℕ) (sent : List Sent) → Gone entries low high sent → StampsRise entries low high (mine n (to_clients sent))
gone_rise n entries low high [] gone = gone
gone_rise n entries low high (m ∷ sent) gone = by_message m.to m.message gone (λ next rest. gone_rise n entries next high sent rest)
  where
    by_message : (to : ℕ) (x : Message) → GoneAt entries low high (told_by x) (λ next. Gone entries next high sent) → ((next : ℕ) → Gone entries next high sent → StampsRise entries next high (mine n (to_clients sent))) → StampsRise entries low high (mine n (cons_option (told_to to x) (to_clients sent)))
    by_message to (message.ToClient told) gone go = by_number (to == n)
      where
        by_number : (b : Bool) → StampsRise entries low high (cond b (told ∷ mine n (to_clients sent)) (mine n (to_clients sent)))
        by_number true = (gone.0, gone.1, gone.2, go (entry_of told) gone.3)
        by_number false = rise_lower entries (entry_of told) low high (mine n (to_clients sent)) gone.0 (go (entry_of told) gone.3)
    by_message to (message.ToServer said) gone go = go low gone
    by_message to (message.ToStore order) gone go = go low gone
    by_message to (message.FromStore said) gone go = go low gone

-- A row of the server: what was on the way keeps its stamps, and what goes is stamped behind it.
front_same : (s : Server) (r : Row Server) → s.durable ≤ length s.entries → Begins (take s.durable s.entries) r.state.entries r.state.durable → (k : ℕ) → k ≤ s.durable → take k r.state.entries ≡ take k s.entries
front_same s r fits begins k less = sym (take_take k s.durable r.state.entries less least) ∙ ap (take k) front ∙ take_take k s.durable s.entries less fits
  where
    long : length (take s.durable s.entries) ≡ s.durable
    long = length-take-le s.durable s.entries fits

    front : take s.durable r.state.entries ≡ take s.durable s.entries
    front = subst (λ (k : ℕ). take k r.state.entries ≡ take s.durable s.entries) long begins.same

    least : s.durable ≤ length r.state.entries
    least = let kept = begins.kept in let most = begins.fits in omega (arith, long, kept, most)

served : (n : ℕ) (c : Client) (down : List ToClient) (b : Bool) (s : Server) (r : Row Server) → s.durable ≤ length s.entries → HandedOut b s r → Begins (take s.durable s.entries) r.state.entries r.state.durable → StampsRise s.entries c.heard.any s.durable down
    → StampsRise r.state.entries c.heard.any r.state.durable (down ++ mine n (to_clients r.sent))
served n c down b s r fits out begins all =
    rise_append r.state.entries c.heard.any s.durable r.state.durable down (mine n (to_clients r.sent))
    (rise_more s.entries r.state.entries c.heard.any s.durable s.durable down (omega arith) (front_same s r fits begins) all)
    (gone_rise n r.state.entries s.durable r.state.durable r.sent out.1) (gone_most r.state.entries s.durable r.state.durable r.sent out.1)

-- The client: what it heard changes by what it takes from the server alone.
heard_if : (c : Client) (b : Bool) (x y : Row Client) → x.state.heard ≡ c.heard → y.state.heard ≡ c.heard → (cond b x y).state.heard ≡ c.heard
heard_if c true x y here other = here
heard_if c false x y here other = other

edit_heard : (c : Client) (number : ℕ) (text : Line) (e : Edit) (ino : Ino) (o : Result Change Refusal) → (edit_file c number text e ino o).state.heard ≡ c.heard
edit_heard c number text e ino (Err refusal) = refl
edit_heard c number text e ino (Ok made) = heard_if c (is_writer ino c.files) (edits c number ino e) (asks c number text (request.Cap ino Write)) refl refl

edit_line_heard : (c : Client) (number : ℕ) (text : Line) (e : Edit) (o : Option Handle) → (edit_line c number text e o).state.heard ≡ c.heard
edit_line_heard c number text e None = refl
edit_line_heard c number text e (Some h) = edit_heard c number text e h.ino (data_change (Some h) e.ends e.change)

read_heard : (c : Client) (number : ℕ) (text : Line) (o : Option Handle) → (read_line c number text o).state.heard ≡ c.heard
read_heard c number text None = refl
read_heard c number text (Some h) = heard_if c (is_held h.ino c.files) (reads_head c number 0 h.ino) (asks c number text (request.Cap h.ino Read)) refl refl

asked_heard : (c : Client) (number : ℕ) (text : Line) (o : Option Request) → (begin_asked c number text o).state.heard ≡ c.heard
asked_heard c number text None = refl
asked_heard c number text (Some asked) = refl

other_heard : (c : Client) (number : ℕ) (text : Line) → (begin_other c number text).state.heard ≡ c.heard
other_heard c number (line.Read handle) = read_heard c number (line.Read handle) (opened c handle)
other_heard c number line.Barrier = refl
other_heard c number line.Break = refl
other_heard c number text = asked_heard c number text (request_of text)

with_heard : (c : Client) (number : ℕ) (text : Line) (o : Option Edit) → (begin_with c number text o).state.heard ≡ c.heard
with_heard c number text (Some e) = edit_line_heard c number text e (opened c e.handle)
with_heard c number text None = other_heard c number text

op_heard : (c : Client) (lines : List Line) → IfSome (op_of c lines) (λ r. r.state.heard ≡ c.heard)
op_heard c [] = tt
op_heard c (text ∷ rest) = by_test (not c.frozen && may_begin c.under text)
  where
    by_test : (b : Bool) → IfSome (cond b (Some (begin (record c { lines = rest; begun = c.begun + 1 }) (c.begun + 1) text)) None) (λ r. r.state.heard ≡ c.heard)
    by_test true = with_heard (record c { lines = rest; begun = c.begun + 1 }) (c.begun + 1) text (edit_of text)
    by_test false = tt

item_heard : (c : Client) (ino : Ino) (items : List Item) → (send_item c ino items).state.heard ≡ c.heard
item_heard c ino [] = refl
item_heard c ino (OfPiece p ∷ items) = refl
item_heard c ino (OfMark m ∷ items) = refl

due_heard : (c : Client) (unsent : List Item) (item : Due) → (send_due c unsent item).state.heard ≡ c.heard
due_heard c unsent (due.Piece ino) = item_heard c ino unsent
due_heard c unsent (due.Mark ino follows upto size) = refl
due_heard c unsent (due.Release ino size) = refl
due_heard c unsent (due.DropRead ino) = refl

flush_heard : (c : Client) → IfSome (on_flush c) (λ r. r.state.heard ≡ c.heard)
flush_heard c = by_test c.frozen
  where
    by_due : (o : Option Due) → IfSome (sends_due c o) (λ r. r.state.heard ≡ c.heard)
    by_due None = tt
    by_due (Some item) = due_heard (record c { files = sent item c.files }) (unsent_in (file_of (file_due item) c.files)) item

    by_test : (b : Bool) → IfSome (cond b None (sends_due c (first_due (reading c.under) c.files))) (λ r. r.state.heard ≡ c.heard)
    by_test true = tt
    by_test false = by_due (first_due (reading c.under) c.files)

answer_heard : (c : Client) (number : ℕ) (text : Line) (asked : Request) (let_go : List Ino) (st : Stamp) (said : Answer) → (take_answer c number text asked let_go st said).state.heard ≡ c.heard
answer_heard c number text asked let_go st (answer.FoundLive ino perm size write_held) =
    heard_if c (list_any (is_ino ino) let_go) (asks_anew c number text asked ino) (with_found (found c ino size st.snap write_held) number asked st.entry ino perm) refl (by_wants (wants_bytes asked) refl)
  where
    by_wants : (b : Bool) → wants_bytes asked ≡ b → (with_found (found c ino size st.snap write_held) number asked st.entry ino perm).state.heard ≡ c.heard
    by_wants true is = rw is refl
    by_wants false is = rw is refl
answer_heard c number text asked let_go st (answer.FoundSnap ino snap size) = refl
answer_heard c number text asked let_go st (answer.FoundObject ino index) = refl
answer_heard c number text asked let_go st said = refl

reply_heard : (c : Client) (tid : ℕ) (st : Stamp) (said : Answer) (under : Under) → (take_reply c tid st said under).state.heard ≡ c.heard
reply_heard c tid st said Idle = refl
reply_heard c tid st said (AtStore number entry ino head) = refl
reply_heard c tid st said (Open number open_tid text asked let_go) = heard_if c (open_tid == tid && takes_answer c said) (take_answer c number text asked let_go st said) (stays c) (answer_heard c number text asked let_go st said) refl

grant_heard : (c : Client) (tid : ℕ) (st : Stamp) (ino : Ino) (mode : Mode) (size : ℕ) (file : FileTrace) (under : Under) → (take_grant c tid st ino mode size file under).state.heard ≡ c.heard
grant_heard c tid st ino mode size file Idle = refl
grant_heard c tid st ino mode size file (AtStore number entry other head) = refl
grant_heard c tid st ino mode size file (Open number open_tid text asked let_go) =
    heard_if c (open_tid == tid && asks_for asked ino mode && not (is_writer ino c.files)) (goes_on (granted c ino mode size st.snap file) number ino (edit_of text)) (stays c) (by_edit (edit_of text)) refl
  where
    by_edit : (o : Option Edit) → (goes_on (granted c ino mode size st.snap file) number ino o).state.heard ≡ c.heard
    by_edit (Some e) = refl
    by_edit None = refl

own_heard : (c : Client) (m : ToClient) → (take_own c m).state.heard ≡ c.heard
own_heard c (Restarted st) = refl
own_heard c (Reply conn tid st said) = reply_heard c tid st said c.under
own_heard c (Grant conn tid st ino mode size file) = grant_heard c tid st ino mode size file c.under
own_heard c (Recall conn st ino) = refl
own_heard c (Notice conn st update) = updated_same (λ (v : Client). v.heard) (λ v ino new. refl) update c
own_heard c (FlushAck conn st number) = refl
own_heard c (Welcome conn st last update) = updated_same (λ (v : Client). v.heard) (λ v ino new. refl) update (acked (record c { frozen = false }) (λ n. nat_le n last))

told_heard : (c : Client) (m : ToClient) → (on_told c m).state.heard ≡ (having_heard c m).heard
told_heard c m = heard_if (having_heard c m) (may_take c m && to_client_fits m) (take_own (having_heard c m) m) (stays (having_heard c m)) (own_heard (having_heard c m) m) refl

stored_heard : (c : Client) (said : FromStore) → (on_stored c said).state.heard ≡ c.heard
stored_heard c said = heard_if c (from_store_fits said) (take_stored c said) (stays c) (by_said said) refl
  where
    read : (said : FromStore) (under : Under) → (take_read c said under).state.heard ≡ c.heard
    read said Idle = refl
    read said (Open number tid text asked let_go) = refl
    read said (AtStore number entry ino head) = heard_if c (is_key number (key_of said)) (replies (record c { under = Idle }) number false entry (store_answer c ino head said)) (stays c) refl refl

    by_said : (said : FromStore) → (take_stored c said).state.heard ≡ c.heard
    by_said (Stored ino) = refl
    by_said (Got key bytes) = read (Got key bytes) c.under
    by_said (NotThere key) = read (NotThere key) c.under
    by_said (CloneListIs key list) = read (CloneListIs key list) c.under

-- the view
abbrev pub Hearing : View
Hearing n c up down s = Mailed s × HearsRising n c up down s

same_hearing : (n : ℕ) (c : Client) (up : List ToServer) (down : List ToClient) (s : Server) (r : Row Client) → r.state.heard ≡ c.heard → Hearing n c up down s → Client's Hearing n up down s r
same_hearing n c up down s r same all = (all.0, subst (λ (h : Heard). (h.own ≤ h.any) × StampsRise s.entries h.any s.durable down) (sym same) all.1)

if_same : (n : ℕ) (c : Client) (up : List ToServer) (down : List ToClient) (s : Server) (o : Option (Row Client)) → IfSome o (λ r. r.state.heard ≡ c.heard) → Hearing n c up down s → IfSome o (Client's Hearing n up down s)
if_same n c up down s None same all = tt
if_same n c up down s (Some r) same all = same_hearing n c up down s r same all

told_hearing : (n : ℕ) (c : Client) (up : List ToServer) (m : ToClient) (down : List ToClient) (s : Server) → Hearing n c up (m ∷ down) s → Client's Hearing n up down s (on_told c m)
told_hearing n c up m down s all = (all.0, subst (λ (h : Heard). (h.own ≤ h.any) × StampsRise s.entries h.any s.durable down) (sym (told_heard c m)) (by_own (is_own c m), all.1.1.3))
  where
    by_own : (b : Bool) → cond b (entry_of m) c.heard.own ≤ entry_of m
    by_own true = omega arith
    by_own false = let less = all.1.0 in let rises = all.1.1.0 in omega (arith, less, rises)

row_hearing : (n : ℕ) (c : Client) (up : List ToServer) (down : List ToClient) (b : Bool) (s : Server) (r : Row Server) → HandedOut b s r → Begins (take s.durable s.entries) r.state.entries r.state.durable → Hearing n c up down s → Server's Hearing n c up down r
row_hearing n c up down b s r out begins all = (out.0, (all.1.0, served n c down b s r all.0.fits out begins all.1.1))

if_row_hearing : (n : ℕ) (c : Client) (up : List ToServer) (down : List ToClient) (b : Bool) (s : Server) (o : Option (Row Server)) → IfSome o (HandedOut b s) → IfSome o (λ r. Begins (take s.durable s.entries) r.state.entries r.state.durable) → Hearing n c up down s → IfSome o (Server's Hearing n c up down)
if_row_hearing n c up down b s None out begins all = tt
if_row_hearing n c up down b s (Some r) out begins all = row_hearing n c up down b s r out begins all

begins_now : (s : Server) → Mailed s → Begins (take s.durable s.entries) s.entries s.durable
begins_now s mailed = record {
  kept = let long = length-take-le s.durable s.entries mailed.fits in omega (arith, long);
  fits = mailed.fits;
  same = ap (λ (k : ℕ). take k s.entries) (length-take-le s.durable s.entries mailed.fits);
}

pub hearing_rows : KeptByRows Hearing
hearing_rows = record {
  op = λ n c up down s all. if_same n c up down s (on_op c) (op_heard c c.lines) all;
  flush = λ n c up down s all. if_same n c up down s (on_flush c) (flush_heard c) all;
  told = told_hearing;
  stored = λ n c m up down s all. same_hearing n c up down s (on_stored c m) (stored_heard c m) all;
  own = λ n c m up down s all. row_hearing n c up down false s (on_take s n m) (mailed_gives.takes s n m all.0) ((begins_gives (take s.durable s.entries)).takes s n m (begins_now s all.0)) all;
  other = λ n x c m up down s isnt all. row_hearing n c up down false s (on_take s x m) (mailed_gives.takes s x m all.0) ((begins_gives (take s.durable s.entries)).takes s x m (begins_now s all.0)) all;
  reported = λ n c m up down s all. row_hearing n c up down false s (on_report s m) (mailed_gives.reports s m all.0) ((begins_gives (take s.durable s.entries)).reports s m (begins_now s all.0)) all;
  committed = λ n c up down s all. if_row_hearing n c up down false s (on_commit s) (mailed_gives.commits s all.0) ((begins_gives (take s.durable s.entries)).commits s (begins_now s all.0)) all;
  tended = λ n c up down s all. if_row_hearing n c up down false s (on_tend s) (mailed_gives.tends s all.0) ((begins_gives (take s.durable s.entries)).tends s (begins_now s all.0)) all;
  restarted = λ n c up down s k all. if_row_hearing n c up down true s (on_restart s k) (mailed_gives.restarts s k all.0) ((begins_gives (take s.durable s.entries)).restarts s k (begins_now s all.0)) all;
}

pub hearing_law : (script : Script) (history : List Event) → EachClient HearsRising (world_after script history)
hearing_law script history = each_part Hearing HearsRising (world_after script history) (λ n c up down s all. all.1)
    (run_keeps Hearing hearing_rows (start script) (steps_of history) (at_start Hearing script (λ n is. (start_mailed script, (omega arith, omega arith)))))

-- what waits to be sent
waiting_rise : (n : ℕ) (entries : List Entry) (low : ℕ) (mail : List (ℕ × Sent)) → low ≤ length entries → Waiting entries low mail → StampsRise entries low (length entries) (mail_of n mail)
waiting_rise n entries low [] less waiting = less
waiting_rise n entries low (m ∷ mail) less waiting = by_message m.1.to m.1.message waiting.2 (rise_lower entries m.0 low (length entries) (mail_of n mail) waiting.0 (waiting_rise n entries m.0 mail waiting.1 waiting.3)) (waiting_rise n entries m.0 mail waiting.1 waiting.3)
  where
    by_message : (to : ℕ) (x : Message) → MadeAt entries m.0 (told_by x) → StampsRise entries low (length entries) (mail_of n mail) → StampsRise entries m.0 (length entries) (mail_of n mail) → StampsRise entries low (length entries) (mine n (cons_option (told_to to x) (to_clients (map (λ (m : ℕ × Sent). m.1) mail))))
    by_message to (message.ToClient told) made rest behind = by_number (to == n)
      where
        by_number : (b : Bool) → StampsRise entries low (length entries) (cond b (told ∷ mail_of n mail) (mail_of n mail))
        by_number true = (rw made.0 waiting.0, rw made.0 waiting.1, rw made.0 made.1, rw made.0 behind)
        by_number false = rest
    by_message to (message.ToServer said) made rest behind = rest
    by_message to (message.ToStore order) made rest behind = rest
    by_message to (message.FromStore said) made rest behind = rest

pub will_law : (script : Script) (history : List Event) → EachClient WillHearRising (world_after script history)
will_law script history = each_part Hearing WillHearRising (world_after script history)
    (λ n c up down s all. rise_append s.entries c.heard.any s.durable (length s.entries) down (mail_of n s.mail) all.1.1 (waiting_rise n s.entries s.durable s.mail all.0.fits all.0.waiting) all.0.fits)
    (run_keeps Hearing hearing_rows (start script) (steps_of history) (at_start Hearing script (λ n is. (start_mailed script, (omega arith, omega arith)))))

-- A client that isn't frozen heard the last message by its own connection.
rise_most : (entries : List Entry) (low high : ℕ) (p : List ToClient) → StampsRise entries low high p → low ≤ high
rise_most entries low high [] all = all
rise_most entries low high (m ∷ p) all = let a = all.0 in let b = all.1 in omega (arith, a, b)

abbrev Ground : View
Ground n c up down s = OpenLinked n c up down s × Hearing n c up down s

same_own : (n : ℕ) (c : Client) (up : List ToServer) (down : List ToClient) (s : Server) (r : Row Client) → c.frozen ≡ false → r.state.heard ≡ c.heard → HearsOwn n c up down s → Client's HearsOwn n up down s r
same_own n c up down s r free same own_now = λ free_now. subst (λ (h : Heard). applied (take h.any s.entries) < NOSNAP.0 → h.own ≡ h.any) (sym same) (own_now free)

row_own : (n : ℕ) (c : Client) (up : List ToServer) (down : List ToClient) (s : Server) (r : Row Server) → Begins (take s.durable s.entries) r.state.entries r.state.durable → Hearing n c up down s → HearsOwn n c up down s → Server's HearsOwn n c up down r
row_own n c up down s r begins all own_now = λ free. subst (λ (l : List Entry). applied l < NOSNAP.0 → c.heard.own ≡ c.heard.any) (sym (front_same s r all.0.fits begins c.heard.any (rise_most s.entries c.heard.any s.durable down all.1.1))) (own_now free)

if_row_own : (n : ℕ) (c : Client) (up : List ToServer) (down : List ToClient) (s : Server) (o : Option (Row Server)) → IfSome o (λ r. Begins (take s.durable s.entries) r.state.entries r.state.durable) → Hearing n c up down s → HearsOwn n c up down s → IfSome o (Server's HearsOwn n c up down)
if_row_own n c up down s None begins all own_now = tt
if_row_own n c up down s (Some r) begins all own_now = row_own n c up down s r begins all own_now

-- a message that isn't its own's has no number, and freezes it
is_now : (c : Client) (m : ToClient) → IsNow c.conn (mark m) → is_own c m ≡ false → (st : Stamp) × (m ≡ Restarted st)
is_now c (Restarted st) now other = (st, refl)
is_now c (Reply conn tid st said) now other = absurd (true≢false (sym (numbered now) ∙ other))
  where
    numbered : conn ≡ c.conn → (conn == c.conn) ≡ true
    numbered is = grind (arith, nat_tests, is)
is_now c (Grant conn tid st ino mode size file) now other = absurd (true≢false (sym (numbered now) ∙ other))
  where
    numbered : conn ≡ c.conn → (conn == c.conn) ≡ true
    numbered is = grind (arith, nat_tests, is)
is_now c (Recall conn st ino) now other = absurd (true≢false (sym (numbered now) ∙ other))
  where
    numbered : conn ≡ c.conn → (conn == c.conn) ≡ true
    numbered is = grind (arith, nat_tests, is)
is_now c (Notice conn st update) now other = absurd (true≢false (sym (numbered now) ∙ other))
  where
    numbered : conn ≡ c.conn → (conn == c.conn) ≡ true
    numbered is = grind (arith, nat_tests, is)
is_now c (FlushAck conn st number) now other = absurd (true≢false (sym (numbered now) ∙ other))
  where
    numbered : conn ≡ c.conn → (conn == c.conn) ≡ true
    numbered is = grind (arith, nat_tests, is)
is_now c (Welcome conn st last update) now other = absurd now

-- one that isn't its own's leaves it as it was, or freezes it
still_free : (c : Client) (m : ToClient) → is_own c m ≡ false → (on_told c m).state.frozen ≡ false → c.frozen ≡ false
still_free c m other free = by_message m other free
  where
    numbered : (m : ToClient) → conn_of m ≢ None → is_own c m ≡ false → (on_told c m).state.frozen ≡ false → c.frozen ≡ false
    numbered m some other free = by_test (is_none (conn_of m)) (is_own c m) refl other free
      where
        none : (o : Option ℕ) → is_none o ≡ true → o ≡ None
        none None is = refl
        none (Some k) is = absurd (true≢false (sym is))

        by_test : (a b : Bool) → is_none (conn_of m) ≡ a → b ≡ false → (cond ((a || b) && to_client_fits m) (take_own (having_heard c m) m) (stays (having_heard c m))).state.frozen ≡ false → c.frozen ≡ false
        by_test true b is other free = absurd (some (none (conn_of m) is))
        by_test false true is other free = absurd (true≢false other)
        by_test false false is other free = free

    restarted : (st : Stamp) → (on_told c (Restarted st)).state.frozen ≡ false → c.frozen ≡ false
    restarted st free = by_test (to_client_fits (Restarted st)) free
      where
        by_test : (b : Bool) → (cond b (take_own (having_heard c (Restarted st)) (Restarted st)) (stays (having_heard c (Restarted st)))).state.frozen ≡ false → c.frozen ≡ false
        by_test true free = absurd (true≢false free)
        by_test false free = free

    by_message : (m : ToClient) → is_own c m ≡ false → (on_told c m).state.frozen ≡ false → c.frozen ≡ false
    by_message (Restarted st) other free = restarted st free
    by_message (Reply conn tid st said) other free = numbered (Reply conn tid st said) (λ is. cc) other free
    by_message (Grant conn tid st ino mode size file) other free = numbered (Grant conn tid st ino mode size file) (λ is. cc) other free
    by_message (Recall conn st ino) other free = numbered (Recall conn st ino) (λ is. cc) other free
    by_message (Notice conn st update) other free = numbered (Notice conn st update) (λ is. cc) other free
    by_message (FlushAck conn st number) other free = numbered (FlushAck conn st number) (λ is. cc) other free
    by_message (Welcome conn st last update) other free = numbered (Welcome conn st last update) (λ is. cc) other free

told_own : (n : ℕ) (c : Client) (up : List ToServer) (m : ToClient) (down : List ToClient) (s : Server) → Ground n c up (m ∷ down) s → Client's HearsOwn n up down s (on_told c m)
told_own n c up m down s ground = λ free small. subst (λ (h : Heard). h.own ≡ h.any) (sym (told_heard c m)) (by_own (is_own c m) refl free (subst (λ (h : Heard). applied (take h.any s.entries) < NOSNAP.0) (told_heard c m) small))
  where
    restarts : (st : Stamp) → m ≡ Restarted st → (on_told c m).state.frozen ≡ false → applied (take (entry_of m) s.entries) < NOSNAP.0 → ⊥
    restarts st is free small = by_test (nat_lt st.snap.0 NOSNAP.0) refl (subst (λ (x : ToClient). (on_told c x).state.frozen ≡ false) is free)
      where
        below : st.snap.0 < NOSNAP.0
        below = subst (λ (k : ℕ). k < NOSNAP.0) (sym (subst (λ (x : ToClient). (stamp_of x).snap.0 ≡ applied (take (entry_of x) s.entries)) is ground.1.1.1.2)) (subst (λ (x : ToClient). applied (take (entry_of x) s.entries) < NOSNAP.0) is small)

        above : (k top : ℕ) → k < top → nat_lt k top ≡ false → ⊥
        above k top less isnt = grind (arith, nat_tests, less, isnt)

        by_test : (b : Bool) → nat_lt st.snap.0 NOSNAP.0 ≡ b → (cond (b && true) (take_own (having_heard c (Restarted st)) (Restarted st)) (stays (having_heard c (Restarted st)))).state.frozen ≡ false → ⊥
        by_test true test free = true≢false free
        by_test false test free = above st.snap.0 NOSNAP.0 below test

    by_own : (b : Bool) → is_own c m ≡ b → (on_told c m).state.frozen ≡ false → applied (take (entry_of m) s.entries) < NOSNAP.0 → cond b (entry_of m) c.heard.own ≡ entry_of m
    by_own true test free small = refl
    by_own false other free small = absurd (restarts unnumbered.0 unnumbered.1 free small)
      where
        unnumbered : (st : Stamp) × (m ≡ Restarted st)
        unnumbered = is_now c m (flowing (offer c) up (number_of s.current n) (m ∷ (down ++ mail_of n s.mail)) (still_free c m other free) ground.0.1).down.0 other

heeds : KeptBefore Ground HearsOwn
heeds = record {
  op = λ n c up down s a i. both_some (on_op c) (λ r. (c.frozen ≡ false) × Opens c r) (λ r. r.state.heard ≡ c.heard) (Client's HearsOwn n up down s) (λ r opens same. same_own n c up down s r opens.0 same i) (op_opens c c.lines) (op_heard c c.lines);
  flush = λ n c up down s a i. both_some (on_flush c) (λ r. (c.frozen ≡ false) × FlushActs c r) (λ r. r.state.heard ≡ c.heard) (Client's HearsOwn n up down s) (λ r acts same. same_own n c up down s r acts.0 same i) (flush_acts c) (flush_heard c);
  told = λ n c up m down s a i. told_own n c up m down s a;
  stored = λ n c m up down s a i. λ free. subst (λ (h : Heard). applied (take h.any s.entries) < NOSNAP.0 → h.own ≡ h.any) (sym (stored_heard c m)) (i (sym (ap (λ (o : Offer). o.frozen) (store_hidden c m).state) ∙ free));
  own = λ n c m up down s a i. row_own n c (m ∷ up) down s (on_take s n m) ((begins_gives (take s.durable s.entries)).takes s n m (begins_now s a.1.0)) a.1 i;
  other = λ n x c m up down s isnt a i. row_own n c up down s (on_take s x m) ((begins_gives (take s.durable s.entries)).takes s x m (begins_now s a.1.0)) a.1 i;
  reported = λ n c m up down s a i. row_own n c up down s (on_report s m) ((begins_gives (take s.durable s.entries)).reports s m (begins_now s a.1.0)) a.1 i;
  committed = λ n c up down s a i. if_row_own n c up down s (on_commit s) ((begins_gives (take s.durable s.entries)).commits s (begins_now s a.1.0)) a.1 i;
  tended = λ n c up down s a i. if_row_own n c up down s (on_tend s) ((begins_gives (take s.durable s.entries)).tends s (begins_now s a.1.0)) a.1 i;
  restarted = λ n c up down s k a i. if_row_own n c up down s (on_restart s k) ((begins_gives (take s.durable s.entries)).restarts s k (begins_now s a.1.0)) a.1 i;
}
  where
    both_some : {X : Type 0} (o : Option X) (P Q R : X → Type 0) → ((x : X) → P x → Q x → R x) → IfSome o P → IfSome o Q → IfSome o R
    both_some None P Q R go p q = tt
    both_some (Some x) P Q R go p q = go x p q

abbrev Heeding : View
Heeding n c up down s = Ground n c up down s × HearsOwn n c up down s

pub own_law : (script : Script) (history : List Event) → EachClient HearsOwn (world_after script history)
own_law script history = each_part Heeding HearsOwn (world_after script history) (λ n c up down s all. all.1)
    (run_keeps Heeding (joined (joined (rows_of_acts OpenLinked linked (all_fit OpenLinked)) (alone hearing_rows)) heeds) (start script) (steps_of history)
    (at_start Heeding script (λ n is. (((tt, first_link (new_client n (script.clients + 1) (lines_of n script.lines)) _ refl is), (start_mailed script, (omega arith, omega arith))), λ free small. refl))))

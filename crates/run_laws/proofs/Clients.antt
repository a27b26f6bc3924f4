-- What the rows of a client say, and what they leave open.
use Rattle.std.proofs.Common.{◌≡◌, ◌≤◌, ℕ, ◌+◌, List, [], ◌∷◌, Bool, true, false, true≢false, cond, Option, None, Some, refl, sym, ap, ◌∙◌, IfSome, arith, ◌⊎◌, inl, inr}
use Rattle.std.specs.Prelude.{◌&&◌, ◌==◌, not, Result, Ok, Err}
use Rattle.std.specs.List.{list_any}
use Rattle.snap_ids.specs.declared.id.Ino.{Ino}
use Rattle.snap_ids.specs.declared.values.Mode.{Mode}
use Rattle.snap_ids.specs.Context.{Context}
use Rattle.plain_types.specs.declared.answer.Answer.{Answer}
use Rattle.plain_types.specs.declared.answer.Answer.TheVariants as answer
use Rattle.plain_types.specs.declared.answer.Refusal.{Refusal}
use Rattle.plain_types.specs.declared.change.Change.{Change}
use Rattle.plain_types.specs.declared.message.Claim.{Claim}
use Rattle.plain_types.specs.declared.message.FileTrace.{FileTrace}
use Rattle.plain_types.specs.declared.message.FromStore.{FromStore}
use Rattle.plain_types.specs.declared.message.FromStore.TheVariants.{Stored, Got, NotThere, CloneListIs}
use Rattle.plain_types.specs.declared.message.Stamp.{Stamp}
use Rattle.plain_types.specs.declared.request.Request.{Request}
use Rattle.plain_types.specs.declared.script.Line.{Line}
use Rattle.plain_types.specs.declared.script.Line.TheVariants as line
use Rattle.plain_tree.specs.State.{Handle}
use Rattle.plain_tree.specs.Line.{request_of, data_change}
use Rattle.held_files.specs.declared.due.Due.{Due}
use Rattle.held_files.specs.declared.due.Due.TheVariants as due
use Rattle.held_files.specs.Files.{HeldFiles, Item, OfPiece, OfMark, claim_of, claims, with_file, is_ino, is_writer, is_held, stored, file_of}
use Rattle.held_files.specs.Due.{first_due, sent}
use Rattle.step_table.specs.Messages.{from_store_fits, context_by}
use Rattle.step_table.specs.Row.{Row}
use Rattle.step_table.specs.ClientState.{Client, Under, Idle, Open, AtStore, Edit, edit_of, connects, open_request, sent_again, stays}
use Rattle.step_table.specs.ClientLines.{edit_file, edit_line, read_line, opened, begin_asked, begin_other, begin_with, begin, may_begin, op_of, reading, with_let_go, send_item, send_due, sends_due, unsent_in, file_due, on_flush}
use Rattle.step_table.specs.ClientTakes.{renewed, updated, goes_on, granted, asks_for, take_grant, wants_bytes, with_found, found, take_answer, takes_answer, take_reply, is_key, key_of, take_read, take_stored, on_stored}
use Rattle.step_table.specs.World.{to_server as for_server}
use Rattle.run_laws.specs.Links.{offer}
use Rattle.run_laws.specs.Requests.{OpenAt, AllAsked, asks}
use Rattle.run_laws.proofs.Link.{Says, again, connect_of}

-- a row that says all again under the next number
pub record Renews (c : Client) (r : Row Client) : Type 0 where
  pub state : offer r.state ≡ again (offer c)
  pub sent : for_server r.sent ≡ connect_of (again (offer c)) ∷ []
  pub tid : r.state.tid ≡ c.tid

-- a row that keeps the number and says only what has it; it keeps what is open and asks nothing
pub record Keeps (c : Client) (r : Row Client) : Type 0 where
  pub conn : r.state.conn ≡ c.conn
  pub says : Says c.conn (for_server r.sent)
  pub same : open_request r.state.under ≡ open_request c.under
  pub tid : r.state.tid ≡ c.tid
  pub none : asks (for_server r.sent) ≡ 0
  pub sent : (o : Option (ℕ × Request)) → AllAsked o (for_server r.sent)

-- one that opens or closes a request
pub record Begins (c : Client) (r : Row Client) : Type 0 where
  pub conn : r.state.conn ≡ c.conn
  pub says : Says c.conn (for_server r.sent)
  pub opens : OpenAt r.state.tid (open_request r.state.under)
  pub sent : AllAsked (open_request r.state.under) (for_server r.sent)
  pub few : asks (for_server r.sent) ≤ 1
  pub most : c.tid ≤ r.state.tid

abbrev pub Opened : Client → Type 0
Opened c = OpenAt c.tid (open_request c.under)

asked_again : (under : Under) → open_request (sent_again under) ≡ open_request under
asked_again Idle = refl
asked_again (Open number tid line request let_go) = refl
asked_again (AtStore number entry ino head) = refl

pub renews : (c : Client) → Renews c (connects c)
renews c = record { state = ap (λ (a : Option (ℕ × Request)). record (again (offer c)) { asked = a }) (asked_again c.under); sent = refl; tid = refl }

begins_if : (c : Client) (b : Bool) (x y : Row Client) → Begins c x → Begins c y → Begins c (cond b x y)
begins_if c true x y here other = here
begins_if c false x y here other = other

keeps_if : (c : Client) (b : Bool) (x y : Row Client) → Keeps c x → Keeps c y → Keeps c (cond b x y)
keeps_if c true x y here other = here
keeps_if c false x y here other = other

-- a line is begun
edit_begins : (c : Client) (number : ℕ) (text : Line) (e : Edit) (ino : Ino) (o : Result Change Refusal) → Opened c → Begins c (edit_file c number text e ino o)
edit_begins c number text e ino (Err refusal) open_now = record { conn = refl; says = tt; opens = open_now; sent = tt; few = omega arith; most = omega arith }
edit_begins c number text e ino (Ok made) open_now = begins_if c (is_writer ino c.files) _ _
    (record { conn = refl; says = tt; opens = tt; sent = tt; few = omega arith; most = omega arith })
    (record { conn = refl; says = (refl, tt); opens = refl; sent = ((refl, refl), tt); few = omega arith; most = omega arith })

edit_line_begins : (c : Client) (number : ℕ) (text : Line) (e : Edit) (o : Option Handle) → Opened c → Begins c (edit_line c number text e o)
edit_line_begins c number text e None open_now = record { conn = refl; says = tt; opens = open_now; sent = tt; few = omega arith; most = omega arith }
edit_line_begins c number text e (Some h) open_now = edit_begins c number text e h.ino (data_change (Some h) e.ends e.change) open_now

read_begins : (c : Client) (number : ℕ) (text : Line) (o : Option Handle) → Opened c → Begins c (read_line c number text o)
read_begins c number text None open_now = record { conn = refl; says = tt; opens = open_now; sent = tt; few = omega arith; most = omega arith }
read_begins c number text (Some h) open_now = begins_if c (is_held h.ino c.files) _ _
    (record { conn = refl; says = tt; opens = tt; sent = tt; few = omega arith; most = omega arith })
    (record { conn = refl; says = (refl, tt); opens = refl; sent = ((refl, refl), tt); few = omega arith; most = omega arith })

asked_begins : (c : Client) (number : ℕ) (text : Line) (o : Option Request) → Opened c → Begins c (begin_asked c number text o)
asked_begins c number text None open_now = record { conn = refl; says = tt; opens = open_now; sent = tt; few = omega arith; most = omega arith }
asked_begins c number text (Some asked) open_now = record { conn = refl; says = (refl, tt); opens = refl; sent = ((refl, refl), tt); few = omega arith; most = omega arith }

-- what a row at the client's own time may be
abbrev pub Acts : Client → Row Client → Type 0
Acts c r = ((open_request c.under ≡ None) × Begins c r) ⊎ (Keeps c r ⊎ Renews c r)

abbrev IsBreak : Line → Type 0
IsBreak line.Break = Unit {0}
IsBreak text = ⊥

other_acts : (c : Client) (number : ℕ) (text : Line) → Opened c → (open_request c.under ≡ None) ⊎ IsBreak text → Acts c (begin_other c number text)
other_acts c number (line.Read handle) open_now (inl none) = inl (none, read_begins c number (line.Read handle) (opened c handle) open_now)
other_acts c number line.Barrier open_now (inl none) = inl (none, record { conn = refl; says = (refl, tt); opens = refl; sent = ((refl, refl), tt); few = omega arith; most = omega arith })
other_acts c number line.Break open_now is = inr (inr (record { state = (renews c).state; sent = refl; tid = refl }))
other_acts c number text open_now (inl none) = inl (none, asked_begins c number text (request_of text) open_now)
other_acts c number text open_now (inr is) = absurd is

abbrev NoEdit : Option Edit → Type 0
NoEdit None = Unit {0}
NoEdit (Some e) = ⊥

with_acts : (c : Client) (number : ℕ) (text : Line) (o : Option Edit) → Opened c → (open_request c.under ≡ None) ⊎ (IsBreak text × NoEdit o) → Acts c (begin_with c number text o)
with_acts c number text (Some e) open_now (inl none) = inl (none, edit_line_begins c number text e (opened c e.handle) open_now)
with_acts c number text (Some e) open_now (inr is) = absurd is.1
with_acts c number text None open_now (inl none) = other_acts c number text open_now (inl none)
with_acts c number text None open_now (inr is) = other_acts c number text open_now (inr is.0)

idle : (under : Under) (text : Line) → may_begin under text ≡ true → (open_request under ≡ None) ⊎ (IsBreak text × NoEdit (edit_of text))
idle Idle text is = inl refl
idle under line.Break is = inr (tt, tt)
idle under text is = absurd (true≢false (sym is))

not_first : (a b : Bool) → (not a && b) ≡ true → a ≡ false
not_first true b is = absurd (true≢false (sym is))
not_first false b is = refl

and_second : (a b : Bool) → (a && b) ≡ true → b ≡ true
and_second true b is = is
and_second false b is = absurd (true≢false (sym is))

abbrev pub ActsNow : Client → Row Client → Type 0
ActsNow c r = (c.frozen ≡ false) × Acts c r

pub op_acts : (c : Client) (lines : List Line) → Opened c → IfSome (op_of c lines) (ActsNow c)
op_acts c [] open_now = tt
op_acts c (text ∷ rest) open_now = by_test (not c.frozen && may_begin c.under text) refl
  where
    widen : (r : Row Client) → Acts (record c { lines = rest; begun = c.begun + 1 }) r → Acts c r
    widen r (inl q) = inl (q.0, record { conn = q.1.conn; says = q.1.says; opens = q.1.opens; sent = q.1.sent; few = q.1.few; most = q.1.most })
    widen r (inr (inl q)) = inr (inl (record { conn = q.conn; says = q.says; same = q.same; tid = q.tid; none = q.none; sent = q.sent }))
    widen r (inr (inr q)) = inr (inr (record { state = q.state; sent = q.sent; tid = q.tid }))

    by_test : (b : Bool) → (not c.frozen && may_begin c.under text) ≡ b → IfSome (cond b (Some (begin (record c { lines = rest; begun = c.begun + 1 }) (c.begun + 1) text)) None) (ActsNow c)
    by_test true is = (not_first c.frozen (may_begin c.under text) is, widen _ (with_acts (record c { lines = rest; begun = c.begun + 1 }) (c.begun + 1) text (edit_of text) open_now (idle c.under text (and_second (not c.frozen) (may_begin c.under text) is))))
    by_test false is = tt

-- what is due is sent
let_go_same : (ino : Ino) (under : Under) → open_request (with_let_go ino under) ≡ open_request under
let_go_same ino Idle = refl
let_go_same ino (Open number tid text request let_go) = refl
let_go_same ino (AtStore number entry file head) = refl

item_keeps : (c : Client) (ino : Ino) (items : List Item) → Keeps c (send_item c ino items)
item_keeps c ino [] = record { conn = refl; says = tt; same = refl; tid = refl; none = refl; sent = λ o. tt }
item_keeps c ino (OfPiece p ∷ items) = record { conn = refl; says = tt; same = refl; tid = refl; none = refl; sent = λ o. tt }
item_keeps c ino (OfMark m ∷ items) = record { conn = refl; says = tt; same = refl; tid = refl; none = refl; sent = λ o. tt }

due_keeps : (c : Client) (unsent : List Item) (item : Due) → Keeps c (send_due c unsent item)
due_keeps c unsent (due.Piece ino) = item_keeps c ino unsent
due_keeps c unsent (due.Mark ino follows upto size) = record { conn = refl; says = (refl, tt); same = refl; tid = refl; none = refl; sent = λ o. tt }
due_keeps c unsent (due.Release ino size) = record { conn = refl; says = (refl, tt); same = let_go_same ino c.under; tid = refl; none = refl; sent = λ o. tt }
due_keeps c unsent (due.DropRead ino) = record { conn = refl; says = (refl, tt); same = let_go_same ino c.under; tid = refl; none = refl; sent = λ o. tt }

pub flush_acts : (c : Client) → IfSome (on_flush c) (λ r. (c.frozen ≡ false) × Keeps c r)
flush_acts c = by_test c.frozen refl
  where
    by_due : c.frozen ≡ false → (o : Option Due) → IfSome (sends_due c o) (λ r. (c.frozen ≡ false) × Keeps c r)
    by_due is None = tt
    by_due is (Some item) =
        let k = due_keeps (record c { files = sent item c.files }) (unsent_in (file_of (file_due item) c.files)) item in
        (is, record { conn = k.conn; says = k.says; same = k.same; tid = k.tid; none = k.none; sent = k.sent })

    by_test : (b : Bool) → c.frozen ≡ b → IfSome (cond b None (sends_due c (first_due (reading c.under) c.files))) (λ r. (c.frozen ≡ false) × Keeps c r)
    by_test true is = tt
    by_test false is = by_due is (first_due (reading c.under) c.files)

-- an answer is taken
goes_on_begins : (c : Client) (number : ℕ) (ino : Ino) (o : Option Edit) → Begins c (goes_on c number ino o)
goes_on_begins c number ino (Some e) = record { conn = refl; says = tt; opens = tt; sent = tt; few = omega arith; most = omega arith }
goes_on_begins c number ino None = record { conn = refl; says = tt; opens = tt; sent = tt; few = omega arith; most = omega arith }

stays_begins : (c : Client) → Opened c → Begins c (stays c)
stays_begins c open_now = record { conn = refl; says = tt; opens = open_now; sent = tt; few = omega arith; most = omega arith }

pub stays_keeps : (c : Client) → Keeps c (stays c)
stays_keeps c = record { conn = refl; says = tt; same = refl; tid = refl; none = refl; sent = λ o. tt }

pub grant_begins : (c : Client) (tid : ℕ) (stamp : Stamp) (ino : Ino) (mode : Mode) (size : ℕ) (file : FileTrace) (under : Under) → Opened c → Begins c (take_grant c tid stamp ino mode size file under)
grant_begins c tid stamp ino mode size file Idle open_now = stays_begins c open_now
grant_begins c tid stamp ino mode size file (AtStore number entry other head) open_now = stays_begins c open_now
grant_begins c tid stamp ino mode size file (Open number open_tid text asked let_go) open_now =
    begins_if c (open_tid == tid && asks_for asked ino mode && not (is_writer ino c.files)) _ (stays c)
    (let q = goes_on_begins (granted c ino mode size stamp.snap file) number ino (edit_of text) in record { conn = q.conn; says = q.says; opens = q.opens; sent = q.sent; few = q.few; most = q.most })
    (stays_begins c open_now)

found_begins : (c : Client) (number : ℕ) (asked : Request) (entry : ℕ) (ino : Ino) (perm : ℕ) → Begins c (with_found c number asked entry ino perm)
found_begins c number asked entry ino perm = begins_if c (wants_bytes asked) _ _
    (record { conn = refl; says = tt; opens = tt; sent = tt; few = omega arith; most = omega arith })
    (record { conn = refl; says = tt; opens = tt; sent = tt; few = omega arith; most = omega arith })

answer_begins : (c : Client) (number : ℕ) (text : Line) (asked : Request) (let_go : List Ino) (stamp : Stamp) (said : Answer) → Begins c (take_answer c number text asked let_go stamp said)
answer_begins c number text asked let_go stamp (answer.FoundLive ino perm size write_held) = begins_if c (list_any (is_ino ino) let_go) _ _
    (record { conn = refl; says = (refl, (refl, tt)); opens = refl; sent = ((refl, refl), tt); few = omega arith; most = omega arith })
    (let q = found_begins (found c ino size stamp.snap write_held) number asked stamp.entry ino perm in record { conn = q.conn; says = q.says; opens = q.opens; sent = q.sent; few = q.few; most = q.most })
answer_begins c number text asked let_go stamp (answer.FoundSnap ino snap size) = record { conn = refl; says = tt; opens = tt; sent = tt; few = omega arith; most = omega arith }
answer_begins c number text asked let_go stamp (answer.FoundObject ino index) = record { conn = refl; says = tt; opens = tt; sent = tt; few = omega arith; most = omega arith }
answer_begins c number text asked let_go stamp said = record { conn = refl; says = tt; opens = tt; sent = tt; few = omega arith; most = omega arith }

pub reply_begins : (c : Client) (tid : ℕ) (stamp : Stamp) (said : Answer) (under : Under) → Opened c → Begins c (take_reply c tid stamp said under)
reply_begins c tid stamp said Idle open_now = stays_begins c open_now
reply_begins c tid stamp said (AtStore number entry ino head) open_now = stays_begins c open_now
reply_begins c tid stamp said (Open number open_tid text asked let_go) open_now = begins_if c (open_tid == tid && takes_answer c said) _ (stays c) (answer_begins c number text asked let_go stamp said) (stays_begins c open_now)

-- what an update leaves
pub updated_same : {X : Type 0} (f : Client → X) → ((c : Client) (ino : Ino) (new : Context) → f (renewed c ino new) ≡ f c) → (update : List FileTrace) (c : Client) → f (updated c update) ≡ f c
updated_same f same [] c = refl
updated_same {X} f same (file ∷ update) c = updated_same f same update (cond (is_writer file.ino c.files) (renewed c file.ino (context_by file)) c) ∙ by_test (is_writer file.ino c.files)
  where
    by_test : (b : Bool) → f (cond b (renewed c file.ino (context_by file)) c) ≡ f c
    by_test true = same c file.ino (context_by file)
    by_test false = refl

-- what the store says changes no offer
claims_same : (ino : Ino) (files : HeldFiles) → claims (with_file ino stored files) ≡ claims files
claims_same ino [] = refl
claims_same ino (f ∷ files) = by_test (is_ino ino f.0) (claims_same ino files)
  where
    by_test : (b : Bool) → claims (with_file ino stored files) ≡ claims files → claims (cond b ((f.0, stored f.1) ∷ files) (f ∷ with_file ino stored files)) ≡ claim_of f ∷ claims files
    by_test true e = refl
    by_test false e = ap (λ (l : List Claim). claim_of f ∷ l) e

pub record Hidden (c : Client) (r : Row Client) : Type 0 where
  pub state : offer r.state ≡ offer c
  pub tid : r.state.tid ≡ c.tid
  pub sent : for_server r.sent ≡ []

stays_hidden : (c : Client) → Hidden c (stays c)
stays_hidden c = record { state = refl; tid = refl; sent = refl }

hidden_if : (c : Client) (b : Bool) (x y : Row Client) → Hidden c x → Hidden c y → Hidden c (cond b x y)
hidden_if c true x y here other = here
hidden_if c false x y here other = other

read_hidden : (c : Client) (said : FromStore) (under : Under) → c.under ≡ under → Hidden c (take_read c said under)
read_hidden c said Idle is = stays_hidden c
read_hidden c said (Open number tid text asked let_go) is = stays_hidden c
read_hidden c said (AtStore number entry ino head) is = hidden_if c (is_key number (key_of said)) _ (stays c)
    (record { state = ap (λ (a : Option (ℕ × Request)). record (offer c) { asked = a }) (sym (ap open_request is)); tid = refl; sent = refl }) (stays_hidden c)

taken_hidden : (c : Client) (said : FromStore) → Hidden c (take_stored c said)
taken_hidden c (Stored ino) = record { state = ap (λ (l : List Claim). record (offer c) { claims = l }) (claims_same ino c.files); tid = refl; sent = refl }
taken_hidden c (Got key bytes) = read_hidden c (Got key bytes) c.under refl
taken_hidden c (NotThere key) = read_hidden c (NotThere key) c.under refl
taken_hidden c (CloneListIs key list) = read_hidden c (CloneListIs key list) c.under refl

pub store_hidden : (c : Client) (said : FromStore) → Hidden c (on_stored c said)
store_hidden c said = hidden_if c (from_store_fits said) (take_stored c said) (stays c) (taken_hidden c said) (stays_hidden c)

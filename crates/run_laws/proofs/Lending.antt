-- What a client's rows do to what it holds and to what it asked for.
use Rattle.std.proofs.Common.{◌≡◌, ◌≤◌, ℕ, ◌+◌, List, [], ◌∷◌, ◌++◌, Bool, true, false, true≢false, cond, Option, None, Some, filter, refl, sym, ap, ◌∙◌, subst, IfSome, arith, ◌⊎◌, inl, inr}
use Rattle.std.proofs.lemmas.Bool.Decides.{nat_tests}
use Rattle.std.specs.Prelude.{◌&&◌, ◌||◌, ◌==◌, nat_lt, nat_le, not, max, Result, Ok, Err}
use Rattle.std.specs.List.{list_any}
use Rattle.snap_ids.specs.declared.id.Ino.{Ino}
use Rattle.snap_ids.specs.declared.id.SnapId.{SnapId}
use Rattle.snap_ids.specs.declared.values.Mode.{Mode}
use Rattle.snap_ids.specs.declared.values.Mode.TheVariants.{Read, Write}
use Rattle.plain_types.specs.declared.answer.Refusal.{Refusal}
use Rattle.plain_types.specs.declared.change.Change.{Change}
use Rattle.plain_types.specs.declared.message.Claim.{Claim}
use Rattle.plain_types.specs.declared.message.FlushMsg.{FlushMsg}
use Rattle.plain_types.specs.declared.message.ToServer.{ToServer}
use Rattle.plain_types.specs.declared.message.ToServer.TheVariants.{Connect, Ask, Flush, DropRead}
use Rattle.plain_types.specs.declared.request.Request.{Request}
use Rattle.plain_types.specs.declared.request.Request.TheVariants as request
use Rattle.plain_types.specs.declared.script.Line.{Line}
use Rattle.plain_types.specs.declared.script.Line.TheVariants as line
use Rattle.plain_tree.specs.State.{Handle}
use Rattle.plain_tree.specs.Line.{request_of, data_change}
use Rattle.held_files.specs.declared.due.Due.{Due}
use Rattle.held_files.specs.declared.due.Due.TheVariants as due
use Rattle.held_files.specs.Files.{HeldFile, HeldFiles, Item, OfPiece, OfMark, claims, is_ino, is_writer, is_held, is_empty, with_piece, item_sent, first_sent, stored, hold, recalled, with_mark, without, file_of}
use Rattle.held_files.specs.Due.{first_due, due as due_item, due_of, or_else, given_back, is_read, sent}
use Rattle.step_table.specs.Row.{Row}
use Rattle.step_table.specs.ClientState.{Client, Under, Idle, Open, AtStore, Edit, edit_of, context_in, connects, open_request, sent_again, stays}
use Rattle.step_table.specs.ClientLines.{edit_file, edit_line, read_line, opened, begin_asked, begin_other, begin_with, begin, may_begin, op_of, reading, with_let_go, send_item, send_due, sends_due, unsent_in, file_due, release_flush, on_flush}
use Rattle.snap_ids.specs.Context.{Context}
use Rattle.plain_types.specs.declared.answer.Answer.{Answer}
use Rattle.plain_types.specs.declared.answer.Answer.TheVariants as answer
use Rattle.plain_types.specs.declared.message.FileTrace.{FileTrace}
use Rattle.plain_types.specs.declared.message.FromStore.{FromStore}
use Rattle.plain_types.specs.declared.message.FromStore.TheVariants.{Stored, Got, NotThere, CloneListIs}
use Rattle.plain_types.specs.declared.message.Stamp.{Stamp}
use Rattle.plain_types.specs.declared.message.ToClient.{ToClient}
use Rattle.plain_types.specs.declared.message.ToClient.TheVariants.{Reply, Grant, Recall, Notice, FlushAck, Welcome, Restarted}
use Rattle.step_table.specs.Messages.{to_client_fits, from_store_fits, context_by}
use Rattle.step_table.specs.ClientTakes.{marked, renewed, updated, acked, goes_on, granted, asks_for, asks_anew, take_grant, wants_bytes, with_found, found, take_answer, takes_answer, take_reply, having_heard, take_own, on_told, is_key, key_of, take_read, take_stored, on_stored}
use Rattle.step_table.specs.World.{to_server as for_server}
use Rattle.run_laws.specs.Tenures.{Distinct, gone_in, is_gone, asks_write, wants_write}
use Rattle.run_laws.proofs.Files.{has_with, has_hold, has_settled, distinct_with, distinct_hold, distinct_settled, has_reader, not_held, file_same}
use Rattle.run_laws.specs.Links.{Number, mark}
use Rattle.run_laws.proofs.Clients.{updated_same}
use Rattle.run_laws.proofs.Shares.{rank, rank_in, has, found_in, gives}
use Rattle.run_laws.proofs.Sharing.{CapFree, Frees}
use Rattle.run_laws.proofs.Told.{IsAnswer}

-- no request, no Connect, and nothing lets a file go
abbrev pub IsPlain : ToServer → Type 0
IsPlain (Flush conn f) = f.release ≡ false
IsPlain m = ⊥

abbrev pub AllPlain : List ToServer → Type 0
AllPlain [] = Unit {0}
AllPlain (m ∷ up) = IsPlain m × AllPlain up

-- a row that holds the same in the same modes, and says nothing of it
pub record Quiet (c : Client) (r : Row Client) : Type 0 where
  pub conn : r.state.conn ≡ c.conn
  pub under : r.state.under ≡ c.under
  pub modes : (x : Ino) → has x r.state.files ≡ has x c.files
  pub once : Distinct c.files → Distinct r.state.files
  pub says : AllPlain (for_server r.sent)

-- no request is open
abbrev pub NotOpen : Under → Type 0
NotOpen (Open number tid text asked gone) = ⊥
NotOpen under = Unit {0}

-- a row after which no request is open; it holds what it held and what this gives it, no more and no less
pub record Ends (c : Client) (gain : Ino → ℕ) (r : Row Client) : Type 0 where
  pub conn : r.state.conn ≡ c.conn
  pub under : NotOpen r.state.under
  pub modes : (x : Ino) → has x r.state.files ≡ max (has x c.files) (gain x)
  pub once : Distinct c.files → Distinct r.state.files
  pub none : for_server r.sent ≡ []

-- a row that asks; it may let a file go before, that it let go already
abbrev pub drop_list : ℕ → Option Ino → List ToServer
drop_list conn None = []
drop_list conn (Some ino) = DropRead conn ino ∷ []

pub record AsksNow (c : Client) (r : Row Client) : Type 0 where
  pub number : ℕ
  pub tid : ℕ
  pub text : Line
  pub asked : Request
  pub before : Option Ino
  pub conn : r.state.conn ≡ c.conn
  pub under : r.state.under ≡ Open number tid text asked []
  pub files : r.state.files ≡ c.files
  pub free : CapFree c.files [] asked
  pub gone : IfSome before (λ ino. is_gone ino (gone_in c.under) ≡ true)
  pub sent : for_server r.sent ≡ drop_list c.conn before ++ Ask c.conn tid asked ∷ []

-- a row that connects anew
pub record Returns (c : Client) (r : Row Client) : Type 0 where
  pub conn : r.state.conn ≡ c.conn + 1
  pub under : r.state.under ≡ sent_again c.under
  pub files : r.state.files ≡ c.files
  pub says : (said : List Claim) × (flushes : List FlushMsg) × (asked : Option (ℕ × Request)) × (for_server r.sent ≡ Connect (c.conn + 1) said flushes asked ∷ [])

-- a row that lets a file go
pub record LetsGo (c : Client) (r : Row Client) : Type 0 where
  pub ino : Ino
  pub conn : r.state.conn ≡ c.conn
  pub under : r.state.under ≡ with_let_go ino c.under
  pub files : r.state.files ≡ without ino c.files
  pub says : ((has ino c.files ≡ 1) × (for_server r.sent ≡ DropRead c.conn ino ∷ []))
      ⊎ ((has ino c.files ≡ 2) × ((f : FlushMsg) × (f.release ≡ true) × (f.ino ≡ ino) × (for_server r.sent ≡ Flush c.conn f ∷ [])))

abbrev pub nothing : Ino → ℕ
nothing ino = 0

-- a line is begun, where none is under way
abbrev pub Begun : Client → Row Client → Type 0
Begun c r = Quiet c r ⊎ (Ends c nothing r ⊎ (AsksNow c r ⊎ Returns c r))

begun_if : (c : Client) (b : Bool) (x y : Row Client) → (b ≡ true → Begun c x) → (b ≡ false → Begun c y) → Begun c (cond b x y)
begun_if c true x y here other = here refl
begun_if c false x y here other = other refl

same_row : (c : Client) → Quiet c (stays c)
same_row c = record { conn = refl; under = refl; modes = λ x. refl; once = λ once. once; says = tt }

edit_begun : (c : Client) (number : ℕ) (text : Line) (e : Edit) (ino : Ino) (o : Result Change Refusal) → Begun c (edit_file c number text e ino o)
edit_begun c number text e ino (Err refusal) = inl (record { conn = refl; under = refl; modes = λ x. refl; once = λ once. once; says = tt })
edit_begun c number text e ino (Ok made) = begun_if c (is_writer ino c.files) _ _
    (λ is. inr (inl (record {
      conn = refl;
      under = tt;
      modes = λ x. let same = has_with x ino (with_piece (e.piece (context_in c.contexts ino))) (λ file. refl) c.files in omega (arith, same);
      once = λ once. distinct_with ino (with_piece (e.piece (context_in c.contexts ino))) c.files once;
      none = refl;
    })))
    (λ isnt. inr (inr (inl (record { number = number; tid = c.tid + 1; text = text; asked = request.Cap ino Write; before = None; conn = refl; under = refl; files = refl; free = has_reader ino c.files isnt; gone = tt; sent = refl }))))

edit_line_begun : (c : Client) (number : ℕ) (text : Line) (e : Edit) (o : Option Handle) → Begun c (edit_line c number text e o)
edit_line_begun c number text e None = inl (record { conn = refl; under = refl; modes = λ x. refl; once = λ once. once; says = tt })
edit_line_begun c number text e (Some h) = edit_begun c number text e h.ino (data_change (Some h) e.ends e.change)

read_begun : (c : Client) (number : ℕ) (text : Line) (o : Option Handle) → Begun c (read_line c number text o)
read_begun c number text None = inl (record { conn = refl; under = refl; modes = λ x. refl; once = λ once. once; says = tt })
read_begun c number text (Some h) = begun_if c (is_held h.ino c.files) _ _
    (λ is. inr (inl (record { conn = refl; under = tt; modes = λ x. omega arith; once = λ once. once; none = refl })))
    (λ isnt. inr (inr (inl (record { number = number; tid = c.tid + 1; text = text; asked = request.Cap h.ino Read; before = None; conn = refl; under = refl; files = refl; free = (not_held h.ino c.files isnt, refl); gone = tt; sent = refl }))))

-- a request that is for no capability
abbrev pub NoCap : Request → Type 0
NoCap (request.Cap ino mode) = ⊥
NoCap asked = Unit {0}

no_cap_free : (files : HeldFiles) (gone : List Ino) (asked : Request) → NoCap asked → CapFree files gone asked
no_cap_free files gone (request.Cap ino mode) is = absurd is
no_cap_free files gone asked is = tt

line_no_cap : (text : Line) → IfSome (request_of text) NoCap
line_no_cap (line.Mkdir path) = tt
line_no_cap (line.Rmdir path) = tt
line_no_cap (line.Create path mode) = tt
line_no_cap (line.Unlink path) = tt
line_no_cap (line.Link path target) = tt
line_no_cap (line.Rename path target) = tt
line_no_cap (line.Chmod path mode) = tt
line_no_cap (line.Open handle path writable) = tt
line_no_cap (line.Close handle) = tt
line_no_cap (line.Cat path) = tt
line_no_cap (line.Stat path) = tt
line_no_cap (line.List path) = tt
line_no_cap (line.Realm path) = tt
line_no_cap (line.Clones path index) = tt
line_no_cap (line.Write handle offset bytes) = tt
line_no_cap (line.Truncate handle size) = tt
line_no_cap (line.Read handle) = tt
line_no_cap line.Barrier = tt
line_no_cap line.Break = tt

asked_begun : (c : Client) (number : ℕ) (text : Line) (o : Option Request) → IfSome o NoCap → Begun c (begin_asked c number text o)
asked_begun c number text None is = inl (same_row c)
asked_begun c number text (Some asked) is = inr (inr (inl (record { number = number; tid = c.tid + 1; text = text; asked = asked; before = None; conn = refl; under = refl; files = refl; free = no_cap_free c.files [] asked is; gone = tt; sent = refl })))

other_begun : (c : Client) (number : ℕ) (text : Line) → Begun c (begin_other c number text)
other_begun c number (line.Read handle) = read_begun c number (line.Read handle) (opened c handle)
other_begun c number line.Barrier = inr (inr (inl (record { number = number; tid = c.tid + 1; text = line.Barrier; asked = request.Barrier (c.barriers + 1); before = None; conn = refl; under = refl; files = refl; free = tt; gone = tt; sent = refl })))
other_begun c number line.Break = inr (inr (inr (record { conn = refl; under = refl; files = refl; says = (claims c.files, c.unacked, open_request c.under, refl) })))
other_begun c number text = asked_begun c number text (request_of text) (line_no_cap text)

with_begun : (c : Client) (number : ℕ) (text : Line) (o : Option Edit) → Begun c (begin_with c number text o)
with_begun c number text (Some e) = edit_line_begun c number text e (opened c e.handle)
with_begun c number text None = other_begun c number text

-- at the client's own time: it connects anew, or nothing was open
abbrev pub Opens : Client → Row Client → Type 0
Opens c r = Returns c r ⊎ ((open_request c.under ≡ None) × Begun c r)

begin_opens : (c : Client) (number : ℕ) (text : Line) (under : Under) → c.under ≡ under → may_begin under text ≡ true → Opens c (begin c number text)
begin_opens c number text Idle is may = inr (ap open_request is, with_begun c number text (edit_of text))
begin_opens c number line.Break under is may = inl (record { conn = refl; under = refl; files = refl; says = (claims c.files, c.unacked, open_request c.under, refl) })
begin_opens c number text under is may = absurd (true≢false (sym may))

and_parts : (a b : Bool) → (a && b) ≡ true → (a ≡ true) × (b ≡ true)
and_parts true b is = (refl, is)
and_parts false b is = absurd (true≢false (sym is))

not_true : (a : Bool) → not a ≡ true → a ≡ false
not_true true is = absurd (true≢false (sym is))
not_true false is = refl

pub op_opens : (c : Client) (lines : List Line) → IfSome (op_of c lines) (λ r. (c.frozen ≡ false) × Opens c r)
op_opens c [] = tt
op_opens c (text ∷ rest) = by_test (not c.frozen && may_begin c.under text) refl
  where
    within : (r : Row Client) → Begun (record c { lines = rest; begun = c.begun + 1 }) r → Begun c r
    within r (inl q) = inl (record { conn = q.conn; under = q.under; modes = q.modes; once = q.once; says = q.says })
    within r (inr (inl q)) = inr (inl (record { conn = q.conn; under = q.under; modes = q.modes; once = q.once; none = q.none }))
    within r (inr (inr (inl q))) = inr (inr (inl (record { number = q.number; tid = q.tid; text = q.text; asked = q.asked; before = q.before; conn = q.conn; under = q.under; files = q.files; free = q.free; gone = q.gone; sent = q.sent })))
    within r (inr (inr (inr q))) = inr (inr (inr (record { conn = q.conn; under = q.under; files = q.files; says = q.says })))

    widen : (r : Row Client) → Opens (record c { lines = rest; begun = c.begun + 1 }) r → Opens c r
    widen r (inl q) = inl (record { conn = q.conn; under = q.under; files = q.files; says = q.says })
    widen r (inr q) = inr (q.0, within r q.1)

    by_test : (b : Bool) → (not c.frozen && may_begin c.under text) ≡ b → IfSome (cond b (Some (begin (record c { lines = rest; begun = c.begun + 1 }) (c.begun + 1) text)) None) (λ r. (c.frozen ≡ false) × Opens c r)
    by_test true is = (not_true c.frozen (and_parts (not c.frozen) (may_begin c.under text) is).0, widen _ (begin_opens (record c { lines = rest; begun = c.begun + 1 }) (c.begun + 1) text c.under refl (and_parts (not c.frozen) (may_begin c.under text) is).1))
    by_test false is = tt

-- what is due lets a file go that is held in this mode
abbrev DueMode : HeldFiles → Due → Type 0
DueMode files (due.Release ino size) = has ino files ≡ 2
DueMode files (due.DropRead ino) = has ino files ≡ 1
DueMode files other = Unit {0}

back_mode : (f : Ino × HeldFile) (files : HeldFiles) → DueMode (f ∷ files) (given_back f.0 f.1.size f.1.mode)
back_mode f files = by_mode f.1.mode refl
  where
    itself : is_ino f.0 f.0 ≡ true
    itself = grind (arith, nat_tests)

    by_mode : (m : Mode) → f.1.mode ≡ m → DueMode (f ∷ files) (given_back f.0 f.1.size m)
    by_mode Read is = rw itself (ap rank is)
    by_mode Write is = rw itself (ap rank is)

one_mode : (reading : Option Ino) (f : Ino × HeldFile) (files : HeldFiles) (items : List Item) → IfSome (due_of reading f.0 f.1 items) (DueMode (f ∷ files))
one_mode reading f files (OfPiece piece ∷ items) = tt
one_mode reading f files (OfMark mark ∷ items) = by_test (is_empty f.1.unacked)
  where
    by_test : (b : Bool) → IfSome (cond b (Some (due.Mark f.0 mark.follows mark.upto mark.size)) None) (DueMode (f ∷ files))
    by_test true = tt
    by_test false = tt
one_mode reading f files [] = by_test (f.1.recalled && is_empty f.1.unacked && not (is_read reading f.0))
  where
    by_test : (b : Bool) → IfSome (cond b (Some (given_back f.0 f.1.size f.1.mode)) None) (DueMode (f ∷ files))
    by_test true = back_mode f files
    by_test false = tt

later_mode : (f : Ino × HeldFile) (files : HeldFiles) (item : Due) → is_held f.0 files ≡ false → DueMode files item → DueMode (f ∷ files) item
later_mode f files (due.Piece ino) none is = tt
later_mode f files (due.Mark ino follows upto size) none is = tt
later_mode f files (due.Release ino size) none is = by_test (is_ino ino f.0) refl
  where
    by_test : (b : Bool) → is_ino ino f.0 ≡ b → rank_in (cond b (Some f.1) (file_of ino files)) ≡ 2
    by_test true at = let low : has ino files ≡ 0 = ap rank_in (file_same ino f.0 files at) ∙ not_held f.0 files none in absurd (omega (arith, low, is))
    by_test false at = is
later_mode f files (due.DropRead ino) none is = by_test (is_ino ino f.0) refl
  where
    by_test : (b : Bool) → is_ino ino f.0 ≡ b → rank_in (cond b (Some f.1) (file_of ino files)) ≡ 1
    by_test true at = let low : has ino files ≡ 0 = ap rank_in (file_same ino f.0 files at) ∙ not_held f.0 files none in absurd (omega (arith, low, is))
    by_test false at = is

pub due_mode : (reading : Option Ino) (files : HeldFiles) → Distinct files → IfSome (first_due reading files) (DueMode files)
due_mode reading [] once = tt
due_mode reading (f ∷ files) once = by_first (due_item reading f) (one_mode reading f files f.1.unsent) (first_due reading files) (due_mode reading files once.1)
  where
    by_first : (o : Option Due) → IfSome o (DueMode (f ∷ files)) → (p : Option Due) → IfSome p (DueMode files) → IfSome (or_else o p) (DueMode (f ∷ files))
    by_first (Some item) is p then = is
    by_first None is None then = tt
    by_first None is (Some item) then = later_mode f files item once.0 then

-- what is due is sent
item_quiet : (c : Client) (ino : Ino) (items : List Item) → Quiet c (send_item c ino items)
item_quiet c ino [] = same_row c
item_quiet c ino (OfPiece p ∷ items) = record { conn = refl; under = refl; modes = λ x. refl; once = λ once. once; says = tt }
item_quiet c ino (OfMark m ∷ items) = same_row c

sent_mode : (file : HeldFile) → (item_sent file).mode ≡ file.mode
sent_mode file = by_items file.unsent
  where
    by_items : (items : List Item) → (first_sent file items).mode ≡ file.mode
    by_items [] = refl
    by_items (OfPiece piece ∷ items) = refl
    by_items (OfMark mark ∷ items) = refl

due_row : (c : Client) (unsent : List Item) (item : Due) → DueMode c.files item → Quiet c (send_due (record c { files = sent item c.files }) unsent item) ⊎ LetsGo c (send_due (record c { files = sent item c.files }) unsent item)
due_row c unsent (due.Piece ino) is =
    let q = item_quiet (record c { files = sent (due.Piece ino) c.files }) ino unsent in
    inl (record { conn = q.conn; under = q.under; modes = λ x. q.modes x ∙ has_with x ino item_sent sent_mode c.files; once = λ once. q.once (distinct_with ino item_sent c.files once); says = q.says })
due_row c unsent (due.Mark ino follows upto size) is = inl (record { conn = refl; under = refl; modes = λ x. has_with x ino item_sent sent_mode c.files; once = λ once. distinct_with ino item_sent c.files once; says = (refl, tt) })
due_row c unsent (due.Release ino size) is = inr (record { ino = ino; conn = refl; under = refl; files = refl; says = inr (is, (release_flush c ino size, refl, refl, refl)) })
due_row c unsent (due.DropRead ino) is = inr (record { ino = ino; conn = refl; under = refl; files = refl; says = inl (is, refl) })

pub flush_lends : (c : Client) → Distinct c.files → IfSome (on_flush c) (λ r. (c.frozen ≡ false) × (Quiet c r ⊎ LetsGo c r))
flush_lends c once = by_test c.frozen refl
  where
    by_due : c.frozen ≡ false → (o : Option Due) → IfSome o (DueMode c.files) → IfSome (sends_due c o) (λ r. (c.frozen ≡ false) × (Quiet c r ⊎ LetsGo c r))
    by_due is None mode = tt
    by_due is (Some item) mode = (is, due_row c (unsent_in (file_of (file_due item) c.files)) item mode)

    by_test : (b : Bool) → c.frozen ≡ b → IfSome (cond b None (sends_due c (first_due (reading c.under) c.files))) (λ r. (c.frozen ≡ false) × (Quiet c r ⊎ LetsGo c r))
    by_test true is = tt
    by_test false is = by_due is (first_due (reading c.under) c.files) (due_mode (reading c.under) c.files once)

-- a row that changes nothing of it, or after which no request is open, as before
abbrev pub Closes : Client → Row Client → Type 0
Closes c r = Quiet c r ⊎ ((open_request c.under ≡ None) × Ends c nothing r)

closes_if : (c : Client) (b : Bool) (x y : Row Client) → Closes c x → Closes c y → Closes c (cond b x y)
closes_if c true x y here other = here
closes_if c false x y here other = other

-- the store's answers
read_closes : (c : Client) (said : FromStore) (under : Under) → c.under ≡ under → Closes c (take_read c said under)
read_closes c said Idle is = inl (same_row c)
read_closes c said (Open number tid text asked let_go) is = inl (same_row c)
read_closes c said (AtStore number entry ino head) is = closes_if c (is_key number (key_of said)) _ (stays c)
    (inr (ap open_request is, record { conn = refl; under = tt; modes = λ x. omega arith; once = λ once. once; none = refl })) (inl (same_row c))

pub stored_closes : (c : Client) (said : FromStore) → Closes c (on_stored c said)
stored_closes c said = closes_if c (from_store_fits said) (take_stored c said) (stays c) (by_said said) (inl (same_row c))
  where
    by_said : (said : FromStore) → Closes c (take_stored c said)
    by_said (Stored ino) = inl (record { conn = refl; under = refl; modes = λ x. has_with x ino stored (λ file. refl) c.files; once = λ once. distinct_with ino stored c.files once; says = tt })
    by_said (Got key bytes) = read_closes c (Got key bytes) c.under refl
    by_said (NotThere key) = read_closes c (NotThere key) c.under refl
    by_said (CloneListIs key list) = read_closes c (CloneListIs key list) c.under refl

-- a message of the server
abbrev pub gain_of : Client → ToClient → Ino → ℕ
gain_of c m x = gives c.conn (gone_in c.under) x m

-- what is asked for Write is asked for still
abbrev pub WantsStill : Client → Row Client → Type 0
WantsStill c r = (x : Ino) → wants_write x c.under ≡ true → wants_write x r.state.under ≡ true

abbrev pub Taken : Client → (Ino → ℕ) → Row Client → Type 0
Taken c gain r = Quiet c r ⊎ (Ends c gain r ⊎ (AsksNow c r × WantsStill c r))

taken_if : (c : Client) (gain : Ino → ℕ) (b : Bool) (x y : Row Client) → (b ≡ true → Taken c gain x) → Taken c gain y → Taken c gain (cond b x y)
taken_if c gain true x y here other = here refl
taken_if c gain false x y here other = other

-- a file that is held newly
hold_most : (x ino : Ino) (mode : Mode) (files : HeldFiles) (gain : ℕ) → has ino files ≤ rank mode → gain ≡ cond (is_ino x ino) (rank mode) 0 → cond (is_ino x ino) (rank mode) (has x files) ≡ max (has x files) gain
hold_most x ino mode files gain low exact = by_test (is_ino x ino) refl exact
  where
    by_test : (b : Bool) → is_ino x ino ≡ b → gain ≡ cond b (rank mode) 0 → cond b (rank mode) (has x files) ≡ max (has x files) gain
    by_test true is exact = let same = ap rank_in (file_same x ino files is) in let few = low in omega (arith, exact, same, few)
    by_test false is exact = omega (arith, exact)

goes_on_ends : (c : Client) (gain : Ino → ℕ) (number : ℕ) (stamp : Stamp) (ino : Ino) (mode : Mode) (size : ℕ) (file : FileTrace) (o : Option Edit) → has ino c.files ≤ rank mode → ((x : Ino) → gain x ≡ cond (is_ino x ino) (rank mode) 0) → Ends c gain (goes_on (granted c ino mode size stamp.snap file) number ino o)
goes_on_ends c gain number stamp ino mode size file (Some e) low exact =
    let change = with_piece (e.piece (context_in (granted c ino mode size stamp.snap file).contexts ino)) in
    let files = hold ino mode size stamp.snap c.files in
    record {
      conn = refl;
      under = tt;
      modes = λ x. let same = has_with x ino change (λ file. refl) files in let held = has_hold x ino mode size stamp.snap c.files in let most = hold_most x ino mode c.files (gain x) low (exact x) in omega (arith, same, held, most);
      once = λ once. distinct_with ino change files (distinct_hold ino mode size stamp.snap c.files once);
      none = refl;
    }
goes_on_ends c gain number stamp ino mode size file None low exact = record {
  conn = refl;
  under = tt;
  modes = λ x. let held = has_hold x ino mode size stamp.snap c.files in let most = hold_most x ino mode c.files (gain x) low (exact x) in omega (arith, held, most);
  once = λ once. distinct_hold ino mode size stamp.snap c.files once;
  none = refl;
}

-- who doesn't write a file holds it in no mode above one that is given
low_rank : (mode : Mode) (held : ℕ) → held ≤ 1 → held ≤ rank mode
low_rank Read held few = few
low_rank Write held few = omega (arith, few)

third_true : (a b d : Bool) → (a && b && d) ≡ true → d ≡ true
third_true true true d is = is
third_true true false d is = absurd (true≢false (sym is))
third_true false b d is = absurd (true≢false (sym is))

grant_taken : (c : Client) (gain : Ino → ℕ) (tid : ℕ) (stamp : Stamp) (ino : Ino) (mode : Mode) (size : ℕ) (file : FileTrace) (under : Under) → ((x : Ino) → gain x ≡ cond (is_ino x ino) (rank mode) 0) → Taken c gain (take_grant c tid stamp ino mode size file under)
grant_taken c gain tid stamp ino mode size file Idle exact = inl (same_row c)
grant_taken c gain tid stamp ino mode size file (AtStore number entry other head) exact = inl (same_row c)
grant_taken c gain tid stamp ino mode size file (Open number open_tid text asked let_go) exact =
    taken_if c gain (open_tid == tid && asks_for asked ino mode && not (is_writer ino c.files)) _ (stays c)
    (λ is. inr (inl (goes_on_ends c gain number stamp ino mode size file (edit_of text) (low_rank mode (has ino c.files) (has_reader ino c.files (not_true (is_writer ino c.files) (third_true (open_tid == tid) (asks_for asked ino mode) (not (is_writer ino c.files)) is)))) exact))) (inl (same_row c))

ends_if : (c : Client) (gain : Ino → ℕ) (b : Bool) (x y : Row Client) → Ends c gain x → Ends c gain y → Ends c gain (cond b x y)
ends_if c gain true x y here other = here
ends_if c gain false x y here other = other

found_ends : (c : Client) (gain : Ino → ℕ) (number : ℕ) (asked : Request) (entry : ℕ) (ino : Ino) (perm size : ℕ) (settled : SnapId) (write_held : Bool) → (write_held ≡ false → has ino c.files ≤ 1) → ((x : Ino) → gain x ≡ cond (is_ino x ino && not write_held) 1 0) → Ends c gain (with_found (found c ino size settled write_held) number asked entry ino perm)
found_ends c gain number asked entry ino perm size settled write_held low exact = ends_if c gain (wants_bytes asked) _ _
    (record { conn = refl; under = tt; modes = λ x. now write_held low (exact x); once = λ once. still write_held once; none = refl })
    (record { conn = refl; under = tt; modes = λ x. now write_held low (exact x); once = λ once. still write_held once; none = refl })
  where
    as_read : (a : Bool) → ◌≡◌ {A = ℕ} (cond (a && not false) 1 0) (cond a 1 0)
    as_read true = refl
    as_read false = refl

    as_none : (a : Bool) → ◌≡◌ {A = ℕ} (cond (a && not true) 1 0) 0
    as_none true = refl
    as_none false = refl

    now : {x : Ino} (b : Bool) → (b ≡ false → has ino c.files ≤ 1) → gain x ≡ cond (is_ino x ino && not b) 1 0 → has x (cond b c.files (hold ino Read size settled c.files)) ≡ max (has x c.files) (gain x)
    now {x} true low exact = let none = as_none (is_ino x ino) in omega (arith, exact, none)
    now {x} false low exact = let held = has_hold x ino Read size settled c.files in let most = hold_most x ino Read c.files (gain x) (low refl) (exact ∙ as_read (is_ino x ino)) in omega (arith, held, most)

    still : (b : Bool) → Distinct c.files → Distinct (cond b c.files (hold ino Read size settled c.files))
    still true once = once
    still false once = distinct_hold ino Read size settled c.files once

-- what an answer that finds a file gives
abbrev FindGain : (Ino → ℕ) → List Ino → Answer → Type 0
FindGain gain gone (answer.FoundLive ino perm size write_held) = is_gone ino gone ≡ false → (x : Ino) → gain x ≡ cond (is_ino x ino && not write_held) 1 0
FindGain gain gone said = (x : Ino) → gain x ≡ 0

answer_taken : (c : Client) (gain : Ino → ℕ) (number : ℕ) (text : Line) (asked : Request) (let_go : List Ino) (stamp : Stamp) (said : Answer) → let_go ≡ gone_in c.under → ((x : Ino) → wants_write x c.under ≡ true → asks_write x asked ≡ true) → takes_answer c said ≡ true → CapFree c.files [] asked → FindGain gain let_go said → Taken c gain (take_answer c number text asked let_go stamp said)
answer_taken c gain number text asked let_go stamp (answer.FoundLive ino perm size write_held) same wants takes free exact = by_test (list_any (is_ino ino) let_go) refl
  where
    by_test : (b : Bool) → list_any (is_ino ino) let_go ≡ b → Taken c gain (cond b (asks_anew c number text asked ino) (with_found (found c ino size stamp.snap write_held) number asked stamp.entry ino perm))
    by_test true is = inr (inr (record { number = number; tid = c.tid + 1; text = text; asked = asked; before = Some ino; conn = refl; under = refl; files = refl; free = free; gone = subst (λ (l : List Ino). is_gone ino l ≡ true) same is; sent = refl }, wants))
    by_test false is = inr (inl (found_ends c gain number asked stamp.entry ino perm size stamp.snap write_held (λ not_writer. has_reader ino c.files (not_true (is_writer ino c.files) (by_other write_held (not (is_writer ino c.files)) takes not_writer))) (exact is)))
      where
        by_other : (a b : Bool) → (a || b) ≡ true → a ≡ false → b ≡ true
        by_other true b is none = absurd (true≢false none)
        by_other false b is none = is
answer_taken c gain number text asked let_go stamp (answer.FoundSnap ino snap size) same wants takes free exact = inr (inl (record { conn = refl; under = tt; modes = λ x. let none = exact x in omega (arith, none); once = λ once. once; none = refl }))
answer_taken c gain number text asked let_go stamp (answer.FoundObject ino index) same wants takes free exact = inr (inl (record { conn = refl; under = tt; modes = λ x. let none = exact x in omega (arith, none); once = λ once. once; none = refl }))
answer_taken c gain number text asked let_go stamp said same wants takes free exact = inr (inl (record { conn = refl; under = tt; modes = λ x. let none = exact x in omega (arith, none); once = λ once. once; none = refl }))

-- what is asked for isn't held, sent again too
pub free_again : (files : HeldFiles) (gone : List Ino) (asked : Request) → CapFree files gone asked → CapFree files [] asked
free_again files gone (request.Cap file Read) free = (free.0, refl)
free_again files gone (request.Cap file Write) free = free
free_again files gone asked free = tt

reply_taken : (c : Client) (gain : Ino → ℕ) (tid : ℕ) (stamp : Stamp) (said : Answer) (under : Under) → gone_in under ≡ gone_in c.under → ((x : Ino) → wants_write x c.under ≡ true → wants_write x under ≡ true) → Frees c.files under → FindGain gain (gone_in under) said → Taken c gain (take_reply c tid stamp said under)
reply_taken c gain tid stamp said Idle same wants frees exact = inl (same_row c)
reply_taken c gain tid stamp said (AtStore number entry ino head) same wants frees exact = inl (same_row c)
reply_taken c gain tid stamp said (Open number open_tid text asked let_go) same wants frees exact =
    taken_if c gain (open_tid == tid && takes_answer c said) _ (stays c) (λ is. answer_taken c gain number text asked let_go stamp said same wants (and_parts (open_tid == tid) (takes_answer c said) is).1 (free_again c.files let_go asked frees.1) exact) (inl (same_row c))

-- notices leave the modes
marked_mode : (old new : Context) (file : HeldFile) → (marked old new file).mode ≡ file.mode
marked_mode old new file = by_test (nat_lt old.seq.0 new.seq.0)
  where
    by_test : (b : Bool) → (cond b (with_mark (record { follows = old.seq; upto = new.seq; size = file.size }) file) file).mode ≡ file.mode
    by_test true = refl
    by_test false = refl

updated_modes : (x : Ino) (update : List FileTrace) (c : Client) → has x (updated c update).files ≡ has x c.files
updated_modes x update c = updated_same (λ (v : Client). has x v.files) (λ v ino new. has_with x ino (marked (context_in v.contexts ino) new) (marked_mode (context_in v.contexts ino) new) v.files) update c

updated_once : (update : List FileTrace) (c : Client) → Distinct c.files → Distinct (updated c update).files
updated_once [] c once = once
updated_once (file ∷ update) c once = updated_once update (cond (is_writer file.ino c.files) (renewed c file.ino (context_by file)) c) (by_test (is_writer file.ino c.files))
  where
    by_test : (b : Bool) → Distinct (cond b (renewed c file.ino (context_by file)) c).files
    by_test true = distinct_with file.ino (marked (context_in c.contexts file.ino) (context_by file)) c.files once
    by_test false = once

update_quiet : (c v : Client) (update : List FileTrace) → v.conn ≡ c.conn → v.under ≡ c.under → ((x : Ino) → has x v.files ≡ has x c.files) → (Distinct c.files → Distinct v.files) → Quiet c (stays (updated v update))
update_quiet c v update conn under modes once = record {
  conn = updated_same (λ (y : Client). y.conn) (λ y ino new. refl) update v ∙ conn;
  under = updated_same (λ (y : Client). y.under) (λ y ino new. refl) update v ∙ under;
  modes = λ x. updated_modes x update v ∙ modes x;
  once = λ was. updated_once update v (once was);
  says = tt;
}

-- an answer of the present connection
abbrev pub IsOwn : Client → ToClient → Type 0
IsOwn c m = (mark m ≡ Number c.conn) × IsAnswer c m

-- what a message of the server makes of the client
abbrev pub ToldLends : Client → ToClient → Row Client → Type 0
ToldLends c m r = Quiet c r ⊎ ((IsOwn c m × (Ends c (gain_of c m) r ⊎ (AsksNow c r × WantsStill c r))) ⊎ Returns c r)

heard_same : (c : Client) (m : ToClient) → Quiet c (stays (having_heard c m))
heard_same c m = record { conn = refl; under = refl; modes = λ x. refl; once = λ once. once; says = tt }

wide_taken : (c : Client) (m : ToClient) (r : Row Client) → IsOwn c m → Taken (having_heard c m) (gain_of c m) r → ToldLends c m r
wide_taken c m r own (inl q) = inl (record { conn = q.conn; under = q.under; modes = q.modes; once = q.once; says = q.says })
wide_taken c m r own (inr (inl q)) = inr (inl (own, inl (record { conn = q.conn; under = q.under; modes = q.modes; once = q.once; none = q.none })))
wide_taken c m r own (inr (inr q)) = inr (inl (own, inr (record { number = q.0.number; tid = q.0.tid; text = q.0.text; asked = q.0.asked; before = q.0.before; conn = q.0.conn; under = q.0.under; files = q.0.files; free = q.0.free; gone = q.0.gone; sent = q.0.sent }, q.1)))

first_of_two : (a b : Bool) → (a && b) ≡ true → a ≡ true
first_of_two true b is = refl
first_of_two false b is = is

numbered_lends : (c : Client) (conn : ℕ) (fits : Bool) (r : Row Client) (m : ToClient) → ((conn == c.conn) ≡ true → ToldLends c m r) → ToldLends c m (cond (conn == c.conn && fits) r (stays (having_heard c m)))
numbered_lends c conn fits r m row = by_test (conn == c.conn && fits) refl
  where
    by_test : (b : Bool) → (conn == c.conn && fits) ≡ b → ToldLends c m (cond b r (stays (having_heard c m)))
    by_test true test = row (first_of_two (conn == c.conn) fits test)
    by_test false test = inl (heard_same c m)

pub gone_same : (x ino : Ino) (gone : List Ino) → is_ino x ino ≡ true → is_gone x gone ≡ is_gone ino gone
gone_same x ino [] is = refl
gone_same x ino (y ∷ gone) is = both_same (is_ino x y) (is_ino ino y) (is_gone x gone) (is_gone ino gone) (grind (arith, nat_tests, is)) (gone_same x ino gone is)
  where
    both_same : (a b p q : Bool) → a ≡ b → p ≡ q → (a || p) ≡ (b || q)
    both_same a b p q one two = rw (one, two) refl

one_if : (a b d e : Bool) → a ≡ true → (b ≡ true → e ≡ false) → ◌≡◌ {A = ℕ} (cond a (cond (b && not d && not e) 1 0) 0) (cond (b && not d) 1 0)
one_if true true true e one none = refl
one_if true true false true one none = absurd (true≢false (none refl))
one_if true true false false one none = refl
one_if true false d e one none = refl
one_if false b d e one none = absurd (true≢false (sym one))

find_gain : (b : Bool) (gone : List Ino) (said : Answer) → b ≡ true → FindGain (λ x. cond b (found_in gone x said) 0) gone said
find_gain b gone (answer.FoundLive ino perm size write_held) now = λ not_gone x. one_if b (is_ino x ino) write_held (is_gone x gone) now (λ same. gone_same x ino gone same ∙ not_gone)
find_gain b gone said now = λ x. rw now refl

grant_gain : (a : Bool) (x ino : Ino) (mode : Mode) → a ≡ true → cond (a && is_ino x ino) (rank mode) 0 ≡ cond (is_ino x ino) (rank mode) 0
grant_gain a x ino mode now = rw now refl

same_number : (a b : ℕ) → (a == b) ≡ true → a ≡ b
same_number a b test = grind (arith, nat_tests, test)

pub told_lends : (c : Client) (m : ToClient) → Frees c.files c.under → ToldLends c m (on_told c m)
told_lends c (Restarted st) frees = by_test (to_client_fits (Restarted st))
  where
    by_test : (b : Bool) → ToldLends c (Restarted st) (cond b (connects (having_heard c (Restarted st))) (stays (having_heard c (Restarted st))))
    by_test true = inr (inr (record { conn = refl; under = refl; files = refl; says = (claims c.files, c.unacked, open_request c.under, refl) }))
    by_test false = inl (heard_same c (Restarted st))
told_lends c (Reply conn tid st said) frees = let m = Reply conn tid st said in
    numbered_lends c conn (to_client_fits m) (take_reply (having_heard c m) tid st said c.under) m (λ now. wide_taken c m _ (ap Number (same_number conn c.conn now), λ rest. rw now refl) (reply_taken (having_heard c m) (gain_of c m) tid st said c.under refl (λ x is. is) frees (find_gain (conn == c.conn) (gone_in c.under) said now)))
told_lends c (Grant conn tid st ino mode size file) frees = let m = Grant conn tid st ino mode size file in
    numbered_lends c conn (to_client_fits m) (take_grant (having_heard c m) tid st ino mode size file c.under) m (λ now. wide_taken c m _ (ap Number (same_number conn c.conn now), λ rest. rw now refl) (grant_taken (having_heard c m) (gain_of c m) tid st ino mode size file c.under (λ x. grant_gain (conn == c.conn) x ino mode now)))
told_lends c (Recall conn st ino) frees = let m = Recall conn st ino in
    numbered_lends c conn (to_client_fits m) (take_own (having_heard c m) m) m (λ now. inl (record { conn = refl; under = refl; modes = λ x. has_with x ino recalled (λ file. refl) c.files; once = λ once. distinct_with ino recalled c.files once; says = tt }))
told_lends c (Notice conn st update) frees = let m = Notice conn st update in
    numbered_lends c conn (to_client_fits m) (take_own (having_heard c m) m) m (λ now. inl (update_quiet c (having_heard c m) update refl refl (λ x. refl) (λ once. once)))
told_lends c (FlushAck conn st number) frees = let m = FlushAck conn st number in
    numbered_lends c conn (to_client_fits m) (take_own (having_heard c m) m) m (λ now. inl (record { conn = refl; under = refl; modes = λ x. has_settled x (filter (λ (f : FlushMsg). f.number == number) c.unacked) c.files; once = λ once. distinct_settled (filter (λ (f : FlushMsg). f.number == number) c.unacked) c.files once; says = tt }))
told_lends c (Welcome conn st last update) frees = let m = Welcome conn st last update in
    numbered_lends c conn (to_client_fits m) (take_own (having_heard c m) m) m (λ now. inl (update_quiet c (acked (record (having_heard c m) { frozen = false }) (λ i. nat_le i last)) update refl refl (λ x. has_settled x (filter (λ (f : FlushMsg). nat_le f.number last) c.unacked) c.files) (λ once. distinct_settled (filter (λ (f : FlushMsg). nat_le f.number last) c.unacked) c.files once)))

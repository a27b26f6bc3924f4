-- What each row tells a client of its changes.
use Rattle.std.proofs.Common.{◌≡◌, ◌<◌, ℕ, ◌+◌, List, [], ◌∷◌, ◌++◌, take, drop, Bool, true, false, true≢false, not, cond, Option, None, Some, refl, sym, ap, ◌∙◌, subst, IfSome, arith, inl, inr}
use Rattle.std.proofs.lemmas.List.{take-append-drop}
use Rattle.std.proofs.lemmas.Bool.Decides.{nat_tests}
use Rattle.std.specs.Prelude.{◌==◌, ◌&&◌, nat_le, is_some, count_by, Result, Ok, Err}
use Rattle.std.specs.List.{list_any}
use Rattle.snap_ids.specs.declared.id.Ino.{Ino}
use Rattle.snap_ids.specs.declared.values.Mode.{Mode}
use Rattle.snap_ids.specs.declared.values.Mode.TheVariants.{Read, Write}
use Rattle.plain_types.specs.declared.answer.Answer.{Answer}
use Rattle.plain_types.specs.declared.answer.Answer.TheVariants as answer
use Rattle.plain_types.specs.declared.answer.Refusal.{Refusal}
use Rattle.plain_types.specs.declared.change.Change.{Change}
use Rattle.plain_types.specs.declared.change.Change.TheVariants as change
use Rattle.plain_types.specs.declared.entry.Entry.{Entry}
use Rattle.plain_types.specs.declared.history.Replied.{Replied}
use Rattle.plain_types.specs.declared.message.FileTrace.{FileTrace}
use Rattle.plain_types.specs.declared.message.FromStore.{FromStore}
use Rattle.plain_types.specs.declared.message.FromStore.TheVariants.{Got, NotThere, CloneListIs, Stored}
use Rattle.plain_types.specs.declared.message.Stamp.{Stamp}
use Rattle.plain_types.specs.declared.message.ToClient.{ToClient}
use Rattle.plain_types.specs.declared.message.ToClient.TheVariants.{Reply, Grant, Recall, Notice, FlushAck, Welcome, Restarted}
use Rattle.plain_types.specs.declared.message.ToServer.{ToServer}
use Rattle.plain_types.specs.declared.request.Request.{Request}
use Rattle.plain_types.specs.declared.request.Request.TheVariants as request
use Rattle.plain_types.specs.declared.script.Line.{Line}
use Rattle.plain_types.specs.declared.script.Line.TheVariants as line
use Rattle.plain_tree.specs.State.{Handle}
use Rattle.plain_tree.specs.Line.{request_of, data_change, answer_to as answer_to_change}
use Rattle.plain_journal.specs.Entries.{change_in}
use Rattle.plain_journal.specs.Table.{answer_kept}
use Rattle.held_files.specs.declared.due.Due.{Due}
use Rattle.held_files.specs.declared.due.Due.TheVariants as due
use Rattle.held_files.specs.Due.{first_due, sent}
use Rattle.held_files.specs.Files.{Item, OfPiece, OfMark, file_of, is_writer, is_held, is_ino}
use Rattle.step_table.specs.Messages.{to_client_fits, from_store_fits}
use Rattle.step_table.specs.Row.{Row}
use Rattle.step_table.specs.ServerState.{Server}
use Rattle.step_table.specs.Requests.{kept_for}
use Rattle.step_table.specs.ClientState.{Client, Under, Idle, Open, AtStore, Edit, edit_of, open_request, size_of, stays, asks, edits, reads_head, replies, connects}
use Rattle.step_table.specs.ClientLines.{edit_file, edit_line, read_line, opened, begin_asked, begin_other, begin_with, begin, may_begin, op_of, on_op, on_flush, send_item, send_due, sends_due, unsent_in, file_due, reading}
use Rattle.step_table.specs.ClientTakes.{having_heard, may_take, goes_on, granted, asks_for, take_grant, with_found, found, asks_anew, take_answer, takes_answer, take_reply, take_own, is_success, wants_bytes, on_told, key_of, is_key, store_answer, take_read, take_stored, on_stored, acked}
use Rattle.run_laws.specs.Links.{Offer}
use Rattle.run_laws.specs.Requests.{is_of, AllUpTo, AllAbove, Rising}
use Rattle.run_laws.specs.Answered.{AllOpen, effects_of, CanMake, AllMadeBy, kept_of, ByKept}
use Rattle.run_laws.specs.OpenHandles.{is_open}
use Rattle.run_laws.specs.Told.{edits_of, owed}
use Rattle.run_laws.proofs.Clients.{Acts, op_acts, flush_acts, store_hidden, updated_same}
use Rattle.run_laws.proofs.Effects.{last_from, upto_front, rising_front}
use Rattle.run_laws.proofs.Making.{IsNew, op_new}
use Rattle.run_laws.proofs.Quiet.{no_success}
use Rattle.run_laws.proofs.Strangers.{NoneOf}
use Rattle.run_laws.proofs.Buffered.{asking_of, behind_later}
use Rattle.run_laws.proofs.Answering.{Replied as RepliedView, last_same, last_none, kept_front, never_kept, made_front}
use Rattle.run_laws.proofs.Opening.{Opening, MadeFor, NotOf, last_ends, not_its, both_are, its_tid, not_now, upto_not, none_above, first_of_two, last_open, asked_again}

-- the replies that tell a client of a change
abbrev pub told_of : ℕ → List Replied → ℕ
told_of n said = count_by (λ (reply : Replied). reply.client == n && reply.changed) said

-- its effects among entries, all but that of its open request
abbrev pub answered_of : ℕ → Option (ℕ × Request) → List Entry → ℕ
answered_of n o [] = 0
answered_of n o (e ∷ entries) = cond (is_of n e && not (is_open o e.number)) (answered_of n o entries + 1) (answered_of n o entries)

-- entries, one by one
skips : (b : Bool) (x : ℕ) → b ≡ false → cond b (x + 1) x ≡ x
skips true x is = absurd (true≢false is)
skips false x is = refl

counts : (b : Bool) (x : ℕ) → b ≡ true → cond b (x + 1) x ≡ x + 1
counts true x is = refl
counts false x is = absurd (true≢false (sym is))

same_step : (a b : Bool) (x y : ℕ) → a ≡ b → x ≡ y → cond a (x + 1) x ≡ cond b (y + 1) y
same_step a b x y test rest = ap (λ (t : Bool). cond t (x + 1) x) test ∙ ap (λ (k : ℕ). cond b (k + 1) k) rest

pub answered_append : (n : ℕ) (o : Option (ℕ × Request)) (xs ys : List Entry) → answered_of n o (xs ++ ys) ≡ answered_of n o xs + answered_of n o ys
answered_append n o [] ys = omega arith
answered_append n o (e ∷ xs) ys = by_test (is_of n e && not (is_open o e.number)) (answered_append n o xs ys)
  where
    by_test : (b : Bool) → answered_of n o (xs ++ ys) ≡ answered_of n o xs + answered_of n o ys → cond b (answered_of n o (xs ++ ys) + 1) (answered_of n o (xs ++ ys)) ≡ cond b (answered_of n o xs + 1) (answered_of n o xs) + answered_of n o ys
    by_test true is = omega (arith, is)
    by_test false is = is

pub answered_open : (n : ℕ) (o : Option (ℕ × Request)) (entries : List Entry) → AllOpen n o entries → answered_of n o entries ≡ 0
answered_open n o [] all = refl
answered_open n o (e ∷ entries) all = skips (is_of n e && not (is_open o e.number)) (answered_of n o entries) (by_test (is_of n e) refl) ∙ answered_open n o entries all.1
  where
    by_test : (b : Bool) → is_of n e ≡ b → (b && not (is_open o e.number)) ≡ false
    by_test true is = not_now true (is_open o e.number) (its_tid o e.number (all.0 is))
    by_test false is = refl

answered_not : (n : ℕ) (o : Option (ℕ × Request)) (entries : List Entry) → NotOf n o entries → answered_of n o entries ≡ answered_of n None entries
answered_not n o [] all = refl
answered_not n o (e ∷ entries) all = same_step (is_of n e && not (is_open o e.number)) (is_of n e && true) (answered_of n o entries) (answered_of n None entries) (by_test (is_of n e) refl) (answered_not n o entries all.1)
  where
    by_test : (b : Bool) → is_of n e ≡ b → (b && not (is_open o e.number)) ≡ (b && true)
    by_test true is = ap not (all.0 is)
    by_test false is = refl

answered_none : (n : ℕ) (entries : List Entry) → answered_of n None entries ≡ effects_of n entries
answered_none n [] = refl
answered_none n (e ∷ entries) = same_step (is_of n e && true) (is_of n e) (answered_of n None entries) (effects_of n entries) (by_test (is_of n e)) (answered_none n entries)
  where
    by_test : (b : Bool) → (b && true) ≡ b
    by_test true = refl
    by_test false = refl

none_answered : (n : ℕ) (o : Option (ℕ × Request)) (entries : List Entry) → NoneOf n entries → answered_of n o entries ≡ 0
none_answered n o [] none = refl
none_answered n o (e ∷ entries) none = skips (is_of n e && not (is_open o e.number)) (answered_of n o entries) (not_its (is_of n e) (not (is_open o e.number)) none.0) ∙ none_answered n o entries none.1

no_effects : (n : ℕ) (entries : List Entry) → NoneOf n entries → effects_of n entries ≡ 0
no_effects n entries none = sym (answered_none n entries) ∙ none_answered n None entries none

-- what is owed is the effect of the open request
abbrev owes : Option Answer → ℕ
owes o = cond (is_some o) 1 0

adds : (a b x y e f : ℕ) → a ≡ x → b ≡ y → e ≡ f → x + y ≡ f → a + b ≡ e
adds a b x y e f one two all is = omega (arith, one, two, all, is)

owed_from : (n : ℕ) (r : ℕ × Request) (entries : List Entry) (last : Option (ℕ × Answer)) → Rising n entries → AllUpTo n r.0 entries → kept_for r.0 last ≡ None → answered_of n (Some r) entries + owes (kept_for r.0 (last_from n last entries)) ≡ effects_of n entries
owed_from n r [] last rising upto none = ap (λ (o : Option Answer). 0 + owes o) none
owed_from n r (e ∷ entries) last rising upto none = by_test (is_of n e) refl (λ last none. owed_from n r entries last rising.1 upto.1 none)
  where
    Go : Type 0
    Go = (last : Option (ℕ × Answer)) → kept_for r.0 last ≡ None → answered_of n (Some r) entries + owes (kept_for r.0 (last_from n last entries)) ≡ effects_of n entries

    Goal : Type 0
    Goal = answered_of n (Some r) (e ∷ entries) + owes (kept_for r.0 (last_from n last (e ∷ entries))) ≡ effects_of n (e ∷ entries)

    its_client : (a b : Bool) → (a && b) ≡ true → b ≡ true
    its_client true b is = is
    its_client false b is = absurd (true≢false (sym is))

    by_change : is_of n e ≡ true → (o : Option Change) → change_in e.what ≡ o → Go → Goal
    by_change is None says go = absurd (true≢false (sym is ∙ rw says refl))
    by_change is (Some by) says go = by_number (e.number == r.0) refl
      where
        client : (e.client == n) ≡ true
        client = its_client (is_some (change_in e.what)) (e.client == n) is

        now : cond (e.client == n) (answer_kept (change_in e.what) e.number last) last ≡ Some (e.number, answer_to_change by)
        now = rw (client, says) refl

        next : owes (kept_for r.0 (last_from n last (e ∷ entries))) ≡ owes (kept_for r.0 (last_from n (Some (e.number, answer_to_change by)) entries))
        next = ap (λ (x : Option (ℕ × Answer)). owes (kept_for r.0 (last_from n x entries))) now

        one : effects_of n (e ∷ entries) ≡ effects_of n entries + 1
        one = counts (is_of n e) (effects_of n entries) is

        more : (a b f : ℕ) → a + b ≡ f → (a + 1) + b ≡ f + 1
        more a b f is = omega (arith, is)

        by_number : (b : Bool) → (e.number == r.0) ≡ b → Goal
        by_number false differs = adds _ _ (answered_of n (Some r) entries + 1) (owes (kept_for r.0 (last_from n (Some (e.number, answer_to_change by)) entries))) _ (effects_of n entries + 1)
            (counts (is_of n e && not (e.number == r.0)) (answered_of n (Some r) entries) (both_are (is_of n e) (e.number == r.0) is differs)) next one
            (more (answered_of n (Some r) entries) (owes (kept_for r.0 (last_from n (Some (e.number, answer_to_change by)) entries))) (effects_of n entries) (go (Some (e.number, answer_to_change by)) (rw differs refl)))
        by_number true same = adds _ _ 0 1 _ 1
            (skips (is_of n e && not (e.number == r.0)) (answered_of n (Some r) entries) (not_now (is_of n e) (e.number == r.0) same) ∙ none_answered n (Some r) entries rest)
            (next ∙ ap (λ (x : Option (ℕ × Answer)). owes (kept_for r.0 x)) (last_none n entries (Some (e.number, answer_to_change by)) rest) ∙ ap (λ (b : Bool). owes (cond b (Some (answer_to_change by)) None)) same)
            (one ∙ ap (λ (k : ℕ). k + 1) (no_effects n entries rest))
            refl
          where
            number : e.number ≡ r.0
            number = grind (arith, nat_tests, same)

            rest : NoneOf n entries
            rest = none_above n r.0 entries (subst (λ (t : ℕ). AllAbove n t entries) number (rising.0 is)) upto.1

    by_test : (b : Bool) → is_of n e ≡ b → Go → Goal
    by_test true is go = by_change is (change_in e.what) refl go
    by_test false isnt go = adds _ _ (answered_of n (Some r) entries) (owes (kept_for r.0 (last_from n last entries))) _ (effects_of n entries)
        (skips (is_of n e && not (e.number == r.0)) (answered_of n (Some r) entries) (not_its (is_of n e) (not (e.number == r.0)) isnt))
        (ap (λ (x : Option (ℕ × Answer)). owes (kept_for r.0 (last_from n x entries))) (last_same n e last isnt))
        (skips (is_of n e) (effects_of n entries) isnt)
        (go last none)

pub owed_is : (n : ℕ) (o : Option (ℕ × Request)) (entries : List Entry) → Rising n entries → IfSome o (λ r. AllUpTo n r.0 entries) → answered_of n o entries + owed n o entries ≡ effects_of n entries
owed_is n None entries rising upto = adds _ _ (effects_of n entries) 0 _ (effects_of n entries) (answered_none n entries) refl refl (omega arith)
owed_is n (Some r) entries rising upto = owed_from n r entries None rising upto refl

-- the answer to a change that was made is a success
can_succeed : (asked : Request) (made : Change) → CanMake asked made → is_success asked (answer_to_change made) ≡ true
can_succeed (request.Mkdir path) (change.Mkdir dir name ino) can = refl
can_succeed (request.Mkdir path) (change.Mksnap id dir name) can = refl
can_succeed (request.Rmdir path) (change.Rmdir dir name) can = refl
can_succeed (request.Rmdir path) (change.Rmsnap id) can = refl
can_succeed (request.Create path mode) (change.Create dir name ino given) can = refl
can_succeed (request.Unlink path) (change.Unlink dir name) can = refl
can_succeed (request.Link path target) (change.Link ino dir name) can = refl
can_succeed (request.Rename path target) (change.Rename dir name to_dir to_name) can = refl
can_succeed (request.Chmod path mode) (change.Chmod ino given) can = refl
can_succeed (request.Open handle path writable) (change.OpenFile opened ino can_write) can = refl
can_succeed (request.Close handle) (change.CloseFile closed) can = refl
can_succeed asked made can = absurd can

-- what is known of the durable entries
record AtFront (n tid : ℕ) (o : Option (ℕ × Request)) (front : List Entry) : Type 0 where
  pub rising : Rising n front
  pub upto : AllUpTo n tid front
  pub made : MadeFor n front o

-- an answer that is taken tells of the effect, where there is one
gained : (n : ℕ) (r : ℕ × Request) (front : List Entry) (said : Answer) → Rising n front → AllUpTo n r.0 front → AllMadeBy n r.0 r.1 front → ByKept r.1 (kept_of n r.0 front) said → answered_of n (Some r) front + cond (is_success r.1 said) 1 0 ≡ answered_of n None front
gained n r front said rising upto made by = adds _ _ (answered_of n (Some r) front) (owed n (Some r) front) _ (effects_of n front) refl (by_kept (kept_of n r.0 front) refl by) (answered_none n front) (owed_is n (Some r) front rising upto)
  where
    by_kept : (o : Option Answer) → kept_of n r.0 front ≡ o → ByKept r.1 o said → cond (is_success r.1 said) 1 0 ≡ owed n (Some r) front
    by_kept None none fails = ap (λ (b : Bool). cond b 1 0) fails.0 ∙ ap owes (sym none)
    by_kept (Some k) kept same =
        let ends = last_ends n r k front None [] rising upto made refl kept in
        ap (λ (b : Bool). cond b 1 0) (ap (is_success r.1) (same ∙ sym ends.1) ∙ can_succeed r.1 ends.0 ends.2) ∙ ap owes (sym kept)

-- The client was told of so many changes, and so many of them are of bytes.
abbrev pub Credit : ℕ → ℕ → ℕ → Option (ℕ × Request) → List Entry → Type 0
Credit n t b o front = t ≡ answered_of n o front + b

-- after a row of the client; and of no other client it tells more than it makes
abbrev pub Credited : ℕ → ℕ → ℕ → List Entry → Row Client → Type 0
Credited n t b front r =
    Credit n (t + told_of n r.replies) (b + edits_of n r.effects) (open_request r.state.under) front
    × ((m : ℕ) → (n == m) ≡ false → told_of m r.replies ≡ edits_of m r.effects)

pub more_credit : (t u b e x y : ℕ) → t ≡ x + b → x ≡ y → u ≡ e → t + u ≡ y + (b + e)
more_credit t u b e x y was same more = omega (arith, was, same, more)

-- a row that tells as much as it makes
abbrev Even : Row Client → Type 0
Even r = (m : ℕ) → told_of m r.replies ≡ edits_of m r.effects

even_row : (n t b : ℕ) (front : List Entry) (o : Option (ℕ × Request)) (r : Row Client) → Even r → answered_of n o front ≡ answered_of n (open_request r.state.under) front → Credit n t b o front → Credited n t b front r
even_row n t b front o r even same was = (more_credit t (told_of n r.replies) b (edits_of n r.effects) (answered_of n o front) (answered_of n (open_request r.state.under) front) was same (even n), λ m other. even m)

even_if : (b : Bool) (x y : Row Client) → Even x → Even y → Even (cond b x y)
even_if true x y here other = here
even_if false x y here other = other

pub not_told : (b : Bool) → 0 + cond (b && false) 1 0 ≡ 0
not_told true = refl
not_told false = refl

edit_even : (c : Client) (number : ℕ) (text : Line) (e : Edit) (ino : Ino) (o : Result Change Refusal) → Even (edit_file c number text e ino o)
edit_even c number text e ino (Err refusal) = λ m. not_told (c.number == m)
edit_even c number text e ino (Ok made) = even_if (is_writer ino c.files) (edits c number ino e) (asks c number text (request.Cap ino Write)) (λ m. refl) (λ m. refl)

edit_line_even : (c : Client) (number : ℕ) (text : Line) (e : Edit) (o : Option Handle) → Even (edit_line c number text e o)
edit_line_even c number text e None = λ m. not_told (c.number == m)
edit_line_even c number text e (Some h) = edit_even c number text e h.ino (data_change (Some h) e.ends e.change)

read_even : (c : Client) (number : ℕ) (text : Line) (o : Option Handle) → Even (read_line c number text o)
read_even c number text None = λ m. not_told (c.number == m)
read_even c number text (Some h) = even_if (is_held h.ino c.files) (reads_head c number 0 h.ino) (asks c number text (request.Cap h.ino Read)) (λ m. refl) (λ m. refl)

asked_even : (c : Client) (number : ℕ) (text : Line) (o : Option Request) → Even (begin_asked c number text o)
asked_even c number text None = λ m. refl
asked_even c number text (Some asked) = λ m. refl

other_even : (c : Client) (number : ℕ) (text : Line) → Even (begin_other c number text)
other_even c number (line.Read handle) = read_even c number (line.Read handle) (opened c handle)
other_even c number line.Barrier = λ m. refl
other_even c number line.Break = λ m. not_told (c.number == m)
other_even c number text = asked_even c number text (request_of text)

with_even : (c : Client) (number : ℕ) (text : Line) (o : Option Edit) → Even (begin_with c number text o)
with_even c number text (Some e) = edit_line_even c number text e (opened c e.handle)
with_even c number text None = other_even c number text

op_even : (c : Client) (lines : List Line) → IfSome (op_of c lines) Even
op_even c [] = tt
op_even c (text ∷ rest) = by_test (not c.frozen && may_begin c.under text)
  where
    by_test : (b : Bool) → IfSome (cond b (Some (begin (record c { lines = rest; begun = c.begun + 1 }) (c.begun + 1) text)) None) Even
    by_test true = with_even (record c { lines = rest; begun = c.begun + 1 }) (c.begun + 1) text (edit_of text)
    by_test false = tt

item_even : (c : Client) (ino : Ino) (items : List Item) → Even (send_item c ino items)
item_even c ino [] = λ m. refl
item_even c ino (OfPiece p ∷ items) = λ m. refl
item_even c ino (OfMark m ∷ items) = λ m. refl

due_even : (c : Client) (unsent : List Item) (item : Due) → Even (send_due c unsent item)
due_even c unsent (due.Piece ino) = item_even c ino unsent
due_even c unsent (due.Mark ino follows upto size) = λ m. refl
due_even c unsent (due.Release ino size) = λ m. refl
due_even c unsent (due.DropRead ino) = λ m. refl

flush_even : (c : Client) → IfSome (on_flush c) Even
flush_even c = by_test c.frozen
  where
    by_due : (o : Option Due) → IfSome (sends_due c o) Even
    by_due None = tt
    by_due (Some item) = due_even (record c { files = sent item c.files }) (unsent_in (file_of (file_due item) c.files)) item

    by_test : (b : Bool) → IfSome (cond b None (sends_due c (first_due (reading c.under) c.files))) Even
    by_test true = tt
    by_test false = by_due (first_due (reading c.under) c.files)

read_taken : (c : Client) (said : FromStore) (under : Under) → Even (take_read c said under)
read_taken c said Idle = λ m. refl
read_taken c said (Open number tid text asked let_go) = λ m. refl
read_taken c said (AtStore number entry ino head) = even_if (is_key number (key_of said)) (replies (record c { under = Idle }) number false entry (store_answer c ino head said)) (stays c) (λ m. not_told (c.number == m)) (λ m. refl)

taken_even : (c : Client) (said : FromStore) → Even (take_stored c said)
taken_even c (Stored ino) = λ m. refl
taken_even c (Got key bytes) = read_taken c (Got key bytes) c.under
taken_even c (NotThere key) = read_taken c (NotThere key) c.under
taken_even c (CloneListIs key list) = read_taken c (CloneListIs key list) c.under

stored_even : (c : Client) (said : FromStore) → Even (on_stored c said)
stored_even c said = even_if (from_store_fits said) (take_stored c said) (stays c) (taken_even c said) (λ m. refl)

-- rows at the client's own time
answered_new : (n t : ℕ) (front : List Entry) (o p : Option (ℕ × Request)) → IsNew t o p → o ≡ None → AllUpTo n t front → answered_of n o front ≡ answered_of n p front
answered_new n t front o p (inl same) none upto = ap (λ (x : Option (ℕ × Request)). answered_of n x front) (sym same)
answered_new n t front o p (inr less) none upto = ap (λ (x : Option (ℕ × Request)). answered_of n x front) none ∙ by_open p less
  where
    by_open : (p : Option (ℕ × Request)) → IfSome p (λ r. t < r.0) → answered_of n None front ≡ answered_of n p front
    by_open None less = refl
    by_open (Some r) less = sym (answered_not n (Some r) front (upto_not n t r front less upto))

same_open : (n : ℕ) (front : List Entry) (o p : Option (ℕ × Request)) → p ≡ o → answered_of n o front ≡ answered_of n p front
same_open n front o p same = ap (λ (x : Option (ℕ × Request)). answered_of n x front) (sym same)

acts_same : (n : ℕ) (front : List Entry) (c : Client) (r : Row Client) → IsNew c.tid (open_request c.under) (open_request r.state.under) → Acts c r → AllUpTo n c.tid front → answered_of n (open_request c.under) front ≡ answered_of n (open_request r.state.under) front
acts_same n front c r new (inl begin) upto = answered_new n c.tid front (open_request c.under) (open_request r.state.under) new begin.0 upto
acts_same n front c r new (inr (inl keep)) upto = same_open n front (open_request c.under) (open_request r.state.under) keep.same
acts_same n front c r new (inr (inr renew)) upto = same_open n front (open_request c.under) (open_request r.state.under) (ap (λ (o : Offer). o.asked) renew.state)

-- an answer is taken
credited_if : (n t b : ℕ) (front : List Entry) (test : Bool) (x y : Row Client) → (test ≡ true → Credited n t b front x) → Credited n t b front y → Credited n t b front (cond test x y)
credited_if n t b front true x y here other = here refl
credited_if n t b front false x y here other = other

no_gain : (t x : ℕ) (ok : Bool) → ok ≡ false → t + cond ok 1 0 ≡ x → t ≡ x
no_gain t x true isnt is = absurd (true≢false isnt)
no_gain t x false isnt is = omega (arith, is)

told_it : (a ok : Bool) (t x b : ℕ) → a ≡ true → t + cond ok 1 0 ≡ x + b → t + (0 + cond (a && ok) 1 0) ≡ x + (b + 0)
told_it true true t x b is total = omega (arith, total)
told_it true false t x b is total = omega (arith, total)
told_it false ok t x b is total = absurd (true≢false (sym is))

told_other : (a ok : Bool) → a ≡ false → 0 + cond (a && ok) 1 0 ≡ 0
told_other true ok isnt = absurd (true≢false isnt)
told_other false ok isnt = refl

free_row : (n t b : ℕ) (front : List Entry) (asked : Request) (said : Answer) (r : Row Client) → is_success asked said ≡ false → t + cond (is_success asked said) 1 0 ≡ answered_of n None front + b → Even r → answered_of n None front ≡ answered_of n (open_request r.state.under) front → Credited n t b front r
free_row n t b front asked said r fails total even same = even_row n t b front None r even same (no_gain t (answered_of n None front + b) (is_success asked said) fails total)

answer_row : (n t b : ℕ) (front : List Entry) (h : Client) (number : ℕ) (text : Line) (asked : Request) (let_go : List Ino) (stamp : Stamp) (said : Answer) → h.number ≡ n → AllUpTo n h.tid front → t + cond (is_success asked said) 1 0 ≡ answered_of n None front + b → Credited n t b front (take_answer h number text asked let_go stamp said)
answer_row n t b front h number text asked let_go stamp (answer.FoundLive ino perm size write_held) its upto total = let said = answer.FoundLive ino perm size write_held in
    credited_if n t b front (list_any (is_ino ino) let_go) (asks_anew h number text asked ino) (with_found (found h ino size stamp.snap write_held) number asked stamp.entry ino perm)
    (λ gone. free_row n t b front asked said (asks_anew h number text asked ino) (no_success asked said refl) total (λ m. refl) (sym (answered_not n (Some (h.tid + 1, asked)) front (upto_not n h.tid (h.tid + 1, asked) front (omega arith) upto))))
    (credited_if n t b front (wants_bytes asked) (reads_head now number stamp.entry ino) (replies (record now { under = Idle }) number false stamp.entry (answer.StatFile perm (size_of now ino)))
    (λ wants. free_row n t b front asked said (reads_head now number stamp.entry ino) (no_success asked said refl) total (λ m. refl) refl)
    (free_row n t b front asked said (replies (record now { under = Idle }) number false stamp.entry (answer.StatFile perm (size_of now ino))) (no_success asked said refl) total (λ m. not_told (h.number == m)) refl))
  where
    now : Client
    now = found h ino size stamp.snap write_held
answer_row n t b front h number text asked let_go stamp (answer.FoundSnap ino snap size) its upto total =
    let said = answer.FoundSnap ino snap size in free_row n t b front asked said (take_answer h number text asked let_go stamp said) (no_success asked said refl) total (λ m. refl) refl
answer_row n t b front h number text asked let_go stamp (answer.FoundObject ino index) its upto total =
    let said = answer.FoundObject ino index in free_row n t b front asked said (take_answer h number text asked let_go stamp said) (no_success asked said refl) total (λ m. refl) refl
answer_row n t b front h number text asked let_go stamp said its upto total =
    (told_it (h.number == n) (is_success asked said) t (answered_of n None front) b itself total, λ m other. told_other (h.number == m) (is_success asked said) (away m other))
  where
    itself : (h.number == n) ≡ true
    itself = grind (arith, nat_tests, its)

    away : (m : ℕ) → (n == m) ≡ false → (h.number == m) ≡ false
    away m other = grind (arith, nat_tests, its, other)

abbrev pub KeptIn : ℕ → List Entry → Answer → Option (ℕ × Request) → Type 0
KeptIn n front said o = IfSome o (λ r. ByKept r.1 (kept_of n r.0 front) said)

reply_row : (n t b : ℕ) (front : List Entry) (h : Client) (tid : ℕ) (stamp : Stamp) (said : Answer) (under : Under) → h.under ≡ under → h.number ≡ n → AtFront n h.tid (open_request under) front → IfSome (open_request under) (λ r. r.0 ≡ h.tid) → KeptIn n front said (open_request under) → Credit n t b (open_request under) front → Credited n t b front (take_reply h tid stamp said under)
reply_row n t b front h tid stamp said Idle is its at last kept was = even_row n t b front None (stays h) (λ m. refl) (ap (λ (u : Under). answered_of n (open_request u) front) (sym is)) was
reply_row n t b front h tid stamp said (AtStore number entry ino head) is its at last kept was = even_row n t b front None (stays h) (λ m. refl) (ap (λ (u : Under). answered_of n (open_request u) front) (sym is)) was
reply_row n t b front h tid stamp said (Open number open_tid text asked let_go) is its at last kept was =
    credited_if n t b front (open_tid == tid && takes_answer h said) (take_answer h number text asked let_go stamp said) (stays h)
    (λ takes. answer_row n t b front h number text asked let_go stamp said its at.upto (total (answered_of n (Some (open_tid, asked)) front) (cond (is_success asked said) 1 0) (answered_of n None front) was (gained n (open_tid, asked) front said at.rising (subst (λ (k : ℕ). AllUpTo n k front) (sym last) at.upto) at.made kept)))
    (even_row n t b front (Some (open_tid, asked)) (stays h) (λ m. refl) (ap (λ (u : Under). answered_of n (open_request u) front) (sym is)) was)
  where
    total : (x k y : ℕ) → t ≡ x + b → x + k ≡ y → t + k ≡ y + b
    total x k y was more = omega (arith, was, more)

-- no effect is of a request for a capability
grant_row : (n t b : ℕ) (front : List Entry) (h : Client) (tid : ℕ) (stamp : Stamp) (ino : Ino) (mode : Mode) (size : ℕ) (file : FileTrace) (under : Under) → h.under ≡ under → AtFront n h.tid (open_request under) front → IfSome (open_request under) (λ r. r.0 ≡ h.tid) → Credit n t b (open_request under) front → Credited n t b front (take_grant h tid stamp ino mode size file under)
grant_row n t b front h tid stamp ino mode size file Idle is at last was = even_row n t b front None (stays h) (λ m. refl) (ap (λ (u : Under). answered_of n (open_request u) front) (sym is)) was
grant_row n t b front h tid stamp ino mode size file (AtStore number entry other head) is at last was = even_row n t b front None (stays h) (λ m. refl) (ap (λ (u : Under). answered_of n (open_request u) front) (sym is)) was
grant_row n t b front h tid stamp ino mode size file (Open number open_tid text asked let_go) is at last was =
    credited_if n t b front (open_tid == tid && asks_for asked ino mode && not (is_writer ino h.files)) (goes_on (granted h ino mode size stamp.snap file) number ino (edit_of text)) (stays h)
    (λ takes. by_edit (edit_of text) (by_asked asked (middle (open_tid == tid) (asks_for asked ino mode) (not (is_writer ino h.files)) takes) at.made))
    (even_row n t b front (Some (open_tid, asked)) (stays h) (λ m. refl) (ap (λ (u : Under). answered_of n (open_request u) front) (sym is)) was)
  where
    middle : (a b c : Bool) → (a && b && c) ≡ true → b ≡ true
    middle true true c test = refl
    middle true false c test = absurd (true≢false (sym test))
    middle false b c test = absurd (true≢false (sym test))

    never : (file : Ino) (wanted : Mode) (made : Change) → CanMake (request.Cap file wanted) made → ⊥
    never file wanted (change.Mkdir dir name ino) can = can
    never file wanted made can = can

    by_asked : (asked : Request) → asks_for asked ino mode ≡ true → AllMadeBy n open_tid asked front → kept_of n open_tid front ≡ None
    by_asked (request.Cap file wanted) asks made = never_kept n open_tid (request.Cap file wanted) (never file wanted) front None made refl
    by_asked asked asks made = absurd (true≢false (sym asks))

    free : kept_of n open_tid front ≡ None → answered_of n (Some (open_tid, asked)) front ≡ answered_of n None front
    free none = none_owed (answered_of n (Some (open_tid, asked)) front) (owed n (Some (open_tid, asked)) front) (answered_of n None front) (ap owes none) (owed_is n (Some (open_tid, asked)) front at.rising (subst (λ (k : ℕ). AllUpTo n k front) (sym last) at.upto) ∙ sym (answered_none n front))
      where
        none_owed : (x k y : ℕ) → k ≡ 0 → x + k ≡ y → x ≡ y
        none_owed x k y none is = omega (arith, none, is)

    by_edit : (o : Option Edit) → kept_of n open_tid front ≡ None → Credited n t b front (goes_on (granted h ino mode size stamp.snap file) number ino o)
    by_edit (Some e) none = even_row n t b front (Some (open_tid, asked)) (edits (granted h ino mode size stamp.snap file) number ino e) (λ m. refl) (free none) was
    by_edit None none = even_row n t b front (Some (open_tid, asked)) (reads_head (granted h ino mode size stamp.snap file) number 0 ino) (λ m. refl) (free none) was

-- what is known of the journal is known of its durable entries
split_at : (d : ℕ) (entries : List Entry) → entries ≡ take d entries ++ drop d entries
split_at d entries = sym (take-append-drop d entries)

at_front : (n : ℕ) (c : Client) (up : List ToServer) (down : List ToClient) (s : Server) → RepliedView n c up down s → AtFront n c.tid (open_request c.under) (take s.durable s.entries)
at_front n c up down s all = record {
  rising = rising_front n (take s.durable s.entries) (drop s.durable s.entries) (subst (Rising n) (split_at s.durable s.entries) all.0.0.0.0.1.rising);
  upto = upto_front n c.tid (take s.durable s.entries) (drop s.durable s.entries) (subst (AllUpTo n c.tid) (split_at s.durable s.entries) all.0.0.0.0.1.upto);
  made = by_open (open_request c.under) all.0.1;
}
  where
    by_open : (o : Option (ℕ × Request)) → MadeFor n s.entries o → MadeFor n (take s.durable s.entries) o
    by_open None made = tt
    by_open (Some r) made = made_front n r.0 r.1 (take s.durable s.entries) (drop s.durable s.entries) (subst (AllMadeBy n r.0 r.1) (split_at s.durable s.entries) made)

pub front_owed : (n : ℕ) (c : Client) (up : List ToServer) (down : List ToClient) (s : Server) → Opening n c up down s → (let o = open_request c.under in let front = take s.durable s.entries in answered_of n o front + owed n o front ≡ effects_of n front)
front_owed n c up down s all = owed_is n (open_request c.under) (take s.durable s.entries) at.rising (by_open (open_request c.under) (last_open n c up down s all.0))
  where
    at : AtFront n c.tid (open_request c.under) (take s.durable s.entries)
    at = at_front n c up down s all.0

    by_open : (o : Option (ℕ × Request)) → IfSome o (λ r. r.0 ≡ c.tid) → IfSome o (λ r. AllUpTo n r.0 (take s.durable s.entries))
    by_open None last = tt
    by_open (Some r) last = subst (λ (k : ℕ). AllUpTo n k (take s.durable s.entries)) (sym last) at.upto

-- the rows of a client
pub told_credit : (n t b : ℕ) (c : Client) (up : List ToServer) (m : ToClient) (down : List ToClient) (s : Server) → Opening n c up (m ∷ down) s → Credit n t b (open_request c.under) (take s.durable s.entries) → Credited n t b (take s.durable s.entries) (on_told c m)
told_credit n t b c up (Reply conn tid stamp said) down s all was = let m = Reply conn tid stamp said in let front = take s.durable s.entries in
    credited_if n t b front (may_take c m && to_client_fits m) (take_own (having_heard c m) m) (stays (having_heard c m))
    (λ takes. let well = all.0.1.0 (first_of_two (may_take c m) (to_client_fits m) takes) in
    reply_row n t b front (having_heard c m) tid stamp said c.under refl all.1.0 (at_front n c up (m ∷ down) s all.0) (last_open n c up (m ∷ down) s all.0)
    (by_open (open_request c.under) (behind_later n stamp.entry s.durable s.entries all.0.0.0.1.0.0.fits all.0.0.0.1.0.0.low.0 well.0) well.1) was)
    (even_row n t b front (open_request c.under) (stays (having_heard c m)) (λ m. refl) refl was)
  where
    by_open : (o : Option (ℕ × Request)) → NoneOf n (drop s.durable s.entries) → KeptIn n s.entries said o → KeptIn n (take s.durable s.entries) said o
    by_open None none kept = tt
    by_open (Some r) none kept = subst (λ (k : Option Answer). ByKept r.1 k said) (sym (kept_front n r.0 s.durable s.entries none)) kept
told_credit n t b c up (Grant conn tid stamp ino mode size file) down s all was = let m = Grant conn tid stamp ino mode size file in let front = take s.durable s.entries in
    credited_if n t b front (may_take c m && to_client_fits m) (take_own (having_heard c m) m) (stays (having_heard c m))
    (λ takes. grant_row n t b front (having_heard c m) tid stamp ino mode size file c.under refl (at_front n c up (m ∷ down) s all.0) (last_open n c up (m ∷ down) s all.0) was)
    (even_row n t b front (open_request c.under) (stays (having_heard c m)) (λ m. refl) refl was)
told_credit n t b c up (Restarted stamp) down s all was = let m = Restarted stamp in
    credited_if n t b (take s.durable s.entries) (may_take c m && to_client_fits m) (take_own (having_heard c m) m) (stays (having_heard c m))
    (λ takes. even_row n t b (take s.durable s.entries) (open_request c.under) (connects (having_heard c m)) (λ m. refl) (same_open n (take s.durable s.entries) (open_request c.under) _ (asked_again c.under)) was)
    (even_row n t b (take s.durable s.entries) (open_request c.under) (stays (having_heard c m)) (λ m. refl) refl was)
told_credit n t b c up (Recall conn stamp ino) down s all was = let m = Recall conn stamp ino in
    credited_if n t b (take s.durable s.entries) (may_take c m && to_client_fits m) (take_own (having_heard c m) m) (stays (having_heard c m))
    (λ takes. even_row n t b (take s.durable s.entries) (open_request c.under) (take_own (having_heard c m) m) (λ m. refl) refl was)
    (even_row n t b (take s.durable s.entries) (open_request c.under) (stays (having_heard c m)) (λ m. refl) refl was)
told_credit n t b c up (FlushAck conn stamp number) down s all was = let m = FlushAck conn stamp number in
    credited_if n t b (take s.durable s.entries) (may_take c m && to_client_fits m) (take_own (having_heard c m) m) (stays (having_heard c m))
    (λ takes. even_row n t b (take s.durable s.entries) (open_request c.under) (take_own (having_heard c m) m) (λ m. refl) refl was)
    (even_row n t b (take s.durable s.entries) (open_request c.under) (stays (having_heard c m)) (λ m. refl) refl was)
told_credit n t b c up (Notice conn stamp update) down s all was = let m = Notice conn stamp update in
    credited_if n t b (take s.durable s.entries) (may_take c m && to_client_fits m) (take_own (having_heard c m) m) (stays (having_heard c m))
    (λ takes. even_row n t b (take s.durable s.entries) (open_request c.under) (take_own (having_heard c m) m) (λ m. refl) (same_open n (take s.durable s.entries) (open_request c.under) _ (ap open_request (updated_same (λ (v : Client). v.under) (λ v ino new. refl) update (having_heard c m)))) was)
    (even_row n t b (take s.durable s.entries) (open_request c.under) (stays (having_heard c m)) (λ m. refl) refl was)
told_credit n t b c up (Welcome conn stamp last update) down s all was = let m = Welcome conn stamp last update in
    credited_if n t b (take s.durable s.entries) (may_take c m && to_client_fits m) (take_own (having_heard c m) m) (stays (having_heard c m))
    (λ takes. even_row n t b (take s.durable s.entries) (open_request c.under) (take_own (having_heard c m) m) (λ m. refl) (same_open n (take s.durable s.entries) (open_request c.under) _ (ap open_request (updated_same (λ (v : Client). v.under) (λ v ino new. refl) update (acked (record (having_heard c m) { frozen = false }) (λ k. nat_le k last))))) was)
    (even_row n t b (take s.durable s.entries) (open_request c.under) (stays (having_heard c m)) (λ m. refl) refl was)

pub op_credit : (n t b : ℕ) (c : Client) (up : List ToServer) (down : List ToClient) (s : Server) → Opening n c up down s → Credit n t b (open_request c.under) (take s.durable s.entries) → IfSome (on_op c) (Credited n t b (take s.durable s.entries))
op_credit n t b c up down s all was = three_rows (on_op c) (op_even c c.lines) (op_new c c.lines) (op_acts c c.lines (asking_of n c up down s all.0.0.0).1.opened)
    (λ r even new does. even_row n t b (take s.durable s.entries) (open_request c.under) r even (acts_same n (take s.durable s.entries) c r new does.1 (at_front n c up down s all.0).upto) was)
  where
    three_rows : {P Q R S : Row Client → Type 0} (o : Option (Row Client)) → IfSome o P → IfSome o Q → IfSome o R → ((r : Row Client) → P r → Q r → R r → S r) → IfSome o S
    three_rows None p q r go = tt
    three_rows (Some x) p q r go = go x p q r

pub flush_credit : (n t b : ℕ) (c : Client) (front : List Entry) → Credit n t b (open_request c.under) front → IfSome (on_flush c) (Credited n t b front)
flush_credit n t b c front was = two_rows (on_flush c) (flush_even c) (flush_acts c) (λ r even does. even_row n t b front (open_request c.under) r even (same_open n front (open_request c.under) (open_request r.state.under) does.1.same) was)
  where
    two_rows : {P Q R : Row Client → Type 0} (o : Option (Row Client)) → IfSome o P → IfSome o Q → ((r : Row Client) → P r → Q r → R r) → IfSome o R
    two_rows None p q go = tt
    two_rows (Some r) p q go = go r p q

pub stored_credit : (n t b : ℕ) (c : Client) (said : FromStore) (front : List Entry) → Credit n t b (open_request c.under) front → Credited n t b front (on_stored c said)
stored_credit n t b c said front was = even_row n t b front (open_request c.under) (on_stored c said) (stored_even c said) (same_open n front (open_request c.under) (open_request (on_stored c said).state.under) (ap (λ (o : Offer). o.asked) (store_hidden c said).state)) was

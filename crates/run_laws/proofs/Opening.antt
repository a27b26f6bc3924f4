-- What a client has open is what its effects leave open, along each run.
use Rattle.std.proofs.Common.{◌≡◌, ◌<◌, ◌≤◌, ℕ, ◌+◌, List, [], ◌∷◌, ◌++◌, length, take, drop, Bool, true, false, true≢false, not, cond, Option, None, Some, refl, sym, ap, ◌∙◌, subst, IfSome, arith, inl, inr}
use Rattle.std.proofs.lemmas.List.{take-append-drop, drop-append-le, length-take-le}
use Rattle.std.proofs.lemmas.Bool.Decides.{nat_tests}
use Rattle.std.specs.Prelude.{◌==◌, ◌&&◌, nat_le, is_some, Result, Ok, Err}
use Rattle.std.specs.List.{list_any}
use Rattle.snap_ids.specs.declared.id.Ino.{Ino}
use Rattle.snap_ids.specs.declared.values.Mode.{Mode}
use Rattle.snap_ids.specs.declared.values.Mode.TheVariants.{Read, Write}
use Rattle.plain_types.specs.declared.answer.Answer.{Answer}
use Rattle.plain_types.specs.declared.answer.Answer.TheVariants as answer
use Rattle.plain_types.specs.declared.answer.Refusal.{Refusal}
use Rattle.plain_types.specs.declared.change.Change.{Change}
use Rattle.plain_types.specs.declared.change.Change.TheVariants as change
use Rattle.plain_types.specs.declared.entry.Entry.{Entry}
use Rattle.plain_types.specs.declared.history.Event.{Event}
use Rattle.plain_types.specs.declared.message.FileTrace.{FileTrace}
use Rattle.plain_types.specs.declared.message.FromStore.{FromStore}
use Rattle.plain_types.specs.declared.message.FromStore.TheVariants.{Got, NotThere, CloneListIs, Stored}
use Rattle.plain_types.specs.declared.message.Stamp.{Stamp}
use Rattle.plain_types.specs.declared.message.ToClient.{ToClient}
use Rattle.plain_types.specs.declared.message.ToClient.TheVariants.{Reply, Grant, Recall, Notice, FlushAck, Welcome, Restarted}
use Rattle.plain_types.specs.declared.message.ToServer.{ToServer}
use Rattle.plain_types.specs.declared.request.Request.{Request}
use Rattle.plain_types.specs.declared.request.Request.TheVariants as request
use Rattle.plain_types.specs.declared.script.Line.{Line}
use Rattle.plain_types.specs.declared.script.Line.TheVariants as line
use Rattle.plain_types.specs.declared.script.Script.{Script}
use Rattle.plain_tree.specs.State.{Handle}
use Rattle.plain_tree.specs.Line.{request_of, data_change, answer_to as answer_to_change}
use Rattle.plain_journal.specs.Entries.{change_in}
use Rattle.plain_journal.specs.Table.{answer_kept}
use Rattle.held_files.specs.declared.due.Due.{Due}
use Rattle.held_files.specs.declared.due.Due.TheVariants as due
use Rattle.held_files.specs.Due.{first_due, sent}
use Rattle.held_files.specs.Files.{Item, OfPiece, OfMark, file_of, is_writer, is_held, is_ino}
use Rattle.step_table.specs.Messages.{to_client_fits, from_store_fits}
use Rattle.step_table.specs.Row.{Row}
use Rattle.step_table.specs.ServerState.{Asked, Server, number_of, welcome}
use Rattle.step_table.specs.Acts.{Act, act, as_list, entry_for}
use Rattle.step_table.specs.Requests.{kept_for}
use Rattle.step_table.specs.Flushes.{connected}
use Rattle.step_table.specs.ClientState.{Client, new_client, Under, Idle, Open, AtStore, Edit, edit_of, open_request, stays, asks, edits, reads_head, replies, sent_again, connects}
use Rattle.step_table.specs.ClientLines.{edit_file, edit_line, read_line, opened, begin_asked, begin_other, begin_with, begin, may_begin, op_of, on_op, on_flush, send_item, send_due, sends_due, unsent_in, file_due, reading}
use Rattle.step_table.specs.ClientTakes.{having_heard, may_take, goes_on, granted, asks_for, take_grant, with_found, found, asks_anew, take_answer, takes_answer, take_reply, take_own, wants_bytes, handles_after, updated, acked, on_told, key_of, is_key, store_answer, take_read, take_stored, on_stored}
use Rattle.step_table.specs.World.{start, after, lines_of}
use Rattle.run_laws.specs.Moments.{steps_of, world_after}
use Rattle.run_laws.specs.Links.{View, EachClient, Offer}
use Rattle.run_laws.specs.Requests.{IsIt, IsTid, OpenAt, AllOf, is_of, AllUpTo, AllAbove, AllLess, Rising}
use Rattle.run_laws.specs.Answered.{AllOpen, CanMake, AllMadeBy, asks_change, kept_of, is_refusal, ByKept}
use Rattle.run_laws.specs.OpenHandles.{opens_by, opens_after, is_open, left_open, HasOpen}
use Rattle.run_laws.proofs.Clients.{Acts, op_acts, flush_acts, store_hidden, updated_same}
use Rattle.run_laws.proofs.Linked.{in_hand, at_start, each_part}
use Rattle.run_laws.proofs.Effects.{last_from, new_less}
use Rattle.run_laws.proofs.Growing.{room}
use Rattle.run_laws.proofs.Strangers.{NoneOf}
use Rattle.run_laws.proofs.Making.{IsNew, op_new}
use Rattle.run_laws.proofs.Buffered.{entries_one, hand_it, asking_of}
use Rattle.run_laws.proofs.Answering.{Fits, Replied, replied_kept, replied_rules, first_replied, never_kept, last_same, last_none}
use Rattle.run_laws.proofs.Views.{KeptByRows, run_keeps}
use Rattle.run_laws.proofs.ViewActs.{KeptViews, RulesFit, rows_of_acts, both, given}

-- entries, one by one
step_skips : (n : ℕ) (o : Option (ℕ × Request)) (e : Entry) (before : List Handle) → (is_of n e && not (is_open o e.number)) ≡ false → cond (is_of n e && not (is_open o e.number)) (opens_after n (change_in e.what) before) before ≡ before
step_skips n o e before is = rw is refl

pub not_its : (a b : Bool) → a ≡ false → (a && b) ≡ false
not_its true b is = absurd (true≢false is)
not_its false b is = refl

pub not_now : (a b : Bool) → b ≡ true → (a && not b) ≡ false
not_now true true is = refl
not_now false true is = refl
not_now a false is = absurd (true≢false (sym is))

pub both_are : (a b : Bool) → a ≡ true → b ≡ false → (a && not b) ≡ true
both_are true false is isnt = refl
both_are true true is isnt = absurd (true≢false isnt)
both_are false b is isnt = absurd (true≢false (sym is))

step_takes : (n : ℕ) (o : Option (ℕ × Request)) (e : Entry) (before : List Handle) (made : Change) → is_of n e ≡ true → is_open o e.number ≡ false → change_in e.what ≡ Some made → cond (is_of n e && not (is_open o e.number)) (opens_after n (change_in e.what) before) before ≡ opens_by n made before
step_takes n o e before made is isnt says = ap (λ (b : Bool). cond b (opens_after n (change_in e.what) before) before) (both_are (is_of n e) (is_open o e.number) is isnt) ∙ ap (λ (c : Option Change). opens_after n c before) says

left_append : (n : ℕ) (o : Option (ℕ × Request)) (before : List Handle) (xs ys : List Entry) → left_open n o before (xs ++ ys) ≡ left_open n o (left_open n o before xs) ys
left_append n o before [] ys = refl
left_append n o before (e ∷ xs) ys = left_append n o (cond (is_of n e && not (is_open o e.number)) (opens_after n (change_in e.what) before) before) xs ys

skips_more : (n : ℕ) (o : Option (ℕ × Request)) (entries : List Entry) (e : Entry) → (is_of n e && not (is_open o e.number)) ≡ false → left_open n o [] (entries ++ e ∷ []) ≡ left_open n o [] entries
skips_more n o entries e is = left_append n o [] entries (e ∷ []) ∙ step_skips n o e (left_open n o [] entries) is

none_left : (n : ℕ) (o : Option (ℕ × Request)) (before : List Handle) (entries : List Entry) → NoneOf n entries → left_open n o before entries ≡ before
none_left n o before [] none = refl
none_left n o before (e ∷ entries) none = ap (λ (l : List Handle). left_open n o l entries) (step_skips n o e before (not_its (is_of n e) (not (is_open o e.number)) none.0)) ∙ none_left n o before entries none.1

pub its_tid : (o : Option (ℕ × Request)) (tid : ℕ) → IsTid o tid → is_open o tid ≡ true
its_tid None tid is = absurd is
its_tid (Some r) tid is = grind (arith, nat_tests, is)

open_left : (n : ℕ) (o : Option (ℕ × Request)) (before : List Handle) (entries : List Entry) → AllOpen n o entries → left_open n o before entries ≡ before
open_left n o before [] all = refl
open_left n o before (e ∷ entries) all = ap (λ (l : List Handle). left_open n o l entries) (step_skips n o e before (by_test (is_of n e) refl)) ∙ open_left n o before entries all.1
  where
    by_test : (b : Bool) → is_of n e ≡ b → (b && not (is_open o e.number)) ≡ false
    by_test true is = not_now true (is_open o e.number) (its_tid o e.number (all.0 is))
    by_test false is = refl

-- no effect has the number of what is open
abbrev pub NotOf : ℕ → Option (ℕ × Request) → List Entry → Type 0
NotOf n o [] = Unit {0}
NotOf n o (e ∷ entries) = (is_of n e ≡ true → is_open o e.number ≡ false) × NotOf n o entries

not_left : (n : ℕ) (o : Option (ℕ × Request)) (before : List Handle) (entries : List Entry) → NotOf n o entries → left_open n o before entries ≡ left_open n None before entries
not_left n o before [] all = refl
not_left n o before (e ∷ entries) all = ap (λ (l : List Handle). left_open n o l entries) (by_test (is_of n e) refl) ∙ not_left n o (cond (is_of n e && true) (opens_after n (change_in e.what) before) before) entries all.1
  where
    by_test : (b : Bool) → is_of n e ≡ b → cond (is_of n e && not (is_open o e.number)) (opens_after n (change_in e.what) before) before ≡ cond (is_of n e && true) (opens_after n (change_in e.what) before) before
    by_test true is = ap (λ (b : Bool). cond (is_of n e && not b) (opens_after n (change_in e.what) before) before) (all.0 is)
    by_test false is = rw is refl

less_not : (n : ℕ) (r : ℕ × Request) (entries : List Entry) → AllLess n r.0 entries → NotOf n (Some r) entries
less_not n r [] all = tt
less_not n r (e ∷ entries) all = ((λ is. let less = all.0 is in grind (arith, nat_tests, less)), less_not n r entries all.1)

pub upto_not : (n t : ℕ) (r : ℕ × Request) (entries : List Entry) → t < r.0 → AllUpTo n t entries → NotOf n (Some r) entries
upto_not n t r [] less all = tt
upto_not n t r (e ∷ entries) less all = ((λ is. let most = all.0 is in grind (arith, nat_tests, less, most)), upto_not n t r entries less all.1)

pub none_above : (n t : ℕ) (entries : List Entry) → AllAbove n t entries → AllUpTo n t entries → NoneOf n entries
none_above n t [] above upto = tt
none_above n t (e ∷ entries) above upto = (by_test (is_of n e) refl, none_above n t entries above.1 upto.1)
  where
    by_test : (b : Bool) → is_of n e ≡ b → is_of n e ≡ false
    by_test true is = let low = above.0 is in let high = upto.0 is in absurd (omega (arith, low, high))
    by_test false is = is

-- where the open request has its effect, that is the last one
abbrev pub Ends : ℕ → ℕ × Request → Answer → List Handle → List Entry → Type 0
Ends n r k before entries = (made : Change) × (answer_to_change made ≡ k) × CanMake r.1 made × (left_open n None before entries ≡ opens_by n made (left_open n (Some r) before entries))

ends_from : (n : ℕ) (r : ℕ × Request) (k : Answer) (before after : List Handle) (e : Entry) (entries : List Entry)
    → left_open n None before (e ∷ entries) ≡ left_open n None after entries → left_open n (Some r) before (e ∷ entries) ≡ left_open n (Some r) after entries → Ends n r k after entries → Ends n r k before (e ∷ entries)
ends_from n r k before after e entries one two ends = (ends.0, ends.1, ends.2, one ∙ ends.3 ∙ ap (opens_by n ends.0) (sym two))

pub last_ends : (n : ℕ) (r : ℕ × Request) (k : Answer) (entries : List Entry) (last : Option (ℕ × Answer)) (before : List Handle) → Rising n entries → AllUpTo n r.0 entries → AllMadeBy n r.0 r.1 entries → kept_for r.0 last ≡ None → kept_for r.0 (last_from n last entries) ≡ Some k → Ends n r k before entries
last_ends n r k [] last before rising upto made none kept = absurd (none_some (sym none ∙ kept))
  where
    none_some : None ≡ Some k → ⊥
    none_some is = cc
last_ends n r k (e ∷ entries) last before rising upto made none kept = by_test (is_of n e) refl (λ last before none kept. last_ends n r k entries last before rising.1 upto.1 made.1 none kept)
  where
    Go : Type 0
    Go = (last : Option (ℕ × Answer)) (before : List Handle) → kept_for r.0 last ≡ None → kept_for r.0 (last_from n last entries) ≡ Some k → Ends n r k before entries

    its_client : (a b : Bool) → (a && b) ≡ true → b ≡ true
    its_client true b is = is
    its_client false b is = absurd (true≢false (sym is))

    by_change : is_of n e ≡ true → (o : Option Change) → change_in e.what ≡ o → Go → Ends n r k before (e ∷ entries)
    by_change is None says go = absurd (true≢false (sym is ∙ rw says refl))
    by_change is (Some by) says go = by_number (e.number == r.0) refl
      where
        client : (e.client == n) ≡ true
        client = its_client (is_some (change_in e.what)) (e.client == n) is

        now : cond (e.client == n) (answer_kept (change_in e.what) e.number last) last ≡ Some (e.number, answer_to_change by)
        now = rw (client, says) refl

        kept_now : kept_for r.0 (last_from n (Some (e.number, answer_to_change by)) entries) ≡ Some k
        kept_now = ap (λ (x : Option (ℕ × Answer)). kept_for r.0 (last_from n x entries)) (sym now) ∙ kept

        by_number : (b : Bool) → (e.number == r.0) ≡ b → Ends n r k before (e ∷ entries)
        by_number false differs = ends_from n r k before (opens_by n by before) e entries
            (ap (λ (l : List Handle). left_open n None l entries) (step_takes n None e before by is refl says))
            (ap (λ (l : List Handle). left_open n (Some r) l entries) (step_takes n (Some r) e before by is differs says))
            (go (Some (e.number, answer_to_change by)) (opens_by n by before) (rw differs refl) kept_now)
        by_number true same = (by, answers, subst (λ (o : Option Change). IfSome o (CanMake r.1)) says (made.0 is number), all ∙ ap (opens_by n by) (sym without))
          where
            number : e.number ≡ r.0
            number = grind (arith, nat_tests, same)

            rest : NoneOf n entries
            rest = none_above n r.0 entries (subst (λ (t : ℕ). AllAbove n t entries) number (rising.0 is)) upto.1

            some_same : (a b : Answer) → Some a ≡ Some b → a ≡ b
            some_same a b is = cc

            answers : answer_to_change by ≡ k
            answers = some_same (answer_to_change by) k (sym (ap (kept_for r.0) (last_none n entries (Some (e.number, answer_to_change by)) rest) ∙ rw same refl) ∙ kept_now)

            all : left_open n None before (e ∷ entries) ≡ opens_by n by before
            all = ap (λ (l : List Handle). left_open n None l entries) (step_takes n None e before by is refl says) ∙ none_left n None (opens_by n by before) entries rest

            without : left_open n (Some r) before (e ∷ entries) ≡ before
            without = ap (λ (l : List Handle). left_open n (Some r) l entries) (step_skips n (Some r) e before (not_now (is_of n e) (e.number == r.0) same)) ∙ none_left n (Some r) before entries rest

    by_test : (b : Bool) → is_of n e ≡ b → Go → Ends n r k before (e ∷ entries)
    by_test true is go = by_change is (change_in e.what) refl go
    by_test false isnt go = ends_from n r k before before e entries
        (ap (λ (l : List Handle). left_open n None l entries) (step_skips n None e before (not_its (is_of n e) true isnt)))
        (ap (λ (l : List Handle). left_open n (Some r) l entries) (step_skips n (Some r) e before (not_its (is_of n e) (not (e.number == r.0)) isnt)))
        (go last before none (ap (λ (x : Option (ℕ × Answer)). kept_for r.0 (last_from n x entries)) (sym (last_same n e last isnt)) ∙ kept))

-- the answer makes of the handles what the effect does
refused_same : (h : Client) (said : Answer) (asked : Request) → (asks_change asked ≡ true → is_refusal said ≡ true) → handles_after h said asked ≡ h.handles
refused_same h (answer.Opened ino) (request.Open handle path writable) refuses = absurd (true≢false (sym (refuses refl)))
refused_same h answer.Done (request.Close handle) refuses = absurd (true≢false (sym (refuses refl)))
refused_same h said asked refuses = refl

opened_same : (n : ℕ) (h : Client) (asked : Request) (made : Change) → h.number ≡ n → CanMake asked made → handles_after h (answer_to_change made) asked ≡ opens_by n made h.handles
opened_same n h (request.Mkdir path) (change.Mkdir dir name ino) number can = refl
opened_same n h (request.Mkdir path) (change.Mksnap id dir name) number can = refl
opened_same n h (request.Rmdir path) (change.Rmdir dir name) number can = refl
opened_same n h (request.Rmdir path) (change.Rmsnap id) number can = refl
opened_same n h (request.Create path mode) (change.Create dir name ino given) number can = refl
opened_same n h (request.Unlink path) (change.Unlink dir name) number can = refl
opened_same n h (request.Link path target) (change.Link ino dir name) number can = refl
opened_same n h (request.Rename path target) (change.Rename dir name to_dir to_name) number can = refl
opened_same n h (request.Chmod path mode) (change.Chmod ino given) number can = refl
opened_same n h (request.Open handle path writable) (change.OpenFile opened ino can_write) number can =
    ap (λ (k : ℕ). h.handles ++ record { client = k; handle = handle; ino = ino; writable = writable } ∷ []) number
    ∙ ap (λ (k : ℕ). h.handles ++ record { client = n; handle = k; ino = ino; writable = writable } ∷ []) (sym can.0)
    ∙ ap (λ (k : Bool). h.handles ++ record { client = n; handle = opened; ino = ino; writable = k } ∷ []) (sym can.1)
opened_same n h (request.Close handle) (change.CloseFile closed) number can =
    ap (λ (k : ℕ). opens_by k (change.CloseFile handle) h.handles) number ∙ ap (λ (k : ℕ). opens_by n (change.CloseFile k) h.handles) (sym can)
opened_same n h asked made number can = absurd can

settled : (n : ℕ) (h : Client) (r : ℕ × Request) (entries : List Entry) (said : Answer) → h.number ≡ n → Rising n entries → AllUpTo n r.0 entries → AllMadeBy n r.0 r.1 entries → ByKept r.1 (kept_of n r.0 entries) said → h.handles ≡ left_open n (Some r) [] entries → left_open n None [] entries ≡ handles_after h said r.1
settled n h r entries said number rising upto made by has = by_kept (kept_of n r.0 entries) refl by
  where
    by_kept : (o : Option Answer) → kept_of n r.0 entries ≡ o → ByKept r.1 o said → left_open n None [] entries ≡ handles_after h said r.1
    by_kept None none refuses = sym (not_left n (Some r) [] entries (less_not n r entries (new_less n r.0 entries none rising upto))) ∙ sym has ∙ sym (refused_same h said r.1 refuses.1)
    by_kept (Some k) kept same =
        let ends = last_ends n r k entries None [] rising upto made refl kept in
        ends.3 ∙ ap (opens_by n ends.0) (sym has) ∙ sym (opened_same n h r.1 ends.0 number ends.2) ∙ ap (λ (a : Answer). handles_after h a r.1) (ends.1 ∙ sym same)

-- the view: a client's number is its own
abbrev pub Opens : View
Opens n c up down s = (c.number ≡ n) × HasOpen n c up down s

abbrev pub Opening : View
Opening n c up down s = Replied n c up down s × Opens n c up down s

-- a row that leaves what is open
abbrev SameHandles : Client → Client → Type 0
SameHandles c d = (d.handles ≡ c.handles) × (d.number ≡ c.number)

same_if : (c : Client) (b : Bool) (x y : Row Client) → SameHandles c x.state → SameHandles c y.state → SameHandles c (cond b x y).state
same_if c true x y here other = here
same_if c false x y here other = other

edit_same : (c : Client) (number : ℕ) (text : Line) (e : Edit) (ino : Ino) (o : Result Change Refusal) → SameHandles c (edit_file c number text e ino o).state
edit_same c number text e ino (Err refusal) = (refl, refl)
edit_same c number text e ino (Ok made) = same_if c (is_writer ino c.files) (edits c number ino e) (asks c number text (request.Cap ino Write)) (refl, refl) (refl, refl)

edit_line_same : (c : Client) (number : ℕ) (text : Line) (e : Edit) (o : Option Handle) → SameHandles c (edit_line c number text e o).state
edit_line_same c number text e None = (refl, refl)
edit_line_same c number text e (Some h) = edit_same c number text e h.ino (data_change (Some h) e.ends e.change)

read_same : (c : Client) (number : ℕ) (text : Line) (o : Option Handle) → SameHandles c (read_line c number text o).state
read_same c number text None = (refl, refl)
read_same c number text (Some h) = same_if c (is_held h.ino c.files) (reads_head c number 0 h.ino) (asks c number text (request.Cap h.ino Read)) (refl, refl) (refl, refl)

asked_same : (c : Client) (number : ℕ) (text : Line) (o : Option Request) → SameHandles c (begin_asked c number text o).state
asked_same c number text None = (refl, refl)
asked_same c number text (Some asked) = (refl, refl)

other_same : (c : Client) (number : ℕ) (text : Line) → SameHandles c (begin_other c number text).state
other_same c number (line.Read handle) = read_same c number (line.Read handle) (opened c handle)
other_same c number line.Barrier = (refl, refl)
other_same c number line.Break = (refl, refl)
other_same c number text = asked_same c number text (request_of text)

with_same : (c : Client) (number : ℕ) (text : Line) (o : Option Edit) → SameHandles c (begin_with c number text o).state
with_same c number text (Some e) = edit_line_same c number text e (opened c e.handle)
with_same c number text None = other_same c number text

op_same : (c : Client) (lines : List Line) → IfSome (op_of c lines) (λ r. SameHandles c r.state)
op_same c [] = tt
op_same c (text ∷ rest) = by_test (not c.frozen && may_begin c.under text)
  where
    by_test : (b : Bool) → IfSome (cond b (Some (begin (record c { lines = rest; begun = c.begun + 1 }) (c.begun + 1) text)) None) (λ r. SameHandles c r.state)
    by_test true = with_same (record c { lines = rest; begun = c.begun + 1 }) (c.begun + 1) text (edit_of text)
    by_test false = tt

item_same : (c : Client) (ino : Ino) (items : List Item) → SameHandles c (send_item c ino items).state
item_same c ino [] = (refl, refl)
item_same c ino (OfPiece p ∷ items) = (refl, refl)
item_same c ino (OfMark m ∷ items) = (refl, refl)

due_same : (c : Client) (unsent : List Item) (item : Due) → SameHandles c (send_due c unsent item).state
due_same c unsent (due.Piece ino) = item_same c ino unsent
due_same c unsent (due.Mark ino follows upto size) = (refl, refl)
due_same c unsent (due.Release ino size) = (refl, refl)
due_same c unsent (due.DropRead ino) = (refl, refl)

flush_same : (c : Client) → IfSome (on_flush c) (λ r. SameHandles c r.state)
flush_same c = by_test c.frozen
  where
    by_due : (o : Option Due) → IfSome (sends_due c o) (λ r. SameHandles c r.state)
    by_due None = tt
    by_due (Some item) = due_same (record c { files = sent item c.files }) (unsent_in (file_of (file_due item) c.files)) item

    by_test : (b : Bool) → IfSome (cond b None (sends_due c (first_due (reading c.under) c.files))) (λ r. SameHandles c r.state)
    by_test true = tt
    by_test false = by_due (first_due (reading c.under) c.files)

read_taken : (c : Client) (said : FromStore) (under : Under) → SameHandles c (take_read c said under).state
read_taken c said Idle = (refl, refl)
read_taken c said (Open number tid text asked let_go) = (refl, refl)
read_taken c said (AtStore number entry ino head) = same_if c (is_key number (key_of said)) (replies (record c { under = Idle }) number false entry (store_answer c ino head said)) (stays c) (refl, refl) (refl, refl)

taken_same : (c : Client) (said : FromStore) → SameHandles c (take_stored c said).state
taken_same c (Stored ino) = (refl, refl)
taken_same c (Got key bytes) = read_taken c (Got key bytes) c.under
taken_same c (NotThere key) = read_taken c (NotThere key) c.under
taken_same c (CloneListIs key list) = read_taken c (CloneListIs key list) c.under

stored_same : (c : Client) (said : FromStore) → SameHandles c (on_stored c said).state
stored_same c said = same_if c (from_store_fits said) (take_stored c said) (stays c) (taken_same c said) (refl, refl)

updated_handles : (c : Client) (update : List FileTrace) → SameHandles c (updated c update)
updated_handles c update = (updated_same (λ (v : Client). v.handles) (λ v ino new. refl) update c, updated_same (λ (v : Client). v.number) (λ v ino new. refl) update c)

-- what is open and the client's handles after a row
abbrev Now : ℕ → List Entry → Client → Type 0
Now n entries d = (d.number ≡ n) × (d.handles ≡ left_open n (open_request d.under) [] entries)

now_same : (n : ℕ) (entries : List Entry) (c d : Client) → SameHandles c d → open_request d.under ≡ open_request c.under → Now n entries c → Now n entries d
now_same n entries c d same still now = (same.1 ∙ now.0, same.0 ∙ now.1 ∙ ap (λ (o : Option (ℕ × Request)). left_open n o [] entries) (sym still))

-- nothing was open before, and what is open now is new
now_new : (n t : ℕ) (entries : List Entry) (c d : Client) → SameHandles c d → IsNew t (open_request c.under) (open_request d.under) → open_request c.under ≡ None → AllUpTo n t entries → Now n entries c → Now n entries d
now_new n t entries c d same (inl still) none upto now = now_same n entries c d same still now
now_new n t entries c d same (inr less) none upto now = (same.1 ∙ now.0, same.0 ∙ now.1 ∙ ap (λ (o : Option (ℕ × Request)). left_open n o [] entries) none ∙ by_open (open_request d.under) less)
  where
    by_open : (o : Option (ℕ × Request)) → IfSome o (λ r. t < r.0) → left_open n None [] entries ≡ left_open n o [] entries
    by_open None less = refl
    by_open (Some r) less = sym (not_left n (Some r) [] entries (upto_not n t r entries less upto))

acts_now : (n : ℕ) (entries : List Entry) (c : Client) (r : Row Client) → SameHandles c r.state → IsNew c.tid (open_request c.under) (open_request r.state.under) → Acts c r → AllUpTo n c.tid entries → Now n entries c → Now n entries r.state
acts_now n entries c r same new (inl begin) upto now = now_new n c.tid entries c r.state same new begin.0 upto now
acts_now n entries c r same new (inr (inl keep)) upto now = now_same n entries c r.state same keep.same now
acts_now n entries c r same new (inr (inr renew)) upto now = now_same n entries c r.state same (ap (λ (o : Offer). o.asked) renew.state) now

-- an answer is taken: the effect of the request counts from now on
abbrev Free : ℕ → List Entry → Client → List Handle → Type 0
Free n entries d handles = (d.number ≡ n) × (d.handles ≡ handles) × (left_open n None [] entries ≡ handles) × IfSome (open_request d.under) (λ r. NotOf n (Some r) entries)

free_now : (n : ℕ) (entries : List Entry) (d : Client) (handles : List Handle) → Free n entries d handles → Now n entries d
free_now n entries d handles free = (free.0, free.1 ∙ sym free.2 ∙ by_open (open_request d.under) free.3)
  where
    by_open : (o : Option (ℕ × Request)) → IfSome o (λ r. NotOf n (Some r) entries) → left_open n None [] entries ≡ left_open n o [] entries
    by_open None is = refl
    by_open (Some r) is = sym (not_left n (Some r) [] entries is)

now_if : (n : ℕ) (entries : List Entry) (b : Bool) (x y : Row Client) → (b ≡ true → Now n entries x.state) → Now n entries y.state → Now n entries (cond b x y).state
now_if n entries true x y here other = here refl
now_if n entries false x y here other = other

answer_now : (n : ℕ) (entries : List Entry) (h : Client) (number : ℕ) (text : Line) (asked : Request) (let_go : List Ino) (stamp : Stamp) (said : Answer) → h.number ≡ n → AllUpTo n h.tid entries → left_open n None [] entries ≡ handles_after h said asked → Now n entries (take_answer h number text asked let_go stamp said).state
answer_now n entries h number text asked let_go stamp (answer.FoundLive ino perm size write_held) its upto is = now_if n entries (list_any (is_ino ino) let_go) (asks_anew h number text asked ino) (with_found (found h ino size stamp.snap write_held) number asked stamp.entry ino perm)
    (λ gone. free_now n entries (asks_anew h number text asked ino).state h.handles (its, refl, is, upto_not n h.tid (h.tid + 1, asked) entries (omega arith) upto))
    (by_wants (wants_bytes asked) refl)
  where
    by_wants : (b : Bool) → wants_bytes asked ≡ b → Now n entries (with_found (found h ino size stamp.snap write_held) number asked stamp.entry ino perm).state
    by_wants true test = rw test (its, sym is)
    by_wants false test = rw test (its, sym is)
answer_now n entries h number text asked let_go stamp (answer.FoundSnap ino snap size) its upto is = (its, sym is)
answer_now n entries h number text asked let_go stamp (answer.FoundObject ino index) its upto is = (its, sym is)
answer_now n entries h number text asked let_go stamp said its upto is = (its, sym is)

update_now : (n : ℕ) (entries : List Entry) (c : Client) (update : List FileTrace) → Now n entries c → Now n entries (updated c update)
update_now n entries c update now = now_same n entries c (updated c update) (updated_handles c update) (ap open_request (updated_same (λ (v : Client). v.under) (λ v ino new. refl) update c)) now

pub asked_again : (under : Under) → open_request (sent_again under) ≡ open_request under
asked_again Idle = refl
asked_again (Open number tid line request let_go) = refl
asked_again (AtStore number entry ino head) = refl

-- what is known of the journal
record Told (n : ℕ) (entries : List Entry) (tid : ℕ) : Type 0 where
  pub rising : Rising n entries
  pub upto : AllUpTo n tid entries

abbrev pub MadeFor : ℕ → List Entry → Option (ℕ × Request) → Type 0
MadeFor n entries o = IfSome o (λ r. AllMadeBy n r.0 r.1 entries)

reply_now : (n : ℕ) (entries : List Entry) (h : Client) (tid : ℕ) (stamp : Stamp) (said : Answer) (under : Under) → h.under ≡ under → Told n entries h.tid → IfSome (open_request under) (λ r. r.0 ≡ h.tid) → MadeFor n entries (open_request under) → IfSome (open_request under) (λ r. ByKept r.1 (kept_of n r.0 entries) said) → Now n entries h → Now n entries (take_reply h tid stamp said under).state
reply_now n entries h tid stamp said Idle is told last made kept now = now
reply_now n entries h tid stamp said (AtStore number entry ino head) is told last made kept now = now
reply_now n entries h tid stamp said (Open number open_tid text asked let_go) is told last made kept now =
    now_if n entries (open_tid == tid && takes_answer h said) (take_answer h number text asked let_go stamp said) (stays h)
    (λ takes. answer_now n entries h number text asked let_go stamp said now.0 told.upto (settled n h (open_tid, asked) entries said now.0 told.rising (subst (λ (t : ℕ). AllUpTo n t entries) (sym last) told.upto) made kept (now.1 ∙ ap (λ (u : Under). left_open n (open_request u) [] entries) is)))
    now

-- no effect is of a request for a capability
grant_now : (n : ℕ) (entries : List Entry) (h : Client) (tid : ℕ) (stamp : Stamp) (ino : Ino) (mode : Mode) (size : ℕ) (file : FileTrace) (under : Under) → h.under ≡ under → Told n entries h.tid → IfSome (open_request under) (λ r. r.0 ≡ h.tid) → MadeFor n entries (open_request under) → Now n entries h → Now n entries (take_grant h tid stamp ino mode size file under).state
grant_now n entries h tid stamp ino mode size file Idle is told last made now = now
grant_now n entries h tid stamp ino mode size file (AtStore number entry other head) is told last made now = now
grant_now n entries h tid stamp ino mode size file (Open number open_tid text asked let_go) is told last made now =
    now_if n entries (open_tid == tid && asks_for asked ino mode && not (is_writer ino h.files)) (goes_on (granted h ino mode size stamp.snap file) number ino (edit_of text)) (stays h)
    (λ takes. by_edit (edit_of text) (by_asked asked (middle (open_tid == tid) (asks_for asked ino mode) (not (is_writer ino h.files)) takes) made)) now
  where
    middle : (a b c : Bool) → (a && b && c) ≡ true → b ≡ true
    middle true true c test = refl
    middle true false c test = absurd (true≢false (sym test))
    middle false b c test = absurd (true≢false (sym test))

    never : (file : Ino) (wanted : Mode) (made : Change) → CanMake (request.Cap file wanted) made → ⊥
    never file wanted (change.Mkdir dir name ino) can = can
    never file wanted made can = can

    by_asked : (asked : Request) → asks_for asked ino mode ≡ true → AllMadeBy n open_tid asked entries → kept_of n open_tid entries ≡ None
    by_asked (request.Cap file wanted) asks made = never_kept n open_tid (request.Cap file wanted) (never file wanted) entries None made refl
    by_asked asked asks made = absurd (true≢false (sym asks))

    free : kept_of n open_tid entries ≡ None → h.handles ≡ left_open n None [] entries
    free none = now.1 ∙ ap (λ (u : Under). left_open n (open_request u) [] entries) is ∙ not_left n (Some (open_tid, asked)) [] entries (less_not n (open_tid, asked) entries (new_less n open_tid entries none told.rising (subst (λ (t : ℕ). AllUpTo n t entries) (sym last) told.upto)))

    by_edit : (o : Option Edit) → kept_of n open_tid entries ≡ None → Now n entries (goes_on (granted h ino mode size stamp.snap file) number ino o).state
    by_edit (Some e) none = (now.0, free none)
    by_edit None none = (now.0, free none)

pub first_of_two : (a b : Bool) → (a && b) ≡ true → a ≡ true
first_of_two true b is = refl
first_of_two false b is = is

pub last_open : (n : ℕ) (c : Client) (up : List ToServer) (down : List ToClient) (s : Server) → Replied n c up down s → IfSome (open_request c.under) (λ r. r.0 ≡ c.tid)
last_open n c up down s all = by_open (open_request c.under) (asking_of n c up down s all.0.0).1.opened
  where
    by_open : (o : Option (ℕ × Request)) → OpenAt c.tid o → IfSome o (λ r. r.0 ≡ c.tid)
    by_open None is = tt
    by_open (Some r) is = is

told_now : (n : ℕ) (c : Client) (up : List ToServer) (m : ToClient) (down : List ToClient) (s : Server) → Replied n c up (m ∷ down) s → Now n s.entries c → Now n s.entries (on_told c m).state
told_now n c up (Reply conn tid stamp said) down s all now = let m = Reply conn tid stamp said in
    now_if n s.entries (may_take c m && to_client_fits m) (take_own (having_heard c m) m) (stays (having_heard c m))
    (λ takes. reply_now n s.entries (having_heard c m) tid stamp said c.under refl (record { rising = all.0.0.0.0.1.rising; upto = all.0.0.0.0.1.upto }) (last_open n c up (m ∷ down) s all) all.0.1 (all.1.0 (first_of_two (may_take c m) (to_client_fits m) takes)).1 now)
    now
told_now n c up (Grant conn tid stamp ino mode size file) down s all now = let m = Grant conn tid stamp ino mode size file in
    now_if n s.entries (may_take c m && to_client_fits m) (take_own (having_heard c m) m) (stays (having_heard c m))
    (λ takes. grant_now n s.entries (having_heard c m) tid stamp ino mode size file c.under refl (record { rising = all.0.0.0.0.1.rising; upto = all.0.0.0.0.1.upto }) (last_open n c up (m ∷ down) s all) all.0.1 now)
    now
told_now n c up (Restarted stamp) down s all now = let m = Restarted stamp in
    now_if n s.entries (may_take c m && to_client_fits m) (take_own (having_heard c m) m) (stays (having_heard c m)) (λ takes. now_same n s.entries c (connects (having_heard c m)).state (refl, refl) (asked_again c.under) now) now
told_now n c up (Recall conn stamp ino) down s all now = let m = Recall conn stamp ino in
    now_if n s.entries (may_take c m && to_client_fits m) (take_own (having_heard c m) m) (stays (having_heard c m)) (λ takes. now) now
told_now n c up (FlushAck conn stamp number) down s all now = let m = FlushAck conn stamp number in
    now_if n s.entries (may_take c m && to_client_fits m) (take_own (having_heard c m) m) (stays (having_heard c m)) (λ takes. now) now
told_now n c up (Notice conn stamp update) down s all now = let m = Notice conn stamp update in
    now_if n s.entries (may_take c m && to_client_fits m) (take_own (having_heard c m) m) (stays (having_heard c m)) (λ takes. update_now n s.entries (having_heard c m) update now) now
told_now n c up (Welcome conn stamp last update) down s all now = let m = Welcome conn stamp last update in
    now_if n s.entries (may_take c m && to_client_fits m) (take_own (having_heard c m) m) (stays (having_heard c m)) (λ takes. update_now n s.entries (acked (record (having_heard c m) { frozen = false }) (λ k. nat_le k last)) update now) now

-- the entries
later_open : (n place d : ℕ) (o : Option (ℕ × Request)) (entries : List Entry) → d ≤ length entries → place ≤ d → AllOpen n o (drop place entries) → AllOpen n o (drop d entries)
later_open n place d o entries fits less all = back (drop place (take d entries)) (drop d entries) (subst (AllOpen n o) (ap (drop place) (sym (take-append-drop d entries)) ∙ drop-append-le place (take d entries) (drop d entries) within) all)
  where
    within : place ≤ length (take d entries)
    within = let long = length-take-le d entries fits in omega (arith, long, less)

    back : (xs ys : List Entry) → AllOpen n o (xs ++ ys) → AllOpen n o ys
    back [] ys all = all
    back (e ∷ xs) ys all = back xs ys all.1

survives_now : (n : ℕ) (c : Client) (k d : ℕ) (entries : List Entry) → d ≤ length entries → k ≤ d → AllOpen n (open_request c.under) (drop k entries) → Now n entries c → Now n (take d entries) c
survives_now n c k d entries fits less all now = (now.0, now.1 ∙ ap (left_open n (open_request c.under) []) (sym (take-append-drop d entries)) ∙ left_append n (open_request c.under) [] (take d entries) (drop d entries) ∙ open_left n (open_request c.under) (left_open n (open_request c.under) [] (take d entries)) (drop d entries) (later_open n k d (open_request c.under) entries fits less all))

open_one : (n : ℕ) (c : Client) (s : Server) (a : Act) → Fits n c s a → AllOf n (open_request c.under) (as_list s.hand) → Now n s.entries c → (let t = act s a in Now n t.entries c)
open_one n c s a fit hand now = entries_one n (λ entries d. Now n entries c) s a fit.0
    (λ t e isnt was. (was.0, was.1 ∙ sym (skips_more n (open_request c.under) s.entries e (not_its (is_of n e) (not (is_open (open_request c.under) e.number)) isnt))))
    (λ h made said is mine_it makes writes. (now.0, now.1 ∙ sym (skips_more n (open_request c.under) s.entries (entry_for h said) (not_now (is_of n (entry_for h said)) (is_open (open_request c.under) h.tid) (its_tid (open_request c.under) h.tid (tid_of (open_request c.under) h (hand_it n (open_request c.under) s h hand is mine_it)))))))
    now
  where
    tid_of : (o : Option (ℕ × Request)) (h : Asked) → IsIt o h.tid h.request → IsTid o h.tid
    tid_of None h it = it
    tid_of (Some r) h it = it.0

opens_kept : KeptViews Fits Opening Opens
opens_kept = record {
  op = λ n c up down s all. three_rows (on_op c) (op_same c c.lines) (op_new c c.lines) (op_acts c c.lines (asking_of n c up down s all.0.0.0).1.opened) (λ r same new does. acts_now n s.entries c r same new does.1 all.0.0.0.0.0.1.upto all.1);
  flush = λ n c up down s all. two_rows (on_flush c) (flush_same c) (flush_acts c) (λ r same does. now_same n s.entries c r.state same does.1.same all.1);
  told = λ n c up m down s all. told_now n c up m down s all.0 all.1;
  stored = λ n c m up down s all. now_same n s.entries c (on_stored c m).state (stored_same c m) (ap (λ (o : Offer). o.asked) (store_hidden c m).state) all.1;
  one = λ n c up down s a fit all. open_one n c s a fit (asking_of n c up down s all.0.0.0).1.in_hand all.1;
  pops = λ n c m up down s all. all.1;
  accepts = λ n c conn said flushes asked up down s all. in_hand (λ (t : Server). Now n t.entries c) (λ t hand so. so) (welcome (connected s n conn) n conn) n asked all.1;
  accepts_other = λ n x c conn asked up down s other all. in_hand (λ (t : Server). Now n t.entries c) (λ t hand so. so) (welcome (connected s x conn) x conn) x asked all.1;
  asks = λ n c conn tid asked up down s is all. all.1;
  asks_other = λ n x c tid asked up down s other all. all.1;
  hands = λ n c up down s all. all.1;
  durable = λ n c up down s all. all.1;
  survives = λ n c up down s k fits all. let tails = all.0.0.0.1 in survives_now n c s.durable (s.durable + k) s.entries (room k s fits tails.0.0.fits) (omega arith) tails.1 all.1;
}
  where
    two_rows : {P Q R : Row Client → Type 0} (o : Option (Row Client)) → IfSome o P → IfSome o Q → ((r : Row Client) → P r → Q r → R r) → IfSome o R
    two_rows None p q go = tt
    two_rows (Some r) p q go = go r p q

    three_rows : {P Q R S : Row Client → Type 0} (o : Option (Row Client)) → IfSome o P → IfSome o Q → IfSome o R → ((r : Row Client) → P r → Q r → R r → S r) → IfSome o S
    three_rows None p q r go = tt
    three_rows (Some x) p q r go = go x p q r

opening_kept : KeptViews Fits Opening Opening
opening_kept = both (given (λ n c up down s all. all.0) (λ n c s a fit. fit) replied_kept) opens_kept

opening_rules : RulesFit Fits Opening
opening_rules = record {
  anew = λ n c up down s all. replied_rules.anew n c up down s all.0;
  asks = λ n c conn tid asked up down s is all. replied_rules.asks n c conn tid asked up down s is all.0;
  asks_other = λ n x c tid asked up down s other all. replied_rules.asks_other n x c tid asked up down s other all.0;
  brings = λ n c conn said flushes asked up down s all. replied_rules.brings n c conn said flushes asked up down s all.0;
  brings_other = λ n x c conn asked up down s other all. replied_rules.brings_other n x c conn asked up down s other all.0;
  comes = replied_rules.comes;
  flushes = replied_rules.flushes;
  drops = replied_rules.drops;
  reports = replied_rules.reports;
  restarts = replied_rules.restarts;
  turns = λ n c up down s all. replied_rules.turns n c up down s all.0;
}

pub first_opening : (script : Script) (n : ℕ) → number_of (start script).server.current n ≡ Some 1 → Opening n (new_client n (script.clients + 1) (lines_of n script.lines)) [] [] (start script).server
first_opening script n is = (first_replied script n is, (refl, refl))

pub opening_rows : KeptByRows Opening
opening_rows = rows_of_acts Opening opening_kept opening_rules

pub open_law : (script : Script) (history : List Event) → EachClient HasOpen (world_after script history)
open_law script history = each_part Opening HasOpen (world_after script history) (λ n c up down s all. all.1.1)
    (run_keeps Opening opening_rows (start script) (steps_of history) (at_start Opening script (first_opening script)))

-- The open request's effect is what it can make, and its answer is the one that is kept, along each run.
use Rattle.std.proofs.Common.{◌≡◌, ◌<◌, ◌≤◌, ℕ, ◌+◌, List, [], ◌∷◌, ◌++◌, filter, length, take, drop, Bool, true, false, true≢false, cond, Option, None, Some, refl, sym, ap, ◌∙◌, subst, IfSome, arith, ◌⊎◌, inl, inr}
use Rattle.std.proofs.lemmas.List.{take-append-drop}
use Rattle.std.proofs.lemmas.List.Sums.{fold-append}
use Rattle.std.proofs.lemmas.Bool.Decides.{nat_tests}
use Rattle.std.specs.Prelude.{◌==◌, ◌&&◌, ◌||◌, nat_le, is_some, flat_map, Result, Ok, Err}
use Rattle.std.specs.List.{list_any, list_all}
use Rattle.snap_ids.specs.declared.id.Ino.{Ino}
use Rattle.snap_ids.specs.declared.id.SnapId.{SnapId}
use Rattle.snap_ids.specs.Path.{place_of}
use Rattle.plain_types.specs.declared.answer.Answer.{Answer}
use Rattle.plain_types.specs.declared.answer.Answer.TheVariants as answer
use Rattle.plain_types.specs.declared.answer.Refusal.{Refusal}
use Rattle.plain_types.specs.declared.change.Change.{Change}
use Rattle.plain_types.specs.declared.change.Change.TheVariants as change
use Rattle.plain_types.specs.declared.entry.Entry.{Entry}
use Rattle.plain_types.specs.declared.entry.What.{What}
use Rattle.plain_types.specs.declared.entry.What.TheVariants.{PrepareCreate, PrepareDestroy, Rollback, Barrier}
use Rattle.plain_types.specs.declared.history.Event.{Event}
use Rattle.plain_types.specs.declared.history.Step.{Step}
use Rattle.plain_types.specs.declared.message.ToClient.{ToClient}
use Rattle.plain_types.specs.declared.message.ToClient.TheVariants.{Reply}
use Rattle.plain_types.specs.declared.message.ToServer.{ToServer}
use Rattle.plain_types.specs.declared.request.Query.TheVariants as query
use Rattle.plain_types.specs.declared.request.Request.{Request}
use Rattle.plain_types.specs.declared.request.Request.TheVariants as request
use Rattle.plain_types.specs.declared.script.Script.{Script}
use Rattle.plain_tree.specs.Line.{answer_to as answer_to_change}
use Rattle.plain_tree.specs.Query.{live_only}
use Rattle.plain_tree.specs.Request.{change_asked}
use Rattle.plain_journal.specs.Answers.{found, answer_to}
use Rattle.plain_journal.specs.Entries.{change_in, state_after}
use Rattle.plain_journal.specs.Table.{answer_kept, last_effect, outstanding, dead}
use Rattle.step_table.specs.Row.{Row}
use Rattle.plain_tree.specs.State.{State}
use Rattle.step_table.specs.ServerState.{Asked, Server, Changed, tell_at, number_of, welcome, all_connected, up_to}
use Rattle.step_table.specs.Acts.{Act, AnswerIt, MakeEffect, Prepare, Wait, Defer, DeferFirst, TakeHeld, TakeDeferred, TakeOperation, Buffer, act, acts, each, of_client, as_list, first_of, buffer, buffer_for, entry_for, own_entry, written_down}
use Rattle.step_table.specs.Requests.{decide_anew, treat, treat_known, treat_new, kept_for, kept_answer, is_operation, decided, make, prepare, is_busy, next_id}
use Rattle.step_table.specs.Flushes.{asked_by, brought, take_in, connected, treat_brought, come_back, on_drop, on_flush as flush_acts_of}
use Rattle.step_table.specs.Background.{roll_back, finish, finish_with, least, unsent_purges, turn_operation, turn_deferred, turn_purge, turn_dead, turn_barrier, turn_at, turn, is_due, first_file, first_barrier, waits_at, is_finished, open_to, barrier_of, is_number}
use Rattle.step_table.specs.ServerRows.{restarts, reported}
use Rattle.step_table.specs.ClientState.{Client, open_request, new_client}
use Rattle.step_table.specs.ClientLines.{on_op, on_flush}
use Rattle.step_table.specs.ClientTakes.{is_success, on_told}
use Rattle.step_table.specs.World.{start, after, lines_of}
use Rattle.run_laws.specs.Moments.{steps_of, world_after}
use Rattle.run_laws.specs.Links.{View, EachClient, Offer, mail_of}
use Rattle.run_laws.specs.Requests.{IsIt, AllOf, is_of, AllUpTo, AllLess, answer_to_tid, answer_at}
use Rattle.run_laws.specs.Stamps.{entry_of}
use Rattle.run_laws.specs.Answered.{CanMake, IsMadeBy, AllMadeBy, AsAsked, asks_change, asks_capability, kept_of, ByKept, RepliesAsKept, AllAsKept, AsKept}
use Rattle.run_laws.proofs.Acts.{Fit, fit_append, acts_keep, notices_keep}
use Rattle.run_laws.proofs.Clients.{Keeps, flush_acts, store_hidden}
use Rattle.run_laws.proofs.Told.{told_row}
use Rattle.run_laws.proofs.Linked.{in_hand, if_row, at_start, each_part}
use Rattle.run_laws.proofs.Effects.{last_from, NewAt, EffectFits}
use Rattle.run_laws.proofs.Fitting.{OkIs}
use Rattle.run_laws.proofs.Once.{FitsFor, HandOf, first_client, hand_of}
use Rattle.run_laws.proofs.Strangers.{NoneOf}
use Rattle.run_laws.proofs.Quiet.{IsQuiet, AllQuiet, Same, quiet_same, no_success, quiet_look, quiet_stated, quiet_catted, quiet_listed, quiet_realm, quiet_clones, quiet_barrier, IsSilent, AllSilent, silent_cap, silent_flush, silent_drop, silent_back, silent_reported, silent_restarts, silent_dead}
use Rattle.run_laws.proofs.Making.{can_come, written_in, IsNew, op_new, told_new}
use Rattle.run_laws.proofs.Buffered.{AllThat, Kind, CarriedKind, Carries, kind_kept, entries_one, NoneBehind, behind_more, behind_shorter, behind_later, behind_all, Ended, ended, ended_rules, first_ended, asking_of, hand_it}
use Rattle.run_laws.proofs.Views.{Client's, KeptByRows, run_keeps}
use Rattle.run_laws.proofs.ViewActs.{KeptViews, RulesFit, rows_of_acts, accepted, both, given}

-- What is kept for a client is the same after an entry that is no effect of it.
pub last_same : (n : ℕ) (e : Entry) (before : Option (ℕ × Answer)) → is_of n e ≡ false → cond (e.client == n) (answer_kept (change_in e.what) e.number before) before ≡ before
last_same n e before isnt = by_kind (e.client == n) (change_in e.what) isnt
  where
    by_kind : (b : Bool) (o : Option Change) → (is_some o && b) ≡ false → cond b (answer_kept o e.number before) before ≡ before
    by_kind false o isnt = refl
    by_kind true None isnt = refl
    by_kind true (Some made) isnt = absurd (true≢false isnt)

pub last_none : (n : ℕ) (entries : List Entry) (before : Option (ℕ × Answer)) → NoneOf n entries → last_from n before entries ≡ before
last_none n [] before none = refl
last_none n (e ∷ entries) before none = ap (λ (o : Option (ℕ × Answer)). last_from n o entries) (last_same n e before none.0) ∙ last_none n entries before none.1

pub kept_more : (n tid : ℕ) (entries : List Entry) (e : Entry) → is_of n e ≡ false → kept_of n tid (entries ++ e ∷ []) ≡ kept_of n tid entries
kept_more n tid entries e isnt = ap (kept_for tid) (fold-append _ None entries (e ∷ []) ∙ last_same n e (last_effect entries n) isnt)

pub kept_front : (n tid k : ℕ) (entries : List Entry) → NoneOf n (drop k entries) → kept_of n tid (take k entries) ≡ kept_of n tid entries
kept_front n tid k entries none = ap (kept_for tid) (sym (last_none n (drop k entries) (last_effect (take k entries) n) none) ∙ sym (fold-append _ None (take k entries) (drop k entries)) ∙ ap (λ (l : List Entry). last_effect l n) (take-append-drop k entries))

-- and a new effect's answer is kept
kept_new : (n : ℕ) (entries : List Entry) (h : Asked) (said : What) (made : Change) → of_client n h ≡ true → change_in said ≡ Some made → kept_of n h.tid (entries ++ entry_for h said ∷ []) ≡ Some (answer_to_change made)
kept_new n entries h said made mine_it says = ap (kept_for h.tid) (fold-append _ None entries (entry_for h said ∷ []) ∙ last) ∙ rw itself refl
  where
    itself : (h.tid == h.tid) ≡ true
    itself = grind (arith, nat_tests)

    last : cond (h.client == n) (answer_kept (change_in said) h.tid (last_effect entries n)) (last_effect entries n) ≡ Some (h.tid, answer_to_change made)
    last = rw (mine_it, says) refl

-- where no effect can be of the request, nothing is kept for it
pub never_kept : (n tid : ℕ) (asked : Request) → ((made : Change) → CanMake asked made → ⊥) → (entries : List Entry) (before : Option (ℕ × Answer)) → AllMadeBy n tid asked entries → kept_for tid before ≡ None → kept_for tid (last_from n before entries) ≡ None
never_kept n tid asked never [] before all none = none
never_kept n tid asked never (e ∷ entries) before all none = never_kept n tid asked never entries _ all.1 (by_kind (e.client == n) refl (change_in e.what) refl)
  where
    by_kind : (b : Bool) → (e.client == n) ≡ b → (o : Option Change) → change_in e.what ≡ o → kept_for tid (cond b (answer_kept o e.number before) before) ≡ None
    by_kind false test o is = none
    by_kind true test None is = none
    by_kind true test (Some made) is = by_number (e.number == tid) refl
      where
        here : is_of n e ≡ true
        here = rw (is, test) refl

        by_number : (d : Bool) → (e.number == tid) ≡ d → cond d (Some (answer_to_change made)) None ≡ None
        by_number false same = refl
        by_number true same = absurd (never made (subst (λ (o : Option Change). IfSome o (CanMake asked)) is (all.0 here (grind (arith, nat_tests, same)))))

-- nor where all effects of the client have lower numbers
kept_less : (n tid : ℕ) (entries : List Entry) (before : Option (ℕ × Answer)) → AllLess n tid entries → kept_for tid before ≡ None → kept_for tid (last_from n before entries) ≡ None
kept_less n tid [] before all none = none
kept_less n tid (e ∷ entries) before all none = kept_less n tid entries _ all.1 (by_kind (e.client == n) refl (change_in e.what) refl)
  where
    by_kind : (b : Bool) → (e.client == n) ≡ b → (o : Option Change) → change_in e.what ≡ o → kept_for tid (cond b (answer_kept o e.number before) before) ≡ None
    by_kind false test o is = none
    by_kind true test None is = none
    by_kind true test (Some made) is = rw differs refl
      where
        here : is_of n e ≡ true
        here = rw (is, test) refl

        differs : (e.number == tid) ≡ false
        differs = let less = all.0 here in grind (arith, nat_tests, less)

-- An act fits: an effect is one that the request in hand can make, and an answer is what is kept for it, or there is none.
abbrev pub HandMakes : ℕ → Change → Server → Type 0
HandMakes n made s = (h : Asked) → s.hand ≡ Some h → of_client n h ≡ true → CanMake h.request made

abbrev pub HandSays : ℕ → Answer → Server → Type 0
HandSays n said s = (h : Asked) → s.hand ≡ Some h → of_client n h ≡ true → ByKept h.request (kept_of n h.tid s.entries) said

abbrev pub AnswerFits : ℕ → Client → Server → Act → Type 0
AnswerFits n c s (MakeEffect made) = HandMakes n made s
AnswerFits n c s (AnswerIt said) = HandSays n said s
AnswerFits n c s a = Unit {0}

abbrev pub Fits : ℕ → Client → Server → Act → Type 0
Fits n c s a = EffectFits n s a × AnswerFits n c s a

fit_pair : (F G : Server → Act → Type 0) (s : Server) (list : List Act) → Fit F s list → Fit G s list → Fit (λ t a. F t a × G t a) s list
fit_pair F G s [] one two = tt
fit_pair F G s (a ∷ list) one two = ((one.0, two.0), fit_pair F G (act s a) list one.1 two.1)

fit_first : (F : Server → Act → Type 0) (s : Server) (xs ys : List Act) → Fit F s (xs ++ ys) → Fit F s xs
fit_first F s [] ys fit = tt
fit_first F s (x ∷ xs) ys fit = (fit.0, fit_first F (act s x) xs ys fit.1)

fit_second : (F : Server → Act → Type 0) (s : Server) (xs ys : List Act) → Fit F s (xs ++ ys) → Fit F (acts s xs) ys
fit_second F s [] ys fit = fit
fit_second F s (x ∷ xs) ys fit = fit_second F (act s x) xs ys fit.1

silent_fits : (n : ℕ) (c : Client) (s : Server) (a : Act) → IsSilent a → AnswerFits n c s a
silent_fits n c s (MakeEffect made) is = absurd is
silent_fits n c s (AnswerIt said) is = absurd is
silent_fits n c s a is = tt

silent_fit : (n : ℕ) (c : Client) (s : Server) (list : List Act) → AllSilent list → Fit (AnswerFits n c) s list
silent_fit n c s [] all = tt
silent_fit n c s (a ∷ list) all = (silent_fits n c s a all.0, silent_fit n c (act s a) list all.1)

-- the request in hand is this one, it asks for no change and no capability, and nothing is kept for it: whatever it is
-- answered but a success fits
record Ready (n : ℕ) (asked : Request) (s : Server) : Type 0 where
  pub asks : asks_change asked ≡ false
  pub not_cap : asks_capability asked ≡ false
  pub hand : (h : Asked) → s.hand ≡ Some h → of_client n h ≡ true → (h.request ≡ asked) × (kept_of n h.tid s.entries ≡ None)

ready_says : (n : ℕ) (asked : Request) (s : Server) (said : Answer) → is_success asked said ≡ false → Ready n asked s → HandSays n said s
ready_says n asked s said fails ready h is mine_it =
    let both_of = ready.hand h is mine_it in
    subst (λ (q : Request). ByKept q (kept_of n h.tid s.entries) said) (sym both_of.0)
    (subst (λ (o : Option Answer). ByKept asked o said) (sym both_of.1) (fails, (λ asks. absurd (true≢false (sym asks ∙ ready.asks))), ready.not_cap))

quiet_fits : (n : ℕ) (c : Client) (asked : Request) (s : Server) (a : Act) → IsQuiet asked a → Ready n asked s → AnswerFits n c s a
quiet_fits n c asked s (MakeEffect made) is ready = absurd is
quiet_fits n c asked s (AnswerIt said) is ready = ready_says n asked s said is ready
quiet_fits n c asked s a is ready = tt

quiet_fit : (n : ℕ) (c : Client) (asked : Request) (s : Server) (list : List Act) → AllQuiet asked list → Ready n asked s → Fit (AnswerFits n c) s list
quiet_fit n c asked s [] all ready = tt
quiet_fit n c asked s (a ∷ list) all ready = (quiet_fits n c asked s a all.0 ready, quiet_fit n c asked (act s a) list all.1 next)
  where
    same : Same s (act s a)
    same = quiet_same asked s a all.0

    next : Ready n asked (act s a)
    next = record { asks = ready.asks; not_cap = ready.not_cap; hand = λ h is mine_it. let was = ready.hand h (same.hand h is) mine_it in (was.0, ap (kept_of n h.tid) same.entries ∙ was.1) }

-- the view
abbrev pub Asks : View
Asks n c up down s = Ended n c up down s × AsAsked n c up down s

less_made : (n tid t : ℕ) (asked : Request) (entries : List Entry) → t < tid → AllUpTo n t entries → AllMadeBy n tid asked entries
less_made n tid t asked [] less all = tt
less_made n tid t asked (e ∷ entries) less all = ((λ is same. let most = all.0 is in absurd (omega (arith, most, same, less))), less_made n tid t asked entries less all.1)

made_end : (n tid : ℕ) (asked : Request) (entries : List Entry) (e : Entry) → (is_of n e ≡ true → e.number ≡ tid → IsMadeBy asked e.what) → AllMadeBy n tid asked entries → AllMadeBy n tid asked (entries ++ e ∷ [])
made_end n tid asked [] e is all = (is, tt)
made_end n tid asked (x ∷ entries) e is all = (all.0, made_end n tid asked entries e is all.1)

pub made_front : (n tid : ℕ) (asked : Request) (entries more : List Entry) → AllMadeBy n tid asked (entries ++ more) → AllMadeBy n tid asked entries
made_front n tid asked [] more all = tt
made_front n tid asked (e ∷ entries) more all = (all.0, made_front n tid asked entries more all.1)

abbrev Made : ℕ → List Entry → Option (ℕ × Request) → Type 0
Made n entries o = IfSome o (λ r. AllMadeBy n r.0 r.1 entries)

new_made : (n t : ℕ) (entries : List Entry) (before next : Option (ℕ × Request)) → IsNew t before next → AllUpTo n t entries → Made n entries before → Made n entries next
new_made n t entries before next (inl same) all made = subst (Made n entries) (sym same) made
new_made n t entries before None (inr less) all made = tt
new_made n t entries before (Some r) (inr less) all made = less_made n r.0 t r.1 entries less all

made_one : (n : ℕ) (c : Client) (s : Server) (a : Act) → Fits n c s a → AllOf n (open_request c.under) (as_list s.hand) → Made n s.entries (open_request c.under) → (let t = act s a in Made n t.entries (open_request c.under))
made_one n c s a fit hand made = entries_one n (λ entries d. Made n entries (open_request c.under)) s a fit.0
    (λ t e isnt was. longer (open_request c.under) e (λ r at is. absurd (true≢false (sym is ∙ isnt))) was)
    (λ h by said is mine_it makes writes. longer (open_request c.under) (entry_for h said) (λ r at its same. by_request r by h said (hand_it n (open_request c.under) s h hand is mine_it) at
    ((subst (AnswerFits n c s) makes fit.1) h is mine_it) (subst (λ (o : Option What). IfSome o (λ w. change_in w ≡ Some by)) writes (written_in by))) made)
    made
  where
    longer : (o : Option (ℕ × Request)) (e : Entry) → ((r : ℕ × Request) → o ≡ Some r → is_of n e ≡ true → e.number ≡ r.0 → IsMadeBy r.1 e.what) → Made n s.entries o → Made n (s.entries ++ e ∷ []) o
    longer None e is was = tt
    longer (Some r) e is was = made_end n r.0 r.1 s.entries e (is r refl) was

    by_request : (r : ℕ × Request) (by : Change) (h : Asked) (said : What) → IsIt (open_request c.under) h.tid h.request → open_request c.under ≡ Some r → CanMake h.request by → change_in said ≡ Some by → IsMadeBy r.1 said
    by_request r by h said it at can says = subst (λ (o : Option Change). IfSome o (CanMake r.1)) (sym says) (subst (λ (q : Request). CanMake q by) (subst (λ (o : Option (ℕ × Request)). IsIt o h.tid h.request) at it).1 can)

as_asked : KeptViews Fits Asks AsAsked
as_asked = record {
  op = λ n c up down s all. two_rows (on_op c) (op_new c c.lines) (λ r new. new_made n c.tid s.entries (open_request c.under) (open_request r.state.under) new all.0.0.0.1.upto all.1);
  flush = λ n c up down s all. if_row (on_flush c) (λ r. (c.frozen ≡ false) × Keeps c r) (Client's AsAsked n up down s) (λ r does. subst (Made n s.entries) (sym does.1.same) all.1) (flush_acts c);
  told = λ n c up m down s all. new_made n c.tid s.entries (open_request c.under) (open_request (on_told c m).state.under) (told_new c m (told_row c m (asking_of n c up (m ∷ down) s all.0).1.opened)) all.0.0.0.1.upto all.1;
  stored = λ n c m up down s all. subst (Made n s.entries) (sym (ap (λ (o : Offer). o.asked) (store_hidden c m).state)) all.1;
  one = λ n c up down s a fit all. made_one n c s a fit (asking_of n c up down s all.0).1.in_hand all.1;
  pops = λ n c m up down s all. all.1;
  accepts = λ n c conn said flushes asked up down s all. in_hand (λ (t : Server). Made n t.entries (open_request c.under)) (λ t hand so. so) (welcome (connected s n conn) n conn) n asked all.1;
  accepts_other = λ n x c conn asked up down s other all. in_hand (λ (t : Server). Made n t.entries (open_request c.under)) (λ t hand so. so) (welcome (connected s x conn) x conn) x asked all.1;
  asks = λ n c conn tid asked up down s is all. all.1;
  asks_other = λ n x c tid asked up down s other all. all.1;
  hands = λ n c up down s all. all.1;
  durable = λ n c up down s all. all.1;
  survives = λ n c up down s k fits all. front n (s.durable + k) s.entries (open_request c.under) all.1;
}
  where
    two_rows : {P Q : Row Client → Type 0} (o : Option (Row Client)) → IfSome o P → ((r : Row Client) → P r → Q r) → IfSome o Q
    two_rows None is go = tt
    two_rows (Some r) is go = go r is

    front : (n k : ℕ) (entries : List Entry) (o : Option (ℕ × Request)) → Made n entries o → Made n (take k entries) o
    front n k entries None made = tt
    front n k entries (Some r) made = made_front n r.0 r.1 (take k entries) (drop k entries) (subst (AllMadeBy n r.0 r.1) (sym (take-append-drop k entries)) made)

pub asks_kept : KeptViews Fits Asks Asks
asks_kept = both (given (λ n c up down s all. all.0) (λ n c s a fit. fit.0) ended) as_asked

-- what is known of the request in hand, where it is of the client that is treated
abbrev IfIt : ℕ → Client → Asked → Type 0
IfIt n c a = of_client n a ≡ true → IsIt (open_request c.under) a.tid a.request

same_asked : (o : Option (ℕ × Request)) (b a : Asked) → IsIt o b.tid b.request → IsIt o a.tid a.request → (b.tid ≡ a.tid) × (b.request ≡ a.request)
same_asked None b a here other = absurd here
same_asked (Some r) b a here other = (here.0 ∙ sym other.0, here.1 ∙ sym other.1)

-- the request in hand is the one that is treated, and what is kept for it
abbrev HandIs : ℕ → Asked → Option Answer → Server → Type 0
HandIs n a o s = (h : Asked) → s.hand ≡ Some h → of_client n h ≡ true → (h.request ≡ a.request) × (kept_of n h.tid s.entries ≡ o)

hand_is : (n : ℕ) (c : Client) (s : Server) (a : Asked) (o : Option Answer) → AllOf n (open_request c.under) (as_list s.hand) → HandOf s a.client → IfIt n c a → kept_answer s a ≡ o → HandIs n a o s
hand_is n c s a o all of it kept h is mine_it = (same.1, subst (λ (t : ℕ). kept_of n t s.entries ≡ o) (sym same.0) (subst (λ (x : ℕ). kept_for a.tid (last_effect s.entries x) ≡ o) its kept))
  where
    mine_a : (a.client == n) ≡ true
    mine_a = subst (λ (x : ℕ). (x == n) ≡ true) (of h is) mine_it

    its : a.client ≡ n
    its = grind (arith, nat_tests, mine_a)

    same : (h.tid ≡ a.tid) × (h.request ≡ a.request)
    same = same_asked (open_request c.under) h a (hand_it n (open_request c.under) s h all is mine_it) (it mine_a)

-- one more entry by a request
pub buffer_same : (s : Server) (e : Entry) → ((buffer s e).entries ≡ s.entries ++ e ∷ []) × ((buffer s e).hand ≡ s.hand)
buffer_same s e = notices_keep (λ (t : Server). (t.entries ≡ s.entries ++ e ∷ []) × (t.hand ≡ s.hand)) (λ t x inos so. by_number t x inos so (number_of t.current x)) s.entries (up_to s.clients) (record s { entries = s.entries ++ e ∷ [] }) (refl, refl)
  where
    by_number : (t : Server) (x : ℕ) (inos : List Ino) → (t.entries ≡ s.entries ++ e ∷ []) × (t.hand ≡ s.hand) → (o : Option ℕ) → (let u = tell_at t x (Changed inos) o in (u.entries ≡ s.entries ++ e ∷ []) × (u.hand ≡ s.hand))
    by_number t x inos so None = so
    by_number t x inos so (Some conn) = so

-- an effect is made, and answered
made_says : (n : ℕ) (s : Server) (made : Change) → HandMakes n made s → HandSays n (answer_to_change made) (act s (MakeEffect made))
made_says n s made makes = by_hand s.hand refl
  where
    by_said : (a : Asked) → s.hand ≡ Some a → (w : Option What) → IfSome w (λ said. change_in said ≡ Some made) → written_down made ≡ w → HandSays n (answer_to_change made) (buffer_for s a w)
    by_said a is None says writes h at mine_it = absurd (never made (written_down made) writes refl (makes h at mine_it))
      where
        never : (made : Change) (w : Option What) → w ≡ None → written_down made ≡ w → CanMake h.request made → ⊥
        never made w none writes can = no_bytes h.request made (writes ∙ none) can
          where
            no_bytes : (asked : Request) (made : Change) → written_down made ≡ None → CanMake asked made → ⊥
            no_bytes asked (change.WriteFile handle offset bytes) none can = none_can asked can
              where
                none_can : (asked : Request) → CanMake asked (change.WriteFile handle offset bytes) → ⊥
                none_can (request.Mkdir path) can = can
                none_can (request.Rmdir path) can = can
                none_can asked can = can
            no_bytes asked (change.Truncate handle size) none can = none_can asked can
              where
                none_can : (asked : Request) → CanMake asked (change.Truncate handle size) → ⊥
                none_can (request.Mkdir path) can = can
                none_can (request.Rmdir path) can = can
                none_can asked can = can
            no_bytes asked made none can = cc
    by_said a is (Some said) says writes h at mine_it =
        let same : Some a ≡ Some h = sym is ∙ sym (buffer_same s (entry_for a said)).1 ∙ at in
        kept_says h (subst (λ (x : Asked). kept_of n h.tid (s.entries ++ entry_for x said ∷ []) ≡ Some (answer_to_change made)) (same_hand a h same) (kept_new n s.entries h said made mine_it says)) (buffer_same s (entry_for a said)).0
      where
        same_hand : (a h : Asked) → Some a ≡ Some h → h ≡ a
        same_hand a h is = cc

        kept_says : (h : Asked) → kept_of n h.tid (s.entries ++ entry_for a said ∷ []) ≡ Some (answer_to_change made) → (buffer s (entry_for a said)).entries ≡ s.entries ++ entry_for a said ∷ [] → ByKept h.request (kept_of n h.tid (buffer s (entry_for a said)).entries) (answer_to_change made)
        kept_says h kept entries = subst (λ (o : Option Answer). ByKept h.request o (answer_to_change made)) (sym (ap (kept_of n h.tid) entries ∙ kept)) refl

    by_hand : (o : Option Asked) → s.hand ≡ o → HandSays n (answer_to_change made) (elim o as (λ _. Server) [ None ↦ s | Some a ↦ buffer_for s a (written_down made) ])
    by_hand None is = λ h at mine_it. absurd (none_some h (sym is ∙ at))
      where
        none_some : (h : Asked) → None ≡ Some h → ⊥
        none_some h is = cc
    by_hand (Some a) is = by_said a is (written_down made) (written_in made) refl

-- Each rule's acts fit.
abbrev Good : ℕ → Client → Server → List Act → Type 0
Good n c s list = Fit (AnswerFits n c) s list

prepare_good : (n : ℕ) (c : Client) (s : Server) (alone : Bool) (said : What) → Good n c s (prepare alone s said)
prepare_good n c s alone said = by_test (is_busy alone s)
  where
    by_test : (b : Bool) → Good n c s (cond b (Defer ∷ []) (Prepare said ∷ []))
    by_test true = (tt, tt)
    by_test false = (tt, tt)

make_good : (n : ℕ) (c : Client) (s : Server) (alone : Bool) (made : Change) → HandMakes n made s → Good n c s (make alone s made)
make_good n c s alone (change.Mksnap id dir name) makes = prepare_good n c s alone (PrepareCreate id)
make_good n c s alone (change.Rmsnap id) makes = prepare_good n c s alone (PrepareDestroy id)
make_good n c s alone made makes = (makes, (made_says n s made makes, tt))

refused_says : (n : ℕ) (s : Server) (refusal : Refusal) → ((h : Asked) → s.hand ≡ Some h → of_client n h ≡ true → (asks_capability h.request ≡ false) × (kept_of n h.tid s.entries ≡ None)) → HandSays n (answer.Refused refusal) s
refused_says n s refusal none h is mine_it = subst (λ (o : Option Answer). ByKept h.request o (answer.Refused refusal)) (sym (none h is mine_it).1) (no_success h.request (answer.Refused refusal) refl, (λ asks. refl), (none h is mine_it).0)

decided_good : (n : ℕ) (c : Client) (s : Server) (alone : Bool) (a : Asked) (o : Option (Result Change Refusal)) → asks_capability a.request ≡ false → HandIs n a None s → IfSome o (λ (r : Result Change Refusal). OkIs r (CanMake a.request)) → Good n c s (decided alone s o)
decided_good n c s alone a None not_cap hand can = tt
decided_good n c s alone a (Some (Err refusal)) not_cap hand can = (refused_says n s refusal (λ h is mine_it. let both_of = hand h is mine_it in (ap asks_capability both_of.0 ∙ not_cap, both_of.1)), tt)
decided_good n c s alone a (Some (Ok made)) not_cap hand can = make_good n c s alone made (λ h is mine_it. subst (λ (q : Request). CanMake q made) (sym (hand h is mine_it).0) can)

ready_for : (n : ℕ) (s : Server) (a : Asked) (asked : Request) → asks_change asked ≡ false → asks_capability asked ≡ false → a.request ≡ asked → HandIs n a None s → Ready n asked s
ready_for n s a asked asks not_cap same hand = record { asks = asks; not_cap = not_cap; hand = λ h is mine_it. let both_of = hand h is mine_it in (both_of.0 ∙ same, both_of.1) }

new_good : (n : ℕ) (c : Client) (s : Server) (alone : Bool) (a : Asked) (asked : Request) → a.request ≡ asked → HandIs n a None s → Good n c s (treat_new alone s a asked)
new_good n c s alone a (request.Cap ino mode) same hand = silent_fit n c s _ (silent_cap s a.client ino mode)
new_good n c s alone a (request.Cat path) same hand = let asked = request.Cat path in
    quiet_fit n c asked s _ (quiet_look asked s a (answer_to s.entries (query.Cat path)) (found s.entries path) (quiet_catted s.entries (found s.entries path))) (ready_for n s a asked refl refl same hand)
new_good n c s alone a (request.Stat path) same hand = let asked = request.Stat path in
    quiet_fit n c asked s _ (quiet_look asked s a (answer_to s.entries (query.Stat path)) (found s.entries path) (quiet_stated s.entries (found s.entries path))) (ready_for n s a asked refl refl same hand)
new_good n c s alone a (request.List path) same hand = let asked = request.List path in let said = answer_to s.entries (query.List path) in
    quiet_fit n c asked s (AnswerIt said ∷ []) (no_success asked said (quiet_listed s.entries (found s.entries path)), tt) (ready_for n s a asked refl refl same hand)
new_good n c s alone a (request.Realm path) same hand = let asked = request.Realm path in let said = answer_to s.entries (query.Realm path) in
    quiet_fit n c asked s (AnswerIt said ∷ []) (no_success asked said (quiet_realm s.entries (live_only (state_after s.entries) (place_of path))), tt) (ready_for n s a asked refl refl same hand)
new_good n c s alone a (request.Clones path index) same hand = let asked = request.Clones path index in let said = answer_to s.entries (query.Clones path index) in
    quiet_fit n c asked s (AnswerIt said ∷ []) (no_success asked said (quiet_clones s.entries index (live_only (state_after s.entries) (place_of path))), tt) (ready_for n s a asked refl refl same hand)
new_good n c s alone a (request.Barrier number) same hand = let asked = request.Barrier number in
    quiet_fit n c asked s _ (quiet_barrier s number) (ready_for n s a asked refl refl same hand)
new_good n c s alone a asked same hand = decided_good n c s alone a (change_asked (state_after s.entries) a.client (next_id s) asked) (ap asks_capability same) hand (subst (λ (q : Request). IfSome (change_asked (state_after s.entries) a.client (next_id s) asked) (λ (r : Result Change Refusal). OkIs r (CanMake q))) (sym same) (can_come (state_after s.entries) a.client (next_id s) asked))

treat_good : (n : ℕ) (c : Client) (s : Server) (alone : Bool) (a : Asked) → AllOf n (open_request c.under) (as_list s.hand) → HandOf s a.client → IfIt n c a → Good n c s (treat alone s a)
treat_good n c s alone a all of it = by_test (all_connected s)
  where
    by_operation : (b : Bool) → kept_answer s a ≡ None → Good n c s (cond b [] (treat_new alone s a a.request))
    by_operation true none = tt
    by_operation false none = new_good n c s alone a a.request refl (hand_is n c s a None all of it none)

    by_kept : (o : Option Answer) → kept_answer s a ≡ o → Good n c s (treat_known alone s a o)
    by_kept (Some said) is = (says, tt)
      where
        says : HandSays n said s
        says h at mine_it = subst (λ (o : Option Answer). ByKept h.request o said) (sym (hand_is n c s a (Some said) all of it is h at mine_it).1) refl
    by_kept None is = by_operation (is_operation s a) is

    by_test : (b : Bool) → Good n c s (cond b (treat_known alone s a (kept_answer s a)) (Wait ∷ []))
    by_test true = by_kept (kept_answer s a) refl
    by_test false = (tt, tt)

requested_of : (n : ℕ) (c : Client) (up : List ToServer) (down : List ToClient) (s : Server) → Asks n c up down s → AllOf n (open_request c.under) (as_list s.hand)
requested_of n c up down s all = (asking_of n c up down s all.0).1.in_hand

-- the held requests
anew_good : (n : ℕ) (c : Client) (up : List ToServer) (down : List ToClient) (list : List Asked) (s : Server) → Asks n c up down s → AllOf n (open_request c.under) list
    → Fit (FitsFor n c) s (each (λ t (a : Asked). TakeHeld a.client ∷ treat false (act t (TakeHeld a.client)) a) s list) → Good n c s (each (λ t (a : Asked). TakeHeld a.client ∷ treat false (act t (TakeHeld a.client)) a) s list)
anew_good n c up down [] s all it fit = tt
anew_good n c up down (a ∷ list) s all it fit =
    let t = act s (TakeHeld a.client) in
    let front = TakeHeld a.client ∷ treat false t a in
    let rest = each (λ t (a : Asked). TakeHeld a.client ∷ treat false (act t (TakeHeld a.client)) a) (acts s front) list in
    let next = asks_kept.one n c up down s (TakeHeld a.client) (tt, tt) all in
    let good : Good n c s front = (tt, treat_good n c t false a (requested_of n c up down t next) (λ b is. first_client a.client s.held b is) it.0) in
    let first = fit_first (FitsFor n c) s front rest fit in
    fit_append (AnswerFits n c) s front rest good
    (anew_good n c up down list (acts s front) (acts_keep {F = Fits n c} {Q = Asks n c up down} (asks_kept.one n c up down) front s (fit_pair (FitsFor n c) (AnswerFits n c) s front first good) all) it.1 (fit_second (FitsFor n c) s front rest fit))

-- a request that comes in
brings_good : (n : ℕ) (c : Client) (up : List ToServer) (down : List ToClient) (s : Server) (x conn : ℕ) (asked : Option (ℕ × Request)) → Asks n c up down (accepted s x conn asked) → (asked ≡ open_request c.under) ⊎ ((x == n) ≡ false) → Good n c (accepted s x conn asked) (treat_brought (accepted s x conn asked) (brought x asked))
brings_good n c up down s x conn None all is = tt
brings_good n c up down s x conn (Some r) all is =
    treat_good n c (accepted s x conn (Some r)) false (asked_by x r.0 r.1) (requested_of n c up down (accepted s x conn (Some r)) all) (λ b at. hand_of s (asked_by x r.0 r.1) b (is_operation s (asked_by x r.0 r.1)) at) (it is)
  where
    it : (Some r ≡ open_request c.under) ⊎ ((x == n) ≡ false) → IfIt n c (asked_by x r.0 r.1)
    it (inl same) mine_it = subst (λ (o : Option (ℕ × Request)). IsIt o r.0 r.1) same (refl, refl)
    it (inr other) mine_it = absurd (true≢false (sym mine_it ∙ other))

-- the outstanding operation
rolled_none : (n tid : ℕ) (s : Server) (id : SnapId) → kept_of n tid s.entries ≡ None → kept_of n tid (act s (roll_back id)).entries ≡ None
rolled_none n tid s id none = ap (kept_of n tid) (buffer_same s (own_entry (Rollback id))).0 ∙ kept_more n tid s.entries (own_entry (Rollback id)) refl ∙ none

pub change_no_cap : (state : State) (x : ℕ) (id : SnapId) (asked : Request) → IfSome (change_asked state x id asked) (λ r. asks_capability asked ≡ false)
change_no_cap state x id (request.Cap ino mode) = tt
change_no_cap state x id asked = any_some (change_asked state x id asked) refl
  where
    any_some : (o : Option (Result Change Refusal)) → asks_capability asked ≡ false → IfSome o (λ r. asks_capability asked ≡ false)
    any_some None not_cap = tt
    any_some (Some r) not_cap = not_cap

finish_good : (n : ℕ) (c : Client) (s : Server) (id : SnapId) (a : Asked) (o : Option (Result Change Refusal)) → IfSome o (λ (r : Result Change Refusal). asks_capability a.request ≡ false) → ((h : Asked) → s.hand ≡ Some h → h ≡ a) → ((h : Asked) → s.hand ≡ Some h → of_client n h ≡ true → kept_of n h.tid s.entries ≡ None) → IfSome o (λ (r : Result Change Refusal). OkIs r (CanMake a.request)) → Good n c s (finish id o)
finish_good n c s id a None not_cap same none can = tt
finish_good n c s id a (Some (Err refusal)) not_cap same none can = (tt, (refused_says n (act s (roll_back id)) refusal (λ h is mine_it. let was = sym (buffer_same s (own_entry (Rollback id))).1 ∙ is in (ap (λ (x : Asked). asks_capability x.request) (same h was) ∙ not_cap, rolled_none n h.tid s id (none h was mine_it))), tt))
finish_good n c s id a (Some (Ok made)) not_cap same none can = by_made made can
  where
    makes : (made : Change) → CanMake a.request made → HandMakes n made s
    makes made can h is mine_it = subst (λ (x : Asked). CanMake x.request made) (sym (same h is)) can

    by_test : (now : SnapId) (b : Bool) → CanMake a.request (change.Rmsnap now) → Good n c s (cond b (MakeEffect (change.Rmsnap now) ∷ AnswerIt answer.Done ∷ []) (roll_back id ∷ DeferFirst ∷ []))
    by_test now true can = (makes (change.Rmsnap now) can, (made_says n s (change.Rmsnap now) (makes (change.Rmsnap now) can), tt))
    by_test now false can = (tt, (tt, tt))

    by_made : (made : Change) → CanMake a.request made → Good n c s (finish_with id made)
    by_made (change.Rmsnap now) can = by_test now (now.0 == id.0) can
    by_made made can = (makes made can, (made_says n s made (makes made can), tt))

-- all are at a barrier: what the client has open is its request for that
abbrev IsBarrier : Request → Type 0
IsBarrier (request.Barrier number) = Unit {0}
IsBarrier asked = ⊥

is_barrier : (asked : Request) (number : ℕ) → is_number number (barrier_of asked) ≡ true → IsBarrier asked
is_barrier (request.Barrier other) number is = tt
is_barrier asked number is = absurd (true≢false (sym is))

barrier_asks : (asked : Request) → IsBarrier asked → asks_change asked ≡ false
barrier_asks (request.Barrier number) is = refl
barrier_asks asked is = absurd is

barrier_no_cap : (asked : Request) → IsBarrier asked → asks_capability asked ≡ false
barrier_no_cap (request.Barrier number) is = refl
barrier_no_cap asked is = absurd is

barrier_fails : (asked : Request) (said : Answer) → IsBarrier asked → is_success asked said ≡ false
barrier_fails (request.Barrier number) said is = refl
barrier_fails asked said is = absurd is

barrier_makes : (asked : Request) (made : Change) → IsBarrier asked → CanMake asked made → ⊥
barrier_makes (request.Barrier number) made is can = never made can
  where
    never : (made : Change) → CanMake (request.Barrier number) made → ⊥
    never (change.Mkdir dir name ino) can = can
    never made can = can
barrier_makes asked made is can = absurd is

abbrev AtBarrier : Option (ℕ × Request) → Type 0
AtBarrier o = IfSome o (λ r. IsBarrier r.1)

waits_open : (n : ℕ) (o : Option (ℕ × Request)) (number : ℕ) (list : List Asked) → AllOf n o list → list_any (λ (a : Asked). of_client n a && is_number number (barrier_of a.request)) list ≡ true → AtBarrier o
waits_open n o number [] all is = absurd (true≢false (sym is))
waits_open n o number (a ∷ list) all is = by_test (of_client n a) (is_number number (barrier_of a.request)) refl refl is (waits_open n o number list all.1)
  where
    here : (o : Option (ℕ × Request)) → IsIt o a.tid a.request → is_number number (barrier_of a.request) ≡ true → AtBarrier o
    here None it test = tt
    here (Some r) it test = subst IsBarrier it.1 (is_barrier a.request number test)

    by_test : (b d : Bool) → of_client n a ≡ b → is_number number (barrier_of a.request) ≡ d → ((b && d) || list_any (λ (a : Asked). of_client n a && is_number number (barrier_of a.request)) list) ≡ true → (list_any (λ (a : Asked). of_client n a && is_number number (barrier_of a.request)) list ≡ true → AtBarrier o) → AtBarrier o
    by_test true true mine_it test any go = here o (all.0 mine_it) test
    by_test true false mine_it test any go = go any
    by_test false d mine_it test any go = go any

barrier_says : (n : ℕ) (c : Client) (s : Server) (said : Answer) → AtBarrier (open_request c.under) → AllOf n (open_request c.under) (as_list s.hand) → Made n s.entries (open_request c.under) → HandSays n said s
barrier_says n c s said at all made h is mine_it = by_open (open_request c.under) (hand_it n (open_request c.under) s h all is mine_it) at made
  where
    by_open : (o : Option (ℕ × Request)) → IsIt o h.tid h.request → AtBarrier o → Made n s.entries o → ByKept h.request (kept_of n h.tid s.entries) said
    by_open None it at made = absurd it
    by_open (Some r) it at made =
        let barrier = subst IsBarrier (sym it.1) at in
        subst (λ (o : Option Answer). ByKept h.request o said)
        (sym (ap (λ (t : ℕ). kept_of n t s.entries) it.0 ∙ never_kept n r.0 r.1 (λ made can. barrier_makes r.1 made at can) s.entries None made refl))
        (barrier_fails h.request said barrier, (λ asks. absurd (true≢false (sym asks ∙ barrier_asks h.request barrier))), barrier_no_cap h.request barrier)

open_good : (n : ℕ) (c : Client) (up : List ToServer) (down : List ToClient) (first : Server) (number : ℕ) → AllOf n (open_request c.under) first.held → (list : List ℕ) (s : Server) → Asks n c up down s → list_all (waits_at first number) list ≡ true → Good n c s (flat_map open_to list)
open_good n c up down first number held [] s all waits = tt
open_good n c up down first number held (x ∷ list) s all waits =
    let t = act s (TakeHeld x) in
    let next = asks_kept.one n c up down s (TakeHeld x) (tt, tt) all in
    let says : HandSays n answer.Done t = answers t next (λ b is. first_client x s.held b is) in
    let then = asks_kept.one n c up down t (AnswerIt answer.Done) (tt, says) next in
    fit_append (AnswerFits n c) s (open_to x) (flat_map open_to list) (tt, (says, tt)) (open_good n c up down first number held list (act t (AnswerIt answer.Done)) then (second (waits_at first number x) (list_all (waits_at first number) list) waits))
  where
    second : (a b : Bool) → (a && b) ≡ true → b ≡ true
    second true b is = is
    second false b is = absurd (true≢false (sym is))

    this : (a b : Bool) → (a && b) ≡ true → a ≡ true
    this true b is = refl
    this false b is = absurd (true≢false (sym is))

    answers : (t : Server) → Asks n c up down t → HandOf t x → HandSays n answer.Done t
    answers t next of h is mine_it = barrier_says n c t answer.Done at (requested_of n c up down t next) next.1 h is mine_it
      where
        its : (x == n) ≡ true
        its = subst (λ (y : ℕ). (y == n) ≡ true) (of h is) mine_it

        same : x ≡ n
        same = grind (arith, nat_tests, its)

        at : AtBarrier (open_request c.under)
        at = waits_open n (open_request c.under) number first.held held (subst (λ (y : ℕ). waits_at first number y ≡ true) same (this (waits_at first number x) (list_all (waits_at first number) list) waits))

turn_good : (n : ℕ) (c : Client) (up : List ToServer) (down : List ToClient) (s : Server) → Asks n c up down s → IfSome (turn s) (Good n c s)
turn_good n c up down s all = by_test (all_connected s)
  where
    Fine : Option (List Act) → Type 0
    Fine o = IfSome o (Good n c s)

    by_barrier : (o : Option ℕ) → Fine (turn_barrier s o)
    by_barrier None = tt
    by_barrier (Some number) = by_all (list_all (waits_at s number) (up_to s.clients)) refl (is_finished s)
      where
        by_all : (b : Bool) → list_all (waits_at s number) (up_to s.clients) ≡ b → (d : Bool) → Fine (cond (b && d) (Some (Buffer (own_entry (Barrier number)) ∷ flat_map open_to (up_to s.clients))) None)
        by_all true waits true = (tt, open_good n c up down s number (asking_of n c up down s all.0).1.in_held (up_to s.clients) (act s (Buffer (own_entry (Barrier number)))) (asks_kept.one n c up down s (Buffer (own_entry (Barrier number))) ((refl, refl), tt) all) waits)
        by_all true waits false = tt
        by_all false waits d = tt

    by_file : (o : Option Ino) → Fine (turn_dead s o)
    by_file None = by_barrier (first_barrier s.held)
    by_file (Some ino) = silent_fit n c s _ (silent_dead s ino)

    by_purge : (o : Option SnapId) → Fine (turn_purge s o)
    by_purge None = by_file (first_file (filter (is_due s) (dead s.entries)))
    by_purge (Some id) = (tt, (tt, tt))

    by_operation : (id : SnapId) (o : Option Asked) → s.operation ≡ o → Fine (turn_operation s id o)
    by_operation id None is = tt
    by_operation id (Some a) is = (tt, finish_good n c (act s TakeOperation) id a (change_asked (state_after s.entries) a.client id a.request) (change_no_cap (state_after s.entries) a.client id a.request) same none (can_come (state_after s.entries) a.client id a.request))
      where
        same : (h : Asked) → s.operation ≡ Some h → h ≡ a
        same h at = some_same h (sym at ∙ is)
          where
            some_same : (h : Asked) → Some h ≡ Some a → h ≡ a
            some_same h at = cc

        none : (h : Asked) → s.operation ≡ Some h → of_client n h ≡ true → kept_of n h.tid s.entries ≡ None
        none h at mine_it = kept_less n h.tid s.entries None (subst (NewAt n s.entries) at all.0.0.0.1.new mine_it) refl

    by_deferred : (list : List Asked) → s.deferred ≡ list → Fine (turn_deferred s list)
    by_deferred [] is = by_purge (least (unsent_purges s))
    by_deferred (a ∷ more) is = (tt, treat_good n c (act s TakeDeferred) true a (requested_of n c up down (act s TakeDeferred) (asks_kept.one n c up down s TakeDeferred (tt, tt) all)) of it)
      where
        of : HandOf (act s TakeDeferred) a.client
        of b at = let same : Some a ≡ Some b = sym (ap first_of is) ∙ at in hand_of s a b false same

        it : IfIt n c a
        it = (subst (AllOf n (open_request c.under)) is (asking_of n c up down s all.0).1.in_deferred).0

    by_outstanding : (o : Option (SnapId × ℕ)) → Fine (turn_at s o)
    by_outstanding None = by_deferred s.deferred refl
    by_outstanding (Some o) = by_durable (nat_le o.1 s.durable)
      where
        by_durable : (b : Bool) → Fine (cond b (turn_operation s o.0 s.operation) (turn_purge s (least (unsent_purges s))))
        by_durable true = by_operation o.0 s.operation refl
        by_durable false = by_purge (least (unsent_purges s))

    by_test : (b : Bool) → Fine (cond b (turn_at s (outstanding s.entries)) None)
    by_test true = by_outstanding (outstanding s.entries)
    by_test false = tt

-- so both kinds of acts fit
both_fit : (n : ℕ) (c : Client) (s : Server) (list : List Act) → Fit (FitsFor n c) s list → Good n c s list → Fit (Fits n c) s list
both_fit n c s list one two = fit_pair (FitsFor n c) (AnswerFits n c) s list one two

both_some : (n : ℕ) (c : Client) (s : Server) (o : Option (List Act)) → IfSome o (Fit (FitsFor n c) s) → IfSome o (Good n c s) → IfSome o (Fit (Fits n c) s)
both_some n c s None one two = tt
both_some n c s (Some list) one two = both_fit n c s list one two

pub asks_rules : RulesFit Fits Asks
asks_rules = record {
  anew = λ n c up down s all. let fit = ended_rules.anew n c up down s all.0 in both_fit n c s (decide_anew s) fit (anew_good n c up down s.held s all (asking_of n c up down s all.0).1.in_held fit);
  asks = λ n c conn tid asked up down s is all. let next = asks_kept.asks n c conn tid asked up down s is all in
      both_fit n c (take_in s (asked_by n tid asked)) (treat false (take_in s (asked_by n tid asked)) (asked_by n tid asked)) (ended_rules.asks n c conn tid asked up down s is all.0) (treat_good n c (take_in s (asked_by n tid asked)) false (asked_by n tid asked) (requested_of n c up down (take_in s (asked_by n tid asked)) next) (λ b at. hand_of s (asked_by n tid asked) b (is_operation s (asked_by n tid asked)) at) (λ mine_it. (asking_of n c _ down s all.0).1.up.0));
  asks_other = λ n x c tid asked up down s other all. let next = asks_kept.asks_other n x c tid asked up down s other all in
      both_fit n c (take_in s (asked_by x tid asked)) (treat false (take_in s (asked_by x tid asked)) (asked_by x tid asked)) (ended_rules.asks_other n x c tid asked up down s other all.0) (treat_good n c (take_in s (asked_by x tid asked)) false (asked_by x tid asked) (requested_of n c up down (take_in s (asked_by x tid asked)) next) (λ b at. hand_of s (asked_by x tid asked) b (is_operation s (asked_by x tid asked)) at) (λ mine_it. absurd (true≢false (sym mine_it ∙ other))));
  brings = λ n c conn said flushes asked up down s all. both_fit n c (accepted s n conn asked) (treat_brought (accepted s n conn asked) (brought n asked)) (ended_rules.brings n c conn said flushes asked up down s all.0) (brings_good n c up down s n conn asked (asks_kept.accepts n c conn said flushes asked up down s all) (inl (asking_of n c _ down s all.0).0.1.up.1.asked));
  brings_other = λ n x c conn asked up down s other all. both_fit n c (accepted s x conn asked) (treat_brought (accepted s x conn asked) (brought x asked)) (ended_rules.brings_other n x c conn asked up down s other all.0) (brings_good n c up down s x conn asked (asks_kept.accepts_other n x c conn asked up down s other all) (inr other));
  comes = λ n x c said flushes s. both_fit n c s (come_back s x said flushes) (ended_rules.comes n x c said flushes s) (silent_fit n c s (come_back s x said flushes) (silent_back s x said flushes));
  flushes = λ n x c f s. both_fit n c s (flush_acts_of x s f) (ended_rules.flushes n x c f s) (silent_fit n c s (flush_acts_of x s f) (silent_flush x s f));
  drops = λ n x c ino s. both_fit n c s (on_drop x s ino) (ended_rules.drops n x c ino s) (silent_fit n c s (on_drop x s ino) (silent_drop x s ino));
  reports = λ n c m s. both_fit n c s (reported s m) (ended_rules.reports n c m s) (silent_fit n c s (reported s m) (silent_reported s m));
  restarts = λ n c s. both_fit n c s (restarts s) (ended_rules.restarts n c s) (silent_fit n c s (restarts s) (silent_restarts s));
  turns = λ n c up down s all. both_some n c s (turn s) (ended_rules.turns n c up down s all.0) (turn_good n c up down s all);
}

-- A reply of the connection is what is kept for the open request, and counts all effects of the client.
abbrev pub SaidWell : Kind
SaidWell n conn o entries (Reply number tid stamp said) = (number == conn) ≡ true → NoneBehind n stamp.entry entries × IfSome o (λ r. ByKept r.1 (kept_of n r.0 entries) said)
SaidWell n conn o entries m = Unit {0}

kept_by : (n : ℕ) (said : Answer) (xs ys : List Entry) (o : Option (ℕ × Request)) → ((tid : ℕ) → kept_of n tid ys ≡ kept_of n tid xs) → IfSome o (λ r. ByKept r.1 (kept_of n r.0 xs) said) → IfSome o (λ r. ByKept r.1 (kept_of n r.0 ys) said)
kept_by n said xs ys None same is = tt
kept_by n said xs ys (Some r) same is = subst (λ (k : Option Answer). ByKept r.1 k said) (sym (same r.0)) is

said_carried : CarriedKind SaidWell
said_carried = record {
  stays = λ n conn o. record { quiet = λ entries m none. quiet n conn o entries m none; more = λ entries e m isnt is. more n conn o entries e m isnt is };
  shorter = λ n conn o k entries m fits low is. shorter n conn o k entries m fits low is;
}
  where
    quiet : (n conn : ℕ) (o : Option (ℕ × Request)) (entries : List Entry) (m : ToClient) → answer_at conn (answer_to_tid m) 0 ≡ 0 → SaidWell n conn o entries m
    quiet n conn o entries (Reply number tid stamp said) none = λ is. absurd (not_one (subst (λ (b : Bool). cond b (0 + 1) 0 ≡ 0) is none))
      where
        not_one : 0 + 1 ≡ 0 → ⊥
        not_one zero = omega (arith, zero)
    quiet n conn o entries m none = tt

    more : (n conn : ℕ) (o : Option (ℕ × Request)) (entries : List Entry) (e : Entry) (m : ToClient) → is_of n e ≡ false → SaidWell n conn o entries m → SaidWell n conn o (entries ++ e ∷ []) m
    more n conn o entries e (Reply number tid stamp said) isnt is = λ now. let was = is now in (behind_more n stamp.entry entries e isnt was.0, kept_by n said entries (entries ++ e ∷ []) o (λ t. kept_more n t entries e isnt) was.1)
    more n conn o entries e m isnt is = tt

    shorter : (n conn : ℕ) (o : Option (ℕ × Request)) (k : ℕ) (entries : List Entry) (m : ToClient) → k ≤ length entries → entry_of m ≤ k → SaidWell n conn o entries m → SaidWell n conn o (take k entries) m
    shorter n conn o k entries (Reply number tid stamp said) fits low is = λ now. let was = is now in (behind_shorter n stamp.entry k entries fits low was.0, kept_by n said entries (take k entries) o (λ t. kept_front n t k entries (behind_later n stamp.entry k entries fits low was.0)) was.1)
    shorter n conn o k entries m fits low is = tt

abbrev pub Replied : View
Replied n c up down s = Asks n c up down s × Carries SaidWell n c up down s

said_kept : KeptViews Fits Replied (Carries SaidWell)
said_kept = kind_kept SaidWell said_carried (λ n c s a fit. fit.0) (λ n c up down s all. (asking_of n c up down s all.0.0, (all.0.0.1.0.0, all.1)))
    (λ n c up down s all h said j is mine_it fit. λ now. (behind_all n s.entries, as_open n s h said (open_request c.under) (hand_it n (open_request c.under) s h (requested_of n c up down s all.0) is mine_it) (fit.1 h is mine_it)))
    (λ n c up down s all h ino mode j is mine_it fit. tt)
  where
    as_open : (n : ℕ) (s : Server) (h : Asked) (said : Answer) (o : Option (ℕ × Request)) → IsIt o h.tid h.request → ByKept h.request (kept_of n h.tid s.entries) said → IfSome o (λ r. ByKept r.1 (kept_of n r.0 s.entries) said)
    as_open n s h said None it is = tt
    as_open n s h said (Some r) it is = subst (λ (t : ℕ). ByKept r.1 (kept_of n t s.entries) said) it.0 (subst (λ (q : Request). ByKept q (kept_of n h.tid s.entries) said) it.1 is)

-- so no reply of the connection is to a request for a capability
abbrev pub NoReplyToCap : ℕ → Option (ℕ × Request) → ToClient → Type 0
NoReplyToCap conn o (Reply number tid stamp said) = (number == conn) ≡ true → IfSome o (λ r. asks_capability r.1 ≡ false)
NoReplyToCap conn o m = Unit {0}

makes_no_cap : (asked : Request) (made : Change) → CanMake asked made → asks_capability asked ≡ false
makes_no_cap (request.Cap ino mode) made can = never made can
  where
    never : (made : Change) → CanMake (request.Cap ino mode) made → true ≡ false
    never (change.Mkdir dir name ino) can = absurd can
    never made can = absurd can
makes_no_cap asked made can = refl

pub no_reply_to_cap : (n : ℕ) (c : Client) (entries : List Entry) (m : ToClient) → Made n entries (open_request c.under) → SaidWell n c.conn (open_request c.under) entries m → NoReplyToCap c.conn (open_request c.under) m
no_reply_to_cap n c entries (Reply number tid stamp said) made well = λ now. by_open (open_request c.under) made (well now).1
  where
    by_kept : (r : ℕ × Request) (b : Bool) → asks_capability r.1 ≡ b → AllMadeBy n r.0 r.1 entries → ByKept r.1 (kept_of n r.0 entries) said → b ≡ false
    by_kept r false is made by = refl
    by_kept r true is made by = sym is ∙ (subst (λ (o : Option Answer). ByKept r.1 o said) (never_kept n r.0 r.1 (λ it can. true≢false (sym is ∙ makes_no_cap r.1 it can)) entries None made refl) by).2

    by_open : (o : Option (ℕ × Request)) → Made n entries o → IfSome o (λ r. ByKept r.1 (kept_of n r.0 entries) said) → IfSome o (λ r. asks_capability r.1 ≡ false)
    by_open None made by = tt
    by_open (Some r) made by = by_kept r (asks_capability r.1) refl made by
no_reply_to_cap n c entries m made well = tt

pub replied_kept : KeptViews Fits Replied Replied
replied_kept = both (given (λ n c up down s all. all.0) (λ n c s a fit. fit) asks_kept) said_kept

pub replied_rules : RulesFit Fits Replied
replied_rules = record {
  anew = λ n c up down s all. asks_rules.anew n c up down s all.0;
  asks = λ n c conn tid asked up down s is all. asks_rules.asks n c conn tid asked up down s is all.0;
  asks_other = λ n x c tid asked up down s other all. asks_rules.asks_other n x c tid asked up down s other all.0;
  brings = λ n c conn said flushes asked up down s all. asks_rules.brings n c conn said flushes asked up down s all.0;
  brings_other = λ n x c conn asked up down s other all. asks_rules.brings_other n x c conn asked up down s other all.0;
  comes = asks_rules.comes;
  flushes = asks_rules.flushes;
  drops = asks_rules.drops;
  reports = asks_rules.reports;
  restarts = asks_rules.restarts;
  turns = λ n c up down s all. asks_rules.turns n c up down s all.0;
}

pub first_replied : (script : Script) (n : ℕ) → number_of (start script).server.current n ≡ Some 1 → Replied n (new_client n (script.clients + 1) (lines_of n script.lines)) [] [] (start script).server
first_replied script n is = ((first_ended script n is, tt), tt)

pub replied_rows : KeptByRows Replied
replied_rows = rows_of_acts Replied replied_kept replied_rules

pub replied_hold : (script : Script) (steps : List Step) → EachClient Replied (after (start script) steps)
replied_hold script steps = run_keeps Replied replied_rows (start script) steps (at_start Replied script (first_replied script))

-- the laws
pub asked_law : (script : Script) (history : List Event) → EachClient AsAsked (world_after script history)
asked_law script history = each_part Replied AsAsked (world_after script history) (λ n c up down s all. all.0.1) (replied_hold script (steps_of history))

all_as_kept : (n conn : ℕ) (r : ℕ × Request) (entries : List Entry) (p : List ToClient) → AllThat (SaidWell n conn (Some r) entries) p → AllAsKept n conn r entries p
all_as_kept n conn r entries [] all = tt
all_as_kept n conn r entries (m ∷ p) all = (one m all.0, all_as_kept n conn r entries p all.1)
  where
    one : (m : ToClient) → SaidWell n conn (Some r) entries m → RepliesAsKept n conn r entries m
    one (Reply number tid stamp said) is = λ now. let was = is now in (was.1, kept_front n r.0 stamp.entry entries was.0.1)
    one m is = tt

as_kept : (n : ℕ) (c : Client) (up : List ToServer) (down : List ToClient) (s : Server) → Replied n c up down s → AsKept n c up down s
as_kept n c up down s all = by_open (open_request c.under) all.1
  where
    by_open : (o : Option (ℕ × Request)) → AllThat (SaidWell n c.conn o s.entries) (down ++ mail_of n s.mail) → IfSome o (λ r. AllAsKept n c.conn r s.entries (down ++ mail_of n s.mail))
    by_open None is = tt
    by_open (Some r) is = all_as_kept n c.conn r s.entries (down ++ mail_of n s.mail) is

pub kept_law : (script : Script) (history : List Event) → EachClient AsKept (world_after script history)
kept_law script history = each_part Replied AsKept (world_after script history) as_kept (replied_hold script (steps_of history))

-- A request has one effect at most, along each run.
use Rattle.std.proofs.Common.{◌≡◌, ◌≤◌, ℕ, ◌+◌, List, [], ◌∷◌, ◌++◌, filter, Bool, true, false, true≢false, cond, Option, None, Some, refl, sym, ap, ◌∙◌, subst, IfSome, arith, ◌⊎◌, inl, inr}
use Rattle.std.proofs.lemmas.List.Sums.{fold-append}
use Rattle.std.proofs.lemmas.Bool.Decides.{nat_tests}
use Rattle.std.specs.Prelude.{◌==◌, nat_le, Result, Ok, Err}
use Rattle.snap_ids.specs.declared.id.SnapId.{SnapId}
use Rattle.plain_types.specs.declared.answer.Answer.{Answer}
use Rattle.plain_types.specs.declared.answer.Answer.TheVariants as answer
use Rattle.plain_types.specs.declared.answer.Refusal.{Refusal}
use Rattle.plain_types.specs.declared.change.Change.{Change}
use Rattle.plain_types.specs.declared.change.Change.TheVariants as change
use Rattle.plain_types.specs.declared.entry.What.{What}
use Rattle.plain_types.specs.declared.entry.What.TheVariants.{PrepareCreate, PrepareDestroy}
use Rattle.plain_types.specs.declared.history.Event.{Event}
use Rattle.plain_types.specs.declared.history.Step.{Step}
use Rattle.plain_types.specs.declared.message.ToClient.{ToClient}
use Rattle.plain_types.specs.declared.message.ToServer.{ToServer}
use Rattle.plain_types.specs.declared.request.Query.TheVariants as query
use Rattle.plain_types.specs.declared.request.Request.{Request}
use Rattle.plain_types.specs.declared.request.Request.TheVariants as request
use Rattle.plain_types.specs.declared.script.Script.{Script}
use Rattle.plain_tree.specs.Request.{change_asked}
use Rattle.plain_journal.specs.Answers.{found, answer_to}
use Rattle.plain_journal.specs.Entries.{change_in, state_after}
use Rattle.plain_journal.specs.Table.{answer_kept, last_effect, outstanding}
use Rattle.step_table.specs.Row.{Row}
use Rattle.step_table.specs.ServerState.{Asked, Server, welcome, all_connected}
use Rattle.step_table.specs.Acts.{Act, AnswerIt, GrantIt, MakeEffect, Prepare, Wait, Defer, DeferFirst, TakeHeld, TakeDeferred, TakeOperation, Buffer, act, acts, each, of_client, as_list, first_of}
use Rattle.step_table.specs.Requests.{treat, treat_known, treat_new, kept_for, kept_answer, is_operation, decided, make, prepare, is_busy, next_id}
use Rattle.step_table.specs.Flushes.{asked_by, brought, take_in, connected, treat_brought, come_back, on_drop, on_flush as flush_acts_of}
use Rattle.step_table.specs.Background.{roll_back, finish, finish_with, least, unsent_purges, turn_operation, turn_deferred, turn_purge, turn_at, turn}
use Rattle.step_table.specs.ServerRows.{restarts, reported}
use Rattle.step_table.specs.ClientState.{Client, open_request, new_client}
use Rattle.step_table.specs.ClientLines.{on_op, on_flush}
use Rattle.step_table.specs.ClientTakes.{on_told, on_stored}
use Rattle.step_table.specs.World.{client, start, after, lines_of}
use Rattle.run_laws.specs.Moments.{steps_of, world_after}
use Rattle.run_laws.specs.Links.{View, EachClient}
use Rattle.plain_types.specs.declared.entry.Entry.{Entry}
use Rattle.plain_tree.specs.Line.{answer_to as answer_to_change}
use Rattle.run_laws.specs.Requests.{IsIt, OpenAt, AllOf, is_of, AllUpTo, AllAbove, AllLess, Rising, Requested, Once, Repeats}
use Rattle.run_laws.proofs.Acts.{Fit, fit_append, acts_keep}
use Rattle.run_laws.proofs.Clients.{Keeps, Begins, Acts, ActsNow, op_acts, flush_acts, store_hidden}
use Rattle.run_laws.proofs.Told.{ToldRow, IsAnswer, told_row}
use Rattle.run_laws.proofs.Linked.{in_hand, if_row, at_start, first_link, each_part}
use Rattle.run_laws.proofs.Requested.{Asking, asking, first_requested}
use Rattle.run_laws.proofs.Effects.{last_from, upto_more, new_less, NewAt, EffectsAt, HandNew, HandAsks, EffectFits, Places, effects_one, effects_survive}
use Rattle.run_laws.proofs.Fitting.{OkIs}
use Rattle.run_laws.proofs.Comes.{MadeBy, comes_to}
use Rattle.run_laws.proofs.Plain.{IsPlain, AllPlain, plain_cap, plain_look, plain_barrier, plain_flush, plain_drop, plain_back, plain_reported, plain_restarts, plain_turn}
use Rattle.run_laws.proofs.Views.{Client's, run_keeps}
use Rattle.run_laws.proofs.ViewActs.{KeptViews, RulesFit, rows_of_acts, accepted, both, given}

abbrev Effects : View
Effects n c up down s = EffectsAt n c.tid s.entries s.operation

abbrev pub Whole : View
Whole n c up down s = Asking n c up down s × Effects n c up down s

abbrev pub FitsFor : ℕ → Client → Server → Act → Type 0
FitsFor n c s a = EffectFits n s a

-- the client's rows
acts_most : (c : Client) (r : Row Client) → Acts c r → c.tid ≤ r.state.tid
acts_most c r (inl begin) = begin.1.most
acts_most c r (inr (inl keep)) = let same = keep.tid in omega (arith, same)
acts_most c r (inr (inr renew)) = let same = renew.tid in omega (arith, same)

told_most : (c : Client) (m : ToClient) (r : Row Client) → ToldRow c m r → c.tid ≤ r.state.tid
told_most c m r (inl here) = by_row here.1
  where
    by_row : (Begins c r × IsAnswer c m) ⊎ Keeps c r → c.tid ≤ r.state.tid
    by_row (inl begin) = begin.0.most
    by_row (inr keep) = let same = keep.tid in omega (arith, same)
told_most c m r (inr (inl renew)) = let same = renew.1.tid in omega (arith, same)
told_most c m r (inr (inr (inl hail))) = let same = hail.1.tid in omega (arith, same)
told_most c m r (inr (inr (inr skip))) = let same = skip.1.tid in omega (arith, same)

most_effects : (n t u : ℕ) (s : Server) → t ≤ u → EffectsAt n t s.entries s.operation → EffectsAt n u s.entries s.operation
most_effects n t u s less was = record { upto = upto_more n t u s.entries less was.upto; rising = was.rising; new = was.new }

places_of : (n : ℕ) (c : Client) (up : List ToServer) (down : List ToClient) (s : Server) → Requested n c up down s → Places n c.tid (open_request c.under) s
places_of n c up down s r = record { opened = r.opened; hand = r.in_hand; one = let one = r.one in omega (arith, one) }

effects : KeptViews FitsFor Whole Effects
effects = record {
  op = λ n c up down s all. if_row (on_op c) (ActsNow c) (Client's Effects n up down s) (λ r does. most_effects n c.tid r.state.tid s (acts_most c r does.1) all.1) (op_acts c c.lines all.0.1.opened);
  flush = λ n c up down s all. if_row (on_flush c) (λ r. (c.frozen ≡ false) × Keeps c r) (Client's Effects n up down s) (λ r does. most_effects n c.tid r.state.tid s (acts_most c r (inr (inl does.1))) all.1) (flush_acts c);
  told = λ n c up m down s all. most_effects n c.tid (on_told c m).state.tid s (told_most c m (on_told c m) (told_row c m all.0.1.opened)) all.1;
  stored = λ n c m up down s all. most_effects n c.tid (on_stored c m).state.tid s (let same = (store_hidden c m).tid in omega (arith, same)) all.1;
  one = λ n c up down s a fit all. effects_one n c.tid (open_request c.under) s a fit (places_of n c up down s all.0.1) all.1;
  pops = λ n c m up down s all. all.1;
  accepts = λ n c conn said flushes asked up down s all. in_hand (λ (t : Server). EffectsAt n c.tid t.entries t.operation) (λ t hand so. so) (welcome (connected s n conn) n conn) n asked all.1;
  accepts_other = λ n x c conn asked up down s other all. in_hand (λ (t : Server). EffectsAt n c.tid t.entries t.operation) (λ t hand so. so) (welcome (connected s x conn) x conn) x asked all.1;
  asks = λ n c conn tid asked up down s is all. all.1;
  asks_other = λ n x c tid asked up down s other all. all.1;
  hands = λ n c up down s all. all.1;
  durable = λ n c up down s all. all.1;
  survives = λ n c up down s k fits all. effects_survive n c.tid (s.durable + k) s.entries s.operation all.1;
}

pub whole : KeptViews FitsFor Whole Whole
whole = both (given (λ n c up down s all. all.0) (λ n c s a fit. tt) asking) effects

-- plain rules
plain_fits : (n : ℕ) (s : Server) (a : Act) → IsPlain a → EffectFits n s a
plain_fits n s (MakeEffect made) is = absurd is
plain_fits n s (Prepare said) is = absurd is
plain_fits n s (Buffer e) is = is
plain_fits n s a is = tt

plain_fit : (n : ℕ) (c : Client) (s : Server) (list : List Act) → AllPlain list → Fit (FitsFor n c) s list
plain_fit n c s [] all = tt
plain_fit n c s (a ∷ list) all = (plain_fits n s a all.0, plain_fit n c (act s a) list all.1)

-- the request in hand is of this client, if there is one
abbrev pub HandOf : Server → ℕ → Type 0
HandOf s x = (b : Asked) → s.hand ≡ Some b → b.client ≡ x

abbrev IfIt : ℕ → Client → Asked → Type 0
IfIt n c a = of_client n a ≡ true → IsIt (open_request c.under) a.tid a.request

number : (tid : ℕ) (o : Option (ℕ × Request)) (a : Asked) → OpenAt tid o → IsIt o a.tid a.request → a.tid ≡ tid
number tid None a opened it = absurd it
number tid (Some r) a opened it = it.0 ∙ opened

hand_new : (n : ℕ) (c : Client) (up : List ToServer) (down : List ToClient) (s : Server) (a : Asked) → Whole n c up down s → HandOf s a.client → IfIt n c a → kept_answer s a ≡ None → HandNew n s
hand_new n c up down s a all of it none b is mine_b = subst (λ (t : ℕ). AllLess n t s.entries) (sym b_last) (new_less n c.tid s.entries kept all.1.rising all.1.upto)
  where
    client : b.client ≡ a.client
    client = of b is

    mine_a : (a.client == n) ≡ true
    mine_a = subst (λ (x : ℕ). (x == n) ≡ true) client mine_b

    same : a.client ≡ n
    same = grind (arith, nat_tests, mine_a)

    last : a.tid ≡ c.tid
    last = number c.tid (open_request c.under) a all.0.1.opened (it mine_a)

    in_it : AllOf n (open_request c.under) (b ∷ [])
    in_it = subst (λ (h : Option Asked). AllOf n (open_request c.under) (as_list h)) is all.0.1.in_hand

    b_last : b.tid ≡ c.tid
    b_last = number c.tid (open_request c.under) b all.0.1.opened (in_it.0 mine_b)

    kept : kept_for c.tid (last_effect s.entries n) ≡ None
    kept = subst (λ (t : ℕ). kept_for t (last_effect s.entries n) ≡ None) last (subst (λ (x : ℕ). kept_for a.tid (last_effect s.entries x) ≡ None) same none)

-- and it asks what is treated
abbrev HandIs : ℕ → Request → Server → Type 0
HandIs n asked s = (b : Asked) → s.hand ≡ Some b → of_client n b ≡ true → b.request ≡ asked

hand_is : (n : ℕ) (c : Client) (up : List ToServer) (down : List ToClient) (s : Server) (a : Asked) → Whole n c up down s → HandOf s a.client → IfIt n c a → HandIs n a.request s
hand_is n c up down s a all of it b is mine_b = same_request (open_request c.under) b a (in_it.0 mine_b) (it (subst (λ (x : ℕ). (x == n) ≡ true) (of b is) mine_b))
  where
    same_request : (o : Option (ℕ × Request)) (b a : Asked) → IsIt o b.tid b.request → IsIt o a.tid a.request → b.request ≡ a.request
    same_request None b a here other = absurd here
    same_request (Some r) b a here other = here.1 ∙ sym other.1

    in_it : AllOf n (open_request c.under) (b ∷ [])
    in_it = subst (λ (h : Option Asked). AllOf n (open_request c.under) (as_list h)) is all.0.1.in_hand

abbrev HandMade : ℕ → Change → Server → Type 0
HandMade n made s = (b : Asked) → s.hand ≡ Some b → of_client n b ≡ true → MadeBy b.request made

-- a change that succeeds
prepare_fit : (n : ℕ) (c : Client) (s : Server) (alone : Bool) (said : What) → change_in said ≡ None → HandNew n s → HandAsks n said s → Fit (FitsFor n c) s (prepare alone s said)
prepare_fit n c s alone said none new asks = by_test (is_busy alone s)
  where
    by_test : (b : Bool) → Fit (FitsFor n c) s (cond b (Defer ∷ []) (Prepare said ∷ []))
    by_test true = (tt, tt)
    by_test false = ((none, new, asks), tt)

make_fit : (n : ℕ) (c : Client) (s : Server) (alone : Bool) (made : Change) → HandNew n s → HandMade n made s → Fit (FitsFor n c) s (make alone s made)
make_fit n c s alone (change.Mksnap id dir name) new by = prepare_fit n c s alone (PrepareCreate id) refl new by
make_fit n c s alone (change.Rmsnap id) new by = prepare_fit n c s alone (PrepareDestroy id) refl new by
make_fit n c s alone made new by = (new, (tt, tt))

decided_fit : (n : ℕ) (c : Client) (s : Server) (alone : Bool) (asked : Request) (o : Option (Result Change Refusal)) → HandNew n s → HandIs n asked s → IfSome o (λ (r : Result Change Refusal). OkIs r (MadeBy asked)) → Fit (FitsFor n c) s (decided alone s o)
decided_fit n c s alone asked None new same by = tt
decided_fit n c s alone asked (Some (Err refusal)) new same by = (tt, tt)
decided_fit n c s alone asked (Some (Ok made)) new same by = make_fit n c s alone made new (λ b is mine_b. subst (λ (r : Request). MadeBy r made) (sym (same b is mine_b)) by)

new_fit : (n : ℕ) (c : Client) (s : Server) (alone : Bool) (a : Asked) (asked : Request) → HandNew n s → HandIs n asked s → Fit (FitsFor n c) s (treat_new alone s a asked)
new_fit n c s alone a (request.Cap ino mode) new same = plain_fit n c s _ (plain_cap s a.client ino mode (GrantIt ino mode) tt)
new_fit n c s alone a (request.Cat path) new same = plain_fit n c s _ (plain_look s a (answer_to s.entries (query.Cat path)) (found s.entries path))
new_fit n c s alone a (request.Stat path) new same = plain_fit n c s _ (plain_look s a (answer_to s.entries (query.Stat path)) (found s.entries path))
new_fit n c s alone a (request.List path) new same = (tt, tt)
new_fit n c s alone a (request.Realm path) new same = (tt, tt)
new_fit n c s alone a (request.Clones path index) new same = (tt, tt)
new_fit n c s alone a (request.Barrier number) new same = plain_fit n c s _ (plain_barrier s number)
new_fit n c s alone a asked new same = decided_fit n c s alone asked (change_asked (state_after s.entries) a.client (next_id s) asked) new same (comes_to (state_after s.entries) a.client (next_id s) asked)

treat_fit : (n : ℕ) (c : Client) (up : List ToServer) (down : List ToClient) (s : Server) (alone : Bool) (a : Asked) → Whole n c up down s → HandOf s a.client → IfIt n c a → Fit (FitsFor n c) s (treat alone s a)
treat_fit n c up down s alone a all of it = by_test (all_connected s)
  where
    by_operation : (b : Bool) → kept_answer s a ≡ None → Fit (FitsFor n c) s (cond b [] (treat_new alone s a a.request))
    by_operation true none = tt
    by_operation false none = new_fit n c s alone a a.request (hand_new n c up down s a all of it none) (hand_is n c up down s a all of it)

    by_kept : (o : Option Answer) → kept_answer s a ≡ o → Fit (FitsFor n c) s (treat_known alone s a o)
    by_kept (Some said) is = (tt, tt)
    by_kept None is = by_operation (is_operation s a) is

    by_test : (b : Bool) → Fit (FitsFor n c) s (cond b (treat_known alone s a (kept_answer s a)) (Wait ∷ []))
    by_test true = by_kept (kept_answer s a) refl
    by_test false = (tt, tt)

-- the held requests
pub first_client : (x : ℕ) (list : List Asked) (b : Asked) → first_of (filter (of_client x) list) ≡ Some b → b.client ≡ x
first_client x [] b is = cc
first_client x (a ∷ list) b is = by_test (of_client x a) refl is (first_client x list b)
  where
    by_test : (d : Bool) → of_client x a ≡ d → first_of (cond d (a ∷ filter (of_client x) list) (filter (of_client x) list)) ≡ Some b → (first_of (filter (of_client x) list) ≡ Some b → b.client ≡ x) → b.client ≡ x
    by_test true test is go = let same : a ≡ b = cc in subst (λ (y : Asked). y.client ≡ x) same (grind (arith, nat_tests, test))
    by_test false test is go = go is

anew_fit : (n : ℕ) (c : Client) (up : List ToServer) (down : List ToClient) (list : List Asked) (s : Server) → Whole n c up down s → AllOf n (open_request c.under) list → Fit (FitsFor n c) s (each (λ t (a : Asked). TakeHeld a.client ∷ treat false (act t (TakeHeld a.client)) a) s list)
anew_fit n c up down [] s all it = tt
anew_fit n c up down (a ∷ list) s all it =
    let t = act s (TakeHeld a.client) in
    let next = whole.one n c up down s (TakeHeld a.client) tt all in
    let fit : Fit (FitsFor n c) s (TakeHeld a.client ∷ treat false t a) = (tt, treat_fit n c up down t false a next (λ b is. first_client a.client s.held b is) it.0) in
    fit_append (FitsFor n c) s (TakeHeld a.client ∷ treat false t a) (each (λ t (a : Asked). TakeHeld a.client ∷ treat false (act t (TakeHeld a.client)) a) (acts s (TakeHeld a.client ∷ treat false t a)) list) fit
    (anew_fit n c up down list (acts s (TakeHeld a.client ∷ treat false t a)) (acts_keep {F = FitsFor n c} {Q = Whole n c up down} (whole.one n c up down) (TakeHeld a.client ∷ treat false t a) s fit all) it.1)

-- a request that comes in
pub hand_of : (s : Server) (a b : Asked) (d : Bool) → cond d None (Some a) ≡ Some b → b.client ≡ a.client
hand_of s a b true is = cc
hand_of s a b false is = let same : a ≡ b = cc in ap (λ (x : Asked). x.client) (sym same)

brings_fit : (n : ℕ) (c : Client) (up : List ToServer) (down : List ToClient) (s : Server) (x conn : ℕ) (asked : Option (ℕ × Request)) → Whole n c up down (accepted s x conn asked) → (asked ≡ open_request c.under) ⊎ ((x == n) ≡ false) → Fit (FitsFor n c) (accepted s x conn asked) (treat_brought (accepted s x conn asked) (brought x asked))
brings_fit n c up down s x conn None all is = tt
brings_fit n c up down s x conn (Some r) all is =
    treat_fit n c up down (accepted s x conn (Some r)) false (asked_by x r.0 r.1) all (λ b at. hand_of s (asked_by x r.0 r.1) b (is_operation s (asked_by x r.0 r.1)) at) (it is)
  where
    it : (Some r ≡ open_request c.under) ⊎ ((x == n) ≡ false) → IfIt n c (asked_by x r.0 r.1)
    it (inl same) mine_it = subst (λ (o : Option (ℕ × Request)). IsIt o r.0 r.1) same (refl, refl)
    it (inr other) mine_it = absurd (true≢false (sym mine_it ∙ other))

-- the server's turn
finish_fit : (n : ℕ) (c : Client) (s : Server) (id : SnapId) (o : Option (Result Change Refusal)) → HandNew n s → Fit (FitsFor n c) s (finish id o)
finish_fit n c s id None new = tt
finish_fit n c s id (Some (Err refusal)) new = ((refl, refl), (tt, tt))
finish_fit n c s id (Some (Ok made)) new = by_made made
  where
    by_test : (now : SnapId) (b : Bool) → Fit (FitsFor n c) s (cond b (MakeEffect (change.Rmsnap now) ∷ AnswerIt answer.Done ∷ []) (roll_back id ∷ DeferFirst ∷ []))
    by_test now true = (new, (tt, tt))
    by_test now false = ((refl, refl), (tt, tt))

    by_made : (made : Change) → Fit (FitsFor n c) s (finish_with id made)
    by_made (change.Rmsnap now) = by_test now (now.0 == id.0)
    by_made made = (new, (tt, tt))

turn_fit : (n : ℕ) (c : Client) (up : List ToServer) (down : List ToClient) (s : Server) → Whole n c up down s → IfSome (turn s) (Fit (FitsFor n c) s)
turn_fit n c up down s all = by_test (all_connected s)
  where
    Good : Option (List Act) → Type 0
    Good o = IfSome o (Fit (FitsFor n c) s)

    plainly : (o : Option (List Act)) → IfSome o AllPlain → Good o
    plainly None is = tt
    plainly (Some list) is = plain_fit n c s list is

    operation_new : NewAt n s.entries s.operation → HandNew n (act s TakeOperation)
    operation_new new b is = subst (NewAt n s.entries) is new

    by_operation : (id : SnapId) (o : Option Asked) → Good (turn_operation s id o)
    by_operation id None = tt
    by_operation id (Some a) = (tt, finish_fit n c (act s TakeOperation) id (change_asked (state_after s.entries) a.client id a.request) (operation_new all.1.new))

    by_deferred : (list : List Asked) → s.deferred ≡ list → Good (turn_deferred s list)
    by_deferred [] is = plainly _ (plain_turn s (least (unsent_purges s)))
    by_deferred (a ∷ more) is = (tt, treat_fit n c up down (act s TakeDeferred) true a (whole.one n c up down s TakeDeferred tt all) of it)
      where
        of : HandOf (act s TakeDeferred) a.client
        of b at = let same : Some a ≡ Some b = sym (ap first_of is) ∙ at in hand_of s a b false same

        it : IfIt n c a
        it = (subst (AllOf n (open_request c.under)) is all.0.1.in_deferred).0

    by_outstanding : (o : Option (SnapId × ℕ)) → Good (turn_at s o)
    by_outstanding None = by_deferred s.deferred refl
    by_outstanding (Some o) = by_durable (nat_le o.1 s.durable)
      where
        by_durable : (b : Bool) → Good (cond b (turn_operation s o.0 s.operation) (turn_purge s (least (unsent_purges s))))
        by_durable true = by_operation o.0 s.operation
        by_durable false = plainly _ (plain_turn s (least (unsent_purges s)))

    by_test : (b : Bool) → Good (cond b (turn_at s (outstanding s.entries)) None)
    by_test true = by_outstanding (outstanding s.entries)
    by_test false = tt

pub rules : RulesFit FitsFor Whole
rules = record {
  anew = λ n c up down s all. anew_fit n c up down s.held s all all.0.1.in_held;
  asks = λ n c conn tid asked up down s is all. treat_fit n c up down (take_in s (asked_by n tid asked)) false (asked_by n tid asked) (whole.asks n c conn tid asked up down s is all) (λ b at. hand_of s (asked_by n tid asked) b (is_operation s (asked_by n tid asked)) at) (λ mine_it. all.0.1.up.0);
  asks_other = λ n x c tid asked up down s other all. treat_fit n c up down (take_in s (asked_by x tid asked)) false (asked_by x tid asked) (whole.asks_other n x c tid asked up down s other all) (λ b at. hand_of s (asked_by x tid asked) b (is_operation s (asked_by x tid asked)) at) (λ mine_it. absurd (true≢false (sym mine_it ∙ other)));
  brings = λ n c conn said flushes asked up down s all. brings_fit n c up down s n conn asked (whole.accepts n c conn said flushes asked up down s all) (inl all.0.0.1.up.1.asked);
  brings_other = λ n x c conn asked up down s other all. brings_fit n c up down s x conn asked (whole.accepts_other n x c conn asked up down s other all) (inr other);
  comes = λ n x c said flushes s. plain_fit n c s (come_back s x said flushes) (plain_back s x said flushes);
  flushes = λ n x c f s. plain_fit n c s (flush_acts_of x s f) (plain_flush x s f);
  drops = λ n x c ino s. plain_fit n c s (on_drop x s ino) (plain_drop x s ino);
  reports = λ n c m s. plain_fit n c s (reported s m) (plain_reported s m);
  restarts = λ n c s. plain_fit n c s (restarts s) (plain_restarts s);
  turns = λ n c up down s all. turn_fit n c up down s all;
}

pub all_hold : (script : Script) (steps : List Step) → EachClient Whole (after (start script) steps)
all_hold script steps = run_keeps Whole (rows_of_acts Whole whole rules) (start script) steps
    (at_start Whole script (λ n is. (
      (
        (tt, first_link (new_client n (script.clients + 1) (lines_of n script.lines)) _ refl is),
        first_requested n (new_client n (script.clients + 1) (lines_of n script.lines)) (start script).server refl refl refl refl refl refl refl,
      ),
      record { upto = tt; rising = tt; new = tt },
    )))

-- the law, and what is answered again
pub once_law : (script : Script) (history : List Event) → EachClient Once (world_after script history)
once_law script history = each_part Whole Once (world_after script history) (λ n c up down s all. all.1.rising) (all_hold script (steps_of history))

no_more : (n : ℕ) (k : ℕ × Answer) (later : List Entry) → AllAbove n k.0 later → AllUpTo n k.0 later → last_from n (Some k) later ≡ Some k
no_more n k [] above upto = refl
no_more n k (e ∷ later) above upto = by_kind (e.client == n) refl (change_in e.what) refl (no_more n k later above.1 upto.1)
  where
    by_kind : (b : Bool) → (e.client == n) ≡ b → (o : Option Change) → change_in e.what ≡ o → last_from n (Some k) later ≡ Some k → last_from n (cond b (answer_kept o e.number (Some k)) (Some k)) later ≡ Some k
    by_kind true test None is rest = rest
    by_kind false test o is rest = rest
    by_kind true test (Some made) is rest =
        let here : is_of n e ≡ true = rw (is, test) refl in
        let low = above.0 here in let high = upto.0 here in absurd (omega (arith, low, high))

rising_at : (n : ℕ) (before later : List Entry) (e : Entry) → is_of n e ≡ true → Rising n (before ++ e ∷ later) → AllAbove n e.number later
rising_at n [] later e here rising = rising.0 here
rising_at n (x ∷ before) later e here rising = rising_at n before later e here rising.1

upto_at : (n t : ℕ) (before later : List Entry) (e : Entry) → AllUpTo n t (before ++ e ∷ later) → AllUpTo n t later
upto_at n t [] later e upto = upto.1
upto_at n t (x ∷ before) later e upto = upto_at n t before later e upto.1

kept_last : (n t : ℕ) (before later : List Entry) (e : Entry) (made : Change) → e.client ≡ n → e.number ≡ t → change_in e.what ≡ Some made → Rising n (before ++ e ∷ later) → AllUpTo n t (before ++ e ∷ later) → last_effect (before ++ e ∷ later) n ≡ Some (t, answer_to_change made)
kept_last n t before later e made client same is rising upto =
    fold-append _ None before (e ∷ later) ∙ ap (λ (o : Option (ℕ × Answer)). last_from n o later) first ∙ no_more n (t, answer_to_change made) later (subst (λ (k : ℕ). AllAbove n k later) same (rising_at n before later e here rising)) (upto_at n t before later e upto)
  where
    test : (e.client == n) ≡ true
    test = grind (arith, nat_tests, client)

    here : is_of n e ≡ true
    here = rw (is, test) refl

    first : cond (e.client == n) (answer_kept (change_in e.what) e.number (last_from n None before)) (last_from n None before) ≡ Some (t, answer_to_change made)
    first = rw (test, is, same) refl

repeats : (n : ℕ) (c : Client) (up : List ToServer) (down : List ToClient) (s : Server) → Whole n c up down s → Repeats n c up down s
repeats n c up down s all before later e made alone a entries client same is asker tid connected =
    rw connected (ap (treat_known alone s a) kept)
  where
    last : last_effect s.entries n ≡ Some (c.tid, answer_to_change made)
    last = rw entries (kept_last n c.tid before later e made client same is (subst (Rising n) entries all.1.rising) (subst (AllUpTo n c.tid) entries all.1.upto))

    itself : (c.tid == c.tid) ≡ true
    itself = grind (arith, nat_tests)

    kept : kept_answer s a ≡ Some (answer_to_change made)
    kept = rw (asker, tid, last, itself) refl

pub repeats_law : (script : Script) (history : List Event) → EachClient Repeats (world_after script history)
repeats_law script history = each_part Whole Repeats (world_after script history) repeats (all_hold script (steps_of history))

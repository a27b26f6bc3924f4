-- A snapshot is made where its creation is prepared, along each run.
use Rattle.std.proofs.Common.{◌≡◌, ℕ, ◌+◌, List, [], ◌∷◌, ◌++◌, take, drop, Bool, true, false, true≢false, cond, Option, None, Some, refl, sym, ap, ◌∙◌, subst, IfSome, arith}
use Rattle.std.proofs.lemmas.List.{take-append-drop}
use Rattle.std.proofs.lemmas.Bool.Decides.{nat_tests}
use Rattle.std.specs.Prelude.{◌==◌, ◌&&◌, is_some, fold, nat_le, Result, Ok, Err}
use Rattle.snap_ids.specs.declared.id.Ino.{Ino}
use Rattle.snap_ids.specs.declared.id.SnapId.{SnapId}
use Rattle.plain_types.specs.declared.answer.Answer.{Answer}
use Rattle.plain_types.specs.declared.answer.Answer.TheVariants as answer
use Rattle.plain_types.specs.declared.answer.Refusal.{Refusal}
use Rattle.plain_types.specs.declared.change.Change.{Change}
use Rattle.plain_types.specs.declared.change.Change.TheVariants as change
use Rattle.plain_types.specs.declared.entry.Entry.{Entry}
use Rattle.plain_types.specs.declared.entry.What.{What}
use Rattle.plain_types.specs.declared.entry.What.TheVariants.{PrepareCreate, PrepareDestroy, Mksnap, Rmsnap, Rollback}
use Rattle.plain_types.specs.declared.history.Event.{Event}
use Rattle.plain_types.specs.declared.history.Step.{Step}
use Rattle.plain_types.specs.declared.request.Query.TheVariants as query
use Rattle.plain_types.specs.declared.request.Request.{Request}
use Rattle.plain_types.specs.declared.request.Request.TheVariants as request
use Rattle.plain_types.specs.declared.script.Script.{Script}
use Rattle.plain_tree.specs.Request.{change_asked}
use Rattle.plain_journal.specs.Answers.{found, answer_to}
use Rattle.plain_journal.specs.Entries.{change_in, state_after}
use Rattle.plain_journal.specs.Table.{outstanding, outstanding_from, operation_by}
use Rattle.step_table.specs.ServerState.{Asked, Server, Told, Answered, Granted, WantedBack, Changed, Acked, tell, tell_at, number_of, up_to, welcome, all_connected}
use Rattle.step_table.specs.Acts.{Act, TellRecall, TellAck, AnswerIt, GrantIt, MakeEffect, Prepare, TakeHeld, TakeDeferred, TakeOperation, Buffer, Defer, DeferFirst, Wait, act, acts, each, of_client, answer_hand, grant_hand, effect_hand, buffer_for, written_down, prepare_hand, entry_for, buffer}
use Rattle.step_table.specs.Requests.{treat, treat_known, treat_new, kept_answer, is_operation, decided, make, prepare, is_busy, next_id, decide_anew}
use Rattle.step_table.specs.Flushes.{asked_by, brought, take_in, connected, treat_brought, come_back, on_drop, on_flush as flush_acts_of}
use Rattle.step_table.specs.Background.{roll_back, finish, finish_with, least, unsent_purges, turn_operation, turn_deferred, turn_purge, turn_at, turn}
use Rattle.step_table.specs.ServerRows.{restarts, reported}
use Rattle.step_table.specs.ClientState.{Client}
use Rattle.step_table.specs.ClientLines.{on_op, on_flush}
use Rattle.step_table.specs.World.{World, client, start, after}
use Rattle.run_laws.specs.Moments.{steps_of, world_after}
use Rattle.run_laws.specs.Links.{View, EachClient, mine}
use Rattle.run_laws.specs.Prepared.{is_mkdir, is_rmdir, prepared_by, prepared}
use Rattle.run_laws.specs.Tables.{IsOut}
use Rattle.run_laws.proofs.Acts.{Fit, fit_append, notices_keep}
use Rattle.run_laws.proofs.Clients.{Keeps, ActsNow, op_acts, flush_acts}
use Rattle.run_laws.proofs.Linked.{in_hand, if_row, at_start}
use Rattle.run_laws.proofs.Effects.{EffectFits}
use Rattle.run_laws.proofs.Fitting.{OkIs}
use Rattle.run_laws.proofs.Comes.{MadeBy, comes_to}
use Rattle.run_laws.proofs.Kept.{made_law, removed_law}
use Rattle.run_laws.proofs.Plain.{IsPlain, AllPlain, plain_cap, plain_look, plain_barrier, plain_flush, plain_drop, plain_back, plain_reported, plain_restarts, plain_turn}
use Rattle.run_laws.proofs.Views.{Client's, run_keeps}
use Rattle.run_laws.proofs.ViewActs.{KeptViews, RulesFit, rows_of_acts, accepted, both, given}
use Rattle.run_laws.proofs.Once.{FitsFor}
use Rattle.run_laws.proofs.Strangers.{NoneOf, none_at, strangers}
use Rattle.run_laws.proofs.Operations.{Suits, SuitedAt, All, all_kept, all_rules, first_all}

-- no removal is prepared, and no creation
abbrev is_removal : Option What → Bool
is_removal (Some (PrepareDestroy id)) = true
is_removal o = false

abbrev is_making : Option What → Bool
is_making (Some (PrepareCreate id)) = true
is_making o = false

-- where a change, or an entry, makes a snapshot, no removal is prepared; where it removes one, no creation
abbrev IsDue : Change → Option What → Type 0
IsDue (change.Mksnap id dir name) o = is_removal o ≡ false
IsDue (change.Rmsnap id) o = is_making o ≡ false
IsDue made o = Unit {0}

abbrev EntryDue : What → Option What → Type 0
EntryDue (Mksnap id dir name) o = is_removal o ≡ false
EntryDue (Rmsnap id) o = is_making o ≡ false
EntryDue said o = Unit {0}

abbrev HandDue : ℕ → Change → Server → Type 0
HandDue n made s = (a : Asked) → s.hand ≡ Some a → of_client n a ≡ true → IsDue made (prepared s.entries)

abbrev MakesFit : ℕ → Server → Act → Type 0
MakesFit n s (MakeEffect made) = HandDue n made s
MakesFit n s a = Unit {0}

-- rules that make no snapshot
plain_fits : (n : ℕ) (s : Server) (a : Act) → IsPlain a → MakesFit n s a
plain_fits n s (MakeEffect made) is = absurd is
plain_fits n s a is = tt

plain_fit : (n : ℕ) (s : Server) (list : List Act) → AllPlain list → Fit (MakesFit n) s list
plain_fit n s [] all = tt
plain_fit n s (a ∷ list) all = (plain_fits n s a all.0, plain_fit n (act s a) list all.1)

prepare_fit : (n : ℕ) (s : Server) (alone : Bool) (said : What) → Fit (MakesFit n) s (prepare alone s said)
prepare_fit n s alone said = by_test (is_busy alone s)
  where
    by_test : (b : Bool) → Fit (MakesFit n) s (cond b (Defer ∷ []) (Prepare said ∷ []))
    by_test true = (tt, tt)
    by_test false = (tt, tt)

make_fit : (n : ℕ) (s : Server) (alone : Bool) (made : Change) → Fit (MakesFit n) s (make alone s made)
make_fit n s alone (change.Mksnap id dir name) = prepare_fit n s alone (PrepareCreate id)
make_fit n s alone (change.Rmsnap id) = prepare_fit n s alone (PrepareDestroy id)
make_fit n s alone made = ((λ a is mine_it. tt), (tt, tt))

decided_fit : (n : ℕ) (s : Server) (alone : Bool) (o : Option (Result Change Refusal)) → Fit (MakesFit n) s (decided alone s o)
decided_fit n s alone None = tt
decided_fit n s alone (Some (Err refusal)) = (tt, tt)
decided_fit n s alone (Some (Ok made)) = make_fit n s alone made

new_fit : (n : ℕ) (s : Server) (alone : Bool) (a : Asked) (asked : Request) → Fit (MakesFit n) s (treat_new alone s a asked)
new_fit n s alone a (request.Cap ino mode) = plain_fit n s _ (plain_cap s a.client ino mode (GrantIt ino mode) tt)
new_fit n s alone a (request.Cat path) = plain_fit n s _ (plain_look s a (answer_to s.entries (query.Cat path)) (found s.entries path))
new_fit n s alone a (request.Stat path) = plain_fit n s _ (plain_look s a (answer_to s.entries (query.Stat path)) (found s.entries path))
new_fit n s alone a (request.List path) = (tt, tt)
new_fit n s alone a (request.Realm path) = (tt, tt)
new_fit n s alone a (request.Clones path index) = (tt, tt)
new_fit n s alone a (request.Barrier number) = plain_fit n s _ (plain_barrier s number)
new_fit n s alone a asked = decided_fit n s alone (change_asked (state_after s.entries) a.client (next_id s) asked)

treat_fit : (n : ℕ) (s : Server) (alone : Bool) (a : Asked) → Fit (MakesFit n) s (treat alone s a)
treat_fit n s alone a = by_test (all_connected s)
  where
    by_operation : (b : Bool) → Fit (MakesFit n) s (cond b [] (treat_new alone s a a.request))
    by_operation true = tt
    by_operation false = new_fit n s alone a a.request

    by_kept : (o : Option Answer) → Fit (MakesFit n) s (treat_known alone s a o)
    by_kept (Some said) = (tt, tt)
    by_kept None = by_operation (is_operation s a)

    by_test : (b : Bool) → Fit (MakesFit n) s (cond b (treat_known alone s a (kept_answer s a)) (Wait ∷ []))
    by_test true = by_kept (kept_answer s a)
    by_test false = (tt, tt)

anew_fit : (n : ℕ) (list : List Asked) (s : Server) → Fit (MakesFit n) s (each (λ t (a : Asked). TakeHeld a.client ∷ treat false (act t (TakeHeld a.client)) a) s list)
anew_fit n [] s = tt
anew_fit n (a ∷ list) s =
    let t = act s (TakeHeld a.client) in
    fit_append (MakesFit n) s (TakeHeld a.client ∷ treat false t a) (each (λ t (a : Asked). TakeHeld a.client ∷ treat false (act t (TakeHeld a.client)) a) (acts s (TakeHeld a.client ∷ treat false t a)) list)
    (tt, treat_fit n t false a) (anew_fit n list (acts s (TakeHeld a.client ∷ treat false t a)))

brought_fit : (n : ℕ) (s : Server) (o : Option Asked) → Fit (MakesFit n) s (treat_brought s o)
brought_fit n s None = tt
brought_fit n s (Some a) = treat_fit n s false a

-- a `mkdir` suits no removal
not_removal : (asked : Request) (o : Option What) → is_mkdir asked ≡ true → Suits asked o → is_removal o ≡ false
not_removal asked None is suits = refl
not_removal asked (Some (PrepareDestroy id)) is suits = absurd (apart asked is suits)
  where
    apart : (asked : Request) → is_mkdir asked ≡ true → is_rmdir asked ≡ true → ⊥
    apart (request.Mkdir path) is suits = true≢false (sym suits)
    apart asked is suits = true≢false (sym is)
not_removal asked (Some said) is suits = refl

-- and an `rmdir` no creation
not_making : (asked : Request) (o : Option What) → is_rmdir asked ≡ true → Suits asked o → is_making o ≡ false
not_making asked None is suits = refl
not_making asked (Some (PrepareCreate id)) is suits = absurd (apart asked is suits)
  where
    apart : (asked : Request) → is_rmdir asked ≡ true → is_mkdir asked ≡ true → ⊥
    apart (request.Rmdir path) is suits = true≢false (sym suits)
    apart asked is suits = true≢false (sym is)
not_making asked (Some said) is suits = refl

finish_fit : (n : ℕ) (s : Server) (a : Asked) (id : SnapId) (o : Option (Result Change Refusal)) → s.hand ≡ Some a → (of_client n a ≡ true → Suits a.request (prepared s.entries)) → IfSome o (λ (r : Result Change Refusal). OkIs r (MadeBy a.request)) → Fit (MakesFit n) s (finish id o)
finish_fit n s a id None hand suits by = tt
finish_fit n s a id (Some (Err refusal)) hand suits by = (tt, (tt, tt))
finish_fit n s a id (Some (Ok made)) hand suits by = by_made made by
  where
    same_hand : (b : Asked) → s.hand ≡ Some b → a ≡ b
    same_hand b is = cc

    by_made : (made : Change) → MadeBy a.request made → Fit (MakesFit n) s (finish_with id made)
    by_made (change.Mksnap given dir name) by = ((λ b is mine_b. let same : a ≡ b = same_hand b is in not_removal a.request (prepared s.entries) by (suits (subst (λ (x : Asked). of_client n x ≡ true) (sym same) mine_b))), (tt, tt))
    by_made (change.Rmsnap now) by = by_test (now.0 == id.0)
      where
        by_test : (d : Bool) → Fit (MakesFit n) s (cond d (MakeEffect (change.Rmsnap now) ∷ AnswerIt answer.Done ∷ []) (roll_back id ∷ DeferFirst ∷ []))
        by_test true = ((λ b is mine_b. let same : a ≡ b = same_hand b is in not_making a.request (prepared s.entries) by (suits (subst (λ (x : Asked). of_client n x ≡ true) (sym same) mine_b))), (tt, tt))
        by_test false = (tt, (tt, tt))
    by_made made by = ((λ b is mine_b. tt), (tt, tt))

turn_fit : (n : ℕ) (s : Server) → SuitedAt n s.entries s.operation → IfSome (turn s) (Fit (MakesFit n) s)
turn_fit n s suited = by_test (all_connected s)
  where
    Good : Option (List Act) → Type 0
    Good o = IfSome o (Fit (MakesFit n) s)

    plainly : (o : Option (List Act)) → IfSome o AllPlain → Good o
    plainly None is = tt
    plainly (Some list) is = plain_fit n s list is

    by_operation : (id : SnapId) (o : Option Asked) → s.operation ≡ o → SuitedAt n s.entries o → Good (turn_operation s id o)
    by_operation id None is suits = tt
    by_operation id (Some a) is suits = (tt, finish_fit n (act s TakeOperation) a id (change_asked (state_after s.entries) a.client id a.request) is suits (comes_to (state_after s.entries) a.client id a.request))

    by_deferred : (list : List Asked) → Good (turn_deferred s list)
    by_deferred [] = plainly _ (plain_turn s (least (unsent_purges s)))
    by_deferred (a ∷ more) = (tt, treat_fit n (act s TakeDeferred) true a)

    by_outstanding : (o : Option (SnapId × ℕ)) → Good (turn_at s o)
    by_outstanding None = by_deferred s.deferred
    by_outstanding (Some o) = by_durable (nat_le o.1 s.durable)
      where
        by_durable : (b : Bool) → Good (cond b (turn_operation s o.0 s.operation) (turn_purge s (least (unsent_purges s))))
        by_durable true = by_operation o.0 s.operation refl suited
        by_durable false = plainly _ (plain_turn s (least (unsent_purges s)))

    by_test : (b : Bool) → Good (cond b (turn_at s (outstanding s.entries)) None)
    by_test true = by_outstanding (outstanding s.entries)
    by_test false = tt

-- both fits at once
abbrev BothFit : ℕ → Client → Server → Act → Type 0
BothFit n c s a = FitsFor n c s a × MakesFit n s a

fit_both : (n : ℕ) (c : Client) (s : Server) (list : List Act) → Fit (FitsFor n c) s list → Fit (MakesFit n) s list → Fit (BothFit n c) s list
fit_both n c s [] one two = tt
fit_both n c s (a ∷ list) one two = ((one.0, two.0), fit_both n c (act s a) list one.1 two.1)

both_turn : (n : ℕ) (c : Client) (s : Server) (o : Option (List Act)) → IfSome o (Fit (FitsFor n c) s) → IfSome o (Fit (MakesFit n) s) → IfSome o (Fit (BothFit n c) s)
both_turn n c s None one two = tt
both_turn n c s (Some list) one two = fit_both n c s list one two

-- each entry of a client that makes or removes a snapshot does so where the other isn't prepared; `o` is what is prepared before these
abbrev AllDue : ℕ → Option What → List Entry → Type 0
AllDue n o [] = Unit {0}
AllDue n o (e ∷ entries) = ((e.client == n) ≡ true → EntryDue e.what o) × AllDue n (prepared_by e.what o) entries

abbrev prepared_from : Option What → List Entry → Option What
prepared_from o entries = fold (λ (before : Option What) (entry : Entry). prepared_by entry.what before) o entries

due_end : (n : ℕ) (o : Option What) (entries : List Entry) (e : Entry) → ((e.client == n) ≡ true → EntryDue e.what (prepared_from o entries)) → AllDue n o entries → AllDue n o (entries ++ e ∷ [])
due_end n o [] e new all = (new, tt)
due_end n o (x ∷ entries) e new all = (all.0, due_end n (prepared_by x.what o) entries e new all.1)

due_front : (n : ℕ) (o : Option What) (entries later : List Entry) → AllDue n o (entries ++ later) → AllDue n o entries
due_front n o [] later all = tt
due_front n o (x ∷ entries) later all = (all.0, due_front n (prepared_by x.what o) entries later all.1)

due_at : (n : ℕ) (o : Option What) (before later : List Entry) (e : Entry) → AllDue n o (before ++ e ∷ later) → (e.client == n) ≡ true → EntryDue e.what (prepared_from o before)
due_at n o [] later e all = all.0
due_at n o (x ∷ before) later e all = due_at n (prepared_by x.what o) before later e all.1

-- acts
abbrev Due : ℕ → Server → Type 0
Due n s = AllDue n None s.entries

tell_due : (n : ℕ) (s : Server) (x : ℕ) (told : Told) → Due n s → Due n (tell s x told)
tell_due n s x told due = by_number (number_of s.current x)
  where
    by_number : (o : Option ℕ) → Due n (tell_at s x told o)
    by_number None = due
    by_number (Some conn) = due

buffers : (n : ℕ) (s : Server) (e : Entry) → ((e.client == n) ≡ true → EntryDue e.what (prepared s.entries)) → Due n s → Due n (buffer s e)
buffers n s e new due = notices_keep (Due n) (λ t x inos so. tell_due n t x (Changed inos) so) s.entries (up_to s.clients) (record s { entries = s.entries ++ e ∷ [] }) (due_end n None s.entries e new due)

no_change : (said : What) (o : Option What) → change_in said ≡ None → EntryDue said o
no_change (Mksnap id dir name) o is = cc
no_change (Rmsnap id) o is = cc
no_change said o is = tt

written_due : (made : Change) (o : Option What) → IsDue made o → IfSome (written_down made) (λ said. EntryDue said o)
written_due (change.Mksnap id dir name) o is = is
written_due (change.Rmsnap id) o is = is
written_due made o is = tt

one : (n : ℕ) (s : Server) (a : Act) → EffectFits n s a → MakesFit n s a → Due n s → Due n (act s a)
one n s (TellRecall x ino) fit makes due = tell_due n s x (WantedBack ino) due
one n s (TellAck x number) fit makes due = tell_due n s x (Acked number) due
one n s (AnswerIt said) fit makes due = by_hand s.hand
  where
    by_hand : (o : Option Asked) → Due n (answer_hand s said o)
    by_hand None = due
    by_hand (Some a) = tell_due n (record s { hand = None }) a.client (Answered a.tid said) due
one n s (GrantIt ino mode) fit makes due = by_hand s.hand
  where
    by_hand : (o : Option Asked) → Due n (grant_hand s ino mode o)
    by_hand None = due
    by_hand (Some a) = tell_due n (record s { hand = None }) a.client (Granted a.tid ino mode) due
one n s (MakeEffect made) fit makes due = by_hand s.hand refl
  where
    by_said : (a : Asked) (o : Option What) → (of_client n a ≡ true → IfSome o (λ said. EntryDue said (prepared s.entries))) → Due n (buffer_for s a o)
    by_said a None new = due
    by_said a (Some said) new = buffers n s (entry_for a said) new due

    by_hand : (o : Option Asked) → s.hand ≡ o → Due n (effect_hand s made o)
    by_hand None is = due
    by_hand (Some a) is = by_said a (written_down made) (λ mine_it. written_due made (prepared s.entries) (makes a is mine_it))
one n s (Prepare said) fit makes due = by_hand s.hand
  where
    by_hand : (o : Option Asked) → Due n (prepare_hand s said o)
    by_hand None = due
    by_hand (Some a) = buffers n (record s { operation = Some a; hand = None }) (entry_for a said) (λ mine_it. no_change said (prepared s.entries) fit.0) due
one n s (Buffer e) fit makes due = buffers n s e (λ mine_it. no_change e.what (prepared s.entries) fit.0) due
one n s a fit makes due = due

-- with what is known of requests and of the outstanding operation
abbrev Makes : View
Makes n c up down s = Due n s

abbrev Full : View
Full n c up down s = All n c up down s × Makes n c up down s

kept : KeptViews BothFit Full Makes
kept = record {
  op = λ n c up down s all. if_row (on_op c) (ActsNow c) (Client's Makes n up down s) (λ r does. all.1) (op_acts c c.lines all.0.0.0.1.opened);
  flush = λ n c up down s all. if_row (on_flush c) (λ r. (c.frozen ≡ false) × Keeps c r) (Client's Makes n up down s) (λ r does. all.1) (flush_acts c);
  told = λ n c up m down s all. all.1;
  stored = λ n c m up down s all. all.1;
  one = λ n c up down s a fit all. one n s a fit.0 fit.1 all.1;
  pops = λ n c m up down s all. all.1;
  accepts = λ n c conn said flushes asked up down s all. in_hand (Due n) (λ t hand so. so) (welcome (connected s n conn) n conn) n asked all.1;
  accepts_other = λ n x c conn asked up down s other all. in_hand (Due n) (λ t hand so. so) (welcome (connected s x conn) x conn) x asked all.1;
  asks = λ n c conn tid asked up down s is all. all.1;
  asks_other = λ n x c tid asked up down s other all. all.1;
  hands = λ n c up down s all. all.1;
  durable = λ n c up down s all. all.1;
  survives = λ n c up down s k fits all. due_front n None (take (s.durable + k) s.entries) (drop (s.durable + k) s.entries) (subst (AllDue n None) (sym (take-append-drop (s.durable + k) s.entries)) all.1);
}

full_kept : KeptViews BothFit Full Full
full_kept = both (given (λ n c up down s all. all.0) (λ n c s a fit. fit.0) all_kept) kept

full_rules : RulesFit BothFit Full
full_rules = record {
  anew = λ n c up down s all. fit_both n c s (decide_anew s) (all_rules.anew n c up down s all.0) (anew_fit n s.held s);
  asks = λ n c conn tid asked up down s is all. fit_both n c (take_in s (asked_by n tid asked)) (treat false (take_in s (asked_by n tid asked)) (asked_by n tid asked)) (all_rules.asks n c conn tid asked up down s is all.0) (treat_fit n (take_in s (asked_by n tid asked)) false (asked_by n tid asked));
  asks_other = λ n x c tid asked up down s other all. fit_both n c (take_in s (asked_by x tid asked)) (treat false (take_in s (asked_by x tid asked)) (asked_by x tid asked)) (all_rules.asks_other n x c tid asked up down s other all.0) (treat_fit n (take_in s (asked_by x tid asked)) false (asked_by x tid asked));
  brings = λ n c conn said flushes asked up down s all. fit_both n c (accepted s n conn asked) (treat_brought (accepted s n conn asked) (brought n asked)) (all_rules.brings n c conn said flushes asked up down s all.0) (brought_fit n (accepted s n conn asked) (brought n asked));
  brings_other = λ n x c conn asked up down s other all. fit_both n c (accepted s x conn asked) (treat_brought (accepted s x conn asked) (brought x asked)) (all_rules.brings_other n x c conn asked up down s other all.0) (brought_fit n (accepted s x conn asked) (brought x asked));
  comes = λ n x c said flushes s. fit_both n c s (come_back s x said flushes) (all_rules.comes n x c said flushes s) (plain_fit n s (come_back s x said flushes) (plain_back s x said flushes));
  flushes = λ n x c f s. fit_both n c s (flush_acts_of x s f) (all_rules.flushes n x c f s) (plain_fit n s (flush_acts_of x s f) (plain_flush x s f));
  drops = λ n x c ino s. fit_both n c s (on_drop x s ino) (all_rules.drops n x c ino s) (plain_fit n s (on_drop x s ino) (plain_drop x s ino));
  reports = λ n c m s. fit_both n c s (reported s m) (all_rules.reports n c m s) (plain_fit n s (reported s m) (plain_reported s m));
  restarts = λ n c s. fit_both n c s (restarts s) (all_rules.restarts n c s) (plain_fit n s (restarts s) (plain_restarts s));
  turns = λ n c up down s all. both_turn n c s (turn s) (all_rules.turns n c up down s all.0) (turn_fit n s all.0.1);
}

all_hold : (script : Script) (steps : List Step) → EachClient Full (after (start script) steps)
all_hold script steps = run_keeps Full (rows_of_acts Full full_kept full_rules) (start script) steps (at_start Full script (λ n is. (first_all script n is, tt)))

-- what is outstanding is what is prepared
abbrev SameOut : Option (SnapId × ℕ) → Option What → Type 0
SameOut None None = Unit {0}
SameOut (Some o) (Some (PrepareCreate id)) = o.0 ≡ id
SameOut (Some o) (Some (PrepareDestroy id)) = o.0 ≡ id
SameOut o p = ⊥

same_entry : (said : What) (number : ℕ) (o : Option (SnapId × ℕ)) (p : Option What) → SameOut o p → SameOut (operation_by said number o) (prepared_by said p)
same_entry (PrepareCreate id) number o p same = refl
same_entry (PrepareDestroy id) number o p same = refl
same_entry (Mksnap id dir name) number o p same = tt
same_entry (Rmsnap id) number o p same = tt
same_entry (Rollback id) number o p same = tt
same_entry said number o p same = same

same_out : (number : ℕ) (o : Option (SnapId × ℕ)) (p : Option What) (entries : List Entry) → SameOut o p → SameOut (outstanding_from number o entries) (prepared_from p entries)
same_out number o p [] same = same
same_out number o p (e ∷ entries) same = same_out (number + 1) (operation_by e.what number o) (prepared_by e.what p) entries (same_entry e.what number o p same)

is_creation : (id : SnapId) (place : ℕ) (o : Option (SnapId × ℕ)) (p : Option What) → o ≡ Some (id, place) → SameOut o p → is_removal p ≡ false → p ≡ Some (PrepareCreate id)
is_creation id place None p out same no_removal = cc
is_creation id place (Some o) None out same no_removal = absurd same
is_creation id place (Some o) (Some (PrepareCreate now)) out same no_removal = let it : o ≡ (id, place) = cc in ap (λ (x : SnapId). Some (PrepareCreate x)) (sym same ∙ ap (λ (x : SnapId × ℕ). x.0) it)
is_creation id place (Some o) (Some (PrepareDestroy now)) out same no_removal = absurd (true≢false no_removal)
is_creation id place (Some o) (Some said) out same no_removal = absurd same

is_destruction : (id : SnapId) (place : ℕ) (o : Option (SnapId × ℕ)) (p : Option What) → o ≡ Some (id, place) → SameOut o p → is_making p ≡ false → p ≡ Some (PrepareDestroy id)
is_destruction id place None p out same no_making = cc
is_destruction id place (Some o) None out same no_making = absurd same
is_destruction id place (Some o) (Some (PrepareDestroy now)) out same no_making = let it : o ≡ (id, place) = cc in ap (λ (x : SnapId). Some (PrepareDestroy x)) (sym same ∙ ap (λ (x : SnapId × ℕ). x.0) it)
is_destruction id place (Some o) (Some (PrepareCreate now)) out same no_making = absurd (true≢false no_making)
is_destruction id place (Some o) (Some said) out same no_making = absurd same

is_its : (n : ℕ) → (n == n) ≡ true
is_its n = grind (arith, nat_tests)

-- what an entry with a change of the tree says is due
due_law : (script : Script) (history : List Event) (before later : List Entry) (e : Entry) → (world_after script history).server.entries ≡ before ++ e ∷ later → is_some (change_in e.what) ≡ true → EntryDue e.what (prepared before)
due_law script history before later e entries is = by_client (client w.clients e.client) refl (all_hold script (steps_of history) e.client)
  where
    w : World
    w = world_after script history

    it : (e.client == e.client) ≡ true
    it = is_its e.client

    its : (b : Bool) → b ≡ true → (b && (e.client == e.client)) ≡ true
    its true is = it
    its false is = absurd (true≢false (sym is))

    by_client : (o : Option Client) → client w.clients e.client ≡ o → IfSome o (λ c. Full e.client c (mine e.client w.up) (mine e.client w.down) w.server) → EntryDue e.what (prepared before)
    by_client (Some c) at all = due_at e.client None before later e (subst (AllDue e.client None) entries all.1) it
    by_client None at all = absurd (true≢false (sym (its (is_some (change_in e.what)) is) ∙ none_at e.client before later e (subst (NoneOf e.client) entries (strangers script (steps_of history) e.client at).1.none)))

pub creation_law : (script : Script) (history : List Event) (before later : List Entry) (e : Entry) (id : SnapId) (dir : Ino) (name : List ℕ)
    → (world_after script history).server.entries ≡ before ++ e ∷ later → e.what ≡ Mksnap id dir name → prepared before ≡ Some (PrepareCreate id)
creation_law script history before later e id dir name entries is = is_creation id out.0 (outstanding before) (prepared before) out.1 (same_out 1 None None before tt) due
  where
    out : IsOut before id
    out = made_law script history before later e id dir name entries is

    due : EntryDue (Mksnap id dir name) (prepared before)
    due = subst (λ (x : What). EntryDue x (prepared before)) is (due_law script history before later e entries (subst (λ (x : What). is_some (change_in x) ≡ true) (sym is) refl))

pub destruction_law : (script : Script) (history : List Event) (before later : List Entry) (e : Entry) (id : SnapId)
    → (world_after script history).server.entries ≡ before ++ e ∷ later → e.what ≡ Rmsnap id → prepared before ≡ Some (PrepareDestroy id)
destruction_law script history before later e id entries is = is_destruction id out.0 (outstanding before) (prepared before) out.1 (same_out 1 None None before tt) due
  where
    out : IsOut before id
    out = removed_law script history before later e id entries is

    due : EntryDue (Rmsnap id) (prepared before)
    due = subst (λ (x : What). EntryDue x (prepared before)) is (due_law script history before later e entries (subst (λ (x : What). is_some (change_in x) ≡ true) (sym is) refl))

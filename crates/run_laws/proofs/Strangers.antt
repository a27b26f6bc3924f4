-- No request and no effect is of a number that isn't a client's, along each run.
use Rattle.std.proofs.Common.{◌≡◌, ℕ, ◌+◌, List, [], ◌∷◌, ◌++◌, take, drop, Bool, true, false, true≢false, cond, Option, None, Some, refl, sym, ap, ◌∙◌, subst, IfSome, arith}
use Rattle.std.proofs.lemmas.List.{take-append-drop}
use Rattle.std.proofs.lemmas.Bool.Decides.{nat_tests}
use Rattle.std.specs.Prelude.{◌==◌, ◌&&◌, nat_le, is_some, not, filter, Result, Ok, Err}
use Rattle.snap_ids.specs.declared.id.SnapId.{SnapId}
use Rattle.plain_types.specs.declared.answer.Answer.{Answer}
use Rattle.plain_types.specs.declared.answer.Answer.TheVariants as answer
use Rattle.plain_types.specs.declared.answer.Refusal.{Refusal}
use Rattle.plain_types.specs.declared.change.Change.{Change}
use Rattle.plain_types.specs.declared.change.Change.TheVariants as change
use Rattle.plain_types.specs.declared.entry.Entry.{Entry}
use Rattle.plain_types.specs.declared.entry.What.{What}
use Rattle.plain_types.specs.declared.entry.What.TheVariants.{PrepareCreate, PrepareDestroy}
use Rattle.plain_types.specs.declared.history.Step.{Step}
use Rattle.plain_types.specs.declared.history.Step.TheVariants.{Op, Flush as FlushStep, ClientFromServer, ClientFromStore, ServerTakes, Commit, Restart, Tend, StoreTakes}
use Rattle.plain_types.specs.declared.message.Claim.{Claim}
use Rattle.plain_types.specs.declared.message.FlushMsg.{FlushMsg}
use Rattle.plain_types.specs.declared.message.ToServer.{ToServer}
use Rattle.plain_types.specs.declared.message.ToServer.TheVariants.{Connect, Ask, Flush, DropRead, Purged, Deleted}
use Rattle.plain_types.specs.declared.request.Query.TheVariants as query
use Rattle.plain_types.specs.declared.request.Request.{Request}
use Rattle.plain_types.specs.declared.request.Request.TheVariants as request
use Rattle.plain_types.specs.declared.script.Script.{Script}
use Rattle.plain_tree.specs.Request.{change_asked}
use Rattle.plain_journal.specs.Answers.{found, answer_to}
use Rattle.plain_journal.specs.Entries.{change_in, state_after}
use Rattle.plain_journal.specs.Table.{outstanding}
use Rattle.step_table.specs.Row.{Row}
use Rattle.step_table.specs.ServerState.{Asked, Server, Told, Answered, Granted, WantedBack, Changed, Acked, tell, tell_at, number_of, up_to, welcome, all_connected}
use Rattle.step_table.specs.Acts.{Act, TellRecall, TellAck, AnswerIt, GrantIt, MakeEffect, Prepare, TakeHeld, TakeDeferred, TakeOperation, Buffer, Defer, DeferFirst, Wait, act, acts, of_client, as_list, answer_hand, grant_hand, effect_hand, buffer_for, written_down, prepare_hand, entry_for, buffer, hand_out}
use Rattle.step_table.specs.Requests.{treat, treat_known, treat_new, kept_answer, is_operation, decided, make, prepare, is_busy, next_id}
use Rattle.step_table.specs.Flushes.{asked_by, brought, take_in, take_in_brought, connected, treat_brought, come_back, on_drop, on_flush as flush_acts_of}
use Rattle.step_table.specs.Background.{roll_back, finish, finish_with, least, unsent_purges, turn_operation, turn_deferred, turn_purge, turn_at, turn}
use Rattle.step_table.specs.ServerRows.{on_take, on_commit, on_restart, on_tend, left_with, restarts, reported, back}
use Rattle.step_table.specs.ClientState.{Client}
use Rattle.step_table.specs.ClientLines.{on_op, on_flush}
use Rattle.step_table.specs.ClientTakes.{on_told, on_stored}
use Rattle.step_table.specs.World.{World, start, Made, row, after_row, after, with_client, with_message, with_first, some_row, at_client, at_server, client, put, pop, store_node, client_takes, client_takes_stored, server_takes, server_takes_report, store_takes, store_takes_order, tagged, to_server as for_server}
use Rattle.run_laws.specs.Links.{mine}
use Rattle.run_laws.specs.Requests.{AllOf, is_of}
use Rattle.run_laws.specs.Tables.{is_prepare}
use Rattle.run_laws.proofs.Acts.{Fit, notices_keep, KeptByActs, acts_keep, take_ask, take_connect, take_flush, take_drop, take_purged, take_deleted, row_keeps, turn_keeps, commit_keeps, restart_keeps}
use Rattle.run_laws.proofs.Asked.{all_append, all_filter, all_first, all_drop}
use Rattle.run_laws.proofs.Channels.{IsHead, popped, mine_append, mine_other}
use Rattle.run_laws.proofs.Gives.{AlwaysFit, anew_fit}
use Rattle.run_laws.proofs.Plain.{IsPlain, AllPlain, plain_cap, plain_look, plain_barrier, plain_flush, plain_drop, plain_back, plain_reported, plain_restarts, plain_turn}

-- what is buffered beside the effects of requests is no effect, and prepares nothing; what is prepared is an operation
abbrev pub OwnFits : Server → Act → Type 0
OwnFits s (Buffer e) = (change_in e.what ≡ None) × (is_prepare e.what ≡ false)
OwnFits s (Prepare said) = is_prepare said ≡ true
OwnFits s a = Unit {0}

plain_own : (s : Server) (a : Act) → IsPlain a → OwnFits s a
plain_own s (Buffer e) is = is
plain_own s (Prepare said) is = absurd is
plain_own s a is = tt

plain_fit : (s : Server) (list : List Act) → AllPlain list → Fit OwnFits s list
plain_fit s [] all = tt
plain_fit s (a ∷ list) all = (plain_own s a all.0, plain_fit (act s a) list all.1)

prepare_fit : (s : Server) (alone : Bool) (said : What) → is_prepare said ≡ true → Fit OwnFits s (prepare alone s said)
prepare_fit s alone said is = by_test (is_busy alone s)
  where
    by_test : (b : Bool) → Fit OwnFits s (cond b (Defer ∷ []) (Prepare said ∷ []))
    by_test true = (tt, tt)
    by_test false = (is, tt)

make_fit : (s : Server) (alone : Bool) (made : Change) → Fit OwnFits s (make alone s made)
make_fit s alone (change.Mksnap id dir name) = prepare_fit s alone (PrepareCreate id) refl
make_fit s alone (change.Rmsnap id) = prepare_fit s alone (PrepareDestroy id) refl
make_fit s alone made = (tt, (tt, tt))

decided_fit : (s : Server) (alone : Bool) (o : Option (Result Change Refusal)) → Fit OwnFits s (decided alone s o)
decided_fit s alone None = tt
decided_fit s alone (Some (Err refusal)) = (tt, tt)
decided_fit s alone (Some (Ok made)) = make_fit s alone made

new_fit : (s : Server) (alone : Bool) (a : Asked) (asked : Request) → Fit OwnFits s (treat_new alone s a asked)
new_fit s alone a (request.Cap ino mode) = plain_fit s _ (plain_cap s a.client ino mode (GrantIt ino mode) tt)
new_fit s alone a (request.Cat path) = plain_fit s _ (plain_look s a (answer_to s.entries (query.Cat path)) (found s.entries path))
new_fit s alone a (request.Stat path) = plain_fit s _ (plain_look s a (answer_to s.entries (query.Stat path)) (found s.entries path))
new_fit s alone a (request.List path) = (tt, tt)
new_fit s alone a (request.Realm path) = (tt, tt)
new_fit s alone a (request.Clones path index) = (tt, tt)
new_fit s alone a (request.Barrier number) = plain_fit s _ (plain_barrier s number)
new_fit s alone a asked = decided_fit s alone (change_asked (state_after s.entries) a.client (next_id s) asked)

treat_fit : (s : Server) (alone : Bool) (a : Asked) → Fit OwnFits s (treat alone s a)
treat_fit s alone a = by_test (all_connected s)
  where
    by_operation : (b : Bool) → Fit OwnFits s (cond b [] (treat_new alone s a a.request))
    by_operation true = tt
    by_operation false = new_fit s alone a a.request

    by_kept : (o : Option Answer) → Fit OwnFits s (treat_known alone s a o)
    by_kept (Some said) = (tt, tt)
    by_kept None = by_operation (is_operation s a)

    by_test : (b : Bool) → Fit OwnFits s (cond b (treat_known alone s a (kept_answer s a)) (Wait ∷ []))
    by_test true = by_kept (kept_answer s a)
    by_test false = (tt, tt)

finish_fit : (s : Server) (id : SnapId) (o : Option (Result Change Refusal)) → Fit OwnFits s (finish id o)
finish_fit s id None = tt
finish_fit s id (Some (Err refusal)) = ((refl, refl), (tt, tt))
finish_fit s id (Some (Ok made)) = by_made made
  where
    by_test : (now : SnapId) (b : Bool) → Fit OwnFits s (cond b (MakeEffect (change.Rmsnap now) ∷ AnswerIt answer.Done ∷ []) (roll_back id ∷ DeferFirst ∷ []))
    by_test now true = (tt, (tt, tt))
    by_test now false = ((refl, refl), (tt, tt))

    by_made : (made : Change) → Fit OwnFits s (finish_with id made)
    by_made (change.Rmsnap now) = by_test now (now.0 == id.0)
    by_made made = (tt, (tt, tt))

turn_fit : (s : Server) → IfSome (turn s) (Fit OwnFits s)
turn_fit s = by_test (all_connected s)
  where
    Good : Option (List Act) → Type 0
    Good o = IfSome o (Fit OwnFits s)

    plainly : (o : Option (List Act)) → IfSome o AllPlain → Good o
    plainly None is = tt
    plainly (Some list) is = plain_fit s list is

    by_operation : (id : SnapId) (o : Option Asked) → Good (turn_operation s id o)
    by_operation id None = tt
    by_operation id (Some a) = (tt, finish_fit (act s TakeOperation) id (change_asked (state_after s.entries) a.client id a.request))

    by_deferred : (list : List Asked) → Good (turn_deferred s list)
    by_deferred [] = plainly _ (plain_turn s (least (unsent_purges s)))
    by_deferred (a ∷ more) = (tt, treat_fit (act s TakeDeferred) true a)

    by_outstanding : (o : Option (SnapId × ℕ)) → Good (turn_at s o)
    by_outstanding None = by_deferred s.deferred
    by_outstanding (Some o) = by_durable (nat_le o.1 s.durable)
      where
        by_durable : (b : Bool) → Good (cond b (turn_operation s o.0 s.operation) (turn_purge s (least (unsent_purges s))))
        by_durable true = by_operation o.0 s.operation
        by_durable false = plainly _ (plain_turn s (least (unsent_purges s)))

    by_test : (b : Bool) → Good (cond b (turn_at s (outstanding s.entries)) None)
    by_test true = by_outstanding (outstanding s.entries)
    by_test false = tt

pub own_fit : AlwaysFit OwnFits
own_fit = record {
  held = λ s x. tt;
  treats = λ s a. treat_fit s false a;
  comes = λ s x said flushes. plain_fit s (come_back s x said flushes) (plain_back s x said flushes);
  flushes = λ s x f. plain_fit s (flush_acts_of x s f) (plain_flush x s f);
  drops = λ s x ino. plain_fit s (on_drop x s ino) (plain_drop x s ino);
  reports = λ s m. plain_fit s (reported s m) (plain_reported s m);
  restarts = λ s. plain_fit s (restarts s) (plain_restarts s);
  turns = turn_fit;
}

-- no entry is an effect of this number's
abbrev pub NoneOf : ℕ → List Entry → Type 0
NoneOf n [] = Unit {0}
NoneOf n (e ∷ entries) = (is_of n e ≡ false) × NoneOf n entries

none_end : (n : ℕ) (entries : List Entry) (e : Entry) → is_of n e ≡ false → NoneOf n entries → NoneOf n (entries ++ e ∷ [])
none_end n [] e is none = (is, tt)
none_end n (x ∷ entries) e is none = (none.0, none_end n entries e is none.1)

none_front : (n : ℕ) (entries more : List Entry) → NoneOf n (entries ++ more) → NoneOf n entries
none_front n [] more none = tt
none_front n (x ∷ entries) more none = (none.0, none_front n entries more none.1)

pub none_at : (n : ℕ) (before later : List Entry) (e : Entry) → NoneOf n (before ++ e ∷ later) → is_of n e ≡ false
none_at n [] later e none = none.0
none_at n (x ∷ before) later e none = none_at n before later e none.1

-- nothing is asked or made by a number
pub record UnaskedAt (n : ℕ) (entries : List Entry) (hand : Option Asked) (held deferred : List Asked) (operation : Option Asked) : Type 0 where
  pub none : NoneOf n entries
  pub in_hand : AllOf n None (as_list hand)
  pub in_held : AllOf n None held
  pub in_deferred : AllOf n None deferred
  pub in_operation : AllOf n None (as_list operation)

abbrev pub Unasked : ℕ → Server → Type 0
Unasked n s = UnaskedAt n s.entries s.hand s.held s.deferred s.operation

done_with : (n : ℕ) (s : Server) → Unasked n s → Unasked n (record s { hand = None })
done_with n s u = record { none = u.none; in_hand = tt; in_held = u.in_held; in_deferred = u.in_deferred; in_operation = u.in_operation }

tell_unasked : (n : ℕ) (s : Server) (x : ℕ) (told : Told) → Unasked n s → Unasked n (tell s x told)
tell_unasked n s x told u = by_number (number_of s.current x)
  where
    by_number : (o : Option ℕ) → Unasked n (tell_at s x told o)
    by_number None = u
    by_number (Some conn) = u

buffers : (n : ℕ) (s : Server) (e : Entry) → is_of n e ≡ false → Unasked n s → Unasked n (buffer s e)
buffers n s e is u = notices_keep (Unasked n) (λ t x inos so. tell_unasked n t x (Changed inos) so) s.entries (up_to s.clients) (record s { entries = s.entries ++ e ∷ [] })
    (record { none = none_end n s.entries e is u.none; in_hand = u.in_hand; in_held = u.in_held; in_deferred = u.in_deferred; in_operation = u.in_operation })

no_effect : (n : ℕ) (e : Entry) → change_in e.what ≡ None → is_of n e ≡ false
no_effect n e none = rw none refl

of_other : (n : ℕ) (e : Entry) → (e.client == n) ≡ false → is_of n e ≡ false
of_other n e other = by_test (is_some (change_in e.what)) (e.client == n) other
  where
    by_test : (a b : Bool) → b ≡ false → (a && b) ≡ false
    by_test true b is = is
    by_test false b is = refl

not_its : (n : ℕ) (a : Asked) → AllOf n None (a ∷ []) → (a.client == n) ≡ false
not_its n a all = by_test (a.client == n) all.0
  where
    by_test : (b : Bool) → (b ≡ true → ⊥) → b ≡ false
    by_test true never = absurd (never refl)
    by_test false never = refl

one : (n : ℕ) (s : Server) (a : Act) → OwnFits s a → Unasked n s → Unasked n (act s a)
one n s (TellRecall x ino) fit u = tell_unasked n s x (WantedBack ino) u
one n s (TellAck x number) fit u = tell_unasked n s x (Acked number) u
one n s (AnswerIt said) fit u = by_hand s.hand
  where
    by_hand : (o : Option Asked) → Unasked n (answer_hand s said o)
    by_hand None = u
    by_hand (Some a) = tell_unasked n (record s { hand = None }) a.client (Answered a.tid said) (done_with n s u)
one n s (GrantIt ino mode) fit u = by_hand s.hand
  where
    by_hand : (o : Option Asked) → Unasked n (grant_hand s ino mode o)
    by_hand None = u
    by_hand (Some a) = tell_unasked n (record s { hand = None }) a.client (Granted a.tid ino mode) (done_with n s u)
one n s (MakeEffect made) fit u = by_hand s.hand u.in_hand
  where
    by_said : (a : Asked) (o : Option What) → (a.client == n) ≡ false → Unasked n (buffer_for s a o)
    by_said a None other = u
    by_said a (Some said) other = buffers n s (entry_for a said) (of_other n (entry_for a said) other) u

    by_hand : (o : Option Asked) → AllOf n None (as_list o) → Unasked n (effect_hand s made o)
    by_hand None all = u
    by_hand (Some a) all = by_said a (written_down made) (not_its n a all)
one n s (Prepare said) fit u = by_hand s.hand u.in_hand
  where
    by_hand : (o : Option Asked) → AllOf n None (as_list o) → Unasked n (prepare_hand s said o)
    by_hand None all = u
    by_hand (Some a) all = buffers n (record s { operation = Some a; hand = None }) (entry_for a said) (of_other n (entry_for a said) (not_its n a all))
        (record { none = u.none; in_hand = tt; in_held = u.in_held; in_deferred = u.in_deferred; in_operation = all })
one n s (Buffer e) fit u = buffers n s e (no_effect n e fit.0) u
one n s Wait fit u = record { none = u.none; in_hand = tt; in_held = all_append n None s.held (as_list s.hand) u.in_held u.in_hand; in_deferred = u.in_deferred; in_operation = u.in_operation }
one n s Defer fit u = record { none = u.none; in_hand = tt; in_held = u.in_held; in_deferred = all_append n None s.deferred (as_list s.hand) u.in_deferred u.in_hand; in_operation = u.in_operation }
one n s DeferFirst fit u = record { none = u.none; in_hand = tt; in_held = u.in_held; in_deferred = all_append n None (as_list s.hand) s.deferred u.in_hand u.in_deferred; in_operation = u.in_operation }
one n s (TakeHeld x) fit u = record {
  none = u.none;
  in_hand = all_first n None (filter (of_client x) s.held) (all_filter n None (of_client x) s.held u.in_held);
  in_held = all_filter n None (λ a. not (of_client x a)) s.held u.in_held;
  in_deferred = u.in_deferred;
  in_operation = u.in_operation;
}
one n s TakeDeferred fit u = record { none = u.none; in_hand = all_first n None s.deferred u.in_deferred; in_held = u.in_held; in_deferred = all_drop n None s.deferred u.in_deferred; in_operation = u.in_operation }
one n s TakeOperation fit u = record { none = u.none; in_hand = u.in_operation; in_held = u.in_held; in_deferred = u.in_deferred; in_operation = tt }
one n s a fit u = u

-- the rows
abbrev AfterIt : ℕ → Row Server → Type 0
AfterIt n r = Unasked n r.state

hands : (n : ℕ) (s : Server) → Unasked n s → AfterIt n (hand_out s)
hands n s u = record { none = u.none; in_hand = tt; in_held = u.in_held; in_deferred = u.in_deferred; in_operation = u.in_operation }

by_acts : (n : ℕ) → KeptByActs OwnFits (Unasked n) (AfterIt n)
by_acts n = record { one = one n; hands = hands n; anew = λ s u. anew_fit own_fit s s.held }

in_hand_of : (n : ℕ) (s : Server) (a : Asked) → (a.client == n) ≡ false → Unasked n s → Unasked n (take_in s a)
in_hand_of n s a other u = by_test (is_operation s a)
  where
    by_test : (b : Bool) → UnaskedAt n s.entries (cond b None (Some a)) s.held s.deferred s.operation
    by_test true = record { none = u.none; in_hand = tt; in_held = u.in_held; in_deferred = u.in_deferred; in_operation = u.in_operation }
    by_test false = record { none = u.none; in_hand = (λ is. absurd (true≢false (sym is ∙ other)), tt); in_held = u.in_held; in_deferred = u.in_deferred; in_operation = u.in_operation }

takes_unasked : (n : ℕ) (s : Server) (x : ℕ) (m : ToServer) → (x == n) ≡ false → Unasked n s → AfterIt n (on_take s x m)
takes_unasked n s x m other u = by_message m
  where
    k : KeptByActs OwnFits (Unasked n) (AfterIt n)
    k = by_acts n

    joins : (t : Server) (conn : ℕ) → Unasked n t → Unasked n (welcome (connected t x conn) x conn)
    joins t conn v = record {
      none = v.none;
      in_hand = v.in_hand;
      in_held = all_filter n None (λ a. not (of_client x a)) t.held v.in_held;
      in_deferred = all_filter n None (λ a. not (of_client x a)) t.deferred v.in_deferred;
      in_operation = v.in_operation;
    }

    in_hand : (t : Server) (asked : Option (ℕ × Request)) → Unasked n t → Unasked n (take_in_brought t (brought x asked))
    in_hand t None v = v
    in_hand t (Some r) v = in_hand_of n t (asked_by x r.0 r.1) other v

    came : (conn : ℕ) (said : List Claim) (flushes : List FlushMsg) (asked : Option (ℕ × Request)) → Unasked n (back s x conn said flushes (brought x asked))
    came conn said flushes asked = in_hand (welcome (connected (acts s (come_back s x said flushes)) x conn) x conn) asked (joins (acts s (come_back s x said flushes)) conn (acts_keep k.one (come_back s x said flushes) s (own_fit.comes s x said flushes) u))

    brought_fit : (t : Server) (o : Option Asked) → Fit OwnFits t (treat_brought t o)
    brought_fit t None = tt
    brought_fit t (Some a) = own_fit.treats t a

    by_message : (m : ToServer) → AfterIt n (on_take s x m)
    by_message (Connect conn said flushes asked) = take_connect k s x conn said flushes asked u (λ above.
        (came conn said flushes asked, brought_fit (back s x conn said flushes (brought x asked)) (brought x asked)))
    by_message (Ask conn tid asked) = take_ask k s x conn tid asked u (λ is. (in_hand_of n s (asked_by x tid asked) other u, own_fit.treats (take_in s (asked_by x tid asked)) (asked_by x tid asked)))
    by_message (Flush conn f) = take_flush k s x conn f u (own_fit.flushes s x f)
    by_message (DropRead conn ino) = take_drop k s x conn ino u (own_fit.drops s x ino)
    by_message (Purged id) = take_purged k s x id u
    by_message (Deleted ino) = take_deleted k s x ino u

survives : (n : ℕ) (s : Server) (k : ℕ) → Unasked n s → Unasked n (left_with s (s.durable + k))
survives n s k u = record {
  none = none_front n (take (s.durable + k) s.entries) (drop (s.durable + k) s.entries) (subst (NoneOf n) (sym (take-append-drop (s.durable + k) s.entries)) u.none);
  in_hand = tt;
  in_held = tt;
  in_deferred = tt;
  in_operation = tt;
}

-- the world: who is no client has sent nothing, and nothing is of its number
abbrev pub Strange : ℕ → World → Type 0
Strange n w = client w.clients n ≡ None → (mine n w.up ≡ []) × Unasked n w.server

pub put_back : (clients : List (ℕ × Client)) (n x : ℕ) (new : Client) → client (put clients x new) n ≡ None → client clients n ≡ None
put_back [] n x new none = refl
put_back (c ∷ clients) n x new none = by_test (c.0 == n) none (put_back clients n x new)
  where
    by_test : (b : Bool) → cond b (Some (cond (c.0 == x) new c.1)) (client (put clients x new) n) ≡ None → (client (put clients x new) n ≡ None → client clients n ≡ None) → cond b (Some c.1) (client clients n) ≡ None
    by_test true none go = absurd (is_none none)
      where
        is_none : Some (cond (c.0 == x) new c.1) ≡ None → ⊥
        is_none is = cc
    by_test false none go = go none

pub strange_step : (n : ℕ) (w : World) (step : Step) → Strange n w → Strange n (after_row w (row w step))
strange_step n w step strange = by_step step
  where
    Good : Option Made → Type 0
    Good o = Strange n (after_row w o)

    by_client : (x : ℕ) (go_on : Client → Option Made) → ((c : Client) → client w.clients x ≡ Some c → Good (go_on c)) → Good (with_client w x go_on)
    by_client x go_on keeps = found (client w.clients x) refl
      where
        found : (o : Option Client) → client w.clients x ≡ o → Good (elim o [ None ↦ None | Some c ↦ go_on c ])
        found None is = strange
        found (Some c) is = keeps c is

    by_message : {M : Type 0} (x : ℕ) (channels : List (ℕ × M)) (go_on : List (ℕ × M) → M → Option Made) → ((m : M) (rest : List (ℕ × M)) → IsHead x channels (m, rest) → Good (go_on rest m)) → Good (with_message x channels go_on)
    by_message {M} x channels go_on keeps = found (pop x channels) (popped x channels)
      where
        found : (o : Option (M × List (ℕ × M))) → IfSome o (IsHead x channels) → Good (elim o [ None ↦ None | Some f ↦ go_on f.1 f.0 ])
        found None head = strange
        found (Some f) head = keeps f.0 f.1 head

    by_first : {M : Type 0} (channel : List M) (go_on : List M → M → Option Made) → ((m : M) (rest : List M) → Good (go_on rest m)) → Good (with_first channel go_on)
    by_first [] go_on keeps = strange
    by_first (m ∷ rest) go_on keeps = keeps m rest

    -- a client's row sends as the client, which isn't this number
    own : (x : ℕ) (c : Client) (r : Row Client) → client w.clients x ≡ Some c → client (put w.clients x r.state) n ≡ None → (mine n (w.up ++ tagged x (for_server r.sent)) ≡ []) × Unasked n w.server
    own x c r is none = (mine_append n w.up (tagged x (for_server r.sent)) ∙ (ap (λ (l : List ToServer). l ++ mine n (tagged x (for_server r.sent))) before.0 ∙ mine_other n x (for_server r.sent) other), before.1)
      where
        was : client w.clients n ≡ None
        was = put_back w.clients n x r.state none

        before : (mine n w.up ≡ []) × Unasked n w.server
        before = strange was

        apart : x ≡ n → ⊥
        apart same = let e : client w.clients n ≡ Some c = subst (λ (y : ℕ). client w.clients y ≡ Some c) same is in both was e
          where
            both : client w.clients n ≡ None → client w.clients n ≡ Some c → ⊥
            both absent e = cc

        other : (x == n) ≡ false
        other = grind (arith, nat_tests, apart)

    client_row : (x : ℕ) (c : Client) (o : Option (Row Client)) → client w.clients x ≡ Some c → Good (some_row (at_client x w None) o)
    client_row x c None is = strange
    client_row x c (Some r) is = own x c r is

    server_row : (o : Option (Row Server)) → (Unasked n w.server → IfSome o (AfterIt n)) → Good (some_row (at_server w None) o)
    server_row None keeps = strange
    server_row (Some r) keeps = λ none. ((strange none).0, keeps (strange none).1)

    took_one : (x : ℕ) (m : ToServer) (rest : List (ℕ × ToServer)) → IsHead x w.up (m, rest) → client w.clients n ≡ None → (mine n rest ≡ []) × Unasked n (on_take w.server x m).state
    took_one x m rest head none = (head.1 n other ∙ (strange none).0, takes_unasked n w.server x m other (strange none).1)
      where
        apart : x ≡ n → ⊥
        apart same = let e : mine n w.up ≡ m ∷ mine n rest = subst (λ (y : ℕ). mine y w.up ≡ m ∷ mine y rest) same head.0 in clash (sym (strange none).0 ∙ e)
          where
            clash : [] ≡ m ∷ mine n rest → ⊥
            clash e = cc

        other : (x == n) ≡ false
        other = grind (arith, nat_tests, apart)

    took : (x : ℕ) (b : Bool) → Good (cond b (with_first w.reported (server_takes_report w)) (with_message x w.up (server_takes x w)))
    took x true = by_first w.reported (server_takes_report w) (λ m rest none. ((strange none).0, row_keeps (by_acts n) w.server (reported w.server m) (own_fit.reports w.server m) (strange none).1))
    took x false = by_message x w.up (server_takes x w) (took_one x)

    stored : (x : ℕ) (b : Bool) → Good (cond b (with_first w.ordered (store_takes_order w)) (with_message x w.asked (store_takes x w)))
    stored x true = by_first w.ordered (store_takes_order w) (λ m rest. strange)
    stored x false = by_message x w.asked (store_takes x w) (λ m rest head. strange)

    by_step : (step : Step) → Good (row w step)
    by_step (Op x) = by_client x _ (λ c is. client_row x c (on_op c) is)
    by_step (FlushStep x) = by_client x _ (λ c is. client_row x c (on_flush c) is)
    by_step (ClientFromServer x) = by_message x w.down (client_takes x w) (λ m rest head. by_client x _ (λ c is. own x c (on_told c m) is))
    by_step (ClientFromStore x) = by_message x w.stored (client_takes_stored x w) (λ m rest head. by_client x _ (λ c is. own x c (on_stored c m) is))
    by_step (ServerTakes x) = took x (x == store_node w)
    by_step Commit = server_row (on_commit w.server) (λ u. commit_keeps (λ r e after. after) (hands n) w.server u)
    by_step (Restart k) = server_row (on_restart w.server k) (λ u. restart_keeps (λ r e after. after) (by_acts n) w.server k (λ fits. (survives n w.server k u, own_fit.restarts (left_with w.server (w.server.durable + k)))))
    by_step Tend = server_row (on_tend w.server) (λ u. turn_keeps (by_acts n) w.server (own_fit.turns w.server) u)
    by_step (StoreTakes x) = stored x (x == 0)

strange_run : (n : ℕ) (w : World) (steps : List Step) → Strange n w → Strange n (after w steps)
strange_run n w [] strange = strange
strange_run n w (step ∷ steps) strange = strange_run n (after_row w (row w step)) steps (strange_step n w step strange)

pub strangers : (script : Script) (steps : List Step) (n : ℕ) → Strange n (after (start script) steps)
strangers script steps n = strange_run n (start script) steps (λ none. (refl, record { none = tt; in_hand = tt; in_held = tt; in_deferred = tt; in_operation = tt }))

-- so each effect is a client's
itself : (n : ℕ) → (n == n) ≡ true
itself n = grind (arith, nat_tests)

pub effect_law : (script : Script) (steps : List Step) (before later : List Entry) (e : Entry) → (after (start script) steps).server.entries ≡ before ++ e ∷ later → is_some (change_in e.what) ≡ true → is_some (client (after (start script) steps).clients e.client) ≡ true
effect_law script steps before later e entries is = by_client (client (after (start script) steps).clients e.client) refl
  where
    its : (b : Bool) → b ≡ true → (b && (e.client == e.client)) ≡ true
    its true is = itself e.client
    its false is = absurd (true≢false (sym is))

    by_client : (o : Option Client) → client (after (start script) steps).clients e.client ≡ o → is_some o ≡ true
    by_client (Some c) at = refl
    by_client None at = absurd (true≢false (sym (its (is_some (change_in e.what)) is) ∙ none_at e.client before later e (subst (NoneOf e.client) entries (strangers script steps e.client at).1.none)))

-- What the server holds where all clients are connected: requests for files that others hold, and those at a barrier.
use Rattle.std.proofs.Common.{◌≡◌, ◌<◌, ℕ, ◌+◌, List, [], ◌∷◌, ◌++◌, map, filter, Bool, true, false, true≢false, not, cond, Option, None, Some, refl, sym, ap, ◌∙◌, subst, IfSome, arith, ◌⊎◌, inl, inr}
use Rattle.std.proofs.lemmas.Bool.Decides.{nat_tests}
use Rattle.std.proofs.lemmas.List.Sums.{fold-append}
use Rattle.std.specs.Prelude.{◌==◌, ◌&&◌, ◌||◌, nat_le, flat_map, find, length, option_map, Result, Ok, Err}
use Rattle.std.specs.List.{list_any, list_all}
use Rattle.snap_ids.specs.declared.id.Ino.{Ino}
use Rattle.snap_ids.specs.declared.id.SnapId.{SnapId}
use Rattle.snap_ids.specs.declared.values.Kind.{Kind}
use Rattle.snap_ids.specs.declared.values.Kind.TheVariants.{Dir, File}
use Rattle.snap_ids.specs.declared.values.Mode.{Mode}
use Rattle.snap_ids.specs.declared.values.Mode.TheVariants.{Read}
use Rattle.snap_ids.specs.Context.{is_listed}
use Rattle.plain_types.specs.declared.answer.Answer.{Answer}
use Rattle.plain_types.specs.declared.answer.Answer.TheVariants.{Done}
use Rattle.plain_types.specs.declared.answer.Refusal.{Refusal}
use Rattle.plain_types.specs.declared.change.Change.{Change}
use Rattle.plain_types.specs.declared.change.Change.TheVariants as change
use Rattle.plain_types.specs.declared.entry.Entry.{Entry}
use Rattle.plain_types.specs.declared.entry.What.{What}
use Rattle.plain_types.specs.declared.entry.What.TheVariants.{PrepareCreate, PrepareDestroy, Settle, Release}
use Rattle.plain_types.specs.declared.history.Event.{Event}
use Rattle.plain_types.specs.declared.message.Claim.{Claim}
use Rattle.plain_types.specs.declared.message.FlushMsg.{FlushMsg}
use Rattle.plain_types.specs.declared.message.ToClient.{ToClient}
use Rattle.plain_types.specs.declared.message.ToServer.{ToServer}
use Rattle.plain_types.specs.declared.message.ToServer.TheVariants.{Connect, Ask, Flush, DropRead, Purged, Deleted}
use Rattle.plain_types.specs.declared.request.Query.TheVariants as query
use Rattle.plain_types.specs.declared.request.Request.{Request}
use Rattle.plain_types.specs.declared.request.Request.TheVariants as request
use Rattle.plain_types.specs.declared.script.Script.{Script}
use Rattle.plain_tree.specs.Query.{Found, InLive, SnapsOf, InTree}
use Rattle.plain_tree.specs.Request.{change_asked}
use Rattle.plain_tree.specs.State.{kind_in, same_ino}
use Rattle.plain_journal.specs.Answers.{found, answer_to}
use Rattle.plain_journal.specs.Entries.{state_after, tree_at}
use Rattle.plain_journal.specs.Table.{outstanding, last_flush, to_purge, dead, barrier, barrier_by}
use Rattle.held_files.specs.Files.{is_empty, is_write}
use Rattle.step_table.specs.Messages.{to_server_fits}
use Rattle.step_table.specs.Row.{Row}
use Rattle.step_table.specs.ServerState.{Asked, Holder, Server, Told, Answered, Granted, WantedBack, Changed, Acked, tell, tell_at, number_of, up_to, all_connected, is_holder, is_writer}
use Rattle.step_table.specs.Acts.{Act, TellRecall, TellAck, TellRestart, AnswerIt, GrantIt, MakeEffect, Prepare, Wait, Defer, DeferFirst, TakeHeld, TakeDeferred, TakeOperation, Buffer, Hold, MarkRecalled, Settled, LetGo, LetAllGo, SendDelete, act, acts, each, of_client, first_of, as_list, answer_hand, grant_hand, effect_hand, buffer_for, written_down, prepare_hand, entry_for, buffer}
use Rattle.step_table.specs.Capabilities.{in_conflict, against, is_recalled, recall, recalls, give_to, give, ask_cap, found_live, ask_found, clash, owing}
use Rattle.step_table.specs.Requests.{treat, treat_known, treat_new, kept_answer, is_operation, decided, make, prepare, is_busy, next_id, by_kind, settled_answer, look_at, decide_anew}
use Rattle.step_table.specs.Flushes.{flush_entry, flush_settles, take_flush, on_flush as flush_rule, on_drop, claimed, take_claim, take_brought, come_back, asked_by, brought, take_in, may_connect, treat_brought}
use Rattle.step_table.specs.Background.{roll_back, finish, finish_with, least, unsent_purges, turn_deferred, turn_at, turn, holders_of, is_due, first_file, first_barrier, waits_at, is_finished, open_to, turn_barrier, turn_dead, turn_purge, turn_operation}
use Rattle.step_table.specs.ServerRows.{row_of, on_take, on_tend, left_with, restarts, reported, roll_back_from, back, connect_with, drops}
use Rattle.step_table.specs.ClientState.{Client, new_client, open_request}
use Rattle.step_table.specs.ClientLines.{on_op, on_flush}
use Rattle.step_table.specs.World.{start, lines_of}
use Rattle.run_laws.specs.Links.{View, EachClient}
use Rattle.run_laws.specs.Moments.{steps_of, world_after}
use Rattle.run_laws.specs.Requests.{IsIt, AllOf}
use Rattle.run_laws.specs.Tenures.{MayWait, AllMayWait, HeldMayWait}
use Rattle.run_laws.proofs.Acts.{Fit, fit_append, KeptByActs, acts_keep, notices_keep, row_keeps, take_ask, take_connect, take_flush as flush_taken, take_drop, take_purged, take_deleted, commit_keeps, restart_keeps}
use Rattle.run_laws.proofs.Holders.{or_false}
use Rattle.run_laws.proofs.Knowing.{row_if}
use Rattle.run_laws.proofs.Linked.{at_start, each_part, first_link}
use Rattle.run_laws.proofs.Numbering.{acts_append}
use Rattle.run_laws.proofs.Once.{HandOf, first_client}
use Rattle.run_laws.proofs.Pairs.{Placed, placed_gives, placed_in, served_rows}
use Rattle.run_laws.proofs.Requested.{Asking, asking, first_requested}
use Rattle.run_laws.proofs.Taking.{KeptBefore, joined, alone, after_held}
use Rattle.run_laws.proofs.ViewActs.{any_of, all_fit, rows_of_acts}
use Rattle.run_laws.proofs.Views.{Client's, Server's, run_keeps}

-- what is held of a client may wait, or else this is so
abbrev AllOr : Type 0 → ℕ → List Entry → List Asked → Type 0
AllOr X n entries [] = Unit {0}
AllOr X n entries (a ∷ list) = (of_client n a ≡ true → MayWait entries a.request ⊎ X) × AllOr X n entries list

abbrev HeldOr : Type 0 → ℕ → Server → Type 0
HeldOr X n s = all_connected s ≡ true → AllOr X n s.entries s.held

-- an entry that opens no barrier
abbrev Shuts : What → Type 0
Shuts what = (k : ℕ) → barrier_by k what ≡ k

shut : (entries : List Entry) (e : Entry) → Shuts e.what → barrier (entries ++ e ∷ []) ≡ barrier entries
shut entries e is = fold-append (λ before (entry : Entry). barrier_by before entry.what) 0 entries (e ∷ []) ∙ is (barrier entries)

wait_more : (entries : List Entry) (e : Entry) (asked : Request) → Shuts e.what → MayWait entries asked → MayWait (entries ++ e ∷ []) asked
wait_more entries e (request.Cap ino mode) is may = tt
wait_more entries e (request.Cat path) is may = tt
wait_more entries e (request.Stat path) is may = tt
wait_more entries e (request.Barrier number) is may = subst (λ (k : ℕ). k < number) (sym (shut entries e is)) may
wait_more entries e asked is may = absurd may

-- lists
or_more : (X : Type 0) (n : ℕ) (entries : List Entry) (e : Entry) (list : List Asked) → Shuts e.what → AllOr X n entries list → AllOr X n (entries ++ e ∷ []) list
or_more X n entries e [] is all = tt
or_more X n entries e (a ∷ list) is all = (λ at. either (all.0 at), or_more X n entries e list is all.1)
  where
    either : MayWait entries a.request ⊎ X → MayWait (entries ++ e ∷ []) a.request ⊎ X
    either (inl may) = inl (wait_more entries e a.request is may)
    either (inr x) = inr x

or_append : (X : Type 0) (n : ℕ) (entries : List Entry) (xs ys : List Asked) → AllOr X n entries xs → AllOr X n entries ys → AllOr X n entries (xs ++ ys)
or_append X n entries [] ys all more = more
or_append X n entries (a ∷ xs) ys all more = (all.0, or_append X n entries xs ys all.1 more)

or_filter : (X : Type 0) (n : ℕ) (entries : List Entry) (p : Asked → Bool) (xs : List Asked) → AllOr X n entries xs → AllOr X n entries (filter p xs)
or_filter X n entries p [] all = tt
or_filter X n entries p (a ∷ xs) all = by_test (p a) (or_filter X n entries p xs all.1)
  where
    by_test : (b : Bool) → AllOr X n entries (filter p xs) → AllOr X n entries (cond b (a ∷ filter p xs) (filter p xs))
    by_test true rest = (all.0, rest)
    by_test false rest = rest

-- none of them is of the client
or_none_of : (X : Type 0) (n : ℕ) (entries : List Entry) (xs : List Asked) → list_any (of_client n) xs ≡ false → AllOr X n entries xs
or_none_of X n entries [] none = tt
or_none_of X n entries (a ∷ xs) none = let parts = or_false (of_client n a) (list_any (of_client n) xs) none in ((λ at. absurd (true≢false (sym at ∙ parts.0))), or_none_of X n entries xs parts.1)

pub none_left : (n : ℕ) (xs : List Asked) → list_any (of_client n) (filter (λ a. not (of_client n a)) xs) ≡ false
none_left n [] = refl
none_left n (a ∷ xs) = by_test (of_client n a) refl (none_left n xs)
  where
    by_test : (b : Bool) → of_client n a ≡ b → list_any (of_client n) (filter (λ a. not (of_client n a)) xs) ≡ false → list_any (of_client n) (cond (not b) (a ∷ filter (λ a. not (of_client n a)) xs) (filter (λ a. not (of_client n a)) xs)) ≡ false
    by_test true is rest = rest
    by_test false is rest = rw is rest

none_filter : (n : ℕ) (p : Asked → Bool) (xs : List Asked) → list_any (of_client n) xs ≡ false → list_any (of_client n) (filter p xs) ≡ false
none_filter n p [] none = refl
none_filter n p (a ∷ xs) none = let parts = or_false (of_client n a) (list_any (of_client n) xs) none in by_test (p a) parts.0 (none_filter n p xs parts.1)
  where
    by_test : (b : Bool) → of_client n a ≡ false → list_any (of_client n) (filter p xs) ≡ false → list_any (of_client n) (cond b (a ∷ filter p xs) (filter p xs)) ≡ false
    by_test true is rest = rw is rest
    by_test false is rest = rest

-- An act fits that opens no barrier; and a request waits that may.
abbrev WaitFit : ℕ → Server → Act → Type 0
WaitFit n s Wait = all_connected s ≡ true → (b : Asked) → s.hand ≡ Some b → of_client n b ≡ true → MayWait s.entries b.request
WaitFit n s (Buffer e) = Shuts e.what
WaitFit n s (Prepare said) = Shuts said
WaitFit n s a = Unit {0}

tell_or : (X : Type 0) (n : ℕ) (s : Server) (x : ℕ) (told : Told) → HeldOr X n s → HeldOr X n (tell s x told)
tell_or X n s x told h = by_number (number_of s.current x)
  where
    by_number : (o : Option ℕ) → HeldOr X n (tell_at s x told o)
    by_number None = h
    by_number (Some conn) = h

buffer_or : (X : Type 0) (n : ℕ) (s : Server) (e : Entry) → Shuts e.what → HeldOr X n s → HeldOr X n (buffer s e)
buffer_or X n s e is h = notices_keep (HeldOr X n) (λ t x inos so. tell_or X n t x (Changed inos) so) s.entries (up_to s.clients) (record s { entries = s.entries ++ e ∷ [] }) (λ connected_all. or_more X n s.entries e s.held is (h connected_all))

written_shuts : (made : Change) → IfSome (written_down made) Shuts
written_shuts (change.Mkdir dir name ino) = λ k. refl
written_shuts (change.Create dir name ino mode) = λ k. refl
written_shuts (change.Link ino dir name) = λ k. refl
written_shuts (change.Unlink dir name) = λ k. refl
written_shuts (change.Rmdir dir name) = λ k. refl
written_shuts (change.Rename dir name to_dir to_name) = λ k. refl
written_shuts (change.Chmod ino mode) = λ k. refl
written_shuts (change.OpenFile handle ino writable) = λ k. refl
written_shuts (change.CloseFile handle) = λ k. refl
written_shuts (change.Mksnap id dir name) = λ k. refl
written_shuts (change.Rmsnap id) = λ k. refl
written_shuts (change.WriteFile handle offset bytes) = tt
written_shuts (change.Truncate handle size) = tt

one : (X : Type 0) (n : ℕ) (s : Server) (a : Act) → WaitFit n s a → HeldOr X n s → HeldOr X n (act s a)
one X n s (TellRecall x ino) fit h = tell_or X n s x (WantedBack ino) h
one X n s (TellAck x number) fit h = tell_or X n s x (Acked number) h
one X n s (AnswerIt said) fit h = by_hand s.hand
  where
    by_hand : (o : Option Asked) → HeldOr X n (answer_hand s said o)
    by_hand None = h
    by_hand (Some a) = tell_or X n (record s { hand = None }) a.client (Answered a.tid said) h
one X n s (GrantIt ino mode) fit h = by_hand s.hand
  where
    by_hand : (o : Option Asked) → HeldOr X n (grant_hand s ino mode o)
    by_hand None = h
    by_hand (Some a) = tell_or X n (record s { hand = None }) a.client (Granted a.tid ino mode) h
one X n s (MakeEffect made) fit h = by_hand s.hand
  where
    by_said : (a : Asked) (o : Option What) → IfSome o Shuts → HeldOr X n (buffer_for s a o)
    by_said a None is = h
    by_said a (Some said) is = buffer_or X n s (entry_for a said) is h

    by_hand : (o : Option Asked) → HeldOr X n (effect_hand s made o)
    by_hand None = h
    by_hand (Some a) = by_said a (written_down made) (written_shuts made)
one X n s (Prepare said) fit h = by_hand s.hand
  where
    by_hand : (o : Option Asked) → HeldOr X n (prepare_hand s said o)
    by_hand None = h
    by_hand (Some a) = buffer_or X n (record s { operation = Some a; hand = None }) (entry_for a said) fit h
one X n s (Buffer e) fit h = buffer_or X n s e fit h
one X n s Wait fit h = λ connected_all. or_append X n s.entries s.held (as_list s.hand) (h connected_all) (by_hand s.hand (fit connected_all))
  where
    by_hand : (o : Option Asked) → ((b : Asked) → o ≡ Some b → of_client n b ≡ true → MayWait s.entries b.request) → AllOr X n s.entries (as_list o)
    by_hand None may = tt
    by_hand (Some b) may = ((λ at. inl (may b refl at)), tt)
one X n s (TakeHeld x) fit h = λ connected_all. or_filter X n s.entries (λ a. not (of_client x a)) s.held (h connected_all)
one X n s a fit h = h

-- acts that neither wait nor open a barrier
abbrev IsFree : Act → Type 0
IsFree Wait = ⊥
IsFree (Buffer e) = Shuts e.what
IsFree (Prepare said) = Shuts said
IsFree a = Unit {0}

abbrev AllFree : List Act → Type 0
AllFree [] = Unit {0}
AllFree (a ∷ list) = IsFree a × AllFree list

free_fit : (n : ℕ) (list : List Act) (s : Server) → AllFree list → Fit (WaitFit n) s list
free_fit n [] s all = tt
free_fit n (a ∷ list) s all = (by_act a all.0, free_fit n list (act s a) all.1)
  where
    by_act : (a : Act) → IsFree a → WaitFit n s a
    by_act Wait is = absurd is
    by_act (Buffer e) is = is
    by_act (Prepare said) is = is
    by_act a is = tt

free_append : (xs ys : List Act) → AllFree xs → AllFree ys → AllFree (xs ++ ys)
free_append [] ys all more = more
free_append (a ∷ xs) ys all more = (all.0, free_append xs ys all.1 more)

free_if : (b : Bool) (xs ys : List Act) → AllFree xs → AllFree ys → AllFree (cond b xs ys)
free_if true xs ys here other = here
free_if false xs ys here other = other

free_flat : {Y : Type 0} (f : Y → List Act) → ((y : Y) → AllFree (f y)) → (ys : List Y) → AllFree (flat_map f ys)
free_flat f go [] = tt
free_flat f go (y ∷ ys) = free_append (f y) (flat_map f ys) (go y) (free_flat f go ys)

free_each : {Y : Type 0} (rule : Server → Y → List Act) → ((s : Server) (y : Y) → AllFree (rule s y)) → (s : Server) (ys : List Y) → AllFree (each rule s ys)
free_each rule go s [] = tt
free_each rule go s (y ∷ ys) = free_append (rule s y) (each rule (acts s (rule s y)) ys) (go s y) (free_each rule go (acts s (rule s y)) ys)

free_recalls : (s : Server) (ino : Ino) (clients : List ℕ) → AllFree (recalls s ino clients)
free_recalls s ino clients = free_flat (recall s ino) (λ x. free_if (is_recalled s ino x) [] (MarkRecalled x ino ∷ TellRecall x ino ∷ []) tt (tt, (tt, tt))) clients

free_give : (s : Server) (x : ℕ) (ino : Ino) (mode : Mode) → AllFree (give s x ino mode)
free_give s x ino mode = by_holder (find (is_holder x ino) s.holders)
  where
    by_holder : (o : Option Holder) → AllFree (give_to s x ino mode o)
    by_holder None = (tt, tt)
    by_holder (Some h) = free_if (is_write mode && not (is_write h.mode)) _ [] (tt, tt) tt

-- recalls leave what is in the hand
pub recalls_hand : (s : Server) (ino : Ino) (clients : List ℕ) (t : Server) → (acts t (recalls s ino clients)).hand ≡ t.hand
recalls_hand s ino [] t = refl
recalls_hand s ino (x ∷ clients) t = ap (λ (u : Server). u.hand) (acts_append (recall s ino x) (recalls s ino clients) t) ∙ recalls_hand s ino clients (acts t (recall s ino x)) ∙ by_test (is_recalled s ino x)
  where
    by_number : (o : Option ℕ) → (tell_at (act t (MarkRecalled x ino)) x (WantedBack ino) o).hand ≡ t.hand
    by_number None = refl
    by_number (Some conn) = refl

    by_test : (b : Bool) → (acts t (cond b [] (MarkRecalled x ino ∷ TellRecall x ino ∷ []))).hand ≡ t.hand
    by_test true = refl
    by_test false = by_number (number_of t.current x)

-- what is in the hand of the client is this request
abbrev pub SameHand : ℕ → Server → Request → Type 0
SameHand n s asked = (b : Asked) → s.hand ≡ Some b → of_client n b ≡ true → b.request ≡ asked

wait_cap : (n : ℕ) (s : Server) (x : ℕ) (ino : Ino) (mode : Mode) (granted : Act) (asked : Request) → IsFree granted → ((entries : List Entry) → MayWait entries asked) → SameHand n s asked → Fit (WaitFit n) s (ask_cap s x ino mode granted)
wait_cap n s x ino mode granted asked free may same = by_test (in_conflict s x ino mode)
  where
    list : List Act
    list = recalls s ino (against s x ino mode)

    by_test : (b : Bool) → Fit (WaitFit n) s (cond b (list ++ Wait ∷ []) (give s x ino mode ++ granted ∷ []))
    by_test true = fit_append (WaitFit n) s list (Wait ∷ []) (free_fit n list s (free_recalls s ino (against s x ino mode)))
        ((λ connected_all b is at. subst (MayWait (acts s list).entries) (sym (same b (sym (recalls_hand s ino (against s x ino mode) s) ∙ is) at)) (may (acts s list).entries)), tt)
    by_test false = free_fit n (give s x ino mode ++ granted ∷ []) s (free_append (give s x ino mode) (granted ∷ []) (free_give s x ino mode) (free, tt))

wait_kind : (n : ℕ) (s : Server) (k : Kind) (xs ys : List Act) → Fit (WaitFit n) s xs → Fit (WaitFit n) s ys → Fit (WaitFit n) s (by_kind k xs ys)
wait_kind n s Dir xs ys first other = first
wait_kind n s File xs ys first other = other

wait_look : (n : ℕ) (s : Server) (a : Asked) (said : Answer) (o : Result Found Refusal) (asked : Request) → ((entries : List Entry) → MayWait entries asked) → SameHand n s asked → Fit (WaitFit n) s (look_at s a said o)
wait_look n s a said (Ok (InLive ino)) asked may same = wait_kind n s (kind_in (state_after s.entries).inodes ino) (AnswerIt said ∷ []) (ask_found s a.client ino) (tt, tt) (by_test (list_any (is_writer a.client ino) s.holders))
  where
    by_test : (b : Bool) → Fit (WaitFit n) s (cond b (AnswerIt (found_live s ino true) ∷ []) (ask_cap s a.client ino Read (AnswerIt (found_live s ino false))))
    by_test true = (tt, tt)
    by_test false = wait_cap n s a.client ino Read (AnswerIt (found_live s ino false)) asked tt may same
wait_look n s a said (Ok (InTree id ino)) asked may same = wait_kind n s (kind_in (tree_at s.entries id).inodes ino) (AnswerIt said ∷ []) (AnswerIt (settled_answer said (owing s ino id)) ∷ []) (tt, tt) (tt, tt)
wait_look n s a said (Ok (SnapsOf dir)) asked may same = (tt, tt)
wait_look n s a said (Err refusal) asked may same = (tt, tt)

free_prepare : (s : Server) (alone : Bool) (said : What) → Shuts said → AllFree (prepare alone s said)
free_prepare s alone said is = free_if (is_busy alone s) (Defer ∷ []) (Prepare said ∷ []) (tt, tt) (is, tt)

free_make : (s : Server) (alone : Bool) (made : Change) → AllFree (make alone s made)
free_make s alone (change.Mksnap id dir name) = free_prepare s alone (PrepareCreate id) (λ k. refl)
free_make s alone (change.Rmsnap id) = free_prepare s alone (PrepareDestroy id) (λ k. refl)
free_make s alone made = (tt, (tt, tt))

free_decided : (s : Server) (alone : Bool) (o : Option (Result Change Refusal)) → AllFree (decided alone s o)
free_decided s alone None = tt
free_decided s alone (Some (Err refusal)) = (tt, tt)
free_decided s alone (Some (Ok made)) = free_make s alone made

not_passed : (number k : ℕ) → nat_le number k ≡ false → k < number
not_passed number k is = grind (arith, nat_tests, is)

wait_new : (n : ℕ) (s : Server) (alone : Bool) (a : Asked) (asked : Request) → SameHand n s asked → Fit (WaitFit n) s (treat_new alone s a asked)
wait_new n s alone a (request.Cap ino mode) same = wait_cap n s a.client ino mode (GrantIt ino mode) (request.Cap ino mode) tt (λ entries. tt) same
wait_new n s alone a (request.Cat path) same = wait_look n s a (answer_to s.entries (query.Cat path)) (found s.entries path) (request.Cat path) (λ entries. tt) same
wait_new n s alone a (request.Stat path) same = wait_look n s a (answer_to s.entries (query.Stat path)) (found s.entries path) (request.Stat path) (λ entries. tt) same
wait_new n s alone a (request.List path) same = (tt, tt)
wait_new n s alone a (request.Realm path) same = (tt, tt)
wait_new n s alone a (request.Clones path index) same = (tt, tt)
wait_new n s alone a (request.Barrier number) same = by_test (nat_le number (barrier s.entries)) refl
  where
    by_test : (b : Bool) → nat_le number (barrier s.entries) ≡ b → Fit (WaitFit n) s (cond b (AnswerIt Done ∷ []) (Wait ∷ []))
    by_test true is = (tt, tt)
    by_test false is = ((λ connected_all b at mine_b. subst (MayWait s.entries) (sym (same b at mine_b)) (not_passed number (barrier s.entries) is)), tt)
wait_new n s alone a asked same = free_fit n (decided alone s (change_asked (state_after s.entries) a.client (next_id s) asked)) s (free_decided s alone (change_asked (state_after s.entries) a.client (next_id s) asked))

wait_treat : (n : ℕ) (s : Server) (alone : Bool) (a : Asked) → SameHand n s a.request → Fit (WaitFit n) s (treat alone s a)
wait_treat n s alone a same = by_test (all_connected s) refl
  where
    by_operation : (b : Bool) → Fit (WaitFit n) s (cond b [] (treat_new alone s a a.request))
    by_operation true = tt
    by_operation false = wait_new n s alone a a.request same

    by_kept : (o : Option Answer) → Fit (WaitFit n) s (treat_known alone s a o)
    by_kept (Some said) = (tt, tt)
    by_kept None = by_operation (is_operation s a)

    by_test : (b : Bool) → all_connected s ≡ b → Fit (WaitFit n) s (cond b (treat_known alone s a (kept_answer s a)) (Wait ∷ []))
    by_test true is = by_kept (kept_answer s a)
    by_test false is = ((λ connected_all. absurd (true≢false (sym connected_all ∙ is))), tt)

-- flushes, and the server's own time
flush_shuts : (f : FlushMsg) → Shuts (flush_entry f)
flush_shuts f = by_test f.release
  where
    by_test : (b : Bool) → Shuts (cond b (Release f.ino f.follows f.size) (Settle f.ino f.follows f.upto f.size))
    by_test true = λ k. refl
    by_test false = λ k. refl

free_settles : (x : ℕ) (f : FlushMsg) → IsFree (flush_settles x f)
free_settles x f = by_test f.release
  where
    by_test : (b : Bool) → IsFree (cond b (LetGo x f.ino) (Settled x f.ino f.upto))
    by_test true = tt
    by_test false = tt

free_taken : (x : ℕ) (s : Server) (f : FlushMsg) → AllFree (take_flush x s f)
free_taken x s f = free_if (nat_le f.number (last_flush s.entries x)) [] _ tt (flush_shuts f, (free_settles x f, tt))

free_flush : (x : ℕ) (s : Server) (f : FlushMsg) → AllFree (flush_rule x s f)
free_flush x s f = free_append (take_flush x s f) (TellAck x f.number ∷ []) (free_taken x s f) (tt, tt)

free_drop : (x : ℕ) (s : Server) (ino : Ino) → AllFree (on_drop x s ino)
free_drop x s ino = free_if (list_any (λ h. is_holder x ino h && not (is_write h.mode)) s.holders) (LetGo x ino ∷ []) [] (tt, tt) tt

free_back : (s : Server) (x : ℕ) (said : List Claim) (flushes : List FlushMsg) → AllFree (come_back s x said flushes)
free_back s x said flushes = let t = acts s (LetAllGo x ∷ []) in (
  tt,
  free_append (each (take_claim x) t said) (each (take_brought x) (acts t (each (take_claim x) t said)) flushes)
      (free_each (take_claim x) (λ u k. free_if (list_any (clash (claimed x k)) u.holders) [] (Hold (claimed x k) ∷ []) tt (tt, tt)) t said)
      (free_each (take_brought x) (λ u f. free_append (take_flush x u f) (cond f.release [] (Settled x f.ino f.upto ∷ [])) (free_taken x u f) (free_if f.release [] (Settled x f.ino f.upto ∷ []) tt (tt, tt))) (acts t (each (take_claim x) t said)) flushes),
)

free_reported : (s : Server) (m : ToServer) → AllFree (reported s m)
free_reported s (Purged id) = free_if (is_listed id (to_purge s.entries)) _ [] ((λ k. refl), tt) tt
free_reported s (Deleted ino) = free_if (list_any (same_ino ino) (dead s.entries)) _ [] ((λ k. refl), tt) tt
free_reported s (Connect conn said flushes asked) = tt
free_reported s (Ask conn tid asked) = tt
free_reported s (Flush conn f) = tt
free_reported s (DropRead conn ino) = tt

free_restarts : (s : Server) → AllFree (restarts s)
free_restarts s = free_append (map TellRestart (up_to s.clients)) (roll_back_from (outstanding s.entries)) (told (up_to s.clients)) (rolled (outstanding s.entries))
  where
    told : (clients : List ℕ) → AllFree (map TellRestart clients)
    told [] = tt
    told (x ∷ clients) = (tt, told clients)

    rolled : (o : Option (SnapId × ℕ)) → AllFree (roll_back_from o)
    rolled None = tt
    rolled (Some o) = ((λ k. refl), tt)

free_finish : (id : SnapId) (o : Option (Result Change Refusal)) → AllFree (finish id o)
free_finish id None = tt
free_finish id (Some (Err refusal)) = ((λ k. refl), (tt, tt))
free_finish id (Some (Ok made)) = by_made made
  where
    by_made : (made : Change) → AllFree (finish_with id made)
    by_made (change.Rmsnap now) = free_if (now.0 == id.0) _ (roll_back id ∷ DeferFirst ∷ []) (tt, (tt, tt)) ((λ k. refl), (tt, tt))
    by_made made = (tt, (tt, tt))

-- where a barrier is opened, no request of a client is left
answer_held : (s : Server) (said : Answer) → (act s (AnswerIt said)).held ≡ s.held
answer_held s said = by_hand s.hand
  where
    by_number : (a : Asked) (o : Option ℕ) → (tell_at (record s { hand = None }) a.client (Answered a.tid said) o).held ≡ s.held
    by_number a None = refl
    by_number a (Some conn) = refl

    by_hand : (o : Option Asked) → (answer_hand s said o).held ≡ s.held
    by_hand None = refl
    by_hand (Some a) = by_number a (number_of s.current a.client)

none_stays : (n : ℕ) (clients : List ℕ) (s : Server) → list_any (of_client n) s.held ≡ false → list_any (of_client n) (acts s (flat_map open_to clients)).held ≡ false
none_stays n [] s none = none
none_stays n (x ∷ clients) s none = none_stays n clients (acts s (open_to x)) (subst (λ (l : List Asked). list_any (of_client n) l ≡ false) (sym (answer_held (act s (TakeHeld x)) _)) (none_filter n (λ a. not (of_client x a)) s.held none))

pub none_open : (n : ℕ) (clients : List ℕ) (s : Server) → list_any (λ (x : ℕ). x == n) clients ≡ true → list_any (of_client n) (acts s (flat_map open_to clients)).held ≡ false
none_open n [] s any = absurd (true≢false (sym any))
none_open n (x ∷ clients) s any = by_test (x == n) refl any (none_open n clients (acts s (open_to x)))
  where
    left : (x ≡ n) → list_any (of_client n) (acts s (open_to x)).held ≡ false
    left same = subst (λ (l : List Asked). list_any (of_client n) l ≡ false) (sym (answer_held (act s (TakeHeld x)) _)) (subst (λ (y : ℕ). list_any (of_client n) (filter (λ a. not (of_client y a)) s.held) ≡ false) (sym same) (none_left n s.held))

    by_test : (b : Bool) → (x == n) ≡ b → (b || list_any (λ (x : ℕ). x == n) clients) ≡ true → (list_any (λ (x : ℕ). x == n) clients ≡ true → list_any (of_client n) (acts (acts s (open_to x)) (flat_map open_to clients)).held ≡ false) → list_any (of_client n) (acts (acts s (open_to x)) (flat_map open_to clients)).held ≡ false
    by_test true is any go = none_stays n clients (acts s (open_to x)) (left (grind (arith, nat_tests, is)))
    by_test false is any go = go any

-- the request in hand, as it was taken
hand_same : (n : ℕ) (a : Asked) (d : Bool) (b : Asked) → cond d None (Some a) ≡ Some b → b.request ≡ a.request
hand_same n a true b is = cc
hand_same n a false b is = let same : a ≡ b = cc in sym (ap (λ (y : Asked). y.request) same)

same_asked : (o : Option (ℕ × Request)) (t u : ℕ) (asked other : Request) → IsIt o t asked → IsIt o u other → asked ≡ other
same_asked None t u asked other it is = absurd it
same_asked (Some r) t u asked other it is = it.1 ∙ sym is.1

pub held_same : (n : ℕ) (c : Client) (up : List ToServer) (down : List ToClient) (s : Server) (a : Asked) → Asking n c up down s → HandOf s a.client → (of_client n a ≡ true → IsIt (open_request c.under) a.tid a.request) → SameHand n s a.request
held_same n c up down s a asks of it b is mine_b = same_asked (open_request c.under) b.tid a.tid b.request a.request
    ((subst (λ (h : Option Asked). AllOf n (open_request c.under) (as_list h)) is asks.1.in_hand).0 mine_b)
    (it (subst (λ (x : ℕ). (x == n) ≡ true) (of b is) mine_b))

abbrev pub redo : Server → Asked → List Act
redo t a = TakeHeld a.client ∷ treat false (act t (TakeHeld a.client)) a

pub acts_asked : (n : ℕ) (c : Client) (up : List ToServer) (down : List ToClient) (s : Server) (list : List Act) → Asking n c up down s → Asking n c up down (acts s list)
acts_asked n c up down s list asks = acts_keep {Q = Asking n c up down} (λ t a fit so. asking.one n c up down t a fit so) list s (any_of n c s list) asks

taken_fit : (n : ℕ) (c : Client) (up : List ToServer) (down : List ToClient) (s : Server) (a : Asked) → Asking n c up down s → (of_client n a ≡ true → IsIt (open_request c.under) a.tid a.request) → Fit (WaitFit n) (act s (TakeHeld a.client)) (treat false (act s (TakeHeld a.client)) a)
taken_fit n c up down s a asks it = let t = act s (TakeHeld a.client) in
    wait_treat n t false a (held_same n c up down t a (asking.one n c up down s (TakeHeld a.client) tt asks) (λ b is. first_client a.client s.held b is) it)

anew : (n : ℕ) (c : Client) (up : List ToServer) (down : List ToClient) (list : List Asked) (s : Server) → Asking n c up down s → AllOf n (open_request c.under) list → Fit (WaitFit n) s (each redo s list)
anew n c up down [] s asks all = tt
anew n c up down (a ∷ list) s asks all =
    fit_append (WaitFit n) s (redo s a) (each redo (acts s (redo s a)) list) (tt, taken_fit n c up down s a asks all.0)
    (anew n c up down list (acts s (redo s a)) (acts_asked n c up down s (redo s a) asks) all.1)

-- after a round over the held requests, all that is held may wait
or_to : (X Y : Type 0) (n : ℕ) (entries : List Entry) (list : List Asked) → (X → Y) → AllOr X n entries list → AllOr Y n entries list
or_to X Y n entries [] go all = tt
or_to X Y n entries (a ∷ list) go all = (λ at. either (all.0 at), or_to X Y n entries list go all.1)
  where
    either : MayWait entries a.request ⊎ X → MayWait entries a.request ⊎ Y
    either (inl may) = inl may
    either (inr x) = inr (go x)

round : (n : ℕ) (c : Client) (up : List ToServer) (down : List ToClient) (list : List Asked) (s : Server) → Asking n c up down s → AllOf n (open_request c.under) list → HeldOr (list_any (of_client n) list ≡ true) n s → HeldOr ⊥ n (acts s (each redo s list))
round n c up down [] s asks all h = λ connected_all. or_to (false ≡ true) ⊥ n s.entries s.held (λ is. true≢false (sym is)) (h connected_all)
round n c up down (a ∷ list) s asks all h = subst (HeldOr ⊥ n) (sym (acts_append (redo s a) (each redo (acts s (redo s a)) list) s))
    (round n c up down list (acts s (redo s a)) (acts_asked n c up down s (redo s a) asks) all.1 (acts_keep (one Rest n) (treat false t a) t (taken_fit n c up down s a asks all.0) (by_test (of_client n a) refl h)))
  where
    t : Server
    t = act s (TakeHeld a.client)

    Rest : Type 0
    Rest = list_any (of_client n) list ≡ true

    same : (a.client == n) ≡ true → n ≡ a.client
    same is = grind (arith, nat_tests, is)

    by_test : (b : Bool) → of_client n a ≡ b → HeldOr ((b || list_any (of_client n) list) ≡ true) n s → HeldOr Rest n t
    by_test true is h = λ connected_all. or_none_of Rest n s.entries t.held (subst (λ (y : ℕ). list_any (of_client n) (filter (λ a. not (of_client y a)) s.held) ≡ false) (same is) (none_left n s.held))
    by_test false is h = one Rest n s (TakeHeld a.client) tt h

-- at first each of them is to be taken
all_to_take : (n : ℕ) (s : Server) → HeldOr (list_any (of_client n) s.held ≡ true) n s
all_to_take n s connected_all = by_test (list_any (of_client n) s.held) refl
  where
    present : (list : List Asked) → AllOr (true ≡ true) n s.entries list
    present [] = tt
    present (a ∷ list) = ((λ at. inr refl), present list)

    by_test : (b : Bool) → list_any (of_client n) s.held ≡ b → AllOr (b ≡ true) n s.entries s.held
    by_test true is = present s.held
    by_test false is = or_none_of (false ≡ true) n s.entries s.held is

-- the rows
abbrev Waits : View
Waits n c up down s = HeldOr ⊥ n s

abbrev Placing : View
Placing n c up down s = Asking n c up down s × Placed n s

abbrev Between : View
Between n c up down s = Asking n c up down s × Waits n c up down s

by_acts : (n : ℕ) (c : Client) (up : List ToServer) (down : List ToClient) → KeptByActs (WaitFit n) (Between n c up down) (Server's Waits n c up down)
by_acts n c up down = record {
  one = λ s a fit b. (asking.one n c up down s a tt b.0, one ⊥ n s a fit b.1);
  hands = λ s b. b.1;
  anew = λ s b. anew n c up down s.held s b.0 b.0.1.in_held;
}

pub hand_for_same : (n : ℕ) (s : Server) (a : Asked) → SameHand n (take_in s a) a.request
hand_for_same n s a b is mine_b = hand_same n a (is_operation s a) b is

own : (n : ℕ) (c : Client) (m : ToServer) (up : List ToServer) (down : List ToClient) (s : Server) → Placing n c (m ∷ up) down s → Waits n c (m ∷ up) down s → Server's Waits n c up down (on_take s n m)
own n c (Connect conn said flushes asked) up down s p w = take_connect (by_acts n c up down) s n conn said flushes asked (popped, w) (λ above. ((accepted_now, none_now asked), treats asked))
  where
    popped : Asking n c up down s
    popped = asking.pops n c (Connect conn said flushes asked) up down s p.0

    now : Server
    now = acts s (come_back s n said flushes)

    accepted_now : Asking n c up down (back s n conn said flushes (brought n asked))
    accepted_now = asking.accepts n c conn said flushes asked up down now (acts_asked n c (Connect conn said flushes asked ∷ up) down s (come_back s n said flushes) p.0)

    none_now : (o : Option (ℕ × Request)) → HeldOr ⊥ n (back s n conn said flushes (brought n o))
    none_now None connected_all = or_none_of ⊥ n now.entries (filter (λ a. not (of_client n a)) now.held) (none_left n now.held)
    none_now (Some r) connected_all = or_none_of ⊥ n now.entries (filter (λ a. not (of_client n a)) now.held) (none_left n now.held)

    treats : (o : Option (ℕ × Request)) → Fit (WaitFit n) (back s n conn said flushes (brought n o)) (treat_brought (back s n conn said flushes (brought n o)) (brought n o))
    treats None = tt
    treats (Some r) = wait_treat n (back s n conn said flushes (Some (asked_by n r.0 r.1))) false (asked_by n r.0 r.1) (hand_for_same n (back s n conn said flushes None) (asked_by n r.0 r.1))
own n c (Ask conn tid asked) up down s p w = take_ask (by_acts n c up down) s n conn tid asked (asking.pops n c (Ask conn tid asked) up down s p.0, w) (λ is.
    ((asking.asks n c conn tid asked up down s is p.0, w), wait_treat n (take_in s (asked_by n tid asked)) false (asked_by n tid asked) (hand_for_same n s (asked_by n tid asked))))
own n c (Flush conn f) up down s p w = flush_taken (by_acts n c up down) s n conn f (asking.pops n c (Flush conn f) up down s p.0, w) (free_fit n (flush_rule n s f) s (free_flush n s f))
own n c (DropRead conn ino) up down s p w = take_drop (by_acts n c up down) s n conn ino (asking.pops n c (DropRead conn ino) up down s p.0, w) (free_fit n (on_drop n s ino) s (free_drop n s ino))
own n c (Purged id) up down s p w = take_purged (by_acts n c up down) s n id (asking.pops n c (Purged id) up down s p.0, w)
own n c (Deleted ino) up down s p w = take_deleted (by_acts n c up down) s n ino (asking.pops n c (Deleted ino) up down s p.0, w)

other : (n x : ℕ) (c : Client) (m : ToServer) (up : List ToServer) (down : List ToClient) (s : Server) → (x == n) ≡ false → Placing n c up down s → Waits n c up down s → Server's Waits n c up down (on_take s x m)
other n x c (Connect conn said flushes asked) up down s isnt p w =
    row_if (Server's Waits n c up down) (to_server_fits (Connect conn said flushes asked)) _ (drops s)
    (λ fine. row_if (Server's Waits n c up down) (may_connect s x conn said flushes (brought x asked)) _ (drops s) (λ may. taken) w) w
  where
    next : Server
    next = back s x conn said flushes (brought x asked)

    now : Server
    now = acts next (treat_brought next (brought x asked))

    asks : Asking n c up down now
    asks = acts_asked n c up down next (treat_brought next (brought x asked)) (asking.accepts_other n x c conn asked up down (acts s (come_back s x said flushes)) isnt (acts_asked n c up down s (come_back s x said flushes) p.0))

    taken : Server's Waits n c up down (connect_with next (brought x asked))
    taken = after_held (by_acts n c up down) (1 + length now.held) now (decide_anew now)
        (acts_asked n c up down now (decide_anew now) asks, round n c up down now.held now asks asks.1.in_held (all_to_take n now))
other n x c (Ask conn tid asked) up down s isnt p w = take_ask (by_acts n c up down) s x conn tid asked (p.0, w) (λ is.
    ((asking.asks_other n x c tid asked up down s isnt p.0, w), wait_treat n (take_in s (asked_by x tid asked)) false (asked_by x tid asked) (hand_for_same n s (asked_by x tid asked))))
other n x c (Flush conn f) up down s isnt p w = flush_taken (by_acts n c up down) s x conn f (p.0, w) (free_fit n (flush_rule x s f) s (free_flush x s f))
other n x c (DropRead conn ino) up down s isnt p w = take_drop (by_acts n c up down) s x conn ino (p.0, w) (free_fit n (on_drop x s ino) s (free_drop x s ino))
other n x c (Purged id) up down s isnt p w = take_purged (by_acts n c up down) s x id (p.0, w)
other n x c (Deleted ino) up down s isnt p w = take_deleted (by_acts n c up down) s x ino (p.0, w)

-- the turn: its acts fit, or no request of the client is left
abbrev Turns : ℕ → Server → List Act → Type 0
Turns n s list = Fit (WaitFit n) s list ⊎ (list_any (of_client n) (acts s list).held ≡ false)

purge_turns : (n : ℕ) (s : Server) → Placed n s → (o : Option SnapId) → IfSome (turn_purge s o) (Turns n s)
purge_turns n s placed (Some id) = inl ((λ k. refl), (tt, tt))
purge_turns n s placed None = by_file (first_file (filter (is_due s) (dead s.entries)))
  where
    if_some : (b : Bool) (list : List Act) → Turns n s list → IfSome (cond b (Some list) None) (Turns n s)
    if_some true list all = all
    if_some false list all = tt

    by_barrier : (o : Option ℕ) → IfSome (turn_barrier s o) (Turns n s)
    by_barrier None = tt
    by_barrier (Some number) = if_some (list_all (waits_at s number) (up_to s.clients) && is_finished s) _ (inr (none_open n (up_to s.clients) _ placed))

    by_file : (o : Option Ino) → IfSome (turn_dead s o) (Turns n s)
    by_file None = by_barrier (first_barrier s.held)
    by_file (Some ino) = inl (free_fit n _ s (free_if (is_empty (holders_of s ino)) (SendDelete ino ∷ []) (recalls s ino (holders_of s ino)) (tt, tt) (free_recalls s ino (holders_of s ino))))

turns : (n : ℕ) (s : Server) → Placed n s → IfSome (turn s) (Turns n s)
turns n s placed = by_test (all_connected s)
  where
    Good : Option (List Act) → Type 0
    Good o = IfSome o (Turns n s)

    by_operation : (id : SnapId) (o : Option Asked) → Good (turn_operation s id o)
    by_operation id None = tt
    by_operation id (Some a) = inl (tt, free_fit n (finish id (change_asked (state_after s.entries) a.client id a.request)) (act s TakeOperation) (free_finish id (change_asked (state_after s.entries) a.client id a.request)))

    by_deferred : (list : List Asked) → s.deferred ≡ list → Good (turn_deferred s list)
    by_deferred [] is = purge_turns n s placed (least (unsent_purges s))
    by_deferred (a ∷ more) is = inl (tt, wait_treat n (act s TakeDeferred) true a (λ b at mine_b. let same : a ≡ b = first_is (sym (ap first_of is) ∙ at) in sym (ap (λ (y : Asked). y.request) same)))
      where
        first_is : {b : Asked} → Some a ≡ Some b → a ≡ b
        first_is at = cc

    by_outstanding : (o : Option (SnapId × ℕ)) → Good (turn_at s o)
    by_outstanding None = by_deferred s.deferred refl
    by_outstanding (Some o) = by_durable (nat_le o.1 s.durable)
      where
        by_durable : (b : Bool) → Good (cond b (turn_operation s o.0 s.operation) (turn_purge s (least (unsent_purges s))))
        by_durable true = by_operation o.0 s.operation
        by_durable false = purge_turns n s placed (least (unsent_purges s))

    by_test : (b : Bool) → Good (cond b (turn_at s (outstanding s.entries)) None)
    by_test true = by_outstanding (outstanding s.entries)
    by_test false = tt

tended : (n : ℕ) (c : Client) (up : List ToServer) (down : List ToClient) (s : Server) → Placing n c up down s → Waits n c up down s → IfSome (on_tend s) (Server's Waits n c up down)
tended n c up down s p w = by_turn (turn s) (turns n s p.1)
  where
    one_turn : (list : List Act) → Turns n s list → Server's Waits n c up down (row_of s list)
    one_turn list (inl fit) = row_keeps (by_acts n c up down) s list fit (p.0, w)
    one_turn list (inr none) = after_held (by_acts n c up down) (2 + length s.held) s list (acts_asked n c up down s list p.0, λ connected_all. or_none_of ⊥ n (acts s list).entries (acts s list).held none)

    by_turn : (o : Option (List Act)) → IfSome o (Turns n s) → IfSome (option_map (row_of s) o) (Server's Waits n c up down)
    by_turn None is = tt
    by_turn (Some list) is = one_turn list is

waits_rows : KeptBefore Placing Waits
waits_rows = record {
  op = λ n c up down s p w. still n up down s (on_op c) w;
  flush = λ n c up down s p w. still n up down s (on_flush c) w;
  told = λ n c up m down s p w. w;
  stored = λ n c m up down s p w. w;
  own = own;
  other = other;
  reported = λ n c m up down s p w. row_keeps (by_acts n c up down) s (reported s m) (free_fit n (reported s m) s (free_reported s m)) (p.0, w);
  committed = λ n c up down s p w. commit_keeps {Q = Waits n c up down} {After = Server's Waits n c up down} (λ r e after. after) (λ t so. so) s w;
  tended = tended;
  restarted = λ n c up down s k p w. restart_keeps (λ r e after. after) (by_acts n c up down) s k (λ fits. ((asking.survives n c up down s k fits p.0, λ connected_all. tt), free_fit n (restarts (left_with s (s.durable + k))) (left_with s (s.durable + k)) (free_restarts (left_with s (s.durable + k)))));
}
  where
    still : (n : ℕ) (up : List ToServer) (down : List ToClient) (s : Server) (o : Option (Row Client)) → HeldOr ⊥ n s → IfSome o (Client's Waits n up down s)
    still n up down s None w = tt
    still n up down s (Some r) w = w

abbrev Whole : View
Whole n c up down s = Placing n c up down s × Waits n c up down s

whole_holds : (script : Script) (history : List Event) → EachClient Whole (world_after script history)
whole_holds script history = run_keeps Whole (joined (joined (rows_of_acts Asking asking (all_fit Asking)) (alone (served_rows {P = Placed} placed_gives))) waits_rows) (start script) (steps_of history)
    (at_start Whole script (λ n is. ((((tt, first_link (new_client n (script.clients + 1) (lines_of n script.lines)) _ refl is), first_requested n (new_client n (script.clients + 1) (lines_of n script.lines)) (start script).server refl refl refl refl refl refl refl), placed_in n (up_to script.clients) is), λ connected_all. tt)))

may_wait : (n : ℕ) (entries : List Entry) (list : List Asked) → AllOr ⊥ n entries list → AllMayWait n entries list
may_wait n entries [] all = tt
may_wait n entries (a ∷ list) all = (λ at. either (all.0 at), may_wait n entries list all.1)
  where
    either : MayWait entries a.request ⊎ ⊥ → MayWait entries a.request
    either (inl may) = may
    either (inr never) = absurd never

pub waiting_law : (script : Script) (history : List Event) → EachClient HeldMayWait (world_after script history)
waiting_law script history = each_part Whole HeldMayWait (world_after script history) (λ n c up down s all connected_all. may_wait n s.entries s.held (all.1 connected_all)) (whole_holds script history)

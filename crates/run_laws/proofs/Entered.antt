-- What the server enters may follow what it entered before, along each run.
use Rattle.std.proofs.Common.{◌≡◌, ◌≤◌, ◌<◌, ℕ, ◌+◌, List, [], ◌∷◌, ◌++◌, append_assoc, length, take, drop, Bool, true, false, true≢false, cond, Option, None, Some, refl, sym, ap, ◌∙◌, subst, IfSome, arith}
use Rattle.std.proofs.lemmas.List.{append-nil, take-append-drop}
use Rattle.std.proofs.lemmas.List.Sums.{fold-append}
use Rattle.std.proofs.lemmas.Bool.Decides.{nat_tests}
use Rattle.std.specs.Prelude.{◌-◌, ◌==◌, ◌&&◌, ◌||◌, not, nat_le, nat_lt, slice_get, flat_map, find, is_some, map, filter, Result, Ok, Err}
use Rattle.std.specs.List.{list_any, list_all}
use Rattle.snap_ids.specs.declared.id.Ino.{Ino}
use Rattle.snap_ids.specs.declared.id.SnapId.{SnapId}
use Rattle.snap_ids.specs.declared.id.TheConstants.{NOSNAP}
use Rattle.snap_ids.specs.declared.values.Kind.{Kind}
use Rattle.snap_ids.specs.declared.values.Kind.TheVariants.{Dir, File}
use Rattle.snap_ids.specs.declared.values.Mode.{Mode}
use Rattle.snap_ids.specs.declared.values.Mode.TheVariants.{Read}
use Rattle.snap_ids.specs.Context.{is_listed}
use Rattle.snap_ids.specs.Name.{is_new, is_new_snap}
use Rattle.snap_ids.specs.Path.{Place, Live, Snaps, InSnap, place_of}
use Rattle.plain_types.specs.declared.answer.Answer.{Answer}
use Rattle.plain_types.specs.declared.answer.Answer.TheVariants as answer
use Rattle.plain_types.specs.declared.answer.Refusal.{Refusal}
use Rattle.plain_types.specs.declared.answer.Refusal.TheVariants.{BadName, Exists, TooManySnaps, TooManyLive, BadHandle}
use Rattle.plain_types.specs.declared.change.Change.{Change}
use Rattle.plain_types.specs.declared.change.Change.TheVariants as change
use Rattle.plain_types.specs.declared.entry.Entry.{Entry}
use Rattle.plain_types.specs.declared.entry.What.{What}
use Rattle.plain_types.specs.declared.entry.What.TheVariants as what
use Rattle.plain_types.specs.declared.history.Event.{Event}
use Rattle.plain_types.specs.declared.message.Claim.{Claim}
use Rattle.plain_types.specs.declared.message.FlushMsg.{FlushMsg}
use Rattle.plain_types.specs.declared.message.ToServer.{ToServer}
use Rattle.plain_types.specs.declared.message.ToServer.TheVariants.{Connect, Ask, Flush, DropRead, Purged, Deleted}
use Rattle.plain_types.specs.declared.request.Query.TheVariants as query
use Rattle.plain_types.specs.declared.request.Request.{Request}
use Rattle.plain_types.specs.declared.request.Request.TheVariants as request
use Rattle.plain_types.specs.declared.script.Script.{Script}
use Rattle.plain_tree.specs.State.{State, Snapshot, same_ino, kind_in, next_ino, lookup, start as first_state, Entry as Named}
use Rattle.plain_tree.specs.Change.{entry, is_refused, own_snap, has_all_snaps, are_all_live, open_of}
use Rattle.plain_tree.specs.Query.{Found, InLive, SnapsOf, InTree}
use Rattle.plain_tree.specs.Request.{Tree, in_parent, new_name, tree_of, walk_live, new_entry, to_unlink, to_remove, to_link, to_move, and_then as and_then_do, new_snap, mkdir, remove_snap, roots_snap, rmdir, create, unlink, link, rename, open_file, chmod, change_asked}
use Rattle.plain_tree.proofs.Succeeds.{asked_succeeds}
use Rattle.plain_journal.specs.Answers.{found, answer_to}
use Rattle.plain_journal.specs.Entries.{change_in, state_after, after_entry, with_change, tree_at, applied}
use Rattle.plain_journal.specs.Legal.{is_made_by, is_made_file, fits, is_legal, is_given, legal_after, is_journal}
use Rattle.plain_journal.specs.Table.{outstanding, last_flush, to_purge, dead, barrier, next_snap, prepares}
use Rattle.held_files.specs.Files.{is_empty, is_write}
use Rattle.step_table.specs.Messages.{is_id, is_size, flush_fits}
use Rattle.step_table.specs.ServerState.{Asked, Holder, Server, Told, Answered, Granted, WantedBack, Changed, Acked, tell, tell_at, number_of, up_to, is_holder, is_writer, all_connected}
use Rattle.step_table.specs.Acts.{Act, TellRecall, TellAck, TellRestart, AnswerIt, GrantIt, MakeEffect, Prepare, Wait, Defer, DeferFirst, TakeDeferred, TakeOperation, Buffer, SendDelete, Hold, Settled, LetGo, LetAllGo, MarkRecalled, act, acts, each, answer_hand, grant_hand, effect_hand, buffer_for, written_down, prepare_hand, entry_for, buffer, first_of}
use Rattle.step_table.specs.Capabilities.{in_conflict, against, is_recalled, recall, recalls, give_to, give, ask_cap, found_live, ask_found, clash, owing}
use Rattle.step_table.specs.Requests.{treat, treat_known, treat_new, kept_answer, is_operation, decided, make, prepare, is_busy, next_id, by_kind, settled_answer, look_at}
use Rattle.step_table.specs.Flushes.{knows_file, flush_entry, flush_settles, take_flush, claimed, take_claim, take_brought, come_back}
use Rattle.step_table.specs.Background.{roll_back, finish, finish_with, least, unsent_purges, holders_of, is_due, first_file, first_barrier, waits_at, is_finished, open_to, turn_barrier, turn_dead, turn_purge, turn_deferred, turn_operation, turn_at, turn}
use Rattle.step_table.specs.ServerRows.{reported, restarts, roll_back_from}
use Rattle.step_table.specs.World.{start, journal}
use Rattle.run_laws.specs.Moments.{steps_of, world_after}
use Rattle.run_laws.specs.Prepared.{is_live}
use Rattle.run_laws.proofs.Acts.{Fit, fit_append, notices_keep}
use Rattle.run_laws.proofs.Fitting.{OkIs, then_ok, directory_ok, file_ok, unless_ok, if_ok, live_ok}
use Rattle.run_laws.proofs.Gives.{KeptByServer}
use Rattle.run_laws.proofs.Once.{HandOf, hand_of}
use Rattle.run_laws.proofs.Rises.{above_law, below_law}
use Rattle.run_laws.proofs.Serving.{Keeps, run_serves, no_client_start}
use Rattle.run_laws.proofs.When.{TestedFit, tested_gives}

-- a directory or a file that a request makes gets the next inode
abbrev IsNext : State → Change → Type 0
IsNext state (change.Mkdir dir name ino) = same_ino ino (next_ino state) ≡ true
IsNext state (change.Create dir name ino mode) = same_ino ino (next_ino state) ≡ true
IsNext state made = Unit {0}

itself : (n : ℕ) → (n == n) ≡ true
itself n = grind (arith, nat_tests)

parent_ok : {A : Type 0} (tree : Tree) (path : List (List ℕ)) (go_on : List ℕ → Ino → Result A Refusal) (P : A → Type 0) → ((name : List ℕ) (dir : Ino) → OkIs (go_on name dir) P) → OkIs (in_parent tree path go_on) P
parent_ok tree path go_on P all = by_last (slice_get path (length path - 1))
  where
    by_last : (o : Option (List ℕ)) → OkIs (elim o [ None ↦ Err BadName | Some name ↦ and_then_do (walk_live tree (take (length path - 1) path)) (go_on name) ]) P
    by_last None = tt
    by_last (Some name) = then_ok (walk_live tree (take (length path - 1) path)) (go_on name) P (all name)

-- the new entry names the inode that was given for it
named : (tree : Tree) (ino : Ino) (path : List (List ℕ)) → OkIs (new_entry tree ino path) (λ (new : Named). same_ino new.ino ino ≡ true)
named tree ino path = parent_ok tree path _ (λ (new : Named). same_ino new.ino ino ≡ true) (λ name dir. directory_ok (tree.kind dir) (new_name tree ino name dir) (λ (new : Named). same_ino new.ino ino ≡ true)
    (unless_ok (not (is_new name)) BadName _ (λ (new : Named). same_ino new.ino ino ≡ true)
    (unless_ok (is_some (lookup tree.entries dir name)) Exists (Ok (entry dir name ino)) (λ (new : Named). same_ino new.ino ino ≡ true) (itself ino.0))))

-- what an Ok is, and what follows from it
both_ok : {A B : Type 0} (r : Result A Refusal) (go_on : A → Result B Refusal) (Q : A → Type 0) (P : B → Type 0) → OkIs r Q → ((a : A) → Q a → OkIs (go_on a) P) → OkIs (and_then_do r go_on) P
both_ok (Ok a) go_on Q P is all = all a is
both_ok (Err refusal) go_on Q P is all = tt

mkdir_next : (state : State) (id : SnapId) (p : Place) → OkIs (mkdir state id p) (IsNext state)
mkdir_next state id (Live path) = both_ok (new_entry (tree_of state) (next_ino state) path) (λ new. Ok (change.Mkdir new.dir new.name new.ino)) (λ (new : Named). same_ino new.ino (next_ino state) ≡ true) (IsNext state) (named (tree_of state) (next_ino state) path) (λ new is. is)
mkdir_next state id (Snaps dir) = tt
mkdir_next state id (InSnap dir name (below ∷ rest)) = tt
mkdir_next state id (InSnap dir name []) = then_ok (walk_live (tree_of state) dir) (new_snap state id name) (IsNext state) (λ at. directory_ok (kind_in state.inodes at) _ (IsNext state)
    (unless_ok (not (is_new_snap name)) BadName _ (IsNext state)
    (unless_ok (is_some (own_snap state.snaps at name)) Exists _ (IsNext state)
    (unless_ok (has_all_snaps state.snaps at) TooManySnaps _ (IsNext state)
    (unless_ok (are_all_live state.snaps) TooManyLive (Ok (change.Mksnap id at name)) (IsNext state) tt)))))

rmdir_next : (state : State) (p : Place) → OkIs (rmdir state p) (IsNext state)
rmdir_next state (Live path) = then_ok (to_remove (roots_snap state.snaps) (tree_of state) path) (λ old. Ok (change.Rmdir old.dir old.name)) (IsNext state) (λ old. tt)
rmdir_next state (Snaps dir) = tt
rmdir_next state (InSnap dir name (below ∷ rest)) = tt
rmdir_next state (InSnap path name []) = then_ok (walk_live (tree_of state) path) _ (IsNext state) (λ dir. directory_ok (kind_in state.inodes dir) (remove_snap (own_snap state.snaps dir name)) (IsNext state) (removed (own_snap state.snaps dir name)))
  where
    removed : (o : Option Snapshot) → OkIs (remove_snap o) (IsNext state)
    removed None = tt
    removed (Some snap) = tt

asked_next : (state : State) (client : ℕ) (id : SnapId) (asked : Request) → IfSome (change_asked state client id asked) (λ (r : Result Change Refusal). OkIs r (IsNext state))
asked_next state client id (request.Mkdir path) = mkdir_next state id (place_of path)
asked_next state client id (request.Rmdir path) = rmdir_next state (place_of path)
asked_next state client id (request.Create path mode) = live_ok (place_of path) (create state mode) (IsNext state) (λ p. both_ok (new_entry (tree_of state) (next_ino state) p) _ (λ (new : Named). same_ino new.ino (next_ino state) ≡ true) (IsNext state) (named (tree_of state) (next_ino state) p) (λ new is. is))
asked_next state client id (request.Unlink path) = live_ok (place_of path) (unlink state) (IsNext state) (λ p. then_ok (to_unlink (tree_of state) p) _ (IsNext state) (λ old. tt))
asked_next state client id (request.Link path target) = live_ok (place_of path) _ (IsNext state) (λ from. live_ok (place_of target) (link state from) (IsNext state) (λ p. then_ok (to_link (tree_of state) from p) _ (IsNext state) (λ new. tt)))
asked_next state client id (request.Rename path target) = live_ok (place_of path) _ (IsNext state) (λ from. live_ok (place_of target) (rename state from) (IsNext state) (λ p. then_ok (to_move (tree_of state) from p) _ (IsNext state) (λ both. tt)))
asked_next state client id (request.Chmod path mode) = live_ok (place_of path) (chmod state mode) (IsNext state) (λ p. then_ok (walk_live (tree_of state) p) _ (IsNext state) (λ ino. tt))
asked_next state client id (request.Open handle path writable) = live_ok (place_of path) (open_file state client handle writable) (IsNext state) (λ p. unless_ok (is_some (open_of state.handles client handle)) BadHandle _ (IsNext state) (then_ok (walk_live (tree_of state) p) _ (IsNext state) (λ ino. file_ok (kind_in state.inodes ino) (Ok (change.OpenFile handle ino writable)) (IsNext state) tt)))
asked_next state client id (request.Close handle) = if_ok (is_some (open_of state.handles client handle)) (Ok (change.CloseFile handle)) (Err BadHandle) (IsNext state) tt tt
asked_next state client id asked = tt

-- an entry may follow those before it, but for the id of a new snapshot
abbrev NumbersFit : List Entry → What → Type 0
NumbersFit before (what.Mksnap id dir name) = Unit {0}
NumbersFit before said = fits before said ≡ true

abbrev pub MayFollow : List Entry → Entry → Type 0
MayFollow before e = (is_made_by (state_after before) e.client (change_in e.what) ≡ true) × NumbersFit before e.what

-- what a request comes to may be entered for its client
may_make : (entries : List Entry) (client : ℕ) (a : Asked) (made : Change) → a.client ≡ client → is_refused (state_after entries) client made ≡ false → IsNext (state_after entries) made → IfSome (written_down made) (λ said. MayFollow entries (entry_for a said))
may_make entries client a made same refused next = by_made made (subst (λ (x : ℕ). is_refused (state_after entries) x made ≡ false) (sym same) refused) next
  where
    by_made : (made : Change) → is_refused (state_after entries) a.client made ≡ false → IsNext (state_after entries) made → IfSome (written_down made) (λ said. MayFollow entries (entry_for a said))
    by_made (change.Mkdir dir name ino) refused next = (ap not refused, next)
    by_made (change.Create dir name ino mode) refused next = (ap not refused, next)
    by_made (change.Mksnap id dir name) refused next = (ap not refused, tt)
    by_made (change.WriteFile handle offset bytes) refused next = tt
    by_made (change.Truncate handle size) refused next = tt
    by_made (change.Link ino dir name) refused next = (ap not refused, refl)
    by_made (change.Unlink dir name) refused next = (ap not refused, refl)
    by_made (change.Rmdir dir name) refused next = (ap not refused, refl)
    by_made (change.Rename dir name to_dir to_name) refused next = (ap not refused, refl)
    by_made (change.Chmod ino mode) refused next = (ap not refused, refl)
    by_made (change.OpenFile handle ino writable) refused next = (ap not refused, refl)
    by_made (change.CloseFile handle) refused next = (ap not refused, refl)
    by_made (change.Rmsnap id) refused next = (ap not refused, refl)

-- an act fits: what it enters may follow the entries
abbrev EntersFit : Server → Act → Type 0
EntersFit s (MakeEffect made) = (a : Asked) → s.hand ≡ Some a → IfSome (written_down made) (λ said. MayFollow s.entries (entry_for a said))
EntersFit s (Prepare said) = (change_in said ≡ None) × (fits s.entries said ≡ true)
EntersFit s (Buffer e) = (change_in e.what ≡ None) × (fits s.entries e.what ≡ true)
EntersFit s a = Unit {0}

fit_if : (s : Server) (b : Bool) (xs ys : List Act) → (b ≡ true → Fit EntersFit s xs) → (b ≡ false → Fit EntersFit s ys) → Fit EntersFit s (cond b xs ys)
fit_if s true xs ys here other = here refl
fit_if s false xs ys here other = other refl

fit_flat : {X : Type 0} (f : X → List Act) → ((s : Server) (x : X) → Fit EntersFit s (f x)) → (s : Server) (xs : List X) → Fit EntersFit s (flat_map f xs)
fit_flat f one s [] = tt
fit_flat f one s (x ∷ xs) = fit_append EntersFit s (f x) (flat_map f xs) (one s x) (fit_flat f one (acts s (f x)) xs)

-- capabilities
recalls_fit : (at s : Server) (ino : Ino) (clients : List ℕ) → Fit EntersFit s (recalls at ino clients)
recalls_fit at s ino clients = fit_flat (recall at ino) (λ t x. fit_if t (is_recalled at ino x) [] (MarkRecalled x ino ∷ TellRecall x ino ∷ []) (λ is. tt) (λ is. (tt, (tt, tt)))) s clients

give_fit : (s : Server) (x : ℕ) (ino : Ino) (mode : Mode) → Fit EntersFit s (give s x ino mode)
give_fit s x ino mode = by_holder (find (is_holder x ino) s.holders)
  where
    by_holder : (o : Option Holder) → Fit EntersFit s (give_to s x ino mode o)
    by_holder None = (tt, tt)
    by_holder (Some h) = fit_if s (is_write mode && not (is_write h.mode)) _ [] (λ raise. (tt, tt)) (λ raise. tt)

cap_fit : (s : Server) (x : ℕ) (ino : Ino) (mode : Mode) (granted : Act) → ((t : Server) → EntersFit t granted) → Fit EntersFit s (ask_cap s x ino mode granted)
cap_fit s x ino mode granted fits_it = fit_if s (in_conflict s x ino mode) (recalls s ino (against s x ino mode) ++ Wait ∷ []) (give s x ino mode ++ granted ∷ [])
    (λ is. fit_append EntersFit s (recalls s ino (against s x ino mode)) (Wait ∷ []) (recalls_fit s s ino (against s x ino mode)) (tt, tt))
    (λ free. fit_append EntersFit s (give s x ino mode) (granted ∷ []) (give_fit s x ino mode) (fits_it (acts s (give s x ino mode)), tt))

found_fit : (s : Server) (x : ℕ) (ino : Ino) → Fit EntersFit s (ask_found s x ino)
found_fit s x ino = fit_if s (list_any (is_writer x ino) s.holders) (AnswerIt (found_live s ino true) ∷ []) (ask_cap s x ino Read (AnswerIt (found_live s ino false))) (λ is. (tt, tt)) (λ is. cap_fit s x ino Read (AnswerIt (found_live s ino false)) (λ t. tt))

kind_fit : (s : Server) (k : Kind) (xs ys : List Act) → Fit EntersFit s xs → Fit EntersFit s ys → Fit EntersFit s (by_kind k xs ys)
kind_fit s Dir xs ys here other = here
kind_fit s File xs ys here other = other

look_fit : (s : Server) (a : Asked) (said : Answer) (o : Result Found Refusal) → Fit EntersFit s (look_at s a said o)
look_fit s a said (Ok (InLive ino)) = kind_fit s (kind_in (state_after s.entries).inodes ino) (AnswerIt said ∷ []) (ask_found s a.client ino) (tt, tt) (found_fit s a.client ino)
look_fit s a said (Ok (InTree id ino)) = kind_fit s (kind_in (tree_at s.entries id).inodes ino) (AnswerIt said ∷ []) (AnswerIt (settled_answer said (owing s ino id)) ∷ []) (tt, tt) (tt, tt)
look_fit s a said (Ok (SnapsOf dir)) = (tt, tt)
look_fit s a said (Err refusal) = (tt, tt)

-- requests
abbrev HandMay : Change → Server → Type 0
HandMay made s = (a : Asked) → s.hand ≡ Some a → IfSome (written_down made) (λ said. MayFollow s.entries (entry_for a said))

asked_may : (s : Server) (client : ℕ) (id : SnapId) (asked : Request) (made : Change) → HandOf s client → change_asked (state_after s.entries) client id asked ≡ Some (Ok made) → HandMay made s
asked_may s client id asked made of is a at = may_make s.entries client a made (of a at) (asked_succeeds (state_after s.entries) client id asked made is)
    (subst (λ (o : Option (Result Change Refusal)). IfSome o (λ (r : Result Change Refusal). OkIs r (IsNext (state_after s.entries)))) is (asked_next (state_after s.entries) client id asked))

prepare_fit : (s : Server) (alone : Bool) (said : What) → change_in said ≡ None → fits s.entries said ≡ true → Fit EntersFit s (prepare alone s said)
prepare_fit s alone said none fine = fit_if s (is_busy alone s) (Defer ∷ []) (Prepare said ∷ []) (λ is. (tt, tt)) (λ is. ((none, fine), tt))

make_fit : (s : Server) (alone : Bool) (made : Change) → HandMay made s → Fit EntersFit s (make alone s made)
make_fit s alone (change.Mksnap id dir name) may = prepare_fit s alone (what.PrepareCreate id) refl refl
make_fit s alone (change.Rmsnap id) may = prepare_fit s alone (what.PrepareDestroy id) refl refl
make_fit s alone made may = (may, (tt, tt))

decided_fit : (s : Server) (alone : Bool) (client : ℕ) (id : SnapId) (asked : Request) (o : Option (Result Change Refusal)) → HandOf s client → change_asked (state_after s.entries) client id asked ≡ o → Fit EntersFit s (decided alone s o)
decided_fit s alone client id asked None of is = tt
decided_fit s alone client id asked (Some (Err refusal)) of is = (tt, tt)
decided_fit s alone client id asked (Some (Ok made)) of is = make_fit s alone made (asked_may s client id asked made of is)

new_fit : (s : Server) (alone : Bool) (a : Asked) (asked : Request) → HandOf s a.client → Fit EntersFit s (treat_new alone s a asked)
new_fit s alone a (request.Cap ino mode) of = cap_fit s a.client ino mode (GrantIt ino mode) (λ t. tt)
new_fit s alone a (request.Cat path) of = look_fit s a (answer_to s.entries (query.Cat path)) (found s.entries path)
new_fit s alone a (request.Stat path) of = look_fit s a (answer_to s.entries (query.Stat path)) (found s.entries path)
new_fit s alone a (request.List path) of = (tt, tt)
new_fit s alone a (request.Realm path) of = (tt, tt)
new_fit s alone a (request.Clones path index) of = (tt, tt)
new_fit s alone a (request.Barrier number) of = fit_if s (nat_le number (barrier s.entries)) (AnswerIt answer.Done ∷ []) (Wait ∷ []) (λ is. (tt, tt)) (λ is. (tt, tt))
new_fit s alone a asked of = decided_fit s alone a.client (next_id s) asked (change_asked (state_after s.entries) a.client (next_id s) asked) of refl

treat_fit : (s : Server) (alone : Bool) (a : Asked) → HandOf s a.client → Fit EntersFit s (treat alone s a)
treat_fit s alone a of = fit_if s (all_connected s) (treat_known alone s a (kept_answer s a)) (Wait ∷ []) (λ is. by_kept (kept_answer s a)) (λ is. (tt, tt))
  where
    by_kept : (o : Option Answer) → Fit EntersFit s (treat_known alone s a o)
    by_kept (Some said) = (tt, tt)
    by_kept None = fit_if s (is_operation s a) [] (treat_new alone s a a.request) (λ is. tt) (λ is. new_fit s alone a a.request of)

-- flushes are of files that were made, and leave the tree
and_true : (a b : Bool) → a ≡ true → b ≡ true → (a && b) ≡ true
and_true true b is then = then
and_true false b is then = absurd (true≢false (sym is))

flush_enters : (s : Server) (f : FlushMsg) → flush_fits f ≡ true → knows_file s f.ino ≡ true → (change_in (flush_entry f) ≡ None) × (fits s.entries (flush_entry f) ≡ true)
flush_enters s f fine known = by_test f.release
  where
    first : (a b d : Bool) → (a && b && d) ≡ true → a ≡ true
    first true b d is = refl
    first false b d is = is

    follows : nat_lt f.follows.0 NOSNAP.0 ≡ true
    follows = first (is_id f.follows) (f.release || is_id f.upto) (is_size f.size) fine

    whole : (is_made_file (state_after s.entries) f.ino && nat_lt f.follows.0 NOSNAP.0) ≡ true
    whole = and_true (is_made_file (state_after s.entries) f.ino) (nat_lt f.follows.0 NOSNAP.0) known follows

    by_test : (b : Bool) → (change_in (cond b (what.Release f.ino f.follows f.size) (what.Settle f.ino f.follows f.upto f.size)) ≡ None) × (fits s.entries (cond b (what.Release f.ino f.follows f.size) (what.Settle f.ino f.follows f.upto f.size)) ≡ true)
    by_test true = (refl, whole)
    by_test false = (refl, whole)

settles_fit : (s : Server) (x : ℕ) (f : FlushMsg) → EntersFit s (flush_settles x f)
settles_fit s x f = by_test f.release
  where
    by_test : (b : Bool) → EntersFit s (cond b (LetGo x f.ino) (Settled x f.ino f.upto))
    by_test true = tt
    by_test false = tt

take_fit : (s : Server) (x : ℕ) (f : FlushMsg) → flush_fits f ≡ true → knows_file s f.ino ≡ true → Fit EntersFit s (take_flush x s f)
take_fit s x f fine known = fit_if s (nat_le f.number (last_flush s.entries x)) [] (Buffer (record { client = x; number = f.number; what = flush_entry f }) ∷ flush_settles x f ∷ []) (λ is. tt)
    (λ is. (flush_enters s f fine known, (settles_fit (act s (Buffer (record { client = x; number = f.number; what = flush_entry f }))) x f, tt)))

brought_fit : (s : Server) (x : ℕ) (f : FlushMsg) → flush_fits f ≡ true → knows_file s f.ino ≡ true → Fit EntersFit s (take_brought x s f)
brought_fit s x f fine known = fit_append EntersFit s (take_flush x s f) (cond f.release [] (Settled x f.ino f.upto ∷ [])) (take_fit s x f fine known) (fit_if (acts s (take_flush x s f)) f.release [] (Settled x f.ino f.upto ∷ []) (λ is. tt) (λ is. (tt, tt)))

-- the tree after some acts is the same
abbrev SameTree : Server → Server → Type 0
SameTree s t = state_after t.entries ≡ state_after s.entries

enters_same : (s : Server) (e : Entry) → change_in e.what ≡ None → SameTree s (buffer s e)
enters_same s e none = notices_keep (SameTree s) tells s.entries (up_to s.clients) (record s { entries = s.entries ++ e ∷ [] }) (fold-append after_entry first_state s.entries (e ∷ []) ∙ ap (with_change (state_after s.entries) e.client) none)
  where
    tells : (t : Server) (x : ℕ) (inos : List Ino) → SameTree s t → SameTree s (tell t x (Changed inos))
    tells t x inos same = by_number (number_of t.current x)
      where
        by_number : (o : Option ℕ) → SameTree s (tell_at t x (Changed inos) o)
        by_number None = same
        by_number (Some conn) = same

settles_same : (s t : Server) (x : ℕ) (f : FlushMsg) → SameTree s t → SameTree s (act t (flush_settles x f))
settles_same s t x f same = by_test f.release
  where
    by_test : (b : Bool) → SameTree s (act t (cond b (LetGo x f.ino) (Settled x f.ino f.upto)))
    by_test true = same
    by_test false = same

flush_none : (f : FlushMsg) → change_in (flush_entry f) ≡ None
flush_none f = by_test f.release
  where
    by_test : (b : Bool) → change_in (cond b (what.Release f.ino f.follows f.size) (what.Settle f.ino f.follows f.upto f.size)) ≡ None
    by_test true = refl
    by_test false = refl

taken_same : (s : Server) (x : ℕ) (f : FlushMsg) → SameTree s (acts s (take_flush x s f))
taken_same s x f = by_test (nat_le f.number (last_flush s.entries x))
  where
    e : Entry
    e = record { client = x; number = f.number; what = flush_entry f }

    by_test : (b : Bool) → SameTree s (acts s (cond b [] (Buffer e ∷ flush_settles x f ∷ [])))
    by_test true = refl
    by_test false = settles_same s (buffer s e) x f (enters_same s e (flush_none f))

acts_append : (s : Server) (xs ys : List Act) → acts s (xs ++ ys) ≡ acts (acts s xs) ys
acts_append s [] ys = refl
acts_append s (a ∷ xs) ys = acts_append (act s a) xs ys

brought_same : (s : Server) (x : ℕ) (f : FlushMsg) → SameTree s (acts s (take_brought x s f))
brought_same s x f = subst (SameTree s) (sym (acts_append s (take_flush x s f) (cond f.release [] (Settled x f.ino f.upto ∷ [])))) (by_test f.release)
  where
    by_test : (b : Bool) → SameTree s (acts (acts s (take_flush x s f)) (cond b [] (Settled x f.ino f.upto ∷ [])))
    by_test true = taken_same s x f
    by_test false = taken_same s x f

abbrev AllMade : State → List FlushMsg → Type 0
AllMade state flushes = list_all (λ (f : FlushMsg). is_made_file state f.ino) flushes ≡ true

first_true : (a b : Bool) → (a && b) ≡ true → a ≡ true
first_true true b is = refl
first_true false b is = is

second_true : (a b : Bool) → (a && b) ≡ true → b ≡ true
second_true true b is = is
second_true false b is = absurd (true≢false (sym is))

all_brought : (x : ℕ) (s : Server) (flushes : List FlushMsg) → list_all flush_fits flushes ≡ true → AllMade (state_after s.entries) flushes → Fit EntersFit s (each (take_brought x) s flushes)
all_brought x s [] fine known = tt
all_brought x s (f ∷ flushes) fine known =
    let t = acts s (take_brought x s f) in
    fit_append EntersFit s (take_brought x s f) (each (take_brought x) t flushes) (brought_fit s x f (first_true (flush_fits f) (list_all flush_fits flushes) fine) (first_true (knows_file s f.ino) (list_all (λ (g : FlushMsg). is_made_file (state_after s.entries) g.ino) flushes) known))
    (all_brought x t flushes (second_true (flush_fits f) (list_all flush_fits flushes) fine) (subst (λ (state : State). AllMade state flushes) (sym (brought_same s x f)) (second_true (knows_file s f.ino) (list_all (λ (g : FlushMsg). is_made_file (state_after s.entries) g.ino) flushes) known)))

claim_fit : (x : ℕ) (s : Server) (k : Claim) → Fit EntersFit s (take_claim x s k)
claim_fit x s k = fit_if s (list_any (clash (claimed x k)) s.holders) [] (Hold (claimed x k) ∷ []) (λ is. tt) (λ is. (tt, tt))

claim_same : (x : ℕ) (s : Server) (k : Claim) → (acts s (take_claim x s k)).entries ≡ s.entries
claim_same x s k = by_test (list_any (clash (claimed x k)) s.holders)
  where
    by_test : (b : Bool) → (acts s (cond b [] (Hold (claimed x k) ∷ []))).entries ≡ s.entries
    by_test true = refl
    by_test false = refl

claims_fit : (x : ℕ) (s : Server) (said : List Claim) → Fit EntersFit s (each (take_claim x) s said)
claims_fit x s [] = tt
claims_fit x s (k ∷ said) = let t = acts s (take_claim x s k) in fit_append EntersFit s (take_claim x s k) (each (take_claim x) t said) (claim_fit x s k) (claims_fit x t said)

claims_same : (x : ℕ) (s : Server) (said : List Claim) → (acts s (each (take_claim x) s said)).entries ≡ s.entries
claims_same x s [] = refl
claims_same x s (k ∷ said) = ap (λ (t : Server). t.entries) (acts_append s (take_claim x s k) (each (take_claim x) (acts s (take_claim x s k)) said)) ∙ claims_same x (acts s (take_claim x s k)) said ∙ claim_same x s k

comes_fit : (s : Server) (x : ℕ) (said : List Claim) (flushes : List FlushMsg) → list_all flush_fits flushes ≡ true → list_all (λ (f : FlushMsg). knows_file s f.ino) flushes ≡ true → Fit EntersFit s (come_back s x said flushes)
comes_fit s x said flushes fine known = (tt, fit_append EntersFit t (each (take_claim x) t said) (each (take_brought x) u flushes) (claims_fit x t said) (all_brought x u flushes fine (subst (λ (l : List Entry). AllMade (state_after l) flushes) (sym (claims_same x t said)) known)))
  where
    t : Server
    t = acts s (LetAllGo x ∷ [])

    u : Server
    u = acts t (each (take_claim x) t said)

-- the server's own time
reported_fit : (s : Server) (m : ToServer) → Fit EntersFit s (reported s m)
reported_fit s (Purged id) = fit_if s (is_listed id (to_purge s.entries)) (Buffer _ ∷ []) [] (λ is. ((refl, is), tt)) (λ is. tt)
reported_fit s (Deleted ino) = fit_if s (list_any (same_ino ino) (dead s.entries)) (Buffer _ ∷ []) [] (λ is. ((refl, is), tt)) (λ is. tt)
reported_fit s (Connect conn said flushes asked) = tt
reported_fit s (Ask conn tid asked) = tt
reported_fit s (Flush conn f) = tt
reported_fit s (DropRead conn ino) = tt

restarts_fit : (s : Server) → Fit EntersFit s (restarts s)
restarts_fit s = fit_append EntersFit s (map TellRestart (up_to s.clients)) (roll_back_from (outstanding s.entries)) (told s (up_to s.clients)) (rolled (acts s (map TellRestart (up_to s.clients))) (outstanding s.entries))
  where
    told : (t : Server) (clients : List ℕ) → Fit EntersFit t (map TellRestart clients)
    told t [] = tt
    told t (x ∷ clients) = (tt, told (act t (TellRestart x)) clients)

    rolled : (t : Server) (o : Option (SnapId × ℕ)) → Fit EntersFit t (roll_back_from o)
    rolled t None = tt
    rolled t (Some o) = ((refl, refl), tt)

finish_fit : (s : Server) (client : ℕ) (id : SnapId) (asked : Request) (o : Option (Result Change Refusal)) → HandOf s client → change_asked (state_after s.entries) client id asked ≡ o → Fit EntersFit s (finish id o)
finish_fit s client id asked None of is = tt
finish_fit s client id asked (Some (Err refusal)) of is = ((refl, refl), (tt, tt))
finish_fit s client id asked (Some (Ok made)) of is = by_made made (asked_may s client id asked made of is)
  where
    by_made : (made : Change) → HandMay made s → Fit EntersFit s (finish_with id made)
    by_made (change.Rmsnap now) may = fit_if s (now.0 == id.0) (MakeEffect (change.Rmsnap now) ∷ AnswerIt answer.Done ∷ []) (roll_back id ∷ DeferFirst ∷ []) (λ test. (may, (tt, tt))) (λ test. ((refl, refl), (tt, tt)))
    by_made made may = (may, (tt, tt))

if_fit : (s : Server) (b : Bool) (list : List Act) → Fit EntersFit s list → IfSome (cond b (Some list) None) (Fit EntersFit s)
if_fit s true list fit = fit
if_fit s false list fit = tt

purge_fit : (s : Server) (o : Option SnapId) → IfSome (turn_purge s o) (Fit EntersFit s)
purge_fit s (Some id) = ((refl, refl), (tt, tt))
purge_fit s None = by_file (first_file (filter (is_due s) (dead s.entries)))
  where
    by_barrier : (o : Option ℕ) → IfSome (turn_barrier s o) (Fit EntersFit s)
    by_barrier None = tt
    by_barrier (Some number) = if_fit s (list_all (waits_at s number) (up_to s.clients) && is_finished s) _ ((refl, refl), fit_flat open_to (λ t x. (tt, (tt, tt))) _ (up_to s.clients))

    by_file : (o : Option Ino) → IfSome (turn_dead s o) (Fit EntersFit s)
    by_file None = by_barrier (first_barrier s.held)
    by_file (Some ino) = fit_if s (is_empty (holders_of s ino)) (SendDelete ino ∷ []) (recalls s ino (holders_of s ino)) (λ is. (tt, tt)) (λ is. recalls_fit s s ino (holders_of s ino))

turn_fit : (s : Server) → IfSome (turn s) (Fit EntersFit s)
turn_fit s = by_test (all_connected s)
  where
    Good : Option (List Act) → Type 0
    Good o = IfSome o (Fit EntersFit s)

    by_operation : (id : SnapId) (o : Option Asked) → s.operation ≡ o → Good (turn_operation s id o)
    by_operation id None is = tt
    by_operation id (Some a) is = (tt, finish_fit (act s TakeOperation) a.client id a.request (change_asked (state_after s.entries) a.client id a.request) (λ b at. hand_of s a b false (sym is ∙ at)) refl)

    by_deferred : (list : List Asked) → s.deferred ≡ list → Good (turn_deferred s list)
    by_deferred [] is = purge_fit s (least (unsent_purges s))
    by_deferred (a ∷ more) is = (tt, treat_fit (act s TakeDeferred) true a (λ b at. hand_of s a b false (sym (ap first_of is) ∙ at)))

    by_durable : (id : SnapId) (b : Bool) → Good (cond b (turn_operation s id s.operation) (turn_purge s (least (unsent_purges s))))
    by_durable id true = by_operation id s.operation refl
    by_durable id false = purge_fit s (least (unsent_purges s))

    by_outstanding : (o : Option (SnapId × ℕ)) → Good (turn_at s o)
    by_outstanding None = by_deferred s.deferred refl
    by_outstanding (Some o) = by_durable o.0 (nat_le o.1 s.durable)

    by_test : (b : Bool) → Good (cond b (turn_at s (outstanding s.entries)) None)
    by_test true = by_outstanding (outstanding s.entries)
    by_test false = tt

enters_fit : TestedFit EntersFit
enters_fit = record {
  held = λ s x. tt;
  treats = λ s a of. treat_fit s false a of;
  comes = comes_fit;
  flushes = λ s x f fine known. fit_append EntersFit s (take_flush x s f) (TellAck x f.number ∷ []) (take_fit s x f fine known) (tt, tt);
  drops = λ s x ino. fit_if s (list_any (λ h. is_holder x ino h && not (is_write h.mode)) s.holders) (LetGo x ino ∷ []) [] (λ is. (tt, tt)) (λ is. tt);
  reports = reported_fit;
  restarts = restarts_fit;
  turns = turn_fit;
}

-- each entry may follow those before it
abbrev pub AllFollow : List Entry → List Entry → Type 0
AllFollow done [] = Unit {0}
AllFollow done (e ∷ entries) = MayFollow done e × AllFollow (done ++ e ∷ []) entries

follow_end : (done entries : List Entry) (e : Entry) → MayFollow (done ++ entries) e → AllFollow done entries → AllFollow done (entries ++ e ∷ [])
follow_end done [] e may all = (subst (λ (l : List Entry). MayFollow l e) (append-nil done) may, tt)
follow_end done (x ∷ entries) e may all = (all.0, follow_end (done ++ x ∷ []) entries e (subst (λ (l : List Entry). MayFollow l e) (sym (append_assoc done (x ∷ []) entries)) may) all.1)

follow_front : (done entries more : List Entry) → AllFollow done (entries ++ more) → AllFollow done entries
follow_front done [] more all = tt
follow_front done (x ∷ entries) more all = (all.0, follow_front (done ++ x ∷ []) entries more all.1)

abbrev Entered : Server → Type 0
Entered s = AllFollow [] s.entries

tell_entered : (s : Server) (x : ℕ) (told : Told) → Entered s → Entered (tell s x told)
tell_entered s x told holds = by_number (number_of s.current x)
  where
    by_number : (o : Option ℕ) → Entered (tell_at s x told o)
    by_number None = holds
    by_number (Some conn) = holds

buffers : (s : Server) (e : Entry) → MayFollow s.entries e → Entered s → Entered (buffer s e)
buffers s e may holds = notices_keep Entered (λ t x inos so. tell_entered t x (Changed inos) so) s.entries (up_to s.clients) (record s { entries = s.entries ++ e ∷ [] }) (follow_end [] s.entries e may holds)

-- an entry without a change
no_change : (entries : List Entry) (e : Entry) → change_in e.what ≡ None → fits entries e.what ≡ true → MayFollow entries e
no_change entries e none fine = (ap (is_made_by (state_after entries) e.client) none, numbers e.what fine)
  where
    numbers : (w : What) → fits entries w ≡ true → NumbersFit entries w
    numbers (what.Mksnap id dir name) fine = tt
    numbers w fine = fine

one : (s : Server) (a : Act) → EntersFit s a → Entered s → Entered (act s a)
one s (TellRecall x ino) fit holds = tell_entered s x (WantedBack ino) holds
one s (TellAck x number) fit holds = tell_entered s x (Acked number) holds
one s (AnswerIt said) fit holds = by_hand s.hand
  where
    by_hand : (o : Option Asked) → Entered (answer_hand s said o)
    by_hand None = holds
    by_hand (Some a) = tell_entered (record s { hand = None }) a.client (Answered a.tid said) holds
one s (GrantIt ino mode) fit holds = by_hand s.hand
  where
    by_hand : (o : Option Asked) → Entered (grant_hand s ino mode o)
    by_hand None = holds
    by_hand (Some a) = tell_entered (record s { hand = None }) a.client (Granted a.tid ino mode) holds
one s (MakeEffect made) fit holds = by_hand s.hand refl
  where
    by_said : (a : Asked) (o : Option What) → IfSome o (λ said. MayFollow s.entries (entry_for a said)) → Entered (buffer_for s a o)
    by_said a None may = holds
    by_said a (Some said) may = buffers s (entry_for a said) may holds

    by_hand : (o : Option Asked) → s.hand ≡ o → Entered (effect_hand s made o)
    by_hand None is = holds
    by_hand (Some a) is = by_said a (written_down made) (fit a is)
one s (Prepare said) fit holds = by_hand s.hand
  where
    by_hand : (o : Option Asked) → Entered (prepare_hand s said o)
    by_hand None = holds
    by_hand (Some a) = buffers (record s { operation = Some a; hand = None }) (entry_for a said) (no_change s.entries (entry_for a said) fit.0 fit.1) holds
one s (Buffer e) fit holds = buffers s e (no_change s.entries e fit.0 fit.1) holds
one s a fit holds = holds

entered_kept : KeptByServer EntersFit Entered (λ b before s. Entered s) (Keeps Entered)
entered_kept = record {
  begins = λ s holds. holds;
  one = λ b before s a fit holds. one s a fit holds;
  takes = λ before s hand holds. holds;
  accepts = λ before s client conn holds. holds;
  durable = λ s holds. holds;
  survives = λ s k fit holds. follow_front [] (take (s.durable + k) s.entries) (drop (s.durable + k) s.entries) (subst (AllFollow []) (sym (take-append-drop (s.durable + k) s.entries)) holds);
  hands = λ b before s holds. holds;
  blind = λ b before r e holds. holds;
}

pub entered : (script : Script) (history : List Event) → Entered (world_after script history).server
entered script history = run_serves (tested_gives enters_fit entered_kept) (start script) (steps_of history) (no_client_start script) tt

follow_at : (done before later : List Entry) (e : Entry) → AllFollow done (before ++ e ∷ later) → MayFollow (done ++ before) e
follow_at done [] later e all = subst (λ (l : List Entry). MayFollow l e) (sym (append-nil done)) all.0
follow_at done (x ∷ before) later e all = subst (λ (l : List Entry). MayFollow l e) (append_assoc done (x ∷ []) before) (follow_at (done ++ x ∷ []) before later e all.1)

-- a snapshot that is removed is live
pub live_law : (script : Script) (history : List Event) (before later : List Entry) (e : Entry) (id : SnapId) → (world_after script history).server.entries ≡ before ++ e ∷ later → e.what ≡ what.Rmsnap id → is_live id (state_after before).snaps ≡ true
live_law script history before later e id entries is = twice (is_live id (state_after before).snaps) (subst (λ (w : What). is_made_by (state_after before) e.client (change_in w) ≡ true) is made)
  where
    made : is_made_by (state_after before) e.client (change_in e.what) ≡ true
    made = (follow_at [] before later e (subst (AllFollow []) entries (entered script history))).0

    twice : (b : Bool) → not (not b) ≡ true → b ≡ true
    twice true is = refl
    twice false is = is

-- more entries give no fewer ids
abbrev some_prepare : List Entry → List Entry
some_prepare entries = filter (λ (e : Entry). prepares e.what) entries

count_rises : (done rest : List Entry) → length (some_prepare done) ≤ length (some_prepare (done ++ rest))
count_rises [] rest = omega arith
count_rises (x ∷ done) rest = by_test (prepares x.what) (count_rises done rest)
  where
    by_test : (b : Bool) → length (some_prepare done) ≤ length (some_prepare (done ++ rest)) → length (cond b (x ∷ some_prepare done) (some_prepare done)) ≤ length (cond b (x ∷ some_prepare (done ++ rest)) (some_prepare (done ++ rest)))
    by_test true is = omega (arith, is)
    by_test false is = is

next_rises : (done rest : List Entry) → next_snap done ≤ next_snap (done ++ rest)
next_rises done rest = let more = count_rises done rest in omega (arith, more)

-- with the ids of snapshots: `later` is what was entered after these
journal_from : (script : Script) (history : List Event) (done rest later : List Entry) → next_snap (done ++ rest) ≤ 4611686018427387904 → (world_after script history).server.entries ≡ done ++ (rest ++ later) → AllFollow done rest → legal_after done rest ≡ true
journal_from script history done [] later few entries all = refl
journal_from script history done (e ∷ rest) later few entries all =
    and_true (is_legal done e) (legal_after (done ++ e ∷ []) rest) (and_true (is_made_by (state_after done) e.client (change_in e.what)) (fits done e.what) all.0.0 (by_what e.what refl all.0.1))
    (journal_from script history (done ++ e ∷ []) rest later (subst (λ (l : List Entry). next_snap l ≤ 4611686018427387904) (sym (append_assoc done (e ∷ []) rest)) few) (entries ∙ sym (append_assoc done (e ∷ []) (rest ++ later))) all.1)
  where
    lower : (a b c most : ℕ) → a < b → b ≤ c → c ≤ most → nat_lt a most ≡ true
    lower a b c most less one two = grind (arith, nat_tests, less, one, two)

    below : (a b : ℕ) → a < b → nat_lt a b ≡ true
    below a b is = grind (arith, nat_tests, is)

    by_what : (w : What) → e.what ≡ w → NumbersFit done w → fits done w ≡ true
    by_what (what.Mksnap id dir name) is may = and_true (nat_lt (applied done) id.0) (is_given id)
        (below (applied done) id.0 (above_law script history done (rest ++ later) e id dir name entries is))
        (lower id.0 (next_snap done) (next_snap (done ++ e ∷ rest)) 4611686018427387904 (below_law script history done (rest ++ later) e id dir name entries is) (next_rises done (e ∷ rest)) few)
    by_what w is may = may

pub entered_law : (script : Script) (history : List Event) → next_snap (world_after script history).server.entries ≤ 4611686018427387904 → is_journal (world_after script history).server.entries ≡ true
entered_law script history few = journal_from script history [] (world_after script history).server.entries [] few (sym (append-nil (world_after script history).server.entries)) (entered script history)

pub durable_law : (script : Script) (history : List Event) → next_snap (journal (world_after script history)) ≤ 4611686018427387904 → is_journal (journal (world_after script history)) ≡ true
durable_law script history few = journal_from script history [] (take s.durable s.entries) (drop s.durable s.entries) few (sym (take-append-drop s.durable s.entries))
    (follow_front [] (take s.durable s.entries) (drop s.durable s.entries) (subst (AllFollow []) (sym (take-append-drop s.durable s.entries)) (entered script history)))
  where
    s : Server
    s = (world_after script history).server

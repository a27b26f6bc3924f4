-- What fits the server's tables: holders that don't clash, and one operation at a time.
use Rattle.std.proofs.Common.{◌≡◌, ◌≤◌, ◌+◌, ℕ, List, [], ◌∷◌, ◌++◌, map, filter, not, Bool, true, false, true≢false, cond, Option, None, Some, refl, ◌∙◌, ap, sym, subst, IfSome, arith}
use Rattle.std.proofs.lemmas.Bool.Decides.{nat_tests}
use Rattle.std.specs.Prelude.{nat_lt, take, zero, suc, ◌||◌, ◌&&◌, ◌==◌, nat_le, flat_map, find, is_some, Result, Ok, Err}
use Rattle.std.specs.List.{list_any, list_all, cons_option}
use Rattle.snap_ids.specs.declared.id.Ino.{Ino}
use Rattle.snap_ids.specs.declared.id.SnapId.{SnapId}
use Rattle.snap_ids.specs.declared.values.Kind.{Kind}
use Rattle.snap_ids.specs.declared.values.Kind.TheVariants.{Dir, File}
use Rattle.snap_ids.specs.declared.values.Mode.{Mode}
use Rattle.snap_ids.specs.declared.values.Mode.TheVariants.{Read, Write}
use Rattle.snap_ids.specs.Context.{is_listed}
use Rattle.snap_ids.specs.Name.{is_new_snap}
use Rattle.snap_ids.specs.Path.{Place, Live, Snaps, InSnap, place_of}
use Rattle.plain_types.specs.declared.answer.Answer.{Answer}
use Rattle.plain_types.specs.declared.answer.Answer.TheVariants as answer
use Rattle.plain_types.specs.declared.answer.Refusal.{Refusal}
use Rattle.plain_types.specs.declared.answer.Refusal.TheVariants.{BadName, Exists, TooManySnaps, TooManyLive, BadHandle}
use Rattle.plain_types.specs.declared.change.Change.{Change}
use Rattle.plain_types.specs.declared.change.Change.TheVariants as change
use Rattle.plain_types.specs.declared.entry.Entry.{Entry}
use Rattle.plain_types.specs.declared.entry.What.{What}
use Rattle.plain_types.specs.declared.entry.What.TheVariants as what
use Rattle.plain_types.specs.declared.message.Claim.{Claim}
use Rattle.plain_types.specs.declared.message.FlushMsg.{FlushMsg}
use Rattle.plain_types.specs.declared.message.ToServer.{ToServer}
use Rattle.plain_types.specs.declared.message.ToServer.TheVariants.{Connect, Ask, Flush, DropRead, Purged, Deleted}
use Rattle.plain_types.specs.declared.request.Query.TheVariants as query
use Rattle.plain_types.specs.declared.request.Request.{Request}
use Rattle.plain_types.specs.declared.request.Request.TheVariants as request
use Rattle.plain_tree.specs.State.{State, Snapshot, same_ino, kind_in, next_ino}
use Rattle.plain_tree.specs.Query.{Found, InLive, SnapsOf, InTree}
use Rattle.plain_tree.specs.Change.{own_snap, has_all_snaps, are_all_live, open_of}
use Rattle.plain_tree.specs.Request.{and_then as and_then_do, tree_of, walk_live, in_directory, on_file, new_entry, to_unlink, to_remove, to_link, to_move, on_live, new_snap, mkdir, remove_snap, roots_snap, rmdir, create, unlink, link, rename, chmod, open_file, change_asked}
use Rattle.plain_journal.specs.Answers.{found, answer_to}
use Rattle.plain_journal.specs.Entries.{state_after, tree_at, applied}
use Rattle.plain_journal.specs.Table.{removed_by, outstanding, to_purge, dead, last_flush, barrier}
use Rattle.held_files.specs.Files.{is_empty, is_write}
use Rattle.step_table.specs.ServerState.{Changed, tell, tell_at, number_of, Asked, Holder, Server, up_to, is_holder, is_writer, all_connected}
use Rattle.step_table.specs.Acts.{SendPurge, own_entry, Act, written_down, TellRecall, TellAck, TellRestart, AnswerIt, GrantIt, MakeEffect, Prepare, Wait, Defer, DeferFirst, TakeDeferred, TakeOperation, Buffer, SendDelete, Hold, Raise, MarkRecalled, Settled, LetGo, LetAllGo, act, acts, each}
use Rattle.step_table.specs.Capabilities.{is_against, in_conflict, against, is_recalled, recall, recalls, tenure, give_to, give, ask_cap, found_live, ask_found, clash, owing}
use Rattle.step_table.specs.Requests.{treat, treat_known, treat_new, kept_answer, is_operation, decided, make, prepare, is_busy, next_id, by_kind, settled_answer, look_at}
use Rattle.step_table.specs.Flushes.{flush_entry, flush_settles, take_flush, claimed, take_claim, take_brought}
use Rattle.step_table.specs.Background.{removed, least_of, roll_back, finish, finish_with, least, unsent_purges, holders_of, is_due, first_file, first_barrier, waits_at, is_finished, open_to, turn_barrier, turn_dead, turn_purge, turn_deferred, turn_operation, turn_at, turn}
use Rattle.step_table.specs.ServerRows.{reported, restarts, roll_back_from}
use Rattle.run_laws.specs.Tables.{IsOut, EntryFits}
use Rattle.run_laws.proofs.Acts.{Fit, fit_append, notices_keep}
use Rattle.run_laws.proofs.Gives.{AlwaysFit}
use Rattle.run_laws.proofs.Holders.{or_false}

-- A new holder clashes with none, Read is raised where no other holds the file, what is written
-- down fits the entries, an id is purged whose removal is durable, and no restart is told to the store.
abbrev pub TableFits : Server → Act → Type 0
TableFits s (Hold h) = list_any (clash h) s.holders ≡ false
TableFits s (Raise client ino upto) = in_conflict s client ino Write ≡ false
TableFits s (Prepare said) = EntryFits s.entries said
TableFits s (MakeEffect made) = IfSome (written_down made) (EntryFits s.entries)
TableFits s (Buffer e) = EntryFits s.entries e.what
TableFits s (SendPurge id) = is_listed id (removed (take s.durable s.entries)) ≡ true
TableFits s (TellRestart client) = (client == s.clients + 1) ≡ false
TableFits s a = Unit {0}

fit_if : (s : Server) (b : Bool) (xs ys : List Act) → (b ≡ true → Fit TableFits s xs) → (b ≡ false → Fit TableFits s ys) → Fit TableFits s (cond b xs ys)
fit_if s true xs ys here other = here refl
fit_if s false xs ys here other = other refl

fit_flat : {X : Type 0} (f : X → List Act) → ((s : Server) (x : X) → Fit TableFits s (f x)) → (s : Server) (xs : List X) → Fit TableFits s (flat_map f xs)
fit_flat f one s [] = tt
fit_flat f one s (x ∷ xs) = fit_append TableFits s (f x) (flat_map f xs) (one s x) (fit_flat f one (acts s (f x)) xs)

fit_each : {X : Type 0} (rule : Server → X → List Act) → ((s : Server) (x : X) → Fit TableFits s (rule s x)) → (s : Server) (xs : List X) → Fit TableFits s (each rule s xs)
fit_each rule one s [] = tt
fit_each rule one s (x ∷ xs) = fit_append TableFits s (rule s x) (each rule (acts s (rule s x)) xs) (one s x) (fit_each rule one (acts s (rule s x)) xs)

-- capabilities: `at` is the state in which the recalls were thought of
recalls_fit : (at s : Server) (ino : Ino) (clients : List ℕ) → Fit TableFits s (recalls at ino clients)
recalls_fit at s ino clients = fit_flat (recall at ino) (λ t x. fit_if t (is_recalled at ino x) [] (MarkRecalled x ino ∷ TellRecall x ino ∷ []) (λ is. tt) (λ is. (tt, (tt, tt)))) s clients

-- nobody is against it, and the client doesn't hold it
tenure_fits : (s : Server) (x : ℕ) (ino : Ino) (mode : Mode) (holders : List Holder) → list_any (is_against x ino mode) holders ≡ false → find (is_holder x ino) holders ≡ None → list_any (clash (tenure s x ino mode)) holders ≡ false
tenure_fits s x ino mode [] none no_holder = refl
tenure_fits s x ino mode (h ∷ holders) none no_holder = by_holder (is_holder x ino h) refl no_holder (λ rest. tenure_fits s x ino mode holders parts.1 rest)
  where
    parts : (is_against x ino mode h ≡ false) × (list_any (is_against x ino mode) holders ≡ false)
    parts = or_false (is_against x ino mode h) (list_any (is_against x ino mode) holders) none

    apart : (same mine a b : Bool) → (not mine && same && (a || b)) ≡ false → (mine && same) ≡ false → (same && (a || b || mine)) ≡ false
    apart true true a b no_one holder = absurd (true≢false holder)
    apart true false true b no_one holder = no_one
    apart true false false true no_one holder = no_one
    apart true false false false no_one holder = refl
    apart false mine a b no_one holder = refl

    swap : (same_ino ino h.ino ≡ same_ino h.ino ino) × ((x == h.client) ≡ (h.client == x))
    swap = (grind (arith, nat_tests), grind (arith, nat_tests))

    clear : is_holder x ino h ≡ false → clash (tenure s x ino mode) h ≡ false
    clear isnt = rw (swap.0, swap.1) (apart (same_ino h.ino ino) (h.client == x) (is_write mode) (is_write h.mode) parts.0 isnt)

    by_holder : (b : Bool) → is_holder x ino h ≡ b → cond b (Some h) (find (is_holder x ino) holders) ≡ None → (find (is_holder x ino) holders ≡ None → list_any (clash (tenure s x ino mode)) holders ≡ false) → list_any (clash (tenure s x ino mode)) (h ∷ holders) ≡ false
    by_holder true is none go = cc
    by_holder false is none go = rw (clear is, go none) refl

give_fit : (s : Server) (x : ℕ) (ino : Ino) (mode : Mode) → in_conflict s x ino mode ≡ false → Fit TableFits s (give s x ino mode)
give_fit s x ino mode free = by_holder (find (is_holder x ino) s.holders) refl
  where
    write : (m : Mode) (b : Bool) → (is_write m && b) ≡ true → in_conflict s x ino m ≡ false → in_conflict s x ino Write ≡ false
    write Write b is free = free
    write Read b is free = absurd (true≢false (sym is))

    by_holder : (o : Option Holder) → find (is_holder x ino) s.holders ≡ o → Fit TableFits s (give_to s x ino mode o)
    by_holder None is = (tenure_fits s x ino mode s.holders free is, tt)
    by_holder (Some h) is = fit_if s (is_write mode && not (is_write h.mode)) (Raise x ino (record { 0 = applied s.entries }) ∷ []) [] (λ raise. (write mode (not (is_write h.mode)) raise free, tt)) (λ raise. tt)

cap_fit : (s : Server) (x : ℕ) (ino : Ino) (mode : Mode) (granted : Act) → ((t : Server) → TableFits t granted) → Fit TableFits s (ask_cap s x ino mode granted)
cap_fit s x ino mode granted fits = fit_if s (in_conflict s x ino mode) (recalls s ino (against s x ino mode) ++ Wait ∷ []) (give s x ino mode ++ granted ∷ [])
    (λ is. fit_append TableFits s (recalls s ino (against s x ino mode)) (Wait ∷ []) (recalls_fit s s ino (against s x ino mode)) (tt, tt))
    (λ free. fit_append TableFits s (give s x ino mode) (granted ∷ []) (give_fit s x ino mode free) (fits (acts s (give s x ino mode)), tt))

found_fit : (s : Server) (x : ℕ) (ino : Ino) → Fit TableFits s (ask_found s x ino)
found_fit s x ino = fit_if s (list_any (is_writer x ino) s.holders) (AnswerIt (found_live s ino true) ∷ []) (ask_cap s x ino Read (AnswerIt (found_live s ino false))) (λ is. (tt, tt)) (λ is. cap_fit s x ino Read (AnswerIt (found_live s ino false)) (λ t. tt))

kind_fit : (s : Server) (k : Kind) (xs ys : List Act) → Fit TableFits s xs → Fit TableFits s ys → Fit TableFits s (by_kind k xs ys)
kind_fit s Dir xs ys one other = one
kind_fit s File xs ys one other = other

look_fit : (s : Server) (a : Asked) (said : Answer) (o : Result Found Refusal) → Fit TableFits s (look_at s a said o)
look_fit s a said (Ok (InLive ino)) = kind_fit s (kind_in (state_after s.entries).inodes ino) (AnswerIt said ∷ []) (ask_found s a.client ino) (tt, tt) (found_fit s a.client ino)
look_fit s a said (Ok (InTree id ino)) = kind_fit s (kind_in (tree_at s.entries id).inodes ino) (AnswerIt said ∷ []) (AnswerIt (settled_answer said (owing s ino id)) ∷ []) (tt, tt) (tt, tt)
look_fit s a said (Ok (SnapsOf dir)) = (tt, tt)
look_fit s a said (Err refusal) = (tt, tt)

-- The id of a snapshot that a request is said to make is the given one.
abbrev pub OkIs : {A : Type 0} → Result A Refusal → (A → Type 0) → Type 0
OkIs (Ok a) P = P a
OkIs (Err refusal) P = Unit {0}

abbrev IsGiven : SnapId → Change → Type 0
IsGiven id (change.Mksnap given dir name) = given ≡ id
IsGiven id made = Unit {0}

pub then_ok : {A B : Type 0} (r : Result A Refusal) (go_on : A → Result B Refusal) (P : B → Type 0) → ((a : A) → OkIs (go_on a) P) → OkIs (and_then_do r go_on) P
then_ok (Ok a) go_on P all = all a
then_ok (Err refusal) go_on P all = tt

pub directory_ok : {A : Type 0} (k : Kind) (r : Result A Refusal) (P : A → Type 0) → OkIs r P → OkIs (in_directory k r) P
directory_ok Dir r P holds = holds
directory_ok File r P holds = tt

pub file_ok : {A : Type 0} (k : Kind) (r : Result A Refusal) (P : A → Type 0) → OkIs r P → OkIs (on_file k r) P
file_ok Dir r P holds = tt
file_ok File r P holds = holds

pub unless_ok : {A : Type 0} (b : Bool) (e : Refusal) (r : Result A Refusal) (P : A → Type 0) → OkIs r P → OkIs (cond b (Err e) r) P
unless_ok true e r P holds = tt
unless_ok false e r P holds = holds

pub if_ok : {A : Type 0} (b : Bool) (q r : Result A Refusal) (P : A → Type 0) → OkIs q P → OkIs r P → OkIs (cond b q r) P
if_ok true q r P one other = one
if_ok false q r P one other = other

pub live_ok : (p : Place) (go_on : List (List ℕ) → Result Change Refusal) (P : Change → Type 0) → ((path : List (List ℕ)) → OkIs (go_on path) P) → OkIs (on_live p go_on) P
live_ok (Live path) go_on P all = all path
live_ok (Snaps dir) go_on P all = tt
live_ok (InSnap dir name below) go_on P all = tt

mkdir_given : (state : State) (id : SnapId) (p : Place) → OkIs (mkdir state id p) (IsGiven id)
mkdir_given state id (Live path) = then_ok (new_entry (tree_of state) (next_ino state) path) (λ new. Ok (change.Mkdir new.dir new.name new.ino)) (IsGiven id) (λ new. tt)
mkdir_given state id (Snaps dir) = tt
mkdir_given state id (InSnap dir name (below ∷ rest)) = tt
mkdir_given state id (InSnap dir name []) = then_ok (walk_live (tree_of state) dir) (new_snap state id name) (IsGiven id) (λ at. directory_ok (kind_in state.inodes at) _ (IsGiven id)
    (unless_ok (not (is_new_snap name)) BadName _ (IsGiven id)
    (unless_ok (is_some (own_snap state.snaps at name)) Exists _ (IsGiven id)
    (unless_ok (has_all_snaps state.snaps at) TooManySnaps _ (IsGiven id)
    (unless_ok (are_all_live state.snaps) TooManyLive (Ok (change.Mksnap id at name)) (IsGiven id) refl)))))

rmdir_given : (state : State) (id : SnapId) (p : Place) → OkIs (rmdir state p) (IsGiven id)
rmdir_given state id (Live path) = then_ok (to_remove (roots_snap state.snaps) (tree_of state) path) (λ old. Ok (change.Rmdir old.dir old.name)) (IsGiven id) (λ old. tt)
rmdir_given state id (Snaps dir) = tt
rmdir_given state id (InSnap dir name (below ∷ rest)) = tt
rmdir_given state id (InSnap path name []) = then_ok (walk_live (tree_of state) path) _ (IsGiven id) (λ dir. directory_ok (kind_in state.inodes dir) (remove_snap (own_snap state.snaps dir name)) (IsGiven id) (removed (own_snap state.snaps dir name)))
  where
    removed : (o : Option Snapshot) → OkIs (remove_snap o) (IsGiven id)
    removed None = tt
    removed (Some snap) = tt

asked_given : (state : State) (client : ℕ) (id : SnapId) (asked : Request) → IfSome (change_asked state client id asked) (λ (r : Result Change Refusal). OkIs r (IsGiven id))
asked_given state client id (request.Mkdir path) = mkdir_given state id (place_of path)
asked_given state client id (request.Rmdir path) = rmdir_given state id (place_of path)
asked_given state client id (request.Create path mode) = live_ok (place_of path) (create state mode) (IsGiven id) (λ p. then_ok (new_entry (tree_of state) (next_ino state) p) _ (IsGiven id) (λ new. tt))
asked_given state client id (request.Unlink path) = live_ok (place_of path) (unlink state) (IsGiven id) (λ p. then_ok (to_unlink (tree_of state) p) _ (IsGiven id) (λ old. tt))
asked_given state client id (request.Link path target) = live_ok (place_of path) _ (IsGiven id) (λ from. live_ok (place_of target) (link state from) (IsGiven id) (λ p. then_ok (to_link (tree_of state) from p) _ (IsGiven id) (λ new. tt)))
asked_given state client id (request.Rename path target) = live_ok (place_of path) _ (IsGiven id) (λ from. live_ok (place_of target) (rename state from) (IsGiven id) (λ p. then_ok (to_move (tree_of state) from p) _ (IsGiven id) (λ both. tt)))
asked_given state client id (request.Chmod path mode) = live_ok (place_of path) (chmod state mode) (IsGiven id) (λ p. then_ok (walk_live (tree_of state) p) _ (IsGiven id) (λ ino. tt))
asked_given state client id (request.Open handle path writable) = live_ok (place_of path) (open_file state client handle writable) (IsGiven id) (λ p. unless_ok (is_some (open_of state.handles client handle)) BadHandle _ (IsGiven id) (then_ok (walk_live (tree_of state) p) _ (IsGiven id) (λ ino. file_ok (kind_in state.inodes ino) (Ok (change.OpenFile handle ino writable)) (IsGiven id) tt)))
asked_given state client id (request.Close handle) = if_ok (is_some (open_of state.handles client handle)) (Ok (change.CloseFile handle)) (Err BadHandle) (IsGiven id) tt tt
asked_given state client id asked = tt

-- requests
prepare_fit : (s : Server) (alone : Bool) (said : What) → (outstanding s.entries ≡ None → EntryFits s.entries said) → Fit TableFits s (prepare alone s said)
prepare_fit s alone said fits = fit_if s (is_busy alone s) (Defer ∷ []) (Prepare said ∷ []) (λ is. (tt, tt)) (λ is. (fits (none (outstanding s.entries) (not alone && not (is_empty s.deferred)) is), tt))
  where
    none : {X : Type 0} (o : Option X) (b : Bool) → (is_some o || b) ≡ false → o ≡ None
    none None b is = refl
    none (Some x) b is = absurd (true≢false is)

make_fit : (s : Server) (alone : Bool) (made : Change) → IsGiven (next_id s) made → Fit TableFits s (make alone s made)
make_fit s alone (change.Mksnap id dir name) given = prepare_fit s alone (what.PrepareCreate id) (λ none. (none, ap (λ (t : SnapId). t.0) given))
make_fit s alone (change.Rmsnap id) given = prepare_fit s alone (what.PrepareDestroy id) (λ none. none)
make_fit s alone made given = (tt, (tt, tt))

decided_fit : (s : Server) (alone : Bool) (o : Option (Result Change Refusal)) → IfSome o (λ (r : Result Change Refusal). OkIs r (IsGiven (next_id s))) → Fit TableFits s (decided alone s o)
decided_fit s alone None given = tt
decided_fit s alone (Some (Err refusal)) given = (tt, tt)
decided_fit s alone (Some (Ok made)) given = make_fit s alone made given

new_fit : (s : Server) (alone : Bool) (a : Asked) (asked : Request) → Fit TableFits s (treat_new alone s a asked)
new_fit s alone a (request.Cap ino mode) = cap_fit s a.client ino mode (GrantIt ino mode) (λ t. tt)
new_fit s alone a (request.Cat path) = look_fit s a (answer_to s.entries (query.Cat path)) (found s.entries path)
new_fit s alone a (request.Stat path) = look_fit s a (answer_to s.entries (query.Stat path)) (found s.entries path)
new_fit s alone a (request.List path) = (tt, tt)
new_fit s alone a (request.Realm path) = (tt, tt)
new_fit s alone a (request.Clones path index) = (tt, tt)
new_fit s alone a (request.Barrier number) = fit_if s (nat_le number (barrier s.entries)) (AnswerIt answer.Done ∷ []) (Wait ∷ []) (λ is. (tt, tt)) (λ is. (tt, tt))
new_fit s alone a asked = decided_fit s alone (change_asked (state_after s.entries) a.client (next_id s) asked) (asked_given (state_after s.entries) a.client (next_id s) asked)

treat_fit : (s : Server) (alone : Bool) (a : Asked) → Fit TableFits s (treat alone s a)
treat_fit s alone a = fit_if s (all_connected s) (treat_known alone s a (kept_answer s a)) (Wait ∷ []) (λ is. by_kept (kept_answer s a)) (λ is. (tt, tt))
  where
    by_kept : (o : Option Answer) → Fit TableFits s (treat_known alone s a o)
    by_kept (Some said) = (tt, tt)
    by_kept None = fit_if s (is_operation s a) [] (treat_new alone s a a.request) (λ is. tt) (λ is. new_fit s alone a a.request)

-- flushes and claims
flush_fits_it : (entries : List Entry) (f : FlushMsg) → EntryFits entries (flush_entry f)
flush_fits_it entries f = by_test f.release
  where
    by_test : (b : Bool) → EntryFits entries (cond b (what.Release f.ino f.follows f.size) (what.Settle f.ino f.follows f.upto f.size))
    by_test true = tt
    by_test false = tt

settles_fit : (s : Server) (x : ℕ) (f : FlushMsg) → TableFits s (flush_settles x f)
settles_fit s x f = by_test f.release
  where
    by_test : (b : Bool) → TableFits s (cond b (LetGo x f.ino) (Settled x f.ino f.upto))
    by_test true = tt
    by_test false = tt

take_fit : (s : Server) (x : ℕ) (f : FlushMsg) → Fit TableFits s (take_flush x s f)
take_fit s x f = fit_if s (nat_le f.number (last_flush s.entries x)) [] (Buffer (record { client = x; number = f.number; what = flush_entry f }) ∷ flush_settles x f ∷ []) (λ is. tt) (λ is. (flush_fits_it s.entries f, (settles_fit (act s (Buffer (record { client = x; number = f.number; what = flush_entry f }))) x f, tt)))

claim_fit : (x : ℕ) (s : Server) (k : Claim) → Fit TableFits s (take_claim x s k)
claim_fit x s k = fit_if s (list_any (clash (claimed x k)) s.holders) [] (Hold (claimed x k) ∷ []) (λ is. tt) (λ is. (is, tt))

brought_fit : (x : ℕ) (s : Server) (f : FlushMsg) → Fit TableFits s (take_brought x s f)
brought_fit x s f = fit_append TableFits s (take_flush x s f) (cond f.release [] (Settled x f.ino f.upto ∷ [])) (take_fit s x f) (fit_if (acts s (take_flush x s f)) f.release [] (Settled x f.ino f.upto ∷ []) (λ is. tt) (λ is. (tt, tt)))

-- the server's own time
reported_fit : (s : Server) (m : ToServer) → Fit TableFits s (reported s m)
reported_fit s (Purged id) = fit_if s (is_listed id (to_purge s.entries)) (Buffer _ ∷ []) [] (λ is. (tt, tt)) (λ is. tt)
reported_fit s (Deleted ino) = fit_if s (list_any (same_ino ino) (dead s.entries)) (Buffer _ ∷ []) [] (λ is. (tt, tt)) (λ is. tt)
reported_fit s (Connect conn said flushes asked) = tt
reported_fit s (Ask conn tid asked) = tt
reported_fit s (Flush conn f) = tt
reported_fit s (DropRead conn ino) = tt

-- numbers up to some one
abbrev pub AllUpTo : ℕ → List ℕ → Type 0
AllUpTo most [] = Unit {0}
AllUpTo most (x ∷ list) = (x ≤ most) × AllUpTo most list

up_to_end : (most : ℕ) (list : List ℕ) → AllUpTo most list → AllUpTo (suc most) (list ++ (most + 1) ∷ [])
up_to_end most [] all = (omega arith, tt)
up_to_end most (x ∷ list) all = (let less = all.0 in omega (arith, less), up_to_end most list all.1)

pub up_to_all : (most : ℕ) → AllUpTo most (up_to most)
up_to_all zero = tt
up_to_all (suc most) = up_to_end most (up_to most) (up_to_all most)

restarts_fit : (s : Server) → Fit TableFits s (restarts s)
restarts_fit s = fit_append TableFits s (map TellRestart (up_to s.clients)) (roll_back_from (outstanding s.entries)) (told s (up_to s.clients) (up_to_all s.clients)) (rolled (acts s (map TellRestart (up_to s.clients))) (outstanding s.entries))
  where
    below : (x most : ℕ) → x ≤ most → (x == most + 1) ≡ false
    below x most less = grind (arith, nat_tests, less)

    told : (t : Server) (clients : List ℕ) → AllUpTo t.clients clients → Fit TableFits t (map TellRestart clients)
    told t [] all = tt
    told t (x ∷ clients) all = (below x t.clients all.0, told (act t (TellRestart x)) clients all.1)

    rolled : (t : Server) (o : Option (SnapId × ℕ)) → Fit TableFits t (roll_back_from o)
    rolled t None = tt
    rolled t (Some o) = (tt, tt)

finish_fit : (s : Server) (id : SnapId) (o : Option (Result Change Refusal)) → IsOut s.entries id → IfSome o (λ (r : Result Change Refusal). OkIs r (IsGiven id)) → Fit TableFits s (finish id o)
finish_fit s id None out given = tt
finish_fit s id (Some (Err refusal)) out given = (tt, (tt, tt))
finish_fit s id (Some (Ok made)) out given = by_made made given
  where
    same : (now : SnapId) → (now.0 == id.0) ≡ true → id ≡ now
    same now is = ap (λ (n : ℕ). record { 0 = n }) (equal now is)
      where
        equal : (now : SnapId) → (now.0 == id.0) ≡ true → id.0 ≡ now.0
        equal now is = grind (arith, nat_tests, is)

    by_made : (made : Change) → IsGiven id made → Fit TableFits s (finish_with id made)
    by_made (change.Mksnap given dir name) is = (subst (IsOut s.entries) (sym is) out, (tt, tt))
    by_made (change.Rmsnap now) is = fit_if s (now.0 == id.0) (MakeEffect (change.Rmsnap now) ∷ AnswerIt answer.Done ∷ []) (roll_back id ∷ DeferFirst ∷ []) (λ test. (subst (IsOut s.entries) (same now test) out, (tt, tt))) (λ test. (tt, (tt, tt)))
    by_made made is = (tt, (tt, tt))

if_fit : (s : Server) (b : Bool) (list : List Act) → Fit TableFits s list → IfSome (cond b (Some list) None) (Fit TableFits s)
if_fit s true list fit = fit
if_fit s false list fit = tt

-- the least of some ids is one of them
least_passes : (q : SnapId → Bool) (ids : List SnapId) → IfSome (least (filter q ids)) (λ id. q id ≡ true)
least_passes q [] = tt
least_passes q (x ∷ ids) = by_test (q x) refl (least_passes q ids)
  where
    one_of : (a b : SnapId) (d : Bool) → q a ≡ true → q b ≡ true → q (cond d a b) ≡ true
    one_of a b true here other = here
    one_of a b false here other = other

    of_two : (o : Option SnapId) → q x ≡ true → IfSome o (λ id. q id ≡ true) → IfSome (least_of x o) (λ id. q id ≡ true)
    of_two None is rest = is
    of_two (Some t) is rest = one_of x t (nat_lt x.0 t.0) is rest

    by_test : (b : Bool) → q x ≡ b → IfSome (least (filter q ids)) (λ id. q id ≡ true) → IfSome (least (cond b (x ∷ filter q ids) (filter q ids))) (λ id. q id ≡ true)
    by_test true is rest = of_two (least (filter q ids)) is rest
    by_test false is rest = rest

unsent_removed : (s : Server) → IfSome (least (unsent_purges s)) (λ id. is_listed id (removed (take s.durable s.entries)) ≡ true)
unsent_removed s = weaker (least (unsent_purges s)) (least_passes (λ id. is_listed id (removed (take s.durable s.entries)) && not (is_listed id s.purging)) (to_purge s.entries))
  where
    first : (a b : Bool) → (a && b) ≡ true → a ≡ true
    first true b is = refl
    first false b is = is

    weaker : (o : Option SnapId) → IfSome o (λ id. (is_listed id (removed (take s.durable s.entries)) && not (is_listed id s.purging)) ≡ true) → IfSome o (λ id. is_listed id (removed (take s.durable s.entries)) ≡ true)
    weaker None is = tt
    weaker (Some id) is = first (is_listed id (removed (take s.durable s.entries))) (not (is_listed id s.purging)) is

-- an entry that removes nothing
take_none : (d : ℕ) → removed (take d []) ≡ []
take_none zero = refl
take_none (suc d) = refl

removed_more : (d : ℕ) (entries : List Entry) (e : Entry) → removed_by e.what ≡ None → removed (take d (entries ++ e ∷ [])) ≡ removed (take d entries)
removed_more zero entries e none = refl
removed_more (suc d) [] e none = rw none (take_none d)
removed_more (suc d) (x ∷ entries) e none = ap (cons_option (removed_by x.what)) (removed_more d entries e none)

after_trim : (s : Server) (id : SnapId) → is_listed id (removed (take s.durable s.entries)) ≡ true → (let t = act s (Buffer (own_entry (what.Trim id))) in is_listed id (removed (take t.durable t.entries)) ≡ true)
after_trim s id gone = notices_keep (λ (t : Server). is_listed id (removed (take t.durable t.entries)) ≡ true) tells s.entries (up_to s.clients) (record s { entries = s.entries ++ own_entry (what.Trim id) ∷ [] })
    (ap (is_listed id) (removed_more s.durable s.entries (own_entry (what.Trim id)) refl) ∙ gone)
  where
    tells : (t : Server) (x : ℕ) (inos : List Ino) → is_listed id (removed (take t.durable t.entries)) ≡ true → (let u = tell t x (Changed inos) in is_listed id (removed (take u.durable u.entries)) ≡ true)
    tells t x inos so = by_number (number_of t.current x)
      where
        by_number : (o : Option ℕ) → (let u = tell_at t x (Changed inos) o in is_listed id (removed (take u.durable u.entries)) ≡ true)
        by_number None = so
        by_number (Some conn) = so

purge_fit : (s : Server) (o : Option SnapId) → IfSome o (λ id. is_listed id (removed (take s.durable s.entries)) ≡ true) → IfSome (turn_purge s o) (Fit TableFits s)
purge_fit s (Some id) gone = (tt, (after_trim s id gone, tt))
purge_fit s None gone = by_file (first_file (filter (is_due s) (dead s.entries)))
  where
    by_barrier : (o : Option ℕ) → IfSome (turn_barrier s o) (Fit TableFits s)
    by_barrier None = tt
    by_barrier (Some number) = if_fit s (list_all (waits_at s number) (up_to s.clients) && is_finished s) _ (tt, fit_flat open_to (λ t x. (tt, (tt, tt))) _ (up_to s.clients))

    by_file : (o : Option Ino) → IfSome (turn_dead s o) (Fit TableFits s)
    by_file None = by_barrier (first_barrier s.held)
    by_file (Some ino) = fit_if s (is_empty (holders_of s ino)) (SendDelete ino ∷ []) (recalls s ino (holders_of s ino)) (λ is. (tt, tt)) (λ is. recalls_fit s s ino (holders_of s ino))

turn_fit : (s : Server) → IfSome (turn s) (Fit TableFits s)
turn_fit s = by_test (all_connected s)
  where
    Good : Option (List Act) → Type 0
    Good o = IfSome o (Fit TableFits s)

    by_operation : (id : SnapId) (o : Option Asked) → IsOut s.entries id → Good (turn_operation s id o)
    by_operation id None out = tt
    by_operation id (Some a) out = (tt, finish_fit (act s TakeOperation) id (change_asked (state_after s.entries) a.client id a.request) out (asked_given (state_after s.entries) a.client id a.request))

    by_deferred : (list : List Asked) → Good (turn_deferred s list)
    by_deferred [] = purge_fit s (least (unsent_purges s)) (unsent_removed s)
    by_deferred (a ∷ more) = (tt, treat_fit (act s TakeDeferred) true a)

    by_durable : (id : SnapId) (b : Bool) → IsOut s.entries id → Good (cond b (turn_operation s id s.operation) (turn_purge s (least (unsent_purges s))))
    by_durable id true out = by_operation id s.operation out
    by_durable id false out = purge_fit s (least (unsent_purges s)) (unsent_removed s)

    by_outstanding : (o : Option (SnapId × ℕ)) → outstanding s.entries ≡ o → Good (turn_at s o)
    by_outstanding None is = by_deferred s.deferred
    by_outstanding (Some o) is = by_durable o.0 (nat_le o.1 s.durable) (o.1, is)

    by_test : (b : Bool) → Good (cond b (turn_at s (outstanding s.entries)) None)
    by_test true = by_outstanding (outstanding s.entries) refl
    by_test false = tt

pub tables_fit : AlwaysFit TableFits
tables_fit = record {
  held = λ s x. tt;
  treats = λ s a. treat_fit s false a;
  comes = λ s x said flushes. (tt, (let t = acts s (LetAllGo x ∷ []) in fit_append TableFits t (each (take_claim x) t said) (each (take_brought x) (acts t (each (take_claim x) t said)) flushes) (fit_each (take_claim x) (claim_fit x) t said) (fit_each (take_brought x) (brought_fit x) (acts t (each (take_claim x) t said)) flushes)));
  flushes = λ s x f. fit_append TableFits s (take_flush x s f) (TellAck x f.number ∷ []) (take_fit s x f) (tt, tt);
  drops = λ s x ino. fit_if s (list_any (λ h. is_holder x ino h && not (is_write h.mode)) s.holders) (LetGo x ino ∷ []) [] (λ is. (tt, tt)) (λ is. tt);
  reports = reported_fit;
  restarts = restarts_fit;
  turns = turn_fit;
}

-- What the server answers names no id above the newest one of its entries, and no size above the largest that they settled.
-- Its rules but those for flushes enter no flush.
use Rattle.std.proofs.Common.{◌≡◌, ◌≤◌, ℕ, List, [], ◌∷◌, ◌++◌, map, filter, fold, Bool, true, false, true≢false, not, cond, Option, None, Some, refl, sym, subst, IfSome, arith}
use Rattle.std.proofs.lemmas.Bool.Decides.{nat_tests}
use Rattle.std.specs.Prelude.{◌&&◌, ◌||◌, ◌==◌, nat_le, flat_map, find, Result, Ok, Err}
use Rattle.std.specs.List.{AllByRecursion, list_any, list_all}
use Rattle.snap_ids.specs.declared.id.Ino.{Ino}
use Rattle.snap_ids.specs.declared.id.SnapId.{SnapId}
use Rattle.snap_ids.specs.declared.values.Kind.{Kind}
use Rattle.snap_ids.specs.declared.values.Kind.TheVariants.{Dir, File}
use Rattle.snap_ids.specs.declared.values.Mode.{Mode}
use Rattle.snap_ids.specs.declared.values.Mode.TheVariants.{Read}
use Rattle.snap_ids.specs.Context.{is_listed}
use Rattle.snap_ids.specs.Path.{Place, Live, Snaps, InSnap, place_of}
use Rattle.plain_types.specs.declared.answer.Answer.{Answer}
use Rattle.plain_types.specs.declared.answer.Answer.TheVariants as answer
use Rattle.plain_types.specs.declared.answer.Refusal.{Refusal}
use Rattle.plain_types.specs.declared.answer.Refusal.TheVariants.{IsDir, NotDir}
use Rattle.plain_types.specs.declared.change.Change.{Change}
use Rattle.plain_types.specs.declared.change.Change.TheVariants as change
use Rattle.plain_types.specs.declared.entry.Entry.{Entry}
use Rattle.plain_types.specs.declared.entry.What.{What}
use Rattle.plain_types.specs.declared.entry.What.TheVariants as what
use Rattle.plain_types.specs.declared.message.ToServer.{ToServer}
use Rattle.plain_types.specs.declared.message.ToServer.TheVariants.{Connect, Ask, Flush, DropRead, Purged, Deleted}
use Rattle.plain_types.specs.declared.request.Query.TheVariants as query
use Rattle.plain_types.specs.declared.request.Request.{Request}
use Rattle.plain_types.specs.declared.request.Request.TheVariants as request
use Rattle.plain_tree.specs.Line.{answer_to as answer_of}
use Rattle.plain_tree.specs.Query.{Found, InLive, SnapsOf, InTree, found_at, id_named, in_tree, answered, list_in, list_answer, stat_in, file_in, live_only}
use Rattle.plain_tree.specs.Request.{and_then, in_directory, tree_of, walk_live, change_asked}
use Rattle.plain_tree.specs.State.{State, Snapshot, same_ino, kind_in, inode_in, listing}
use Rattle.plain_tree.specs.Walk.{walk}
use Rattle.plain_journal.specs.Answers.{found, found_live as found_answer, live_stat, stat_found, cat_found, live_answer, answer_to}
use Rattle.plain_journal.specs.Coverage.{covering, context}
use Rattle.plain_journal.specs.Entries.{change_in, state_after, tree_at}
use Rattle.plain_journal.specs.Realms.{realm_at, name_shown, shown}
use Rattle.plain_journal.specs.Settled.{settled_size}
use Rattle.plain_journal.specs.Table.{answer_kept, last_effect, is_flush, outstanding, to_purge, dead, barrier}
use Rattle.held_files.specs.Files.{is_empty, is_write}
use Rattle.step_table.specs.ServerState.{Asked, Holder, Server, up_to, is_holder, is_writer, all_connected}
use Rattle.step_table.specs.Acts.{Act, TellRecall, TellRestart, AnswerIt, Prepare, GrantIt, Wait, Defer, Buffer, SendDelete, MarkRecalled, LetGo}
use Rattle.step_table.specs.Capabilities.{in_conflict, against, is_recalled, recall, recalls, give_to, give, ask_cap, found_live, ask_found, owing}
use Rattle.step_table.specs.Requests.{treat, treat_known, treat_new, kept_for, kept_answer, is_operation, decided, make, prepare, is_busy, next_id, by_kind, settled_answer, look_at, at_barrier}
use Rattle.step_table.specs.Flushes.{on_drop}
use Rattle.step_table.specs.Background.{turn_purge, holders_of, is_due, first_file, first_barrier, waits_at, is_finished, open_to, turn_barrier, turn_dead}
use Rattle.step_table.specs.ServerRows.{reported, restarts, roll_back_from}
use Rattle.id_laws.proofs.Lists.{all_append}
use Rattle.id_laws.proofs.Newest.{AllIds, newest_by, newest_from, newest, least_from, newest_grows, covering_upto, whole_context}
use Rattle.id_laws.proofs.Sizes.{largest, largest_grows, settled_largest, AnswerUpto, answer_weaker}

-- an answer after some entries
abbrev pub SaysUpto : List Entry → Answer → Type 0
SaysUpto entries said = AnswerUpto (newest entries) (largest entries) said

pub says_more : (entries more : List Entry) (said : Answer) → SaysUpto entries said → SaysUpto (entries ++ more) said
says_more entries more said is = answer_weaker (newest entries) (largest entries) (newest (entries ++ more)) (largest (entries ++ more)) (newest_grows entries more) (largest_grows entries more) said is

-- what a path leads to is in a snapshot that was made
abbrev IsMade : List Entry → Found → Type 0
IsMade entries (InTree id ino) = id.0 ≤ newest entries
IsMade entries (InLive ino) = Unit {0}
IsMade entries (SnapsOf dir) = Unit {0}

abbrev FoundMade : List Entry → Result Found Refusal → Type 0
FoundMade entries (Ok place) = IsMade entries place
FoundMade entries (Err refusal) = Unit {0}

then_made : {A : Type 0} (entries : List Entry) (o : Result A Refusal) (go : A → Result Found Refusal) → ((x : A) → FoundMade entries (go x)) → FoundMade entries (and_then o go)
then_made entries (Ok x) go is = is x
then_made entries (Err refusal) go is = tt

directory_made : (entries : List Entry) (k : Kind) (o : Result Found Refusal) → FoundMade entries o → FoundMade entries (in_directory k o)
directory_made entries Dir o is = is
directory_made entries File o is = tt

listed_upto : (last : ℕ) (id : SnapId) (ids : List SnapId) → AllIds last ids → list_any (λ (s : SnapId). s.0 == id.0) ids ≡ true → id.0 ≤ last
listed_upto last id [] all is = absurd (true≢false (sym is))
listed_upto last id (s ∷ ids) all is = by_test (s.0 == id.0) refl is (listed_upto last id ids all.1)
  where
    by_test : (b : Bool) → (s.0 == id.0) ≡ b → (b || list_any (λ (s : SnapId). s.0 == id.0) ids) ≡ true → (list_any (λ (s : SnapId). s.0 == id.0) ids ≡ true → id.0 ≤ last) → id.0 ≤ last
    by_test true test is rest = let one = all.0 in grind (arith, nat_tests, test, one)
    by_test false test is rest = rest is

second : (a b : Bool) → (a && b) ≡ true → b ≡ true
second true b is = is
second false b is = absurd (true≢false (sym is))

shown_upto : (last : ℕ) (dir : Ino) (ids : List SnapId) → AllIds last ids → (snaps : List Snapshot)
    → AllByRecursion (λ (p : List ℕ × SnapId). p.1.0 ≤ last) (map (λ (snap : Snapshot). (name_shown dir snap, snap.id)) (filter (λ (snap : Snapshot). snap.live && list_any (λ (s : SnapId). s.0 == snap.id.0) ids) snaps))
shown_upto last dir ids all [] = tt
shown_upto last dir ids all (snap ∷ snaps) = by_test (snap.live && list_any (λ (s : SnapId). s.0 == snap.id.0) ids) refl (shown_upto last dir ids all snaps)
  where
    rest : List Snapshot
    rest = filter (λ (snap : Snapshot). snap.live && list_any (λ (s : SnapId). s.0 == snap.id.0) ids) snaps

    name : Snapshot → List ℕ × SnapId
    name s = (name_shown dir s, s.id)

    by_test : (b : Bool) → (snap.live && list_any (λ (s : SnapId). s.0 == snap.id.0) ids) ≡ b → AllByRecursion (λ (p : List ℕ × SnapId). p.1.0 ≤ last) (map name rest) → AllByRecursion (λ (p : List ℕ × SnapId). p.1.0 ≤ last) (map name (cond b (snap ∷ rest) rest))
    by_test true test more = (listed_upto last snap.id ids all (second snap.live (list_any (λ (s : SnapId). s.0 == snap.id.0) ids) test), more)
    by_test false test more = more

named_upto : (last : ℕ) (name : List ℕ) (snaps : List (List ℕ × SnapId)) → AllByRecursion (λ (p : List ℕ × SnapId). p.1.0 ≤ last) snaps → IfSome (id_named snaps name) (λ s. s.0 ≤ last)
named_upto last name [] all = tt
named_upto last name (p ∷ snaps) all = by_test _ (named_upto last name snaps all.1)
  where
    by_test : (b : Bool) → IfSome (id_named snaps name) (λ s. s.0 ≤ last) → IfSome (cond b (Some p.1) (id_named snaps name)) (λ s. s.0 ≤ last)
    by_test true rest = all.0
    by_test false rest = rest

tree_made : (entries : List Entry) (dir : Ino) (below : List (List ℕ)) (o : Option SnapId) → IfSome o (λ s. s.0 ≤ newest entries) → FoundMade entries (in_tree (tree_at entries) dir below o)
tree_made entries dir below None is = tt
tree_made entries dir below (Some s) is = then_made entries (walk (kind_in (tree_at entries s).inodes) (tree_at entries s).entries dir below) (λ ino. Ok (InTree s ino)) (λ ino. is)

place_made : (entries : List Entry) (place : Place) → FoundMade entries (found_at (shown entries) (tree_at entries) (state_after entries) place)
place_made entries (Live path) = then_made entries (walk_live (tree_of (state_after entries)) path) (λ ino. Ok (InLive ino)) (λ ino. tt)
place_made entries (Snaps path) = then_made entries (walk_live (tree_of (state_after entries)) path) _ (λ dir. directory_made entries (kind_in (state_after entries).inodes dir) (Ok (SnapsOf dir)) tt)
place_made entries (InSnap path name below) = then_made entries (walk_live (tree_of (state_after entries)) path) _ (λ dir.
    directory_made entries (kind_in (state_after entries).inodes dir) (in_tree (tree_at entries) dir below (id_named (shown entries dir) name))
    (tree_made entries dir below (id_named (shown entries dir) name) (named_upto (newest entries) name (shown entries dir) (shown_upto (newest entries) dir (covering entries dir) (covering_upto entries dir) (state_after entries).snaps))))

found_made : (entries : List Entry) (path : List (List ℕ)) → FoundMade entries (found entries path)
found_made entries path = place_made entries (place_of path)

-- what the journal answers
live_says : (entries : List Entry) (ino : Ino) → SaysUpto entries (live_stat entries (state_after entries) ino)
live_says entries ino = by_file (kind_in (state_after entries).inodes ino)
  where
    by_file : (k : Kind) → SaysUpto entries (elim k as (λ _. Answer) [ Dir ↦ answer.StatDir (inode_in (state_after entries).inodes ino).mode | File ↦ found_answer entries (state_after entries) ino ])
    by_file Dir = tt
    by_file File = settled_largest entries ino _

file_says : (entries : List Entry) (state : State) (ino : Ino) (said : Answer) → SaysUpto entries said → SaysUpto entries (file_in state ino said)
file_says entries state ino said is = by_file (kind_in state.inodes ino)
  where
    by_file : (k : Kind) → SaysUpto entries (elim k as (λ _. Answer) [ Dir ↦ answer.Refused IsDir | File ↦ said ])
    by_file Dir = tt
    by_file File = is

stat_says : (entries : List Entry) (size : ℕ) → size ≤ largest entries → (state : State) (ino : Ino) → SaysUpto entries (stat_in size state ino)
stat_says entries size less state ino = by_file (kind_in state.inodes ino)
  where
    by_file : (k : Kind) → SaysUpto entries (elim k as (λ _. Answer) [ Dir ↦ answer.StatDir (inode_in state.inodes ino).mode | File ↦ answer.StatFile (inode_in state.inodes ino).mode size ])
    by_file Dir = tt
    by_file File = less

list_says : (entries : List Entry) (state : State) (ino : Ino) → SaysUpto entries (list_in state ino)
list_says entries state ino = by_file (kind_in state.inodes ino)
  where
    by_file : (k : Kind) → SaysUpto entries (elim k as (λ _. Answer) [ Dir ↦ answer.Listed (listing (kind_in state.inodes) state.entries ino) | File ↦ answer.Refused NotDir ])
    by_file Dir = tt
    by_file File = tt

listed_says : (entries : List Entry) (o : Result Found Refusal) → SaysUpto entries (answered o (list_answer (shown entries) (tree_at entries) (state_after entries)))
listed_says entries (Ok (InLive ino)) = list_says entries (state_after entries) ino
listed_says entries (Ok (SnapsOf dir)) = tt
listed_says entries (Ok (InTree id ino)) = list_says entries (tree_at entries id) ino
listed_says entries (Err refusal) = tt

stated_says : (entries : List Entry) (o : Result Found Refusal) → SaysUpto entries (answered o (stat_found entries))
stated_says entries (Ok (InLive ino)) = live_says entries ino
stated_says entries (Ok (SnapsOf dir)) = stat_says entries 0 (omega arith) (state_after entries) dir
stated_says entries (Ok (InTree id ino)) = stat_says entries (settled_size entries ino id) (settled_largest entries ino id) (tree_at entries id) ino
stated_says entries (Err refusal) = tt

catted_says : (entries : List Entry) (o : Result Found Refusal) → FoundMade entries o → SaysUpto entries (answered o (cat_found entries))
catted_says entries (Ok (InLive ino)) is = file_says entries (state_after entries) ino (found_answer entries (state_after entries) ino) (settled_largest entries ino _)
catted_says entries (Ok (SnapsOf dir)) is = tt
catted_says entries (Ok (InTree id ino)) is = file_says entries (tree_at entries id) ino (answer.FoundSnap ino id (settled_size entries ino id)) (is, settled_largest entries ino id)
catted_says entries (Err refusal) is = tt

realm_says : (entries : List Entry) (o : Result Ino Refusal) → SaysUpto entries (live_answer o (λ ino. answer.RealmIs (realm_at entries ino) (context entries ino)))
realm_says entries (Ok ino) = whole_context entries ino
realm_says entries (Err refusal) = tt

clones_says : (entries : List Entry) (index : ℕ) (o : Result Ino Refusal) → SaysUpto entries (live_answer o (λ ino. file_in (state_after entries) ino (answer.FoundObject ino index)))
clones_says entries index (Ok ino) = file_says entries (state_after entries) ino (answer.FoundObject ino index) tt
clones_says entries index (Err refusal) = tt

-- an answer that is kept: the snapshot that it names was made by one of the entries
entry_says : (n most : ℕ) (last : ℕ) (w : What) → newest_by n w ≤ last → IfSome (change_in w) (λ made. AnswerUpto last most (answer_of made))
entry_says n most last (what.Mksnap id dir name) less = omega (arith, less)
entry_says n most last (what.OpenFile handle ino writable) less = tt
entry_says n most last w less = tt

abbrev last_over : ℕ → Option (ℕ × Answer) → List Entry → Option (ℕ × Answer)
last_over x before entries = fold (λ (before : Option (ℕ × Answer)) (entry : Entry).
    cond (entry.client == x) (answer_kept (change_in entry.what) entry.number before) before) before entries

kept_from : (most last x n : ℕ) (entries : List Entry) (before : Option (ℕ × Answer)) → newest_from n entries ≤ last → IfSome before (λ k. AnswerUpto last most k.1) → IfSome (last_over x before entries) (λ k. AnswerUpto last most k.1)
kept_from most last x n [] before less is = is
kept_from most last x n (e ∷ entries) before less is = kept_from most last x (newest_by n e.what) entries (cond (e.client == x) (answer_kept (change_in e.what) e.number before) before) less
    (by_test (e.client == x) (change_in e.what) (entry_says n most last e.what (let more = least_from (newest_by n e.what) entries in omega (arith, less, more))))
  where
    by_test : (b : Bool) (o : Option Change) → IfSome o (λ made. AnswerUpto last most (answer_of made)) → IfSome (cond b (answer_kept o e.number before) before) (λ k. AnswerUpto last most k.1)
    by_test true None one = is
    by_test true (Some made) one = one
    by_test false o one = is

kept_upto : (entries : List Entry) (x : ℕ) → IfSome (last_effect entries x) (λ k. SaysUpto entries k.1)
kept_upto entries x = kept_from (largest entries) (newest entries) x 1 entries None (omega arith) tt

kept_says : (entries : List Entry) (tid : ℕ) (o : Option (ℕ × Answer)) (said : Answer) → IfSome o (λ k. SaysUpto entries k.1) → kept_for tid o ≡ Some said → SaysUpto entries said
kept_says entries tid None said upto is = cc
kept_says entries tid (Some k) said upto is = by_test (k.0 == tid) is
  where
    by_test : (b : Bool) → cond b (Some k.1) None ≡ Some said → SaysUpto entries said
    by_test true is = let same : k.1 ≡ said = cc in subst (SaysUpto entries) same upto
    by_test false is = cc

-- the acts of a rule that enters no flush
abbrev pub IsSaid : List Entry → Act → Type 0
IsSaid entries (Buffer e) = is_flush e.what ≡ false
IsSaid entries (Prepare said) = is_flush said ≡ false
IsSaid entries (AnswerIt said) = SaysUpto entries said
IsSaid entries a = Unit {0}

abbrev pub AllSaid : List Entry → List Act → Type 0
AllSaid entries list = AllByRecursion (IsSaid entries) list

said_append : (entries : List Entry) (xs ys : List Act) → AllSaid entries xs → AllSaid entries ys → AllSaid entries (xs ++ ys)
said_append entries xs ys all more = all_append (IsSaid entries) xs ys all more

said_if : (entries : List Entry) (b : Bool) (xs ys : List Act) → AllSaid entries xs → AllSaid entries ys → AllSaid entries (cond b xs ys)
said_if entries true xs ys here other = here
said_if entries false xs ys here other = other

said_flat : {X : Type 0} (entries : List Entry) (f : X → List Act) → ((x : X) → AllSaid entries (f x)) → (xs : List X) → AllSaid entries (flat_map f xs)
said_flat entries f one [] = tt
said_flat entries f one (x ∷ xs) = said_append entries (f x) (flat_map f xs) (one x) (said_flat entries f one xs)

said_recalls : (s : Server) (ino : Ino) (clients : List ℕ) → AllSaid s.entries (recalls s ino clients)
said_recalls s ino clients = said_flat s.entries (recall s ino) (λ x. said_if s.entries (is_recalled s ino x) [] (MarkRecalled x ino ∷ TellRecall x ino ∷ []) tt (tt, (tt, tt))) clients

said_give : (s : Server) (x : ℕ) (ino : Ino) (mode : Mode) → AllSaid s.entries (give s x ino mode)
said_give s x ino mode = by_holder (find (is_holder x ino) s.holders)
  where
    by_holder : (o : Option Holder) → AllSaid s.entries (give_to s x ino mode o)
    by_holder None = (tt, tt)
    by_holder (Some h) = said_if s.entries (is_write mode && not (is_write h.mode)) _ [] (tt, tt) tt

said_cap : (s : Server) (x : ℕ) (ino : Ino) (mode : Mode) (granted : Act) → IsSaid s.entries granted → AllSaid s.entries (ask_cap s x ino mode granted)
said_cap s x ino mode granted is = said_if s.entries (in_conflict s x ino mode) (recalls s ino (against s x ino mode) ++ Wait ∷ []) (give s x ino mode ++ granted ∷ [])
    (said_append s.entries (recalls s ino (against s x ino mode)) (Wait ∷ []) (said_recalls s ino (against s x ino mode)) (tt, tt))
    (said_append s.entries (give s x ino mode) (granted ∷ []) (said_give s x ino mode) (is, tt))

said_found : (s : Server) (x : ℕ) (ino : Ino) → AllSaid s.entries (ask_found s x ino)
said_found s x ino = said_if s.entries (list_any (is_writer x ino) s.holders) (AnswerIt (found_live s ino true) ∷ []) (ask_cap s x ino Read (AnswerIt (found_live s ino false)))
    (settled_largest s.entries ino _, tt) (said_cap s x ino Read (AnswerIt (found_live s ino false)) (settled_largest s.entries ino _))

said_kind : (entries : List Entry) (k : Kind) (xs ys : List Act) → AllSaid entries xs → AllSaid entries ys → AllSaid entries (by_kind k xs ys)
said_kind entries Dir xs ys one other = one
said_kind entries File xs ys one other = other

said_look : (s : Server) (a : Asked) (said : Answer) (o : Result Found Refusal) → SaysUpto s.entries said → AllSaid s.entries (look_at s a said o)
said_look s a said (Ok (InLive ino)) is = said_kind s.entries (kind_in (state_after s.entries).inodes ino) (AnswerIt said ∷ []) (ask_found s a.client ino) (is, tt) (said_found s a.client ino)
said_look s a said (Ok (InTree id ino)) is = said_kind s.entries (kind_in (tree_at s.entries id).inodes ino) (AnswerIt said ∷ []) (AnswerIt (settled_answer said (owing s ino id)) ∷ []) (is, tt) (by_owing (owing s ino id), tt)
  where
    by_owing : (o : Option ℕ) → SaysUpto s.entries (settled_answer said o)
    by_owing None = is
    by_owing (Some x) = tt
said_look s a said (Ok (SnapsOf dir)) is = (is, tt)
said_look s a said (Err refusal) is = (is, tt)

said_barrier : (s : Server) (number : ℕ) → AllSaid s.entries (at_barrier s number)
said_barrier s number = said_if s.entries (nat_le number (barrier s.entries)) _ (Wait ∷ []) (tt, tt) (tt, tt)

said_prepare : (s : Server) (alone : Bool) (said : What) → is_flush said ≡ false → AllSaid s.entries (prepare alone s said)
said_prepare s alone said is = said_if s.entries (is_busy alone s) (Defer ∷ []) (Prepare said ∷ []) (tt, tt) (is, tt)

said_make : (s : Server) (alone : Bool) (made : Change) → AllSaid s.entries (make alone s made)
said_make s alone (change.Mksnap id dir name) = said_prepare s alone (what.PrepareCreate id) refl
said_make s alone (change.Rmsnap id) = said_prepare s alone (what.PrepareDestroy id) refl
said_make s alone (change.OpenFile handle ino writable) = (tt, (tt, tt))
said_make s alone made = (tt, (tt, tt))

said_decided : (s : Server) (alone : Bool) (o : Option (Result Change Refusal)) → AllSaid s.entries (decided alone s o)
said_decided s alone None = tt
said_decided s alone (Some (Err refusal)) = (tt, tt)
said_decided s alone (Some (Ok made)) = said_make s alone made

said_new : (s : Server) (alone : Bool) (a : Asked) (asked : Request) → AllSaid s.entries (treat_new alone s a asked)
said_new s alone a (request.Cap ino mode) = said_cap s a.client ino mode (GrantIt ino mode) tt
said_new s alone a (request.Cat path) = said_look s a (answer_to s.entries (query.Cat path)) (found s.entries path) (catted_says s.entries (found s.entries path) (found_made s.entries path))
said_new s alone a (request.Stat path) = said_look s a (answer_to s.entries (query.Stat path)) (found s.entries path) (stated_says s.entries (found s.entries path))
said_new s alone a (request.List path) = (listed_says s.entries (found s.entries path), tt)
said_new s alone a (request.Realm path) = (realm_says s.entries (live_only (state_after s.entries) (place_of path)), tt)
said_new s alone a (request.Clones path index) = (clones_says s.entries index (live_only (state_after s.entries) (place_of path)), tt)
said_new s alone a (request.Barrier number) = said_barrier s number
said_new s alone a asked = said_decided s alone (change_asked (state_after s.entries) a.client (next_id s) asked)

pub said_treat : (s : Server) (alone : Bool) (a : Asked) → AllSaid s.entries (treat alone s a)
said_treat s alone a = by_test (all_connected s)
  where
    by_kept : (o : Option Answer) → kept_answer s a ≡ o → AllSaid s.entries (treat_known alone s a o)
    by_kept (Some said) is = (kept_says s.entries a.tid (last_effect s.entries a.client) said (kept_upto s.entries a.client) is, tt)
    by_kept None is = said_if s.entries (is_operation s a) [] _ tt (said_new s alone a a.request)

    by_test : (b : Bool) → AllSaid s.entries (cond b (treat_known alone s a (kept_answer s a)) (Wait ∷ []))
    by_test true = by_kept (kept_answer s a) refl
    by_test false = (tt, tt)

pub said_drop : (x : ℕ) (s : Server) (ino : Ino) → AllSaid s.entries (on_drop x s ino)
said_drop x s ino = said_if s.entries (list_any (λ h. is_holder x ino h && not (is_write h.mode)) s.holders) (LetGo x ino ∷ []) [] (tt, tt) tt

pub said_reported : (s : Server) (m : ToServer) → AllSaid s.entries (reported s m)
said_reported s (Purged id) = said_if s.entries (is_listed id (to_purge s.entries)) _ [] (refl, tt) tt
said_reported s (Deleted ino) = said_if s.entries (list_any (same_ino ino) (dead s.entries)) _ [] (refl, tt) tt
said_reported s (Connect conn claims flushes asked) = tt
said_reported s (Ask conn tid asked) = tt
said_reported s (Flush conn f) = tt
said_reported s (DropRead conn ino) = tt

pub said_restarts : (s : Server) → AllSaid s.entries (restarts s)
said_restarts s = said_append s.entries (map TellRestart (up_to s.clients)) (roll_back_from (outstanding s.entries)) (told (up_to s.clients)) (rolled (outstanding s.entries))
  where
    told : (clients : List ℕ) → AllSaid s.entries (map TellRestart clients)
    told [] = tt
    told (x ∷ clients) = (tt, told clients)

    rolled : (o : Option (SnapId × ℕ)) → AllSaid s.entries (roll_back_from o)
    rolled None = tt
    rolled (Some o) = (refl, tt)

pub said_purge : (s : Server) (o : Option SnapId) → IfSome (turn_purge s o) (AllSaid s.entries)
said_purge s (Some id) = (refl, (tt, tt))
said_purge s None = by_file (first_file (filter (is_due s) (dead s.entries)))
  where
    if_some : (b : Bool) (list : List Act) → AllSaid s.entries list → IfSome (cond b (Some list) None) (AllSaid s.entries)
    if_some true list all = all
    if_some false list all = tt

    by_barrier : (o : Option ℕ) → IfSome (turn_barrier s o) (AllSaid s.entries)
    by_barrier None = tt
    by_barrier (Some number) = if_some (list_all (waits_at s number) (up_to s.clients) && is_finished s) _ (refl, said_flat s.entries open_to (λ x. (tt, (tt, tt))) (up_to s.clients))

    by_file : (o : Option Ino) → IfSome (turn_dead s o) (AllSaid s.entries)
    by_file None = by_barrier (first_barrier s.held)
    by_file (Some ino) = said_if s.entries (is_empty (holders_of s ino)) (SendDelete ino ∷ []) (recalls s ino (holders_of s ino)) (tt, tt) (said_recalls s ino (holders_of s ino))

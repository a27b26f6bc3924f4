-- What a server answers from its entries is the plain tree's answer.
use Rattle.std.proofs.Common.{◌≡◌, ℕ, List, length, true, false, Option, None, Some, Result, Ok, Err, refl, sym, ap, ◌∙◌}
use Rattle.snap_ids.specs.declared.id.Ino.{Ino}
use Rattle.snap_ids.specs.declared.id.SnapId.{SnapId}
use Rattle.snap_ids.specs.declared.id.TheConstants.{NOSNAP}
use Rattle.snap_ids.specs.declared.values.Kind.{Kind}
use Rattle.snap_ids.specs.declared.values.Kind.TheVariants.{Dir, File}
use Rattle.snap_ids.specs.Path.{Place, Live, Snaps, InSnap, place_of}
use Rattle.plain_types.specs.declared.answer.Answer.{Answer}
use Rattle.plain_types.specs.declared.answer.Answer.TheVariants.{Refused, Listed, StatDir, StatFile, FoundLive, RealmIs}
use Rattle.plain_types.specs.declared.answer.Refusal.{Refusal}
use Rattle.plain_types.specs.declared.answer.Refusal.TheVariants.{NotDir}
use Rattle.plain_types.specs.declared.entry.Entry.{Entry}
use Rattle.plain_types.specs.declared.script.Line.{Line}
use Rattle.plain_types.specs.declared.script.Line.TheVariants as line
use Rattle.plain_tree.specs.State.{State, kind_in, inode_in}
use Rattle.plain_tree.specs.Walk.{walk}
use Rattle.plain_tree.specs.Query.{Shown, Found, InLive, SnapsOf, InTree, id_named, in_tree, found_at, answered, list_in, list_answer, stat_answer, bytes_in, live_only}
use Rattle.plain_tree.specs.Request.{and_then, tree_of, walk_live, in_directory}
use Rattle.plain_journal.specs.Answers.{live_answer, stat_found}
use Rattle.plain_journal.specs.Coverage.{context}
use Rattle.plain_journal.specs.Entries.{state_after, tree_at}
use Rattle.plain_journal.specs.Realms.{realm_at, shown}
use Rattle.plain_journal.specs.Settled.{settled_size}
use Rattle.direct_journal.specs.Direct.{answer_after, told}
use Rattle.direct_journal.specs.Legal.{line_answer, listed}
use Rattle.direct_journal.specs.Served.{is_live_place, is_served}
use Rattle.direct_journal.proofs.Empty.{bytes_none}

-- two ways to see the trees of snapshots agree on each snapshot that is shown
abbrev pub AgreeOn : Shown → (SnapId → State) → (SnapId → State) → Type 0
AgreeOn names trees others = (dir : Ino) (name : List ℕ) (s : SnapId) → id_named (names dir) name ≡ Some s → trees s ≡ others s

-- the answer in a snapshot's tree
abbrev in_one : State → Ino → List (List ℕ) → Answer
in_one tree dir below = live_answer (walk (kind_in tree.inodes) tree.entries dir below) (list_in tree)

one_answer : (names : Shown) (trees : SnapId → State) (live : State) (s : SnapId) (r : Result Ino Refusal) → answered (and_then r (λ ino. Ok (InTree s ino))) (list_answer names trees live) ≡ live_answer r (list_in (trees s))
one_answer names trees live s (Ok ino) = refl
one_answer names trees live s (Err refusal) = refl

by_name : (names : Shown) (trees others : SnapId → State) (live : State) (dir : Ino) (below : List (List ℕ)) (o : Option SnapId) → ((s : SnapId) → o ≡ Some s → trees s ≡ others s) → answered (in_tree trees dir below o) (list_answer names trees live) ≡ answered (in_tree others dir below o) (list_answer names others live)
by_name names trees others live dir below None agree = refl
by_name names trees others live dir below (Some s) agree =
    one_answer names trees live s (walk (kind_in (trees s).inodes) (trees s).entries dir below)
    ∙ ap (λ (t : State). in_one t dir below) (agree s refl)
    ∙ sym (one_answer names others live s (walk (kind_in (others s).inodes) (others s).entries dir below))

by_kind : (names : Shown) (trees others : SnapId → State) (live : State) (r q : Result Found Refusal) → answered r (list_answer names trees live) ≡ answered q (list_answer names others live) → (k : Kind) → answered (in_directory k r) (list_answer names trees live) ≡ answered (in_directory k q) (list_answer names others live)
by_kind names trees others live r q same Dir = same
by_kind names trees others live r q same File = refl

by_walk : (names : Shown) (trees others : SnapId → State) (live : State) (name : List ℕ) (below : List (List ℕ)) → AgreeOn names trees others → (r : Result Ino Refusal) → answered (and_then r (λ dir. in_directory (kind_in live.inodes dir) (in_tree trees dir below (id_named (names dir) name)))) (list_answer names trees live) ≡ answered (and_then r (λ dir. in_directory (kind_in live.inodes dir) (in_tree others dir below (id_named (names dir) name)))) (list_answer names others live)
by_walk names trees others live name below agree (Ok dir) =
    by_kind names trees others live (in_tree trees dir below (id_named (names dir) name)) (in_tree others dir below (id_named (names dir) name)) (by_name names trees others live dir below (id_named (names dir) name) (agree dir name)) (kind_in live.inodes dir)
by_walk names trees others live name below agree (Err refusal) = refl

live_same : (names : Shown) (trees others : SnapId → State) (live : State) (r : Result Ino Refusal) → answered (and_then r (λ ino. Ok (InLive ino))) (list_answer names trees live) ≡ answered (and_then r (λ ino. Ok (InLive ino))) (list_answer names others live)
live_same names trees others live (Ok ino) = refl
live_same names trees others live (Err refusal) = refl

snaps_kind : (names : Shown) (trees others : SnapId → State) (live : State) (dir : Ino) (k : Kind) → answered (in_directory k (Ok (SnapsOf dir))) (list_answer names trees live) ≡ answered (in_directory k (Ok (SnapsOf dir))) (list_answer names others live)
snaps_kind names trees others live dir Dir = refl
snaps_kind names trees others live dir File = refl

snaps_same : (names : Shown) (trees others : SnapId → State) (live : State) (r : Result Ino Refusal) → answered (and_then r (λ dir. in_directory (kind_in live.inodes dir) (Ok (SnapsOf dir)))) (list_answer names trees live) ≡ answered (and_then r (λ dir. in_directory (kind_in live.inodes dir) (Ok (SnapsOf dir)))) (list_answer names others live)
snaps_same names trees others live (Ok dir) = snaps_kind names trees others live dir (kind_in live.inodes dir)
snaps_same names trees others live (Err refusal) = refl

-- then listings agree
pub listed_same : (live : State) (trees others : SnapId → State) (entries : List Entry) → AgreeOn (shown entries) trees others → (place : Place) → listed live trees entries place ≡ listed live others entries place
listed_same live trees others entries agree (Live path) = live_same (shown entries) trees others live (walk_live (tree_of live) path)
listed_same live trees others entries agree (Snaps dir) = snaps_same (shown entries) trees others live (walk_live (tree_of live) dir)
listed_same live trees others entries agree (InSnap dir name below) = by_walk (shown entries) trees others live name below agree (walk_live (tree_of live) dir)

-- a listing is told as it is
told_list : (names : List (List ℕ × Kind)) (k : Kind) → told (elim k as (λ _. Answer) [ Dir ↦ Listed names | File ↦ Refused NotDir ]) ≡ elim k as (λ _. Answer) [ Dir ↦ Listed names | File ↦ Refused NotDir ]
told_list names Dir = refl
told_list names File = refl

told_listed : (names : Shown) (trees : SnapId → State) (live : State) (r : Result Found Refusal) → told (answered r (list_answer names trees live)) ≡ answered r (list_answer names trees live)
told_listed names trees live (Ok (InLive ino)) = told_list _ (kind_in live.inodes ino)
told_listed names trees live (Ok (SnapsOf dir)) = refl
told_listed names trees live (Ok (InTree s ino)) = told_list _ (kind_in (trees s).inodes ino)
told_listed names trees live (Err refusal) = refl

-- the mode of a live inode, and no byte
stat_kind : (ino : Ino) (mode size none : ℕ) → none ≡ 0 → (k : Kind) → told (elim k as (λ _. Answer) [ Dir ↦ StatDir mode | File ↦ FoundLive ino mode size false ]) ≡ elim k as (λ _. Answer) [ Dir ↦ StatDir mode | File ↦ StatFile mode none ]
stat_kind ino mode size none is Dir = refl
stat_kind ino mode size none is File = ap (StatFile mode) (sym is)

stat_live : (entries : List Entry) (trees : SnapId → State) (r : Result Ino Refusal) → told (answered (and_then r (λ ino. Ok (InLive ino))) (stat_found entries)) ≡ answered (and_then r (λ ino. Ok (InLive ino))) (stat_answer trees (state_after entries))
stat_live entries trees (Ok ino) =
    stat_kind ino (inode_in (state_after entries).inodes ino).mode (settled_size entries ino NOSNAP) (length (bytes_in (state_after entries) ino)) (ap length (bytes_none entries ino)) (kind_in (state_after entries).inodes ino)
stat_live entries trees (Err refusal) = refl

stat_same : (entries : List Entry) (trees : SnapId → State) (place : Place) → is_live_place place ≡ true → told (answered (found_at (shown entries) (tree_at entries) (state_after entries) place) (stat_found entries)) ≡ answered (found_at (shown entries) trees (state_after entries) place) (stat_answer trees (state_after entries))
stat_same entries trees (Live path) is = stat_live entries trees (walk_live (tree_of (state_after entries)) path)
stat_same entries trees (Snaps dir) is = cc
stat_same entries trees (InSnap dir name below) is = cc

told_realm : (entries : List Entry) (r : Result Ino Refusal) → told (live_answer r (λ ino. RealmIs (realm_at entries ino) (context entries ino))) ≡ live_answer r (λ ino. RealmIs (realm_at entries ino) (context entries ino))
told_realm entries (Ok ino) = refl
told_realm entries (Err refusal) = refl

-- a line's answer is the plain one, with any trees that agree on what is shown
pub answer_same : (entries : List Entry) (trees : SnapId → State) (client : ℕ) (asked : Line) → AgreeOn (shown entries) (tree_at entries) trees → is_served asked ≡ true → line_answer (state_after entries) trees entries client asked ≡ answer_after entries client asked
answer_same entries trees client (line.List path) agree served = sym
    (told_listed (shown entries) (tree_at entries) (state_after entries) (found_at (shown entries) (tree_at entries) (state_after entries) (place_of path))
    ∙ listed_same (state_after entries) (tree_at entries) trees entries agree (place_of path))
answer_same entries trees client (line.Stat path) agree served = sym (stat_same entries trees (place_of path) served)
answer_same entries trees client (line.Realm path) agree served = sym (told_realm entries (live_only (state_after entries) (place_of path)))
answer_same entries trees client (line.Cat path) agree served = cc
answer_same entries trees client (line.Clones path index) agree served = cc
answer_same entries trees client (line.Write handle offset bytes) agree served = cc
answer_same entries trees client (line.Truncate handle size) agree served = cc
answer_same entries trees client asked agree served = refl

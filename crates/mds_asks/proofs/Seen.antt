-- What the answer to `cat` tells of its path.
use Rattle.std.proofs.Common.{◌≡◌, ℕ, List, [], ◌∷◌, Bool, true, false, cond, map, filter, Option, None, Some, refl, sym, ap, subst, ◌∙◌, arith}
use Rattle.std.proofs.lemmas.Bool.Decides.{nat_tests}
use Rattle.std.specs.Prelude.{◌||◌, ◌&&◌, ◌==◌, bytes_eq, if◌then◌else◌, Result, Ok, Err}
use Rattle.std.specs.List.{list_any}
use Rattle.snap_ids.specs.Path.{Place, Live, Snaps, InSnap, place_of}
use Rattle.snap_ids.specs.declared.id.Ino.{Ino}
use Rattle.snap_ids.specs.declared.id.SnapId.{SnapId}
use Rattle.snap_ids.specs.declared.id.TheConstants.{NOSNAP}
use Rattle.snap_ids.specs.declared.values.Kind.{Kind}
use Rattle.snap_ids.specs.declared.values.Kind.TheVariants.{Dir, File}
use Rattle.plain_types.specs.declared.answer.Answer.{Answer}
use Rattle.plain_types.specs.declared.answer.Answer.TheVariants.{FoundLive, FoundSnap, Refused}
use Rattle.plain_types.specs.declared.answer.Refusal.{Refusal}
use Rattle.plain_types.specs.declared.answer.Refusal.TheVariants.{IsDir}
use Rattle.plain_types.specs.declared.entry.Entry.{Entry}
use Rattle.plain_tree.specs.Query.{Found, InLive, InTree, SnapsOf, answered, found_at, id_named, in_tree}
use Rattle.plain_tree.specs.Request.{and_then, in_directory, tree_of, walk_live}
use Rattle.plain_tree.specs.State.{Inode, Snapshot, inode_in, kind_in, same_ino}
use Rattle.plain_tree.specs.Walk.{walk}
use Rattle.plain_journal.specs.Answers.{cat_found, found}
use Rattle.plain_journal.specs.Coverage.{covering, is_made, is_purged}
use Rattle.plain_journal.specs.Entries.{state_after, tree_at}
use Rattle.plain_journal.specs.Legal.{is_journal, is_made_file}
use Rattle.plain_journal.specs.Realms.{name_shown, shown}
use Rattle.plain_journal.specs.Settled.{settled_size}
use Rattle.journal_moments.specs.Moments.{is_live_snap}
use Rattle.journal_table.proofs.Removed.{live_unpurged}
use Rattle.step_table.specs.Acts.{AnswerIt}
use Rattle.step_table.specs.Capabilities.{ask_found, found_live, owing}
use Rattle.step_table.specs.Requests.{by_kind, look_at, settled_answer}
use Rattle.step_table.specs.ServerState.{Asked, Server}

-- what is a file was made
file_made : (inodes : List Inode) (ino : Ino) → kind_in inodes ino ≡ File → list_any (λ (inode : Inode). same_ino inode.ino ino) inodes ≡ true
file_made [] ino is = cc
file_made (inode ∷ inodes) ino is = go (same_ino inode.ino ino) (file_made inodes ino) is
  where
    go : (b : Bool) → (kind_in inodes ino ≡ File → list_any (λ (i : Inode). same_ino i.ino ino) inodes ≡ true) → (if b then inode.kind else kind_in inodes ino) ≡ File → (b || list_any (λ (i : Inode). same_ino i.ino ino) inodes) ≡ true
    go true rest is = refl
    go false rest is = rest is

pub is_made_so : (entries : List Entry) (ino : Ino) → kind_in (state_after entries).inodes ino ≡ File → is_made_file (state_after entries) ino ≡ true
is_made_so entries ino is = subst (λ (k : Kind). (elim k as (λ _. Bool) [ Dir ↦ false | File ↦ is_made (state_after entries) ino ]) ≡ true) (sym is) (file_made (state_after entries).inodes ino is)

-- the id of a name in a list of live snapshots is that of a live one
same_id : (n : ℕ) → (n == n) ≡ true
same_id n = grind (arith, nat_tests)

or_left : (a b : Bool) → a ≡ true → (a || b) ≡ true
or_left true b is = refl
or_left false b is = cc

or_right : (a b : Bool) → b ≡ true → (a || b) ≡ true
or_right true b is = refl
or_right false b is = is

both_left : (a b : Bool) → (a && b) ≡ true → a ≡ true
both_left true b is = refl
both_left false b is = cc

named_live : (h : Snapshot → List ℕ) (p : Snapshot → Bool) (snaps : List Snapshot) (name : List ℕ) (s : SnapId) → ((snap : Snapshot) → p snap ≡ true → snap.live ≡ true)
    → id_named (map {B = List ℕ × SnapId} (λ (snap : Snapshot). (h snap, snap.id)) (filter p snaps)) name ≡ Some s → is_live_snap s snaps ≡ true
named_live h p [] name s each named = cc
named_live h p (snap ∷ snaps) name s each named =
    by_test (p snap) refl (λ later. or_right (snap.live && snap.id.0 == s.0) (is_live_snap s snaps) (named_live h p snaps name s each later)) named
  where
    by_name : (b : Bool) → p snap ≡ true → (id_named (map {B = List ℕ × SnapId} (λ (snap : Snapshot). (h snap, snap.id)) (filter p snaps)) name ≡ Some s → is_live_snap s (snap ∷ snaps) ≡ true) → (if b then Some snap.id else id_named (map {B = List ℕ × SnapId} (λ (snap : Snapshot). (h snap, snap.id)) (filter p snaps)) name) ≡ Some s → is_live_snap s (snap ∷ snaps) ≡ true
    by_name true is rest named =
        let same : snap.id ≡ s = cc in
        or_left (snap.live && snap.id.0 == s.0) (is_live_snap s snaps) (rw (each snap is) (subst (λ (i : SnapId). (snap.id.0 == i.0) ≡ true) same (same_id snap.id.0)))
    by_name false is rest named = rest named

    by_test : (b : Bool) → p snap ≡ b → (id_named (map {B = List ℕ × SnapId} (λ (snap : Snapshot). (h snap, snap.id)) (filter p snaps)) name ≡ Some s → is_live_snap s (snap ∷ snaps) ≡ true) → id_named (map {B = List ℕ × SnapId} (λ (snap : Snapshot). (h snap, snap.id)) (cond b (snap ∷ filter p snaps) (filter p snaps))) name ≡ Some s → is_live_snap s (snap ∷ snaps) ≡ true
    by_test true is rest named = by_name (bytes_eq (h snap) name) is rest named
    by_test false is rest named = rest named

-- the snapshot that a directory shows under a name is live
shown_live : (entries : List Entry) (dir : Ino) (name : List ℕ) (id : SnapId) → id_named (shown entries dir) name ≡ Some id → is_live_snap id (state_after entries).snaps ≡ true
shown_live entries dir name id named =
    named_live (name_shown dir) (λ (snap : Snapshot). snap.live && list_any (λ (s : SnapId). s.0 == snap.id.0) (covering entries dir)) (state_after entries).snaps name id
    (λ snap is. both_left snap.live (list_any (λ (s : SnapId). s.0 == snap.id.0) (covering entries dir)) is) named

-- a path into a snapshot goes through one that is live
module _ (entries : List Entry) (id : SnapId) (ino : Ino) where
  below_live : (dir : Ino) (name : List ℕ) (below : List (List ℕ)) (o : Option SnapId) → id_named (shown entries dir) name ≡ o → in_tree (tree_at entries) dir below o ≡ Ok (InTree id ino) → is_live_snap id (state_after entries).snaps ≡ true
  below_live dir name below None is led = cc
  below_live dir name below (Some s) is led = walked (walk (kind_in (tree_at entries s).inodes) (tree_at entries s).entries dir below) led
    where
      walked : (r : Result Ino Refusal) → and_then r (λ (i : Ino). Ok (InTree s i)) ≡ Ok (InTree id ino) → is_live_snap id (state_after entries).snaps ≡ true
      walked (Ok i) led = let same : s ≡ id = cc in subst (λ (s : SnapId). is_live_snap s (state_after entries).snaps ≡ true) same (shown_live entries dir name s is)
      walked (Err refusal) led = cc

  in_live : (kind : Kind) (r : Result Found Refusal) → in_directory kind r ≡ Ok (InTree id ino) → r ≡ Ok (InTree id ino)
  in_live Dir r led = led
  in_live File r led = cc

  path_live : (place : Place) → found_at (shown entries) (tree_at entries) (state_after entries) place ≡ Ok (InTree id ino) → is_live_snap id (state_after entries).snaps ≡ true
  path_live (Live path) led = go (walk_live (tree_of (state_after entries)) path) led
    where
      go : (r : Result Ino Refusal) → and_then r (λ (i : Ino). Ok (InLive i)) ≡ Ok (InTree id ino) → is_live_snap id (state_after entries).snaps ≡ true
      go (Ok i) led = cc
      go (Err refusal) led = cc
  path_live (Snaps path) led = go (walk_live (tree_of (state_after entries)) path) led
    where
      go : (r : Result Ino Refusal) → and_then r (λ (dir : Ino). in_directory (kind_in (state_after entries).inodes dir) (Ok (SnapsOf dir))) ≡ Ok (InTree id ino) → is_live_snap id (state_after entries).snaps ≡ true
      go (Ok dir) led = let never = in_live (kind_in (state_after entries).inodes dir) (Ok (SnapsOf dir)) led in cc
      go (Err refusal) led = cc
  path_live (InSnap path name below) led = go (walk_live (tree_of (state_after entries)) path) led
    where
      go : (r : Result Ino Refusal) → and_then r (λ (dir : Ino). in_directory (kind_in (state_after entries).inodes dir) (in_tree (tree_at entries) dir below (id_named (shown entries dir) name))) ≡ Ok (InTree id ino) → is_live_snap id (state_after entries).snaps ≡ true
      go (Ok dir) led = below_live dir name below (id_named (shown entries dir) name) refl (in_live (kind_in (state_after entries).inodes dir) (in_tree (tree_at entries) dir below (id_named (shown entries dir) name)) led)
      go (Err refusal) led = cc

-- so the store hasn't dropped it
pub found_unpurged : (entries : List Entry) → is_journal entries ≡ true → (path : List (List ℕ)) (id : SnapId) (ino : Ino) → found entries path ≡ Ok (InTree id ino) → is_purged entries id ≡ false
found_unpurged entries legal path id ino led = live_unpurged entries legal id (path_live entries id ino (place_of path) led)

-- a live file is found where `cat` says so
abbrev pub IsLive : Server → Result Found Refusal → Ino → ℕ → ℕ → Type 0
IsLive s led ino perm size =
    (is_made_file (state_after s.entries) ino ≡ true)
    × (FoundLive ino perm size false ≡ found_live s ino false)
    × ((a : Asked) (answer : Answer) → look_at s a answer led ≡ ask_found s a.client ino)

pub live_seen : (s : Server) (led : Result Found Refusal) (ino : Ino) (perm size : ℕ) (held : Bool) → FoundLive ino perm size held ≡ answered led (cat_found s.entries) → IsLive s led ino perm size
live_seen s (Ok (InLive i)) ino perm size held is = go (kind_in (state_after s.entries).inodes i) refl is
  where
    go : (k : Kind) → kind_in (state_after s.entries).inodes i ≡ k → FoundLive ino perm size held ≡ elim k as (λ _. Answer) [ Dir ↦ Refused IsDir | File ↦ found_live s i false ] → IsLive s (Ok (InLive i)) ino perm size
    go Dir kind is = cc
    go File kind is =
        let same : i ≡ ino = cc in
        let none : held ≡ false = cc in
        subst (λ (x : Ino). IsLive s (Ok (InLive i)) x perm size) same (
          is_made_so s.entries i kind,
          (λ j. FoundLive (same j) perm size (sym none j)) ∙ is,
          λ a answer. ap (λ (k : Kind). by_kind k (AnswerIt answer ∷ []) (ask_found s a.client i)) kind,
        )
live_seen s (Ok (SnapsOf dir)) ino perm size held is = cc
live_seen s (Ok (InTree id i)) ino perm size held is = go (kind_in (tree_at s.entries id).inodes i) is
  where
    go : (k : Kind) → FoundLive ino perm size held ≡ elim k as (λ _. Answer) [ Dir ↦ Refused IsDir | File ↦ FoundSnap i id (settled_size s.entries i id) ] → IsLive s (Ok (InTree id i)) ino perm size
    go Dir is = cc
    go File is = cc
live_seen s (Err refusal) ino perm size held is = cc

-- and a file in a snapshot
abbrev pub IsInSnap : Server → Result Found Refusal → Ino → SnapId → Type 0
IsInSnap s led ino id =
    (led ≡ Ok (InTree id ino))
    × ((a : Asked) (answer : Answer) → look_at s a answer led ≡ AnswerIt (settled_answer answer (owing s ino id)) ∷ [])

pub snap_seen : (s : Server) (led : Result Found Refusal) (ino : Ino) (id : SnapId) (size : ℕ) → FoundSnap ino id size ≡ answered led (cat_found s.entries) → IsInSnap s led ino id
snap_seen s (Ok (InLive i)) ino id size is = go (kind_in (state_after s.entries).inodes i) is
  where
    go : (k : Kind) → FoundSnap ino id size ≡ elim k as (λ _. Answer) [ Dir ↦ Refused IsDir | File ↦ found_live s i false ] → IsInSnap s (Ok (InLive i)) ino id
    go Dir is = cc
    go File is = cc
snap_seen s (Ok (SnapsOf dir)) ino id size is = cc
snap_seen s (Ok (InTree t i)) ino id size is = go (kind_in (tree_at s.entries t).inodes i) refl is
  where
    go : (k : Kind) → kind_in (tree_at s.entries t).inodes i ≡ k → FoundSnap ino id size ≡ elim k as (λ _. Answer) [ Dir ↦ Refused IsDir | File ↦ FoundSnap i t (settled_size s.entries i t) ] → IsInSnap s (Ok (InTree t i)) ino id
    go Dir kind is = cc
    go File kind is =
        let file : i ≡ ino = cc in
        let snap : t ≡ id = cc in
        subst (λ (x : Ino). IsInSnap s (Ok (InTree t i)) x id) file
        (subst (λ (y : SnapId). IsInSnap s (Ok (InTree t i)) i y) snap
        (refl, λ a answer. ap (λ (k : Kind). by_kind k (AnswerIt answer ∷ []) (AnswerIt (settled_answer answer (owing s i t)) ∷ [])) kind))
snap_seen s (Err refusal) ino id size is = cc

-- any other answer to `cat` finds no file
pub else_seen : (s : Server) (led : Result Found Refusal) (there : Answer) → ((ino : Ino) (perm size : ℕ) (held : Bool) → there ≡ FoundLive ino perm size held → ⊥) → ((ino : Ino) (id : SnapId) (size : ℕ) → there ≡ FoundSnap ino id size → ⊥)
    → there ≡ answered led (cat_found s.entries) → (a : Asked) (answer : Answer) → look_at s a answer led ≡ AnswerIt answer ∷ []
else_seen s (Ok (InLive i)) there live snap is a answer = go (kind_in (state_after s.entries).inodes i) is
  where
    go : (k : Kind) → there ≡ elim k as (λ _. Answer) [ Dir ↦ Refused IsDir | File ↦ found_live s i false ] → by_kind k (AnswerIt answer ∷ []) (ask_found s a.client i) ≡ AnswerIt answer ∷ []
    go Dir is = refl
    go File is = absurd (live i (inode_in (state_after s.entries).inodes i).mode (settled_size s.entries i NOSNAP) false is)
else_seen s (Ok (SnapsOf dir)) there live snap is a answer = refl
else_seen s (Ok (InTree t i)) there live snap is a answer = go (kind_in (tree_at s.entries t).inodes i) is
  where
    go : (k : Kind) → there ≡ elim k as (λ _. Answer) [ Dir ↦ Refused IsDir | File ↦ FoundSnap i t (settled_size s.entries i t) ] → by_kind k (AnswerIt answer ∷ []) (AnswerIt (settled_answer answer (owing s i t)) ∷ []) ≡ AnswerIt answer ∷ []
    go Dir is = refl
    go File is = absurd (snap i t (settled_size s.entries i t) is)
else_seen s (Err refusal) there live snap is a answer = refl

-- What a request is said to come to isn't refused.
use Rattle.std.proofs.Common.{◌≡◌, ℕ, ◌-◌, List, [], ◌∷◌, length, take, Bool, true, false, Option, None, Some, Result, Ok, Err, refl, sym, ap, ◌∙◌, subst}
use Rattle.std.specs.Prelude.{not, ◌&&◌, ◌||◌, ◌==◌, slice_get, is_some, if◌then◌else◌, bytes_eq}
use Rattle.std.specs.List.{list_any}
use Rattle.snap_ids.specs.declared.id.Ino.{Ino}
use Rattle.snap_ids.specs.declared.id.SnapId.{SnapId}
use Rattle.snap_ids.specs.declared.id.TheConstants.{ROOT}
use Rattle.snap_ids.specs.declared.values.Kind.{Kind}
use Rattle.snap_ids.specs.declared.values.Kind.TheVariants.{Dir, File}
use Rattle.snap_ids.specs.Name.{is_new, is_new_snap}
use Rattle.snap_ids.specs.Path.{Place, Live, Snaps, InSnap, place_of}
use Rattle.plain_types.specs.declared.answer.Refusal.{Refusal}
use Rattle.plain_types.specs.declared.answer.Refusal.TheVariants as refusal
use Rattle.plain_types.specs.declared.change.Change.{Change}
use Rattle.plain_types.specs.declared.change.Change.TheVariants as change
use Rattle.plain_types.specs.declared.request.Request.{Request}
use Rattle.plain_types.specs.declared.request.Request.TheVariants as request
use Rattle.plain_tree.specs.State.{State, Entry, Snapshot, same_ino, is_there, kind_in, lookup}
use Rattle.plain_tree.specs.Walk.{is_under}
use Rattle.plain_tree.specs.Change.{is_directory, is_file, is_free, is_refused, names_one, is_movable, is_removable, entry, own_snap, has_all_snaps, are_all_live, open_of}
use Rattle.plain_tree.specs.Request.{and_then, Tree, tree_of, walk_live, in_directory, on_file, in_parent, new_name, new_entry, entry_at, not_root, moved_name, on_live, mkdir, remove_snap, roots_snap, rmdir, create, unlink, link, rename, chmod, open_file, close, change_asked}
use Rattle.plain_tree.proofs.Asked.{same_number, or_true, walk_there, last_of_walk}

module _ {A B : Type 0} where
  -- the first of two steps gave a value, and the second one went on with it
  pub record Both (r : Result A Refusal) (go_on : A → Result B Refusal) (b : B) : Type 0 where
    pub value : A
    pub first : r ≡ Ok value
    pub second : go_on value ≡ Ok b

  pub both : (r : Result A Refusal) (go_on : A → Result B Refusal) (b : B) → and_then r go_on ≡ Ok b → Both r go_on b
  both (Ok a) go_on b is = record { value = a; first = refl; second = is }
  both (Err e) go_on b is = cc

-- a file where a directory is needed, or a directory where a file is, has no value
pub directory_ok : {A : Type 0} (k : Kind) (r : Result A Refusal) (a : A) → in_directory k r ≡ Ok a → (k ≡ Dir) × (r ≡ Ok a)
directory_ok Dir r a is = (refl, is)
directory_ok File r a is = cc

pub file_ok : {A : Type 0} (k : Kind) (r : Result A Refusal) (a : A) → on_file k r ≡ Ok a → (k ≡ File) × (r ≡ Ok a)
file_ok Dir r a is = cc
file_ok File r a is = (refl, is)

-- a refusal that applies leaves no value
pub unless_ok : {A : Type 0} (b : Bool) (e : Refusal) (r : Result A Refusal) (a : A) → (if b then Err e else r) ≡ Ok a → (b ≡ false) × (r ≡ Ok a)
unless_ok true e r a is = cc
unless_ok false e r a is = (refl, is)

pub not_root_ok : {A : Type 0} (path : List (List ℕ)) (r : Result A Refusal) (a : A) → not_root path r ≡ Ok a → r ≡ Ok a
not_root_ok [] r a is = cc
not_root_ok (name ∷ path) r a is = is

-- a path has a last name, and the others lead to a directory that is there
record Parent {A : Type 0} (tree : Tree) (path : List (List ℕ)) (go_on : List ℕ → Ino → Result A Refusal) (a : A) : Type 0 where
  pub name : List ℕ
  pub dir : Ino
  pub last : slice_get path (length path - 1) ≡ Some name
  pub walked : walk_live tree (take (length path - 1) path) ≡ Ok dir
  pub there : is_there tree.entries dir ≡ true
  pub done : go_on name dir ≡ Ok a

live_there : (tree : Tree) (path : List (List ℕ)) (ino : Ino) → walk_live tree path ≡ Ok ino → is_there tree.entries ino ≡ true
live_there tree path ino walked = walk_there tree.kind tree.entries ROOT path ino walked refl

abbrev last_named : {A : Type 0} → (tree : Tree) (path : List (List ℕ)) (go_on : List ℕ → Ino → Result A Refusal) → Option (List ℕ) → Result A Refusal
last_named tree path go_on last = elim last [ None ↦ Err refusal.BadName | Some name ↦ and_then (walk_live tree (take (length path - 1) path)) (go_on name) ]

parent_by : {A : Type 0} (tree : Tree) (path : List (List ℕ)) (go_on : List ℕ → Ino → Result A Refusal) (a : A) (last : Option (List ℕ)) → slice_get path (length path - 1) ≡ last → last_named tree path go_on last ≡ Ok a → Parent tree path go_on a
parent_by tree path go_on a None is done = cc
parent_by tree path go_on a (Some name) is done =
    let b = both (walk_live tree (take (length path - 1) path)) (go_on name) a done in
    record { name = name; dir = b.value; last = is; walked = b.first; there = live_there tree _ b.value b.first; done = b.second }

parent_ok : {A : Type 0} (tree : Tree) (path : List (List ℕ)) (go_on : List ℕ → Ino → Result A Refusal) (a : A) → in_parent tree path go_on ≡ Ok a → Parent tree path go_on a
parent_ok tree path go_on a done = parent_by tree path go_on a (slice_get path (length path - 1)) refl done

-- a new name is one that the directory can get
record IsNew (state : State) (ino : Ino) (new : Entry) : Type 0 where
  pub free : is_free state new.dir new.name ≡ true
  pub same : new.ino ≡ ino

-- an inode of this kind, where it is there
abbrev if_directory : Kind → Bool → Bool
if_directory k there = elim k [ Dir ↦ there | File ↦ false ]

abbrev if_file : Kind → Bool → Bool
if_file k there = elim k [ Dir ↦ false | File ↦ there ]

pub directory_there : (state : State) (ino : Ino) → kind_in state.inodes ino ≡ Dir → is_there state.entries ino ≡ true → is_directory state ino ≡ true
directory_there state ino directory there = ap (λ (k : Kind). if_directory k (is_there state.entries ino)) directory ∙ there

pub file_there : (state : State) (ino : Ino) → kind_in state.inodes ino ≡ File → is_there state.entries ino ≡ true → is_file state ino ≡ true
file_there state ino file there = ap (λ (k : Kind). if_file k (is_there state.entries ino)) file ∙ there

all_three : (a b c : Bool) → a ≡ true → b ≡ true → c ≡ false → (a && b && not c) ≡ true
all_three a b c x y z = rw (x, y, z) refl

not_not : (b : Bool) → not b ≡ false → b ≡ true
not_not true is = refl
not_not false is = cc

new_ok : (state : State) (ino : Ino) (name : List ℕ) (dir : Ino) (new : Entry) → kind_in state.inodes dir ≡ Dir → is_there state.entries dir ≡ true → new_name (tree_of state) ino name dir ≡ Ok new → IsNew state ino new
new_ok state ino name dir new directory there done =
    let good = unless_ok (not (is_new name)) refusal.BadName _ new done in
    let free = unless_ok (is_some (lookup state.entries dir name)) refusal.Exists _ new good.1 in
    let same : entry dir name ino ≡ new = cc in
    subst (IsNew state ino) same
    (record { free = all_three (is_directory state dir) (is_new name) _ (directory_there state dir directory there) (not_not (is_new name) good.0) free.0; same = refl })

entry_ok : (state : State) (ino : Ino) (path : List (List ℕ)) (new : Entry) → new_entry (tree_of state) ino path ≡ Ok new → IsNew state ino new
entry_ok state ino path new done =
    let p = parent_ok (tree_of state) path _ new done in
    let d = directory_ok (kind_in state.inodes p.dir) _ new p.done in
    new_ok state ino p.name p.dir new d.0 p.there d.1

-- the entry of a path is what its last name has
record IsOld (state : State) (old : Entry) : Type 0 where
  pub found : lookup state.entries old.dir old.name ≡ Some old.ino
  pub there : is_there state.entries old.ino ≡ true

old_ok : (state : State) (path : List (List ℕ)) (old : Entry) → entry_at (tree_of state) path ≡ Ok old → IsOld state old
old_ok state path old done =
    let p = parent_ok (tree_of state) path _ old done in
    let w = both (walk_live (tree_of state) path) _ old p.done in
    let same : entry p.dir p.name w.value ≡ old = cc in
    subst (IsOld state) same (record {
      found = last_of_walk (kind_in state.inodes) state.entries ROOT path p.name p.dir w.value p.last p.walked w.first;
      there = live_there (tree_of state) path w.value w.first;
    })

-- what a name has passes a test
named_passes : (test : Ino → Bool) (found : Option Ino) (ino : Ino) → found ≡ Some ino → test ino ≡ true → names_one test found ≡ true
named_passes test found ino is passes = ap (names_one test) is ∙ passes

not_true : (b : Bool) → b ≡ true → not b ≡ false
not_true b is = ap not is

both_true : (a b : Bool) → a ≡ true → b ≡ true → not (a && b) ≡ false
both_true a b x y = rw (x, y) refl

module _ (state : State) (client : ℕ) where
  -- the changes that requests come to, each in its turn
  mkdir_succeeds : (path : List (List ℕ)) (id : SnapId) (made : Change) → mkdir state id (Live path) ≡ Ok made → is_refused state client made ≡ false
  mkdir_succeeds path id made done =
      let b = both _ _ made done in let new = entry_ok state _ path b.value b.first in
      let same : change.Mkdir b.value.dir b.value.name b.value.ino ≡ made = cc in
      subst (λ (c : Change). is_refused state client c ≡ false) same (not_true _ new.free)

  create_succeeds : (path : List (List ℕ)) (mode : ℕ) (made : Change) → create state mode path ≡ Ok made → is_refused state client made ≡ false
  create_succeeds path mode made done =
      let b = both _ _ made done in let new = entry_ok state _ path b.value b.first in
      let same : change.Create b.value.dir b.value.name b.value.ino mode ≡ made = cc in
      subst (λ (c : Change). is_refused state client c ≡ false) same (not_true _ new.free)

  unlink_succeeds : (path : List (List ℕ)) (made : Change) → unlink state path ≡ Ok made → is_refused state client made ≡ false
  unlink_succeeds path made done =
      let b = both _ _ made done in
      let e = both (entry_at (tree_of state) path) _ b.value b.first in
      let old = old_ok state path e.value e.first in
      let f = file_ok (kind_in state.inodes e.value.ino) _ b.value e.second in
      let file : is_file state e.value.ino ≡ true = file_there state e.value.ino f.0 old.there in
      let entries : e.value ≡ b.value = cc in
      let same : change.Unlink b.value.dir b.value.name ≡ made = cc in
      subst (λ (c : Change). is_refused state client c ≡ false) same
      (subst (λ (x : Entry). is_refused state client (change.Unlink x.dir x.name) ≡ false) entries
      (not_true _ (named_passes (is_file state) _ e.value.ino old.found file)))

  rmdir_succeeds : (path : List (List ℕ)) (made : Change) → rmdir state (Live path) ≡ Ok made → is_refused state client made ≡ false
  rmdir_succeeds path made done =
      let b = both _ _ made done in
      let e = both (entry_at (tree_of state) path) _ b.value b.first in
      let old = old_ok state path e.value e.first in
      let d = directory_ok (kind_in state.inodes e.value.ino) _ b.value e.second in
      let roots = unless_ok (roots_snap state.snaps e.value.ino) refusal.HasSnapshots _ b.value d.1 in
      let empty = unless_ok (list_any (λ (x : Entry). same_ino x.dir e.value.ino) state.entries) refusal.NotEmpty _ b.value roots.1 in
      let removable : is_removable state e.value.ino ≡ true = all_removable _ _ _ (directory_there state e.value.ino d.0 old.there) roots.0 empty.0 in
      let entries : e.value ≡ b.value = cc in
      let same : change.Rmdir b.value.dir b.value.name ≡ made = cc in
      subst (λ (c : Change). is_refused state client c ≡ false) same
      (subst (λ (x : Entry). is_refused state client (change.Rmdir x.dir x.name) ≡ false) entries
      (not_true _ (named_passes (is_removable state) _ e.value.ino old.found removable)))
    where
      all_removable : (a b c : Bool) → a ≡ true → b ≡ false → c ≡ false → (a && not b && not c) ≡ true
      all_removable a b c x y z = rw (x, y, z) refl

  link_succeeds : (path target : List (List ℕ)) (made : Change) → link state path target ≡ Ok made → is_refused state client made ≡ false
  link_succeeds path target made done =
      let b = both _ _ made done in
      let live = not_root_ok target _ b.value (not_root_ok path _ b.value b.first) in
      let w = both (walk_live (tree_of state) path) _ b.value live in
      let f = file_ok (kind_in state.inodes w.value) _ b.value w.second in
      let new = entry_ok state w.value target b.value f.1 in
      let file : is_file state w.value ≡ true = file_there state w.value f.0 (live_there (tree_of state) path w.value w.first) in
      let of_new : is_file state b.value.ino ≡ true = ap (is_file state) new.same ∙ file in
      let same : change.Link b.value.ino b.value.dir b.value.name ≡ made = cc in
      subst (λ (c : Change). is_refused state client c ≡ false) same (both_true _ _ of_new new.free)

  rename_succeeds : (path target : List (List ℕ)) (made : Change) → rename state path target ≡ Ok made → is_refused state client made ≡ false
  rename_succeeds path target made done =
      let b = both _ _ made done in
      let live = not_root_ok target _ b.value (not_root_ok path _ b.value b.first) in
      let e = both (entry_at (tree_of state) path) _ b.value live in
      let old = old_ok state path e.value e.first in
      let n = both (in_parent (tree_of state) target (moved_name (tree_of state) e.value.ino)) _ b.value e.second in
      let p = parent_ok (tree_of state) target _ n.value n.first in
      let d = directory_ok (kind_in state.inodes p.dir) _ n.value p.done in
      let below = unless_ok (is_under state.entries p.dir e.value.ino) refusal.IntoItself _ n.value d.1 in
      let new = new_ok state e.value.ino p.name p.dir n.value d.0 p.there below.1 in
      let dir : n.value.dir ≡ p.dir = dir_of p.name p.dir e.value.ino n.value below.1 in
      let movable : is_movable state n.value.dir e.value.ino ≡ true = ap (λ (x : Ino). is_movable state x e.value.ino) dir ∙ ap not below.0 in
      let pair : (e.value, n.value) ≡ b.value = cc in
      let same : change.Rename b.value.0.dir b.value.0.name b.value.1.dir b.value.1.name ≡ made = cc in
      subst (λ (c : Change). is_refused state client c ≡ false) same
      (subst (λ (x : Entry × Entry). is_refused state client (change.Rename x.0.dir x.0.name x.1.dir x.1.name) ≡ false) pair
      (both_true _ _ (named_passes (is_movable state n.value.dir) _ e.value.ino old.found movable) new.free))
    where
      dir_of : (name : List ℕ) (dir ino : Ino) (new : Entry) → new_name (tree_of state) ino name dir ≡ Ok new → new.dir ≡ dir
      dir_of name dir ino new done =
          let good = unless_ok (not (is_new name)) refusal.BadName _ new done in
          let free = unless_ok (is_some (lookup state.entries dir name)) refusal.Exists _ new good.1 in
          let same : new ≡ entry dir name ino = cc in ap (λ (x : Entry). x.dir) same

  chmod_succeeds : (path : List (List ℕ)) (mode : ℕ) (made : Change) → chmod state mode path ≡ Ok made → is_refused state client made ≡ false
  chmod_succeeds path mode made done =
      let b = both (walk_live (tree_of state) path) _ made done in
      let same : change.Chmod b.value mode ≡ made = cc in
      subst (λ (c : Change). is_refused state client c ≡ false) same (not_true _ (live_there (tree_of state) path b.value b.first))

  open_succeeds : (handle : ℕ) (writable : Bool) (path : List (List ℕ)) (made : Change) → open_file state client handle writable path ≡ Ok made → is_refused state client made ≡ false
  open_succeeds handle writable path made done =
      let free = unless_ok (is_some (open_of state.handles client handle)) refusal.BadHandle _ made done in
      let b = both (walk_live (tree_of state) path) _ made free.1 in
      let f = file_ok (kind_in state.inodes b.value) _ made b.second in
      let same : change.OpenFile handle b.value writable ≡ made = cc in
      subst (λ (c : Change). is_refused state client c ≡ false) same
      (neither _ _ free.0 (file_there state b.value f.0 (live_there (tree_of state) path b.value b.first)))
    where
      neither : (a b : Bool) → a ≡ false → b ≡ true → (a || not b) ≡ false
      neither a b x y = rw (x, y) refl

  close_succeeds : (handle : ℕ) (made : Change) → close state client handle ≡ Ok made → is_refused state client made ≡ false
  close_succeeds handle made done = by_test (is_some (open_of state.handles client handle)) refl done
    where
      by_test : (b : Bool) → is_some (open_of state.handles client handle) ≡ b → (if b then Ok (change.CloseFile handle) else Err refusal.BadHandle) ≡ Ok made → is_refused state client made ≡ false
      by_test true is done = let same : change.CloseFile handle ≡ made = cc in subst (λ (c : Change). is_refused state client c ≡ false) same (not_true _ is)
      by_test false is done = cc

  snap_succeeds : (id : SnapId) (dir : List (List ℕ)) (name : List ℕ) (made : Change) → mkdir state id (InSnap dir name []) ≡ Ok made → is_refused state client made ≡ false
  snap_succeeds id dir name made done =
      let b = both (walk_live (tree_of state) dir) _ made done in
      let d = directory_ok (kind_in state.inodes b.value) _ made b.second in
      let good = unless_ok (not (is_new_snap name)) refusal.BadName _ made d.1 in
      let free = unless_ok (is_some (own_snap state.snaps b.value name)) refusal.Exists _ made good.1 in
      let few = unless_ok (has_all_snaps state.snaps b.value) refusal.TooManySnaps _ made free.1 in
      let some = unless_ok (are_all_live state.snaps) refusal.TooManyLive _ made few.1 in
      let same : change.Mksnap id b.value name ≡ made = cc in
      subst (λ (c : Change). is_refused state client c ≡ false) same
      (all_five _ _ _ _ _ (directory_there state b.value d.0 (live_there (tree_of state) dir b.value b.first)) (not_not (is_new_snap name) good.0) free.0 few.0 some.0)
    where
      all_five : (a b c d e : Bool) → a ≡ true → b ≡ true → c ≡ false → d ≡ false → e ≡ false → not (a && b && not c && not d && not e) ≡ false
      all_five a b c d e x y z u v = rw (x, y, z, u, v) refl

  -- a snapshot that was found by its name is live, and has its id
  found_live : (dir : Ino) (name : List ℕ) (snaps : List Snapshot) (snap : Snapshot) → own_snap snaps dir name ≡ Some snap → list_any (λ (x : Snapshot). x.live && x.id.0 == snap.id.0) snaps ≡ true
  found_live dir name [] snap is = cc
  found_live dir name (first ∷ snaps) snap is = by_test first snaps snap (found_live dir name snaps snap) first.live (same_ino first.root dir) (bytes_eq first.name name) is refl
    where
      by_test : (first : Snapshot) (snaps : List Snapshot) (snap : Snapshot) → (own_snap snaps dir name ≡ Some snap → list_any (λ (x : Snapshot). x.live && x.id.0 == snap.id.0) snaps ≡ true) → (live same named : Bool) → (if live && same && named then Some first else own_snap snaps dir name) ≡ Some snap → first.live ≡ live → list_any (λ (x : Snapshot). x.live && x.id.0 == snap.id.0) (first ∷ snaps) ≡ true
      by_test first snaps snap later true true true found is =
          let same : first ≡ snap = cc in
          let live : snap.live ≡ true = ap (λ (x : Snapshot). x.live) (sym same) ∙ is in
          rw (same, live, same_number snap.id.0) refl
      by_test first snaps snap later true true false found is = rw (later found) (or_true _)
      by_test first snaps snap later true false named found is = rw (later found) (or_true _)
      by_test first snaps snap later false same named found is = rw (later found) (or_true _)

  unsnap_succeeds : (path : List (List ℕ)) (name : List ℕ) (made : Change) → rmdir state (InSnap path name []) ≡ Ok made → is_refused state client made ≡ false
  unsnap_succeeds path name made done =
      let b = both (walk_live (tree_of state) path) _ made done in
      let d = directory_ok (kind_in state.inodes b.value) _ made b.second in
      by_snap b.value (own_snap state.snaps b.value name) refl d.1
    where
      by_snap : (dir : Ino) (found : Option Snapshot) → own_snap state.snaps dir name ≡ found → remove_snap found ≡ Ok made → is_refused state client made ≡ false
      by_snap dir None is done = cc
      by_snap dir (Some snap) is done =
          let same : change.Rmsnap snap.id ≡ made = cc in
          subst (λ (c : Change). is_refused state client c ≡ false) same (not_true _ (found_live dir name state.snaps snap is))

  -- by where a path leads
  on_live_ok : (place : Place) (go_on : List (List ℕ) → Result Change Refusal) (made : Change) → ((path : List (List ℕ)) → go_on path ≡ Ok made → is_refused state client made ≡ false) → on_live place go_on ≡ Ok made → is_refused state client made ≡ false
  on_live_ok (Live path) go_on made each done = each path done
  on_live_ok (Snaps dir) go_on made each done = cc
  on_live_ok (InSnap dir name below) go_on made each done = cc

  mkdir_ok : (id : SnapId) (place : Place) (made : Change) → mkdir state id place ≡ Ok made → is_refused state client made ≡ false
  mkdir_ok id (Live path) made done = mkdir_succeeds path id made done
  mkdir_ok id (Snaps dir) made done = cc
  mkdir_ok id (InSnap dir name []) made done = snap_succeeds id dir name made done
  mkdir_ok id (InSnap dir name (below ∷ rest)) made done = cc

  rmdir_ok : (place : Place) (made : Change) → rmdir state place ≡ Ok made → is_refused state client made ≡ false
  rmdir_ok (Live path) made done = rmdir_succeeds path made done
  rmdir_ok (Snaps dir) made done = cc
  rmdir_ok (InSnap dir name []) made done = unsnap_succeeds dir name made done
  rmdir_ok (InSnap dir name (below ∷ rest)) made done = cc

  some_ok : (r : Result Change Refusal) (made : Change) → Some r ≡ Some (Ok made) → r ≡ Ok made
  some_ok r made is = cc

  -- a change that a request comes to isn't refused
  pub asked_succeeds : (id : SnapId) (request : Request) (made : Change) → change_asked state client id request ≡ Some (Ok made) → is_refused state client made ≡ false
  asked_succeeds id (request.Mkdir path) made is = mkdir_ok id (place_of path) made (some_ok _ made is)
  asked_succeeds id (request.Rmdir path) made is = rmdir_ok (place_of path) made (some_ok _ made is)
  asked_succeeds id (request.Create path mode) made is = on_live_ok (place_of path) _ made (λ p. create_succeeds p mode made) (some_ok _ made is)
  asked_succeeds id (request.Unlink path) made is = on_live_ok (place_of path) _ made (λ p. unlink_succeeds p made) (some_ok _ made is)
  asked_succeeds id (request.Link path target) made is = on_live_ok (place_of path) _ made (λ p done. on_live_ok (place_of target) _ made (λ q. link_succeeds p q made) done) (some_ok _ made is)
  asked_succeeds id (request.Rename path target) made is = on_live_ok (place_of path) _ made (λ p done. on_live_ok (place_of target) _ made (λ q. rename_succeeds p q made) done) (some_ok _ made is)
  asked_succeeds id (request.Chmod path mode) made is = on_live_ok (place_of path) _ made (λ p. chmod_succeeds p mode made) (some_ok _ made is)
  asked_succeeds id (request.Open handle path writable) made is = on_live_ok (place_of path) _ made (λ p. open_succeeds handle writable p made) (some_ok _ made is)
  asked_succeeds id (request.Close handle) made is = close_succeeds handle made (some_ok _ made is)
  asked_succeeds id (request.Cat path) made is = cc
  asked_succeeds id (request.Stat path) made is = cc
  asked_succeeds id (request.List path) made is = cc
  asked_succeeds id (request.Realm path) made is = cc
  asked_succeeds id (request.Clones path index) made is = cc
  asked_succeeds id (request.Cap ino mode) made is = cc
  asked_succeeds id (request.Barrier number) made is = cc

-- What a request is said to come to fits the journal: a new inode has the next number, a new snapshot the given id.
use Rattle.std.proofs.Common.{◌≡◌, ℕ, Bool, true, false, not, cond, ◌-◌, List, [], ◌∷◌, length, take, slice_get, Option, None, Some, Result, Ok, Err, is_some, refl, subst, IfSome}
use Rattle.snap_ids.specs.declared.id.Ino.{Ino}
use Rattle.snap_ids.specs.declared.id.SnapId.{SnapId}
use Rattle.snap_ids.specs.declared.values.Kind.{Kind}
use Rattle.snap_ids.specs.declared.values.Kind.TheVariants.{Dir, File}
use Rattle.snap_ids.specs.Name.{is_new, is_new_snap}
use Rattle.snap_ids.specs.Path.{Place, Live, Snaps, InSnap, place_of}
use Rattle.plain_types.specs.declared.answer.Refusal.{Refusal}
use Rattle.plain_types.specs.declared.answer.Refusal.TheVariants.{BadName, Exists, TooManySnaps, TooManyLive, BadHandle}
use Rattle.plain_types.specs.declared.change.Change.{Change}
use Rattle.plain_types.specs.declared.change.Change.TheVariants as change
use Rattle.plain_types.specs.declared.request.Request.{Request}
use Rattle.plain_types.specs.declared.request.Request.TheVariants as request
use Rattle.plain_tree.specs.State.{State, Entry, Snapshot, kind_in, lookup, next_ino}
use Rattle.plain_tree.specs.Change.{entry, own_snap, has_all_snaps, are_all_live, open_of}
use Rattle.plain_tree.specs.Request.{and_then, Tree, tree_of, walk_live, in_directory, on_file, new_name, new_entry, to_unlink, to_remove, to_link, to_move, on_live, new_snap, mkdir, remove_snap, roots_snap, rmdir, create, unlink, link, rename, chmod, open_file, change_asked}

-- the numbers in a change are those that are given; no change of bytes is asked for
abbrev pub IsGiven : State → SnapId → Change → Type 0
IsGiven state id (change.Mkdir dir name ino) = ino ≡ next_ino state
IsGiven state id (change.Create dir name ino mode) = ino ≡ next_ino state
IsGiven state id (change.Mksnap made dir name) = made ≡ id
IsGiven state id (change.WriteFile handle offset bytes) = ⊥
IsGiven state id (change.Truncate handle size) = ⊥
IsGiven state id made = Unit {0}

-- what is true of a value, if there is one
abbrev OkIs : {A : Type 0} → Result A Refusal → (A → Type 0) → Type 0
OkIs (Ok a) P = P a
OkIs (Err refusal) P = Unit {0}

then_ok : {A B : Type 0} (r : Result A Refusal) (Q : A → Type 0) (go_on : A → Result B Refusal) (P : B → Type 0) → OkIs r Q → ((a : A) → Q a → OkIs (go_on a) P) → OkIs (and_then r go_on) P
then_ok (Ok a) Q go_on P first all = all a first
then_ok (Err refusal) Q go_on P first all = tt

any_ok : {A : Type 0} (r : Result A Refusal) → OkIs r (λ a. Unit {0})
any_ok (Ok a) = tt
any_ok (Err refusal) = tt

-- the second of two steps gives what it should whatever the first one gave
any_then : {A B : Type 0} (r : Result A Refusal) (go_on : A → Result B Refusal) (P : B → Type 0) → ((a : A) → OkIs (go_on a) P) → OkIs (and_then r go_on) P
any_then r go_on P all = then_ok r (λ a. Unit {0}) go_on P (any_ok r) (λ a is. all a)

directory_ok : {A : Type 0} (k : Kind) (r : Result A Refusal) (P : A → Type 0) → OkIs r P → OkIs (in_directory k r) P
directory_ok Dir r P holds = holds
directory_ok File r P holds = tt

file_ok : {A : Type 0} (k : Kind) (r : Result A Refusal) (P : A → Type 0) → OkIs r P → OkIs (on_file k r) P
file_ok Dir r P holds = tt
file_ok File r P holds = holds

unless_ok : {A : Type 0} (b : Bool) (e : Refusal) (r : Result A Refusal) (P : A → Type 0) → OkIs r P → OkIs (cond b (Err e) r) P
unless_ok true e r P holds = tt
unless_ok false e r P holds = holds

if_ok : {A : Type 0} (b : Bool) (q r : Result A Refusal) (P : A → Type 0) → OkIs q P → OkIs r P → OkIs (cond b q r) P
if_ok true q r P one other = one
if_ok false q r P one other = other

live_ok : (p : Place) (go_on : List (List ℕ) → Result Change Refusal) (P : Change → Type 0) → ((path : List (List ℕ)) → OkIs (go_on path) P) → OkIs (on_live p go_on) P
live_ok (Live path) go_on P all = all path
live_ok (Snaps dir) go_on P all = tt
live_ok (InSnap dir name below) go_on P all = tt

-- a new entry is one of the inode that it is asked for
abbrev IsOf : Ino → Entry → Type 0
IsOf ino new = new.ino ≡ ino

new_is : (tree : Tree) (ino : Ino) (path : List (List ℕ)) → OkIs (new_entry tree ino path) (IsOf ino)
new_is tree ino path = by_last (slice_get path (length path - 1))
  where
    by_last : (last : Option (List ℕ)) → OkIs (elim last as (λ _. Result Entry Refusal) [ None ↦ Err BadName | Some name ↦ and_then (walk_live tree (take (length path - 1) path)) (λ dir. in_directory (tree.kind dir) (new_name tree ino name dir)) ]) (IsOf ino)
    by_last None = tt
    by_last (Some name) = any_then (walk_live tree (take (length path - 1) path)) (λ dir. in_directory (tree.kind dir) (new_name tree ino name dir)) (IsOf ino) (λ dir. directory_ok (tree.kind dir) _ (IsOf ino)
        (unless_ok (not (is_new name)) BadName _ (IsOf ino)
        (unless_ok (is_some (lookup tree.entries dir name)) Exists (Ok (entry dir name ino)) (IsOf ino) refl)))

mkdir_given : (state : State) (id : SnapId) (p : Place) → OkIs (mkdir state id p) (IsGiven state id)
mkdir_given state id (Live path) = then_ok (new_entry (tree_of state) (next_ino state) path) (IsOf (next_ino state)) (λ new. Ok (change.Mkdir new.dir new.name new.ino)) (IsGiven state id) (new_is (tree_of state) (next_ino state) path) (λ new is. is)
mkdir_given state id (Snaps dir) = tt
mkdir_given state id (InSnap dir name (below ∷ rest)) = tt
mkdir_given state id (InSnap dir name []) = any_then (walk_live (tree_of state) dir) (new_snap state id name) (IsGiven state id) (λ at. directory_ok (kind_in state.inodes at) _ (IsGiven state id)
    (unless_ok (not (is_new_snap name)) BadName _ (IsGiven state id)
    (unless_ok (is_some (own_snap state.snaps at name)) Exists _ (IsGiven state id)
    (unless_ok (has_all_snaps state.snaps at) TooManySnaps _ (IsGiven state id)
    (unless_ok (are_all_live state.snaps) TooManyLive (Ok (change.Mksnap id at name)) (IsGiven state id) refl)))))

rmdir_given : (state : State) (id : SnapId) (p : Place) → OkIs (rmdir state p) (IsGiven state id)
rmdir_given state id (Live path) = any_then (to_remove (roots_snap state.snaps) (tree_of state) path) (λ old. Ok (change.Rmdir old.dir old.name)) (IsGiven state id) (λ old. tt)
rmdir_given state id (Snaps dir) = tt
rmdir_given state id (InSnap dir name (below ∷ rest)) = tt
rmdir_given state id (InSnap path name []) = any_then (walk_live (tree_of state) path) _ (IsGiven state id) (λ dir. directory_ok (kind_in state.inodes dir) (remove_snap (own_snap state.snaps dir name)) (IsGiven state id) (removed (own_snap state.snaps dir name)))
  where
    removed : (o : Option Snapshot) → OkIs (remove_snap o) (IsGiven state id)
    removed None = tt
    removed (Some snap) = tt

create_given : (state : State) (id : SnapId) (mode : ℕ) (path : List (List ℕ)) → OkIs (create state mode path) (IsGiven state id)
create_given state id mode path = then_ok (new_entry (tree_of state) (next_ino state) path) (IsOf (next_ino state)) (λ new. Ok (change.Create new.dir new.name new.ino mode)) (IsGiven state id) (new_is (tree_of state) (next_ino state) path) (λ new is. is)

asked_given : (state : State) (client : ℕ) (id : SnapId) (asked : Request) → IfSome (change_asked state client id asked) (λ (r : Result Change Refusal). OkIs r (IsGiven state id))
asked_given state client id (request.Mkdir path) = mkdir_given state id (place_of path)
asked_given state client id (request.Rmdir path) = rmdir_given state id (place_of path)
asked_given state client id (request.Create path mode) = live_ok (place_of path) (create state mode) (IsGiven state id) (create_given state id mode)
asked_given state client id (request.Unlink path) = live_ok (place_of path) (unlink state) (IsGiven state id) (λ p. any_then (to_unlink (tree_of state) p) _ (IsGiven state id) (λ old. tt))
asked_given state client id (request.Link path target) = live_ok (place_of path) _ (IsGiven state id) (λ from. live_ok (place_of target) (link state from) (IsGiven state id) (λ p. any_then (to_link (tree_of state) from p) _ (IsGiven state id) (λ new. tt)))
asked_given state client id (request.Rename path target) = live_ok (place_of path) _ (IsGiven state id) (λ from. live_ok (place_of target) (rename state from) (IsGiven state id) (λ p. any_then (to_move (tree_of state) from p) _ (IsGiven state id) (λ both. tt)))
asked_given state client id (request.Chmod path mode) = live_ok (place_of path) (chmod state mode) (IsGiven state id) (λ p. any_then (walk_live (tree_of state) p) _ (IsGiven state id) (λ ino. tt))
asked_given state client id (request.Open handle path writable) = live_ok (place_of path) (open_file state client handle writable) (IsGiven state id) (λ p. unless_ok (is_some (open_of state.handles client handle)) BadHandle _ (IsGiven state id) (any_then (walk_live (tree_of state) p) _ (IsGiven state id) (λ ino. file_ok (kind_in state.inodes ino) (Ok (change.OpenFile handle ino writable)) (IsGiven state id) tt)))
asked_given state client id (request.Close handle) = if_ok (is_some (open_of state.handles client handle)) (Ok (change.CloseFile handle)) (Err BadHandle) (IsGiven state id) tt tt
asked_given state client id asked = tt

-- the same of the change itself
pub given : (state : State) (client : ℕ) (id : SnapId) (asked : Request) (made : Change) → change_asked state client id asked ≡ Some (Ok made) → IsGiven state id made
given state client id asked made is = subst (λ (o : Option (Result Change Refusal)). IfSome o (λ (r : Result Change Refusal). OkIs r (IsGiven state id))) is (asked_given state client id asked)

-- What a request for a change comes to: never nothing, and a new snapshot gets the id that is given.
use Rattle.std.proofs.Common.{◌≡◌, ℕ, Bool, true, false, not, cond, List, [], ◌∷◌, Option, None, Some, Result, Ok, Err, is_some, refl, subst, IfSome}
use Rattle.std.specs.List.{list_any}
use Rattle.snap_ids.specs.declared.id.Ino.{Ino}
use Rattle.snap_ids.specs.declared.id.SnapId.{SnapId}
use Rattle.snap_ids.specs.declared.values.Kind.{Kind}
use Rattle.snap_ids.specs.declared.values.Kind.TheVariants.{Dir, File}
use Rattle.snap_ids.specs.Name.{is_new_snap}
use Rattle.snap_ids.specs.Path.{Place, Live, Snaps, InSnap, place_of}
use Rattle.plain_types.specs.declared.answer.Refusal.{Refusal}
use Rattle.plain_types.specs.declared.answer.Refusal.TheVariants.{BadName, Exists, TooManySnaps, TooManyLive, BadHandle}
use Rattle.plain_types.specs.declared.change.Change.{Change}
use Rattle.plain_types.specs.declared.change.Change.TheVariants as change
use Rattle.plain_types.specs.declared.request.Request.{Request}
use Rattle.plain_types.specs.declared.request.Request.TheVariants as request
use Rattle.plain_tree.specs.State.{State, Snapshot, kind_in, next_ino}
use Rattle.plain_tree.specs.Change.{is_refused, own_snap, has_all_snaps, are_all_live, open_of}
use Rattle.plain_tree.specs.Request.{and_then, tree_of, walk_live, in_directory, on_file, new_entry, to_unlink, to_remove, to_link, to_move, on_live, new_snap, mkdir, remove_snap, roots_snap, rmdir, create, unlink, link, rename, chmod, open_file, change_asked}
use Rattle.plain_tree.proofs.Succeeds.{asked_succeeds}
use Rattle.journal_moments.specs.Moments.{is_live_snap}
use Rattle.mds_changes.specs.Changes.{is_change}

-- a request for a change comes to something
pub asks : (state : State) (client : ℕ) (id : SnapId) (asked : Request) → is_change asked ≡ true → change_asked state client id asked ≡ None → ⊥
asks state client id (request.Mkdir path) is none = cc
asks state client id (request.Rmdir path) is none = cc
asks state client id (request.Create path mode) is none = cc
asks state client id (request.Unlink path) is none = cc
asks state client id (request.Link path target) is none = cc
asks state client id (request.Rename path target) is none = cc
asks state client id (request.Chmod path mode) is none = cc
asks state client id (request.Open handle path writable) is none = cc
asks state client id (request.Close handle) is none = cc
asks state client id (request.Cat path) is none = cc
asks state client id (request.Stat path) is none = cc
asks state client id (request.List path) is none = cc
asks state client id (request.Realm path) is none = cc
asks state client id (request.Clones path index) is none = cc
asks state client id (request.Cap ino mode) is none = cc
asks state client id (request.Barrier number) is none = cc

-- a snapshot that is made has this id
abbrev pub HasId : SnapId → Change → Type 0
HasId id (change.Mksnap made dir name) = made ≡ id
HasId id made = Unit {0}

-- what a `mkdir` can come to, an `rmdir`, and another request
abbrev pub ByMkdir : SnapId → Change → Type 0
ByMkdir id (change.Mksnap made dir name) = made ≡ id
ByMkdir id (change.Rmsnap made) = ⊥
ByMkdir id made = Unit {0}

abbrev pub ByRmdir : Change → Type 0
ByRmdir (change.Mksnap made dir name) = ⊥
ByRmdir made = Unit {0}

abbrev pub InTree : Change → Type 0
InTree (change.Mksnap made dir name) = ⊥
InTree (change.Rmsnap made) = ⊥
InTree made = Unit {0}

abbrev pub IsAsked : SnapId → Request → Change → Type 0
IsAsked id (request.Mkdir path) made = ByMkdir id made
IsAsked id (request.Rmdir path) made = ByRmdir made
IsAsked id asked made = InTree made

-- what is true of a value, if there is one
abbrev OkIs : {A : Type 0} → Result A Refusal → (A → Type 0) → Type 0
OkIs (Ok a) P = P a
OkIs (Err refusal) P = Unit {0}

-- the second of two steps gives what it should whatever the first one gave
any_then : {A B : Type 0} (r : Result A Refusal) (go_on : A → Result B Refusal) (P : B → Type 0) → ((a : A) → OkIs (go_on a) P) → OkIs (and_then r go_on) P
any_then (Ok a) go_on P all = all a
any_then (Err refusal) go_on P all = tt

directory_ok : {A : Type 0} (k : Kind) (r : Result A Refusal) (P : A → Type 0) → OkIs r P → OkIs (in_directory k r) P
directory_ok Dir r P holds = holds
directory_ok File r P holds = tt

file_ok : {A : Type 0} (k : Kind) (r : Result A Refusal) (P : A → Type 0) → OkIs r P → OkIs (on_file k r) P
file_ok Dir r P holds = tt
file_ok File r P holds = holds

unless_ok : {A : Type 0} (b : Bool) (e : Refusal) (r : Result A Refusal) (P : A → Type 0) → OkIs r P → OkIs (cond b (Err e) r) P
unless_ok true e r P holds = tt
unless_ok false e r P holds = holds

if_ok : {A : Type 0} (b : Bool) (q r : Result A Refusal) (P : A → Type 0) → OkIs q P → OkIs r P → OkIs (cond b q r) P
if_ok true q r P one other = one
if_ok false q r P one other = other

live_ok : (p : Place) (go_on : List (List ℕ) → Result Change Refusal) (P : Change → Type 0) → ((path : List (List ℕ)) → OkIs (go_on path) P) → OkIs (on_live p go_on) P
live_ok (Live path) go_on P all = all path
live_ok (Snaps dir) go_on P all = tt
live_ok (InSnap dir name below) go_on P all = tt

mkdir_has : (state : State) (id : SnapId) (p : Place) → OkIs (mkdir state id p) (ByMkdir id)
mkdir_has state id (Live path) = any_then (new_entry (tree_of state) (next_ino state) path) (λ new. Ok (change.Mkdir new.dir new.name new.ino)) (ByMkdir id) (λ new. tt)
mkdir_has state id (Snaps dir) = tt
mkdir_has state id (InSnap dir name (below ∷ rest)) = tt
mkdir_has state id (InSnap dir name []) = any_then (walk_live (tree_of state) dir) (new_snap state id name) (ByMkdir id) (λ at. directory_ok (kind_in state.inodes at) _ (ByMkdir id)
    (unless_ok (not (is_new_snap name)) BadName _ (ByMkdir id)
    (unless_ok (is_some (own_snap state.snaps at name)) Exists _ (ByMkdir id)
    (unless_ok (has_all_snaps state.snaps at) TooManySnaps _ (ByMkdir id)
    (unless_ok (are_all_live state.snaps) TooManyLive (Ok (change.Mksnap id at name)) (ByMkdir id) refl)))))

rmdir_has : (state : State) (p : Place) → OkIs (rmdir state p) ByRmdir
rmdir_has state (Live path) = any_then (to_remove (roots_snap state.snaps) (tree_of state) path) (λ old. Ok (change.Rmdir old.dir old.name)) ByRmdir (λ old. tt)
rmdir_has state (Snaps dir) = tt
rmdir_has state (InSnap dir name (below ∷ rest)) = tt
rmdir_has state (InSnap path name []) = any_then (walk_live (tree_of state) path) _ ByRmdir (λ dir. directory_ok (kind_in state.inodes dir) (remove_snap (own_snap state.snaps dir name)) ByRmdir (removed (own_snap state.snaps dir name)))
  where
    removed : (o : Option Snapshot) → OkIs (remove_snap o) ByRmdir
    removed None = tt
    removed (Some snap) = tt

asked_has : (state : State) (client : ℕ) (id : SnapId) (asked : Request) → IfSome (change_asked state client id asked) (λ (r : Result Change Refusal). OkIs r (IsAsked id asked))
asked_has state client id (request.Mkdir path) = mkdir_has state id (place_of path)
asked_has state client id (request.Rmdir path) = rmdir_has state (place_of path)
asked_has state client id (request.Create path mode) = live_ok (place_of path) (create state mode) InTree (λ p. any_then (new_entry (tree_of state) (next_ino state) p) _ InTree (λ new. tt))
asked_has state client id (request.Unlink path) = live_ok (place_of path) (unlink state) InTree (λ p. any_then (to_unlink (tree_of state) p) _ InTree (λ old. tt))
asked_has state client id (request.Link path target) = live_ok (place_of path) _ InTree (λ from. live_ok (place_of target) (link state from) InTree (λ p. any_then (to_link (tree_of state) from p) _ InTree (λ new. tt)))
asked_has state client id (request.Rename path target) = live_ok (place_of path) _ InTree (λ from. live_ok (place_of target) (rename state from) InTree (λ p. any_then (to_move (tree_of state) from p) _ InTree (λ both. tt)))
asked_has state client id (request.Chmod path mode) = live_ok (place_of path) (chmod state mode) InTree (λ p. any_then (walk_live (tree_of state) p) _ InTree (λ ino. tt))
asked_has state client id (request.Open handle path writable) = live_ok (place_of path) (open_file state client handle writable) InTree (λ p. unless_ok (is_some (open_of state.handles client handle)) BadHandle _ InTree (any_then (walk_live (tree_of state) p) _ InTree (λ ino. file_ok (kind_in state.inodes ino) (Ok (change.OpenFile handle ino writable)) InTree tt)))
asked_has state client id (request.Close handle) = if_ok (is_some (open_of state.handles client handle)) (Ok (change.CloseFile handle)) (Err BadHandle) InTree tt tt
asked_has state client id asked = tt

-- what a request comes to is what it can come to
pub is_asked : (state : State) (client : ℕ) (id : SnapId) (asked : Request) (made : Change) → change_asked state client id asked ≡ Some (Ok made) → IsAsked id asked made
is_asked state client id asked made is = subst (λ (o : Option (Result Change Refusal)). IfSome o (λ (r : Result Change Refusal). OkIs r (IsAsked id asked))) is (asked_has state client id asked)

has_id : (id : SnapId) (asked : Request) (made : Change) → IsAsked id asked made → HasId id made
has_id id (request.Mkdir path) (change.Mksnap new dir name) is = is
has_id id (request.Rmdir path) (change.Mksnap new dir name) is = absurd is
has_id id asked (change.Mksnap new dir name) is = absurd is
has_id id asked made is = tt

-- the snapshot that a request makes has the id that is given
pub gets_id : (state : State) (client : ℕ) (id : SnapId) (asked : Request) (made : Change) → change_asked state client id asked ≡ Some (Ok made) → HasId id made
gets_id state client id asked made is = has_id id asked made (is_asked state client id asked made is)

-- the one that it removes is live
pub is_live : (state : State) (client : ℕ) (id removed : SnapId) (asked : Request) → change_asked state client id asked ≡ Some (Ok (change.Rmsnap removed)) → is_live_snap removed state.snaps ≡ true
is_live state client id removed asked is = not_false _ (asked_succeeds state client id asked (change.Rmsnap removed) is)
  where
    not_false : (b : Bool) → not b ≡ false → b ≡ true
    not_false true one = refl
    not_false false one = cc

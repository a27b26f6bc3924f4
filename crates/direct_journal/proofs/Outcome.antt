-- Which changes a request comes to.
use Rattle.std.proofs.Common.{◌≡◌, ℕ, List, [], ◌∷◌, Bool, true, false, Option, None, Some, Result, Ok, Err, refl, ap, subst}
use Rattle.std.specs.Prelude.{not, is_some, slice_get, if◌then◌else◌, ◌-◌, length, take}
use Rattle.snap_ids.specs.declared.id.Ino.{Ino}
use Rattle.snap_ids.specs.declared.id.SnapId.{SnapId}
use Rattle.snap_ids.specs.declared.values.Kind.{Kind}
use Rattle.snap_ids.specs.declared.values.Kind.TheVariants.{Dir, File}
use Rattle.snap_ids.specs.Path.{Place, Live, Snaps, InSnap, place_of}
use Rattle.plain_types.specs.declared.answer.Refusal.{Refusal}
use Rattle.plain_types.specs.declared.answer.Refusal.TheVariants as refusal
use Rattle.plain_types.specs.declared.change.Change.{Change}
use Rattle.plain_types.specs.declared.change.Change.TheVariants as change
use Rattle.plain_types.specs.declared.entry.What.{What}
use Rattle.plain_types.specs.declared.entry.What.TheVariants as what
use Rattle.plain_types.specs.declared.request.Request.{Request}
use Rattle.plain_types.specs.declared.request.Request.TheVariants as request
use Rattle.plain_tree.specs.State.{State, Entry, Snapshot, kind_in, lookup, next_ino}
use Rattle.snap_ids.specs.Name.{is_new, is_new_snap}
use Rattle.plain_tree.specs.Change.{entry, own_snap, has_all_snaps, are_all_live}
use Rattle.plain_types.specs.declared.script.Line.{Line}
use Rattle.plain_types.specs.declared.script.Line.TheVariants as line
use Rattle.plain_tree.specs.Line.{request_of, server_change, change_by}
use Rattle.plain_tree.specs.Change.{is_refused}
use Rattle.plain_tree.proofs.Succeeds.{asked_succeeds}
use Rattle.plain_tree.specs.Request.{and_then, Tree, tree_of, walk_live, in_directory, on_file, new_name, new_entry, to_unlink, to_remove, to_link, to_move, on_live, new_snap, mkdir, remove_snap, roots_snap, rmdir, create, change_asked}
use Rattle.plain_journal.specs.Entries.{change_in}
use Rattle.direct_journal.specs.Journal.{what_of}
use Rattle.direct_journal.specs.Legal.{success}
use Rattle.direct_journal.specs.Served.{is_served}

-- a change of the server, with the next inode, and this id for a new snapshot
abbrev pub IsNext : State → SnapId → Change → Type 0
IsNext state id (change.Mkdir dir name ino) = ino ≡ next_ino state
IsNext state id (change.Create dir name ino mode) = ino ≡ next_ino state
IsNext state id (change.Mksnap given dir name) = given ≡ id
IsNext state id (change.WriteFile handle offset bytes) = ⊥
IsNext state id (change.Truncate handle size) = ⊥
IsNext state id other = Unit {0}

-- what a result gives is so
pub OkIs : {A : Type 0} → (A → Type 0) → Result A Refusal → Type 0
OkIs P (Ok value) = P value
OkIs P (Err refusal) = Unit {0}

of_ok : {A : Type 0} (P : A → Type 0) (a : A) → P a → OkIs P (Ok a)
unfolding OkIs
of_ok P a holds = holds

of_err : {A : Type 0} (P : A → Type 0) (e : Refusal) → OkIs P (Err e)
unfolding OkIs
of_err P e = tt

then_ok : {A B : Type 0} (P : B → Type 0) (r : Result A Refusal) (go_on : A → Result B Refusal) → ((a : A) → OkIs P (go_on a)) → OkIs P (and_then r go_on)
unfolding OkIs
then_ok P (Ok a) go_on holds = holds a
then_ok P (Err e) go_on holds = tt

-- the second of two steps, where the first gave a value that is so
after_ok : {A B : Type 0} (Q : A → Type 0) (P : B → Type 0) (r : Result A Refusal) (go_on : A → Result B Refusal) → OkIs Q r → ((a : A) → Q a → OkIs P (go_on a)) → OkIs P (and_then r go_on)
unfolding OkIs
after_ok Q P (Ok a) go_on first holds = holds a first
after_ok Q P (Err e) go_on first holds = tt

directory_is : {A : Type 0} (P : A → Type 0) (k : Kind) (r : Result A Refusal) → OkIs P r → OkIs P (in_directory k r)
unfolding OkIs
directory_is P Dir r holds = holds
directory_is P File r holds = tt

file_is : {A : Type 0} (P : A → Type 0) (k : Kind) (r : Result A Refusal) → OkIs P r → OkIs P (on_file k r)
unfolding OkIs
file_is P Dir r holds = tt
file_is P File r holds = holds

unless_is : {A : Type 0} (P : A → Type 0) (b : Bool) (e : Refusal) (r : Result A Refusal) → OkIs P r → OkIs P (if b then Err e else r)
unfolding OkIs
unless_is P true e r holds = tt
unless_is P false e r holds = holds

if_is : {A : Type 0} (P : A → Type 0) (b : Bool) (r s : Result A Refusal) → OkIs P r → OkIs P s → OkIs P (if b then r else s)
unfolding OkIs
if_is P true r s a b = a
if_is P false r s a b = b

live_is : (P : Change → Type 0) (place : Place) (go_on : List (List ℕ) → Result Change Refusal) → ((path : List (List ℕ)) → OkIs P (go_on path)) → OkIs P (on_live place go_on)
unfolding OkIs
live_is P (Live path) go_on holds = holds path
live_is P (Snaps dir) go_on holds = tt
live_is P (InSnap dir name below) go_on holds = tt

-- a new entry names the inode that it is given
new_is : (tree : Tree) (ino : Ino) (path : List (List ℕ)) → OkIs (λ (e : Entry). e.ino ≡ ino) (new_entry tree ino path)
new_is tree ino path = by_last (slice_get path (length path - 1))
  where
    one : (name : List ℕ) (dir : Ino) → OkIs (λ (e : Entry). e.ino ≡ ino) (in_directory (tree.kind dir) (new_name tree ino name dir))
    one name dir = directory_is (λ (e : Entry). e.ino ≡ ino) (tree.kind dir) (new_name tree ino name dir) (unless_is (λ (e : Entry). e.ino ≡ ino) (not (is_new name)) refusal.BadName _ (unless_is (λ (e : Entry). e.ino ≡ ino) (is_some (lookup tree.entries dir name)) refusal.Exists (Ok (entry dir name ino)) (of_ok (λ (e : Entry). e.ino ≡ ino) (entry dir name ino) refl)))

    by_last : (o : Option (List ℕ)) → OkIs (λ (e : Entry). e.ino ≡ ino) (elim o as (λ _. Result Entry Refusal) [ None ↦ Err refusal.BadName | Some name ↦ and_then (walk_live tree (take (length path - 1) path)) (λ dir. in_directory (tree.kind dir) (new_name tree ino name dir)) ])
    by_last None = of_err (λ (e : Entry). e.ino ≡ ino) refusal.BadName
    by_last (Some name) = then_ok (λ (e : Entry). e.ino ≡ ino) (walk_live tree (take (length path - 1) path)) (λ dir. in_directory (tree.kind dir) (new_name tree ino name dir)) (one name)

snap_is : (state : State) (id : SnapId) (name : List ℕ) (dir : Ino) → OkIs (IsNext state id) (new_snap state id name dir)
snap_is state id name dir =
    directory_is (IsNext state id) (kind_in state.inodes dir) _
    (unless_is (IsNext state id) (not (is_new_snap name)) refusal.BadName _
    (unless_is (IsNext state id) (is_some (own_snap state.snaps dir name)) refusal.Exists _
    (unless_is (IsNext state id) (has_all_snaps state.snaps dir) refusal.TooManySnaps _
    (unless_is (IsNext state id) (are_all_live state.snaps) refusal.TooManyLive (Ok (change.Mksnap id dir name)) (of_ok (IsNext state id) (change.Mksnap id dir name) refl)))))

mkdir_is : (state : State) (id : SnapId) (place : Place) → OkIs (IsNext state id) (mkdir state id place)
mkdir_is state id (Live path) = after_ok (λ (e : Entry). e.ino ≡ next_ino state) (IsNext state id) (new_entry (tree_of state) (next_ino state) path) _ (new_is (tree_of state) (next_ino state) path) (λ e is. of_ok (IsNext state id) (change.Mkdir e.dir e.name e.ino) is)
mkdir_is state id (Snaps dir) = of_err (IsNext state id) refusal.ReadOnly
mkdir_is state id (InSnap dir name []) = then_ok (IsNext state id) (walk_live (tree_of state) dir) _ (snap_is state id name)
mkdir_is state id (InSnap dir name (below ∷ rest)) = of_err (IsNext state id) refusal.ReadOnly

rmdir_is : (state : State) (id : SnapId) (place : Place) → OkIs (IsNext state id) (rmdir state place)
rmdir_is state id (Live path) = then_ok (IsNext state id) (to_remove (roots_snap state.snaps) (tree_of state) path) _ (λ e. of_ok (IsNext state id) (change.Rmdir e.dir e.name) tt)
rmdir_is state id (Snaps dir) = of_err (IsNext state id) refusal.ReadOnly
rmdir_is state id (InSnap path name []) = then_ok (IsNext state id) (walk_live (tree_of state) path) _ (λ dir. directory_is (IsNext state id) (kind_in state.inodes dir) _ (by_snap (own_snap state.snaps dir name)))
  where
    by_snap : (o : Option Snapshot) → OkIs (IsNext state id) (remove_snap o)
    by_snap None = of_err (IsNext state id) refusal.NoSnap
    by_snap (Some snap) = of_ok (IsNext state id) (change.Rmsnap snap.id) tt
rmdir_is state id (InSnap dir name (below ∷ rest)) = of_err (IsNext state id) refusal.ReadOnly

create_is : (state : State) (id : SnapId) (mode : ℕ) (path : List (List ℕ)) → OkIs (IsNext state id) (create state mode path)
create_is state id mode path = after_ok (λ (e : Entry). e.ino ≡ next_ino state) (IsNext state id) (new_entry (tree_of state) (next_ino state) path) _ (new_is (tree_of state) (next_ino state) path) (λ e is. of_ok (IsNext state id) (change.Create e.dir e.name e.ino mode) is)

-- what a request may come to is so
abbrev OutcomeIs : (Change → Type 0) → Option (Result Change Refusal) → Type 0
OutcomeIs P None = Unit {0}
OutcomeIs P (Some result) = OkIs P result

asked_is : (state : State) (client : ℕ) (id : SnapId) (asked : Request) → OutcomeIs (IsNext state id) (change_asked state client id asked)
asked_is state client id (request.Mkdir path) = mkdir_is state id (place_of path)
asked_is state client id (request.Rmdir path) = rmdir_is state id (place_of path)
asked_is state client id (request.Create path mode) = live_is (IsNext state id) (place_of path) _ (create_is state id mode)
asked_is state client id (request.Unlink path) = live_is (IsNext state id) (place_of path) _ (λ p. then_ok (IsNext state id) (to_unlink (tree_of state) p) _ (λ e. of_ok (IsNext state id) (change.Unlink e.dir e.name) tt))
asked_is state client id (request.Link path target) = live_is (IsNext state id) (place_of path) _ (λ p. live_is (IsNext state id) (place_of target) _ (λ t. then_ok (IsNext state id) (to_link (tree_of state) p t) _ (λ e. of_ok (IsNext state id) (change.Link e.ino e.dir e.name) tt)))
asked_is state client id (request.Rename path target) = live_is (IsNext state id) (place_of path) _ (λ p. live_is (IsNext state id) (place_of target) _ (λ t. then_ok (IsNext state id) (to_move (tree_of state) p t) _ (λ e. of_ok (IsNext state id) (change.Rename e.0.dir e.0.name e.1.dir e.1.name) tt)))
asked_is state client id (request.Chmod path mode) = live_is (IsNext state id) (place_of path) _ (λ p. then_ok (IsNext state id) (walk_live (tree_of state) p) _ (λ ino. of_ok (IsNext state id) (change.Chmod ino mode) tt))
asked_is state client id (request.Open handle path writable) = live_is (IsNext state id) (place_of path) _ (λ p. unless_is (IsNext state id) _ _ _ (then_ok (IsNext state id) (walk_live (tree_of state) p) _ (λ ino. file_is (IsNext state id) (kind_in state.inodes ino) _ (of_ok (IsNext state id) (change.OpenFile handle ino writable) tt))))
asked_is state client id (request.Close handle) = if_is (IsNext state id) _ _ _ (of_ok (IsNext state id) (change.CloseFile handle) tt) (of_err (IsNext state id) refusal.BadHandle)
asked_is state client id (request.Cat path) = tt
asked_is state client id (request.Stat path) = tt
asked_is state client id (request.List path) = tt
asked_is state client id (request.Realm path) = tt
asked_is state client id (request.Clones path index) = tt
asked_is state client id (request.Cap ino mode) = tt
asked_is state client id (request.Barrier number) = tt

-- the change that a request comes to is the next one
pub asked_next : (state : State) (client : ℕ) (id : SnapId) (asked : Request) (made : Change) → change_asked state client id asked ≡ Some (Ok made) → IsNext state id made
unfolding OkIs
asked_next state client id asked made is = subst (OutcomeIs (IsNext state id)) is (asked_is state client id asked)

-- what is written down of a change says it
pub record IsWritten (made : Change) : Type 0 where
  pub what : What
  pub said : what_of made ≡ Some what
  pub says : change_in what ≡ Some made

pub written : (state : State) (id : SnapId) (made : Change) → IsNext state id made → IsWritten made
written state id (change.Mkdir dir name ino) next = record { what = what.Mkdir dir name ino; said = refl; says = refl }
written state id (change.Create dir name ino mode) next = record { what = what.Create dir name ino mode; said = refl; says = refl }
written state id (change.Link ino dir name) next = record { what = what.Link ino dir name; said = refl; says = refl }
written state id (change.Unlink dir name) next = record { what = what.Unlink dir name; said = refl; says = refl }
written state id (change.Rmdir dir name) next = record { what = what.Rmdir dir name; said = refl; says = refl }
written state id (change.Rename dir name to_dir to_name) next = record { what = what.Rename dir name to_dir to_name; said = refl; says = refl }
written state id (change.Chmod ino mode) next = record { what = what.Chmod ino mode; said = refl; says = refl }
written state id (change.OpenFile handle ino writable) next = record { what = what.OpenFile handle ino writable; said = refl; says = refl }
written state id (change.CloseFile handle) next = record { what = what.CloseFile handle; said = refl; says = refl }
written state id (change.Mksnap given dir name) next = record { what = what.Mksnap given dir name; said = refl; says = refl }
written state id (change.Rmsnap given) next = record { what = what.Rmsnap given; said = refl; says = refl }
written state id (change.WriteFile handle offset bytes) next = absurd next
written state id (change.Truncate handle size) next = absurd next

-- a line that is served is a request, or a query
pub by_request : (state : State) (client : ℕ) (id : SnapId) (asked : Line) → is_served asked ≡ true → change_by state client id asked ≡ server_change state client id (request_of asked)
by_request state client id (line.Write handle offset bytes) served = cc
by_request state client id (line.Truncate handle size) served = cc
by_request state client id asked served = refl

success_ok : (o : Option (Result Change Refusal)) (made : Change) → success o ≡ Some made → o ≡ Some (Ok made)
success_ok None made is = cc
success_ok (Some (Ok other)) made is = let same : other ≡ made = cc in ap (λ (c : Change). Some (Ok c)) same
success_ok (Some (Err refusal)) made is = cc

-- a change that is made is the next one, and isn't refused
pub record IsMade (state : State) (client : ℕ) (id : SnapId) (made : Change) : Type 0 where
  pub next : IsNext state id made
  pub fine : is_refused state client made ≡ false

by_asked : (state : State) (client : ℕ) (id : SnapId) (r : Option Request) (made : Change) → server_change state client id r ≡ Some (Ok made) → IsMade state client id made
by_asked state client id None made is = cc
by_asked state client id (Some asked) made is = record { next = asked_next state client id asked made is; fine = asked_succeeds state client id asked made is }

pub is_made : (state : State) (client : ℕ) (id : SnapId) (asked : Line) (made : Change) → success (server_change state client id (request_of asked)) ≡ Some made → IsMade state client id made
is_made state client id asked made is = by_asked state client id (request_of asked) made (success_ok (server_change state client id (request_of asked)) made is)

-- What a request for a change comes to: a new snapshot is made by a `mkdir`, and one is removed by an `rmdir`.
use Rattle.std.proofs.Common.{◌≡◌, ℕ, [], ◌∷◌, true, Option, None, Some, refl, IfSome}
use Rattle.std.specs.Prelude.{not, is_some, Result, Ok, Err}
use Rattle.snap_ids.specs.declared.id.SnapId.{SnapId}
use Rattle.snap_ids.specs.Name.{is_new_snap}
use Rattle.snap_ids.specs.Path.{Place, Live, Snaps, InSnap, place_of}
use Rattle.plain_types.specs.declared.answer.Refusal.{Refusal}
use Rattle.plain_types.specs.declared.answer.Refusal.TheVariants.{BadName, Exists, TooManySnaps, TooManyLive, BadHandle}
use Rattle.plain_types.specs.declared.change.Change.{Change}
use Rattle.plain_types.specs.declared.change.Change.TheVariants as change
use Rattle.plain_types.specs.declared.request.Request.{Request}
use Rattle.plain_types.specs.declared.request.Request.TheVariants as request
use Rattle.plain_tree.specs.State.{State, Snapshot, kind_in, next_ino}
use Rattle.plain_tree.specs.Change.{own_snap, has_all_snaps, are_all_live, open_of}
use Rattle.plain_tree.specs.Request.{tree_of, walk_live, new_entry, to_unlink, to_remove, to_link, to_move, new_snap, mkdir, remove_snap, roots_snap, rmdir, create, unlink, link, rename, open_file, change_asked}
use Rattle.run_laws.specs.Prepared.{is_mkdir, is_rmdir}
use Rattle.run_laws.proofs.Fitting.{OkIs, then_ok, directory_ok, file_ok, unless_ok, if_ok, live_ok}

abbrev pub MadeBy : Request → Change → Type 0
MadeBy asked (change.Mksnap id dir name) = is_mkdir asked ≡ true
MadeBy asked (change.Rmsnap id) = is_rmdir asked ≡ true
MadeBy asked made = Unit {0}

mkdir_comes : (state : State) (id : SnapId) (asked : Request) → is_mkdir asked ≡ true → (p : Place) → OkIs (mkdir state id p) (MadeBy asked)
mkdir_comes state id asked is (Live path) = then_ok (new_entry (tree_of state) (next_ino state) path) (λ new. Ok (change.Mkdir new.dir new.name new.ino)) (MadeBy asked) (λ new. tt)
mkdir_comes state id asked is (Snaps dir) = tt
mkdir_comes state id asked is (InSnap dir name (below ∷ rest)) = tt
mkdir_comes state id asked is (InSnap dir name []) = then_ok (walk_live (tree_of state) dir) (new_snap state id name) (MadeBy asked) (λ at. directory_ok (kind_in state.inodes at) _ (MadeBy asked)
    (unless_ok (not (is_new_snap name)) BadName _ (MadeBy asked)
    (unless_ok (is_some (own_snap state.snaps at name)) Exists _ (MadeBy asked)
    (unless_ok (has_all_snaps state.snaps at) TooManySnaps _ (MadeBy asked)
    (unless_ok (are_all_live state.snaps) TooManyLive (Ok (change.Mksnap id at name)) (MadeBy asked) is)))))

rmdir_comes : (state : State) (asked : Request) → is_rmdir asked ≡ true → (p : Place) → OkIs (rmdir state p) (MadeBy asked)
rmdir_comes state asked is (Live path) = then_ok (to_remove (roots_snap state.snaps) (tree_of state) path) (λ old. Ok (change.Rmdir old.dir old.name)) (MadeBy asked) (λ old. tt)
rmdir_comes state asked is (Snaps dir) = tt
rmdir_comes state asked is (InSnap dir name (below ∷ rest)) = tt
rmdir_comes state asked is (InSnap path name []) = then_ok (walk_live (tree_of state) path) _ (MadeBy asked) (λ dir. directory_ok (kind_in state.inodes dir) (remove_snap (own_snap state.snaps dir name)) (MadeBy asked) (removed (own_snap state.snaps dir name)))
  where
    removed : (o : Option Snapshot) → OkIs (remove_snap o) (MadeBy asked)
    removed None = tt
    removed (Some snap) = is

pub comes_to : (state : State) (client : ℕ) (id : SnapId) (asked : Request) → IfSome (change_asked state client id asked) (λ (r : Result Change Refusal). OkIs r (MadeBy asked))
comes_to state client id (request.Mkdir path) = mkdir_comes state id (request.Mkdir path) refl (place_of path)
comes_to state client id (request.Rmdir path) = rmdir_comes state (request.Rmdir path) refl (place_of path)
comes_to state client id (request.Create path mode) = let asked = request.Create path mode in live_ok (place_of path) (create state mode) (MadeBy asked) (λ p. then_ok (new_entry (tree_of state) (next_ino state) p) _ (MadeBy asked) (λ new. tt))
comes_to state client id (request.Unlink path) = let asked = request.Unlink path in live_ok (place_of path) (unlink state) (MadeBy asked) (λ p. then_ok (to_unlink (tree_of state) p) _ (MadeBy asked) (λ old. tt))
comes_to state client id (request.Link path target) = let asked = request.Link path target in live_ok (place_of path) _ (MadeBy asked) (λ from. live_ok (place_of target) (link state from) (MadeBy asked) (λ p. then_ok (to_link (tree_of state) from p) _ (MadeBy asked) (λ new. tt)))
comes_to state client id (request.Rename path target) = let asked = request.Rename path target in live_ok (place_of path) _ (MadeBy asked) (λ from. live_ok (place_of target) (rename state from) (MadeBy asked) (λ p. then_ok (to_move (tree_of state) from p) _ (MadeBy asked) (λ both. tt)))
comes_to state client id (request.Chmod path mode) = let asked = request.Chmod path mode in live_ok (place_of path) _ (MadeBy asked) (λ p. then_ok (walk_live (tree_of state) p) _ (MadeBy asked) (λ ino. tt))
comes_to state client id (request.Open handle path writable) = let asked = request.Open handle path writable in live_ok (place_of path) (open_file state client handle writable) (MadeBy asked) (λ p. unless_ok (is_some (open_of state.handles client handle)) BadHandle _ (MadeBy asked) (then_ok (walk_live (tree_of state) p) _ (MadeBy asked) (λ ino. file_ok (kind_in state.inodes ino) (Ok (change.OpenFile handle ino writable)) (MadeBy asked) tt)))
comes_to state client id (request.Close handle) = if_ok (is_some (open_of state.handles client handle)) (Ok (change.CloseFile handle)) (Err BadHandle) (MadeBy (request.Close handle)) tt tt
comes_to state client id asked = tt

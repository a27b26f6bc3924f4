-- What the tables come to is what the plain state that they show does.
use Rattle.std.specs.Prelude.{find, option_map}
use Rattle.std.proofs.Common.{◌≡◌, ℕ, Bool, true, false, not, ◌||◌, cond, List, [], ◌∷◌, length, Option, None, Some, Result, Ok, Err, refl, sym, ap, ◌∙◌, IfOk, OnErr}
use Rattle.std.specs.Prelude.{filter, is_some, if◌then◌else◌, nat_lt, nat_le}
use Rattle.std.specs.List.{list_any}
use Rattle.snap_ids.specs.declared.id.Ino.{Ino}
use Rattle.snap_ids.specs.declared.id.SnapId.{SnapId}
use Rattle.snap_ids.specs.declared.memory.NoMemory.{NoMemory as Wanted}
use Rattle.snap_ids.specs.Name.{is_new_snap}
use Rattle.snap_ids.specs.Path.{Place, Live, Snaps, InSnap, place_of}
use Rattle.plain_types.specs.declared.answer.Refusal.{Refusal}
use Rattle.plain_types.specs.declared.answer.Refusal.TheVariants as refusal
use Rattle.plain_types.specs.declared.change.Change.{Change}
use Rattle.plain_types.specs.declared.change.Change.TheVariants as change
use Rattle.plain_types.specs.declared.request.Request.{Request}
use Rattle.plain_types.specs.declared.request.Request.TheVariants as request
use Rattle.plain_tree.specs.State.{State, Snapshot}
use Rattle.plain_tree.specs.Change.{own_snap, is_own, is_live, has_all_snaps, are_all_live}
use Rattle.plain_tree.specs.Request.{tree_of, and_then, in_directory, on_live, walk_live, new_entry, to_link, to_move, to_remove, to_unlink, mkdir, remove_snap, rmdir, create, unlink, link, rename, chmod, open_file, change_asked}
use Rattle.realm_story.specs.Family.{Family, Made, is_named}
use Rattle.dentry_tree.specs.Dentries as dentries
use Rattle.snap_realm.specs.Tree as realms
use Rattle.snap_realm.specs.Refusals.{refusal_by, id_named}
use Rattle.rename_split.specs.Plans.{live}
use Rattle.file_uses.specs.Uses.{Uses}
use Rattle.change_plan.specs.Tables.{HasSnaps, Show}
use Rattle.change_plan.specs.Causes.{Answers}
use Rattle.change_plan.specs.Causes as causes
use Rattle.change_plan.specs.Asked.{unless, snap_in, dropped, made, gone, asked, opened, closed}
use Rattle.change_plan.proofs.Ends.{made_dir_is, made_file_is, removed_is, unlinked_is, linked_is, renamed_is}

-- one of a list passes a test where the first such is there
found_any : {A : Type 0} (test : A → Bool) (xs : List A) → is_some (find test xs) ≡ list_any test xs
found_any test [] = refl
found_any test (x ∷ xs) = go (test x) (found_any test xs)
  where
    go : (b : Bool) → is_some (find test xs) ≡ list_any test xs → is_some (cond b (Some x) (find test xs)) ≡ (b || list_any test xs)
    go true rest = refl
    go false rest = rest

some_mapped : {A B : Type 0} (f : A → B) (found : Option A) → is_some (option_map f found) ≡ is_some found
some_mapped f None = refl
some_mapped f (Some x) = refl

-- the id of the first that has a name
id_found : (dir : Ino) (name : List ℕ) (snaps : List Made) → id_named dir name snaps ≡ option_map (λ (snap : Made). snap.id) (find (is_named dir name) snaps)
id_found dir name [] = refl
id_found dir name (made ∷ snaps) = go (is_named dir name made) (id_found dir name snaps)
  where
    go : (b : Bool) → id_named dir name snaps ≡ option_map (λ (snap : Made). snap.id) (find (is_named dir name) snaps) → cond b (Some made.id) (id_named dir name snaps) ≡ option_map (λ (snap : Made). snap.id) (cond b (Some made) (find (is_named dir name) snaps))
    go true rest = refl
    go false rest = rest

-- the refusals of a new snapshot, one after the other
refusals : {A : Type 0} (result : Result A Refusal) (taken full all : Bool) (own live : ℕ) → nat_le 100 own ≡ full → nat_le 128 live ≡ all → unless (refusal_by taken own live) result ≡ (if taken then Err refusal.Exists else (if full then Err refusal.TooManySnaps else (if all then Err refusal.TooManyLive else result)))
refusals result true full all own live is_full is_all = refl
refusals result false true all own live is_full is_all = rw is_full refl
refusals result false false true own live is_full is_all = rw (is_full, is_all) refl
refusals result false false false own live is_full is_all = rw (is_full, is_all) refl

dropped_is : (found : Option Snapshot) → dropped (option_map (λ (snap : Snapshot). snap.id) found) ≡ remove_snap found
dropped_is None = refl
dropped_is (Some snap) = refl

from_100 : (n : ℕ) → nat_le 100 n ≡ nat_lt 99 n
from_100 n = refl

from_128 : (n : ℕ) → nat_le 128 n ≡ nat_lt 127 n
from_128 n = refl

module _ (names : dentries.Tree) (tree : realms.Tree) (uses : Uses) (next : Ino) (state : State) (show : Show names tree uses next state) where
  abbrev pub family : Family
  family = show.snaps_shown.family

  abbrev pub snaps : HasSnaps state.snaps family
  snaps = show.snaps_shown.snaps

  tree_same : live names ≡ tree_of state
  tree_same = λ i. record { kind = λ ino. show.names_shown.kinds ino i; entries = show.names_shown.entries i }

  taken_is : (dir : Ino) (name : List ℕ) → list_any (is_named dir name) family.snaps ≡ is_some (own_snap state.snaps dir name)
  taken_is dir name =
      sym (found_any (is_named dir name) family.snaps)
      ∙ sym (some_mapped (λ (snap : Made). snap.id) (find (is_named dir name) family.snaps))
      ∙ ap is_some (sym (snaps.named dir name))
      ∙ some_mapped (λ (snap : Snapshot). snap.id) (own_snap state.snaps dir name)

  -- a new snapshot
  snap_is : (id : SnapId) (name : List ℕ) (dir : Ino) → snap_in family id name dir ≡ (if not (is_new_snap name) then Err refusal.BadName else (if is_some (own_snap state.snaps dir name) then Err refusal.Exists else (if has_all_snaps state.snaps dir then Err refusal.TooManySnaps else (if are_all_live state.snaps then Err refusal.TooManyLive else Ok (change.Mksnap id dir name)))))
  snap_is id name dir =
      ap (λ (r : Result Change Refusal). if not (is_new_snap name) then Err refusal.BadName else r)
      (refusals (Ok (change.Mksnap id dir name)) (list_any (is_named dir name) family.snaps) (has_all_snaps state.snaps dir) (are_all_live state.snaps) _ _
      (ap (nat_le 100) (sym (snaps.of_one dir)) ∙ from_100 (length (filter (is_own dir) state.snaps)))
      (ap (nat_le 128) (sym snaps.of_all) ∙ from_128 (length (filter is_live state.snaps)))
      ∙ ap (λ (b : Bool). if b then Err refusal.Exists else (if has_all_snaps state.snaps dir then Err refusal.TooManySnaps else (if are_all_live state.snaps then Err refusal.TooManyLive else Ok (change.Mksnap id dir name)))) (taken_is dir name))

  -- and one that goes
  dropped_same : (dir : Ino) (name : List ℕ) → dropped (id_named dir name family.snaps) ≡ remove_snap (own_snap state.snaps dir name)
  dropped_same dir name = ap dropped (id_found dir name family.snaps ∙ sym (snaps.named dir name)) ∙ dropped_is (own_snap state.snaps dir name)

  made_same : (id : SnapId) (place : Place) → made (live names) family next id place ≡ mkdir state id place
  made_same id (Live path) =
      made_dir_is (live names) next path
      ∙ (λ i. and_then (new_entry (tree_same i) (show.next_one i) path) (λ new. Ok (change.Mkdir new.dir new.name new.ino)))
  made_same id (Snaps dir) = refl
  made_same id (InSnap dir name []) = λ i. and_then (walk_live (tree_same i) dir) (λ found. in_directory ((tree_same i).kind found) (snap_is id name found i))
  made_same id (InSnap dir name (below ∷ rest)) = refl

  gone_same : (place : Place) → gone (live names) family place ≡ rmdir state place
  gone_same (Live path) =
      removed_is (live names) family path
      ∙ (λ i. and_then (to_remove (λ ino. sym (snaps.rooted ino) i) (tree_same i) path) (λ old. Ok (change.Rmdir old.dir old.name)))
  gone_same (Snaps dir) = refl
  gone_same (InSnap dir name []) = λ i. and_then (walk_live (tree_same i) dir) (λ found. in_directory ((tree_same i).kind found) (dropped_same found name i))
  gone_same (InSnap dir name (below ∷ rest)) = refl

  -- a change of the live tree
  live_same : (place : Place) (a b : List (List ℕ) → Result Change Refusal) → ((path : List (List ℕ)) → a path ≡ b path) → on_live place a ≡ on_live place b
  live_same place a b same = λ i. on_live place (λ path. same path i)

  pub asked_same : (client : ℕ) (id : SnapId) (asking : Request) → asked (live names) family uses.handles next client id asking ≡ change_asked state client id asking
  asked_same client id (request.Mkdir path) = ap Some (made_same id (place_of path))
  asked_same client id (request.Rmdir path) = ap Some (gone_same (place_of path))
  asked_same client id (request.Create path mode) = ap Some (live_same (place_of path) _ (create state mode) (λ p.
      made_file_is (live names) next mode p
      ∙ (λ i. and_then (new_entry (tree_same i) (show.next_one i) p) (λ new. Ok (change.Create new.dir new.name new.ino mode)))))
  asked_same client id (request.Unlink path) = ap Some (live_same (place_of path) _ (unlink state) (λ p.
      unlinked_is (live names) family p
      ∙ (λ i. and_then (to_unlink (tree_same i) p) (λ old. Ok (change.Unlink old.dir old.name)))))
  asked_same client id (request.Link path target) = ap Some (live_same (place_of path) _ (λ from. on_live (place_of target) (link state from)) (λ from. live_same (place_of target) _ (link state from) (λ p.
      linked_is (live names) from p
      ∙ (λ i. and_then (to_link (tree_same i) from p) (λ new. Ok (change.Link new.ino new.dir new.name))))))
  asked_same client id (request.Rename path target) = ap Some (live_same (place_of path) _ (λ from. on_live (place_of target) (rename state from)) (λ from. live_same (place_of target) _ (rename state from) (λ p.
      renamed_is (live names) family from p
      ∙ (λ i. and_then (to_move (tree_same i) from p) (λ both. Ok (change.Rename both.0.dir both.0.name both.1.dir both.1.name))))))
  asked_same client id (request.Chmod path mode) = ap Some (live_same (place_of path) _ (chmod state mode) (λ p i.
      and_then (walk_live (tree_same i) p) (λ ino. Ok (change.Chmod ino mode))))
  asked_same client id (request.Open handle path writable) = ap Some (live_same (place_of path) _ (open_file state client handle writable) (λ p i. opened (tree_same i) (show.handles i) client handle writable p))
  asked_same client id (request.Close handle) = λ i. Some (closed (show.handles i) client handle)
  asked_same client id asking = refl

-- what is said by each story that the realms stand for is said of each state that the tables show
pub answer_planned : (names : dentries.Tree) (tree : realms.Tree) (uses : Uses) (next : Ino) (client : ℕ) (id : SnapId) (asking : Request) (result : Result (Option (Result Change Refusal)) Wanted) → ((family : Family) → realms.StandsFor tree family → Answers result (asked (live names) family uses.handles next client id asking)) → IfOk result (λ plan. (state : State) → Show names tree uses next state → plan ≡ change_asked state client id asking)
answer_planned names tree uses next client id asking (Ok plan) told = λ state show. told show.snaps_shown.family show.snaps_shown.stands ∙ asked_same names tree uses next state show client id asking
answer_planned names tree uses next client id asking (Err wanted) told = tt

pub answer_wanted : (names : dentries.Tree) (tree : realms.Tree) (uses : Uses) (next : Ino) (client : ℕ) (id : SnapId) (asking : Request) (result : Result (Option (Result Change Refusal)) Wanted) → ((family : Family) → realms.StandsFor tree family → Answers result (asked (live names) family uses.handles next client id asking)) → OnErr result ((state : State) → Show names tree uses next state → causes.is_named (change_asked state client id asking) ≡ true)
answer_wanted names tree uses next client id asking (Ok plan) told = tt
answer_wanted names tree uses next client id asking (Err wanted) told = λ state show. ap causes.is_named (sym (asked_same names tree uses next state show client id asking)) ∙ told show.snaps_shown.family show.snaps_shown.stands

-- What a plan of a move comes to is what the entry that it speaks of does, under the paths' last names.
use Rattle.std.proofs.Common.{◌≡◌, ℕ, ◌-◌, Bool, not, List, length, take, Option, None, Some, Result, Ok, Err, refl, sym, ap, ◌∙◌}
use Rattle.std.specs.Prelude.{slice_get, is_some, if◌then◌else◌}
use Rattle.std.specs.List.{list_any}
use Rattle.snap_ids.specs.declared.id.Ino.{Ino}
use Rattle.snap_ids.specs.Name.{is_new}
use Rattle.plain_types.specs.declared.answer.Refusal.{Refusal}
use Rattle.plain_types.specs.declared.answer.Refusal.TheVariants as refusal
use Rattle.plain_types.specs.declared.change.Change.TheVariants as change
use Rattle.plain_tree.specs.State.{Entry, lookup}
use Rattle.plain_tree.specs.State as state
use Rattle.plain_tree.specs.Walk.{is_under}
use Rattle.plain_tree.specs.Change.{entry}
use Rattle.plain_tree.specs.Request.{Tree, and_then, walk_live, in_directory, on_file, in_parent, new_name, new_entry, entry_at, to_unlink, to_remove, to_link, moved_name, to_move}
use Rattle.plain_tree.proofs.Succeeds.{both, directory_ok, file_ok, unless_ok, not_root_ok}
use Rattle.realm_story.specs.Family.{Family}
use Rattle.rename_split.specs.Plans.{has_live, moved}
use Rattle.rename_split.specs.Plans as plans
use Rattle.change_plan.specs.Asked.{last_of, at_name, in_dir, made_dir, made_file, removed, unlinked, linked, moved_by, renamed}

-- what is done with a path's last name gives an entry of that name
pub parent_named : (tree : Tree) (path : List (List ℕ)) (go_on : List ℕ → Ino → Result Entry Refusal) → ((name : List ℕ) (dir : Ino) (e : Entry) → go_on name dir ≡ Ok e → e.name ≡ name) → (e : Entry) → in_parent tree path go_on ≡ Ok e → last_of path ≡ Some e.name
parent_named tree path go_on each e done = by_last (slice_get path (length path - 1)) refl done
  where
    by_walk : (name : List ℕ) → last_of path ≡ Some name → (way : Result Ino Refusal) → and_then way (go_on name) ≡ Ok e → last_of path ≡ Some e.name
    by_walk name is (Ok dir) went = is ∙ ap Some (sym (each name dir e went))
    by_walk name is (Err reason) went = cc

    by_last : (last : Option (List ℕ)) → last_of path ≡ last → elim last as (λ _. Result Entry Refusal) [ None ↦ Err refusal.BadName | Some name ↦ and_then (walk_live tree (take (length path - 1) path)) (go_on name) ] ≡ Ok e → last_of path ≡ Some e.name
    by_last None is went = cc
    by_last (Some name) is went = by_walk name is (walk_live tree (take (length path - 1) path)) went

abbrev fine : Entry → Result Entry Refusal
fine e = Ok e

same_name : (dir : Ino) (name : List ℕ) (ino : Ino) (e : Entry) → fine (entry dir name ino) ≡ Ok e → e.name ≡ name
same_name dir name ino e is = let same : entry dir name ino ≡ e = cc in sym (ap (λ (x : Entry). x.name) same)

free_named : (tree : Tree) (ino : Ino) (name : List ℕ) (dir : Ino) (e : Entry) → new_name tree ino name dir ≡ Ok e → e.name ≡ name
free_named tree ino name dir e done =
    let good = unless_ok (not (is_new name)) refusal.BadName _ e done in
    let free = unless_ok (is_some (lookup tree.entries dir name)) refusal.Exists _ e good.1 in
    same_name dir name ino e free.1

pub new_named : (tree : Tree) (ino : Ino) (path : List (List ℕ)) (e : Entry) → new_entry tree ino path ≡ Ok e → last_of path ≡ Some e.name
new_named tree ino path = parent_named tree path (λ name dir. in_directory (tree.kind dir) (new_name tree ino name dir)) (λ name dir e done. free_named tree ino name dir e (directory_ok (tree.kind dir) _ e done).1)

pub old_named : (tree : Tree) (path : List (List ℕ)) (e : Entry) → entry_at tree path ≡ Ok e → last_of path ≡ Some e.name
old_named tree path = parent_named tree path (λ name dir. and_then (walk_live tree path) (λ ino. Ok (entry dir name ino))) (λ name dir e done. same_name dir name _ e (both (walk_live tree path) (λ ino. Ok (entry dir name ino)) e done).second)

moved_named : (tree : Tree) (ino : Ino) (path : List (List ℕ)) (e : Entry) → in_parent tree path (moved_name tree ino) ≡ Ok e → last_of path ≡ Some e.name
moved_named tree ino path = parent_named tree path (moved_name tree ino) (λ name dir e done. free_named tree ino name dir e (unless_ok (is_under tree.entries dir ino) refusal.IntoItself _ e (directory_ok (tree.kind dir) _ e done).1).1)

-- an entry that is kept where it passes is the one that was found
kept_named : (path : List (List ℕ)) (found : Result Entry Refusal) (go_on : Entry → Result Entry Refusal) → ((o e : Entry) → go_on o ≡ Ok e → fine o ≡ Ok e) → ((e : Entry) → found ≡ Ok e → last_of path ≡ Some e.name) → (e : Entry) → and_then found go_on ≡ Ok e → last_of path ≡ Some e.name
kept_named path (Ok o) go_on each named e done = named e (each o e done)
kept_named path (Err reason) go_on each named e done = cc

unlink_named : (tree : Tree) (path : List (List ℕ)) (e : Entry) → to_unlink tree path ≡ Ok e → last_of path ≡ Some e.name
unlink_named tree path = kept_named path (entry_at tree path) (λ old. on_file (tree.kind old.ino) (Ok old)) (λ o e done. (file_ok (tree.kind o.ino) (Ok o) e done).1) (old_named tree path)

remove_named : (roots : Ino → Bool) (tree : Tree) (path : List (List ℕ)) (e : Entry) → to_remove roots tree path ≡ Ok e → last_of path ≡ Some e.name
remove_named roots tree path = kept_named path (entry_at tree path) (λ old. in_directory (tree.kind old.ino) (if roots old.ino then Err refusal.HasSnapshots else (if list_any (λ (x : Entry). state.same_ino x.dir old.ino) tree.entries then Err refusal.NotEmpty else Ok old))) each (old_named tree path)
  where
    each : (o e : Entry) → in_directory (tree.kind o.ino) (if roots o.ino then Err refusal.HasSnapshots else (if list_any (λ (x : Entry). state.same_ino x.dir o.ino) tree.entries then Err refusal.NotEmpty else Ok o)) ≡ Ok e → fine o ≡ Ok e
    each o e done =
        let kind = directory_ok (tree.kind o.ino) _ e done in
        let free = unless_ok (roots o.ino) refusal.HasSnapshots _ e kind.1 in
        (unless_ok (list_any (λ (x : Entry). state.same_ino x.dir o.ino) tree.entries) refusal.NotEmpty _ e free.1).1

link_named : (tree : Tree) (path target : List (List ℕ)) (e : Entry) → to_link tree path target ≡ Ok e → last_of target ≡ Some e.name
link_named tree path target e done =
    let walked = both (walk_live tree path) (λ ino. on_file (tree.kind ino) (new_entry tree ino target)) e (not_root_ok target _ e (not_root_ok path _ e done)) in
    new_named tree walked.value target e (file_ok (tree.kind walked.value) _ e walked.second).1

-- both entries of a move have the last names of their paths
move_named : (tree : Tree) (path target : List (List ℕ)) (ends : Entry × Entry) → to_move tree path target ≡ Ok ends → (last_of path ≡ Some ends.0.name) × (last_of target ≡ Some ends.1.name)
move_named tree path target ends done =
    let old = both (entry_at tree path) (λ (o : Entry). and_then (in_parent tree target (moved_name tree o.ino)) (λ (n : Entry). Ok (o, n))) ends (not_root_ok target _ ends (not_root_ok path _ ends done)) in
    let new = both (in_parent tree target (moved_name tree old.value.ino)) (λ (n : Entry). Ok (old.value, n)) ends old.second in
    let same : (old.value, new.value) ≡ ends = cc in
    (old_named tree path old.value old.first ∙ ap (λ (x : Entry × Entry). Some x.0.name) same, moved_named tree old.value.ino target new.value new.first ∙ ap (λ (x : Entry × Entry). Some x.1.name) same)

-- new names
pub made_dir_is : (tree : Tree) (next : Ino) (path : List (List ℕ)) → made_dir tree next path ≡ and_then (new_entry tree next path) (λ new. Ok (change.Mkdir new.dir new.name new.ino))
made_dir_is tree next path = go (new_entry tree next path) (new_named tree next path)
  where
    go : (found : Result Entry Refusal) → ((e : Entry) → found ≡ Ok e → last_of path ≡ Some e.name) → and_then found (λ new. at_name (last_of path) (λ name. Ok (change.Mkdir new.dir name new.ino))) ≡ and_then found (λ new. Ok (change.Mkdir new.dir new.name new.ino))
    go (Ok e) named = ap (λ last. at_name last (λ name. Ok (change.Mkdir e.dir name e.ino))) (named e refl)
    go (Err reason) named = refl

pub made_file_is : (tree : Tree) (next : Ino) (mode : ℕ) (path : List (List ℕ)) → made_file tree next mode path ≡ and_then (new_entry tree next path) (λ new. Ok (change.Create new.dir new.name new.ino mode))
made_file_is tree next mode path = go (new_entry tree next path) (new_named tree next path)
  where
    go : (found : Result Entry Refusal) → ((e : Entry) → found ≡ Ok e → last_of path ≡ Some e.name) → and_then found (λ new. at_name (last_of path) (λ name. Ok (change.Create new.dir name new.ino mode))) ≡ and_then found (λ new. Ok (change.Create new.dir new.name new.ino mode))
    go (Ok e) named = ap (λ last. at_name last (λ name. Ok (change.Create e.dir name e.ino mode))) (named e refl)
    go (Err reason) named = refl

-- names that go
pub removed_is : (tree : Tree) (family : Family) (path : List (List ℕ)) → removed tree family path ≡ and_then (to_remove (has_live family) tree path) (λ old. Ok (change.Rmdir old.dir old.name))
removed_is tree family path = go (to_remove (has_live family) tree path) (remove_named (has_live family) tree path)
  where
    go : (found : Result Entry Refusal) → ((e : Entry) → found ≡ Ok e → last_of path ≡ Some e.name) → and_then (and_then found (λ old. Ok (plans.removed old))) (λ plan. in_dir plan.from_dir (λ dir. at_name (last_of path) (λ name. Ok (change.Rmdir dir name)))) ≡ and_then found (λ old. Ok (change.Rmdir old.dir old.name))
    go (Ok e) named = ap (λ last. at_name last (λ name. Ok (change.Rmdir e.dir name))) (named e refl)
    go (Err reason) named = refl

pub unlinked_is : (tree : Tree) (family : Family) (path : List (List ℕ)) → unlinked tree family path ≡ and_then (to_unlink tree path) (λ old. Ok (change.Unlink old.dir old.name))
unlinked_is tree family path = go (to_unlink tree path) (unlink_named tree path)
  where
    go : (found : Result Entry Refusal) → ((e : Entry) → found ≡ Ok e → last_of path ≡ Some e.name) → and_then (and_then found (λ old. Ok (plans.unlinked family old))) (λ plan. in_dir plan.from_dir (λ dir. at_name (last_of path) (λ name. Ok (change.Unlink dir name)))) ≡ and_then found (λ old. Ok (change.Unlink old.dir old.name))
    go (Ok e) named = ap (λ last. at_name last (λ name. Ok (change.Unlink e.dir name))) (named e refl)
    go (Err reason) named = refl

-- a further name
pub linked_is : (tree : Tree) (path target : List (List ℕ)) → linked tree path target ≡ and_then (to_link tree path target) (λ new. Ok (change.Link new.ino new.dir new.name))
linked_is tree path target = go (to_link tree path target) (link_named tree path target)
  where
    go : (found : Result Entry Refusal) → ((e : Entry) → found ≡ Ok e → last_of target ≡ Some e.name) → and_then (and_then found (λ new. Ok (plans.linked new))) (λ plan. in_dir plan.to_dir (λ dir. at_name (last_of target) (λ name. Ok (change.Link plan.ino dir name)))) ≡ and_then found (λ new. Ok (change.Link new.ino new.dir new.name))
    go (Ok e) named = ap (λ last. at_name last (λ name. Ok (change.Link e.ino e.dir name))) (named e refl)
    go (Err reason) named = refl

-- another name
pub renamed_is : (tree : Tree) (family : Family) (path target : List (List ℕ)) → renamed tree family path target ≡ and_then (to_move tree path target) (λ ends. Ok (change.Rename ends.0.dir ends.0.name ends.1.dir ends.1.name))
renamed_is tree family path target = go (to_move tree path target) (move_named tree path target)
  where
    go : (found : Result (Entry × Entry) Refusal) → ((ends : Entry × Entry) → found ≡ Ok ends → (last_of path ≡ Some ends.0.name) × (last_of target ≡ Some ends.1.name)) → and_then (and_then found (λ ends. Ok (moved family ends))) (λ plan. moved_by plan path target) ≡ and_then found (λ ends. Ok (change.Rename ends.0.dir ends.0.name ends.1.dir ends.1.name))
    go (Ok ends) named =
        ap (λ last. at_name last (λ name. at_name (last_of target) (λ to_name. Ok (change.Rename ends.0.dir name ends.1.dir to_name)))) (named ends refl).0
        ∙ ap (λ last. at_name last (λ to_name. Ok (change.Rename ends.0.dir ends.0.name ends.1.dir to_name))) (named ends refl).1
    go (Err reason) named = refl

-- What paths come to, by their last names and what leads to these.
use Rattle.std.proofs.Common.{◌≡◌, ℕ, zero, suc, ◌+◌, ◌-◌, Bool, true, false, not, cond, ◌&&◌, ◌<◌, List, [], ◌∷◌, ◌++◌, length, take, slice_get, Option, None, Some, Result, Ok, Err, is_some, if◌then◌else◌, refl, ap, sym, ◌∙◌, subst, arith}
use Rattle.std.specs.List.{IsLastAndRest}
use Rattle.snap_ids.specs.declared.id.Ino.{Ino}
use Rattle.snap_ids.specs.declared.id.TheConstants.{ROOT, STRAY}
use Rattle.snap_ids.specs.declared.values.Kind.{Kind}
use Rattle.snap_ids.specs.declared.values.Kind.TheVariants.{Dir, File}
use Rattle.plain_types.specs.declared.answer.Refusal.{Refusal}
use Rattle.plain_types.specs.declared.answer.Refusal.TheVariants.{BadName, NotDir, NoEntry}
use Rattle.plain_tree.specs.State.{Entry, lookup}
use Rattle.plain_tree.specs.Change.{entry}
use Rattle.plain_tree.specs.Walk.{walk}
use Rattle.plain_tree.specs.Request.{Tree, and_then, entry_at, in_directory, in_parent, new_entry, new_name, moved_name, walk_live}
use Rattle.std.specs.Result.{IfErr, IsErrAnd}
use Rattle.plain_types.specs.declared.answer.Refusal.TheVariants.{IntoItself}
use Rattle.plain_tree.specs.Walk.{is_under}
use Rattle.plain_tree.specs.Request.{not_root}
use Rattle.rename_split.specs.declared.error.MoveError.{MoveError}
use Rattle.plain_tree.specs.Request.{on_file, to_unlink}
use Rattle.realm_story.specs.Family.{Family, above_by, is_marked, leaves, member}
use Rattle.realm_story.specs.Family.{is_in_global as family_global}
use Rattle.rename_split.specs.Plans.{IsReason, IsRefused, refusal_of, move_of, moved, opens, stray, unlinked}
use Rattle.rename_split.specs.Paths.{last_name, name_by}

get_last : {A : Type 0} (front : List A) (x : A) → slice_get (front ++ x ∷ []) (length front) ≡ Some x
get_last [] x = refl
get_last (y ∷ front) x = get_last front x

take_front : {A : Type 0} (front : List A) (x : A) → take (length front) (front ++ x ∷ []) ≡ front
take_front [] x = refl
take_front (y ∷ front) x = ap (λ ys. y ∷ ys) (take_front front x)

module _ (path front : List (List ℕ)) (name : List ℕ) (parts : IsLastAndRest path name front) where
  places : length path - 1 ≡ length front
  places = let long : length front + 1 ≡ length path = parts.1 in omega arith

  last_is : slice_get path (length path - 1) ≡ Some name
  last_is = ap (slice_get path) places ∙ ap (λ p. slice_get p (length front)) parts.0 ∙ get_last front name

  front_is : take (length path - 1) path ≡ front
  front_is = ap (λ n. take n path) places ∙ ap (take (length front)) parts.0 ∙ take_front front name

  pub name_is : last_name path ≡ name
  name_is = ap name_by last_is

  -- what is done with the last name and what the others lead to
  pub parent_is : {A : Type 0} (tree : Tree) (go_on : List ℕ → Ino → Result A Refusal) → in_parent tree path go_on ≡ and_then (walk_live tree front) (go_on name)
  parent_is tree go_on =
      ap (λ found. elim found [ None ↦ Err BadName | Some last ↦ and_then (walk_live tree (take (length path - 1) path)) (go_on last) ]) last_is
      ∙ ap (λ names. and_then (walk_live tree names) (go_on name)) front_is

  walk_on : (kind : Ino → Kind) (entries : List Entry) (names : List (List ℕ)) (start : Ino) → walk kind entries start (names ++ name ∷ []) ≡ and_then (walk kind entries start names) (λ dir. walk kind entries dir (name ∷ []))
  walk_on kind entries [] start = refl
  walk_on kind entries (first ∷ names) start = go (kind start) (lookup entries start first) (λ next. walk_on kind entries names next)
    where
      go : (is : Kind) (found : Option Ino) → ((next : Ino) → walk kind entries next (names ++ name ∷ []) ≡ and_then (walk kind entries next names) (λ dir. walk kind entries dir (name ∷ []))) → elim is as (λ _. Result Ino Refusal) [ File ↦ Err NotDir | Dir ↦ elim found [ None ↦ Err NoEntry | Some next ↦ walk kind entries next (names ++ name ∷ []) ] ] ≡ and_then (elim is [ File ↦ Err NotDir | Dir ↦ elim found [ None ↦ Err NoEntry | Some next ↦ walk kind entries next names ] ]) (λ dir. walk kind entries dir (name ∷ []))
      go File found later = refl
      go Dir None later = refl
      go Dir (Some next) later = later next

  -- a path leads where its last name does, from where the others lead
  path_is : (tree : Tree) → walk_live tree path ≡ and_then (walk_live tree front) (λ dir. walk tree.kind tree.entries dir (name ∷ []))
  path_is tree = ap (walk_live tree) parts.0 ∙ walk_on tree.kind tree.entries front ROOT

  -- the entry of the last name
  pub entry_is : (tree : Tree) → entry_at tree path ≡ and_then (walk_live tree front) (λ dir. and_then (walk tree.kind tree.entries dir (name ∷ [])) (λ ino. Ok (entry dir name ino)))
  entry_is tree =
      parent_is tree (λ last dir. and_then (walk_live tree path) (λ ino. Ok (entry dir last ino)))
      ∙ go (walk_live tree front) (path_is tree)
    where
      go : (found : Result Ino Refusal) → walk_live tree path ≡ and_then found (λ dir. walk tree.kind tree.entries dir (name ∷ [])) → and_then found (λ dir. and_then (walk_live tree path) (λ ino. Ok (entry dir name ino))) ≡ and_then found (λ dir. and_then (walk tree.kind tree.entries dir (name ∷ [])) (λ ino. Ok (entry dir name ino)))
      go (Ok dir) is = ap (λ (w : Result Ino Refusal). and_then w (λ ino. Ok (entry dir name ino))) is
      go (Err refusal) is = refl

  -- a new entry under the last name
  pub new_is : (tree : Tree) (ino : Ino) → new_entry tree ino path ≡ and_then (walk_live tree front) (λ dir. in_directory (tree.kind dir) (new_name tree ino name dir))
  new_is tree ino = parent_is tree (λ last dir. in_directory (tree.kind dir) (new_name tree ino last dir))

-- `/` has no last name
pub no_parent : {A : Type 0} (tree : Tree) (path : List (List ℕ)) (go_on : List ℕ → Ino → Result A Refusal) → length path ≡ 0 → in_parent tree path go_on ≡ Err BadName
no_parent tree [] go_on none = refl
no_parent tree (name ∷ path) go_on none = cc

-- an error that is handed on
pub passed : {T E : Type 0} (r : Result T E) (e : E) (P : E → Type 0) → IsErrAnd r (λ y. y ≡ e) → P e → IfErr r P
passed (Ok x) e P is holds = absurd is
passed (Err y) e P is holds = subst P (sym is) holds

-- a path that has a name isn't `/`
pub named : {A : Type 0} (path : List (List ℕ)) (result : Result A Refusal) → 0 < length path → not_root path result ≡ result
named [] result long = absurd (omega arith)
named (name ∷ path) result long = refl

pub unnamed : {A : Type 0} (path : List (List ℕ)) (result : Result A Refusal) → length path ≡ 0 → not_root path result ≡ Err BadName
unnamed [] result none = refl
unnamed (name ∷ path) result none = cc

-- what is refused at first is refused
pub refused_first : {A B : Type 0} (error : MoveError) (first : Result A Refusal) (go_on : A → Result B Refusal) → IsRefused error first → IsRefused error (and_then first go_on)
refused_first {A} {B} error first go_on is = go (refusal_of error) is
  where
    go : (reason : Option Refusal) → IsReason reason first → IsReason reason (and_then first go_on)
    go None is = is
    go (Some reason) is = ap (λ (r : Result A Refusal). and_then r go_on) is

-- and so is what is refused then
pub refused_then : {A B : Type 0} (error : MoveError) (first : Result A Refusal) (x : A) (go_on : A → Result B Refusal) → first ≡ Ok x → IsRefused error (go_on x) → IsRefused error (and_then first go_on)
refused_then {A} {B} error first x go_on found is = subst (λ (r : Result A Refusal). IsRefused error (and_then r go_on)) (sym found) is

-- what stands where a directory is needed is one
pub kind_is : (kind : Kind) (dir : Ino) → in_directory kind (Ok dir) ≡ Ok dir → kind ≡ Dir
kind_is Dir dir is = refl
kind_is File dir is = cc

-- what isn't a directory is refused, whatever was to be done there
pub refused_way : {B : Type 0} (error : MoveError) (kind : Ino → Kind) (way : Result Ino Refusal) (go_on : Ino → Result B Refusal) → IsRefused error (and_then way (λ dir. in_directory (kind dir) (Ok dir))) → IsRefused error (and_then way (λ dir. in_directory (kind dir) (go_on dir)))
refused_way {B} error kind (Err refusal) go_on is = go (refusal_of error) is
  where
    go : (reason : Option Refusal) → IsReason {A = Ino} reason (Err refusal) → IsReason {A = B} reason (Err refusal)
    go None is = is
    go (Some reason) is = let same : refusal ≡ reason = cc in ap Err same
refused_way {B} error kind (Ok dir) go_on is = go (refusal_of error) (kind dir) is
  where
    go : (reason : Option Refusal) (k : Kind) → IsReason reason (in_directory k (Ok dir)) → IsReason reason (in_directory k (go_on dir))
    go None k is = is
    go (Some reason) Dir is = cc
    go (Some reason) File is = let same : NotDir ≡ reason = cc in ap Err same

module _ (path front : List (List ℕ)) (name : List ℕ) (parts : IsLastAndRest path name front) (tree : Tree) where
  pub entry_refused_first : (error : MoveError) → IsRefused error (walk_live tree front) → IsRefused error (entry_at tree path)
  entry_refused_first error is = subst (λ r. IsRefused error r) (sym (entry_is path front name parts tree)) (refused_first error (walk_live tree front) (λ dir. and_then (walk tree.kind tree.entries dir (name ∷ [])) (λ ino. Ok (entry dir name ino))) is)

  pub entry_refused_then : (error : MoveError) (dir : Ino) → walk_live tree front ≡ Ok dir → IsRefused error (walk tree.kind tree.entries dir (name ∷ [])) → IsRefused error (entry_at tree path)
  entry_refused_then error dir found is =
      subst (λ r. IsRefused error r) (sym (entry_is path front name parts tree))
      (refused_then error (walk_live tree front) dir (λ dir. and_then (walk tree.kind tree.entries dir (name ∷ [])) (λ ino. Ok (entry dir name ino))) found
      (refused_first error (walk tree.kind tree.entries dir (name ∷ [])) (λ ino. Ok (entry dir name ino)) is))

  pub entry_found : (dir ino : Ino) → walk_live tree front ≡ Ok dir → walk tree.kind tree.entries dir (name ∷ []) ≡ Ok ino → entry_at tree path ≡ Ok (entry dir (last_name path) ino)
  entry_found dir ino found last =
      entry_is path front name parts tree
      ∙ ap (λ (r : Result Ino Refusal). and_then r (λ dir. and_then (walk tree.kind tree.entries dir (name ∷ [])) (λ ino. Ok (entry dir name ino)))) found
      ∙ ap (λ (r : Result Ino Refusal). and_then r (λ ino. Ok (entry dir name ino))) last
      ∙ ap (λ n. Ok (entry dir n ino)) (sym (name_is path front name parts))

  pub new_refused_first : (error : MoveError) (ino : Ino) → IsRefused error (and_then (walk_live tree front) (λ dir. in_directory (tree.kind dir) (Ok dir))) → IsRefused error (new_entry tree ino path)
  new_refused_first error ino is = subst (λ r. IsRefused error r) (sym (new_is path front name parts tree ino)) (refused_way error tree.kind (walk_live tree front) (λ dir. new_name tree ino name dir) is)

  in_dir : {A : Type 0} (dir : Ino) (result : Result A Refusal) → tree.kind dir ≡ Dir → in_directory (tree.kind dir) result ≡ result
  in_dir dir result is = ap (λ k. in_directory k result) is

  pub new_refused_then : (error : MoveError) (dir ino : Ino) → walk_live tree front ≡ Ok dir → tree.kind dir ≡ Dir → IsRefused error (new_name tree ino name dir) → IsRefused error (new_entry tree ino path)
  new_refused_then error dir ino found kind is =
      subst (λ r. IsRefused error r) (sym (new_is path front name parts tree ino))
      (refused_then error (walk_live tree front) dir (λ dir. in_directory (tree.kind dir) (new_name tree ino name dir)) found
      (subst (λ r. IsRefused error r) (sym (in_dir dir (new_name tree ino name dir) kind)) is))

  pub new_found : (dir ino : Ino) → walk_live tree front ≡ Ok dir → tree.kind dir ≡ Dir → new_name tree ino name dir ≡ Ok (entry dir name ino) → new_entry tree ino path ≡ Ok (entry dir (last_name path) ino)
  new_found dir ino found kind free =
      new_is path front name parts tree ino
      ∙ ap (λ (r : Result Ino Refusal). and_then r (λ dir. in_directory (tree.kind dir) (new_name tree ino name dir))) found
      ∙ in_dir dir (new_name tree ino name dir) kind ∙ free
      ∙ ap (λ n. Ok (entry dir n ino)) (sym (name_is path front name parts))

  -- where a directory is below the inode or not
  under_arm : (dir ino : Ino) (b : Bool) → is_under tree.entries dir ino ≡ b → tree.kind dir ≡ Dir → moved_name tree ino name dir ≡ (if b then Err IntoItself else new_name tree ino name dir)
  under_arm dir ino b under kind = in_dir dir (if is_under tree.entries dir ino then Err IntoItself else new_name tree ino name dir) kind ∙ ap (λ b. if b then Err IntoItself else new_name tree ino name dir) under

  pub moved_refused_first : (error : MoveError) (ino : Ino) → IsRefused error (and_then (walk_live tree front) (λ dir. in_directory (tree.kind dir) (Ok dir))) → IsRefused error (in_parent tree path (moved_name tree ino))
  moved_refused_first error ino is = subst (λ r. IsRefused error r) (sym (parent_is path front name parts tree (moved_name tree ino))) (refused_way error tree.kind (walk_live tree front) (λ dir. if is_under tree.entries dir ino then Err IntoItself else new_name tree ino name dir) is)

  pub moved_into : (dir ino : Ino) → walk_live tree front ≡ Ok dir → tree.kind dir ≡ Dir → is_under tree.entries dir ino ≡ true → in_parent tree path (moved_name tree ino) ≡ Err IntoItself
  moved_into dir ino found kind under =
      parent_is path front name parts tree (moved_name tree ino)
      ∙ ap (λ (r : Result Ino Refusal). and_then r (moved_name tree ino name)) found
      ∙ under_arm dir ino true under kind

  pub moved_refused_then : (error : MoveError) (dir ino : Ino) → walk_live tree front ≡ Ok dir → tree.kind dir ≡ Dir → is_under tree.entries dir ino ≡ false → IsRefused error (new_name tree ino name dir) → IsRefused error (in_parent tree path (moved_name tree ino))
  moved_refused_then error dir ino found kind under is =
      subst (λ r. IsRefused error r) (sym (parent_is path front name parts tree (moved_name tree ino)))
      (refused_then error (walk_live tree front) dir (moved_name tree ino name) found
      (subst (λ r. IsRefused error r) (sym (under_arm dir ino false under kind)) is))

  pub moved_found : (dir ino : Ino) → walk_live tree front ≡ Ok dir → tree.kind dir ≡ Dir → is_under tree.entries dir ino ≡ false → new_name tree ino name dir ≡ Ok (entry dir name ino) → in_parent tree path (moved_name tree ino) ≡ Ok (entry dir (last_name path) ino)
  moved_found dir ino found kind under free =
      parent_is path front name parts tree (moved_name tree ino)
      ∙ ap (λ (r : Result Ino Refusal). and_then r (moved_name tree ino name)) found
      ∙ under_arm dir ino false under kind ∙ free
      ∙ ap (λ n. Ok (entry dir n ino)) (sym (name_is path front name parts))

-- what is in the global realm opens none
pub stays : (family : Family) (ino dir : Ino) → family_global family.members ino ≡ true → opens family ino dir ≡ false
stays family ino dir inside = ap (λ b. cond b false (leaves family (above_by (member family.members ino)) dir) && not (is_marked family.marked ino)) inside

-- a move that is found
pub move_is : (tree : Tree) (family : Family) (source target : List (List ℕ)) (old new : Entry) → 0 < length source → 0 < length target → entry_at tree source ≡ Ok old → in_parent tree target (moved_name tree old.ino) ≡ Ok new → move_of tree family source target ≡ Ok (moved family (old, new))
move_is tree family source target old new long longs found next =
    ap (λ r. and_then r (λ both. Ok (moved family both)))
    (named source (not_root target rest) long ∙ named target rest longs
    ∙ ap (λ (r : Result Entry Refusal). and_then r (λ o. and_then (in_parent tree target (moved_name tree o.ino)) (λ n. Ok (o, n)))) found
    ∙ ap (λ (r : Result Entry Refusal). and_then r (λ n. Ok (old, n))) next)
  where
    rest : Result (Entry × Entry) Refusal
    rest = and_then (entry_at tree source) (λ o. and_then (in_parent tree target (moved_name tree o.ino)) (λ n. Ok (o, n)))

pub moved_is : (family : Family) (old new : Entry) (o g : Bool) → o ≡ opens family old.ino new.dir → g ≡ family_global family.members old.ino → moved family (old, new) ≡ record { ino = old.ino; from_dir = Some old.dir; to_dir = Some new.dir; opens = o; global = g }
moved_is family old new o g is_o is_g = rw (is_o, is_g) refl

-- an unlink that is found
pub unlink_is : (tree : Tree) (path : List (List ℕ)) (old : Entry) → entry_at tree path ≡ Ok old → tree.kind old.ino ≡ File → to_unlink tree path ≡ Ok old
unlink_is tree path old found file =
    ap (λ (r : Result Entry Refusal). and_then r (λ o. on_file (tree.kind o.ino) (Ok o))) found
    ∙ ap (λ k. on_file k (Ok old)) file

pub unlinked_is : (family : Family) (old : Entry) (o g : Bool) → o ≡ opens family old.ino STRAY → g ≡ family_global family.members old.ino → unlinked family old ≡ record { ino = old.ino; from_dir = Some old.dir; to_dir = stray g; opens = o; global = g }
unlinked_is family old o g is_o is_g = rw (is_o, is_g) refl

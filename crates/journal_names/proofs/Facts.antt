-- Small facts on tests, and on what a legal entry's change passes.
use Rattle.std.proofs.Common.{◌≡◌, ℕ, Bool, true, false, List, [], ◌∷◌, Option, None, Some, refl, ap, eqb-true}
use Rattle.std.specs.Prelude.{not, ◌&&◌, is_some, if◌then◌else◌}
use Rattle.snap_ids.specs.declared.id.Ino.{Ino}
use Rattle.snap_ids.specs.declared.values.Kind.{Kind}
use Rattle.snap_ids.specs.declared.values.Kind.TheVariants.{Dir, File}
use Rattle.snap_ids.specs.Name.{is_new}
use Rattle.plain_types.specs.declared.change.Change.{Change}
use Rattle.plain_tree.specs.State.{State, Entry, same_ino, is_there, kind_in, lookup, is_at}
use Rattle.plain_tree.specs.Change.{is_directory, is_file, is_free, is_refused, without, make, apply}
use Rattle.journal_laws.proofs.Steps.{both_true, apply_made}

pub not_true : (b : Bool) → not b ≡ true → b ≡ false
not_true true is = cc
not_true false is = refl

pub not_false : (b : Bool) → not b ≡ false → b ≡ true
not_false true is = refl
not_false false is = cc

pub same_of : (x y : Ino) → same_ino x y ≡ true → x ≡ y
same_of x y h = ap (λ (n : ℕ). record { 0 = n }) (eqb-true x.0 y.0 h)

-- a change that isn't refused is made
pub is_made : (state : State) (client : ℕ) (c : Change) → not (is_refused state client c) ≡ true → apply state client c ≡ make state client c
is_made state client c made = apply_made state client c (not_true (is_refused state client c) made)

none_some : {A : Type 0} (found : Option A) → not (is_some found) ≡ true → found ≡ None
none_some None is = refl
none_some (Some a) is = cc

-- a name that a directory can get isn't taken
pub free_name : (state : State) (dir : Ino) (name : List ℕ) → is_free state dir name ≡ true → lookup state.entries dir name ≡ None
free_name state dir name is =
    none_some (lookup state.entries dir name)
    (both_true (is_directory state dir && is_new name) (not (is_some (lookup state.entries dir name))) is).1

file_of : (k : Kind) (there : Bool) → (elim k [ Dir ↦ false | File ↦ there ]) ≡ true → k ≡ File
file_of Dir there is = cc
file_of File there is = refl

dir_of : (k : Kind) (there : Bool) → (elim k [ Dir ↦ there | File ↦ false ]) ≡ true → k ≡ Dir
dir_of Dir there is = refl
dir_of File there is = cc

pub is_file_kind : (state : State) (ino : Ino) → is_file state ino ≡ true → kind_in state.inodes ino ≡ File
is_file_kind state ino is = file_of (kind_in state.inodes ino) (is_there state.entries ino) is

pub is_dir_kind : (state : State) (ino : Ino) → is_directory state ino ≡ true → kind_in state.inodes ino ≡ Dir
is_dir_kind state ino is = dir_of (kind_in state.inodes ino) (is_there state.entries ino) is

-- a free name stays free without another name
pub still_free : (dir : Ino) (name : List ℕ) (to : Ino) (to_name : List ℕ) (entries : List Entry) → lookup entries to to_name ≡ None → lookup (without dir name entries) to to_name ≡ None
still_free dir name to to_name [] free = refl
still_free dir name to to_name (e ∷ entries) free = go (is_at to to_name e) refl (is_at dir name e) free (still_free dir name to to_name entries)
  where
    go : (a : Bool) → is_at to to_name e ≡ a → (b : Bool) → (if a then Some e.ino else lookup entries to to_name) ≡ None → (lookup entries to to_name ≡ None → lookup (without dir name entries) to to_name ≡ None) → lookup (if not b then e ∷ without dir name entries else without dir name entries) to to_name ≡ None
    go true is b free rest = cc
    go false is true free rest = rest free
    go false is false free rest = rw is (rest free)

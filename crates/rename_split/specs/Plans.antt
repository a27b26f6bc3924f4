-- What a move comes to: which inode goes from which directory to which, and what becomes of its realm.
use Rattle.std.specs.Prelude.{◌≡◌, Bool, true, false, not, ◌&&◌, ℕ, List, [], ◌∷◌, if◌then◌else◌, Option, None, Some, Result, Ok, Err}
use Rattle.std.specs.List.{AllByRecursion, list_any}
use Rattle.snap_ids.specs.declared.id.Ino.{Ino}
use Rattle.snap_ids.specs.declared.id.TheConstants.{NOSNAP, ROOT, STRAY}
use Rattle.snap_ids.specs.declared.values.Kind.{Kind}
use Rattle.snap_ids.specs.declared.values.Kind.TheVariants.{Dir, File}
use Rattle.plain_types.specs.declared.answer.Refusal.{Refusal}
use Rattle.plain_types.specs.declared.answer.Refusal.TheVariants as refusal
use Rattle.plain_tree.specs.State.{Entry}
use Rattle.plain_tree.specs.Request.{Tree, and_then, to_link, to_move, to_remove, to_unlink}
use Rattle.realm_story.specs.Family.{Family, Made, same_ino, member, above_by, is_there, is_in_global, is_marked, leaves_realm}
use Rattle.snap_realm.specs.Tree as realms
use Rattle.dentry_tree.specs.Dentries as dentries
use Rattle.dentry_tree.specs.declared.error.TreeError.TheVariants as tree
use Rattle.rename_split.specs.declared.error.MoveError.{MoveError}
use Rattle.rename_split.specs.declared.error.MoveError.TheVariants as error
use Rattle.rename_split.specs.declared.plan.MovePlan.{MovePlan}

-- a tree of entries as it is now
abbrev pub live : dentries.Tree → Tree
live of = record { kind = dentries.kind_of of; entries = dentries.entries_at NOSNAP of }

abbrev pub first : List Ino → Option Ino
first [] = None
first (ino ∷ way) = Some ino

-- In a story of realms, what an entry names stands below the entry's directory, or it is a file of the global realm.
pub record IsPlaced (kind : Ino → Kind) (family : Family) (entry : Entry) : Type 0 where
  pub there : is_there family.members entry.ino ≡ true
  pub below : is_in_global family.members entry.ino ≡ false → first (above_by (member family.members entry.ino)) ≡ Some entry.dir
  pub file : is_in_global family.members entry.ino ≡ true → kind entry.ino ≡ File

-- a tree of realms is one of what these entries name
pub record IsOf (tree : Tree) (place : realms.Tree) : Type 0 where
  pub family : Family
  pub stands : realms.StandsFor place family
  pub placed : AllByRecursion (IsPlaced tree.kind family) tree.entries

-- a move below another directory makes a realm begin at an inode at which none began
abbrev pub opens : Family → Ino → Ino → Bool
opens family ino dir = leaves_realm ino dir family && not (is_marked family.marked ino)

-- an inode goes from below a directory to below another one
abbrev pub moved : Family → Entry × Entry → MovePlan
moved family both = record {
  ino = both.0.ino;
  from_dir = Some both.0.dir;
  to_dir = Some both.1.dir;
  opens = opens family both.0.ino both.1.dir;
  global = is_in_global family.members both.0.ino;
}

-- a file gets a further name: it is in the global realm from then on
abbrev pub linked : Entry → MovePlan
linked new = record { ino = new.ino; from_dir = None; to_dir = Some new.dir; opens = false; global = true }

-- where a file goes that loses a name: outside the global realm that is its last one
abbrev pub stray : Bool → Option Ino
stray global = if global then None else Some STRAY

-- a file loses a name
abbrev pub unlinked : Family → Entry → MovePlan
unlinked family old = record {
  ino = old.ino;
  from_dir = Some old.dir;
  to_dir = stray (is_in_global family.members old.ino);
  opens = opens family old.ino STRAY;
  global = is_in_global family.members old.ino;
}

-- a directory loses its name, and goes nowhere
abbrev pub removed : Entry → MovePlan
removed old = record { ino = old.ino; from_dir = Some old.dir; to_dir = None; opens = false; global = false }

-- a directory has live snapshots
abbrev pub has_live : Family → Ino → Bool
has_live family dir = list_any (λ (snap : Made). snap.live && same_ino snap.root dir) family.snaps

-- what a rename comes to
abbrev pub move_of : Tree → Family → List (List ℕ) → List (List ℕ) → Result MovePlan Refusal
move_of tree family source target = and_then (to_move tree source target) (λ both. Ok (moved family both))

-- what a link comes to
abbrev pub link_of : Tree → List (List ℕ) → List (List ℕ) → Result MovePlan Refusal
link_of tree source target = and_then (to_link tree source target) (λ new. Ok (linked new))

-- what a rmdir comes to, or an unlink
abbrev pub stray_of : Tree → Family → List (List ℕ) → Bool → Result MovePlan Refusal
stray_of tree family path true = and_then (to_remove (has_live family) tree path) (λ old. Ok (removed old))
stray_of tree family path false = and_then (to_unlink tree path) (λ old. Ok (unlinked family old))

-- the refusal that an error is; no plan takes memory
abbrev pub refusal_of : MoveError → Option Refusal
refusal_of error.IntoItself = Some refusal.IntoItself
refusal_of error.HasSnapshots = Some refusal.HasSnapshots
refusal_of error.BadName = Some refusal.BadName
refusal_of (error.Tree tree.Exists) = Some refusal.Exists
refusal_of (error.Tree tree.NoEntry) = Some refusal.NoEntry
refusal_of (error.Tree tree.NotDir) = Some refusal.NotDir
refusal_of (error.Tree tree.IsDir) = Some refusal.IsDir
refusal_of (error.Tree tree.NotEmpty) = Some refusal.NotEmpty
refusal_of (error.Tree tree.NoMemory) = None

abbrev pub IsReason : {A : Type 0} → Option Refusal → Result A Refusal → Type 0
IsReason None result = ⊥
IsReason (Some reason) result = result ≡ Err reason

-- the error is why something is refused
abbrev pub IsRefused : {A : Type 0} → MoveError → Result A Refusal → Type 0
IsRefused error result = IsReason (refusal_of error) result

-- The object store as contracts see it.
use Rattle.std.specs.Prelude.{ℕ, ◌≡◌, ◌*◌, ◌==◌, ◌||◌, false, nat_eq, List, [], map, if◌then◌else◌, Option, None, Some}
use Rattle.std.specs.Map.{lookup}
use Rattle.std.specs.Ordering.{nat_cmp}
use Rattle.std.specs.BTreeMap.{is_at, get}
use Rattle.std.specs.Option.{unwrap_or}
use Rattle.snap_ids.specs.declared.id.Ino.{Ino}
use Rattle.snap_ids.specs.declared.id.SnapId.{SnapId}
use Rattle.snap_ids.specs.Context.{Context}
use Rattle.object_clones.specs.declared.object.Edit.{Edit}
use Rattle.object_clones.specs.declared.file.File.{File}
use Rattle.object_clones.specs.declared.files.Files.{Files}
use Rattle.object_clones.specs.Listing.{noted}
use Rattle.object_clones.specs.Objects.{Plain, IsLeft, blank, plain, edited, purged}
use Rattle.object_clones.specs.Files.{object_in}
use Rattle.object_clones.specs.Purged.{has_id}

-- the size of objects, each file's objects by inode and index, and the ids that were purged
pub record Shown : Type 0 where
  pub size : ℕ
  pub files : List (ℕ × List (ℕ × Plain))
  pub purged : List ℕ

-- a file's objects as contracts see them
abbrev pub plain_file : File → List (ℕ × Plain)
plain_file file = map (λ e. (e.0, plain e.1)) file.objects.entries

-- the object of an inode and an index, blank where it never was
abbrev pub object_at : Shown → ℕ → ℕ → Plain
object_at shown ino index =
    unwrap_or (lookup (is_at (nat_cmp index)) (unwrap_or (lookup (is_at (nat_cmp ino)) shown.files) [])) blank

-- each object is as before, and so is all else
pub record SameStore (old new : Shown) : Type 0 where
  pub size : new.size ≡ old.size
  pub purged : new.purged ≡ old.purged
  pub objects : (ino index : ℕ) → object_at new ino index ≡ object_at old ino index

-- one file's objects are edited
pub record EditsFile (old new : Shown) (f : Ino) (edit : Edit) (context : Context) : Type 0 where
  pub size : new.size ≡ old.size
  pub purged : new.purged ≡ old.purged
  pub objects : (ino index : ℕ) → object_at new ino index
      ≡ (if ino == f.0 then edited (has_id old.purged) (index * old.size) old.size edit context (object_at old ino index) else object_at old ino index)

-- a snapshot is purged from each object
pub record PurgesSnapshot (old new : Shown) (s : SnapId) : Type 0 where
  pub size : new.size ≡ old.size
  pub gone : (q : SnapId) → has_id new.purged q ≡ (nat_eq q.0 s.0 || has_id old.purged q)
  pub objects : (ino index : ℕ) → object_at new ino index ≡ purged s (object_at old ino index)

-- a file that never was has blank objects
abbrev pub object_or_blank : Option File → ℕ → Plain
object_or_blank None index = blank
object_or_blank (Some file) index = object_in file index

-- the object of an inode and an index among files
abbrev pub object_among : Files → ℕ → ℕ → Plain
object_among files ino index = object_or_blank (get nat_cmp files.files ino) index

-- the files as contracts of the store see them
abbrev pub plain_files : Files → List (ℕ × List (ℕ × Plain))
plain_files files = map (λ e. (e.0, plain_file e.1)) files.files.entries

-- a purge of an id leaves each object that isn't noted for it
abbrev pub Covers : Files → Type 0
Covers files = (s : SnapId) (ino index : ℕ) → noted files.listing s ino index ≡ false → IsLeft s (object_among files ino index)

-- The objects of a file by their indexes.
use Rattle.std.specs.Prelude.{ℕ, ◌≡◌, ◌-◌, ◌/◌, ◌%◌, false, nat_lt, if◌then◌else◌, List, slice_index, slice_index_or, Option, None, Some, IsSome}
use Rattle.std.specs.Option.{option_map}
use Rattle.std.specs.Ordering.{nat_cmp}
use Rattle.std.specs.BTreeMap.{get}
use Rattle.snap_ids.specs.declared.id.SnapId.{SnapId}
use Rattle.object_log.specs.Bytes.{so_many}
use Rattle.object_clones.specs.declared.object.Object.{Object}
use Rattle.object_clones.specs.declared.object.Change.{Change}
use Rattle.object_clones.specs.declared.file.File.{File}
use Rattle.object_clones.specs.Bytes.{or_empty}
use Rattle.object_clones.specs.declared.listing.Listing.{Listing}
use Rattle.object_clones.specs.Listing.{noted}
use Rattle.object_clones.specs.Objects.{Plain, blank, plain, bytes_shown, HasRoom, IsLeft, Next, next}

-- an object that never was is blank
abbrev pub plain_or_blank : Option Object → Plain
plain_or_blank None = blank
plain_or_blank (Some o) = plain o

-- a file's object of an index
abbrev pub object_in : File → ℕ → Plain
object_in file index = plain_or_blank (get nat_cmp file.objects index)

-- there is an object of an index, with room for a clone
abbrev pub HasRoomAt : File → ℕ → Type 0
HasRoomAt file index = HasRoom (get nat_cmp file.objects index)

-- the byte of a file at a place, where objects of this size have these bytes
abbrev pub byte_at : ℕ → (ℕ → List ℕ) → ℕ → ℕ
byte_at size bytes place = slice_index (bytes (place / size)) (place % size)

-- the first bytes of a file, of its head or at a snapshot
abbrev pub bytes_read : ℕ → (ℕ → Plain) → ℕ → Option SnapId → List ℕ
bytes_read object objects size s = so_many size (byte_at object (λ index. or_empty (bytes_shown s (objects index))))

-- what is to be done to the object of an index, where the changes are those of the objects from `first` on
abbrev pub change_at : ℕ → List (Option Change) → ℕ → Option Next
change_at first changes index =
    if nat_lt index first then None else option_map next (slice_index_or changes (index - first) None)

-- there is room for each change
abbrev pub HasRooms : File → ℕ → List (Option Change) → Type 0
HasRooms file first changes = (index : ℕ) → IsSome (change_at first changes index) → HasRoomAt file index

-- a purge of an id leaves each object of a file that isn't noted for it
abbrev pub CoversFile : Listing → ℕ → File → Type 0
CoversFile listing ino file = (s : SnapId) (index : ℕ) → noted listing s ino index ≡ false → IsLeft s (object_in file index)

-- Small stories of what a store took, with objects of 16 bytes.
use Rattle.std.specs.Prelude.{ℕ, List, [], ◌∷◌, map, codes, Option}
use Rattle.snap_ids.specs.declared.id.Ino.{Ino}
use Rattle.snap_ids.specs.declared.id.SnapId.{SnapId}
use Rattle.snap_ids.specs.declared.values.CloneList.{CloneList}
use Rattle.snap_ids.specs.Context.{Context}
use Rattle.plain_types.specs.declared.message.ToStore.{ToStore}
use Rattle.plain_types.specs.declared.message.ToStore.TheVariants.{WriteAt, Cut, Purge}

abbrev pub snap : ℕ → SnapId
snap id = record { 0 = id }

abbrev pub snaps : List ℕ → List SnapId
snaps ids = map snap ids

abbrev pub file : Ino
file = record { 0 = 7 }

-- the context of a sequence id and of ids
abbrev pub under : ℕ → List ℕ → Context
under seq ids = record { seq = snap seq; ids = snaps ids }

-- one clone with this id and these ids
abbrev pub clone : ℕ → List ℕ → List (SnapId × List SnapId)
clone id ids = (snap id, snaps ids) ∷ []

-- a list of clones and a head's length
abbrev pub clones : List (SnapId × List SnapId) → Option ℕ → CloneList
clones made head = record { clones = made; head = head }

-- eighteen bytes in two objects, a snapshot, and two bytes at the second object's start
abbrev pub two_objects : List ToStore
two_objects =
    WriteAt file 0 (codes "abcdefghijklmnopqr") (under 1 [])
    ∷ WriteAt file 16 (codes "XY") (under 2 (2 ∷ []))
    ∷ []

-- a write, two snapshots, and a write
abbrev pub two_snapshots : List ToStore
two_snapshots =
    WriteAt file 0 (codes "aa") (under 1 [])
    ∷ WriteAt file 0 (codes "bb") (under 3 (3 ∷ 2 ∷ []))
    ∷ []

-- a write, a cut to one byte, and a write past the end
abbrev pub cut_and_written_past : List ToStore
cut_and_written_past =
    WriteAt file 0 (codes "abcd") (under 1 [])
    ∷ Cut file 1 (under 1 [])
    ∷ WriteAt file 5 (codes "z") (under 1 [])
    ∷ []

-- a file that was cut to nothing before a snapshot, and written after it
abbrev pub cut_to_nothing : List ToStore
cut_to_nothing =
    WriteAt file 0 (codes "ab") (under 1 [])
    ∷ Cut file 0 (under 1 [])
    ∷ WriteAt file 0 (codes "cd") (under 2 (2 ∷ []))
    ∷ []

-- a write, a snapshot and a write, and then a write by who doesn't know of the snapshot
abbrev pub written_late : List ToStore
written_late =
    WriteAt file 0 (codes "aa") (under 1 [])
    ∷ WriteAt file 0 (codes "bb") (under 2 (2 ∷ []))
    ∷ WriteAt file 0 (codes "c") (under 1 [])
    ∷ []

-- a write, and a write whose context is above a snapshot that it doesn't list
abbrev pub snapshot_not_listed : List ToStore
snapshot_not_listed = WriteAt file 0 (codes "aa") (under 1 []) ∷ WriteAt file 0 (codes "bb") (under 2 []) ∷ []

-- the purge of a snapshot
abbrev pub purge_of : ℕ → List ToStore
purge_of id = Purge (snap id) ∷ []

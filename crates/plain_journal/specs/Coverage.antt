-- Which snapshots cover an inode. Ceph developer guide, CephFS Snapshots: a snapshot covers all under its directory, and
-- a file of several names is covered by all snapshots.
use Rattle.std.specs.Prelude.{ℕ, Bool, true, false, not, ◌==◌, nat_lt, List, [], ◌∷◌, ◌++◌, length, filter, fold, max, reverse, if◌then◌else◌}
use Rattle.std.specs.List.{list_any}
use Rattle.snap_ids.specs.declared.id.Ino.{Ino}
use Rattle.snap_ids.specs.declared.id.SnapId.{SnapId}
use Rattle.snap_ids.specs.Context.{Context}
use Rattle.plain_types.specs.declared.entry.Entry.{Entry}
use Rattle.plain_types.specs.declared.entry.What.{What}
use Rattle.plain_types.specs.declared.entry.What.TheVariants.{Mksnap, Purgedone}
use Rattle.plain_tree.specs.State.{State, Inode, start, same_ino}
use Rattle.plain_tree.specs.Walk.{names_of, is_under}
use Rattle.plain_journal.specs.Entries.{after_entry}

-- an inode has two names at once
abbrev pub has_two_names : State → Ino → Bool
has_two_names state ino = nat_lt 1 (length (names_of state.entries ino))

-- an inode has two names at once in a state, or after some of the entries that follow
abbrev pub gets_two_names : State → List Entry → Ino → Bool
gets_two_names state [] ino = has_two_names state ino
gets_two_names state (entry ∷ entries) ino =
    elim (has_two_names state ino) [ true ↦ true | false ↦ gets_two_names (after_entry state entry) entries ino ]

-- a file of several names is in the global realm for good
abbrev pub is_global : List Entry → Ino → Bool
is_global entries ino = gets_two_names start entries ino

abbrev pub is_made : State → Ino → Bool
is_made state ino = list_any (λ (inode : Inode). same_ino inode.ino ino) state.inodes

-- the id of the snapshot that an entry makes, where the test of its root is passed
abbrev pub made_by : What → (Ino → Bool) → List SnapId
made_by (Mksnap id dir name) test = if test dir then id ∷ [] else []
made_by what test = []

-- the ids made by the entries that follow a state, once the inode is there
abbrev pub made_since : State → List Entry → Ino → List SnapId
made_since state [] ino = []
made_since state (entry ∷ entries) ino =
    made_by entry.what (λ dir. is_made state ino) ++ made_since (after_entry state entry) entries ino

-- the ids made by the entries that follow a state with the inode under their root, as it stood
abbrev pub made_over : State → List Entry → Ino → List SnapId
made_over state [] ino = []
made_over state (entry ∷ entries) ino =
    made_by entry.what (is_under state.entries ino) ++ made_over (after_entry state entry) entries ino

-- The ids of the snapshots that cover an inode, in the order in which they were made: those with the inode under their
-- root when they were made; for a file that had two names at once, all that were made after it.
abbrev pub covering : List Entry → Ino → List SnapId
covering entries ino = if is_global entries ino then made_since start entries ino else made_over start entries ino

abbrev pub purges : SnapId → What → Bool
purges s (Purgedone id) = id.0 == s.0
purges s what = false

-- the store has dropped a removed snapshot
abbrev pub is_purged : List Entry → SnapId → Bool
is_purged entries s = list_any (λ (entry : Entry). purges s entry.what) entries

-- the ids that the store hasn't dropped
abbrev pub kept : List Entry → List SnapId → List SnapId
kept entries ids = filter (λ s. not (is_purged entries s)) ids

-- the greatest of some ids, at least 1
abbrev pub greatest : List SnapId → ℕ
greatest ids = fold (λ n (id : SnapId). max n id.0) 1 ids

-- The context of an inode: the ids that cover it and aren't purged, falling, and the greatest that ever covered it. A
-- removed snapshot is left out from its Purgedone entry on, so that no write lacks an id that is still read.
abbrev pub context : List Entry → Ino → Context
context entries ino =
    let ids = covering entries ino in
    record { seq = record { 0 = greatest ids }; ids = reverse (kept entries ids) }

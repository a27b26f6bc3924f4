-- What the journal says of requests, flushes and snapshots: what is kept, outstanding, to be purged or collected.
use Rattle.std.specs.Prelude.{ℕ, ◌+◌, Bool, true, false, not, ◌&&◌, ◌==◌, List, [], ◌∷◌, ◌++◌, length, map, filter, filter_map, fold, if◌then◌else◌, Option, None, Some}
use Rattle.std.specs.List.{list_any}
use Rattle.snap_ids.specs.declared.id.Ino.{Ino}
use Rattle.snap_ids.specs.declared.id.SnapId.{SnapId}
use Rattle.snap_ids.specs.declared.values.Kind.TheVariants.{Dir, File}
use Rattle.plain_types.specs.declared.answer.Answer.{Answer}
use Rattle.plain_types.specs.declared.change.Change.{Change}
use Rattle.plain_types.specs.declared.change.Effect.{Effect}
use Rattle.plain_types.specs.declared.entry.Entry.{Entry}
use Rattle.plain_types.specs.declared.entry.What.{What}
use Rattle.plain_types.specs.declared.entry.What.TheVariants.{PrepareCreate, PrepareDestroy, Mksnap, Rmsnap, Rollback, Settle, Release, Deadfile, Barrier}
use Rattle.plain_tree.specs.State.{State, Inode, Handle, same_ino}
use Rattle.plain_tree.specs.Walk.{names_of}
use Rattle.plain_tree.specs.Line.{answer_to}
use Rattle.plain_journal.specs.Entries.{change_in, state_after}
use Rattle.plain_journal.specs.Coverage.{is_purged}

abbrev pub prepares : What → Bool
prepares (PrepareCreate id) = true
prepares what = false

-- Ids of snapshots are given in order, from 2 on. One that was given and rolled back isn't given again.
abbrev pub next_snap : List Entry → ℕ
next_snap entries = 2 + length (filter (λ (entry : Entry). prepares entry.what) entries)

-- the operation of the snapshot table that is outstanding after one more entry of this number: its id and that of its
-- entry
abbrev pub operation_by : What → ℕ → Option (SnapId × ℕ) → Option (SnapId × ℕ)
operation_by (PrepareCreate id) number before = Some (id, number)
operation_by (PrepareDestroy id) number before = Some (id, number)
operation_by (Rollback id) number before = None
operation_by (Mksnap id dir name) number before = None
operation_by (Rmsnap id) number before = None
operation_by what number before = before

abbrev pub outstanding_from : ℕ → Option (SnapId × ℕ) → List Entry → Option (SnapId × ℕ)
outstanding_from number before [] = before
outstanding_from number before (entry ∷ entries) = outstanding_from (number + 1) (operation_by entry.what number before) entries

-- the operation of the snapshot table that was prepared, and neither made nor rolled back
abbrev pub outstanding : List Entry → Option (SnapId × ℕ)
outstanding entries = outstanding_from 1 None entries

abbrev pub answer_kept : Option Change → ℕ → Option (ℕ × Answer) → Option (ℕ × Answer)
answer_kept None number before = before
answer_kept (Some change) number before = Some (number, answer_to change)

-- the number of a client's last request that had an effect, and its answer
abbrev pub last_effect : List Entry → ℕ → Option (ℕ × Answer)
last_effect entries client = fold (λ (before : Option (ℕ × Answer)) (entry : Entry).
    if entry.client == client then answer_kept (change_in entry.what) entry.number before else before) None entries

abbrev pub is_flush : What → Bool
is_flush (Settle ino follows upto size) = true
is_flush (Release ino follows size) = true
is_flush what = false

-- the number of a client's last flush, at first 0
abbrev pub last_flush : List Entry → ℕ → ℕ
last_flush entries client =
    fold (λ before (entry : Entry). if is_flush entry.what && entry.client == client then entry.number else before) 0 entries

abbrev pub removed_by : What → Option SnapId
removed_by (Rmsnap id) = Some id
removed_by what = None

-- the ids of the removed snapshots that the store hasn't dropped, in the order of their removal
abbrev pub to_purge : List Entry → List SnapId
to_purge entries = filter (λ s. not (is_purged entries s)) (filter_map (λ (entry : Entry). removed_by entry.what) entries)

abbrev pub collects : Ino → What → Bool
collects f (Deadfile ino) = same_ino ino f
collects f what = false

-- the store has dropped the file
abbrev pub is_collected : List Entry → Ino → Bool
is_collected entries f = list_any (λ (entry : Entry). collects f entry.what) entries

-- no entry names the inode, and no handle holds it open
abbrev pub is_unused : State → Ino → Bool
is_unused state ino = none (names_of state.entries ino) && not (list_any (λ (opened : Handle). same_ino opened.ino ino) state.handles)
  where
    none : {A : Type 0} → List A → Bool
    none [] = true
    none (x ∷ xs) = false

-- the inode is a file that has neither name nor handle
abbrev pub is_dead : State → Inode → Bool
is_dead state inode = elim inode.kind [ Dir ↦ false | File ↦ is_unused state inode.ino ]

-- the files without name and handle that the store hasn't dropped, rising
abbrev pub dead_in : State → List Entry → List Ino
dead_in state entries =
    filter (λ ino. not (is_collected entries ino)) (map (λ (inode : Inode). inode.ino) (filter (is_dead state) state.inodes))

abbrev pub dead : List Entry → List Ino
dead entries = dead_in (state_after entries) entries

abbrev pub barrier_by : ℕ → What → ℕ
barrier_by before (Barrier number) = number
barrier_by before what = before

-- the number of the last barrier to which all clients came, at first 0
abbrev pub barrier : List Entry → ℕ
barrier entries = fold (λ before (entry : Entry). barrier_by before entry.what) 0 entries

abbrev pub effect_of : ℕ → Entry → Option Change → List Effect
effect_of number entry None = []
effect_of number entry (Some change) = record { client = entry.client; entry = number; change = change } ∷ []

-- the effects of entries that become durable, the first of which has this number
abbrev pub effects_from : ℕ → List Entry → List Effect
effects_from number [] = []
effects_from number (entry ∷ entries) = effect_of number entry (change_in entry.what) ++ effects_from (number + 1) entries

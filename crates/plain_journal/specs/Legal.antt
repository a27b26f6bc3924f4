-- Which entry may follow others.
use Rattle.std.specs.Prelude.{[], ◌∷◌, ◌++◌, ℕ, Bool, true, false, not, ◌&&◌, ◌==◌, nat_lt, List, Option, None, Some}
use Rattle.std.specs.List.{list_any}
use Rattle.snap_ids.specs.declared.id.Ino.{Ino}
use Rattle.snap_ids.specs.declared.id.SnapId.{SnapId}
use Rattle.snap_ids.specs.declared.id.TheConstants.{NOSNAP}
use Rattle.snap_ids.specs.declared.values.Kind.TheVariants.{Dir, File}
use Rattle.plain_types.specs.declared.change.Change.{Change}
use Rattle.plain_types.specs.declared.entry.Entry.{Entry}
use Rattle.plain_types.specs.declared.entry.What.{What}
use Rattle.plain_types.specs.declared.entry.What.TheVariants.{Mkdir, Create, Mksnap, Settle, Release, Purgedone, Deadfile}
use Rattle.plain_tree.specs.State.{State, same_ino, kind_in, next_ino}
use Rattle.plain_tree.specs.Change.{is_refused}
use Rattle.plain_journal.specs.Entries.{change_in, state_after, applied}
use Rattle.plain_journal.specs.Coverage.{is_made}
use Rattle.plain_journal.specs.Table.{to_purge, dead}

-- a change that is refused isn't written down
abbrev pub is_made_by : State → ℕ → Option Change → Bool
is_made_by state client None = true
is_made_by state client (Some change) = not (is_refused state client change)

-- a file that was made, whatever became of it since
abbrev pub is_made_file : State → Ino → Bool
is_made_file state ino = elim (kind_in state.inodes ino) [ Dir ↦ false | File ↦ is_made state ino ]

-- ids of snapshots stay below 2^62
abbrev pub is_given : SnapId → Bool
is_given id = nat_lt id.0 4611686018427387904

-- the numbers in an entry fit the entries before it
abbrev pub fits : List Entry → What → Bool
fits entries (Mkdir dir name ino) = same_ino ino (next_ino (state_after entries))
fits entries (Create dir name ino mode) = same_ino ino (next_ino (state_after entries))
fits entries (Mksnap id dir name) = nat_lt (applied entries) id.0 && is_given id
fits entries (Settle ino follows upto size) = is_made_file (state_after entries) ino && nat_lt follows.0 NOSNAP.0
fits entries (Release ino follows size) = is_made_file (state_after entries) ino && nat_lt follows.0 NOSNAP.0
fits entries (Purgedone id) = list_any (λ (s : SnapId). s.0 == id.0) (to_purge entries)
fits entries (Deadfile ino) = list_any (same_ino ino) (dead entries)
fits entries what = true

-- an entry may follow these entries: its change succeeds, and its numbers fit
abbrev pub is_legal : List Entry → Entry → Bool
is_legal entries entry = is_made_by (state_after entries) entry.client (change_in entry.what) && fits entries entry.what

-- each of these entries may follow those before it
abbrev pub legal_after : List Entry → List Entry → Bool
legal_after done [] = true
legal_after done (entry ∷ entries) = is_legal done entry && legal_after (done ++ entry ∷ []) entries

-- the entries are those of a journal
abbrev pub is_journal : List Entry → Bool
is_journal entries = legal_after [] entries

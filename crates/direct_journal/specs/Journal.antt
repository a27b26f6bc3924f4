-- The entries that a direct history writes down: one for each effect.
use Rattle.std.specs.Prelude.{ℕ, ◌+◌, List, [], ◌∷◌, ◌++◌, take, Option, None, Some}
use Rattle.snap_ids.specs.declared.id.SnapId.{SnapId}
use Rattle.plain_types.specs.declared.change.Change.{Change}
use Rattle.plain_types.specs.declared.change.Change.TheVariants as change
use Rattle.plain_types.specs.declared.change.Effect.{Effect}
use Rattle.plain_types.specs.declared.entry.Entry.{Entry}
use Rattle.plain_types.specs.declared.entry.What.{What}
use Rattle.plain_types.specs.declared.entry.What.TheVariants.{Mkdir, Create, Link, Unlink, Rmdir, Rename, Chmod, OpenFile, CloseFile, Mksnap, Rmsnap}
use Rattle.plain_types.specs.declared.history.Event.{Event}
use Rattle.plain_types.specs.declared.history.Replied.{Replied}
use Rattle.plain_journal.specs.Entries.{applied}

-- what is written down of a change; a file's bytes aren't
abbrev pub what_of : Change → Option What
what_of (change.Mkdir dir name ino) = Some (Mkdir dir name ino)
what_of (change.Create dir name ino mode) = Some (Create dir name ino mode)
what_of (change.Link ino dir name) = Some (Link ino dir name)
what_of (change.Unlink dir name) = Some (Unlink dir name)
what_of (change.Rmdir dir name) = Some (Rmdir dir name)
what_of (change.Rename dir name to_dir to_name) = Some (Rename dir name to_dir to_name)
what_of (change.Chmod ino mode) = Some (Chmod ino mode)
what_of (change.OpenFile handle ino writable) = Some (OpenFile handle ino writable)
what_of (change.CloseFile handle) = Some (CloseFile handle)
what_of (change.Mksnap id dir name) = Some (Mksnap id dir name)
what_of (change.Rmsnap id) = Some (Rmsnap id)
what_of (change.WriteFile handle offset bytes) = None
what_of (change.Truncate handle size) = None

-- the entry of a client's line with this number, where something is written down
abbrev pub entry_of : ℕ → ℕ → Option What → List Entry
entry_of client number None = []
entry_of client number (Some what) = record { client = client; number = number; what = what } ∷ []

-- the entries of effects of the line with this number
abbrev pub entries_of : ℕ → List Effect → List Entry
entries_of number [] = []
entries_of number (effect ∷ effects) = entry_of effect.client number (what_of effect.change) ++ entries_of number effects

-- the number of the line that is answered
abbrev pub line_of : List Replied → ℕ
line_of [] = 0
line_of (reply ∷ replies) = reply.line

-- the entries that an event writes down
abbrev pub entries_in : Event → List Entry
entries_in event = entries_of (line_of event.replies) event.effects

-- the entries of all events, in the order of the events
abbrev pub journal_of : List Event → List Entry
journal_of [] = []
journal_of (event ∷ events) = entries_in event ++ journal_of events

-- the first entries of a history
abbrev pub journal_at : List Event → ℕ → List Entry
journal_at history entries = take entries (journal_of history)

-- the id of a new snapshot after some entries is the last one and 1, from 2 on
abbrev pub next_snap : List Entry → SnapId
next_snap entries = record { 0 = applied entries + 1 }

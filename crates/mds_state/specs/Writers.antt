-- What is held for Write.
use Rattle.std.specs.Prelude.{ℕ, Bool, ◌&&◌, ◌==◌, List, map, filter}
use Rattle.snap_ids.specs.declared.id.Ino.{Ino}
use Rattle.plain_types.specs.declared.entry.Entry.{Entry}
use Rattle.plain_journal.specs.Entries.{state_after}
use Rattle.plain_journal.specs.Legal.{is_made_file}
use Rattle.cap_state.specs.Table.{Holding, writes}

-- a client holds the file for Write
abbrev pub is_writers : ℕ → Holding → Bool
is_writers client h = h.0 == client && writes h.1.mode

-- the files that a client holds for Write, in the order of what is held: by rising inode
abbrev pub written_in : ℕ → List Holding → List Ino
written_in client held = map (λ (h : Holding). h.1.ino) (filter (is_writers client) held)

-- what is held is a file that was made
abbrev pub is_made_held : List Entry → Holding → Bool
is_made_held entries h = is_made_file (state_after entries) h.1.ino

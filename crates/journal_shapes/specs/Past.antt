-- Flushes that say nothing of single ids that no snapshot has yet.
use Rattle.std.specs.Prelude.{ℕ, Bool, true, ◌&&◌, ◌||◌, nat_le, List, [], ◌∷◌, if◌then◌else◌}
use Rattle.snap_ids.specs.declared.id.Ino.{Ino}
use Rattle.snap_ids.specs.declared.id.TheConstants.{NOSNAP}
use Rattle.plain_types.specs.declared.entry.Entry.{Entry}
use Rattle.plain_types.specs.declared.entry.What.{What}
use Rattle.plain_types.specs.declared.entry.What.TheVariants.{Settle, Release}
use Rattle.plain_tree.specs.State.{same_ino}
use Rattle.plain_journal.specs.Entries.{applied_by}

-- An entry is no flush of a file, or the size that it settles is for all ids above the last one or for none of them. A
-- writer's flush is so: it follows a snapshot that the writer was told of, and is for the ids up to such a one, or for what
-- is live too.
abbrev pub is_past : ℕ → Ino → What → Bool
is_past last file (Settle ino follows upto size) =
    if same_ino ino file then nat_le follows.0 last && (nat_le upto.0 last || nat_le NOSNAP.0 upto.0) else true
is_past last file (Release ino follows size) = if same_ino ino file then nat_le follows.0 last else true
is_past last file what = true

-- each of some entries is so where it stands, where this was the last id before them
abbrev pub past_from : ℕ → List Entry → Ino → Bool
past_from last [] file = true
past_from last (entry ∷ entries) file = is_past last file entry.what && past_from (applied_by last entry.what) entries file

-- each flush of a file came when all ids that it names were made
abbrev pub flushes_are_past : List Entry → Ino → Bool
flushes_are_past entries file = past_from 1 entries file

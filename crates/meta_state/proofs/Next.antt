-- The number of the next inode.
use Rattle.std.proofs.Common.{◌≡◌, ℕ, ◌+◌, ◌-◌, ◌<◌, List, ap, arith}
use Rattle.snap_ids.specs.declared.id.Ino.{Ino}
use Rattle.snap_ids.specs.declared.id.TheConstants.{FIRST_INO}
use Rattle.plain_types.specs.declared.entry.Entry.{Entry}
use Rattle.plain_tree.specs.State.{next_ino}
use Rattle.plain_journal.specs.Entries.{state_after}
use Rattle.journal_realms.proofs.Trees.{tied_after}
use Rattle.meta_state.specs.Stands.{Tables, StandsFor, IsState}

-- the number of the inode after so many
abbrev pub number : ℕ → Ino
number made = record { 0 = FIRST_INO.0 + (made - 1) }

pub next_is : (tables : Tables) (entries : List Entry) → StandsFor tables entries → number tables.made ≡ next_ino (state_after entries)
next_is tables entries stands = ap number stands.made

-- the root was made
pub some_made : (tables : Tables) → IsState tables → 0 < tables.made
some_made tables state =
    let some = (tied_after state.entries state.stands.journal).some in
    let made = state.stands.made in
    omega (arith, some, made)

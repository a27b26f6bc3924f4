-- What one more entry makes of what is written down.
use Rattle.std.specs.Prelude.{◌≡◌, ℕ, ◌+◌, true, List, [], ◌∷◌, ◌++◌, length}
use Rattle.snap_ids.specs.declared.id.SnapId.{SnapId}
use Rattle.plain_types.specs.declared.entry.Entry.{Entry}
use Rattle.plain_types.specs.declared.entry.What.{What}
use Rattle.plain_types.specs.declared.entry.What.TheVariants.{PrepareCreate, Rmsnap}
use Rattle.plain_journal.specs.Legal.{is_legal}
use Rattle.plain_journal.specs.Table.{operation_by}
use Rattle.journal_table.specs.Calls.{called}
use Rattle.meta_state.specs.Stands as meta
use Rattle.mds_state.specs.Parts.{WrittenParts}

-- the next id of a snapshot after an entry
abbrev pub next_by : What → ℕ → ℕ
next_by (PrepareCreate id) next = next + 1
next_by what next = next

-- the id that an entry removes, if it does
abbrev pub removed_in : What → List SnapId
removed_in (Rmsnap id) = id ∷ []
removed_in what = []

-- one more entry was written down, and isn't durable
pub record Entered (e : Entry) (old new : WrittenParts) : Type 0 where
  pub tree : (entries : List Entry) → meta.StandsFor old.tree entries → is_legal entries e ≡ true → meta.StandsFor new.tree (entries ++ e ∷ [])
  pub table : new.table ≡ called e.what old.table
  pub next : new.next ≡ next_by e.what old.next
  pub operation : (entries : List Entry) → meta.StandsFor old.tree entries → is_legal entries e ≡ true → new.outstanding ≡ operation_by e.what (length (entries ++ e ∷ [])) old.outstanding
  pub durable : new.durable ≡ old.durable
  pub buffered : new.buffered ≡ old.buffered ++ e ∷ []
  pub removing : new.removing ≡ old.removing ++ removed_in e.what

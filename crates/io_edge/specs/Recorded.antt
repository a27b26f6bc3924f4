-- What the record of a file in memory stands for.
use Rattle.std.specs.Prelude.{◌≡◌, ◌+◌, length, reverse}
use Rattle.io_edge.specs.declared.recorded.Recorded.TheInside.{Inside}
use Rattle.io_edge.specs.Past.{Past, file_of, since_sync}

abbrev pub past_of : Inside → Past
past_of recorded = record { base = recorded.base.items; done = reverse recorded.done.items }

-- the file is what the calls make of the first content
pub record IsRecord (recorded : Inside) : Type 0 where
  pub file : recorded.file.items ≡ file_of (past_of recorded)
  pub synced : recorded.synced + length (since_sync (reverse recorded.done.items)) ≡ length recorded.done.items

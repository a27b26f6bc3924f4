-- A sink in memory, and what its writes do.
use Rattle.std.specs.Prelude.{ℕ, ◌-◌, Bool, ◌&&◌, ◌||◌, ◌==◌, nat_lt, List, ◌++◌, length}
use Rattle.io_edge.specs.Calls.{next_count, is_next_listed}

-- the bytes that were written, how many still fit, the calls that are to fail, counted from 1, and how
-- many were made and failed
pub record Drain : Type 0 where
  pub written : List ℕ
  pub room : ℕ
  pub failing : List ℕ
  pub calls : ℕ
  pub faults : ℕ

-- there are bytes, and no room for any
abbrev pub is_out_of_room : Drain → List ℕ → Bool
is_out_of_room drain bytes = drain.room == 0 && nat_lt 0 (length bytes)

-- a write of these bytes is to fail
abbrev pub is_write_refused : Drain → List ℕ → Bool
is_write_refused drain bytes = is_next_listed drain.failing drain.calls || is_out_of_room drain bytes

-- a failed write moves only the counters
abbrev pub drain_after_failure : Drain → Drain
drain_after_failure drain = record drain { calls = next_count drain.calls; faults = next_count drain.faults }

-- a write puts bytes at the end, where they take room
abbrev pub drain_after_write : List ℕ → Drain → Drain
drain_after_write bytes drain = record drain {
  written = drain.written ++ bytes;
  room = drain.room - length bytes;
  calls = next_count drain.calls;
}

-- A source in memory, and what its reads do.
use Rattle.std.specs.Prelude.{ℕ, Bool, List, drop}
use Rattle.io_edge.specs.Calls.{next_count, is_next_listed}

-- the bytes that are left, the calls that are to fail, counted from 1, and how many were made and failed
pub record Feed : Type 0 where
  pub left : List ℕ
  pub failing : List ℕ
  pub calls : ℕ
  pub faults : ℕ

-- the next read is to fail
abbrev pub is_read_refused : Feed → Bool
is_read_refused feed = is_next_listed feed.failing feed.calls

-- a failed read moves only the counters
abbrev pub feed_after_failure : Feed → Feed
feed_after_failure feed = record feed { calls = next_count feed.calls; faults = next_count feed.faults }

-- a read takes bytes from the front
abbrev pub feed_after_read : ℕ → Feed → Feed
feed_after_read n feed = record feed { left = drop n feed.left; calls = next_count feed.calls }

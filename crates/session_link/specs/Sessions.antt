-- What the server knows of one client's link.
use Rattle.std.specs.Prelude.{ℕ, Bool, true, false, ◌&&◌, ◌==◌, nat_lt, if◌then◌else◌, Option, None, Some}
use Rattle.plain_types.specs.declared.answer.Answer.{Answer}
use Rattle.plain_types.specs.declared.answer.Answer.TheVariants.{Done, Snap, Opened}

-- A request that had an effect, by its number among the client's, and its answer.
pub record Completed : Type 0 where
  pub tid : ℕ
  pub answer : Answer

-- The number of the current connection, 0 where there is none; the last request that had an effect; the number of the
-- last flush that was taken, 0 where there was none.
pub record Link : Type 0 where
  pub current : ℕ
  pub completed : Option Completed
  pub last_flush : ℕ

-- the link before anything was said: connection 1 is current
abbrev pub first : Link
first = record { current = 1; completed = None; last_flush = 0 }

-- the connection is the current one
abbrev pub is_current : Link → ℕ → Bool
is_current link conn = nat_lt 0 conn && conn == link.current

-- the answer that is kept for a request: that of the last one that had an effect, and of no other
abbrev pub kept_for : ℕ → Option Completed → Option Answer
kept_for tid None = None
kept_for tid (Some completed) = if completed.tid == tid then Some completed.answer else None

-- a request that was answered so had an effect
abbrev pub has_effect : Answer → Bool
has_effect Done = true
has_effect (Snap id) = true
has_effect (Opened ino) = true
has_effect answer = false

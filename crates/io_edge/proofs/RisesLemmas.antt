-- A count that has risen stays so, whatever came before and comes after.
use Rattle.std.proofs.Common.{ℕ, ◌≤◌, inl, inr, arith}
use Rattle.io_edge.specs.Outside.{Rises}

-- a rise is kept by later growth
pub Rises_then_grows : (a b c : ℕ) → Rises a b → b ≤ c → Rises a c
Rises_then_grows a b c (inl risen) grows = inl (omega arith)
Rises_then_grows a b c (inr full) grows = inr (omega arith)

-- a rise is kept by growth before it
pub grows_then_Rises : (a b c : ℕ) → a ≤ b → Rises b c → Rises a c
grows_then_Rises a b c grows (inl risen) = inl (omega arith)
grows_then_Rises a b c grows (inr full) = inr full

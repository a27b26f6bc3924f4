-- Which flushes an acknowledgement is for.
use Rattle.std.specs.Prelude.{ℕ, Bool, ◌==◌, nat_le}
use Rattle.client_state.specs.declared.heard.Which.{Which}
use Rattle.client_state.specs.declared.heard.Which.TheVariants.{One, UpTo}

-- the flush of this number is meant
abbrev pub picks : Which → ℕ → Bool
picks (One number) = λ n. n == number
picks (UpTo last) = λ n. nat_le n last

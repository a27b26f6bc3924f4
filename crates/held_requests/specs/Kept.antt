-- How requests that wait are kept: under the keys of a slab.
use Rattle.std.specs.Prelude.{◌≡◌, ℕ, Bool, false, ◌==◌, List, [], ◌∷◌, filter, Option, None, Some, IsSome}
use Rattle.std.specs.List.{list_any, filter_map, AllByRecursion}
use Rattle.slab.specs.Slab.{Slab, get}
use Rattle.step_table.specs.ServerState.{Asked}
use Rattle.step_table.specs.Acts.{of_client}
use Rattle.step_table.specs.Background.{barrier_of, is_number}
use Rattle.held_requests.specs.Keys.{keys_of}

-- a key is one of some
abbrev pub has : ℕ → List ℕ → Bool
has key keys = list_any (λ next. next == key) keys

-- each of some keys is there once
abbrev pub Once : List ℕ → Type 0
Once [] = Unit {0}
Once (key ∷ keys) = (has key keys ≡ false) × Once keys

-- the requests under keys
abbrev pub listed : Slab Asked → List ℕ → List Asked
listed slab keys = filter_map (get slab) keys

-- what a key has is a client's
abbrev pub is_of : ℕ → Option Asked → Bool
is_of client None = false
is_of client (Some a) = of_client client a

-- what a key has waits at a barrier
abbrev pub is_at_barrier : ℕ → Option Asked → Bool
is_at_barrier number None = false
is_at_barrier number (Some a) = is_number number (barrier_of a.request)

-- Each of the keys by arrival has a request and is there once, and each client's keys are those of its requests.
pub record IsKept (slab : Slab Asked) (order : List ℕ) (index : List (List ℕ)) : Type 0 where
  pub there : AllByRecursion (λ key. IsSome (get slab key)) order
  pub once : Once order
  pub own : (client : ℕ) → keys_of client index ≡ filter (λ key. is_of client (get slab key)) order

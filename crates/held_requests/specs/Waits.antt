-- What is asked of requests that wait.
use Rattle.std.specs.Prelude.{ℕ, Bool, ◌&&◌, List, map}
use Rattle.std.specs.List.{list_any, list_all}
use Rattle.step_table.specs.ServerState.{Asked, up_to}
use Rattle.step_table.specs.Acts.{of_client}
use Rattle.step_table.specs.Background.{barrier_of, is_number}

-- the clients that wait, by arrival
abbrev pub clients_of : List Asked → List ℕ
clients_of waiting = map (λ (a : Asked). a.client) waiting

-- a client waits at this barrier
abbrev pub waits_at : ℕ → ℕ → List Asked → Bool
waits_at number client waiting = list_any (λ (a : Asked). of_client client a && is_number number (barrier_of a.request)) waiting

-- so many clients wait at this barrier, each of them
abbrev pub all_wait_at : ℕ → ℕ → List Asked → Bool
all_wait_at number clients waiting = list_all (λ client. waits_at number client waiting) (up_to clients)

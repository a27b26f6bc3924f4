-- A number behind the store's is no node's.
use Rattle.std.proofs.Common.{◌≡◌, ℕ, ◌+◌, ◌&&◌, Bool, true, false, eqb, arith}
use Rattle.plain_types.specs.declared.history.Step.{Step}
use Rattle.plain_types.specs.declared.history.Step.TheVariants.{Op, Flush, ClientFromServer, ClientFromStore, ServerTakes, Commit, Restart, Tend, StoreTakes}
use Rattle.node_core.specs.Steps.{is_client, is_step_of}

abbrev pub IsOutside : ℕ → ℕ → Type 0
IsOutside node clients = node ≡ clients + 2

no_client : (clients node n : ℕ) → node ≡ clients + 2 → eqb n node && is_client clients n ≡ true → false ≡ true
no_client clients node n at h = grind arith

no_server : (clients node : ℕ) → node ≡ clients + 2 → eqb node 0 ≡ true → false ≡ true
no_server clients node at h = grind arith

no_store : (clients node : ℕ) → node ≡ clients + 2 → eqb node (clients + 1) ≡ true → false ≡ true
no_store clients node at h = grind arith

-- no step is its
pub has_no_step : (node clients : ℕ) → IsOutside node clients → (step : Step) → is_step_of clients node step ≡ true → false ≡ true
has_no_step node clients at (Op n) mine = no_client clients node n at mine
has_no_step node clients at (Flush n) mine = no_client clients node n at mine
has_no_step node clients at (ClientFromServer n) mine = no_client clients node n at mine
has_no_step node clients at (ClientFromStore n) mine = no_client clients node n at mine
has_no_step node clients at (ServerTakes n) mine = no_server clients node at mine
has_no_step node clients at Commit mine = no_server clients node at mine
has_no_step node clients at (Restart k) mine = no_server clients node at mine
has_no_step node clients at Tend mine = no_server clients node at mine
has_no_step node clients at (StoreTakes n) mine = no_store clients node at mine

anything : (b c : Bool) → false ≡ true → b ≡ c
anything b c wrong = cc

pub no_step_fits : (node clients : ℕ) → IsOutside node clients → (step : Step) → is_step_of clients node step ≡ true → (b : Bool) → false ≡ b
no_step_fits node clients at step mine b = anything false b (has_no_step node clients at step mine)

no_zero : (clients : ℕ) → 0 ≡ clients + 2 → false ≡ true
no_zero clients at = grind arith

pub is_no_server : (clients : ℕ) → IsOutside 0 clients → (b : Bool) → false ≡ b
is_no_server clients at b = anything false b (no_zero clients at)

pub never_can : false ≡ true → (b : Bool) → b ≡ true
never_can wrong b = anything b true wrong

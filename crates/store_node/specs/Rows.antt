-- The store as a node.
use Rattle.std.specs.Prelude.{◌≡◌, ℕ, ◌+◌, Bool, true, false, List, [], Option, None, Some}
use Rattle.plain_types.specs.declared.history.Done.{Done}
use Rattle.plain_types.specs.declared.history.Sent.{Sent}
use Rattle.plain_types.specs.declared.history.Step.{Step}
use Rattle.plain_types.specs.declared.history.Step.TheVariants.{StoreTakes}
use Rattle.plain_types.specs.declared.message.Message.{Message}
use Rattle.plain_types.specs.declared.message.ToStore.{ToStore}
use Rattle.object_clones.specs.Store.{Shown}
use Rattle.object_clones.specs.Stands.{StandsFor}
use Rattle.step_table.specs.Nodes.{store_row, IsDone}
use Rattle.step_table.specs.Row.{Row}

-- a store that isn't ended stands for the messages that it took, with objects of this size
abbrev pub Stands : Option Shown → ℕ → List ToStore → Type 0
Stands None object log = ⊥
Stands (Some shown) object log = StandsFor shown object log

-- what is sent is all that the row does, and the objects stand for the messages of the row's state
pub record Sends (row : Row (List ToStore)) (sent : List Sent) (object : ℕ) (new : Shown) : Type 0 where
  pub exact : sent ≡ row.sent
  pub no_effect : row.effects ≡ []
  pub no_reply : row.replies ≡ []
  pub stands : StandsFor new object row.state

-- what was done is the row's, and the store then stands for the messages of the row's state
pub record DoesRow (row : Row (List ToStore)) (done : Done) (object : ℕ) (new : Option Shown) : Type 0 where
  pub does : IsDone done row
  pub stands : Stands new object row.state

abbrev pub Does : Option (Row (List ToStore)) → Done → ℕ → Option Shown → Type 0
Does None done object new = ⊥
Does (Some row) done object new = DoesRow row done object new

-- whatever messages the store stands for, the row of the table over them was made
abbrev pub IsStoreRow : Option Shown → Step → Option Message → Done → Option Shown → Type 0
IsStoreRow old step taken done new = (object : ℕ) (log : List ToStore) → Stands old object log
    → Does (store_row object log step taken) done object new

-- the store makes this kind of step alone
abbrev pub is_store_step : Step → Bool
is_store_step (StoreTakes n) = true
is_store_step step = false

-- the store has the number after the last client's, and stands for some messages
pub record IsStore (core : Option Shown) (node clients : ℕ) : Type 0 where
  pub number : node ≡ clients + 1
  pub object : ℕ
  pub log : List ToStore
  pub stands : Stands core object log

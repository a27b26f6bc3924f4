-- The client as a node.
use Rattle.std.specs.Prelude.{◌≡◌, ℕ, ◌+◌, Bool, true, false, not, ◌&&◌, ◌==◌, List, [], ◌∷◌, Option, None, Some, is_some}
use Rattle.plain_types.specs.declared.history.Done.{Done}
use Rattle.plain_types.specs.declared.history.Step.{Step}
use Rattle.plain_types.specs.declared.history.Step.TheVariants.{Op, Flush, ClientFromServer, ClientFromStore}
use Rattle.plain_types.specs.declared.message.Message.{Message}
use Rattle.plain_types.specs.declared.script.Line.{Line}
use Rattle.plain_types.specs.declared.script.Line.TheVariants as line
use Rattle.node_core.specs.Steps.{is_client}
use Rattle.step_table.specs.Nodes.{client_row}
use Rattle.step_table.specs.Row.{Row}
use Rattle.step_table.specs.ClientState.{Client}
use Rattle.step_table.specs.ClientLines.{on_op, on_flush}

-- what a client did is a row of the table, to the letter, and it is what the row leaves
pub record DoesRow (row : Row Client) (done : Done) (new : Option Client) : Type 0 where
  pub sent : done.sent ≡ row.sent
  pub effects : done.effects ≡ row.effects
  pub replies : done.replies ≡ row.replies
  pub left : new ≡ Some row.state

abbrev pub Does : Option (Row Client) → Done → Option Client → Type 0
Does None done new = ⊥
Does (Some row) done new = DoesRow row done new

-- a client that isn't ended made the row that it has in its state
abbrev pub Makes : (Client → Option (Row Client)) → Option Client → Done → Option Client → Type 0
Makes row None done new = ⊥
Makes row (Some c) done new = Does (row c) done new

-- the row of the table for a step, with what it took
abbrev pub IsClientRow : Option Client → Step → Option Message → Done → Option Client → Type 0
IsClientRow old step taken done new = Makes (λ c. client_row c step taken) old done new

-- the client has a line to go on with, something to send, a message of its own to take
abbrev pub can_make : Client → Step → Bool
can_make c (Op n) = n == c.number && is_some (on_op c)
can_make c (Flush n) = n == c.number && is_some (on_flush c)
can_make c (ClientFromServer n) = n == c.number
can_make c (ClientFromStore n) = n == c.number
can_make c step = false

-- a client that is ended makes no step
abbrev pub can_step : Option Client → Step → Bool
can_step None step = false
can_step (Some c) step = can_make c step

-- a client that isn't ended has a row there
abbrev pub has_row : (Client → Option (Row Client)) → Option Client → Bool
has_row row None = true
has_row row (Some c) = is_some (row c)

-- the next line is `break`
abbrev pub is_break : Line → Bool
is_break line.Break = true
is_break text = false

abbrev pub begins_with_break : List Line → Bool
begins_with_break [] = false
begins_with_break (text ∷ lines) = is_break text

-- a client that isn't ended may go on, with `break`
abbrev pub breaks_next : Option Client → Bool
breaks_next None = true
breaks_next (Some c) = begins_with_break c.lines && not c.frozen

-- its number, 0 where it is ended
abbrev pub number_of : Option Client → ℕ
number_of None = 0
number_of (Some c) = c.number

-- the client stands at its number among so many, and knows the store behind them
pub record IsClient (core : Option Client) (node clients : ℕ) : Type 0 where
  pub client : Client
  pub is : core ≡ Some client
  pub number : client.number ≡ node
  pub store : client.store ≡ clients + 1
  pub among : is_client clients node ≡ true

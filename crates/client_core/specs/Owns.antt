-- What a client makes in a step of its own.
use Rattle.std.specs.Prelude.{ℕ, Bool, false, ◌==◌, Option, None, Some}
use Rattle.plain_types.specs.declared.history.Step.{Step}
use Rattle.plain_types.specs.declared.history.Step.TheVariants as step
use Rattle.plain_types.specs.declared.message.Message.{Message}
use Rattle.plain_types.specs.declared.message.Message.TheVariants.{ToClient, FromStore}
use Rattle.step_table.specs.Row.{Row}
use Rattle.step_table.specs.ClientState.{Client}
use Rattle.step_table.specs.ClientLines.{on_op, on_flush}
use Rattle.step_table.specs.ClientTakes.{on_told, on_stored}
use Rattle.client_core.specs.declared.own.Kind.{Kind}
use Rattle.client_core.specs.declared.own.Kind.TheVariants as kind
use Rattle.client_core.specs.declared.own.Own.{Own}
use Rattle.client_core.specs.declared.own.Own.TheVariants as own

-- the step of the client with this number
abbrev pub step_of : ℕ → Own → Step
step_of number own.Op = step.Op number
step_of number own.Flush = step.Flush number
step_of number (own.Told message) = step.ClientFromServer number
step_of number (own.Stored message) = step.ClientFromStore number

-- the step of a kind
abbrev pub kind_step : ℕ → Kind → Step
kind_step number kind.Op = step.Op number
kind_step number kind.Flush = step.Flush number
kind_step number kind.FromServer = step.ClientFromServer number
kind_step number kind.FromStore = step.ClientFromStore number

-- what it takes
abbrev pub taken_of : Own → Option Message
taken_of own.Op = None
taken_of own.Flush = None
taken_of (own.Told message) = Some (ToClient message)
taken_of (own.Stored message) = Some (FromStore message)

-- its row
abbrev pub row_of : Own → Client → Option (Row Client)
row_of own.Op = on_op
row_of own.Flush = on_flush
row_of (own.Told message) = λ c. Some (on_told c message)
row_of (own.Stored message) = λ c. Some (on_stored c message)

-- the step is one of the client with this number
abbrev pub is_own_step : ℕ → Step → Bool
is_own_step number (step.Op n) = n == number
is_own_step number (step.Flush n) = n == number
is_own_step number (step.ClientFromServer n) = n == number
is_own_step number (step.ClientFromStore n) = n == number
is_own_step number other = false

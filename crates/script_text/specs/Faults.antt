-- A fault in a line, and the refusal of the input that it makes.
use Rattle.std.specs.Prelude.{◌≡◌, ℕ, Result, Err, IsOk}
use Rattle.script_text.specs.declared.error.Fault.{Fault}
use Rattle.script_text.specs.declared.error.Fault.TheVariants as fault
use Rattle.script_text.specs.declared.error.ScriptError.{ScriptError}
use Rattle.script_text.specs.declared.error.ScriptError.TheVariants as error

-- a fault with the number of its line
abbrev pub fault_at : ℕ → Fault → ScriptError
fault_at number fault.TooLong = error.TooLong number
fault_at number fault.Bad = error.BadLine number
fault_at number fault.Limit = error.Limit number
fault_at number fault.NoMemory = error.NoMemory

-- the fault is the one that is told, or there was no memory for what is told
abbrev pub IsFaultOf : {A : Type 0} → Result A Fault → Fault → Type 0
IsFaultOf told fault.TooLong = told ≡ Err fault.TooLong
IsFaultOf told fault.Bad = told ≡ Err fault.Bad
IsFaultOf told fault.Limit = told ≡ Err fault.Limit
IsFaultOf told fault.NoMemory = IsOk told

-- the error is the one that is told, or there was no memory for what is told
abbrev pub IsErrorOf : {A : Type 0} → Result A ScriptError → ScriptError → Type 0
IsErrorOf told (error.BadLine number) = told ≡ Err (error.BadLine number)
IsErrorOf told (error.TooLong number) = told ≡ Err (error.TooLong number)
IsErrorOf told (error.Barriers a b) = told ≡ Err (error.Barriers a b)
IsErrorOf told (error.Limit number) = told ≡ Err (error.Limit number)
IsErrorOf told error.NoMemory = IsOk told

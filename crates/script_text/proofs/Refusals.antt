-- How a fault in a line becomes the refusal of the input.
use Rattle.std.proofs.Common.{◌≡◌, ◌≢◌, ℕ, Result, Ok, Err, refl, ap}
use Rattle.std.specs.Prelude.{IsOk}
use Rattle.script_text.specs.declared.error.Fault.{Fault}
use Rattle.script_text.specs.declared.error.Fault.TheVariants as fault
use Rattle.script_text.specs.declared.error.ScriptError.{ScriptError}
use Rattle.script_text.specs.declared.error.ScriptError.TheVariants as error
use Rattle.script_text.specs.declared.reading.Reading.{Reading}
use Rattle.script_text.specs.Faults.{fault_at, IsFaultOf, IsErrorOf}
use Rattle.script_text.specs.Grammar.{numbered}

-- what is read stays read with a number
numbered_ok : (number : ℕ) (told : Result Reading Fault) → IsOk told → IsOk (numbered number told)
numbered_ok number (Ok sofar) h = refl
numbered_ok number (Err fault) h = cc

-- a fault with its number is the error
pub numbered_fault : (number : ℕ) (told : Result Reading Fault) (fault : Fault) → IsFaultOf told fault → IsErrorOf (numbered number told) (fault_at number fault)
numbered_fault number told fault.TooLong h = ap (numbered number) h
numbered_fault number told fault.Bad h = ap (numbered number) h
numbered_fault number told fault.Limit h = ap (numbered number) h
numbered_fault number told fault.NoMemory h = numbered_ok number told h

-- where memory wasn't wanting, the error is the one that is told
pub told_error : {A : Type 0} (told : Result A ScriptError) (why : ScriptError) → IsErrorOf told why → why ≢ error.NoMemory → told ≡ Err why
told_error told (error.BadLine n) h other = h
told_error told (error.TooLong n) h other = h
told_error told (error.Barriers a b) h other = h
told_error told (error.Limit n) h other = h
told_error told error.NoMemory h other = absurd (other refl)

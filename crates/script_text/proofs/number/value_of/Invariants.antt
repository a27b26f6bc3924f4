use Rattle.std.proofs.Common.{◌≡◌, drop}
use Rattle.script_text.specs.Lines.{value_of}
use Rattle.script_text.proofs.number.value_of.Given as goal

-- the digits that are left go on from the number so far
abbrev pub invariant-loop-b : goal.invariant-loop-b
invariant-loop-b l = value_of l.n (drop l.b-index l.digits) ≡ value_of 0 l.digits

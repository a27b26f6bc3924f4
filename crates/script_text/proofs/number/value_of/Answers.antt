use Rattle.std.proofs.Common.{arith}
use Rattle.script_text.proofs.Numbers.{value_of-large}
use Rattle.script_text.proofs.number.value_of.Goals as goal

pub returns-in_default : goal.returns-in_default
returns-in_default c =
    value_of-large c.loop-b.n c.args.digits.now c.loop-b.b-index (omega arith) c.loop-b.invariant (omega (arith, c.in_default.ensures))

pub returns-in_default-checked_add : goal.returns-in_default-checked_add
returns-in_default-checked_add c =
    value_of-large c.loop-b.n c.args.digits.now c.loop-b.b-index (omega arith) c.loop-b.invariant (omega (arith, c.in_default-checked_add.ensures, c.in-Some.ensures, c.saturating_sub.ensures, c.from-digit.ensures))

use Rattle.std.proofs.Common.{◌≡◌, ◌++◌, length}
use Rattle.step_table.specs.World.{lines_of}
use Rattle.client_core.proofs.lines.lines_of.Given as goal

-- the lines so far, and the client's among those that are left
abbrev pub invariant-loop-text : goal.invariant-loop-text
invariant-loop-text l = l.own.items ++ lines_of l.number l.left ≡ lines_of l.number l.lines

abbrev pub decreases-loop-text : goal.decreases-loop-text
decreases-loop-text l = length l.left

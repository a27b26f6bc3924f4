use Rattle.std.proofs.Common.{◌≡◌, ◌≤◌, ◌+◌, ◌-◌, ◌*◌, ◌++◌}
use Rattle.script_text.specs.Load.{rounds}
use Rattle.script_text.proofs.seeded.play.Given as goal

-- the rounds that are left follow those so far
abbrev pub invariant-loop-left : goal.invariant-loop-left
invariant-loop-left l = record {
  made : l.made ++ rounds (l.lines + 1 - l.round) l.clients l.round l.generator.state l.left ≡ l.fn.made ++ rounds l.lines l.clients 1 l.seed l.room;
  some : 1 ≤ l.round;
  room : l.left + 4 * l.round ≤ l.lines + 4;
}

abbrev pub decreases-loop-left : goal.decreases-loop-left
decreases-loop-left l = l.left

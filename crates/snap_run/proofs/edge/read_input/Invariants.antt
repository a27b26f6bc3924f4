use Rattle.std.proofs.Common.{◌≡◌, ◌≤◌, ◌-◌, length}
use Rattle.std.specs.Io.KnownBytes.{Consumes}
use Rattle.snap_run.specs.declared.edge.TheConstants.{PIECE_BYTES}
use Rattle.snap_run.proofs.edge.read_input.Given as goal

-- what was read stood in front of what is left
abbrev pub invariant-loop-room : goal.invariant-loop-room
invariant-loop-room g l = record {
  bounded : length l.input.items ≤ 16777217;
  taken : Consumes (g.S.Source.left l.fn.source) (g.S.Source.left l.source) l.input.items;
  sized : length l.room ≡ PIECE_BYTES;
  sound : g.S.Source.faults l.source ≡ g.S.Source.faults l.fn.source;
}

abbrev pub decreases-loop-room : goal.decreases-loop-room
decreases-loop-room g l = 16777217 - length l.input.items

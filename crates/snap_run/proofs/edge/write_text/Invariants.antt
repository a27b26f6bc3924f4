use Rattle.std.proofs.Common.{◌≡◌, ◌≤◌, ◌-◌, length, take}
use Rattle.std.specs.Io.KnownBytes.{Appends}
use Rattle.snap_run.proofs.edge.write_text.Given as goal

-- a front of the text is written
abbrev pub invariant-loop-done : goal.invariant-loop-done
invariant-loop-done g l = record {
  bounded : l.done ≤ length l.text;
  written : Appends (g.W.Sink.written l.fn.sink) (g.W.Sink.written l.sink) (take l.done l.text);
  sound : g.W.Sink.faults l.sink ≡ g.W.Sink.faults l.fn.sink;
}

abbrev pub decreases-loop-done : goal.decreases-loop-done
decreases-loop-done g l = length l.text - l.done

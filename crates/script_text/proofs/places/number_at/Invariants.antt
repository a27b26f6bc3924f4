use Rattle.std.proofs.Common.{◌≡◌, ◌+◌, ◌≤◌, length, slice_get, unwrap_or}
use Rattle.script_text.specs.Lines.{lines_of}
use Rattle.script_text.specs.Places.{numbers_from, number_at}
use Rattle.script_text.proofs.places.number_at.Given as goal

-- the line is found in what is left
abbrev pub invariant-loop-line : goal.invariant-loop-line
invariant-loop-line l = record {
  same : unwrap_or (slice_get (numbers_from (l.number + 1) (lines_of l.left)) l.ahead) 0 ≡ number_at l.input l.place;
  few : l.number + length l.left ≤ length l.input;
}

abbrev pub decreases-loop-line : goal.decreases-loop-line
decreases-loop-line l = length l.left

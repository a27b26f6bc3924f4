use Rattle.std.proofs.Common.{◌≡◌, ◌≤◌, ◌+◌, length}
use Rattle.script_text.specs.Lines.{lines_of}
use Rattle.script_text.specs.Grammar.{grammar, read_lines, finished, ◌>>=◌}
use Rattle.script_text.proofs.Kept.{IsLimited}
use Rattle.script_text.proofs.parser.parse.Given as goal

-- what is left goes on from what was read as all does from nothing
abbrev pub invariant-loop-line : goal.invariant-loop-line
invariant-loop-line l = record {
  same : (read_lines l.schedule l.reading (lines_of l.left) >>= finished) ≡ grammar l.input l.schedule;
  bytes : l.reading.bytes + length l.left ≡ length l.input;
  lines : l.reading.script.input_lines ≤ l.reading.bytes;
  short : l.reading.bytes ≤ 16777216;
  limited : IsLimited l.reading;
}

abbrev pub decreases-loop-line : goal.decreases-loop-line
decreases-loop-line l = length l.left

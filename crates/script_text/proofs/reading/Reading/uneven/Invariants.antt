use Rattle.std.proofs.Common.{◌≡◌, None}
use Rattle.script_text.specs.Grammar.{barriers_of, uneven}
use Rattle.script_text.proofs.reading.Reading.uneven.Given as goal

-- no client so far is uneven
abbrev pub invariant-loop-client : goal.invariant-loop-client
invariant-loop-client l = record {
  first : l.first ≡ barriers_of l.self.script.lines 1;
  even : uneven l.self.script.lines l.client ≡ None;
}

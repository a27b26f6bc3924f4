use Rattle.std.proofs.Common.{◌≡◌, ◌≤◌, ◌-◌, ◌++◌, length}
use Rattle.script_text.specs.Load.{after, drawn_bytes}
use Rattle.script_text.proofs.seeded.Generator.draw_bytes.Given as goal

-- the bytes that are left follow those so far
abbrev pub invariant-loop-bytes : goal.invariant-loop-bytes
invariant-loop-bytes l = record {
  few : length l.bytes ≤ 8;
  bytes : l.bytes ++ drawn_bytes (8 - length l.bytes) l.self.state ≡ drawn_bytes 8 l.fn.self.state;
  state : after (8 - length l.bytes) l.self.state ≡ after 8 l.fn.self.state;
}

abbrev pub decreases-loop-bytes : goal.decreases-loop-bytes
decreases-loop-bytes l = 8 - length l.bytes

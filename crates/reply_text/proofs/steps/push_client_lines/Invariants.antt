use Rattle.std.proofs.Common.{◌≡◌, ◌++◌, take, flat_map}
use Rattle.reply_text.specs.Step.{client_line}
use Rattle.reply_text.proofs.steps.push_client_lines.Given as goal

-- the lines so far are written
abbrev pub invariant-loop-asked : goal.invariant-loop-asked
invariant-loop-asked l = l.out.items ≡ l.fn.out.items ++ flat_map client_line (take l.asked-index l.lines)

use Rattle.std.proofs.Common.{◌≡◌, ◌++◌, take, flat_map}
use Rattle.reply_text.specs.Step.{restart_line}
use Rattle.reply_text.proofs.steps.push_restarts.Given as goal

-- the restarts so far are written
abbrev pub invariant-loop-restart : goal.invariant-loop-restart
invariant-loop-restart l = l.out.items ≡ l.fn.out.items ++ flat_map restart_line (take l.restart-index l.restarts)

use Rattle.std.proofs.Common.{◌≡◌, take, reverse}
use Rattle.io_edge.specs.Past.{file_after}
use Rattle.io_edge.proofs.disk_call.replayed.Given as goal

-- the calls so far were done again
abbrev pub invariant-loop-call : goal.invariant-loop-call
invariant-loop-call l = l.file.items ≡ file_after l.base (reverse (take l.call-index l.calls))

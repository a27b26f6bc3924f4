use Rattle.std.proofs.Common.{◌≡◌, ◌+◌, ◌-◌, ◌++◌}
use Rattle.script_text.specs.Load.{waits}
use Rattle.script_text.proofs.seeded.wait_all.Given as goal

-- the clients that are left follow those so far
abbrev pub invariant-loop-client : goal.invariant-loop-client
invariant-loop-client l = l.made ++ waits (l.clients - l.client) (l.client + 1) ≡ l.fn.made ++ waits l.clients 1

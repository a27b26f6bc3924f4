use Rattle.std.proofs.Common.{◌≡◌, ◌+◌, ◌-◌, ◌++◌}
use Rattle.script_text.specs.Load.{openings}
use Rattle.script_text.proofs.seeded.open_all.Given as goal

-- the clients that are left follow those so far
abbrev pub invariant-loop-client : goal.invariant-loop-client
invariant-loop-client l = l.made ++ openings (l.clients - l.client) (l.client + 1) ≡ l.fn.made ++ openings l.clients 1

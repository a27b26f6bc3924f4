use Rattle.std.proofs.Common.{◌≡◌, ◌+◌, ◌-◌, ◌*◌, ◌++◌}
use Rattle.script_text.specs.Load.{after, writes}
use Rattle.script_text.proofs.seeded.Generator.write_all.Given as goal

-- the clients that are left follow those so far
abbrev pub invariant-loop-client : goal.invariant-loop-client
invariant-loop-client l = record {
  made : l.made ++ writes (l.clients - l.client) (l.client + 1) l.self.state ≡ l.fn.made ++ writes l.clients 1 l.fn.self.state;
  state : after (9 * (l.clients - l.client)) l.self.state ≡ after (9 * l.clients) l.fn.self.state;
}

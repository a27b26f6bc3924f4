use Rattle.std.proofs.Common.{◌+◌, ◌-◌}
use Rattle.held_requests.specs.Keys.{SameKeys}
use Rattle.held_requests.proofs.index.Index.grow.Given as goal

abbrev pub invariant-loop-self : goal.invariant-loop-self
invariant-loop-self l = SameKeys l.initial.self-inside.lists.items l.self-inside.lists.items

abbrev pub decreases-loop-self : goal.decreases-loop-self
decreases-loop-self l = l.client + 1 - l.self-inside.lists.len

use Rattle.std.proofs.Common.{◌≡◌, ◌+◌, ◌++◌}
use Rattle.plain_journal.specs.Table.{effects_from}
use Rattle.mds_state.proofs.change.effects_of.Given as goal

abbrev pub invariant-loop-entry : goal.invariant-loop-entry
invariant-loop-entry l =
    l.effects.items ++ effects_from l.number l.entry-iterator.rest.items ≡ effects_from (l.fn.durable + 1) l.fn.entries.items

use Rattle.std.proofs.Common.{◌≡◌, length, filter, fold}
use Rattle.plain_types.specs.declared.message.FlushMsg.{FlushMsg}
use Rattle.step_table.specs.ClientTakes.{settled_by}
use Rattle.client_state.specs.Picks.{picks}
use Rattle.client_state.proofs.heard.settle_all.Given as goal

abbrev pub invariant-loop-flush : goal.invariant-loop-flush
invariant-loop-flush l = fold settled_by l.files (filter (λ (f : FlushMsg). picks l.which f.number) l.left)
    ≡ fold settled_by l.fn.files (filter (λ (f : FlushMsg). picks l.which f.number) l.fn.flushes)

abbrev pub decreases-loop-flush : goal.decreases-loop-flush
decreases-loop-flush l = length l.left

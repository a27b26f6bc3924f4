use Rattle.std.proofs.Common.{◌≡◌, ◌++◌, deque_len}
use Rattle.step_table.specs.Acts.{goes, waits}
use Rattle.mds_state.proofs.rows.hand_over.Given as goal

abbrev pub invariant-loop-letter : goal.invariant-loop-letter
invariant-loop-letter l =
    (l.sent.items ++ goes l.durable l.mail.items ≡ l.fn.sent.items ++ goes l.durable l.fn.mail.items)
    × (waits l.durable l.mail.items ≡ waits l.durable l.fn.mail.items)

abbrev pub decreases-loop-letter : goal.decreases-loop-letter
decreases-loop-letter l = deque_len l.mail

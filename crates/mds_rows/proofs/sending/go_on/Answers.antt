use Rattle.step_table.specs.Acts.{acts}
use Rattle.step_table.specs.Requests.{then_held}
use Rattle.mds_rows.proofs.sending.go_on.Goals as goal

pub returns-clause-row : goal.returns-clause-row
returns-clause-row c = λ s done acted ready.
    c.in_ok-sent.ensures.row (acts s (then_held _ s done)) _ (c.in_ok-then_held.ensures.acts s done acted ready)

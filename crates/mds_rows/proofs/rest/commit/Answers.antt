use Rattle.std.proofs.Common.{None}
use Rattle.mds_rows.proofs.rest.commit.Goals as goal

pub returns-clause-row : goal.returns-clause-row
returns-clause-row c = λ s stands.
    let gives = c.in_ok-sent.ensures.row _ None (c.in_ok-effects.ensures.table s None stands) in
    record {
      gives = record { stands = gives.stands; sends = gives.sends; traces = gives.traces };
      effects = c.in_ok-effects.ensures.effects s None stands;
    }

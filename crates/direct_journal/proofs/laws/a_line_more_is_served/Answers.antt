use Rattle.direct_journal.proofs.More.{serves_push, journal_push, no_change, one_change}
use Rattle.direct_journal.proofs.laws.a_line_more_is_served.Goals as goal

pub returns : goal.returns
returns c = record {
  served = λ entries lines events asked event after is. serves_push entries lines events asked event after is;
  written = λ events event. journal_push events event;
  no_change = λ entries asked event served is. no_change entries asked event served is;
  one_change = λ entries asked event made what served is said. one_change entries asked event made what served is said;
}

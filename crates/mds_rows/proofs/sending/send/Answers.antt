use Rattle.mds_rows.proofs.Plain.{same_plain}
use Rattle.mds_rows.proofs.sending.send.Goals as goal

pub returns-clause-row : goal.returns-clause-row
returns-clause-row c = λ s taken stands. record {
  stands = c.in_ok-sent.ensures.table s taken stands;
  sends = same_plain _ _ (c.in_ok-sent.ensures.sent s taken stands);
  traces = c.in_ok-sent.ensures.traces s taken stands;
}

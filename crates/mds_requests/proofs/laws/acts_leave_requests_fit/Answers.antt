use Rattle.step_table.specs.Acts.{acts}
use Rattle.mds_requests.proofs.Places.{all_fit, placed, waiting_of}
use Rattle.mds_requests.proofs.laws.acts_leave_requests_fit.Goals as goal

pub returns-clause-waiting : goal.returns-clause-waiting
returns-clause-waiting c = λ s list hand waiting. waiting_of (acts s list) (all_fit list s (placed s hand waiting))

pub returns-clause-hand : goal.returns-clause-hand
returns-clause-hand c = λ s list hand waiting. (all_fit list s (placed s hand waiting)).0

use Rattle.step_table.specs.Acts.{acts}
use Rattle.mds_requests.proofs.Counts.{still_one, wait_once, held_once}
use Rattle.mds_requests.proofs.Places.{all_fit, placed, waiting_of}
use Rattle.mds_requests.proofs.laws.acts_leave_a_server_ready.Goals as goal

pub returns : goal.returns
returns c = λ s later list hand waiting one past. record {
  fit = waiting_of (acts s list) (all_fit list s (placed s hand waiting));
  once = held_once (acts s list) (wait_once (acts s list) (still_one s list one));
  past = past;
}

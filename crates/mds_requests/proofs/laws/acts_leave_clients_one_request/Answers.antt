use Rattle.mds_requests.proofs.Counts.{still_one, wait_once, held_once}
use Rattle.mds_requests.proofs.laws.acts_leave_clients_one_request.Goals as goal

pub returns-clause-each : goal.returns-clause-each
returns-clause-each c = λ s list one. still_one s list one

pub returns-clause-waiting : goal.returns-clause-waiting
returns-clause-waiting c = λ s one. wait_once s one

pub returns-clause-held : goal.returns-clause-held
returns-clause-held c = λ s one. held_once s one

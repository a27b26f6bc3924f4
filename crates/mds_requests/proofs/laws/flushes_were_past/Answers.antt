use Rattle.step_table.specs.Acts.{acts}
use Rattle.mds_requests.proofs.Later.{acts_later, were_past}
use Rattle.mds_requests.proofs.laws.flushes_were_past.Goals as goal

pub returns : goal.returns
returns c = λ s list past. were_past s (acts s list) (acts_later list s) past

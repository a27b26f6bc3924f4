use Rattle.step_table.proofs.Made.{runs}
use Rattle.step_table.proofs.runs.what_the_table_runs_is_legal.Goals as goal

pub returns : goal.returns
returns c = λ w steps. runs steps w

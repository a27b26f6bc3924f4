use Rattle.step_table.specs.World.{start}
use Rattle.run_laws.proofs.Determined.{made_from, same_from}
use Rattle.run_laws.proofs.steps.a_history_is_determined_by_its_steps.Goals as goal

pub returns-clause-made : goal.returns-clause-made
returns-clause-made c = λ script history legal. made_from (start script) history legal.rows

pub returns-clause-same : goal.returns-clause-same
returns-clause-same c = λ script history other legal others same. same_from script history other legal others same

use Rattle.std.proofs.Common.{◌∙◌, ap, sym}
use Rattle.plain_journal.specs.Answers.{answer_to}
use Rattle.meta_state.proofs.state.MetaState.answer.Goals as goal

-- src/answer.rt
pub returns-in-Clones-clause-answered : goal.returns-in-Clones-clause-answered
returns-in-Clones-clause-answered c entries stands past = c.clones.ensures entries stands ∙ sym (ap (answer_to entries) c.in-Clones.is)

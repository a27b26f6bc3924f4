use Rattle.journal_realms.proofs.Shown.{same_contexts}
use Rattle.journal_realms.proofs.laws.contexts_are_the_same.Goals as goal

-- src/laws.rt
pub returns : goal.returns
returns c entries legal x apart = same_contexts entries legal x apart

use Rattle.journal_laws.proofs.Steady.{steady_in}
use Rattle.journal_laws.proofs.laws.contexts_are_steady.Goals as goal

-- src/laws.rt
pub returns : goal.returns
returns c entries e x = steady_in entries e x

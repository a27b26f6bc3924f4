use Rattle.std.proofs.Common.{[]}
use Rattle.journal_laws.proofs.Steps.{last_legal}
use Rattle.journal_moments.proofs.Lives.{applied_rises}
use Rattle.journal_moments.proofs.Moments.{applied_below_nosnap}
use Rattle.journal_moments.proofs.laws.the_last_id_rises.Goals as goal

-- src/laws.rt
pub returns-clause-rises : goal.returns-clause-rises
returns-clause-rises c entries e legal = applied_rises entries e (last_legal [] entries e legal).1

pub returns-clause-below : goal.returns-clause-below
returns-clause-below c entries legal = applied_below_nosnap entries legal

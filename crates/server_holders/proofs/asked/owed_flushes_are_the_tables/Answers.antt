use Rattle.server_holders.proofs.Same.{same_owing, same_settled}
use Rattle.server_holders.proofs.asked.owed_flushes_are_the_tables.Goals as goal

pub returns-clause-owing : goal.returns-clause-owing
returns-clause-owing c held marks s ino id tab one stands = same_owing held marks s stands ino id tab one

pub returns-clause-settled : goal.returns-clause-settled
returns-clause-settled c held marks s stands = same_settled held marks s stands

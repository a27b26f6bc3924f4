use Rattle.server_holders.proofs.Same.{same_holders}
use Rattle.server_holders.proofs.asked.holders_are_the_tables.Goals as goal

pub returns : goal.returns
returns c held marks s ino tab clients stands = same_holders held marks s stands ino tab clients

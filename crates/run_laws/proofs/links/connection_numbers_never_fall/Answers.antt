use Rattle.run_laws.proofs.Lasting.{lasting_law}
use Rattle.run_laws.proofs.Linked.{numbers_law, connects_law}
use Rattle.run_laws.proofs.links.connection_numbers_never_fall.Goals as goal

pub returns-clause-down : goal.returns-clause-down
returns-clause-down c script history legal = numbers_law script history

pub returns-clause-up : goal.returns-clause-up
returns-clause-up c script history legal = connects_law script history

pub returns-clause-own : goal.returns-clause-own
returns-clause-own c script history later legal n was now before after = lasting_law script history later n was now before after

use Rattle.run_laws.proofs.Kept.{given_law, made_law, removed_law}
use Rattle.run_laws.proofs.tables.ids_are_given_in_order.Goals as goal

pub returns-clause-given : goal.returns-clause-given
returns-clause-given c script history legal before later e id entries is = given_law script history before later e id entries is

pub returns-clause-made : goal.returns-clause-made
returns-clause-made c script history legal before later e id dir name entries is = made_law script history before later e id dir name entries is

pub returns-clause-removed : goal.returns-clause-removed
returns-clause-removed c script history legal before later e id entries is = removed_law script history before later e id entries is

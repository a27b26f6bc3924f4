use Rattle.id_laws.proofs.Finals.{settled_law, released_law}
use Rattle.id_laws.proofs.past.flushes_name_made_snapshots.Goals as goal

pub returns-clause-settled : goal.returns-clause-settled
returns-clause-settled c script history legal before later e ino follows upto size entries is = settled_law script history before later e ino follows upto size entries is

pub returns-clause-released : goal.returns-clause-released
returns-clause-released c script history legal before later e ino follows size entries is = released_law script history before later e ino follows size entries is

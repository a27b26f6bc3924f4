use Rattle.id_laws.proofs.Finals.{entered_law, durable_law}
use Rattle.id_laws.proofs.past.every_flush_is_past.Goals as goal

pub returns-clause-entered : goal.returns-clause-entered
returns-clause-entered c script history legal ino = entered_law script history ino

pub returns-clause-durable : goal.returns-clause-durable
returns-clause-durable c script history legal ino = durable_law script history ino

use Rattle.run_laws.proofs.Kept.{operation_law}
use Rattle.run_laws.proofs.tables.one_operation_at_a_time.Goals as goal

pub returns : goal.returns
returns c script history legal before later e entries is = operation_law script history before later e entries is

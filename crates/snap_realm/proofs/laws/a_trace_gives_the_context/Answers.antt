use Rattle.snap_realm.proofs.Values.{trace_law}
use Rattle.snap_realm.proofs.laws.a_trace_gives_the_context.Goals as goal

pub returns : goal.returns
returns c = trace_law

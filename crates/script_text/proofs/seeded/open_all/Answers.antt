use Rattle.std.proofs.Common.{arith}
use Rattle.script_text.proofs.Loads.{openings_more}
use Rattle.script_text.proofs.seeded.open_all.Goals as goal

pub loop-client-preserved : goal.loop-client-preserved
loop-client-preserved c = openings_more c.loop-client.made c.open.new.made _ c.args.clients c.loop-client.client (omega arith) c.in_ok-open.ensures c.loop-client.invariant

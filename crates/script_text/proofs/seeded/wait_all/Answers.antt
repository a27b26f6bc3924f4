use Rattle.std.proofs.Common.{arith}
use Rattle.script_text.proofs.Loads.{waits_more}
use Rattle.script_text.proofs.seeded.wait_all.Goals as goal

pub loop-client-preserved : goal.loop-client-preserved
loop-client-preserved c = waits_more c.loop-client.made c.push.new.self _ c.args.clients c.loop-client.client (omega arith) c.in_ok-push.ensures.ok c.loop-client.invariant

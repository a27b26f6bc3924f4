use Rattle.std.proofs.Common.{arith}
use Rattle.script_text.proofs.Loads.{writes_more, writes_state, writes_end}
use Rattle.script_text.proofs.seeded.Generator.write_all.Goals as goal

pub loop-client-preserved : goal.loop-client-preserved
loop-client-preserved c =
    let at = c.loop-client in
    let wrote = c.in_ok-write.ensures in
    record {
      made = writes_more at.made c.write.new.made _ c.args.clients at.client at.self.state c.write.new.self.state (omega arith) wrote.state wrote.made at.invariant.made;
      state = writes_state c.args.clients at.client at.self.state c.write.new.self.state _ (omega arith) wrote.state at.invariant.state;
    }

pub returns-clause-state : goal.returns-clause-state
returns-clause-state c = writes_end c.args.clients c.loop-client.client c.loop-client.self.state _ (omega arith) c.loop-client.invariant.state

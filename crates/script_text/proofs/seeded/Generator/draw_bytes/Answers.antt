use Rattle.std.proofs.Common.{arith}
use Rattle.script_text.proofs.Loads.{bytes_few, bytes_more, state_more, bytes_all, state_all}
use Rattle.script_text.proofs.seeded.Generator.draw_bytes.Goals as goal

pub returns-clause-bytes : goal.returns-clause-bytes
returns-clause-bytes c = bytes_all c.loop-bytes.bytes _ c.loop-bytes.self.state (omega (arith, c.len.ensures)) c.loop-bytes.invariant.bytes

pub returns-clause-state : goal.returns-clause-state
returns-clause-state c = state_all c.loop-bytes.bytes c.loop-bytes.self.state _ (omega (arith, c.len.ensures)) c.loop-bytes.invariant.state

pub loop-bytes-preserved : goal.loop-bytes-preserved
loop-bytes-preserved c =
    let at = c.loop-bytes in
    let pushed = c.in_ok-push.ensures.ok in
    record {
      few = bytes_few at.bytes c.push.new.self c.draw.result (omega (arith, c.len.ensures)) pushed;
      bytes = bytes_more at.bytes c.push.new.self _ at.self.state c.draw.new.self.state c.draw.result (omega (arith, c.len.ensures)) c.draw.ensures.state c.draw.ensures.drawn pushed at.invariant.bytes;
      state = state_more at.bytes c.push.new.self at.self.state c.draw.new.self.state c.draw.result _ (omega (arith, c.len.ensures)) c.draw.ensures.state pushed at.invariant.state;
    }

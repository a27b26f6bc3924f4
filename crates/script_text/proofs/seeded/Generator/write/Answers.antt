use Rattle.script_text.proofs.Loads.{nine}
use Rattle.script_text.proofs.seeded.Generator.write.Goals as goal

pub returns-clause-state : goal.returns-clause-state
returns-clause-state c = nine c.args.self.now.state c.draw-offset.new.self.state _ c.draw-offset.ensures.state c.in_ok-bytes.ensures.state

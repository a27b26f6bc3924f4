use Rattle.std.proofs.Common.{◌∙◌}
use Rattle.std.proofs.lemmas.Result.{IfOk-weaker}
use Rattle.object_clones.proofs.Answered.{head_read}
use Rattle.object_clones.proofs.store.ObjectStore.read_head.Goals as goal

pub returns : goal.returns
returns c = IfOk-weaker c.read.result _ _ (λ bytes h object taken st. h ∙ head_read c.args.self.now object taken c.args.ino c.args.size st) c.read.ensures

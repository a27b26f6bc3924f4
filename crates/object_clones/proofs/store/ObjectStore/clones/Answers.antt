use Rattle.std.proofs.Common.{◌∙◌}
use Rattle.std.proofs.lemmas.Result.{IfOk-weaker}
use Rattle.object_clones.proofs.Answered.{list_read}
use Rattle.object_clones.proofs.store.ObjectStore.clones.Goals as goal

pub returns : goal.returns
returns c = IfOk-weaker c.listed.result _ _ (λ list h size taken st. h ∙ list_read c.args.self.now size taken c.args.ino c.args.index st) c.listed.ensures

use Rattle.std.proofs.Common.{◌∙◌}
use Rattle.snap_realm.proofs.Named.{refusal_law}
use Rattle.snap_realm.proofs.tree.RealmTree.refusal.Goals as goal

pub returns : goal.returns
returns c = λ family stands. c.refusal_by_records.ensures ∙ refusal_law c.args.self.now family stands c.args.dir c.args.name.now

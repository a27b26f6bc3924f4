use Rattle.std.proofs.Common.{◌∙◌}
use Rattle.snap_realm.proofs.Named.{refusal_law}
use Rattle.snap_realm.proofs.tree.RealmTree.add_snap.Goals as goal

pub returns-clause-refused : goal.returns-clause-refused
returns-clause-refused c = λ family error stands is. c.add.ensures.refused error (refusal_law c.args.self.now family stands c.args.dir c.args.name ∙ is)

pub returns-clause-allowed : goal.returns-clause-allowed
returns-clause-allowed c = λ family stands is. c.add.ensures.allowed (refusal_law c.args.self.now family stands c.args.dir c.args.name ∙ is)

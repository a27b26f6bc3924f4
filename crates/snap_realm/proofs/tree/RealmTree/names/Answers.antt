use Rattle.std.proofs.Common.{◌∙◌}
use Rattle.snap_realm.proofs.Shown.{names_law}
use Rattle.snap_realm.proofs.tree.RealmTree.names.Goals as goal

pub returns-clause-story : goal.returns-clause-story
returns-clause-story c = λ family stands. c.from_vec.ensures ∙ c.in_ok-names.ensures.records ∙ names_law c.args.self.now family stands c.args.dir c.requires.there c.requires.outside

use Rattle.std.proofs.Common.{ap, ◌∙◌}
use Rattle.snap_realm.proofs.Values.{seq_law}
use Rattle.snap_realm.proofs.tree.RealmTree.seq_of.Goals as goal

pub returns : goal.returns
returns c = λ family stands. ap (λ n. record { 0 = n }) (c.seq_at.ensures ∙ seq_law c.args.self.now family stands c.args.ino c.requires)

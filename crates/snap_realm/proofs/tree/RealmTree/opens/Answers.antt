use Rattle.std.proofs.Common.{◌∙◌}
use Rattle.snap_realm.proofs.Changes.{opens_value}
use Rattle.snap_realm.proofs.tree.RealmTree.opens.Goals as goal

pub returns : goal.returns
returns c = λ family stands.
    c.opens_by_records.ensures
    ∙ opens_value c.args.self.now family stands c.args.ino c.args.parent (record { there = c.requires.there; parent_there = c.requires.parent_there; no_root = c.requires.no_root; outside = c.requires.outside; apart = c.requires.apart })

use Rattle.inode_versions.proofs.Order.{changed_history}
use Rattle.inode_versions.proofs.history.History.change.Goals as goal

pub invariant_of-self-2 : goal.invariant_of-self-2
invariant_of-self-2 c =
    rw (c.max.ensures, c.in_ok-push_part.ensures.pushed)
    (changed_history c.args.follows c.args.attr (record { since = c.self.inside.since; head = c.self.inside.head; earlier = c.self.inside.earlier.items }) c.requires c.self.invariant)

use Rattle.std.proofs.Common.{◌&&◌, not, List, filter, length, ap, ◌∙◌}
use Rattle.realm_story.specs.declared.records.Snap.{Snap}
use Rattle.realm_story.specs.Family.{same_ino}
use Rattle.realm_story.specs.Records.{ids_of, lists, up}
use Rattle.snap_realm.specs.Tree.{node_at, left_at}
use Rattle.snap_realm.proofs.tree.RealmTree.left_ids.Goals as goal

pub returns-clause-records : goal.returns-clause-records
returns-clause-records c =
    c.in_ok-ids.ensures
    ∙ ap (λ (s : List Snap). ids_of (filter (λ (snap : Snap). lists (node_at c.self.inside.nodes.entries) (up (length c.self.inside.nodes.entries) (node_at c.self.inside.nodes.entries) c.args.ino) snap.root snap.id && not (same_ino snap.root c.args.ino)) s)) c.deref.ensures.value
    ∙ ap (λ t. left_at t c.args.ino) c.self.view_is

use Rattle.std.proofs.Common.{ℕ, ◌+◌, List, ap, ◌∙◌}
use Rattle.snap_ids.specs.declared.id.SnapId.{SnapId}
use Rattle.realm_story.specs.declared.records.Realm.{Realm}
use Rattle.realm_story.specs.Records.{seq_on}
use Rattle.snap_realm.specs.Tree.{Tree, node_at, way, left_at}
use Rattle.snap_realm.proofs.tree.RealmTree.opened.Goals as goal

abbrev opens : ℕ → ℕ → List SnapId → Realm
opens n applied ids = record { seq = record { 0 = n }; since = record { 0 = applied + 1 }; past = ids }

pub returns-clause-records : goal.returns-clause-records
returns-clause-records c =
    ap (opens c.top.result c.self.inside.applied.0) (c.from_vec.ensures ∙ c.in_ok-past.ensures.records)
    ∙ ap (λ n. opens n c.self.inside.applied.0 (left_at c.args.self.now c.args.ino)) c.top.ensures
    ∙ ap (λ (t : Tree). opens (seq_on (node_at c.args.self.now.nodes) (way c.args.self.now c.args.ino)) t.applied.0 (left_at c.args.self.now c.args.ino)) c.self.view_is

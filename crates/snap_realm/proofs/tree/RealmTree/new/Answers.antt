use Rattle.std.proofs.Common.{ap, sym, subst}
use Rattle.realm_story.specs.Family.{start}
use Rattle.realm_story.specs.Stands.{Stands}
use Rattle.snap_realm.specs.Tree.{node_at}
use Rattle.snap_realm.proofs.Changes.{start_value}
use Rattle.snap_realm.proofs.tree.RealmTree.new.Goals as goal

pub returns-clause-story : goal.returns-clause-story
returns-clause-story c =
    subst (λ s. Stands (node_at c.put-3.new.nodes.entries) s (record { 0 = 1 }) start) (sym c.new.ensures.items)
    (start_value c.root.result c.root-2.result c.root-3.result (node_at c.new-nodes.result.entries) (node_at c.put.new.nodes.entries) (node_at c.put-2.new.nodes.entries) (node_at c.put-3.new.nodes.entries) c.root.ensures c.root-2.ensures c.root-3.ensures (λ k. ap (λ es. node_at es k) c.new-nodes.ensures.empty) c.in_ok-put.ensures.ok c.in_ok-put-2.ensures.ok c.in_ok-put-3.ensures.ok)

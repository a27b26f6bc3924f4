use Rattle.std.proofs.Common.{◌≡◌, ℕ, ◌+◌, length, Some}
use Rattle.realm_story.specs.Records.{lists, up_from}
use Rattle.snap_realm.specs.Tree.{node_at}
use Rattle.snap_realm.proofs.walk.lists.Given as goal

-- what is left of the way decides
abbrev pub invariant-loop : goal.invariant-loop
invariant-loop l = record {
  whole : l.end ≡ length l.nodes.entries;
  left : (k : ℕ) → k + l.counter ≡ l.end → lists (node_at l.nodes.entries) (up_from k (node_at l.nodes.entries) l.next) l.root l.id ≡ lists (node_at l.nodes.entries) (up_from (length l.nodes.entries) (node_at l.nodes.entries) (Some l.fn.ino)) l.root l.id;
}

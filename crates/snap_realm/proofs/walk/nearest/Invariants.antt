use Rattle.std.proofs.Common.{◌≡◌, ℕ, ◌+◌, length, Some}
use Rattle.realm_story.specs.Records.{realm_by, is_realm, nearest_on, up_from}
use Rattle.snap_realm.specs.Tree.{node_at}
use Rattle.snap_realm.proofs.walk.nearest.Given as goal

-- what is left of the way decides
abbrev pub invariant-loop : goal.invariant-loop
invariant-loop l = record {
  whole : l.end ≡ length l.nodes.entries;
  left : (k : ℕ) → k + l.counter ≡ l.end → nearest_on (λ y. is_realm (realm_by (node_at l.nodes.entries y.0))) l.last (up_from k (node_at l.nodes.entries) l.next) ≡ nearest_on (λ y. is_realm (realm_by (node_at l.nodes.entries y.0))) l.fn.ino (up_from (length l.nodes.entries) (node_at l.nodes.entries) (Some l.fn.ino));
}

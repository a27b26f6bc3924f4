use Rattle.std.proofs.Common.{◌≡◌, ℕ, ◌+◌, length, Some}
use Rattle.realm_story.specs.Records.{seq_on, up_from}
use Rattle.snap_realm.specs.Tree.{node_at}
use Rattle.snap_realm.specs.Walks.{most}
use Rattle.snap_realm.proofs.walk.seq.Given as goal

-- what was seen and what is left of the way decide
abbrev pub invariant-loop : goal.invariant-loop
invariant-loop l = record {
  whole : l.end ≡ length l.nodes.entries;
  left : (k : ℕ) → k + l.counter ≡ l.end → most l.seen.0 l.seen.1 (seq_on (node_at l.nodes.entries) (up_from k (node_at l.nodes.entries) l.next)) ≡ seq_on (node_at l.nodes.entries) (up_from (length l.nodes.entries) (node_at l.nodes.entries) (Some l.fn.ino));
}

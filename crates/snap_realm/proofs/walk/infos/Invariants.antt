use Rattle.std.proofs.Common.{◌≡◌, ℕ, ◌+◌, ◌++◌, length, Some}
use Rattle.realm_story.specs.Records.{infos, up_from}
use Rattle.snap_realm.specs.Tree.{node_at}
use Rattle.snap_realm.proofs.walk.infos.Given as goal

-- the realms so far, and those on the way that is left
abbrev pub invariant-loop : goal.invariant-loop
invariant-loop l = record {
  whole : l.end ≡ length l.nodes.entries;
  left : (k : ℕ) → k + l.counter ≡ l.end → l.infos.items ++ infos (node_at l.nodes.entries) l.snaps (up_from k (node_at l.nodes.entries) l.next) ≡ infos (node_at l.nodes.entries) l.snaps (up_from (length l.nodes.entries) (node_at l.nodes.entries) (Some l.fn.ino));
}

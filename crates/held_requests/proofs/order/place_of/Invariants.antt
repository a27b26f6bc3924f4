use Rattle.std.proofs.Common.{◌≡◌, ◌+◌, drop}
use Rattle.held_requests.specs.Keys.{place_of}
use Rattle.held_requests.proofs.order.place_of.Given as goal

abbrev pub invariant-loop-next : goal.invariant-loop-next
invariant-loop-next l = record {
  index : l.at ≡ l.next-index;
  so_far : place_of l.key l.order ≡ l.at + place_of l.key (drop l.next-index l.order);
}

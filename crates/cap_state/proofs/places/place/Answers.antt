use Rattle.std.proofs.Common.{rules, ◌≡◌, true, false, take, drop, sym, ◌∙◌, arith}
use Rattle.std.specs.List.{AllByRecursion}
use Rattle.std.specs.List.Sorted.{IsPartitionPoint}
use Rattle.std.proofs.lemmas.List.Sorted.{IsPartitionPoint-from_clause}
use Rattle.cap_state.specs.Table.{stands_before}
use Rattle.cap_state.proofs.Lists.{all_taken, all_dropped}
use Rattle.cap_state.proofs.Order.{partitioned, before_before}
use Rattle.cap_state.proofs.Found.{gap_at_end, found_here, gap_here}
use Rattle.cap_state.proofs.places.place.Goals as goal
use Rattle.cap_state.proofs.places.place.Goals.{After-partition_point-place}

-- the holdings that stand before the client's of the file come first
module _ (c : After-partition_point-place) where
  split : IsPartitionPoint (λ h. stands_before c.args.client c.args.ino h ≡ true) (λ h. stands_before c.args.client c.args.ino h ≡ false) c.args.held.now c.partition_point-place.result
  split =
      IsPartitionPoint-from_clause (stands_before c.args.client c.args.ino) c.args.held.now c.partition_point-place.result c.partition_point-place.ensures.partitioned
      (partitioned (stands_before c.args.client c.args.ino) (λ g h order is. before_before c.args.client c.args.ino h g order.before is) c.args.held.now c.requires)
      (λ a r g called. search rules)

  before : AllByRecursion (λ h. stands_before c.args.client c.args.ino h ≡ true) (take c.partition_point-place.result c.args.held.now)
  before = all_taken (λ h. stands_before c.args.client c.args.ino h ≡ true) c.args.held.now c.partition_point-place.result split.0

  rest : AllByRecursion (λ h. stands_before c.args.client c.args.ino h ≡ false) (drop c.partition_point-place.result c.args.held.now)
  rest = all_dropped (λ h. stands_before c.args.client c.args.ino h ≡ false) c.args.held.now c.partition_point-place.result split.1

pub returns-then-place-held-clause-absent : goal.returns-then-place-held-clause-absent
returns-then-place-held-clause-absent c =
    let here = (goal.at.returns-then-place-held-clause-absent c).After-partition_point-place in
    gap_at_end c.args.client c.args.ino c.args.held.now c.partition_point-place.result c.requires c.partition_point-place.ensures.bound (before here) (rest here) c.if-place-held.true

pub returns-then-is_at-clause-found : goal.returns-then-is_at-clause-found
returns-then-is_at-clause-found c =
    let here = (goal.at.returns-then-is_at-clause-found c).After-partition_point-place in
    found_here c.args.client c.args.ino c.args.held.now c.partition_point-place.result c.requires c.partition_point-place.ensures.bound (before here) (rest here) _ (omega (arith, c.partition_point-place.ensures.bound, c.if-place-held.false)) (sym c.is_at.ensures ∙ c.if-is_at.true)

pub returns-else-is_at-clause-absent : goal.returns-else-is_at-clause-absent
returns-else-is_at-clause-absent c =
    let here = (goal.at.returns-else-is_at-clause-absent c).After-partition_point-place in
    gap_here c.args.client c.args.ino c.args.held.now c.partition_point-place.result c.requires c.partition_point-place.ensures.bound (before here) (rest here) _ (omega (arith, c.partition_point-place.ensures.bound, c.if-place-held.false)) (sym c.is_at.ensures ∙ c.if-is_at.false)

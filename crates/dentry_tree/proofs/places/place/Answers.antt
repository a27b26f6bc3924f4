use Rattle.std.proofs.Common.{rules, ◌≡◌, true, false}
use Rattle.std.proofs.lemmas.List.Sorted.{IsPartitionPoint-from_clause}
use Rattle.dentry_tree.specs.Places.{stands_before}
use Rattle.dentry_tree.proofs.Lists.{all_taken, all_dropped}
use Rattle.dentry_tree.proofs.Order.{partitioned, stands_before_before}
use Rattle.dentry_tree.proofs.places.place.Goals as goal

-- the closure tells what stands before the name, and those dentries come first
pub returns : goal.returns
returns c =
    let dir = c.args.dir in
    let name = c.args.name.now in
    let dentries = c.args.dentries.now in
    let found = c.partition_point.ensures in
    let point = IsPartitionPoint-from_clause (stands_before dir name) dentries c.partition_point.result found.partitioned (partitioned (stands_before dir name) (stands_before_before dir name) dentries c.requires) (λ a r g called. search rules) in
    record {
      within = found.bound;
      before = all_taken (λ d. stands_before dir name d ≡ true) dentries c.partition_point.result point.0;
      behind = all_dropped (λ d. stands_before dir name d ≡ false) dentries c.partition_point.result point.1;
    }

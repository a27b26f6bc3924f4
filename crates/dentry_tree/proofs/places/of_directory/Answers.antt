use Rattle.std.proofs.Common.{rules, ◌≡◌, ◌-◌, true, false, List, length, take, drop, nat_lt, nat_le, length-drop, sym, subst, arith}
use Rattle.std.proofs.lemmas.List.{take_all}
use Rattle.std.proofs.lemmas.List.Sorted.{IsPartitionPoint-from_clause}
use Rattle.dentry_tree.specs.Dentries.{Dentry, IsInOrder}
use Rattle.dentry_tree.proofs.Lists.{all_taken, all_dropped}
use Rattle.dentry_tree.proofs.Order.{partitioned, in_order_drop}
use Rattle.dentry_tree.proofs.Directory.{below_before, upto_before, filter_run}
use Rattle.dentry_tree.proofs.places.of_directory.Goals as goal

-- the first search passes the lower directories, and the second ends at the higher ones
pub returns : goal.returns
returns c =
    let dir = c.args.dir in
    let dentries = c.args.dentries.now in
    let from = c.partition_point-from.result in
    let count = c.partition_point-count.result in
    let rest : List Dentry = take (length dentries - from) (drop from dentries) in
    let is_rest : rest ≡ drop from dentries = take_all (length dentries - from) (drop from dentries) (simp length-drop (omega arith)) in
    let is_below = λ (v : Dentry). nat_lt v.dir.0 dir.0 in
    let is_upto = λ (v : Dentry). nat_le v.dir.0 dir.0 in
    let below = IsPartitionPoint-from_clause is_below dentries from c.partition_point-from.ensures.partitioned (partitioned is_below (below_before dir) dentries c.requires) (λ a r g called. search rules) in
    let upto = IsPartitionPoint-from_clause is_upto rest count c.partition_point-count.ensures.partitioned (partitioned is_upto (upto_before dir) rest (subst IsInOrder (sym is_rest) (in_order_drop dentries from c.requires))) (λ a r g called. search rules) in
    filter_run dir dentries rest from count is_rest
    (all_taken (λ v. is_below v ≡ true) dentries from below.0)
    (all_dropped (λ v. is_below v ≡ false) dentries from below.1)
    (all_taken (λ v. is_upto v ≡ true) rest count upto.0)
    (all_dropped (λ v. is_upto v ≡ false) rest count upto.1)

use Rattle.std.proofs.Common.{rules, ◌≡◌, ◌-◌, true, false, List, length, take, drop, nat_lt, nat_le, length-drop, sym, subst, arith}
use Rattle.std.proofs.lemmas.List.{take_all}
use Rattle.std.proofs.lemmas.List.Sorted.{IsPartitionPoint-from_clause}
use Rattle.cap_state.specs.Table.{Holding, IsTable}
use Rattle.cap_state.proofs.Lists.{all_taken, all_dropped}
use Rattle.cap_state.proofs.Order.{partitioned, table_drop}
use Rattle.cap_state.proofs.Files.{below_before, upto_before, filter_run}
use Rattle.cap_state.proofs.places.of_file.Goals as goal

-- the first search passes the lower inodes, and the second ends at the higher ones
pub returns : goal.returns
returns c =
    let ino = c.args.ino in
    let held = c.args.held.now in
    let from = c.partition_point-from.result in
    let count = c.partition_point-count.result in
    let rest : List Holding = take (length held - from) (drop from held) in
    let is_rest : rest ≡ drop from held = take_all (length held - from) (drop from held) (simp length-drop (omega arith)) in
    let is_below = λ (h : Holding). nat_lt h.1.ino.0 ino.0 in
    let is_upto = λ (h : Holding). nat_le h.1.ino.0 ino.0 in
    let below = IsPartitionPoint-from_clause is_below held from c.partition_point-from.ensures.partitioned (partitioned is_below (below_before ino) held c.requires) (λ a r g called. search rules) in
    let upto = IsPartitionPoint-from_clause is_upto rest count c.partition_point-count.ensures.partitioned (partitioned is_upto (upto_before ino) rest (subst IsTable (sym is_rest) (table_drop held from c.requires))) (λ a r g called. search rules) in
    filter_run ino held rest from count is_rest
    (all_taken (λ h. is_below h ≡ true) held from below.0)
    (all_dropped (λ h. is_below h ≡ false) held from below.1)
    (all_taken (λ h. is_upto h ≡ true) rest count upto.0)
    (all_dropped (λ h. is_upto h ≡ false) rest count upto.1)

use Rattle.std.proofs.Common.{◌≡◌, ◌+◌, ◌∙◌, ap, arith}
use Rattle.std.specs.List.{sum_by}
use Rattle.std.proofs.lemmas.List.Sums.{sum_by-cons}
use Rattle.inode_versions.specs.Parts.{unneeded}
use Rattle.inode_versions.specs.Table.{count_unneeded, trimmed_table}
use Rattle.inode_versions.specs.Fields.{total}
use Rattle.inode_versions.proofs.Steps.{total-trimmed}
use Rattle.inode_versions.proofs.table.InodeTable.unneeded.Goals as goal

pub overflow_add-count : goal.overflow_add-count
overflow_add-count c =
    let live = c.args.live.now in
    let es = c.self.inside.inodes.entries in
    let all : total (trimmed_table live es) + count_unneeded live es ≡ total es = total-trimmed live es in
    let whole : count_unneeded live es ≡ count_unneeded live c.args.self.now = ap (count_unneeded live) c.self.view_is in
    let one : sum_by (unneeded live) c.loop-history.history-iterator ≡ unneeded live c.in-Some.history.now + sum_by (unneeded live) c.next.new.self = ap (sum_by (unneeded live)) c.in-Some.ensures.steps ∙ sum_by-cons (unneeded live) c.in-Some.history.now c.next.new.self in
    omega (arith, c.loop-history.invariant, c.unneeded-count.ensures.count, c.self.invariant.earlier)

pub returns-then-self-eq0 : goal.returns-then-self-eq0
returns-then-self-eq0 c =
    let live = c.args.live.now in
    let es = c.self.inside.inodes.entries in
    let all : total (trimmed_table live es) + count_unneeded live es ≡ total es = total-trimmed live es in
    let whole : count_unneeded live es ≡ count_unneeded live c.args.self.now = ap (count_unneeded live) c.self.view_is in
    omega (arith, c.self.invariant.earlier, c.if-self-eq0.true)

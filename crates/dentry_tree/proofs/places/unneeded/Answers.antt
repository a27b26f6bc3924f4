use Rattle.std.proofs.Common.{◌≡◌, ◌+◌, ◌∙◌, ap, arith}
use Rattle.std.proofs.lemmas.List.{nil_from_length}
use Rattle.dentry_tree.specs.Places.{count_unneeded, unneeded}
use Rattle.dentry_tree.proofs.Trims.{count_unneeded_cons, count_unneeded_nil, trim_total}
use Rattle.dentry_tree.proofs.places.unneeded.Goals as goal

pub overflow_add-count : goal.overflow_add-count
overflow_add-count c =
    let live = c.args.live.now in
    let ds = c.args.dentries.now in
    let cut : count_unneeded live c.loop-dentry.left.now ≡ unneeded live c.in-Some.dentry.now + count_unneeded live c.in-Some.rest.now = ap (count_unneeded live) c.in-Some.ensures.cases.0 ∙ count_unneeded_cons live c.in-Some.dentry.now c.in-Some.rest.now in
    omega (arith, c.loop-dentry.invariant, trim_total live ds, c.requires, c.unneeded-count.ensures)

pub loop-dentry-preserved : goal.loop-dentry-preserved
loop-dentry-preserved c =
    let live = c.args.live.now in
    let cut : count_unneeded live c.loop-dentry.left.now ≡ unneeded live c.in-Some.dentry.now + count_unneeded live c.in-Some.rest.now = ap (count_unneeded live) c.in-Some.ensures.cases.0 ∙ count_unneeded_cons live c.in-Some.dentry.now c.in-Some.rest.now in
    omega (arith, c.loop-dentry.invariant, c.unneeded-count.ensures)

pub returns : goal.returns
returns c =
    let live = c.args.live.now in
    let none : count_unneeded live c.loop-dentry.left.now ≡ 0 = ap (count_unneeded live) (nil_from_length c.loop-dentry.left.now c.in_default.ensures.cases) ∙ count_unneeded_nil live in
    omega (arith, c.loop-dentry.invariant)

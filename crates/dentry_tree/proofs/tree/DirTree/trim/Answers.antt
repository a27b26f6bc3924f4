use Rattle.std.proofs.Common.{◌≡◌, ◌+◌, ◌∙◌, ap, sym, subst, List, arith}
use Rattle.snap_ids.specs.declared.id.TheConstants.{NOSNAP}
use Rattle.dentry_tree.specs.Dentries.{Dentry, Tree, AreDentries, entries_in, newest_in, total}
use Rattle.dentry_tree.specs.Places.{trimmed_all, count_unneeded}
use Rattle.dentry_tree.proofs.Trims.{trim_live, trim_nosnap, trim_later, trim_newest, trim_total, trim_dentries}
use Rattle.dentry_tree.proofs.tree.DirTree.trim.Goals as goal
use Rattle.dentry_tree.proofs.tree.DirTree.trim.Goals.{After-unneeded-dropped}

-- how many versions go
dropped : (c : After-unneeded-dropped) → c.unneeded-dropped.result ≡ count_unneeded c.args.live.now c.self.inside.dentries.items
dropped c = c.unneeded-dropped.ensures ∙ ap (count_unneeded c.args.live.now) c.deref.ensures.value

pub overflow_sub-self : goal.overflow_sub-self
overflow_sub-self c =
    let here = (goal.at.overflow_sub-self c).After-unneeded-dropped in
    let all : total (trimmed_all c.args.live.now c.self.inside.dentries.items) + count_unneeded c.args.live.now c.self.inside.dentries.items ≡ total c.self.inside.dentries.items = trim_total c.args.live.now c.self.inside.dentries.items in
    omega (arith, dropped here, c.self.invariant.1)

pub invariant_of-self : goal.invariant_of-self
invariant_of-self c =
    let here = (goal.at.invariant_of-self c).After-unneeded-dropped in
    let ds : List Dentry = c.self.inside.dentries.items in
    let made : c.trim.new.dentries.items ≡ trimmed_all c.args.live.now ds = c.trim.ensures in
    let all : total (trimmed_all c.args.live.now ds) + count_unneeded c.args.live.now ds ≡ total ds = trim_total c.args.live.now ds in
    let left : total c.trim.new.dentries.items ≡ total (trimmed_all c.args.live.now ds) = ap total made in
    (subst AreDentries (sym made) (trim_dentries c.args.live.now ds c.self.invariant.0), omega (arith, dropped here, c.self.invariant.1))

pub returns-clause-live : goal.returns-clause-live
returns-clause-live c = λ s listed.
    ap (entries_in s) c.trim.ensures ∙ trim_live c.args.live.now s c.self.inside.dentries.items listed ∙ ap (λ (t : Tree). entries_in s t.dentries) c.self.view_is

pub returns-clause-nosnap : goal.returns-clause-nosnap
returns-clause-nosnap c =
    ap (entries_in NOSNAP) c.trim.ensures ∙ trim_nosnap c.args.live.now c.self.inside.dentries.items c.self.invariant.0 ∙ ap (λ (t : Tree). entries_in NOSNAP t.dentries) c.self.view_is

pub returns-clause-newest : goal.returns-clause-newest
returns-clause-newest c =
    let made : newest_in c.trim.new.dentries.items ≡ newest_in (trimmed_all c.args.live.now c.self.inside.dentries.items) = ap newest_in c.trim.ensures in
    let was : newest_in c.self.inside.dentries.items ≡ newest_in c.args.self.now.dentries = ap (λ (t : Tree). newest_in t.dentries) c.self.view_is in
    omega (arith, trim_newest c.args.live.now c.self.inside.dentries.items)

pub returns-clause-later : goal.returns-clause-later
returns-clause-later c = λ s after upto.
    let was : newest_in c.self.inside.dentries.items ≡ newest_in c.args.self.now.dentries = ap (λ (t : Tree). newest_in t.dentries) c.self.view_is in
    ap (entries_in s) c.trim.ensures ∙ trim_later c.args.live.now s c.self.inside.dentries.items (omega arith) ∙ ap (λ (t : Tree). entries_in s t.dentries) c.self.view_is

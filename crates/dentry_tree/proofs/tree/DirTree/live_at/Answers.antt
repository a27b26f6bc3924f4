use Rattle.std.proofs.Common.{◌≡◌, ◌∙◌, ap, subst, List, slice_get}
use Rattle.snap_ids.specs.declared.id.TheConstants.{NOSNAP}
use Rattle.dentry_tree.specs.Dentries.{Dentry, Tree, IsInOrder}
use Rattle.dentry_tree.specs.Places.{found_at}
use Rattle.dentry_tree.proofs.Entries.{lookup_found}
use Rattle.dentry_tree.proofs.tree.DirTree.live_at.Goals as goal

pub returns-clause-live : goal.returns-clause-live
returns-clause-live c =
    let ds : List Dentry = c.args.self.now.dentries in
    let is : c.self.inside.dentries.items ≡ ds = ap (λ (t : Tree). t.dentries) c.self.view_is in
    c.found_at.ensures
    ∙ ap (λ (xs : List Dentry). found_at NOSNAP c.args.dir c.args.name.now (slice_get xs c.args.place)) (c.deref.ensures.value ∙ is)
    ∙ lookup_found NOSNAP c.args.dir c.args.name.now ds c.args.place (subst IsInOrder is c.self.invariant.0.in_order) c.requires

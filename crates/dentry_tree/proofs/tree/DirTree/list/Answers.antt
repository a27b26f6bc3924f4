use Rattle.std.proofs.Common.{rules, ◌∙◌, ap, sym, subst, List}
use Rattle.std.specs.List.{AllByRecursion, filter}
use Rattle.dentry_tree.specs.Dentries.{Dentry, AreVersions, kind_in}
use Rattle.dentry_tree.specs.Places.{is_in}
use Rattle.dentry_tree.proofs.Directory.{all_filter, listing_items}
use Rattle.dentry_tree.proofs.tree.DirTree.list.Goals as goal

pub listed-requires : goal.listed-requires
listed-requires c =
    subst (λ (ds : List Dentry). AllByRecursion AreVersions ds) (sym (c.of_directory.ensures ∙ ap (filter (is_in c.args.dir)) c.deref.ensures.value))
    (all_filter AreVersions (is_in c.args.dir) c.self.inside.dentries.items c.self.invariant.0.versions)

pub returns-in-Ok-clause-listed : goal.returns-in-Ok-clause-listed
returns-in-Ok-clause-listed c =
    let s = c.args.s in
    let kind = kind_in c.self.inside.kinds in
    search (rules, listing_items s kind c.args.dir c.self.inside.dentries.items, c.in-Ok.ensures, c.of_directory.ensures, c.deref.ensures.value, c.self.view_is)

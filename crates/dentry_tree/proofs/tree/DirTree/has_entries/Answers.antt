use Rattle.std.proofs.Common.{rules, ◌∙◌, ap, sym, subst, List}
use Rattle.std.specs.List.{AllByRecursion, filter, list_any}
use Rattle.dentry_tree.specs.Dentries.{Dentry, Tree, AreVersions, entries_in}
use Rattle.dentry_tree.specs.Places.{is_in, is_found_at}
use Rattle.dentry_tree.proofs.Directory.{all_filter, is_of, some_entries}
use Rattle.dentry_tree.proofs.tree.DirTree.has_entries.Goals as goal

pub has_some-requires : goal.has_some-requires
has_some-requires c =
    subst (λ (ds : List Dentry). AllByRecursion AreVersions ds) (sym (c.of_directory.ensures ∙ ap (filter (is_in c.args.dir)) c.deref.ensures.value))
    (all_filter AreVersions (is_in c.args.dir) c.self.inside.dentries.items c.self.invariant.0.versions)

pub returns : goal.returns
returns c =
    c.has_some.ensures
    ∙ ap (list_any (is_found_at c.args.s)) (c.of_directory.ensures ∙ ap (filter (is_in c.args.dir)) c.deref.ensures.value)
    ∙ some_entries c.args.s c.args.dir c.self.inside.dentries.items
    ∙ ap (λ (tree : Tree). list_any (is_of c.args.dir) (entries_in c.args.s tree.dentries)) c.self.view_is

use Rattle.std.proofs.Common.{◌≡◌, suc, List, ◌++◌, take, drop, slice_get, ap, sym, ◌∙◌, subst, add-one}
use Rattle.dentry_tree.specs.Dentries.{Dentry}
use Rattle.dentry_tree.specs.Places.{cut_dentry, kept, Cuts}
use Rattle.dentry_tree.proofs.Steps.{cuts_at, within_get, there}
use Rattle.dentry_tree.proofs.places.cut.Goals as goal

pub cut_at-requires-clause-within : goal.cut_at-requires-clause-within
cut_at-requires-clause-within c =
    let it = there c.args.dir c.args.name.now (slice_get c.args.dentries.now.items c.args.place) c.requires.there in
    within_get c.args.dentries.now.items c.args.place it.dentry it.is

pub returns-clause-cuts : goal.returns-clause-cuts
returns-clause-cuts c =
    let ds : List Dentry = c.args.dentries.now.items in
    let it = there c.args.dir c.args.name.now (slice_get ds c.args.place) c.requires.there in
    let made : c.cut_at.new.dentries.items ≡ take c.args.place ds ++ (kept (cut_dentry c.args.applied it.dentry) ++ drop (suc c.args.place) ds) =
    c.cut_at.ensures.cut it.dentry it.is
    ∙ ap (λ n. take c.args.place ds ++ (kept (cut_dentry c.args.applied it.dentry) ++ drop n ds)) (add-one c.args.place) in
    subst (λ (new : List Dentry). Cuts c.args.applied c.args.dir c.args.name.now ds new) (sym made)
    (cuts_at c.args.applied c.args.dir c.args.name.now ds c.args.place it.dentry c.requires.dentries c.requires.place it.is it.here)

use Rattle.std.proofs.Common.{rules, ◌≡◌, ◌+◌, true, false, cond, List, [], ◌∷◌, ◌++◌, take, drop, slice_get, Some, ap, sym, ◌∙◌, add-one}
use Rattle.dentry_tree.specs.Dentries.{Dentry}
use Rattle.dentry_tree.specs.Places.{cut_dentry, has_versions}
use Rattle.dentry_tree.proofs.Steps.{set_split, set_removed, got}
use Rattle.dentry_tree.proofs.places.cut_at.Goals as goal
use Rattle.dentry_tree.proofs.places.cut_at.Goals.{After-has_versions}

-- the dentry at the place, cut
made : (c : After-has_versions) → (d : Dentry) → slice_get c.args.dentries.now.items c.args.place ≡ Some d → c.cut-dropped.new.self ≡ cut_dentry c.args.applied d
made c d is = c.cut-dropped.ensures.cut ∙ ap (cut_dentry c.args.applied) (got c.args.dentries.now.items c.args.place d _ is c.index_mut.ensures.value)

-- whether it has versions left
left : (c : After-has_versions) → (d : Dentry) → slice_get c.args.dentries.now.items c.args.place ≡ Some d → c.has_versions.result ≡ has_versions (cut_dentry c.args.applied d)
left c d is =
    let same : c.index.result.now ≡ c.cut-dropped.new.self = search (rules, c.index.ensures) in
    c.has_versions.ensures ∙ ap has_versions (same ∙ made c d is)

pub returns-then-not-has_versions-clause-cut : goal.returns-then-not-has_versions-clause-cut
returns-then-not-has_versions-clause-cut c = λ d is.
    let here = (goal.at.returns-then-not-has_versions-clause-cut c).After-has_versions in
    let xs : List Dentry = c.args.dentries.now.items in
    let e : Dentry = cut_dentry c.args.applied d in
    let none : has_versions e ≡ false = sym (left here d is) ∙ search (rules, c.if-not-has_versions.true) in
    c.remove.ensures.items ∙ set_removed xs c.args.place c.cut-dropped.new.self
    ∙ ap (λ n. take c.args.place xs ++ drop n xs) (sym (add-one c.args.place))
    ∙ ap (λ b. take c.args.place xs ++ (cond b (e ∷ []) [] ++ drop (c.args.place + 1) xs)) (sym none)

pub returns-else-not-has_versions-clause-cut : goal.returns-else-not-has_versions-clause-cut
returns-else-not-has_versions-clause-cut c = λ d is.
    let here = (goal.at.returns-else-not-has_versions-clause-cut c).After-has_versions in
    let xs : List Dentry = c.args.dentries.now.items in
    let e : Dentry = cut_dentry c.args.applied d in
    let some : has_versions e ≡ true = sym (left here d is) ∙ search (rules, c.if-not-has_versions.false) in
    set_split xs c.args.place d c.cut-dropped.new.self is
    ∙ ap (λ n. take c.args.place xs ++ c.cut-dropped.new.self ∷ drop n xs) (sym (add-one c.args.place))
    ∙ ap (λ x. take c.args.place xs ++ x ∷ drop (c.args.place + 1) xs) (made here d is)
    ∙ ap (λ b. take c.args.place xs ++ (cond b (e ∷ []) [] ++ drop (c.args.place + 1) xs)) (sym some)

use Rattle.std.proofs.Common.{◌≡◌, true, false, sym, ◌∙◌, subst}
use Rattle.std.specs.List.{IsLastAndRest}
use Rattle.plain_tree.specs.Walk.{is_under}
use Rattle.plain_tree.specs.Request.{in_parent, moved_name}
use Rattle.rename_split.specs.Plans.{IsRefused, live}
use Rattle.rename_split.proofs.Ends.{passed, kind_is, moved_refused_first, moved_refused_then, moved_into, moved_found}
use Rattle.rename_split.proofs.Under.{under_law, directory_law}
use Rattle.rename_split.proofs.paths.move_target.Goals as goal

pub returns-in_err-dir-clause-refused : goal.returns-in_err-dir-clause-refused
returns-in_err-dir-clause-refused c =
    let parts : IsLastAndRest c.args.path.now c.in-Some.name.now c.in-Some.front.now = subst (λ p. IsLastAndRest p c.in-Some.name.now c.in-Some.front.now) c.names.ensures c.in-Some.ensures.cases in
    passed c.from_residual.result c.in_err-dir.field-0.0 (λ error. IsRefused error (in_parent (live c.args.tree.now) c.args.path.now (moved_name (live c.args.tree.now) c.args.ino))) c.from_residual.ensures.1
    (moved_refused_first c.args.path.now c.in-Some.front.now c.in-Some.name.now parts (live c.args.tree.now) c.in_err-dir.field-0.0 c.args.ino c.in_err-dir.ensures.refused)

pub returns-then-is_under-clause-refused : goal.returns-then-is_under-clause-refused
returns-then-is_under-clause-refused c =
    let parts : IsLastAndRest c.args.path.now c.in-Some.name.now c.in-Some.front.now = subst (λ p. IsLastAndRest p c.in-Some.name.now c.in-Some.front.now) c.names.ensures c.in-Some.ensures.cases in
    let kind = kind_is _ c.in_ok-dir.dir c.in_ok-dir.ensures.is_one in
    moved_into c.args.path.now c.in-Some.front.now c.in-Some.name.now parts (live c.args.tree.now) c.in_ok-dir.dir c.args.ino c.in_ok-dir.ensures.found kind
    (under_law (live c.args.tree.now) c.args.realms.now c.requires.family c.requires.stands c.requires.placed c.in-Some.front.now c.in_ok-dir.dir c.args.ino c.in_ok-dir.ensures.found kind ∙ sym c.if-is_under.ensures)

pub returns-in_err-free-clause-refused : goal.returns-in_err-free-clause-refused
returns-in_err-free-clause-refused c =
    let parts : IsLastAndRest c.args.path.now c.in-Some.name.now c.in-Some.front.now = subst (λ p. IsLastAndRest p c.in-Some.name.now c.in-Some.front.now) c.names.ensures c.in-Some.ensures.cases in
    let kind = kind_is _ c.in_ok-dir.dir c.in_ok-dir.ensures.is_one in
    passed c.from_residual-in_err-free.result c.in_err-free.field-0.0 (λ error. IsRefused error (in_parent (live c.args.tree.now) c.args.path.now (moved_name (live c.args.tree.now) c.args.ino))) c.from_residual-in_err-free.ensures.1
    (moved_refused_then c.args.path.now c.in-Some.front.now c.in-Some.name.now parts (live c.args.tree.now) c.in_err-free.field-0.0 c.in_ok-dir.dir c.args.ino c.in_ok-dir.ensures.found kind
    (under_law (live c.args.tree.now) c.args.realms.now c.requires.family c.requires.stands c.requires.placed c.in-Some.front.now c.in_ok-dir.dir c.args.ino c.in_ok-dir.ensures.found kind ∙ sym c.if-is_under.ensures)
    (c.in_err-free.ensures.refused c.args.ino))

pub returns-clause-found : goal.returns-clause-found
returns-clause-found c =
    let parts : IsLastAndRest c.args.path.now c.in-Some.name.now c.in-Some.front.now = subst (λ p. IsLastAndRest p c.in-Some.name.now c.in-Some.front.now) c.names.ensures c.in-Some.ensures.cases in
    let kind = kind_is _ c.in_ok-dir.dir c.in_ok-dir.ensures.is_one in
    moved_found c.args.path.now c.in-Some.front.now c.in-Some.name.now parts (live c.args.tree.now) c.in_ok-dir.dir c.args.ino c.in_ok-dir.ensures.found kind
    (under_law (live c.args.tree.now) c.args.realms.now c.requires.family c.requires.stands c.requires.placed c.in-Some.front.now c.in_ok-dir.dir c.args.ino c.in_ok-dir.ensures.found kind ∙ sym c.if-is_under.ensures)
    (c.in_ok-free.ensures.new c.args.ino)

pub returns-clause-inside : goal.returns-clause-inside
returns-clause-inside c =
    let kind = kind_is _ c.in_ok-dir.dir c.in_ok-dir.ensures.is_one in
    let both = directory_law (live c.args.tree.now) c.args.realms.now c.requires.family c.requires.stands c.requires.placed c.in-Some.front.now c.in_ok-dir.dir c.in_ok-dir.ensures.found kind in
    record { there = both.0; outside = both.1 }

use Rattle.std.proofs.Common.{subst}
use Rattle.std.specs.List.{IsLastAndRest}
use Rattle.snap_ids.specs.declared.id.Ino.{Ino}
use Rattle.plain_tree.specs.Request.{new_entry}
use Rattle.rename_split.specs.Plans.{IsRefused, live}
use Rattle.rename_split.proofs.Ends.{passed, kind_is, new_refused_first, new_refused_then, new_found}
use Rattle.rename_split.proofs.paths.link_target.Goals as goal

pub returns-in_err-dir-clause-refused : goal.returns-in_err-dir-clause-refused
returns-in_err-dir-clause-refused c =
    let parts : IsLastAndRest c.args.path.now c.in-Some.name.now c.in-Some.front.now = subst (λ p. IsLastAndRest p c.in-Some.name.now c.in-Some.front.now) c.names.ensures c.in-Some.ensures.cases in
    passed c.from_residual.result c.in_err-dir.field-0.0 (λ error. (ino : Ino) → IsRefused error (new_entry (live c.args.tree.now) ino c.args.path.now)) c.from_residual.ensures.1
    (λ ino. new_refused_first c.args.path.now c.in-Some.front.now c.in-Some.name.now parts (live c.args.tree.now) c.in_err-dir.field-0.0 ino c.in_err-dir.ensures.refused)

pub returns-in_err-free-clause-refused : goal.returns-in_err-free-clause-refused
returns-in_err-free-clause-refused c =
    let parts : IsLastAndRest c.args.path.now c.in-Some.name.now c.in-Some.front.now = subst (λ p. IsLastAndRest p c.in-Some.name.now c.in-Some.front.now) c.names.ensures c.in-Some.ensures.cases in
    passed c.from_residual-in_err-free.result c.in_err-free.field-0.0 (λ error. (ino : Ino) → IsRefused error (new_entry (live c.args.tree.now) ino c.args.path.now)) c.from_residual-in_err-free.ensures.1
    (λ ino. new_refused_then c.args.path.now c.in-Some.front.now c.in-Some.name.now parts (live c.args.tree.now) c.in_err-free.field-0.0 c.in_ok-dir.dir ino c.in_ok-dir.ensures.found (kind_is _ c.in_ok-dir.dir c.in_ok-dir.ensures.is_one) (c.in_err-free.ensures.refused ino))

pub returns-clause-found : goal.returns-clause-found
returns-clause-found c =
    let parts : IsLastAndRest c.args.path.now c.in-Some.name.now c.in-Some.front.now = subst (λ p. IsLastAndRest p c.in-Some.name.now c.in-Some.front.now) c.names.ensures c.in-Some.ensures.cases in
    λ ino. new_found c.args.path.now c.in-Some.front.now c.in-Some.name.now parts (live c.args.tree.now) c.in_ok-dir.dir ino c.in_ok-dir.ensures.found (kind_is _ c.in_ok-dir.dir c.in_ok-dir.ensures.is_one) (c.in_ok-free.ensures.new ino)

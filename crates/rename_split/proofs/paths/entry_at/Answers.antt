use Rattle.std.proofs.Common.{◌∙◌, ap, subst}
use Rattle.std.specs.List.{IsLastAndRest}
use Rattle.plain_tree.specs.State.{lookup}
use Rattle.plain_tree.specs.Request.{entry_at}
use Rattle.rename_split.specs.Plans.{IsRefused, live}
use Rattle.rename_split.proofs.Ends.{passed, name_is, entry_refused_first, entry_refused_then, entry_found}
use Rattle.rename_split.proofs.paths.entry_at.Goals as goal

pub returns-in_err-dir-clause-refused : goal.returns-in_err-dir-clause-refused
returns-in_err-dir-clause-refused c =
    let parts : IsLastAndRest c.args.path.now c.in-Some.name.now c.in-Some.front.now = subst (λ p. IsLastAndRest p c.in-Some.name.now c.in-Some.front.now) c.names.ensures c.in-Some.ensures.cases in
    passed c.from_residual.result c.in_err-dir.field-0.0 (λ error. IsRefused error (entry_at (live c.args.tree.now) c.args.path.now)) c.from_residual.ensures.1
    (entry_refused_first c.args.path.now c.in-Some.front.now c.in-Some.name.now parts (live c.args.tree.now) c.in_err-dir.field-0.0 c.in_err-dir.ensures.refused)

pub returns-in_err-ino-clause-refused : goal.returns-in_err-ino-clause-refused
returns-in_err-ino-clause-refused c =
    let parts : IsLastAndRest c.args.path.now c.in-Some.name.now c.in-Some.front.now = subst (λ p. IsLastAndRest p c.in-Some.name.now c.in-Some.front.now) c.names.ensures c.in-Some.ensures.cases in
    passed c.from_residual-in_err-ino.result c.in_err-ino.field-0.0 (λ error. IsRefused error (entry_at (live c.args.tree.now) c.args.path.now)) c.from_residual-in_err-ino.ensures.1
    (entry_refused_then c.args.path.now c.in-Some.front.now c.in-Some.name.now parts (live c.args.tree.now) c.in_err-ino.field-0.0 c.in_ok-dir.dir c.in_ok-dir.ensures.found c.in_err-ino.ensures.refused)

pub returns-clause-found : goal.returns-clause-found
returns-clause-found c =
    let parts : IsLastAndRest c.args.path.now c.in-Some.name.now c.in-Some.front.now = subst (λ p. IsLastAndRest p c.in-Some.name.now c.in-Some.front.now) c.names.ensures c.in-Some.ensures.cases in
    entry_found c.args.path.now c.in-Some.front.now c.in-Some.name.now parts (live c.args.tree.now) c.in_ok-dir.dir c.in_ok-ino.ino c.in_ok-dir.ensures.found c.in_ok-ino.ensures.found

pub returns-clause-named : goal.returns-clause-named
returns-clause-named c =
    let parts : IsLastAndRest c.args.path.now c.in-Some.name.now c.in-Some.front.now = subst (λ p. IsLastAndRest p c.in-Some.name.now c.in-Some.front.now) c.names.ensures c.in-Some.ensures.cases in
    ap (lookup (live c.args.tree.now).entries c.in_ok-dir.dir) (name_is c.args.path.now c.in-Some.front.now c.in-Some.name.now parts) ∙ c.in_ok-ino.ensures.named

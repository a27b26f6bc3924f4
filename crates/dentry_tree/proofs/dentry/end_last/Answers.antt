use Rattle.std.proofs.Common.{rules, ◌≡◌, ◌-◌, suc, List, length, ap, ◌∙◌, set, arith}
use Rattle.dentry_tree.specs.declared.version.Version.{Version}
use Rattle.dentry_tree.proofs.Cuts.{version_to, last_set}
use Rattle.dentry_tree.proofs.dentry.end_last.Goals as goal

pub returns-in-Some : goal.returns-in-Some
returns-in-Some c =
    let vs : List Version = c.args.versions.now.items in
    let i = c.args.versions.now.len - 1 in
    let long : length vs ≡ suc i = omega (arith, c.args.versions.now.ok, c.in-Some.ensures.variant.0 (search rules)) in
    ap (λ n. set vs i (version_to c.in-Some.version.now n)) (search (rules, c.min.ensures))
    ∙ last_set c.args.applied vs c.in-Some.version.now i long c.in-Some.ensures.value

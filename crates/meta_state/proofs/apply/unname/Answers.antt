use Rattle.std.proofs.Common.{subst, sym}
use Rattle.realm_story.specs.Family.{Family}
use Rattle.snap_realm.specs.Tree.{StandsFor as Tells}
use Rattle.meta_state.proofs.Looked.{dropped_found, named_found}
use Rattle.meta_state.proofs.apply.unname.Goals as goal

-- src/apply.rt
pub unreachable-requires : goal.unreachable-requires
unreachable-requires c =
    named_found c.args.id c.requires.family.snaps c.in_ok-dir.dir c.in_ok-dir.name (c.in_ok-dir.ensures c.requires.family c.requires.stands)
    (c.in-Err.ensures.no_snap.1 c.requires.family c.requires.stands)

pub returns : goal.returns
returns c family stands =
    subst (λ (f : Family). Tells c.drop_snap.new.self f) (sym (dropped_found c.args.id family c.in_ok-dir.dir c.in_ok-dir.name (c.in_ok-dir.ensures family stands)))
    (c.in-Ok.ensures.story family stands)

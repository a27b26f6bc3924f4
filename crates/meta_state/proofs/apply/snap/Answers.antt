use Rattle.std.proofs.Common.{ℕ, List, subst}
use Rattle.realm_story.specs.Family.{add_snap}
use Rattle.snap_realm.specs.Tree.{StandsFor as Tells}
use Rattle.meta_state.proofs.apply.snap.Goals as goal

-- src/apply.rt
pub returns : goal.returns
returns c family stands = subst (λ (n : List ℕ). Tells c.add_snap.new.self (add_snap c.args.dir c.args.id n family)) c.in_ok-name.ensures (c.in-Ok.ensures.story family stands)

use Rattle.std.proofs.Common.{Option, Some, false, refl, subst, sym, ◌∙◌}
use Rattle.snap_ids.specs.declared.id.SnapId.{SnapId}
use Rattle.step_table.specs.Background as background
use Rattle.mds_turns.specs.Turned.{Turned}
use Rattle.mds_turns.proofs.collect.turn_purge.Goals as goal

pub returns-in_ok-done-in-None-clause-acts : goal.returns-in_ok-done-in-None-clause-acts
returns-in_ok-done-in-None-clause-acts c = λ s stands.
    subst (λ (o : Option SnapId). Turned c.turn_dead.new.state s (background.turn_purge s o) c.in_ok-done-in-None.done) (sym (sym (c.least_purge.ensures s s.hand stands) ∙ c.in-None.is))
    (c.in_ok-done-in-None.ensures.acts s stands)

pub returns-in_ok-purge-in-Some-clause-acts : goal.returns-in_ok-purge-in-Some-clause-acts
returns-in_ok-purge-in-Some-clause-acts c = λ s stands.
    subst (λ (o : Option SnapId). Turned c.purge.new.state s (background.turn_purge s o) (Some false)) (sym (sym (c.least_purge.ensures s s.hand stands) ∙ c.in-Some.is))
    (c.in_ok-purge-in-Some.ensures.table s stands, refl)

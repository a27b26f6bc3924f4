use Rattle.std.proofs.Common.{Option, Some, false, subst, sym, ◌∙◌}
use Rattle.snap_ids.specs.declared.id.Ino.{Ino}
use Rattle.step_table.specs.Background as background
use Rattle.mds_turns.specs.Turned.{Turned}
use Rattle.mds_turns.proofs.Dead.{collecting_opens}
use Rattle.mds_turns.proofs.collect.turn_dead.Goals as goal

pub collect-requires-clause-state : goal.collect-requires-clause-state
collect-requires-clause-state c =
    let at = c.requires.state in
    record { state = at.state; stands = at.stands; first = sym (c.due_file.ensures at.state at.state.hand at.stands) ∙ c.in-Some.is }

pub returns-in_ok-done-in-None-clause-acts : goal.returns-in_ok-done-in-None-clause-acts
returns-in_ok-done-in-None-clause-acts c = λ s stands.
    subst (λ (o : Option Ino). Turned c.turn_barrier.new.state s (background.turn_dead s o) c.in_ok-done-in-None.done) (sym (sym (c.due_file.ensures s s.hand stands) ∙ c.in-None.is))
    (c.in_ok-done-in-None.ensures.acts s stands)

pub returns-in_ok-collect-in-Some-clause-acts : goal.returns-in_ok-collect-in-Some-clause-acts
returns-in_ok-collect-in-Some-clause-acts c = λ s stands.
    let first = sym (c.due_file.ensures s s.hand stands) ∙ c.in-Some.is in
    subst (λ (o : Option Ino). Turned c.collect.new.state s (background.turn_dead s o) (Some false)) (sym first)
    (c.in_ok-collect-in-Some.ensures.table s stands first, sym (collecting_opens s c.in-Some.ino))

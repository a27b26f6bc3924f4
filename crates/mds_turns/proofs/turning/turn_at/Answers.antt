use Rattle.std.proofs.Common.{ℕ, Option, subst, sym, ◌∙◌}
use Rattle.snap_ids.specs.declared.id.SnapId.{SnapId}
use Rattle.step_table.specs.Background as background
use Rattle.mds_turns.specs.Turned.{Turned}
use Rattle.mds_turns.proofs.turning.turn_at.Goals as goal

pub turn_outstanding-requires-clause-may : goal.turn_outstanding-requires-clause-may
turn_outstanding-requires-clause-may c =
    let may = c.requires.may in
    record {
      state = may.state;
      number = c.in-Some.operation.1;
      stands = may.stands;
      fit = may.fit;
      asks = may.asks;
      out = sym (c.outstanding.ensures may.state may.state.hand may.stands) ∙ c.in-Some.is;
    }

pub returns-in_ok-done-in-None-clause-acts : goal.returns-in_ok-done-in-None-clause-acts
returns-in_ok-done-in-None-clause-acts c = λ s stands fit asks past.
    subst (λ (o : Option (SnapId × ℕ)). Turned c.turn_deferred.new.state s (background.turn_at s o) c.in_ok-done-in-None.done) (sym (sym (c.outstanding.ensures s s.hand stands) ∙ c.in-None.is))
    (c.in_ok-done-in-None.ensures.acts s stands fit past)

pub returns-in_ok-done-in-Some-clause-acts : goal.returns-in_ok-done-in-Some-clause-acts
returns-in_ok-done-in-Some-clause-acts c = λ s stands fit asks past.
    let is = sym (c.outstanding.ensures s s.hand stands) ∙ c.in-Some.is in
    subst (λ (o : Option (SnapId × ℕ)). Turned c.turn_outstanding.new.state s (background.turn_at s o) c.in_ok-done-in-Some.done) (sym is)
    (c.in_ok-done-in-Some.ensures.acts s stands fit asks is)

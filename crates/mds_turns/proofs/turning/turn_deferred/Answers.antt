use Rattle.std.proofs.Common.{◌≡◌, List, true, false, None, Some, Option, subst, sym, ◌∙◌, rules}
use Rattle.step_table.specs.Acts.{act, TakeDeferred}
use Rattle.step_table.specs.Background as background
use Rattle.step_table.specs.ServerState.{Asked}
use Rattle.mds_state.specs.Stands.{StandsFor}
use Rattle.mds_turns.specs.Turned.{Turned}
use Rattle.mds_turns.proofs.Taken.{empty_of, fit_first, may_treat, not_empty, treated}
use Rattle.mds_turns.proofs.turning.turn_deferred.Goals as goal

pub returns-then-none_deferred-clause-acts : goal.returns-then-none_deferred-clause-acts
returns-then-none_deferred-clause-acts c = λ s stands fit past.
    let none = empty_of s.deferred (sym (c.none_deferred.ensures s s.hand stands) ∙ c.if-none_deferred.true) in
    subst (λ (list : List Asked). Turned c.turn_purge.new.state s (background.turn_deferred s list) c.in_ok-done.done) (sym none)
    (c.in_ok-done.ensures.acts s stands)

pub returns-in-None-clause-acts : goal.returns-in-None-clause-acts
returns-in-None-clause-acts c = λ s stands fit past.
    let taken = c.take_deferred.ensures.table s s.hand stands in
    absurd (not_empty s.deferred (sym (c.none_deferred.ensures s s.hand stands) ∙ c.if-none_deferred.false) (taken.hand ∙ c.in-None.is))

pub treat-requires : goal.treat-requires
treat-requires c =
    let may = c.requires.may in
    record { may = may_treat c.take_deferred.new.self may.state c.take_deferred.result c.in-Some.asked c.in-Some.is may.fit (c.take_deferred.ensures.table may.state may.state.hand may.stands) }

pub returns-in_ok-opened-in-Some-clause-acts : goal.returns-in_ok-opened-in-Some-clause-acts
returns-in_ok-opened-in-Some-clause-acts c = λ s stands fit past.
    let t = act s TakeDeferred in
    let taken = c.take_deferred.ensures.table s s.hand stands in
    treated c.take_deferred.new.self c.treat.new.state s c.take_deferred.result c.in-Some.asked c.in_ok-opened-in-Some.opened c.in-Some.is taken
    (c.in_ok-opened-in-Some.ensures.acts t (subst (λ (o : Option Asked). StandsFor c.take_deferred.new.self o t) c.in-Some.is taken)
    (fit_first c.take_deferred.new.self s c.take_deferred.result c.in-Some.asked c.in-Some.is fit taken) past)

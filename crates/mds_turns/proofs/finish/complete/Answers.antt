use Rattle.std.proofs.Common.{◌≡◌, List, true, false, None, ◌∙◌, sym, subst}
use Rattle.step_table.specs.Acts.{Act, acts}
use Rattle.mds_state.specs.Stands.{StandsFor}
use Rattle.mds_turns.specs.Finishing.{removes_another}
use Rattle.mds_turns.proofs.Finishes.{completes_follows, finish_made, finish_other, may_complete, own_one}
use Rattle.mds_turns.proofs.finish.complete.Goals as goal

pub make_effect-requires-clause-may : goal.make_effect-requires-clause-may
make_effect-requires-clause-may c = may_complete c.args.state.now c.args.asked c.args.id c.args.entry c.requires.may (sym c.removes_another.ensures ∙ c.if-removes_another.false)

pub returns-then-removes_another-clause-table : goal.returns-then-removes_another-clause-table
returns-then-removes_another-clause-table c = λ s made stands fit is.
    let other : removes_another c.args.entry.what c.args.id ≡ true = sym c.removes_another.ensures ∙ c.if-removes_another.true in
    subst (λ (list : List Act). StandsFor c.give_up.new.state None (acts s list)) (sym (finish_other c.args.id c.args.entry.what made is.written.says other))
    (c.in_ok-give_up.ensures.table s stands)

pub returns-clause-table : goal.returns-clause-table
returns-clause-table c = λ s made stands fit is.
    let same : removes_another c.args.entry.what c.args.id ≡ false = sym c.removes_another.ensures ∙ c.if-removes_another.false in
    subst (λ (list : List Act). StandsFor c.make_effect.new.state None (acts s list)) (sym (finish_made c.args.id c.args.entry.what made is.written.says same))
    (c.in_ok-make_effect.ensures.table s made stands (completes_follows c.args.state.now s c.args.asked c.args.id stands fit made c.args.entry is same) is.written.says
    (own_one c.args.state.now s c.args.asked c.args.id stands fit made c.args.entry is))

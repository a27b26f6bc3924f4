use Rattle.std.proofs.Common.{Bool, Option, None, Some, subst}
use Rattle.step_table.specs.Background.{turn}
use Rattle.mds_requests.proofs.Turned.{as_it_is}
use Rattle.mds_turns.specs.Turned.{Turned}
use Rattle.mds_rows.proofs.Turning.{may_turn, may_go_on, given, none_given, were}
use Rattle.mds_rows.proofs.tending.tend.Goals as goal

pub turn-requires : goal.turn-requires
turn-requires c = record { may = may_turn c.args.state.now c.requires.can; room = c.requires.room }

pub go_on-requires : goal.go_on-requires
go_on-requires c =
    let s = c.requires.can.state in
    let stands = c.requires.can.stands in
    let may = c.requires.can.may in
    let turned = subst (λ (o : Option Bool). Turned c.turn.new.state s (turn s) o) c.in-Some.is
    (c.in_ok-turned.ensures.acts s (as_it_is c.args.state.now None s stands) may.calm.fit may.asks (were s may)) in
    record {
      may = may_go_on c.args.state.now c.turn.new.state s c.many_held-many.result (c.many_held-many.ensures s None stands) stands may c.in-Some.opened turned;
    }

pub returns-in-None-clause-row : goal.returns-in-None-clause-row
returns-in-None-clause-row c = λ s stands may.
    none_given c.args.state.now c.turn.new.state s c.many_held-many.result (c.many_held-many.ensures s None stands) stands may
    (subst (λ (o : Option Bool). Turned c.turn.new.state s (turn s) o) c.in-None.is
    (c.in_ok-turned.ensures.acts s (as_it_is c.args.state.now None s stands) may.calm.fit may.asks (were s may)))

pub returns-in_ok-sent-in-Some-clause-row : goal.returns-in_ok-sent-in-Some-clause-row
returns-in_ok-sent-in-Some-clause-row c = λ s stands may.
    given c.args.state.now c.turn.new.state s c.many_held-many.result (c.many_held-many.ensures s None stands) stands may c.go_on.new.state c.in_ok-sent-in-Some.sent c.in-Some.opened
    (subst (λ (o : Option Bool). Turned c.turn.new.state s (turn s) o) c.in-Some.is
    (c.in_ok-turned.ensures.acts s (as_it_is c.args.state.now None s stands) may.calm.fit may.asks (were s may)))
    c.in_ok-sent-in-Some.ensures.row

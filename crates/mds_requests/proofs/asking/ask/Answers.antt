use Rattle.mds_requests.proofs.Taken.{may_take, may_go_on, went_on, past_before, then_list}
use Rattle.mds_requests.proofs.asking.ask.Goals as goal

pub take_in-requires : goal.take_in-requires
take_in-requires c = record { may = may_take c.args.state.now c.args.asked c.requires.may }

pub then_held-requires : goal.then_held-requires
then_held-requires c = record {
  may = may_go_on c.args.state.now c.take_in.new.state c.args.asked c.many_held-many.result c.in_ok-opened.opened c.requires.may (λ s stands. c.many_held-many.ensures s s.hand stands) c.in_ok-opened.ensures.acts;
}

pub returns-clause-table : goal.returns-clause-table
returns-clause-table c = λ s stands new ready.
    went_on c.take_in.new.state c.then_held.new.state c.args.asked c.many_held-many.result c.in_ok-opened.opened s new ready (c.many_held-many.ensures s s.hand stands)
    (c.in_ok-opened.ensures.acts s stands new.fit (past_before s c.args.asked (then_list s c.args.asked) ready.past)) c.in_ok-then_held.ensures.acts

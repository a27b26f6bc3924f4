use Rattle.mds_requests.proofs.Taken.{may_bring, may_decide_now, may_pass_now, passed_now}
use Rattle.mds_requests.proofs.asking.connect_with.Goals as goal

pub bring_in-requires : goal.bring_in-requires
bring_in-requires c = record { may = may_bring c.args.state.now c.args.asked c.requires.may }

pub decide_anew-requires : goal.decide_anew-requires
decide_anew-requires c = record { may = may_decide_now c.args.state.now c.bring_in.new.state c.args.asked c.requires.may c.in_ok-bring_in.ensures.table }

pub pass_more-requires : goal.pass_more-requires
pass_more-requires c = record {
  may = may_pass_now c.args.state.now c.bring_in.new.state c.decide_anew.new.state c.args.asked c.many_held-many.result c.in_ok-opened.opened c.requires.may c.in_ok-bring_in.ensures.table
      (λ s stands. c.many_held-many.ensures s s.hand stands) c.in_ok-opened.ensures.acts;
}

pub returns-clause-table : goal.returns-clause-table
returns-clause-table c = λ s stands new ready.
    passed_now c.args.state.now c.bring_in.new.state c.decide_anew.new.state c.pass_more.new.state c.args.asked c.many_held-many.result c.in_ok-opened.opened _ s stands new ready
    c.in_ok-bring_in.ensures.table (λ s stands. c.many_held-many.ensures s s.hand stands) c.in_ok-opened.ensures.acts c.in_ok-pass_more.ensures.acts

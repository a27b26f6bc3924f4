use Rattle.mds_requests.proofs.Taken.{bring_some, brought_some, brought_none}
use Rattle.mds_requests.proofs.asking.bring_in.Goals as goal

pub take_in-requires : goal.take_in-requires
take_in-requires c = record { may = bring_some c.args.state.now c.args.asked c.in-Some.asked c.in-Some.is c.requires.may }

pub returns-in_ok-take_in-in-Some-clause-table : goal.returns-in_ok-take_in-in-Some-clause-table
returns-in_ok-take_in-in-Some-clause-table c = λ s stands fit past.
    brought_some c.args.state.now c.take_in.new.state s c.args.asked c.in-Some.asked _ c.in-Some.is stands fit past c.in_ok-take_in-in-Some.ensures.acts

pub returns-in-None-clause-table : goal.returns-in-None-clause-table
returns-in-None-clause-table c = λ s stands fit past. brought_none c.args.state.now s c.args.asked c.in-None.is stands

use Rattle.mds_requests.proofs.Passing.{held_first, held_next, held_made}
use Rattle.mds_requests.proofs.rounds.then_held.Goals as goal

pub pass-requires : goal.pass-requires
pass-requires c = record { may = held_first c.args.state.now c.args.many c.args.opened c.requires.may }

pub pass_more-requires : goal.pass_more-requires
pass_more-requires c = record { may = held_next c.args.state.now c.pass.new.state c.args.many c.args.opened c.in_ok-again.again c.requires.may c.in_ok-again.ensures.acts }

pub returns-clause-acts : goal.returns-clause-acts
returns-clause-acts c = λ s done acted ready.
    held_made c.args.state.now c.pass.new.state c.pass_more.new.state c.args.many c.args.opened c.in_ok-again.again _ c.in_ok-again.ensures.acts c.in_ok-pass_more.ensures.acts s done acted ready

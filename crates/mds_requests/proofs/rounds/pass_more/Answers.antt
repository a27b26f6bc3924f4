use Rattle.std.proofs.lemmas.Result.{IfOk-weaker}
use Rattle.mds_requests.proofs.Passing.{more_first, more_next, more_made}
use Rattle.mds_requests.proofs.rounds.pass_more.Goals as goal

pub pass-requires : goal.pass-requires
pass-requires c = record { may = more_first c.args.many c.args.state.now c.args.opened c.requires.may }

pub pass_often-requires : goal.pass_often-requires
pass_often-requires c = record { may = more_next c.args.many c.args.state.now c.pass.new.state c.args.opened c.in_ok-again.again c.requires.may c.in_ok-again.ensures.acts }

pub returns-clause-acts : goal.returns-clause-acts
returns-clause-acts c = IfOk-weaker c.pass_often.result _ _ (λ last go.
    more_made c.args.many c.args.state.now c.pass.new.state c.pass_often.new.state c.args.opened c.in_ok-again.again last c.in_ok-again.ensures.acts go) c.pass_often.ensures.acts

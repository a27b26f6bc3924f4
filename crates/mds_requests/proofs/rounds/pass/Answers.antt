use Rattle.std.proofs.lemmas.Result.{IfOk-weaker}
use Rattle.mds_requests.proofs.Passing.{may_anew, pass_true, pass_false}
use Rattle.mds_requests.proofs.rounds.pass.Goals as goal

pub decide_anew-requires : goal.decide_anew-requires
decide_anew-requires c = record { may = may_anew c.args.state.now c.args.opened c.requires.may c.if-opened.true }

pub returns-then-opened-clause-acts : goal.returns-then-opened-clause-acts
returns-then-opened-clause-acts c = IfOk-weaker c.decide_anew.result _ _ (λ again go r at ready.
    pass_true c.decide_anew.new.state c.args.opened again r c.if-opened.true at.1 (λ now. go r.state at.0 now) ready) c.decide_anew.ensures.acts

pub returns-else-opened-clause-acts : goal.returns-else-opened-clause-acts
returns-else-opened-clause-acts c = λ r at ready. pass_false c.args.state.now c.args.opened r c.if-opened.false at

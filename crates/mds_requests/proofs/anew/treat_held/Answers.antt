use Rattle.std.proofs.lemmas.Result.{IfOk-weaker}
use Rattle.mds_requests.proofs.Turned.{may_treat, took, took_none}
use Rattle.mds_requests.proofs.anew.treat_held.Goals as goal

pub treat-requires : goal.treat-requires
treat-requires c =
    let sound = c.requires.sound in
    record { may = may_treat c.take_held.new.self c.args.client c.in-Some.asked sound.state sound.fit (c.in-Some.ensures.table sound.state sound.state.hand sound.stands) }

pub returns-in-Some-clause-acts : goal.returns-in-Some-clause-acts
returns-in-Some-clause-acts c = IfOk-weaker c.treat.result _ _ (λ opened go s a more stands fit past held is.
    took c.take_held.new.self c.treat.new.state c.args.client c.in-Some.asked opened s a more fit past held is (c.in-Some.ensures.table s s.hand stands) go) c.treat.ensures.acts

pub returns-in-None-clause-acts : goal.returns-in-None-clause-acts
returns-in-None-clause-acts c = λ s a more stands fit past held is.
    took_none c.take_held.new.self c.take_held.new.self c.args.client s a more _ held is (c.in-None.ensures.table s s.hand stands)

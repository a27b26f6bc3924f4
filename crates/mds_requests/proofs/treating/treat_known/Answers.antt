use Rattle.std.proofs.Common.{None, Some, sym, ◌∙◌}
use Rattle.std.proofs.lemmas.Result.{IfOk-weaker}
use Rattle.mds_requests.proofs.Treated.{known_so}
use Rattle.mds_requests.proofs.treating.treat_known.Goals as goal

pub returns-in-Some-clause-acts : goal.returns-in-Some-clause-acts
returns-in-Some-clause-acts c = IfOk-weaker c.answer_again.result _ _ (λ opened go s stands fit past.
    known_so c.answer_again.new.state s c.args.asked c.args.alone opened (Some c.in-Some.answer) (sym c.in-Some.is ∙ c.kept_answer.ensures s (Some c.args.asked) stands) (go s stands)) c.answer_again.ensures.acts

pub returns-in-None-clause-acts : goal.returns-in-None-clause-acts
returns-in-None-clause-acts c = IfOk-weaker c.treat_once.result _ _ (λ opened go s stands fit past.
    known_so c.treat_once.new.state s c.args.asked c.args.alone opened None (sym c.in-None.is ∙ c.kept_answer.ensures s (Some c.args.asked) stands) (go s stands fit past)) c.treat_once.ensures.acts

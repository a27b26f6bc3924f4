use Rattle.std.proofs.Common.{Some, false, refl, sym, ◌∙◌}
use Rattle.std.proofs.lemmas.Result.{IfOk-weaker}
use Rattle.mds_requests.proofs.Treated.{other_one, the_same}
use Rattle.mds_requests.proofs.treating.treat_once.Goals as goal

pub returns-then-is_operation-clause-acts : goal.returns-then-is_operation-clause-acts
returns-then-is_operation-clause-acts c = λ s stands fit past.
    the_same c.args.state.now s c.args.asked c.args.alone false (sym (c.is_operation.ensures s (Some c.args.asked) stands) ∙ c.if-is_operation.true) stands refl

pub returns-else-is_operation-clause-acts : goal.returns-else-is_operation-clause-acts
returns-else-is_operation-clause-acts c = IfOk-weaker c.treat_new.result _ _ (λ opened go s stands fit past.
    other_one c.treat_new.new.state s c.args.asked c.args.alone opened (sym (c.is_operation.ensures s (Some c.args.asked) stands) ∙ c.if-is_operation.false) (go s stands fit past)) c.treat_new.ensures.acts

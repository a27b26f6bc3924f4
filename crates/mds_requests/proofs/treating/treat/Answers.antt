use Rattle.std.proofs.Common.{Some, sym, ◌∙◌}
use Rattle.std.proofs.lemmas.Result.{IfOk-weaker}
use Rattle.mds_requests.proofs.Treated.{where_all, where_some_lack}
use Rattle.mds_requests.proofs.treating.treat.Goals as goal

pub returns-then-all_connected-clause-acts : goal.returns-then-all_connected-clause-acts
returns-then-all_connected-clause-acts c = IfOk-weaker c.treat_known.result _ _ (λ opened go s stands fit past.
    where_all c.treat_known.new.state s c.args.asked c.args.alone opened (sym (c.all_connected.ensures s (Some c.args.asked) stands) ∙ c.if-all_connected.true) (go s stands fit past)) c.treat_known.ensures.acts

pub returns-else-all_connected-clause-acts : goal.returns-else-all_connected-clause-acts
returns-else-all_connected-clause-acts c = IfOk-weaker c.hold.result _ _ (λ opened go s stands fit past.
    where_some_lack c.hold.new.state s c.args.asked c.args.alone opened (sym (c.all_connected.ensures s (Some c.args.asked) stands) ∙ c.if-all_connected.false) (go s stands)) c.hold.ensures.acts

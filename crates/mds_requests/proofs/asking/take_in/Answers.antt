use Rattle.std.proofs.Common.{sym, ◌∙◌}
use Rattle.std.proofs.lemmas.Result.{IfOk-weaker}
use Rattle.mds_requests.proofs.Taken.{may_treat_in, taken_operation, taken_other}
use Rattle.mds_requests.proofs.asking.take_in.Goals as goal

pub treat-requires : goal.treat-requires
treat-requires c = record { may = may_treat_in c.args.state.now c.args.asked c.requires.may }

pub returns-then-is_operation-clause-acts : goal.returns-then-is_operation-clause-acts
returns-then-is_operation-clause-acts c = λ s stands fit past.
    taken_operation c.args.state.now s c.args.asked (sym (c.is_operation.ensures s s.hand stands) ∙ c.if-is_operation.true) stands

pub returns-else-is_operation-clause-acts : goal.returns-else-is_operation-clause-acts
returns-else-is_operation-clause-acts c = IfOk-weaker c.treat.result _ _ (λ opened go s stands fit past.
    taken_other c.args.state.now c.treat.new.state s c.args.asked opened (sym (c.is_operation.ensures s s.hand stands) ∙ c.if-is_operation.false) stands fit past go) c.treat.ensures.acts

use Rattle.std.specs.Option.{option_to_list}
use Rattle.std.proofs.lemmas.Result.{IfOk-weaker}
use Rattle.store_node.proofs.Made.{of_server}
use Rattle.store_node.proofs.serve.serve.Goals as goal

pub returns-then-node-eq0 : goal.returns-then-node-eq0
returns-then-node-eq0 c = IfOk-weaker c.ordered.result _ _
    (λ sent h object log st. of_server log c.args.order c.args.node object (option_to_list sent) _ c.if-node-eq0.true (h object log st)) c.ordered.ensures

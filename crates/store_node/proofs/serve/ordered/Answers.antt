use Rattle.std.proofs.Common.{None, Some}
use Rattle.store_node.proofs.Made.{ordered_so}
use Rattle.store_node.proofs.serve.ordered.Goals as goal

pub returns-in-Some : goal.returns-in-Some
returns-in-Some c = λ object log st.
    ordered_so log c.args.order _ (Some c.in-Some.said) object _ c.requires c.in-Some.is (c.in_ok-said.ensures object log st)

pub returns-in-None : goal.returns-in-None
returns-in-None c = λ object log st. ordered_so log c.args.order _ None object _ c.requires c.in-None.is (c.in_ok-said.ensures object log st)

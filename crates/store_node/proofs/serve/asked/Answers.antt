use Rattle.std.proofs.Common.{None, Some}
use Rattle.store_node.proofs.Made.{asked_so}
use Rattle.store_node.proofs.serve.asked.Goals as goal

pub returns-in-Some : goal.returns-in-Some
returns-in-Some c = λ object log st.
    asked_so log c.args.order _ (Some c.in-Some.said) c.args.client object _ c.requires c.in-Some.is (c.in_ok-said.ensures object log st c.args.client)

pub returns-in-None : goal.returns-in-None
returns-in-None c = λ object log st.
    asked_so log c.args.order _ None c.args.client object _ c.requires c.in-None.is (c.in_ok-said.ensures object log st c.args.client)

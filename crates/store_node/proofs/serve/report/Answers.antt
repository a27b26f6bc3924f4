use Rattle.store_node.proofs.Made.{deleted, purged}
use Rattle.store_node.proofs.serve.report.Goals as goal

pub returns-in-Delete : goal.returns-in-Delete
returns-in-Delete c = λ object log st.
    deleted log c.args.order c.in-Delete.ino c.in-Delete.context object _ c.in-Delete.is (c.in_ok-delete-in-Delete.ensures.ok object log st)

pub returns-in-Purge : goal.returns-in-Purge
returns-in-Purge c = λ object log st. purged log c.args.order c.in-Purge.id object _ c.in-Purge.is (c.in_ok-purge-in-Purge.ensures.ok object log st)

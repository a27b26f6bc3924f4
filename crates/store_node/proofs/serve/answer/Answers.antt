use Rattle.store_node.proofs.Made.{written, cut, head_read, snap_read, clones_listed}
use Rattle.store_node.proofs.serve.answer.Goals as goal

pub returns-in-WriteAt : goal.returns-in-WriteAt
returns-in-WriteAt c = λ object log st node.
    written log c.args.order c.in-WriteAt.ino c.in-WriteAt.offset c.in-WriteAt.bytes c.in-WriteAt.context node object _ c.in-WriteAt.is
    (c.in_ok-write-in-WriteAt.ensures.ok object log st)

pub returns-in-Cut : goal.returns-in-Cut
returns-in-Cut c = λ object log st node.
    cut log c.args.order c.in-Cut.ino c.in-Cut.length c.in-Cut.context node object _ c.in-Cut.is (c.in_ok-truncate-in-Cut.ensures.ok object log st)

pub returns-in-ReadHead : goal.returns-in-ReadHead
returns-in-ReadHead c = λ object log st node.
    head_read log c.args.order c.in-ReadHead.key c.in-ReadHead.ino c.in-ReadHead.size _ node object _ c.in-ReadHead.is
    (c.in_ok-bytes-in-ReadHead.ensures object log st) st

pub returns-in-ReadSnap : goal.returns-in-ReadSnap
returns-in-ReadSnap c = λ object log st node.
    snap_read log c.args.order c.in-ReadSnap.key c.in-ReadSnap.ino c.in-ReadSnap.size c.in-ReadSnap.snap _ node object _ c.in-ReadSnap.is
    (c.in_ok-said-in-ReadSnap.ensures object log st) st

pub returns-in-ListClones : goal.returns-in-ListClones
returns-in-ListClones c = λ object log st node.
    clones_listed log c.args.order c.in-ListClones.key c.in-ListClones.ino c.in-ListClones.index _ node object _ c.in-ListClones.is
    (c.in_ok-list-in-ListClones.ensures object log st) st

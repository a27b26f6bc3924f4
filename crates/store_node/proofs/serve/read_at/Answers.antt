use Rattle.std.proofs.Common.{◌≡◌, true, Err, ap}
use Rattle.object_log.specs.Bytes.{was_purged}
use Rattle.object_log.specs.Serves.{bytes_served}
use Rattle.store_node.proofs.Made.{got, not_there}
use Rattle.store_node.proofs.serve.read_at.Goals as goal

pub returns-in-Ok : goal.returns-in-Ok
returns-in-Ok c = λ object log st.
    got (was_purged c.args.snap log) c.args.key c.in-Ok.bytes (bytes_served object log c.args.ino c.args.size c.args.snap)
    (λ h. let e = (c.in-Ok.ensures.gone object log st).1 h in cc) (c.in-Ok.ensures.served object log st)

pub returns-in-Err-Gone : goal.returns-in-Err-Gone
returns-in-Err-Gone c = λ object log st.
    let is = c.in-Err-Gone.field-0-is in
    let gone = (c.in-Err-Gone.ensures.gone object log st).0 in
    not_there (was_purged c.args.snap log) c.args.key (bytes_served object log c.args.ino c.args.size c.args.snap) (gone (ap Err is))

use Rattle.std.proofs.Common.{◌+◌, ◌-◌, arith}
use Rattle.object_log.proofs.Laid.{part_laid}
use Rattle.object_clones.proofs.extents.lay.Goals as goal

pub returns-then-offset-over : goal.returns-then-offset-over
returns-then-offset-over c = λ place h.
    part_laid c.args.over.now c.copy_from_slice.new.self c.args.bytes.now c.args.offset c.min-count.result (c.args.offset + c.min-count.result - c.args.offset) place
    c.copy_from_slice.ensures.after (omega arith) c.min-count.ensures c.if-offset-over.true h

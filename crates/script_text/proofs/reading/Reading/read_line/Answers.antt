use Rattle.script_text.proofs.Refusals.{numbered_fault}
use Rattle.script_text.proofs.reading.Reading.read_line.Goals as goal

pub returns-in-Err-clause-err : goal.returns-in-Err-clause-err
returns-in-Err-clause-err c = rw c.at.ensures (numbered_fault _ _ c.in-Err.fault c.in-Err.ensures.err)

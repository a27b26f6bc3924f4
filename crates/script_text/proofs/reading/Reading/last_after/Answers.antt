use Rattle.script_text.proofs.Readings.{last_after-is}
use Rattle.script_text.proofs.reading.Reading.last_after.Goals as goal

pub returns-in-Some : goal.returns-in-Some
returns-in-Some c = rw c.as_slice.ensures at (last_after-is c.as_slice.result.now c.in-Some.field-0.now c.in-Some.ensures.value)

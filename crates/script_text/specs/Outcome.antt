-- The exit status of each end of a run.
use Rattle.std.specs.Prelude.{ℕ}
use Rattle.script_text.specs.declared.outcome.End.{End}
use Rattle.script_text.specs.declared.outcome.End.TheVariants.{Done, Usage, ScriptRefused, ReadFault, WriteFault, DiskFault, NoMemory, ScheduleRefused, Unfinished}

-- the exit status of an end
abbrev pub status_of : End → ℕ
status_of Done = 0
status_of Usage = 2
status_of (ScriptRefused error) = 3
status_of ReadFault = 4
status_of WriteFault = 5
status_of DiskFault = 6
status_of NoMemory = 7
status_of (ScheduleRefused line) = 8
status_of (Unfinished lines) = 8

-- The code's link as contracts see it.
use Rattle.std.specs.Prelude.{Option, None, Some}
use Rattle.plain_types.specs.declared.answer.Answer.{Answer}
use Rattle.plain_types.specs.declared.answer.Answer.TheVariants as answer
use Rattle.session_link.specs.declared.session.Effective.{Effective}
use Rattle.session_link.specs.declared.session.Effective.TheVariants.{Done, Snap, Opened}
use Rattle.session_link.specs.declared.session.Kept.{Kept}
use Rattle.session_link.specs.Sessions.{Completed}

abbrev pub answer_of : Effective → Answer
answer_of Done = answer.Done
answer_of (Snap id) = answer.Snap id
answer_of (Opened ino) = answer.Opened ino

abbrev pub completed_of : Option Kept → Option Completed
completed_of None = None
completed_of (Some kept) = Some (record { tid = kept.tid; answer = answer_of kept.answer })

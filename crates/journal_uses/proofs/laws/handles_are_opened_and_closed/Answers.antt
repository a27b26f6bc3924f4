use Rattle.journal_uses.proofs.Moves.{open_more, close_more}
use Rattle.journal_uses.proofs.laws.handles_are_opened_and_closed.Goals as goal

pub returns-clause-opened : goal.returns-clause-opened
returns-clause-opened c entries e handle ino writable legal is = open_more entries e legal handle ino writable is

pub returns-clause-closed : goal.returns-clause-closed
returns-clause-closed c entries e handle legal is = close_more entries e legal handle is

use Rattle.std.proofs.Common.{Some, sym}
use Rattle.cap_state.proofs.Writers.{writer_alone}
use Rattle.cap_state.proofs.laws.a_writer_is_alone.Goals as goal

pub returns : goal.returns
returns c = λ ino held w table is. writer_alone ino held table (Some w) (sym is)

use Rattle.std.proofs.Common.{sym}
use Rattle.cap_state.proofs.Edits.{mode_here, mode_none}
use Rattle.cap_state.proofs.places.mode_of.Goals as goal

pub returns-in-Ok : goal.returns-in-Ok
returns-in-Ok c = sym (mode_here c.args.client c.args.ino c.args.held.now c.in-Ok.at c.in-Ok.ensures.found _)

pub returns-in-Err : goal.returns-in-Err
returns-in-Err c = sym (mode_none c.args.client c.args.ino c.args.held.now _ c.in-Err.ensures.absent)

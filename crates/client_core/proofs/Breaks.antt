-- A client whose next line is `break` may go on.
use Rattle.std.proofs.Common.{◌≡◌, true, not, ◌&&◌, List, [], ◌∷◌, Option, None, Some, is_some, refl}
use Rattle.plain_types.specs.declared.script.Line.{Line}
use Rattle.plain_types.specs.declared.script.Line.TheVariants as line
use Rattle.step_table.specs.ClientState.{Under, Idle, Open, AtStore, Client}
use Rattle.step_table.specs.ClientLines.{may_begin, on_op, op_of}
use Rattle.client_core.specs.Rows.{begins_with_break, breaks_next, has_row}

always : (under : Under) → may_begin under line.Break ≡ true
always Idle = refl
always (Open number tid text asked let_go) = refl
always (AtStore number entry ino head) = refl

by_lines : (c : Client) (lines : List Line) → begins_with_break lines && not c.frozen ≡ true → is_some (op_of c lines) ≡ true
by_lines c [] next = cc
by_lines c (line.Break ∷ rest) next = rw (next, always c.under) refl
by_lines c (line.Barrier ∷ rest) next = cc
by_lines c (line.Mkdir path ∷ rest) next = cc
by_lines c (line.Rmdir path ∷ rest) next = cc
by_lines c (line.Create path mode ∷ rest) next = cc
by_lines c (line.Unlink path ∷ rest) next = cc
by_lines c (line.Link path target ∷ rest) next = cc
by_lines c (line.Rename path target ∷ rest) next = cc
by_lines c (line.Chmod path mode ∷ rest) next = cc
by_lines c (line.Open handle path writable ∷ rest) next = cc
by_lines c (line.Close handle ∷ rest) next = cc
by_lines c (line.Write handle offset bytes ∷ rest) next = cc
by_lines c (line.Truncate handle length ∷ rest) next = cc
by_lines c (line.Read handle ∷ rest) next = cc
by_lines c (line.Cat path ∷ rest) next = cc
by_lines c (line.Stat path ∷ rest) next = cc
by_lines c (line.List path ∷ rest) next = cc
by_lines c (line.Realm path ∷ rest) next = cc
by_lines c (line.Clones path index ∷ rest) next = cc

pub may_break : (o : Option Client) → breaks_next o ≡ true → has_row on_op o ≡ true
may_break None next = refl
may_break (Some c) next = by_lines c c.lines next

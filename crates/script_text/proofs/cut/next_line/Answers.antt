use Rattle.std.proofs.Common.{sym}
use Rattle.std.proofs.lemmas.List.{take_rest}
use Rattle.script_text.proofs.Cuts.{lines_of-cut, lines_of-last}
use Rattle.script_text.proofs.cut.next_line.Goals as goal

pub returns-in-None-clause-cut : goal.returns-in-None-clause-cut
returns-in-None-clause-cut c = lines_of-last c.args.bytes.now (sym c.if-is_empty.ensures) (sym c.in-None.ensures.found)

pub returns-in-Some-clause-cut : goal.returns-in-Some-clause-cut
returns-in-Some-clause-cut c =
    rw take_rest (lines_of-cut c.args.bytes.now c.in-Some.i (sym c.in-Some.ensures.found))

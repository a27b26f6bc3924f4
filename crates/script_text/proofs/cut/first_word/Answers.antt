use Rattle.std.proofs.Common.{sym}
use Rattle.std.proofs.lemmas.List.{take_rest}
use Rattle.script_text.proofs.Cuts.{words_of-cut, words_of-last}
use Rattle.script_text.proofs.cut.first_word.Goals as goal

pub returns-in-None : goal.returns-in-None
returns-in-None c = words_of-last c.args.text.now (sym c.in-None.ensures.found)

pub returns-in-Some : goal.returns-in-Some
returns-in-Some c = rw take_rest (words_of-cut c.args.text.now c.in-Some.i (sym c.in-Some.ensures.found))

use Rattle.direct_journal.proofs.Told.{tree_told, tree_then, tree_more}
use Rattle.direct_journal.proofs.laws.entries_tell_the_trees.Goals as goal

pub returns : goal.returns
returns c = record {
  of_all = λ lines history of_one legal s. tree_told history lines of_one legal s;
  of_the_first = λ lines history of_one legal n s made. tree_then history lines of_one legal n s made;
  of_more = λ lines history of_one legal s later made. tree_more history lines of_one legal s later made;
}

use Rattle.journal_uses.proofs.Moves.{link_more}
use Rattle.journal_uses.proofs.laws.a_link_is_a_name_more.Goals as goal

pub returns : goal.returns
returns c entries e ino dir name legal is = link_more entries e legal ino dir name is

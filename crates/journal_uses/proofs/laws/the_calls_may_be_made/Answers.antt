use Rattle.journal_uses.proofs.Found.{create_may, link_may, unlink_may, open_may, drop_may}
use Rattle.journal_uses.proofs.laws.the_calls_may_be_made.Goals as goal

pub returns-clause-made : goal.returns-clause-made
returns-clause-made c entries e dir ino name mode legal is = create_may entries e legal dir ino name mode is

pub returns-clause-linked : goal.returns-clause-linked
returns-clause-linked c entries e ino dir name legal is = link_may entries e legal ino dir name is

pub returns-clause-unlinked : goal.returns-clause-unlinked
returns-clause-unlinked c entries e dir ino name legal is found = unlink_may entries e legal dir ino name is found

pub returns-clause-opened : goal.returns-clause-opened
returns-clause-opened c entries e handle ino writable legal is = open_may entries e legal handle ino writable is

pub returns-clause-dropped : goal.returns-clause-dropped
returns-clause-dropped c entries e ino legal is = drop_may entries e legal ino is

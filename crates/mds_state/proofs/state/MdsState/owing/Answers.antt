use Rattle.std.proofs.Common.{sym, ◌∙◌}
use Rattle.plain_journal.specs.Entries.{state_after}
use Rattle.plain_journal.specs.Legal.{is_made_file}
use Rattle.mds_state.proofs.Owed.{owes_covered, owes_uncovered}
use Rattle.mds_state.proofs.state.MdsState.owing.Goals as goal

pub returns-then-branch : goal.returns-then-branch
returns-then-branch c = λ s taken stands fresh.
    sym c.in-Some.is ∙ c.owed_by.ensures
    ∙ owes_covered s c.args.ino c.args.id c.writer.result (c.writer.ensures s taken c.args.id stands) c.in_ok-covers-in-Some.field-0 (is_made_file (state_after s.entries) c.args.ino)
    (c.in_ok-covers-in-Some.ensures s taken stands fresh) c.if-branch.true

pub returns-else-branch : goal.returns-else-branch
returns-else-branch c = λ s taken stands fresh.
    owes_uncovered s c.args.ino c.args.id c.writer.result (c.writer.ensures s taken c.args.id stands) c.in_ok-covers-in-Some.field-0 stands.tenures.made
    (c.in_ok-covers-in-Some.ensures s taken stands fresh) c.if-branch.false

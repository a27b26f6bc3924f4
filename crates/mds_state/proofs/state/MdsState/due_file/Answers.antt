use Rattle.std.proofs.Common.{◌≡◌, find, subst, sym, ◌∙◌}
use Rattle.plain_journal.specs.Table.{dead}
use Rattle.step_table.specs.Background as background
use Rattle.mds_state.specs.Due.{is_due}
use Rattle.mds_state.specs.Parts.{Parts}
use Rattle.mds_state.specs.Stands.{StandsFor}
use Rattle.mds_state.proofs.Dues.{due_is, first_is}
use Rattle.mds_state.proofs.state.MdsState.due_file.Goals as goal

pub returns : goal.returns
returns c = λ s taken stands.
    let now = subst (λ (p : Parts). StandsFor p taken s) (sym c.self.view_is) stands in
    let files : c.dead_files-dead.result.now ≡ dead s.entries = c.dead_files-dead.ensures s.clients s.entries s.durable now.written in
    let deleting : c.as_slice.result.now ≡ s.deleting = c.as_slice.ensures ∙ now.deleting in
    c.first_due.ensures
    ∙ (λ i. find (is_due c.self.inside.tenures (deleting i)) (files i))
    ∙ first_is (is_due c.self.inside.tenures s.deleting) (background.is_due s) (dead s.entries)
    (λ ino. due_is c.self.inside.tenures s ino (c.holders_are_the_tables.ensures _ _ s ino now.tenures.table now.tenures.theirs now.tenures.stands)
    (λ client. c.modes_are_the_tables.ensures.recalled _ _ s client ino now.tenures.stands))

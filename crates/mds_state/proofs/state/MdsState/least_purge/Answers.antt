use Rattle.std.proofs.Common.{◌≡◌, List, drop, find, ap, subst, sym, ◌∙◌}
use Rattle.plain_types.specs.declared.entry.Entry.{Entry}
use Rattle.snap_table.specs.Table.{Table}
use Rattle.step_table.specs.Background.{removed}
use Rattle.mds_state.specs.Due.{is_unsent}
use Rattle.mds_state.specs.Parts.{Parts}
use Rattle.mds_state.specs.Stands.{StandsFor}
use Rattle.mds_state.proofs.Purges.{purge_is}
use Rattle.mds_state.proofs.state.MdsState.least_purge.Goals as goal

pub returns : goal.returns
returns c = λ s taken stands.
    let now = subst (λ (p : Parts). StandsFor p taken s) (sym c.self.view_is) stands in
    let removing : c.removing.result.now ≡ removed (drop s.durable s.entries) = c.removing.ensures ∙ now.written.removing ∙ ap (λ (es : List Entry). removed es) now.written.buffered in
    let purging : c.deref.result.now ≡ s.purging = c.deref.ensures.value ∙ now.purging in
    let ids : c.unpurged-unpurged.result.now ≡ c.self.inside.written.table.unpurged = c.unpurged-unpurged.ensures.ids ∙ ap (λ (t : Table). t.unpurged) c.table.ensures in
    c.first_unsent.ensures
    ∙ (λ i. find (is_unsent (removing i) (purging i)) (ids i))
    ∙ purge_is s now.written.tree.journal c.self.inside.written.table.unpurged (c.the_least_that_passes_is_the_first.ensures c.self.inside.written.table s.entries (is_unsent (removed (drop s.durable s.entries)) s.purging) now.written.table)

use Rattle.std.proofs.Common.{List, ap, subst, sym, ◌∙◌}
use Rattle.snap_ids.specs.declared.id.SnapId.{SnapId}
use Rattle.plain_journal.specs.Table.{to_purge}
use Rattle.held_files.specs.Files.{is_empty}
use Rattle.snap_table.specs.Table.{Table}
use Rattle.mds_state.specs.Parts.{Parts}
use Rattle.mds_state.specs.Stands.{StandsFor}
use Rattle.mds_state.proofs.Dues.{no_length}
use Rattle.mds_state.proofs.Purges.{empty_alike}
use Rattle.mds_state.proofs.state.MdsState.none_to_purge.Goals as goal

pub returns : goal.returns
returns c = λ s taken stands.
    let now = subst (λ (p : Parts). StandsFor p taken s) (sym c.self.view_is) stands in
    c.is_empty.ensures
    ∙ no_length c.unpurged.result.now
    ∙ ap (λ (ids : List SnapId). is_empty ids) (c.unpurged.ensures.ids ∙ ap (λ (t : Table). t.unpurged) c.table.ensures)
    ∙ empty_alike c.self.inside.written.table.unpurged (to_purge s.entries) now.written.table.unpurged

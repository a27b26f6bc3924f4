use Rattle.std.proofs.Common.{ap, subst, sym, ◌∙◌}
use Rattle.snap_ids.specs.Context.{is_listed}
use Rattle.plain_journal.specs.Coverage.{covering}
use Rattle.server_holders.specs.Answers.{owing_by}
use Rattle.mds_state.specs.Parts.{Parts}
use Rattle.mds_state.specs.Stands.{StandsFor}
use Rattle.mds_state.proofs.state.MdsState.writer.Goals as goal

pub returns : goal.returns
returns c = λ s taken id stands.
    let now = subst (λ (p : Parts). StandsFor p taken s) (sym c.self.view_is) stands in
    ap (owing_by (is_listed id (covering s.entries c.args.ino)) id) c.writer.ensures
    ∙ c.owed_flushes_are_the_tables.ensures.owing _ _ s c.args.ino id now.tenures.table now.tenures.alone now.tenures.stands

use Rattle.std.proofs.Common.{None, sym, ◌∙◌}
use Rattle.std.proofs.lemmas.Result.{IfOk-weaker}
use Rattle.step_table.specs.Flushes.{on_drop}
use Rattle.step_table.specs.ServerRows.{row_of}
use Rattle.step_table.specs.ServerState.{is_current}
use Rattle.mds_rows.proofs.Rules.{dropped}
use Rattle.mds_rows.proofs.taking.take_drop.Goals as goal

pub drop_now-requires : goal.drop_now-requires
drop_now-requires c = record {
  can = c.requires.can;
  well = λ s stands. sym (c.is_current.ensures s None stands) ∙ c.if-is_current.true;
}

pub returns-else-is_current-clause-row : goal.returns-else-is_current-clause-row
returns-else-is_current-clause-row c = IfOk-weaker c.send.result _ _ (λ sent gives s stands may.
    dropped c.send.new.state sent s (is_current s c.args.client c.args.conn) (row_of s (on_drop c.args.client s c.args.ino))
    (sym (c.is_current.ensures s None stands) ∙ c.if-is_current.false) (gives s None stands)) c.send.ensures.row

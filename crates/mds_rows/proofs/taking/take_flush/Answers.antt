use Rattle.std.proofs.Common.{None, sym, ◌∙◌}
use Rattle.std.proofs.lemmas.Result.{IfOk-weaker}
use Rattle.std.specs.Prelude.{◌&&◌}
use Rattle.step_table.specs.Flushes.{knows_file, on_flush}
use Rattle.step_table.specs.ServerRows.{row_of}
use Rattle.step_table.specs.ServerState.{is_current}
use Rattle.mds_rows.proofs.Rules.{dropped}
use Rattle.mds_rows.proofs.taking.take_flush.Goals as goal

pub flush_now-requires : goal.flush_now-requires
flush_now-requires c = record {
  from_one = c.requires.from_one;
  upto = c.requires.upto;
  can = c.requires.can;
  fits = c.requires.fits;
  well = λ s stands. sym (c.flushes_well.ensures s None stands) ∙ c.if-flushes_well.true;
}

pub returns-else-flushes_well-clause-row : goal.returns-else-flushes_well-clause-row
returns-else-flushes_well-clause-row c = IfOk-weaker c.send.result _ _ (λ sent gives s stands may.
    dropped c.send.new.state sent s (is_current s c.args.client c.args.conn && knows_file s c.args.flush.now.ino) (row_of s (on_flush c.args.client s c.args.flush.now))
    (sym (c.flushes_well.ensures s None stands) ∙ c.if-flushes_well.false) (gives s None stands)) c.send.ensures.row

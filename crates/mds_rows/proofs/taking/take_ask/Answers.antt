use Rattle.std.proofs.Common.{None, sym, ◌∙◌}
use Rattle.std.proofs.lemmas.Result.{IfOk-weaker}
use Rattle.std.specs.Prelude.{◌&&◌}
use Rattle.step_table.specs.Flushes.{asked_by, knows_asked}
use Rattle.step_table.specs.ServerRows.{ask}
use Rattle.step_table.specs.ServerState.{is_current}
use Rattle.mds_rows.proofs.Rules.{dropped}
use Rattle.mds_rows.proofs.taking.take_ask.Goals as goal

pub ask_now-requires : goal.ask_now-requires
ask_now-requires c = record {
  from_one = c.requires.from_one;
  upto = c.requires.upto;
  can = c.requires.can;
  well = λ s stands. sym (c.asks_well.ensures s None stands) ∙ c.if-asks_well.true;
}

pub returns-else-asks_well-clause-row : goal.returns-else-asks_well-clause-row
returns-else-asks_well-clause-row c = IfOk-weaker c.send.result _ _ (λ sent gives s stands may.
    dropped c.send.new.state sent s (is_current s c.args.client c.args.conn && knows_asked s c.args.request) (ask s (asked_by c.args.client c.args.tid c.args.request))
    (sym (c.asks_well.ensures s None stands) ∙ c.if-asks_well.false) (gives s None stands)) c.send.ensures.row

use Rattle.std.proofs.Common.{None, sym, ◌∙◌}
use Rattle.std.proofs.lemmas.Result.{IfOk-weaker}
use Rattle.step_table.specs.Flushes.{brought, may_connect}
use Rattle.step_table.specs.ServerRows.{back, connect_with}
use Rattle.mds_rows.proofs.Rules.{dropped}
use Rattle.mds_rows.proofs.taking.take_connect.Goals as goal

pub connect_now-requires : goal.connect_now-requires
connect_now-requires c = record {
  from_one = c.requires.from_one;
  upto = c.requires.upto;
  can = c.requires.can;
  fit = c.requires.fit;
  well = λ s stands. sym (c.may_connect.ensures.table s None stands) ∙ c.if-may_connect.true;
}

pub returns-else-may_connect-clause-row : goal.returns-else-may_connect-clause-row
returns-else-may_connect-clause-row c = IfOk-weaker c.send.result _ _ (λ sent gives s stands may.
    let again = brought c.args.client c.args.asked in
    dropped c.send.new.state sent s (may_connect s c.args.client c.args.conn c.args.claims.now c.args.flushes.now again)
    (connect_with (back s c.args.client c.args.conn c.args.claims.now c.args.flushes.now again) again)
    (sym (c.may_connect.ensures.table s None stands) ∙ c.if-may_connect.false) (gives s None stands)) c.send.ensures.row

use Rattle.std.proofs.Common.{None}
use Rattle.step_table.specs.Flushes.{brought}
use Rattle.mds_rows.proofs.Back.{can_connect, connected_given}
use Rattle.mds_rows.proofs.taking.connect_now.Goals as goal

pub come_back-requires : goal.come_back-requires
come_back-requires c =
    let s = c.requires.can.state in
    let stands = c.requires.can.stands in
    record {
      from_one = c.requires.from_one;
      upto = c.requires.upto;
      may = record { taken = None; state = s; asked = brought c.args.client c.args.asked; stands = stands; may = c.requires.well s stands };
      fit = c.requires.fit;
    }

pub connect_with-requires : goal.connect_with-requires
connect_with-requires c = record {
  may = can_connect c.args.state.now c.come_back.new.state c.args.client c.args.conn c.args.claims.now c.args.flushes.now c.args.asked c.requires.from_one c.requires.upto c.requires.well
      c.in_ok-come_back.ensures.table c.brought-again.result c.brought-again.ensures c.requires.can;
}

pub returns-clause-row : goal.returns-clause-row
returns-clause-row c = λ s stands may.
    connected_given c.args.state.now c.come_back.new.state c.args.client c.args.conn c.args.claims.now c.args.flushes.now c.args.asked c.requires.from_one c.requires.upto c.requires.well
    c.in_ok-come_back.ensures.table c.connect_with.new.state c.send.new.state c.in_ok-sent.sent c.brought-again.result c.brought-again.ensures c.in_ok-connect_with.ensures.table c.in_ok-sent.ensures.row
    s stands may

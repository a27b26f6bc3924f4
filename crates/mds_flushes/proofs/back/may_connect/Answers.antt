use Rattle.std.proofs.Common.{sym, ◌∙◌}
use Rattle.step_table.specs.Flushes.{brought}
use Rattle.mds_flushes.proofs.back.may_connect.Goals as goal

pub returns-clause-may : goal.returns-clause-may
returns-clause-may c = λ is so. record {
  taken = is.taken;
  state = is.state;
  asked = brought c.args.client c.args.asked.now;
  stands = is.stands;
  may = sym (c.is_taken.ensures is.state is.taken is.stands) ∙ so;
}

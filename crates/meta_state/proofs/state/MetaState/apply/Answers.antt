use Rattle.std.proofs.Common.{arith, subst, sym, ap}
use Rattle.meta_state.specs.contracts.state.MetaState.{the_view}
use Rattle.meta_state.specs.Applied.{Called}
use Rattle.meta_state.specs.Stands.{Tables}
use Rattle.meta_state.proofs.May.{may_follow}
use Rattle.meta_state.proofs.Carried.{applied_stands}
use Rattle.meta_state.proofs.state.MetaState.apply.Goals as goal

-- src/apply.rt
pub carry_out-requires : goal.carry_out-requires
carry_out-requires c = may_follow c.args.self.now c.args.entry.now c.requires.legal

pub returns : goal.returns
returns c = record {
  applied =
      applied_stands c.args.self.now (the_view c.self-2.inside) c.args.entry.now c.in_ok-entries.entries
      (subst (λ (t : Tables). Called c.args.entry.now.client c.args.entry.now.what c.args.self.now t) (sym c.self-2.view_is) c.in_ok-carry_out.ensures)
      (omega (arith, ap (λ (t : Tables). t.entries) c.self.view_is, c.in_ok-entries.ensures.more)) c.in_ok-entries.ensures.few;
}

use Rattle.std.proofs.Common.{◌++◌, ◌∷◌, [], ap, sym, ◌∙◌}
use Rattle.std.specs.List.{list_all}
use Rattle.mds_state.specs.Changed.{is_made_kept, kept_in}
use Rattle.mds_state.specs.Parts.{TenureParts}
use Rattle.mds_state.specs.Stands.{entered}
use Rattle.mds_state.proofs.Changed.{kept_made}
use Rattle.mds_state.proofs.Writers.{held_made}
use Rattle.mds_state.proofs.state.MdsState.enter_telling.Goals as goal

pub writers-requires : goal.writers-requires
writers-requires c = let is = c.requires in record { taken = is.taken; state = is.state; stands = is.stands }

pub tell_all-requires : goal.tell_all-requires
tell_all-requires c =
    let is = c.requires in
    record {
      taken = is.taken;
      state = entered is.state c.args.entry;
      stands = c.in_ok-enter.ensures.table is.state is.taken is.stands is.may;
      made =
          ap (list_all (is_made_kept (is.state.entries ++ c.args.entry ∷ []))) (c.deref.ensures.value ∙ c.in_ok-kept.ensures is.state is.taken is.stands)
          ∙ kept_made is.state.entries c.args.entry c.args.self.now.tenures.holdings (held_made _ is.state.clients is.state.entries is.state.holders is.stands.tenures);
    }

pub returns-clause-table : goal.returns-clause-table
returns-clause-table c = λ s taken stands may.
    c.in_ok-tell_all.ensures.table (entered s c.args.entry) taken s.entries (c.in_ok-enter.ensures.table s taken stands may)
    (ap (list_all (is_made_kept (s.entries ++ c.args.entry ∷ []))) (c.deref.ensures.value ∙ c.in_ok-kept.ensures s taken stands)
    ∙ kept_made s.entries c.args.entry c.args.self.now.tenures.holdings (held_made _ s.clients s.entries s.holders stands.tenures))
    (c.deref.ensures.value ∙ c.in_ok-kept.ensures s taken stands ∙ ap (λ (t : TenureParts). kept_in s.entries t.holdings) (sym c.in_ok-enter.ensures.tenures))

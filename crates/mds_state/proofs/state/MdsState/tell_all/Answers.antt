use Rattle.std.proofs.Common.{◌≡◌, ◌+◌, ℕ, List, true, refl, ap, subst, sym, ◌∙◌, arith}
use Rattle.std.specs.List.{list_all}
use Rattle.plain_types.specs.declared.entry.Entry.{Entry}
use Rattle.step_table.specs.Acts.{notices}
use Rattle.step_table.specs.ServerState.{Server, up_to}
use Rattle.mds_state.specs.Changed.{is_made_kept}
use Rattle.mds_state.specs.Parts.{Parts}
use Rattle.mds_state.specs.Stands.{StandsFor}
use Rattle.mds_state.proofs.Changed.{may_next, noticed_entries, notices_next, up_more}
use Rattle.mds_state.proofs.state.MdsState.tell_all.Goals as goal

pub loop-told-init : goal.loop-told-init
loop-told-init c = record {
  upto = omega arith;
  same = ap (λ (p : Parts). p.clients) c.self.view_is;
  clients = refl;
  may = c.requires;
  table = λ s taken before stands made same. stands;
}

pub tell_changed-requires : goal.tell_changed-requires
tell_changed-requires c =
    let same = c.loop-told.invariant.same in
    let clients = c.loop-told.invariant.clients in
    record { from_one = omega arith; upto = omega (arith, same, clients); may = c.loop-told.invariant.may }

pub loop-told-preserved : goal.loop-told-preserved
loop-told-preserved c =
    let is = c.loop-told.invariant in
    record {
      upto = omega arith;
      same = is.same;
      clients = c.in_ok-tell_changed.ensures.clients ∙ is.clients;
      may = may_next c.loop-told.self c.tell_changed.new.self c.args.kept.now (c.loop-told.told + 1) is.may c.in_ok-tell_changed.ensures.table;
      table = λ s taken before stands made same.
          let told = up_to c.loop-told.told in
          subst (λ (t : Server). StandsFor c.tell_changed.new.self taken t)
          (notices_next _ s before c.args.kept.now told (c.loop-told.told + 1) stands.written.tree.journal stands.tenures same
          ∙ ap (notices before s) (sym (up_more c.loop-told.told)))
          (c.in_ok-tell_changed.ensures.table (notices before s told) taken (is.table s taken before stands made same)
          (subst (λ (entries : List Entry). list_all (is_made_kept entries) c.args.kept.now ≡ true) (sym (noticed_entries before s told)) made));
    }

pub returns-clause-table : goal.returns-clause-table
returns-clause-table c = λ s taken before stands made same.
    let is = c.loop-told.invariant in
    let all : c.loop-told.told ≡ s.clients = omega (arith, is.upto, is.same, stands.clients) in
    subst (λ (n : ℕ). StandsFor c.loop-told.self taken (notices before s (up_to n))) all (is.table s taken before stands made same)

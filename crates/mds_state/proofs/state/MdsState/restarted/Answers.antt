use Rattle.std.proofs.Common.{◌≡◌, ◌++◌, ◌∷◌, [], List, None, ap, subst, sym, ◌∙◌, append_assoc}
use Rattle.std.proofs.lemmas.List.{append-nil, nil_from_length}
use Rattle.plain_types.specs.declared.entry.Entry.{Entry}
use Rattle.step_table.specs.ServerState.{Server}
use Rattle.mds_state.specs.Stands.{AllFollow, StandsFor, bare}
use Rattle.mds_state.proofs.Handed.{left_is}
use Rattle.mds_state.proofs.state.MdsState.restarted.Goals as goal

pub loop-entry-init : goal.loop-entry-init
loop-entry-init c =
    let rest = c.into_iter-entry-iterator.ensures.into_iter_gives.0 ∙ c.into_vec-entry-items.ensures in
    record {
      stands = c.in_ok-state.ensures.table;
      follow = subst (AllFollow c.args.clients []) (sym rest) c.requires;
      whole = rest;
      clients = c.in_ok-state.ensures.parts;
    }

pub enter-requires : goal.enter-requires
enter-requires c =
    let follow = subst (AllFollow c.args.clients c.loop-entry.yielded) c.in-Some.ensures.steps.0 c.loop-entry.invariant.follow in
    record { taken = None; state = bare c.args.clients c.loop-entry.yielded []; stands = c.loop-entry.invariant.stands; may = follow.0 }

pub loop-entry-preserved : goal.loop-entry-preserved
loop-entry-preserved c =
    let follow = subst (AllFollow c.args.clients c.loop-entry.yielded) c.in-Some.ensures.steps.0 c.loop-entry.invariant.follow in
    record {
      stands = c.in_ok-enter.ensures.table (bare c.args.clients c.loop-entry.yielded []) None c.loop-entry.invariant.stands follow.0;
      follow = follow.1;
      whole =
          append_assoc c.loop-entry.yielded (c.in-Some.entry ∷ []) c.next.new.self.rest.items
          ∙ ap (λ (items : List Entry). c.loop-entry.yielded ++ items) (sym c.in-Some.ensures.steps.0)
          ∙ c.loop-entry.invariant.whole;
      clients = c.in_ok-enter.ensures.clients ∙ c.loop-entry.invariant.clients;
    }

pub returns-clause-table : goal.returns-clause-table
returns-clause-table c = λ s same front.
    let none : c.loop-entry.entry-iterator.rest.items ≡ [] = nil_from_length _ (sym c.loop-entry.entry-iterator.rest.ok.0 ∙ c.in-None.ensures.steps.0) in
    let whole = sym (append-nil c.loop-entry.yielded) ∙ ap (λ (items : List Entry). c.loop-entry.yielded ++ items) (sym none) ∙ c.loop-entry.invariant.whole in
    subst (λ (t : Server). StandsFor c.commit.new.self None t) (left_is s c.args.clients c.loop-entry.yielded c.args.entries same whole front)
    (c.in_ok-commit.ensures.table (bare c.args.clients c.loop-entry.yielded []) None c.loop-entry.invariant.stands)

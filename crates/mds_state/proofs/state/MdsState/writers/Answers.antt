use Rattle.std.proofs.Common.{◌≡◌, [], ◌∷◌, ◌++◌, List, ap, subst, sym, ◌∙◌, append_assoc}
use Rattle.std.specs.List.{list_all}
use Rattle.std.proofs.lemmas.List.{append-nil, nil_from_length}
use Rattle.cap_state.specs.Table.{Holding}
use Rattle.server_holders.proofs.Any.{both_true}
use Rattle.mds_state.specs.Changed.{Kept, kept_in}
use Rattle.mds_state.specs.Parts.{Parts}
use Rattle.mds_state.specs.Stands.{StandsFor}
use Rattle.mds_state.specs.Writers.{is_made_held}
use Rattle.mds_state.proofs.Changed.{kept_more}
use Rattle.mds_state.proofs.Writers.{held_made}
use Rattle.mds_state.proofs.state.MdsState.writers.Goals as goal

pub loop-held-init : goal.loop-held-init
loop-held-init c = record {
  made = λ s taken stands.
      let now = subst (λ (p : Parts). StandsFor p taken s) (sym c.self.view_is) stands in
      ap (list_all (is_made_held s.entries)) c.held-left.ensures.all ∙ held_made _ s.clients s.entries s.holders now.tenures;
  same = λ s taken stands.
      (λ i. c.new-kept.ensures.items i ++ kept_in s.entries (c.held-left.ensures.all i))
      ∙ ap (λ (p : Parts). kept_in s.entries p.tenures.holdings) c.self.view_is;
}

pub keep-requires : goal.keep-requires
keep-requires c =
    let is = c.requires in
    let made = sym (ap (list_all (is_made_held is.state.entries)) c.in-Some.ensures.cases.0) ∙ c.loop-held.invariant.made is.state is.taken is.stands in
    record {
      clients = is.state.clients;
      entries = is.state.entries;
      done = is.state.durable;
      stands = is.stands.written;
      made = (both_true (is_made_held is.state.entries c.in-Some.held.now) (list_all (is_made_held is.state.entries) c.in-Some.rest.now) made).0;
    }

pub loop-held-preserved : goal.loop-held-preserved
loop-held-preserved c = record {
  made = λ s taken stands.
      let made = sym (ap (list_all (is_made_held s.entries)) c.in-Some.ensures.cases.0) ∙ c.loop-held.invariant.made s taken stands in
      (both_true (is_made_held s.entries c.in-Some.held.now) (list_all (is_made_held s.entries) c.in-Some.rest.now) made).1;
  same = λ s taken stands.
      let made = sym (ap (list_all (is_made_held s.entries)) c.in-Some.ensures.cases.0) ∙ c.loop-held.invariant.made s taken stands in
      let first = (both_true (is_made_held s.entries c.in-Some.held.now) (list_all (is_made_held s.entries) c.in-Some.rest.now) made).0 in
      let behind = kept_in s.entries c.in-Some.rest.now in
      ap (λ (l : List Kept). l ++ behind) (c.in_ok-keep.ensures s taken stands first)
      ∙ append_assoc c.loop-held.kept.items (kept_in s.entries (c.in-Some.held.now ∷ [])) behind
      ∙ ap (λ (l : List Kept). c.loop-held.kept.items ++ l) (kept_more s.entries c.in-Some.held.now c.in-Some.rest.now)
      ∙ ap (λ (held : List Holding). c.loop-held.kept.items ++ kept_in s.entries held) (sym c.in-Some.ensures.cases.0)
      ∙ c.loop-held.invariant.same s taken stands;
}

pub returns : goal.returns
returns c = λ s taken stands.
    let none : c.loop-held.left.now ≡ [] = nil_from_length _ c.in_default.ensures.cases in
    sym (append-nil c.loop-held.kept.items)
    ∙ ap (λ (held : List Holding). c.loop-held.kept.items ++ kept_in s.entries held) (sym none)
    ∙ c.loop-held.invariant.same s taken stands

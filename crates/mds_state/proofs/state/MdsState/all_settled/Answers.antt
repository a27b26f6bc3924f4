use Rattle.std.proofs.Common.{◌≡◌, [], true, false, rules, ap, subst, sym, ◌∙◌}
use Rattle.std.specs.Prelude.{Bool, ◌&&◌}
use Rattle.std.specs.List.{list_all}
use Rattle.std.proofs.lemmas.List.{nil_from_length}
use Rattle.snap_ids.specs.declared.id.Ino.{Ino}
use Rattle.plain_journal.specs.Coverage.{context}
use Rattle.server_holders.specs.Answers.{is_settled_at}
use Rattle.server_holders.proofs.Any.{both_true}
use Rattle.mds_state.specs.Parts.{Parts}
use Rattle.mds_state.specs.Stands.{StandsFor}
use Rattle.mds_state.specs.Writers.{is_made_held}
use Rattle.mds_state.proofs.Writers.{held_made}
use Rattle.mds_state.proofs.state.MdsState.all_settled.Goals as goal

pub loop-held-init : goal.loop-held-init
loop-held-init c = record {
  made = λ s taken stands.
      let now = subst (λ (p : Parts). StandsFor p taken s) (sym c.self.view_is) stands in
      ap (list_all (is_made_held s.entries)) c.held-left.ensures.all ∙ held_made _ s.clients s.entries s.holders now.tenures;
  same = λ s taken stands.
      let now = subst (λ (p : Parts). StandsFor p taken s) (sym c.self.view_is) stands in
      ap (list_all (is_settled_at (λ (ino : Ino). (context s.entries ino).seq))) c.held-left.ensures.all
      ∙ c.owed_flushes_are_the_tables.ensures.settled _ _ s now.tenures.stands;
}

pub is_settled-requires : goal.is_settled-requires
is_settled-requires c =
    let is = c.requires in
    let made = sym (ap (list_all (is_made_held is.state.entries)) c.in-Some.ensures.cases.0) ∙ c.loop-held.invariant.made is.state is.taken is.stands in
    record {
      clients = is.state.clients;
      entries = is.state.entries;
      done = is.state.durable;
      stands = is.stands.written;
      made = (both_true (is_made_held is.state.entries c.in-Some.held.now) (list_all (is_made_held is.state.entries) c.in-Some.rest.now) made).0;
    }

pub returns-then-not-is_settled : goal.returns-then-not-is_settled
returns-then-not-is_settled c = λ s taken stands.
    let settled = is_settled_at (λ (ino : Ino). (context s.entries ino).seq) in
    let failed : c.is_settled.result ≡ false = search rules in
    let made = sym (ap (list_all (is_made_held s.entries)) c.in-Some.ensures.cases.0) ∙ c.loop-held.invariant.made s taken stands in
    let first = (both_true (is_made_held s.entries c.in-Some.held.now) (list_all (is_made_held s.entries) c.in-Some.rest.now) made).0 in
    ap (λ (b : Bool). b && list_all settled c.in-Some.rest.now) (sym failed ∙ c.is_settled.ensures s taken stands first)
    ∙ sym (ap (list_all settled) c.in-Some.ensures.cases.0)
    ∙ c.loop-held.invariant.same s taken stands

pub loop-held-preserved : goal.loop-held-preserved
loop-held-preserved c = record {
  made = λ s taken stands.
      let made = sym (ap (list_all (is_made_held s.entries)) c.in-Some.ensures.cases.0) ∙ c.loop-held.invariant.made s taken stands in
      (both_true (is_made_held s.entries c.in-Some.held.now) (list_all (is_made_held s.entries) c.in-Some.rest.now) made).1;
  same = λ s taken stands.
      let settled = is_settled_at (λ (ino : Ino). (context s.entries ino).seq) in
      let passed : c.is_settled.result ≡ true = search rules in
      let made = sym (ap (list_all (is_made_held s.entries)) c.in-Some.ensures.cases.0) ∙ c.loop-held.invariant.made s taken stands in
      let first = (both_true (is_made_held s.entries c.in-Some.held.now) (list_all (is_made_held s.entries) c.in-Some.rest.now) made).0 in
      ap (λ (b : Bool). b && list_all settled c.in-Some.rest.now) (sym passed ∙ c.is_settled.ensures s taken stands first)
      ∙ sym (ap (list_all settled) c.in-Some.ensures.cases.0)
      ∙ c.loop-held.invariant.same s taken stands;
}

pub returns : goal.returns
returns c = λ s taken stands.
    let settled = is_settled_at (λ (ino : Ino). (context s.entries ino).seq) in
    let none : c.loop-held.left.now ≡ [] = nil_from_length _ c.in_default.ensures.cases in
    ap (list_all settled) (sym none) ∙ c.loop-held.invariant.same s taken stands

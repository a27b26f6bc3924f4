use Rattle.std.proofs.Common.{◌≡◌, [], ◌∷◌, ◌++◌, List, map, ap, subst, sym, ◌∙◌, append_assoc}
use Rattle.std.specs.List.{list_all}
use Rattle.std.proofs.lemmas.List.{append-nil, nil_from_length}
use Rattle.plain_types.specs.declared.message.FileTrace.{FileTrace}
use Rattle.cap_state.specs.Table.{Holding}
use Rattle.server_holders.proofs.Any.{both_true}
use Rattle.step_table.specs.Messages.{plain_trace, trace_fits}
use Rattle.step_table.specs.ServerState.{trace_of}
use Rattle.mds_state.specs.Parts.{Parts}
use Rattle.mds_state.specs.Stands.{StandsFor}
use Rattle.mds_state.specs.Writers.{is_made_held, written_in}
use Rattle.mds_state.proofs.Writers.{held_made, told_more, written_is}
use Rattle.mds_state.proofs.state.MdsState.written_files.Goals as goal

pub loop-held-init : goal.loop-held-init
loop-held-init c = record {
  fits = ap (list_all trace_fits) c.new-files.ensures.items;
  made = λ s taken stands.
      let now = subst (λ (p : Parts). StandsFor p taken s) (sym c.self.view_is) stands in
      ap (list_all (is_made_held s.entries)) c.held-left.ensures.all ∙ held_made _ s.clients s.entries s.holders now.tenures;
  same = λ s taken stands.
      let now = subst (λ (p : Parts). StandsFor p taken s) (sym c.self.view_is) stands in
      (λ i. map plain_trace (c.new-files.ensures.items i) ++ map (trace_of s) (written_in c.args.client (c.held-left.ensures.all i)))
      ∙ ap (map (trace_of s)) (sym (written_is _ s c.args.client now.written.tree.journal now.tenures));
}

pub add_written-requires : goal.add_written-requires
add_written-requires c =
    let is = c.requires in
    let made = sym (ap (list_all (is_made_held is.state.entries)) c.in-Some.ensures.cases.0) ∙ c.loop-held.invariant.made is.state is.taken is.stands in
    record {
      clients = is.state.clients;
      entries = is.state.entries;
      done = is.state.durable;
      stands = is.stands.written;
      made = (both_true (is_made_held is.state.entries c.in-Some.held.now) (list_all (is_made_held is.state.entries) c.in-Some.rest.now) made).0;
    }

pub loop-held-preserved : goal.loop-held-preserved
loop-held-preserved c = record {
  fits = c.in_ok-add_written.ensures.fits c.loop-held.invariant.fits;
  made = λ s taken stands.
      let made = sym (ap (list_all (is_made_held s.entries)) c.in-Some.ensures.cases.0) ∙ c.loop-held.invariant.made s taken stands in
      (both_true (is_made_held s.entries c.in-Some.held.now) (list_all (is_made_held s.entries) c.in-Some.rest.now) made).1;
  same = λ s taken stands.
      let made = sym (ap (list_all (is_made_held s.entries)) c.in-Some.ensures.cases.0) ∙ c.loop-held.invariant.made s taken stands in
      let first = (both_true (is_made_held s.entries c.in-Some.held.now) (list_all (is_made_held s.entries) c.in-Some.rest.now) made).0 in
      let behind = map (trace_of s) (written_in c.args.client c.in-Some.rest.now) in
      let before = map plain_trace c.loop-held.files.items in
      ap (λ (l : List FileTrace). l ++ behind) (c.in_ok-add_written.ensures.told s taken stands first)
      ∙ append_assoc before (map (trace_of s) (written_in c.args.client (c.in-Some.held.now ∷ []))) behind
      ∙ ap (λ (l : List FileTrace). before ++ l) (told_more s c.args.client c.in-Some.held.now c.in-Some.rest.now)
      ∙ ap (λ (held : List Holding). before ++ map (trace_of s) (written_in c.args.client held)) (sym c.in-Some.ensures.cases.0)
      ∙ c.loop-held.invariant.same s taken stands;
}

pub returns-clause-fits : goal.returns-clause-fits
returns-clause-fits c = c.loop-held.invariant.fits

pub returns-clause-told : goal.returns-clause-told
returns-clause-told c = λ s taken stands.
    let none : c.loop-held.left.now ≡ [] = nil_from_length _ c.in_default.ensures.cases in
    sym (append-nil (map plain_trace c.loop-held.files.items))
    ∙ ap (λ (held : List Holding). map plain_trace c.loop-held.files.items ++ map (trace_of s) (written_in c.args.client held)) (sym none)
    ∙ c.loop-held.invariant.same s taken stands

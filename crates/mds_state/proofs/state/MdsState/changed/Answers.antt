use Rattle.std.proofs.Common.{◌≡◌, [], ◌∷◌, ◌++◌, List, map, ap, sym, ◌∙◌, append_assoc}
use Rattle.std.specs.List.{list_all}
use Rattle.std.proofs.lemmas.List.{append-nil, nil_from_length}
use Rattle.plain_types.specs.declared.message.FileTrace.{FileTrace}
use Rattle.server_holders.proofs.Any.{both_true}
use Rattle.step_table.specs.Messages.{plain_trace, trace_fits}
use Rattle.step_table.specs.ServerState.{trace_of}
use Rattle.mds_state.specs.Changed.{Kept, changed_in, is_made_kept}
use Rattle.mds_state.proofs.Changed.{traces_more}
use Rattle.mds_state.proofs.state.MdsState.changed.Goals as goal

pub loop-first-init : goal.loop-first-init
loop-first-init c = record {
  fits = ap (list_all trace_fits) c.new-files.ensures.items;
  made = λ s taken stands made. made;
  same = λ s taken stands made. ap (λ (files : List FileTrace). map plain_trace files ++ map (trace_of s) (changed_in s.entries c.args.client c.args.kept.now)) c.new-files.ensures.items;
}

pub add_changed-requires : goal.add_changed-requires
add_changed-requires c =
    let is = c.requires in
    let made = sym (ap (list_all (is_made_kept is.state.entries)) c.in-Some.ensures.cases.0) ∙ c.loop-first.invariant.made is.state is.taken is.stands is.made in
    record {
      clients = is.state.clients;
      entries = is.state.entries;
      done = is.state.durable;
      stands = is.stands.written;
      made = (both_true (is_made_kept is.state.entries c.in-Some.first.now) (list_all (is_made_kept is.state.entries) c.in-Some.rest.now) made).0;
    }

pub loop-first-preserved : goal.loop-first-preserved
loop-first-preserved c = record {
  fits = c.in_ok-add_changed.ensures.fits c.loop-first.invariant.fits;
  made = λ s taken stands all.
      let made = sym (ap (list_all (is_made_kept s.entries)) c.in-Some.ensures.cases.0) ∙ c.loop-first.invariant.made s taken stands all in
      (both_true (is_made_kept s.entries c.in-Some.first.now) (list_all (is_made_kept s.entries) c.in-Some.rest.now) made).1;
  same = λ s taken stands all.
      let made = sym (ap (list_all (is_made_kept s.entries)) c.in-Some.ensures.cases.0) ∙ c.loop-first.invariant.made s taken stands all in
      let first = (both_true (is_made_kept s.entries c.in-Some.first.now) (list_all (is_made_kept s.entries) c.in-Some.rest.now) made).0 in
      let behind = map (trace_of s) (changed_in s.entries c.args.client c.in-Some.rest.now) in
      let before = map plain_trace c.loop-first.files.items in
      ap (λ (l : List FileTrace). l ++ behind) (c.in_ok-add_changed.ensures.told s taken stands first)
      ∙ append_assoc before (map (trace_of s) (changed_in s.entries c.args.client (c.in-Some.first.now ∷ []))) behind
      ∙ ap (λ (l : List FileTrace). before ++ l) (traces_more s c.args.client c.in-Some.first.now c.in-Some.rest.now)
      ∙ ap (λ (kept : List Kept). before ++ map (trace_of s) (changed_in s.entries c.args.client kept)) (sym c.in-Some.ensures.cases.0)
      ∙ c.loop-first.invariant.same s taken stands all;
}

pub returns-clause-fits : goal.returns-clause-fits
returns-clause-fits c = c.loop-first.invariant.fits

pub returns-clause-told : goal.returns-clause-told
returns-clause-told c = λ s taken stands all.
    let none : c.loop-first.left.now ≡ [] = nil_from_length _ c.in_default.ensures.cases in
    sym (append-nil (map plain_trace c.loop-first.files.items))
    ∙ ap (λ (kept : List Kept). map plain_trace c.loop-first.files.items ++ map (trace_of s) (changed_in s.entries c.args.client kept)) (sym none)
    ∙ c.loop-first.invariant.same s taken stands all

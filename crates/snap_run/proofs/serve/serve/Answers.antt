use Rattle.std.proofs.Common.{◌≡◌, ℕ, List, [], ◌∷◌, ◌++◌, true, refl, sym, ap, ◌∙◌, subst}
use Rattle.std.proofs.lemmas.List.{append-nil}
use Rattle.snap_ids.specs.declared.id.SnapId.{SnapId}
use Rattle.plain_types.specs.declared.entry.Entry.{Entry as Written}
use Rattle.plain_journal.specs.Legal.{is_given}
use Rattle.direct_journal.specs.Journal.{next_snap, entries_in}
use Rattle.meta_state.specs.declared.decide.Decision.{Decision}
use Rattle.meta_state.specs.declared.decide.Decision.TheVariants.{Put, Say}
use Rattle.meta_state.specs.Stands.{Tables, StandsFor}
use Rattle.snap_run.proofs.Served.{IsDecided, served_by, entry_is, no_entry, legal_is, map_ok}
use Rattle.snap_run.proofs.serve.serve.Goals.{in-Put+in_ok-apply, in_default-decision}
use Rattle.snap_run.proofs.serve.serve.Goals as goal

-- what is decided is decided by the entries
decided : (c : goal.Joined-request-3) (entries : List Written) → StandsFor c.args.meta.now entries → IsDecided entries c.args.client c.args.number (next_snap entries) c.in-Some.request c.in_ok-decision.decision
decided c entries stands =
    let e = c.in_ok-decision.ensures in
    subst (λ (n : ℕ). IsDecided entries c.args.client n (next_snap entries) c.in-Some.request c.in_ok-decision.decision) c.from.ensures
    (subst (λ (s : SnapId). IsDecided entries c.args.client c.from.result s c.in-Some.request c.in_ok-decision.decision) (c.in_ok-id.ensures.next entries stands) (record {
      written = λ made is. e.written entries made stands is;
      refused = λ refusal is. e.refused entries refusal stands is;
      answered = λ is. e.answered entries stands is;
      legal = e.legal entries stands;
    }))

-- src/serve.rt:244:1
pub returns-clause-served : goal.returns-clause-served
returns-clause-served c = map_ok c.event_for.result _ _ (λ event same entries stands.
    served_by entries c.args.client c.args.number c.in_ok-decision.decision c.args.line.now c.in-Some.request event c.entries-entries.result (sym c.in_ok-request.ensures ∙ c.in-Some.is) c.requires.taken (decided c entries stands) (c.entries-entries.ensures entries stands) same) c.event_for.ensures

-- src/serve.rt:244:1
pub returns-clause-stands : goal.returns-clause-stands
returns-clause-stands c = elim c.match-decision.branch [
  | in-Put+in_ok-apply w ↦ map_ok c.event_for.result _ _ (λ event same entries stands.
      let done = decided c entries stands in
      let decision = c.in_ok-decision.decision in
      let given : is_given (next_snap entries) ≡ true = subst (λ (s : SnapId). is_given s ≡ true) (c.in_ok-id.ensures.next entries stands) c.in_ok-id.ensures.given in
      let legal = legal_is entries c.args.client c.args.number decision c.in-Some.request w.in-Put.entry given done w.in-Put.is in
      let after = w.in_ok-apply.ensures.applied entries stands legal in
      let wrote = entry_is entries c.args.client c.args.number decision c.in-Some.request w.in-Put.entry c.entries-entries.result event done w.in-Put.is same in
      subst (λ (t : Tables). StandsFor t (entries ++ entries_in event)) (sym w.meta-is)
      (subst (λ (l : List Written). StandsFor w.apply.new.self (entries ++ l)) (sym wrote) after)) c.event_for.ensures
  | in_default-decision w ↦ map_ok c.event_for.result _ _ (λ event same entries stands.
      let decision = c.in_ok-decision.decision in
      let by_decision : (d : Decision) → decision ≡ d → entries_in event ≡ [] = λ d is. elim d as (λ x. decision ≡ x → entries_in event ≡ []) [
        | Put entry ↦ λ put. let no = w.in_default-decision.not-Put in cc
        | Say answer ↦ λ say. no_entry entries c.args.client c.args.number decision answer c.entries-entries.result event say same
      ] is in
      subst (λ (t : Tables). StandsFor t (entries ++ entries_in event)) (sym w.meta-is)
      (subst (λ (l : List Written). StandsFor c.args.meta.now l) (sym (ap (λ (l : List Written). entries ++ l) (by_decision decision refl) ∙ append-nil entries)) stands)) c.event_for.ensures
]

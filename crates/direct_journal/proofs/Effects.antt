-- The effects and replies of events that each serve one line of client 1.
use Rattle.std.proofs.Common.{◌≡◌, ℕ, zero, suc, ◌+◌, List, [], ◌∷◌, length, take, Bool, true, false, cond, Option, None, Some, ◌⊎◌, inl, inr, refl, sym, ap, ◌∙◌, add-one, length-append}
use Rattle.std.specs.Prelude.{is_some, count_by, ◌==◌, ◌&&◌}
use Rattle.std.proofs.lemmas.List.Sums.{sum_by-append}
use Rattle.snap_ids.specs.declared.id.SnapId.{SnapId}
use Rattle.plain_types.specs.declared.answer.Answer.{Answer}
use Rattle.plain_types.specs.declared.change.Change.{Change}
use Rattle.plain_types.specs.declared.change.Effect.{Effect}
use Rattle.plain_types.specs.declared.history.Event.{Event}
use Rattle.plain_types.specs.declared.history.Replied.{Replied}
use Rattle.plain_tree.specs.History.{effects, replies, before_snap}
use Rattle.direct_journal.specs.Cut.{is_making, mark}
use Rattle.direct_journal.specs.Legal.{Asked, IsEventOf, effects_of}

-- the reply tells client 1 of a change
abbrev pub tells : Replied → Bool
tells reply = reply.client == 1 && reply.changed

-- an event has at most one effect, of client 1, and tells of as many changes
pub record IsSingle (event : Event) : Type 0 where
  pub effects : (event.effects ≡ []) ⊎ ((effect : Effect) × (effect.client ≡ 1) × (event.effects ≡ effect ∷ []))
  pub told : count_by tells event.replies ≡ length event.effects

abbrev pub AllSingle : List Event → Type 0
AllSingle [] = Unit {0}
AllSingle (event ∷ events) = IsSingle event × AllSingle events

-- each effect is of client 1
abbrev pub AllOfOne : List Effect → Type 0
AllOfOne [] = Unit {0}
AllOfOne (effect ∷ effects) = (effect.client ≡ 1) × AllOfOne effects

single_from : (event : Event) (entries number : ℕ) (answer : Answer) (o : Option Change) → event.effects ≡ effects_of 1 entries o → event.replies ≡ record { client = 1; line = number; changed = is_some o; entry = entries; answer = answer } ∷ [] → IsSingle event
single_from event entries number answer None e r = record { effects = inl e; told = rw (r, e) refl }
single_from event entries number answer (Some change) e r = record { effects = inr (_, refl, e); told = rw (r, e) refl }

-- the event of a line of client 1
pub single_from_event : (asked : Asked) (entries : ℕ) (made : Option Change) (answer : Answer) (event : Event) → asked.client ≡ 1 → IsEventOf asked entries made answer event → IsSingle event
single_from_event asked entries made answer event of_one is =
    let effects : event.effects ≡ effects_of 1 entries made = rw of_one at is.effects in
    single_from event entries asked.number answer made effects (rw of_one at is.replies)

-- the client is told of as many changes as took effect
pub told_is : (history : List Event) (i : ℕ) → AllSingle history → count_by tells (replies (take i history)) ≡ length (effects (take i history))
told_is [] zero all = refl
told_is [] (suc i) all = refl
told_is (event ∷ history) zero all = refl
told_is (event ∷ history) (suc i) all =
    sum_by-append (λ reply. cond (tells reply) 1 0) event.replies (replies (take i history))
    ∙ (λ j. all.0.told j + told_is history i all.1 j)
    ∙ sym (length-append event.effects (effects (take i history)))

marked : (event : Event) (history : List Event) (s : SnapId) (effect : Effect) → event.effects ≡ effect ∷ [] → effects (take (mark history s) history) ≡ before_snap s (effects history) → (b : Bool) → is_making s effect ≡ b → effects (take (mark (event ∷ history) s) (event ∷ history)) ≡ before_snap s (effects (event ∷ history))
marked event history s effect e before true is = rw (e, is) refl
marked event history s effect e before false is = rw (e, is, add-one) (ap (λ (l : List Effect). effect ∷ l) before)

-- the effects up to the event that makes a snapshot
pub effects-take_mark : (history : List Event) (s : SnapId) → AllSingle history → effects (take (mark history s) history) ≡ before_snap s (effects history)
effects-take_mark [] s all = refl
effects-take_mark (event ∷ history) s all = elim all.0.effects [
  | inl e ↦ rw (e, add-one) (effects-take_mark history s all.1)
  | inr x ↦ marked event history s x.0 x.2 (effects-take_mark history s all.1) (is_making s x.0) refl
]

-- all effects are of client 1
pub all_of_one : (history : List Event) → AllSingle history → AllOfOne (effects history)
all_of_one [] all = tt
all_of_one (event ∷ history) all = elim all.0.effects [
  | inl e ↦ rw e (all_of_one history all.1)
  | inr x ↦ rw (x.2) (x.1, all_of_one history all.1)
]

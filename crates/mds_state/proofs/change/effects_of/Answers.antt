use Rattle.std.proofs.Common.{◌≡◌, ◌+◌, ◌++◌, List, [], ap, sym, ◌∙◌, append_assoc}
use Rattle.std.proofs.lemmas.List.{append-nil, nil_from_length}
use Rattle.plain_types.specs.declared.entry.Entry.{Entry}
use Rattle.plain_journal.specs.Entries.{change_in}
use Rattle.plain_journal.specs.Table.{effect_of, effects_from}
use Rattle.mds_state.proofs.change.effects_of.Goals as goal

pub loop-entry-init : goal.loop-entry-init
loop-entry-init c = λ i. c.new-effects.ensures.items i ++ effects_from (c.in_ok-number.ensures i) (c.into_iter-entry-iterator.ensures.into_iter_gives.0 i)

pub loop-entry-preserved : goal.loop-entry-preserved
loop-entry-preserved c =
    (λ i. c.in_ok-push_effect.ensures i ++ effects_from (c.in_ok-number-2.ensures i) c.next.new.self.rest.items)
    ∙ append_assoc c.loop-entry.effects.items (effect_of c.loop-entry.number c.in-Some.entry (change_in c.in-Some.entry.what)) (effects_from (c.loop-entry.number + 1) c.next.new.self.rest.items)
    ∙ ap (λ (items : List Entry). c.loop-entry.effects.items ++ effects_from c.loop-entry.number items) (sym c.in-Some.ensures.steps.0)
    ∙ c.loop-entry.invariant

pub returns : goal.returns
returns c =
    let none : c.loop-entry.entry-iterator.rest.items ≡ [] = nil_from_length _ (sym c.loop-entry.entry-iterator.rest.ok.0 ∙ c.in-None.ensures.steps.0) in
    c.from_vec.ensures ∙ sym (append-nil c.loop-entry.effects.items)
    ∙ ap (λ (items : List Entry). c.loop-entry.effects.items ++ effects_from c.loop-entry.number items) (sym none)
    ∙ c.loop-entry.invariant

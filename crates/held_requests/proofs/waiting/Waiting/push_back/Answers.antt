use Rattle.std.proofs.Common.{◌++◌, ◌∷◌, [], subst, refl}
use Rattle.step_table.specs.ServerState.{Asked}
use Rattle.held_requests.specs.Keys.{keys_of, OnlyOf}
use Rattle.held_requests.proofs.Steps.{room_made, back}
use Rattle.held_requests.proofs.waiting.Waiting.push_back.Goals as goal

pub invariant_of-self-in_err-reserve-2 : goal.invariant_of-self-in_err-reserve-2
invariant_of-self-in_err-reserve-2 c = room_made c.self.inside.asked c.reserve-2.new.self c.self.inside.order.items c.reserve.new.self.items c.self.inside.index c.self.inside.index
    c.self.invariant c.in_err-reserve-2.ensures.rest_kept c.in_ok-reserve.ensures.items (λ client. refl)

pub invariant_of-self-in_err-push_back : goal.invariant_of-self-in_err-push_back
invariant_of-self-in_err-push_back c = room_made c.self.inside.asked c.reserve-2.new.self c.self.inside.order.items c.reserve.new.self.items c.self.inside.index c.push_back.new.self
    c.self.invariant c.in_ok-reserve-2.ensures.rest_kept c.in_ok-reserve.ensures.items c.in_err-push_back.ensures.as_before

pub invariant_of-self-2 : goal.invariant_of-self-2
invariant_of-self-2 c =
    let only = subst (λ (a : Asked). OnlyOf a.client (keys_of a.client c.self.inside.index ++ c.vacant_key-key.result ∷ []) c.self.inside.index c.push_back.new.self) c.asked.view_is c.in_ok-push_back.ensures.pushed in
    (back c.self.inside.asked c.reserve-2.new.self c.insert_reserved.new.self c.self.inside.order.items c.reserve.new.self.items c.push_reserved.new.self.items c.self.inside.index c.push_back.new.self c.args.self.now c.args.asked c.vacant_key-key.result c.insert_reserved.result
    c.self.invariant c.self.view_is c.in_ok-reserve-2.ensures.rest_kept c.in_ok-reserve.ensures.items c.vacant_key-key.ensures.vacant c.vacant_key-key.ensures.value c.insert_reserved.ensures.key c.insert_reserved.ensures.updates only c.push_reserved.ensures.items).0

pub returns-clause-waits : goal.returns-clause-waits
returns-clause-waits c =
    let only = subst (λ (a : Asked). OnlyOf a.client (keys_of a.client c.self.inside.index ++ c.vacant_key-key.result ∷ []) c.self.inside.index c.push_back.new.self) c.asked.view_is c.in_ok-push_back.ensures.pushed in
    (back c.self.inside.asked c.reserve-2.new.self c.insert_reserved.new.self c.self.inside.order.items c.reserve.new.self.items c.push_reserved.new.self.items c.self.inside.index c.push_back.new.self c.args.self.now c.args.asked c.vacant_key-key.result c.insert_reserved.result
    c.self.invariant c.self.view_is c.in_ok-reserve-2.ensures.rest_kept c.in_ok-reserve.ensures.items c.vacant_key-key.ensures.vacant c.vacant_key-key.ensures.value c.insert_reserved.ensures.key c.insert_reserved.ensures.updates only c.push_reserved.ensures.items).1

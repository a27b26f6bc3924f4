use Rattle.std.proofs.Common.{◌∷◌, subst, refl}
use Rattle.step_table.specs.ServerState.{Asked}
use Rattle.held_requests.specs.Keys.{keys_of, OnlyOf}
use Rattle.held_requests.proofs.Steps.{room_made, front}
use Rattle.held_requests.proofs.waiting.Waiting.push_front.Goals as goal

pub invariant_of-self-in_err-reserve-2 : goal.invariant_of-self-in_err-reserve-2
invariant_of-self-in_err-reserve-2 c = room_made c.self.inside.asked c.reserve-2.new.self c.self.inside.order.items c.reserve.new.self.items c.self.inside.index c.self.inside.index
    c.self.invariant c.in_err-reserve-2.ensures.rest_kept c.in_ok-reserve.ensures.items (λ client. refl)

pub invariant_of-self-in_err-push_front : goal.invariant_of-self-in_err-push_front
invariant_of-self-in_err-push_front c = room_made c.self.inside.asked c.reserve-2.new.self c.self.inside.order.items c.reserve.new.self.items c.self.inside.index c.push_front.new.self
    c.self.invariant c.in_ok-reserve-2.ensures.rest_kept c.in_ok-reserve.ensures.items c.in_err-push_front.ensures.as_before

pub invariant_of-self-2 : goal.invariant_of-self-2
invariant_of-self-2 c =
    let only = subst (λ (a : Asked). OnlyOf a.client (c.vacant_key-key.result ∷ keys_of a.client c.self.inside.index) c.self.inside.index c.push_front.new.self) c.asked.view_is c.in_ok-push_front.ensures.pushed in
    (front c.self.inside.asked c.reserve-2.new.self c.insert_reserved.new.self c.self.inside.order.items c.reserve.new.self.items c.put_first.new.order.items c.self.inside.index c.push_front.new.self c.args.self.now c.args.asked c.vacant_key-key.result c.insert_reserved.result
    c.self.invariant c.self.view_is c.in_ok-reserve-2.ensures.rest_kept c.in_ok-reserve.ensures.items c.vacant_key-key.ensures.vacant c.vacant_key-key.ensures.value c.insert_reserved.ensures.key c.insert_reserved.ensures.updates only c.put_first.ensures).0

pub returns-clause-waits : goal.returns-clause-waits
returns-clause-waits c =
    let only = subst (λ (a : Asked). OnlyOf a.client (c.vacant_key-key.result ∷ keys_of a.client c.self.inside.index) c.self.inside.index c.push_front.new.self) c.asked.view_is c.in_ok-push_front.ensures.pushed in
    (front c.self.inside.asked c.reserve-2.new.self c.insert_reserved.new.self c.self.inside.order.items c.reserve.new.self.items c.put_first.new.order.items c.self.inside.index c.push_front.new.self c.args.self.now c.args.asked c.vacant_key-key.result c.insert_reserved.result
    c.self.invariant c.self.view_is c.in_ok-reserve-2.ensures.rest_kept c.in_ok-reserve.ensures.items c.vacant_key-key.ensures.vacant c.vacant_key-key.ensures.value c.insert_reserved.ensures.key c.insert_reserved.ensures.updates only c.put_first.ensures).1

-- Whose a step is, between which nodes messages go, and which.
use Rattle.std.proofs.Common.{◌≡◌, ◌≢◌, ℕ, ◌+◌, ◌<◌, ◌&&◌, not, Bool, true, false, eqb, if◌then◌else◌, Option, Some, refl, ap, arith}
use Rattle.plain_types.specs.declared.history.Step.{Step}
use Rattle.plain_types.specs.declared.history.Step.TheVariants.{Op, Flush, ClientFromServer, ClientFromStore, ServerTakes, Commit, Restart, Tend, StoreTakes}
use Rattle.plain_types.specs.declared.message.Message.{Message}
use Rattle.node_core.specs.Steps.{is_client, is_step_of, are_peers, taking_step, taken_from, message_fits, is_order, is_report, is_to_store, is_to_server}

one_client : (clients a b n : ℕ) → eqb n a && is_client clients n ≡ true → eqb n b && is_client clients n ≡ true → a ≡ b
one_client clients a b n x y = grind arith

one_server : (a b : ℕ) → eqb a 0 ≡ true → eqb b 0 ≡ true → a ≡ b
one_server a b x y = grind arith

one_store : (clients a b : ℕ) → eqb a (clients + 1) ≡ true → eqb b (clients + 1) ≡ true → a ≡ b
one_store clients a b x y = grind arith

pub one_node : (clients a b : ℕ) (step : Step) → is_step_of clients a step ≡ true → is_step_of clients b step ≡ true → a ≡ b
one_node clients a b (Op n) x y = one_client clients a b n x y
one_node clients a b (Flush n) x y = one_client clients a b n x y
one_node clients a b (ClientFromServer n) x y = one_client clients a b n x y
one_node clients a b (ClientFromStore n) x y = one_client clients a b n x y
one_node clients a b (ServerTakes n) x y = one_server a b x y
one_node clients a b Commit x y = one_server a b x y
one_node clients a b (Restart k) x y = one_server a b x y
one_node clients a b Tend x y = one_server a b x y
one_node clients a b (StoreTakes n) x y = one_store clients a b x y

client_itself : (clients a b : ℕ) → are_peers clients a b ≡ true → eqb b 0 ≡ false → eqb b (clients + 1) ≡ false
    → eqb b b && is_client clients b ≡ true
client_itself clients a b peers x y = grind arith

from_the_store : (clients a b : ℕ) → are_peers clients a b ≡ true → eqb b 0 ≡ false → eqb b (clients + 1) ≡ false → eqb a 0 ≡ false
    → clients + 1 ≡ a
from_the_store clients a b peers x y z = grind arith

from_the_server : (a : ℕ) → eqb a 0 ≡ true → 0 ≡ a
from_the_server a z = grind arith

pub its_step : (clients a b : ℕ) → are_peers clients a b ≡ true → is_step_of clients b (taking_step clients a b) ≡ true
its_step clients a b peers = go (eqb b 0) (eqb b (clients + 1)) (eqb a 0) refl refl
  where
    go : (x y z : Bool) → eqb b 0 ≡ x → eqb b (clients + 1) ≡ y
        → is_step_of clients b (if x then ServerTakes a else (if y then StoreTakes a else (if z then ClientFromServer b else ClientFromStore b))) ≡ true
    go true y z p q = p
    go false true z p q = q
    go false false true p q = client_itself clients a b peers p q
    go false false false p q = client_itself clients a b peers p q

pub from_the_sender : (clients a b : ℕ) → are_peers clients a b ≡ true → taken_from clients (taking_step clients a b) ≡ Some a
from_the_sender clients a b peers = go (eqb b 0) (eqb b (clients + 1)) (eqb a 0) refl refl refl
  where
    go : (x y z : Bool) → eqb b 0 ≡ x → eqb b (clients + 1) ≡ y → eqb a 0 ≡ z
        → taken_from clients (if x then ServerTakes a else (if y then StoreTakes a else (if z then ClientFromServer b else ClientFromStore b))) ≡ Some a
    go true y z p q r = refl
    go false true z p q r = refl
    go false false true p q r = ap Some (from_the_server a r)
    go false false false p q r = ap Some (from_the_store clients a b peers p q r)

pub both_ways : (clients a b : ℕ) → are_peers clients a b ≡ true → are_peers clients b a ≡ true
both_ways clients a b peers = grind arith

-- what fits here doesn't fit there
apart : (here there kind own : Bool) → here ≡ true → there ≡ false → (if here then own else (kind && not own)) ≡ true
    → (if there then own else (kind && not own)) ≡ false
apart here true kind own h t fits = cc
apart false false kind own h t fits = cc
apart true false true true h t fits = refl
apart true false false true h t fits = refl
apart true false kind false h t fits = cc

same : (n : ℕ) → eqb n n ≡ true
same n = grind arith

no_zero : (n : ℕ) → 0 < n → eqb n 0 ≡ false
no_zero n some = grind arith

no_other : (n m : ℕ) → n ≢ m → eqb n m ≡ false
no_other n m other = grind arith

pub order : (clients n : ℕ) (said : Message) → 0 < n
    → message_fits clients (StoreTakes 0) said ≡ true → message_fits clients (StoreTakes n) said ≡ false
order clients n said some fits = apart true (eqb n 0) (is_to_store said) (is_order said) refl (no_zero n some) fits

pub report : (clients n : ℕ) (said : Message) → n ≢ clients + 1
    → message_fits clients (ServerTakes (clients + 1)) said ≡ true → message_fits clients (ServerTakes n) said ≡ false
report clients n said other fits =
    apart (eqb (clients + 1) (clients + 1)) (eqb n (clients + 1)) (is_to_server said) (is_report said) (same (clients + 1)) (no_other n (clients + 1) other) fits

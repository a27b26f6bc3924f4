-- What is sent as the table writes it is written so again.
use Rattle.std.proofs.Common.{◌≡◌, ℕ, List, [], ◌∷◌, map, Bool, true, false, true≢false, cond, refl, sym, ap, ◌∙◌, arith}
use Rattle.std.proofs.lemmas.Bool.Decides.{nat_tests}
use Rattle.std.specs.Prelude.{◌&&◌, max, nat_le, filter}
use Rattle.snap_ids.specs.declared.id.SnapId.{SnapId}
use Rattle.snap_ids.specs.declared.id.TheConstants.{GLOBAL}
use Rattle.snap_ids.specs.declared.values.RealmInfo.{RealmInfo}
use Rattle.snap_ids.specs.Context.{Context, begins_below, falls}
use Rattle.snap_ids.specs.Traces.{context_of, context_with, from_id, ids_of, if_from, seq_of, with_id, with_ids}
use Rattle.snap_ids.proofs.Falling.{falls-filter, falls-ids_of}
use Rattle.plain_types.specs.declared.history.Sent.{Sent}
use Rattle.plain_types.specs.declared.message.FileTrace.{FileTrace}
use Rattle.plain_types.specs.declared.message.Message.{Message}
use Rattle.plain_types.specs.declared.message.Message.TheVariants as message
use Rattle.plain_types.specs.declared.message.ToClient.{ToClient}
use Rattle.plain_types.specs.declared.message.ToClient.TheVariants as to_client
use Rattle.step_table.specs.Messages.{plain_message, plain_sent, plain_trace, plainly_told, trace_with}

both : (a b : Bool) → (a && b) ≡ true → (a ≡ true) × (b ≡ true)
both true b is = (refl, is)
both false b is = absurd (true≢false (sym is))

-- falling ids are in order
first : (id : SnapId) (ids : List SnapId) → begins_below id ids ≡ true → with_id id ids ≡ id ∷ ids
first id [] below = refl
first id (next ∷ ids) below = rw below refl

in_order : (ids : List SnapId) → falls ids ≡ true → with_ids ids [] ≡ ids
in_order [] fall = refl
in_order (id ∷ ids) fall = let parts = both (begins_below id ids) (falls ids) fall in ap (with_id id) (in_order ids parts.1) ∙ first id ids parts.0

from_zero : (n : ℕ) → nat_le 0 n ≡ true
from_zero n = grind (arith, nat_tests)

-- all ids are at least 0, and those up to a number are so again
all_from : (ids : List SnapId) → from_id (record { 0 = 0 }) ids ≡ ids
all_from [] = refl
all_from (id ∷ ids) = step (nat_le 0 id.0) (from_zero id.0) (all_from ids)
  where
    step : (b : Bool) → b ≡ true → from_id (record { 0 = 0 }) ids ≡ ids → cond b (id ∷ from_id (record { 0 = 0 }) ids) (from_id (record { 0 = 0 }) ids) ≡ id ∷ ids
    step true is rest = ap (λ (l : List SnapId). id ∷ l) rest
    step false is rest = absurd (true≢false (sym is))

module _ (p : SnapId → Bool) where
  twice : (ids : List SnapId) → filter p (filter p ids) ≡ filter p ids
  twice [] = refl
  twice (id ∷ ids) = step (p id) refl (twice ids)
    where
      step : (b : Bool) → p id ≡ b → filter p (filter p ids) ≡ filter p ids → filter p (cond b (id ∷ filter p ids) (filter p ids)) ≡ cond b (id ∷ filter p ids) (filter p ids)
      step true is rest = rw is (ap (λ (l : List SnapId). id ∷ l) rest)
      step false is rest = rest

none_more : (n : ℕ) → max n 0 ≡ n
none_more n = omega arith

-- the realm that the table writes for a context
abbrev realm_for : Context → RealmInfo
realm_for c = record { ino = GLOBAL; seq = c.seq; since = record { 0 = 0 }; own = []; past = c.ids }

seq_again : (c : Context) → if_from (record { 0 = 0 }) (seq_of (realm_for c ∷ [])) 1 ≡ c.seq.0
seq_again c = step (nat_le 0 (max c.seq.0 0)) (from_zero (max c.seq.0 0))
  where
    step : (b : Bool) → b ≡ true → cond b (max c.seq.0 0) 1 ≡ c.seq.0
    step true is = none_more c.seq.0
    step false is = absurd (true≢false (sym is))

ids_again : (c : Context) → falls c.ids ≡ true → from_id (record { 0 = 0 }) (ids_of (realm_for c ∷ [])) ≡ c.ids
ids_again c fall = all_from (ids_of (realm_for c ∷ [])) ∙ in_order c.ids fall

with_again : (n : ℕ) (ids : List SnapId) → falls ids ≡ true → context_of (realm_for (context_with n ids) ∷ []) (record { 0 = 0 }) ≡ context_with n ids
with_again n ids fall =
    let c = context_with n ids in
    (λ i. context_with (seq_again c i) (ids_again c (falls-filter (λ id. nat_le id.0 n) ids fall) i))
    ∙ ap (λ (l : List SnapId). record { seq = record { 0 = n }; ids = l }) (twice (λ id. nat_le id.0 n) ids)

context_again : (trace : List RealmInfo) (birth : SnapId) → context_of (realm_for (context_of trace birth) ∷ []) (record { 0 = 0 }) ≡ context_of trace birth
context_again [] birth = with_again 1 [] refl
context_again (realm ∷ above) birth =
    with_again (if_from birth (seq_of (realm ∷ above)) 1) (from_id birth (ids_of (realm ∷ above)))
    (falls-filter (λ id. nat_le birth.0 id.0) (ids_of (realm ∷ above)) (falls-ids_of (realm ∷ above)))

trace_again : (file : FileTrace) → plain_trace (plain_trace file) ≡ plain_trace file
trace_again file = ap (trace_with file.ino) (context_again file.trace file.birth)

traces_again : (files : List FileTrace) → map plain_trace (map plain_trace files) ≡ map plain_trace files
traces_again [] = refl
traces_again (file ∷ files) = λ i. trace_again file i ∷ traces_again files i

told_again : (told : ToClient) → plainly_told (plainly_told told) ≡ plainly_told told
told_again (to_client.Grant conn tid stamp ino mode size file) = ap (to_client.Grant conn tid stamp ino mode size) (trace_again file)
told_again (to_client.Notice conn stamp update) = ap (to_client.Notice conn stamp) (traces_again update)
told_again (to_client.Welcome conn stamp flushed update) = ap (to_client.Welcome conn stamp flushed) (traces_again update)
told_again told = refl

message_again : (m : Message) → plain_message (plain_message m) ≡ plain_message m
message_again (message.ToClient told) = ap message.ToClient (told_again told)
message_again other = refl

sent_again : (sent : Sent) → plain_sent (plain_sent sent) ≡ plain_sent sent
sent_again sent = ap (λ (m : Message). record { to = sent.to; message = m }) (message_again sent.message)

all_again : (sent : List Sent) → map plain_sent (map plain_sent sent) ≡ map plain_sent sent
all_again [] = refl
all_again (letter ∷ sent) = λ i. sent_again letter i ∷ all_again sent i

-- so what is sent as the table's row is the same as that
pub same_plain : (sent row : List Sent) → map plain_sent sent ≡ row → map plain_sent sent ≡ map plain_sent row
same_plain sent row is = sym (all_again sent) ∙ ap (map plain_sent) is

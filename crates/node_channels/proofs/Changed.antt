-- What a change of one channel makes of each.
use Rattle.std.proofs.Common.{zero, suc, ◌≡◌, ◌≢◌, ℕ, ◌+◌, ◌<◌, ◌≤◌, List, [], ◌∷◌, ◌++◌, Bool, true, false, cond, length, get_or, set, drop, Option, None, Some, refl, sym, ap, ◌∙◌, subst, arith}
use Rattle.std.proofs.lemmas.List.{get_or-set_same, get_or-set_other, get_or_past, length-set, set-get_or}
use Rattle.std.proofs.lemmas.Bool.Decides.{nat_tests}
use Rattle.std.specs.Prelude.{◌==◌, ◌&&◌, nat_le, nat_lt}
use Rattle.plain_types.specs.declared.history.Step.{Step}
use Rattle.plain_types.specs.declared.history.Step.TheVariants.{Op, Flush, ClientFromServer, ClientFromStore, ServerTakes, Commit, Restart, Tend, StoreTakes}
use Rattle.plain_types.specs.declared.message.Message.{Message}
use Rattle.node_core.specs.Steps.{is_client}
use Rattle.node_channels.specs.Channels.{Waiting, IsWhole, queue, with_queue, with_last, without_first, first, is_taking}

-- the same taking step
abbrev pub same_step : Step → Step → Bool
same_step (ServerTakes n) (ServerTakes k) = n == k
same_step (ClientFromServer n) (ClientFromServer k) = n == k
same_step (StoreTakes n) (StoreTakes k) = n == k
same_step (ClientFromStore n) (ClientFromStore k) = n == k
same_step step other = false

pub equal : (n k : ℕ) → (n == k) ≡ true → n ≡ k
equal n k is = grind (arith, nat_tests, is)

pub itself : (n : ℕ) → (n == n) ≡ true
itself n = grind (arith, nat_tests)

pub turned : (n k : ℕ) → (n == k) ≡ (k == n)
turned n k = grind (arith, nat_tests)

differ : (n k : ℕ) → (n == k) ≡ false → k ≢ n
differ n k is same = clash (subst (λ (x : ℕ). (n == x) ≡ false) same is)
  where
    clash : (n == n) ≡ false → ⊥
    clash wrong = let right = itself n in cc

pub is_same : (step other : Step) → same_step step other ≡ true → step ≡ other
is_same (ServerTakes n) (Op k) is = cc
is_same (ServerTakes n) (Flush k) is = cc
is_same (ServerTakes n) (ClientFromServer k) is = cc
is_same (ServerTakes n) (ClientFromStore k) is = cc
is_same (ServerTakes n) (ServerTakes k) is = ap ServerTakes (equal n k is)
is_same (ServerTakes n) Commit is = cc
is_same (ServerTakes n) (Restart k) is = cc
is_same (ServerTakes n) Tend is = cc
is_same (ServerTakes n) (StoreTakes k) is = cc
is_same (ClientFromServer n) (Op k) is = cc
is_same (ClientFromServer n) (Flush k) is = cc
is_same (ClientFromServer n) (ClientFromServer k) is = ap ClientFromServer (equal n k is)
is_same (ClientFromServer n) (ClientFromStore k) is = cc
is_same (ClientFromServer n) (ServerTakes k) is = cc
is_same (ClientFromServer n) Commit is = cc
is_same (ClientFromServer n) (Restart k) is = cc
is_same (ClientFromServer n) Tend is = cc
is_same (ClientFromServer n) (StoreTakes k) is = cc
is_same (StoreTakes n) (Op k) is = cc
is_same (StoreTakes n) (Flush k) is = cc
is_same (StoreTakes n) (ClientFromServer k) is = cc
is_same (StoreTakes n) (ClientFromStore k) is = cc
is_same (StoreTakes n) (ServerTakes k) is = cc
is_same (StoreTakes n) Commit is = cc
is_same (StoreTakes n) (Restart k) is = cc
is_same (StoreTakes n) Tend is = cc
is_same (StoreTakes n) (StoreTakes k) is = ap StoreTakes (equal n k is)
is_same (ClientFromStore n) (Op k) is = cc
is_same (ClientFromStore n) (Flush k) is = cc
is_same (ClientFromStore n) (ClientFromServer k) is = cc
is_same (ClientFromStore n) (ClientFromStore k) is = ap ClientFromStore (equal n k is)
is_same (ClientFromStore n) (ServerTakes k) is = cc
is_same (ClientFromStore n) Commit is = cc
is_same (ClientFromStore n) (Restart k) is = cc
is_same (ClientFromStore n) Tend is = cc
is_same (ClientFromStore n) (StoreTakes k) is = cc
is_same (Op n) other is = cc
is_same (Flush n) other is = cc
is_same Commit other is = cc
is_same (Restart n) other is = cc
is_same Tend other is = cc

pub same_itself : (clients : ℕ) (step : Step) → is_taking clients step ≡ true → same_step step step ≡ true
same_itself clients (Op n) taking = cc
same_itself clients (Flush n) taking = cc
same_itself clients (ClientFromServer n) taking = itself n
same_itself clients (ClientFromStore n) taking = itself n
same_itself clients (ServerTakes n) taking = itself n
same_itself clients Commit taking = cc
same_itself clients (Restart n) taking = cc
same_itself clients Tend taking = cc
same_itself clients (StoreTakes n) taking = itself n

-- the channel is there
abbrev pub IsThere : Waiting → Step → Type 0
IsThere c (ServerTakes n) = n < length c.up
IsThere c (ClientFromServer n) = n < length c.down
IsThere c (StoreTakes n) = n < length c.asked
IsThere c (ClientFromStore n) = n < length c.stored
IsThere c step = ⊥

within_up : (clients n len : ℕ) → len ≡ clients + 2 → (nat_lt 0 n && nat_le n (clients + 1)) ≡ true → n < len
within_up clients n len is taking = grind (arith, nat_tests, is, taking)

within_client : (clients n len : ℕ) → len ≡ clients + 2 → is_client clients n ≡ true → n < len
within_client clients n len is taking = grind (arith, nat_tests, is, taking)

within_asked : (clients n len : ℕ) → len ≡ clients + 2 → nat_le n clients ≡ true → n < len
within_asked clients n len is taking = grind (arith, nat_tests, is, taking)

pub there_by_taking : (c : Waiting) → IsWhole c → (step : Step) → is_taking c.clients step ≡ true → IsThere c step
there_by_taking c whole (ServerTakes n) taking = within_up c.clients n (length c.up) whole.up taking
there_by_taking c whole (ClientFromServer n) taking = within_client c.clients n (length c.down) whole.down taking
there_by_taking c whole (StoreTakes n) taking = within_asked c.clients n (length c.asked) whole.asked taking
there_by_taking c whole (ClientFromStore n) taking = within_client c.clients n (length c.stored) whole.stored taking
there_by_taking c whole (Op n) taking = cc
there_by_taking c whole (Flush n) taking = cc
there_by_taking c whole Commit taking = cc
there_by_taking c whole (Restart n) taking = cc
there_by_taking c whole Tend taking = cc

pub within_some : (lane : List (List Message)) (n : ℕ) (m : Message) (rest : List Message) → get_or lane n [] ≡ m ∷ rest → n < length lane
within_some [] n m rest is = cc
within_some (q ∷ lane) zero m rest is = omega arith
within_some (q ∷ lane) (suc n) m rest is = let below = within_some lane n m rest is in omega (arith, below)

pub there_by_some : (c : Waiting) (step : Step) (m : Message) (rest : List Message) → queue c step ≡ m ∷ rest → IsThere c step
there_by_some c (ServerTakes n) m rest is = within_some c.up n m rest is
there_by_some c (ClientFromServer n) m rest is = within_some c.down n m rest is
there_by_some c (StoreTakes n) m rest is = within_some c.asked n m rest is
there_by_some c (ClientFromStore n) m rest is = within_some c.stored n m rest is
there_by_some c (Op n) m rest is = cc
there_by_some c (Flush n) m rest is = cc
there_by_some c Commit m rest is = cc
there_by_some c (Restart n) m rest is = cc
there_by_some c Tend m rest is = cc

-- one channel is another, and every other stays
pub placed : (lane : List (List Message)) (n k : ℕ) (messages : List Message) → n < length lane → get_or (set lane n messages) k [] ≡ cond (n == k) messages (get_or lane k [])
placed lane n k messages within = by_test (n == k) refl
  where
    by_test : (b : Bool) → (n == k) ≡ b → get_or (set lane n messages) k [] ≡ cond b messages (get_or lane k [])
    by_test true is = subst (λ (x : ℕ). get_or (set lane n messages) x [] ≡ messages) (equal n k is) (get_or-set_same lane n messages [] within)
    by_test false is = get_or-set_other lane n k messages [] (differ n k is)

pub changed : (c : Waiting) (step other : Step) (messages : List Message) → IsThere c step → queue (with_queue c step messages) other ≡ cond (same_step step other) messages (queue c other)
changed c (ServerTakes n) (Op k) messages there = refl
changed c (ServerTakes n) (Flush k) messages there = refl
changed c (ServerTakes n) (ClientFromServer k) messages there = refl
changed c (ServerTakes n) (ClientFromStore k) messages there = refl
changed c (ServerTakes n) (ServerTakes k) messages there = placed c.up n k messages there
changed c (ServerTakes n) Commit messages there = refl
changed c (ServerTakes n) (Restart k) messages there = refl
changed c (ServerTakes n) Tend messages there = refl
changed c (ServerTakes n) (StoreTakes k) messages there = refl
changed c (ClientFromServer n) (Op k) messages there = refl
changed c (ClientFromServer n) (Flush k) messages there = refl
changed c (ClientFromServer n) (ClientFromServer k) messages there = placed c.down n k messages there
changed c (ClientFromServer n) (ClientFromStore k) messages there = refl
changed c (ClientFromServer n) (ServerTakes k) messages there = refl
changed c (ClientFromServer n) Commit messages there = refl
changed c (ClientFromServer n) (Restart k) messages there = refl
changed c (ClientFromServer n) Tend messages there = refl
changed c (ClientFromServer n) (StoreTakes k) messages there = refl
changed c (StoreTakes n) (Op k) messages there = refl
changed c (StoreTakes n) (Flush k) messages there = refl
changed c (StoreTakes n) (ClientFromServer k) messages there = refl
changed c (StoreTakes n) (ClientFromStore k) messages there = refl
changed c (StoreTakes n) (ServerTakes k) messages there = refl
changed c (StoreTakes n) Commit messages there = refl
changed c (StoreTakes n) (Restart k) messages there = refl
changed c (StoreTakes n) Tend messages there = refl
changed c (StoreTakes n) (StoreTakes k) messages there = placed c.asked n k messages there
changed c (ClientFromStore n) (Op k) messages there = refl
changed c (ClientFromStore n) (Flush k) messages there = refl
changed c (ClientFromStore n) (ClientFromServer k) messages there = refl
changed c (ClientFromStore n) (ClientFromStore k) messages there = placed c.stored n k messages there
changed c (ClientFromStore n) (ServerTakes k) messages there = refl
changed c (ClientFromStore n) Commit messages there = refl
changed c (ClientFromStore n) (Restart k) messages there = refl
changed c (ClientFromStore n) Tend messages there = refl
changed c (ClientFromStore n) (StoreTakes k) messages there = refl
changed c (Op n) other messages there = absurd there
changed c (Flush n) other messages there = absurd there
changed c Commit other messages there = absurd there
changed c (Restart n) other messages there = absurd there
changed c Tend other messages there = absurd there

pub changed_own : (c : Waiting) → IsWhole c → (step : Step) → is_taking c.clients step ≡ true → (messages : List Message) → queue (with_queue c step messages) step ≡ messages
changed_own c whole step taking messages = changed c step step messages (there_by_taking c whole step taking) ∙ by_test (same_step step step) (same_itself c.clients step taking)
  where
    by_test : (b : Bool) → b ≡ true → cond b messages (queue c step) ≡ messages
    by_test true is = refl
    by_test false is = cc

pub changed_others : (c : Waiting) → IsWhole c → (step other : Step) → is_taking c.clients step ≡ true → other ≢ step → (messages : List Message) → queue (with_queue c step messages) other ≡ queue c other
changed_others c whole step other taking apart messages = changed c step other messages (there_by_taking c whole step taking) ∙ by_test (same_step step other) refl
  where
    by_test : (b : Bool) → same_step step other ≡ b → cond b messages (queue c other) ≡ queue c other
    by_test true is = absurd (apart (sym (is_same step other is)))
    by_test false is = refl

-- the lists stay as long as they are, and the number of clients stays
pub whole_kept : (c : Waiting) → IsWhole c → (step : Step) (messages : List Message) → IsWhole (with_queue c step messages)
whole_kept c whole (ServerTakes n) messages = record { up = length-set c.up n messages ∙ whole.up; down = whole.down; asked = whole.asked; stored = whole.stored }
whole_kept c whole (ClientFromServer n) messages = record { up = whole.up; down = length-set c.down n messages ∙ whole.down; asked = whole.asked; stored = whole.stored }
whole_kept c whole (StoreTakes n) messages = record { up = whole.up; down = whole.down; asked = length-set c.asked n messages ∙ whole.asked; stored = whole.stored }
whole_kept c whole (ClientFromStore n) messages = record { up = whole.up; down = whole.down; asked = whole.asked; stored = length-set c.stored n messages ∙ whole.stored }
whole_kept c whole (Op n) messages = whole
whole_kept c whole (Flush n) messages = whole
whole_kept c whole Commit messages = whole
whole_kept c whole (Restart n) messages = whole
whole_kept c whole Tend messages = whole

pub clients_kept : (c : Waiting) (step : Step) (messages : List Message) → (with_queue c step messages).clients ≡ c.clients
clients_kept c (Op n) messages = refl
clients_kept c (Flush n) messages = refl
clients_kept c (ClientFromServer n) messages = refl
clients_kept c (ClientFromStore n) messages = refl
clients_kept c (ServerTakes n) messages = refl
clients_kept c Commit messages = refl
clients_kept c (Restart n) messages = refl
clients_kept c Tend messages = refl
clients_kept c (StoreTakes n) messages = refl

-- where nothing waits, nothing is taken
none_left : (lane : List (List Message)) (n : ℕ) → get_or lane n [] ≡ [] → set lane n (drop 1 (get_or lane n [])) ≡ lane
none_left lane n none = ap (λ (l : List Message). set lane n (drop 1 l)) none ∙ ap (set lane n) (sym none) ∙ set-get_or lane n []

pub none_taken : (c : Waiting) (step : Step) → queue c step ≡ [] → without_first c step ≡ c
none_taken c (ServerTakes n) none = ap (λ (l : List (List Message)). record c { up = l }) (none_left c.up n none)
none_taken c (ClientFromServer n) none = ap (λ (l : List (List Message)). record c { down = l }) (none_left c.down n none)
none_taken c (StoreTakes n) none = ap (λ (l : List (List Message)). record c { asked = l }) (none_left c.asked n none)
none_taken c (ClientFromStore n) none = ap (λ (l : List (List Message)). record c { stored = l }) (none_left c.stored n none)
none_taken c (Op n) none = refl
none_taken c (Flush n) none = refl
none_taken c Commit none = refl
none_taken c (Restart n) none = refl
none_taken c Tend none = refl

-- what waits after a step took its message, and after a message came
pub left : (c : Waiting) (step other : Step) (m : Message) (rest : List Message) → queue c step ≡ m ∷ rest → queue (without_first c step) other ≡ cond (same_step step other) rest (queue c other)
left c step other m rest is = changed c step other (drop 1 (queue c step)) (there_by_some c step m rest is) ∙ ap (λ (l : List Message). cond (same_step step other) (drop 1 l) (queue c other)) is

pub more : (c : Waiting) → IsWhole c → (step other : Step) (m : Message) → is_taking c.clients step ≡ true → queue (with_last c step m) other ≡ queue c other ++ cond (same_step step other) (m ∷ []) []
more c whole step other m taking = changed c step other (queue c step ++ m ∷ []) (there_by_taking c whole step taking) ∙ by_test (same_step step other) refl
  where
    no_more : (l : List Message) → l ≡ l ++ []
    no_more [] = refl
    no_more (x ∷ l) = ap (λ (r : List Message). x ∷ r) (no_more l)

    by_test : (b : Bool) → same_step step other ≡ b → cond b (queue c step ++ m ∷ []) (queue c other) ≡ queue c other ++ cond b (m ∷ []) []
    by_test true is = ap (λ (s : Step). queue c s ++ m ∷ []) (is_same step other is)
    by_test false is = no_more (queue c other)

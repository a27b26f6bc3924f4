-- What the calls on channels keep.
use Rattle.std.proofs.Common.{◌≡◌, ℕ, ◌+◌, ◌-◌, List, [], ◌∷◌, ◌++◌, append_assoc, length, take, Bool, true, false, Option, None, Some, option_map, refl, sym, ap, ◌∙◌, subst, arith, IfSome, Result, Ok, Err, OnErr}
use Rattle.std.proofs.lemmas.List.{take_at}
use Rattle.std.proofs.lemmas.List.Folds.{list_all-append}
use Rattle.std.specs.Prelude.{◌&&◌, is_some}
use Rattle.std.specs.List.{list_all}
use Rattle.plain_types.specs.declared.history.Sent.{Sent}
use Rattle.plain_types.specs.declared.history.Step.{Step}
use Rattle.plain_types.specs.declared.message.Message.{Message}
use Rattle.node_core.specs.Steps.{is_step_of, taken_from, takes_from_peer, message_fits, taking_step, is_sent_well}
use Rattle.node_channels.specs.Channels.{Waiting, IsSound, queue, first, with_last, with_one, with_sent, without_first, count}
use Rattle.node_channels.proofs.Changed.{IsThere, there_by_taking, there_by_some}
use Rattle.node_channels.proofs.Counted.{count_more, count_less, sound_more, sound_less, first_fits, held_from_peer, sent_may_wait}
use Rattle.node_channels.proofs.Sends.{sent_takes, clients_sent}

-- what is seen of the oldest message
pub seen_fits : {R : Type 0} (c : Waiting) → IsSound c → (step : Step) (now : R → Message) (o : Option R) → option_map now o ≡ first (queue c step) → IfSome o (λ r. message_fits c.clients step (now r) ≡ true)
seen_fits {R} c sound step now o is = by_option o (first_fits c sound step (option_map now o) is)
  where
    by_option : (o : Option R) → IfSome (option_map now o) (λ m. message_fits c.clients step m ≡ true) → IfSome o (λ r. message_fits c.clients step (now r) ≡ true)
    by_option None fits = tt
    by_option (Some r) fits = fits

pub seen_from_peer : {R : Type 0} (c : Waiting) → IsSound c → (step : Step) (now : R → Message) (o : Option R) → option_map now o ≡ first (queue c step) → is_some o ≡ true
    → (node : ℕ) → is_step_of c.clients node step ≡ true → takes_from_peer c.clients node (taken_from c.clients step) ≡ true
seen_from_peer {R} c sound step now o is some = held_from_peer c sound step (ap is_some (sym is) ∙ by_option o ∙ some)
  where
    by_option : (o : Option R) → is_some (option_map now o) ≡ is_some o
    by_option None = refl
    by_option (Some r) = refl

-- a message is taken
pub taken_sound : (c new : Waiting) → IsSound c → (n : ℕ) → n ≡ count c → (step : Step) (m : Message) → Some m ≡ first (queue c step) → new ≡ without_first c step → IsSound new × (n - 1 ≡ count new)
taken_sound c new sound n counted step m some is = subst (λ (d : Waiting). IsSound d × (n - 1 ≡ count d)) (sym is) (sound_less c sound step, by_queue (queue c step) refl some)
  where
    by_queue : (q : List Message) → queue c step ≡ q → Some m ≡ first q → n - 1 ≡ count (without_first c step)
    by_queue [] none is = cc
    by_queue (x ∷ rest) some is = let less = count_less c step x rest (there_by_some c step x rest some) some in omega (arith, counted, less)

-- a message is sent
pub sent_sound : (c seen new : Waiting) → c ≡ seen → IsSound c → (n k : ℕ) → n ≡ count c → k ≡ n + 1 → (from : ℕ) (sent : Sent) → is_sent_well seen.clients from sent ≡ true
    → new ≡ with_last c (taking_step c.clients from sent.to) sent.message → IsSound new × (k ≡ count new)
sent_sound c seen new same sound n k counted one from sent well is = subst (λ (d : Waiting). IsSound d × (k ≡ count d)) (sym is)
    (sound_more c sound (taking_step c.clients from sent.to) sent.message (sent_may_wait c.clients from sent.to sent.message here), next)
  where
    here : is_sent_well c.clients from sent ≡ true
    here = subst (λ (d : Waiting). is_sent_well d.clients from sent ≡ true) (sym same) well

    next : k ≡ count (with_last c (taking_step c.clients from sent.to) sent.message)
    next = let more = count_more c (taking_step c.clients from sent.to) sent.message (there_by_taking c sound.whole (taking_step c.clients from sent.to) (sent_takes c.clients from sent here)) in omega (arith, counted, one, more)

-- along a list that is sent
pub record IsSending (old now : Waiting) (from : ℕ) (sent rest : List Sent) : Type 0 where
  pub done : List Sent
  pub all : sent ≡ done ++ rest
  pub so_far : now ≡ with_sent old from done

pub sending_starts : (old : Waiting) (from : ℕ) (sent items : List Sent) → items ≡ sent → IsSending old old from sent items
sending_starts old from sent items is = record { done = []; all = sym is; so_far = refl }

with_sent_last : (c : Waiting) (from : ℕ) (done : List Sent) (m : Sent) → with_sent c from (done ++ m ∷ []) ≡ with_one (with_sent c from done) from m
with_sent_last c from [] m = refl
with_sent_last c from (x ∷ done) m = with_sent_last (with_one c from x) from done m

pub sending_more : (old now new : Waiting) (from : ℕ) (sent items rest : List Sent) (m : Sent) → IsSending old now from sent items → items ≡ m ∷ rest → new ≡ with_one now from m → IsSending old new from sent rest
sending_more old now new from sent items rest m sending is next = record {
  done = sending.done ++ m ∷ [];
  all = sending.all ∙ ap (λ (l : List Sent). sending.done ++ l) is ∙ sym (append_assoc sending.done (m ∷ []) rest);
  so_far = next ∙ ap (λ (d : Waiting). with_one d from m) sending.so_far ∙ sym (with_sent_last old from sending.done m);
}

pub sending_well : (old now : Waiting) (from : ℕ) (sent items rest : List Sent) (m : Sent) → IsSending old now from sent items → items ≡ m ∷ rest → list_all (is_sent_well old.clients from) sent ≡ true → is_sent_well now.clients from m ≡ true
sending_well old now from sent items rest m sending is well =
    subst (λ (k : ℕ). is_sent_well k from m ≡ true) (sym (ap (λ (d : Waiting). d.clients) sending.so_far ∙ clients_sent old from sending.done))
    (front (is_sent_well old.clients from m) (list_all (is_sent_well old.clients from) rest) (behind (list_all (is_sent_well old.clients from) sending.done) (list_all (is_sent_well old.clients from) (m ∷ rest)) whole))
  where
    front : (a b : Bool) → (a && b) ≡ true → a ≡ true
    front true b is = refl
    front false b is = cc

    behind : (a b : Bool) → (a && b) ≡ true → b ≡ true
    behind true b is = is
    behind false b is = cc

    whole : (list_all (is_sent_well old.clients from) sending.done && list_all (is_sent_well old.clients from) (m ∷ rest)) ≡ true
    whole = sym (list_all-append (is_sent_well old.clients from) sending.done (m ∷ rest)) ∙ ap (list_all (is_sent_well old.clients from)) (sym (sending.all ∙ ap (λ (l : List Sent). sending.done ++ l) is)) ∙ well

pub sending_clients : (old now : Waiting) (from : ℕ) (sent items : List Sent) → IsSending old now from sent items → now.clients ≡ old.clients
sending_clients old now from sent items sending = ap (λ (d : Waiting). d.clients) sending.so_far ∙ clients_sent old from sending.done

pub sending_fails : (old now new : Waiting) (from : ℕ) (sent items : List Sent) → IsSending old now from sent items → new ≡ now → (n : ℕ) × (new ≡ with_sent old from (take n sent))
sending_fails old now new from sent items sending same = (
  length sending.done,
  same ∙ sending.so_far ∙ ap (with_sent old from) (sym (ap (take (length sending.done)) sending.all ∙ take_at sending.done items (length sending.done) refl)),
)

pub on_err : {T E P : Type 0} (r : Result T E) → P → OnErr r P
on_err (Ok x) holds = tt
on_err (Err e) holds = holds

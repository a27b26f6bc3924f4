-- The end of a step, and a commit.
use Rattle.std.proofs.Common.{◌≡◌, ℕ, ◌+◌, ◌≤◌, List, [], ◌∷◌, map, take, drop, length, Bool, true, false, cond, Option, None, refl, sym, ap, ◌∙◌, arith}
use Rattle.std.proofs.lemmas.Bool.Decides.{nat_tests}
use Rattle.std.specs.Prelude.{◌&&◌, nat_le}
use Rattle.std.specs.List.{list_all}
use Rattle.server_holders.proofs.Any.{both_true}
use Rattle.plain_types.specs.declared.entry.Entry.{Entry}
use Rattle.plain_types.specs.declared.history.Sent.{Sent}
use Rattle.plain_journal.specs.Table.{effects_from}
use Rattle.step_table.specs.Acts.{goes, waits, hand_out}
use Rattle.step_table.specs.Messages.{plain_sent}
use Rattle.step_table.specs.ServerRows.{left_with, takes_effect}
use Rattle.step_table.specs.ServerState.{Asked, Server}
use Rattle.mds_state.specs.Parts.{WrittenParts, Parts}
use Rattle.mds_state.specs.Stands.{bare, letter_traces_fit, plain_mail, sent_traces_fit, WrittenStands, StandsFor}

-- what goes and what waits doesn't depend on the traces
plain_goes : (durable : ℕ) (mail : List (ℕ × Sent)) → map plain_sent (goes durable mail) ≡ goes durable (map plain_mail mail)
plain_goes durable [] = refl
plain_goes durable (m ∷ mail) = go (nat_le m.0 durable) (plain_goes durable mail)
  where
    go : (b : Bool) → map plain_sent (goes durable mail) ≡ goes durable (map plain_mail mail) → map plain_sent (cond b (m.1 ∷ goes durable mail) []) ≡ cond b (plain_sent m.1 ∷ goes durable (map plain_mail mail)) []
    go true rest = ap (λ (l : List Sent). plain_sent m.1 ∷ l) rest
    go false rest = refl

plain_waits : (durable : ℕ) (mail : List (ℕ × Sent)) → map plain_mail (waits durable mail) ≡ waits durable (map plain_mail mail)
plain_waits durable [] = refl
plain_waits durable (m ∷ mail) = go (nat_le m.0 durable) (plain_waits durable mail)
  where
    go : (b : Bool) → map plain_mail (waits durable mail) ≡ waits durable (map plain_mail mail) → map plain_mail (cond b (waits durable mail) (m ∷ mail)) ≡ cond b (waits durable (map plain_mail mail)) (plain_mail m ∷ map plain_mail mail)
    go true rest = rest
    go false rest = refl

-- of messages whose traces fit, those of what goes and of what waits do
goes_fit : (durable : ℕ) (mail : List (ℕ × Sent)) → list_all letter_traces_fit mail ≡ true → list_all sent_traces_fit (goes durable mail) ≡ true
goes_fit durable [] all = refl
goes_fit durable (m ∷ mail) all =
    let both = both_true (letter_traces_fit m) (list_all letter_traces_fit mail) all in
    go (nat_le m.0 durable) both.0 (goes_fit durable mail both.1)
  where
    go : (b : Bool) → letter_traces_fit m ≡ true → list_all sent_traces_fit (goes durable mail) ≡ true → list_all sent_traces_fit (cond b (m.1 ∷ goes durable mail) []) ≡ true
    go true first rest = λ i. first i && rest i
    go false first rest = refl

waits_fit : (durable : ℕ) (mail : List (ℕ × Sent)) → list_all letter_traces_fit mail ≡ true → list_all letter_traces_fit (waits durable mail) ≡ true
waits_fit durable [] all = refl
waits_fit durable (m ∷ mail) all =
    let both = both_true (letter_traces_fit m) (list_all letter_traces_fit mail) all in
    go (nat_le m.0 durable) all (waits_fit durable mail both.1)
  where
    go : (b : Bool) → list_all letter_traces_fit (m ∷ mail) ≡ true → list_all letter_traces_fit (waits durable mail) ≡ true → list_all letter_traces_fit (cond b (waits durable mail) (m ∷ mail)) ≡ true
    go true whole rest = rest
    go false whole rest = whole

upto_test : (m n : ℕ) → m ≤ n → nat_le m n ≡ true
upto_test m n h = grind (arith, nat_tests)

-- the first message needn't wait
pub goes_on : (durable : ℕ) (m : ℕ × Sent) (mail : List (ℕ × Sent)) → m.0 ≤ durable → goes durable (m ∷ mail) ≡ m.1 ∷ goes durable mail
goes_on durable m mail low = ap (λ (b : Bool). cond b (m.1 ∷ goes durable mail) []) (upto_test m.0 durable low)

pub waits_on : (durable : ℕ) (m : ℕ × Sent) (mail : List (ℕ × Sent)) → m.0 ≤ durable → waits durable (m ∷ mail) ≡ waits durable mail
waits_on durable m mail low = ap (λ (b : Bool). cond b (waits durable mail) (m ∷ mail)) (upto_test m.0 durable low)

module _ (p : Parts) (taken : Option Asked) (s : Server) (stands : StandsFor p taken s) where
  pub sent_is : map plain_sent (goes p.written.durable p.mail) ≡ (hand_out s).sent
  sent_is = plain_goes p.written.durable p.mail ∙ (λ i. goes (stands.written.durable i) (stands.mail i))

  -- all traces in it fit
  pub sent_fits : list_all sent_traces_fit (goes p.written.durable p.mail) ≡ true
  sent_fits = goes_fit p.written.durable p.mail stands.traces

  pub handed_out : StandsFor (record p { mail = waits p.written.durable p.mail }) None (hand_out s).state
  handed_out = record {
    clients = stands.clients;
    written = stands.written;
    sessions = stands.sessions;
    tenures = stands.tenures;
    mail = plain_waits p.written.durable p.mail ∙ (λ i. waits (stands.written.durable i) (stands.mail i));
    traces = waits_fit p.written.durable p.mail stands.traces;
    hand = refl;
    held = stands.held;
    deferred = stands.deferred;
    operation = stands.operation;
    purging = stands.purging;
    deleting = stands.deleting;
  }

  whole : (A : Type 0) → (xs : List A) → take (length xs) xs ≡ xs
  whole A [] = refl
  whole A (x ∷ xs) = ap (λ (l : List A). x ∷ l) (whole A xs)

  pub effects_are : effects_from (p.written.durable + 1) p.written.buffered ≡ takes_effect s (length s.entries)
  effects_are =
      (λ i. effects_from (stands.written.durable i + 1) (stands.written.buffered i))
      ∙ ap (λ (es : List Entry). effects_from (s.durable + 1) (drop s.durable es)) (sym (whole Entry s.entries))

  pub commits : (w : WrittenParts) → WrittenStands w s.clients s.entries (length s.entries) → StandsFor (record p { written = w }) taken (record s { durable = length s.entries })
  commits w written = record {
    clients = stands.clients;
    written = written;
    sessions = stands.sessions;
    tenures = stands.tenures;
    mail = stands.mail;
    traces = stands.traces;
    hand = stands.hand;
    held = stands.held;
    deferred = stands.deferred;
    operation = stands.operation;
    purging = stands.purging;
    deleting = stands.deleting;
  }

-- what is left after a restart, by the entries that survived
pub left_is : (s : Server) (clients : ℕ) (done entries : List Entry) → s.clients ≡ clients → done ≡ entries → take (length entries) s.entries ≡ entries → record (bare clients done []) { durable = length done } ≡ left_with s (length entries)
left_is s clients done entries same whole front = λ i. record (bare (sym same i) ((whole ∙ sym front) i) []) { durable = length (whole i) }

-- Channels and the list of clients, seen from one client.
use Rattle.std.proofs.Common.{◌≡◌, ℕ, List, [], ◌∷◌, ◌++◌, map, Bool, true, false, cond, Option, None, Some, refl, sym, ap, ◌∙◌, IfSome, arith, append_assoc}
use Rattle.std.proofs.lemmas.List.{map-append}
use Rattle.std.proofs.lemmas.List.Elements.{filter_map-append}
use Rattle.std.proofs.lemmas.Bool.Decides.{nat_tests}
use Rattle.std.specs.Prelude.{◌==◌, nat_le}
use Rattle.plain_types.specs.declared.history.Sent.{Sent}
use Rattle.plain_types.specs.declared.message.ToClient.{ToClient}
use Rattle.step_table.specs.Acts.{goes, waits}
use Rattle.step_table.specs.ClientState.{Client}
use Rattle.step_table.specs.World.{pop, client, put, told_to, to_clients, tagged}
use Rattle.run_laws.specs.Links.{mine, mail_of}

itself : (n : ℕ) → (n == n) ≡ true
itself n = grind (arith, nat_tests)

pub mine_append : {M : Type 0} (n : ℕ) (ps qs : List (ℕ × M)) → mine n (ps ++ qs) ≡ mine n ps ++ mine n qs
mine_append n [] qs = refl
mine_append {M} n (p ∷ ps) qs = by_test (p.0 == n) (mine_append n ps qs)
  where
    by_test : (b : Bool) → mine n (ps ++ qs) ≡ mine n ps ++ mine n qs → cond b (p.1 ∷ mine n (ps ++ qs)) (mine n (ps ++ qs)) ≡ cond b (p.1 ∷ mine n ps) (mine n ps) ++ mine n qs
    by_test true e = ap (λ (l : List M). p.1 ∷ l) e
    by_test false e = e

pub mine_tagged : {M : Type 0} (n : ℕ) (ms : List M) → mine n (tagged n ms) ≡ ms
mine_tagged n [] = refl
mine_tagged n (m ∷ ms) = rw (itself n, mine_tagged n ms) refl

pub mine_other : {M : Type 0} (n x : ℕ) (ms : List M) → (x == n) ≡ false → mine n (tagged x ms) ≡ []
mine_other n x [] other = refl
mine_other n x (m ∷ ms) other = rw other (mine_other n x ms other)

-- a pop takes the head of its own channel, and leaves every other
abbrev pub IsHead : {M : Type 0} → ℕ → List (ℕ × M) → M × List (ℕ × M) → Type 0
IsHead n channels found = (mine n channels ≡ found.0 ∷ mine n found.1) × ((x : ℕ) → (n == x) ≡ false → mine x found.1 ≡ mine x channels)

pub popped : {M : Type 0} (n : ℕ) (channels : List (ℕ × M)) → IfSome (pop n channels) (IsHead n channels)
popped n [] = tt
popped {M} n (p ∷ channels) = by_test (p.0 == n) refl (popped n channels)
  where
    behind : (p.0 == n) ≡ false → (o : Option (M × List (ℕ × M))) → IfSome o (IsHead n channels) → IfSome (elim o [ None ↦ None | Some found ↦ Some (found.0, p ∷ found.1) ]) (IsHead n (p ∷ channels))
    behind test None head = tt
    behind test (Some found) head = (rw test head.0, λ x other. keep (p.0 == x) x (head.1 x other))
      where
        keep : (b : Bool) (x : ℕ) → mine x found.1 ≡ mine x channels → cond b (p.1 ∷ mine x found.1) (mine x found.1) ≡ cond b (p.1 ∷ mine x channels) (mine x channels)
        keep true x e = ap (λ (l : List M). p.1 ∷ l) e
        keep false x e = e

    by_test : (b : Bool) → (p.0 == n) ≡ b → IfSome (pop n channels) (IsHead n channels) → IfSome (elim b [ true ↦ Some (p.1, channels) | false ↦ elim (pop n channels) [ None ↦ None | Some found ↦ Some (found.0, p ∷ found.1) ] ]) (IsHead n (p ∷ channels))
    by_test true test rest = (rw test refl, λ x other. rw (not_it x other) refl)
      where
        not_it : (x : ℕ) → (n == x) ≡ false → (p.0 == x) ≡ false
        not_it x other = grind (arith, nat_tests, test, other)
    by_test false test rest = behind test (pop n channels) rest

-- the clients
pub put_same : (n : ℕ) (clients : List (ℕ × Client)) (new : Client) (P : Client → Type 0) → P new → IfSome (client (put clients n new) n) P
put_same n [] new P holds = tt
put_same n (c ∷ clients) new P holds = by_test (c.0 == n) (put_same n clients new P holds)
  where
    by_test : (b : Bool) → IfSome (client (put clients n new) n) P → IfSome (cond b (Some (cond b new c.1)) (client (put clients n new) n)) P
    by_test true rest = holds
    by_test false rest = rest

pub put_other : (n x : ℕ) (clients : List (ℕ × Client)) (new : Client) → (n == x) ≡ false → client (put clients n new) x ≡ client clients x
put_other n x [] new other = refl
put_other n x (c ∷ clients) new other = by_test (c.0 == x) refl (put_other n x clients new other)
  where
    not_it : (c.0 == x) ≡ true → (c.0 == n) ≡ false
    not_it is = grind (arith, nat_tests, is, other)

    by_test : (b : Bool) → (c.0 == x) ≡ b → client (put clients n new) x ≡ client clients x → cond b (Some (cond (c.0 == n) new c.1)) (client (put clients n new) x) ≡ cond b (Some c.1) (client clients x)
    by_test true is e = rw (not_it is) refl
    by_test false is e = e

-- the mail
pub clients_append : (ps qs : List Sent) → to_clients (ps ++ qs) ≡ to_clients ps ++ to_clients qs
clients_append ps qs = filter_map-append (λ (m : Sent). told_to m.to m.message) ps qs

pub mail_append : (n : ℕ) (ms ns : List (ℕ × Sent)) → mail_of n (ms ++ ns) ≡ mail_of n ms ++ mail_of n ns
mail_append n ms ns = ap (λ (l : List Sent). mine n (to_clients l)) (map-append (λ (m : ℕ × Sent). m.1) ms ns) ∙ ap (mine n) (clients_append (map (λ (m : ℕ × Sent). m.1) ms) (map (λ (m : ℕ × Sent). m.1) ns)) ∙ mine_append n (to_clients (map (λ (m : ℕ × Sent). m.1) ms)) (to_clients (map (λ (m : ℕ × Sent). m.1) ns))

split : (d : ℕ) (mail : List (ℕ × Sent)) → map (λ (m : ℕ × Sent). m.1) mail ≡ goes d mail ++ map (λ (m : ℕ × Sent). m.1) (waits d mail)
split d [] = refl
split d (m ∷ mail) = by_test (nat_le m.0 d) (split d mail)
  where
    by_test : (b : Bool) → map (λ (m : ℕ × Sent). m.1) mail ≡ goes d mail ++ map (λ (m : ℕ × Sent). m.1) (waits d mail) → m.1 ∷ map (λ (m : ℕ × Sent). m.1) mail ≡ cond b (m.1 ∷ goes d mail) [] ++ map (λ (m : ℕ × Sent). m.1) (cond b (waits d mail) (m ∷ mail))
    by_test true e = ap (λ (l : List Sent). m.1 ∷ l) e
    by_test false e = refl

-- what goes and what waits is the mail
pub mail_split : (n d : ℕ) (down : List ToClient) (mail : List (ℕ × Sent)) → down ++ mail_of n mail ≡ (down ++ mine n (to_clients (goes d mail))) ++ mail_of n (waits d mail)
mail_split n d down mail =
    ap (λ (l : List Sent). down ++ mine n (to_clients l)) (split d mail)
    ∙ ap (λ (l : List (ℕ × ToClient)). down ++ mine n l) (clients_append (goes d mail) (map (λ (m : ℕ × Sent). m.1) (waits d mail)))
    ∙ ap (λ (l : List ToClient). down ++ l) (mine_append n (to_clients (goes d mail)) (to_clients (map (λ (m : ℕ × Sent). m.1) (waits d mail))))
    ∙ sym (append_assoc down (mine n (to_clients (goes d mail))) (mail_of n (waits d mail)))

-- The sessions after a connection, a restart and an entry.
use Rattle.std.proofs.Common.{◌≡◌, ℕ, zero, suc, ◌+◌, ◌-◌, ◌<◌, ◌≤◌, Bool, true, false, ◌&&◌, ◌==◌, cond, nat_lt, List, [], ◌∷◌, ◌++◌, map, fold, length, take, set, get_or, replicate, Option, None, Some, refl, sym, ap, subst, ◌∙◌, arith, append_assoc}
use Rattle.std.proofs.lemmas.Bool.{eqb-true}
use Rattle.std.proofs.lemmas.Bool.Decides.{nat_tests}
use Rattle.std.proofs.lemmas.List.{append-nil}
use Rattle.std.proofs.lemmas.List.Sums.{fold-append}
use Rattle.plain_types.specs.declared.answer.Answer.{Answer}
use Rattle.plain_types.specs.declared.change.Change.{Change}
use Rattle.plain_types.specs.declared.entry.Entry.{Entry}
use Rattle.plain_types.specs.declared.entry.What.{What}
use Rattle.plain_types.specs.declared.entry.What.TheVariants as what
use Rattle.plain_journal.specs.Entries.{change_in}
use Rattle.plain_journal.specs.Table.{answer_kept, last_effect, is_flush, last_flush}
use Rattle.session_link.specs.Sessions as sessions
use Rattle.session_link.specs.Sessions.{Completed, Link, first, kept_for}
use Rattle.step_table.specs.ServerState.{Asked, Server, up_to, number_of, connection, is_current, new_server}
use Rattle.step_table.specs.Requests.{kept_for as kept_of, kept_answer}
use Rattle.step_table.specs.Flushes.{connected}
use Rattle.step_table.specs.ServerRows.{left_with}
use Rattle.server_sessions.specs.Sessions.{completed_of, session_of, SessionsStand}
use Rattle.server_sessions.specs.Calls.{at_client, with_session, connected_at, lost, effect_noted, noted, called, IsOf, AllOf, Enters, sessions_from}
use Rattle.server_sessions.proofs.Places.{as_many_of, found_at, same_upto, all_one, mapped, one_set}

-- what is read off a session
number_current : (o : Option ℕ) (conn : ℕ) → (o ≡ Some 0 → ⊥) → (nat_lt 0 conn && conn == elim o [ None ↦ 0 | Some number ↦ number ]) ≡ elim o as (λ _. Bool) [ None ↦ false | Some number ↦ number == conn ]
number_current None conn numbered = go conn
  where
    go : (conn : ℕ) → (nat_lt 0 conn && conn == 0) ≡ false
    go conn = grind (arith, nat_tests)
number_current (Some zero) conn numbered = absurd (numbered refl)
number_current (Some (suc number)) conn numbered = go conn
  where
    go : (conn : ℕ) → (nat_lt 0 conn && conn == suc number) ≡ (suc number == conn)
    go conn = grind (arith, nat_tests)

pub same_current : (s : Server) (client conn : ℕ) → (number_of s.current client ≡ Some 0 → ⊥) → sessions.is_current (session_of s client) conn ≡ is_current s client conn
same_current s client conn numbered = number_current (number_of s.current client) conn numbered

same_kept : (tid : ℕ) (kept : Option (ℕ × Answer)) → kept_for tid (completed_of kept) ≡ kept_of tid kept
same_kept tid None = refl
same_kept tid (Some kept) = refl

pub same_answer : (s : Server) (a : Asked) → kept_for a.tid (session_of s a.client).completed ≡ kept_answer s a
same_answer s a = same_kept a.tid (last_effect s.entries a.client)

-- before anything was said
first_number : (clients : List ℕ) (client : ℕ) → number_of (map (λ c. (c, 1)) clients) client ≡ Some 0 → ⊥
first_number [] client is = cc
first_number (c ∷ clients) client is = go (c == client) is (first_number clients client)
  where
    go : (b : Bool) → cond b (Some 1) (number_of (map (λ c. (c, 1)) clients) client) ≡ Some 0 → (number_of (map (λ c. (c, 1)) clients) client ≡ Some 0 → ⊥) → ⊥
    go true is rest = cc
    go false is rest = rest is

found_number : (client : ℕ) (clients more : List ℕ) → number_of (map (λ c. (c, 1)) clients) client ≡ Some 1 → number_of (map (λ c. (c, 1)) (clients ++ more)) client ≡ Some 1
found_number client [] more is = cc
found_number client (c ∷ clients) more is = go (c == client) is (found_number client clients more)
  where
    go : (b : Bool) → cond b (Some 1) (number_of (map (λ c. (c, 1)) clients) client) ≡ Some 1 → (number_of (map (λ c. (c, 1)) clients) client ≡ Some 1 → number_of (map (λ c. (c, 1)) (clients ++ more)) client ≡ Some 1) → cond b (Some 1) (number_of (map (λ c. (c, 1)) (clients ++ more)) client) ≡ Some 1
    go true is rest = refl
    go false is rest = rest is

last_number : (client : ℕ) (clients : List ℕ) → number_of (map (λ c. (c, 1)) (clients ++ client ∷ [])) client ≡ Some 1
last_number client [] = let same : (client == client) ≡ true = grind (arith, nat_tests) in rw same refl
last_number client (c ∷ clients) = go (c == client) (last_number client clients)
  where
    go : (b : Bool) → number_of (map (λ c. (c, 1)) (clients ++ client ∷ [])) client ≡ Some 1 → cond b (Some 1) (number_of (map (λ c. (c, 1)) (clients ++ client ∷ [])) client) ≡ Some 1
    go true rest = refl
    go false rest = rest

one_for_each : (n client : ℕ) → 1 ≤ client → client ≤ n → number_of (map (λ c. (c, 1)) (up_to n)) client ≡ Some 1
one_for_each zero client from_one upto = absurd (omega (arith, from_one, upto))
one_for_each (suc n) client from_one upto = go (client == n + 1) refl (λ below. one_for_each n client from_one below)
  where
    go : (b : Bool) → (client == n + 1) ≡ b → (client ≤ n → number_of (map (λ c. (c, 1)) (up_to n)) client ≡ Some 1) → number_of (map (λ c. (c, 1)) (up_to n ++ (n + 1) ∷ [])) client ≡ Some 1
    go true is before = subst (λ (c : ℕ). number_of (map (λ c. (c, 1)) (up_to n ++ c ∷ [])) client ≡ Some 1) (eqb-true client (n + 1) is) (last_number client (up_to n))
    go false is before = found_number client (up_to n) ((n + 1) ∷ []) (before (grind (arith, nat_tests)))

pub first_stand : (n : ℕ) → SessionsStand (replicate n first) (new_server n)
first_stand n = record {
  each = all_one first n ∙ same_upto (λ c. first) (session_of (new_server n)) n (λ c from_one upto. sym (ap (λ (o : Option ℕ). let link : Link = record { current = elim o [ None ↦ 0 | Some number ↦ number ]; completed = None; last_flush = 0 } in link) (one_for_each n c from_one upto)));
  numbered = first_number (up_to n);
}

-- each client's session
pub session_found : (links : List Link) (s : Server) (client : ℕ) → SessionsStand links s → 1 ≤ client → client ≤ s.clients → at_client links client ≡ session_of s client
session_found links s client stands from_one upto =
    ap (λ (xs : List Link). get_or xs (client - 1) first) stands.each ∙ found_at (session_of s) first s.clients client from_one upto

pub sessions_len : (links : List Link) (s : Server) → SessionsStand links s → length links ≡ s.clients
sessions_len links s stands = ap (λ (xs : List Link). length xs) stands.each ∙ as_many_of (session_of s) s.clients

-- one session changes
changed_one : (links : List Link) (s new : Server) (client : ℕ) (change : Link → Link) → SessionsStand links s → 1 ≤ client → client ≤ s.clients → session_of new client ≡ change (session_of s client) → ((c : ℕ) → (client == c) ≡ false → session_of s c ≡ session_of new c) → with_session client change links ≡ map (session_of new) (up_to s.clients)
changed_one links s new client change stands from_one upto own other =
    (λ i. set (stands.each i) (client - 1) (change (session_found links s client stands from_one upto i)))
    ∙ ap (λ (link : Link). set (map (session_of s) (up_to s.clients)) (client - 1) link) (sym own)
    ∙ one_set (session_of s) (session_of new) s.clients client from_one upto other

-- a connection is taken
pub connection_taken : (links : List Link) (s : Server) (client conn : ℕ) → SessionsStand links s → 1 ≤ client → client ≤ s.clients → connection s client < conn → SessionsStand (with_session client (connected_at conn) links) (connected s client conn)
connection_taken links s client conn stands from_one upto above = record {
  each = changed_one links s (connected s client conn) client (connected_at conn) stands from_one upto own other;
  numbered = λ c is. go c (client == c) is;
}
  where
    -- a session, by whether the new connection is its
    at_number : ℕ → Bool → Link
    at_number c b = record { current = elim (cond b (Some conn) (number_of s.current c)) [ None ↦ 0 | Some number ↦ number ]; completed = completed_of (last_effect s.entries c); last_flush = last_flush s.entries c }

    own : session_of (connected s client conn) client ≡ connected_at conn (session_of s client)
    own = let same : (client == client) ≡ true = grind (arith, nat_tests) in ap (at_number client) same

    other : (c : ℕ) → (client == c) ≡ false → session_of s c ≡ session_of (connected s client conn) c
    other c off = sym (ap (at_number c) off)

    go : (c : ℕ) (b : Bool) → cond b (Some conn) (number_of s.current c) ≡ Some 0 → ⊥
    go c true is = let zero_is : conn ≡ 0 = cc in absurd (omega (arith, above, zero_is))
    go c false is = stands.numbered c is

-- all connections are lost
pub connections_lost : (links : List Link) (s : Server) → SessionsStand links s → SessionsStand (map lost links) (left_with s (length s.entries))
connections_lost links s stands = record {
  each = ap (λ (xs : List Link). map lost xs) stands.each ∙ mapped (session_of s) lost (up_to s.clients) ∙ same_upto (λ c. lost (session_of s c)) (session_of (left_with s (length s.entries))) s.clients (λ c from_one upto. sym (ap (λ (entries : List Entry). let link : Link = record { current = 0; completed = completed_of (last_effect entries c); last_flush = last_flush entries c } in link) (all_taken s.entries)));
  numbered = λ c is. cc;
}
  where
    all_taken : (entries : List Entry) → take (length entries) entries ≡ entries
    all_taken [] = refl
    all_taken (e ∷ entries) = ap (λ (xs : List Entry). e ∷ xs) (all_taken entries)

-- a flush says no change
no_change : (w : What) → is_flush w ≡ true → change_in w ≡ None
no_change (what.Settle ino follows upto size) is = refl
no_change (what.Release ino follows size) is = refl
no_change w is = cc

-- what one more entry says of a session
by_client : (b f : Bool) (c : Option Change) (number current last : ℕ) (before : Option (ℕ × Answer)) → (f ≡ true → c ≡ None) → (let link : Link = record { current = current; completed = completed_of (cond b (answer_kept c number before) before); last_flush = cond (f && b) number last } in link) ≡ (let old : Link = record { current = current; completed = completed_of before; last_flush = last } in cond b (cond f (record old { last_flush = number }) (effect_noted c number old)) old)
by_client true true None number current last before none = refl
by_client true true (Some change) number current last before none = let never = none refl in cc
by_client true false None number current last before none = refl
by_client true false (Some change) number current last before none = refl
by_client false true c number current last before none = refl
by_client false false c number current last before none = refl

module _ (s new : Server) (e : Entry) (enters : Enters e s new) where
  session_more : (client : ℕ) → session_of new client ≡ cond (e.client == client) (noted e (session_of s client)) (session_of s client)
  session_more client =
      (λ i. let link : Link = record { current = elim (number_of (enters.current i) client) [ None ↦ 0 | Some number ↦ number ]; completed = completed_of (effects i); last_flush = flushes i } in link)
      ∙ by_client (e.client == client) (is_flush e.what) (change_in e.what) e.number (connection s client) (last_flush s.entries client) (last_effect s.entries client) (no_change e.what)
    where
      effects : last_effect new.entries client ≡ cond (e.client == client) (answer_kept (change_in e.what) e.number (last_effect s.entries client)) (last_effect s.entries client)
      effects = ap (λ (entries : List Entry). last_effect entries client) enters.entries ∙ fold-append (λ (before : Option (ℕ × Answer)) (entry : Entry). cond (entry.client == client) (answer_kept (change_in entry.what) entry.number before) before) None s.entries (e ∷ [])

      flushes : last_flush new.entries client ≡ cond (is_flush e.what && e.client == client) e.number (last_flush s.entries client)
      flushes = ap (λ (entries : List Entry). last_flush entries client) enters.entries ∙ fold-append (λ before (entry : Entry). cond (is_flush entry.what && entry.client == client) entry.number before) 0 s.entries (e ∷ [])

  numbered_still : ((client : ℕ) → number_of s.current client ≡ Some 0 → ⊥) → (client : ℕ) → number_of new.current client ≡ Some 0 → ⊥
  numbered_still numbered client is = numbered client (subst (λ (current : List (ℕ × ℕ)). number_of current client ≡ Some 0) enters.current is)

  -- an entry that says nothing of sessions
  says_nothing : is_flush e.what ≡ false → change_in e.what ≡ None → (link : Link) → noted e link ≡ link
  says_nothing no_flush none link =
      ap (λ (b : Bool). cond b (record link { last_flush = e.number }) (effect_noted (change_in e.what) e.number link)) no_flush
      ∙ ap (λ (c : Option Change). effect_noted c e.number link) none

  either_way : (link : Link) (b : Bool) → noted e link ≡ link → cond b (noted e link) link ≡ link
  either_way link true same = same
  either_way link false same = refl

  pub sessions_stay : (links : List Link) → SessionsStand links s → is_flush e.what ≡ false → change_in e.what ≡ None → SessionsStand links new
  sessions_stay links stands no_flush none = record {
    each = stands.each ∙ same_upto (session_of s) (session_of new) s.clients (λ c from_one upto. sym (session_more c ∙ either_way (session_of s c) (e.client == c) (says_nothing no_flush none (session_of s c)))) ∙ ap (λ (n : ℕ). map (session_of new) (up_to n)) (sym enters.clients);
    numbered = numbered_still stands.numbered;
  }

  of_client : (links : List Link) → SessionsStand links s → 1 ≤ e.client → e.client ≤ s.clients → SessionsStand (with_session e.client (noted e) links) new
  of_client links stands from_one upto = record {
    each = changed_one links s new e.client (noted e) stands from_one upto own other ∙ ap (λ (n : ℕ). map (session_of new) (up_to n)) (sym enters.clients);
    numbered = numbered_still stands.numbered;
  }
    where
      own : session_of new e.client ≡ noted e (session_of s e.client)
      own = let same : (e.client == e.client) ≡ true = grind (arith, nat_tests) in session_more e.client ∙ ap (λ (b : Bool). cond b (noted e (session_of s e.client)) (session_of s e.client)) same

      other : (c : ℕ) → (e.client == c) ≡ false → session_of s c ≡ session_of new c
      other c off = sym (session_more c ∙ ap (λ (b : Bool). cond b (noted e (session_of s c)) (session_of s c)) off)

  pub entry_leads : (links : List Link) → SessionsStand links s → IsOf s.clients e → SessionsStand (called e links) new
  entry_leads links stands is = go (e.client == 0) refl
    where
      go : (b : Bool) → (e.client == 0) ≡ b → SessionsStand (cond b links (with_session e.client (noted e) links)) new
      go true none = let said = is.1 (eqb-true e.client 0 none) in sessions_stay links stands said.0 said.1
      go false some = of_client links stands (grind (arith, nat_tests)) is.0

-- the sessions are found again from the entries
again : (s : Server) (done left : List Entry) (links : List Link) → SessionsStand links (record s { current = []; entries = done }) → AllOf s.clients left → SessionsStand (fold (λ (links : List Link) (e : Entry). called e links) links left) (record s { current = []; entries = done ++ left })
again s done [] links stands all = subst (λ (entries : List Entry). SessionsStand links (record s { current = []; entries = entries })) (sym (append-nil done)) stands
again s done (e ∷ left) links stands all =
    subst (λ (entries : List Entry). SessionsStand (fold (λ (links : List Link) (e : Entry). called e links) (called e links) left) (record s { current = []; entries = entries })) (append_assoc done (e ∷ []) left)
    (again s (done ++ e ∷ []) left (called e links)
    (entry_leads (record s { current = []; entries = done }) (record s { current = []; entries = done ++ e ∷ [] }) e (record { clients = refl; current = refl; entries = refl }) links stands all.0)
    all.1)

pub found_again : (s : Server) (upto : ℕ) → AllOf s.clients (take upto s.entries) → SessionsStand (sessions_from s.clients (take upto s.entries)) (left_with s upto)
found_again s upto all =
    again (left_with s upto) [] (take upto s.entries) (replicate s.clients (lost first)) (record {
      each = all_one (lost first) s.clients;
      numbered = λ c is. cc;
    }) all

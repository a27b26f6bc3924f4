-- What is read off the clients' sessions.
use Rattle.std.proofs.Common.{◌≡◌, ℕ, zero, suc, ◌≤◌, List, [], ◌∷◌, map, Bool, true, false, not, Option, None, Some, refl, sym, ap, subst, ◌∙◌, arith}
use Rattle.std.proofs.lemmas.Bool.{eqb-true}
use Rattle.std.proofs.lemmas.Bool.Decides.{nat_tests}
use Rattle.std.specs.Prelude.{◌&&◌, ◌==◌, is_some, if◌then◌else◌}
use Rattle.std.specs.List.{list_all}
use Rattle.plain_journal.specs.Table.{last_flush}
use Rattle.session_link.specs.Sessions as sessions
use Rattle.session_link.specs.Sessions.{Link, kept_for}
use Rattle.server_sessions.specs.Calls.{at_client}
use Rattle.server_sessions.specs.Sessions.{session_of}
use Rattle.server_sessions.proofs.Steps.{same_current, same_answer, session_found}
use Rattle.step_table.specs.Requests.{kept_answer}
use Rattle.step_table.specs.ServerState.{Asked, Server, up_to, number_of, all_connected, is_current, connection}
use Rattle.mds_state.specs.Parts.{Parts}
use Rattle.mds_state.specs.Stands.{bare, StandsFor}

some_number : (o : Option ℕ) → (o ≡ Some 0 → ⊥) → not ((elim o as (λ _. ℕ) [ None ↦ 0 | Some number ↦ number ]) == 0) ≡ is_some o
some_number None above = refl
some_number (Some zero) above = absurd (above refl)
some_number (Some (suc n)) above = go n
  where
    go : (n : ℕ) → not (suc n == 0) ≡ true
    go n = grind (arith, nat_tests)

number_by : (o : Option ℕ) (n : ℕ) → (o ≡ Some 0 → ⊥) → n ≡ (elim o as (λ _. ℕ) [ None ↦ 0 | Some number ↦ number ]) → (n ≡ 0 → o ≡ None) × ((n ≡ 0 → ⊥) → o ≡ Some n)
number_by None n above is = ((λ none. refl), (λ some. absurd (some is)))
number_by (Some m) n above is = ((λ none. absurd (above (ap Some (sym is ∙ none)))), (λ some. ap Some (sym is)))

all_of : (f : Link → Bool) (g : ℕ → Link) (h : ℕ → Bool) → ((c : ℕ) → f (g c) ≡ h c) → (clients : List ℕ) → list_all f (map g clients) ≡ list_all h clients
all_of f g h same [] = refl
all_of f g h same (c ∷ clients) = λ i. same c i && all_of f g h same clients i

-- the session has a connection
abbrev pub has_connection : Link → Bool
has_connection link = not (link.current == 0)

module _ (p : Parts) (taken : Option Asked) (s : Server) (stands : StandsFor p taken s) where
  abbrev seen : Server
  seen = bare s.clients s.entries s.current

  pub all_connected_is : list_all has_connection p.sessions ≡ all_connected s
  all_connected_is =
      ap (list_all has_connection) stands.sessions.each
      ∙ all_of has_connection (session_of seen) (λ c. is_some (number_of s.current c)) (λ c. some_number (number_of s.current c) (stands.sessions.numbered c)) (up_to s.clients)

  module _ (client : ℕ) (from_one : 1 ≤ client) (upto : client ≤ p.clients) (link : Link) (is : link ≡ at_client p.sessions client) where
    link_is : link ≡ session_of seen client
    link_is = is ∙ session_found p.sessions seen client stands.sessions from_one (subst (λ (n : ℕ). client ≤ n) stands.clients upto)

    pub current_is : (conn : ℕ) → sessions.is_current link conn ≡ is_current s client conn
    current_is conn = ap (λ (l : Link). sessions.is_current l conn) link_is ∙ same_current seen client conn (stands.sessions.numbered client)

    pub connection_is : link.current ≡ connection s client
    connection_is = ap (λ (l : Link). l.current) link_is

    pub flushed_is : link.last_flush ≡ last_flush s.entries client
    flushed_is = ap (λ (l : Link). l.last_flush) link_is

    pub kept_is : (a : Asked) → a.client ≡ client → kept_for a.tid link.completed ≡ kept_answer s a
    kept_is a whose = ap (λ (l : Link). kept_for a.tid l.completed) (link_is ∙ ap (session_of seen) (sym whose)) ∙ same_answer seen a

  -- the number of a connection
  pub number_is : (client conn : ℕ) → conn ≡ connection s client → (if conn == 0 then None else Some conn) ≡ number_of s.current client
  number_is client conn is = go (conn == 0) refl
    where
      by : (conn ≡ 0 → number_of s.current client ≡ None) × ((conn ≡ 0 → ⊥) → number_of s.current client ≡ Some conn)
      by = number_by (number_of s.current client) conn (stands.sessions.numbered client) is

      go : (b : Bool) → (conn == 0) ≡ b → (if b then None else Some conn) ≡ number_of s.current client
      go true none = sym (by.0 (eqb-true conn 0 none))
      go false some = sym (by.1 (λ none. let never : (0 == 0) ≡ false = ap (λ n. n == 0) (sym none) ∙ some in cc))

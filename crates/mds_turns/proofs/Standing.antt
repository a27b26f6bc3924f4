-- What the parts stand for after acts.
use Rattle.std.proofs.Common.{◌≡◌, ℕ, ◌+◌, List, [], ◌∷◌, ◌++◌, filter, Bool, true, false, cond, Option, None, Some, refl, sym, ap, subst, ◌∙◌, add-one, arith}
use Rattle.std.proofs.lemmas.Grind.{flat_map-append}
use Rattle.std.specs.Prelude.{◌==◌, flat_map}
use Rattle.std.proofs.lemmas.Bool.Decides.{nat_tests}
use Rattle.std.specs.List.{list_any}
use Rattle.plain_types.specs.declared.answer.Answer.TheVariants.{Done}
use Rattle.step_table.specs.Acts.{Act, TakeHeld, act, acts, answer_hand, first_of, of_client}
use Rattle.step_table.specs.Background.{open_to}
use Rattle.step_table.specs.Requests.{opens}
use Rattle.step_table.specs.ServerState.{Asked, Server, up_to}
use Rattle.mds_state.specs.Acted.{Acted, Stands}
use Rattle.mds_state.specs.Parts.{Parts}
use Rattle.mds_state.specs.Stands.{IsState, StandsFor}
use Rattle.mds_asks.proofs.Acting.{acts_joined, stands_so}
use Rattle.mds_turns.specs.Turned.{passing, IsAt, Turned}

-- a client has no held request
pub none_taken : (p : Parts) (s : Server) (client : ℕ) (o : Option Asked) → o ≡ None → StandsFor p o (act s (TakeHeld client)) → Stands p (acts s (open_to client))
none_taken p s client o is stands =
    let t = act s (TakeHeld client) in
    let none : t.hand ≡ None = stands.hand ∙ is in
    subst (Stands p) (sym (ap (answer_hand t Done) none)) (stands_so p o t stands)

-- a held request that is taken is the client's
of_them : (client : ℕ) (xs : List Asked) (a : Asked) → first_of (filter (of_client client) xs) ≡ Some a → a.client ≡ client
of_them client [] a is = cc
of_them client (x ∷ xs) a is = by_test (x.client == client) refl is (of_them client xs a)
  where
    by_test : (b : Bool) → (x.client == client) ≡ b → first_of (cond b (x ∷ filter (of_client client) xs) (filter (of_client client) xs)) ≡ Some a → (first_of (filter (of_client client) xs) ≡ Some a → a.client ≡ client) → a.client ≡ client
    by_test true test one rest =
        let same : x ≡ a = cc in
        let mine_it : x.client ≡ client = grind (arith, nat_tests, test) in
        ap (λ (y : Asked). y.client) (sym same) ∙ mine_it
    by_test false test one rest = rest one

pub taken_of : (p : Parts) (s : Server) (client : ℕ) (o : Option Asked) (a : Asked) → o ≡ Some a → StandsFor p o (act s (TakeHeld client)) → a.client ≡ client
taken_of p s client o a is stands = of_them client s.held a (stands.hand ∙ is)

-- one client more
pub opened_more : (n : ℕ) (s : Server) → acts s (flat_map open_to (up_to (n + 1))) ≡ acts (acts s (flat_map open_to (up_to n))) (open_to (n + 1))
opened_more n s =
    ap (λ (m : ℕ). acts s (flat_map open_to (up_to m))) (add-one n)
    ∙ ap (acts s) (flat_map-append open_to (up_to n) ((n + 1) ∷ []))
    ∙ acts_joined s (flat_map open_to (up_to n)) (open_to (n + 1))

-- a barrier that is passed opens nothing
opens_none : (xs : List ℕ) → list_any opens (flat_map open_to xs) ≡ false
opens_none [] = refl
opens_none (x ∷ xs) = opens_none xs

pub passing_opens : (s : Server) (number : ℕ) → list_any opens (passing s number) ≡ false
passing_opens s number = opens_none (up_to s.clients)

-- it is passed or not
pub not_passed : (p : Parts) (s : Server) (b : Bool) (list : List Act) → b ≡ false → Stands p s → Turned p s (cond b (Some list) None) None
not_passed p s true list is stands = cc
not_passed p s false list is stands = stands

pub passed : (p : Parts) (s : Server) (b : Bool) (list : List Act) → b ≡ true → Acted p s list false → Turned p s (cond b (Some list) None) (Some false)
passed p s true list is acted = acted
passed p s false list is acted = cc

pub as_state : (p : Parts) → IsAt p → IsState p
as_state p at = record { taken = at.state.hand; state = at.state; stands = at.stands }

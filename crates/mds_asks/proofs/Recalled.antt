-- Clients that are asked one after another to give a file back.
use Rattle.std.proofs.Common.{◌≡◌, ◌≤◌, ℕ, zero, suc, ◌+◌, List, [], ◌∷◌, ◌++◌, map, filter, Bool, true, false, cond, Option, None, Some, refl, sym, ap, subst, ◌∙◌, arith}
use Rattle.std.proofs.lemmas.Bool.Decides.{nat_tests}
use Rattle.std.proofs.lemmas.List.Folds.{list_any-append}
use Rattle.std.specs.Prelude.{◌||◌, ◌&&◌, ◌==◌, if◌then◌else◌}
use Rattle.std.specs.List.{list_any}
use Rattle.snap_ids.specs.declared.id.Ino.{Ino}
use Rattle.step_table.specs.Acts.{MarkRecalled, TellRecall, act, acts, recalled}
use Rattle.step_table.specs.Capabilities.{is_recalled, recall, recalls}
use Rattle.step_table.specs.Requests.{opens}
use Rattle.step_table.specs.ServerState.{Asked, Holder, Server, Told, WantedBack, is_holder, number_of, tell, tell_at, up_to}
use Rattle.mds_state.specs.Parts.{Parts}
use Rattle.mds_state.specs.Stands.{StandsFor}
use Rattle.mds_asks.specs.Others.{AreOthers}
use Rattle.mds_asks.proofs.Acting.{acts_joined}

-- who is told holds what it held
told_holders : (s : Server) (client : ℕ) (told : Told) → (tell s client told).holders ≡ s.holders
told_holders s client told = go (number_of s.current client)
  where
    go : (o : Option ℕ) → (tell_at s client told o).holders ≡ s.holders
    go None = refl
    go (Some conn) = refl

module _ (ino : Ino) (c d : ℕ) (apart : (d == c) ≡ false) where
  -- the mark of one client isn't another's
  one_mark : (h : Holder) → (is_holder d ino (recalled c ino h) && (recalled c ino h).recalled) ≡ (is_holder d ino h && h.recalled)
  one_mark h = grind (arith, nat_tests)

  other_mark : (holders : List Holder) → list_any (λ (h : Holder). is_holder d ino h && h.recalled) (map (recalled c ino) holders) ≡ list_any (λ (h : Holder). is_holder d ino h && h.recalled) holders
  other_mark [] = refl
  other_mark (h ∷ holders) = λ i. one_mark h i || other_mark holders i

  -- another client's recall leaves a client as it was
  other_recall : (s : Server) → is_recalled (acts s (recall s ino c)) ino d ≡ is_recalled s ino d
  other_recall s = go (is_recalled s ino c)
    where
      go : (b : Bool) → is_recalled (acts s (if b then [] else MarkRecalled c ino ∷ TellRecall c ino ∷ [])) ino d ≡ is_recalled s ino d
      go true = refl
      go false =
          ap (list_any (λ (h : Holder). is_holder d ino h && h.recalled)) (told_holders (act s (MarkRecalled c ino)) c (WantedBack ino))
          ∙ other_mark s.holders

either_false : (a b : Bool) → (a || b) ≡ false → (a ≡ false) × (b ≡ false)
either_false true b none = cc
either_false false b none = (refl, none)

-- after a client's recall the others are recalled as before
pub others_as : (s : Server) (ino : Ino) (c : ℕ) (others : List ℕ) → list_any (λ (other : ℕ). other == c) others ≡ false → recalls (acts s (recall s ino c)) ino others ≡ recalls s ino others
others_as s ino c [] none = refl
others_as s ino c (d ∷ others) none =
    let l = either_false (d == c) (list_any (λ (other : ℕ). other == c) others) none in
    (λ i. (if other_recall ino c d l.0 s i then [] else MarkRecalled d ino ∷ TellRecall d ino ∷ []) ++ others_as s ino c others l.1 i)

-- one client is recalled, and then the others
pub recalled_next : (s : Server) (ino : Ino) (c : ℕ) (others : List ℕ) → list_any (λ (other : ℕ). other == c) others ≡ false → acts s (recalls s ino (c ∷ others)) ≡ acts (acts s (recall s ino c)) (recalls (acts s (recall s ino c)) ino others)
recalled_next s ino c others none =
    acts_joined s (recall s ino c) (recalls s ino others) ∙ ap (acts (acts s (recall s ino c))) (sym (others_as s ino c others none))

-- recalls open nothing
pub recalls_open_nothing : (s : Server) (ino : Ino) (others : List ℕ) → list_any opens (recalls s ino others) ≡ false
recalls_open_nothing s ino [] = refl
recalls_open_nothing s ino (c ∷ others) = go (is_recalled s ino c) (recalls_open_nothing s ino others)
  where
    go : (b : Bool) → list_any opens (recalls s ino others) ≡ false → list_any opens ((if b then [] else MarkRecalled c ino ∷ TellRecall c ino ∷ []) ++ recalls s ino others) ≡ false
    go true rest = rest
    go false rest = rest

-- the parts stand for a state from which what is left to be recalled leads to where all that is to be leads
pub record Leads (p : Parts) (taken : Option Asked) (ino : Ino) (left : List ℕ) (s : Server) (all : List ℕ) : Type 0 where
  pub state : Server
  pub stands : StandsFor p taken state
  pub same : acts state (recalls state ino left) ≡ acts s (recalls s ino all)

-- each is one of the clients, and none is named twice, in any choice of the clients
one_more : (n : ℕ) (others : List ℕ) → AreOthers n others → AreOthers (suc n) others × (list_any (λ (other : ℕ). other == n + 1) others ≡ false)
one_more n [] are = (tt, refl)
one_more n (c ∷ others) are =
    let rest = one_more n others are.3 in
    let low : c ≤ suc n = omega (arith, are.1) in
    let apart : (c == n + 1) ≡ false = grind (arith, nat_tests, are.1) in
    ((are.0, low, are.2, rest.0), rw (apart, rest.1) refl)

with_last : (n c : ℕ) (others : List ℕ) → 1 ≤ c → c ≤ n → list_any (λ (other : ℕ). other == c) others ≡ false → AreOthers n others → AreOthers n (others ++ c ∷ [])
with_last n c [] from_one upto none are = (from_one, upto, refl, tt)
with_last n c (d ∷ others) from_one upto none are =
    let l = either_false (d == c) (list_any (λ (other : ℕ). other == c) others) none in
    let turned : (c == d) ≡ false = grind (arith, nat_tests, l.0) in
    (are.0, are.1, list_any-append (λ (other : ℕ). other == d) others (c ∷ []) ∙ rw (are.2, turned) refl, with_last n c others from_one upto l.1 are.3)

filter_end : (p : ℕ → Bool) (xs : List ℕ) (x : ℕ) → filter p (xs ++ x ∷ []) ≡ filter p xs ++ (if p x then x ∷ [] else [])
filter_end p [] x = refl
filter_end p (y ∷ xs) x = go (p y) (filter_end p xs x)
  where
    go : (b : Bool) → filter p (xs ++ x ∷ []) ≡ filter p xs ++ (if p x then x ∷ [] else []) → cond b (y ∷ filter p (xs ++ x ∷ [])) (filter p (xs ++ x ∷ [])) ≡ cond b (y ∷ filter p xs) (filter p xs) ++ (if p x then x ∷ [] else [])
    go true rest = ap (λ (l : List ℕ). y ∷ l) rest
    go false rest = rest

pub chosen_are : (n : ℕ) (p : ℕ → Bool) → AreOthers n (filter p (up_to n))
chosen_are zero p = tt
chosen_are (suc n) p =
    let l = one_more n (filter p (up_to n)) (chosen_are n p) in
    subst (AreOthers (suc n)) (sym (filter_end p (up_to n) (n + 1))) (go (p (n + 1)) l.0 l.1)
  where
    plain : (xs : List ℕ) → xs ++ [] ≡ xs
    plain [] = refl
    plain (x ∷ xs) = ap (λ (l : List ℕ). x ∷ l) (plain xs)

    go : (b : Bool) → AreOthers (suc n) (filter p (up_to n)) → list_any (λ (other : ℕ). other == n + 1) (filter p (up_to n)) ≡ false → AreOthers (suc n) (filter p (up_to n) ++ (if b then (n + 1) ∷ [] else []))
    go true are none =
        let low : 1 ≤ n + 1 = omega arith in
        let upto : n + 1 ≤ suc n = omega arith in
        with_last (suc n) (n + 1) (filter p (up_to n)) low upto none are
    go false are none = subst (AreOthers (suc n)) (sym (plain (filter p (up_to n)))) are

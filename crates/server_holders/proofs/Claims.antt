-- What a client's claims leave of the holdings and of the holders.
use Rattle.std.proofs.Common.{◌≡◌, ℕ, Bool, true, false, not, ◌||◌, ◌&&◌, ◌==◌, cond, List, [], ◌∷◌, ◌++◌, refl, sym, ap, subst, ◌∙◌, arith}
use Rattle.std.specs.List.{list_any}
use Rattle.std.proofs.lemmas.Bool.{eqb-true}
use Rattle.std.proofs.lemmas.Bool.Decides.{nat_tests}
use Rattle.snap_ids.specs.declared.id.Ino.{Ino}
use Rattle.plain_types.specs.declared.message.Claim.{Claim}
use Rattle.plain_tree.specs.State.{same_ino}
use Rattle.cap_state.specs.Table.{Holding, is_of, writes, bars, is_free, with_holding, of_others, claimed, rebuilt}
use Rattle.step_table.specs.ServerState.{Holder, Server, is_holder}
use Rattle.step_table.specs.Acts.{Act, Hold, LetAllGo, act, acts, each}
use Rattle.step_table.specs.Capabilities.{clash}
use Rattle.step_table.specs.Flushes.{claimed as claimed_holder, take_claim}
use Rattle.server_holders.specs.Stands.{Marks, HoldersStand, unmarked, none_marked}
use Rattle.server_holders.proofs.Any.{both_true, any_same, any_filter, none_more}
use Rattle.server_holders.proofs.One.{same_mode}
use Rattle.server_holders.proofs.Changes.{holds, let_all_go}

-- acts one after the other
acts_joined : (s : Server) (first next : List Act) → acts s (first ++ next) ≡ acts (acts s first) next
acts_joined s [] next = refl
acts_joined s (a ∷ first) next = acts_joined (act s a) first next

-- what isn't marked needs no mark taken away
same_marks : (client : ℕ) (ino : Ino) (marks : Marks) → marks client ino ≡ false → unmarked client ino marks ≡ marks
same_marks client ino marks none = λ i c x. same c x i
  where
    go : (c : ℕ) (x : Ino) (b : Bool) → (c == client && same_ino x ino) ≡ b → (not b && marks c x) ≡ marks c x
    go c x true is =
        let l = both_true (c == client) (same_ino x ino) is in
        let here : marks c x ≡ marks client ino = λ i. marks (eqb-true c client l.0 i) (record { 0 = eqb-true x.0 ino.0 l.1 i }) in
        sym (here ∙ none)
    go c x false is = refl

    same : (c : ℕ) (x : Ino) → unmarked client ino marks c x ≡ marks c x
    same c x = go c x (c == client && same_ino x ino) refl

module _ (client : ℕ) (k : Claim) where
  -- what stands in a claim's way
  reordered : (a c w v : Bool) → (a && (c || (w || v))) ≡ (a && (w || v || c))
  reordered true true true v = refl
  reordered true true false true = refl
  reordered true true false false = refl
  reordered true false true v = refl
  reordered true false false true = refl
  reordered true false false false = refl
  reordered false c w v = refl

  in_the_way : (h : Holder) → (same_ino h.ino k.ino && (h.client == client || (writes k.mode || writes h.mode))) ≡ clash (claimed_holder client k) h
  in_the_way h =
      reordered (same_ino h.ino k.ino) (h.client == client) (writes k.mode) (writes h.mode)
      ∙ λ i. (turned h.ino.0 k.ino.0 i && (same_mode k.mode i || same_mode h.mode i || turned h.client client i))
    where
      turned : (a b : ℕ) → (a == b) ≡ (b == a)
      turned a b = grind (arith, nat_tests)

  free_is : (held : List Holding) (marks : Marks) (holders : List Holder) → HoldersStand held marks holders → is_free client k held ≡ not (list_any (clash (claimed_holder client k)) holders)
  free_is held marks holders stands =
      ap not
      (any_filter (bars client k.mode) (is_of k.ino) held
      ∙ stands (λ h m. is_of k.ino h && bars client k.mode h)
      ∙ any_same (λ (h : Holder). same_ino h.ino k.ino && (h.client == client || (writes k.mode || writes h.mode))) (clash (claimed_holder client k)) holders in_the_way)

  own_clashes : (h : Holder) → is_holder client k.ino h ≡ true → clash (claimed_holder client k) h ≡ true
  own_clashes h is =
      let l = both_true (h.client == client) (same_ino h.ino k.ino) is in
      sym (in_the_way h) ∙ λ i. (l.1 i && (l.0 i || (writes k.mode || writes h.mode)))

  one_claim : (held : List Holding) (marks : Marks) (s : Server) → marks client k.ino ≡ false → HoldersStand held marks s.holders → HoldersStand (cond (is_free client k held) (with_holding (client, k) held) held) marks (acts s (take_claim client s k)).holders
  one_claim held marks s none stands =
      subst (λ b. HoldersStand (cond b (with_holding (client, k) held) held) marks (acts s (take_claim client s k)).holders) (sym (free_is held marks s.holders stands))
      (go (list_any (clash (claimed_holder client k)) s.holders) refl)
    where
      go : (b : Bool) → list_any (clash (claimed_holder client k)) s.holders ≡ b → HoldersStand (cond (not b) (with_holding (client, k) held) held) marks (acts s (cond b [] (Hold (claimed_holder client k) ∷ []))).holders
      go true is = stands
      go false is =
          subst (λ (m : Marks). HoldersStand (with_holding (client, k) held) m (acts s (Hold (claimed_holder client k) ∷ [])).holders) (same_marks client k.ino marks none)
          (holds held marks s.holders stands client k.ino k.mode k.settled (none_more (is_holder client k.ino) (clash (claimed_holder client k)) s.holders own_clashes is))

-- all claims of a client that isn't marked
all_claims : (client : ℕ) (claims : List Claim) (held : List Holding) (marks : Marks) (s : Server) → ((ino : Ino) → marks client ino ≡ false) → HoldersStand held marks s.holders → HoldersStand (claimed client claims held) marks (acts s (each (take_claim client) s claims)).holders
all_claims client [] held marks s none stands = stands
all_claims client (k ∷ claims) held marks s none stands =
    subst (λ (t : Server). HoldersStand (claimed client (k ∷ claims) held) marks t.holders) (sym (acts_joined s (take_claim client s k) (each (take_claim client) (acts s (take_claim client s k)) claims)))
    (all_claims client claims (cond (is_free client k held) (with_holding (client, k) held) held) marks (acts s (take_claim client s k)) none (one_claim client k held marks s (none k.ino) stands))

pub comes_back : (held : List Holding) (marks : Marks) (s : Server) (client : ℕ) (claims : List Claim) → HoldersStand held marks s.holders → HoldersStand (rebuilt client claims held) (none_marked client marks) (acts (act s (LetAllGo client)) (each (take_claim client) (act s (LetAllGo client)) claims)).holders
comes_back held marks s client claims stands =
    all_claims client claims (of_others client held) (none_marked client marks) (act s (LetAllGo client)) unmarked_all (let_all_go held marks s.holders stands client)
  where
    unmarked_all : (ino : Ino) → none_marked client marks client ino ≡ false
    unmarked_all ino = let same : (client == client) ≡ true = grind (arith, nat_tests) in ap (λ b. not b && marks client ino) same

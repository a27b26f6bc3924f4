-- Which dead files are due, and what is told of lists by their lengths.
use Rattle.std.proofs.Common.{◌≡◌, ℕ, Bool, true, false, not, ◌&&◌, cond, List, [], ◌∷◌, map, filter, find, length, Some, refl, sym, ap, ◌∙◌, arith}
use Rattle.std.specs.Prelude.{◌==◌, nat_le, nat_lt}
use Rattle.std.specs.List.{list_any}
use Rattle.std.proofs.lemmas.Bool.Decides.{nat_tests}
use Rattle.snap_ids.specs.declared.id.Ino.{Ino}
use Rattle.snap_ids.specs.declared.id.SnapId.{SnapId}
use Rattle.snap_ids.specs.declared.values.Mode.{Mode}
use Rattle.snap_ids.specs.declared.values.Mode.TheVariants.{Write}
use Rattle.plain_tree.specs.State.{same_ino}
use Rattle.held_files.specs.Files.{is_empty}
use Rattle.cap_state.specs.Table.{Holding, holders_of, is_at, writes}
use Rattle.server_holders.specs.Answers.{is_settled_at}
use Rattle.server_holders.proofs.Any.{any_map, any_same}
use Rattle.step_table.specs.Background as background
use Rattle.step_table.specs.Background.{first_file}
use Rattle.step_table.specs.Capabilities.{is_recalled}
use Rattle.step_table.specs.ServerState.{Server}
use Rattle.mds_state.specs.Due.{is_due, is_unasked}
use Rattle.mds_state.specs.Parts.{TenureParts, marks_in}

-- a list of length 0 is empty
pub no_length : {A : Type 0} → (xs : List A) → (length xs == 0) ≡ is_empty xs
no_length [] = refl
no_length (x ∷ xs) = let more : (length (x ∷ xs) == 0) ≡ false = grind (arith, nat_tests) in more

-- the first that passes a test
pub first_is : (p q : Ino → Bool) (inos : List Ino) → ((ino : Ino) → p ino ≡ q ino) → find p inos ≡ first_file (filter q inos)
first_is p q [] same = refl
first_is p q (ino ∷ inos) same = go (p ino) (q ino) (same ino) (first_is p q inos same)
  where
    go : (a b : Bool) → a ≡ b → find p inos ≡ first_file (filter q inos) → cond a (Some ino) (find p inos) ≡ first_file (cond b (ino ∷ filter q inos) (filter q inos))
    go true true is rest = refl
    go true false is rest = cc
    go false true is rest = cc
    go false false is rest = rest

-- a file is due where the table says so
module _ (t : TenureParts) (s : Server) (ino : Ino) (same : map (λ (h : Holding). h.0) (holders_of ino t.holdings) ≡ background.holders_of s ino) where
  empty_map : (hs : List Holding) → is_empty (map (λ (h : Holding). h.0) hs) ≡ is_empty hs
  empty_map [] = refl
  empty_map (h ∷ hs) = refl

  unasked : ((client : ℕ) → (list_any (is_at client ino) t.holdings && marks_in t.marks client ino) ≡ is_recalled s ino client) → list_any (is_unasked t ino) (holders_of ino t.holdings) ≡ list_any (λ c. not (is_recalled s ino c)) (background.holders_of s ino)
  unasked recalled =
      any_same (is_unasked t ino) (λ (h : Holding). not (is_recalled s ino h.0)) (holders_of ino t.holdings) (λ h. ap not (recalled h.0))
      ∙ sym (any_map (λ c. not (is_recalled s ino c)) (λ (h : Holding). h.0) (holders_of ino t.holdings))
      ∙ ap (list_any (λ c. not (is_recalled s ino c))) same

  pub due_is : ((client : ℕ) → (list_any (is_at client ino) t.holdings && marks_in t.marks client ino) ≡ is_recalled s ino client) → is_due t s.deleting ino ≡ background.is_due s ino
  due_is recalled = λ i. cond ((sym (empty_map (holders_of ino t.holdings)) ∙ ap (λ (cs : List ℕ). is_empty cs) same) i) (not (list_any (same_ino ino) s.deleting)) (unasked recalled i)

-- a holder for Write owes nothing where its file's sequence id isn't above what it settled
pub settled_upto : (seq : Ino → SnapId) (h : Holding) (n : SnapId) → h.1.mode ≡ Write → n ≡ seq h.1.ino → nat_le n.0 h.1.settled.0 ≡ is_settled_at seq h
settled_upto seq h n is same =
    ap (λ (m : SnapId). nat_le m.0 h.1.settled.0) same
    ∙ order (seq h.1.ino).0 h.1.settled.0 _ refl _ refl
    ∙ ap (λ (mode : Mode). not (writes mode && nat_lt h.1.settled.0 (seq h.1.ino).0)) (sym is)
  where
    order : (a b : ℕ) (x : Bool) → nat_le a b ≡ x → (y : Bool) → nat_lt b a ≡ y → nat_le a b ≡ not (nat_lt b a)
    order a b true upto true less = absurd (grind (arith, nat_tests))
    order a b true upto false less = upto ∙ ap not (sym less)
    order a b false above true less = above ∙ ap not (sym less)
    order a b false above false less = absurd (grind (arith, nat_tests))

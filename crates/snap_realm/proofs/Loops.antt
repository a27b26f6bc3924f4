-- A loop over the way up: what is left of the way decides.
use Rattle.std.proofs.Common.{◌≡◌, ℕ, suc, ◌+◌, ◌-◌, ◌<◌, ◌≤◌, false, eqb, List, [], ◌∷◌, Option, None, Some, ap, sym, ◌∙◌, arith}
use Rattle.std.proofs.lemmas.Bool.Decides.{nat_tests}
use Rattle.snap_ids.specs.declared.id.Ino.{Ino}
use Rattle.realm_story.specs.declared.records.Node.{Node}
use Rattle.realm_story.specs.Records.{parent_by, up_from}
use Rattle.realm_story.proofs.Ways.{from_none}

-- what the way that is left gives is what the whole way gives
abbrev pub Left : (A : Type 0) → (List Ino → A) → (ℕ → Option Node) → Option Ino → ℕ → ℕ → A → Type 0
Left A f at next counter end whole = (k : ℕ) → k + counter ≡ end → f (up_from k at next) ≡ whole

pub ended : (A : Type 0) (f : List Ino → A) (at : ℕ → Option Node) (next : Option Ino) (counter end : ℕ) (whole : A) → Left A f at next counter end whole → counter ≤ end → next ≡ None → f [] ≡ whole
ended A f at next counter end whole left within none =
    ap f (sym (ap (up_from (end - counter) at) none ∙ from_none (end - counter) at)) ∙ left (end - counter) (omega (arith, within))

pub out : (A : Type 0) (f : List Ino → A) (at : ℕ → Option Node) (next : Option Ino) (counter end : ℕ) (whole : A) → Left A f at next counter end whole → counter ≡ end → f [] ≡ whole
out A f at next counter end whole left all = left 0 (omega (arith, all))

pub step : (A : Type 0) (f : List Ino → A) (at : ℕ → Option Node) (next : Option Ino) (here : Ino) (above : Option Ino) (counter end : ℕ) (whole : A) → Left A f at next counter end whole → next ≡ Some here → above ≡ parent_by (at here.0) → Left A (λ way. f (here ∷ way)) at above (counter + 1) end whole
step A f at next here above counter end whole left is parent k sum =
    ap (λ o. f (here ∷ up_from k at o)) parent ∙ ap (λ o. f (up_from (suc k) at o)) (sym is) ∙ left (suc k) (omega (arith, sum))

pub now : (A : Type 0) (f : List Ino → A) (at : ℕ → Option Node) (next : Option Ino) (here : Ino) (counter end : ℕ) (whole : A) → Left A f at next counter end whole → next ≡ Some here → counter < end → f (here ∷ up_from (end - (counter + 1)) at (parent_by (at here.0))) ≡ whole
now A f at next here counter end whole left is more =
    ap (λ o. f (up_from (suc (end - (counter + 1))) at o)) (sym is) ∙ left (suc (end - (counter + 1))) (omega (arith, more))

pub apart : (m n : ℕ) → (m ≡ n → ⊥) → eqb m n ≡ false
apart m n h = grind (arith, nat_tests, h)

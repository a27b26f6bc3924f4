-- Which client is the first whose barriers are uneven.
use Rattle.std.proofs.Common.{◌≡◌, ◌≢◌, ℕ, zero, suc, ◌+◌, ◌-◌, ◌≤◌, List, Some, None, refl, arith, add-one}
use Rattle.std.proofs.lemmas.Bool.{ne_eqb, eq-eqb}
use Rattle.plain_types.specs.declared.script.Line.{Line}
use Rattle.script_text.specs.Grammar.{barriers_of, uneven}

-- a client that was found stays the first
uneven-stays : (lines : List (ℕ × Line)) (n client k m : ℕ) → m ≡ n + k → uneven lines n ≡ Some client → uneven lines m ≡ Some client
uneven-stays lines n client zero m is h = let e : m ≡ n = omega arith in rw e h
uneven-stays lines n client (suc k) m is h =
    let e : m ≡ suc (n + k) = omega arith in
    let before : uneven lines (n + k) ≡ Some client = uneven-stays lines n client k (n + k) refl h in
    rw (e, before) refl

-- none so far, and this one isn't even
pub uneven-found : (lines : List (ℕ × Line)) (n m : ℕ) → n + 1 ≤ m → uneven lines n ≡ None → barriers_of lines (n + 1) ≢ barriers_of lines 1 → uneven lines m ≡ Some (n + 1)
uneven-found lines n m within none other =
    let here : uneven lines (suc n) ≡ Some (suc n) = rw (none, ne_eqb _ _ (rw add-one at other)) refl in
    rw add-one (uneven-stays lines (suc n) (suc n) (m - suc n) m (omega arith) here)

-- none so far, and this one is even
pub uneven-more : (lines : List (ℕ × Line)) (n : ℕ) → uneven lines n ≡ None → barriers_of lines (n + 1) ≡ barriers_of lines 1 → uneven lines (n + 1) ≡ None
uneven-more lines n none same = rw add-one (rw (none, eq-eqb _ _ (rw add-one at same)) refl)

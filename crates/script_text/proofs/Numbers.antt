-- What words spell.
use Rattle.std.proofs.Common.{◌≡◌, ℕ, ◌+◌, ◌-◌, ◌*◌, ◌<◌, ◌≤◌, ◌%◌, Bool, true, false, eqb, ◌&&◌, List, [], ◌∷◌, length, drop, get_or, is_some, Result, Ok, Err, refl, sym, eq-eqb, eqb-true, arith}
use Rattle.std.specs.List.{list_all}
use Rattle.std.specs.Result.{result_ok}
use Rattle.std.proofs.lemmas.List.{at_drop_more}
use Rattle.std.proofs.lemmas.List.Sums.{AllPass-from_list_all, list_all-from_AllPass}
use Rattle.hex.specs.Hex.{decode_of, is_hex_digit}
use Rattle.hex.specs.declared.error.FromHexError.{FromHexError}
use Rattle.hex.proofs.HexLemmas.{decode_of-ok, decode_of-digits}
use Rattle.script_text.specs.Lines.{value_of, bytes_of}

-- digits that follow make no number smaller
pub value_of-grows : (n : ℕ) (bs : List ℕ) → n ≤ value_of n bs
value_of-grows n [] = omega arith
value_of-grows n (b ∷ bs) = omega (arith, value_of-grows (n * 10 + (b - 48)) bs)

-- one digit more, which the loop has read
pub value_of-more : (n : ℕ) (bs : List ℕ) (i : ℕ) → i < length bs → value_of n (drop i bs) ≡ value_of (n * 10 + (get_or bs i 0 - 48)) (drop (i + 1) bs)
value_of-more n bs i within = at_drop_more (value_of n) bs i 0 within

-- where the number so far with one digit more is large, the number is
pub value_of-large : (n : ℕ) (bs : List ℕ) (i : ℕ) → i < length bs → value_of n (drop i bs) ≡ value_of 0 bs → 18446744073709551616 ≤ n * 10 + (get_or bs i 0 - 48) → 18446744073709551616 ≤ value_of 0 bs
value_of-large n bs i within same large =
    omega (arith, value_of-more n bs i within, value_of-grows (n * 10 + (get_or bs i 0 - 48)) (drop (i + 1) bs))

-- two tests that hold
both_hold : (s t : Bool) → s ≡ true → t ≡ true → (s && t) ≡ true
both_hold true t p q = q
both_hold false t p q = p

both_held : (s t : Bool) → (s && t) ≡ true → (s ≡ true) × (t ≡ true)
both_held true t h = (refl, h)
both_held false t h = cc

-- what an answer says of the digits
decoded : (told : Result (List ℕ) FromHexError) (t : Bool) → ((bytes : List ℕ) → told ≡ Ok bytes → t ≡ true) → (t ≡ true → (bytes : List ℕ) × (told ≡ Ok bytes)) → is_some (result_ok told) ≡ t
decoded (Ok bytes) t ok digits = sym (ok bytes refl)
decoded (Err error) true ok digits = cc ((digits refl).1)
decoded (Err error) false ok digits = refl

-- bytes are spelled by an even number of hex digits
pub bytes_of-digits : (b : ℕ) (bs : List ℕ) → is_some (bytes_of (b ∷ bs)) ≡ (eqb (length (b ∷ bs) % 2) 0 && list_all is_hex_digit (b ∷ bs))
bytes_of-digits b bs =
    decoded (decode_of (b ∷ bs)) _
    (λ bytes h. let ok = decode_of-ok (b ∷ bs) bytes h in both_hold _ _ (eq-eqb _ _ ok.0) (list_all-from_AllPass is_hex_digit (b ∷ bs) ok.1))
    (λ h. let held = both_held _ _ h in decode_of-digits (b ∷ bs) (eqb-true _ _ held.0) (AllPass-from_list_all is_hex_digit (b ∷ bs) held.1))

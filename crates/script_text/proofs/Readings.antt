-- What was read, and what is asked of it.
use Rattle.std.proofs.Common.{◌≡◌, ℕ, suc, ◌-◌, ◌<◌, ◌≤◌, Bool, true, false, List, [], ◌∷◌, length, Option, Some, None, is_some, refl, ap, sym, ◌∙◌, arith}
use Rattle.std.specs.Prelude.{slice_get, unwrap_or, nat_lt}
use Rattle.std.specs.Option.{option_map}
use Rattle.std.proofs.lemmas.Bool.Decides.{nat_tests}
use Rattle.script_text.specs.declared.reading.Reading.{Reading}
use Rattle.script_text.specs.Lines.{words_of}
use Rattle.script_text.specs.Grammar.{last_after, body_line, longer_line}
use Rattle.script_text.proofs.Cuts.{words_of-some}

-- the last restart line, read from the end
pub last_after-is : (restarts : List (ℕ × ℕ)) (last : ℕ × ℕ) → Some last ≡ slice_get restarts (length restarts - 1) → last.0 ≡ last_after restarts
last_after-is [] last h = cc
last_after-is (a ∷ []) last h = ap (λ (o : Option (ℕ × ℕ)). unwrap_or (option_map (λ (p : ℕ × ℕ). p.0) o) 0) h
last_after-is (a ∷ b ∷ bs) last h =
    let e : length (a ∷ b ∷ bs) - 1 ≡ suc (length (b ∷ bs) - 1) = omega arith in
    last_after-is (b ∷ bs) last (rw e at h)

-- what a test of an option says
pub none_of : {A : Type 0} (o : Option A) → is_some o ≡ false → o ≡ None
none_of None h = refl
none_of (Some x) h = cc

pub some_of : {A : Type 0} (o : Option A) → is_some o ≡ true → (x : A) × (o ≡ Some x)
some_of None h = cc
some_of (Some x) h = (x, refl)

-- a limit that is reached, and one that isn't
pub full : (n limit : ℕ) → limit ≤ n → nat_lt n limit ≡ false
full n limit h = grind (arith, nat_tests)

pub free : (n limit : ℕ) → n < limit → nat_lt n limit ≡ true
free n limit h = grind (arith, nat_tests)

-- a line of two words and more
pub body_longer : (allowed : Bool) (sofar : Reading) (word rest : List ℕ) (words : List (List ℕ)) → words ≡ word ∷ words_of rest → body_line allowed sofar words ≡ longer_line sofar word (words_of rest)
body_longer allowed sofar word rest words h =
    let some = words_of-some rest in
    let more : words ≡ word ∷ some.0 ∷ some.1 = h ∙ ap (λ (ws : List (List ℕ)). word ∷ ws) some.2 in
    ap (body_line allowed sofar) more ∙ sym (ap (longer_line sofar word) some.2)

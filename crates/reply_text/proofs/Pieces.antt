-- Texts written one behind another.
use Rattle.std.proofs.Common.{◌≡◌, ℕ, List, ◌++◌, Result, Ok, Err, append_assoc, ◌∙◌}
use Rattle.std.specs.Prelude.{OnOk}

-- what holds anyway
pub on_ok_from : {T E P : Type 0} (r : Result T E) → P → OnOk r P
on_ok_from (Ok x) p = p
on_ok_from (Err e) p = tt

-- a text, a text, and two at once
pub in_three : (out a b c d one two three : List ℕ) → one ≡ out ++ a → two ≡ one ++ b → three ≡ two ++ c ++ d → three ≡ out ++ (a ++ b ++ c ++ d)
in_three out a b c d one two three first second third =
    let all : out ++ a ++ b ++ c ++ d ≡ out ++ (a ++ b ++ c ++ d) = simp append_assoc in
    third ∙ (λ i. second i ++ c ++ d) ∙ (λ i. first i ++ b ++ c ++ d) ∙ all

-- six texts, one at a time
pub in_six : (out a b c d e f : List ℕ) (one two three four five six : List ℕ) → one ≡ out ++ a → two ≡ one ++ b → three ≡ two ++ c → four ≡ three ++ d → five ≡ four ++ e → six ≡ five ++ f → six ≡ out ++ (a ++ b ++ c ++ d ++ e ++ f)
in_six out a b c d e f one two three four five six first second third fourth fifth sixth =
    let all : out ++ a ++ b ++ c ++ d ++ e ++ f ≡ out ++ (a ++ b ++ c ++ d ++ e ++ f) = simp append_assoc in
    sixth ∙ (λ i. fifth i ++ f) ∙ (λ i. fourth i ++ e ++ f) ∙ (λ i. third i ++ d ++ e ++ f) ∙ (λ i. second i ++ c ++ d ++ e ++ f) ∙ (λ i. first i ++ b ++ c ++ d ++ e ++ f) ∙ all

-- One more line of a client's.
use Rattle.std.proofs.Common.{◌≡◌, ℕ, Bool, true, ◌==◌, List, [], ◌∷◌, ◌++◌, None, Some, if◌then◌else◌, refl, sym, ap, ◌∙◌, append_assoc, arith}
use Rattle.std.specs.List.{cons_option}
use Rattle.plain_types.specs.declared.script.Line.{Line}
use Rattle.step_table.specs.World.{lines_of}

first_is : (b : Bool) (text : ℕ × Line) (more : List Line) → b ≡ true → cons_option (if b then Some text.1 else None) more ≡ text.1 ∷ more
first_is b text more is = rw is refl

pub one_more : (number : ℕ) (own new : List Line) (text : ℕ × Line) (copy : Line) (left rest : List (ℕ × Line)) (whole : List Line)
    → own ++ lines_of number left ≡ whole → left ≡ text ∷ rest → text.0 ≡ number → copy ≡ text.1 → new ≡ own ++ copy ∷ []
    → new ++ lines_of number rest ≡ whole
one_more number own new text copy left rest whole made parts its same now =
    let test : (text.0 == number) ≡ true = grind arith in
    let first : lines_of number (text ∷ rest) ≡ text.1 ∷ lines_of number rest = first_is (text.0 == number) text (lines_of number rest) test in
    ap (λ (l : List Line). l ++ lines_of number rest) now
    ∙ append_assoc own (copy ∷ []) (lines_of number rest)
    ∙ ap (λ (line : Line). own ++ line ∷ lines_of number rest) same
    ∙ ap (λ (l : List Line). own ++ l) (sym first)
    ∙ ap (λ (l : List (ℕ × Line)). own ++ lines_of number l) (sym parts)
    ∙ made

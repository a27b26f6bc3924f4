-- Which list of words the code has cut.
use Rattle.std.specs.Prelude.{◌≡◌, ℕ, List, [], ◌∷◌}
use Rattle.script_text.specs.declared.cut.Words.{Words}
use Rattle.script_text.specs.declared.cut.Words.TheVariants.{One, Two, Three, Four, Many}

-- these are the words, or they are five and more
abbrev pub AreWords : Words → List (List ℕ) → Type 0
AreWords (One a) words = words ≡ a.now ∷ []
AreWords (Two a b) words = words ≡ a.now ∷ b.now ∷ []
AreWords (Three a b c) words = words ≡ a.now ∷ b.now ∷ c.now ∷ []
AreWords (Four a b c d) words = words ≡ a.now ∷ b.now ∷ c.now ∷ d.now ∷ []
AreWords Many words =
    (a b c d e : List ℕ) × (rest : List (List ℕ)) × (words ≡ a ∷ b ∷ c ∷ d ∷ e ∷ rest)

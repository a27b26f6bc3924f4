use Rattle.std.proofs.Common.{ap, ◌∙◌, ◌∷◌, List, ℕ}
use Rattle.script_text.proofs.Cuts.{words_of-some}
use Rattle.script_text.proofs.cut.cut_words.Goals as goal

pub returns-in_default-Some : goal.returns-in_default-Some
returns-in_default-Some c =
    let a = c.first_word.result.0.now in
    let b = c.first_word-2.result.0.now in
    let d = c.first_word-3.result.0.now in
    let e = c.first_word-4.result.0.now in
    let one = rw c.in-Some.is at c.first_word.ensures in
    let two = rw c.in-Some-rest.is at c.first_word-2.ensures in
    let three = rw c.in-Some-rest-2.is at c.first_word-3.ensures in
    let four = rw c.in_default-Some.is-1 at c.first_word-4.ensures in
    let last = words_of-some c.in_default-Some.field-0-1.now in
    let all =
    one ∙ ap (λ (ws : List (List ℕ)). a ∷ ws)
    (two ∙ ap (λ (ws : List (List ℕ)). b ∷ ws)
    (three ∙ ap (λ (ws : List (List ℕ)). d ∷ ws)
    (four ∙ ap (λ (ws : List (List ℕ)). e ∷ ws) last.2))) in
    (a, b, d, e, last.0, last.1, all)

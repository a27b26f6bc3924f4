-- Where lines stand in an input.
use Rattle.std.specs.Prelude.{ℕ, ◌+◌, List, [], ◌∷◌, slice_get, unwrap_or, if◌then◌else◌}
use Rattle.script_text.specs.Lines.{lines_of, text_of_line, is_skipped}

-- the numbers of the lines that aren't skipped, from this number on
abbrev pub numbers_from : ℕ → List (List ℕ) → List ℕ
numbers_from number [] = []
numbers_from number (line ∷ lines) =
    let later = numbers_from (number + 1) lines in
    if is_skipped (text_of_line line) then later else number ∷ later

-- the number of a line that isn't skipped, by its place among these, from 0; 0 where there are fewer
abbrev pub number_at : List ℕ → ℕ → ℕ
number_at input place = unwrap_or (slice_get (numbers_from 1 (lines_of input)) place) 0

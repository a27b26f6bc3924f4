-- An input cut into lines, a line into words, and what a word spells.
use Rattle.std.specs.Prelude.{ℕ, ◌+◌, ◌-◌, ◌*◌, ◌==◌, nat_le, Bool, true, false, not, ◌&&◌, ◌||◌, if◌then◌else◌, List, [], ◌∷◌, length, Option, None, Some}
use Rattle.std.specs.List.{slice_split, onto_first, list_all}
use Rattle.std.specs.Char.{is_ascii_digit}
use Rattle.std.specs.Result.{result_ok}
use Rattle.hex.specs.Hex.{decode_of}

-- the lines of an input, each with the line feed that ends it; the last may lack it
abbrev pub lines_of : List ℕ → List (List ℕ)
lines_of [] = []
lines_of (b ∷ bs) =
    let lines = lines_of bs in
    if b == 10 then (b ∷ []) ∷ lines else onto_first b lines

-- a line's text: without the line feed that ends it and one carriage return before that
abbrev pub text_of_line : List ℕ → List ℕ
text_of_line [] = []
text_of_line (b ∷ []) = if b == 10 then [] else b ∷ []
text_of_line (b ∷ c ∷ []) = if b == 13 && c == 10 then [] else b ∷ text_of_line (c ∷ [])
text_of_line (b ∷ bs) = b ∷ text_of_line bs

-- an empty line, or one that begins with `#`
abbrev pub is_skipped : List ℕ → Bool
is_skipped [] = true
is_skipped (b ∷ bs) = b == 35

-- the words of a line, parted by one space
abbrev pub words_of : List ℕ → List (List ℕ)
words_of text = slice_split (λ b. b == 32) text

-- one or more decimal digits, the first of them 0 only where it is the only one
abbrev pub is_number : List ℕ → Bool
is_number [] = false
is_number (b ∷ bs) = list_all is_ascii_digit (b ∷ bs) && (length bs == 0 || not (b == 48))

-- the value of digits that follow those of n
abbrev pub value_of : ℕ → List ℕ → ℕ
value_of n [] = n
value_of n (b ∷ bs) = value_of (n * 10 + (b - 48)) bs

-- the number that a word spells, however large
abbrev pub number_of : List ℕ → Option ℕ
number_of word = if is_number word then Some (value_of 0 word) else None

-- a number from low to high
abbrev pub within : ℕ → ℕ → Option ℕ → Option ℕ
within low high None = None
within low high (Some n) = if nat_le low n && nat_le n high then Some n else None

-- a number below 2^32
abbrev pub small_of : List ℕ → Option ℕ
small_of word = within 0 4294967295 (number_of word)

abbrev pub is_octal_digit : ℕ → Bool
is_octal_digit b = nat_le 48 b && nat_le b 55

-- a mode: four octal digits, the first of them 0
abbrev pub mode_of : List ℕ → Option ℕ
mode_of (first ∷ a ∷ b ∷ c ∷ []) =
    if first == 48 && list_all is_octal_digit (a ∷ b ∷ c ∷ [])
    then Some ((a - 48) * 64 + (b - 48) * 8 + (c - 48)) else None
mode_of word = None

-- the bytes that one or more pairs of hex digits of either case spell
abbrev pub bytes_of : List ℕ → Option (List ℕ)
bytes_of [] = None
bytes_of (b ∷ bs) = result_ok (decode_of (b ∷ bs))

use Rattle.std.proofs.Common.{◌≡◌, ℕ, Bool, eqb, false, true, List, [], ◌∷◌, length, is_some, sym, ◌∙◌, ◌%◌, eq-eqb}
use Rattle.std.specs.List.{list_all}
use Rattle.hex.specs.Hex.{is_hex_digit}
use Rattle.script_text.specs.Lines.{bytes_of}
use Rattle.script_text.proofs.Numbers.{bytes_of-digits}
use Rattle.script_text.proofs.number.is_hex.Goals as goal

-- where there are bytes, and an even number of them
even : (word : List ℕ) (t : Bool) → eqb (length word) 0 ≡ false → eqb (length word % 2) 0 ≡ true → t ≡ list_all is_hex_digit word → t ≡ is_some (bytes_of word)
even [] t some both h = cc
even (b ∷ bs) t some both h = h ∙ sym (rw both at (bytes_of-digits b bs))

pub returns-then-word-eq0 : goal.returns-then-word-eq0
returns-then-word-eq0 c = even c.args.word.now _ (sym c.if-is_empty.ensures) (eq-eqb _ _ c.if-word-eq0.true) c.are_hex_digits.ensures

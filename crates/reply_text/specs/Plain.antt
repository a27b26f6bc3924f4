-- Texts that stand for themselves in a JSON string.
use Rattle.std.specs.Prelude.{◌≡◌, ℕ, Bool, true, not, ◌&&◌, ◌||◌, ◌==◌, nat_le, nat_lt, List, flat_map, ⊤}
use Rattle.std.specs.List.{list_all}
use Rattle.plain_types.specs.declared.answer.Answer.{Answer}
use Rattle.plain_types.specs.declared.answer.Answer.TheVariants.{FileBytes, Listed}
use Rattle.reply_text.specs.Answer.{bytes_text, entry_text}

-- a byte of ASCII, no control character, and neither `"` nor `\`
abbrev pub is_plain : ℕ → Bool
is_plain byte = nat_le 32 byte && nat_lt byte 127 && not (byte == 34 || byte == 92)

-- each byte of the text is such a one
abbrev pub IsPlain : List ℕ → Type 0
IsPlain text = list_all is_plain text ≡ true

-- what an answer lists, or a file's bytes as they are printed
abbrev pub IsPlainInside : Answer → Type 0
IsPlainInside (FileBytes bytes) = IsPlain (bytes_text bytes)
IsPlainInside (Listed entries) = IsPlain (flat_map entry_text entries)
IsPlainInside _ = ⊤

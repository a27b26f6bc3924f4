-- The object of a reply as text.
use Rattle.std.proofs.Common.{◌≡◌, ℕ, List, ◌++◌, false, codes, decimal, append_assoc, sym, ap, ◌∙◌}
use Rattle.json.specs.Print.{escape_byte, escape}
use Rattle.serde_json.specs.Data.{Data, number, unsigned, string, object, member, no_members}
use Rattle.serde_json.specs.Written.{compact_text, has_float}
use Rattle.plain_types.specs.declared.history.Replied.{Replied}
use Rattle.reply_text.specs.Answer.{answer_text}
use Rattle.reply_text.specs.Json.{json_object}
use Rattle.reply_text.specs.Plain.{IsPlain}
use Rattle.reply_text.proofs.PlainTexts.{plain_escape}

-- what is said of a reply
abbrev pub said : ℕ → ℕ → List ℕ → Data
said client line text = object (member (codes "client") (number (unsigned client)) (member (codes "line") (number (unsigned line)) (member (codes "reply") (string text) no_members)))

nested : (a b c d e f g : List ℕ) → a ++ b ++ c ++ d ++ e ++ f ++ g ≡ a ++ (b ++ (c ++ (d ++ (e ++ (f ++ g)))))
nested a b c d e f g = simp append_assoc

compact_said : (client line : ℕ) (text : List ℕ) → escape text ≡ text → compact_text (said client line text) ≡ codes "{\"client\":" ++ decimal client ++ codes ",\"line\":" ++ decimal line ++ codes ",\"reply\":\"" ++ text ++ codes "\"}"
unfolding escape_byte
compact_said client line text plain =
    let around : List ℕ → List ℕ = λ l. codes "{\"client\":" ++ (decimal client ++ (codes ",\"line\":" ++ (decimal line ++ (codes ",\"reply\":\"" ++ l)))) in
    ap around (append_assoc (escape text) (codes "\"") (codes "}"))
    ∙ ap (λ (t : List ℕ). around (t ++ codes "\"}")) plain
    ∙ sym (nested (codes "{\"client\":") (decimal client) (codes ",\"line\":") (decimal line) (codes ",\"reply\":\"") text (codes "\"}"))

-- it has no float
pub said_float : (value : Data) (client line : ℕ) (text : List ℕ) → value ≡ said client line text → has_float value ≡ false
said_float value client line text is = ap has_float is

-- its text is the reply's object
pub compact_reply : (reply : Replied) (value : Data) (text : List ℕ) → value ≡ said reply.client reply.line text → text ≡ answer_text reply.answer → IsPlain (answer_text reply.answer) → compact_text value ≡ json_object reply
compact_reply reply value text is same plain =
    ap compact_text (is ∙ ap (said reply.client reply.line) same) ∙ compact_said reply.client reply.line (answer_text reply.answer) (plain_escape (answer_text reply.answer) plain)

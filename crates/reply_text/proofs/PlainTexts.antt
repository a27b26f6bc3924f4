-- The texts of answers stand for themselves in a JSON string.
use Rattle.std.proofs.Common.{◌≡◌, ℕ, zero, suc, ◌+◌, ◌-◌, ◌<◌, ◌/◌, ◌%◌, List, [], ◌∷◌, ◌++◌, Bool, true, false, cond, Option, None, Some, refl, ap, ◌∙◌, arith, decimal, get_or}
use Rattle.std.specs.Prelude.{◌&&◌, ◌==◌, flat_map, slice_index, codes, nat_lt, nat_le}
use Rattle.std.specs.List.{list_all}
use Rattle.std.specs.Fmt.{digits, digits_onto, digit_glyph}
use Rattle.std.specs.Str.{IsAscii, IsUtf8}
use Rattle.std.proofs.lemmas.Bool.Decides.{nat_tests}
use Rattle.std.proofs.lemmas.List.Folds.{list_all-append}
use Rattle.std.proofs.lemmas.Str.{IsUtf8-from_ascii}
use Rattle.std.proofs.lemmas.Str.Ascii.{IsAscii-nil, IsAscii-cons}
use Rattle.hex.specs.Hex.{encode_with, encode_lower, lower_digits, hex_digit_value}
use Rattle.hex.proofs.HexLemmas.{IsDigits-lower_digits}
use Rattle.json.specs.Print.{escape_byte, escape}
use Rattle.snap_ids.specs.Name.{is_name_byte, is_name, has_name_length}
use Rattle.snap_ids.specs.declared.id.SnapId.{SnapId}
use Rattle.snap_ids.specs.declared.values.Kind.{Kind}
use Rattle.snap_ids.specs.declared.values.Kind.TheVariants.{Dir, File}
use Rattle.plain_types.specs.declared.answer.Answer.{Answer}
use Rattle.plain_types.specs.declared.answer.Answer.TheVariants.{Done, Snap, Opened, Refused, Pending, Gone, FileBytes, StatFile, StatDir, Listed, RealmIs, FoundLive, FoundSnap, FoundObject, ClonesAre}
use Rattle.plain_types.specs.declared.answer.Refusal.{Refusal}
use Rattle.plain_types.specs.declared.answer.Refusal.TheVariants.{BadName, Exists, NoEntry, NotDir, IsDir, NotEmpty, HasSnapshots, ReadOnly, NoSnap, BadHandle, IntoItself, TooLarge, TooManySnaps, TooManyLive}
use Rattle.reply_text.specs.Answer.{word, octal_digit, mode_text, bytes_text, mark_of, entry_text, more_text, ids_text, clone_text, head_text, answer_text}
use Rattle.reply_text.specs.Plain.{is_plain, IsPlain, IsPlainInside}

both : (a b : Bool) → a ≡ true → b ≡ true → (a && b) ≡ true
both true b p q = q
both false b p q = p

first : (a b : Bool) → (a && b) ≡ true → a ≡ true
first true b h = refl
first false b h = h

second : (a b : Bool) → (a && b) ≡ true → b ≡ true
second true b h = h
second false b h = cc

pub plain_append : (a b : List ℕ) → IsPlain a → IsPlain b → IsPlain (a ++ b)
plain_append a b p q = list_all-append is_plain a b ∙ both (list_all is_plain a) (list_all is_plain b) p q

pub plain_cons : (byte : ℕ) (text : List ℕ) → is_plain byte ≡ true → IsPlain text → IsPlain (byte ∷ text)
plain_cons byte text p q = both (is_plain byte) (list_all is_plain text) p q

pub plain_flat_map : {A : Type 0} (f : A → List ℕ) → ((a : A) → IsPlain (f a)) → (items : List A) → IsPlain (flat_map f items)
plain_flat_map f each [] = refl
plain_flat_map f each (item ∷ items) = plain_append (f item) (flat_map f items) (each item) (plain_flat_map f each items)

-- such a text is UTF-8
plain_ascii : (text : List ℕ) → IsPlain text → IsAscii text
plain_ascii [] p = IsAscii-nil
plain_ascii (byte ∷ text) p =
    let here : is_plain byte ≡ true = first (is_plain byte) (list_all is_plain text) p in
    let small : byte < 128 = grind (arith, nat_tests) in
    IsAscii-cons byte text small (plain_ascii text (second (is_plain byte) (list_all is_plain text) p))

pub plain_utf8 : (text : List ℕ) → IsPlain text → IsUtf8 text
plain_utf8 text p = IsUtf8-from_ascii text (plain_ascii text p)

-- and JSON writes it as it is
plain_byte : (byte : ℕ) → is_plain byte ≡ true → escape_byte byte ≡ byte ∷ []
unfolding escape_byte
plain_byte byte p =
    let quote : (byte == 34) ≡ false = grind (arith, nat_tests) in
    let backslash : (byte == 92) ≡ false = grind (arith, nat_tests) in
    let backspace : (byte == 8) ≡ false = grind (arith, nat_tests) in
    let feed : (byte == 12) ≡ false = grind (arith, nat_tests) in
    let line : (byte == 10) ≡ false = grind (arith, nat_tests) in
    let return : (byte == 13) ≡ false = grind (arith, nat_tests) in
    let tab : (byte == 9) ≡ false = grind (arith, nat_tests) in
    let control : nat_lt byte 32 ≡ false = grind (arith, nat_tests) in
    rw (quote, backslash, backspace, feed, line, return, tab, control) refl

pub plain_escape : (text : List ℕ) → IsPlain text → escape text ≡ text
plain_escape [] p = refl
plain_escape (byte ∷ text) p = λ i.
    plain_byte byte (first (is_plain byte) (list_all is_plain text) p) i ++ plain_escape text (second (is_plain byte) (list_all is_plain text) p) i

-- a decimal digit
digit_plain : (n : ℕ) → is_plain (digit_glyph false (n % 10)) ≡ true
digit_plain n =
    let small : n % 10 < 10 = omega arith in
    let test : nat_lt (n % 10) 10 ≡ true = grind (arith, nat_tests) in
    let plain : is_plain (48 + n % 10) ≡ true = grind (arith, nat_tests) in
    ap (λ (b : Bool). is_plain (cond b (48 + n % 10) (87 + n % 10))) test ∙ plain

digits_plain : (k n : ℕ) (text : List ℕ) → IsPlain text → IsPlain (digits_onto k 10 false n text)
digits_plain zero n text p = p
digits_plain (suc k) n text p =
    let more : IsPlain (digit_glyph false (n % 10) ∷ text) = plain_cons (digit_glyph false (n % 10)) text (digit_plain n) p in
    elim (n / 10 == 0) as (λ b. IsPlain (cond b (digit_glyph false (n % 10) ∷ text) (digits_onto k 10 false (n / 10) (digit_glyph false (n % 10) ∷ text)))) [
      | true ↦ more
      | false ↦ digits_plain k (n / 10) (digit_glyph false (n % 10) ∷ text) more
    ]

-- a number
pub plain_decimal : (n : ℕ) → IsPlain (decimal n)
unfolding digits
plain_decimal n = digits_plain 64 n [] refl

-- a number behind words
after : (words : List ℕ) (n : ℕ) → IsPlain words → IsPlain (words ++ decimal n)
after words n p = plain_append words (decimal n) p (plain_decimal n)

octal_plain : (n : ℕ) → is_plain (octal_digit n) ≡ true
octal_plain n = let small : n % 8 < 8 = omega arith in grind (arith, nat_tests)

pub plain_mode : (mode : ℕ) → IsPlain (mode_text mode)
plain_mode mode =
    plain_cons (octal_digit (mode / 512)) (octal_digit (mode / 64) ∷ octal_digit (mode / 8) ∷ octal_digit mode ∷ []) (octal_plain (mode / 512))
    (plain_cons (octal_digit (mode / 64)) (octal_digit (mode / 8) ∷ octal_digit mode ∷ []) (octal_plain (mode / 64))
    (plain_cons (octal_digit (mode / 8)) (octal_digit mode ∷ []) (octal_plain (mode / 8))
    (plain_cons (octal_digit mode) [] (octal_plain mode) refl)))

plain_word : (refusal : Refusal) → IsPlain (word refusal)
plain_word BadName = refl
plain_word Exists = refl
plain_word NoEntry = refl
plain_word NotDir = refl
plain_word IsDir = refl
plain_word NotEmpty = refl
plain_word HasSnapshots = refl
plain_word ReadOnly = refl
plain_word NoSnap = refl
plain_word BadHandle = refl
plain_word IntoItself = refl
plain_word TooLarge = refl
plain_word TooManySnaps = refl
plain_word TooManyLive = refl

plain_more : (id : SnapId) → IsPlain (more_text id)
plain_more id = after (codes ",") id.0 refl

plain_ids : (ids : List SnapId) → IsPlain (ids_text ids)
plain_ids [] = refl
plain_ids (id ∷ ids) = plain_append (decimal id.0) (flat_map more_text ids) (plain_decimal id.0) (plain_flat_map more_text plain_more ids)

plain_clone : (clone : SnapId × List SnapId) → IsPlain (clone_text clone)
plain_clone clone = plain_append (codes " " ++ decimal clone.0.0 ++ codes ":") (ids_text clone.1) (plain_append (codes " " ++ decimal clone.0.0) (codes ":") (after (codes " ") clone.0.0 refl) refl) (plain_ids clone.1)

plain_head : (head : Option ℕ) → IsPlain (head_text head)
plain_head None = refl
plain_head (Some size) = after (codes " head ") size refl

-- a name
name_byte_plain : (byte : ℕ) → is_name_byte byte ≡ true → is_plain byte ≡ true
name_byte_plain byte p = grind (arith, nat_tests)

name_bytes_plain : (text : List ℕ) → list_all is_name_byte text ≡ true → IsPlain text
name_bytes_plain [] p = refl
name_bytes_plain (byte ∷ text) p = plain_cons byte text (name_byte_plain byte (first (is_name_byte byte) (list_all is_name_byte text) p)) (name_bytes_plain text (second (is_name_byte byte) (list_all is_name_byte text) p))

name_plain : (name : List ℕ) → is_name name ≡ true → IsPlain name
name_plain name p =
    name_bytes_plain name (second (has_name_length name) (list_all is_name_byte name) (first (has_name_length name && list_all is_name_byte name) _ p))

mark_plain : (kind : Kind) → IsPlain (mark_of kind)
mark_plain Dir = refl
mark_plain File = refl

-- a listed name
pub plain_entry : (entry : List ℕ × Kind) → is_name entry.0 ≡ true → IsPlain (entry_text entry)
plain_entry entry p = plain_append (codes " " ++ entry.0) (mark_of entry.1) (plain_append (codes " ") entry.0 refl (name_plain entry.0 p)) (mark_plain entry.1)

-- bytes in hex
hex_digit_plain : (c d : ℕ) → hex_digit_value c ≡ Some d → is_plain c ≡ true
hex_digit_plain c d is = by_upper (nat_le 65 c && nat_le c 70) refl is
  where
    by_digit : (b : Bool) → (nat_le 48 c && nat_le c 57) ≡ b → cond b (Some (c - 48)) None ≡ Some d → is_plain c ≡ true
    by_digit true t h = grind (arith, nat_tests)
    by_digit false t h = cc

    by_lower : (b : Bool) → (nat_le 97 c && nat_le c 102) ≡ b → cond b (Some (c - 87)) (cond (nat_le 48 c && nat_le c 57) (Some (c - 48)) None) ≡ Some d → is_plain c ≡ true
    by_lower true t h = grind (arith, nat_tests)
    by_lower false t h = by_digit (nat_le 48 c && nat_le c 57) refl h

    by_upper : (b : Bool) → (nat_le 65 c && nat_le c 70) ≡ b → cond b (Some (c - 55)) (cond (nat_le 97 c && nat_le c 102) (Some (c - 87)) (cond (nat_le 48 c && nat_le c 57) (Some (c - 48)) None)) ≡ Some d → is_plain c ≡ true
    by_upper true t h = grind (arith, nat_tests)
    by_upper false t h = by_lower (nat_le 97 c && nat_le c 102) refl h

hex_plain : (d : ℕ) → d < 16 → is_plain (slice_index lower_digits d) ≡ true
hex_plain d small = hex_digit_plain (slice_index lower_digits d) d (IsDigits-lower_digits d small)

pub plain_hex : (bytes : List ℕ) → ((i : ℕ) → get_or bytes i 0 < 256) → IsPlain (encode_lower bytes)
unfolding encode_with
plain_hex [] small = refl
plain_hex (byte ∷ bytes) small =
    let here : byte < 256 = small 0 in
    let high : byte / 16 < 16 = omega arith in
    let low : byte % 16 < 16 = omega arith in
    plain_cons (slice_index lower_digits (byte / 16)) (slice_index lower_digits (byte % 16) ∷ encode_lower bytes) (hex_plain (byte / 16) high)
    (plain_cons (slice_index lower_digits (byte % 16)) (encode_lower bytes) (hex_plain (byte % 16) low)
    (plain_hex bytes (λ i. small (suc i))))

-- an answer, if what it lists and a file's bytes are plain
pub plain_answer : (answer : Answer) → IsPlainInside answer → IsPlain (answer_text answer)
plain_answer Done p = refl
plain_answer (Snap id) p = after (codes "ok snap ") id.0 refl
plain_answer (Opened ino) p = refl
plain_answer (Refused refusal) p = plain_word refusal
plain_answer (Pending client) p = after (codes "pending ") client refl
plain_answer Gone p = refl
plain_answer (FileBytes bytes) p = plain_append (codes "bytes ") (bytes_text bytes) refl p
plain_answer (StatFile mode size) p = after (codes "stat file " ++ mode_text mode ++ codes " ") size (plain_append (codes "stat file " ++ mode_text mode) (codes " ") (plain_append (codes "stat file ") (mode_text mode) refl (plain_mode mode)) refl)
plain_answer (StatDir mode) p = plain_append (codes "stat dir ") (mode_text mode) refl (plain_mode mode)
plain_answer (Listed entries) p = plain_append (codes "list") (flat_map entry_text entries) refl p
plain_answer (RealmIs ino context) p =
    let realm : IsPlain (codes "realm " ++ decimal ino.0 ++ codes " seq ") = plain_append (codes "realm " ++ decimal ino.0) (codes " seq ") (after (codes "realm ") ino.0 refl) refl in
    let seq : IsPlain (codes "realm " ++ decimal ino.0 ++ codes " seq " ++ decimal context.seq.0 ++ codes " ids ") = plain_append (codes "realm " ++ decimal ino.0 ++ codes " seq " ++ decimal context.seq.0) (codes " ids ") (after (codes "realm " ++ decimal ino.0 ++ codes " seq ") context.seq.0 realm) refl in
    plain_append (codes "realm " ++ decimal ino.0 ++ codes " seq " ++ decimal context.seq.0 ++ codes " ids ") (ids_text context.ids) seq (plain_ids context.ids)
plain_answer (ClonesAre list) p = plain_append (codes "clones" ++ flat_map clone_text list.clones) (head_text list.head) (plain_append (codes "clones") (flat_map clone_text list.clones) refl (plain_flat_map clone_text plain_clone list.clones)) (plain_head list.head)
plain_answer (FoundLive ino perm size write_held) p = refl
plain_answer (FoundSnap ino snap size) p = refl
plain_answer (FoundObject ino index) p = refl

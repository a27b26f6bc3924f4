-- Lines and words, one by one.
use Rattle.std.proofs.Common.{◌≡◌, ℕ, suc, ◌+◌, ◌-◌, ◌≤◌, Bool, true, false, not, cond, eqb, ltb, ◌&&◌, List, [], ◌∷◌, ◌++◌, length, take, drop, Some, None, refl, ap, sym, subst, ◌∙◌, add-one, append_assoc, ltb-true, ltb-false, arith}
use Rattle.std.specs.Prelude.{bytes_eq}
use Rattle.std.specs.List.{onto_first, position, position_or_len}
use Rattle.std.proofs.lemmas.List.{take_all, take-append-drop}
use Rattle.std.proofs.lemmas.List.Splits.{slice_split_first}
use Rattle.std.proofs.lemmas.Slice.Eq.{bytes_eq-Decides}
use Rattle.std.proofs.Math.ListN.{drop_of_length-le}
use Rattle.std.proofs.Math.Numerals.{one-add}
use Rattle.script_text.specs.Lines.{lines_of, text_of_line, words_of}

-- what a place is that is there
place_is : (t : Bool) (n i : ℕ) → cond t (Some n) None ≡ Some i → (t ≡ true) × (n ≡ i)
place_is true n i h = (refl, cc)
place_is false n i h = cc

-- and that none is there
place_none : (t : Bool) (n : ℕ) → cond t (Some n) None ≡ None → t ≡ false
place_none true n h = cc
place_none false n h = refl

-- how many bytes stand before the first line feed
abbrev pub before_feed : List ℕ → ℕ
before_feed bs = position_or_len (λ b. eqb b 10) bs

-- a byte in front of some lines, where it ends one and where it doesn't
lines_of-in_front : (b : ℕ) (bs : List ℕ) (n : ℕ) (t : Bool) → onto_first b (lines_of bs) ≡ (b ∷ take (n + 1) bs) ∷ lines_of (drop (n + 1) bs) → cond t ((b ∷ []) ∷ lines_of bs) (onto_first b (lines_of bs)) ≡ take (cond (not t) (1 + n) 0 + 1) (b ∷ bs) ∷ lines_of (drop (cond (not t) (1 + n) 0 + 1) (b ∷ bs))
lines_of-in_front b bs n true h = refl
lines_of-in_front b bs n false h = rw (one-add, add-one) (rw add-one at h)

-- the first line ends with the first line feed, or with the input
pub lines_of-first : (b : ℕ) (bs : List ℕ) → lines_of (b ∷ bs) ≡ take (before_feed (b ∷ bs) + 1) (b ∷ bs) ∷ lines_of (drop (before_feed (b ∷ bs) + 1) (b ∷ bs))
lines_of-first b [] = lines_of-in_front b [] 0 (eqb b 10) refl
lines_of-first b (c ∷ cs) = lines_of-in_front b (c ∷ cs) (before_feed (c ∷ cs)) (eqb b 10) (ap (onto_first b) (lines_of-first c cs))

-- a line that ends with a line feed, and what follows it
pub lines_of-cut : (bs : List ℕ) (i : ℕ) → position (λ b. eqb b 10) bs ≡ Some i → lines_of bs ≡ take (i + 1) bs ∷ lines_of (drop (i + 1) bs)
lines_of-cut [] i h = cc
lines_of-cut (b ∷ bs) i h =
    subst (λ k. lines_of (b ∷ bs) ≡ take (k + 1) (b ∷ bs) ∷ lines_of (drop (k + 1) (b ∷ bs)))
    ((place_is (ltb (before_feed (b ∷ bs)) (length (b ∷ bs))) _ i h).1) (lines_of-first b bs)

-- where no line feed stands, all is one line
pub lines_of-last : (bs : List ℕ) → eqb (length bs) 0 ≡ false → position (λ b. eqb b 10) bs ≡ None → lines_of bs ≡ bs ∷ []
lines_of-last [] some h = cc
lines_of-last (b ∷ bs) some h =
    let long : length (b ∷ bs) ≤ before_feed (b ∷ bs) = ltb-false (before_feed (b ∷ bs)) (length (b ∷ bs)) (place_none _ _ h) in
    let longer : length (b ∷ bs) ≤ before_feed (b ∷ bs) + 1 = omega arith in
    lines_of-first b bs ∙ cc (take_all _ _ longer, ap lines_of (drop_of_length-le (b ∷ bs) longer))

-- how many bytes stand before the first space
abbrev before_space : List ℕ → ℕ
before_space bs = position_or_len (λ b. eqb b 32) bs

-- a word that ends before a space, and what follows that
pub words_of-cut : (bs : List ℕ) (i : ℕ) → position (λ b. eqb b 32) bs ≡ Some i → words_of bs ≡ take i bs ∷ words_of (drop (i + 1) bs)
words_of-cut bs i h =
    let is = place_is (ltb (before_space bs) (length bs)) _ i h in
    subst (λ k. words_of bs ≡ take k bs ∷ words_of (drop (k + 1) bs)) (is.1)
    (slice_split_first (λ b. eqb b 32) bs 0 (ltb-true _ _ is.0))

-- a byte in front of one word
word_in_front : (b : ℕ) (bs : List ℕ) (n : ℕ) (t : Bool) → (length bs ≤ n → words_of bs ≡ bs ∷ []) → suc (length bs) ≤ cond (not t) (1 + n) 0 → cond t ([] ∷ words_of bs) (onto_first b (words_of bs)) ≡ (b ∷ bs) ∷ []
word_in_front b bs n true h long = absurd (omega arith)
word_in_front b bs n false h long = let one : words_of bs ≡ bs ∷ [] = h (omega arith) in rw one refl

words_of-one : (bs : List ℕ) → length bs ≤ before_space bs → words_of bs ≡ bs ∷ []
words_of-one [] long = refl
words_of-one (b ∷ bs) long = word_in_front b bs (before_space bs) (eqb b 32) (words_of-one bs) long

-- where no space stands, all is one word
pub words_of-last : (bs : List ℕ) → position (λ b. eqb b 32) bs ≡ None → words_of bs ≡ bs ∷ []
words_of-last bs h = words_of-one bs (ltb-false _ _ (place_none _ _ h))

-- some list begins with something
begun : (b : ℕ) (words : List (List ℕ)) (t : Bool) → (w : List ℕ) × (ws : List (List ℕ)) × (cond t ([] ∷ words) (onto_first b words) ≡ w ∷ ws)
begun b words true = ([], words, refl)
begun b [] false = (b ∷ [], [], refl)
begun b (w ∷ ws) false = (b ∷ w, ws, refl)

-- there is a first word
pub words_of-some : (bs : List ℕ) → (w : List ℕ) × (ws : List (List ℕ)) × (words_of bs ≡ w ∷ ws)
words_of-some [] = ([], [], refl)
words_of-some (b ∷ bs) = begun b (words_of bs) (eqb b 32)

-- a text that ends with a carriage return and a line feed
text_of_line-both : (text : List ℕ) → text_of_line (text ++ 13 ∷ 10 ∷ []) ≡ text
text_of_line-both [] = refl
text_of_line-both (a ∷ []) = refl
text_of_line-both (a ∷ b ∷ []) = refl
text_of_line-both (a ∷ b ∷ c ∷ cs) = ap (λ text. a ∷ text) (text_of_line-both (b ∷ c ∷ cs))

-- the last byte of a text is that of what follows its first
last_byte : (a b : ℕ) (cs : List ℕ) → drop (length (a ∷ b ∷ cs) - 1) (a ∷ b ∷ cs) ≡ drop (length (b ∷ cs) - 1) (b ∷ cs)
last_byte a b cs = let e : length (a ∷ b ∷ cs) - 1 ≡ suc (length (b ∷ cs) - 1) = omega arith in rw e refl

-- a text that ends with a line feed alone
text_of_line-feed : (text : List ℕ) → bytes_eq (drop (length text - 1) text) (13 ∷ []) ≡ false → text_of_line (text ++ 10 ∷ []) ≡ text
text_of_line-feed [] other = refl
text_of_line-feed (a ∷ []) other = rw other refl
text_of_line-feed (a ∷ b ∷ []) other = ap (λ text. a ∷ text) (text_of_line-feed (b ∷ []) other)
text_of_line-feed (a ∷ b ∷ c ∷ cs) other = ap (λ text. a ∷ text) (text_of_line-feed (b ∷ c ∷ cs) (rw (last_byte a b (c ∷ cs)) at other))

-- a test and true, or false
and_true : (t : Bool) → (t && true) ≡ false → t ≡ false
and_true true h = cc
and_true false h = refl

and_false : (t : Bool) → (t && false) ≡ false
and_false true = refl
and_false false = refl

-- where no line feed ends a line, it is its text
pub text_of_line-whole : (line : List ℕ) → bytes_eq (drop (length line - 1) line) (10 ∷ []) ≡ false → text_of_line line ≡ line
text_of_line-whole [] other = refl
text_of_line-whole (a ∷ []) other = let no : eqb a 10 ≡ false = and_true (eqb a 10) other in rw no refl
text_of_line-whole (a ∷ b ∷ []) other = let no : eqb b 10 ≡ false = and_true (eqb b 10) other in rw (no, and_false) refl
text_of_line-whole (a ∷ b ∷ c ∷ cs) other = ap (λ text. a ∷ text) (text_of_line-whole (b ∷ c ∷ cs) (rw (last_byte a b (c ∷ cs)) at other))

-- a line that ends so is its front and its end
ended : (line end : List ℕ) → bytes_eq (drop (length line - length end) line) end ≡ true → line ≡ take (length line - length end) line ++ end
ended line end h =
    sym (take-append-drop (length line - length end) line) ∙ ap (λ last. take (length line - length end) line ++ last) ((bytes_eq-Decides _ _).0 h)

-- a line without its line feed, where no carriage return stands before that
pub text_without_feed : (line text : List ℕ) → bytes_eq (drop (length line - 1) line) (10 ∷ []) ≡ true → text ≡ take (length line - 1) line → bytes_eq (drop (length text - 1) text) (13 ∷ []) ≡ false → text ≡ text_of_line line
text_without_feed line text feed is other =
    let whole : line ≡ text ++ 10 ∷ [] = ended line (10 ∷ []) feed ∙ ap (λ (t : List ℕ). t ++ 10 ∷ []) (sym is) in
    sym (ap text_of_line whole ∙ text_of_line-feed text other)

-- and where one does
pub text_without_both : (line text front : List ℕ) → bytes_eq (drop (length line - 1) line) (10 ∷ []) ≡ true → text ≡ take (length line - 1) line → bytes_eq (drop (length text - 1) text) (13 ∷ []) ≡ true → front ≡ take (length text - 1) text → front ≡ text_of_line line
text_without_both line text front feed is return front_is =
    let whole : line ≡ text ++ 10 ∷ [] = ended line (10 ∷ []) feed ∙ ap (λ (t : List ℕ). t ++ 10 ∷ []) (sym is) in
    let cut : text ≡ front ++ 13 ∷ [] = ended text (13 ∷ []) return ∙ ap (λ (t : List ℕ). t ++ 13 ∷ []) (sym front_is) in
    let both : line ≡ front ++ 13 ∷ 10 ∷ [] = whole ∙ ap (λ (t : List ℕ). t ++ 10 ∷ []) cut ∙ append_assoc front (13 ∷ []) (10 ∷ []) in
    sym (ap text_of_line both ∙ text_of_line-both front)

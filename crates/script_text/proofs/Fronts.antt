-- How much of an input decides.
use Rattle.std.proofs.Common.{◌≡◌, ℕ, zero, suc, ◌+◌, ◌-◌, ◌<◌, ◌≤◌, min, Bool, true, false, not, cond, eqb, ◌||◌, List, [], ◌∷◌, length, take, drop, Result, Ok, Err, refl, ap, sym, ◌∙◌, arith}
use Rattle.std.specs.Prelude.{nat_lt}
use Rattle.std.specs.List.{onto_first}
use Rattle.std.proofs.lemmas.Bool.{lt-ltb, ltb-true, ltb-false}
use Rattle.std.proofs.lemmas.List.{take_all, take-take, drop-take, length-take, length-drop}
use Rattle.plain_types.specs.declared.script.Script.{Script}
use Rattle.script_text.specs.declared.error.Fault.{Fault}
use Rattle.script_text.specs.declared.error.Fault.TheVariants as fault
use Rattle.script_text.specs.declared.error.ScriptError.{ScriptError}
use Rattle.script_text.specs.declared.error.ScriptError.TheVariants as error
use Rattle.script_text.specs.declared.reading.Reading.{Reading}
use Rattle.script_text.specs.Lines.{lines_of, text_of_line}
use Rattle.script_text.specs.Grammar.{grammar, read_line, read_lines, finished, numbered, unread, ◌>>=◌}
use Rattle.script_text.proofs.Cuts.{before_feed, lines_of-first}
use Rattle.script_text.proofs.Kept.{line_counted}
use Rattle.script_text.proofs.Steps.{step_accepted, step_refused}

-- the bytes of some lines
abbrev total : List (List ℕ) → ℕ
total [] = 0
total (line ∷ lines) = length line + total lines

total-onto_first : (b : ℕ) (lines : List (List ℕ)) → total (onto_first b lines) ≡ 1 + total lines
total-onto_first b [] = refl
total-onto_first b (line ∷ lines) = omega arith

total-in_front : (b : ℕ) (lines : List (List ℕ)) (t : Bool) → total (cond t ((b ∷ []) ∷ lines) (onto_first b lines)) ≡ 1 + total lines
total-in_front b lines true = refl
total-in_front b lines false = total-onto_first b lines

-- the lines of an input have its bytes
total-lines_of : (bs : List ℕ) → total (lines_of bs) ≡ length bs
total-lines_of [] = refl
total-lines_of (b ∷ bs) = omega (arith, total-in_front b (lines_of bs) (eqb b 10), total-lines_of bs)

-- one line more
counted_more : (allowed : Bool) (sofar more : Reading) (line : List ℕ) (lines : List (List ℕ)) (told : Result Reading ScriptError) → read_line allowed sofar line ≡ told → (told >>= λ next. read_lines allowed next lines) ≡ Ok more → ((next : Reading) → next.bytes ≤ 16777216 → read_lines allowed next lines ≡ Ok more → (more.bytes ≡ next.bytes + total lines) × (more.bytes ≤ 16777216)) → (more.bytes ≡ sofar.bytes + (length line + total lines)) × (more.bytes ≤ 16777216)
counted_more allowed sofar more line lines (Ok next) is rest behind =
    let here = line_counted allowed sofar line next is in
    let all = behind next here.short rest in
    (omega (arith, all.0, here.bytes), all.1)
counted_more allowed sofar more line lines (Err error) is rest behind = cc rest

-- what was read has the bytes of all lines, and no more than the limit
lines_counted : (allowed : Bool) (sofar more : Reading) (lines : List (List ℕ)) → sofar.bytes ≤ 16777216 → read_lines allowed sofar lines ≡ Ok more → (more.bytes ≡ sofar.bytes + total lines) × (more.bytes ≤ 16777216)
lines_counted allowed sofar more [] short h =
    let same : sofar.bytes ≡ more.bytes = cc in
    (omega (arith, same), omega (arith, same))
lines_counted allowed sofar more (line ∷ lines) short h =
    counted_more allowed sofar more line lines (read_line allowed sofar line) refl h (λ next. lines_counted allowed next more lines)

-- what is read to its end
read_whole : (allowed : Bool) (input : List ℕ) (told : Result Reading ScriptError) (script : Script) → read_lines allowed unread (lines_of input) ≡ told → (told >>= finished) ≡ Ok script → length input ≤ 16777216
read_whole allowed input (Ok more) script is h =
    let all = lines_counted allowed unread more (lines_of input) (omega arith) is in
    omega (arith, all.0, all.1, total-lines_of input)
read_whole allowed input (Err error) script is h = cc h

-- what is accepted has no more bytes than the limit
pub accepted_short : (input : List ℕ) (allowed : Bool) (script : Script) → grammar input allowed ≡ Ok script → length input ≤ 16777216
accepted_short input allowed script h = read_whole allowed input (read_lines allowed unread (lines_of input)) script refl h

-- a test that fails of one or the other
one_of : (number : ℕ) (a b : Bool) (other : Result Reading Fault) → b ≡ true → numbered number (cond (a || b) (Err fault.TooLong) other) ≡ Err (error.TooLong number)
one_of number true b other h = refl
one_of number false b other h = rw h refl

-- a line that reaches past the limit
too_long : (allowed : Bool) (sofar : Reading) (line : List ℕ) → 16777216 < sofar.bytes + length line → read_line allowed sofar line ≡ Err (error.TooLong (sofar.script.input_lines + 1))
too_long allowed sofar line h = one_of (sofar.script.input_lines + 1) (nat_lt 1024 (length (text_of_line line))) _ _ (lt-ltb _ _ h)

-- how far the first line of a front reaches
feed_cond : (m n k : ℕ) (t : Bool) → n ≡ min m k → cond t (1 + n) 0 ≡ min (suc m) (cond t (1 + k) 0)
feed_cond m n k true h = omega arith
feed_cond m n k false h = omega arith

feed_take : (m : ℕ) (bs : List ℕ) → before_feed (take m bs) ≡ min m (before_feed bs)
feed_take zero bs = omega arith
feed_take (suc m) [] = omega arith
feed_take (suc m) (b ∷ bs) = feed_cond m (before_feed (take m bs)) (before_feed bs) (not (eqb b 10)) (feed_take m bs)

-- the first line of what isn't empty
first_line_of : (bs : List ℕ) → 0 < length bs → lines_of bs ≡ take (before_feed bs + 1) bs ∷ lines_of (drop (before_feed bs + 1) bs)
first_line_of [] some = absurd (omega arith)
first_line_of (b ∷ bs) some = lines_of-first b bs

-- what lines give
abbrev given : Bool → Reading → List (List ℕ) → Result Script ScriptError
given allowed sofar lines = read_lines allowed sofar lines >>= finished

-- two inputs with the same first line
same_first : (allowed : Bool) (sofar : Reading) (line rest other : List ℕ) (told : Result Reading ScriptError) → read_line allowed sofar line ≡ told → ((more : Reading) → read_line allowed sofar line ≡ Ok more → given allowed more (lines_of rest) ≡ given allowed more (lines_of other)) → given allowed sofar (line ∷ lines_of rest) ≡ given allowed sofar (line ∷ lines_of other)
same_first allowed sofar line rest other (Ok more) is behind =
    step_accepted allowed sofar more line (lines_of rest) _ refl is ∙ behind more is ∙ sym (step_accepted allowed sofar more line (lines_of other) _ refl is)
same_first allowed sofar line rest other (Err error) is behind =
    step_refused allowed sofar error line (lines_of rest) _ refl is ∙ sym (step_refused allowed sofar error line (lines_of other) _ refl is)

-- the front and the whole begin with the same line, which fits
fits : (allowed : Bool) (sofar : Reading) (m : ℕ) (bs : List ℕ) → m ≡ 16777217 - sofar.bytes → sofar.bytes ≤ 16777216 → m < length bs → before_feed bs + 1 < m → ((more : Reading) → more.bytes ≤ 16777216 → given allowed more (lines_of (take (16777217 - more.bytes) (drop (before_feed bs + 1) bs))) ≡ given allowed more (lines_of (drop (before_feed bs + 1) bs))) → given allowed sofar (lines_of (take m bs)) ≡ given allowed sofar (lines_of bs)
fits allowed sofar m bs is short long within behind =
    let k = before_feed bs in
    let front_feed : before_feed (take m bs) ≡ k = omega (arith, feed_take m bs) in
    let front_some : 0 < length (take m bs) = omega (arith, length-take m bs) in
    let split : m ≡ (k + 1) + (m - (k + 1)) = omega arith in
    let line : take (k + 1) (take m bs) ≡ take (k + 1) bs = take-take (k + 1) m bs (omega arith) in
    let rest : drop (k + 1) (take m bs) ≡ take (m - (k + 1)) (drop (k + 1) bs) =
    ap (λ (n : ℕ). drop (k + 1) (take n bs)) split ∙ drop-take (k + 1) (m - (k + 1)) bs in
    let front : lines_of (take m bs) ≡ take (k + 1) bs ∷ lines_of (take (m - (k + 1)) (drop (k + 1) bs)) =
    first_line_of (take m bs) front_some ∙ ap (λ (n : ℕ). take (n + 1) (take m bs) ∷ lines_of (drop (n + 1) (take m bs))) front_feed ∙ cc (line, ap lines_of rest) in
    ap (given allowed sofar) front
    ∙ same_first allowed sofar (take (k + 1) bs) (take (m - (k + 1)) (drop (k + 1) bs)) (drop (k + 1) bs) (read_line allowed sofar (take (k + 1) bs)) refl
    (λ more read.
    let here = line_counted allowed sofar (take (k + 1) bs) more read in
    let left : m - (k + 1) ≡ 16777217 - more.bytes = omega (arith, here.bytes, here.short, length-take (k + 1) bs) in
    ap (λ (n : ℕ). given allowed more (lines_of (take n (drop (k + 1) bs)))) left ∙ behind more here.short)
    ∙ sym (ap (given allowed sofar) (first_line_of bs (omega arith)))

-- what begins with a line that reaches past the limit
refused_first : (allowed : Bool) (sofar : Reading) (bs : List ℕ) → 0 < length bs → 16777216 < sofar.bytes + length (take (before_feed bs + 1) bs) → given allowed sofar (lines_of bs) ≡ Err (error.TooLong (sofar.script.input_lines + 1))
refused_first allowed sofar bs some long =
    step_refused allowed sofar _ _ (lines_of (drop (before_feed bs + 1) bs)) (lines_of bs) (first_line_of bs some) (too_long allowed sofar (take (before_feed bs + 1) bs) long)

-- the front and the whole begin with a line that reaches past the limit
passes : (allowed : Bool) (sofar : Reading) (m : ℕ) (bs : List ℕ) → m ≡ 16777217 - sofar.bytes → sofar.bytes ≤ 16777216 → m < length bs → m ≤ before_feed bs + 1 → given allowed sofar (lines_of (take m bs)) ≡ given allowed sofar (lines_of bs)
passes allowed sofar m bs is short long past =
    let m_long : length (take m bs) ≡ m = omega (arith, length-take m bs) in
    let front_feed : before_feed (take m bs) + 1 ≡ min m (before_feed bs) + 1 = omega (arith, feed_take m bs) in
    refused_first allowed sofar (take m bs) (omega arith) (omega (arith, length-take (before_feed (take m bs) + 1) (take m bs)))
    ∙ sym (refused_first allowed sofar bs (omega arith) (omega (arith, length-take (before_feed bs + 1) bs)))

-- whichever way the first line goes
chosen : (allowed : Bool) (sofar : Reading) (m : ℕ) (bs : List ℕ) (all within : Bool) → m ≡ 16777217 - sofar.bytes → sofar.bytes ≤ 16777216 → nat_lt m (length bs) ≡ all → nat_lt (before_feed bs + 1) m ≡ within → ((more : Reading) → length (drop (before_feed bs + 1) bs) < length bs → more.bytes ≤ 16777216 → given allowed more (lines_of (take (16777217 - more.bytes) (drop (before_feed bs + 1) bs))) ≡ given allowed more (lines_of (drop (before_feed bs + 1) bs))) → given allowed sofar (lines_of (take m bs)) ≡ given allowed sofar (lines_of bs)
chosen allowed sofar m bs false within is short a b behind = ap (λ (front : List ℕ). given allowed sofar (lines_of front)) (take_all m bs (ltb-false _ _ a))
chosen allowed sofar m bs true true is short a b behind =
    let long : m < length bs = ltb-true _ _ a in
    fits allowed sofar m bs is short long (ltb-true _ _ b)
    (λ more. behind more (omega (arith, length-drop (before_feed bs + 1) bs)))
chosen allowed sofar m bs true false is short a b behind = passes allowed sofar m bs is short (ltb-true _ _ a) (ltb-false _ _ b)

-- so much as one byte past the limit decides, wherever reading has come
front_decides : (n : ℕ) (allowed : Bool) (sofar : Reading) (bs : List ℕ) → length bs ≤ n → sofar.bytes ≤ 16777216 → given allowed sofar (lines_of (take (16777217 - sofar.bytes) bs)) ≡ given allowed sofar (lines_of bs)
front_decides zero allowed sofar bs few short = ap (λ (front : List ℕ). given allowed sofar (lines_of front)) (take_all _ bs (omega arith))
front_decides (suc n) allowed sofar bs few short =
    chosen allowed sofar (16777217 - sofar.bytes) bs _ _ refl short refl refl
    (λ more fewer more_short. front_decides n allowed more (drop (before_feed bs + 1) bs) (omega arith) more_short)

pub first_bytes_decide : (input : List ℕ) (allowed : Bool) → grammar (take 16777217 input) allowed ≡ grammar input allowed
first_bytes_decide input allowed = front_decides (length input) allowed unread input (omega arith) (omega arith)

-- The script that a seed makes, piece by piece.
use Rattle.std.proofs.Common.{◌≡◌, ℕ, zero, suc, ◌+◌, ◌-◌, ◌*◌, ◌%◌, ◌^◌, ◌<◌, ◌≤◌, Bool, true, false, cond, eqb, leb, List, [], ◌∷◌, ◌++◌, length, Some, None, Result, Ok, Err, refl, ap, sym, ◌∙◌, add-one, append_assoc, append-nil, length-append, arith}
use Rattle.std.specs.Prelude.{decimal, IfOk, OnOk, nat_lt}
use Rattle.std.specs.List.{All, slice_split}
use Rattle.std.proofs.lemmas.Bool.{ne_eqb, le-leb, lt-leb}
use Rattle.std.proofs.lemmas.Fmt.{decimal_by_steps}
use Rattle.std.proofs.lemmas.List.Elements.{All-nil, All-cons, All-push}
use Rattle.std.proofs.lemmas.List.Splits.{slice_split_none, slice_split_at}
use Rattle.plain_types.specs.declared.script.Line.{Line}
use Rattle.plain_types.specs.declared.script.Line.TheVariants as line
use Rattle.snap_ids.specs.Path.{path_of}
use Rattle.script_text.specs.Load.{next, after, drawn, drawn_bytes, opening, openings, waits, writes, removal, round_of, round_length, rounds, file_of, snapshot_of}

-- no byte is a slash
abbrev plain_byte : ℕ → Type 0
plain_byte b = eqb b 47 ≡ false

abbrev Plain : List ℕ → Type 0
Plain bs = All plain_byte bs

plain_decimal : (n : ℕ) → n < 2 ^ 64 → Plain (decimal n)
plain_decimal n h =
    decimal_by_steps (λ _ ds. Plain ds)
    (λ k _. All-cons plain_byte (48 + k) [] (ne_eqb (48 + k) 47 (λ e. omega arith)) (All-nil plain_byte))
    (λ k ds _ plain. All-push plain_byte ds (48 + k % 10) plain (ne_eqb (48 + k % 10) 47 (λ e. omega arith))) n h

-- a letter and a number
plain_named : (letter n : ℕ) → eqb letter 47 ≡ false → n < 2 ^ 64 → Plain (letter ∷ decimal n)
plain_named letter n plain h = All-cons plain_byte letter (decimal n) plain (plain_decimal n h)

-- the names that a path has
some_is : (t : Bool) (names path : List (List ℕ)) → cond t (Some names) None ≡ Some path → path ≡ names
some_is true names path h = cc
some_is false names path h = cc

names_are : (b : ℕ) (bs : List ℕ) (path : List (List ℕ)) → path_of (47 ∷ b ∷ bs) ≡ Some path → path ≡ slice_split (λ c. eqb c 47) (b ∷ bs)
names_are b bs path h = some_is _ _ path h

-- what is read of a text that has these names
pub path_is : {E : Type 0} (r : Result (List (List ℕ)) E) (b : ℕ) (said bs : List ℕ) (names : List (List ℕ)) → said ≡ 47 ∷ b ∷ bs → slice_split (λ c. eqb c 47) (b ∷ bs) ≡ names → IfOk r (λ path. path_of said ≡ Some path) → IfOk r (λ path. path ≡ names)
path_is (Ok path) b said bs names is cut h = names_are b bs path (rw is at h) ∙ cut
path_is (Err error) b said bs names is cut h = tt

pub names_of_dir : (client : ℕ) → client < 2 ^ 64 → slice_split (λ c. eqb c 47) (99 ∷ decimal client) ≡ (99 ∷ decimal client) ∷ []
names_of_dir client h = slice_split_none (λ c. eqb c 47) (99 ∷ decimal client) (plain_named 99 client refl h)

pub names_of_file : (client : ℕ) → client < 2 ^ 64 → slice_split (λ c. eqb c 47) (99 ∷ (decimal client ++ 47 ∷ 102 ∷ [])) ≡ file_of client
names_of_file client h = slice_split_at (λ c. eqb c 47) (99 ∷ decimal client) 47 (102 ∷ []) (plain_named 99 client refl h) refl

pub names_of_snapshot : (round : ℕ) → round < 2 ^ 64 → slice_split (λ c. eqb c 47) (46 ∷ 115 ∷ 110 ∷ 97 ∷ 112 ∷ 47 ∷ 114 ∷ decimal round) ≡ snapshot_of round
names_of_snapshot round h =
    ap (λ (names : List (List ℕ)). (46 ∷ 115 ∷ 110 ∷ 97 ∷ 112 ∷ []) ∷ names) (slice_split_none (λ c. eqb c 47) (114 ∷ decimal round) (plain_named 114 round refl h))

pub names_of_snapshot_file : (round client : ℕ) → round < 2 ^ 64 → client < 2 ^ 64 → slice_split (λ c. eqb c 47) (46 ∷ 115 ∷ 110 ∷ 97 ∷ 112 ∷ 47 ∷ 114 ∷ (decimal round ++ 47 ∷ 99 ∷ (decimal client ++ 47 ∷ 102 ∷ []))) ≡ snapshot_of round ++ file_of client
names_of_snapshot_file round client h k =
    ap (λ (names : List (List ℕ)). (46 ∷ 115 ∷ 110 ∷ 97 ∷ 112 ∷ []) ∷ names)
    (slice_split_at (λ c. eqb c 47) (114 ∷ decimal round) 47 (99 ∷ (decimal client ++ 47 ∷ 102 ∷ [])) (plain_named 114 round refl h) refl
    ∙ ap (λ (names : List (List ℕ)). (114 ∷ decimal round) ∷ names) (names_of_file client k))

-- one draw more
after_suc : (n x : ℕ) → after (suc n) x ≡ next (after n x)
unfolding after
after_suc zero x = refl
after_suc (suc n) x = after_suc n (next x)

pub after-one : (n x : ℕ) → after (n + 1) x ≡ next (after n x)
after-one n x = rw add-one (after_suc n x)

-- so many draws, and so many more
pub after-add : (n k x : ℕ) → after (n + k) x ≡ after k (after n x)
unfolding after
after-add zero k x = let e : 0 + k ≡ k = omega arith in rw e refl
after-add (suc n) k x = let e : suc n + k ≡ suc (n + k) = omega arith in rw e (after-add n k (next x))

-- a piece more of what is whole
pub more : {A : Type 0} (made new piece rest left whole : List A) → new ≡ made ++ piece → left ≡ piece ++ rest → made ++ left ≡ whole → new ++ rest ≡ whole
more made new piece rest left whole is cut h =
    ap (λ m. m ++ rest) is ∙ append_assoc made piece rest ∙ ap (λ l. made ++ l) (sym cut) ∙ h

-- one byte more
pub bytes_more : (bytes new whole : List ℕ) (x y b : ℕ) → length bytes < 8 → y ≡ next x → b ≡ drawn 256 y → new ≡ bytes ++ b ∷ [] → bytes ++ drawn_bytes (8 - length bytes) x ≡ whole → new ++ drawn_bytes (8 - length new) y ≡ whole
unfolding drawn_bytes
bytes_more bytes new whole x y b few step byte is sofar =
    let long : length new ≡ length bytes + 1 = ap length is ∙ length-append bytes (b ∷ []) in
    let left : 8 - length bytes ≡ suc (8 - length new) = omega arith in
    let cut : drawn_bytes (8 - length bytes) x ≡ (b ∷ []) ++ drawn_bytes (8 - length new) y = rw (left, byte, step) refl in
    more bytes new (b ∷ []) _ _ whole is cut sofar

pub state_more : (bytes new : List ℕ) (x y b whole : ℕ) → length bytes < 8 → y ≡ next x → new ≡ bytes ++ b ∷ [] → after (8 - length bytes) x ≡ whole → after (8 - length new) y ≡ whole
unfolding after
state_more bytes new x y b whole few step is sofar =
    let long : length new ≡ length bytes + 1 = ap length is ∙ length-append bytes (b ∷ []) in
    let left : 8 - length bytes ≡ suc (8 - length new) = omega arith in
    let here : after (suc (8 - length new)) x ≡ whole = rw left at sofar in
    rw step here

-- all bytes
pub bytes_all : (bytes whole : List ℕ) (x : ℕ) → 8 ≤ length bytes → bytes ++ drawn_bytes (8 - length bytes) x ≡ whole → bytes ≡ whole
unfolding drawn_bytes
bytes_all bytes whole x all h =
    let none : 8 - length bytes ≡ 0 = omega arith in
    sym (append-nil bytes) ∙ rw none at h

pub state_all : (bytes : List ℕ) (x whole : ℕ) → 8 ≤ length bytes → after (8 - length bytes) x ≡ whole → x ≡ whole
unfolding after
state_all bytes x whole all h = let none : 8 - length bytes ≡ 0 = omega arith in rw none at h

-- one client more begins
pub openings_more : (made new whole : List (ℕ × Line)) (n client : ℕ) → client < n → new ≡ made ++ opening (client + 1) → made ++ openings (n - client) (client + 1) ≡ whole → new ++ openings (n - (client + 1)) (client + 1 + 1) ≡ whole
openings_more made new whole n client within is h =
    let left : n - client ≡ suc (n - (client + 1)) = omega arith in
    more made new (opening (client + 1)) _ _ whole is (rw left refl) h

-- one client more waits
pub waits_more : (made new whole : List (ℕ × Line)) (n client : ℕ) → client < n → new ≡ made ++ waits 1 (client + 1) → made ++ waits (n - client) (client + 1) ≡ whole → new ++ waits (n - (client + 1)) (client + 1 + 1) ≡ whole
waits_more made new whole n client within is h =
    let left : n - client ≡ suc (n - (client + 1)) = omega arith in
    more made new (waits 1 (client + 1)) _ _ whole is (rw left refl) h

-- one client more writes
pub writes_more : (made new whole : List (ℕ × Line)) (n client x y : ℕ) → client < n → y ≡ after 9 x → new ≡ made ++ writes 1 (client + 1) x → made ++ writes (n - client) (client + 1) x ≡ whole → new ++ writes (n - (client + 1)) (client + 1 + 1) y ≡ whole
writes_more made new whole n client x y within step is h =
    let left : n - client ≡ suc (n - (client + 1)) = omega arith in
    more made new (writes 1 (client + 1) x) _ _ whole is (rw (left, step) refl) h

pub writes_state : (n client x y whole : ℕ) → client < n → y ≡ after 9 x → after (9 * (n - client)) x ≡ whole → after (9 * (n - (client + 1))) y ≡ whole
writes_state n client x y whole within step h =
    let left : 9 * (n - client) ≡ 9 + 9 * (n - (client + 1)) = omega arith in
    rw step (sym (after-add 9 (9 * (n - (client + 1))) x) ∙ (rw left at h))

-- a round has four lines and more
pub round_length-min : (clients round : ℕ) → 0 < clients → 4 ≤ round_length clients round
round_length-min clients round some = least (nat_lt 4 round)
  where
    least : (t : Bool) → 4 ≤ 2 * clients + cond t 3 2
    least true = omega arith
    least false = omega arith

-- one round more
pub rounds_more : (made new whole : List (ℕ × Line)) (n clients round x y room : ℕ) → round_length clients round ≤ room → round < n → y ≡ after (9 * clients + 1) x → new ≡ made ++ round_of clients round x → made ++ rounds (n - round) clients round x room ≡ whole → new ++ rounds (n - (round + 1)) clients (round + 1) y (room - round_length clients round) ≡ whole
unfolding rounds
rounds_more made new whole n clients round x y room fits within step is h =
    let left : n - round ≡ suc (n - (round + 1)) = omega arith in
    let test : leb (round_length clients round) room ≡ true = le-leb _ _ fits in
    more made new (round_of clients round x) _ _ whole is (rw (left, step, test) refl) h

-- the last round
pub rounds_none : (n clients round x room : ℕ) → room < round_length clients round → rounds n clients round x room ≡ []
unfolding rounds
rounds_none zero clients round x room past = refl
rounds_none (suc n) clients round x room past = rw (lt-leb _ _ past) refl

-- a fact that holds whatever was answered
pub on_ok : {A E : Type 0} (r : Result A E) (P : Type 0) → P → OnOk r P
on_ok (Ok x) P p = p
on_ok (Err e) P p = tt

-- a byte more is no byte too many
pub bytes_few : (bytes new : List ℕ) (b : ℕ) → length bytes < 8 → new ≡ bytes ++ b ∷ [] → length new ≤ 8
bytes_few bytes new b few is = omega (arith, ap length is, length-append bytes (b ∷ []))

-- an offset and eight bytes are nine draws
pub nine : (x y z : ℕ) → y ≡ next x → z ≡ after 8 y → z ≡ after 9 x
unfolding after
nine x y z step eight = eight ∙ ap (after 8) step

-- no client is left
pub writes_end : (n client x whole : ℕ) → n ≤ client → after (9 * (n - client)) x ≡ whole → x ≡ whole
unfolding after
writes_end n client x whole done h = let none : 9 * (n - client) ≡ 0 = omega arith in rw none at h

-- five pieces behind one another
five : {A : Type 0} (made w s r : List A) (a b : A) → made ++ w ++ (a ∷ []) ++ s ++ (b ∷ []) ++ r ≡ made ++ (w ++ (a ∷ s) ++ (b ∷ r))
five made w s r a b = simp append_assoc

-- the pieces of a round
pub round_made : {E : Type 0} (r : Result (Unit {0}) E) (clients round x y other turn : ℕ) (path file : List (List ℕ)) (made a b c d e : List (ℕ × Line)) → turn ≡ (round - 1) % clients + 1 → y ≡ next (after (9 * clients) x) → other ≡ drawn clients y → path ≡ snapshot_of round → file ≡ snapshot_of round ++ file_of (other + 1) → a ≡ made ++ writes clients 1 x → b ≡ a ++ (turn, line.Mkdir path) ∷ [] → c ≡ b ++ waits clients 1 → d ≡ c ++ (turn, line.Cat file) ∷ [] → OnOk r (e ≡ d ++ removal turn round) → OnOk r (e ≡ made ++ round_of clients round x)
unfolding round_of
round_made (Err error) clients round x y other turn path file made a b c d e turned state drew dir in_dir wrote snapped waited read removed = tt
round_made (Ok done) clients round x y other turn path file made a b c d e turned state drew dir in_dir wrote snapped waited read removed =
    let drew_it : other ≡ drawn clients (next (after (9 * clients) x)) = drew ∙ ap (drawn clients) state in
    let all : e ≡ made ++ writes clients 1 x ++ ((turn, line.Mkdir path) ∷ []) ++ waits clients 1 ++ ((turn, line.Cat file) ∷ []) ++ removal turn round = cc in
    all ∙ five made (writes clients 1 x) (waits clients 1) (removal turn round) (turn, line.Mkdir path) (turn, line.Cat file)
    ∙ rw (dir, in_dir, drew_it, turned) refl

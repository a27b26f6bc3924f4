-- Flushes that follow one by one: lists of entries, and of flushes.
use Rattle.std.proofs.Common.{◌≡◌, ◌<◌, ◌≤◌, ℕ, ◌+◌, List, [], ◌∷◌, ◌++◌, drop, take, filter, fold, length, Bool, true, false, not, cond, refl, sym, ap, ◌∙◌, subst, arith}
use Rattle.std.proofs.lemmas.List.{take-append-drop}
use Rattle.std.proofs.lemmas.List.Sums.{fold-append}
use Rattle.std.proofs.lemmas.Bool.Decides.{nat_tests}
use Rattle.std.specs.Prelude.{◌==◌, nat_lt}
use Rattle.plain_types.specs.declared.entry.Entry.{Entry}
use Rattle.plain_types.specs.declared.message.FlushMsg.{FlushMsg}
use Rattle.plain_types.specs.declared.message.ToServer.{ToServer}
use Rattle.plain_types.specs.declared.message.ToServer.TheVariants.{Connect, Flush}
use Rattle.plain_journal.specs.Table.{last_flush}
use Rattle.step_table.specs.Flushes.{flush_entry}
use Rattle.run_laws.specs.Links.{Offer, Behind}
use Rattle.run_laws.specs.FlushNumbers.{is_flush_of, next_flush, Counted, above, Follow, AgreeAt, AllAgree, flushes_of}
use Rattle.run_laws.proofs.Growing.{take_take}
use Rattle.run_laws.proofs.Holds.{NoFlush}

-- entries
abbrev pub last_from : ℕ → ℕ → List Entry → ℕ
last_from n last entries = fold (next_flush n) last entries

counted_last : (n last : ℕ) (entries : List Entry) → Counted n last entries → last ≤ last_from n last entries
counted_last n last [] counted = omega arith
counted_last n last (e ∷ entries) counted = by_test (is_flush_of n e) refl (counted_last n (next_flush n last e) entries counted.1)
  where
    by_test : (b : Bool) → is_flush_of n e ≡ b → cond b e.number last ≤ last_from n (cond b e.number last) entries → last ≤ last_from n (cond b e.number last) entries
    by_test true test rest = let is = counted.0 test in omega (arith, is, rest)
    by_test false test rest = rest

counted_rest : (n last : ℕ) (xs ys : List Entry) → Counted n last (xs ++ ys) → Counted n (last_from n last xs) ys
counted_rest n last [] ys counted = counted
counted_rest n last (e ∷ xs) ys counted = counted_rest n (next_flush n last e) xs ys counted.1

counted_front : (n last : ℕ) (xs ys : List Entry) → Counted n last (xs ++ ys) → Counted n last xs
counted_front n last [] ys counted = tt
counted_front n last (e ∷ xs) ys counted = (counted.0, counted_front n (next_flush n last e) xs ys counted.1)

pub counted_append : (n last : ℕ) (xs ys : List Entry) → Counted n last xs → Counted n (last_from n last xs) ys → Counted n last (xs ++ ys)
counted_append n last [] ys counted more = more
counted_append n last (e ∷ xs) ys counted more = (counted.0, counted_append n (next_flush n last e) xs ys counted.1 more)

pub counted_take : (n k : ℕ) (entries : List Entry) → Counted n 0 entries → Counted n 0 (take k entries)
counted_take n k entries counted = counted_front n 0 (take k entries) (drop k entries) (subst (Counted n 0) (sym (take-append-drop k entries)) counted)

pub last_append : (n : ℕ) (xs ys : List Entry) → last_flush (xs ++ ys) n ≡ last_from n (last_flush xs n) ys
last_append n xs ys = fold-append (next_flush n) 0 xs ys

last_front : (n : ℕ) (xs ys : List Entry) → Counted n 0 (xs ++ ys) → last_flush xs n ≤ last_flush (xs ++ ys) n
last_front n xs ys counted = subst (λ (k : ℕ). last_flush xs n ≤ k) (sym (last_append n xs ys)) (counted_last n (last_flush xs n) ys (counted_rest n 0 xs ys counted))

pub last_take : (n k : ℕ) (entries : List Entry) → Counted n 0 entries → last_flush (take k entries) n ≤ last_flush entries n
last_take n k entries counted = subst (λ (l : List Entry). last_flush (take k entries) n ≤ last_flush l n) (take-append-drop k entries) (last_front n (take k entries) (drop k entries) (subst (Counted n 0) (sym (take-append-drop k entries)) counted))

pub last_longer : (n j k : ℕ) (entries : List Entry) → j ≤ k → k ≤ length entries → Counted n 0 entries → last_flush (take j entries) n ≤ last_flush (take k entries) n
last_longer n j k entries less fits counted = subst (λ (l : List Entry). last_flush l n ≤ last_flush (take k entries) n) (take_take j k entries less fits) (last_take n j (take k entries) (counted_take n k entries counted))

-- one entry more
pub last_quiet : (n : ℕ) (entries : List Entry) (e : Entry) → is_flush_of n e ≡ false → last_flush (entries ++ e ∷ []) n ≡ last_flush entries n
last_quiet n entries e test = last_append n entries (e ∷ []) ∙ ap (λ (b : Bool). cond b e.number (last_flush entries n)) test

pub last_new : (n : ℕ) (entries : List Entry) (e : Entry) → is_flush_of n e ≡ true → last_flush (entries ++ e ∷ []) n ≡ e.number
last_new n entries e test = last_append n entries (e ∷ []) ∙ ap (λ (b : Bool). cond b e.number (last_flush entries n)) test

-- flushes
pub follow_most : (low high : ℕ) (fs : List FlushMsg) → Follow low high fs → low ≤ high
follow_most low high [] follow = omega (arith, follow)
follow_most low high (f ∷ fs) follow = let more = follow_most (low + 1) high fs follow.1 in omega (arith, more)

pub above_above : (low mid : ℕ) (fs : List FlushMsg) → low ≤ mid → above mid (above low fs) ≡ above mid fs
above_above low mid [] less = refl
above_above low mid (f ∷ fs) less = by_low (nat_lt low f.number) refl (nat_lt mid f.number) refl (above_above low mid fs less)
  where
    by_low : (a : Bool) → nat_lt low f.number ≡ a → (b : Bool) → nat_lt mid f.number ≡ b → above mid (above low fs) ≡ above mid fs → above mid (cond a (f ∷ above low fs) (above low fs)) ≡ cond b (f ∷ above mid fs) (above mid fs)
    by_low true one true two rest = rw two (ap (λ (l : List FlushMsg). f ∷ l) rest)
    by_low true one false two rest = rw two rest
    by_low false one false two rest = rest
    by_low false one true two rest = absurd (grind (arith, nat_tests, one, two, less))

-- all of them are above
follow_all : (low k high : ℕ) (fs : List FlushMsg) → low ≤ k → Follow k high fs → above low fs ≡ fs
follow_all low k high [] less follow = refl
follow_all low k high (f ∷ fs) less follow = rw test (ap (λ (l : List FlushMsg). f ∷ l) (follow_all low (k + 1) high fs (omega (arith, less)) follow.1))
  where
    test : nat_lt low f.number ≡ true
    test = let is = follow.0 in grind (arith, nat_tests, less, is)

follow_first : (low mid high : ℕ) (f : FlushMsg) (fs : List FlushMsg) → low ≤ mid → Follow low high (f ∷ fs) → (low + 1 ≤ mid → Follow mid high (above mid fs)) → Follow mid high (above mid (f ∷ fs))
follow_first low mid high f fs less follow rest = by_test (nat_lt mid f.number) refl
  where
    number : f.number ≡ low + 1
    number = follow.0

    by_test : (b : Bool) → nat_lt mid f.number ≡ b → Follow mid high (cond b (f ∷ above mid fs) (above mid fs))
    by_test true test = (omega (arith, same, number), subst (Follow (mid + 1) high) (sym (follow_all mid (mid + 1) high fs (omega arith) next)) next)
      where
        same : mid ≡ low
        same = grind (arith, nat_tests, test, number, less)

        next : Follow (mid + 1) high fs
        next = subst (λ (k : ℕ). Follow (k + 1) high fs) (sym same) follow.1
    by_test false test = rest (grind (arith, nat_tests, test, number))

follow_skip : (low mid high : ℕ) (fs : List FlushMsg) → low ≤ mid → mid ≤ high → Follow low high fs → Follow mid high (above mid fs)
follow_skip low mid high [] less most follow = omega (arith, less, most, follow)
follow_skip low mid high (f ∷ fs) less most follow = follow_first low mid high f fs less follow (λ next. follow_skip (low + 1) mid high fs next most follow.1)

pub follow_above : (low mid high : ℕ) (fs : List FlushMsg) → low ≤ mid → mid ≤ high → Follow low high (above low fs) → Follow mid high (above mid fs)
follow_above low mid high fs less most follow = subst (Follow mid high) (above_above low mid fs less) (follow_skip low mid high (above low fs) less most follow)

pub follow_end : (low high : ℕ) (fs : List FlushMsg) (f : FlushMsg) → f.number ≡ high + 1 → Follow low high fs → Follow low (high + 1) (fs ++ f ∷ [])
follow_end low high [] f is follow = (omega (arith, is, follow), omega (arith, follow))
follow_end low high (x ∷ fs) f is follow = (follow.0, follow_end (low + 1) high fs f is follow.1)

pub above_append : (low : ℕ) (xs ys : List FlushMsg) → above low (xs ++ ys) ≡ above low xs ++ above low ys
above_append low [] ys = refl
above_append low (f ∷ xs) ys = by_test (nat_lt low f.number) (above_append low xs ys)
  where
    by_test : (b : Bool) → above low (xs ++ ys) ≡ above low xs ++ above low ys → cond b (f ∷ above low (xs ++ ys)) (above low (xs ++ ys)) ≡ cond b (f ∷ above low xs) (above low xs) ++ above low ys
    by_test true e = ap (λ (l : List FlushMsg). f ∷ l) e
    by_test false e = e

-- one more that was sent
pub above_end : (low high : ℕ) (fs : List FlushMsg) (f : FlushMsg) → low ≤ high → f.number ≡ high + 1 → above low (fs ++ f ∷ []) ≡ above low fs ++ f ∷ []
above_end low high fs f less is = above_append low fs (f ∷ []) ∙ ap (λ (b : Bool). above low fs ++ cond b (f ∷ []) []) test
  where
    test : nat_lt low f.number ≡ true
    test = grind (arith, nat_tests, less, is)

-- without those that are acknowledged
pub above_acked : (low : ℕ) (which : ℕ → Bool) (fs : List FlushMsg) → ((i : ℕ) → which i ≡ true → i ≤ low) → above low (filter (λ (f : FlushMsg). not (which f.number)) fs) ≡ above low fs
above_acked low which [] few = refl
above_acked low which (f ∷ fs) few = by_which (which f.number) refl (nat_lt low f.number) refl (above_acked low which fs few)
  where
    by_which : (a : Bool) → which f.number ≡ a → (b : Bool) → nat_lt low f.number ≡ b → above low (filter (λ (f : FlushMsg). not (which f.number)) fs) ≡ above low fs
        → above low (cond (not a) (f ∷ filter (λ (f : FlushMsg). not (which f.number)) fs) (filter (λ (f : FlushMsg). not (which f.number)) fs)) ≡ cond b (f ∷ above low fs) (above low fs)
    by_which true one true two rest = absurd (let less = few f.number one in grind (arith, nat_tests, two, less))
    by_which true one false two rest = rest
    by_which false one true two rest = rw two (ap (λ (l : List FlushMsg). f ∷ l) rest)
    by_which false one false two rest = rw two rest

-- the first one is taken
pub above_next : (low : ℕ) (fs gs : List FlushMsg) (f : FlushMsg) → f.number ≡ low + 1 → f ∷ gs ≡ above low fs → above (low + 1) gs ≡ above (low + 1) fs
above_next low fs gs f is same = first (nat_lt (low + 1) f.number) refl ∙ ap (above (low + 1)) same ∙ above_above low (low + 1) fs (omega arith)
  where
    first : (b : Bool) → nat_lt (low + 1) f.number ≡ b → above (low + 1) gs ≡ cond (nat_lt (low + 1) f.number) (f ∷ above (low + 1) gs) (above (low + 1) gs)
    first true test = absurd (grind (arith, nat_tests, test, is))
    first false test = rw test refl

pub above_all : (low high : ℕ) (gs : List FlushMsg) → Follow low high gs → above low gs ≡ gs
above_all low high gs follow = follow_all low low high gs (omega arith) follow

-- on the way
pub of_append : (k : ℕ) (up more : List ToServer) → flushes_of k (up ++ more) ≡ flushes_of k up ++ flushes_of k more
of_append k [] more = refl
of_append k (Flush conn f ∷ up) more = by_test (conn == k) (of_append k up more)
  where
    by_test : (b : Bool) → flushes_of k (up ++ more) ≡ flushes_of k up ++ flushes_of k more → cond b (f ∷ flushes_of k (up ++ more)) (flushes_of k (up ++ more)) ≡ cond b (f ∷ flushes_of k up) (flushes_of k up) ++ flushes_of k more
    by_test true e = ap (λ (l : List FlushMsg). f ∷ l) e
    by_test false e = e
of_append k (m ∷ up) more = of_append k up more

pub of_none : (k : ℕ) (up : List ToServer) → NoFlush up → flushes_of k up ≡ []
of_none k [] none = refl
of_none k (Flush conn f ∷ up) none = absurd none
of_none k (m ∷ up) none = of_none k up none

pub of_behind : (o : Offer) (j k : ℕ) (up : List ToServer) → Behind o j up → flushes_of k up ≡ []
of_behind o j k [] is = refl
of_behind o j k (Connect conn said flushes asked ∷ up) is = of_behind o (j + 1) k up is.1
of_behind o j k (m ∷ up) is = absurd is

-- entries that say what the flushes say
agree_entry : (n : ℕ) (f : FlushMsg) (entries : List Entry) (e : Entry) → (is_flush_of n e ≡ true → e.number ≡ f.number → e.what ≡ flush_entry f) → AgreeAt n f entries → AgreeAt n f (entries ++ e ∷ [])
agree_entry n f [] e says agree = (says, tt)
agree_entry n f (x ∷ entries) e says agree = (agree.0, agree_entry n f entries e says agree.1)

-- an entry says what each flush of its number says
abbrev pub SaysAll : Entry → List FlushMsg → Type 0
SaysAll e [] = Unit {0}
SaysAll e (f ∷ fs) = (e.number ≡ f.number → e.what ≡ flush_entry f) × SaysAll e fs

pub all_agree_entry : (n : ℕ) (entries : List Entry) (e : Entry) (fs : List FlushMsg) → (is_flush_of n e ≡ true → SaysAll e fs) → AllAgree n entries fs → AllAgree n (entries ++ e ∷ []) fs
all_agree_entry n entries e [] says all = tt
all_agree_entry n entries e (f ∷ fs) says all = (agree_entry n f entries e (λ is. (says is).0) all.0, all_agree_entry n entries e fs (λ is. (says is).1) all.1)

agree_front : (n : ℕ) (f : FlushMsg) (entries more : List Entry) → AgreeAt n f (entries ++ more) → AgreeAt n f entries
agree_front n f [] more agree = tt
agree_front n f (e ∷ entries) more agree = (agree.0, agree_front n f entries more agree.1)

all_agree_front : (n : ℕ) (entries more : List Entry) (fs : List FlushMsg) → AllAgree n (entries ++ more) fs → AllAgree n entries fs
all_agree_front n entries more [] all = tt
all_agree_front n entries more (f ∷ fs) all = (agree_front n f entries more all.0, all_agree_front n entries more fs all.1)

pub all_agree_take : (n k : ℕ) (entries : List Entry) (fs : List FlushMsg) → AllAgree n entries fs → AllAgree n (take k entries) fs
all_agree_take n k entries fs all = all_agree_front n (take k entries) (drop k entries) fs (subst (λ (l : List Entry). AllAgree n l fs) (sym (take-append-drop k entries)) all)

pub all_agree_filter : (n : ℕ) (entries : List Entry) (p : FlushMsg → Bool) (fs : List FlushMsg) → AllAgree n entries fs → AllAgree n entries (filter p fs)
all_agree_filter n entries p [] all = tt
all_agree_filter n entries p (f ∷ fs) all = by_test (p f) (all_agree_filter n entries p fs all.1)
  where
    by_test : (b : Bool) → AllAgree n entries (filter p fs) → AllAgree n entries (cond b (f ∷ filter p fs) (filter p fs))
    by_test true rest = (all.0, rest)
    by_test false rest = rest

pub all_agree_end : (n : ℕ) (entries : List Entry) (fs : List FlushMsg) (f : FlushMsg) → AgreeAt n f entries → AllAgree n entries fs → AllAgree n entries (fs ++ f ∷ [])
all_agree_end n entries [] f agree all = (agree, tt)
all_agree_end n entries (x ∷ fs) f agree all = (all.0, all_agree_end n entries fs f agree all.1)

-- a flush with a number above all entries
new_agrees : (n last high : ℕ) (f : FlushMsg) (entries : List Entry) → Counted n last entries → last_from n last entries ≤ high → high < f.number → AgreeAt n f entries
new_agrees n last high f [] counted most above_it = tt
new_agrees n last high f (e ∷ entries) counted most above_it = (one, new_agrees n (next_flush n last e) high f entries counted.1 most above_it)
  where
    one : is_flush_of n e ≡ true → e.number ≡ f.number → e.what ≡ flush_entry f
    one is same =
        let here : next_flush n last e ≡ e.number = ap (λ (b : Bool). cond b e.number last) is in
        let less = counted_last n (next_flush n last e) entries counted.1 in
        absurd (omega (arith, here, less, most, above_it, same))

pub newest_agrees : (n high : ℕ) (f : FlushMsg) (entries : List Entry) → Counted n 0 entries → last_flush entries n ≤ high → f.number ≡ high + 1 → AgreeAt n f entries
newest_agrees n high f entries counted most is = new_agrees n 0 high f entries counted most (omega (arith, is))

abbrev first_or : FlushMsg → List FlushMsg → FlushMsg
first_or f [] = f
first_or f (g ∷ fs) = g

-- the first flush behind a number is the one of the next number
none_says : (low k high : ℕ) (e : Entry) (fs : List FlushMsg) → e.number ≡ low + 1 → low + 1 ≤ k → Follow k high (above low fs) → SaysAll e fs
none_says low k high e [] is less follow = tt
none_says low k high e (f ∷ fs) is less follow = by_test (nat_lt low f.number) refl follow (λ next more rest. none_says low next high e fs is more rest)
  where
    by_test : (b : Bool) → nat_lt low f.number ≡ b → Follow k high (cond b (f ∷ above low fs) (above low fs)) → ((next : ℕ) → low + 1 ≤ next → Follow next high (above low fs) → SaysAll e fs) → SaysAll e (f ∷ fs)
    by_test true test follow go = (λ same. absurd (let at = follow.0 in omega (arith, at, is, same, less)), go (k + 1) (omega (arith, less)) follow.1)
    by_test false test follow go = (λ same. absurd (grind (arith, nat_tests, test, is, same)), go k less follow)

pub first_says : (low high : ℕ) (f : FlushMsg) (rest : List FlushMsg) (e : Entry) (fs : List FlushMsg) → e.number ≡ f.number → e.what ≡ flush_entry f → f ∷ rest ≡ above low fs → Follow low high (f ∷ rest) → SaysAll e fs
first_says low high f rest e [] number what same follow = tt
first_says low high f rest e (g ∷ fs) number what same follow = by_test (nat_lt low g.number) refl same (λ more. first_says low high f rest e fs number what more follow)
  where
    next : e.number ≡ low + 1
    next = number ∙ follow.0

    head : f ∷ rest ≡ g ∷ above low fs → f ≡ g
    head is = ap (λ (l : List FlushMsg). first_or f l) is

    tail : f ∷ rest ≡ g ∷ above low fs → rest ≡ above low fs
    tail is = ap (drop 1) is

    by_test : (b : Bool) → nat_lt low g.number ≡ b → f ∷ rest ≡ cond b (g ∷ above low fs) (above low fs) → (f ∷ rest ≡ above low fs → SaysAll e fs) → SaysAll e (g ∷ fs)
    by_test true test is go = (λ _. what ∙ ap flush_entry (head is), none_says low (low + 1) high e fs next (omega arith) (subst (Follow (low + 1) high) (tail is) follow.1))
    by_test false test is go = (λ at. absurd (grind (arith, nat_tests, test, next, at)), go is)

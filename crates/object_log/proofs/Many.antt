-- So many bytes, each by its place.
use Rattle.std.proofs.Common.{◌++◌, replicate, length-append, ⊎_elim, ◌≡◌, ℕ, ◌+◌, ◌-◌, ◌<◌, ◌≤◌, min, List, length, get_or, take, sym, ◌∙◌, ap, arith, length-take}
use Rattle.std.proofs.lemmas.Bool.{cases_lt}
use Rattle.std.proofs.lemmas.List.{ext_get_or, get_or_past, get_or-take, get_or_append_left, get_or-append_right, length-replicate, get_or-replicate}
use Rattle.std.proofs.lemmas.List.FromFn.{length-map-range_with_len, get_or-map-range_with_len}
use Rattle.object_log.specs.Bytes.{so_many}

pub length-so_many : (f : ℕ → ℕ) (n : ℕ) → length (so_many n f) ≡ n
length-so_many f n = length-map-range_with_len f 0 n

pub get_or-so_many : (f : ℕ → ℕ) (n i d : ℕ) → i < n → get_or (so_many n f) i d ≡ f i
get_or-so_many f n i d h = get_or-map-range_with_len f 0 n i i d h (omega arith)

pub get_or-so_many_past : (f : ℕ → ℕ) (n i d : ℕ) → n ≤ i → get_or (so_many n f) i d ≡ d
get_or-so_many_past f n i d h = get_or_past (so_many n f) i d (omega (arith, length-so_many f n))

-- so many bytes are the same where each is
pub so_many_same : (f g : ℕ → ℕ) (n : ℕ) → ((i : ℕ) → i < n → f i ≡ g i) → so_many n f ≡ so_many n g
so_many_same f g n same = ext_get_or 0 (so_many n f) (so_many n g) (length-so_many f n ∙ sym (length-so_many g n))
    (λ i h. let k : i < n = omega (arith, length-so_many f n, h) in
    get_or-so_many f n i 0 k ∙ same i k ∙ sym (get_or-so_many g n i 0 k))

-- a list is its bytes by their places
pub is_so_many : (xs : List ℕ) (f : ℕ → ℕ) (n : ℕ) → length xs ≡ n → ((i : ℕ) → i < n → get_or xs i 0 ≡ f i) → xs ≡ so_many n f
is_so_many xs f n e same = ext_get_or 0 xs (so_many n f) (e ∙ sym (length-so_many f n))
    (λ i h. let k : i < n = omega (arith, h, e) in same i k ∙ sym (get_or-so_many f n i 0 k))

-- the first of so many
pub take-so_many : (f : ℕ → ℕ) (n m : ℕ) → m ≤ n → take m (so_many n f) ≡ so_many m f
take-so_many f n m h = is_so_many (take m (so_many n f)) f m (length-take m (so_many n f) ∙ (let e : min m (length (so_many n f)) ≡ m = omega (arith, length-so_many f n) in e))
    (λ i k. get_or-take m (so_many n f) i 0 k ∙ get_or-so_many f n i 0 (omega arith))

-- so many and some more
pub so_many-append : (f g : ℕ → ℕ) (a b n : ℕ) → a + b ≡ n → ((j : ℕ) → j < b → g j ≡ f (a + j)) → so_many a f ++ so_many b g ≡ so_many n f
so_many-append f g a b n e same = is_so_many (so_many a f ++ so_many b g) f n
    (length-append (so_many a f) (so_many b g) ∙ (let e2 : length (so_many a f) + length (so_many b g) ≡ n = omega (arith, length-so_many f a, length-so_many g b) in e2))
    (λ i h. ⊎_elim
    (λ (p : i < a). get_or_append_left (so_many a f) (so_many b g) 0 i (omega (arith, length-so_many f a)) ∙ get_or-so_many f a i 0 p)
    (λ (p : a ≤ i). get_or-append_right (so_many a f) (so_many b g) a i 0 (length-so_many f a) p
    ∙ get_or-so_many g b (i - a) 0 (omega arith) ∙ same (i - a) (omega arith)
    ∙ ap f (let e2 : a + (i - a) ≡ i = omega arith in e2))
    (cases_lt i a))

-- so many zeros
pub so_many_zeros : (f : ℕ → ℕ) (n : ℕ) → ((i : ℕ) → f i ≡ 0) → replicate n 0 ≡ so_many n f
so_many_zeros f n zero = is_so_many (replicate n 0) f n (length-replicate n 0) (λ i h. get_or-replicate n i 0 0 h ∙ sym (zero i))

-- A field that is read is the field that was written, and what was written is read again.
use Rattle.std.proofs.Common.{◌≡◌, ℕ, zero, suc, ◌+◌, ◌^◌, ◌<◌, ◌≤◌, Bool, true, false, cond, ltb, List, [], ◌∷◌, ◌++◌, length, get_or, take, drop, Option, Some, None, refl, sym, ap, subst, ◌∙◌, append_assoc, arith, inl, inr}
use Rattle.std.specs.Int.{Width, w16, w32, w64, byte_len, from_be_bytes, to_be_bytes}
use Rattle.std.proofs.lemmas.Bool.{cases_lt, ltb-false, le-ltb}
use Rattle.std.proofs.lemmas.List.{take_at, drop_at, take-append-drop, length-append, length-take, get_or-drop, get_or-take, get_or_past}
use Rattle.std.proofs.lemmas.Nat.{be_bytes_2, be_bytes_4, be_bytes_8, from_be_bytes-to_be_bytes_2, from_be_bytes-to_be_bytes_4, from_be_bytes-to_be_bytes_8}
use Rattle.snap_ids.specs.Name.{is_name}
use Rattle.journal_format.specs.Bytes.{long, word, short, text, flag, IsLong, IsWord, IsShort, IsByte, IsName}
use Rattle.journal_format.specs.Reading.{◌>>=◌, byte_at, number_at, long_at, word_at, short_at, flag_at, name_of, name_at, then_at}

abbrev pub IsBytes : List ℕ → Type 0
IsBytes bytes = (i : ℕ) → get_or bytes i 0 < 256

IsBytes-drop : (n : ℕ) (bytes : List ℕ) → IsBytes bytes → IsBytes (drop n bytes)
IsBytes-drop n bytes h i = rw get_or-drop (h (n + i))

IsBytes-take : (n : ℕ) (bytes : List ℕ) → IsBytes bytes → IsBytes (take n bytes)
IsBytes-take n bytes h i =
    elim (cases_lt i n) [
      | inl lt ↦ rw (get_or-take n bytes i 0 lt) (h i)
      | inr le ↦ rw (get_or_past (take n bytes) i 0 (omega (arith, length-take n bytes))) (omega arith)
    ]

pub IsBytes-rest : (b : ℕ) (bytes : List ℕ) → IsBytes (b ∷ bytes) → IsBytes bytes
IsBytes-rest b bytes h i = h (suc i)

-- the value of a step that did not fail
pub bind_some : {A B : Type 0} (r : Option A) (f : A → Option B) (y : B) → (r >>= f) ≡ Some y → (x : A) × (r ≡ Some x) × (f x ≡ Some y)
bind_some (Some x) f y e = (x, refl, e)
bind_some None f y e = absurd cc

-- a test that did not fail
pub guard_some : {A : Type 0} (b : Bool) (x y : A) → cond b None (Some x) ≡ Some y → (b ≡ false) × (x ≡ y)
guard_some true x y e = absurd cc
guard_some false x y e = (refl, cc)

pub guard_then : {A : Type 0} (b : Bool) (o : Option A) (y : A) → cond b None o ≡ Some y → (b ≡ false) × (o ≡ Some y)
guard_then true o y e = absurd cc
guard_then false o y e = (refl, e)

pub guard_true : {A : Type 0} (b : Bool) (x y : A) → cond b (Some x) None ≡ Some y → (b ≡ true) × (x ≡ y)
guard_true true x y e = (refl, cc)
guard_true false x y e = absurd cc

abbrev some : {A : Type 0} → A → Option A
some x = Some x

pub some_is : {A : Type 0} (x y : A) → some x ≡ some y → x ≡ y
some_is x y e = cc

-- what a reader took from the front
pub record Takes (bytes front rest : List ℕ) : Type 0 where
  pub parts : bytes ≡ front ++ rest
  pub rest_fits : IsBytes rest

pub Takes-then : (a x b y c : List ℕ) → Takes a x b → Takes b y c → Takes a (x ++ y) c
Takes-then a x b y c p q = record { parts = p.parts ∙ ap (λ (t : List ℕ). x ++ t) q.parts ∙ sym (append_assoc x y c); rest_fits = q.rest_fits }

-- a way to write values that fit, and to read them
pub record Format {A : Type 0} (write : A → List ℕ) (read : List ℕ → Option (A × List ℕ)) (Fits : A → Type 0) : Type 0 where
  pub takes : (bytes : List ℕ) (x : A × List ℕ) → IsBytes bytes → read bytes ≡ Some x → Takes bytes (write x.0) x.1 × Fits x.0
  pub again : (a : A) (rest : List ℕ) → Fits a → read (write a ++ rest) ≡ Some (a, rest)

-- ---- numbers

record IsWide (w : Width) (limit : ℕ) : Type 0 where
  len : (n : ℕ) → length (to_be_bytes w n) ≡ byte_len w
  back : (bytes : List ℕ) → length bytes ≡ byte_len w → IsBytes bytes → to_be_bytes w (from_be_bytes w bytes) ≡ bytes
  again : (n : ℕ) → n < limit → from_be_bytes w (to_be_bytes w n) ≡ n
  below : (bytes : List ℕ) → IsBytes bytes → from_be_bytes w bytes < limit

wide16 : IsWide w16 (2 ^ 16)
wide16 = record {
  len = λ n. refl;
  back = λ bytes len fits. be_bytes_2 bytes _ len fits refl;
  again = λ n lt. from_be_bytes-to_be_bytes_2 n lt;
  below = λ bytes fits. omega (arith, fits 0, fits 1);
}

wide32 : IsWide w32 (2 ^ 32)
wide32 = record {
  len = λ n. refl;
  back = λ bytes len fits. be_bytes_4 bytes _ len fits refl;
  again = λ n lt. from_be_bytes-to_be_bytes_4 n lt;
  below = λ bytes fits. omega (arith, fits 0, fits 1, fits 2, fits 3);
}

wide64 : IsWide w64 (2 ^ 64)
wide64 = record {
  len = λ n. refl;
  back = λ bytes len fits. be_bytes_8 bytes _ len fits refl;
  again = λ n lt. from_be_bytes-to_be_bytes_8 n lt;
  below = λ bytes fits. omega (arith, fits 0, fits 1, fits 2, fits 3, fits 4, fits 5, fits 6, fits 7);
}

number_takes : (w : Width) (limit : ℕ) (wide : IsWide w limit) (bytes : List ℕ) (x : ℕ × List ℕ) → IsBytes bytes → number_at w bytes ≡ Some x → Takes bytes (to_be_bytes w x.0) x.1 × (x.0 < limit)
number_takes w limit wide bytes x fits e =
    let g = guard_some (ltb (length bytes) (byte_len w)) (from_be_bytes w (take (byte_len w) bytes), drop (byte_len w) bytes) x e in
    let long : byte_len w ≤ length bytes = ltb-false _ _ g.0 in
    let n-is : from_be_bytes w (take (byte_len w) bytes) ≡ x.0 = ap (λ (p : ℕ × List ℕ). p.0) g.1 in
    let rest-is : drop (byte_len w) bytes ≡ x.1 = ap (λ (p : ℕ × List ℕ). p.1) g.1 in
    let front : to_be_bytes w x.0 ≡ take (byte_len w) bytes = rw (← n-is) (wide.back (take (byte_len w) bytes) (omega (arith, length-take (byte_len w) bytes)) (IsBytes-take (byte_len w) bytes fits)) in
    (record { parts = rw (front, ← rest-is) (sym (take-append-drop (byte_len w) bytes)); rest_fits = rw (← rest-is) (IsBytes-drop (byte_len w) bytes fits) }, rw (← n-is) (wide.below (take (byte_len w) bytes) (IsBytes-take (byte_len w) bytes fits)))

number_again : (w : Width) (limit : ℕ) (wide : IsWide w limit) (n : ℕ) (rest : List ℕ) → n < limit → number_at w (to_be_bytes w n ++ rest) ≡ Some (n, rest)
number_again w limit wide n rest lt =
    let len = wide.len n in
    let long : ltb (length (to_be_bytes w n ++ rest)) (byte_len w) ≡ false = le-ltb _ _ (omega (arith, length-append (to_be_bytes w n) rest)) in
    rw (long, take_at (to_be_bytes w n) rest (byte_len w) len, drop_at (to_be_bytes w n) rest (byte_len w) len, wide.again n lt) refl

pub longs : Format long long_at IsLong
longs = record { takes = number_takes w64 (2 ^ 64) wide64; again = number_again w64 (2 ^ 64) wide64 }

pub words : Format word word_at IsWord
words = record { takes = number_takes w32 (2 ^ 32) wide32; again = number_again w32 (2 ^ 32) wide32 }

pub shorts : Format short short_at IsShort
shorts = record { takes = number_takes w16 (2 ^ 16) wide16; again = number_again w16 (2 ^ 16) wide16 }

-- ---- bytes and flags

byte_takes : (bytes : List ℕ) (x : ℕ × List ℕ) → IsBytes bytes → byte_at bytes ≡ Some x → Takes bytes (x.0 ∷ []) x.1 × IsByte x.0
byte_takes [] x fits e = absurd cc
byte_takes (byte ∷ bytes) x fits e =
    subst (λ (y : ℕ × List ℕ). Takes (byte ∷ bytes) (y.0 ∷ []) y.1 × IsByte y.0) (some_is (byte, bytes) x e) (record { parts = refl; rest_fits = IsBytes-rest byte bytes fits }, fits 0)

pub single_bytes : Format (λ n. n ∷ []) byte_at IsByte
single_bytes = record { takes = byte_takes; again = λ n rest h. refl }

flag_takes : (bytes : List ℕ) (x : Bool × List ℕ) → IsBytes bytes → flag_at bytes ≡ Some x → Takes bytes (flag x.0) x.1 × Unit {0}
unfolding flag_at
flag_takes [] x fits e = absurd cc
flag_takes (zero ∷ bytes) x fits e =
    subst (λ (y : Bool × List ℕ). Takes (0 ∷ bytes) (flag y.0) y.1 × Unit {0}) (some_is (false, bytes) x e) (record { parts = refl; rest_fits = IsBytes-rest 0 bytes fits }, tt)
flag_takes (suc zero ∷ bytes) x fits e =
    subst (λ (y : Bool × List ℕ). Takes (1 ∷ bytes) (flag y.0) y.1 × Unit {0}) (some_is (true, bytes) x e) (record { parts = refl; rest_fits = IsBytes-rest 1 bytes fits }, tt)
flag_takes (suc (suc byte) ∷ bytes) x fits e = absurd cc

flag_again : (b : Bool) (rest : List ℕ) → Unit {0} → flag_at (flag b ++ rest) ≡ Some (b, rest)
unfolding flag_at
flag_again false rest h = refl
flag_again true rest h = refl

pub flags : Format flag flag_at (λ b. Unit {0})
flags = record { takes = flag_takes; again = flag_again }

-- ---- names

name_takes : (bytes : List ℕ) (x : List ℕ × List ℕ) → IsBytes bytes → name_at bytes ≡ Some x → Takes bytes (text x.0) x.1 × IsName x.0
unfolding name_at
name_takes bytes x fits e =
    let b = bind_some (byte_at bytes) (λ count. name_of count.0 count.1) x e in
    let n = b.0 in
    let t = byte_takes bytes n fits b.1 in
    let g = guard_then (ltb (length n.1) n.0) (cond (is_name (take n.0 n.1)) (Some (take n.0 n.1, drop n.0 n.1)) None) x b.2 in
    let named = guard_true (is_name (take n.0 n.1)) (take n.0 n.1, drop n.0 n.1) x g.1 in
    let inside : n.0 ≤ length n.1 = ltb-false _ _ g.0 in
    let len : length (take n.0 n.1) ≡ n.0 = omega (arith, length-take n.0 n.1) in
    let second : Takes n.1 (take n.0 n.1) (drop n.0 n.1) = record { parts = sym (take-append-drop n.0 n.1); rest_fits = IsBytes-drop n.0 n.1 t.0.rest_fits } in
    let both = Takes-then bytes (n.0 ∷ []) n.1 (take n.0 n.1) (drop n.0 n.1) t.0 second in
    let whole : Takes bytes (text (take n.0 n.1)) (drop n.0 n.1) = subst (λ (k : ℕ). Takes bytes (k ∷ take n.0 n.1) (drop n.0 n.1)) (sym len) both in
    subst (λ (p : List ℕ × List ℕ). Takes bytes (text p.0) p.1 × IsName p.0) named.1 (whole, named.0)

name_again : (name rest : List ℕ) → IsName name → name_at (text name ++ rest) ≡ Some (name, rest)
unfolding name_at
name_again name rest named =
    let inside : ltb (length (name ++ rest)) (length name) ≡ false = le-ltb _ _ (omega (arith, length-append name rest)) in
    rw (inside, take_at name rest (length name) refl, drop_at name rest (length name) refl, named) refl

pub names : Format text name_at IsName
names = record { takes = name_takes; again = name_again }

-- ---- several fields

then_takes : {A B : Type 0} (wa : A → List ℕ) (ra : List ℕ → Option (A × List ℕ)) (FA : A → Type 0) (wb : B → List ℕ) (rb : List ℕ → Option (B × List ℕ)) (FB : B → Type 0)
    → Format wa ra FA → Format wb rb FB → (bytes : List ℕ) (x : (A × B) × List ℕ) → IsBytes bytes → then_at ra rb bytes ≡ Some x
    → Takes bytes (wa x.0.0 ++ wb x.0.1) x.1 × (FA x.0.0 × FB x.0.1)
then_takes {A} {B} wa ra FA wb rb FB fa fb bytes x fits e =
    let a = bind_some (ra bytes) (λ x. rb x.1 >>= λ y. Some ((x.0, y.0), y.1)) x e in
    let b = bind_some (rb a.0.1) (λ y. Some ((a.0.0, y.0), y.1)) x a.2 in
    let t = fa.takes bytes a.0 fits a.1 in
    let u = fb.takes a.0.1 b.0 t.0.rest_fits b.1 in
    let both = Takes-then bytes (wa a.0.0) a.0.1 (wb b.0.0) b.0.1 t.0 u.0 in
    subst (λ (y : (A × B) × List ℕ). Takes bytes (wa y.0.0 ++ wb y.0.1) y.1 × (FA y.0.0 × FB y.0.1)) (some_is ((a.0.0, b.0.0), b.0.1) x b.2) (both, (t.1, u.1))

then_again : {A B : Type 0} (wa : A → List ℕ) (ra : List ℕ → Option (A × List ℕ)) (FA : A → Type 0) (wb : B → List ℕ) (rb : List ℕ → Option (B × List ℕ)) (FB : B → Type 0)
    → Format wa ra FA → Format wb rb FB → (a : A × B) (rest : List ℕ) → FA a.0 × FB a.1 → then_at ra rb ((wa a.0 ++ wb a.1) ++ rest) ≡ Some (a, rest)
then_again wa ra FA wb rb FB fa fb a rest h =
    ap (then_at ra rb) (append_assoc (wa a.0) (wb a.1) rest) ∙ rw (fa.again a.0 (wb a.1 ++ rest) h.0, fb.again a.1 rest h.1) refl

pub both : {A B : Type 0} (wa : A → List ℕ) (ra : List ℕ → Option (A × List ℕ)) (FA : A → Type 0) (wb : B → List ℕ) (rb : List ℕ → Option (B × List ℕ)) (FB : B → Type 0)
    → Format wa ra FA → Format wb rb FB → Format (λ (a : A × B). wa a.0 ++ wb a.1) (then_at ra rb) (λ a. FA a.0 × FB a.1)
both wa ra FA wb rb FB fa fb = record { takes = then_takes wa ra FA wb rb FB fa fb; again = then_again wa ra FA wb rb FB fa fb }

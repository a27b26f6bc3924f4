-- Ids that fall, those of them that are news to an object, and the clones that list them.
use Rattle.std.proofs.Common.{◌≡◌, ℕ, ◌<◌, ◌≤◌, Bool, true, false, cond, not, ◌||◌, ◌&&◌, eqb, nat_lt, nat_le, List, [], ◌∷◌, ◌++◌, filter, Option, None, Some, if◌then◌else◌, sym, ◌∙◌, refl, ap, subst, arith}
use Rattle.std.specs.List.{filter_map, cons_option}
use Rattle.std.specs.Option.{option_map}
use Rattle.snap_ids.specs.declared.id.SnapId.{SnapId}
use Rattle.snap_ids.specs.Context.{is_listed, falls, begins_below}
use Rattle.object_log.specs.Serves.{CloneByte, still_kept, byte_kept}

pub lt_is : (a b : ℕ) → nat_lt a b ≡ true → a < b
lt_is a b h = grind arith

pub lt_not : (a b : ℕ) → nat_lt a b ≡ false → b ≤ a
lt_not a b h = grind arith

pub is_lt : (a b : ℕ) → a < b → nat_lt a b ≡ true
is_lt a b h = grind arith

pub not_lt : (a b : ℕ) → b ≤ a → nat_lt a b ≡ false
not_lt a b h = grind arith

is_le : (a b : ℕ) → a ≤ b → nat_le a b ≡ true
is_le a b h = grind arith

not_le : (a b : ℕ) → b < a → nat_le a b ≡ false
not_le a b h = grind arith

eqb_is : (a b : ℕ) → eqb a b ≡ true → a ≡ b
eqb_is a b h = grind arith

pub and_front : (a b : Bool) → (a && b) ≡ true → a ≡ true
and_front true b h = refl
and_front false b h = h

pub and_back : (a b : Bool) → (a && b) ≡ true → b ≡ true
and_back true b h = h
and_back false b h = cc

pub or_front : (a b : Bool) → (a || b) ≡ false → a ≡ false
or_front true b h = h
or_front false b h = refl

pub or_back : (a b : Bool) → (a || b) ≡ false → b ≡ false
or_back true b h = cc
or_back false b h = h

pub if_true : {X : Type 0} (b : Bool) (x y : X) → b ≡ true → (if b then x else y) ≡ x
if_true b x y e = ap (λ t. if t then x else y) e

pub if_false : {X : Type 0} (b : Bool) (x y : X) → b ≡ false → (if b then x else y) ≡ y
if_false b x y e = ap (λ t. if t then x else y) e

same_id : (x s : SnapId) → eqb x.0 s.0 ≡ true → x ≡ s
same_id x s e = ap (λ (i : ℕ). let y : SnapId = record { 0 = i } in y) (eqb_is x.0 s.0 e)

-- an id is listed after a filter that it passes, and where it wasn't listed it isn't
one_listed : (x s : SnapId) (p : SnapId → Bool) (ids rest : List SnapId) → p s ≡ true → (is_listed s ids ≡ true → is_listed s rest ≡ true)
    → (b : Bool) → eqb x.0 s.0 ≡ b → (b || is_listed s ids) ≡ true → is_listed s (cond (p x) (x ∷ rest) rest) ≡ true
one_listed x s p ids rest passes more true e h =
    ap (λ (y : SnapId). is_listed s (cond (p y) (x ∷ rest) rest)) (same_id x s e) ∙ ap (λ b. is_listed s (cond b (x ∷ rest) rest)) passes
    ∙ ap (λ b. b || is_listed s rest) e
one_listed x s p ids rest passes more false e h = by_test (p x)
  where
    by_test : (t : Bool) → is_listed s (cond t (x ∷ rest) rest) ≡ true
    by_test true = ap (λ b. b || is_listed s rest) e ∙ more h
    by_test false = more h

pub still_listed : (ids : List SnapId) (s : SnapId) (p : SnapId → Bool) → p s ≡ true → is_listed s ids ≡ true → is_listed s (filter p ids) ≡ true
still_listed [] s p passes h = h
still_listed (x ∷ ids) s p passes h = one_listed x s p ids (filter p ids) passes (still_listed ids s p passes) (eqb x.0 s.0) refl h

one_not_listed : (x s : SnapId) (ids rest : List SnapId) → eqb x.0 s.0 ≡ false → is_listed s rest ≡ false → (t : Bool)
    → is_listed s (cond t (x ∷ rest) rest) ≡ false
one_not_listed x s ids rest e more true = ap (λ b. b || is_listed s rest) e ∙ more
one_not_listed x s ids rest e more false = more

pub not_listed : (ids : List SnapId) (s : SnapId) (p : SnapId → Bool) → is_listed s ids ≡ false → is_listed s (filter p ids) ≡ false
not_listed [] s p h = h
not_listed (x ∷ ids) s p h = one_not_listed x s ids (filter p ids) (or_front (eqb x.0 s.0) (is_listed s ids) h)
    (not_listed ids s p (or_back (eqb x.0 s.0) (is_listed s ids) h)) (p x)

-- an id that doesn't pass isn't listed
one_out_of : (x s : SnapId) (ids rest : List SnapId) (p : SnapId → Bool) → p s ≡ false → is_listed s rest ≡ false → (b : Bool) → eqb x.0 s.0 ≡ b
    → is_listed s (cond (p x) (x ∷ rest) rest) ≡ false
one_out_of x s ids rest p fails more true e =
    ap (λ (y : SnapId). is_listed s (cond (p y) (x ∷ rest) rest)) (same_id x s e) ∙ ap (λ t. is_listed s (cond t (x ∷ rest) rest)) fails ∙ more
one_out_of x s ids rest p fails more false e = one_not_listed x s ids rest e more (p x)

pub out_of : (ids : List SnapId) (s : SnapId) (p : SnapId → Bool) → p s ≡ false → is_listed s (filter p ids) ≡ false
out_of [] s p fails = refl
out_of (x ∷ ids) s p fails = one_out_of x s ids (filter p ids) p fails (out_of ids s p fails) (eqb x.0 s.0) refl

-- the first id is at most a number
abbrev pub Starts : ℕ → List SnapId → Type 0
Starts high [] = Unit {0}
Starts high (x ∷ ids) = x.0 ≤ high

-- there is a first id, which is at least another
abbrev pub Reaches : SnapId → List SnapId → Type 0
Reaches s [] = ⊥
Reaches s (x ∷ ids) = s.0 ≤ x.0

starts_below : (x : SnapId) (ids : List SnapId) (m : ℕ) → begins_below x ids ≡ true → x.0 ≤ m → Starts m ids
starts_below x [] m b h = tt
starts_below x (y ∷ ids) m b h = let l : y.0 < x.0 = lt_is y.0 x.0 b in omega arith

pub starts_filter : (ids : List SnapId) (m : ℕ) (p : SnapId → Bool) → falls ids ≡ true → Starts m ids → Starts m (filter p ids)
starts_filter [] m p f h = tt
starts_filter (x ∷ ids) m p f h = elim (p x) as (λ t. Starts m (cond t (x ∷ filter p ids) (filter p ids))) [
  | true ↦ h
  | false ↦ starts_filter ids m p (and_back (begins_below x ids) (falls ids) f) (starts_below x ids m (and_front (begins_below x ids) (falls ids) f) h)
]

one_below : (x y s : SnapId) (more : Bool) → y.0 < x.0 → (more ≡ true → s.0 < y.0) → (t : Bool) → eqb y.0 s.0 ≡ t → (t || more) ≡ true → s.0 < x.0
one_below x y s more l under true e k = let same : y.0 ≡ s.0 = eqb_is y.0 s.0 e in omega arith
one_below x y s more l under false e k = let u : s.0 < y.0 = under k in omega arith

listed_below : (ids : List SnapId) (x s : SnapId) → begins_below x ids ≡ true → falls ids ≡ true → is_listed s ids ≡ true → s.0 < x.0
listed_below [] x s b f h = cc
listed_below (y ∷ ids) x s b f h = one_below x y s (is_listed s ids) (lt_is y.0 x.0 b)
    (λ k. listed_below ids y s (and_front (begins_below y ids) (falls ids) f) (and_back (begins_below y ids) (falls ids) f) k) (eqb y.0 s.0) refl h

one_reaches : (x s : SnapId) (ids rest : List SnapId) (p : SnapId → Bool) → p s ≡ true → (is_listed s ids ≡ true → s.0 < x.0)
    → (is_listed s ids ≡ true → Reaches s rest) → (b : Bool) → eqb x.0 s.0 ≡ b → (b || is_listed s ids) ≡ true → Reaches s (cond (p x) (x ∷ rest) rest)
one_reaches x s ids rest p passes below more true e k =
    let same : x.0 ≡ s.0 = eqb_is x.0 s.0 e in
    let is : p x ≡ true = ap p (same_id x s e) ∙ passes in
    subst (λ t. Reaches s (cond t (x ∷ rest) rest)) (sym is) (let h : s.0 ≤ x.0 = omega arith in h)
one_reaches x s ids rest p passes below more false e k = elim (p x) as (λ t. Reaches s (cond t (x ∷ rest) rest)) [
  | true ↦ (let l : s.0 < x.0 = below k in let h : s.0 ≤ x.0 = omega arith in h)
  | false ↦ more k
]

pub reaches_filter : (ids : List SnapId) (s : SnapId) (p : SnapId → Bool) → falls ids ≡ true → p s ≡ true → is_listed s ids ≡ true → Reaches s (filter p ids)
reaches_filter [] s p f passes h = cc
reaches_filter (x ∷ ids) s p f passes h =
    let first : begins_below x ids ≡ true = and_front (begins_below x ids) (falls ids) f in
    let rest : falls ids ≡ true = and_back (begins_below x ids) (falls ids) f in
    one_reaches x s ids (filter p ids) p passes (λ k. listed_below ids x s first rest k) (λ k. reaches_filter ids s p rest passes k) (eqb x.0 s.0) refl h

-- a clone with the ids that are left
abbrev pub keeping : ℕ → SnapId → List SnapId → Option CloneByte
keeping b id ids = option_map (λ (clone : SnapId × List SnapId). record { clone = clone; byte = b }) (elim ids [ [] ↦ None | s ∷ ids ↦ Some (id, s ∷ ids) ])

abbrev pub left : List SnapId → List SnapId → List SnapId
left purged ids = filter (λ s. not (is_listed s purged)) ids

-- clones with lesser ids give way to those behind them
abbrev pub AllBelow : SnapId → List CloneByte → Type 0
AllBelow s [] = Unit {0}
AllBelow s (k ∷ ks) = (k.clone.0.0 < s.0) × AllBelow s ks

pub below_append : (s : SnapId) (ks more : List CloneByte) → AllBelow s ks → AllBelow s more → AllBelow s (ks ++ more)
below_append s [] more b c = c
below_append s (k ∷ ks) more b c = (b.0, below_append s ks more b.1 c)

past_one : (s id : SnapId) (b : ℕ) (ids : List SnapId) (rest : List CloneByte) → id.0 < s.0 → byte_kept s (cons_option (keeping b id ids) rest) ≡ byte_kept s rest
past_one s id b [] rest l = refl
past_one s id b (x ∷ ids) rest l = if_false (nat_le s.0 id.0) (if is_listed s (x ∷ ids) then b else 0) (byte_kept s rest) (not_le s.0 id.0 l)

pub past : (s : SnapId) (purged : List SnapId) (ks more : List CloneByte) → AllBelow s ks
    → byte_kept s (filter_map (still_kept purged) (ks ++ more)) ≡ byte_kept s (filter_map (still_kept purged) more)
past s purged [] more b = refl
past s purged (k ∷ ks) more b =
    past_one s k.clone.0 k.byte (left purged k.clone.1) (filter_map (still_kept purged) (ks ++ more)) b.0 ∙ past s purged ks more b.1

-- a further clone that doesn't list the snapshot changes nothing
last_one : (s id : SnapId) (b : ℕ) (ids : List SnapId) → is_listed s ids ≡ false → byte_kept s (cons_option (keeping b id ids) []) ≡ 0
last_one s id b [] n = refl
last_one s id b (x ∷ ids) n = ap (λ t. if nat_le s.0 id.0 then (if t then b else 0) else 0) n ∙ either (nat_le s.0 id.0)
  where
    either : (t : Bool) → (let n : ℕ = if t then 0 else 0 in n) ≡ 0
    either true = refl
    either false = refl

one_more : (s id : SnapId) (b : ℕ) (ids : List SnapId) (rest more : List CloneByte) → byte_kept s rest ≡ byte_kept s more
    → byte_kept s (cons_option (keeping b id ids) rest) ≡ byte_kept s (cons_option (keeping b id ids) more)
one_more s id b [] rest more same = same
one_more s id b (x ∷ ids) rest more same = ap (λ n. if nat_le s.0 id.0 then (if is_listed s (x ∷ ids) then b else 0) else n) same

pub none_more : (s : SnapId) (purged : List SnapId) (ks : List CloneByte) (c : CloneByte) → is_listed s c.clone.1 ≡ false
    → byte_kept s (filter_map (still_kept purged) (ks ++ c ∷ [])) ≡ byte_kept s (filter_map (still_kept purged) ks)
none_more s purged [] c n = last_one s c.clone.0 c.byte (left purged c.clone.1) (not_listed c.clone.1 s (λ q. not (is_listed q purged)) n)
none_more s purged (k ∷ ks) c n = one_more s k.clone.0 k.byte (left purged k.clone.1) (filter_map (still_kept purged) (ks ++ c ∷ []))
    (filter_map (still_kept purged) ks) (none_more s purged ks c n)

-- a clone of an id that is high enough serves what it lists
serving_one : (s id : SnapId) (b : ℕ) (ids : List SnapId) → s.0 ≤ id.0 → is_listed s ids ≡ true → byte_kept s (cons_option (keeping b id ids) []) ≡ b
serving_one s id b [] h l = cc
serving_one s id b (x ∷ ids) h l = if_true (nat_le s.0 id.0) (if is_listed s (x ∷ ids) then b else 0) 0 (is_le s.0 id.0 h) ∙ if_true (is_listed s (x ∷ ids)) b 0 l

pub serving : (s : SnapId) (purged : List SnapId) (c : CloneByte) → s.0 ≤ c.clone.0.0 → is_listed s c.clone.1 ≡ true → is_listed s purged ≡ false
    → byte_kept s (filter_map (still_kept purged) (c ∷ [])) ≡ c.byte
serving s purged c h l live = serving_one s c.clone.0 c.byte (left purged c.clone.1) h (still_listed c.clone.1 s (λ q. not (is_listed q purged)) (ap not live) l)

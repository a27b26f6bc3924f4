-- What a purge leaves as it is.
use Rattle.std.proofs.Common.{◌≡◌, ◌≢◌, ℕ, ◌+◌, ◌<◌, ◌≤◌, Bool, true, false, cond, not, ◌||◌, ◌&&◌, eqb, nat_lt, List, [], ◌∷◌, ◌++◌, length, get_or, take, map, filter, max, Option, None, Some, if◌then◌else◌, sym, ◌∙◌, refl, ap, subst, arith}
use Rattle.std.proofs.lemmas.List.{map-append}
use Rattle.std.proofs.lemmas.List.Elements.{filter-append}
use Rattle.std.proofs.lemmas.List.Folds.{list_any_more}
use Rattle.std.specs.Ordering.{nat_cmp}
use Rattle.std.specs.BTreeMap.{BTreeMap, get, is_at}
use Rattle.std.specs.BTreeSet.{BTreeSet, contains}
use Rattle.snap_ids.specs.declared.id.SnapId.{SnapId}
use Rattle.snap_ids.specs.Context.{is_listed}
use Rattle.object_clones.specs.Objects.{Kept, Plain, Next, IsLeft, changed, purged, purged_clones, serves_some, with_kept, without}
use Rattle.object_clones.specs.declared.listing.Listing.{Listing}
use Rattle.object_clones.specs.Listing.{has_place, noted, place_cmp}
use Rattle.object_clones.proofs.Decided.{eqb_is, eqb_swap, or_false, or_front, or_back}

again_step : {X : Type 0} (p : X → Bool) (x : X) (rest : List X) → filter p rest ≡ rest → (b : Bool) → p x ≡ b
    → filter p (cond b (x ∷ rest) rest) ≡ cond b (x ∷ rest) rest
again_step p x rest same true e = ap (λ t. cond t (x ∷ filter p rest) (filter p rest)) e ∙ ap (λ ys. x ∷ ys) same
again_step p x rest same false e = same

filter_again : {X : Type 0} (p : X → Bool) (xs : List X) → filter p (filter p xs) ≡ filter p xs
filter_again p [] = refl
filter_again p (x ∷ xs) = again_step p x (filter p xs) (filter_again p xs) (p x) refl

swap_step : {X : Type 0} (p q : X → Bool) (x : X) (xs : List X) → filter p (filter q xs) ≡ filter q (filter p xs)
    → (a b : Bool) → p x ≡ a → q x ≡ b → filter p (cond b (x ∷ filter q xs) (filter q xs)) ≡ filter q (cond a (x ∷ filter p xs) (filter p xs))
swap_step p q x xs same true true d e =
    ap (λ t. cond t (x ∷ filter p (filter q xs)) (filter p (filter q xs))) d ∙ ap (λ ys. x ∷ ys) same
    ∙ sym (ap (λ t. cond t (x ∷ filter q (filter p xs)) (filter q (filter p xs))) e)
swap_step p q x xs same true false d e = same ∙ sym (ap (λ t. cond t (x ∷ filter q (filter p xs)) (filter q (filter p xs))) e)
swap_step p q x xs same false true d e = ap (λ t. cond t (x ∷ filter p (filter q xs)) (filter p (filter q xs))) d ∙ same
swap_step p q x xs same false false d e = same

filter_swap : {X : Type 0} (p q : X → Bool) (xs : List X) → filter p (filter q xs) ≡ filter q (filter p xs)
filter_swap p q [] = refl
filter_swap p q (x ∷ xs) = swap_step p q x xs (filter_swap p q xs) (p x) (q x) refl refl

abbrev pub spared : SnapId → SnapId → Bool
spared s id = not (is_listed id (s ∷ []))

without_twice : (s : SnapId) (c : Kept) → without s (without s c) ≡ without s c
without_twice s c = ap (λ (ids : List SnapId). record c { ids = ids }) (filter_again (spared s) c.ids)

without_swap : (q s : SnapId) (c : Kept) → without q (without s c) ≡ without s (without q c)
without_swap q s c = ap (λ (ids : List SnapId). record c { ids = ids }) (filter_swap (spared q) (spared s) c.ids)

-- a clone that serves no id serves none after a purge
none_at : (q : SnapId) (ids : List SnapId) → nat_lt 0 (length ids) ≡ false → nat_lt 0 (length (filter (spared q) ids)) ≡ false
none_at q [] e = e
none_at q (x ∷ ids) e = let bad : length (x ∷ ids) ≤ 0 = grind (arith, e) in absurd (omega (arith, bad))

-- a clone after a purge, if it serves an id then, before the others
abbrev pub first_of : Kept → List Kept → List Kept
first_of c rest = cond (serves_some c) (c ∷ rest) rest

purge_first : (q : SnapId) (c : Kept) (rest : List Kept) → (b : Bool) → serves_some c ≡ b
    → purged_clones q (cond b (c ∷ rest) rest) ≡ first_of (without q c) (purged_clones q rest)
purge_first q c rest true e = refl
purge_first q c rest false e = sym (ap (λ t. cond t (without q c ∷ purged_clones q rest) (purged_clones q rest)) (none_at q c.ids e))

purge_twice : (s : SnapId) (cs : List Kept) → purged_clones s (purged_clones s cs) ≡ purged_clones s cs
purge_twice s [] = refl
purge_twice s (c ∷ cs) = purge_first s (without s c) (purged_clones s cs) (serves_some (without s c)) refl
    ∙ ap (first_of (without s (without s c))) (purge_twice s cs) ∙ ap (λ d. first_of d (purged_clones s cs)) (without_twice s c)

purge_swap : (q s : SnapId) (cs : List Kept) → purged_clones q (purged_clones s cs) ≡ purged_clones s (purged_clones q cs)
purge_swap q s [] = refl
purge_swap q s (c ∷ cs) = purge_first q (without s c) (purged_clones s cs) (serves_some (without s c)) refl
    ∙ ap (first_of (without q (without s c))) (purge_swap q s cs) ∙ ap (λ d. first_of d (purged_clones s (purged_clones q cs))) (without_swap q s c)
    ∙ sym (purge_first s (without q c) (purged_clones q cs) (serves_some (without q c)) refl)

-- a second purge of an id leaves an object
pub left_purged : (s : SnapId) (o : Plain) → IsLeft s (purged s o)
left_purged s o = ap (λ (cs : List Kept). record o { clones = cs }) (purge_twice s o.clones)

-- what a purge of an id leaves, it leaves after a purge of another
pub left_after : (q s : SnapId) (o : Plain) → IsLeft q o → IsLeft q (purged s o)
left_after q s o is = ap (λ (cs : List Kept). record o { clones = cs }) (purge_swap q s o.clones) ∙ ap (purged s) is

spared_all : (s : SnapId) (ids : List SnapId) → is_listed s ids ≡ false → filter (spared s) ids ≡ ids
spared_all s [] e = refl
spared_all s (x ∷ ids) e =
    let other : is_listed x (s ∷ []) ≡ false = or_false (eqb s.0 x.0) ∙ eqb_swap s.0 x.0 ∙ or_front (eqb x.0 s.0) (is_listed s ids) e in
    ap (λ t. cond (not t) (x ∷ filter (spared s) ids) (filter (spared s) ids)) other
    ∙ ap (λ ys. x ∷ ys) (spared_all s ids (or_back (eqb x.0 s.0) (is_listed s ids) e))

left_one : (s x : SnapId) (ids : List SnapId) (bytes : List ℕ) → is_listed s (x ∷ ids) ≡ false
    → purged_clones s (record { id = x; ids = x ∷ ids; bytes = bytes } ∷ []) ≡ record { id = x; ids = x ∷ ids; bytes = bytes } ∷ []
left_one s x ids bytes e =
    let serving : nat_lt 0 (length (x ∷ ids)) ≡ true = grind arith in
    ap (λ (is : List SnapId). first_of (record { id = x; ids = is; bytes = bytes }) []) (spared_all s (x ∷ ids) e)
    ∙ ap (λ t. cond t (record { id = x; ids = x ∷ ids; bytes = bytes } ∷ []) []) serving

left_kept : (s : SnapId) (head : Option (List ℕ)) (ids : List SnapId) (cs : List Kept) → is_listed s ids ≡ false → purged_clones s cs ≡ cs
    → purged_clones s (with_kept head ids cs) ≡ with_kept head ids cs
left_kept s None ids cs e is = is
left_kept s (Some bytes) [] cs e is = is
left_kept s (Some bytes) (x ∷ ids) cs e is =
    let c : Kept = record { id = x; ids = x ∷ ids; bytes = bytes } in
    ap (filter serves_some) (map-append (without s) cs (c ∷ [])) ∙ filter-append serves_some (map (without s) cs) (map (without s) (c ∷ []))
    ∙ ap (λ ds. ds ++ purged_clones s (c ∷ [])) is ∙ ap (λ ds. cs ++ ds) (left_one s x ids bytes e)

-- what a purge of an id leaves, it leaves after a change whose clone doesn't list the id
pub left_changed : (s : SnapId) (seq : ℕ) (n : Next) (o : Plain) → is_listed s n.ids ≡ false → IsLeft s o → IsLeft s (changed seq (Some n) o)
left_changed s seq n o e is = ap (λ (cs : List Kept). record { seq = max o.seq seq; head = n.head; clones = cs })
    (left_kept s o.head n.ids o.clones e (ap (λ (p : Plain). p.clones) is))

-- the same after a change of an object without a head
pub left_headless : (s : SnapId) (seq : ℕ) (n : Next) (o : Plain) → o.head ≡ None → IsLeft s o → IsLeft s (changed seq (Some n) o)
left_headless s seq n o none is =
    let kept : with_kept o.head n.ids o.clones ≡ o.clones = ap (λ h. with_kept h n.ids o.clones) none in
    ap (λ (cs : List Kept). record { seq = max o.seq seq; head = n.head; clones = cs })
    (ap (purged_clones s) kept ∙ ap (λ (p : Plain). p.clones) is ∙ sym kept)

-- an object after one object was purged, where a purge leaves it if it isn't among those to come
pub left_next : (s : SnapId) (old new : Plain) (here was is : Bool) → new ≡ (if here then purged s old else old) → (here ≡ false → is ≡ was)
    → (was ≡ false → IsLeft s old) → is ≡ false → IsLeft s new
left_next s old new true was is e same left none = let P : Plain → Type 0 = λ o. IsLeft s o in subst P (sym e) (left_purged s old)
left_next s old new false was is e same left none = let P : Plain → Type 0 = λ o. IsLeft s o in subst P (sym e) (left (sym (same refl) ∙ none))

pub purged_next : (s : SnapId) (old new : Plain) (here : Bool) → new ≡ (if here then purged s old else old) → purged s new ≡ purged s old
purged_next s old new true e = ap (purged s) e ∙ left_purged s old
purged_next s old new false e = ap (purged s) e

-- another place
pub place_apart : (f k i j : ℕ) → (eqb f i && eqb k j) ≡ false → is_at (place_cmp (i, j)) (f, k) ≡ false
place_apart f k i j e = grind (arith, e)

pub key_is : (a b : ℕ) → is_at (nat_cmp a) b ≡ true → a ≡ b
key_is a b e = grind (arith, e)

-- the objects noted for an id, after another was put among them
pub noted_more : (m : BTreeMap ℕ (BTreeSet (ℕ × ℕ))) (s q : ℕ) (new : Option (BTreeSet (ℕ × ℕ))) (before after : BTreeSet (ℕ × ℕ)) (f k : ℕ)
    → get nat_cmp m s ≡ Some before → (contains place_cmp before (f, k) ≡ true → contains place_cmp after (f, k) ≡ true)
    → (t : Bool) → is_at (nat_cmp s) q ≡ t → new ≡ cond t (Some after) (get nat_cmp m q)
    → has_place (get nat_cmp m q) f k ≡ true → has_place new f k ≡ true
noted_more m s q new before after f k was more true t e h =
    let is : get nat_cmp m q ≡ Some before = sym (ap (get nat_cmp m) (key_is s q t)) ∙ was in
    ap (λ o. has_place o f k) e ∙ more (sym (ap (λ o. has_place o f k) is) ∙ h)
noted_more m s q new before after f k was more false t e h = ap (λ o. has_place o f k) e ∙ h

-- the same after a first object was noted for an id
pub noted_first : (m : BTreeMap ℕ (BTreeSet (ℕ × ℕ))) (s q : ℕ) (new : Option (BTreeSet (ℕ × ℕ))) (after : BTreeSet (ℕ × ℕ)) (f k : ℕ)
    → get nat_cmp m s ≡ None
    → (t : Bool) → is_at (nat_cmp s) q ≡ t → new ≡ cond t (Some after) (get nat_cmp m q)
    → has_place (get nat_cmp m q) f k ≡ true → has_place new f k ≡ true
noted_first m s q new after f k none true t e h =
    let is : get nat_cmp m q ≡ None = sym (ap (get nat_cmp m) (key_is s q t)) ∙ none in
    let bad : false ≡ true = sym (ap (λ o. has_place o f k) is) ∙ h in cc
noted_first m s q new after f k none false t e h = ap (λ o. has_place o f k) e ∙ h

pub place_more : (before after : Bool) (t : Bool) → after ≡ cond t true before → before ≡ true → after ≡ true
place_more before after true e h = e
place_more before after false e h = e ∙ h

-- one more id of a list, which is noted
pub noted_next : (l : Listing) (ids : List SnapId) (i ino index : ℕ) (x s : SnapId) → i < length ids → x ≡ get_or ids i x
    → (is_listed s (take i ids) ≡ true → noted l s ino index ≡ true) → noted l x ino index ≡ true
    → is_listed s (take (i + 1) ids) ≡ true → noted l s ino index ≡ true
noted_next l ids i ino index x s within is before here listed =
    go (is_listed s (take i ids)) refl (sym (list_any_more (λ (id : SnapId). eqb id.0 s.0) ids i x within ∙ ap (λ (y : SnapId). is_listed s (take i ids) || eqb y.0 s.0) (sym is)) ∙ listed)
  where
    go : (b : Bool) → is_listed s (take i ids) ≡ b → (is_listed s (take i ids) || eqb x.0 s.0) ≡ true → noted l s ino index ≡ true
    go true e t = before e
    go false e t =
        let same : eqb x.0 s.0 ≡ true = sym (ap (λ c. c || eqb x.0 s.0) e) ∙ t in
        let apart : x.0 ≡ s.0 = eqb_is x.0 s.0 same in
        ap (λ n. noted l (record { 0 = n }) ino index) (sym apart) ∙ here

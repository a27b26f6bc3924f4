-- The contexts that records give are those of the plain story.
use Rattle.std.proofs.Common.{◌≡◌, ℕ, ◌+◌, ◌<◌, ◌≤◌, Bool, true, false, not, ◌&&◌, ◌||◌, cond, leb, max, List, [], ◌∷◌, Option, refl, ap, sym, ◌∙◌, subst, arith, filter}
use Rattle.std.proofs.lemmas.Bool.Decides.{nat_tests}
use Rattle.snap_ids.specs.declared.id.Ino.{Ino}
use Rattle.snap_ids.specs.declared.id.SnapId.{SnapId}
use Rattle.snap_ids.specs.declared.id.TheConstants.{GLOBAL}
use Rattle.snap_ids.specs.declared.values.RealmInfo.{RealmInfo}
use Rattle.snap_ids.specs.Context.{begins_below}
use Rattle.snap_ids.specs.Traces.{with_id, with_ids, from_id, up_to_id, if_from, seq_of, context_with, context_of}
use Rattle.snap_ids.specs.Traces.{ids_of as trace_ids}
use Rattle.realm_story.specs.declared.records.Snap.{Snap}
use Rattle.realm_story.specs.declared.records.Node.{Node}
use Rattle.realm_story.specs.Family.{Made, Family, is_there, way_up, is_in_global, birth_of, is_on, is_kept, covering, greatest, context}
use Rattle.realm_story.specs.Family.{ids_of as made_ids}
use Rattle.realm_story.specs.Records.{ids_of, lists, infos}
use Rattle.realm_story.specs.Stands.{plain, plain_kept, FallBelow, Each, IsRight, Stands}
use Rattle.realm_story.proofs.Facts.{above-less}
use Rattle.realm_story.proofs.Put.{Falling}
use Rattle.realm_story.proofs.Given.{listed_on, given, seq_given}

-- the kept ones of falling snapshots fall
further : (m n : ℕ) (snaps : List Snap) → m ≤ n → Falling m snaps → Falling n snaps
further m n [] more fall = tt
further m n (snap ∷ snaps) more fall = (omega (arith, fall.0), fall.1)

pub kept_fall : (bound : ℕ) (snaps : List Made) → FallBelow bound snaps → Falling bound (plain_kept snaps)
kept_fall bound [] fall = tt
kept_fall bound (made ∷ snaps) fall = at made.purged (kept_fall made.id.0 snaps fall.2)
  where
    at : (b : Bool) → Falling made.id.0 (plain_kept snaps) → Falling bound (elim b [ true ↦ plain_kept snaps | false ↦ plain made ∷ plain_kept snaps ])
    at true rest = further made.id.0 bound (plain_kept snaps) (omega (arith, fall.0)) rest
    at false rest = (fall.0, rest)

-- what covers an inode, by its first id and whether it is in the global realm
abbrev pub covers_by : SnapId → Bool → Ino → Made → Bool
covers_by birth g ino made = leb birth.0 made.id.0 && (g || is_on ino made.covered)

-- a kept snapshot, by whether the realms list it, whether it is late enough and whether it covered the inode
ids_kept : (at : ℕ → Option Node) (way : List Ino) (ino : Ino) (birth : SnapId) (made : Made) (snaps : List Made) (l c o : Bool)
    → leb birth.0 made.id.0 ≡ l → made.purged ≡ false → (l ≡ true → c ≡ o)
    → from_id birth (ids_of (filter (listed_on at way) (plain_kept snaps))) ≡ made_ids (filter is_kept (filter (covers_by birth false ino) snaps))
    → from_id birth (ids_of (cond c (plain made ∷ filter (listed_on at way) (plain_kept snaps)) (filter (listed_on at way) (plain_kept snaps))))
    ≡ made_ids (filter is_kept (cond (l && o) (made ∷ filter (covers_by birth false ino) snaps) (filter (covers_by birth false ino) snaps)))
ids_kept at way ino birth made snaps true true true lis pis right rest = rw (lis, pis, rest) refl
ids_kept at way ino birth made snaps true false true lis pis right rest = let same : false ≡ true = right refl in cc
ids_kept at way ino birth made snaps true true false lis pis right rest = let same : true ≡ false = right refl in cc
ids_kept at way ino birth made snaps true false false lis pis right rest = rest
ids_kept at way ino birth made snaps false true o lis pis right rest = rw lis rest
ids_kept at way ino birth made snaps false false o lis pis right rest = rest

-- one that the store has dropped
ids_gone : (ino : Ino) (birth : SnapId) (made : Made) (snaps : List Made) (b : Bool) → made.purged ≡ true → made_ids (filter is_kept (filter (covers_by birth false ino) snaps)) ≡ made_ids (filter is_kept (cond b (made ∷ filter (covers_by birth false ino) snaps) (filter (covers_by birth false ino) snaps)))
ids_gone ino birth made snaps true pis = rw pis refl
ids_gone ino birth made snaps false pis = refl

order_of : (m n : ℕ) → leb m n ≡ true → m ≤ n
order_of m n h = grind (arith, nat_tests)

-- the ids that the realms on a way list, from the first id of an inode on
pub ids_right : (at : ℕ → Option Node) (way : List Ino) (ino : Ino) (birth : SnapId) (snaps : List Made) → Each (IsRight at way ino birth) snaps → from_id birth (ids_of (filter (listed_on at way) (plain_kept snaps))) ≡ made_ids (filter is_kept (filter (covers_by birth false ino) snaps))
ids_right at way ino birth [] right = refl
ids_right at way ino birth (made ∷ snaps) right = go made.purged refl (ids_right at way ino birth snaps right.1)
  where
    go : (p : Bool) → made.purged ≡ p → from_id birth (ids_of (filter (listed_on at way) (plain_kept snaps))) ≡ made_ids (filter is_kept (filter (covers_by birth false ino) snaps)) → from_id birth (ids_of (filter (listed_on at way) (elim p [ true ↦ plain_kept snaps | false ↦ plain made ∷ plain_kept snaps ]))) ≡ made_ids (filter is_kept (filter (covers_by birth false ino) (made ∷ snaps)))
    go true is rest = rest ∙ ids_gone ino birth made snaps (covers_by birth false ino made) is
    go false is rest =
        ids_kept at way ino birth made snaps (leb birth.0 made.id.0) (lists at way made.root made.id) (is_on ino made.covered) refl is
        (λ late. right.0 is (order_of birth.0 made.id.0 late)) rest

less_test : (m n : ℕ) → m ≤ n → leb m n ≡ true
less_test m n h = grind (arith, nat_tests)

-- none of some ids is above their greatest
pub up_to_all : (n : ℕ) (snaps : List Made) → greatest (made_ids snaps) ≤ n → up_to_id n (made_ids (filter is_kept snaps)) ≡ made_ids (filter is_kept snaps)
up_to_all n [] low = refl
up_to_all n (made ∷ snaps) low = at (not made.purged) (less_test made.id.0 n (omega (arith, low))) (up_to_all n snaps (omega (arith, low)))
  where
    at : (b : Bool) → leb made.id.0 n ≡ true → up_to_id n (made_ids (filter is_kept snaps)) ≡ made_ids (filter is_kept snaps) → up_to_id n (made_ids (cond b (made ∷ filter is_kept snaps) (filter is_kept snaps))) ≡ made_ids (cond b (made ∷ filter is_kept snaps) (filter is_kept snaps))
    at true test rest = rw (test, rest) refl
    at false test rest = rest

none_first : (b : ℕ) → 2 ≤ b → leb b 0 ≡ false
none_first b h = grind (arith, nat_tests)

-- a context by a sequence id and ids, also where no realm is on the way
pub context_of_any : (realms : List RealmInfo) (birth : SnapId) → 2 ≤ birth.0 → context_of realms birth ≡ context_with (if_from birth (seq_of realms) 1) (from_id birth (trace_ids realms))
context_of_any [] birth late = rw (none_first birth.0 late) refl
context_of_any (realm ∷ above) birth late = refl

-- a context whose ids all are kept ones of covering snapshots, by their greatest
joined : (n : ℕ) (ids : List SnapId) (snaps : List Made) → n ≡ greatest (made_ids snaps) → ids ≡ made_ids (filter is_kept snaps) → context_with n ids ≡ record { seq = record { 0 = greatest (made_ids snaps) }; ids = made_ids (filter is_kept snaps) }
joined n ids snaps seq same =
    let whole : up_to_id (greatest (made_ids snaps)) (made_ids (filter is_kept snaps)) ≡ made_ids (filter is_kept snaps) = up_to_all (greatest (made_ids snaps)) snaps (omega arith) in
    rw (seq, same, whole) refl

-- the context of an inode outside the global realm
pub context_is : (at : ℕ → Option Node) (snaps : List Snap) (applied : SnapId) (family : Family) → Stands at snaps applied family → (ino : Ino) → is_there family.members ino ≡ true → is_in_global family.members ino ≡ false → context_of (infos at snaps (way_up family.members ino)) (birth_of family ino) ≡ context family ino
context_is at snaps applied family stands ino there outside =
    let way : List Ino = way_up family.members ino in
    let birth : SnapId = birth_of family ino in
    let falls : Falling (applied.0 + 1) snaps = subst (Falling (applied.0 + 1)) (sym stands.snaps_are) (kept_fall (applied.0 + 1) family.snaps stands.fall) in
    let ids : from_id birth (trace_ids (infos at snaps way)) ≡ made_ids (filter is_kept (covering family ino)) =
    ap (from_id birth) (given at (applied.0 + 1) snaps way falls)
    ∙ ap (λ s. from_id birth (ids_of (filter (listed_on at way) s))) stands.snaps_are
    ∙ subst (λ g. from_id birth (ids_of (filter (listed_on at way) (plain_kept family.snaps))) ≡ made_ids (filter is_kept (filter (covers_by birth g ino) family.snaps))) (sym outside)
    (ids_right at way ino birth family.snaps (stands.right ino there outside)) in
    let seq : if_from birth (seq_of (infos at snaps way)) 1 ≡ greatest (made_ids (covering family ino)) =
    ap (λ n. if_from birth n 1) (seq_given at snaps way) ∙ stands.latest ino there outside in
    context_of_any (infos at snaps way) birth (stands.late ino)
    ∙ joined (if_from birth (seq_of (infos at snaps way)) 1) (from_id birth (trace_ids (infos at snaps way))) (covering family ino) seq ids

-- all snapshots
front_all : (id : SnapId) (snaps : List Snap) → Falling id.0 snaps → begins_below id (ids_of snaps) ≡ true
front_all id [] fall = refl
front_all id (snap ∷ snaps) fall = above-less snap.id.0 id.0 fall.0

with_id-front : (id : SnapId) (ids : List SnapId) → begins_below id ids ≡ true → with_id id ids ≡ id ∷ ids
with_id-front id [] below = refl
with_id-front id (next ∷ ids) below = rw below refl

put_whole : (bound : ℕ) (snaps : List Snap) → Falling bound snaps → with_ids (ids_of snaps) [] ≡ ids_of snaps
put_whole bound [] fall = refl
put_whole bound (snap ∷ snaps) fall =
    ap (with_id snap.id) (put_whole snap.id.0 snaps fall.1) ∙ with_id-front snap.id (ids_of snaps) (front_all snap.id snaps fall.1)

global_ids : (ino : Ino) (birth : SnapId) (snaps : List Made) → from_id birth (ids_of (plain_kept snaps)) ≡ made_ids (filter is_kept (filter (covers_by birth true ino) snaps))
global_ids ino birth [] = refl
global_ids ino birth (made ∷ snaps) = go made.purged (leb birth.0 made.id.0) refl refl (global_ids ino birth snaps)
  where
    go : (p l : Bool) → made.purged ≡ p → leb birth.0 made.id.0 ≡ l → from_id birth (ids_of (plain_kept snaps)) ≡ made_ids (filter is_kept (filter (covers_by birth true ino) snaps)) → from_id birth (ids_of (elim p [ true ↦ plain_kept snaps | false ↦ plain made ∷ plain_kept snaps ])) ≡ made_ids (filter is_kept (cond (l && true) (made ∷ filter (covers_by birth true ino) snaps) (filter (covers_by birth true ino) snaps)))
    go true true pis lis rest = rw pis rest
    go true false pis lis rest = rest
    go false true pis lis rest = rw (lis, pis, rest) refl
    go false false pis lis rest = rw lis rest

later_max : (b m g h : ℕ) → 2 ≤ b → b ≤ m → cond (leb b g) g 1 ≡ h → cond (leb b (max m g)) (max m g) 1 ≡ max m h
later_max b m g h two late is = grind (arith, nat_tests)

early_max : (b m g h : ℕ) → m < b → cond (leb b g) g 1 ≡ h → cond (leb b (max m g)) (max m g) 1 ≡ h
early_max b m g h early is = grind (arith, nat_tests)

before_of : (m n : ℕ) → leb n m ≡ false → m < n
before_of m n h = grind (arith, nat_tests)

none_one : (b : Bool) (n : ℕ) → cond b n n ≡ n
none_one true n = refl
none_one false n = refl

global_seq : (ino : Ino) (birth : SnapId) (snaps : List Made) → 2 ≤ birth.0 → if_from birth (greatest (made_ids snaps)) 1 ≡ greatest (made_ids (filter (covers_by birth true ino) snaps))
global_seq ino birth [] late = none_one (leb birth.0 1) 1
global_seq ino birth (made ∷ snaps) late = go (leb birth.0 made.id.0) refl (global_seq ino birth snaps late)
  where
    go : (l : Bool) → leb birth.0 made.id.0 ≡ l → if_from birth (greatest (made_ids snaps)) 1 ≡ greatest (made_ids (filter (covers_by birth true ino) snaps)) → if_from birth (max made.id.0 (greatest (made_ids snaps))) 1 ≡ greatest (made_ids (cond (l && true) (made ∷ filter (covers_by birth true ino) snaps) (filter (covers_by birth true ino) snaps)))
    go true lis rest = later_max birth.0 made.id.0 (greatest (made_ids snaps)) _ late (order_of birth.0 made.id.0 lis) rest
    go false lis rest = early_max birth.0 made.id.0 (greatest (made_ids snaps)) _ (before_of made.id.0 birth.0 lis) rest

-- the realm of what is in the global realm
abbrev pub global_info : List Snap → SnapId → RealmInfo
global_info snaps applied = record { ino = GLOBAL; seq = applied; since = record { 0 = 0 }; own = []; past = ids_of snaps }

-- the context of an inode in the global realm
pub global_context_is : (at : ℕ → Option Node) (snaps : List Snap) (applied : SnapId) (family : Family) → Stands at snaps applied family → (ino : Ino) → is_in_global family.members ino ≡ true → context_of (global_info snaps applied ∷ []) (birth_of family ino) ≡ context family ino
global_context_is at snaps applied family stands ino inside =
    let birth : SnapId = birth_of family ino in
    let falls : Falling (applied.0 + 1) snaps = subst (Falling (applied.0 + 1)) (sym stands.snaps_are) (kept_fall (applied.0 + 1) family.snaps stands.fall) in
    let ids : from_id birth (trace_ids (global_info snaps applied ∷ [])) ≡ made_ids (filter is_kept (covering family ino)) =
    ap (from_id birth) (put_whole (applied.0 + 1) snaps falls)
    ∙ ap (λ s. from_id birth (ids_of s)) stands.snaps_are
    ∙ subst (λ g. from_id birth (ids_of (plain_kept family.snaps)) ≡ made_ids (filter is_kept (filter (covers_by birth g ino) family.snaps))) (sym inside)
    (global_ids ino birth family.snaps) in
    let whole : max applied.0 (if_from (record { 0 = 0 }) 0 0) ≡ greatest (made_ids family.snaps) = omega (arith, stands.last) in
    let seq : if_from birth (seq_of (global_info snaps applied ∷ [])) 1 ≡ greatest (made_ids (covering family ino)) =
    ap (λ n. if_from birth n 1) whole
    ∙ subst (λ g. if_from birth (greatest (made_ids family.snaps)) 1 ≡ greatest (made_ids (filter (covers_by birth g ino) family.snaps))) (sym inside)
    (global_seq ino birth family.snaps (stands.late ino)) in
    context_of_any (global_info snaps applied ∷ []) birth (stands.late ino)
    ∙ joined (if_from birth (seq_of (global_info snaps applied ∷ [])) 1) (from_id birth (trace_ids (global_info snaps applied ∷ []))) (covering family ino) seq ids

zero_first : (n : ℕ) → leb 0 n ≡ true
zero_first n = grind (arith, nat_tests)

beyond : (b s n : ℕ) → leb b n ≡ true → leb b s ≡ false → leb n s ≡ false
beyond b s n f g = grind (arith, nat_tests)

above_one : (b n : ℕ) → 2 ≤ b → leb b n ≡ true → leb n 1 ≡ false
above_one b n two f = grind (arith, nat_tests)

-- the ids of the context from no first id on, and from a first id on
from_up_to : (birth : SnapId) (s w : ℕ) (ids : List SnapId) → ((n : ℕ) → leb birth.0 n ≡ true → leb n s ≡ leb n w) → from_id birth (up_to_id s (from_id (record { 0 = 0 }) ids)) ≡ up_to_id w (from_id birth ids)
from_up_to birth s w [] same = refl
from_up_to birth s w (id ∷ ids) same = go (leb id.0 s) (leb birth.0 id.0) refl refl (from_up_to birth s w ids same)
  where
    go : (u f : Bool) → leb id.0 s ≡ u → leb birth.0 id.0 ≡ f → from_id birth (up_to_id s (from_id (record { 0 = 0 }) ids)) ≡ up_to_id w (from_id birth ids) → from_id birth (up_to_id s (from_id (record { 0 = 0 }) (id ∷ ids))) ≡ up_to_id w (cond f (id ∷ from_id birth ids) (from_id birth ids))
    go true true uis fis rest = rw (zero_first id.0, uis, fis, ← same id.0 fis, uis) (ap (λ xs. id ∷ xs) rest)
    go true false uis fis rest = rw (zero_first id.0, uis, fis) rest
    go false true uis fis rest = rw (zero_first id.0, uis, ← same id.0 fis, uis) rest
    go false false uis fis rest = rw (zero_first id.0, uis) rest

capped : (birth s : ℕ) (b : Bool) → 2 ≤ birth → leb birth s ≡ b → (n : ℕ) → leb birth n ≡ true → leb n s ≡ leb n (cond b s 1)
capped birth s true late bis n f = refl
capped birth s false late bis n f = beyond birth s n f bis ∙ sym (above_one birth n late f)

first_any : (s : ℕ) → cond (leb 0 s) s 1 ≡ s
first_any s = rw (zero_first s) refl

-- the ids of a realm from a first id on are those of the context
pub effective_is : (realm : RealmInfo) (above : List RealmInfo) (birth : SnapId) → 2 ≤ birth.0 → from_id birth ((context_of (realm ∷ above) (record { 0 = 0 })).ids) ≡ (context_of (realm ∷ above) birth).ids
effective_is realm above birth late =
    ap (λ s. from_id birth (up_to_id s (from_id (record { 0 = 0 }) (trace_ids (realm ∷ above))))) (first_any (seq_of (realm ∷ above)))
    ∙ from_up_to birth (seq_of (realm ∷ above)) (if_from birth (seq_of (realm ∷ above)) 1) (trace_ids (realm ∷ above))
    (capped birth.0 (seq_of (realm ∷ above)) (leb birth.0 (seq_of (realm ∷ above))) late refl)

-- Clones in a list: found, mapped and purged.
use Rattle.std.proofs.Common.{◌≡◌, ℕ, ◌+◌, ◌<◌, ◌≤◌, nat_lt, arith, Bool, true, false, cond, List, [], ◌∷◌, ◌++◌, map, length, get_or, take, drop, Option, None, Some, sym, ◌∙◌, refl, ap, nat_le, filter, if◌then◌else◌}
use Rattle.std.specs.List.{find}
use Rattle.std.specs.Option.{option_map, option_to_list, option_or}
use Rattle.std.proofs.lemmas.List.{take-append-drop, take_all, drop_more, append_assoc, map-append}
use Rattle.std.proofs.lemmas.List.Folds.{find-append}
use Rattle.snap_ids.specs.declared.id.SnapId.{SnapId}
use Rattle.snap_ids.specs.Context.{is_listed}
use Rattle.object_clones.specs.declared.object.Saved.{Saved}
use Rattle.object_clones.specs.Objects.{Kept, kept, clone_at, purged_clones, without, serves_some}

-- the first that passes
pub find_here : {X : Type 0} (p : X → Bool) (xs ys : List X) (i : ℕ) (e : X) → i < length xs → e ≡ get_or xs i e → find p (take i xs) ≡ None
    → p e ≡ true → find p (xs ++ ys) ≡ Some e
find_here {X} p xs ys i e h is before passes =
    let split : xs ++ ys ≡ take i xs ++ (drop i xs ++ ys) = ap (λ zs. zs ++ ys) (sym (take-append-drop i xs)) ∙ append_assoc (take i xs) (drop i xs) ys in
    let rest : drop i xs ≡ e ∷ drop (i + 1) xs = drop_more xs i e h ∙ ap (λ (x : X). x ∷ drop (i + 1) xs) (sym is) in
    ap (find p) split ∙ find-append p (take i xs) (drop i xs ++ ys) ∙ ap (λ o. option_or o (find p (drop i xs ++ ys))) before
    ∙ ap (λ zs. find p (zs ++ ys)) rest ∙ ap (λ b. cond b (Some e) (find p (drop (i + 1) xs ++ ys))) passes

pub find_none : {X : Type 0} (p : X → Bool) (xs ys : List X) → find p xs ≡ None → find p (xs ++ ys) ≡ find p ys
find_none p xs ys none = find-append p xs ys ∙ ap (λ o. option_or o (find p ys)) none

-- the bytes of a clone that was found, if it serves the snapshot
abbrev pub bytes_found : SnapId → Option Saved → Option (List ℕ)
bytes_found s None = None
bytes_found s (Some saved) = if is_listed s saved.ids.items then Some saved.bytes else None

pub clone_at-map : (s : SnapId) (xs : List Saved) → clone_at s (map kept xs) ≡ bytes_found s (find (λ (saved : Saved). nat_le s.0 saved.id.0) xs)
clone_at-map s [] = refl
clone_at-map s (x ∷ xs) = elim (nat_le s.0 x.id.0) as (λ b.
    (if b then (if is_listed s x.ids.items then Some x.bytes else None) else clone_at s (map kept xs))
    ≡ bytes_found s (cond b (Some x) (find (λ (saved : Saved). nat_le s.0 saved.id.0) xs)))
    [ true ↦ refl | false ↦ clone_at-map s xs ]

pub kept_all : (older : List Saved) (newest : Option Saved) → map kept older ++ option_to_list (option_map kept newest) ≡ map kept (older ++ option_to_list newest)
kept_all older None = sym (map-append kept older [])
kept_all older (Some saved) = sym (map-append kept older (saved ∷ []))

pub filter-append : {X : Type 0} (p : X → Bool) (xs ys : List X) → filter p (xs ++ ys) ≡ filter p xs ++ filter p ys
filter-append p [] ys = refl
filter-append p (x ∷ xs) ys = elim (p x) as (λ b. cond b (x ∷ filter p (xs ++ ys)) (filter p (xs ++ ys)) ≡ cond b (x ∷ filter p xs) (filter p xs) ++ filter p ys)
    [ true ↦ ap (λ zs. x ∷ zs) (filter-append p xs ys) | false ↦ filter-append p xs ys ]

pub filter-map : {X Y : Type 0} (f : X → Y) (p : Y → Bool) (xs : List X) → map f (filter (λ x. p (f x)) xs) ≡ filter p (map f xs)
filter-map f p [] = refl
filter-map f p (x ∷ xs) = elim (p (f x)) as (λ b. map f (cond b (x ∷ filter (λ x. p (f x)) xs) (filter (λ x. p (f x)) xs)) ≡ cond b (f x ∷ filter p (map f xs)) (filter p (map f xs)))
    [ true ↦ ap (λ zs. f x ∷ zs) (filter-map f p xs) | false ↦ filter-map f p xs ]

pub purged_clones-append : (s : SnapId) (xs ys : List Kept) → purged_clones s (xs ++ ys) ≡ purged_clones s xs ++ purged_clones s ys
purged_clones-append s xs ys = ap (filter serves_some) (map-append (without s) xs ys) ∙ filter-append serves_some (map (without s) xs) (map (without s) ys)

abbrev pub pair : Kept → SnapId × List SnapId
pair c = (c.id, c.ids)

abbrev pub saved_pair : Saved → SnapId × List SnapId
saved_pair saved = (saved.id, saved.ids.items)

pub pairs-map : (xs : List Saved) → map pair (map kept xs) ≡ map saved_pair xs
pairs-map [] = refl
pairs-map (x ∷ xs) = ap (λ ps. saved_pair x ∷ ps) (pairs-map xs)

pub pairs_all : (older : List Saved) (newest : Option Saved)
    → map pair (map kept older ++ option_to_list (option_map kept newest)) ≡ map saved_pair older ++ option_to_list (option_map saved_pair newest)
pairs_all older None = map-append pair (map kept older) [] ∙ ap (λ ps. ps ++ []) (pairs-map older)
pairs_all older (Some saved) = map-append pair (map kept older) (kept saved ∷ []) ∙ ap (λ ps. ps ++ saved_pair saved ∷ []) (pairs-map older)

-- the bytes at a snapshot by the clone that is found
pub clone_at_found : (s : SnapId) (older : List Saved) (newest : Option Saved) (found : Option Saved)
    → found ≡ find (λ (saved : Saved). nat_le s.0 saved.id.0) (older ++ option_to_list newest)
    → bytes_found s found ≡ clone_at s (map kept older ++ option_to_list (option_map kept newest))
clone_at_found s older newest found is = ap (bytes_found s) is ∙ sym (clone_at-map s (older ++ option_to_list newest)) ∙ ap (clone_at s) (sym (kept_all older newest))

pub found_last : (p : Saved → Bool) (items older : List Saved) (i : ℕ) (newest last : Option Saved) → items ≡ older → length items ≤ i
    → find p (take i items) ≡ None → newest ≡ last → find p (older ++ option_to_list newest) ≡ find p (option_to_list last)
found_last p items older i newest last same h none is =
    find_none p older (option_to_list newest) (ap (find p) (sym (take_all i items h ∙ same)) ∙ none) ∙ ap (λ o. find p (option_to_list o)) is

pub if_true : {X : Type 0} (b : Bool) (x y : X) → b ≡ true → (if b then x else y) ≡ x
if_true b x y e = ap (λ t. if t then x else y) e

pub if_false : {X : Type 0} (b : Bool) (x y : X) → b ≡ false → (if b then x else y) ≡ y
if_false b x y e = ap (λ t. if t then x else y) e

pub not_below : (a b : ℕ) → b ≤ a → nat_lt a b ≡ false
not_below a b h = grind arith

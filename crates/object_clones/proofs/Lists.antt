-- The clones that are listed, after one more and after a purge.
use Rattle.std.proofs.Common.{◌≡◌, ℕ, Bool, true, false, cond, not, ◌||◌, ◌&&◌, eqb, nat_lt, List, [], ◌∷◌, ◌++◌, length, map, filter, Option, None, Some, sym, ◌∙◌, refl, ap, arith}
use Rattle.std.specs.List.{filter_map, cons_option}
use Rattle.std.specs.Option.{option_map}
use Rattle.std.proofs.lemmas.List.Elements.{filter_map-append}
use Rattle.std.proofs.lemmas.List.{map-append}
use Rattle.snap_ids.specs.declared.id.SnapId.{SnapId}
use Rattle.snap_ids.specs.Context.{is_listed}
use Rattle.object_log.specs.Objects.{kept_clone, with_clone}
use Rattle.object_clones.specs.Objects.{Kept, purged_clones, with_kept}
use Rattle.object_clones.specs.Stands.{pair}

-- a clone with the ids that are left, if there are some
abbrev pub with_ids : SnapId → List SnapId → Option (SnapId × List SnapId)
with_ids id ids = elim ids [ [] ↦ None | s ∷ ids ↦ Some (id, s ∷ ids) ]

abbrev pub left : List SnapId → List SnapId → List SnapId
left purged ids = filter (λ s. not (is_listed s purged)) ids

pub left_twice : (ids : List SnapId) (p : SnapId) (ps : List SnapId) → left (p ∷ ps) ids ≡ left (p ∷ []) (left ps ids)
left_twice [] p ps = refl
left_twice (x ∷ ids) p ps = elim (is_listed x ps) as (λ b. cond (not (eqb p.0 x.0 || b)) (x ∷ left (p ∷ ps) ids) (left (p ∷ ps) ids)
    ≡ left (p ∷ []) (cond (not b) (x ∷ left ps ids) (left ps ids))) [
      | true ↦ elim (eqb p.0 x.0) as (λ a. cond (not (a || true)) (x ∷ left (p ∷ ps) ids) (left (p ∷ ps) ids) ≡ left (p ∷ []) (left ps ids))
          [ true ↦ left_twice ids p ps | false ↦ left_twice ids p ps ]
      | false ↦ elim (eqb p.0 x.0) as (λ a. cond (not (a || false)) (x ∷ left (p ∷ ps) ids) (left (p ∷ ps) ids)
          ≡ cond (not (a || false)) (x ∷ left (p ∷ []) (left ps ids)) (left (p ∷ []) (left ps ids)))
          [ true ↦ left_twice ids p ps | false ↦ ap (λ xs. x ∷ xs) (left_twice ids p ps) ]
    ]

again : (id p : SnapId) (rest : List (SnapId × List SnapId)) (more : List (SnapId × List SnapId)) → more ≡ filter_map (kept_clone (p ∷ [])) rest
    → (ids : List SnapId) → cons_option (with_ids id (left (p ∷ []) ids)) more ≡ filter_map (kept_clone (p ∷ [])) (cons_option (with_ids id ids) rest)
again id p rest more same [] = same
again id p rest more same (s ∷ ids) = ap (cons_option (with_ids id (left (p ∷ []) (s ∷ ids)))) same

pub kept_after : (xs : List (SnapId × List SnapId)) (p : SnapId) (ps : List SnapId)
    → filter_map (kept_clone (p ∷ ps)) xs ≡ filter_map (kept_clone (p ∷ [])) (filter_map (kept_clone ps) xs)
kept_after [] p ps = refl
kept_after (x ∷ xs) p ps =
    ap (λ ids. cons_option (with_ids x.0 ids) (filter_map (kept_clone (p ∷ ps)) xs)) (left_twice x.1 p ps)
    ∙ again x.0 p (filter_map (kept_clone ps) xs) (filter_map (kept_clone (p ∷ ps)) xs) (kept_after xs p ps) (left ps x.1)

purge_one : (c : Kept) (p : SnapId) (rest : List Kept) (ids : List SnapId)
    → map pair (cond (nat_lt 0 (length ids)) (record c { ids = ids } ∷ rest) rest) ≡ cons_option (with_ids c.id ids) (map pair rest)
purge_one c p rest [] = refl
purge_one c p rest (s ∷ ids) = let e : nat_lt 0 (length (s ∷ ids)) ≡ true = grind arith in
    ap (λ b. map pair (cond b (record c { ids = s ∷ ids } ∷ rest) rest)) e

pub purged_pairs : (cs : List Kept) (p : SnapId) → map pair (purged_clones p cs) ≡ filter_map (kept_clone (p ∷ [])) (map pair cs)
purged_pairs [] p = refl
purged_pairs (c ∷ cs) p = purge_one c p (purged_clones p cs) (left (p ∷ []) c.ids)
    ∙ ap (cons_option (with_ids c.id (left (p ∷ []) c.ids))) (purged_pairs cs p)

twice_step : (x : SnapId) (rest : List SnapId) (r : SnapId → Bool) → filter r rest ≡ rest → (a b : Bool) → r x ≡ b
    → filter r (cond (a && b) (x ∷ rest) rest) ≡ cond (a && b) (x ∷ rest) rest
twice_step x rest r same true true e = ap (λ t. cond t (x ∷ filter r rest) (filter r rest)) e ∙ ap (λ xs. x ∷ xs) same
twice_step x rest r same true false e = same
twice_step x rest r same false b e = same

-- what passed a test once passes it again
pub filter_twice : (q r : SnapId → Bool) (ids : List SnapId) → filter r (filter (λ s. q s && r s) ids) ≡ filter (λ s. q s && r s) ids
filter_twice q r [] = refl
filter_twice q r (x ∷ ids) = twice_step x (filter (λ s. q s && r s) ids) r (filter_twice q r ids) (q x) (r x) refl

-- one more clone for the ids that are news
pub more_pairs : (head : Option (List ℕ)) (ids : List SnapId) (purged : List SnapId) (cs : List Kept) (made : List (SnapId × List SnapId))
    → left purged ids ≡ ids → map pair cs ≡ filter_map (kept_clone purged) made
    → map pair (with_kept head ids cs) ≡ filter_map (kept_clone purged) (with_clone (option_map length head) ids made)
more_pairs None ids purged cs made all same = same
more_pairs (Some bytes) [] purged cs made all same = same
more_pairs (Some bytes) (s ∷ ids) purged cs made all same =
    map-append pair cs (record { id = s; ids = s ∷ ids; bytes = bytes } ∷ [])
    ∙ ap (λ xs. xs ++ (s, s ∷ ids) ∷ []) same
    ∙ ap (λ o. filter_map (kept_clone purged) made ++ cons_option o []) (sym (ap (with_ids s) all))
    ∙ sym (filter_map-append (kept_clone purged) made ((s, s ∷ ids) ∷ []))

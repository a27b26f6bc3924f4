-- Clones that rise: the one that is found at an id, after one more and after a purge.
use Rattle.std.proofs.Common.{◌≡◌, ◌≢◌, ℕ, ◌<◌, ◌≤◌, Bool, true, false, cond, not, ◌||◌, eqb, nat_lt, nat_le, List, [], ◌∷◌, ◌++◌, length, filter, Option, None, Some, if◌then◌else◌, sym, ◌∙◌, refl, ap, arith}
use Rattle.snap_ids.specs.declared.id.SnapId.{SnapId}
use Rattle.snap_ids.specs.Context.{is_listed}
use Rattle.object_clones.specs.Objects.{Kept, clone_at, without, serves_some, purged_clones}
use Rattle.object_clones.specs.Stands.{Between, Rising}
use Rattle.object_clones.proofs.Clones.{if_true, if_false}
use Rattle.object_clones.proofs.Decided.{not_le, is_le, eqb_apart, eqb_is, or_false}

pub between_from : (ids : List SnapId) (low m high : ℕ) → Between low high ids → m ≤ low → Between m high ids
between_from [] low m high b h = b
between_from (s ∷ ids) low m high b h = (omega (arith, b.0), b.1, between_from ids low m high b.2 h)

pub rising_bound : (cs : List Kept) (low seq : ℕ) → Rising low cs seq → low ≤ seq
rising_bound [] low seq r = r
rising_bound (c ∷ cs) low seq r = omega (arith, r.0, rising_bound cs c.id.0 seq r.2)

pub rising_from : (cs : List Kept) (low m seq : ℕ) → Rising low cs seq → m ≤ low → Rising m cs seq
rising_from [] low m seq r h = omega arith
rising_from (c ∷ cs) low m seq r h = (omega (arith, r.0), between_from c.ids low m c.id.0 r.1 h, r.2)

pub rising_upto : (cs : List Kept) (low seq next : ℕ) → Rising low cs seq → seq ≤ next → Rising low cs next
rising_upto [] low seq next r h = omega arith
rising_upto (c ∷ cs) low seq next r h = (r.0, r.1, rising_upto cs c.id.0 seq next r.2 h)

pub rising_push : (cs : List Kept) (c : Kept) (low seq next : ℕ) → Rising low cs seq → seq ≤ c.id.0 → Between seq c.id.0 c.ids → c.id.0 ≤ next
    → Rising low (cs ++ c ∷ []) next
rising_push [] c low seq next r h b k = (omega arith, between_from c.ids seq low c.id.0 b r, k)
rising_push (x ∷ cs) c low seq next r h b k = (r.0, r.1, rising_push cs c x.id.0 seq next r.2 h b k)

-- what a clone gives at an id that it reaches
abbrev pub given : SnapId → Kept → Option (List ℕ)
given s c = if is_listed s c.ids then Some c.bytes else None

pub clone_past : (cs more : List Kept) (s : SnapId) (low seq : ℕ) → Rising low cs seq → seq < s.0 → clone_at s (cs ++ more) ≡ clone_at s more
clone_past [] more s low seq r h = refl
clone_past (c ∷ cs) more s low seq r h =
    let high : c.id.0 ≤ seq = rising_bound cs c.id.0 seq r.2 in
    if_false (nat_le s.0 c.id.0) (given s c) (clone_at s (cs ++ more)) (not_le s.0 c.id.0 (omega arith)) ∙ clone_past cs more s c.id.0 seq r.2 h

pub not_listed : (ids : List SnapId) (low high : ℕ) (s : SnapId) → Between low high ids → s.0 ≤ low → is_listed s ids ≡ false
not_listed [] low high s b h = refl
not_listed (x ∷ ids) low high s b h =
    let apart : x.0 ≢ s.0 = omega (arith, b.0) in
    ap (λ t. t || is_listed s ids) (eqb_apart x.0 s.0 apart) ∙ not_listed ids low high s b.2 h

pub clone_none : (cs : List Kept) (s : SnapId) (low seq : ℕ) → Rising low cs seq → s.0 ≤ low → clone_at s cs ≡ None
clone_none [] s low seq r h = refl
clone_none (c ∷ cs) s low seq r h =
    if_true (nat_le s.0 c.id.0) (given s c) (clone_at s cs) (is_le s.0 c.id.0 (omega (arith, r.0)))
    ∙ if_false (is_listed s c.ids) (Some c.bytes) None (not_listed c.ids low c.id.0 s r.1 h)

-- one more clone that doesn't serve the id
pub clone_same : (cs : List Kept) (c : Kept) (s : SnapId) → is_listed s c.ids ≡ false → clone_at s (cs ++ c ∷ []) ≡ clone_at s cs
clone_same [] c s n = elim (nat_le s.0 c.id.0) as (λ b. (if b then given s c else None) ≡ None)
    [ true ↦ if_false (is_listed s c.ids) (Some c.bytes) None n | false ↦ refl ]
clone_same (x ∷ cs) c s n = elim (nat_le s.0 x.id.0) as (λ b. (if b then given s x else clone_at s (cs ++ c ∷ [])) ≡ (if b then given s x else clone_at s cs))
    [ true ↦ refl | false ↦ clone_same cs c s n ]

abbrev pub others : SnapId → List SnapId → List SnapId
others p ids = filter (λ id. not (is_listed id (p ∷ []))) ids

listed_step : (x s p : SnapId) (ids rest : List SnapId) → s.0 ≢ p.0 → is_listed s rest ≡ is_listed s ids
    → (b : Bool) → is_listed x (p ∷ []) ≡ b → is_listed s (cond (not b) (x ∷ rest) rest) ≡ (eqb x.0 s.0 || is_listed s ids)
listed_step x s p ids rest apart same true e =
    let is : p.0 ≡ x.0 = eqb_is p.0 x.0 (sym (or_false (eqb p.0 x.0)) ∙ e) in
    let other : x.0 ≢ s.0 = omega arith in
    same ∙ sym (ap (λ t. t || is_listed s ids) (eqb_apart x.0 s.0 other))
listed_step x s p ids rest apart same false e = ap (λ t. eqb x.0 s.0 || t) same

pub listed_without : (ids : List SnapId) (s p : SnapId) → s.0 ≢ p.0 → is_listed s (others p ids) ≡ is_listed s ids
listed_without [] s p apart = refl
listed_without (x ∷ ids) s p apart = listed_step x s p ids (others p ids) apart (listed_without ids s p apart) (is_listed x (p ∷ [])) refl

pub between_without : (ids : List SnapId) (p : SnapId) (low high : ℕ) → Between low high ids → Between low high (others p ids)
between_without [] p low high b = b
between_without (x ∷ ids) p low high b = elim (is_listed x (p ∷ [])) as (λ t. Between low high (cond (not t) (x ∷ others p ids) (others p ids)))
    [ true ↦ between_without ids p low high b.2 | false ↦ (b.0, b.1, between_without ids p low high b.2) ]

pub empty_lists_none : (ids : List SnapId) (s : SnapId) → nat_lt 0 (length ids) ≡ false → is_listed s ids ≡ false
empty_lists_none [] s e = refl
empty_lists_none (x ∷ ids) s e = let bad : length (x ∷ ids) ≤ 0 = grind (arith, e) in absurd (omega (arith, bad))

purge_step : (c : Kept) (cs rest : List Kept) (s p : SnapId) (seq : ℕ) → s.0 ≢ p.0 → Rising c.id.0 cs seq → clone_at s rest ≡ clone_at s cs
    → (b : Bool) → serves_some (without p c) ≡ b
    → clone_at s (cond b (without p c ∷ rest) rest) ≡ (if nat_le s.0 c.id.0 then given s c else clone_at s cs)
purge_step c cs rest s p seq apart r same true e =
    ap (λ o. if nat_le s.0 c.id.0 then o else clone_at s rest) (ap (λ t. if t then Some c.bytes else None) (listed_without c.ids s p apart))
    ∙ ap (λ o. if nat_le s.0 c.id.0 then given s c else o) same
purge_step c cs rest s p seq apart r same false e =
    let n : is_listed s c.ids ≡ false = sym (listed_without c.ids s p apart) ∙ empty_lists_none (others p c.ids) s e in
    same ∙ purge_gone c cs s seq r n (nat_le s.0 c.id.0) refl
  where
    purge_gone : (c : Kept) (cs : List Kept) (s : SnapId) (seq : ℕ) → Rising c.id.0 cs seq → is_listed s c.ids ≡ false
        → (b : Bool) → nat_le s.0 c.id.0 ≡ b → clone_at s cs ≡ (if b then given s c else clone_at s cs)
    purge_gone c cs s seq r n true e = clone_none cs s c.id.0 seq r (grind (arith, e)) ∙ sym (if_false (is_listed s c.ids) (Some c.bytes) None n)
    purge_gone c cs s seq r n false e = refl

pub purge_reads : (cs : List Kept) (s p : SnapId) (low seq : ℕ) → s.0 ≢ p.0 → Rising low cs seq → clone_at s (purged_clones p cs) ≡ clone_at s cs
purge_reads [] s p low seq apart r = refl
purge_reads (c ∷ cs) s p low seq apart r =
    purge_step c cs (purged_clones p cs) s p seq apart r.2 (purge_reads cs s p c.id.0 seq apart r.2) (serves_some (without p c)) refl

pub purge_rising : (cs : List Kept) (p : SnapId) (low seq : ℕ) → Rising low cs seq → Rising low (purged_clones p cs) seq
purge_rising [] p low seq r = r
purge_rising (c ∷ cs) p low seq r = elim (serves_some (without p c)) as (λ b. Rising low (cond b (without p c ∷ purged_clones p cs) (purged_clones p cs)) seq) [
  | true ↦ (r.0, between_without c.ids p low c.id.0 r.1, purge_rising cs p c.id.0 seq r.2)
  | false ↦ rising_from (purged_clones p cs) c.id.0 low seq (purge_rising cs p c.id.0 seq r.2) r.0
]

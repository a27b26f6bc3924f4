-- The ids that are news to an object.
use Rattle.std.proofs.Common.{◌≡◌, ℕ, ◌<◌, ◌≤◌, Bool, true, false, cond, not, ◌||◌, ◌&&◌, eqb, nat_lt, List, [], ◌∷◌, ◌++◌, filter, sym, ◌∙◌, refl, ap, arith, if◌then◌else◌}
use Rattle.std.specs.List.{list_all}
use Rattle.std.proofs.lemmas.List.Folds.{list_all-append}
use Rattle.snap_ids.specs.declared.id.SnapId.{SnapId}
use Rattle.snap_ids.specs.Context.{Context, is_listed, falls, begins_below}
use Rattle.object_log.specs.Bytes.{is_before}
use Rattle.object_log.specs.Reads.{earlier_ones_first}
use Rattle.object_clones.specs.Stands.{Between}
use Rattle.object_clones.proofs.Decided.{and_front, and_back, lt_is, eqb_is}

-- the first of some ids is at most a number, and the others are between another and the first
abbrev pub Heads : ℕ → ℕ → List SnapId → Type 0
Heads low high [] = Unit {0}
Heads low high (s ∷ ids) = (low ≤ s.0) × Between low s.0 (s ∷ ids) × (s.0 ≤ high)

-- the first is at most a number
abbrev pub Starts : ℕ → List SnapId → Type 0
Starts high [] = Unit {0}
Starts high (s ∷ ids) = s.0 ≤ high

abbrev pub news_of : ℕ → (SnapId → Bool) → List SnapId → List SnapId
news_of seq r ids = filter (λ s. nat_lt seq s.0 && r s) ids

starts_below : (x : SnapId) (ids : List SnapId) (m : ℕ) → begins_below x ids ≡ true → x.0 ≤ m → Starts m ids
starts_below x [] m b h = tt
starts_below x (y ∷ ids) m b h = let l : y.0 < x.0 = lt_is y.0 x.0 b in omega arith

between_step : (x : SnapId) (rest : List SnapId) (seq m : ℕ) (r : Bool) → x.0 ≤ m → Between seq m rest
    → (b : Bool) → nat_lt seq x.0 ≡ b → Between seq m (cond (b && r) (x ∷ rest) rest)
between_step x rest seq m true h more true e = (lt_is seq x.0 e, h, more)
between_step x rest seq m false h more true e = more
between_step x rest seq m r h more false e = more

pub between_news : (ids : List SnapId) (seq m : ℕ) (r : SnapId → Bool) → falls ids ≡ true → Starts m ids → Between seq m (news_of seq r ids)
between_news [] seq m r f h = tt
between_news (x ∷ ids) seq m r f h =
    between_step x (news_of seq r ids) seq m (r x) h
    (between_news ids seq m r (and_back (begins_below x ids) (falls ids) f) (starts_below x ids m (and_front (begins_below x ids) (falls ids) f) h))
    (nat_lt seq x.0) refl

heads_step : (x : SnapId) (rest : List SnapId) (seq m : ℕ) (r : Bool) → x.0 ≤ m → Between seq x.0 rest → Heads seq m rest
    → (b : Bool) → nat_lt seq x.0 ≡ b → Heads seq m (cond (b && r) (x ∷ rest) rest)
heads_step x rest seq m true h between more true e = let l : seq < x.0 = lt_is seq x.0 e in (omega arith, (l, omega arith, between), h)
heads_step x rest seq m false h between more true e = more
heads_step x rest seq m r h between more false e = more

pub heads_news : (ids : List SnapId) (seq m : ℕ) (r : SnapId → Bool) → falls ids ≡ true → Starts m ids → Heads seq m (news_of seq r ids)
heads_news [] seq m r f h = tt
heads_news (x ∷ ids) seq m r f h =
    let front : begins_below x ids ≡ true = and_front (begins_below x ids) (falls ids) f in
    let back : falls ids ≡ true = and_back (begins_below x ids) (falls ids) f in
    heads_step x (news_of seq r ids) seq m (r x) h
    (between_news ids seq x.0 r back (starts_below x ids x.0 front (omega arith)))
    (heads_news ids seq m r back (starts_below x ids m front h))
    (nat_lt seq x.0) refl

-- an id that is listed, is news and passes is among the news
listed_step : (x s : SnapId) (rest : List SnapId) (seq : ℕ) (r : SnapId → Bool) → nat_lt seq s.0 ≡ true → r s ≡ true
    → (b : Bool) → eqb x.0 s.0 ≡ b → (more : Bool) → (more ≡ true → is_listed s rest ≡ true) → (b || more) ≡ true
    → is_listed s (cond (nat_lt seq x.0 && r x) (x ∷ rest) rest) ≡ true
listed_step x s rest seq r n p true e more tail h =
    let same : x ≡ s = ap (λ (i : ℕ). let y : SnapId = record { 0 = i } in y) (eqb_is x.0 s.0 e) in
    ap (λ (y : SnapId). is_listed s (cond (nat_lt seq y.0 && r y) (x ∷ rest) rest)) same
    ∙ ap (λ b. is_listed s (cond (b && r s) (x ∷ rest) rest)) n
    ∙ ap (λ b. is_listed s (cond b (x ∷ rest) rest)) p
    ∙ ap (λ b. b || is_listed s rest) e
listed_step x s rest seq r n p false e more tail h = listed_tail (nat_lt seq x.0 && r x)
  where
    listed_tail : (t : Bool) → is_listed s (cond t (x ∷ rest) rest) ≡ true
    listed_tail true = ap (λ b. b || is_listed s rest) e ∙ tail h
    listed_tail false = tail h

pub listed_news : (ids : List SnapId) (s : SnapId) (seq : ℕ) (r : SnapId → Bool) → nat_lt seq s.0 ≡ true → r s ≡ true → is_listed s ids ≡ true
    → is_listed s (news_of seq r ids) ≡ true
listed_news [] s seq r n p h = h
listed_news (x ∷ ids) s seq r n p h =
    listed_step x s (news_of seq r ids) seq r n p (eqb x.0 s.0) refl (is_listed s ids) (λ k. listed_news ids s seq r n p k) h

bound_step : (x s : SnapId) (more : Bool) (high : ℕ) → x.0 ≤ high → (more ≡ true → s.0 ≤ high) → (t : Bool) → eqb x.0 s.0 ≡ t → (t || more) ≡ true → s.0 ≤ high
bound_step x s more high h tail true e k = let q : x.0 ≡ s.0 = eqb_is x.0 s.0 e in omega arith
bound_step x s more high h tail false e k = tail k

-- an id among some is at most their bound
pub listed_bound : (ids : List SnapId) (low high : ℕ) (s : SnapId) → Between low high ids → is_listed s ids ≡ true → s.0 ≤ high
listed_bound [] low high s b h = cc
listed_bound (x ∷ ids) low high s b h = bound_step x s (is_listed s ids) high b.1 (λ k. listed_bound ids low high s b.2 k) (eqb x.0 s.0) refl h

-- contexts with one more
pub first_front : (cs : List Context) (c : Context) (s : SnapId) → earlier_ones_first s (cs ++ c ∷ []) ≡ true → earlier_ones_first s cs ≡ true
first_front [] c s h = refl
first_front (x ∷ cs) c s h = (elim (is_before s x) as (λ b. (if b then earlier_ones_first s (cs ++ c ∷ []) else list_all (λ later. not (is_before s later)) (cs ++ c ∷ [])) ≡ true
    → (if b then earlier_ones_first s cs else list_all (λ later. not (is_before s later)) cs) ≡ true) [
      | true ↦ λ k. first_front cs c s k
      | false ↦ λ k. and_front (list_all (λ later. not (is_before s later)) cs) (list_all (λ later. not (is_before s later)) (c ∷ []))
          (sym (list_all-append (λ later. not (is_before s later)) cs (c ∷ [])) ∙ k)
    ]) h

pub first_back : (cs : List Context) (c : Context) (s : SnapId) → is_before s c ≡ true → earlier_ones_first s (cs ++ c ∷ []) ≡ true → list_all (is_before s) cs ≡ true
first_back [] c s k h = refl
first_back (x ∷ cs) c s k h = (elim (is_before s x) as (λ b. (if b then earlier_ones_first s (cs ++ c ∷ []) else list_all (λ later. not (is_before s later)) (cs ++ c ∷ [])) ≡ true
    → (b && list_all (is_before s) cs) ≡ true) [
      | true ↦ λ g. first_back cs c s k g
      | false ↦ λ g. let n : (not (is_before s c) && true) ≡ true = and_back (list_all (λ later. not (is_before s later)) cs) (not (is_before s c) && true)
          (sym (list_all-append (λ later. not (is_before s later)) cs (c ∷ [])) ∙ g) in
          let bad : (false && true) ≡ true = ap (λ t. not t && true) (sym k) ∙ n in cc
    ]) h

pub all_more : (cs : List Context) (c : Context) (p : Context → Bool) → list_all p cs ≡ true → p c ≡ true → list_all p (cs ++ c ∷ []) ≡ true
all_more cs c p h k = list_all-append p cs (c ∷ []) ∙ ap (λ t. t && (p c && true)) h ∙ ap (λ t. t && true) k

pub all_front : (cs : List Context) (c : Context) (p : Context → Bool) → list_all p (cs ++ c ∷ []) ≡ true → list_all p cs ≡ true
all_front cs c p h = and_front (list_all p cs) (p c && true) (sym (list_all-append p cs (c ∷ [])) ∙ h)

pub all_last : (cs : List Context) (c : Context) (p : Context → Bool) → list_all p (cs ++ c ∷ []) ≡ true → p c ≡ true
all_last cs c p h = and_front (p c) true (and_back (list_all p cs) (p c && true) (sym (list_all-append p cs (c ∷ [])) ∙ h))

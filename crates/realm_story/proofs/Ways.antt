-- The way up from an inode ends, at most after as many inodes as there are.
use Rattle.std.proofs.Common.{◌≡◌, ℕ, zero, suc, ◌<◌, ◌≤◌, Bool, true, false, ◌||◌, List, [], ◌∷◌, length, Option, None, Some, refl, ap, sym, ◌∙◌, subst, arith}
use Rattle.snap_ids.specs.declared.id.Ino.{Ino}
use Rattle.realm_story.specs.declared.records.Node.{Node}
use Rattle.realm_story.specs.Family.{same_ino, is_on}
use Rattle.realm_story.specs.Records.{parent_by, is_node, up_from, up}
use Rattle.realm_story.specs.Stands.{Climbs, IsApart, HasAtMost}
use Rattle.realm_story.proofs.Facts.{same_of}

-- the parents lead up one way
pub one_way : (at : ℕ → Option Node) (ino : Ino) (way other : List Ino) → Climbs at ino way → Climbs at ino other → way ≡ other
one_way at ino [] [] climbs others = refl
one_way at ino [] (next ∷ other) climbs others = let never : None ≡ Some next = sym climbs ∙ others.0 in cc
one_way at ino (next ∷ way) [] climbs others = let never : None ≡ Some next = sym others ∙ climbs.0 in cc
one_way at ino (next ∷ way) (first ∷ other) climbs others =
    let both : Some next ≡ Some first = sym climbs.0 ∙ others.0 in
    let same : first ≡ next = cc in
    let rest : way ≡ other = one_way at next way other climbs.1 (subst (λ x. Climbs at x other) same others.1) in
    rw (same, rest) refl

-- the rest of a way, from an inode on it on
pub rest_of : (at : ℕ → Option Node) (ino : Ino) (way : List Ino) (top : Ino) → Climbs at ino way → is_on top way ≡ true → (rest : List Ino) × (Climbs at top rest × (length rest < length way))
rest_of at ino [] top climbs on = cc
rest_of at ino (next ∷ way) top climbs on = go (same_ino top next) refl on (λ h. rest_of at next way top climbs.1 h)
  where
    go : (b : Bool) → same_ino top next ≡ b → (b || is_on top way) ≡ true → (is_on top way ≡ true → (rest : List Ino) × (Climbs at top rest × (length rest < length way))) → (rest : List Ino) × (Climbs at top rest × (length rest < suc (length way)))
    go true is on later = (way, (subst (λ x. Climbs at x way) (sym (same_of top next is)) climbs.1, omega arith))
    go false is on later = let found = later on in (found.0, (found.1.0, omega (arith, found.1.1)))

-- an inode isn't above itself
pub never_above : (at : ℕ → Option Node) (ino : Ino) (way : List Ino) → Climbs at ino way → is_on ino way ≡ false
never_above at ino way climbs = go (is_on ino way) refl
  where
    go : (b : Bool) → is_on ino way ≡ b → b ≡ false
    go true is =
        let found = rest_of at ino way ino climbs is in
        let same : found.0 ≡ way = one_way at ino found.0 way found.1.0 climbs in
        let equal : length found.0 ≡ length way = ap length same in
        absurd (omega (arith, found.1.1))
    go false is = refl

pub apart : (at : ℕ → Option Node) (ino : Ino) (way : List Ino) → Climbs at ino way → IsApart (ino ∷ way)
apart at ino [] climbs = (refl, tt)
apart at ino (next ∷ way) climbs = (never_above at ino (next ∷ way) climbs, apart at next way climbs.1)

-- each inode above another is the parent of one
pub all_there : (P : Ino → Type 0) (at : ℕ → Option Node) (ino : Ino) (way : List Ino) → Climbs at ino way → ((x next : Ino) → parent_by (at x.0) ≡ Some next → P next) → (top : Ino) → is_on top way ≡ true → P top
all_there P at ino [] climbs closed top on = cc
all_there P at ino (next ∷ way) climbs closed top on = go (same_ino top next) refl on (λ h. all_there P at next way climbs.1 closed top h)
  where
    go : (b : Bool) → same_ino top next ≡ b → (b || is_on top way) ≡ true → (is_on top way ≡ true → P top) → P top
    go true is on later = subst P (sym (same_of top next is)) (closed ino next climbs.0)
    go false is on later = later on

-- from nowhere leads no way
pub from_none : (n : ℕ) (at : ℕ → Option Node) → up_from n at None ≡ []
from_none zero at = refl
from_none (suc n) at = refl

-- so many steps up are the whole way
pub up_whole : (n : ℕ) (at : ℕ → Option Node) (ino : Ino) (way : List Ino) → Climbs at ino way → length way < n → up n at ino ≡ ino ∷ way
up_whole zero at ino way climbs more = absurd (omega arith)
up_whole (suc n) at ino [] climbs more = ap (λ next. ino ∷ up_from n at next) climbs ∙ ap (λ way. ino ∷ way) (from_none n at)
up_whole (suc n) at ino (next ∷ way) climbs more = ap (λ next. ino ∷ up_from n at next) climbs.0 ∙ ap (λ xs. ino ∷ xs) (up_whole n at next way climbs.1 (omega (arith, more)))

-- as many steps as there are inodes are enough
pub up_is : (n : ℕ) (at : ℕ → Option Node) (ino : Ino) (way : List Ino) → HasAtMost n at → ((x next : Ino) → parent_by (at x.0) ≡ Some next → is_node (at next.0) ≡ true) → is_node (at ino.0) ≡ true → Climbs at ino way → up n at ino ≡ ino ∷ way
up_is n at ino way most closed there climbs =
    let short : suc (length way) ≤ n = most (ino ∷ way) (apart at ino way climbs) each in
    up_whole n at ino way climbs (omega (arith, short))
  where
    each : (top : Ino) → is_on top (ino ∷ way) ≡ true → is_node (at top.0) ≡ true
    each top on = go (same_ino top ino) refl on
      where
        go : (b : Bool) → same_ino top ino ≡ b → (b || is_on top way) ≡ true → is_node (at top.0) ≡ true
        go true is on = subst (λ (x : Ino). is_node (at x.0) ≡ true) (sym (same_of top ino is)) there
        go false is on = all_there (λ x. is_node (at x.0) ≡ true) at ino way climbs closed top on

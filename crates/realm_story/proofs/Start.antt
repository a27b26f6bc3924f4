-- The three roots stand for the story in which nothing was called.
use Rattle.std.proofs.Common.{◌≡◌, ℕ, Bool, true, false, ◌||◌, ◌&&◌, cond, eqb, leb, [], Option, None, Some, refl, sym, ◌∙◌, arith}
use Rattle.std.proofs.lemmas.Bool.Decides.{nat_tests}
use Rattle.snap_ids.specs.declared.id.TheConstants.{ROOT, STRAY, GLOBAL, FIRST_SNAP}
use Rattle.snap_ids.specs.Traces.{if_from}
use Rattle.realm_story.specs.declared.records.Node.{Node}
use Rattle.realm_story.specs.Family.{start}
use Rattle.realm_story.specs.Records.{parent_by, birth_by, realm_by, is_node, is_realm, seq_by}
use Rattle.realm_story.specs.Stands.{IsEarly, Stands}
use Rattle.realm_story.proofs.Same.{put}

-- the record of a root
abbrev pub root_node : Node
root_node = record { parent = None; birth = FIRST_SNAP; realm = Some (record { seq = record { 0 = 1 }; since = record { 0 = 0 }; past = [] }) }

-- the records of the three roots
abbrev pub roots : ℕ → Option Node
roots = put GLOBAL (Some root_node) (put STRAY (Some root_node) (put ROOT (Some root_node) (λ k. None)))

pub start_law : Stands roots [] (record { 0 = 1 }) start
start_law = record {
  applied_is = refl;
  snaps_are = refl;
  fall = tt;
  last = refl;
  there = λ ino. there_at ino.0;
  births = λ ino. by_cases (λ node. birth_by node ≡ FIRST_SNAP) ino.0 refl refl;
  late = λ ino. omega arith;
  born = λ ino. omega arith;
  marks = λ ino. marks_at ino.0;
  climbs = λ ino. by_cases (λ node. parent_by node ≡ None) ino.0 refl refl;
  closed = λ ino next h. let none : parent_by (roots ino.0) ≡ None = by_cases (λ node. parent_by node ≡ None) ino.0 refl refl in let never : None ≡ Some next = sym none ∙ h in cc;
  tops = λ ino root. by_cases (λ node. parent_by node ≡ None) ino.0 refl refl;
  early = λ ino. by_cases (λ node. IsEarly 1 (realm_by node)) ino.0 (omega arith, omega arith, refl) tt;
  named = tt;
  rooted = tt;
  right = λ ino there outside. tt;
  latest = λ ino there outside. by_cases (λ node. if_from FIRST_SNAP (seq_by (realm_by node) 0) 1 ≡ 1) ino.0 refl refl;
}
  where
    by_cases : (P : Option Node → Type 0) (k : ℕ) → P (Some root_node) → P None → P (roots k)
    by_cases P k here none = go (eqb 3 k) (eqb 2 k) (eqb 1 k)
      where
        go : (a b c : Bool) → P (cond a (Some root_node) (cond b (Some root_node) (cond c (Some root_node) None)))
        go true b c = here
        go false true c = here
        go false false true = here
        go false false false = none

    tests : (k : ℕ) → (eqb 3 k || (eqb 2 k || eqb 1 k)) ≡ (leb 1 k && leb k 3)
    tests k = grind (arith, nat_tests)

    found : (a b c : Bool) → is_node (cond a (Some root_node) (cond b (Some root_node) (cond c (Some root_node) None))) ≡ (a || (b || c))
    found true b c = refl
    found false true c = refl
    found false false true = refl
    found false false false = refl

    or_false : (b : Bool) → (b || false) ≡ b
    or_false true = refl
    or_false false = refl

    there_at : (k : ℕ) → is_node (roots k) ≡ ((leb 1 k && leb k 3) || false)
    there_at k = found (eqb 3 k) (eqb 2 k) (eqb 1 k) ∙ tests k ∙ sym (or_false (leb 1 k && leb k 3))

    real : (a b c : Bool) → is_realm (realm_by (cond a (Some root_node) (cond b (Some root_node) (cond c (Some root_node) None)))) ≡ (a || (b || c))
    real true b c = refl
    real false true c = refl
    real false false true = refl
    real false false false = refl

    marks_at : (k : ℕ) → is_realm (realm_by (roots k)) ≡ ((leb 1 k && leb k 3) || false)
    marks_at k = real (eqb 3 k) (eqb 2 k) (eqb 1 k) ∙ tests k ∙ sym (or_false (leb 1 k && leb k 3))

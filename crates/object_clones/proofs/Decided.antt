-- Tests on ids.
use Rattle.std.proofs.Common.{◌≡◌, ◌≢◌, ℕ, ◌<◌, ◌≤◌, Bool, true, false, not, ◌||◌, ◌&&◌, eqb, nat_lt, nat_le, [], ◌∷◌, sym, ◌∙◌, refl, ap, arith}
use Rattle.snap_ids.specs.declared.id.SnapId.{SnapId}
use Rattle.snap_ids.specs.Context.{is_listed}

pub eqb_swap : (a b : ℕ) → eqb a b ≡ eqb b a
eqb_swap a b = grind arith

pub or_false : (b : Bool) → (b || false) ≡ b
or_false true = refl
or_false false = refl

pub other_id : (x s : SnapId) → not (eqb x.0 s.0) ≡ not (is_listed x (s ∷ []))
other_id x s = ap not (eqb_swap x.0 s.0 ∙ sym (or_false (eqb s.0 x.0)))

pub not_le : (a b : ℕ) → b < a → nat_le a b ≡ false
not_le a b h = grind arith

pub is_le : (a b : ℕ) → a ≤ b → nat_le a b ≡ true
is_le a b h = grind arith

pub eqb_apart : (a b : ℕ) → a ≢ b → eqb a b ≡ false
eqb_apart a b h = grind arith

pub eqb_is : (a b : ℕ) → eqb a b ≡ true → a ≡ b
eqb_is a b h = grind arith

pub lt_is : (a b : ℕ) → nat_lt a b ≡ true → a < b
lt_is a b h = grind arith

pub lt_not : (a b : ℕ) → nat_lt a b ≡ false → b ≤ a
lt_not a b h = grind arith

pub le_is : (a b : ℕ) → nat_le a b ≡ true → a ≤ b
le_is a b h = grind arith

pub le_not : (a b : ℕ) → nat_le a b ≡ false → b < a
le_not a b h = grind arith

pub and_front : (a b : Bool) → (a && b) ≡ true → a ≡ true
and_front true b h = refl
and_front false b h = h

pub and_back : (a b : Bool) → (a && b) ≡ true → b ≡ true
and_back true b h = h
and_back false b h = cc

pub or_front : (a b : Bool) → (a || b) ≡ false → a ≡ false
or_front true b h = h
or_front false b h = refl

pub or_back : (a b : Bool) → (a || b) ≡ false → b ≡ false
or_back true b h = cc
or_back false b h = h

pub not_true : (a b : ℕ) → not (nat_lt a b) ≡ true → b ≤ a
not_true a b h = grind arith

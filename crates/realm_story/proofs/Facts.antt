-- Small facts on tests, inodes and ids.
use Rattle.std.proofs.Common.{◌≡◌, ℕ, ◌<◌, Bool, true, false, ◌&&◌, eqb, ltb, refl, ap, arith, eqb-true, eq-eqb}
use Rattle.std.proofs.lemmas.Bool.Decides.{nat_tests}
use Rattle.snap_ids.specs.declared.id.Ino.{Ino}
use Rattle.snap_ids.specs.declared.id.SnapId.{SnapId}
use Rattle.realm_story.specs.Family.{same_ino}

pub both_of : (a b : Bool) → (a && b) ≡ true → (a ≡ true) × (b ≡ true)
both_of true b h = (refl, h)
both_of false b h = cc

pub same_of : (x y : Ino) → same_ino x y ≡ true → x ≡ y
same_of x y h = ap (λ n. record { 0 = n }) (eqb-true x.0 y.0 h)

pub id_of : (x y : SnapId) → eqb x.0 y.0 ≡ true → x ≡ y
id_of x y h = ap (λ n. record { 0 = n }) (eqb-true x.0 y.0 h)

pub itself : (x : Ino) → same_ino x x ≡ true
itself x = eq-eqb x.0 x.0 refl

pub id_itself : (x : SnapId) → eqb x.0 x.0 ≡ true
id_itself x = eq-eqb x.0 x.0 refl

pub same_sym : (x y : Ino) → same_ino x y ≡ same_ino y x
same_sym x y = grind (arith, nat_tests)

pub above-apart : (m n : ℕ) → m < n → eqb m n ≡ false
above-apart m n h = grind (arith, nat_tests)

pub above-less : (m n : ℕ) → m < n → ltb m n ≡ true
above-less m n h = grind (arith, nat_tests)

pub less-not : (m n : ℕ) → m < n → ltb n m ≡ false
less-not m n h = grind (arith, nat_tests)

pub apart_sym : (m n : ℕ) → m < n → eqb n m ≡ false
apart_sym m n h = grind (arith, nat_tests)

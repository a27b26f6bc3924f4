-- The members of a story after one of them was moved, went to the global realm, or is there no more.
use Rattle.std.proofs.Common.{◌≡◌, Bool, true, false, cond, not, ◌||◌, List, [], ◌∷◌, Option, None, Some, refl, sym, ap, ◌∙◌, map, filter}
use Rattle.snap_ids.specs.declared.id.Ino.{Ino}
use Rattle.snap_ids.specs.declared.id.TheConstants.{GLOBAL}
use Rattle.realm_story.specs.Family.{Member, same_ino, member, is_member, above_by, birth_by, is_on, way_moved, moved, made_global}
use Rattle.realm_story.proofs.Facts.{same_of, same_sym}

-- what is found under a number has that number
pub found_is : (y : Ino) (members : List Member) (m : Member) → member members y ≡ Some m → same_ino m.ino y ≡ true
found_is y [] m is = cc
found_is y (first ∷ members) m is = go (same_ino first.ino y) refl is (λ h. found_is y members m h)
  where
    go : (b : Bool) → same_ino first.ino y ≡ b → cond b (Some first) (member members y) ≡ Some m → (member members y ≡ Some m → same_ino m.ino y ≡ true) → same_ino m.ino y ≡ true
    go true e is later = let same : m ≡ first = cc in ap (λ (t : Member). same_ino t.ino y) same ∙ e
    go false e is later = later is

pub other_than : (x y : Ino) (m : Member) → same_ino x y ≡ false → same_ino m.ino y ≡ true → same_ino m.ino x ≡ false
other_than x y m apart is = go (same_ino m.ino x) refl
  where
    go : (b : Bool) → same_ino m.ino x ≡ b → b ≡ false
    go true e =
        let equal : same_ino x y ≡ true = ap (λ z. same_ino z y) (sym (same_of m.ino x e)) ∙ is in
        cc
    go false e = refl

abbrev by : (Member → Member) → Option Member → Option Member
by h None = None
by h (Some m) = Some (h m)

is_by : (h : Member → Member) (found : Option Member) → is_member (by h found) ≡ is_member found
is_by h None = refl
is_by h (Some m) = refl

module _ (x : Ino) (up : List Ino) (members : List Member) where
  moved_member : (y : Ino) (ms : List Member) → member (map (moved x up) ms) y ≡ by (moved x up) (member ms y)
  moved_member y [] = refl
  moved_member y (m ∷ ms) = go (same_ino m.ino y) (moved_member y ms)
    where
      go : (b : Bool) → member (map (moved x up) ms) y ≡ by (moved x up) (member ms y) → cond b (Some (moved x up m)) (member (map (moved x up) ms) y) ≡ by (moved x up) (cond b (Some m) (member ms y))
      go true rest = refl
      go false rest = rest

  pub moved_is : (y : Ino) → is_member (member (map (moved x up) members) y) ≡ is_member (member members y)
  moved_is y = ap is_member (moved_member y members) ∙ is_by (moved x up) (member members y)

  pub moved_birth : (y : Ino) → birth_by (member (map (moved x up) members) y) ≡ birth_by (member members y)
  moved_birth y = ap birth_by (moved_member y members) ∙ go (member members y)
    where
      go : (found : Option Member) → birth_by (by (moved x up) found) ≡ birth_by found
      go None = refl
      go (Some m) = refl

  pub moved_other : (y : Ino) → same_ino x y ≡ false → above_by (member (map (moved x up) members) y) ≡ way_moved x up (above_by (member members y))
  moved_other y apart = ap above_by (moved_member y members) ∙ go (member members y) (found_is y members)
    where
      go : (found : Option Member) → ((m : Member) → found ≡ Some m → same_ino m.ino y ≡ true) → above_by (by (moved x up) found) ≡ way_moved x up (above_by found)
      go None is = refl
      go (Some m) is = rw (other_than x y m apart (is m refl)) refl

  pub moved_self : is_member (member members x) ≡ true → above_by (member (map (moved x up) members) x) ≡ up
  moved_self there = ap above_by (moved_member x members) ∙ go (member members x) there (found_is x members)
    where
      go : (found : Option Member) → is_member found ≡ true → ((m : Member) → found ≡ Some m → same_ino m.ino x ≡ true) → above_by (by (moved x up) found) ≡ up
      go None there is = cc
      go (Some m) there is = rw (is m refl) refl

module _ (x : Ino) (members : List Member) where
  global_member : (y : Ino) (ms : List Member) → member (map (made_global x) ms) y ≡ by (made_global x) (member ms y)
  global_member y [] = refl
  global_member y (m ∷ ms) = go (same_ino m.ino y) (global_member y ms)
    where
      go : (b : Bool) → member (map (made_global x) ms) y ≡ by (made_global x) (member ms y) → cond b (Some (made_global x m)) (member (map (made_global x) ms) y) ≡ by (made_global x) (cond b (Some m) (member ms y))
      go true rest = refl
      go false rest = rest

  pub global_is : (y : Ino) → is_member (member (map (made_global x) members) y) ≡ is_member (member members y)
  global_is y = ap is_member (global_member y members) ∙ is_by (made_global x) (member members y)

  pub global_birth : (y : Ino) → birth_by (member (map (made_global x) members) y) ≡ birth_by (member members y)
  global_birth y = ap birth_by (global_member y members) ∙ go (member members y)
    where
      go : (found : Option Member) → birth_by (by (made_global x) found) ≡ birth_by found
      go None = refl
      go (Some m) = refl

  pub global_other : (y : Ino) → same_ino x y ≡ false → above_by (member (map (made_global x) members) y) ≡ above_by (member members y)
  global_other y apart = ap above_by (global_member y members) ∙ go (member members y) (found_is y members)
    where
      go : (found : Option Member) → ((m : Member) → found ≡ Some m → same_ino m.ino y ≡ true) → above_by (by (made_global x) found) ≡ above_by found
      go None is = refl
      go (Some m) is = rw (other_than x y m apart (is m refl)) refl

  pub global_self : is_member (member members x) ≡ true → above_by (member (map (made_global x) members) x) ≡ GLOBAL ∷ []
  global_self there = ap above_by (global_member x members) ∙ go (member members x) there (found_is x members)
    where
      go : (found : Option Member) → is_member found ≡ true → ((m : Member) → found ≡ Some m → same_ino m.ino x ≡ true) → above_by (by (made_global x) found) ≡ GLOBAL ∷ []
      go None there is = cc
      go (Some m) there is = rw (is m refl) refl

pub left_other : (x y : Ino) (members : List Member) → same_ino x y ≡ false → member (filter (λ (m : Member). not (same_ino m.ino x)) members) y ≡ member members y
left_other x y [] apart = refl
left_other x y (m ∷ members) apart = go (same_ino m.ino x) refl (left_other x y members apart)
  where
    go : (b : Bool) → same_ino m.ino x ≡ b → member (filter (λ (m : Member). not (same_ino m.ino x)) members) y ≡ member members y → member (cond (not b) (m ∷ filter (λ (m : Member). not (same_ino m.ino x)) members) (filter (λ (m : Member). not (same_ino m.ino x)) members)) y ≡ cond (same_ino m.ino y) (Some m) (member members y)
    go true e rest =
        let unlike : same_ino m.ino y ≡ false = ap (λ z. same_ino z y) (same_of m.ino x e) ∙ apart in
        rw unlike rest
    go false e rest = rw rest refl

pub left_self : (x : Ino) (members : List Member) → member (filter (λ (m : Member). not (same_ino m.ino x)) members) x ≡ None
left_self x [] = refl
left_self x (m ∷ members) = go (same_ino m.ino x) refl (left_self x members)
  where
    go : (b : Bool) → same_ino m.ino x ≡ b → member (filter (λ (m : Member). not (same_ino m.ino x)) members) x ≡ None → member (cond (not b) (m ∷ filter (λ (m : Member). not (same_ino m.ino x)) members) (filter (λ (m : Member). not (same_ino m.ino x)) members)) x ≡ None
    go true e rest = rest
    go false e rest = rw e rest

-- a way on which the inode doesn't stand stays
pub way_off : (x : Ino) (up way : List Ino) → is_on x way ≡ false → way_moved x up way ≡ way
way_off x up [] off = refl
way_off x up (y ∷ way) off = go (same_ino x y) refl off (way_off x up way)
  where
    go : (b : Bool) → same_ino x y ≡ b → (b || is_on x way) ≡ false → (is_on x way ≡ false → way_moved x up way ≡ way) → way_moved x up (y ∷ way) ≡ y ∷ way
    go true e off rest = cc
    go false e off rest = rw (same_sym y x, e) (ap (λ (w : List Ino). y ∷ w) (rest off))

-- who stands neither on the way nor above its new place
pub off_moved : (z x : Ino) (up way : List Ino) → same_ino z x ≡ false → is_on z up ≡ false → is_on z way ≡ false → is_on z (way_moved x up way) ≡ false
off_moved z x up [] apart high off = refl
off_moved z x up (y ∷ way) apart high off = go (same_ino y x) (same_ino z y) refl off (off_moved z x up way apart high)
  where
    go : (b c : Bool) → same_ino z y ≡ c → (c || is_on z way) ≡ false → (is_on z way ≡ false → is_on z (way_moved x up way) ≡ false) → is_on z (cond b (x ∷ up) (y ∷ way_moved x up way)) ≡ false
    go true c e off rest = rw (apart, high) refl
    go false true e off rest = cc
    go false false e off rest = rw e (rest off)

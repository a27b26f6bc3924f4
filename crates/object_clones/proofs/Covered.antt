-- That a purge leaves each object that isn't noted stays so.
use Rattle.std.proofs.Common.{◌≡◌, ◌≢◌, ℕ, Bool, true, false, cond, Option, Some, None, eqb, sym, ◌∙◌, refl, ap, subst, arith}
use Rattle.std.specs.Ordering.{nat_cmp}
use Rattle.std.specs.BTreeMap.{get, is_at}
use Rattle.snap_ids.specs.declared.id.SnapId.{SnapId}
use Rattle.object_clones.specs.declared.file.File.{File}
use Rattle.object_clones.specs.declared.files.Files.{Files}
use Rattle.object_clones.specs.declared.listing.Listing.{Listing}
use Rattle.object_clones.specs.Listing.{Grows, noted}
use Rattle.object_clones.specs.Objects.{IsLeft, Plain, purged}
use Rattle.object_clones.specs.Files.{CoversFile}
use Rattle.object_clones.specs.Store.{Covers, object_among, object_or_blank}
use Rattle.object_clones.proofs.Decided.{eqb_apart, eqb_is}
use Rattle.object_clones.proofs.Noted.{key_is, left_after, left_purged}

-- what isn't noted wasn't
pub not_before : (a b : Bool) → (a ≡ true → b ≡ true) → b ≡ false → a ≡ false
not_before true b grows none = let bad : true ≡ false = sym (grows refl) ∙ none in cc
not_before false b grows none = refl

pub covers_same : (old new : Files) → new.listing ≡ old.listing → ((f k : ℕ) → object_among new f k ≡ object_among old f k) → Covers old → Covers new
covers_same old new listing objects covers = λ s f k none.
    let P : Plain → Type 0 = λ o. IsLeft s o in
    subst P (sym (objects f k)) (covers s f k (ap (λ l. noted l s f k) (sym listing) ∙ none))

-- after an edit of one file
pub covers_edited : (old new : Files) (ino : ℕ) (was is : File) → get nat_cmp old.files ino ≡ Some was
    → ((f : ℕ) → get nat_cmp new.files f ≡ cond (is_at (nat_cmp ino) f) (Some is) (get nat_cmp old.files f))
    → Grows old.listing new.listing → (CoversFile old.listing ino was → CoversFile new.listing ino is) → Covers old → Covers new
covers_edited old new ino was is there sets grows file covers = λ s f k none. go s f k none (is_at (nat_cmp ino) f) refl
  where
    whole : CoversFile new.listing ino is
    whole = file (λ s k none. let P : Option File → Type 0 = λ o. IsLeft s (object_or_blank o k) in subst P there (covers s ino k none))

    go : (s : SnapId) (f k : ℕ) → noted new.listing s f k ≡ false → (t : Bool) → is_at (nat_cmp ino) f ≡ t → IsLeft s (object_among new f k)
    go s f k none true t =
        let P : Option File → Type 0 = λ o. IsLeft s (object_or_blank o k) in
        let same : ino ≡ f = key_is ino f t in
        let got : get nat_cmp new.files f ≡ Some is = sets f ∙ ap (λ b. cond b (Some is) (get nat_cmp old.files f)) t in
        subst P (sym got) (whole s k (ap (λ n. noted new.listing s n k) same ∙ none))
    go s f k none false t =
        let P : Option File → Type 0 = λ o. IsLeft s (object_or_blank o k) in
        let got : get nat_cmp new.files f ≡ get nat_cmp old.files f = sets f ∙ ap (λ b. cond b (Some is) (get nat_cmp old.files f)) t in
        subst P (sym got) (covers s f k (not_before _ _ (grows s f k) none))

-- after a purge
pub covers_purged : (old new : Files) (s : SnapId) → ((q : SnapId) (f k : ℕ) → q.0 ≢ s.0 → noted new.listing q f k ≡ noted old.listing q f k)
    → ((f k : ℕ) → object_among new f k ≡ purged s (object_among old f k)) → Covers old → Covers new
covers_purged old new s others objects covers = λ q f k none. go q f k none (eqb q.0 s.0) refl
  where
    go : (q : SnapId) (f k : ℕ) → noted new.listing q f k ≡ false → (t : Bool) → eqb q.0 s.0 ≡ t → IsLeft q (object_among new f k)
    go q f k none true t =
        let same : s ≡ q = λ i. record { 0 = sym (eqb_is q.0 s.0 t) i } in
        let P : Plain → Type 0 = λ o. IsLeft q o in
        let Q : SnapId → Type 0 = λ r. IsLeft r (purged s (object_among old f k)) in
        subst P (sym (objects f k)) (subst Q same (left_purged s (object_among old f k)))
    go q f k none false t =
        let apart : q.0 ≢ s.0 = grind (arith, t) in
        let P : Plain → Type 0 = λ o. IsLeft q o in
        subst P (sym (objects f k)) (left_after q s (object_among old f k) (covers q f k (sym (others q f k apart) ∙ none)))

use Rattle.std.proofs.Common.{◌≡◌, ℕ, ◌<◌, ◌≤◌, Bool, true, false, List, [], length, ◌&&◌, eqb, arith, sym, ◌∙◌, ap, ⊎_elim}
use Rattle.std.proofs.lemmas.Bool.{cases_lt}
use Rattle.std.proofs.lemmas.List.{nil_from_length}
use Rattle.std.specs.List.{list_any}
use Rattle.std.specs.BTreeMap.{is_at}
use Rattle.std.specs.BTreeSet.{contains}
use Rattle.object_clones.specs.Listing.{place_cmp}
use Rattle.object_clones.specs.Objects.{Plain}
use Rattle.object_clones.specs.Store.{object_among}
use Rattle.object_clones.proofs.Noted.{left_next, place_apart, purged_next}
use Rattle.object_clones.proofs.files.Files.purge_objects.Goals as goal

pub loop-place-preserved : goal.loop-place-preserved
loop-place-preserved c =
    let place = c.in-Some.place in
    let here : ℕ → ℕ → Bool = λ f k. eqb f place.0 && eqb k place.1 in
    let old : ℕ → ℕ → Plain = λ f k. object_among c.loop-place.self f k in
    let new : ℕ → ℕ → Plain = λ f k. object_among c.purge_object.new.self f k in
    record {
      kept = λ f k. purged_next c.args.s (old f k) (new f k) (here f k) (c.purge_object.ensures.objects f k) ∙ c.loop-place.invariant.kept f k;
      left = λ f k none. left_next c.args.s (old f k) (new f k) (here f k) (contains place_cmp c.loop-place.places (f, k)) (contains place_cmp c.pop_first.new.self (f, k))
          (c.purge_object.ensures.objects f k) (λ apart. c.in-Some.ensures.updates.2 (f, k) (place_apart f k place.0 place.1 apart))
          (c.loop-place.invariant.left f k) none;
      listing = c.purge_object.ensures.listing ∙ c.loop-place.invariant.listing;
    }

pub returns-clause-objects : goal.returns-clause-objects
returns-clause-objects c = λ f k.
    let empty : length c.loop-place.places.keys ≡ 0 = ⊎_elim
    (λ (p : 0 < length c.loop-place.places.keys). let bad : false ≡ true = c.in_default.ensures.variant.1 p in cc)
    (λ (p : length c.loop-place.places.keys ≤ 0). let e : length c.loop-place.places.keys ≡ 0 = omega arith in e)
    (cases_lt 0 (length c.loop-place.places.keys)) in
    let nil : c.loop-place.places.keys ≡ [] = nil_from_length c.loop-place.places.keys empty in
    let none : contains place_cmp c.loop-place.places (f, k) ≡ false = ap (λ (ks : List (ℕ × ℕ)). list_any (is_at (place_cmp (f, k))) ks) nil in
    sym (c.loop-place.invariant.left f k none) ∙ c.loop-place.invariant.kept f k

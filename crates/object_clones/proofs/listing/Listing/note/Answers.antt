use Rattle.std.proofs.Common.{◌≡◌, ℕ, cond, Option, None, Some, sym, ◌∙◌, refl, ap, subst}
use Rattle.std.specs.Option.{IsSome}
use Rattle.std.specs.Ordering.{nat_cmp}
use Rattle.std.specs.BTreeMap.{get, is_at}
use Rattle.std.specs.BTreeSet.{BTreeSet}
use Rattle.object_clones.specs.Listing.{place_cmp}
use Rattle.object_clones.proofs.Noted.{noted_first, noted_more, place_more}
use Rattle.object_clones.proofs.listing.Listing.note.Goals as goal

pub returns-in-Some-clause-grows : goal.returns-in-Some-clause-grows
returns-in-Some-clause-grows c = λ q f k h.
    let m = c.args.self.now.objects in
    let before = c.in-Some.objects.now in
    let after = c.insert.new.self in
    let was : get nat_cmp m c.args.s.0 ≡ Some before = sym c.in-Some.ensures.value in
    let S : Option (BTreeSet (ℕ × ℕ)) → Type 0 = λ o. IsSome o in
    let some : IsSome (get nat_cmp m c.args.s.0) = subst S (sym was) refl in
    noted_more m c.args.s.0 q.0 _ before after f k was
    (λ has. place_more _ _ (is_at (place_cmp (c.args.ino, c.args.index)) (f, k)) (c.in_ok-insert.ensures.updates.0 (f, k)) has)
    (is_at (nat_cmp c.args.s.0) q.0) refl (((c.get_mut.follows.holds after).3 some).0 q.0) h

pub returns-clause-grows : goal.returns-clause-grows
returns-clause-grows c = λ q f k h.
    let m = c.args.self.now.objects in
    let after = c.insert-2.new.self in
    let none : get nat_cmp m c.args.s.0 ≡ None = sym c.in_default.ensures.value in
    let test = is_at (nat_cmp c.args.s.0) q.0 in
    noted_first m c.args.s.0 q.0 (get nat_cmp c.insert-3.new.self q.0) after f k none test refl
    (c.in_ok-insert-3.ensures.updates.0 q.0 ∙ ap (λ n. cond test (Some after) (get nat_cmp n q.0)) c.get_mut.follows.holds-at-none) h

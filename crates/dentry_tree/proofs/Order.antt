-- The order of entries by directory and name.
use Rattle.std.proofs.Common.{◌≡◌, ℕ, zero, suc, Bool, true, false, List, [], ◌∷◌, get_or, drop, refl, sym, ◌∙◌, ap, arith}
use Rattle.std.specs.List.{AllByRecursion}
use Rattle.std.specs.List.Sorted.{IsPartitionedBy}
use Rattle.std.specs.declared.cmp.Ordering.{Ordering}
use Rattle.std.specs.declared.cmp.Ordering.TheVariants.{Less, Equal, Greater}
use Rattle.std.specs.Ordering.{is_lt, is_eq, nat_cmp, ordering_then, ordering_reverse}
use Rattle.std.specs.Cmp.{IsTotalOrder}
use Rattle.std.specs.Cmp.Lexicographic.{slice_cmp}
use Rattle.std.proofs.lemmas.Cmp.{then_total, on_total, nat_cmp_total, nat_list_cmp_total}
use Rattle.std.proofs.lemmas.Bool.Decides.{nat_tests}
use Rattle.std.proofs.lemmas.Map.Text.{is_eq-slice_cmp}
use Rattle.std.proofs.lemmas.List.Elements.{All-from_recursion}
use Rattle.snap_ids.specs.declared.id.Ino.{Ino}
use Rattle.plain_tree.specs.State.{Entry, is_at, precedes}
use Rattle.snap_ids.specs.declared.id.TheConstants.{ROOT}
use Rattle.dentry_tree.specs.Dentries.{Dentry, entry_of, IsBefore, IsInOrder}
use Rattle.dentry_tree.specs.Places.{stands_before}
use Rattle.dentry_tree.proofs.Lists.{all_weaker}

-- how the places of two entries compare
abbrev pub place_cmp : Entry → Entry → Ordering
place_cmp a b = ordering_then (nat_cmp a.dir.0 b.dir.0) (slice_cmp nat_cmp a.name b.name)

-- it is a total order
pub place_cmp_total : IsTotalOrder place_cmp
place_cmp_total = then_total (on_total (λ (e : Entry). e.dir.0) nat_cmp_total) (on_total (λ (e : Entry). e.name) nat_list_cmp_total)

-- an entry precedes one of a greater place
pub precedes-place_cmp : (a b : Entry) → precedes a b ≡ is_lt (place_cmp a b)
precedes-place_cmp a b = grind (arith, nat_tests)

-- and is at the name of one of an equal place
pub is_at-place_cmp : (a b : Entry) → is_at b.dir b.name a ≡ is_eq (place_cmp a b)
is_at-place_cmp a b = grind (arith, nat_tests, is_eq-slice_cmp a.name b.name)

-- an answer of `is_lt`
less_from_is_lt : (o : Ordering) → is_lt o ≡ true → o ≡ Less
less_from_is_lt Less h = cc
less_from_is_lt Equal h = cc
less_from_is_lt Greater h = cc

-- what precedes has a smaller place
pub place_less : (a b : Entry) → precedes a b ≡ true → place_cmp a b ≡ Less
place_less a b h = less_from_is_lt (place_cmp a b) (sym (precedes-place_cmp a b) ∙ h)

-- the smaller of two places, seen from the other
pub place_back : (a b : Entry) → place_cmp a b ≡ Less → place_cmp b a ≡ Greater
place_back a b h = place_cmp_total.antisymm b a ∙ ap ordering_reverse h

-- what precedes an entry that precedes another precedes that
precedes_trans : (a b c : Entry) → precedes a b ≡ true → precedes b c ≡ true → precedes a c ≡ true
precedes_trans a b c h k = precedes-place_cmp a c ∙ ap is_lt (place_cmp_total.trans a b c (place_less a b h) (place_less b c k))

-- what stands before a version that stands before a name does so too
pub stands_before_before : (dir : Ino) (name : List ℕ) (v w : Dentry) → IsBefore v w → stands_before dir name w ≡ true → stands_before dir name v ≡ true
stands_before_before dir name v w before passes =
    let entry : Entry = record { dir = dir; name = name; ino = ROOT } in precedes_trans (entry_of v ROOT) (entry_of w ROOT) entry before passes

-- in order, versions that pass a test come first if what stands before such a version passes it too
pub partitioned : (p : Dentry → Bool) → ((v w : Dentry) → IsBefore v w → p w ≡ true → p v ≡ true) → (versions : List Dentry) → IsInOrder versions → IsPartitionedBy p versions
partitioned p steady [] order i j d le lt passes = absurd (omega arith)
partitioned p steady (v ∷ vs) order zero zero d le lt passes = passes
partitioned p steady (v ∷ vs) order zero (suc j) d le lt passes =
    steady v (get_or vs j d) (All-from_recursion (IsBefore v) vs order.0 j d (omega arith)) passes
partitioned p steady (v ∷ vs) order (suc i) zero d le lt passes = absurd (omega arith)
partitioned p steady (v ∷ vs) order (suc i) (suc j) d le lt passes = partitioned p steady vs order.1 i j d (omega arith) (omega arith) passes

-- a part from a place on is in order too
pub in_order_drop : (versions : List Dentry) (i : ℕ) → IsInOrder versions → IsInOrder (drop i versions)
in_order_drop versions zero order = order
in_order_drop [] (suc i) order = tt
in_order_drop (v ∷ vs) (suc i) order = in_order_drop vs i order.1

-- what precedes an entry isn't at its name
pub elsewhere_before : (a b : Entry) → precedes a b ≡ true → is_at b.dir b.name a ≡ false
elsewhere_before a b h = is_at-place_cmp a b ∙ ap is_eq (place_less a b h)

-- nor is what it precedes
pub elsewhere_behind : (a b : Entry) → precedes b a ≡ true → is_at b.dir b.name a ≡ false
elsewhere_behind a b h = is_at-place_cmp a b ∙ ap is_eq (place_back b a (place_less b a h))

-- what an entry precedes doesn't precede it
pub precedes_back : (a b : Entry) → precedes a b ≡ true → precedes b a ≡ false
precedes_back a b h = precedes-place_cmp b a ∙ ap is_lt (place_back a b (place_less a b h))

-- an answer that is neither
greater_from_rest : (o : Ordering) → is_lt o ≡ false → is_eq o ≡ false → o ≡ Greater
greater_from_rest Less h k = cc
greater_from_rest Equal h k = cc
greater_from_rest Greater h k = cc

-- an answer that isn't `Less`, seen from the other side, before a third
behind_from_rest : (o : Ordering) (a b c : Entry) → o ≡ place_cmp b a → is_lt o ≡ false → place_cmp b c ≡ Less → place_cmp a c ≡ Less
behind_from_rest Less a b c is h k = cc
behind_from_rest Equal a b c is h k = sym (place_cmp_total.congr b a c (sym is)) ∙ k
behind_from_rest Greater a b c is h k =
    place_cmp_total.trans a b c (place_cmp_total.antisymm a b ∙ ap ordering_reverse (sym is)) k

-- an entry precedes all behind one that doesn't precede it
pub precedes_behind : (a b c : Entry) → precedes b a ≡ false → precedes b c ≡ true → precedes a c ≡ true
precedes_behind a b c h k =
    precedes-place_cmp a c ∙ ap is_lt (behind_from_rest (place_cmp b a) a b c refl (sym (precedes-place_cmp b a) ∙ h) (place_less b c k))

-- of two entries of different names one precedes the other
pub precedes_other : (a b : Entry) → precedes b a ≡ false → is_at a.dir a.name b ≡ false → precedes a b ≡ true
precedes_other a b h k =
    let greater = greater_from_rest (place_cmp b a) (sym (precedes-place_cmp b a) ∙ h) (sym (is_at-place_cmp b a) ∙ k) in
    precedes-place_cmp a b ∙ ap is_lt (place_cmp_total.antisymm a b ∙ ap ordering_reverse greater)

-- what stands in order behind a version that isn't before an entry is behind the entry
pub all_behind : (e : Entry) (v : Dentry) (vs : List Dentry) → precedes (entry_of v ROOT) e ≡ false → AllByRecursion (IsBefore v) vs → AllByRecursion (λ w. precedes e (entry_of w ROOT) ≡ true) vs
all_behind e v vs not_before later = all_weaker (IsBefore v) (λ w. precedes e (entry_of w ROOT) ≡ true) (λ w before. precedes_behind e (entry_of v ROOT) (entry_of w ROOT) not_before before) vs later

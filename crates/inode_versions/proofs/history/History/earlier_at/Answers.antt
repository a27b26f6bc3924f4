use Rattle.std.proofs.lemmas.Option.{slice_get_past, slice_get_read}
use Rattle.std.proofs.lemmas.Bool.Decides.{nat_tests}
use Rattle.std.proofs.Common.{rules, arith, refl, ℕ, ◌<◌, ◌≤◌, List, length, get_or, Option, None, Some, Bor, is_some, IfSome, ◌≡◌, ◌∙◌, true, false, nat_lt, slice_get, ap, sym}
use Rattle.std.specs.Option.{option_copied}
use Rattle.std.proofs.lemmas.List.Sorted.{IsPartitionPoint-from_clause}
use Rattle.inode_versions.specs.declared.attr.Version.{Version}
use Rattle.inode_versions.specs.Histories.{History, earlier_at}
use Rattle.inode_versions.specs.Parts.{begun}
use Rattle.inode_versions.proofs.Order.{all_taken, all_dropped}
use Rattle.inode_versions.proofs.Found.{found, ends_before}
use Rattle.inode_versions.proofs.history.History.earlier_at.Goals as goal

-- what `get` gives
copied : (r : Option (Bor Version)) (xs : List Version) (i : ℕ) → is_some r ≡ nat_lt i (length xs) → IfSome r (λ x. x.now ≡ get_or xs i x.now) → option_copied r ≡ slice_get xs i
copied None xs i some is =
    let past : length xs ≤ i = grind (arith, nat_tests) in
    sym (slice_get_past xs i past)
copied (Some x) xs i some is =
    let within : i < length xs = grind (arith, nat_tests) in
    sym (slice_get_read xs (length xs) i x.now refl within is)

-- the first version that doesn't end before the id
pub returns : goal.returns
returns c =
    let s = c.args.s in
    let inside = c.self.inside in
    let versions = inside.earlier.items in
    let place = c.partition_point-place.result in
    let ends = λ (v : Version). nat_lt v.valid.last.0 s.0 in
    let found_place = c.partition_point-place.ensures.partitioned in
    let point = IsPartitionPoint-from_clause ends c.deref.result.now place found_place (rw c.deref.ensures.value (ends_before 0 versions inside.since.0 s c.self.invariant.earlier)) (λ a r g called. search rules) in
    let front = all_taken (λ v. ends v ≡ true) c.deref.result.now place point.0 in
    let back = all_dropped (λ v. ends v ≡ false) c.deref.result.now place point.1 in
    let read : option_copied c.get.result ≡ slice_get versions place = copied c.get.result c.deref-2.result.now place c.get.ensures.lookup.0 c.get.ensures.lookup.1 ∙ ap (λ vs. slice_get vs place) c.deref-2.ensures.value in
    c.begun.ensures ∙ ap (begun s) read
    ∙ sym (found 0 versions inside.since.0 s place c.self.invariant.earlier (rw c.deref.ensures.value at front) (rw c.deref.ensures.value at back))
    ∙ ap (λ (h : History). earlier_at h.earlier s) c.self.view_is

use Rattle.std.proofs.Common.{rules, ◌≡◌, ◌+◌, ◌∙◌, true, false, nat_lt, List, slice_get, ap, sym, subst}
use Rattle.std.proofs.lemmas.List.Sorted.{IsPartitionPoint-from_clause}
use Rattle.snap_ids.specs.declared.id.TheConstants.{NOSNAP}
use Rattle.dentry_tree.specs.declared.version.Version.{Version}
use Rattle.dentry_tree.specs.Dentries.{Dentry, ino_at, AreBetween}
use Rattle.dentry_tree.specs.Places.{begun}
use Rattle.dentry_tree.proofs.Lists.{all_taken, all_dropped}
use Rattle.dentry_tree.proofs.Held.{found, ends_before}
use Rattle.dentry_tree.proofs.dentry.Dentry.ino_at.Goals as goal

-- the first version that doesn't end before the id
pub returns : goal.returns
returns c =
    let s = c.args.s in
    let vs : List Version = c.deref.result.now in
    let i = c.partition_point-place.result in
    let is : vs ≡ c.args.self.now.versions = c.deref.ensures.value ∙ ap (λ (d : Dentry). d.versions) c.self.view_is in
    let between : AreBetween 0 vs (NOSNAP.0 + 1) = subst (λ ws. AreBetween 0 ws (NOSNAP.0 + 1)) (sym is) c.requires in
    let point = IsPartitionPoint-from_clause (λ (v : Version). nat_lt v.valid.last.0 s.0) vs i c.partition_point-place.ensures.partitioned (ends_before 0 vs (NOSNAP.0 + 1) s between) (λ a r g called. search rules) in
    let place : ino_at s vs ≡ begun s (slice_get vs i) = found 0 vs (NOSNAP.0 + 1) s i between (all_taken (λ v. nat_lt v.valid.last.0 s.0 ≡ true) vs i point.0) (all_dropped (λ v. nat_lt v.valid.last.0 s.0 ≡ false) vs i point.1) in
    c.begun.ensures
    ∙ ap (begun s) (c.version_at.ensures ∙ ap (λ ws. slice_get ws i) (c.deref-2.ensures.value ∙ sym c.deref.ensures.value))
    ∙ sym place ∙ ap (ino_at s) is

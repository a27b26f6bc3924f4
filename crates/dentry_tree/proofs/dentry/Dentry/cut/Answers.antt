use Rattle.std.proofs.Common.{rules, ◌≡◌, ◌≤◌, ◌+◌, ◌∙◌, true, false, nat_le, List, length, take, ap, sym, subst, arith}
use Rattle.std.proofs.Common.{length-take-le}
use Rattle.std.proofs.lemmas.List.Sorted.{IsPartitionPoint-from_clause}
use Rattle.snap_ids.specs.declared.id.TheConstants.{NOSNAP}
use Rattle.dentry_tree.specs.declared.version.Version.{Version}
use Rattle.dentry_tree.specs.Dentries.{Dentry, AreBetween}
use Rattle.dentry_tree.specs.Places.{last_ended, cut_versions, cut_dentry}
use Rattle.dentry_tree.proofs.Lists.{all_taken, all_dropped}
use Rattle.dentry_tree.proofs.Held.{begins_by}
use Rattle.dentry_tree.proofs.Cuts.{last_ended-cut, length-last_ended}
use Rattle.dentry_tree.proofs.dentry.Dentry.cut.Goals as goal

pub returns-clause-cut : goal.returns-clause-cut
returns-clause-cut c =
    let applied = c.args.applied in
    let vs : List Version = c.deref.result.now in
    let i = c.partition_point-count.result in
    let is : vs ≡ c.args.self.now.versions = c.deref.ensures.value ∙ ap (λ (d : Dentry). d.versions) c.self.view_is in
    let between : AreBetween 0 vs (NOSNAP.0 + 1) = subst (λ ws. AreBetween 0 ws (NOSNAP.0 + 1)) (sym is) c.requires in
    let point = IsPartitionPoint-from_clause (λ (v : Version). nat_le v.valid.first.0 applied.0) vs i c.partition_point-count.ensures.partitioned (begins_by 0 vs (NOSNAP.0 + 1) applied between) (λ a r g called. search rules) in
    let cut : last_ended applied (take i vs) ≡ cut_versions applied vs = last_ended-cut applied 0 vs (NOSNAP.0 + 1) i between (all_taken (λ v. nat_le v.valid.first.0 applied.0 ≡ true) vs i point.0) (all_dropped (λ v. nat_le v.valid.first.0 applied.0 ≡ false) vs i point.1) in
    let made : c.end_last.new.versions.items ≡ cut_versions applied c.self.inside.versions.items =
    c.end_last.ensures ∙ ap (last_ended applied) (c.truncate.ensures.items ∙ ap (take i) (sym c.deref.ensures.value)) ∙ cut ∙ ap (cut_versions applied) c.deref.ensures.value in
    ap (λ (ws : List Version). let d : Dentry = record { dir = c.self.inside.dir; name = c.self.inside.name; versions = ws } in d) made
    ∙ ap (cut_dentry applied) c.self.view_is

pub returns-clause-count : goal.returns-clause-count
returns-clause-count c =
    let vs : List Version = c.self.inside.versions.items in
    let i = c.partition_point-count.result in
    let whole : length vs ≡ length c.args.self.now.versions = ap (λ (d : Dentry). length d.versions) c.self.view_is in
    let left : length c.end_last.new.versions.items ≡ length c.truncate.new.self.items = ap length c.end_last.ensures ∙ length-last_ended c.args.applied c.truncate.new.self.items in
    let bound : i ≤ length vs = search (rules, c.partition_point-count.ensures.bound, c.deref.ensures.value) in
    let cut : length c.truncate.new.self.items ≡ i = ap length c.truncate.ensures.items ∙ length-take-le i vs bound in
    omega (arith, c.len-before.ensures, c.self.inside.versions.ok)

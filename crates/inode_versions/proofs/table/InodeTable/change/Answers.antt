use Rattle.std.proofs.Common.{true, ◌≡◌, ℕ, ◌+◌, ◌≤◌, List, Some, IsSome, ◌∙◌, ap, sym, subst, length, arith}
use Rattle.std.specs.Map.{set_value}
use Rattle.std.specs.Ordering.{nat_cmp}
use Rattle.std.specs.BTreeMap.{is_at}
use Rattle.std.proofs.lemmas.Map.Steps.{set_value_same}
use Rattle.inode_versions.specs.Histories.{History, IsHistory}
use Rattle.inode_versions.specs.Parts.{changed}
use Rattle.inode_versions.specs.Table.{history_of, head_of, is_heads}
use Rattle.inode_versions.specs.Fields.{total, AreHistories}
use Rattle.inode_versions.proofs.Order.{changed_history}
use Rattle.inode_versions.proofs.Tables.{puts_set, total-set, some_of_total}
use Rattle.inode_versions.proofs.Steps.{change_at, change_since, histories-set, history_found, there, on_err, begun_by}
use Rattle.inode_versions.proofs.table.InodeTable.change.Goals as goal
use Rattle.inode_versions.proofs.table.InodeTable.change.Goals.{After-from_residual}

pub returns-in_default-clause-at : goal.returns-in_default-clause-at
returns-in_default-clause-at c =
    absurd (there c.self.inside.inodes.entries c.args.ino (sym c.in_default.ensures.value) (subst (λ (t : List (ℕ × History)). IsSome (head_of t c.args.ino)) (sym c.self.view_is) c.requires.there))

pub returns-in_default-clause-since : goal.returns-in_default-clause-since
returns-in_default-clause-since c =
    absurd (there c.self.inside.inodes.entries c.args.ino (sym c.in_default.ensures.value) (subst (λ (t : List (ℕ × History)). IsSome (head_of t c.args.ino)) (sym c.self.view_is) c.requires.there))

pub overflow_sub-self : goal.overflow_sub-self
overflow_sub-self c =
    let es = c.self.inside.inodes.entries in
    let h = c.in-Some.history.now in
    let some : length h.earlier ≤ total es = some_of_total (is_at (nat_cmp c.args.ino.0)) es h (sym c.in-Some.ensures.value) in
    omega (arith, c.self.invariant.earlier, c.earlier-before.ensures)

-- the inodes as they were
same : (c : After-from_residual) → (c.get_mut.follows.lender c.change.new.self).entries ≡ c.self.inside.inodes.entries
same c =
    let test = is_at (nat_cmp c.args.ino.0) in
    (c.get_mut.follows.holds c.change.new.self).0
    ∙ set_value_same test c.self.inside.inodes.entries c.change.new.self (sym c.in-Some.ensures.value ∙ ap Some (sym c.in_err-change.ensures.as_before))

pub invariant_of-self-in_err-change : goal.invariant_of-self-in_err-change
invariant_of-self-in_err-change c = record {
  earlier = c.self.invariant.earlier ∙ ap total (sym (same c));
  histories = subst AreHistories (sym (same c)) c.self.invariant.histories;
}

pub returns-in_err-change-clause-as_before : goal.returns-in_err-change-clause-as_before
returns-in_err-change-clause-as_before c = on_err c.from_residual.result (same c ∙ c.self.view_is)

pub returns-in_err-change-clause-split : goal.returns-in_err-change-clause-split
returns-in_err-change-clause-split c =
    on_err c.from_residual.result
    (subst (λ (t : List (ℕ × History)). is_heads t c.args.ino c.args.follows ≡ true) c.self.view_is
    (begun_by c.self.inside.inodes.entries c.args.ino c.in-Some.history.now c.args.follows (sym c.in-Some.ensures.value) c.in_err-change.ensures.split))

pub invariant_of-self-2 : goal.invariant_of-self-2
invariant_of-self-2 c =
    let es = c.self.inside.inodes.entries in
    let h = c.in-Some.history.now in
    let w : History = changed c.args.follows c.args.attr h in
    let found : history_of es c.args.ino ≡ Some h = sym c.in-Some.ensures.value in
    let some : length h.earlier ≤ total es = some_of_total (is_at (nat_cmp c.args.ino.0)) es h found in
    let made : c.change.new.self ≡ w = c.in_ok-change.ensures.changed in
    let set : (c.get_mut.follows.lender c.change.new.self).entries ≡ set_value (is_at (nat_cmp c.args.ino.0)) es c.change.new.self = (c.get_mut.follows.holds c.change.new.self).0 in
    let all : total (set_value (is_at (nat_cmp c.args.ino.0)) es c.change.new.self) + length h.earlier ≡ total es + length c.change.new.self.earlier = total-set (is_at (nat_cmp c.args.ino.0)) es h c.change.new.self found in
    let same : total (c.get_mut.follows.lender c.change.new.self).entries ≡ total (set_value (is_at (nat_cmp c.args.ino.0)) es c.change.new.self) = ap total set in
    let is : IsHistory w = changed_history c.args.follows c.args.attr h c.requires.below_nosnap (history_found (is_at (nat_cmp c.args.ino.0)) es h c.self.invariant.histories found) in
    record {
      earlier = omega (arith, c.self.invariant.earlier, c.earlier-before.ensures, c.earlier.ensures);
      histories = subst AreHistories (sym set) (histories-set (is_at (nat_cmp c.args.ino.0)) es c.change.new.self (subst IsHistory (sym made) is) c.self.invariant.histories);
    }

pub returns-clause-at : goal.returns-clause-at
returns-clause-at c =
    let es = c.self.inside.inodes.entries in
    let h = c.in-Some.history.now in
    let found : history_of es c.args.ino ≡ Some h = sym c.in-Some.ensures.value in
    let set = (c.get_mut.follows.holds c.change.new.self).0 ∙ ap (set_value (is_at (nat_cmp c.args.ino.0)) es) c.in_ok-change.ensures.changed in
    λ i s upto. rw (← c.self.view_is)
    (change_at es _ c.args.ino c.args.follows c.args.attr c.requires.below_nosnap h found (puts_set es _ c.args.ino h _ set found)
    (history_found (is_at (nat_cmp c.args.ino.0)) es h c.self.invariant.histories found) i s upto)

pub returns-clause-since : goal.returns-clause-since
returns-clause-since c =
    let es = c.self.inside.inodes.entries in
    let h = c.in-Some.history.now in
    let found : history_of es c.args.ino ≡ Some h = sym c.in-Some.ensures.value in
    let set = (c.get_mut.follows.holds c.change.new.self).0 ∙ ap (set_value (is_at (nat_cmp c.args.ino.0)) es) c.in_ok-change.ensures.changed in
    λ i. rw (← c.self.view_is)
    (change_since es _ c.args.ino c.args.follows c.args.attr c.requires.below_nosnap h found (puts_set es _ c.args.ino h _ set found) i)

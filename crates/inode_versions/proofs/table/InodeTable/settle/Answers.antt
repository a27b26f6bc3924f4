use Rattle.std.proofs.Common.{◌≡◌, ℕ, ◌+◌, ◌≤◌, List, Some, IsSome, ◌∙◌, ap, sym, subst, length, arith}
use Rattle.std.specs.Map.{set_value}
use Rattle.std.specs.Ordering.{nat_cmp}
use Rattle.std.specs.BTreeMap.{is_at}
use Rattle.std.proofs.lemmas.Map.Steps.{set_value_same}
use Rattle.inode_versions.specs.Histories.{History, IsHistory}
use Rattle.inode_versions.specs.Parts.{settled}
use Rattle.inode_versions.specs.Table.{history_of, head_of}
use Rattle.inode_versions.specs.Fields.{total, AreHistories}
use Rattle.inode_versions.proofs.Order.{settled_history}
use Rattle.inode_versions.proofs.Tables.{puts_set, total-set, some_of_total}
use Rattle.inode_versions.proofs.Steps.{settle_at, settle_since, above, histories-set, history_found, there, on_err}
use Rattle.inode_versions.proofs.table.InodeTable.settle.Goals as goal
use Rattle.inode_versions.proofs.table.InodeTable.settle.Goals.{After-from_residual}

pub returns-in_default-clause-at : goal.returns-in_default-clause-at
returns-in_default-clause-at c =
    absurd (there c.self.inside.inodes.entries c.args.ino (sym c.in_default.ensures.value) (subst (λ (t : List (ℕ × History)). IsSome (head_of t c.args.ino)) (sym c.self.view_is) c.requires.there))

pub returns-in_default-clause-since : goal.returns-in_default-clause-since
returns-in_default-clause-since c =
    absurd (there c.self.inside.inodes.entries c.args.ino (sym c.in_default.ensures.value) (subst (λ (t : List (ℕ × History)). IsSome (head_of t c.args.ino)) (sym c.self.view_is) c.requires.there))

pub overflow_sub-self : goal.overflow_sub-self
overflow_sub-self c =
    let es = c.self.inside.inodes.entries in
    let h = c.in-Some.history.now in
    let some : length h.earlier ≤ total es = some_of_total (is_at (nat_cmp c.args.ino.0)) es h (sym c.in-Some.ensures.value) in
    omega (arith, c.self.invariant.earlier, c.earlier-before.ensures)

-- the inodes as they were
same : (c : After-from_residual) → (c.get_mut.follows.lender c.settle.new.self).entries ≡ c.self.inside.inodes.entries
same c =
    let test = is_at (nat_cmp c.args.ino.0) in
    (c.get_mut.follows.holds c.settle.new.self).0
    ∙ set_value_same test c.self.inside.inodes.entries c.settle.new.self (sym c.in-Some.ensures.value ∙ ap Some (sym c.in_err-settle.ensures.as_before))

pub invariant_of-self-in_err-settle : goal.invariant_of-self-in_err-settle
invariant_of-self-in_err-settle c = record {
  earlier = c.self.invariant.earlier ∙ ap total (sym (same c));
  histories = subst AreHistories (sym (same c)) c.self.invariant.histories;
}

pub returns-in_err-settle-clause-as_before : goal.returns-in_err-settle-clause-as_before
returns-in_err-settle-clause-as_before c = on_err c.from_residual.result (same c ∙ c.self.view_is)

pub invariant_of-self-2 : goal.invariant_of-self-2
invariant_of-self-2 c =
    let es = c.self.inside.inodes.entries in
    let h = c.in-Some.history.now in
    let w : History = settled c.args.follows c.args.upto c.args.size h in
    let found : history_of es c.args.ino ≡ Some h = sym c.in-Some.ensures.value in
    let some : length h.earlier ≤ total es = some_of_total (is_at (nat_cmp c.args.ino.0)) es h found in
    let made : c.settle.new.self ≡ w = c.in_ok-settle.ensures.settled in
    let set : (c.get_mut.follows.lender c.settle.new.self).entries ≡ set_value (is_at (nat_cmp c.args.ino.0)) es c.settle.new.self = (c.get_mut.follows.holds c.settle.new.self).0 in
    let all : total (set_value (is_at (nat_cmp c.args.ino.0)) es c.settle.new.self) + length h.earlier ≡ total es + length c.settle.new.self.earlier = total-set (is_at (nat_cmp c.args.ino.0)) es h c.settle.new.self found in
    let same : total (c.get_mut.follows.lender c.settle.new.self).entries ≡ total (set_value (is_at (nat_cmp c.args.ino.0)) es c.settle.new.self) = ap total set in
    let is : IsHistory w = settled_history c.args.follows c.args.upto c.args.size (above c.args.follows.0 c.args.upto.0 c.if-le.ensures) h c.requires.below_nosnap (history_found (is_at (nat_cmp c.args.ino.0)) es h c.self.invariant.histories found) in
    record {
      earlier = omega (arith, c.self.invariant.earlier, c.earlier-before.ensures, c.earlier.ensures);
      histories = subst AreHistories (sym set) (histories-set (is_at (nat_cmp c.args.ino.0)) es c.settle.new.self (subst IsHistory (sym made) is) c.self.invariant.histories);
    }

pub returns-clause-at : goal.returns-clause-at
returns-clause-at c =
    let es = c.self.inside.inodes.entries in
    let h = c.in-Some.history.now in
    let test = is_at (nat_cmp c.args.ino.0) in
    let found : history_of es c.args.ino ≡ Some h = sym c.in-Some.ensures.value in
    let set = (c.get_mut.follows.holds c.settle.new.self).0 ∙ ap (set_value test es) c.in_ok-settle.ensures.settled in
    λ i s upto. rw (← c.self.view_is)
    (settle_at es _ c.args.ino c.args.follows c.args.upto c.args.size (above c.args.follows.0 c.args.upto.0 c.if-le.ensures) h found
    (history_found test es h c.self.invariant.histories found) (puts_set es _ c.args.ino h _ set found) i s upto)

pub returns-clause-since : goal.returns-clause-since
returns-clause-since c =
    let es = c.self.inside.inodes.entries in
    let h = c.in-Some.history.now in
    let test = is_at (nat_cmp c.args.ino.0) in
    let found : history_of es c.args.ino ≡ Some h = sym c.in-Some.ensures.value in
    let set = (c.get_mut.follows.holds c.settle.new.self).0 ∙ ap (set_value test es) c.in_ok-settle.ensures.settled in
    λ i. rw (← c.self.view_is)
    (settle_since es _ c.args.ino c.args.follows c.args.upto c.args.size (above c.args.follows.0 c.args.upto.0 c.if-le.ensures) h found
    (history_found test es h c.self.invariant.histories found) (puts_set es _ c.args.ino h _ set found) i)

use Rattle.std.proofs.Common.{◌≡◌, ℕ, List, [], Some, None, cond, ◌∙◌, ap, refl, sym, subst, arith, ◌+◌}
use Rattle.std.specs.Map.{lookup}
use Rattle.std.specs.Ordering.{nat_cmp}
use Rattle.std.specs.BTreeMap.{is_at, insert_entry}
use Rattle.inode_versions.specs.Histories.{History, IsHistory}
use Rattle.inode_versions.specs.Table.{history_of, head_of}
use Rattle.inode_versions.specs.Fields.{total, AreHistories}
use Rattle.inode_versions.proofs.Tables.{Puts, puts_new, since_put, total-insert}
use Rattle.inode_versions.proofs.Steps.{create_at, histories-insert, absent}
use Rattle.inode_versions.proofs.table.InodeTable.create.Goals as goal
use Rattle.inode_versions.proofs.table.InodeTable.create.Goals.{Joined-branch-2}

-- the new inode's history
abbrev new : Joined-branch-2 → History
new c = record { since = c.args.birth; head = c.args.attr; earlier = [] }

-- the table has it
puts : (c : Joined-branch-2) → Puts c.self.inside.inodes.entries c.insert.new.self.entries c.args.ino (new c)
puts c =
    let es = c.self.inside.inodes.entries in
    puts_new es c.insert.new.self.entries c.args.ino (new c)
    (λ q. c.in_ok-insert.ensures.updates.0 q ∙ ap (λ (w : History). cond (is_at (nat_cmp c.args.ino.0) q) (Some w) (lookup (is_at (nat_cmp q)) es)) c.new-history.ensures)

pub invariant_of-self-2 : goal.invariant_of-self-2
invariant_of-self-2 c =
    let es = c.self.inside.inodes.entries in
    let none : history_of es c.args.ino ≡ None = absent es c.args.ino c.self.invariant.histories (subst (λ (t : List (ℕ × History)). head_of t c.args.ino ≡ None) (sym c.self.view_is) c.requires.absent) in
    let made : c.insert.new.self.entries ≡ insert_entry nat_cmp es c.args.ino.0 (new c) = c.in_ok-insert.ensures.entries ∙ ap (insert_entry nat_cmp es c.args.ino.0) c.new-history.ensures in
    let all : total (insert_entry nat_cmp es c.args.ino.0 (new c)) ≡ total es + 0 = total-insert es c.args.ino.0 (new c) none in
    let same : c.self.inside.earlier ≡ total (insert_entry nat_cmp es c.args.ino.0 (new c)) = omega (arith, c.self.invariant.earlier) in
    let is : IsHistory (new c) = record { live = omega (arith, c.requires.below_nosnap); earlier = omega arith } in
    record {
      earlier = same ∙ ap total (sym made);
      histories = subst AreHistories (sym made) (histories-insert es c.args.ino.0 (new c) is c.self.invariant.histories);
    }

pub returns-clause-at : goal.returns-clause-at
returns-clause-at c = λ i s upto. rw (← c.self.view_is) (create_at c.self.inside.inodes.entries c.insert.new.self.entries c.args.ino c.args.birth c.args.attr (puts c) i s upto)

pub returns-clause-since : goal.returns-clause-since
returns-clause-since c = λ i. rw (← c.self.view_is) (since_put c.self.inside.inodes.entries c.insert.new.self.entries c.args.ino (new c) (puts c) i _ refl)

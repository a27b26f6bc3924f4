use Rattle.std.proofs.Common.{ℕ, List, rules, ◌≡◌, ◌+◌, ◌∙◌, ap, sym, subst, arith}
use Rattle.std.proofs.lemmas.Map.Made.{map_same_pairs}
use Rattle.inode_versions.specs.Histories.{History}
use Rattle.inode_versions.specs.Parts.{trimmed}
use Rattle.inode_versions.specs.Table.{trimmed_table, count_unneeded, attr_at}
use Rattle.inode_versions.specs.Fields.{total, AreHistories}
use Rattle.inode_versions.proofs.Steps.{total-trimmed, histories-trimmed, trim_live, trim_head, trim_since, trim_at, all_stay}
use Rattle.inode_versions.proofs.table.InodeTable.trim.Goals as goal
use Rattle.inode_versions.proofs.table.InodeTable.trim.Goals.{After-retain, Then-dropped-eq0}

-- where nothing is dropped, all is as before
same : (c : Then-dropped-eq0) → trimmed_table c.args.live.now c.self.inside.inodes.entries ≡ c.self.inside.inodes.entries
same c =
    all_stay c.args.live.now c.self.inside.inodes.entries
    (ap (count_unneeded c.args.live.now) c.self.view_is ∙ sym c.unneeded-dropped.ensures ∙ c.if-dropped-eq0.true)

pub returns-then-dropped-eq0-clause-table : goal.returns-then-dropped-eq0-clause-table
returns-then-dropped-eq0-clause-table c = subst (λ (t : List (ℕ × History)). t ≡ trimmed_table c.args.live.now t) c.self.view_is (sym (same c))

pub returns-then-dropped-eq0-clause-at : goal.returns-then-dropped-eq0-clause-at
returns-then-dropped-eq0-clause-at c = λ i s.
    rw (← c.self.view_is)
    (ap (λ (t : List (ℕ × History)). attr_at t i s) (sym (same c))
    ∙ trim_at c.args.live.now c.self.inside.inodes.entries i c.self.invariant.histories s)

-- what is needed stays of each inode
kept : (c : After-retain) → c.retain.new.self.entries ≡ trimmed_table c.args.live.now c.self.inside.inodes.entries
kept c = map_same_pairs _ (trimmed c.args.live.now) _ (λ k v b w f' t. search rules) _ _ c.retain.ensures.filtered

pub returns-clause-table : goal.returns-clause-table
returns-clause-table c = kept (goal.at.returns-clause-table c).After-retain ∙ ap (trimmed_table c.args.live.now) c.self.view_is

pub overflow_sub-self : goal.overflow_sub-self
overflow_sub-self c =
    let live = c.args.live.now in
    let es = c.self.inside.inodes.entries in
    let all : total (trimmed_table live es) + count_unneeded live es ≡ total es = total-trimmed live es in
    let whole : count_unneeded live es ≡ count_unneeded live c.args.self.now = ap (count_unneeded live) c.self.view_is in
    omega (arith, c.self.invariant.earlier, c.unneeded-dropped.ensures)

pub invariant_of-self : goal.invariant_of-self
invariant_of-self c =
    let is = kept (goal.at.invariant_of-self c).After-retain in
    let live = c.args.live.now in
    let es = c.self.inside.inodes.entries in
    let all : total (trimmed_table live es) + count_unneeded live es ≡ total es = total-trimmed live es in
    let whole : count_unneeded live es ≡ count_unneeded live c.args.self.now = ap (count_unneeded live) c.self.view_is in
    let left : total c.retain.new.self.entries ≡ total (trimmed_table live es) = ap total is in
    record {
      earlier = omega (arith, c.self.invariant.earlier, c.unneeded-dropped.ensures);
      histories = subst AreHistories (sym is) (histories-trimmed live es c.self.invariant.histories);
    }

pub returns-clause-live : goal.returns-clause-live
returns-clause-live c = λ i s listed. rw (kept (goal.at.returns-clause-live c).After-retain, ← c.self.view_is) (trim_live c.args.live.now c.self.inside.inodes.entries i s listed)

pub returns-clause-head : goal.returns-clause-head
returns-clause-head c = λ i. rw (kept (goal.at.returns-clause-head c).After-retain, ← c.self.view_is) (trim_head c.args.live.now c.self.inside.inodes.entries i c.self.invariant.histories)

pub returns-clause-since : goal.returns-clause-since
returns-clause-since c = λ i. rw (kept (goal.at.returns-clause-since c).After-retain, ← c.self.view_is) (trim_since c.args.live.now c.self.inside.inodes.entries i)

pub returns-clause-at : goal.returns-clause-at
returns-clause-at c = λ i s. rw (kept (goal.at.returns-clause-at c).After-retain, ← c.self.view_is) (trim_at c.args.live.now c.self.inside.inodes.entries i c.self.invariant.histories s)

use Rattle.std.proofs.Common.{rules, ◌≡◌, ◌∙◌, true, nat_le, List, ◌++◌, length, take, drop, ◌-◌, ap, sym, arith, length-drop}
use Rattle.std.proofs.lemmas.List.{append_assoc, take_all}
use Rattle.std.proofs.lemmas.List.Sorted.{IsPartitionPoint-from_clause}
use Rattle.std.specs.List.{flat_map}
use Rattle.inode_versions.specs.declared.attr.Version.{Version}
use Rattle.inode_versions.specs.Histories.{History}
use Rattle.inode_versions.specs.Parts.{settled, settled_parts, head_parts}
use Rattle.inode_versions.proofs.Order.{all_taken, settled_history}
use Rattle.inode_versions.proofs.Found.{ends_by}
use Rattle.inode_versions.proofs.Pieces.{front_stays}
use Rattle.inode_versions.proofs.history.History.settle.Goals as goal
use Rattle.inode_versions.proofs.history.History.settle.Goals.{After-head_settled-self-inside}

-- the history as it was
abbrev old : After-head_settled-self-inside → History
old c = record { since = c.self.inside.since; head = c.self.inside.head; earlier = c.self.inside.earlier.items }

-- the front that isn't touched, the others in their pieces, and the head's
earlier : (c : After-head_settled-self-inside) → c.replace_from.new.versions.items ≡ (settled c.args.follows c.args.upto c.args.size (old c)).earlier
earlier c =
    let follows = c.args.follows in
    let pieces = settled_parts follows c.args.upto c.args.size in
    let versions = c.self.inside.earlier.items in
    let place = c.partition_point-place.result in
    let ends = λ (v : Version). nat_le v.valid.last.0 follows.0 in
    let point = IsPartitionPoint-from_clause ends c.deref.result.now place c.partition_point-place.ensures.partitioned (rw c.deref.ensures.value (ends_by 0 versions c.self.inside.since.0 follows c.self.invariant.earlier)) (λ a r g called. search rules) in
    let front = rw c.deref.ensures.value at (all_taken (λ v. ends v ≡ true) c.deref.result.now place point.0) in
    let rest : take (length c.deref-2.result.now - place) (drop place c.deref-2.result.now) ≡ drop place versions = take_all (length c.deref-2.result.now - place) (drop place c.deref-2.result.now) (simp length-drop (omega arith)) ∙ ap (drop place) c.deref-2.ensures.value in
    let more = head_parts follows c.args.upto c.args.size (old c) in
    c.in_ok-replace_from.ensures.replaced
    ∙ ap (λ (vs : List Version). take place versions ++ vs)
    (c.in_ok-push_head_parts.ensures
    ∙ ap (λ (h : History). c.in_ok-tail.tail.items ++ head_parts follows c.args.upto c.args.size h) (sym c.self.view_is)
    ∙ ap (λ (vs : List Version). vs ++ more) (c.in_ok-tail.ensures ∙ ap (flat_map pieces) rest))
    ∙ sym (append_assoc (take place versions) (flat_map pieces (drop place versions)) more)
    ∙ ap (λ (vs : List Version). vs ++ more) (sym (front_stays follows c.args.upto c.args.size c.requires.less 0 versions c.self.inside.since.0 place c.self.invariant.earlier front))

pub returns-clause-settled : goal.returns-clause-settled
returns-clause-settled c =
    ap (λ (vs : List Version). let h : History = record { since = c.since_settled-self-inside.result; head = c.head_settled-self-inside.result; earlier = vs } in h) (earlier (goal.at.returns-clause-settled c).After-head_settled-self-inside)
    ∙ rw (c.since_settled-self-inside.ensures, c.head_settled-self-inside.ensures) (ap (settled c.args.follows c.args.upto c.args.size) c.self.view_is)

pub invariant_of-self-2 : goal.invariant_of-self-2
invariant_of-self-2 c =
    rw (c.since_settled-self-inside.ensures, c.head_settled-self-inside.ensures, earlier (goal.at.invariant_of-self-2 c).After-head_settled-self-inside)
    (settled_history c.args.follows c.args.upto c.args.size c.requires.less (old (goal.at.invariant_of-self-2 c).After-head_settled-self-inside) c.requires.below c.self.invariant)

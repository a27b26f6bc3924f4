use Rattle.std.proofs.Common.{rules, ◌≡◌, ◌∙◌, ap, List}
use Rattle.std.specs.List.{filter}
use Rattle.std.proofs.lemmas.Fn.{filter_same}
use Rattle.inode_versions.specs.declared.attr.Version.{Version}
use Rattle.inode_versions.specs.Histories.{History, is_needed}
use Rattle.inode_versions.specs.Parts.{trimmed}
use Rattle.inode_versions.proofs.Order.{trimmed_history}
use Rattle.inode_versions.proofs.history.History.trim.Goals as goal
use Rattle.inode_versions.proofs.history.History.trim.Goals.{After-retain}

-- those that are needed stay
kept : (c : After-retain) → c.retain.new.self.items ≡ filter (is_needed c.args.live.now) c.self.inside.earlier.items
kept c = filter_same _ (is_needed c.args.live.now) _ (λ x b q k. search rules) _ _ c.retain.ensures.filtered

pub invariant_of-self : goal.invariant_of-self
invariant_of-self c = rw (kept c) (trimmed_history c.args.live.now (record { since = c.self.inside.since; head = c.self.inside.head; earlier = c.self.inside.earlier.items }) c.self.invariant)

pub returns : goal.returns
returns c =
    ap (λ (vs : List Version). let h : History = record { since = c.self.inside.since; head = c.self.inside.head; earlier = vs } in h) (kept c)
    ∙ ap (trimmed c.args.live.now) c.self.view_is

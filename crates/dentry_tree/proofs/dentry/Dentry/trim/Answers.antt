use Rattle.std.proofs.Common.{rules, ◌≡◌, ◌∙◌, ap, List}
use Rattle.std.specs.List.{filter}
use Rattle.std.proofs.lemmas.Fn.{filter_same}
use Rattle.dentry_tree.specs.declared.version.Version.{Version}
use Rattle.dentry_tree.specs.Dentries.{Dentry}
use Rattle.dentry_tree.specs.Places.{is_needed, trimmed}
use Rattle.dentry_tree.proofs.dentry.Dentry.trim.Goals as goal
use Rattle.dentry_tree.proofs.dentry.Dentry.trim.Goals.{After-retain}

-- those that are needed stay
kept : (c : After-retain) → c.retain.new.self.items ≡ filter (is_needed c.args.live.now) c.self.inside.versions.items
kept c = filter_same _ (is_needed c.args.live.now) _ (λ x b q k. search rules) _ _ c.retain.ensures.filtered

pub returns : goal.returns
returns c =
    ap (λ (vs : List Version). let d : Dentry = record { dir = c.self.inside.dir; name = c.self.inside.name; versions = vs } in d) (kept c)
    ∙ ap (trimmed c.args.live.now) c.self.view_is

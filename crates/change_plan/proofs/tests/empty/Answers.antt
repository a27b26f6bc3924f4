use Rattle.std.proofs.Common.{List, sym, subst}
use Rattle.std.specs.List.{AllByRecursion}
use Rattle.snap_ids.specs.declared.id.TheConstants.{NOSNAP}
use Rattle.plain_tree.specs.State.{Entry}
use Rattle.realm_story.specs.Family.{start}
use Rattle.rename_split.specs.Plans.{IsPlaced, live}
use Rattle.change_plan.proofs.tests.empty.Goals as goal

pub returns : goal.returns
returns c = record {
  family = start;
  stands = c.in_ok-realms.ensures.story;
  placed = subst (λ (entries : List Entry). AllByRecursion (IsPlaced (live c.in_ok-names.names).kind start) entries) (sym (c.in_ok-names.ensures.entries NOSNAP)) tt;
}

use Rattle.std.proofs.Common.{◌≡◌, Option, Some, cond, ◌∙◌, sym, ap, arith}
use Rattle.std.specs.Option.{option_map}
use Rattle.snap_ids.specs.declared.id.TheConstants.{NOSNAP}
use Rattle.plain_journal.specs.Example.{inode, snap}
use Rattle.inode_versions.specs.declared.attr.Attr.{Attr}
use Rattle.inode_versions.specs.Table.{attr_at}
use Rattle.journal_shapes.specs.Calls.{file, in_mode}
use Rattle.journal_shapes.proofs.examples.calls_count_above_the_last_id.Goals as goal

-- src/examples.rt
pub returns-clause-not_at_the_last : goal.returns-clause-not_at_the_last
returns-clause-not_at_the_last c old new call = call.at (inode 2) (snap 3) (omega arith)

pub returns-clause-above_it : goal.returns-clause-above_it
returns-clause-above_it c old new call = call.at (inode 2) (snap 4) (omega arith)

pub returns-clause-mode_above_it : goal.returns-clause-mode_above_it
returns-clause-mode_above_it c old new call was heads =
    call.2.at (inode 1) (snap 4) (omega arith)
    ∙ ap (λ b. cond b (Some (in_mode 448 call.0)) (attr_at old (inode 1) (snap 4))) heads
    ∙ same (sym call.1 ∙ was)
  where
    same : Some call.0 ≡ Some (file 384) → Some (in_mode 448 call.0) ≡ Some (file 448)
    same is = ap (λ (found : Option Attr). option_map (in_mode 448) found) is

pub returns-clause-size_now : goal.returns-clause-size_now
returns-clause-size_now c old new call = call.at (inode 1) NOSNAP (omega arith)

use Rattle.std.proofs.Common.{◌≡◌, true, false, sym, ap, ◌∙◌}
use Rattle.plain_tree.specs.Change.{entry}
use Rattle.rename_split.specs.Plans.{live}
use Rattle.rename_split.specs.Paths.{last_name}
use Rattle.rename_split.proofs.Ends.{unlink_is, unlinked_is}
use Rattle.rename_split.proofs.Under.{found_there, found_no_root, stray_there, stray_outside, stray_apart}
use Rattle.rename_split.proofs.plan.plan_unlink.Goals as goal

pub fate_of-fate-requires-clause-there : goal.fate_of-fate-requires-clause-there
fate_of-fate-requires-clause-there c = found_there (live c.args.tree.now) c.args.realms.now c.requires.family c.requires.stands c.requires.placed c.in_ok-old.old.dir (last_name c.args.path.now) c.in_ok-old.old.ino c.in_ok-old.ensures.named

pub fate_of-fate-requires-clause-no_root : goal.fate_of-fate-requires-clause-no_root
fate_of-fate-requires-clause-no_root c = found_no_root (live c.args.tree.now) c.args.realms.now c.requires.family c.requires.stands c.requires.placed c.in_ok-old.old.dir (last_name c.args.path.now) c.in_ok-old.old.ino c.in_ok-old.ensures.named

pub fate_of-fate-requires-clause-dir : goal.fate_of-fate-requires-clause-dir
fate_of-fate-requires-clause-dir c = record { there = stray_there (live c.args.tree.now) c.args.realms.now c.requires.family c.requires.stands c.requires.placed; outside = stray_outside (live c.args.tree.now) c.args.realms.now c.requires.family c.requires.stands c.requires.placed }

pub fate_of-fate-requires-clause-apart : goal.fate_of-fate-requires-clause-apart
fate_of-fate-requires-clause-apart c = λ out. stray_apart (live c.args.tree.now) c.args.realms.now c.requires.family c.requires.stands c.requires.placed c.in_ok-old.old.ino (found_no_root (live c.args.tree.now) c.args.realms.now c.requires.family c.requires.stands c.requires.placed c.in_ok-old.old.dir (last_name c.args.path.now) c.in_ok-old.old.ino c.in_ok-old.ensures.named out)

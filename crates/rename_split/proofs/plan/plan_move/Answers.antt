use Rattle.std.proofs.Common.{◌≡◌, Ok, ap, ◌∙◌}
use Rattle.plain_tree.specs.Change.{entry}
use Rattle.rename_split.specs.Plans.{live}
use Rattle.rename_split.specs.Paths.{last_name}
use Rattle.rename_split.proofs.Ends.{move_is, moved_is}
use Rattle.rename_split.proofs.Under.{found_there, found_no_root}
use Rattle.rename_split.proofs.plan.plan_move.Goals as goal

pub fate_of-fate-requires-clause-there : goal.fate_of-fate-requires-clause-there
fate_of-fate-requires-clause-there c = found_there (live c.args.tree.now) c.args.realms.now c.requires.family c.requires.stands c.requires.placed c.in_ok-old.old.dir (last_name c.args.source.now) c.in_ok-old.old.ino c.in_ok-old.ensures.named

pub fate_of-fate-requires-clause-no_root : goal.fate_of-fate-requires-clause-no_root
fate_of-fate-requires-clause-no_root c = found_no_root (live c.args.tree.now) c.args.realms.now c.requires.family c.requires.stands c.requires.placed c.in_ok-old.old.dir (last_name c.args.source.now) c.in_ok-old.old.ino c.in_ok-old.ensures.named

pub fate_of-fate-requires-clause-apart : goal.fate_of-fate-requires-clause-apart
fate_of-fate-requires-clause-apart c = λ out. c.in_ok-dir.ensures.apart

pub returns-clause-planned : goal.returns-clause-planned
returns-clause-planned c = λ family stands.
    move_is (live c.args.tree.now) family c.args.source.now c.args.target.now (entry c.in_ok-old.old.dir (last_name c.args.source.now) c.in_ok-old.old.ino) (entry c.in_ok-dir.dir (last_name c.args.target.now) c.in_ok-old.old.ino) c.in_ok-not_root.ensures.named c.in_ok-not_root-2.ensures.named c.in_ok-old.ensures.found c.in_ok-dir.ensures.found
    ∙ ap Ok (moved_is family (entry c.in_ok-old.old.dir (last_name c.args.source.now) c.in_ok-old.old.ino) (entry c.in_ok-dir.dir (last_name c.args.target.now) c.in_ok-old.old.ino) c.fate_of-fate.result.opens c.fate_of-fate.result.global (c.fate_of-fate.ensures.opens family stands) (c.fate_of-fate.ensures.global family stands))

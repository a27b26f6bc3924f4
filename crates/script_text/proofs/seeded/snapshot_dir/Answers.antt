use Rattle.std.proofs.Common.{◌∙◌, arith}
use Rattle.script_text.proofs.Loads.{path_is, names_of_snapshot}
use Rattle.script_text.proofs.seeded.snapshot_dir.Goals as goal

pub returns : goal.returns
returns c = path_is c.path_at.result 46 _ _ _ (c.as_str.ensures.value ∙ c.in_ok-text.ensures.ok) (names_of_snapshot c.args.round (omega arith)) c.path_at.ensures

use Rattle.std.proofs.Common.{◌∙◌, arith}
use Rattle.script_text.proofs.Loads.{path_is, names_of_snapshot_file}
use Rattle.script_text.proofs.seeded.snapshot_file.Goals as goal

pub returns : goal.returns
returns c = path_is c.path_at.result 46 _ _ _ (c.as_str.ensures.value ∙ c.in_ok-text.ensures.ok) (names_of_snapshot_file c.args.round c.args.client (omega arith) (omega arith)) c.path_at.ensures

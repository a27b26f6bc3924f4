use Rattle.std.proofs.Common.{◌∙◌, arith}
use Rattle.script_text.proofs.Loads.{path_is, names_of_dir}
use Rattle.script_text.proofs.seeded.client_dir.Goals as goal

pub returns : goal.returns
returns c = path_is c.path_at.result 99 _ _ _ (c.as_str.ensures.value ∙ c.in_ok-text.ensures.ok) (names_of_dir c.args.client (omega arith)) c.path_at.ensures

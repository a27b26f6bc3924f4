use Rattle.std.proofs.Common.{ℕ, rules, not}
use Rattle.std.proofs.lemmas.Fn.{filter_same}
use Rattle.snap_ids.specs.declared.id.Ino.{Ino}
use Rattle.mds_state.specs.Parts.{is_mark}
use Rattle.mds_state.proofs.tenures.unmark.Goals as goal

pub returns : goal.returns
returns c =
    filter_same _ (λ (mark : ℕ × Ino). not (is_mark c.args.client c.args.ino mark)) _ (λ x b q k. search rules) _ _ c.retain.ensures.filtered

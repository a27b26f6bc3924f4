use Rattle.std.proofs.Common.{ℕ, rules, not, eqb}
use Rattle.std.proofs.lemmas.Fn.{filter_same}
use Rattle.snap_ids.specs.declared.id.Ino.{Ino}
use Rattle.mds_state.proofs.tenures.unmark_all.Goals as goal

pub returns : goal.returns
returns c =
    filter_same _ (λ (mark : ℕ × Ino). not (eqb mark.0 c.args.client)) _ (λ x b q k. search rules) _ _ c.retain.ensures.filtered

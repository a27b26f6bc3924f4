use Rattle.std.proofs.Common.{ap, sym, ◌∙◌}
use Rattle.held_files.specs.Files.{is_empty}
use Rattle.cap_state.specs.Table.{Holding}
use Rattle.mds_turns.proofs.Dead.{empty_map}
use Rattle.mds_turns.proofs.collect.is_free.Goals as goal

pub returns : goal.returns
returns c = λ s taken stands.
    c.are_none.ensures ∙ sym (empty_map (λ (h : Holding). h.0) c.holders_of.result.now) ∙ ap is_empty (c.holders_of.ensures s taken stands)

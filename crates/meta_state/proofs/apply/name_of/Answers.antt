use Rattle.std.proofs.Common.{ℕ, List, Some, ap, sym, ◌∙◌}
use Rattle.meta_state.proofs.apply.name_of.Goals as goal

-- src/apply.rt
pub returns : goal.returns
returns c family stands = c.snap_with-named.ensures family stands ∙ ap (λ (n : List ℕ). Some (c.snap_with-named.result.0, n)) (sym c.in_ok-name.ensures)

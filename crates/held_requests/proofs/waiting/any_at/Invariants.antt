use Rattle.std.proofs.Common.{◌≡◌, drop}
use Rattle.std.specs.List.{list_any}
use Rattle.slab.specs.Slab.{get}
use Rattle.held_requests.specs.Kept.{is_at_barrier}
use Rattle.held_requests.proofs.waiting.any_at.Given as goal

abbrev pub invariant-loop-key : goal.invariant-loop-key
invariant-loop-key l = list_any (λ key. is_at_barrier l.number (get l.asked key)) l.keys ≡ list_any (λ key. is_at_barrier l.number (get l.asked key)) (drop l.key-index l.keys)

use Rattle.std.proofs.Common.{◌≡◌, take, map}
use Rattle.object_clones.specs.declared.object.Saved.{Saved}
use Rattle.object_clones.proofs.object.Object.listed_clones.Given as goal

abbrev pub invariant-loop-saved : goal.invariant-loop-saved
invariant-loop-saved l = l.clones ≡ map (λ (saved : Saved). (saved.id, saved.ids.items)) (take l.saved-index l.saved-items)

use Rattle.std.proofs.Common.{◌≡◌, nat_le, take, None}
use Rattle.std.specs.List.{find}
use Rattle.object_clones.specs.declared.object.Saved.{Saved}
use Rattle.object_clones.proofs.object.Object.clone_at.Given as goal

abbrev pub invariant-loop-saved : goal.invariant-loop-saved
invariant-loop-saved l = find (λ (saved : Saved). nat_le l.s.0 saved.id.0) (take l.saved-index l.saved-items) ≡ None

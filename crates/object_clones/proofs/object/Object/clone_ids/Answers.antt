use Rattle.std.proofs.Common.{◌≡◌, false, List, subst}
use Rattle.snap_ids.specs.declared.id.SnapId.{SnapId}
use Rattle.snap_ids.specs.Context.{is_listed}
use Rattle.object_clones.specs.Objects.{next, plain}
use Rattle.object_clones.proofs.Noted.{left_changed}
use Rattle.object_clones.proofs.object.Object.clone_ids.Goals as goal

pub returns-then-is_some : goal.returns-then-is_some
returns-then-is_some c = λ seq s e is.
    let P : List SnapId → Type 0 = λ ids. is_listed s ids ≡ false in
    left_changed s seq (next c.args.change.now) (plain c.args.self.now) (subst P c.deref.ensures.value e) is

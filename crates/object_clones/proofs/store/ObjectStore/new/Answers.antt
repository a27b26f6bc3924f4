use Rattle.std.proofs.Common.{[], map, sym, subst, arith}
use Rattle.object_clones.specs.Store.{Shown, plain_file}
use Rattle.object_clones.specs.Stands.{StandsFor}
use Rattle.object_clones.proofs.Taken.{new_stands}
use Rattle.object_clones.proofs.store.ObjectStore.new.Goals as goal

pub returns : goal.returns
returns c =
    let P : Shown → Type 0 = λ v. StandsFor v c.args.object [] in
    subst P (sym (λ i. record { size = c.args.object; files = map (λ e. (e.0, plain_file e.1)) (c.new.ensures.empty i); purged = c.new-2.ensures i }))
    (new_stands c.args.object (omega arith))

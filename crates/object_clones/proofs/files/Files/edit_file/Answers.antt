use Rattle.std.proofs.Common.{◌≡◌, Option, Some, refl, sym, subst}
use Rattle.std.specs.Option.{IsSome}
use Rattle.std.specs.Ordering.{nat_cmp}
use Rattle.std.specs.BTreeMap.{get}
use Rattle.object_clones.specs.declared.file.File.{File}
use Rattle.object_clones.specs.declared.files.Files.{Files}
use Rattle.object_clones.proofs.Covered.{covers_edited}
use Rattle.object_clones.proofs.files.Files.edit_file.Goals as goal

pub returns-in-Some-clause-covers : goal.returns-in-Some-clause-covers
returns-in-Some-clause-covers c =
    let was : get nat_cmp c.args.self.now.files c.args.ino.0 ≡ Some c.in-Some.file.now = sym c.in-Some.ensures.value in
    let S : Option File → Type 0 = λ o. IsSome o in
    let new : Files = record { files = c.get_mut.follows.lender c.edit.new.self; listing = c.edit.new.listing } in
    covers_edited c.args.self.now new c.args.ino.0 c.in-Some.file.now c.edit.new.self was
    ((c.get_mut.follows.holds c.edit.new.self).3 (subst S (sym was) refl)).0 c.edit.ensures.grows c.edit.ensures.covers

use Rattle.object_clones.proofs.Covered.{covers_same}
use Rattle.object_clones.proofs.files.Files.edit.Goals as goal

pub returns-clause-covers : goal.returns-clause-covers
returns-clause-covers c = λ covers. c.edit_file.ensures.covers (covers_same c.args.self.now c.make_file.new.self c.make_file.ensures.listing c.make_file.ensures.same covers)

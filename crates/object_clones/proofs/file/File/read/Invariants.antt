use Rattle.std.proofs.Common.{◌≡◌, ◌*◌, min}
use Rattle.object_clones.specs.Files.{object_in, bytes_read}
use Rattle.object_clones.proofs.file.File.read.Given as goal

abbrev pub invariant-loop-index : goal.invariant-loop-index
invariant-loop-index l = l.out.items ≡ bytes_read l.object (object_in l.self) (min (l.index * l.object) l.size) l.s

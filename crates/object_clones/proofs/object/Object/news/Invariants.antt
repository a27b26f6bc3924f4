use Rattle.std.proofs.Common.{◌≡◌, take}
use Rattle.object_clones.specs.Purged.{has}
use Rattle.object_clones.specs.Objects.{news}
use Rattle.object_clones.proofs.object.Object.news.Given as goal

abbrev pub invariant-loop-id : goal.invariant-loop-id
invariant-loop-id l = l.ids.items ≡ news (has l.purged) l.self.seq.0 (record { seq = l.context.seq; ids = take l.id-index l.id-items })

use Rattle.std.proofs.Common.{◌≡◌}
use Rattle.std.specs.Option.{option_map}
use Rattle.snap_ids.specs.declared.id.Ino.{Ino}
use Rattle.client_realms.specs.Contexts.{held_in}
use Rattle.client_realms.specs.Fresh.{after}
use Rattle.client_realms.proofs.realms.ClientRealms.put_all.Given as goal

abbrev pub invariant-loop-ino : goal.invariant-loop-ino
invariant-loop-ino l = (f : Ino) → option_map (after f l.ino-iterator.rest.items) (held_in l.self f) ≡ option_map (after f l.fn.fresh.items) (held_in l.fn.self f)

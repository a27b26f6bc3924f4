use Rattle.std.proofs.Common.{◌≡◌, [], ◌∷◌, ◌++◌, true, subst}
use Rattle.journal_shapes.specs.Past.{flushes_are_past}
use Rattle.step_table.specs.World.{World}
use Rattle.run_laws.specs.Moments.{steps_of}
use Rattle.world_laws.proofs.Steps.{one_more, world_one_more}
use Rattle.world_laws.proofs.next.flushes_stay_past.Goals as goal

pub returns : goal.returns
returns c script history legal step ino =
    subst (λ (w : World). flushes_are_past w.server.entries ino ≡ true) (world_one_more script history step legal.rows)
    (c.every_flush_is_past.ensures.entered script (one_more script history step) (c.runs_are_legal.ensures script (steps_of history ++ step ∷ [])) ino)

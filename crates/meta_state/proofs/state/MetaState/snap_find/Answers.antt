use Rattle.std.proofs.Common.{◌∙◌}
use Rattle.meta_state.proofs.Finds.{found_ok, found_err}
use Rattle.meta_state.proofs.state.MetaState.snap_find.Goals as goal

-- src/find.rt
pub returns-in-Ok : goal.returns-in-Ok
returns-in-Ok c = record {
  found = λ entries stands.
      found_ok c.args.self.now entries stands c.args.dir c.requires.directory c.args.name.now c.args.below.now c.in-Some.snap c.in-Ok.ino c.was_at.result (c.snap_named.ensures entries stands ∙ c.in-Some.is) (c.walk.ensures ∙ c.in-Ok.is) c.was_at.ensures;
}

pub returns-in-Err : goal.returns-in-Err
returns-in-Err c = record {
  found = λ entries stands.
      found_err c.args.self.now entries stands c.args.dir c.requires.directory c.args.name.now c.args.below.now c.in-Some.snap c.in-Err.refusal (c.snap_named.ensures entries stands ∙ c.in-Some.is) (c.walk.ensures ∙ c.in-Err.is);
}

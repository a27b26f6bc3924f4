use Rattle.tree_tests.proofs.Flushed.{flushed, is_flushed, has_directory}
use Rattle.tree_tests.proofs.states.flushed.Goals as goal

-- src/states.rt
pub after-requires : goal.after-requires
after-requires c = is_flushed c.in_ok-a.a c.in_ok-f.f c.in_ok-s.s c.in_ok-again.again c.in_ok-a.ensures.spelled c.in_ok-f.ensures.spelled c.in_ok-s.ensures.spelled c.in_ok-again.ensures.spelled

pub returns : goal.returns
returns c = record {
  state = record { entries = flushed c.in_ok-a.a c.in_ok-f.f c.in_ok-s.s c.in_ok-again.again; stands = c.in_ok-state.ensures };
  directory =
      has_directory c.in_ok-a.a c.in_ok-f.f c.in_ok-s.s c.in_ok-again.again c.in_ok-a.ensures.spelled c.in_ok-f.ensures.spelled c.in_ok-s.ensures.spelled c.in_ok-again.ensures.spelled c.in_ok-state.state c.in_ok-state.ensures;
}

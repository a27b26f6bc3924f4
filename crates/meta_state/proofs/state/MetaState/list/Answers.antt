use Rattle.std.proofs.Common.{◌∙◌, Ok, ap, subst}
use Rattle.plain_journal.specs.Answers.{found}
use Rattle.meta_state.specs.Queries.{IsReached, IsTold}
use Rattle.meta_state.proofs.Answers.{list_live, list_there, snaps_directory}
use Rattle.meta_state.proofs.state.MetaState.list.Goals as goal

-- src/answer.rt
pub list_snaps-requires : goal.list_snaps-requires
list_snaps-requires c =
    let is = c.requires.state in record {
      directory = snaps_directory c.args.self.now is.entries is.stands c.args.path.now c.in-Ok-Snaps.dir
          (subst (IsReached is.entries (found is.entries c.args.path.now)) (c.in-Ok-Snaps.is ∙ ap (λ r. Ok r) c.in-Ok-Snaps.field-0-is) (c.reach.ensures is.entries is.stands));
    }

pub returns-in-Ok-Live : goal.returns-in-Ok-Live
returns-in-Ok-Live c entries stands =
    subst (IsTold c.list_at.result)
    (list_live c.args.self.now entries stands c.args.path.now c.in-Ok-Live.ino
    (subst (IsReached entries (found entries c.args.path.now)) (c.in-Ok-Live.is ∙ ap (λ r. Ok r) c.in-Ok-Live.field-0-is) (c.reach.ensures entries stands)))
    c.list_at.ensures

pub returns-in-Ok-InSnap : goal.returns-in-Ok-InSnap
returns-in-Ok-InSnap c entries stands =
    subst (IsTold c.list_at-in-Ok-InSnap.result)
    (list_there c.args.self.now entries stands c.args.path.now c.in-Ok-InSnap.found
    (subst (IsReached entries (found entries c.args.path.now)) (c.in-Ok-InSnap.is ∙ ap (λ r. Ok r) c.in-Ok-InSnap.field-0-is) (c.reach.ensures entries stands)))
    c.list_at-in-Ok-InSnap.ensures

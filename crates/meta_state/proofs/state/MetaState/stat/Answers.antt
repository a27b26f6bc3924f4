use Rattle.std.proofs.Common.{◌∙◌, Ok, ap, subst}
use Rattle.plain_journal.specs.Answers.{found}
use Rattle.meta_state.specs.Queries.{IsReached}
use Rattle.meta_state.proofs.Answers.{stat_live, stat_snaps}
use Rattle.meta_state.proofs.state.MetaState.stat.Goals as goal

-- src/answer.rt
pub returns-in-Ok-Live : goal.returns-in-Ok-Live
returns-in-Ok-Live c entries stands past =
    c.live_stat.ensures
    ∙ stat_live c.args.self.now entries stands c.args.path.now c.in-Ok-Live.ino c.now_at.result
    (subst (IsReached entries (found entries c.args.path.now)) (c.in-Ok-Live.is ∙ ap (λ r. Ok r) c.in-Ok-Live.field-0-is) (c.reach.ensures entries stands))
    c.now_at.ensures

pub returns-in-Ok-Snaps : goal.returns-in-Ok-Snaps
returns-in-Ok-Snaps c entries stands past =
    c.stat_of.ensures
    ∙ stat_snaps c.args.self.now entries stands c.args.path.now c.in-Ok-Snaps.dir c.now_at-in-Ok-Snaps.result
    (subst (IsReached entries (found entries c.args.path.now)) (c.in-Ok-Snaps.is ∙ ap (λ r. Ok r) c.in-Ok-Snaps.field-0-is) (c.reach.ensures entries stands))
    c.now_at-in-Ok-Snaps.ensures

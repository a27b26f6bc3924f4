use Rattle.std.proofs.Common.{Some, subst}
use Rattle.plain_types.specs.declared.answer.Answer.{Answer}
use Rattle.plain_journal.specs.Answers.{found}
use Rattle.step_table.specs.Requests.{look_at}
use Rattle.mds_asks.specs.Treated.{IsTreated}
use Rattle.mds_asks.proofs.queries.look.Goals as goal

pub sight-requires : goal.sight-requires
sight-requires c = let is = c.requires in record { taken = Some c.args.asked.now; state = is.state; stands = is.stands }

pub answer_to-requires : goal.answer_to-requires
answer_to-requires c = let is = c.requires in record { taken = Some c.args.asked.now; state = is.state; stands = is.stands }

pub returns-clause-acts : goal.returns-clause-acts
returns-clause-acts c = λ s stands past known.
    let a = c.args.asked.now in
    subst (λ (x : Answer). IsTreated c.look_at.new.state a s (look_at s a x (found s.entries c.args.path.now)) c.in_ok-treated.treated)
    (c.in_ok-answer.ensures s (Some a) stands known)
    (c.in_ok-treated.ensures.acts s c.args.path.now stands (c.in_ok-sight.ensures s (Some a) stands past))

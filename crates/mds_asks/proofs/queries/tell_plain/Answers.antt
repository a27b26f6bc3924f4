use Rattle.std.proofs.Common.{[], ◌∷◌, Some, subst}
use Rattle.plain_types.specs.declared.answer.Answer.{Answer}
use Rattle.step_table.specs.Acts.{AnswerIt}
use Rattle.mds_asks.specs.Treated.{IsTreated}
use Rattle.mds_asks.proofs.queries.tell_plain.Goals as goal

pub answer_to-requires : goal.answer_to-requires
answer_to-requires c = let is = c.requires in record { taken = Some c.args.asked.now; state = is.state; stands = is.stands }

pub returns-clause-acts : goal.returns-clause-acts
returns-clause-acts c = λ s stands known.
    let a = c.args.asked.now in
    subst (λ (x : Answer). IsTreated c.tell.new.state a s (AnswerIt x ∷ []) c.in_ok-treated.treated)
    (c.in_ok-answer.ensures s (Some a) stands known) (c.in_ok-treated.ensures.acts s stands)

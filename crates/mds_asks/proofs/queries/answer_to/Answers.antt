use Rattle.mds_asks.proofs.queries.answer_to.Goals as goal

pub answer_to-requires : goal.answer_to-requires
answer_to-requires c = record { state = c.requires }

pub returns : goal.returns
returns c = λ s taken stands past. c.in_ok-answer.ensures.answered s taken stands past

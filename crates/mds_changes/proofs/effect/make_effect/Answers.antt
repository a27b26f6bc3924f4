use Rattle.std.proofs.Common.{◌≡◌, None, ◌∙◌, ap, subst}
use Rattle.plain_types.specs.declared.answer.Answer.{Answer}
use Rattle.plain_tree.specs.Line.{answer_to as answer_of}
use Rattle.step_table.specs.Acts.{act, AnswerIt, MakeEffect}
use Rattle.mds_state.specs.Stands.{StandsFor}
use Rattle.mds_changes.specs.Decided.{answer_in}
use Rattle.mds_changes.proofs.effect.make_effect.Goals as goal

pub returns-clause-table : goal.returns-clause-table
returns-clause-table c = λ s made stands may says own.
    let said : c.answer_to-said.result ≡ answer_of made = c.answer_to-said.ensures ∙ ap answer_in says in
    subst (λ (a : Answer). StandsFor c.answer.new.self None (act (act s (MakeEffect made)) (AnswerIt a))) said
    (c.in_ok-answer.ensures.table (act s (MakeEffect made)) (c.in_ok-effect.ensures.table s c.args.asked.now made stands may says own))

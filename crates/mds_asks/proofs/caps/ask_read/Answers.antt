use Rattle.std.proofs.Common.{ℕ, ◌≤◌, Bool, false, Option, None, Some, refl, sym, subst, ◌∙◌}
use Rattle.snap_ids.specs.declared.values.Mode.TheVariants.{Read}
use Rattle.plain_types.specs.declared.answer.Answer.{Answer}
use Rattle.plain_types.specs.declared.answer.Answer.TheVariants.{FoundLive}
use Rattle.step_table.specs.Acts.{AnswerIt, act, acts}
use Rattle.step_table.specs.Capabilities.{give}
use Rattle.mds_state.specs.Stands.{StandsFor}
use Rattle.mds_asks.specs.Others.{IsAsked, after_asked}
use Rattle.mds_asks.proofs.Given.{free, refused}
use Rattle.mds_asks.proofs.caps.ask_read.Goals as goal

pub answer-requires : goal.answer-requires
answer-requires c =
    let is = c.requires in
    record {
      from_one = is.fit.from_one;
      upto = subst (λ (n : ℕ). c.args.asked.now.client ≤ n) (sym (c.in_ok-given.ensures.clients ∙ is.stands.clients)) is.fit.upto;
    }

pub returns-in-None-clause-acts : goal.returns-in-None-clause-acts
returns-in-None-clause-acts c = λ s stands made.
    let a = c.args.asked.now in
    refused c.ask.new.state a s c.args.ino Read (AnswerIt (FoundLive c.args.ino c.args.perm c.args.size false))
    (subst (λ (g : Option Bool). IsAsked g s a.client c.args.ino Read) c.in-None.is (c.in_ok-given.ensures.answer s (Some a) stands))
    (subst (λ (g : Option Bool). StandsFor c.ask.new.state (Some a) (after_asked g s a.client c.args.ino Read)) c.in-None.is (c.in_ok-given.ensures.table s (Some a) stands made))

pub returns-in_ok-answer-in-Some-clause-acts : goal.returns-in_ok-answer-in-Some-clause-acts
returns-in_ok-answer-in-Some-clause-acts c = λ s stands made.
    let a = c.args.asked.now in
    free c.answer.new.self a s c.args.ino Read (AnswerIt (FoundLive c.args.ino c.args.perm c.args.size false)) c.in-Some.opened
    (subst (λ (g : Option Bool). IsAsked g s a.client c.args.ino Read) c.in-Some.is (c.in_ok-given.ensures.answer s (Some a) stands))
    refl
    (subst (λ (x : Answer). StandsFor c.answer.new.self None (act (acts s (give s a.client c.args.ino Read)) (AnswerIt x))) c.found_live.ensures
    (c.in_ok-answer-in-Some.ensures.table (acts s (give s a.client c.args.ino Read))
    (subst (λ (g : Option Bool). StandsFor c.ask.new.state (Some a) (after_asked g s a.client c.args.ino Read)) c.in-Some.is (c.in_ok-given.ensures.table s (Some a) stands made))))

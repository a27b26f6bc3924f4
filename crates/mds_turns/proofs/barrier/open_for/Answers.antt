use Rattle.std.proofs.Common.{◌≤◌, ℕ, None, Option, subst, sym}
use Rattle.step_table.specs.Acts.{act, AnswerIt, TakeHeld}
use Rattle.step_table.specs.ServerState.{Asked}
use Rattle.plain_types.specs.declared.answer.Answer.TheVariants.{Done}
use Rattle.mds_state.specs.Stands.{StandsFor}
use Rattle.mds_asks.proofs.Acting.{stands_so}
use Rattle.mds_turns.proofs.Standing.{none_taken, taken_of}
use Rattle.mds_turns.proofs.barrier.open_for.Goals as goal

pub answer-requires : goal.answer-requires
answer-requires c =
    let at = c.requires.state in
    let same = taken_of c.take_held.new.self at.state c.args.client c.take_held.result c.in-Some.asked c.in-Some.is (c.take_held.ensures.table at.state at.state.hand at.stands) in
    record {
      from_one = subst (λ (n : ℕ). 1 ≤ n) (sym same) c.requires.from_one;
      upto = subst (λ (n : ℕ). n ≤ c.take_held.new.self.clients) (sym same) (subst (λ (n : ℕ). c.args.client ≤ n) (sym c.take_held.ensures.clients) c.requires.upto);
    }

pub returns-in-None-clause-table : goal.returns-in-None-clause-table
returns-in-None-clause-table c = λ s stands.
    none_taken c.take_held.new.self s c.args.client c.take_held.result c.in-None.is (c.take_held.ensures.table s s.hand stands)

pub returns-in_ok-answer-in-Some-clause-table : goal.returns-in_ok-answer-in-Some-clause-table
returns-in_ok-answer-in-Some-clause-table c = λ s stands.
    let t = act s (TakeHeld c.args.client) in
    stands_so c.answer.new.self None (act t (AnswerIt Done))
    (c.in_ok-answer-in-Some.ensures.table t (subst (λ (o : Option Asked). StandsFor c.take_held.new.self o t) c.in-Some.is (c.take_held.ensures.table s s.hand stands)))

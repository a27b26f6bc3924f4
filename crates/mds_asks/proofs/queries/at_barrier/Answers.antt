use Rattle.std.proofs.Common.{◌≡◌, ℕ, ◌≤◌, ◌<◌, true, false, Some, sym, subst, arith}
use Rattle.std.proofs.lemmas.Bool.Decides.{nat_tests}
use Rattle.std.specs.Prelude.{nat_le}
use Rattle.mds_asks.proofs.Given.{passed, waits_there}
use Rattle.mds_asks.proofs.queries.at_barrier.Goals as goal

upto : (number last : ℕ) → number ≤ last → nat_le number last ≡ true
upto number last low = grind (arith, nat_tests)

above : (number last : ℕ) → last < number → nat_le number last ≡ false
above number last high = grind (arith, nat_tests)

pub answer-requires : goal.answer-requires
answer-requires c =
    let is = c.requires in
    record {
      from_one = is.fit.from_one;
      upto = subst (λ (n : ℕ). c.args.asked.now.client ≤ n) (sym is.stands.clients) is.fit.upto;
    }

pub returns-then-number-barrier-clause-acts : goal.returns-then-number-barrier-clause-acts
returns-then-number-barrier-clause-acts c = λ s stands.
    let a = c.args.asked.now in
    passed c.answer.new.self a s c.args.number
    (subst (λ (last : ℕ). nat_le c.args.number last ≡ true) (c.barrier.ensures s (Some a) stands) (upto c.args.number c.barrier.result c.if-number-barrier.true))
    (c.in_ok-answer.ensures.table s stands)

pub returns-clause-acts : goal.returns-clause-acts
returns-clause-acts c = λ s stands.
    let a = c.args.asked.now in
    waits_there c.args.state.now a s c.args.number
    (subst (λ (last : ℕ). nat_le c.args.number last ≡ false) (c.barrier.ensures s (Some a) stands) (above c.args.number c.barrier.result c.if-number-barrier.false))
    stands

use Rattle.std.proofs.Common.{ℕ, ◌≤◌, Some, sym, subst}
use Rattle.mds_state.specs.Stands.{StandsFor}
use Rattle.mds_asks.specs.Others.{IsAsked, after_asked}
use Rattle.mds_asks.proofs.caps.ask.Goals as goal

pub ask_for-requires : goal.ask_for-requires
ask_for-requires c =
    let is = c.requires in
    record {
      from_one = subst (λ (n : ℕ). 1 ≤ n) (sym c.client-client.ensures) is.fit.from_one;
      upto = subst (λ (n : ℕ). n ≤ c.args.state.now.clients) (sym c.client-client.ensures) (subst (λ (n : ℕ). c.args.asked.now.client ≤ n) (sym is.stands.clients) is.fit.upto);
      state = record { taken = Some c.args.asked.now; state = is.state; stands = is.stands };
    }

pub returns-clause-answer : goal.returns-clause-answer
returns-clause-answer c = λ s taken stands.
    subst (λ (n : ℕ). IsAsked c.in_ok-given.given s n c.args.ino c.args.mode) c.client-client.ensures (c.in_ok-given.ensures.answer s taken stands)

pub returns-clause-table : goal.returns-clause-table
returns-clause-table c = λ s taken stands made.
    subst (λ (n : ℕ). StandsFor c.ask_for.new.state taken (after_asked c.in_ok-given.given s n c.args.ino c.args.mode)) c.client-client.ensures
    (c.in_ok-given.ensures.table s taken stands made)

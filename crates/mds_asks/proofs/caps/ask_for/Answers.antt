use Rattle.std.proofs.Common.{List, ℕ, subst, ◌∙◌}
use Rattle.step_table.specs.Acts.{acts}
use Rattle.step_table.specs.Capabilities.{recalls}
use Rattle.mds_state.specs.Given.{IsGiven, after_given}
use Rattle.mds_state.specs.Stands.{StandsFor}
use Rattle.mds_state.specs.declared.tenures.Given.{Given}
use Rattle.mds_asks.proofs.Given.{against_are}
use Rattle.mds_asks.proofs.caps.ask_for.Goals as goal

pub recall_all-requires : goal.recall_all-requires
recall_all-requires c =
    let is = c.requires.state in
    let others = subst (λ (g : Given). IsGiven g is.state c.args.client c.args.ino c.args.mode) c.in-Against.is (c.in_ok-given.ensures.answer is.state is.taken is.stands) in
    against_are is.state c.ask_for.new.self.clients c.args.client c.args.ino c.args.mode c.in-Against.others (c.in_ok-given.ensures.clients ∙ is.stands.clients) others.1

pub returns-in-Held-clause-answer : goal.returns-in-Held-clause-answer
returns-in-Held-clause-answer c = λ s taken stands.
    subst (λ (g : Given). IsGiven g s c.args.client c.args.ino c.args.mode) c.in-Held.is (c.in_ok-given.ensures.answer s taken stands)

pub returns-in-Held-clause-table : goal.returns-in-Held-clause-table
returns-in-Held-clause-table c = λ s taken stands made.
    subst (λ (g : Given). StandsFor c.ask_for.new.self taken (after_given g s c.args.client c.args.ino c.args.mode)) c.in-Held.is (c.in_ok-given.ensures.table s taken stands made)

pub returns-in-Raised-clause-answer : goal.returns-in-Raised-clause-answer
returns-in-Raised-clause-answer c = λ s taken stands.
    subst (λ (g : Given). IsGiven g s c.args.client c.args.ino c.args.mode) c.in-Raised.is (c.in_ok-given.ensures.answer s taken stands)

pub returns-in-Raised-clause-table : goal.returns-in-Raised-clause-table
returns-in-Raised-clause-table c = λ s taken stands made.
    subst (λ (g : Given). StandsFor c.ask_for.new.self taken (after_given g s c.args.client c.args.ino c.args.mode)) c.in-Raised.is (c.in_ok-given.ensures.table s taken stands made)

pub returns-in_ok-recall_all-in-Against-clause-answer : goal.returns-in_ok-recall_all-in-Against-clause-answer
returns-in_ok-recall_all-in-Against-clause-answer c = λ s taken stands.
    (subst (λ (g : Given). IsGiven g s c.args.client c.args.ino c.args.mode) c.in-Against.is (c.in_ok-given.ensures.answer s taken stands)).0

pub returns-in_ok-recall_all-in-Against-clause-table : goal.returns-in_ok-recall_all-in-Against-clause-table
returns-in_ok-recall_all-in-Against-clause-table c = λ s taken stands made.
    let others = subst (λ (g : Given). IsGiven g s c.args.client c.args.ino c.args.mode) c.in-Against.is (c.in_ok-given.ensures.answer s taken stands) in
    subst (λ (list : List ℕ). StandsFor c.recall_all.new.state taken (acts s (recalls s c.args.ino list))) others.1
    (c.in_ok-recall_all-in-Against.ensures.table s taken
    (subst (λ (g : Given). StandsFor c.ask_for.new.self taken (after_given g s c.args.client c.args.ino c.args.mode)) c.in-Against.is (c.in_ok-given.ensures.table s taken stands made)))

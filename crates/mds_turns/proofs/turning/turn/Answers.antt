use Rattle.std.proofs.Common.{◌≡◌, true, false, None, Bool, cond, subst, sym, ◌∙◌, rules}
use Rattle.plain_journal.specs.Table.{outstanding}
use Rattle.step_table.specs.Background as background
use Rattle.step_table.specs.ServerState.{all_connected}
use Rattle.mds_turns.specs.Turned.{Turned}
use Rattle.mds_turns.proofs.turning.turn.Goals as goal

pub returns-then-not-all_connected-clause-acts : goal.returns-then-not-all_connected-clause-acts
returns-then-not-all_connected-clause-acts c = λ s stands fit asks past.
    let failed : c.all_connected.result ≡ false = search rules in
    let none : all_connected s ≡ false = sym (c.all_connected.ensures s s.hand stands) ∙ failed in
    subst (λ (b : Bool). Turned c.args.state.now s (cond b (background.turn_at s (outstanding s.entries)) None) None) (sym none) stands

pub returns-clause-acts : goal.returns-clause-acts
returns-clause-acts c = λ s stands fit asks past.
    let passed : c.all_connected.result ≡ true = search rules in
    let all : all_connected s ≡ true = sym (c.all_connected.ensures s s.hand stands) ∙ passed in
    subst (λ (b : Bool). Turned c.turn_at.new.state s (cond b (background.turn_at s (outstanding s.entries)) None) c.in_ok-done.done) (sym all)
    (c.in_ok-done.ensures.acts s stands fit asks past)

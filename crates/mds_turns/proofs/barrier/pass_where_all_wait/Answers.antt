use Rattle.std.proofs.Common.{◌≡◌, true, false, ap, sym, ◌∙◌, rules}
use Rattle.std.specs.Prelude.{Bool, ◌&&◌}
use Rattle.std.specs.List.{list_all}
use Rattle.step_table.specs.Background.{is_finished, waits_at}
use Rattle.step_table.specs.ServerState.{up_to}
use Rattle.mds_turns.specs.Turned.{passing}
use Rattle.mds_turns.proofs.Standing.{not_passed, passed, passing_opens}
use Rattle.mds_turns.proofs.barrier.pass_where_all_wait.Goals as goal

pub returns-then-not-all_wait_at-clause-acts : goal.returns-then-not-all_wait_at-clause-acts
returns-then-not-all_wait_at-clause-acts c = λ s stands.
    let failed : c.all_wait_at.result ≡ false = search rules in
    let none = sym (c.all_wait_at.ensures s s.hand stands) ∙ failed in
    not_passed c.args.state.now s (list_all (waits_at s c.args.number) (up_to s.clients) && is_finished s) (passing s c.args.number)
    (ap (λ (b : Bool). b && is_finished s) none) stands

pub returns-then-not-is_finished-clause-acts : goal.returns-then-not-is_finished-clause-acts
returns-then-not-is_finished-clause-acts c = λ s stands.
    let all_so : c.all_wait_at.result ≡ true = search rules in
    let failed : c.is_finished.result ≡ false = search rules in
    let all = sym (c.all_wait_at.ensures s s.hand stands) ∙ all_so in
    let none = sym (c.is_finished.ensures s s.hand stands) ∙ failed in
    not_passed c.args.state.now s (list_all (waits_at s c.args.number) (up_to s.clients) && is_finished s) (passing s c.args.number)
    (λ i. all i && none i) stands

pub returns-clause-acts : goal.returns-clause-acts
returns-clause-acts c = λ s stands.
    let all_so : c.all_wait_at.result ≡ true = search rules in
    let done_so : c.is_finished.result ≡ true = search rules in
    let all = sym (c.all_wait_at.ensures s s.hand stands) ∙ all_so in
    let done = sym (c.is_finished.ensures s s.hand stands) ∙ done_so in
    passed c.pass.new.state s (list_all (waits_at s c.args.number) (up_to s.clients) && is_finished s) (passing s c.args.number)
    (λ i. all i && done i) (c.in_ok-pass.ensures.table s stands, sym (passing_opens s c.args.number))

use Rattle.std.proofs.Common.{◌++◌, ap, subst, sym, ◌∙◌, map}
use Rattle.std.specs.List.{list_all}
use Rattle.step_table.specs.Acts.{goes}
use Rattle.step_table.specs.Messages.{plain_sent}
use Rattle.mds_state.specs.Parts.{Parts}
use Rattle.mds_state.specs.Stands.{StandsFor, sent_traces_fit}
use Rattle.mds_state.proofs.Handed.{sent_is, sent_fits, handed_out}
use Rattle.mds_state.proofs.state.MdsState.hand_out.Goals as goal

pub returns-clause-sent : goal.returns-clause-sent
returns-clause-sent c = λ s taken stands.
    let now = subst (λ (p : Parts). StandsFor p taken s) (sym c.self.view_is) stands in
    ap (map plain_sent) (c.from_vec.ensures ∙ c.in_ok-hand_over.ensures.sent ∙ (λ i. c.new-sent.ensures.items i ++ goes (c.durable-durable.ensures i) c.self.inside.mail.items))
    ∙ sent_is _ taken s now

pub returns-clause-traces : goal.returns-clause-traces
returns-clause-traces c = λ s taken stands.
    let now = subst (λ (p : Parts). StandsFor p taken s) (sym c.self.view_is) stands in
    ap (list_all sent_traces_fit) (c.from_vec.ensures ∙ c.in_ok-hand_over.ensures.sent ∙ (λ i. c.new-sent.ensures.items i ++ goes (c.durable-durable.ensures i) c.self.inside.mail.items))
    ∙ sent_fits _ taken s now

pub returns-clause-table : goal.returns-clause-table
returns-clause-table c = λ s taken stands.
    let now = subst (λ (p : Parts). StandsFor p taken s) (sym c.self.view_is) stands in
    rw (c.in_ok-hand_over.ensures.left, c.durable-durable.ensures) (handed_out _ taken s now)

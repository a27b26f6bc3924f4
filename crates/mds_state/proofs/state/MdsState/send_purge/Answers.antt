use Rattle.std.proofs.Common.{ℕ, ◌+◌, ◌∙◌, ap}
use Rattle.plain_types.specs.declared.history.Sent.{Sent}
use Rattle.plain_types.specs.declared.message.Message.TheVariants as message
use Rattle.plain_types.specs.declared.message.ToStore.TheVariants as order
use Rattle.mds_state.proofs.state.MdsState.send_purge.Goals as goal

pub returns-clause-table : goal.returns-clause-table
returns-clause-table c = λ s taken stands.
    c.in_ok-send.ensures.sent _ taken _ (c.in_ok-note_purge.ensures.table s taken stands)
    (ap (λ (to : ℕ). let sent : Sent = record { to = to; message = message.ToStore (order.Purge c.args.id) } in sent) (c.store-store.ensures ∙ ap (λ (n : ℕ). n + 1) stands.clients))

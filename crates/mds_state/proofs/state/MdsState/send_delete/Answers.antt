use Rattle.std.proofs.Common.{ℕ, ◌+◌, ◌∙◌, ap}
use Rattle.plain_types.specs.declared.history.Sent.{Sent}
use Rattle.plain_types.specs.declared.message.Message.TheVariants as message
use Rattle.plain_types.specs.declared.message.ToStore.TheVariants as order
use Rattle.mds_state.proofs.state.MdsState.send_delete.Goals as goal

pub returns-clause-table : goal.returns-clause-table
returns-clause-table c = λ s taken stands file.
    c.in_ok-send.ensures.sent _ taken _ (c.in_ok-note_delete.ensures.table s taken stands)
    (λ i. let sent : Sent = record { to = (c.store-store.ensures ∙ ap (λ (n : ℕ). n + 1) stands.clients) i; message = message.ToStore (order.Delete c.args.ino (c.in_ok-context.ensures s taken stands file i)) } in sent)

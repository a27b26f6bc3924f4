use Rattle.std.proofs.Common.{◌≡◌, ℕ, true, subst, sym, refl}
use Rattle.plain_types.specs.declared.message.FromStore.TheVariants as from_store
use Rattle.plain_types.specs.declared.message.Message.TheVariants as message
use Rattle.plain_types.specs.declared.message.ToServer.TheVariants as to_server
use Rattle.plain_types.specs.declared.message.ToStore.TheVariants as to_store
use Rattle.node_core.specs.Steps.{is_sent_well}
use Rattle.store_tests.proofs.channels.second_asks.Goals as goal

pub send-requires : goal.send-requires
send-requires c = subst (λ (n : ℕ). is_sent_well n 2 (record { to = 3; message = (message.ToStore (to_store.ListClones c.args.key (record { 0 = 7 }) 0)) }) ≡ true) (sym c.requires) refl

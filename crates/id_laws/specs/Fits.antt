-- That no message is dropped for its numbers.
use Rattle.std.specs.Prelude.{◌≡◌, true, List, ℕ, IfSome}
use Rattle.std.specs.List.{AllByRecursion}
use Rattle.plain_types.specs.declared.history.Sent.{Sent}
use Rattle.plain_types.specs.declared.message.ToClient.{ToClient}
use Rattle.plain_types.specs.declared.message.ToServer.{ToServer}
use Rattle.step_table.specs.Messages.{to_client_fits, to_server_fits}
use Rattle.run_laws.specs.Links.{View}
use Rattle.run_laws.specs.Stamps.{told_by}
use Rattle.id_laws.specs.Upto.{Every}

abbrev pub CanBeTaken : ToClient → Type 0
CanBeTaken told = to_client_fits told ≡ true

-- the messages that are on their way to the clients
abbrev pub AllCanBeTaken : List (ℕ × ToClient) → Type 0
AllCanBeTaken down = Every CanBeTaken down

-- those among the server's mail, that wait until the entries are durable
abbrev pub MailCanBeTaken : List (ℕ × Sent) → Type 0
MailCanBeTaken mail = Every (λ (sent : Sent). IfSome (told_by sent.message) CanBeTaken) mail

-- The messages that are on their way from a client can be taken.
abbrev pub SaysWhatCanBeTaken : View
SaysWhatCanBeTaken n c up down s = AllByRecursion (λ (said : ToServer). to_server_fits said ≡ true) up

-- What a line of a schedule says.
use Rattle.std.specs.Prelude.{ℕ, ◌+◌, List, [], ◌∷◌, bytes_eq, codes, if◌then◌else◌, Option, None, Some}
use Rattle.std.specs.Option.{option_map, option_and_then, option_zip}
use Rattle.plain_types.specs.declared.history.Step.{Step}
use Rattle.plain_types.specs.declared.history.Step.TheVariants as step
use Rattle.plain_types.specs.declared.script.Planned.{Planned}
use Rattle.plain_types.specs.declared.script.Planned.TheVariants.{Make, Drain, All, Ops}
use Rattle.script_text.specs.Lines.{number_of, within, small_of}

-- a client of so many
abbrev pub client_of : ℕ → List ℕ → Option ℕ
client_of clients word = within 1 clients (number_of word)

-- a verb alone
abbrev pub bare_plan : List ℕ → Option Planned
bare_plan verb =
    if bytes_eq verb (codes "commit") then Some (Make step.Commit)
    else (if bytes_eq verb (codes "tend") then Some (Make step.Tend)
    else (if bytes_eq verb (codes "drain") then Some Drain
    else (if bytes_eq verb (codes "all") then Some All
    else None)))

-- a verb and its client, or how many buffered entries survive a restart
abbrev pub short_plan : ℕ → List ℕ → List ℕ → Option Planned
short_plan clients verb word =
    if bytes_eq verb (codes "op") then option_map (λ client. Make (step.Op client)) (client_of clients word)
    else (if bytes_eq verb (codes "flush") then option_map (λ client. Make (step.Flush client)) (client_of clients word)
    else (if bytes_eq verb (codes "restart") then option_map (λ kept. Make (step.Restart kept)) (small_of word)
    else None))

-- the node from which one takes: a client, or the one of this name
abbrev pub node_of : ℕ → List ℕ → ℕ → List ℕ → Option ℕ
node_of clients name node word = if bytes_eq word name then Some node else client_of clients word

-- a client takes from the server or from the store
abbrev pub client_takes : ℕ → List ℕ → Option Step
client_takes client source =
    if bytes_eq source (codes "server") then Some (step.ClientFromServer client)
    else (if bytes_eq source (codes "store") then Some (step.ClientFromStore client)
    else None)

-- who takes a message, and from whom
abbrev pub taking : ℕ → List ℕ → List ℕ → Option Step
taking clients taker source =
    if bytes_eq taker (codes "server") then option_map step.ServerTakes (node_of clients (codes "store") (clients + 1) source)
    else (if bytes_eq taker (codes "store") then option_map step.StoreTakes (node_of clients (codes "server") 0 source)
    else option_and_then (λ client. client_takes client source) (client_of clients taker))

-- a verb and two words
abbrev pub long_plan : ℕ → List ℕ → List ℕ → List ℕ → Option Planned
long_plan clients verb a b =
    if bytes_eq verb (codes "take") then option_map Make (taking clients a b)
    else (if bytes_eq verb (codes "ops") then option_map (λ (client, times). Ops client times) (option_zip (client_of clients a) (small_of b))
    else None)

-- what the words of a line say, if anything
abbrev pub planned : ℕ → List (List ℕ) → Option Planned
planned clients (verb ∷ []) = bare_plan verb
planned clients (verb ∷ a ∷ []) = short_plan clients verb a
planned clients (verb ∷ a ∷ b ∷ []) = long_plan clients verb a b
planned clients words = None

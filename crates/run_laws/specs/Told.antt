-- How much a client was told of its changes.
use Rattle.std.specs.Prelude.{◌≡◌, ℕ, ◌+◌, ◌&&◌, ◌==◌, List, length, take, count_by, if◌then◌else◌, Option, None, Some, is_some}
use Rattle.plain_types.specs.declared.change.Effect.{Effect}
use Rattle.plain_types.specs.declared.entry.Entry.{Entry}
use Rattle.plain_types.specs.declared.history.Event.{Event}
use Rattle.plain_types.specs.declared.request.Request.{Request}
use Rattle.plain_tree.specs.History.{effects, told}
use Rattle.step_table.specs.ClientState.{open_request}
use Rattle.run_laws.specs.Links.{View}
use Rattle.run_laws.specs.Answered.{effects_of, kept_of}

-- a client's changes of bytes among effects: they have no entry
abbrev pub edits_of : ℕ → List Effect → ℕ
edits_of n effects = count_by (λ (effect : Effect). effect.client == n && effect.entry == 0) effects

-- one where a client's open request has its effect among these entries: it hasn't taken the answer
abbrev pub owed : ℕ → Option (ℕ × Request) → List Entry → ℕ
owed n None entries = 0
owed n (Some r) entries = if is_some (kept_of n r.0 entries) then 1 else 0

-- What a client was told along a history: of all its changes, those in durable entries and those of bytes, but for the
-- change of its open request.
abbrev pub AllTold : List Event → View
AllTold history n c up down s =
    told history n (length history) + owed n (open_request c.under) (take s.durable s.entries)
    ≡ effects_of n (take s.durable s.entries) + edits_of n (effects history)

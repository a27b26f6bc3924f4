-- Passes over the held requests, and what comes of a request that is taken.
use Rattle.std.specs.Prelude.{ℕ, zero, suc, ◌+◌, Bool, false, List, [], length, if◌then◌else◌, Option}
use Rattle.std.specs.List.{list_any}
use Rattle.step_table.specs.Acts.{Act, acts}
use Rattle.step_table.specs.Requests.{opens, treat, decide_anew, then_held}
use Rattle.step_table.specs.Flushes.{take_in, take_in_brought, treat_brought}
use Rattle.step_table.specs.ServerState.{Asked, Server}

-- a state, and whether something opened since the held requests were decided last
pub record Pass : Type 0 where
  pub state : Server
  pub opened : Bool

-- where something opened, they are decided anew
abbrev pub pass_acts : Pass → List Act
pass_acts r = if r.opened then decide_anew r.state else []

abbrev pub passed : Pass → Pass
passed r = let list = pass_acts r in record { state = acts r.state list; opened = list_any opens list }

-- so many times
abbrev pub passes : ℕ → Pass → Pass
passes zero r = r
passes (suc n) r = passes n (passed r)

-- a request is taken and treated
abbrev pub taken_acts : Server → Asked → List Act
taken_acts s a = treat false (take_in s a) a

-- a request is taken and treated, and then the held ones, where something opened
abbrev pub after_ask : Server → Asked → Server
after_ask s a = let t = take_in s a in acts t (then_held (2 + length t.held) t (taken_acts s a))

-- with what a connection brings along, and then the held ones in any case
abbrev pub brought_in : Server → Option Asked → Server
brought_in s asked = let t = take_in_brought s asked in acts t (treat_brought t asked)

abbrev pub after_connect : Server → Option Asked → Server
after_connect s asked = let now = brought_in s asked in acts now (then_held (1 + length now.held) now (decide_anew now))

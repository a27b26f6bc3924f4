-- A state between two passes.
use Rattle.std.specs.Prelude.{◌≡◌, ℕ, Bool}
use Rattle.mds_state.specs.Parts.{Parts}
use Rattle.mds_state.specs.Acted.{Stands}
use Rattle.mds_requests.specs.Passes.{Pass, passes}
use Rattle.mds_requests.specs.Ready.{IsReady}

-- the parts stand for it, and so does what is told of the last pass
abbrev pub StandsAt : Parts → Bool → Pass → Type 0
StandsAt p opened r = Stands p r.state × (opened ≡ r.opened)

-- it can be passed so many times
pub record MayPass (many : ℕ) (p : Parts) (opened : Bool) : Type 0 where
  pub pass : Pass
  pub stands : StandsAt p opened pass
  pub ready : IsReady pass.state (passes many pass).state

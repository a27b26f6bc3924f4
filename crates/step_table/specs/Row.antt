-- What one step of one node brings about.
use Rattle.std.specs.Prelude.{List, []}
use Rattle.plain_types.specs.declared.change.Effect.{Effect}
use Rattle.plain_types.specs.declared.history.Replied.{Replied}
use Rattle.plain_types.specs.declared.history.Sent.{Sent}

-- the node's next state, what it sends, which changes take effect, and which lines get their replies
pub record Row (S : Type 0) : Type 0 where
  pub state : S
  pub sent : List Sent
  pub effects : List Effect
  pub replies : List Replied

-- a row that only sends
abbrev pub sends : {S : Type 0} → S → List Sent → Row S
sends state sent = record { state = state; sent = sent; effects = []; replies = [] }

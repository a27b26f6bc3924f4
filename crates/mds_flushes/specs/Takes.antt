-- When flushes can be taken.
use Rattle.std.specs.Prelude.{◌≡◌, ℕ, Bool, true, List, Option}
use Rattle.std.specs.List.{list_all}
use Rattle.snap_ids.specs.declared.id.Ino.{Ino}
use Rattle.plain_types.specs.declared.message.Claim.{Claim}
use Rattle.plain_types.specs.declared.message.FlushMsg.{FlushMsg}
use Rattle.step_table.specs.Flushes.{knows_file, may_connect}
use Rattle.step_table.specs.ServerState.{Asked, Server}
use Rattle.mds_state.specs.Parts.{Parts}
use Rattle.mds_state.specs.Stands.{StandsFor}

-- the parts stand for some state in which a file was made
pub record KnowsFile (p : Parts) (ino : Ino) : Type 0 where
  pub taken : Option Asked
  pub state : Server
  pub stands : StandsFor p taken state
  pub known : knows_file state ino ≡ true

-- the file of a claim, and of a flush, was made
abbrev pub is_known_claim : Server → Claim → Bool
is_known_claim s k = knows_file s k.ino

abbrev pub is_known : Server → FlushMsg → Bool
is_known s f = knows_file s f.ino

-- the parts stand for some state in which the files of all these flushes were made
pub record KnowsAll (p : Parts) (flushes : List FlushMsg) : Type 0 where
  pub taken : Option Asked
  pub state : Server
  pub stands : StandsFor p taken state
  pub known : list_all (is_known state) flushes ≡ true

-- the parts stand for some state that takes a client's connection
pub record MayReturn (p : Parts) (client conn : ℕ) (claims : List Claim) (flushes : List FlushMsg) : Type 0 where
  pub taken : Option Asked
  pub state : Server
  pub asked : Option Asked
  pub stands : StandsFor p taken state
  pub may : may_connect state client conn claims flushes asked ≡ true

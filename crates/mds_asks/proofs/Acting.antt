-- Acts one after another, and what a rule has done.
use Rattle.std.proofs.Common.{◌≡◌, List, [], ◌∷◌, ◌++◌, false, Option, refl, sym, subst}
use Rattle.step_table.specs.Acts.{Act, act, acts}
use Rattle.step_table.specs.Requests.{opens}
use Rattle.step_table.specs.ServerState.{Asked, Server}
use Rattle.mds_state.specs.Acted.{Acted, Stands}
use Rattle.mds_state.specs.Parts.{Parts}
use Rattle.mds_state.specs.Stands.{StandsFor}

pub acts_joined : (s : Server) (first next : List Act) → acts s (first ++ next) ≡ acts (acts s first) next
acts_joined s [] next = refl
acts_joined s (a ∷ first) next = acts_joined (act s a) first next

-- what stands for a state with this in hand stands for it
pub stands_so : (p : Parts) (taken : Option Asked) (s : Server) → StandsFor p taken s → Stands p s
stands_so p taken s stands = subst (λ (hand : Option Asked). StandsFor p hand s) (sym stands.hand) stands

-- a single act was made
pub one_act : (p : Parts) (taken : Option Asked) (s : Server) (a : Act) → StandsFor p taken (act s a) → opens a ≡ false → Acted p s (a ∷ []) false
one_act p taken s a stands closed = (stands_so p taken (act s a) stands, sym (rw closed refl))

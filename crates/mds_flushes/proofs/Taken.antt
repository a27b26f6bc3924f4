-- Acts of flushes, and what they open.
use Rattle.std.proofs.Common.{◌≡◌, ◌<◌, ℕ, List, [], ◌∷◌, ◌++◌, Bool, true, false, Option, refl, sym, subst, ◌∙◌, arith}
use Rattle.std.proofs.lemmas.Bool.Decides.{nat_tests}
use Rattle.std.proofs.lemmas.List.Folds.{list_any-append}
use Rattle.std.specs.Prelude.{◌||◌, ◌&&◌, if◌then◌else◌, nat_lt}
use Rattle.std.specs.List.{list_any, list_all}
use Rattle.plain_types.specs.declared.message.Claim.{Claim}
use Rattle.plain_types.specs.declared.message.FlushMsg.{FlushMsg}
use Rattle.server_holders.proofs.Any.{both_true}
use Rattle.step_table.specs.Acts.{Act, Buffer, LetGo, Settled, TellAck, acts, each}
use Rattle.step_table.specs.Flushes.{flush_settles, knows_brought, may_connect, take_brought}
use Rattle.step_table.specs.Requests.{opens}
use Rattle.step_table.specs.ServerState.{Asked, Server, connection}
use Rattle.mds_state.specs.Acted.{Stands}
use Rattle.mds_state.specs.Parts.{Parts}
use Rattle.mds_state.specs.Stands.{StandsFor}
use Rattle.mds_flushes.specs.Takes.{is_known, is_known_claim}
use Rattle.mds_flushes.proofs.Follows.{entry_of}

-- what is in hand is what the state has in hand
pub stands_by : (p : Parts) (taken : Option Asked) (s : Server) → StandsFor p taken s → Stands p s
stands_by p taken s stands = subst (λ (h : Option Asked). StandsFor p h s) (sym stands.hand) stands

-- the acts of a flush that was taken before, and of another
abbrev pub taken_if : ℕ → FlushMsg → Bool → List Act
taken_if client f b = if b then [] else Buffer (entry_of client f) ∷ flush_settles client f ∷ []

-- a release opens
pub opens_new : (client : ℕ) (f : FlushMsg) → f.release ≡ list_any opens (taken_if client f false)
opens_new client f = go f.release
  where
    go : (b : Bool) → b ≡ (opens (if b then LetGo client f.ino else Settled client f.ino f.upto) || false)
    go true = refl
    go false = refl

-- an acknowledgement doesn't
pub opens_ack : (client number : ℕ) (list : List Act) → list_any opens list ≡ list_any opens (list ++ TellAck client number ∷ [])
opens_ack client number list = go (list_any opens list) ∙ sym (list_any-append opens list (TellAck client number ∷ []))
  where
    go : (b : Bool) → b ≡ (b || false)
    go true = refl
    go false = refl

-- what a connection that is taken says
pub record Connects (s : Server) (client conn : ℕ) (claims : List Claim) (flushes : List FlushMsg) : Type 0 where
  pub newer : connection s client < conn
  pub of_claims : list_all (is_known_claim s) claims ≡ true
  pub of_flushes : list_all (is_known s) flushes ≡ true

pub connects : (s : Server) (client conn : ℕ) (claims : List Claim) (flushes : List FlushMsg) (asked : Option Asked) → may_connect s client conn claims flushes asked ≡ true → Connects s client conn claims flushes
connects s client conn claims flushes asked may =
    let a = both_true (nat_lt (connection s client) conn && list_all (is_known_claim s) claims && list_all (is_known s) flushes) (knows_brought s asked) may in
    let b = both_true (nat_lt (connection s client) conn && list_all (is_known_claim s) claims) (list_all (is_known s) flushes) a.0 in
    let d = both_true (nat_lt (connection s client) conn) (list_all (is_known_claim s) claims) b.0 in
    let newer = d.0 in
    record { newer = grind (arith, nat_tests); of_claims = d.1; of_flushes = b.1 }

-- the flushes that are left lead to the same state
pub record Leads (p : Parts) (taken : Option Asked) (client : ℕ) (left : List FlushMsg) (end : Server) : Type 0 where
  pub state : Server
  pub stands : StandsFor p taken state
  pub known : list_all (is_known state) left ≡ true
  pub same : acts state (each (take_brought client) state left) ≡ end

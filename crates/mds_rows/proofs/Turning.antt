-- The background turn as a row.
use Rattle.std.proofs.Common.{◌≡◌, ℕ, ◌+◌, List, length, Bool, true, false, true≢false, cond, Option, None, Some, refl, sym, ap, subst, ◌∙◌}
use Rattle.std.specs.Prelude.{is_some, option_map}
use Rattle.plain_types.specs.declared.history.Sent.{Sent}
use Rattle.plain_journal.specs.Table.{outstanding}
use Rattle.step_table.specs.Acts.{Act, acts, hand_out}
use Rattle.step_table.specs.Background.{turn, turn_at}
use Rattle.step_table.specs.Requests.{then_held}
use Rattle.step_table.specs.Row.{Row}
use Rattle.step_table.specs.ServerRows.{on_tend, row_of}
use Rattle.step_table.specs.ServerState.{Asked, Server, all_connected}
use Rattle.mds_state.specs.Acted.{Acted, Stands}
use Rattle.mds_state.specs.Fits.{AllPast}
use Rattle.mds_state.specs.Parts.{Parts}
use Rattle.mds_state.specs.Stands.{StandsFor}
use Rattle.mds_requests.specs.Ready.{IsReady, MayGoOn}
use Rattle.mds_requests.proofs.Later.{acts_later, were_past}
use Rattle.mds_requests.proofs.Turned.{as_it_is}
use Rattle.mds_turns.specs.Turned.{MayTurn, Turned}
use Rattle.mds_rows.specs.Given.{Gives, GivesAny}
use Rattle.mds_rows.specs.May.{CanTurn}
use Rattle.mds_rows.specs.Ready.{MayTend, after}
use Rattle.mds_rows.proofs.Rules.{rule_given, rule_ready}

mapped : (f : List Act → Row Server) (o : Option (List Act)) → is_some o ≡ is_some (option_map f o)
mapped f None = refl
mapped f (Some list) = refl

pub tended : (s : Server) → all_connected s ≡ true → is_some (turn_at s (outstanding s.entries)) ≡ is_some (on_tend s)
tended s is = step (all_connected s) is
  where
    step : (b : Bool) → b ≡ true → is_some (turn_at s (outstanding s.entries)) ≡ is_some (option_map (row_of s) (cond b (turn_at s (outstanding s.entries)) None))
    step true is = mapped (row_of s) (turn_at s (outstanding s.entries))
    step false is = absurd (true≢false (sym is))

-- each flush was past before the row
past_before : (s : Server) (o : Option (List Act)) → AllPast (after s (option_map (row_of s) o)).entries → AllPast s.entries
past_before s None past = past
past_before s (Some done) past = were_past s (acts s (then_held (2 + length s.held) s done)) (acts_later (then_held (2 + length s.held) s done) s) past

pub were : (s : Server) → MayTend s → AllPast s.entries
were s may = past_before s (turn s) may.past

pub may_turn : (p : Parts) → CanTurn p → MayTurn p
may_turn p can = record { state = can.state; stands = as_it_is p None can.state can.stands; fit = can.may.calm.fit; asks = can.may.asks }

-- after a turn that was made
module _ (p q : Parts) (s : Server) (many : ℕ) (is : many ≡ length s.held) (stands : StandsFor p None s) (may : MayTend s) where
  go_on_by : (o : Option (List Act)) (opened : Bool) → AllPast (after s (option_map (row_of s) o)).entries → Turned q s o (Some opened) → MayGoOn q many opened
  go_on_by None opened past turned = absurd turned
  go_on_by (Some done) opened past turned = record { state = s; done = done; acted = turned; ready = rule_ready s done many stands.hand may.calm is past }

  pub may_go_on : (opened : Bool) → Turned q s (turn s) (Some opened) → MayGoOn q many opened
  may_go_on opened turned = go_on_by (turn s) opened may.past turned

  -- what is given then
  abbrev pub WentOn : Parts → List Sent → Bool → Type 0
  WentOn r sent opened = (t : Server) (done : List Act) → Acted q t done opened → IsReady (acts t done) (acts t (then_held (2 + many) t done)) → Gives r sent (hand_out (acts t (then_held (2 + many) t done)))

  given_by : (r : Parts) (sent : List Sent) (o : Option (List Act)) (opened : Bool) → AllPast (after s (option_map (row_of s) o)).entries → Turned q s o (Some opened) → WentOn r sent opened → GivesAny r s (Some sent) (option_map (row_of s) o)
  given_by r sent None opened past turned went = absurd turned
  given_by r sent (Some done) opened past turned went = rule_given r sent s done many is (went s done turned (rule_ready s done many stands.hand may.calm is past))

  pub given : (r : Parts) (sent : List Sent) (opened : Bool) → Turned q s (turn s) (Some opened) → WentOn r sent opened → GivesAny r s (Some sent) (on_tend s)
  given r sent opened turned went = given_by r sent (turn s) opened may.past turned went

  not_by : (o : Option (List Act)) → Turned q s o None → GivesAny q s None (option_map (row_of s) o)
  not_by None turned = subst (λ (h : Option Asked). StandsFor q h s) stands.hand turned
  not_by (Some done) turned = absurd turned

  -- and where there was none
  pub none_given : Turned q s (turn s) None → GivesAny q s None (on_tend s)
  none_given turned = not_by (turn s) turned

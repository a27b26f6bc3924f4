-- A rule's acts, and then the held requests.
use Rattle.std.proofs.Common.{◌≡◌, ◌≤◌, ℕ, ◌+◌, List, length, Bool, true, false, true≢false, cond, Option, None, refl, sym, subst}
use Rattle.std.specs.Prelude.{◌&&◌}
use Rattle.std.specs.List.{AllByRecursion}
use Rattle.snap_ids.specs.declared.id.Ino.{Ino}
use Rattle.plain_types.specs.declared.history.Sent.{Sent}
use Rattle.plain_types.specs.declared.message.FlushMsg.{FlushMsg}
use Rattle.plain_types.specs.declared.message.ToServer.{ToServer}
use Rattle.plain_types.specs.declared.message.ToServer.TheVariants.{Ask, Flush, DropRead}
use Rattle.plain_types.specs.declared.request.Request.{Request}
use Rattle.step_table.specs.Acts.{Act, acts, as_list, hand_out}
use Rattle.step_table.specs.Flushes.{asked_by, knows_asked, knows_file, on_drop, on_flush}
use Rattle.step_table.specs.Requests.{then_held}
use Rattle.step_table.specs.Row.{Row}
use Rattle.step_table.specs.Messages.{to_server_fits}
use Rattle.step_table.specs.ServerRows.{ask, drops, on_take, row_of, taken_from}
use Rattle.step_table.specs.ServerState.{Asked, Server, is_current}
use Rattle.mds_state.specs.Acted.{Stands}
use Rattle.mds_state.specs.Fits.{AllPast, IsFit, OneEach, WaitingFit}
use Rattle.mds_state.specs.Parts.{Parts}
use Rattle.mds_state.specs.Stands.{StandsFor}
use Rattle.mds_requests.specs.Passes.{after_ask}
use Rattle.mds_requests.specs.Ready.{HandFits, IsNew, IsReady, MayAsk}
use Rattle.mds_requests.proofs.Counts.{held_once, still_one, wait_once}
use Rattle.mds_requests.proofs.Places.{all_fit, placed, waiting_of}
use Rattle.mds_requests.proofs.Turned.{as_it_is}
use Rattle.mds_rows.specs.Given.{Gives}
use Rattle.mds_rows.specs.May.{CanTakeFrom, MayTakeFrom}
use Rattle.mds_rows.specs.Ready.{IsCalm, MayTake}

pub both : (a b : Bool) → (a && b) ≡ true → (a ≡ true) × (b ≡ true)
both true b is = (refl, is)
both false b is = absurd (true≢false (sym is))

-- nothing in hand fits
pub empty_hand : (s : Server) → s.hand ≡ None → HandFits s
empty_hand s none = subst (λ (o : Option Asked). AllByRecursion (IsFit s) (as_list o)) (sym none) tt

pub still_fit : (s : Server) (list : List Act) → s.hand ≡ None → WaitingFit s → WaitingFit (acts s list)
still_fit s list none fit = waiting_of (acts s list) (all_fit list s (placed s (empty_hand s none) fit))

pub held_one : (s : Server) → IsCalm s → OneEach s.held
held_one s calm = held_once s (wait_once s calm.once)

-- the requests that wait are ready to be decided anew after a rule's acts
pub rule_ready : (s : Server) (done : List Act) (many : ℕ) → s.hand ≡ None → IsCalm s → many ≡ length s.held → AllPast (row_of s done).state.entries → IsReady (acts s done) (acts s (then_held (2 + many) s done))
rule_ready s done many none calm is past = record {
  fit = still_fit s done none calm.fit;
  once = held_once (acts s done) (wait_once (acts s done) (still_one s done calm.once));
  past = subst (λ (n : ℕ). AllPast (acts s (then_held (2 + n) s done)).entries) (sym is) past;
}

pub rule_given : (p : Parts) (sent : List Sent) (s : Server) (done : List Act) (many : ℕ) → many ≡ length s.held → Gives p sent (hand_out (acts s (then_held (2 + many) s done))) → Gives p sent (row_of s done)
rule_given p sent s done many is gives = subst (λ (n : ℕ). Gives p sent (hand_out (acts s (then_held (2 + n) s done)))) is gives

-- a row by a test
pub row_if : (b : Bool) (row other : Row Server) → b ≡ true → cond b row other ≡ row
row_if true row other is = refl
row_if false row other is = absurd (true≢false (sym is))

pub row_else : (b : Bool) (row other : Row Server) → b ≡ false → cond b row other ≡ other
row_else true row other is = absurd (true≢false is)
row_else false row other is = refl

-- a request that comes over the client's connection
module _ (s : Server) (client conn tid : ℕ) (asked : Request) (may : MayTakeFrom s client (Ask conn tid asked)) (is : (is_current s client conn && knows_asked s asked) ≡ true) where
  pub ask_row : taken_from s client (Ask conn tid asked) ≡ ask s (asked_by client tid asked)
  ask_row = row_if (is_current s client conn && knows_asked s asked) (ask s (asked_by client tid asked)) (drops s) is

  pub ask_new : 1 ≤ client → client ≤ s.clients → IsNew s (asked_by client tid asked)
  ask_new from_one upto =
      let parts = both (is_current s client conn) (knows_asked s asked) is in
      record { fit = record { from_one = from_one; upto = upto; known = parts.1 }; alone = may.alone parts.0 }

  pub ask_ready : IsReady s (after_ask s (asked_by client tid asked))
  ask_ready = record {
    fit = may.calm.fit;
    once = held_one s may.calm;
    past = subst (λ (row : Row Server). AllPast row.state.entries) ask_row may.past;
  }

-- a flush
module _ (s : Server) (client conn : ℕ) (f : FlushMsg) (is : (is_current s client conn && knows_file s f.ino) ≡ true) where
  pub flush_row : taken_from s client (Flush conn f) ≡ row_of s (on_flush client s f)
  flush_row = row_if (is_current s client conn && knows_file s f.ino) (row_of s (on_flush client s f)) (drops s) is

  pub flush_ready : (many : ℕ) → s.hand ≡ None → many ≡ length s.held → MayTakeFrom s client (Flush conn f) → IsReady (acts s (on_flush client s f)) (acts s (then_held (2 + many) s (on_flush client s f)))
  flush_ready many none same may = rule_ready s (on_flush client s f) many none may.calm same (subst (λ (row : Row Server). AllPast row.state.entries) flush_row may.past)

-- a reader that lets go
module _ (s : Server) (client conn : ℕ) (ino : Ino) (is : is_current s client conn ≡ true) where
  pub drop_row : taken_from s client (DropRead conn ino) ≡ row_of s (on_drop client s ino)
  drop_row = row_if (is_current s client conn) (row_of s (on_drop client s ino)) (drops s) is

  pub drop_ready : (many : ℕ) → s.hand ≡ None → many ≡ length s.held → MayTakeFrom s client (DropRead conn ino) → IsReady (acts s (on_drop client s ino)) (acts s (then_held (2 + many) s (on_drop client s ino)))
  drop_ready many none same may = rule_ready s (on_drop client s ino) many none may.calm same (subst (λ (row : Row Server). AllPast row.state.entries) drop_row may.past)

-- a message that is dropped
pub dropped : (p : Parts) (sent : List Sent) (s : Server) (b : Bool) (row : Row Server) → b ≡ false → Gives p sent (hand_out s) → Gives p sent (cond b row (drops s))
dropped p sent s b row is gives = subst (λ (r : Row Server). Gives p sent r) (sym (row_else b row (drops s) is)) gives

-- the request in the code
module _ (p : Parts) (client conn tid : ℕ) (asked : Request) (a : Asked) (is : a ≡ asked_by client tid asked) (from_one : 1 ≤ client) (upto : client ≤ p.clients) where
  abbrev pub Well : Type 0
  Well = (s : Server) → StandsFor p None s → (is_current s client conn && knows_asked s asked) ≡ true

  within : (s : Server) → StandsFor p None s → client ≤ s.clients
  within s stands = subst (λ (n : ℕ). client ≤ n) stands.clients upto

  pub can_ask : CanTakeFrom p client (Ask conn tid asked) → Well → MayAsk p a
  can_ask can well = subst (MayAsk p) (sym is) (record {
    state = can.state;
    stands = as_it_is p None can.state can.stands;
    new = ask_new can.state client conn tid asked can.may (well can.state can.stands) from_one (within can.state can.stands);
    ready = ask_ready can.state client conn tid asked can.may (well can.state can.stands);
  })

module _ (p q r : Parts) (client conn tid : ℕ) (asked : Request) (a : Asked) (is : a ≡ asked_by client tid asked) (from_one : 1 ≤ client) (upto : client ≤ p.clients) (well : (s : Server) → StandsFor p None s → (is_current s client conn && knows_asked s asked) ≡ true) (sent : List Sent) where
  pub asked_given : ((s : Server) → Stands p s → IsNew s a → IsReady s (after_ask s a) → Stands q (after_ask s a))
      → ((s : Server) (taken : Option Asked) → StandsFor q taken s → Gives r sent (hand_out s))
      → (s : Server) → StandsFor p None s → MayTakeFrom s client (Ask conn tid asked) → Gives r sent (taken_from s client (Ask conn tid asked))
  asked_given table row s stands may =
      let new = ask_new s client conn tid asked may (well s stands) from_one (subst (λ (n : ℕ). client ≤ n) stands.clients upto) in
      let ready = ask_ready s client conn tid asked may (well s stands) in
      let t = after_ask s (asked_by client tid asked) in
      subst (λ (one : Row Server). Gives r sent one) (sym (ask_row s client conn tid asked may (well s stands)))
      (row t t.hand
      (subst (λ (b : Asked). Stands q (after_ask s b)) is
      (table s (as_it_is p None s stands) (subst (IsNew s) (sym is) new) (subst (λ (b : Asked). IsReady s (after_ask s b)) (sym is) ready))))

-- a message whose numbers can be
pub take_row : (s : Server) (client : ℕ) (m : ToServer) → to_server_fits m ≡ true → on_take s client m ≡ taken_from s client m
take_row s client m is = row_if (to_server_fits m) (taken_from s client m) (drops s) is

pub take_may : (s : Server) (client : ℕ) (m : ToServer) → to_server_fits m ≡ true → MayTake s client m → MayTakeFrom s client m
take_may s client m is may = record {
  calm = may.calm;
  alone = may.alone;
  past = subst (λ (row : Row Server). AllPast row.state.entries) (take_row s client m is) may.past;
}

-- The requests that wait after a row fit.
use Rattle.std.proofs.Common.{◌≡◌, ◌≤◌, ℕ, ◌+◌, List, length, Bool, true, false, cond, Option, None, Some, refl}
use Rattle.std.specs.Prelude.{◌&&◌, option_map}
use Rattle.std.specs.List.{AllByRecursion}
use Rattle.plain_types.specs.declared.message.Claim.{Claim}
use Rattle.plain_types.specs.declared.message.FlushMsg.{FlushMsg}
use Rattle.plain_types.specs.declared.message.ToServer.{ToServer}
use Rattle.plain_types.specs.declared.message.ToServer.TheVariants.{Connect, Ask, Flush, DropRead, Purged, Deleted}
use Rattle.plain_types.specs.declared.request.Request.{Request}
use Rattle.step_table.specs.Acts.{Act, acts, as_list, hand_out}
use Rattle.step_table.specs.Background.{turn}
use Rattle.step_table.specs.Flushes.{asked_by, brought, come_back, knows_asked, knows_file, may_connect, on_drop, on_flush, take_in, treat_brought}
use Rattle.step_table.specs.Messages.{to_server_fits}
use Rattle.step_table.specs.Requests.{decide_anew, is_operation, then_held, treat}
use Rattle.step_table.specs.ServerRows.{ask, back, committed, connect_with, drops, left_with, on_report, on_take, on_tend, reported, restarted, restarts, row_of, taken_from}
use Rattle.step_table.specs.ServerState.{Asked, Server, is_current}
use Rattle.mds_state.specs.Fits.{IsFit, WaitingFit}
use Rattle.mds_requests.specs.Ready.{IsNewBrought}
use Rattle.mds_requests.proofs.Later.{fit_later, later_same}
use Rattle.mds_requests.proofs.Places.{Places, all_fit, placed, places_to, waiting_of}
use Rattle.mds_rows.specs.Ready.{after}
use Rattle.mds_rows.proofs.Back.{back_fit, back_new}
use Rattle.mds_rows.proofs.Rules.{both, empty_hand}

-- all requests at the server fit
abbrev pub Fits : Server → Type 0
Fits s = Places (IsFit s) s

moved : (s u : Server) → u.clients ≡ s.clients → u.entries ≡ s.entries → Places (IsFit s) u → Fits u
moved s u clients entries is = places_to (IsFit s) (IsFit u) u (λ a. fit_later s u a (later_same s u clients entries)) is

out_fit : (t : Server) → Fits t → WaitingFit (hand_out t).state
out_fit t is = waiting_of (hand_out t).state (moved t (hand_out t).state refl refl (tt, is.1, is.2, is.3))

row_fit : (t : Server) (done : List Act) → Fits t → WaitingFit (row_of t done).state
row_fit t done is = out_fit (acts t (then_held (2 + length t.held) t done)) (all_fit (then_held (2 + length t.held) t done) t is)

taken_in : (s : Server) (a : Asked) → IsFit s a → WaitingFit s → Fits (take_in s a)
taken_in s a fit waiting = moved s (take_in s a) refl refl (by_hand (is_operation s a), waiting.held, waiting.deferred, waiting.operation)
  where
    by_hand : (b : Bool) → AllByRecursion (IsFit s) (as_list (cond b None (Some a)))
    by_hand true = tt
    by_hand false = (fit, tt)

module _ (s : Server) (none : s.hand ≡ None) (fit : WaitingFit s) where
  at_first : Fits s
  at_first = placed s (empty_hand s none) fit

  drops_fit : WaitingFit (drops s).state
  drops_fit = out_fit s at_first

  module _ (client : ℕ) (from_one : 1 ≤ client) (upto : client ≤ s.clients) where
    asks_fit : (conn tid : ℕ) (asked : Request) (b : Bool) → (is_current s client conn && knows_asked s asked) ≡ b → WaitingFit (cond b (ask s (asked_by client tid asked)) (drops s)).state
    asks_fit conn tid asked false is = drops_fit
    asks_fit conn tid asked true is =
        let a = asked_by client tid asked in
        let known = (both (is_current s client conn) (knows_asked s asked) is).1 in
        row_fit (take_in s a) (treat false (take_in s a) a) (taken_in s a (record { from_one = from_one; upto = upto; known = known }) fit)

    acts_fit : (done : List Act) (b : Bool) → WaitingFit (cond b (row_of s done) (drops s)).state
    acts_fit done false = drops_fit
    acts_fit done true = row_fit s done at_first

    module _ (conn : ℕ) (claims : List Claim) (flushes : List FlushMsg) where
      abbrev returned : Server
      returned = acts s (come_back s client claims flushes)

      abbrev now : Server
      now = back s client conn claims flushes None

      hand_fits : (o : Option Asked) → AllByRecursion (IsFit returned) (as_list o) → AllByRecursion (IsFit now) (as_list o)
      hand_fits None all = tt
      hand_fits (Some a) all = (fit_later returned now a (later_same returned now refl refl) all.0, tt)

      back_fits : (o : Option Asked) → IsNewBrought now o → Fits (back s client conn claims flushes o)
      back_fits None new = placed now (hand_fits returned.hand (all_fit (come_back s client claims flushes) s at_first).0) (back_fit s client conn claims flushes none fit)
      back_fits (Some a) new = taken_in now a new.fit (back_fit s client conn claims flushes none fit)

      with_fits : (t : Server) (o : Option Asked) → Fits t → WaitingFit (connect_with t o).state
      with_fits t o is =
          let u = acts t (treat_brought t o) in
          let list = then_held (1 + length u.held) u (decide_anew u) in
          out_fit (acts u list) (all_fit list u (all_fit (treat_brought t o) t is))

      connects_fit : (o : Option (ℕ × Request)) (b : Bool) → may_connect s client conn claims flushes (brought client o) ≡ b → WaitingFit (cond b (connect_with (back s client conn claims flushes (brought client o)) (brought client o)) (drops s)).state
      connects_fit o false is = drops_fit
      connects_fit o true is =
          with_fits (back s client conn claims flushes (brought client o)) (brought client o) (back_fits (brought client o) (back_new s client conn claims flushes o from_one upto is))

    from_fit : (m : ToServer) → WaitingFit (taken_from s client m).state
    from_fit (Connect conn claims flushes asked) = connects_fit conn claims flushes asked (may_connect s client conn claims flushes (brought client asked)) refl
    from_fit (Ask conn tid asked) = asks_fit conn tid asked (is_current s client conn && knows_asked s asked) refl
    from_fit (Flush conn f) = acts_fit (on_flush client s f) (is_current s client conn && knows_file s f.ino)
    from_fit (DropRead conn ino) = acts_fit (on_drop client s ino) (is_current s client conn)
    from_fit (Purged id) = drops_fit
    from_fit (Deleted ino) = drops_fit

    pub take_fit : (m : ToServer) → WaitingFit (on_take s client m).state
    take_fit m = by_test (to_server_fits m)
      where
        by_test : (b : Bool) → WaitingFit (cond b (taken_from s client m) (drops s)).state
        by_test true = from_fit m
        by_test false = drops_fit

  pub report_fit : (m : ToServer) → WaitingFit (on_report s m).state
  report_fit m = row_fit s (reported s m) at_first

  turned_fit : (o : Option (List Act)) → WaitingFit (after s (option_map (row_of s) o))
  turned_fit None = fit
  turned_fit (Some done) = row_fit s done at_first

  pub tend_fit : WaitingFit (after s (on_tend s))
  tend_fit = turned_fit (turn s)

pub commit_fit : (s : Server) → WaitingFit s → WaitingFit (committed s).state
commit_fit s fit =
    waiting_of (committed s).state (moved s (committed s).state refl refl (tt, fit.held, fit.deferred, fit.operation))

pub restart_fit : (s : Server) (upto : ℕ) → WaitingFit (restarted s upto).state
restart_fit s upto = let was = row_fit (left_with s upto) (restarts (left_with s upto)) (tt, tt, tt, tt) in record { held = was.held; deferred = was.deferred; operation = was.operation }

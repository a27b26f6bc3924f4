-- A client with its new connection.
use Rattle.std.proofs.Common.{◌≡◌, ◌≤◌, ℕ, List, [], ◌∷◌, Bool, true, false, true≢false, not, cond, filter, Option, None, Some, refl, sym, subst, ◌∙◌}
use Rattle.std.specs.Prelude.{◌&&◌, ◌||◌, ◌==◌, nat_lt}
use Rattle.std.specs.List.{list_any, list_all, AllByRecursion}
use Rattle.plain_types.specs.declared.history.Sent.{Sent}
use Rattle.plain_types.specs.declared.message.Claim.{Claim}
use Rattle.plain_types.specs.declared.message.FlushMsg.{FlushMsg}
use Rattle.plain_types.specs.declared.message.ToServer.TheVariants.{Connect}
use Rattle.plain_types.specs.declared.request.Request.{Request}
use Rattle.step_table.specs.Acts.{acts, as_list, hand_out, of_client}
use Rattle.step_table.specs.Flushes.{brought, come_back, knows_brought, knows_file, may_connect, not_of}
use Rattle.step_table.specs.Row.{Row}
use Rattle.step_table.specs.ServerRows.{back, connect, connect_with, drops, taken_from}
use Rattle.step_table.specs.ServerState.{Asked, Server, connection}
use Rattle.mds_state.specs.Acted.{Stands}
use Rattle.mds_state.specs.Parts.{Parts}
use Rattle.mds_state.specs.Stands.{StandsFor}
use Rattle.mds_state.specs.Fits.{AllPast, IsFit, OneEach, WaitingFit}
use Rattle.mds_requests.specs.Passes.{after_connect}
use Rattle.mds_requests.specs.Ready.{IsNewBrought, IsReady, MayConnect}
use Rattle.mds_requests.proofs.Counts.{held_once, still_one, wait_once}
use Rattle.mds_requests.proofs.Later.{acts_later, fit_later, later_same}
use Rattle.mds_requests.proofs.Turned.{as_it_is}
use Rattle.mds_rows.specs.Given.{Gives}
use Rattle.mds_rows.specs.May.{CanTakeFrom, MayTakeFrom}
use Rattle.mds_rows.proofs.Rules.{both, row_if, still_fit}

-- the requests that are left are some of those that waited
module _ (P Q : Asked → Type 0) (go : (a : Asked) → P a → Q a) (p : Asked → Bool) where
  left_all : (xs : List Asked) → AllByRecursion P xs → AllByRecursion Q (filter p xs)
  left_all [] all = tt
  left_all (a ∷ xs) all = step (p a) (left_all xs all.1)
    where
      step : (b : Bool) → AllByRecursion Q (filter p xs) → AllByRecursion Q (cond b (a ∷ filter p xs) (filter p xs))
      step true rest = (go a all.0, rest)
      step false rest = rest

neither : (a b : Bool) → (a || b) ≡ false → (a ≡ false) × (b ≡ false)
neither true b none = absurd (true≢false none)
neither false b none = (refl, none)

none_left : (p q : Asked → Bool) (xs : List Asked) → list_any q xs ≡ false → list_any q (filter p xs) ≡ false
none_left p q [] none = refl
none_left p q (a ∷ xs) none =
    let parts = neither (q a) (list_any q xs) none in
    step (p a) parts.0 (none_left p q xs parts.1)
  where
    step : (b : Bool) → q a ≡ false → list_any q (filter p xs) ≡ false → list_any q (cond b (a ∷ filter p xs) (filter p xs)) ≡ false
    step true is rest = rw is rest
    step false is rest = rest

one_left : (p : Asked → Bool) (xs : List Asked) → OneEach xs → OneEach (filter p xs)
one_left p [] one = tt
one_left p (a ∷ xs) one = step (p a) (one_left p xs one.1)
  where
    step : (b : Bool) → OneEach (filter p xs) → OneEach (cond b (a ∷ filter p xs) (filter p xs))
    step true rest = (none_left p (λ (b : Asked). b.client == a.client) xs one.0, rest)
    step false rest = rest

-- none of them is of the client
none_of : (client : ℕ) (xs : List Asked) → list_any (of_client client) (not_of client xs) ≡ false
none_of client [] = refl
none_of client (a ∷ xs) = step (of_client client a) refl (none_of client xs)
  where
    step : (b : Bool) → of_client client a ≡ b → list_any (of_client client) (not_of client xs) ≡ false → list_any (of_client client) (cond (not b) (a ∷ not_of client xs) (not_of client xs)) ≡ false
    step true is rest = rest
    step false is rest = (λ i. is i || list_any (of_client client) (not_of client xs)) ∙ rest

module _ (s : Server) (client conn : ℕ) (claims : List Claim) (flushes : List FlushMsg) where
  -- with its claims and flushes, and then with its number
  abbrev returned : Server
  returned = acts s (come_back s client claims flushes)

  abbrev now : Server
  now = back s client conn claims flushes None

  still_fits : (a : Asked) → IsFit returned a → IsFit now a
  still_fits a fit = fit_later returned now a (later_same returned now refl refl) fit

  pub back_fit : s.hand ≡ None → WaitingFit s → WaitingFit now
  back_fit none fit =
      let was = still_fit s (come_back s client claims flushes) none fit in
      record {
        held = left_all (IsFit returned) (IsFit now) still_fits (λ a. not (of_client client a)) returned.held was.held;
        deferred = left_all (IsFit returned) (IsFit now) still_fits (λ a. not (of_client client a)) returned.deferred was.deferred;
        operation = same was.operation;
      }
    where
      same : AllByRecursion (IsFit returned) (as_list returned.operation) → AllByRecursion (IsFit now) (as_list returned.operation)
      same all = by_operation returned.operation all
        where
          by_operation : (o : Option Asked) → AllByRecursion (IsFit returned) (as_list o) → AllByRecursion (IsFit now) (as_list o)
          by_operation None all = tt
          by_operation (Some a) all = (still_fits a all.0, tt)

  pub connect_row : (asked : Option Asked) → may_connect s client conn claims flushes asked ≡ true → connect s client conn claims flushes asked ≡ connect_with (back s client conn claims flushes asked) asked
  connect_row asked is = row_if (may_connect s client conn claims flushes asked) (connect_with (back s client conn claims flushes asked) asked) (drops s) is

  new_by : (o : Option (ℕ × Request)) → 1 ≤ client → client ≤ s.clients → knows_brought s (brought client o) ≡ true → IsNewBrought now (brought client o)
  new_by None from_one upto known = tt
  new_by (Some r) from_one upto known =
      let a : Asked = record { client = client; tid = r.0; request = r.1 } in
      record {
        fit = still_fits a (fit_later s returned a (acts_later (come_back s client claims flushes) s) (record { from_one = from_one; upto = upto; known = known }));
        alone = none_of client returned.held;
      }

  pub back_new : (o : Option (ℕ × Request)) → 1 ≤ client → client ≤ s.clients → may_connect s client conn claims flushes (brought client o) ≡ true → IsNewBrought now (brought client o)
  back_new o from_one upto is =
      new_by o from_one upto
      ((both (nat_lt (connection s client) conn && list_all (λ (k : Claim). knows_file s k.ino) claims && list_all (λ (f : FlushMsg). knows_file s f.ino) flushes) (knows_brought s (brought client o)) is).1)

  pub back_ready : (o : Option (ℕ × Request)) → s.hand ≡ None → MayTakeFrom s client (Connect conn claims flushes o) → may_connect s client conn claims flushes (brought client o) ≡ true → IsReady now (after_connect now (brought client o))
  back_ready o none may is = record {
    fit = back_fit none may.calm.fit;
    once = one_left (λ a. not (of_client client a)) returned.held (held_once returned (wait_once returned (still_one s (come_back s client claims flushes) may.calm.once)));
    past = by_brought (brought client o) (subst (λ (row : Row Server). AllPast row.state.entries) (connect_row (brought client o) is) may.past);
  }
    where
      by_brought : (a : Option Asked) → AllPast (connect_with (back s client conn claims flushes a) a).state.entries → AllPast (after_connect now a).entries
      by_brought None past = past
      by_brought (Some a) past = past

-- the connection in the code
module _ (p q : Parts) (client conn : ℕ) (claims : List Claim) (flushes : List FlushMsg) (o : Option (ℕ × Request)) (from_one : 1 ≤ client) (upto : client ≤ p.clients)
    (well : (s : Server) → StandsFor p None s → may_connect s client conn claims flushes (brought client o) ≡ true)
    (returns : (s : Server) (asked : Option Asked) → Stands p s → may_connect s client conn claims flushes asked ≡ true → Stands q (back s client conn claims flushes None)) where
  pub can_connect : (a : Option Asked) → a ≡ brought client o → CanTakeFrom p client (Connect conn claims flushes o) → MayConnect q a
  can_connect a is can =
      let s = can.state in
      let stands = can.stands in
      subst (MayConnect q) (sym is) (record {
        state = back s client conn claims flushes None;
        stands = returns s (brought client o) (as_it_is p None s stands) (well s stands);
        new = back_new s client conn claims flushes o from_one (subst (λ (n : ℕ). client ≤ n) stands.clients upto) (well s stands);
        ready = back_ready s client conn claims flushes o stands.hand can.may (well s stands);
      })

  pub connected_given : (r u : Parts) (sent : List Sent) (a : Option Asked) → a ≡ brought client o
      → ((s : Server) → Stands q s → IsNewBrought s a → IsReady s (after_connect s a) → Stands r (after_connect s a))
      → ((s : Server) (taken : Option Asked) → StandsFor r taken s → Gives u sent (hand_out s))
      → (s : Server) → StandsFor p None s → MayTakeFrom s client (Connect conn claims flushes o) → Gives u sent (taken_from s client (Connect conn claims flushes o))
  connected_given r u sent a is table row s stands may =
      let n = back s client conn claims flushes None in
      let b = brought client o in
      let new = back_new s client conn claims flushes o from_one (subst (λ (n : ℕ). client ≤ n) stands.clients upto) (well s stands) in
      let ready = back_ready s client conn claims flushes o stands.hand may (well s stands) in
      let after = table n (returns s b (as_it_is p None s stands) (well s stands)) (subst (IsNewBrought n) (sym is) new) (subst (λ (d : Option Asked). IsReady n (after_connect n d)) (sym is) ready) in
      subst (λ (one : Row Server). Gives u sent one) (sym (connect_row s client conn claims flushes b (well s stands)))
      (by_brought s b (row (after_connect n b) (after_connect n b).hand (subst (λ (d : Option Asked). Stands r (after_connect n d)) is after)))
    where
      by_brought : (s : Server) (d : Option Asked) → Gives u sent (hand_out (after_connect (back s client conn claims flushes None) d)) → Gives u sent (connect_with (back s client conn claims flushes d) d)
      by_brought s None gives = gives
      by_brought s (Some e) gives = gives

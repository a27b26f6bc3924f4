-- Who is no client: its share of a file rises only where all clients are connected.
use Rattle.std.proofs.Common.{◌≡◌, ◌≤◌, ℕ, ◌+◌, List, [], ◌∷◌, Bool, true, false, cond, Option, None, Some, refl, sym, ◌∙◌, subst, IfSome, arith, ◌⊎◌, inl, inr}
use Rattle.std.proofs.lemmas.Bool.Decides.{nat_tests}
use Rattle.std.specs.Prelude.{◌==◌}
use Rattle.snap_ids.specs.declared.id.Ino.{Ino}
use Rattle.plain_types.specs.declared.history.Step.{Step}
use Rattle.plain_types.specs.declared.history.Step.TheVariants.{Op, Flush as FlushStep, ClientFromServer, ClientFromStore, ServerTakes, Commit, Restart, Tend, StoreTakes}
use Rattle.plain_types.specs.declared.message.ToServer.{ToServer}
use Rattle.plain_types.specs.declared.message.ToServer.TheVariants.{Connect, Ask, Flush, DropRead, Purged, Deleted}
use Rattle.step_table.specs.Row.{Row}
use Rattle.step_table.specs.ServerState.{Asked, Server, all_connected, welcome}
use Rattle.step_table.specs.Acts.{Act, Wait, Hold, Raise, TakeHeld, act, acts, each}
use Rattle.step_table.specs.Requests.{treat, treat_known, kept_answer}
use Rattle.step_table.specs.Flushes.{on_flush as flush_rule, on_drop, asked_by, brought, take_in, take_in_brought, connected, come_back, treat_brought}
use Rattle.step_table.specs.Background.{turn, turn_at}
use Rattle.plain_journal.specs.Table.{outstanding}
use Rattle.step_table.specs.ServerRows.{on_take, on_commit, on_restart, on_tend, left_with, restarts, reported}
use Rattle.step_table.specs.ClientState.{Client, new_client}
use Rattle.step_table.specs.ClientLines.{on_op, on_flush}
use Rattle.step_table.specs.ClientTakes.{on_told, on_stored}
use Rattle.step_table.specs.World.{World, Made, row, after_row, with_client, with_message, with_first, some_row, at_client, at_server, client, pop, store_node, client_takes, client_takes_stored, server_takes, server_takes_report, store_takes, store_takes_order}
use Rattle.run_laws.specs.Links.{mine}
use Rattle.run_laws.proofs.Acts.{Fit, fit_append, KeptByActs, acts_keep, row_keeps, turn_keeps, commit_keeps, restart_keeps, take_ask, take_connect, take_flush, take_drop, take_purged, take_deleted}
use Rattle.run_laws.proofs.Bounding.{RiseFit, my_rise, rise_act, connected_act}
use Rattle.run_laws.proofs.Channels.{IsHead, popped}
use Rattle.run_laws.proofs.Giving.{MyFit}
use Rattle.run_laws.proofs.Granting.{reported_my, restarts_my, flush_other, drop_other, back_other}
use Rattle.run_laws.proofs.Shares.{shares}
use Rattle.run_laws.proofs.Sharers.{connected_more}
use Rattle.run_laws.proofs.Strangers.{Strange, put_back}

-- its shares are no more than these, or all clients are connected
abbrev pub Few : ℕ → (Ino → ℕ) → Server → Type 0
Few n t s = (ino : Ino) → shares n ino s.holders ≤ t ino

abbrev pub FewUnless : ℕ → (Ino → ℕ) → Server → Type 0
FewUnless n t s = (all_connected s ≡ true) ⊎ Few n t s

one_few : (n : ℕ) (t : Ino → ℕ) (s : Server) (a : Act) → RiseFit n s a → FewUnless n t s → FewUnless n t (act s a)
one_few n t s a fit (inl connected_all) = inl (connected_act s a ∙ connected_all)
one_few n t s a fit (inr few) = by_rise (rise_act n s a fit)
  where
    by_rise : (all_connected s ≡ true) ⊎ ((ino : Ino) → shares n ino (act s a).holders ≤ shares n ino s.holders) → FewUnless n t (act s a)
    by_rise (inl connected_all) = inl (connected_act s a ∙ connected_all)
    by_rise (inr less) = inr (λ ino. let one = less ino in let most = few ino in omega (arith, one, most))

-- where all are connected, any acts fit
connected_fits : (n : ℕ) (list : List Act) (s : Server) → all_connected s ≡ true → Fit (RiseFit n) s list
connected_fits n [] s connected_all = tt
connected_fits n (a ∷ list) s connected_all = (one a, connected_fits n list (act s a) (connected_act s a ∙ connected_all))
  where
    one : (a : Act) → RiseFit n s a
    one (Hold h) = inl connected_all
    one (Raise x ino upto) = inl connected_all
    one a = tt

treat_rise : (n : ℕ) (s : Server) (alone : Bool) (a : Asked) → Fit (RiseFit n) s (treat alone s a)
treat_rise n s alone a = by_test (all_connected s) refl
  where
    by_test : (b : Bool) → all_connected s ≡ b → Fit (RiseFit n) s (cond b (treat_known alone s a (kept_answer s a)) (Wait ∷ []))
    by_test true connected_all = connected_fits n (treat_known alone s a (kept_answer s a)) s connected_all
    by_test false connected_all = (tt, tt)

anew_rise : (n : ℕ) (list : List Asked) (s : Server) → Fit (RiseFit n) s (each (λ t (a : Asked). TakeHeld a.client ∷ treat false (act t (TakeHeld a.client)) a) s list)
anew_rise n [] s = tt
anew_rise n (a ∷ list) s =
    let t = act s (TakeHeld a.client) in
    let first = TakeHeld a.client ∷ treat false t a in
    fit_append (RiseFit n) s first (each (λ t (a : Asked). TakeHeld a.client ∷ treat false (act t (TakeHeld a.client)) a) (acts s first) list) (tt, treat_rise n t false a) (anew_rise n list (acts s first))

by_few : (n : ℕ) (t : Ino → ℕ) → KeptByActs (RiseFit n) (FewUnless n t) (λ r. FewUnless n t r.state)
by_few n t = record { one = one_few n t; hands = λ s few. few; anew = λ s few. anew_rise n s.held s }

-- what fits the view of a client fits
somebody : Client
somebody = new_client 0 0 []

rise_fit : (n : ℕ) (list : List Act) (s : Server) → Fit (MyFit n somebody) s list → Fit (RiseFit n) s list
rise_fit n [] s fit = tt
rise_fit n (a ∷ list) s fit = (my_rise n somebody s a fit.0, rise_fit n list (act s a) fit.1)

takes_few : (n : ℕ) (t : Ino → ℕ) (s : Server) (x : ℕ) (m : ToServer) → (x == n) ≡ false → Few n t s → FewUnless n t (on_take s x m).state
takes_few n t s x (Connect conn said flushes asked) isnt few = take_connect (by_few n t) s x conn said flushes asked (inr few) (λ above. (in_hand (brought x asked) next_few, treats next (brought x asked)))
  where
    now : Server
    now = acts s (come_back s x said flushes)

    next : Server
    next = welcome (connected now x conn) x conn

    now_few : FewUnless n t now
    now_few = acts_keep (one_few n t) (come_back s x said flushes) s (rise_fit n (come_back s x said flushes) s (back_other n x somebody isnt s said flushes)) (inr few)

    next_few : FewUnless n t next
    next_few = either now_few
      where
        either : FewUnless n t now → FewUnless n t next
        either (inl connected_all) = inl (connected_more x conn now.current now.clients connected_all)
        either (inr few) = inr few

    in_hand : (o : Option Asked) → FewUnless n t next → FewUnless n t (take_in_brought next o)
    in_hand None few = few
    in_hand (Some a) few = few

    treats : (u : Server) (o : Option Asked) → Fit (RiseFit n) (take_in_brought u o) (treat_brought (take_in_brought u o) o)
    treats u None = tt
    treats u (Some a) = treat_rise n (take_in u a) false a
takes_few n t s x (Ask conn tid asked) isnt few = take_ask (by_few n t) s x conn tid asked (inr few) (λ is. (inr few, treat_rise n (take_in s (asked_by x tid asked)) false (asked_by x tid asked)))
takes_few n t s x (Flush conn f) isnt few = take_flush (by_few n t) s x conn f (inr few) (rise_fit n (flush_rule x s f) s (flush_other n x somebody isnt s f))
takes_few n t s x (DropRead conn ino) isnt few = take_drop (by_few n t) s x conn ino (inr few) (rise_fit n (on_drop x s ino) s (drop_other n x somebody isnt s ino))
takes_few n t s x (Purged id) isnt few = take_purged (by_few n t) s x id (inr few)
takes_few n t s x (Deleted ino) isnt few = take_deleted (by_few n t) s x ino (inr few)

turn_rise : (n : ℕ) (s : Server) → IfSome (turn s) (Fit (RiseFit n) s)
turn_rise n s = by_test (all_connected s) refl
  where
    some : all_connected s ≡ true → (o : Option (List Act)) → IfSome o (Fit (RiseFit n) s)
    some connected_all None = tt
    some connected_all (Some list) = connected_fits n list s connected_all

    by_test : (b : Bool) → all_connected s ≡ b → IfSome (cond b (turn_at s (outstanding s.entries)) None) (Fit (RiseFit n) s)
    by_test true connected_all = some connected_all (turn_at s (outstanding s.entries))
    by_test false connected_all = tt

-- one step
pub few_step : (n : ℕ) (t : Ino → ℕ) (w : World) (step : Step) → Strange n w → (client w.clients n ≡ None → Few n t w.server) → client (after_row w (row w step)).clients n ≡ None → FewUnless n t (after_row w (row w step)).server
few_step n t w step strange few = by_step step
  where
    Good : Option Made → Type 0
    Good o = client (after_row w o).clients n ≡ None → FewUnless n t (after_row w o).server

    still : client w.clients n ≡ None → FewUnless n t w.server
    still none = inr (few none)

    by_client : (x : ℕ) (go_on : Client → Option Made) → ((c : Client) → Good (go_on c)) → Good (with_client w x go_on)
    by_client x go_on keeps = found (client w.clients x)
      where
        found : (o : Option Client) → Good (elim o [ None ↦ None | Some c ↦ go_on c ])
        found None = still
        found (Some c) = keeps c

    by_message : {M : Type 0} (x : ℕ) (channels : List (ℕ × M)) (go_on : List (ℕ × M) → M → Option Made) → ((m : M) (rest : List (ℕ × M)) → IsHead x channels (m, rest) → Good (go_on rest m)) → Good (with_message x channels go_on)
    by_message {M} x channels go_on keeps = found (pop x channels) (popped x channels)
      where
        found : (o : Option (M × List (ℕ × M))) → IfSome o (IsHead x channels) → Good (elim o [ None ↦ None | Some f ↦ go_on f.1 f.0 ])
        found None head = still
        found (Some f) head = keeps f.0 f.1 head

    by_first : {M : Type 0} (channel : List M) (go_on : List M → M → Option Made) → ((m : M) (rest : List M) → Good (go_on rest m)) → Good (with_first channel go_on)
    by_first [] go_on keeps = still
    by_first (m ∷ rest) go_on keeps = keeps m rest

    client_row : (x : ℕ) (o : Option (Row Client)) → Good (some_row (at_client x w None) o)
    client_row x None = still
    client_row x (Some r) = λ none. still (put_back w.clients n x r.state none)

    server_row : (o : Option (Row Server)) → (Few n t w.server → IfSome o (λ r. FewUnless n t r.state)) → Good (some_row (at_server w None) o)
    server_row None keeps = still
    server_row (Some r) keeps = λ none. keeps (few none)

    took_one : (x : ℕ) (m : ToServer) (rest : List (ℕ × ToServer)) → IsHead x w.up (m, rest) → client w.clients n ≡ None → FewUnless n t (on_take w.server x m).state
    took_one x m rest head none = takes_few n t w.server x m other (few none)
      where
        apart : x ≡ n → ⊥
        apart same = let e : mine n w.up ≡ m ∷ mine n rest = subst (λ (y : ℕ). mine y w.up ≡ m ∷ mine y rest) same head.0 in clash (sym (strange none).0 ∙ e)
          where
            clash : [] ≡ m ∷ mine n rest → ⊥
            clash e = cc

        other : (x == n) ≡ false
        other = grind (arith, nat_tests, apart)

    took : (x : ℕ) (b : Bool) → Good (cond b (with_first w.reported (server_takes_report w)) (with_message x w.up (server_takes x w)))
    took x true = by_first w.reported (server_takes_report w) (λ m rest none. row_keeps (by_few n t) w.server (reported w.server m) (rise_fit n (reported w.server m) w.server (reported_my n somebody w.server m)) (inr (few none)))
    took x false = by_message x w.up (server_takes x w) (took_one x)

    stored : (x : ℕ) (b : Bool) → Good (cond b (with_first w.ordered (store_takes_order w)) (with_message x w.asked (store_takes x w)))
    stored x true = by_first w.ordered (store_takes_order w) (λ m rest. still)
    stored x false = by_message x w.asked (store_takes x w) (λ m rest head. still)

    by_step : (step : Step) → Good (row w step)
    by_step (Op x) = by_client x _ (λ c. client_row x (on_op c))
    by_step (FlushStep x) = by_client x _ (λ c. client_row x (on_flush c))
    by_step (ClientFromServer x) = by_message x w.down (client_takes x w) (λ m rest head. by_client x _ (λ c none. still (put_back w.clients n x (on_told c m).state none)))
    by_step (ClientFromStore x) = by_message x w.stored (client_takes_stored x w) (λ m rest head. by_client x _ (λ c none. still (put_back w.clients n x (on_stored c m).state none)))
    by_step (ServerTakes x) = took x (x == store_node w)
    by_step Commit = server_row (on_commit w.server) (λ now. commit_keeps {Q = FewUnless n t} {After = λ r. FewUnless n t r.state} (λ r e after. after) (λ s so. so) w.server (inr now))
    by_step (Restart k) = server_row (on_restart w.server k) (λ now. restart_keeps (λ r e after. after) (by_few n t) w.server k (λ fits. (inr (λ ino. omega arith), rise_fit n (restarts (left_with w.server (w.server.durable + k))) (left_with w.server (w.server.durable + k)) (restarts_my n somebody (left_with w.server (w.server.durable + k))))))
    by_step Tend = server_row (on_tend w.server) (λ now. turn_keeps (by_few n t) w.server (turn_rise n w.server) (inr now))
    by_step (StoreTakes x) = stored x (x == 0)

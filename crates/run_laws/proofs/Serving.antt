-- What each row of the server gives, each step of a run gives.
use Rattle.std.proofs.Common.{◌≡◌, ℕ, ◌+◌, List, [], ◌∷◌, ◌++◌, zero, suc, append_assoc, map, Bool, true, false, cond, Option, None, Some, refl, subst, IfSome, ◌⊎◌, inl, inr, arith}
use Rattle.std.proofs.lemmas.List.{append-nil}
use Rattle.std.proofs.lemmas.Bool.Decides.{nat_tests}
use Rattle.std.specs.Prelude.{◌==◌}
use Rattle.plain_types.specs.declared.script.Script.{Script}
use Rattle.plain_types.specs.declared.history.Step.{Step}
use Rattle.plain_types.specs.declared.history.Step.TheVariants.{Op, Flush, ClientFromServer, ClientFromStore, ServerTakes, Commit, Restart, Tend, StoreTakes}
use Rattle.plain_types.specs.declared.message.ToServer.{ToServer}
use Rattle.step_table.specs.Restarts.{is_restart}
use Rattle.step_table.specs.Row.{Row}
use Rattle.step_table.specs.ServerState.{Server, up_to}
use Rattle.step_table.specs.ServerRows.{on_take, on_report, on_commit, on_restart, on_tend}
use Rattle.step_table.specs.ClientState.{Client, new_client}
use Rattle.step_table.specs.ClientLines.{on_op, on_flush}
use Rattle.step_table.specs.ClientTakes.{on_told, on_stored}
use Rattle.step_table.specs.World.{World, start, lines_of, Made, row, after_row, after, with_client, with_message, with_first, some_row, at_client, at_server, client, put, pop, store_node, client_takes, client_takes_stored, server_takes, server_takes_report, store_takes, store_takes_order}

-- what holds of the server before gives what holds of its row, be it a restart or another
pub record ServerGives (P : Server → Type 0) (After : Bool → Server → Row Server → Type 0) : Type 0 where
  pub takes : (s : Server) (client : ℕ) (m : ToServer) → P s → After false s (on_take s client m)
  pub reports : (s : Server) (m : ToServer) → P s → After false s (on_report s m)
  pub commits : (s : Server) → P s → IfSome (on_commit s) (After false s)
  pub restarts : (s : Server) (k : ℕ) → P s → IfSome (on_restart s k) (After true s)
  pub tends : (s : Server) → P s → IfSome (on_tend s) (After false s)

-- a step is a row of the server, or leaves it as it is
pub record IsRowOf (After : Server → Row Server → Type 0) (w : World) (made : Made) : Type 0 where
  pub row : Row Server
  pub gives : After w.server row
  pub node : made.node ≡ 0
  pub sent : made.sent ≡ row.sent
  pub state : made.world.server ≡ row.state

pub record IsOther (w : World) (made : Made) : Type 0 where
  pub state : made.world.server ≡ w.server
  pub away : made.node ≡ 0 → ⊥

abbrev pub Served : (Server → Row Server → Type 0) → World → Made → Type 0
Served After w made = IsRowOf After w made ⊎ IsOther w made

-- no client is numbered as the server is
abbrev pub NoClient : World → Type 0
NoClient w = client w.clients 0 ≡ None

pub served : {P : Server → Type 0} {After : Bool → Server → Row Server → Type 0} → ServerGives P After → (w : World) (step : Step) → NoClient w → P w.server → IfSome (row w step) (Served (After (is_restart step)) w)
served {P} {After} gives w step alone holds = by_step step
  where
    Good : Bool → Option Made → Type 0
    Good b o = IfSome o (Served (After b) w)

    by_client : (b : Bool) (x : ℕ) (go_on : Client → Option Made) → ((c : Client) → (x ≡ 0 → ⊥) → Good b (go_on c)) → Good b (with_client w x go_on)
    by_client b x go_on keeps = found (client w.clients x) refl
      where
        found : (o : Option Client) → client w.clients x ≡ o → Good b (elim o [ None ↦ None | Some c ↦ go_on c ])
        found None is = tt
        found (Some c) is = keeps c (λ zero. clash (subst (λ (n : ℕ). client w.clients n ≡ Some c) zero is))
          where
            clash : client w.clients 0 ≡ Some c → ⊥
            clash other = cc

    by_message : {M : Type 0} (b : Bool) (x : ℕ) (channels : List (ℕ × M)) (go_on : List (ℕ × M) → M → Option Made) → ((m : M) (rest : List (ℕ × M)) → Good b (go_on rest m)) → Good b (with_message x channels go_on)
    by_message {M} b x channels go_on keeps = found (pop x channels)
      where
        found : (o : Option (M × List (ℕ × M))) → Good b (elim o [ None ↦ None | Some f ↦ go_on f.1 f.0 ])
        found None = tt
        found (Some f) = keeps f.0 f.1

    by_first : {M : Type 0} (b : Bool) (channel : List M) (go_on : List M → M → Option Made) → ((m : M) (rest : List M) → Good b (go_on rest m)) → Good b (with_first channel go_on)
    by_first b [] go_on keeps = tt
    by_first b (m ∷ rest) go_on keeps = keeps m rest

    client_row : (b : Bool) (x : ℕ) (o : Option (Row Client)) → (x ≡ 0 → ⊥) → Good b (some_row (at_client x w None) o)
    client_row b x None away = tt
    client_row b x (Some r) away = inr (record { state = refl; away = away })

    server_row : (b : Bool) (o : Option (Row Server)) → IfSome o (After b w.server) → Good b (some_row (at_server w None) o)
    server_row b None holds = tt
    server_row b (Some r) holds = inl (record { row = r; gives = holds; node = refl; sent = refl; state = refl })

    store : store_node w ≡ 0 → ⊥
    store is = omega (arith, is)

    took : (x : ℕ) (b : Bool) → Good false (cond b (with_first w.reported (server_takes_report w)) (with_message x w.up (server_takes x w)))
    took x true = by_first false w.reported (server_takes_report w) (λ m rest. inl (record { row = on_report w.server m; gives = gives.reports w.server m holds; node = refl; sent = refl; state = refl }))
    took x false = by_message false x w.up (server_takes x w) (λ m rest. inl (record { row = on_take w.server x m; gives = gives.takes w.server x m holds; node = refl; sent = refl; state = refl }))

    stored : (x : ℕ) (b : Bool) → Good false (cond b (with_first w.ordered (store_takes_order w)) (with_message x w.asked (store_takes x w)))
    stored x true = by_first false w.ordered (store_takes_order w) (λ m rest. inr (record { state = refl; away = store }))
    stored x false = by_message false x w.asked (store_takes x w) (λ m rest. inr (record { state = refl; away = store }))

    by_step : (step : Step) → Good (is_restart step) (row w step)
    by_step (Op x) = by_client false x _ (λ c away. client_row false x (on_op c) away)
    by_step (Flush x) = by_client false x _ (λ c away. client_row false x (on_flush c) away)
    by_step (ClientFromServer x) = by_message false x w.down (client_takes x w) (λ m rest. by_client false x _ (λ c away. inr (record { state = refl; away = away })))
    by_step (ClientFromStore x) = by_message false x w.stored (client_takes_stored x w) (λ m rest. by_client false x _ (λ c away. inr (record { state = refl; away = away })))
    by_step (ServerTakes x) = took x (x == store_node w)
    by_step Commit = server_row false (on_commit w.server) (gives.commits w.server holds)
    by_step (Restart k) = server_row true (on_restart w.server k) (gives.restarts w.server k holds)
    by_step Tend = server_row false (on_tend w.server) (gives.tends w.server holds)
    by_step (StoreTakes x) = stored x (x == 0)

-- no client is numbered 0, along each run
put_none : (clients : List (ℕ × Client)) (n : ℕ) (new : Client) → client clients 0 ≡ None → client (put clients n new) 0 ≡ None
put_none [] n new alone = refl
put_none (c ∷ clients) n new alone = by_test (c.0 == 0) refl alone (put_none clients n new)
  where
    by_test : (b : Bool) → (c.0 == 0) ≡ b → cond b (Some c.1) (client clients 0) ≡ None → (client clients 0 ≡ None → client (put clients n new) 0 ≡ None) → cond b (Some (cond (c.0 == n) new c.1)) (client (put clients n new) 0) ≡ None
    by_test true is alone go = cc
    by_test false is alone go = go alone

pub no_client_step : (w : World) (step : Step) → NoClient w → NoClient (after_row w (row w step))
no_client_step w step alone = by_step step
  where
    Good : Option Made → Type 0
    Good o = NoClient (after_row w o)

    by_client : (x : ℕ) (go_on : Client → Option Made) → ((c : Client) → Good (go_on c)) → Good (with_client w x go_on)
    by_client x go_on keeps = found (client w.clients x)
      where
        found : (o : Option Client) → Good (elim o [ None ↦ None | Some c ↦ go_on c ])
        found None = alone
        found (Some c) = keeps c

    by_message : {M : Type 0} (x : ℕ) (channels : List (ℕ × M)) (go_on : List (ℕ × M) → M → Option Made) → ((m : M) (rest : List (ℕ × M)) → Good (go_on rest m)) → Good (with_message x channels go_on)
    by_message {M} x channels go_on keeps = found (pop x channels)
      where
        found : (o : Option (M × List (ℕ × M))) → Good (elim o [ None ↦ None | Some f ↦ go_on f.1 f.0 ])
        found None = alone
        found (Some f) = keeps f.0 f.1

    by_first : {M : Type 0} (channel : List M) (go_on : List M → M → Option Made) → ((m : M) (rest : List M) → Good (go_on rest m)) → Good (with_first channel go_on)
    by_first [] go_on keeps = alone
    by_first (m ∷ rest) go_on keeps = keeps m rest

    client_row : (x : ℕ) (o : Option (Row Client)) → Good (some_row (at_client x w None) o)
    client_row x None = alone
    client_row x (Some r) = put_none w.clients x r.state alone

    server_row : (o : Option (Row Server)) → Good (some_row (at_server w None) o)
    server_row None = alone
    server_row (Some r) = alone

    took : (x : ℕ) (b : Bool) → Good (cond b (with_first w.reported (server_takes_report w)) (with_message x w.up (server_takes x w)))
    took x true = by_first w.reported (server_takes_report w) (λ m rest. alone)
    took x false = by_message x w.up (server_takes x w) (λ m rest. alone)

    stored : (x : ℕ) (b : Bool) → Good (cond b (with_first w.ordered (store_takes_order w)) (with_message x w.asked (store_takes x w)))
    stored x true = by_first w.ordered (store_takes_order w) (λ m rest. alone)
    stored x false = by_message x w.asked (store_takes x w) (λ m rest. alone)

    by_step : (step : Step) → Good (row w step)
    by_step (Op x) = by_client x _ (λ c. client_row x (on_op c))
    by_step (Flush x) = by_client x _ (λ c. client_row x (on_flush c))
    by_step (ClientFromServer x) = by_message x w.down (client_takes x w) (λ m rest. by_client x _ (λ c. put_none w.clients x (on_told c m).state alone))
    by_step (ClientFromStore x) = by_message x w.stored (client_takes_stored x w) (λ m rest. by_client x _ (λ c. put_none w.clients x (on_stored c m).state alone))
    by_step (ServerTakes x) = took x (x == store_node w)
    by_step Commit = server_row (on_commit w.server)
    by_step (Restart k) = server_row (on_restart w.server k)
    by_step Tend = server_row (on_tend w.server)
    by_step (StoreTakes x) = stored x (x == 0)

pub no_client_run : (w : World) (steps : List Step) → NoClient w → NoClient (after w steps)
no_client_run w [] alone = alone
no_client_run w (step ∷ steps) alone = no_client_run (after_row w (row w step)) steps (no_client_step w step alone)

no_client_first : (f : ℕ → Client) (n : ℕ) (more : List ℕ) → client (map (λ x. (x, f x)) more) 0 ≡ None → client (map (λ x. (x, f x)) (up_to n ++ more)) 0 ≡ None
no_client_first f zero more alone = alone
no_client_first f (suc n) more alone = rw (append_assoc (up_to n) ((n + 1) ∷ []) more) (no_client_first f n ((n + 1) ∷ more) (rw test alone))
  where
    test : ((n + 1) == 0) ≡ false
    test = grind (arith, nat_tests)

pub no_client_start : (script : Script) → NoClient (start script)
no_client_start script = subst (λ (l : List ℕ). client (map (λ x. (x, new_client x (script.clients + 1) (lines_of x script.lines))) l) 0 ≡ None) (append-nil (up_to script.clients)) (no_client_first (λ x. new_client x (script.clients + 1) (lines_of x script.lines)) script.clients [] refl)

-- a state that its rows keep
abbrev pub Keeps : (Server → Type 0) → Bool → Server → Row Server → Type 0
Keeps P b s r = P r.state

pub step_serves : {P : Server → Type 0} → ServerGives P (Keeps P) → (w : World) (step : Step) → NoClient w → P w.server → P (after_row w (row w step)).server
step_serves {P} gives w step alone holds = by_row (row w step) (served gives w step alone holds)
  where
    by_row : (o : Option Made) → IfSome o (Served (Keeps P (is_restart step)) w) → P (after_row w o).server
    by_row None is = holds
    by_row (Some made) (inl is) = rw is.state is.gives
    by_row (Some made) (inr is) = rw is.state holds

pub run_serves : {P : Server → Type 0} → ServerGives P (Keeps P) → (w : World) (steps : List Step) → NoClient w → P w.server → P (after w steps).server
run_serves gives w [] alone holds = holds
run_serves gives w (step ∷ steps) alone holds = run_serves gives (after_row w (row w step)) steps (no_client_step w step alone) (step_serves gives w step alone holds)

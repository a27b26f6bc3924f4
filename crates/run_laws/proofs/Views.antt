-- What is kept of each client with its channels and the server, each step of a run keeps.
use Rattle.std.proofs.Common.{◌≡◌, ℕ, List, [], ◌∷◌, ◌++◌, Bool, true, false, cond, Option, None, Some, refl, sym, subst, IfSome, arith}
use Rattle.std.proofs.lemmas.List.{append-nil}
use Rattle.std.proofs.lemmas.Bool.Decides.{nat_tests}
use Rattle.std.specs.Prelude.{◌==◌}
use Rattle.plain_types.specs.declared.history.Step.{Step}
use Rattle.plain_types.specs.declared.history.Step.TheVariants.{Op, Flush, ClientFromServer, ClientFromStore, ServerTakes, Commit, Restart, Tend, StoreTakes}
use Rattle.plain_types.specs.declared.message.FromStore.{FromStore}
use Rattle.plain_types.specs.declared.message.ToClient.{ToClient}
use Rattle.plain_types.specs.declared.message.ToServer.{ToServer}
use Rattle.step_table.specs.Row.{Row}
use Rattle.step_table.specs.ServerState.{Server}
use Rattle.step_table.specs.ServerRows.{on_take, on_report, on_commit, on_restart, on_tend}
use Rattle.step_table.specs.ClientState.{Client}
use Rattle.step_table.specs.ClientLines.{on_op, on_flush}
use Rattle.step_table.specs.ClientTakes.{on_told, on_stored}
use Rattle.step_table.specs.World.{World, Made, row, after_row, after, with_client, with_message, with_first, some_row, at_client, at_server, client, put, pop, store_node, client_takes, client_takes_stored, server_takes, server_takes_report, store_takes, store_takes_order, to_clients, tagged, to_server as for_server}
use Rattle.run_laws.specs.Links.{mine, View, EachClient}
use Rattle.run_laws.proofs.Channels.{IsHead, popped, mine_append, mine_tagged, mine_other, put_same, put_other}

-- after a row of the client, and of the server
abbrev pub Client's : View → ℕ → List ToServer → List ToClient → Server → Row Client → Type 0
Client's I n up down s r = I n r.state (up ++ for_server r.sent) down s

abbrev pub Server's : View → ℕ → Client → List ToServer → List ToClient → Row Server → Type 0
Server's I n c up down r = I n c up (down ++ mine n (to_clients r.sent)) r.state

-- kept by each row that touches it
pub record KeptByRows (I : View) : Type 0 where
  pub op : (n : ℕ) (c : Client) (up : List ToServer) (down : List ToClient) (s : Server) → I n c up down s → IfSome (on_op c) (Client's I n up down s)
  pub flush : (n : ℕ) (c : Client) (up : List ToServer) (down : List ToClient) (s : Server) → I n c up down s → IfSome (on_flush c) (Client's I n up down s)
  pub told : (n : ℕ) (c : Client) (up : List ToServer) (m : ToClient) (down : List ToClient) (s : Server) → I n c up (m ∷ down) s → Client's I n up down s (on_told c m)
  pub stored : (n : ℕ) (c : Client) (m : FromStore) (up : List ToServer) (down : List ToClient) (s : Server) → I n c up down s → Client's I n up down s (on_stored c m)
  pub own : (n : ℕ) (c : Client) (m : ToServer) (up : List ToServer) (down : List ToClient) (s : Server) → I n c (m ∷ up) down s → Server's I n c up down (on_take s n m)
  pub other : (n x : ℕ) (c : Client) (m : ToServer) (up : List ToServer) (down : List ToClient) (s : Server) → (x == n) ≡ false → I n c up down s → Server's I n c up down (on_take s x m)
  pub reported : (n : ℕ) (c : Client) (m : ToServer) (up : List ToServer) (down : List ToClient) (s : Server) → I n c up down s → Server's I n c up down (on_report s m)
  pub committed : (n : ℕ) (c : Client) (up : List ToServer) (down : List ToClient) (s : Server) → I n c up down s → IfSome (on_commit s) (Server's I n c up down)
  pub tended : (n : ℕ) (c : Client) (up : List ToServer) (down : List ToClient) (s : Server) → I n c up down s → IfSome (on_tend s) (Server's I n c up down)
  pub restarted : (n : ℕ) (c : Client) (up : List ToServer) (down : List ToClient) (s : Server) (k : ℕ) → I n c up down s → IfSome (on_restart s k) (Server's I n c up down)

-- What holds before a row gives what holds after it; and it gives that by itself, where no row touches it.
pub record GivenByRows (A I : View) : Type 0 where
  pub weak : (n : ℕ) (c : Client) (up : List ToServer) (down : List ToClient) (s : Server) → A n c up down s → I n c up down s
  pub op : (n : ℕ) (c : Client) (up : List ToServer) (down : List ToClient) (s : Server) → A n c up down s → IfSome (on_op c) (Client's I n up down s)
  pub flush : (n : ℕ) (c : Client) (up : List ToServer) (down : List ToClient) (s : Server) → A n c up down s → IfSome (on_flush c) (Client's I n up down s)
  pub told : (n : ℕ) (c : Client) (up : List ToServer) (m : ToClient) (down : List ToClient) (s : Server) → A n c up (m ∷ down) s → Client's I n up down s (on_told c m)
  pub stored : (n : ℕ) (c : Client) (m : FromStore) (up : List ToServer) (down : List ToClient) (s : Server) → A n c up down s → Client's I n up down s (on_stored c m)
  pub own : (n : ℕ) (c : Client) (m : ToServer) (up : List ToServer) (down : List ToClient) (s : Server) → A n c (m ∷ up) down s → Server's I n c up down (on_take s n m)
  pub other : (n x : ℕ) (c : Client) (m : ToServer) (up : List ToServer) (down : List ToClient) (s : Server) → (x == n) ≡ false → A n c up down s → Server's I n c up down (on_take s x m)
  pub reported : (n : ℕ) (c : Client) (m : ToServer) (up : List ToServer) (down : List ToClient) (s : Server) → A n c up down s → Server's I n c up down (on_report s m)
  pub committed : (n : ℕ) (c : Client) (up : List ToServer) (down : List ToClient) (s : Server) → A n c up down s → IfSome (on_commit s) (Server's I n c up down)
  pub tended : (n : ℕ) (c : Client) (up : List ToServer) (down : List ToClient) (s : Server) → A n c up down s → IfSome (on_tend s) (Server's I n c up down)
  pub restarted : (n : ℕ) (c : Client) (up : List ToServer) (down : List ToClient) (s : Server) (k : ℕ) → A n c up down s → IfSome (on_restart s k) (Server's I n c up down)

abbrev Among : View → List (ℕ × Client) → List (ℕ × ToServer) → List (ℕ × ToClient) → Server → Type 0
Among I clients up down server = (n : ℕ) → IfSome (client clients n) (λ c. I n c (mine n up) (mine n down) server)

-- a client's row in the world
client_each : (I : View) (w : World) (x : ℕ) (down : List (ℕ × ToClient)) (r : Row Client)
    → I x r.state (mine x w.up ++ for_server r.sent) (mine x down) w.server → ((n : ℕ) → (x == n) ≡ false → mine n down ≡ mine n w.down) → EachClient I w
    → Among I (put w.clients x r.state) (w.up ++ tagged x (for_server r.sent)) down w.server
client_each I w x down r own rest each n = by_test (x == n) refl
  where
    Goal : ℕ → Type 0
    Goal n = IfSome (client (put w.clients x r.state) n) (λ c. I n c (mine n (w.up ++ tagged x (for_server r.sent))) (mine n down) w.server)

    here : Goal x
    here = put_same x w.clients r.state (λ c. I x c (mine x (w.up ++ tagged x (for_server r.sent))) (mine x down) w.server) (rw (mine_append x w.up (tagged x (for_server r.sent)), mine_tagged x (for_server r.sent)) own)

    by_test : (b : Bool) → (x == n) ≡ b → Goal n
    by_test true test = subst Goal (grind (arith, nat_tests, test)) here
    by_test false test =
        rw (put_other x n w.clients r.state test, mine_append n w.up (tagged x (for_server r.sent)), mine_other n x (for_server r.sent) test, append-nil (mine n w.up), rest n test)
        (each n)

-- a server's row in the world
if_some_map : (o : Option Client) (P Q : Client → Type 0) → ((c : Client) → P c → Q c) → IfSome o P → IfSome o Q
if_some_map None P Q go holds = tt
if_some_map (Some c) P Q go holds = go c holds

server_each : (A I : View) (w : World) (up : List (ℕ × ToServer)) (r : Row Server)
    → ((n : ℕ) (c : Client) → A n c (mine n w.up) (mine n w.down) w.server → Server's I n c (mine n up) (mine n w.down) r) → EachClient A w
    → Among I w.clients up (w.down ++ to_clients r.sent) r.state
server_each A I w up r keeps each n =
    if_some_map (client w.clients n) _ _ (λ c holds. rw (mine_append n w.down (to_clients r.sent)) (keeps n c holds)) (each n)

-- each step of the world
pub step_gives : (A I : View) → GivenByRows A I → (w : World) (step : Step) → EachClient A w → EachClient I (after_row w (row w step))
step_gives A I kept w step every = by_step step
  where
    After : Option Made → Type 0
    After o = EachClient I (after_row w o)

    each : EachClient I w
    each n = if_some_map (client w.clients n) (λ c. A n c (mine n w.up) (mine n w.down) w.server) (λ c. I n c (mine n w.up) (mine n w.down) w.server) (λ c holds. kept.weak n c (mine n w.up) (mine n w.down) w.server holds) (every n)

    by_client : (x : ℕ) (go_on : Client → Option Made) → ((c : Client) → A x c (mine x w.up) (mine x w.down) w.server → After (go_on c)) → After (with_client w x go_on)
    by_client x go_on keeps = found (client w.clients x) (every x)
      where
        found : (o : Option Client) → IfSome o (λ c. A x c (mine x w.up) (mine x w.down) w.server) → After (elim o [ None ↦ None | Some c ↦ go_on c ])
        found None holds = each
        found (Some c) holds = keeps c holds

    by_message : {M : Type 0} (x : ℕ) (channels : List (ℕ × M)) (go_on : List (ℕ × M) → M → Option Made) → ((m : M) (rest : List (ℕ × M)) → IsHead x channels (m, rest) → After (go_on rest m)) → After (with_message x channels go_on)
    by_message {M} x channels go_on keeps = found (pop x channels) (popped x channels)
      where
        found : (o : Option (M × List (ℕ × M))) → IfSome o (IsHead x channels) → After (elim o [ None ↦ None | Some f ↦ go_on f.1 f.0 ])
        found None head = each
        found (Some f) head = keeps f.0 f.1 head

    by_first : {M : Type 0} (channel : List M) (go_on : List M → M → Option Made) → ((m : M) (rest : List M) → After (go_on rest m)) → After (with_first channel go_on)
    by_first [] go_on keeps = each
    by_first (m ∷ rest) go_on keeps = keeps m rest

    own_row : (x : ℕ) (o : Option (Row Client)) → IfSome o (Client's I x (mine x w.up) (mine x w.down) w.server) → After (some_row (at_client x w None) o)
    own_row x None holds = each
    own_row x (Some r) holds = client_each I w x w.down r holds (λ n other. refl) each

    server_row : (o : Option (Row Server)) → ((n : ℕ) (c : Client) → A n c (mine n w.up) (mine n w.down) w.server → IfSome o (Server's I n c (mine n w.up) (mine n w.down))) → After (some_row (at_server w None) o)
    server_row None keeps = each
    server_row (Some r) keeps = server_each A I w w.up r keeps every

    server_took : (x : ℕ) (m : ToServer) (rest : List (ℕ × ToServer)) → IsHead x w.up (m, rest) → (n : ℕ) (c : Client) → A n c (mine n w.up) (mine n w.down) w.server → Server's I n c (mine n rest) (mine n w.down) (on_take w.server x m)
    server_took x m rest head n c holds = by_test (x == n) refl
      where
        by_test : (b : Bool) → (x == n) ≡ b → Server's I n c (mine n rest) (mine n w.down) (on_take w.server x m)
        by_test true test =
            let same : x ≡ n = grind (arith, nat_tests, test) in
            let popped : mine n w.up ≡ m ∷ mine n rest = subst (λ (y : ℕ). mine y w.up ≡ m ∷ mine y rest) same head.0 in
            subst (λ (y : ℕ). Server's I n c (mine n rest) (mine n w.down) (on_take w.server y m)) (sym same) (kept.own n c m (mine n rest) (mine n w.down) w.server (subst (λ (l : List ToServer). A n c l (mine n w.down) w.server) popped holds))
        by_test false test = kept.other n x c m (mine n rest) (mine n w.down) w.server test (subst (λ (l : List ToServer). A n c l (mine n w.down) w.server) (sym (head.1 n test)) holds)

    took : (x : ℕ) (b : Bool) → After (cond b (with_first w.reported (server_takes_report w)) (with_message x w.up (server_takes x w)))
    took x true = by_first w.reported (server_takes_report w) (λ m rest. server_each A I w w.up (on_report w.server m) (λ n c holds. kept.reported n c m (mine n w.up) (mine n w.down) w.server holds) every)
    took x false = by_message x w.up (server_takes x w) (λ m rest head. server_each A I w rest (on_take w.server x m) (server_took x m rest head) every)

    stores : (x : ℕ) (b : Bool) → After (cond b (with_first w.ordered (store_takes_order w)) (with_message x w.asked (store_takes x w)))
    stores x true = by_first w.ordered (store_takes_order w) (λ m rest. each)
    stores x false = by_message x w.asked (store_takes x w) (λ m rest head. each)

    by_step : (step : Step) → After (row w step)
    by_step (Op x) = by_client x _ (λ c holds. own_row x (on_op c) (kept.op x c (mine x w.up) (mine x w.down) w.server holds))
    by_step (Flush x) = by_client x _ (λ c holds. own_row x (on_flush c) (kept.flush x c (mine x w.up) (mine x w.down) w.server holds))
    by_step (ClientFromServer x) = by_message x w.down (client_takes x w) (λ m rest head. by_client x _ (λ c holds.
        client_each I w x rest (on_told c m) (kept.told x c (mine x w.up) m (mine x rest) w.server (subst (λ (l : List ToClient). A x c (mine x w.up) l w.server) head.0 holds)) head.1 each))
    by_step (ClientFromStore x) = by_message x w.stored (client_takes_stored x w) (λ m rest head. by_client x _ (λ c holds.
        client_each I w x w.down (on_stored c m) (kept.stored x c m (mine x w.up) (mine x w.down) w.server holds) (λ n other. refl) each))
    by_step (ServerTakes x) = took x (x == store_node w)
    by_step (StoreTakes x) = stores x (x == 0)
    by_step Commit = server_row (on_commit w.server) (λ n c holds. kept.committed n c (mine n w.up) (mine n w.down) w.server holds)
    by_step Tend = server_row (on_tend w.server) (λ n c holds. kept.tended n c (mine n w.up) (mine n w.down) w.server holds)
    by_step (Restart k) = server_row (on_restart w.server k) (λ n c holds. kept.restarted n c (mine n w.up) (mine n w.down) w.server k holds)

pub step_keeps : (I : View) → KeptByRows I → (w : World) (step : Step) → EachClient I w → EachClient I (after_row w (row w step))
step_keeps I kept w step each = step_gives I I (record {
  weak = λ n c up down s holds. holds;
  op = kept.op;
  flush = kept.flush;
  told = kept.told;
  stored = kept.stored;
  own = kept.own;
  other = kept.other;
  reported = kept.reported;
  committed = kept.committed;
  tended = kept.tended;
  restarted = kept.restarted;
}) w step each

-- and so each run
pub run_keeps : (I : View) → KeptByRows I → (w : World) (steps : List Step) → EachClient I w → EachClient I (after w steps)
run_keeps I kept w [] each = each
run_keeps I kept w (step ∷ steps) each = run_keeps I kept (after_row w (row w step)) steps (step_keeps I kept w step each)

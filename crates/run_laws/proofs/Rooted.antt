-- Each connection number of the server's is a client's.
use Rattle.std.proofs.Common.{◌≡◌, ℕ, ◌+◌, List, [], ◌∷◌, map, Bool, true, false, true≢false, cond, Option, None, Some, refl, sym, ◌∙◌, subst, IfSome, arith}
use Rattle.std.proofs.lemmas.Bool.Decides.{nat_tests}
use Rattle.std.specs.Prelude.{◌==◌, ◌||◌, is_some}
use Rattle.std.specs.List.{list_any}
use Rattle.plain_types.specs.declared.history.Step.{Step}
use Rattle.plain_types.specs.declared.history.Step.TheVariants.{Op, Flush as FlushStep, ClientFromServer, ClientFromStore, ServerTakes, Commit, Restart, Tend, StoreTakes}
use Rattle.plain_types.specs.declared.message.ToServer.{ToServer}
use Rattle.plain_types.specs.declared.message.ToServer.TheVariants.{Connect, Ask, Flush, DropRead, Purged, Deleted}
use Rattle.plain_types.specs.declared.request.Request.{Request}
use Rattle.plain_types.specs.declared.script.Script.{Script}
use Rattle.step_table.specs.Row.{Row}
use Rattle.step_table.specs.ServerState.{Server, number_of, up_to}
use Rattle.step_table.specs.Acts.{Act, act, acts}
use Rattle.step_table.specs.Requests.{treat, decide_anew}
use Rattle.step_table.specs.Flushes.{on_flush as flush_rule, on_drop, asked_by, brought, take_in, come_back, treat_brought}
use Rattle.step_table.specs.Background.{turn}
use Rattle.step_table.specs.ServerRows.{on_take, on_commit, on_restart, on_tend, left_with, restarts, reported, back}
use Rattle.step_table.specs.ClientState.{Client}
use Rattle.step_table.specs.ClientLines.{on_op, on_flush}
use Rattle.step_table.specs.World.{World, Made, row, after_row, after, start, with_client, with_message, with_first, some_row, at_client, at_server, client, pop, store_node, client_takes, client_takes_stored, server_takes, server_takes_report, store_takes, store_takes_order}
use Rattle.run_laws.specs.Links.{View, EachClient, mine}
use Rattle.run_laws.proofs.Acts.{Fit, AnyAct, any_fit, KeptByActs, acts_keep, row_keeps, turn_keeps, commit_keeps, restart_keeps, take_ask, take_connect, take_flush, take_drop, take_purged, take_deleted}
use Rattle.run_laws.proofs.Bounding.{act_clients}
use Rattle.run_laws.proofs.Channels.{IsHead, popped}
use Rattle.run_laws.proofs.Linked.{at_start}
use Rattle.run_laws.proofs.Pairs.{Placed, placed_gives, placed_in, served_rows}
use Rattle.run_laws.proofs.Strangers.{Strange, strange_step, strangers}
use Rattle.run_laws.proofs.Taking.{current_same}
use Rattle.run_laws.proofs.Views.{step_keeps}

-- each of these connections is a client's, of so many
abbrev AllIn : List ℕ → List (ℕ × ℕ) → Type 0
AllIn l [] = Unit {0}
AllIn l (c ∷ current) = (list_any (λ (x : ℕ). x == c.0) l ≡ true) × AllIn l current

abbrev pub AllPlaced : ℕ → List (ℕ × ℕ) → Type 0
AllPlaced k current = AllIn (up_to k) current

abbrev pub Rooted : Server → Type 0
Rooted s = AllPlaced s.clients s.current

pub placed_at : (k : ℕ) (current : List (ℕ × ℕ)) (y : ℕ) → AllPlaced k current → is_some (number_of current y) ≡ true → list_any (λ (x : ℕ). x == y) (up_to k) ≡ true
placed_at k [] y all is = absurd (true≢false (sym is))
placed_at k (c ∷ current) y all is = by_test (c.0 == y) refl is (placed_at k current y all.1)
  where
    same : (c.0 == y) ≡ true → c.0 ≡ y
    same test = grind (arith, nat_tests, test)

    by_test : (b : Bool) → (c.0 == y) ≡ b → is_some (cond b (Some c.1) (number_of current y)) ≡ true → (is_some (number_of current y) ≡ true → list_any (λ (x : ℕ). x == y) (up_to k) ≡ true) → list_any (λ (x : ℕ). x == y) (up_to k) ≡ true
    by_test true test is go = subst (λ (z : ℕ). list_any (λ (x : ℕ). x == z) (up_to k) ≡ true) (same test) all.0
    by_test false test is go = go is

one : (s : Server) (a : Act) → AnyAct s a → Rooted s → Rooted (act s a)
one s a fit all = subst (λ (k : ℕ). AllPlaced k (act s a).current) (sym (act_clients s a)) (subst (AllPlaced s.clients) (sym (current_same s a)) all)

by_acts : KeptByActs AnyAct Rooted (λ r. Rooted r.state)
by_acts = record { one = one; hands = λ s all. all; anew = λ s all. any_fit s (decide_anew s) }

pub clients_same : (list : List Act) (s : Server) → (acts s list).clients ≡ s.clients
clients_same [] s = refl
clients_same (a ∷ list) s = clients_same list (act s a) ∙ act_clients s a

takes : (s : Server) (x : ℕ) (m : ToServer) → Placed x s → Rooted s → Rooted (on_take s x m).state
takes s x (Connect conn said flushes asked) placed all = take_connect by_acts s x conn said flushes asked all (λ above. (came asked, any_fit (back s x conn said flushes (brought x asked)) (treat_brought (back s x conn said flushes (brought x asked)) (brought x asked))))
  where
    now : Server
    now = acts s (come_back s x said flushes)

    next : AllPlaced now.clients ((x, conn) ∷ now.current)
    next = (subst (λ (k : ℕ). list_any (λ (y : ℕ). y == x) (up_to k) ≡ true) (sym (clients_same (come_back s x said flushes) s)) placed, acts_keep {F = AnyAct} {Q = Rooted} one (come_back s x said flushes) s (any_fit s (come_back s x said flushes)) all)

    came : (o : Option (ℕ × Request)) → Rooted (back s x conn said flushes (brought x o))
    came None = next
    came (Some r) = next
takes s x (Ask conn tid asked) placed all = take_ask by_acts s x conn tid asked all (λ is. (all, any_fit (take_in s (asked_by x tid asked)) (treat false (take_in s (asked_by x tid asked)) (asked_by x tid asked))))
takes s x (Flush conn f) placed all = take_flush by_acts s x conn f all (any_fit s (flush_rule x s f))
takes s x (DropRead conn ino) placed all = take_drop by_acts s x conn ino all (any_fit s (on_drop x s ino))
takes s x (Purged id) placed all = take_purged by_acts s x id all
takes s x (Deleted ino) placed all = take_deleted by_acts s x ino all

some_any : (s : Server) (o : Option (List Act)) → IfSome o (Fit AnyAct s)
some_any s None = tt
some_any s (Some list) = any_fit s list

-- one step, where who sends a message is a client
pub rooted_step : (w : World) (step : Step) → ((n : ℕ) → Strange n w) → EachClient (λ n c up down s. Placed n s) w → Rooted w.server → Rooted (after_row w (row w step)).server
rooted_step w step strange placed all = by_step step
  where
    Good : Option Made → Type 0
    Good o = Rooted (after_row w o).server

    by_client : (x : ℕ) (go_on : Client → Option Made) → ((c : Client) → Good (go_on c)) → Good (with_client w x go_on)
    by_client x go_on keeps = found (client w.clients x)
      where
        found : (o : Option Client) → Good (elim o [ None ↦ None | Some c ↦ go_on c ])
        found None = all
        found (Some c) = keeps c

    by_message : {M : Type 0} (x : ℕ) (channels : List (ℕ × M)) (go_on : List (ℕ × M) → M → Option Made) → ((m : M) (rest : List (ℕ × M)) → IsHead x channels (m, rest) → Good (go_on rest m)) → Good (with_message x channels go_on)
    by_message {M} x channels go_on keeps = found (pop x channels) (popped x channels)
      where
        found : (o : Option (M × List (ℕ × M))) → IfSome o (IsHead x channels) → Good (elim o [ None ↦ None | Some f ↦ go_on f.1 f.0 ])
        found None head = all
        found (Some f) head = keeps f.0 f.1 head

    by_first : {M : Type 0} (channel : List M) (go_on : List M → M → Option Made) → ((m : M) (rest : List M) → Good (go_on rest m)) → Good (with_first channel go_on)
    by_first [] go_on keeps = all
    by_first (m ∷ rest) go_on keeps = keeps m rest

    client_row : (x : ℕ) (o : Option (Row Client)) → Good (some_row (at_client x w None) o)
    client_row x None = all
    client_row x (Some r) = all

    server_row : (o : Option (Row Server)) → IfSome o (λ r. Rooted r.state) → Good (some_row (at_server w None) o)
    server_row None keeps = all
    server_row (Some r) keeps = keeps

    took_one : (x : ℕ) (m : ToServer) (rest : List (ℕ × ToServer)) → IsHead x w.up (m, rest) → Rooted (on_take w.server x m).state
    took_one x m rest head = takes w.server x m (by_client_of (client w.clients x) refl (placed x)) all
      where
        clash : [] ≡ m ∷ mine x rest → ⊥
        clash e = cc

        by_client_of : (o : Option Client) → client w.clients x ≡ o → IfSome o (λ c. Placed x w.server) → Placed x w.server
        by_client_of None is placed = absurd (clash (sym (strange x is).0 ∙ head.0))
        by_client_of (Some c) is placed = placed

    took : (x : ℕ) (b : Bool) → Good (cond b (with_first w.reported (server_takes_report w)) (with_message x w.up (server_takes x w)))
    took x true = by_first w.reported (server_takes_report w) (λ m rest. row_keeps by_acts w.server (reported w.server m) (any_fit w.server (reported w.server m)) all)
    took x false = by_message x w.up (server_takes x w) (took_one x)

    stored : (x : ℕ) (b : Bool) → Good (cond b (with_first w.ordered (store_takes_order w)) (with_message x w.asked (store_takes x w)))
    stored x true = by_first w.ordered (store_takes_order w) (λ m rest. all)
    stored x false = by_message x w.asked (store_takes x w) (λ m rest head. all)

    by_step : (step : Step) → Good (row w step)
    by_step (Op x) = by_client x _ (λ c. client_row x (on_op c))
    by_step (FlushStep x) = by_client x _ (λ c. client_row x (on_flush c))
    by_step (ClientFromServer x) = by_message x w.down (client_takes x w) (λ m rest head. by_client x _ (λ c. all))
    by_step (ClientFromStore x) = by_message x w.stored (client_takes_stored x w) (λ m rest head. by_client x _ (λ c. all))
    by_step (ServerTakes x) = took x (x == store_node w)
    by_step Commit = server_row (on_commit w.server) (commit_keeps {Q = Rooted} {After = λ r. Rooted r.state} (λ r e after. after) (λ s so. so) w.server all)
    by_step (Restart k) = server_row (on_restart w.server k) (restart_keeps (λ r e after. after) by_acts w.server k (λ fits. (tt, any_fit (left_with w.server (w.server.durable + k)) (restarts (left_with w.server (w.server.durable + k))))))
    by_step Tend = server_row (on_tend w.server) (turn_keeps by_acts w.server (some_any w.server (turn w.server)) all)
    by_step (StoreTakes x) = stored x (x == 0)

-- and so each run
in_more : (x : ℕ) (l : List ℕ) (current : List (ℕ × ℕ)) → AllIn l current → AllIn (x ∷ l) current
in_more x l [] all = tt
in_more x l (c ∷ current) all = (by_test (x == c.0) all.0, in_more x l current all.1)
  where
    by_test : (b : Bool) → list_any (λ (x : ℕ). x == c.0) l ≡ true → (b || list_any (λ (x : ℕ). x == c.0) l) ≡ true
    by_test true is = refl
    by_test false is = is

all_in : (l : List ℕ) → AllIn l (map (λ c. (c, 1)) l)
all_in [] = tt
all_in (x ∷ l) = (by_test (x == x) (grind (arith, nat_tests)), in_more x l (map (λ c. (c, 1)) l) (all_in l))
  where
    by_test : (b : Bool) → b ≡ true → (b || list_any (λ (y : ℕ). y == x) l) ≡ true
    by_test true is = refl
    by_test false is = absurd (true≢false (sym is))

abbrev Places : View
Places n c up down s = Placed n s

rooted_run : (w : World) (steps : List Step) → ((n : ℕ) → Strange n w) → EachClient Places w → Rooted w.server → Rooted (after w steps).server
rooted_run w [] strange placed all = all
rooted_run w (step ∷ steps) strange placed all = rooted_run (after_row w (row w step)) steps (λ n. strange_step n w step (strange n)) (step_keeps Places (served_rows {P = Placed} placed_gives) w step placed) (rooted_step w step strange placed all)

pub rooted_holds : (script : Script) (steps : List Step) → Rooted (after (start script) steps).server
rooted_holds script steps = rooted_run (start script) steps (λ n. strangers script [] n) (at_start Places script (λ n is. placed_in n (up_to script.clients) is)) (all_in (up_to script.clients))

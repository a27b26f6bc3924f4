-- What a client's place among the nodes says of its steps, and of what it sends.
use Rattle.std.proofs.Common.{◌≡◌, ℕ, ◌+◌, ◌<◌, ◌^◌, ◌&&◌, ◌==◌, Bool, true, false, eqb, nat_le, List, [], ◌∷◌, Option, None, Some, is_some, not, if◌then◌else◌, ◌∙◌, sym, refl, ap, subst, arith}
use Rattle.std.specs.List.{list_all}
use Rattle.plain_types.specs.declared.history.Done.{Done}
use Rattle.plain_types.specs.declared.history.Sent.{Sent}
use Rattle.plain_types.specs.declared.history.Step.{Step}
use Rattle.plain_types.specs.declared.history.Step.TheVariants.{Op, Flush, ClientFromServer, ClientFromStore, ServerTakes, Commit, Restart, Tend, StoreTakes}
use Rattle.plain_types.specs.declared.message.Message.{Message}
use Rattle.plain_types.specs.declared.message.Message.TheVariants as message
use Rattle.plain_types.specs.declared.message.ToServer.{ToServer}
use Rattle.plain_types.specs.declared.message.ToStore.{ToStore}
use Rattle.node_core.specs.Steps.{is_step_of, taken_from, takes_from_peer, takes_from_peer_if_any, taken_fits, is_client, are_peers, is_report, is_order, is_sent_well}
use Rattle.step_table.specs.Row.{Row}
use Rattle.step_table.specs.Nodes.{client_row}
use Rattle.step_table.specs.ClientState.{Client}
use Rattle.step_table.specs.ClientLines.{on_op, on_flush}
use Rattle.step_table.specs.ClientTakes.{on_told, on_stored}
use Rattle.client_core.specs.Keeping.{goes_well, is_well, KeepsIf, op_keeps, flush_keeps, told_keeps, stored_keeps}
use Rattle.client_core.specs.Rows.{Does, IsClient, IsClientRow, can_make, can_step}

no_server : (clients node : ℕ) → is_client clients node ≡ true → eqb node 0 ≡ true → false ≡ true
no_server clients node among is = grind arith

no_store : (clients node : ℕ) → is_client clients node ≡ true → eqb node (clients + 1) ≡ true → false ≡ true
no_store clients node among is = grind arith

at_number : (n node number : ℕ) (among : Bool) → eqb n node && among ≡ true → number ≡ node → eqb n number ≡ true
at_number n node number among mine is = grind arith

the_one : (c d : Client) → Some c ≡ Some d → c ≡ d
the_one c d same = ap (λ (o : Option Client). or_else o) same
  where
    or_else : Option Client → Client
    or_else None = c
    or_else (Some x) = x

first_true : (a b : Bool) → a && b ≡ true → a ≡ true
first_true true b both = refl
first_true false b both = both

last_true : (a b : Bool) → a && b ≡ true → b ≡ true
last_true true b both = both
last_true false b both = cc

last_false : (a b : Bool) → a && not b ≡ true → b ≡ false
last_false true false both = refl
last_false true true both = cc
last_false false b both = cc

takes_at : (c : Client) (node clients : ℕ) → c.number ≡ node → is_client clients node ≡ true → (step : Step) → is_step_of clients node step ≡ true
    → takes_from_peer clients node (taken_from clients step) ≡ true → can_make c step ≡ true
takes_at c node clients at among (Op n) mine from = cc
takes_at c node clients at among (Flush n) mine from = cc
takes_at c node clients at among (ClientFromServer n) mine from = at_number n node c.number (is_client clients n) mine at
takes_at c node clients at among (ClientFromStore n) mine from = at_number n node c.number (is_client clients n) mine at
takes_at c node clients at among (ServerTakes n) mine from = no_server clients node among mine
takes_at c node clients at among Commit mine from = from
takes_at c node clients at among (Restart k) mine from = from
takes_at c node clients at among Tend mine from = from
takes_at c node clients at among (StoreTakes n) mine from = no_store clients node among mine

pub takes : (core : Option Client) (node clients : ℕ) → IsClient core node clients → (step : Step) → is_step_of clients node step ≡ true
    → takes_from_peer clients node (taken_from clients step) ≡ true → can_step core step ≡ true
takes core node clients st step mine from =
    subst (λ (o : Option Client). can_step o step ≡ true) (sym st.is) (takes_at st.client node clients st.number st.among step mine from)

of_number : (n node number clients : ℕ) (more : Bool) → eqb n number && more ≡ true → number ≡ node → is_client clients node ≡ true
    → eqb n node && is_client clients n ≡ true
of_number n node number clients more can is among = grind arith

alone : (b : Bool) → b ≡ true → b && true ≡ true
alone b is = rw is refl

own_at : (c : Client) (node clients : ℕ) → c.number ≡ node → is_client clients node ≡ true → (step : Step) → can_make c step ≡ true → is_step_of clients node step ≡ true
own_at c node clients at among (Op n) can = of_number n node c.number clients (is_some (on_op c)) can at among
own_at c node clients at among (Flush n) can = of_number n node c.number clients (is_some (on_flush c)) can at among
own_at c node clients at among (ClientFromServer n) can = of_number n node c.number clients true (alone _ can) at among
own_at c node clients at among (ClientFromStore n) can = of_number n node c.number clients true (alone _ can) at among
own_at c node clients at among (ServerTakes n) can = cc
own_at c node clients at among Commit can = cc
own_at c node clients at among (Restart k) can = cc
own_at c node clients at among Tend can = cc
own_at c node clients at among (StoreTakes n) can = cc

pub own : (core : Option Client) (node clients : ℕ) → IsClient core node clients → (step : Step) → can_step core step ≡ true
    → is_step_of clients node step ≡ true
own core node clients st step can =
    own_at st.client node clients st.number st.among step (subst (λ (o : Option Client). can_step o step ≡ true) st.is can)

pub restarts : (core : Option Client) (clients : ℕ) → IsClient core 0 clients → (k : ℕ) → k < 2 ^ 32 → can_step core (Restart k) ≡ nat_le k 0
restarts core clients st k small = let no : false ≡ true = no_server clients 0 st.among refl in cc

pub fitting : (core : Option Client) (node clients : ℕ) → IsClient core node clients → (step : Step) → is_step_of clients node step ≡ true
    → (taken : Option Message) → taken_fits 0 step taken ≡ taken_fits clients step taken
fitting core node clients st (ServerTakes n) mine taken = let no : false ≡ true = no_server clients node st.among mine in cc
fitting core node clients st (StoreTakes n) mine None = refl
fitting core node clients st (StoreTakes n) mine (Some m) = refl
fitting core node clients st (Op n) mine None = refl
fitting core node clients st (Op n) mine (Some m) = refl
fitting core node clients st (Flush n) mine None = refl
fitting core node clients st (Flush n) mine (Some m) = refl
fitting core node clients st (ClientFromServer n) mine None = refl
fitting core node clients st (ClientFromServer n) mine (Some m) = refl
fitting core node clients st (ClientFromStore n) mine None = refl
fitting core node clients st (ClientFromStore n) mine (Some m) = refl
fitting core node clients st Commit mine None = refl
fitting core node clients st Commit mine (Some m) = refl
fitting core node clients st (Restart k) mine None = refl
fitting core node clients st (Restart k) mine (Some m) = refl
fitting core node clients st Tend mine None = refl
fitting core node clients st Tend mine (Some m) = refl

if_mine : (n s : ℕ) (b : Bool) (row : Option (Row Client)) → KeepsIf n s row → KeepsIf n s (if b then row else None)
if_mine n s true row keeps = keeps
if_mine n s false row keeps = tt

-- each row of a client keeps its number and its store
row_keeps : (c : Client) (step : Step) (taken : Option Message) → KeepsIf c.number c.store (client_row c step taken)
row_keeps c (Op n) None = if_mine c.number c.store (n == c.number) (on_op c) (op_keeps c)
row_keeps c (Flush n) None = if_mine c.number c.store (n == c.number) (on_flush c) (flush_keeps c)
row_keeps c (ClientFromServer n) (Some (message.ToClient told)) = if_mine c.number c.store (n == c.number) (Some (on_told c told)) (told_keeps c told)
row_keeps c (ClientFromStore n) (Some (message.FromStore said)) = if_mine c.number c.store (n == c.number) (Some (on_stored c said)) (stored_keeps c said)
row_keeps c (Op n) (Some m) = tt
row_keeps c (Flush n) (Some m) = tt
row_keeps c (ClientFromServer n) None = tt
row_keeps c (ClientFromServer n) (Some (message.ToServer said)) = tt
row_keeps c (ClientFromServer n) (Some (message.ToStore order)) = tt
row_keeps c (ClientFromServer n) (Some (message.FromStore said)) = tt
row_keeps c (ClientFromStore n) None = tt
row_keeps c (ClientFromStore n) (Some (message.ToServer said)) = tt
row_keeps c (ClientFromStore n) (Some (message.ToStore order)) = tt
row_keeps c (ClientFromStore n) (Some (message.ToClient told)) = tt
row_keeps c (ServerTakes n) taken = tt
row_keeps c Commit taken = tt
row_keeps c (Restart k) taken = tt
row_keeps c Tend taken = tt
row_keeps c (StoreTakes n) taken = tt

made_by : (c : Client) (row : Option (Row Client)) (done : Done) (new : Option Client) (node clients : ℕ) → c.number ≡ node → c.store ≡ clients + 1
    → is_client clients node ≡ true → KeepsIf c.number c.store row → Does row done new → IsClient new node clients
made_by c None done new node clients at behind among keeps does = absurd does
made_by c (Some row) done new node clients at behind among keeps does =
    record { client = row.state; is = does.left; number = keeps.number ∙ at; store = keeps.store ∙ behind; among = among }

-- after each of its steps a client stands where it stood
pub stands : (old new : Option Client) (step : Step) (taken : Option Message) (done : Done) → IsClientRow old step taken done new
    → (node clients : ℕ) → IsClient old node clients → IsClient new node clients
stands None new step taken done row node clients st = absurd row
stands (Some c) new step taken done row node clients st =
    let same : Some c ≡ Some st.client = st.is in
    let is : c ≡ st.client = the_one c st.client same in
    made_by c (client_row c step taken) done new node clients (ap (λ (x : Client). x.number) is ∙ st.number) (ap (λ (x : Client). x.store) is ∙ st.store)
    st.among (row_keeps c step taken) row

to_server_well : (clients node to : ℕ) (said : ToServer) → is_client clients node ≡ true → goes_well (clients + 1) to (message.ToServer said) ≡ true
    → is_sent_well clients node (record { to = to; message = message.ToServer said }) ≡ true
to_server_well clients node to said among well =
    let here : to ≡ 0 = grind arith in
    let plain : is_report (message.ToServer said) ≡ false = last_false (to == 0) _ well in
    let peers : are_peers clients node 0 ≡ true = grind arith in
    let no : eqb node (clients + 1) ≡ false = grind arith in
    subst (λ (k : ℕ). is_sent_well clients node (record { to = k; message = message.ToServer said }) ≡ true) (sym here)
    (rw (peers, no, plain) refl)

to_store_well : (clients node to : ℕ) (order : ToStore) → is_client clients node ≡ true → goes_well (clients + 1) to (message.ToStore order) ≡ true
    → is_sent_well clients node (record { to = to; message = message.ToStore order }) ≡ true
to_store_well clients node to order among well =
    let here : to ≡ clients + 1 = grind arith in
    let plain : is_order (message.ToStore order) ≡ false = last_false (to == clients + 1) _ well in
    let peers : are_peers clients node (clients + 1) ≡ true = grind arith in
    let no : eqb node 0 ≡ false = grind arith in
    let here_now : eqb (clients + 1) (clients + 1) ≡ true = grind arith in
    let behind : eqb (clients + 1) 0 ≡ false = grind arith in
    subst (λ (k : ℕ). is_sent_well clients node (record { to = k; message = message.ToStore order }) ≡ true) (sym here)
    (rw (peers, behind, here_now, no, plain) refl)

one_well : (clients node : ℕ) (sent : Sent) → is_client clients node ≡ true → is_well (clients + 1) sent ≡ true → is_sent_well clients node sent ≡ true
one_well clients node sent among well = by_message sent.to sent.message well
  where
    by_message : (to : ℕ) (m : Message) → goes_well (clients + 1) to m ≡ true → is_sent_well clients node (record { to = to; message = m }) ≡ true
    by_message to (message.ToServer said) w = to_server_well clients node to said among w
    by_message to (message.ToStore order) w = to_store_well clients node to order among w
    by_message to (message.ToClient told) w = cc
    by_message to (message.FromStore said) w = cc

both : (a b : Bool) → a ≡ true → b ≡ true → a && b ≡ true
both a b x y = rw (x, y) refl

all_well : (clients node : ℕ) (sent : List Sent) → is_client clients node ≡ true → list_all (is_well (clients + 1)) sent ≡ true
    → list_all (is_sent_well clients node) sent ≡ true
all_well clients node [] among well = refl
all_well clients node (s ∷ more) among well =
    both _ _ (one_well clients node s among (first_true (is_well (clients + 1) s) _ well))
    (all_well clients node more among (last_true (is_well (clients + 1) s) _ well))

sent_by : (c : Client) (row : Option (Row Client)) (done : Done) (new : Option Client) (node clients : ℕ) → c.store ≡ clients + 1
    → is_client clients node ≡ true → KeepsIf c.number c.store row → Does row done new → list_all (is_sent_well clients node) done.sent ≡ true
sent_by c None done new node clients behind among keeps does = absurd does
sent_by c (Some row) done new node clients behind among keeps does =
    subst (λ (sent : List Sent). list_all (is_sent_well clients node) sent ≡ true) (sym does.sent)
    (all_well clients node row.sent among (subst (λ (s : ℕ). list_all (is_well s) row.sent ≡ true) behind keeps.sent))

pub sends : (old new : Option Client) (node clients : ℕ) → IsClient old node clients → (step : Step) → (taken : Option Message)
    → (done : Done) → IsClientRow old step taken done new → is_step_of clients node step ≡ true
    → takes_from_peer_if_any clients node (taken_from clients step) ≡ true
    → list_all (is_sent_well clients node) done.sent ≡ true
sends None new node clients st step taken done row mine peer = absurd row
sends (Some c) new node clients st step taken done row mine peer =
    let is : c ≡ st.client = the_one c st.client st.is in
    sent_by c (client_row c step taken) done new node clients (ap (λ (x : Client). x.store) is ∙ st.store) st.among (row_keeps c step taken) row

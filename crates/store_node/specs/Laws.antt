-- What a store's place among the nodes says of its steps, and of what it sends.
use Rattle.std.proofs.Common.{◌≡◌, ℕ, ◌+◌, ◌<◌, ◌^◌, ◌&&◌, ◌||◌, not, Bool, true, false, eqb, leb, nat_le, List, [], ◌∷◌, map, Option, None, Some, if◌then◌else◌, sym, ◌∙◌, refl, ap, subst, arith}
use Rattle.std.specs.List.{list_all}
use Rattle.plain_types.specs.declared.history.Done.{Done}
use Rattle.plain_types.specs.declared.history.Sent.{Sent}
use Rattle.plain_types.specs.declared.history.Step.{Step}
use Rattle.plain_types.specs.declared.history.Step.TheVariants.{Op, Flush, ClientFromServer, ClientFromStore, ServerTakes, Commit, Restart, Tend, StoreTakes}
use Rattle.plain_types.specs.declared.message.FromStore.{FromStore}
use Rattle.plain_types.specs.declared.message.Message.{Message}
use Rattle.plain_types.specs.declared.message.Message.TheVariants as message
use Rattle.plain_types.specs.declared.message.ToServer.{ToServer}
use Rattle.plain_types.specs.declared.message.ToServer.TheVariants as to_server
use Rattle.plain_types.specs.declared.message.ToStore.{ToStore}
use Rattle.plain_types.specs.declared.message.ToStore.TheVariants as order
use Rattle.object_clones.specs.Store.{Shown}
use Rattle.node_core.specs.Steps.{is_step_of, taken_from, takes_from_peer, takes_from_peer_if_any, taken_fits, is_client, are_peers, is_end, message_fits, is_report, taking_step, is_sent_well}
use Rattle.step_table.specs.Messages.{to_store_fits, plain_message, plain_sent}
use Rattle.step_table.specs.Row.{Row, sends as only_sends}
use Rattle.step_table.specs.StoreRows.{answers, reports, send_answers, send_reports, takes as takes_it, on_asked, on_ordered}
use Rattle.store_node.specs.Rows.{IsStore, IsStoreRow, is_store_step}

no_client : (clients node n : ℕ) → node ≡ clients + 1 → eqb n node && is_client clients n ≡ true → false ≡ true
no_client clients node n at h = grind arith

no_server : (clients node : ℕ) → node ≡ clients + 1 → eqb node 0 ≡ true → false ≡ true
no_server clients node at h = grind arith

pub takes : (core : Option Shown) (node clients : ℕ) → IsStore core node clients → (step : Step) → is_step_of clients node step ≡ true
    → takes_from_peer clients node (taken_from clients step) ≡ true → is_store_step step ≡ true
takes core node clients st (Op n) mine from = from
takes core node clients st (Flush n) mine from = from
takes core node clients st (ClientFromServer n) mine from = no_client clients node n st.number mine
takes core node clients st (ClientFromStore n) mine from = no_client clients node n st.number mine
takes core node clients st (ServerTakes n) mine from = no_server clients node st.number mine
takes core node clients st Commit mine from = from
takes core node clients st (Restart k) mine from = from
takes core node clients st Tend mine from = from
takes core node clients st (StoreTakes n) mine from = refl

store_number : (clients node : ℕ) → node ≡ clients + 1 → eqb node (clients + 1) ≡ true
store_number clients node at = grind arith

pub own : (core : Option Shown) (node clients : ℕ) → IsStore core node clients → (step : Step) → is_store_step step ≡ true
    → is_step_of clients node step ≡ true
own core node clients st (StoreTakes n) can = store_number clients node st.number
own core node clients st (Op n) can = cc
own core node clients st (Flush n) can = cc
own core node clients st (ClientFromServer n) can = cc
own core node clients st (ClientFromStore n) can = cc
own core node clients st (ServerTakes n) can = cc
own core node clients st Commit can = cc
own core node clients st (Restart k) can = cc
own core node clients st Tend can = cc

no_zero : (clients : ℕ) → 0 ≡ clients + 1 → false ≡ true
no_zero clients at = grind arith

pub restarts : (core : Option Shown) (clients : ℕ) → IsStore core 0 clients → (k : ℕ) → k < 2 ^ 32 → false ≡ nat_le k 0
restarts core clients st k small = let no : false ≡ true = no_zero clients st.number in cc

pub fitting : (core : Option Shown) (node clients : ℕ) → IsStore core node clients → (step : Step) → is_step_of clients node step ≡ true
    → (taken : Option Message) → taken_fits 0 step taken ≡ taken_fits clients step taken
fitting core node clients st (ServerTakes n) mine taken = let no : false ≡ true = no_server clients node st.number mine in cc
fitting core node clients st (Op n) mine None = refl
fitting core node clients st (Op n) mine (Some m) = refl
fitting core node clients st (Flush n) mine None = refl
fitting core node clients st (Flush n) mine (Some m) = refl
fitting core node clients st (ClientFromServer n) mine None = refl
fitting core node clients st (ClientFromServer n) mine (Some m) = refl
fitting core node clients st (ClientFromStore n) mine None = refl
fitting core node clients st (ClientFromStore n) mine (Some m) = refl
fitting core node clients st Commit mine None = refl
fitting core node clients st Commit mine (Some m) = refl
fitting core node clients st (Restart k) mine None = refl
fitting core node clients st (Restart k) mine (Some m) = refl
fitting core node clients st Tend mine None = refl
fitting core node clients st Tend mine (Some m) = refl
fitting core node clients st (StoreTakes n) mine None = refl
fitting core node clients st (StoreTakes n) mine (Some m) = refl

-- what fits doesn't ask for a trace
fits_alike : (clients : ℕ) (step : Step) (m : Message) → message_fits clients step (plain_message m) ≡ message_fits clients step m
fits_alike clients step (message.ToServer said) = refl
fits_alike clients step (message.ToStore order) = refl
fits_alike clients step (message.FromStore said) = refl
fits_alike clients (Op n) (message.ToClient told) = refl
fits_alike clients (Flush n) (message.ToClient told) = refl
fits_alike clients (ClientFromServer n) (message.ToClient told) = refl
fits_alike clients (ClientFromStore n) (message.ToClient told) = refl
fits_alike clients (ServerTakes n) (message.ToClient told) = refl
fits_alike clients Commit (message.ToClient told) = refl
fits_alike clients (Restart k) (message.ToClient told) = refl
fits_alike clients Tend (message.ToClient told) = refl
fits_alike clients (StoreTakes n) (message.ToClient told) = refl

all_alike : (clients node : ℕ) (sent : List Sent)
    → list_all (is_sent_well clients node) (map plain_sent sent) ≡ list_all (is_sent_well clients node) sent
all_alike clients node [] = refl
all_alike clients node (s ∷ more) = λ i.
    (are_peers clients node s.to && fits_alike clients (taking_step clients node s.to) s.message i) && all_alike clients node more i

both : (a b : Bool) → a ≡ true → b ≡ true → a && b ≡ true
both a b x y = rw (x, y) refl

report_fits : (b : Bool) (said : ToServer) → b ≡ true → is_report (message.ToServer said) ≡ true
    → (if b then is_report (message.ToServer said) else not (is_report (message.ToServer said))) ≡ true
report_fits b said here fits = rw here fits

report_well : (clients node : ℕ) (said : ToServer) → node ≡ clients + 1 → are_peers clients node 0 ≡ true → is_report (message.ToServer said) ≡ true
    → is_sent_well clients node (record { to = 0; message = message.ToServer said }) ≡ true
report_well clients node said at peer fits =
    both (are_peers clients node 0) _ peer (report_fits (eqb node (clients + 1)) said (store_number clients node at) fits)

reports_well : (clients node : ℕ) (o : ToStore) → node ≡ clients + 1 → are_peers clients node 0 ≡ true
    → list_all (is_sent_well clients node) (send_reports (reports o)) ≡ true
reports_well clients node (order.Delete ino context) at peer = both _ true (report_well clients node (to_server.Deleted ino) at peer refl) refl
reports_well clients node (order.Purge id) at peer = both _ true (report_well clients node (to_server.Purged id) at peer refl) refl
reports_well clients node (order.WriteAt ino offset bytes context) at peer = refl
reports_well clients node (order.Cut ino size context) at peer = refl
reports_well clients node (order.ReadHead key ino size) at peer = refl
reports_well clients node (order.ReadSnap key ino size s) at peer = refl
reports_well clients node (order.ListClones key ino index) at peer = refl

answer_fits : (clients node n : ℕ) (a b c : Bool) (said : FromStore) → a ≡ false → b ≡ false → c ≡ false
    → message_fits clients (if a then ServerTakes node else (if b then StoreTakes node else (if c then ClientFromServer n else ClientFromStore n)))
    (message.FromStore said) ≡ true
answer_fits clients node n a b c said x y z = rw (x, y, z) refl

other_number : (clients node n : ℕ) → node ≡ clients + 1 → are_peers clients node n ≡ true → eqb n (clients + 1) ≡ false
other_number clients node n at peer = grind arith

no_server_number : (clients node : ℕ) → node ≡ clients + 1 → eqb node 0 ≡ false
no_server_number clients node at = grind arith

answer_well : (clients node n : ℕ) (said : FromStore) → node ≡ clients + 1 → are_peers clients node n ≡ true → eqb n 0 ≡ false
    → is_sent_well clients node (record { to = n; message = message.FromStore said }) ≡ true
answer_well clients node n said at peer client =
    both (are_peers clients node n) _ peer
    (answer_fits clients node n (eqb n 0) (eqb n (clients + 1)) (eqb node 0) said client (other_number clients node n at peer) (no_server_number clients node at))

answers_well : (clients node n : ℕ) (said : List FromStore) → node ≡ clients + 1 → are_peers clients node n ≡ true → eqb n 0 ≡ false
    → list_all (is_sent_well clients node) (send_answers n said) ≡ true
answers_well clients node n [] at peer client = refl
answers_well clients node n (s ∷ more) at peer client =
    both _ _ (answer_well clients node n s at peer client) (answers_well clients node n more at peer client)

takes_well : (well : Sent → Bool) (log : List ToStore) (o : ToStore) (sent : List Sent) → list_all well sent ≡ true
    → list_all well (takes_it log o sent).sent ≡ true
takes_well well log o [] h = refl
takes_well well log o (s ∷ more) h = h

if_well : (well : Sent → Bool) (log : List ToStore) (o : ToStore) (sent : List Sent) (b : Bool) → list_all well sent ≡ true
    → list_all well (if b then takes_it log o sent else only_sends log []).sent ≡ true
if_well well log o sent true h = takes_well well log o sent h
if_well well log o sent false h = refl

row_well : (clients node object n : ℕ) (log : List ToStore) (o : ToStore) (b : Bool) → eqb n 0 ≡ b → node ≡ clients + 1 → are_peers clients node n ≡ true
    → list_all (is_sent_well clients node) (if b then on_ordered log o else on_asked object log n o).sent ≡ true
row_well clients node object n log o true zero at peer =
    let is : n ≡ 0 = grind arith in
    if_well (is_sent_well clients node) log o (send_reports (reports o)) (to_store_fits o)
    (reports_well clients node o at (subst (λ k. are_peers clients node k ≡ true) is peer))
row_well clients node object n log o false some at peer =
    if_well (is_sent_well clients node) log o (send_answers n (answers object log o)) (to_store_fits o)
    (answers_well clients node n (answers object log o) at peer some)

pub sends : (old new : Option Shown) (node clients : ℕ) → IsStore old node clients → (step : Step) → (taken : Option Message)
    → (done : Done) → IsStoreRow old step taken done new → is_step_of clients node step ≡ true
    → takes_from_peer_if_any clients node (taken_from clients step) ≡ true
    → list_all (is_sent_well clients node) done.sent ≡ true
sends old new node clients st (StoreTakes n) (Some (message.ToStore o)) done row mine peer =
    let does = row st.object st.log st.stands in
    let well = is_sent_well clients node in
    let made = if eqb n 0 then on_ordered st.log o else on_asked st.object st.log n o in
    sym (all_alike clients node done.sent) ∙ ap (list_all well) does.does.sent ∙ all_alike clients node made.sent
    ∙ row_well clients node st.object n st.log o (eqb n 0) refl st.number peer
sends old new node clients st step taken done row mine peer = absurd (row st.object st.log st.stands)

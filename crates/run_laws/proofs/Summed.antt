-- How much each client was told, along each history.
use Rattle.std.proofs.Common.{◌≡◌, ◌≤◌, ℕ, ◌+◌, List, [], ◌∷◌, ◌++◌, length, length-append, take, drop, Bool, true, false, cond, Option, None, Some, refl, sym, ap, ◌∙◌, subst, IfSome, arith}
use Rattle.std.proofs.lemmas.List.{take-append-drop, drop-append-le, take-append-le, length-take-le}
use Rattle.std.proofs.lemmas.List.Sums.{sum_by-append}
use Rattle.std.proofs.Math.Seq.{take-length}
use Rattle.std.proofs.lemmas.Bool.Decides.{nat_tests}
use Rattle.std.specs.Prelude.{◌==◌, ◌&&◌, nat_lt, nat_le, option_map}
use Rattle.plain_types.specs.declared.change.Change.{Change}
use Rattle.plain_types.specs.declared.change.Effect.{Effect}
use Rattle.plain_types.specs.declared.entry.Entry.{Entry}
use Rattle.plain_types.specs.declared.history.Event.{Event}
use Rattle.plain_types.specs.declared.history.Replied.{Replied}
use Rattle.plain_types.specs.declared.history.Sent.{Sent}
use Rattle.plain_types.specs.declared.history.Step.{Step}
use Rattle.plain_types.specs.declared.history.Step.TheVariants.{Op, Flush, ClientFromServer, ClientFromStore, ServerTakes, Commit, Restart, Tend, StoreTakes}
use Rattle.plain_types.specs.declared.message.ToClient.{ToClient}
use Rattle.plain_types.specs.declared.message.ToServer.{ToServer}
use Rattle.plain_types.specs.declared.message.ToServer.TheVariants as to_server
use Rattle.plain_types.specs.declared.message.ToStore.{ToStore}
use Rattle.plain_types.specs.declared.request.Request.{Request}
use Rattle.plain_types.specs.declared.script.Script.{Script}
use Rattle.plain_tree.specs.History.{effects, replies}
use Rattle.plain_journal.specs.Entries.{change_in}
use Rattle.plain_journal.specs.Table.{effect_of, effects_from}
use Rattle.step_table.specs.Messages.{to_server_fits, to_store_fits}
use Rattle.step_table.specs.Legal.{IsEventOf, Legal, LegalFrom}
use Rattle.step_table.specs.Row.{Row, sends}
use Rattle.step_table.specs.ServerState.{Server, buffered, is_current}
use Rattle.step_table.specs.Acts.{Act}
use Rattle.step_table.specs.Flushes.{knows_file, knows_asked, on_flush as flush_rule, on_drop, asked_by, brought, may_connect}
use Rattle.step_table.specs.Background.{turn}
use Rattle.step_table.specs.ServerRows.{row_of, drops, ask, connect_with, back, taken_from, on_take, on_report, committed, on_commit, restarted, on_restart, on_tend}
use Rattle.step_table.specs.ClientState.{Client, open_request}
use Rattle.step_table.specs.ClientLines.{on_op, on_flush}
use Rattle.step_table.specs.ClientTakes.{on_told, on_stored}
use Rattle.step_table.specs.StoreRows.{takes, send_answers, answers, send_reports, reports, on_asked, on_ordered}
use Rattle.step_table.specs.World.{World, Made, row, after_row, after, start, with_client, with_message, with_first, some_row, at_client, at_server, client, put, pop, store_node, client_takes, client_takes_stored, server_takes, server_takes_report, store_takes, store_takes_order}
use Rattle.run_laws.specs.Moments.{steps_of, world_after}
use Rattle.run_laws.specs.Links.{View, EachClient, mine}
use Rattle.run_laws.specs.Answered.{AllOpen, effects_of}
use Rattle.run_laws.specs.Told.{edits_of, owed, AllTold}
use Rattle.run_laws.proofs.Acts.{AnyAct}
use Rattle.run_laws.proofs.Channels.{IsHead, popped, put_same, put_other}
use Rattle.run_laws.proofs.Gives.{KeptByServer, any_always, server_gives}
use Rattle.run_laws.proofs.Growing.{by_entries, take_take, room}
use Rattle.run_laws.proofs.Linked.{at_start}
use Rattle.run_laws.proofs.Moves.{act_keeps}
use Rattle.run_laws.proofs.Opening.{Opening, opening_rows, first_opening}
use Rattle.run_laws.proofs.Serving.{ServerGives}
use Rattle.run_laws.proofs.Telling.{told_of, answered_of, answered_append, answered_open, Credit, Credited, more_credit, not_told, front_owed, told_credit, op_credit, flush_credit, stored_credit}
use Rattle.run_laws.proofs.Views.{step_keeps, run_keeps}

-- The durable entries after a row of the server: more of those that there were before it.
record Moved (first : Server) (entries : List Entry) (durable : ℕ) : Type 0 where
  pub more : first.durable ≤ durable
  pub within : durable ≤ length first.entries
  pub fits : durable ≤ length entries
  pub same : take durable entries ≡ take durable first.entries

moved_more : (first s : Server) (e : Entry) → Moved first s.entries s.durable → Moved first (s.entries ++ e ∷ []) s.durable
moved_more first s e m = record {
  more = m.more;
  within = m.within;
  fits = let fits = m.fits in grind (arith, fits, length-append);
  same = take-append-le s.durable s.entries (e ∷ []) m.fits ∙ m.same;
}

abbrev AllFit : Server → Type 0
AllFit s = s.durable ≤ length s.entries

moved_kept : KeptByServer AnyAct AllFit (λ b first s. Moved first s.entries s.durable) (λ b first r. Moved first r.state.entries r.state.durable)
moved_kept = record {
  begins = λ s holds. record { more = omega arith; within = holds; fits = holds; same = refl };
  one = λ b first s a fit holds. act_keeps (by_entries (λ entries durable. Moved first entries durable) (λ t e so. moved_more first t e so)) s a holds;
  takes = λ first s hand holds. holds;
  accepts = λ first s client conn holds. holds;
  durable = λ s holds. record { more = holds; within = omega arith; fits = omega arith; same = refl };
  survives = λ s k fits holds. let within = room k s fits holds in record {
    more = omega arith;
    within = within;
    fits = let long = length-take-le (s.durable + k) s.entries within in omega (arith, long);
    same = take_take (s.durable + k) (s.durable + k) s.entries (omega arith) within;
  };
  hands = λ b first s holds. holds;
  blind = λ b first r e holds. holds;
}

moved_gives : ServerGives AllFit (λ b first r. Moved first r.state.entries r.state.durable)
moved_gives = server_gives any_always moved_kept

open_front : (n : ℕ) (o : Option (ℕ × Request)) (xs ys : List Entry) → AllOpen n o (xs ++ ys) → AllOpen n o xs
open_front n o [] ys all = tt
open_front n o (e ∷ xs) ys all = (all.0, open_front n o xs ys all.1)

moved_same : (n : ℕ) (o : Option (ℕ × Request)) (s : Server) (entries : List Entry) (durable : ℕ) → Moved s entries durable → AllOpen n o (drop s.durable s.entries) → answered_of n o (take s.durable s.entries) ≡ answered_of n o (take durable entries)
moved_same n o s entries durable m all =
    ap (answered_of n o) (sym (take_take s.durable durable s.entries m.more m.within))
    ∙ none_more (answered_of n o (take s.durable front)) (answered_of n o (drop s.durable front)) (answered_of n o front) rest (sym (answered_append n o (take s.durable front) (drop s.durable front)) ∙ ap (answered_of n o) (take-append-drop s.durable front))
    ∙ ap (answered_of n o) (sym m.same)
  where
    front : List Entry
    front = take durable s.entries

    within : s.durable ≤ length front
    within = let long = length-take-le durable s.entries m.within in let more = m.more in omega (arith, long, more)

    none_more : (x k y : ℕ) → k ≡ 0 → x + k ≡ y → x ≡ y
    none_more x k y none is = omega (arith, none, is)

    rest : answered_of n o (drop s.durable front) ≡ 0
    rest = answered_open n o (drop s.durable front) (open_front n o (drop s.durable front) (drop durable s.entries)
        (subst (AllOpen n o) (ap (drop s.durable) (sym (take-append-drop durable s.entries)) ∙ drop-append-le s.durable front (drop durable s.entries) within) all))

-- a row of the server replies nothing, and what takes effect at it has entries
edits_append : (m : ℕ) (xs ys : List Effect) → edits_of m (xs ++ ys) ≡ edits_of m xs + edits_of m ys
edits_append m xs ys = sum_by-append (λ (effect : Effect). cond (effect.client == m && effect.entry == 0) 1 0) xs ys

told_append : (m : ℕ) (xs ys : List Replied) → told_of m (xs ++ ys) ≡ told_of m xs + told_of m ys
told_append m xs ys = sum_by-append (λ (reply : Replied). cond (reply.client == m && reply.changed) 1 0) xs ys

entered : (m number : ℕ) (entries : List Entry) → edits_of m (effects_from (number + 1) entries) ≡ 0
entered m number [] = refl
entered m number (e ∷ entries) = edits_append m (effect_of (number + 1) e (change_in e.what)) (effects_from (number + 1 + 1) entries) ∙ none (edits_of m (effect_of (number + 1) e (change_in e.what))) (edits_of m (effects_from (number + 1 + 1) entries)) (one (change_in e.what)) (entered m (number + 1) entries)
  where
    none : (a b : ℕ) → a ≡ 0 → b ≡ 0 → a + b ≡ 0
    none a b first rest = omega (arith, first, rest)

    above : ((number + 1) == 0) ≡ false
    above = grind (arith, nat_tests)

    one : (o : Option Change) → edits_of m (effect_of (number + 1) e o) ≡ 0
    one None = refl
    one (Some change) = ap (λ (b : Bool). 0 + cond (e.client == m && b) 1 0) above ∙ not_told (e.client == m)

abbrev IsServers : {S : Type 0} → Row S → Type 0
IsServers r = (r.replies ≡ []) × ((m : ℕ) → edits_of m r.effects ≡ 0)

servers_if : {S : Type 0} (b : Bool) (x y : Row S) → IsServers x → IsServers y → IsServers (cond b x y)
servers_if true x y here other = here
servers_if false x y here other = other

take_servers : (s : Server) (x : ℕ) (m : ToServer) → IsServers (on_take s x m)
take_servers s x m = servers_if (to_server_fits m) (taken_from s x m) (drops s) (by_message m) (refl, λ m. refl)
  where
    by_message : (m : ToServer) → IsServers (taken_from s x m)
    by_message (to_server.Connect conn claims flushes asked) = servers_if (may_connect s x conn claims flushes (brought x asked)) (connect_with (back s x conn claims flushes (brought x asked)) (brought x asked)) (drops s) (refl, λ m. refl) (refl, λ m. refl)
    by_message (to_server.Ask conn tid asked) = servers_if (is_current s x conn && knows_asked s asked) (ask s (asked_by x tid asked)) (drops s) (refl, λ m. refl) (refl, λ m. refl)
    by_message (to_server.Flush conn f) = servers_if (is_current s x conn && knows_file s f.ino) (row_of s (flush_rule x s f)) (drops s) (refl, λ m. refl) (refl, λ m. refl)
    by_message (to_server.DropRead conn ino) = servers_if (is_current s x conn) (row_of s (on_drop x s ino)) (drops s) (refl, λ m. refl) (refl, λ m. refl)
    by_message (to_server.Purged id) = (refl, λ m. refl)
    by_message (to_server.Deleted ino) = (refl, λ m. refl)

commit_servers : (s : Server) → IfSome (on_commit s) IsServers
commit_servers s = by_test (nat_lt 0 (buffered s))
  where
    by_test : (b : Bool) → IfSome (cond b (Some (committed s)) None) IsServers
    by_test true = (refl, λ m. entered m s.durable (drop s.durable (take (length s.entries) s.entries)))
    by_test false = tt

restart_servers : (s : Server) (k : ℕ) → IfSome (on_restart s k) IsServers
restart_servers s k = by_test (nat_le k (buffered s))
  where
    by_test : (b : Bool) → IfSome (cond b (Some (restarted s (s.durable + k))) None) IsServers
    by_test true = (refl, λ m. entered m s.durable (drop s.durable (take (s.durable + k) s.entries)))
    by_test false = tt

tend_servers : (s : Server) → IfSome (on_tend s) IsServers
tend_servers s = by_turn (turn s)
  where
    by_turn : (o : Option (List Act)) → IfSome (option_map (row_of s) o) IsServers
    by_turn None = tt
    by_turn (Some list) = (refl, λ m. refl)

-- nor does a row of the store
takes_servers : (taken : List ToStore) (order : ToStore) (list : List Sent) → IsServers (takes taken order list)
takes_servers taken order [] = (refl, λ m. refl)
takes_servers taken order (said ∷ more) = (refl, λ m. refl)

asked_servers : (object : ℕ) (taken : List ToStore) (x : ℕ) (order : ToStore) → IsServers (on_asked object taken x order)
asked_servers object taken x order = servers_if (to_store_fits order) (takes taken order (send_answers x (answers object taken order))) (sends taken []) (takes_servers taken order (send_answers x (answers object taken order))) (refl, λ m. refl)

ordered_servers : (taken : List ToStore) (order : ToStore) → IsServers (on_ordered taken order)
ordered_servers taken order = servers_if (to_store_fits order) (takes taken order (send_reports (reports order))) (sends taken []) (takes_servers taken order (send_reports (reports order))) (refl, λ m. refl)

none_paid : {S : Type 0} (n : ℕ) (r : Row S) → IsServers r → told_of n r.replies ≡ edits_of n r.effects
none_paid n r is = ap (told_of n) is.0 ∙ sym (is.1 n)

abbrev CreditedAt : ℕ → ℕ → ℕ → Client → Row Server → Type 0
CreditedAt n t b c r = Credit n (t + told_of n r.replies) (b + edits_of n r.effects) (open_request c.under) (take r.state.durable r.state.entries)

server_credit : (n t b : ℕ) (c : Client) (s : Server) (r : Row Server) → AllOpen n (open_request c.under) (drop s.durable s.entries) → Moved s r.state.entries r.state.durable → IsServers r → Credit n t b (open_request c.under) (take s.durable s.entries) → CreditedAt n t b c r
server_credit n t b c s r all moved is was =
    more_credit t (told_of n r.replies) b (edits_of n r.effects) (answered_of n (open_request c.under) (take s.durable s.entries)) (answered_of n (open_request c.under) (take r.state.durable r.state.entries)) was
    (moved_same n (open_request c.under) s r.state.entries r.state.durable moved all) (none_paid n r is)

server_credits : (n t b : ℕ) (c : Client) (s : Server) (o : Option (Row Server)) → AllOpen n (open_request c.under) (drop s.durable s.entries) → IfSome o (λ r. Moved s r.state.entries r.state.durable) → IfSome o IsServers → Credit n t b (open_request c.under) (take s.durable s.entries) → IfSome o (CreditedAt n t b c)
server_credits n t b c s None all moved is was = tt
server_credits n t b c s (Some r) all moved is was = server_credit n t b c s r all moved is was

-- what each client was told, in the world
abbrev CreditIn : World → ℕ → ℕ → ℕ → Client → Type 0
CreditIn w n t b c = Credit n t b (open_request c.under) (take w.server.durable w.server.entries)

abbrev Credits : (ℕ → ℕ) → (ℕ → ℕ) → World → Type 0
Credits t b w = (n : ℕ) → IfSome (client w.clients n) (CreditIn w n (t n) (b n))

abbrev CreditsAfter : (ℕ → ℕ) → (ℕ → ℕ) → Made → Type 0
CreditsAfter t b made = Credits (λ n. t n + told_of n made.replies) (λ n. b n + edits_of n made.effects) made.world

if_both : (o : Option Client) (P Q R : Client → Type 0) → ((c : Client) → P c → Q c → R c) → IfSome o P → IfSome o Q → IfSome o R
if_both None P Q R go p q = tt
if_both (Some c) P Q R go p q = go c p q

if_map : (o : Option Client) (P Q : Client → Type 0) → ((c : Client) → P c → Q c) → IfSome o P → IfSome o Q
if_map None P Q go p = tt
if_map (Some c) P Q go p = go c p

client_credits : (t b : ℕ → ℕ) (w : World) (x : ℕ) (r : Row Client) → Credited x (t x) (b x) (take w.server.durable w.server.entries) r → Credits t b w
    → (n : ℕ) → IfSome (client (put w.clients x r.state) n) (CreditIn w n (t n + told_of n r.replies) (b n + edits_of n r.effects))
client_credits t b w x r own paid n = by_test (x == n) refl
  where
    Goal : ℕ → Type 0
    Goal n = IfSome (client (put w.clients x r.state) n) (CreditIn w n (t n + told_of n r.replies) (b n + edits_of n r.effects))

    here : Goal x
    here = put_same x w.clients r.state (CreditIn w x (t x + told_of x r.replies) (b x + edits_of x r.effects)) own.0

    by_test : (test : Bool) → (x == n) ≡ test → Goal n
    by_test true test = subst Goal (grind (arith, nat_tests, test)) here
    by_test false test = subst (λ (o : Option Client). IfSome o (CreditIn w n (t n + told_of n r.replies) (b n + edits_of n r.effects))) (sym (put_other x n w.clients r.state test))
        (if_map (client w.clients n) (CreditIn w n (t n) (b n)) (CreditIn w n (t n + told_of n r.replies) (b n + edits_of n r.effects))
        (λ c was. more_credit (t n) (told_of n r.replies) (b n) (edits_of n r.effects) (answered_of n (open_request c.under) (take w.server.durable w.server.entries)) _ was refl (own.1 n test)) (paid n))

-- each step of the world
step_credits : (t b : ℕ → ℕ) (w : World) (step : Step) → EachClient Opening w → Credits t b w → IfSome (row w step) (CreditsAfter t b)
step_credits t b w step each paid = by_step step
  where
    front : List Entry
    front = take w.server.durable w.server.entries

    After : Option Made → Type 0
    After o = IfSome o (CreditsAfter t b)

    by_client : (x : ℕ) (go_on : Client → Option Made) → ((c : Client) → Opening x c (mine x w.up) (mine x w.down) w.server → CreditIn w x (t x) (b x) c → After (go_on c)) → After (with_client w x go_on)
    by_client x go_on keeps = found (client w.clients x) (each x) (paid x)
      where
        found : (o : Option Client) → IfSome o (λ c. Opening x c (mine x w.up) (mine x w.down) w.server) → IfSome o (CreditIn w x (t x) (b x)) → After (elim o [ None ↦ None | Some c ↦ go_on c ])
        found None holds was = tt
        found (Some c) holds was = keeps c holds was

    by_message : {M : Type 0} (x : ℕ) (channels : List (ℕ × M)) (go_on : List (ℕ × M) → M → Option Made) → ((m : M) (rest : List (ℕ × M)) → IsHead x channels (m, rest) → After (go_on rest m)) → After (with_message x channels go_on)
    by_message {M} x channels go_on keeps = found (pop x channels) (popped x channels)
      where
        found : (o : Option (M × List (ℕ × M))) → IfSome o (IsHead x channels) → After (elim o [ None ↦ None | Some f ↦ go_on f.1 f.0 ])
        found None head = tt
        found (Some f) head = keeps f.0 f.1 head

    by_first : {M : Type 0} (channel : List M) (go_on : List M → M → Option Made) → ((m : M) (rest : List M) → After (go_on rest m)) → After (with_first channel go_on)
    by_first [] go_on keeps = tt
    by_first (m ∷ rest) go_on keeps = keeps m rest

    own_row : (x : ℕ) (o : Option (Row Client)) → IfSome o (Credited x (t x) (b x) front) → After (some_row (at_client x w None) o)
    own_row x None own = tt
    own_row x (Some r) own = client_credits t b w x r own paid

    AtServer : ℕ → Client → Type 0
    AtServer n c = Opening n c (mine n w.up) (mine n w.down) w.server

    tail : (n : ℕ) (c : Client) → AtServer n c → AllOpen n (open_request c.under) (drop w.server.durable w.server.entries)
    tail n c holds = holds.0.0.0.1.1

    fits : (n : ℕ) (c : Client) → AtServer n c → AllFit w.server
    fits n c holds = holds.0.0.0.1.0.0.fits

    of_server : (r : Row Server) → ((n : ℕ) (c : Client) → AtServer n c → CreditIn w n (t n) (b n) c → CreditedAt n (t n) (b n) c r) → (n : ℕ) → IfSome (client w.clients n) (λ c. CreditedAt n (t n) (b n) c r)
    of_server r keeps n = if_both (client w.clients n) (AtServer n) (CreditIn w n (t n) (b n)) (λ c. CreditedAt n (t n) (b n) c r) (keeps n) (each n) (paid n)

    server_row : (o : Option (Row Server)) → ((n : ℕ) (c : Client) → AtServer n c → CreditIn w n (t n) (b n) c → IfSome o (CreditedAt n (t n) (b n) c)) → After (some_row (at_server w None) o)
    server_row None keeps = tt
    server_row (Some r) keeps = of_server r keeps

    took : (x : ℕ) (test : Bool) → After (cond test (with_first w.reported (server_takes_report w)) (with_message x w.up (server_takes x w)))
    took x true = by_first w.reported (server_takes_report w) (λ m rest. of_server (on_report w.server m) (λ n c holds was. server_credit n (t n) (b n) c w.server (on_report w.server m) (tail n c holds) (moved_gives.reports w.server m (fits n c holds)) (refl, λ m. refl) was))
    took x false = by_message x w.up (server_takes x w) (λ m rest head. of_server (on_take w.server x m) (λ n c holds was. server_credit n (t n) (b n) c w.server (on_take w.server x m) (tail n c holds) (moved_gives.takes w.server x m (fits n c holds)) (take_servers w.server x m) was))

    of_store : {S : Type 0} (r : Row S) → IsServers r → (n : ℕ) → IfSome (client w.clients n) (CreditIn w n (t n + told_of n r.replies) (b n + edits_of n r.effects))
    of_store r is n = if_map (client w.clients n) (CreditIn w n (t n) (b n)) (CreditIn w n (t n + told_of n r.replies) (b n + edits_of n r.effects))
        (λ c was. more_credit (t n) (told_of n r.replies) (b n) (edits_of n r.effects) (answered_of n (open_request c.under) front) _ was refl (none_paid n r is)) (paid n)

    stores : (x : ℕ) (test : Bool) → After (cond test (with_first w.ordered (store_takes_order w)) (with_message x w.asked (store_takes x w)))
    stores x true = by_first w.ordered (store_takes_order w) (λ m rest. of_store (on_ordered w.store m) (ordered_servers w.store m))
    stores x false = by_message x w.asked (store_takes x w) (λ m rest head. of_store (on_asked w.object w.store x m) (asked_servers w.object w.store x m))

    by_step : (step : Step) → After (row w step)
    by_step (Op x) = by_client x _ (λ c holds was. own_row x (on_op c) (op_credit x (t x) (b x) c (mine x w.up) (mine x w.down) w.server holds was))
    by_step (Flush x) = by_client x _ (λ c holds was. own_row x (on_flush c) (flush_credit x (t x) (b x) c front was))
    by_step (ClientFromServer x) = by_message x w.down (client_takes x w) (λ m rest head. by_client x _ (λ c holds was.
        client_credits t b w x (on_told c m) (told_credit x (t x) (b x) c (mine x w.up) m (mine x rest) w.server (subst (λ (l : List ToClient). Opening x c (mine x w.up) l w.server) head.0 holds) was) paid))
    by_step (ClientFromStore x) = by_message x w.stored (client_takes_stored x w) (λ m rest head. by_client x _ (λ c holds was.
        client_credits t b w x (on_stored c m) (stored_credit x (t x) (b x) c m front was) paid))
    by_step (ServerTakes x) = took x (x == store_node w)
    by_step (StoreTakes x) = stores x (x == 0)
    by_step Commit = server_row (on_commit w.server) (λ n c holds was. server_credits n (t n) (b n) c w.server (on_commit w.server) (tail n c holds) (moved_gives.commits w.server (fits n c holds)) (commit_servers w.server) was)
    by_step Tend = server_row (on_tend w.server) (λ n c holds was. server_credits n (t n) (b n) c w.server (on_tend w.server) (tail n c holds) (moved_gives.tends w.server (fits n c holds)) (tend_servers w.server) was)
    by_step (Restart k) = server_row (on_restart w.server k) (λ n c holds was. server_credits n (t n) (b n) c w.server (on_restart w.server k) (tail n c holds) (moved_gives.restarts w.server k (fits n c holds)) (restart_servers w.server k) was)

-- and so each history
credits_same : (t u b d : ℕ → ℕ) (w : World) → ((n : ℕ) → t n ≡ u n) → ((n : ℕ) → b n ≡ d n) → Credits t b w → Credits u d w
credits_same t u b d w told made paid n = subst (λ (k : ℕ). IfSome (client w.clients n) (CreditIn w n k (d n))) (told n) (subst (λ (k : ℕ). IfSome (client w.clients n) (CreditIn w n (t n) k)) (made n) (paid n))

added : (a b c d e : ℕ) → e ≡ d + c → d ≡ b → (a + b) + c ≡ a + e
added a b c d e sum same = omega (arith, sum, same)

history_credits : (t b : ℕ → ℕ) (w : World) (history : List Event) → LegalFrom w history → EachClient Opening w → Credits t b w
    → Credits (λ n. t n + told_of n (replies history)) (λ n. b n + edits_of n (effects history)) (after w (steps_of history))
history_credits t b w [] legal each paid = credits_same t (λ n. t n + 0) b (λ n. b n + 0) w (λ n. omega arith) (λ n. omega arith) paid
history_credits t b w (event ∷ history) legal each paid =
    go (row w event.step) (step_keeps Opening opening_rows w event.step each) (step_credits t b w event.step each paid) (λ u d next legal each paid. history_credits u d next history legal each paid) legal
  where
    Later : Type 0
    Later = (u d : ℕ → ℕ) (next : World) → LegalFrom next history → EachClient Opening next → Credits u d next → Credits (λ n. u n + told_of n (replies history)) (λ n. d n + edits_of n (effects history)) (after next (steps_of history))

    go : (made : Option Made) → EachClient Opening (after_row w made) → IfSome made (CreditsAfter t b) → Later → elim made as (λ _. Type 0) [ None ↦ ⊥ | Some made ↦ IsEventOf event made × LegalFrom made.world history ]
        → Credits (λ n. t n + told_of n (event.replies ++ replies history)) (λ n. b n + edits_of n (event.effects ++ effects history)) (after (after_row w made) (steps_of history))
    go None each paid later legal = absurd legal
    go (Some made) each paid later legal =
        credits_same (λ n. (t n + told_of n made.replies) + told_of n (replies history)) (λ n. t n + told_of n (event.replies ++ replies history)) (λ n. (b n + edits_of n made.effects) + edits_of n (effects history)) (λ n. b n + edits_of n (event.effects ++ effects history)) (after made.world (steps_of history))
        (λ n. added (t n) (told_of n made.replies) (told_of n (replies history)) (told_of n event.replies) (told_of n (event.replies ++ replies history)) (told_append n event.replies (replies history)) (ap (told_of n) legal.0.replies))
        (λ n. added (b n) (edits_of n made.effects) (edits_of n (effects history)) (edits_of n event.effects) (edits_of n (event.effects ++ effects history)) (edits_append n event.effects (effects history)) (ap (edits_of n) legal.0.effects))
        (later (λ n. t n + told_of n made.replies) (λ n. b n + edits_of n made.effects) made.world legal.1 each paid)

-- the law
abbrev AtFirst : View
AtFirst n c up down s = Credit n 0 0 (open_request c.under) (take s.durable s.entries)

pub told_law : (script : Script) (history : List Event) → Legal history script → EachClient (AllTold history) (world_after script history)
told_law script history legal n = if_both (client now.clients n) (λ c. Opening n c (mine n now.up) (mine n now.down) now.server) (CreditIn now n (0 + told_of n (replies history)) (0 + edits_of n (effects history))) (λ c. AllTold history n c (mine n now.up) (mine n now.down) now.server)
    (λ c holds was. one c holds was)
    (run_keeps Opening opening_rows (start script) (steps_of history) first n)
    (history_credits (λ n. 0) (λ n. 0) (start script) history legal.rows first (at_start AtFirst script (λ n is. refl)) n)
  where
    now : World
    now = world_after script history

    first : EachClient Opening (start script)
    first = at_start Opening script (λ n is. first_opening script n is)

    sums : (t x b k y : ℕ) → 0 + t ≡ x + (0 + b) → x + k ≡ y → t + k ≡ y + b
    sums t x b k y was more = omega (arith, was, more)

    one : (c : Client) → Opening n c (mine n now.up) (mine n now.down) now.server → CreditIn now n (0 + told_of n (replies history)) (0 + edits_of n (effects history)) c → AllTold history n c (mine n now.up) (mine n now.down) now.server
    one c holds was = let front = take now.server.durable now.server.entries in let o = open_request c.under in
        ap (λ (l : List Event). told_of n (replies l) + owed n o front) (take-length history)
        ∙ sums (told_of n (replies history)) (answered_of n o front) (edits_of n (effects history)) (owed n o front) (effects_of n front) was (front_owed n c (mine n now.up) (mine n now.down) now.server holds)

-- Each node takes from each other what that one sent, along each run.
use Rattle.std.proofs.Common.{◌≡◌, ℕ, ◌+◌, List, [], ◌∷◌, ◌++◌, append_assoc, map, Bool, true, false, cond, Option, None, Some, refl, sym, ap, ◌∙◌, subst, IfSome, arith, ◌⊎◌, inl, inr}
use Rattle.std.proofs.lemmas.List.{append-nil}
use Rattle.std.proofs.lemmas.Bool.Decides.{nat_tests}
use Rattle.std.specs.Prelude.{◌==◌, ◌&&◌}
use Rattle.plain_types.specs.declared.history.Event.{Event}
use Rattle.plain_types.specs.declared.history.Step.{Step}
use Rattle.plain_types.specs.declared.history.Step.TheVariants.{Op, Flush, ClientFromServer, ClientFromStore, ServerTakes, Commit, Restart, Tend, StoreTakes}
use Rattle.plain_types.specs.declared.message.Message.{Message}
use Rattle.plain_types.specs.declared.message.Message.TheVariants as message
use Rattle.plain_types.specs.declared.message.ToServer.{ToServer}
use Rattle.plain_types.specs.declared.message.ToStore.{ToStore}
use Rattle.plain_types.specs.declared.script.Script.{Script}
use Rattle.step_table.specs.Legal.{LegalFrom, Delivered, Legal, taken_from, is_node, taken_list, sent_between, taken_between}
use Rattle.step_table.specs.Row.{Row}
use Rattle.step_table.specs.ServerState.{Server, up_to, number_of}
use Rattle.step_table.specs.ServerRows.{on_take, on_report, on_commit, on_restart, on_tend}
use Rattle.step_table.specs.ClientState.{Client, new_client}
use Rattle.step_table.specs.ClientLines.{on_op, on_flush}
use Rattle.step_table.specs.ClientTakes.{on_told, on_stored}
use Rattle.step_table.specs.StoreRows.{on_asked, on_ordered}
use Rattle.step_table.specs.World.{World, Made, row, run, start, event_of, lines_of, with_client, with_message, with_first, some_row, at_client, at_server, at_store, client, put, pop, store_node, client_takes, client_takes_stored, server_takes, server_takes_report, store_takes, store_takes_order, to_server, to_store, tagged}
use Rattle.run_laws.specs.Links.{mine}
use Rattle.run_laws.proofs.Channels.{IsHead, popped, mine_append, mine_other, put_same, put_other}
use Rattle.run_laws.proofs.Serving.{no_client_start}
use Rattle.run_laws.proofs.Fitting.{AllUpTo, up_to_all}
use Rattle.run_laws.proofs.Sending.{AllSent, Right, SentRight, takes_right, reports_right, commits_right, restarts_right, tends_right}
use Rattle.run_laws.proofs.Outgoing.{Goes, ByClient, ByStore, op_goes, flush_goes, told_goes, stored_goes, asked_of_store, ordered_of_store}
use Rattle.run_laws.proofs.Carried.{Apart, apart, itself, IsClient, Channel, Down, Up, Asked, Stored, Ordered, Reported, from_of, to_of, IsChannel, content, sent_along, Sends, server_sends, client_sends, store_sends, taken_along, Takes, none_taken, down_taken, stored_taken, up_taken, reported_taken, asked_taken, ordered_taken}

-- the channel from one node to another, if there is one
abbrev pub between : ℕ → ℕ → ℕ → Option Channel
between store from to =
    cond (from == 0) (cond (to == 0) None (cond (to == store) (Some Ordered) (Some (Down to))))
    (cond (from == store) (cond (to == 0) (Some Reported) (cond (to == store) None (Some (Stored to))))
    (cond (to == 0) (Some (Up from)) (cond (to == store) (Some (Asked from)) None)))

equal : (a b : ℕ) → (a == b) ≡ true → a ≡ b
equal a b is = grind (arith, nat_tests, is)

flip : (a b : ℕ) → (a == b) ≡ false → (b == a) ≡ false
flip a b is = grind (arith, nat_tests, is)

its_ends : (store from to : ℕ) → IfSome (between store from to) (λ channel. IsChannel store channel × ((from_of store channel ≡ from) × (to_of store channel ≡ to)))
its_ends store from to = by_tests (from == 0) (from == store) (to == 0) (to == store) refl refl refl refl
  where
    client_at : (n : ℕ) → (n == 0) ≡ false → (n == store) ≡ false → IsClient store n
    client_at n zero is = ((zero, flip n 0 zero), (is, flip n store is))

    by_tests : (a b c d : Bool) → (from == 0) ≡ a → (from == store) ≡ b → (to == 0) ≡ c → (to == store) ≡ d
        → IfSome (cond a (cond c None (cond d (Some Ordered) (Some (Down to)))) (cond b (cond c (Some Reported) (cond d None (Some (Stored to)))) (cond c (Some (Up from)) (cond d (Some (Asked from)) None)))) (λ channel. IsChannel store channel × ((from_of store channel ≡ from) × (to_of store channel ≡ to)))
    by_tests true b true d from0 froms to0 tos = tt
    by_tests true b false true from0 froms to0 tos = (tt, (sym (equal from 0 from0), sym (equal to store tos)))
    by_tests true b false false from0 froms to0 tos = (client_at to to0 tos, (sym (equal from 0 from0), refl))
    by_tests false true true d from0 froms to0 tos = (tt, (sym (equal from store froms), sym (equal to 0 to0)))
    by_tests false true false true from0 froms to0 tos = tt
    by_tests false true false false from0 froms to0 tos = (client_at to to0 tos, (sym (equal from store froms), refl))
    by_tests false false true d from0 froms to0 tos = (client_at from from0 froms, (refl, sym (equal to 0 to0)))
    by_tests false false false true from0 froms to0 tos = (client_at from from0 froms, (refl, sym (equal to store tos)))
    by_tests false false false false from0 froms to0 tos = tt

-- each channel is the one between its ends
is_between : (store : ℕ) → Apart store 0 → (channel : Channel) → IsChannel store channel → between store (from_of store channel) (to_of store channel) ≡ Some channel
is_between store zero (Down n) is = rw (is.0.0, is.1.0) refl
is_between store zero (Up n) is = rw (is.0.0, is.1.0) refl
is_between store zero (Asked n) is = rw (is.0.0, is.1.0, zero.0, itself store) refl
is_between store zero (Stored n) is = rw (zero.0, itself store, is.0.0, is.1.0) refl
is_between store zero Ordered is = rw (zero.0, itself store) refl
is_between store zero Reported is = rw (zero.0, itself store) refl

-- what is kept of a world: no client is numbered as the server or the store, each knows the store's number, and nothing is
-- on the way from the server or the store to itself
record SoundAt (store : ℕ) (server : Server) (clients : List (ℕ × Client)) (up : List (ℕ × ToServer)) (asked : List (ℕ × ToStore)) : Type 0 where
  right : Right store server
  zero : client clients 0 ≡ None
  free : client clients store ≡ None
  know : (n : ℕ) → IfSome (client clients n) (λ c. c.store ≡ store)
  none_up : mine 0 up ≡ []
  none_asked : mine store asked ≡ []

abbrev Sound : ℕ → World → Type 0
Sound store w = SoundAt store w.server w.clients w.up w.asked

-- what a step does
record Moved (store : ℕ) (w : World) (step : Step) (made : Made) : Type 0 where
  sound : Sound store made.world
  moved : (channel : Channel) → IsChannel store channel → taken_along store channel made.node (taken_from store step) made.taken ++ content made.world channel ≡ content w channel ++ sent_along store channel made
  along : (taken_from store step ≡ None) ⊎ ((channel : Channel) × IsChannel store channel × (taken_from store step ≡ Some (from_of store channel)) × (made.node ≡ to_of store channel))

taken_and_sent : (store : ℕ) (w next : World) (step : Step) (made : Made) → Takes store w next made.node (taken_from store step) made.taken → Sends store next made
    → (channel : Channel) → IsChannel store channel → taken_along store channel made.node (taken_from store step) made.taken ++ content made.world channel ≡ content w channel ++ sent_along store channel made
taken_and_sent store w next step made takes sends channel is =
    let taken = taken_along store channel made.node (taken_from store step) made.taken in
    ap (λ (l : List Message). taken ++ l) (sends channel is)
    ∙ sym (append_assoc taken (content next channel) (sent_along store channel made))
    ∙ ap (λ (l : List Message). l ++ sent_along store channel made) (takes channel is)

each_moves : (store : ℕ) (w : World) (step : Step) → Apart store 0 → Sound store w → IfSome (row w step) (Moved store w step)
each_moves store w step apart_zero sound = by_step step
  where
    Good : Step → Option Made → Type 0
    Good s o = IfSome o (Moved store w s)

    Along : Step → ℕ → Type 0
    Along s node = (taken_from store s ≡ None) ⊎ ((channel : Channel) × IsChannel store channel × (taken_from store s ≡ Some (from_of store channel)) × (node ≡ to_of store channel))

    -- rows
    client_moves : (s : Step) (x : ℕ) (next : World) (taken : Option Message) (c : Client) (r : Row Client) → IsClient store x → c.store ≡ store → Goes c r → Takes store w next x (taken_from store s) taken → Sound store next → Along s x → Moved store w s (at_client x next taken r)
    client_moves s x next taken c r at knows goes takes now along = record {
      sound = record {
        right = now.right;
        zero = put_other x 0 next.clients r.state at.0.0 ∙ now.zero;
        free = put_other x store next.clients r.state at.1.0 ∙ now.free;
        know = λ n. know n (x == n) refl;
        none_up = mine_append 0 next.up (tagged x (to_server r.sent)) ∙ ap (λ (l : List ToServer). l ++ mine 0 (tagged x (to_server r.sent))) now.none_up ∙ mine_other 0 x (to_server r.sent) at.0.0;
        none_asked = mine_append store next.asked (tagged x (to_store r.sent)) ∙ ap (λ (l : List ToStore). l ++ mine store (tagged x (to_store r.sent))) now.none_asked ∙ mine_other store x (to_store r.sent) at.1.0;
      };
      moved = taken_and_sent store w next s (at_client x next taken r) takes (client_sends store x next taken r apart_zero at all);
      along = along;
    }
      where
        all : AllSent (ByClient store) r.sent
        all = subst (λ (n : ℕ). AllSent (ByClient n) r.sent) knows goes.all

        know : (n : ℕ) (b : Bool) → (x == n) ≡ b → IfSome (client (put next.clients x r.state) n) (λ c. c.store ≡ store)
        know n true test = subst (λ (y : ℕ). IfSome (client (put next.clients x r.state) y) (λ c. c.store ≡ store)) (equal x n test) (put_same x next.clients r.state (λ c. c.store ≡ store) (goes.store ∙ knows))
        know n false test = rw (put_other x n next.clients r.state test) (now.know n)

    server_moves : (s : Step) (next : World) (taken : Option Message) (r : Row Server) → SentRight store r → Takes store w next 0 (taken_from store s) taken → Sound store next → Along s 0 → Moved store w s (at_server next taken r)
    server_moves s next taken r right takes now along = record {
      sound = record { right = right.0; zero = now.zero; free = now.free; know = now.know; none_up = now.none_up; none_asked = now.none_asked };
      moved = taken_and_sent store w next s (at_server next taken r) takes (server_sends store next taken r apart_zero right.1);
      along = along;
    }

    store_moves : (s : Step) (next : World) (taken : Message) (r : Row (List ToStore)) → AllSent ByStore r.sent → Takes store w next store (taken_from store s) (Some taken) → Sound store next → Along s store → Moved store w s (at_store next taken r)
    store_moves s next taken r all takes now along = record {
      sound = now;
      moved = taken_and_sent store w next s (at_store next taken r) (subst (λ (n : ℕ). Takes store w next n (taken_from store s) (Some taken)) (sym now.right.number) takes) (store_sends store next taken r now.right.number apart_zero all);
      along = subst (Along s) (sym now.right.number) along;
    }

    -- who takes what
    by_client : (s : Step) (x : ℕ) (go_on : Client → Option Made) → ((c : Client) → IsClient store x → c.store ≡ store → Good s (go_on c)) → Good s (with_client w x go_on)
    by_client s x go_on keeps = found (client w.clients x) refl (sound.know x)
      where
        clash : (n : ℕ) (c : Client) → client w.clients n ≡ None → client w.clients n ≡ Some c → ⊥
        clash n c none some = cc

        found : (o : Option Client) → client w.clients x ≡ o → IfSome o (λ c. c.store ≡ store) → Good s (elim o [ None ↦ None | Some c ↦ go_on c ])
        found None is knows = tt
        found (Some c) is knows = keeps c (apart x 0 (λ same. clash 0 c sound.zero (subst (λ (n : ℕ). client w.clients n ≡ Some c) same is)), apart x store (λ same. clash store c sound.free (subst (λ (n : ℕ). client w.clients n ≡ Some c) same is))) knows

    by_message : {M : Type 0} (s : Step) (x : ℕ) (channels : List (ℕ × M)) (go_on : List (ℕ × M) → M → Option Made) → ((m : M) (rest : List (ℕ × M)) → IsHead x channels (m, rest) → Good s (go_on rest m)) → Good s (with_message x channels go_on)
    by_message {M} s x channels go_on keeps = found (pop x channels) (popped x channels)
      where
        found : (o : Option (M × List (ℕ × M))) → IfSome o (IsHead x channels) → Good s (elim o [ None ↦ None | Some f ↦ go_on f.1 f.0 ])
        found None head = tt
        found (Some f) head = keeps f.0 f.1 head

    by_first : {M : Type 0} (s : Step) (channel : List M) (go_on : List M → M → Option Made) → ((m : M) (rest : List M) → channel ≡ m ∷ rest → Good s (go_on rest m)) → Good s (with_first channel go_on)
    by_first s [] go_on keeps = tt
    by_first s (m ∷ rest) go_on keeps = keeps m rest refl

    own_row : (s : Step) (x : ℕ) (c : Client) (o : Option (Row Client)) → taken_from store s ≡ None → IsClient store x → c.store ≡ store → IfSome o (Goes c) → Good s (some_row (at_client x w None) o)
    own_row s x c None none at knows goes = tt
    own_row s x c (Some r) none at knows goes = client_moves s x w None c r at knows goes (subst (λ (o : Option ℕ). Takes store w w x o None) (sym none) (none_taken store w x None)) sound (inl none)

    own_server_row : (s : Step) (o : Option (Row Server)) → taken_from store s ≡ None → IfSome o (SentRight store) → Good s (some_row (at_server w None) o)
    own_server_row s None none right = tt
    own_server_row s (Some r) none right = server_moves s w None r right (subst (λ (o : Option ℕ). Takes store w w 0 o None) (sym none) (none_taken store w 0 None)) sound (inl none)

    -- nothing is on the way from this number
    no_head : {M : Type 0} (n x : ℕ) (channels rest : List (ℕ × M)) (m : M) → mine n channels ≡ [] → mine x channels ≡ m ∷ mine x rest → x ≡ n → ⊥
    no_head {M} n x channels rest m none head same = clash (subst (λ (y : ℕ). mine y channels ≡ m ∷ mine x rest) same head)
      where
        clash : mine n channels ≡ m ∷ mine x rest → ⊥
        clash some = cc

    took : (x : ℕ) (b : Bool) → (x == store_node w) ≡ b → Good (ServerTakes x) (cond b (with_first w.reported (server_takes_report w)) (with_message x w.up (server_takes x w)))
    took x true test = by_first (ServerTakes x) w.reported (server_takes_report w) (λ m rest head.
        server_moves (ServerTakes x) (record w { reported = rest }) (Some (message.ToServer m)) (on_report w.server m) (reports_right store w.server m sound.right)
        (subst (λ (n : ℕ). Takes store w (record w { reported = rest }) 0 (Some n) (Some (message.ToServer m))) (sym is_store) (reported_taken store w rest m apart_zero head)) sound
        (inr (Reported, tt, ap Some is_store, refl)))
      where
        is_store : x ≡ store
        is_store = equal x (store_node w) test ∙ sound.right.number
    took x false test = by_message (ServerTakes x) x w.up (server_takes x w) (λ m rest head.
        let at : IsClient store x = (apart x 0 (no_head 0 x w.up rest m sound.none_up head.0), (not_it, flip x store not_it)) in
        server_moves (ServerTakes x) (record w { up = rest }) (Some (message.ToServer m)) (on_take w.server x m) (takes_right store w.server x m not_it sound.right)
        (up_taken store x w rest m apart_zero at head)
        (record { right = sound.right; zero = sound.zero; free = sound.free; know = sound.know; none_up = head.1 0 at.0.0 ∙ sound.none_up; none_asked = sound.none_asked })
        (inr (Up x, at, refl, refl)))
      where
        not_it : (x == store) ≡ false
        not_it = subst (λ (n : ℕ). (x == n) ≡ false) sound.right.number test

    stores : (x : ℕ) (b : Bool) → (x == 0) ≡ b → Good (StoreTakes x) (cond b (with_first w.ordered (store_takes_order w)) (with_message x w.asked (store_takes x w)))
    stores x true test = by_first (StoreTakes x) w.ordered (store_takes_order w) (λ m rest head.
        store_moves (StoreTakes x) (record w { ordered = rest }) (message.ToStore m) (on_ordered w.store m) (ordered_of_store w.store m)
        (subst (λ (n : ℕ). Takes store w (record w { ordered = rest }) store (Some n) (Some (message.ToStore m))) (sym (equal x 0 test)) (ordered_taken store w rest m apart_zero head)) sound
        (inr (Ordered, tt, ap Some (equal x 0 test), refl)))
    stores x false test = by_message (StoreTakes x) x w.asked (store_takes x w) (λ m rest head.
        let at : IsClient store x = ((test, flip x 0 test), apart x store (no_head store x w.asked rest m sound.none_asked head.0)) in
        store_moves (StoreTakes x) (record w { asked = rest }) (message.ToStore m) (on_asked w.object w.store x m) (asked_of_store w.object w.store x m test)
        (asked_taken store x w rest m apart_zero at head)
        (record { right = sound.right; zero = sound.zero; free = sound.free; know = sound.know; none_up = sound.none_up; none_asked = head.1 store at.1.0 ∙ sound.none_asked })
        (inr (Asked x, at, refl, refl)))

    by_step : (step : Step) → Good step (row w step)
    by_step (Op x) = by_client (Op x) x _ (λ c at knows. own_row (Op x) x c (on_op c) refl at knows (op_goes c))
    by_step (Flush x) = by_client (Flush x) x _ (λ c at knows. own_row (Flush x) x c (on_flush c) refl at knows (flush_goes c))
    by_step (ClientFromServer x) = by_message (ClientFromServer x) x w.down (client_takes x w) (λ m rest head. by_client (ClientFromServer x) x _ (λ c at knows.
        client_moves (ClientFromServer x) x (record w { down = rest }) (Some (message.ToClient m)) c (on_told c m) at knows (told_goes c m) (down_taken store x w rest m apart_zero at head) sound (inr (Down x, at, refl, refl))))
    by_step (ClientFromStore x) = by_message (ClientFromStore x) x w.stored (client_takes_stored x w) (λ m rest head. by_client (ClientFromStore x) x _ (λ c at knows.
        client_moves (ClientFromStore x) x (record w { stored = rest }) (Some (message.FromStore m)) c (on_stored c m) at knows (stored_goes c m) (stored_taken store x w rest m apart_zero at head) sound (inr (Stored x, at, refl, refl))))
    by_step (ServerTakes x) = took x (x == store_node w) refl
    by_step Commit = own_server_row Commit (on_commit w.server) refl (commits_right store w.server sound.right)
    by_step (Restart k) = own_server_row (Restart k) (on_restart w.server k) refl (restarts_right store w.server k sound.right)
    by_step Tend = own_server_row Tend (on_tend w.server) refl (tends_right store w.server sound.right)
    by_step (StoreTakes x) = stores x (x == 0) refl

-- what was taken along a run, and what is to be taken, is what stood there and what was sent
abbrev Delivers : ℕ → ℕ → ℕ → List Message → List Event → Type 0
Delivers store from to first history = (later : List Message) × (taken_between store from to history ++ later ≡ first ++ sent_between from to history)

along_run : (store : ℕ) → Apart store 0 → (channel : Channel) → IsChannel store channel → (steps : List Step) (w : World) → Sound store w → Delivers store (from_of store channel) (to_of store channel) (content w channel) (run w steps)
along_run store zero channel is [] w sound = (content w channel, sym (append-nil (content w channel)))
along_run store zero channel is (step ∷ steps) w sound = by_row (row w step) (each_moves store w step zero sound) (along_run store zero channel is steps)
  where
    Goal : List Event → Type 0
    Goal history = Delivers store (from_of store channel) (to_of store channel) (content w channel) history

    by_row : (o : Option Made) → IfSome o (Moved store w step) → ((next : World) → Sound store next → Delivers store (from_of store channel) (to_of store channel) (content next channel) (run next steps)) → Goal (elim o [ None ↦ [] | Some made ↦ event_of step made ∷ run made.world steps ])
    by_row None moved go = (content w channel, sym (append-nil (content w channel)))
    by_row (Some made) moved go =
        let rest = go made.world moved.sound in
        let taken = taken_along store channel made.node (taken_from store step) made.taken in
        let sent = sent_along store channel made in
        let then = taken_between store (from_of store channel) (to_of store channel) (run made.world steps) in
        let more = sent_between (from_of store channel) (to_of store channel) (run made.world steps) in (
          rest.0,
          append_assoc taken then rest.0 ∙ ap (λ (l : List Message). taken ++ l) rest.1 ∙ sym (append_assoc taken (content made.world channel) more)
              ∙ ap (λ (l : List Message). l ++ more) (moved.moved channel is) ∙ append_assoc (content w channel) sent more,
        )

-- nothing is taken where there is no channel
none_along : (store from to : ℕ) → Apart store 0 → between store from to ≡ None → (steps : List Step) (w : World) → Sound store w → taken_between store from to (run w steps) ≡ []
none_along store from to zero none [] w sound = refl
none_along store from to zero none (step ∷ steps) w sound = by_row (row w step) (each_moves store w step zero sound) (none_along store from to zero none steps)
  where
    clash : (channel : Channel) → between store from to ≡ Some channel → ⊥
    clash channel some = cc

    by_tests : (made : Made) (channel : Channel) → IsChannel store channel → (source : Option ℕ) → source ≡ Some (from_of store channel) → made.node ≡ to_of store channel → (a b : Bool) → (made.node == to) ≡ a → (from_of store channel == from) ≡ b → cond (a && b) (taken_list made.taken) [] ≡ []
    by_tests made channel is source there here true true at of =
        absurd (clash channel (subst (λ (n : ℕ). between store from n ≡ Some channel) (sym here ∙ equal made.node to at) (subst (λ (n : ℕ). between store n (to_of store channel) ≡ Some channel) (equal (from_of store channel) from of) (is_between store zero channel is))))
    by_tests made channel is source there here true false at of = refl
    by_tests made channel is source there here false b at of = refl

    never : (b : Bool) (list : List Message) → cond (b && false) list [] ≡ []
    never true list = refl
    never false list = refl

    nothing : (made : Made) → (taken_from store step ≡ None) ⊎ ((channel : Channel) × IsChannel store channel × (taken_from store step ≡ Some (from_of store channel)) × (made.node ≡ to_of store channel)) → cond (made.node == to && is_node from (taken_from store step)) (taken_list made.taken) [] ≡ []
    nothing made (inl is) = rw is (never (made.node == to) (taken_list made.taken))
    nothing made (inr is) = subst (λ (o : Option ℕ). cond (made.node == to && is_node from o) (taken_list made.taken) [] ≡ []) (sym is.2) (by_tests made is.0 is.1 (taken_from store step) is.2 is.3 (made.node == to) (from_of store is.0 == from) refl refl)

    by_row : (o : Option Made) → IfSome o (Moved store w step) → ((next : World) → Sound store next → taken_between store from to (run next steps) ≡ []) → taken_between store from to (elim o [ None ↦ [] | Some made ↦ event_of step made ∷ run made.world steps ]) ≡ []
    by_row None moved go = refl
    by_row (Some made) moved go = ap (λ (l : List Message). l ++ taken_between store from to (run made.world steps)) (nothing made moved.along) ∙ go made.world moved.sound

-- at first
start_known : (most : ℕ) (list : List ℕ) → AllUpTo most list → number_of (map (λ c. (c, 1)) list) (most + 1) ≡ None
start_known most [] all = refl
start_known most (x ∷ list) all = rw below (start_known most list all.1)
  where
    below : (x == most + 1) ≡ false
    below = let less = all.0 in grind (arith, nat_tests, less)

start_free : (f : ℕ → Client) (most : ℕ) (list : List ℕ) → AllUpTo most list → client (map (λ n. (n, f n)) list) (most + 1) ≡ None
start_free f most [] all = refl
start_free f most (x ∷ list) all = rw below (start_free f most list all.1)
  where
    below : (x == most + 1) ≡ false
    below = let less = all.0 in grind (arith, nat_tests, less)

start_know : (f : ℕ → Client) (store : ℕ) → ((n : ℕ) → (f n).store ≡ store) → (list : List ℕ) (n : ℕ) → IfSome (client (map (λ n. (n, f n)) list) n) (λ c. c.store ≡ store)
start_know f store knows [] n = tt
start_know f store knows (x ∷ list) n = by_test (x == n) (start_know f store knows list n)
  where
    by_test : (b : Bool) → IfSome (client (map (λ n. (n, f n)) list) n) (λ c. c.store ≡ store) → IfSome (cond b (Some (f x)) (client (map (λ n. (n, f n)) list) n)) (λ c. c.store ≡ store)
    by_test true rest = knows x
    by_test false rest = rest

start_sound : (script : Script) → Sound (script.clients + 1) (start script)
start_sound script = record {
  right = record { number = refl; away = start_known script.clients (up_to script.clients) (up_to_all script.clients); all = tt };
  zero = no_client_start script;
  free = start_free (λ n. new_client n (script.clients + 1) (lines_of n script.lines)) script.clients (up_to script.clients) (up_to_all script.clients);
  know = start_know (λ n. new_client n (script.clients + 1) (lines_of n script.lines)) (script.clients + 1) (λ n. refl) (up_to script.clients);
  none_up = refl;
  none_asked = refl;
}

start_empty : (script : Script) (channel : Channel) → content (start script) channel ≡ []
start_empty script (Down n) = refl
start_empty script (Up n) = refl
start_empty script (Asked n) = refl
start_empty script (Stored n) = refl
start_empty script Ordered = refl
start_empty script Reported = refl

delivered : (script : Script) (steps : List Step) → Delivered (script.clients + 1) (run (start script) steps)
delivered script steps from to = by_channel (between store from to) refl (its_ends store from to)
  where
    store : ℕ
    store = script.clients + 1

    zero : Apart store 0
    zero = apart store 0 (λ is. omega (arith, is))

    history : List Event
    history = run (start script) steps

    by_channel : (o : Option Channel) → between store from to ≡ o → IfSome o (λ channel. IsChannel store channel × ((from_of store channel ≡ from) × (to_of store channel ≡ to))) → Delivers store from to [] history
    by_channel None none ends = (sent_between from to history, ap (λ (l : List Message). l ++ sent_between from to history) (none_along store from to zero none steps (start script) (start_sound script)))
    by_channel (Some channel) is ends =
        subst (λ (y : ℕ). Delivers store from y [] history) ends.1.1 (subst (λ (x : ℕ). Delivers store x (to_of store channel) [] history) ends.1.0
        (subst (λ (l : List Message). Delivers store (from_of store channel) (to_of store channel) l history) (start_empty script channel) (along_run store zero channel ends.0 steps (start script) (start_sound script))))

-- the rows
runs : (steps : List Step) (w : World) → LegalFrom w (run w steps)
runs [] w = tt
runs (step ∷ steps) w = by_row (row w step) refl (runs steps)
  where
    by_row : (o : Option Made) → row w step ≡ o → ((next : World) → LegalFrom next (run next steps)) → LegalFrom w (elim o [ None ↦ [] | Some made ↦ event_of step made ∷ run made.world steps ])
    by_row None is go = tt
    by_row (Some made) is go = rw is (record { node = refl; taken = refl; sent = refl; effects = refl; replies = refl }, go made.world)

pub runs_law : (script : Script) (steps : List Step) → Legal (run (start script) steps) script
runs_law script steps = record { rows = runs steps (start script); delivered = delivered script steps }

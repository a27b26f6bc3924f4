-- What each row does to the acknowledgements on their way, and so each run.
use Rattle.std.proofs.Common.{◌≡◌, ◌≤◌, ℕ, ◌+◌, List, [], ◌∷◌, ◌++◌, length, Bool, true, false, true≢false, cond, Option, None, Some, refl, sym, ap, ◌∙◌, subst, IfSome, arith, ◌⊎◌, inl, inr}
use Rattle.std.proofs.lemmas.List.{append-nil}
use Rattle.std.proofs.lemmas.Bool.Decides.{nat_tests}
use Rattle.std.specs.Prelude.{◌==◌, ◌&&◌, nat_le}
use Rattle.std.specs.List.{list_any}
use Rattle.plain_types.specs.declared.entry.Entry.{Entry}
use Rattle.plain_types.specs.declared.history.Event.{Event}
use Rattle.plain_types.specs.declared.message.Claim.{Claim}
use Rattle.plain_types.specs.declared.message.FlushMsg.{FlushMsg}
use Rattle.plain_types.specs.declared.message.ToClient.{ToClient}
use Rattle.plain_types.specs.declared.message.ToClient.TheVariants.{FlushAck}
use Rattle.plain_types.specs.declared.message.ToServer.{ToServer}
use Rattle.plain_types.specs.declared.message.ToServer.TheVariants.{Connect, Ask, Flush, DropRead, Purged, Deleted}
use Rattle.plain_types.specs.declared.script.Script.{Script}
use Rattle.plain_journal.specs.Table.{last_flush}
use Rattle.step_table.specs.Messages.{flush_fits}
use Rattle.step_table.specs.Row.{Row}
use Rattle.step_table.specs.ServerState.{Server, Acked, tell, tell_at, number_of, stamp, welcome}
use Rattle.step_table.specs.Acts.{Act, TellAck, Hold, Settled, LetGo, LetAllGo, act, acts, each, hand_out}
use Rattle.step_table.specs.Capabilities.{clash}
use Rattle.step_table.specs.Flushes.{knows_file, flush_settles, take_flush, on_flush as flush_rule, on_drop, claimed, take_claim, take_brought, connected, come_back}
use Rattle.step_table.specs.ServerRows.{row_of, drops, on_take, left_with, restarts, reported}
use Rattle.step_table.specs.ClientState.{Client}
use Rattle.step_table.specs.ClientLines.{on_op, on_flush}
use Rattle.step_table.specs.ClientTakes.{on_told, on_stored}
use Rattle.step_table.specs.World.{start}
use Rattle.run_laws.specs.Moments.{steps_of, world_after}
use Rattle.run_laws.specs.Links.{View, EachClient, mail_of, Offer, offer, Link, AllOld, Below, AtMost}
use Rattle.run_laws.specs.FlushNumbers.{Follow, InTurn}
use Rattle.run_laws.proofs.Acts.{KeptByActs, acts_keep, row_keeps, take_flush as flush_other, take_drop, take_purged, take_deleted, turn_keeps, commit_keeps, restart_keeps}
use Rattle.run_laws.proofs.Channels.{mail_split}
use Rattle.run_laws.proofs.Clients.{Renews, Keeps, Begins, Acts, ActsNow, op_acts, flush_acts, store_hidden}
use Rattle.run_laws.proofs.Known.{Known, known_more, from_front, known_made}
use Rattle.run_laws.proofs.Knowing.{Knows, ruled_fit, flushing_fit, anew_fit, left_knows, ask_row, connect_row}
use Rattle.run_laws.proofs.Link.{link_old, up_most}
use Rattle.run_laws.proofs.Linked.{hello, if_row, at_start, each_part}
use Rattle.run_laws.proofs.Numbering.{way_as, follows_last, one_in, acts_append}
use Rattle.run_laws.proofs.Ruled.{flushing_flush, flushing_back, ruled_drop, ruled_reported, ruled_restarts}
use Rattle.run_laws.proofs.Taking.{Way, Flushes, Fits, ruled, flushed, current_same, current_all, by_acts, is_number, first_of, after_held, flush_taken, flush_knows, connect_taken, same_way, welcomed_other, survives, turn_fit, All, KeptBefore, joined, rows_of_all, first_all}
use Rattle.run_laws.proofs.Told.{ToldRow, IsAnswer, told_row}
use Rattle.run_laws.proofs.Turns.{Turn, turn_as, turn_front, turn_tail, turn_old, Posted, send_posted, NoAck, quiet_no_ack, one_posted}
use Rattle.run_laws.proofs.Views.{Client's, Server's, run_keeps}

-- where the server has the connection, they end at the last flush that it took
abbrev pub Ends : Option ℕ → ℕ → ℕ → ℕ → Type 0
Ends o conn last k = IfSome o (λ j. (j == conn) ≡ true → k ≡ last)

abbrev pub Turns : View
Turns n c up down s = Turn c.conn (Ends (number_of s.current n) c.conn (last_flush s.entries n)) (down ++ mail_of n s.mail)

abbrev Both : ℕ → Client → List ToServer → List ToClient → Server → Type 0
Both n c up down s = Flushes n c up down s × Turns n c up down s

-- with the same connection and the same last flush
moved : (n : ℕ) (c : Client) (down : List ToClient) (s t : Server) → t.current ≡ s.current → last_flush t.entries n ≡ last_flush s.entries n → Posted n c.conn (Ends (number_of s.current n) c.conn (last_flush s.entries n)) down t → Posted n c.conn (Ends (number_of t.current n) c.conn (last_flush t.entries n)) down t
moved n c down s t current last is =
    subst (λ (cs : List (ℕ × ℕ)). Posted n c.conn (Ends (number_of cs n) c.conn (last_flush t.entries n)) down t) (sym current)
    (subst (λ (k : ℕ). Posted n c.conn (Ends (number_of s.current n) c.conn k) down t) (sym last) is)

one : (n : ℕ) (c : Client) (up : List ToServer) (down : List ToClient) (s : Server) (a : Act) → Fits n s a → Both n c up down s → Turns n c up down (act s a)
one n c up down s a fit is = moved n c down s (act s a) (current_same s a) last (one_posted n c.conn (Ends (number_of s.current n) c.conn (last_flush s.entries n)) down s a (quiet_no_ack n a fit.1) is.1)
  where
    last : last_flush (act s a).entries n ≡ last_flush s.entries n
    last = (one_in n c.flushes c.unacked (λ k. k ≡ last_flush s.entries n) down s a fit.1 (way_as n c.flushes c.unacked (Way (number_of s.current n) up c.unacked) (λ k. k ≡ last_flush s.entries n) down s.entries s.durable s.mail (λ k at w. at) is.0)).way

hands : (n : ℕ) (c : Client) (up : List ToServer) (down : List ToClient) (s : Server) → Turns n c up down s → Server's Turns n c up down (hand_out s)
hands n c up down s t = subst (Turn c.conn (Ends (number_of s.current n) c.conn (last_flush s.entries n))) (mail_split n s.durable down s.mail) t

turn_acts : (n : ℕ) (c : Client) (up : List ToServer) (down : List ToClient) → KeptByActs (Fits n) (λ s. Knows s × Both n c up down s) (Server's Turns n c up down)
turn_acts n c up down = record {
  one = λ s a fit k. (let now = (by_acts n c up down).one s a fit (k.0, k.1.0) in (now.0, (now.1, one n c up down s a fit k.1)));
  hands = λ s k. hands n c up down s k.1.1;
  anew = λ s k. anew_fit (Fits n) (ruled n) s.held s k.0.held;
}

-- A flush of the client itself.
abbrev AllNoAck : ℕ → List Act → Type 0
AllNoAck n [] = Unit {0}
AllNoAck n (a ∷ list) = NoAck n a × AllNoAck n list

no_ack_posted : (n conn : ℕ) (End : ℕ → Type 0) (down : List ToClient) (list : List Act) (s : Server) → AllNoAck n list → Posted n conn End down s → Posted n conn End down (acts s list)
no_ack_posted n conn End down [] s none t = t
no_ack_posted n conn End down (a ∷ list) s none t = no_ack_posted n conn End down list (act s a) none.1 (one_posted n conn End down s a none.0 t)

no_ack_append : (n : ℕ) (xs ys : List Act) → AllNoAck n xs → AllNoAck n ys → AllNoAck n (xs ++ ys)
no_ack_append n [] ys none more = more
no_ack_append n (a ∷ xs) ys none more = (none.0, no_ack_append n xs ys none.1 more)

no_ack_if : (n : ℕ) (b : Bool) (xs ys : List Act) → AllNoAck n xs → AllNoAck n ys → AllNoAck n (cond b xs ys)
no_ack_if n true xs ys here other = here
no_ack_if n false xs ys here other = other

no_ack_each : {X : Type 0} (n : ℕ) (rule : Server → X → List Act) → ((s : Server) (x : X) → AllNoAck n (rule s x)) → (s : Server) (xs : List X) → AllNoAck n (each rule s xs)
no_ack_each n rule none s [] = tt
no_ack_each n rule none s (x ∷ xs) = no_ack_append n (rule s x) (each rule (acts s (rule s x)) xs) (none s x) (no_ack_each n rule none (acts s (rule s x)) xs)

no_ack_settles : (n x : ℕ) (f : FlushMsg) → NoAck n (flush_settles x f)
no_ack_settles n x f = by_test f.release
  where
    by_test : (b : Bool) → NoAck n (cond b (LetGo x f.ino) (Settled x f.ino f.upto))
    by_test true = tt
    by_test false = tt

no_ack_take : (n x : ℕ) (s : Server) (f : FlushMsg) → AllNoAck n (take_flush x s f)
no_ack_take n x s f = no_ack_if n (nat_le f.number (last_flush s.entries x)) [] _ tt (tt, (no_ack_settles n x f, tt))

no_ack_back : (n x : ℕ) (s : Server) (said : List Claim) (fs : List FlushMsg) → AllNoAck n (come_back s x said fs)
no_ack_back n x s said fs = let t = acts s (LetAllGo x ∷ []) in (
  tt,
  no_ack_append n (each (take_claim x) t said) (each (take_brought x) (acts t (each (take_claim x) t said)) fs)
      (no_ack_each n (take_claim x) (λ u claim. no_ack_if n (list_any (clash (claimed x claim)) u.holders) [] (Hold (claimed x claim) ∷ []) tt (tt, tt)) t said)
      (no_ack_each n (take_brought x) (λ u f. no_ack_append n (take_flush x u f) (cond f.release [] (Settled x f.ino f.upto ∷ [])) (no_ack_take n x u f) (no_ack_if n f.release [] (Settled x f.ino f.upto ∷ []) tt (tt, tt))) (acts t (each (take_claim x) t said)) fs),
)

told_ack : (n : ℕ) (c : Client) (k last number : ℕ) (down : List ToClient) (t : Server) → number ≡ last + 1 → number_of t.current n ≡ Some k → Posted n c.conn (Ends (Some k) c.conn last) down t → Posted n c.conn (Ends (Some k) c.conn number) down (tell t n (Acked number))
told_ack n c k last number down t next at is = subst (λ (o : Option ℕ). Posted n c.conn (Ends (Some k) c.conn number) down (tell_at t n (Acked number) o)) (sym at)
    (send_posted n c.conn (Ends (Some k) c.conn last) (Ends (Some k) c.conn number) down t n (FlushAck k (stamp t) number)
    (λ to j end. ((λ same. let e = end same in omega (arith, e, next)), λ same. ap (λ (b : Bool). cond b number j) same))
    (λ isnt j end. absurd (true≢false (sym itself ∙ isnt))) is)
  where
    itself : (n == n) ≡ true
    itself = grind (arith, nat_tests)

own_flush : (n : ℕ) (c : Client) (conn : ℕ) (f : FlushMsg) (up : List ToServer) (down : List ToClient) (s : Server) → flush_fits f ≡ true → Known s.entries f.ino → Knows s → Both n c (Flush conn f ∷ up) down s → Server's Turns n c up down (on_take s n (Flush conn f))
own_flush n c conn f up down s fits known knows is = rw fits (by_current (is_number conn (number_of s.current n)) refl)
  where
    made : knows_file s f.ino ≡ true
    made = known_made s.entries f.ino known

    turned : is_number conn (number_of s.current n) ≡ true → Turns n c up down (acts s (flush_rule n s f))
    turned test =
        let first = first_of (number_of s.current n) conn f up c.unacked (last_flush s.entries n) test is.0.way in
        let k = first.0 in
        let t = acts s (take_flush n s f) in
        let next : f.number ≡ last_flush s.entries n + 1 = (subst (Follow (last_flush s.entries n) c.flushes) (sym first.2) (follows_last n c.flushes c.unacked (Way (number_of s.current n) (Flush conn f ∷ up) c.unacked) down s.entries s.durable s.mail is.0)).0 in
        let at : number_of t.current n ≡ Some k = ap (λ (cs : List (ℕ × ℕ)). number_of cs n) (current_all (take_flush n s f) s) ∙ first.1 in
        let before : Posted n c.conn (Ends (Some k) c.conn (last_flush s.entries n)) down t = no_ack_posted n c.conn (Ends (Some k) c.conn (last_flush s.entries n)) down (take_flush n s f) s (no_ack_take n n s f) (subst (λ (o : Option ℕ). Posted n c.conn (Ends o c.conn (last_flush s.entries n)) down s) first.1 is.1) in
        let now = told_ack n c k (last_flush s.entries n) f.number down t next at before in
        let all = acts_append (take_flush n s f) (TellAck n f.number ∷ []) s in
        let end = acts s (flush_rule n s f) in
        subst (λ (o : Option ℕ). Posted n c.conn (Ends o c.conn (last_flush end.entries n)) down end) (sym (ap (λ (cs : List (ℕ × ℕ)). number_of cs n) (current_all (flush_rule n s f) s) ∙ first.1))
        (subst (λ (j : ℕ). Posted n c.conn (Ends (Some k) c.conn j) down end) (sym (flush_taken n c conn f up down s test is.0).1)
        (subst (λ (u : Server). Posted n c.conn (Ends (Some k) c.conn f.number) down u) (sym all) now))

    by_current : (b : Bool) → is_number conn (number_of s.current n) ≡ b → Server's Turns n c up down (cond (b && knows_file s f.ino) (row_of s (flush_rule n s f)) (drops s))
    by_current true test = rw made (after_held (turn_acts n c up down) (2 + length s.held) s (flush_rule n s f) (flush_knows n s f knows, ((flush_taken n c conn f up down s test is.0).0, turned test)))
    by_current false test = hands n c up down s is.1

-- A connection.
hailed : (n x : ℕ) (c : Client) (conn : ℕ) (down : List ToClient) (t : Server) → (x == n) ≡ true → Posted n c.conn (λ k. Unit {0}) down t → Posted n c.conn (Ends (number_of ((x, conn) ∷ t.current) n) c.conn (last_flush t.entries n)) down (welcome (connected t x conn) x conn)
hailed n x c conn down t test is = subst (λ (b : Bool). Posted n c.conn (Ends (cond b (Some conn) (number_of t.current n)) c.conn (last_flush t.entries n)) down (welcome (connected t x conn) x conn)) (sym test)
    (send_posted n c.conn (λ k. Unit {0}) (Ends (Some conn) c.conn (last_flush t.entries n)) down (connected t x conn) x (hello (connected t x conn) x conn)
    (λ to k end. (tt, λ same. ap (λ (b : Bool). cond b (last_flush t.entries x) k) same ∙ ap (λ (y : ℕ). last_flush t.entries y) who))
    (λ isnt k end. absurd (true≢false (sym test ∙ isnt))) is)
  where
    who : x ≡ n
    who = grind (arith, nat_tests, test)

hailed_other : (n x : ℕ) (c : Client) (conn : ℕ) (down : List ToClient) (t : Server) → (x == n) ≡ false → Posted n c.conn (Ends (number_of t.current n) c.conn (last_flush t.entries n)) down t → Posted n c.conn (Ends (number_of ((x, conn) ∷ t.current) n) c.conn (last_flush t.entries n)) down (welcome (connected t x conn) x conn)
hailed_other n x c conn down t other is = subst (λ (b : Bool). Posted n c.conn (Ends (cond b (Some conn) (number_of t.current n)) c.conn (last_flush t.entries n)) down (welcome (connected t x conn) x conn)) (sym other)
    (send_posted n c.conn (Ends (number_of t.current n) c.conn (last_flush t.entries n)) (Ends (number_of t.current n) c.conn (last_flush t.entries n)) down (connected t x conn) x (hello (connected t x conn) x conn)
    (λ to. absurd (true≢false (sym to ∙ other))) (λ isnt k end. end) is)

own : (n : ℕ) (c : Client) (m : ToServer) (up : List ToServer) (down : List ToClient) (s : Server) → All n c (m ∷ up) down s → Turns n c (m ∷ up) down s → Server's Turns n c up down (on_take s n m)
own n c (Connect conn said fs asked) up down s all t =
    connect_row (turn_acts n c up down) (ruled n) (λ u hand so. so) s n conn said fs asked (all.0.1.0, (same_way n c (Connect conn said fs asked) up down s (λ k. refl) all.1, t)) (
      connect_taken n c conn said fs asked up down s all.0.0 all.1,
      hailed n n c conn down (acts s (come_back s n said fs)) (grind (arith, nat_tests)) (no_ack_posted n c.conn (λ k. Unit {0}) down (come_back s n said fs) s (no_ack_back n n s said fs) (turn_as c.conn (Ends (number_of s.current n) c.conn (last_flush s.entries n)) (λ k. Unit {0}) (down ++ mail_of n s.mail) (λ k end. tt) t)),
    )
own n c (Flush conn f) up down s all t = own_flush n c conn f up down s all.0.1.1.up.0.1 (from_front (λ (l : List Entry). Known l f.ino) (λ xs ys so. known_more xs ys f.ino so) s.durable s.entries all.0.1.1.up.0.0) all.0.1.0 (all.1, t)
own n c (Ask conn tid asked) up down s all t = ask_row (turn_acts n c up down) (ruled n) (λ u hand so. so) s n conn tid asked (all.0.1.0, (same_way n c (Ask conn tid asked) up down s (λ j. refl) all.1, t))
own n c (DropRead conn ino) up down s all t = take_drop (turn_acts n c up down) s n conn ino (all.0.1.0, (same_way n c (DropRead conn ino) up down s (λ j. refl) all.1, t)) (ruled_fit (Fits n) (ruled n) (on_drop n s ino) s (ruled_drop n s ino))
own n c (Purged id) up down s all t = take_purged (turn_acts n c up down) s n id (all.0.1.0, (same_way n c (Purged id) up down s (λ j. refl) all.1, t))
own n c (Deleted ino) up down s all t = take_deleted (turn_acts n c up down) s n ino (all.0.1.0, (same_way n c (Deleted ino) up down s (λ j. refl) all.1, t))

other : (n x : ℕ) (c : Client) (m : ToServer) (up : List ToServer) (down : List ToClient) (s : Server) → (x == n) ≡ false → Knows s → Both n c up down s → Server's Turns n c up down (on_take s x m)
other n x c (Connect conn said fs asked) up down s isnt knows is =
    let came = acts_keep (turn_acts n c up down).one (come_back s x said fs) s (flushing_fit (Fits n) x (flushed n x isnt) (come_back s x said fs) s (flushing_back s x said fs)) (knows, is) in
    connect_row (turn_acts n c up down) (ruled n) (λ u hand so. so) s x conn said fs asked (knows, is)
    (welcomed_other n x c conn up down (acts s (come_back s x said fs)) isnt came.1.0, hailed_other n x c conn down (acts s (come_back s x said fs)) isnt came.1.1)
other n x c (Flush conn f) up down s isnt knows is = flush_other (turn_acts n c up down) s x conn f (knows, is) (flushing_fit (Fits n) x (flushed n x isnt) (flush_rule x s f) s (flushing_flush x s f))
other n x c (Ask conn tid asked) up down s isnt knows is = ask_row (turn_acts n c up down) (ruled n) (λ u hand so. so) s x conn tid asked (knows, is)
other n x c (DropRead conn ino) up down s isnt knows is = take_drop (turn_acts n c up down) s x conn ino (knows, is) (ruled_fit (Fits n) (ruled n) (on_drop x s ino) s (ruled_drop x s ino))
other n x c (Purged id) up down s isnt knows is = take_purged (turn_acts n c up down) s x id (knows, is)
other n x c (Deleted ino) up down s isnt knows is = take_deleted (turn_acts n c up down) s x ino (knows, is)

-- The client: it keeps its number, or has the next one, under which nothing has come.
kept_number : (n : ℕ) (c d : Client) (up : List ToServer) (p : List ToClient) (s : Server) → d.conn ≡ c.conn → Turn c.conn (Ends (number_of s.current n) c.conn (last_flush s.entries n)) p → Turn d.conn (Ends (number_of s.current n) d.conn (last_flush s.entries n)) p
kept_number n c d up p s same t = rw same t

new_number : (n : ℕ) (c d : Client) (up : List ToServer) (p : List ToClient) (s : Server) → d.conn ≡ c.conn + 1 → AllOld (c.conn + 1) p → Below (c.conn + 1) (number_of s.current n) → Turn d.conn (Ends (number_of s.current n) d.conn (last_flush s.entries n)) p
new_number n c d up p s same old below = rw same (turn_old (c.conn + 1) (Ends (number_of s.current n) (c.conn + 1) (last_flush s.entries n)) p old (by_number (number_of s.current n) below))
  where
    by_number : (o : Option ℕ) → Below (c.conn + 1) o → Ends o (c.conn + 1) (last_flush s.entries n) 0
    by_number None low = tt
    by_number (Some k) low = λ is. absurd (grind (arith, nat_tests, low, is))

renew_number : (c : Client) (r : Row Client) → Renews c r → r.state.conn ≡ c.conn + 1
renew_number c r renew = ap (λ (o : Offer). o.conn) renew.state

link_below : (o : Offer) (up : List ToServer) (k : Option ℕ) (p : List ToClient) → Link o up k p → Below (o.conn + 1) k
link_below o up k p link = by_number k link.known
  where
    most : link.base ≤ o.conn
    most = up_most o link.base up link.up

    by_number : (j : Option ℕ) → AtMost link.base j → Below (o.conn + 1) j
    by_number None known = tt
    by_number (Some j) known = omega (arith, known, most)

acts_row : (n : ℕ) (c : Client) (up : List ToServer) (down : List ToClient) (s : Server) (r : Row Client) → Acts c r → Link (offer c) up (number_of s.current n) (down ++ mail_of n s.mail) → Turns n c up down s → Client's Turns n up down s r
acts_row n c up down s r (inl b) link t = kept_number n c r.state up (down ++ mail_of n s.mail) s b.1.conn t
acts_row n c up down s r (inr (inl k)) link t = kept_number n c r.state up (down ++ mail_of n s.mail) s k.conn t
acts_row n c up down s r (inr (inr w)) link t = new_number n c r.state up (down ++ mail_of n s.mail) s (renew_number c r w) (link_old (offer c) up (number_of s.current n) (down ++ mail_of n s.mail) link) (link_below (offer c) up (number_of s.current n) (down ++ mail_of n s.mail) link)

told_turn : (n : ℕ) (c : Client) (up : List ToServer) (m : ToClient) (down : List ToClient) (s : Server) (r : Row Client) → ToldRow c m r → Link (offer c) up (number_of s.current n) (m ∷ (down ++ mail_of n s.mail)) → Turns n c up (m ∷ down) s → Client's Turns n up down s r
told_turn n c up m down s r row link t = by_row row
  where
    tail : Turn c.conn (Ends (number_of s.current n) c.conn (last_flush s.entries n)) (down ++ mail_of n s.mail)
    tail = turn_tail c.conn (Ends (number_of s.current n) c.conn (last_flush s.entries n)) m (down ++ mail_of n s.mail) t

    conn : (Begins c r × IsAnswer c m) ⊎ Keeps c r → r.state.conn ≡ c.conn
    conn (inl b) = b.0.conn
    conn (inr b) = b.conn

    by_row : ToldRow c m r → Client's Turns n up down s r
    by_row (inl here) = kept_number n c r.state up (down ++ mail_of n s.mail) s (conn here.1) tail
    by_row (inr (inl w)) = new_number n c r.state up (down ++ mail_of n s.mail) s (renew_number c r w.1) (link_old (offer c) up (number_of s.current n) (m ∷ (down ++ mail_of n s.mail)) link).1 (link_below (offer c) up (number_of s.current n) (m ∷ (down ++ mail_of n s.mail)) link)
    by_row (inr (inr (inl hail))) = kept_number n c r.state up (down ++ mail_of n s.mail) s hail.1.conn tail
    by_row (inr (inr (inr skip))) = kept_number n c r.state up (down ++ mail_of n s.mail) s (ap (λ (o : Offer). o.conn) skip.1.state) tail

turns : KeptBefore All Turns
turns = record {
  op = λ n c up down s a t. if_row (on_op c) (ActsNow c) (Client's Turns n up down s) (λ r does. acts_row n c up down s r does.1 a.0.0.1 t) (op_acts c c.lines a.0.0.0);
  flush = λ n c up down s a t. if_row (on_flush c) (λ r. (c.frozen ≡ false) × Keeps c r) (Client's Turns n up down s) (λ r does. acts_row n c up down s r (inr (inl does.1)) a.0.0.1 t) (flush_acts c);
  told = λ n c up m down s a t. told_turn n c up m down s (on_told c m) (told_row c m a.0.0.0) a.0.0.1 t;
  stored = λ n c m up down s a t. kept_number n c (on_stored c m).state up (down ++ mail_of n s.mail) s (ap (λ (o : Offer). o.conn) (store_hidden c m).state) t;
  own = λ n c m up down s a t. own n c m up down s a t;
  other = λ n x c m up down s isnt a t. other n x c m up down s isnt a.0.1.0 (a.1, t);
  reported = λ n c m up down s a t. row_keeps (turn_acts n c up down) s (reported s m) (ruled_fit (Fits n) (ruled n) (reported s m) s (ruled_reported s m)) (a.0.1.0, (a.1, t));
  committed = λ n c up down s a t. commit_keeps {Q = Turns n c up down} {After = Server's Turns n c up down} (λ r e after. after) (hands n c up down) s t;
  tended = λ n c up down s a t. turn_keeps (turn_acts n c up down) s (turn_fit n s a.0.1.0) (a.0.1.0, (a.1, t));
  restarted = λ n c up down s k a t. restart_keeps (λ r e after. after) (turn_acts n c up down) s k (λ fits. (
    (left_knows s k fits a.0.1.0, (survives n c up down s k fits a.1, subst (Turn c.conn (λ j. Unit {0})) (sym (append-nil down)) (turn_front c.conn (Ends (number_of s.current n) c.conn (last_flush s.entries n)) down (mail_of n s.mail) t))),
    ruled_fit (Fits n) (ruled n) (restarts (left_with s (s.durable + k))) (left_with s (s.durable + k)) (ruled_restarts (left_with s (s.durable + k))),
  ));
}

abbrev Whole : View
Whole n c up down s = All n c up down s × Turns n c up down s

pub turns_law : (script : Script) (history : List Event) → EachClient InTurn (world_after script history)
turns_law script history = each_part Whole InTurn (world_after script history) (λ n c up down s all. all.1)
    (run_keeps Whole (joined rows_of_all turns) (start script) (steps_of history) (at_start Whole script (λ n is. (first_all script n is, (0, tt, rw is (λ same. refl))))))

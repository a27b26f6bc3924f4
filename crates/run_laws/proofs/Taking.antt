-- What each row does to a client's flushes, and so each run: none is left out, and none is taken twice.
use Rattle.std.proofs.Common.{◌≡◌, ◌≤◌, ℕ, zero, suc, ◌+◌, List, [], ◌∷◌, ◌++◌, take, filter, length, Bool, true, false, true≢false, not, cond, Option, None, Some, refl, sym, ap, ◌∙◌, subst, IfSome, arith, inl, inr}
use Rattle.std.proofs.lemmas.List.{append-nil, length-take-le}
use Rattle.std.proofs.Math.Seq.{take-length}
use Rattle.std.proofs.lemmas.Bool.Decides.{nat_tests}
use Rattle.std.specs.Prelude.{◌==◌, ◌&&◌, nat_le}
use Rattle.std.specs.List.{list_any}
use Rattle.plain_types.specs.declared.entry.Entry.{Entry}
use Rattle.plain_types.specs.declared.history.Event.{Event}
use Rattle.plain_types.specs.declared.history.Step.{Step}
use Rattle.plain_types.specs.declared.message.Claim.{Claim}
use Rattle.plain_types.specs.declared.message.FlushMsg.{FlushMsg}
use Rattle.plain_types.specs.declared.message.FromStore.{FromStore}
use Rattle.plain_types.specs.declared.message.ToClient.{ToClient}
use Rattle.plain_types.specs.declared.message.ToServer.{ToServer}
use Rattle.plain_types.specs.declared.message.ToServer.TheVariants.{Connect, Ask, Flush, DropRead, Purged, Deleted}
use Rattle.plain_types.specs.declared.request.Request.{Request}
use Rattle.plain_types.specs.declared.script.Script.{Script}
use Rattle.plain_journal.specs.Table.{last_flush}
use Rattle.step_table.specs.Messages.{flush_fits}
use Rattle.step_table.specs.Row.{Row}
use Rattle.step_table.specs.ServerState.{Server, Told, tell_at, number_of, buffered, welcome}
use Rattle.step_table.specs.Acts.{Act, act, acts, goes, hand_out}
use Rattle.step_table.specs.Requests.{opens, decide_anew, then_held}
use Rattle.step_table.specs.Flushes.{knows_file, on_flush as flush_rule, on_drop, connected, come_back}
use Rattle.step_table.specs.Background.{turn}
use Rattle.step_table.specs.ServerRows.{row_of, drops, on_take, on_report, on_commit, on_restart, on_tend, left_with, restarts, reported}
use Rattle.step_table.specs.ClientState.{Client, new_client}
use Rattle.step_table.specs.ClientLines.{on_op, on_flush}
use Rattle.step_table.specs.ClientTakes.{on_told, on_stored}
use Rattle.step_table.specs.World.{to_clients, start, after, lines_of, to_server as for_server}
use Rattle.run_laws.specs.Moments.{steps_of, world_after}
use Rattle.run_laws.specs.Links.{View, EachClient, mine, mail_of, offer, Same}
use Rattle.run_laws.specs.FlushNumbers.{above, Follow, flushes_of, NoGap, Kept, AsSent, OnTheWay, ComesNext, IsTaken, AllBound, Acknowledged}
use Rattle.run_laws.proofs.Acts.{Fit, KeptByActs, acts_keep, row_keeps, take_flush, take_drop, take_purged, take_deleted, turn_keeps, commit_keeps, restart_keeps}
use Rattle.run_laws.proofs.Counted.{counted_take, last_take, last_longer, follow_above, follow_end, above_end, above_acked, of_append, of_none, of_behind, all_agree_take, all_agree_filter, all_agree_end, newest_agrees}
use Rattle.run_laws.proofs.Growing.{room, take_take}
use Rattle.run_laws.proofs.Holds.{Stays, Sends, Takes, op_stays, flush_sends, told_takes, stored_stays}
use Rattle.run_laws.proofs.Known.{Known, known_more, from_front, known_made}
use Rattle.run_laws.proofs.Knowing.{Knows, KnownFits, ruled_known, flushing_known, ruled_fit, flushing_fit, anew_fit, one_knows, left_knows, AllGood, Knowing, knowing, first_knowing, ask_row, connect_row}
use Rattle.run_laws.proofs.Link.{flowing}
use Rattle.run_laws.proofs.Linked.{OpenLinked, linked, if_row, at_start, first_link, each_part}
use Rattle.run_laws.proofs.Moves.{act_keeps}
use Rattle.run_laws.proofs.Numbering.{bound_by, way_as, all_bound_more, all_bound_append, mail_waits, gone_bound, In, follows_last, send_in, one_in, flush_in, back_in, acts_append, IsQuiet, ruled_quiet, flushing_quiet}
use Rattle.run_laws.proofs.Ruled.{IsRuled, AllRuled, IsFlushing, ruled_drop, ruled_reported, ruled_restarts, ruled_turn, flushing_flush, flushing_back}
use Rattle.run_laws.proofs.Views.{Client's, Server's, KeptByRows, run_keeps}
use Rattle.run_laws.proofs.ViewActs.{all_fit, rows_of_acts}

-- where there is a current connection, its flushes on the way are those behind the last one
abbrev pub Way : Option ℕ → List ToServer → List FlushMsg → ℕ → Type 0
Way o up kept last = IfSome o (λ k. flushes_of k up ≡ above last kept)

abbrev pub Flushes : View
Flushes n c up down s = In n c.flushes c.unacked (Way (number_of s.current n) up c.unacked) down s

-- acts leave connection numbers
pub current_same : (s : Server) (a : Act) → (act s a).current ≡ s.current
current_same s a = act_keeps {P = λ entries durable mail current. current ≡ s.current} (record {
  tells = λ t x told so. told_current t x told (number_of t.current x) so;
  restarts = λ t x so. so;
  stores = λ t order so. so;
  enters = λ t e so. so;
}) s a refl
  where
    told_current : (t : Server) (x : ℕ) (told : Told) (o : Option ℕ) → t.current ≡ s.current → (tell_at t x told o).current ≡ s.current
    told_current t x told None so = so
    told_current t x told (Some conn) so = so

pub current_all : (list : List Act) (s : Server) → (acts s list).current ≡ s.current
current_all [] s = refl
current_all (a ∷ list) s = current_all list (act s a) ∙ current_same s a

pub with_current : (n : ℕ) (c : Client) (up : List ToServer) (down : List ToClient) (s t : Server) → t.current ≡ s.current → In n c.flushes c.unacked (Way (number_of s.current n) up c.unacked) down t → Flushes n c up down t
with_current n c up down s t same is = subst (λ (current : List (ℕ × ℕ)). In n c.flushes c.unacked (Way (number_of current n) up c.unacked) down t) (sym same) is

-- An act fits that grants and finds known files, and is quiet.
abbrev pub Fits : ℕ → Server → Act → Type 0
Fits n s a = KnownFits s a × IsQuiet n a

pub ruled : (n : ℕ) (s : Server) (a : Act) → IsRuled s.entries a → Fits n s a
ruled n s a is = (ruled_known s a is, ruled_quiet n s.entries a is)

pub flushed : (n x : ℕ) → (x == n) ≡ false → (s : Server) (a : Act) → IsFlushing x a → Fits n s a
flushed n x other s a is = (flushing_known x s a is, flushing_quiet n x a other is)

pub hands : (n : ℕ) (c : Client) (up : List ToServer) (down : List ToClient) (s : Server) → Flushes n c up down s → Server's Flushes n c up down (hand_out s)
hands n c up down s f = record {
  fits = f.fits;
  counted = f.counted;
  most = f.most;
  follow = f.follow;
  agree = f.agree;
  way = f.way;
  mail = mail_waits n s.entries s.durable s.mail f.mail;
  down = all_bound_append n (take s.durable s.entries) down (mine n (to_clients (goes s.durable s.mail))) f.down (gone_bound n s.entries s.durable f.fits f.counted s.mail f.mail);
}

pub by_acts : (n : ℕ) (c : Client) (up : List ToServer) (down : List ToClient) → KeptByActs (Fits n) (λ s. Knows s × Flushes n c up down s) (Server's Flushes n c up down)
by_acts n c up down = record {
  one = λ s a fit k. (one_knows s a fit.0 k.0, with_current n c up down s (act s a) (current_same s a) (one_in n c.flushes c.unacked (Way (number_of s.current n) up c.unacked) down s a fit.1 k.1));
  hands = λ s k. hands n c up down s k.1;
  anew = λ s k. anew_fit (Fits n) (ruled n) s.held s k.0.held;
}

-- The server takes a flush of the client itself.
abbrev pub is_number : ℕ → Option ℕ → Bool
is_number conn o = elim o as (λ _. Bool) [ None ↦ false | Some number ↦ number == conn ]

popped : (o : Option ℕ) (conn : ℕ) (f : FlushMsg) (up : List ToServer) (kept : List FlushMsg) (last : ℕ) → is_number conn o ≡ false → Way o (Flush conn f ∷ up) kept last → Way o up kept last
popped None conn f up kept last isnt way = tt
popped (Some k) conn f up kept last isnt way = sym (ap (λ (b : Bool). cond b (f ∷ flushes_of k up) (flushes_of k up)) test) ∙ way
  where
    test : (conn == k) ≡ false
    test = grind (arith, nat_tests, isnt)

pub first_of : (o : Option ℕ) (conn : ℕ) (f : FlushMsg) (up : List ToServer) (kept : List FlushMsg) (last : ℕ) → is_number conn o ≡ true → Way o (Flush conn f ∷ up) kept last → (k : ℕ) × (o ≡ Some k) × (f ∷ flushes_of k up ≡ above last kept)
first_of None conn f up kept last is way = absurd (true≢false (sym is))
first_of (Some k) conn f up kept last is way = (k, refl, sym (ap (λ (b : Bool). cond b (f ∷ flushes_of k up) (flushes_of k up)) test) ∙ way)
  where
    test : (conn == k) ≡ true
    test = grind (arith, nat_tests, is)

-- acts whose state is known, and the rounds over the held requests after them
pub after_held : {F : Server → Act → Type 0} {Q : Server → Type 0} {After : Row Server → Type 0} → KeptByActs F Q After → (most : ℕ) (s : Server) (list : List Act) → Q (acts s list) → After (hand_out (acts s (then_held most s list)))
after_held k zero s list holds = k.hands (acts s list) holds
after_held {F} {Q} {After} k (suc most) s list holds = by_test (list_any opens list) (after_held k most (acts s list) (decide_anew (acts s list)) (acts_keep k.one (decide_anew (acts s list)) (acts s list) (k.anew (acts s list) holds) holds))
  where
    by_test : (b : Bool) → After (hand_out (acts (acts s list) (then_held most (acts s list) (decide_anew (acts s list))))) → After (hand_out (acts s (elim b [ false ↦ list | true ↦ list ++ then_held most (acts s list) (decide_anew (acts s list)) ])))
    by_test false rest = k.hands (acts s list) holds
    by_test true rest = subst (λ (t : Server). After (hand_out t)) (sym (acts_append list (then_held most (acts s list) (decide_anew (acts s list))) s)) rest

pub flush_taken : (n : ℕ) (c : Client) (conn : ℕ) (f : FlushMsg) (up : List ToServer) (down : List ToClient) (s : Server) → is_number conn (number_of s.current n) ≡ true → Flushes n c (Flush conn f ∷ up) down s → Flushes n c up down (acts s (flush_rule n s f)) × (last_flush (acts s (flush_rule n s f)).entries n ≡ f.number)
flush_taken n c conn f up down s test is = taken (first_of (number_of s.current n) conn f up c.unacked (last_flush s.entries n) test is.way)
  where
    taken : (k : ℕ) × (number_of s.current n ≡ Some k) × (f ∷ flushes_of k up ≡ above (last_flush s.entries n) c.unacked) → Flushes n c up down (acts s (flush_rule n s f)) × (last_flush (acts s (flush_rule n s f)).entries n ≡ f.number)
    taken first =
        let t = acts s (flush_rule n s f) in
        let now = flush_in n c.flushes c.unacked (flushes_of first.0 up) (Way (number_of s.current n) (Flush conn f ∷ up) c.unacked) down s f first.2 is in (
          with_current n c up down s t (current_all (flush_rule n s f) s)
              (subst (λ (o : Option ℕ). In n c.flushes c.unacked (Way o up c.unacked) down t) (sym first.1)
              (way_as n c.flushes c.unacked (λ k. (k ≡ f.number) × (flushes_of first.0 up ≡ above k c.unacked)) (Way (Some first.0) up c.unacked) down t.entries t.durable t.mail (λ k at w. w.1) now)),
          now.way.0,
        )

pub flush_knows : (n : ℕ) (s : Server) (f : FlushMsg) → Knows s → Knows (acts s (flush_rule n s f))
flush_knows n s f knows = acts_keep {F = KnownFits} {Q = Knows} one_knows (flush_rule n s f) s (flushing_fit KnownFits n (flushing_known n) (flush_rule n s f) s (flushing_flush n s f)) knows

pub flush_passed : (n : ℕ) (c : Client) (conn : ℕ) (f : FlushMsg) (up : List ToServer) (down : List ToClient) (s : Server) → is_number conn (number_of s.current n) ≡ false → Flushes n c (Flush conn f ∷ up) down s → Flushes n c up down s
flush_passed n c conn f up down s test is = record { fits = is.fits; counted = is.counted; most = is.most; follow = is.follow; agree = is.agree; way = popped (number_of s.current n) conn f up c.unacked (last_flush s.entries n) test is.way; mail = is.mail; down = is.down }

own_flush : (n : ℕ) (c : Client) (conn : ℕ) (f : FlushMsg) (up : List ToServer) (down : List ToClient) (s : Server) → flush_fits f ≡ true → Known s.entries f.ino → Knows s → Flushes n c (Flush conn f ∷ up) down s → Server's Flushes n c up down (on_take s n (Flush conn f))
own_flush n c conn f up down s fits known knows is = rw fits (by_current (is_number conn (number_of s.current n)) refl)
  where
    made : knows_file s f.ino ≡ true
    made = known_made s.entries f.ino known

    by_current : (b : Bool) → is_number conn (number_of s.current n) ≡ b → Server's Flushes n c up down (cond (b && knows_file s f.ino) (row_of s (flush_rule n s f)) (drops s))
    by_current true test = rw made (after_held (by_acts n c up down) (2 + length s.held) s (flush_rule n s f) (flush_knows n s f knows, (flush_taken n c conn f up down s test is).0))
    by_current false test = hands n c up down s (flush_passed n c conn f up down s test is)

-- The server takes another message.
pub same_way : (n : ℕ) (c : Client) (m : ToServer) (up : List ToServer) (down : List ToClient) (s : Server) → ((k : ℕ) → flushes_of k (m ∷ up) ≡ flushes_of k up) → Flushes n c (m ∷ up) down s → Flushes n c up down s
same_way n c m up down s same is = record { fits = is.fits; counted = is.counted; most = is.most; follow = is.follow; agree = is.agree; way = by_number (number_of s.current n) is.way; mail = is.mail; down = is.down }
  where
    by_number : (o : Option ℕ) → Way o (m ∷ up) c.unacked (last_flush s.entries n) → Way o up c.unacked (last_flush s.entries n)
    by_number None way = tt
    by_number (Some k) way = sym (same k) ∙ way

welcomed : (n : ℕ) (c : Client) (conn : ℕ) (up : List ToServer) (down : List ToClient) (t : Server) (W : ℕ → Type 0) → (W (last_flush t.entries n) → flushes_of conn up ≡ above (last_flush t.entries n) c.unacked) → In n c.flushes c.unacked W down t → Flushes n c up down (welcome (connected t n conn) n conn)
welcomed n c conn up down t W go is = subst (λ (o : Option ℕ). In n c.flushes c.unacked (Way o up c.unacked) down (welcome (connected t n conn) n conn)) (sym itself)
    (send_in n c.flushes c.unacked (Way (Some conn) up c.unacked) down (connected t n conn) _ (λ to. omega arith) (record { fits = is.fits; counted = is.counted; most = is.most; follow = is.follow; agree = is.agree; way = go is.way; mail = is.mail; down = is.down }))
  where
    itself : number_of ((n, conn) ∷ t.current) n ≡ Some conn
    itself = by_test (n == n) (grind (arith, nat_tests))
      where
        by_test : (b : Bool) → b ≡ true → cond b (Some conn) (number_of t.current n) ≡ Some conn
        by_test true is = refl
        by_test false is = absurd (true≢false (sym is))

pub welcomed_other : (n x : ℕ) (c : Client) (conn : ℕ) (up : List ToServer) (down : List ToClient) (t : Server) → (x == n) ≡ false → Flushes n c up down t → Flushes n c up down (welcome (connected t x conn) x conn)
welcomed_other n x c conn up down t other is = subst (λ (o : Option ℕ). In n c.flushes c.unacked (Way o up c.unacked) down (welcome (connected t x conn) x conn)) (sym (ap (λ (b : Bool). cond b (Some conn) (number_of t.current n)) other))
    (send_in n c.flushes c.unacked (Way (number_of t.current n) up c.unacked) down (connected t x conn) _ (λ to. absurd (true≢false (sym to ∙ other))) (record { fits = is.fits; counted = is.counted; most = is.most; follow = is.follow; agree = is.agree; way = is.way; mail = is.mail; down = is.down }))

pub connect_taken : (n : ℕ) (c : Client) (conn : ℕ) (said : List Claim) (flushes : List FlushMsg) (asked : Option (ℕ × Request)) (up : List ToServer) (down : List ToClient) (s : Server) → OpenLinked n c (Connect conn said flushes asked ∷ up) down s → Flushes n c (Connect conn said flushes asked ∷ up) down s → Flushes n c up down (welcome (connected (acts s (come_back s n said flushes)) n conn) n conn)
connect_taken n c conn said flushes asked up down s link is = welcomed n c conn up down (acts s (come_back s n said flushes)) (λ k. [] ≡ above k c.unacked) (λ way. of_behind (offer c) (link.1.base + 1) conn up link.1.up.2 ∙ way) came
  where
    came : In n c.flushes c.unacked (λ k. [] ≡ above k c.unacked) down (acts s (come_back s n said flushes))
    came = subst (λ (l : List FlushMsg). In n c.flushes c.unacked (λ k. [] ≡ above k c.unacked) down (acts s (come_back s n said l))) (sym link.1.up.1.flushes)
        (back_in n c.flushes c.unacked (Way (number_of s.current n) (Connect conn said flushes asked ∷ up) c.unacked) down said s is)

own_connect : (n : ℕ) (c : Client) (conn : ℕ) (said : List Claim) (flushes : List FlushMsg) (asked : Option (ℕ × Request)) (up : List ToServer) (down : List ToClient) (s : Server) → OpenLinked n c (Connect conn said flushes asked ∷ up) down s → Knows s → Flushes n c (Connect conn said flushes asked ∷ up) down s → Server's Flushes n c up down (on_take s n (Connect conn said flushes asked))
own_connect n c conn said flushes asked up down s link knows is =
    connect_row (by_acts n c up down) (ruled n) (λ t hand so. so) s n conn said flushes asked (knows, same_way n c (Connect conn said flushes asked) up down s (λ k. refl) is)
    (connect_taken n c conn said flushes asked up down s link is)

own : (n : ℕ) (c : Client) (m : ToServer) (up : List ToServer) (down : List ToClient) (s : Server) → OpenLinked n c (m ∷ up) down s → Knowing n c (m ∷ up) down s → Flushes n c (m ∷ up) down s → Server's Flushes n c up down (on_take s n m)
own n c (Connect conn said flushes asked) up down s link k is = own_connect n c conn said flushes asked up down s link k.0 is
own n c (Flush conn f) up down s link k is = own_flush n c conn f up down s k.1.up.0.1 (from_front (λ (l : List Entry). Known l f.ino) (λ xs ys so. known_more xs ys f.ino so) s.durable s.entries k.1.up.0.0) k.0 is
own n c (Ask conn tid asked) up down s link k is = ask_row (by_acts n c up down) (ruled n) (λ t hand so. so) s n conn tid asked (k.0, same_way n c (Ask conn tid asked) up down s (λ j. refl) is)
own n c (DropRead conn ino) up down s link k is = take_drop (by_acts n c up down) s n conn ino (k.0, same_way n c (DropRead conn ino) up down s (λ j. refl) is) (ruled_fit (Fits n) (ruled n) (on_drop n s ino) s (ruled_drop n s ino))
own n c (Purged id) up down s link k is = take_purged (by_acts n c up down) s n id (k.0, same_way n c (Purged id) up down s (λ j. refl) is)
own n c (Deleted ino) up down s link k is = take_deleted (by_acts n c up down) s n ino (k.0, same_way n c (Deleted ino) up down s (λ j. refl) is)

other : (n x : ℕ) (c : Client) (m : ToServer) (up : List ToServer) (down : List ToClient) (s : Server) → (x == n) ≡ false → Knows s → Flushes n c up down s → Server's Flushes n c up down (on_take s x m)
other n x c (Connect conn said flushes asked) up down s isnt knows is =
    connect_row (by_acts n c up down) (ruled n) (λ t hand so. so) s x conn said flushes asked (knows, is)
    (welcomed_other n x c conn up down (acts s (come_back s x said flushes)) isnt
    (acts_keep (by_acts n c up down).one (come_back s x said flushes) s (flushing_fit (Fits n) x (flushed n x isnt) (come_back s x said flushes) s (flushing_back s x said flushes)) (knows, is)).1)
other n x c (Flush conn f) up down s isnt knows is = take_flush (by_acts n c up down) s x conn f (knows, is) (flushing_fit (Fits n) x (flushed n x isnt) (flush_rule x s f) s (flushing_flush x s f))
other n x c (Ask conn tid asked) up down s isnt knows is = ask_row (by_acts n c up down) (ruled n) (λ t hand so. so) s x conn tid asked (knows, is)
other n x c (DropRead conn ino) up down s isnt knows is = take_drop (by_acts n c up down) s x conn ino (knows, is) (ruled_fit (Fits n) (ruled n) (on_drop x s ino) s (ruled_drop x s ino))
other n x c (Purged id) up down s isnt knows is = take_purged (by_acts n c up down) s x id (knows, is)
other n x c (Deleted ino) up down s isnt knows is = take_deleted (by_acts n c up down) s x ino (knows, is)

-- its own time
pub durable : (n : ℕ) (c : Client) (up : List ToServer) (down : List ToClient) (s : Server) → Flushes n c up down s → Flushes n c up down (record s { durable = length s.entries })
durable n c up down s is = record {
  fits = omega arith;
  counted = is.counted;
  most = is.most;
  follow = subst (λ (l : List Entry). Follow (last_flush l n) c.flushes (above (last_flush l n) c.unacked)) (sym (take-length s.entries)) (follows_last n c.flushes c.unacked (Way (number_of s.current n) up c.unacked) down s.entries s.durable s.mail is);
  agree = is.agree;
  way = is.way;
  mail = is.mail;
  down = subst (λ (l : List Entry). AllBound n l down) (sym (take-length s.entries)) (all_bound_more n (take s.durable s.entries) s.entries down (last_take n s.durable s.entries is.counted) is.down);
}

pub survives : (n : ℕ) (c : Client) (up : List ToServer) (down : List ToClient) (s : Server) (k : ℕ) → nat_le k (buffered s) ≡ true → Flushes n c up down s → Flushes n c up down (left_with s (s.durable + k))
survives n c up down s k fits is = record {
  fits = let long = length-take-le (s.durable + k) s.entries (room k s fits is.fits) in omega (arith, long);
  counted = counted_take n (s.durable + k) s.entries is.counted;
  most = let most = is.most in omega (arith, less, most);
  follow = subst (λ (l : List Entry). Follow (last_flush l n) c.flushes (above (last_flush l n) c.unacked)) (sym same)
      (follow_above (last_flush (take s.durable s.entries) n) (last_flush (take (s.durable + k) s.entries) n) c.flushes c.unacked low (let most = is.most in omega (arith, less, most)) is.follow);
  agree = all_agree_take n (s.durable + k) s.entries c.unacked is.agree;
  way = tt;
  mail = tt;
  down = subst (λ (l : List Entry). AllBound n l down) (sym same) (all_bound_more n (take s.durable s.entries) (take (s.durable + k) s.entries) down low is.down);
}
  where
    less : last_flush (take (s.durable + k) s.entries) n ≤ last_flush s.entries n
    less = last_take n (s.durable + k) s.entries is.counted

    low : last_flush (take s.durable s.entries) n ≤ last_flush (take (s.durable + k) s.entries) n
    low = last_longer n s.durable (s.durable + k) s.entries (omega arith) (room k s fits is.fits) is.counted

    same : take (s.durable + k) (take (s.durable + k) s.entries) ≡ take (s.durable + k) s.entries
    same = take_take (s.durable + k) (s.durable + k) s.entries (omega arith) (room k s fits is.fits)

pub turn_fit : (n : ℕ) (s : Server) → Knows s → IfSome (turn s) (Fit (Fits n) s)
turn_fit n s k = by_turn (turn s) (ruled_turn s k.deferred)
  where
    by_turn : (o : Option (List Act)) → IfSome o (AllRuled s.entries) → IfSome o (Fit (Fits n) s)
    by_turn None all = tt
    by_turn (Some list) all = ruled_fit (Fits n) (ruled n) list s all

-- The client.
stays_row : (n : ℕ) (c : Client) (up : List ToServer) (down more : List ToClient) (s : Server) (r : Row Client) → AllBound n (take s.durable s.entries) more → Stays (take s.durable s.entries) c r → Flushes n c up down s → Client's Flushes n up more s r
stays_row n c up down more s r bound stays is = rw (stays.unacked, stays.flushes) (record { fits = is.fits; counted = is.counted; most = is.most; follow = is.follow; agree = is.agree; way = by_number (number_of s.current n) is.way; mail = is.mail; down = bound })
  where
    by_number : (o : Option ℕ) → Way o up c.unacked (last_flush s.entries n) → Way o (up ++ for_server r.sent) c.unacked (last_flush s.entries n)
    by_number None way = tt
    by_number (Some k) way = of_append k up (for_server r.sent) ∙ ap (λ (l : List FlushMsg). flushes_of k up ++ l) (of_none k (for_server r.sent) stays.none) ∙ append-nil (flushes_of k up) ∙ way

sends_row : (n : ℕ) (c : Client) (up : List ToServer) (down : List ToClient) (s : Server) (r : Row Client) → Same c.conn (number_of s.current n) → Sends (take s.durable s.entries) c r → Flushes n c up down s → Client's Flushes n up down s r
sends_row n c up down s r same (inl stays) is = stays_row n c up down down s r is.down stays is
sends_row n c up down s r same (inr sent) is = rw (sent.unacked, sent.flushes, sent.sent) (record {
  fits = is.fits;
  counted = is.counted;
  most = let most = is.most in omega (arith, most);
  follow = subst (Follow (last_flush (take s.durable s.entries) n) (c.flushes + 1)) (sym (above_end (last_flush (take s.durable s.entries) n) c.flushes c.unacked sent.flush low sent.number)) (follow_end (last_flush (take s.durable s.entries) n) c.flushes (above (last_flush (take s.durable s.entries) n) c.unacked) sent.flush sent.number is.follow);
  agree = all_agree_end n s.entries c.unacked sent.flush (newest_agrees n c.flushes sent.flush s.entries is.counted is.most sent.number) is.agree;
  way = by_number (number_of s.current n) same is.way;
  mail = is.mail;
  down = is.down;
})
  where
    low : last_flush (take s.durable s.entries) n ≤ c.flushes
    low = let less = last_take n s.durable s.entries is.counted in let most = is.most in omega (arith, less, most)

    by_number : (o : Option ℕ) → Same c.conn o → Way o up c.unacked (last_flush s.entries n) → Way o (up ++ Flush c.conn sent.flush ∷ []) (c.unacked ++ sent.flush ∷ []) (last_flush s.entries n)
    by_number None same way = tt
    by_number (Some k) same way =
        let test : (c.conn == k) ≡ true = grind (arith, nat_tests, same) in
        of_append k up (Flush c.conn sent.flush ∷ [])
        ∙ ap (λ (b : Bool). flushes_of k up ++ cond b (sent.flush ∷ []) []) test
        ∙ ap (λ (l : List FlushMsg). l ++ sent.flush ∷ []) way
        ∙ sym (above_end (last_flush s.entries n) c.flushes c.unacked sent.flush is.most sent.number)

takes_row : (n : ℕ) (c : Client) (up : List ToServer) (m : ToClient) (down : List ToClient) (s : Server) (r : Row Client) → Takes (take s.durable s.entries) c m r → Flushes n c up (m ∷ down) s → Client's Flushes n up down s r
takes_row n c up m down s r (inl stays) is = stays_row n c up (m ∷ down) down s r is.down.1 stays is
takes_row n c up m down s r (inr settles) is = rw (settles.unacked, settles.flushes, settles.sent, append-nil up) (record {
  fits = is.fits;
  counted = is.counted;
  most = is.most;
  follow = subst (Follow (last_flush (take s.durable s.entries) n) c.flushes) (sym (above_acked (last_flush (take s.durable s.entries) n) settles.which c.unacked few)) is.follow;
  agree = all_agree_filter n s.entries (λ (f : FlushMsg). not (settles.which f.number)) c.unacked is.agree;
  way = by_number (number_of s.current n) is.way;
  mail = is.mail;
  down = is.down.1;
})
  where
    few : (i : ℕ) → settles.which i ≡ true → i ≤ last_flush (take s.durable s.entries) n
    few i which = bound_by n (take s.durable s.entries) m i is.down.0 (settles.by i which)

    more : (i : ℕ) → settles.which i ≡ true → i ≤ last_flush s.entries n
    more i which = let one = few i which in let less = last_take n s.durable s.entries is.counted in omega (arith, one, less)

    by_number : (o : Option ℕ) → Way o up c.unacked (last_flush s.entries n) → Way o up (filter (λ (f : FlushMsg). not (settles.which f.number)) c.unacked) (last_flush s.entries n)
    by_number None way = tt
    by_number (Some k) way = way ∙ sym (above_acked (last_flush s.entries n) settles.which c.unacked more)

-- rows, given what holds before
pub record KeptBefore (A I : View) : Type 0 where
  pub op : (n : ℕ) (c : Client) (up : List ToServer) (down : List ToClient) (s : Server) → A n c up down s → I n c up down s → IfSome (on_op c) (Client's I n up down s)
  pub flush : (n : ℕ) (c : Client) (up : List ToServer) (down : List ToClient) (s : Server) → A n c up down s → I n c up down s → IfSome (on_flush c) (Client's I n up down s)
  pub told : (n : ℕ) (c : Client) (up : List ToServer) (m : ToClient) (down : List ToClient) (s : Server) → A n c up (m ∷ down) s → I n c up (m ∷ down) s → Client's I n up down s (on_told c m)
  pub stored : (n : ℕ) (c : Client) (m : FromStore) (up : List ToServer) (down : List ToClient) (s : Server) → A n c up down s → I n c up down s → Client's I n up down s (on_stored c m)
  pub own : (n : ℕ) (c : Client) (m : ToServer) (up : List ToServer) (down : List ToClient) (s : Server) → A n c (m ∷ up) down s → I n c (m ∷ up) down s → Server's I n c up down (on_take s n m)
  pub other : (n x : ℕ) (c : Client) (m : ToServer) (up : List ToServer) (down : List ToClient) (s : Server) → (x == n) ≡ false → A n c up down s → I n c up down s → Server's I n c up down (on_take s x m)
  pub reported : (n : ℕ) (c : Client) (m : ToServer) (up : List ToServer) (down : List ToClient) (s : Server) → A n c up down s → I n c up down s → Server's I n c up down (on_report s m)
  pub committed : (n : ℕ) (c : Client) (up : List ToServer) (down : List ToClient) (s : Server) → A n c up down s → I n c up down s → IfSome (on_commit s) (Server's I n c up down)
  pub tended : (n : ℕ) (c : Client) (up : List ToServer) (down : List ToClient) (s : Server) → A n c up down s → I n c up down s → IfSome (on_tend s) (Server's I n c up down)
  pub restarted : (n : ℕ) (c : Client) (up : List ToServer) (down : List ToClient) (s : Server) (k : ℕ) → A n c up down s → I n c up down s → IfSome (on_restart s k) (Server's I n c up down)

pub joined : {A I : View} → KeptByRows A → KeptBefore A I → KeptByRows (λ n c up down s. A n c up down s × I n c up down s)
joined {A} {I} one two = record {
  op = λ n c up down s a. if_both (on_op c) (Client's A n up down s) (Client's I n up down s) (one.op n c up down s a.0) (two.op n c up down s a.0 a.1);
  flush = λ n c up down s a. if_both (on_flush c) (Client's A n up down s) (Client's I n up down s) (one.flush n c up down s a.0) (two.flush n c up down s a.0 a.1);
  told = λ n c up m down s a. (one.told n c up m down s a.0, two.told n c up m down s a.0 a.1);
  stored = λ n c m up down s a. (one.stored n c m up down s a.0, two.stored n c m up down s a.0 a.1);
  own = λ n c m up down s a. (one.own n c m up down s a.0, two.own n c m up down s a.0 a.1);
  other = λ n x c m up down s isnt a. (one.other n x c m up down s isnt a.0, two.other n x c m up down s isnt a.0 a.1);
  reported = λ n c m up down s a. (one.reported n c m up down s a.0, two.reported n c m up down s a.0 a.1);
  committed = λ n c up down s a. if_both (on_commit s) (Server's A n c up down) (Server's I n c up down) (one.committed n c up down s a.0) (two.committed n c up down s a.0 a.1);
  tended = λ n c up down s a. if_both (on_tend s) (Server's A n c up down) (Server's I n c up down) (one.tended n c up down s a.0) (two.tended n c up down s a.0 a.1);
  restarted = λ n c up down s k a. if_both (on_restart s k) (Server's A n c up down) (Server's I n c up down) (one.restarted n c up down s k a.0) (two.restarted n c up down s k a.0 a.1);
}
  where
    if_both : {X : Type 0} (o : Option X) (P Q : X → Type 0) → IfSome o P → IfSome o Q → IfSome o (λ x. P x × Q x)
    if_both None P Q p q = tt
    if_both (Some x) P Q p q = (p, q)

-- rows that need nothing else
pub alone : {A I : View} → KeptByRows I → KeptBefore A I
alone kept = record {
  op = λ n c up down s a i. kept.op n c up down s i;
  flush = λ n c up down s a i. kept.flush n c up down s i;
  told = λ n c up m down s a i. kept.told n c up m down s i;
  stored = λ n c m up down s a i. kept.stored n c m up down s i;
  own = λ n c m up down s a i. kept.own n c m up down s i;
  other = λ n x c m up down s isnt a i. kept.other n x c m up down s isnt i;
  reported = λ n c m up down s a i. kept.reported n c m up down s i;
  committed = λ n c up down s a i. kept.committed n c up down s i;
  tended = λ n c up down s a i. kept.tended n c up down s i;
  restarted = λ n c up down s k a i. kept.restarted n c up down s k i;
}

abbrev pub Informed : View
Informed n c up down s = OpenLinked n c up down s × Knowing n c up down s

pub flushes : KeptBefore Informed Flushes
flushes = record {
  op = λ n c up down s a f. if_row (on_op c) (Stays (take s.durable s.entries) c) (Client's Flushes n up down s) (λ r stays. stays_row n c up down down s r f.down stays f) (op_stays (take s.durable s.entries) c c.lines a.1.1.holds);
  flush = λ n c up down s a f. if_row (on_flush c) (λ r. (c.frozen ≡ false) × Sends (take s.durable s.entries) c r) (Client's Flushes n up down s) (λ r sends. sends_row n c up down s r (flowing (offer c) up (number_of s.current n) (down ++ mail_of n s.mail) sends.0 a.0.1).number sends.1 f) (flush_sends (take s.durable s.entries) c a.1.1.holds);
  told = λ n c up m down s a f. takes_row n c up m down s (on_told c m) (told_takes (take s.durable s.entries) c m a.1.1.down.0 a.1.1.holds) f;
  stored = λ n c m up down s a f. stays_row n c up down down s (on_stored c m) f.down (stored_stays (take s.durable s.entries) c m a.1.1.holds) f;
  own = λ n c m up down s a f. own n c m up down s a.0 a.1 f;
  other = λ n x c m up down s isnt a f. other n x c m up down s isnt a.1.0 f;
  reported = λ n c m up down s a f. row_keeps (by_acts n c up down) s (reported s m) (ruled_fit (Fits n) (ruled n) (reported s m) s (ruled_reported s m)) (a.1.0, f);
  committed = λ n c up down s a f. commit_keeps {Q = Flushes n c up down} {After = Server's Flushes n c up down} (λ r e after. after) (hands n c up down) s (durable n c up down s f);
  tended = λ n c up down s a f. turn_keeps (by_acts n c up down) s (turn_fit n s a.1.0) (a.1.0, f);
  restarted = λ n c up down s k a f. restart_keeps (λ r e after. after) (by_acts n c up down) s k (λ fits. ((left_knows s k fits a.1.0, survives n c up down s k fits f), ruled_fit (Fits n) (ruled n) (restarts (left_with s (s.durable + k))) (left_with s (s.durable + k)) (ruled_restarts (left_with s (s.durable + k)))));
}

abbrev pub All : View
All n c up down s = Informed n c up down s × Flushes n c up down s

pub rows_of_all : KeptByRows All
rows_of_all = joined (joined (rows_of_acts OpenLinked linked (all_fit OpenLinked)) (alone knowing)) flushes

pub first_all : (script : Script) (n : ℕ) → number_of (start script).server.current n ≡ Some 1 → All n (new_client n (script.clients + 1) (lines_of n script.lines)) [] [] (start script).server
first_all script n is = (
  ((tt, first_link (new_client n (script.clients + 1) (lines_of n script.lines)) _ refl is), first_knowing n (script.clients + 1) (lines_of n script.lines) script),
  record { fits = omega arith; counted = tt; most = omega arith; follow = refl; agree = tt; way = rw is refl; mail = tt; down = tt },
)

pub all_hold : (script : Script) (steps : List Step) → EachClient All (after (start script) steps)
all_hold script steps = run_keeps All rows_of_all (start script) steps (at_start All script (λ n is. first_all script n is))

-- the laws
pub gaps_law : (script : Script) (history : List Event) → EachClient NoGap (world_after script history)
gaps_law script history = each_part All NoGap (world_after script history) (λ n c up down s all. (all.1.counted, all.1.most)) (all_hold script (steps_of history))

pub kept_law : (script : Script) (history : List Event) → EachClient Kept (world_after script history)
kept_law script history = each_part All Kept (world_after script history) (λ n c up down s all. all.1.follow) (all_hold script (steps_of history))

pub acknowledged_law : (script : Script) (history : List Event) → EachClient Acknowledged (world_after script history)
acknowledged_law script history = each_part All Acknowledged (world_after script history) (λ n c up down s all. all.1.down) (all_hold script (steps_of history))

pub sent_law : (script : Script) (history : List Event) → EachClient AsSent (world_after script history)
sent_law script history = each_part All AsSent (world_after script history) (λ n c up down s all. all.1.agree) (all_hold script (steps_of history))

pub way_law : (script : Script) (history : List Event) → EachClient OnTheWay (world_after script history)
way_law script history = each_part All OnTheWay (world_after script history) (λ n c up down s all. all.1.way) (all_hold script (steps_of history))

comes_next : (n : ℕ) (c : Client) (up : List ToServer) (down : List ToClient) (s : Server) → All n c up down s → ComesNext n c up down s
comes_next n c up down s all conn f rest is current =
    let first = first_of (number_of s.current n) conn f rest c.unacked (last_flush s.entries n) current (subst (λ (l : List ToServer). Way (number_of s.current n) l c.unacked (last_flush s.entries n)) is all.1.way) in
    (subst (Follow (last_flush s.entries n) c.flushes) (sym first.2) (follows_last n c.flushes c.unacked (Way (number_of s.current n) up c.unacked) down s.entries s.durable s.mail all.1)).0

pub next_law : (script : Script) (history : List Event) → EachClient ComesNext (world_after script history)
next_law script history = each_part All ComesNext (world_after script history) comes_next (all_hold script (steps_of history))

is_taken : (n : ℕ) (c : Client) (up : List ToServer) (down : List ToClient) (s : Server) → All n c up down s → IsTaken n c up down s
is_taken n c up down s all conn f rest is =
    let good : AllGood (take s.durable s.entries) (Flush conn f ∷ rest) = subst (AllGood (take s.durable s.entries)) is all.0.1.1.up in
    (good.0.1, known_made s.entries f.ino (from_front (λ (l : List Entry). Known l f.ino) (λ xs ys so. known_more xs ys f.ino so) s.durable s.entries good.0.0))

pub taken_law : (script : Script) (history : List Event) → EachClient IsTaken (world_after script history)
taken_law script history = each_part All IsTaken (world_after script history) is_taken (all_hold script (steps_of history))

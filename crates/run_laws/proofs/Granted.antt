-- Who writes a file in the server's table and not by its own list has its release on the way, or was granted what it asked
-- for, along each run.
use Rattle.std.proofs.Common.{◌≡◌, ◌≤◌, ℕ, ◌+◌, List, [], ◌∷◌, ◌++◌, take, length, Bool, true, false, true≢false, not, cond, Option, None, Some, refl, sym, ap, ◌∙◌, subst, IfSome, arith, ◌⊎◌, inl, inr}
use Rattle.std.proofs.lemmas.List.Folds.{list_any-append}
use Rattle.std.proofs.lemmas.Bool.Decides.{nat_tests}
use Rattle.std.specs.Prelude.{◌==◌, ◌&&◌, ◌||◌, nat_le}
use Rattle.std.specs.List.{list_any}
use Rattle.snap_ids.specs.declared.id.Ino.{Ino}
use Rattle.snap_ids.specs.declared.values.Mode.{Mode}
use Rattle.snap_ids.specs.declared.values.Mode.TheVariants.{Read, Write}
use Rattle.plain_types.specs.declared.entry.Entry.{Entry}
use Rattle.plain_types.specs.declared.history.Event.{Event}
use Rattle.plain_types.specs.declared.history.Step.{Step}
use Rattle.plain_types.specs.declared.message.Claim.{Claim}
use Rattle.plain_types.specs.declared.message.FlushMsg.{FlushMsg}
use Rattle.plain_types.specs.declared.message.FileTrace.{FileTrace}
use Rattle.plain_types.specs.declared.message.Stamp.{Stamp}
use Rattle.plain_types.specs.declared.message.ToClient.{ToClient}
use Rattle.plain_types.specs.declared.message.ToClient.TheVariants.{Reply, Grant, Recall, Notice, FlushAck, Welcome, Restarted}
use Rattle.plain_types.specs.declared.message.ToServer.{ToServer}
use Rattle.plain_types.specs.declared.message.ToServer.TheVariants.{Connect, Ask, Flush, DropRead, Purged, Deleted}
use Rattle.plain_types.specs.declared.request.Request.{Request}
use Rattle.plain_types.specs.declared.request.Request.TheVariants as request
use Rattle.plain_types.specs.declared.script.Script.{Script}
use Rattle.plain_journal.specs.Table.{last_flush}
use Rattle.held_files.specs.Files.{is_ino, is_writer}
use Rattle.step_table.specs.Messages.{to_client_fits, flush_fits}
use Rattle.step_table.specs.Row.{Row}
use Rattle.step_table.specs.ServerState.{Asked, Holder, Server, number_of, is_writer as writes_at, welcome}
use Rattle.step_table.specs.Acts.{TellAck, Buffer, Settled, LetGo, act, acts, of_client, as_list, buffer}
use Rattle.step_table.specs.Requests.{is_operation}
use Rattle.step_table.specs.Flushes.{knows_file, flush_entry, flush_settles, on_flush as flush_rule, asked_by, brought, take_in, take_in_brought, connected, come_back, treat_brought}
use Rattle.step_table.specs.ServerRows.{row_of, drops, on_take, left_with, reported}
use Rattle.step_table.specs.ClientState.{Client, Under, Idle, Open, AtStore, Edit, edit_of, open_request, sent_again, stays}
use Rattle.step_table.specs.ClientLines.{on_op, on_flush, with_let_go}
use Rattle.step_table.specs.ClientTakes.{having_heard, goes_on, granted, asks_for, take_grant, take_own, may_take, on_told, on_stored}
use Rattle.step_table.specs.World.{World, row, after_row, after, client, start, to_server as for_server}
use Rattle.run_laws.proofs.Giving.{let_released}
use Rattle.run_laws.proofs.Files.{has_writer}
use Rattle.run_laws.specs.LetGo.{is_cap, Lets}
use Rattle.run_laws.specs.FlushNumbers.{flushes_of}
use Rattle.run_laws.specs.Links.{View, EachClient, Number, Link, mine, mail_of, offer}
use Rattle.run_laws.specs.Moments.{steps_of, world_after}
use Rattle.run_laws.specs.Requests.{IsIt, count, asks, Requested, answers, AllOf}
use Rattle.run_laws.specs.Tenures.{is_release, asks_write, wants_write, IsTreated, WriterIsKnown, IsUnwritten, AllUnwritten, WaitsUnwritten}
use Rattle.run_laws.proofs.Acts.{Fit, KeptByActs, any_fit, acts_keep, row_keeps, turn_keeps, commit_keeps, restart_keeps, take_ask, take_connect, take_flush, take_drop, take_purged, take_deleted}
use Rattle.run_laws.proofs.Answering.{NoReplyToCap}
use Rattle.run_laws.proofs.Asked.{asks_append, count_less, requests_act}
use Rattle.run_laws.proofs.Awaiting.{Rel, Bare, Awaits, awaits_few, fewer_awaits, AwaitFit, Between, between_act, awaits_act, treat_fit, bare_of, anew_fit, reported_fit, restarts_fit, turn_fit, flush_fit, drop_fit, back_fit}
use Rattle.run_laws.proofs.Bounding.{act_rest}
use Rattle.run_laws.proofs.Counted.{last_take}
use Rattle.run_laws.proofs.Covering.{next_number}
use Rattle.run_laws.proofs.Covers.{held_writer}
use Rattle.run_laws.proofs.Known.{Known, known_more, from_front, known_made}
use Rattle.run_laws.proofs.Leaving.{came_asking, first_or}
use Rattle.run_laws.proofs.Lending.{AllPlain, Quiet, NotOpen, Ends, drop_list, gain_of, WantsStill, AsksNow, Returns, LetsGo, Begun, Opens, Closes, ToldLends, IsOwn, op_opens, flush_lends, stored_closes, told_lends}
use Rattle.run_laws.proofs.Linked.{at_start, if_row}
use Rattle.run_laws.proofs.Once.{hand_of}
use Rattle.run_laws.proofs.Pairs.{Holds, before_all, next, first}
use Rattle.run_laws.proofs.Parting.{again_wants, still_wants}
use Rattle.run_laws.proofs.Requested.{Asking, requested}
use Rattle.run_laws.proofs.Returning.{back_shares}
use Rattle.run_laws.proofs.Shares.{has, shares, both_true, writer_two, shares_gone}
use Rattle.run_laws.proofs.Sharing.{CapFree, Frees, Writes, WritersBy}
use Rattle.run_laws.proofs.Sharers.{Before, wants_open, wants_cap}
use Rattle.run_laws.proofs.Taking.{Way, is_number, first_of, after_held}
use Rattle.run_laws.proofs.Views.{Client's, Server's, GivenByRows, step_gives}

-- the view
abbrev pub Awaiting : View
Awaiting n c up down s = Awaits n c up s

abbrev pub Knowing : (ℕ → Ino → ℕ) → View
Knowing T n c up down s = Before T n c up down s × Awaits n c up s

by_awaiting : (n : ℕ) (c : Client) (up : List ToServer) (down : List ToClient) → KeptByActs (AwaitFit n c up) (Between n c up down) (Server's Awaiting n c up down)
by_awaiting n c up down = record {
  one = λ s a fit q. between_act n c up down s a fit q;
  hands = λ s q. q.1;
  anew = λ s q. anew_fit n c up down s q;
}

asks_of : (T : ℕ → Ino → ℕ) (n : ℕ) (c : Client) (up : List ToServer) (down : List ToClient) (s : Server) → Knowing T n c up down s → Asking n c up down s
asks_of T n c up down s k = (k.0.0.0.0.0, k.0.0.1.0)

between : (T : ℕ → Ino → ℕ) (n : ℕ) (c : Client) (up : List ToServer) (down : List ToClient) (s : Server) → Knowing T n c up down s → Between n c up down s
between T n c up down s k = (k.0.0.1.0, k.1)

-- a message less on the way
rel_pop : (m : ToServer) (up : List ToServer) (ino : Ino) (o : Option ℕ) → ((j : ℕ) → o ≡ Some j → is_release j ino m ≡ false) → Rel (m ∷ up) ino o → Rel up ino o
rel_pop m up ino None none rel = tt
rel_pop m up ino (Some j) none rel = sym (ap (λ (b : Bool). b || list_any (is_release j ino) up) (none j refl)) ∙ rel

asks_less : (m : ToServer) (up : List ToServer) → asks up ≤ asks (m ∷ up)
asks_less (Ask conn tid asked) up = omega arith
asks_less m up = omega arith

awaits_pop : (n : ℕ) (c : Client) (m : ToServer) (up : List ToServer) (s : Server) → ((j : ℕ) → number_of s.current n ≡ Some j → (ino : Ino) → 2 ≤ shares n ino s.holders → is_release j ino m ≡ false) → Awaits n c (m ∷ up) s → Awaits n c up s
awaits_pop n c m up s none was ino wants two = either (was ino wants two)
  where
    either : Rel (m ∷ up) ino (number_of s.current n) ⊎ Bare n (m ∷ up) s → Rel up ino (number_of s.current n) ⊎ Bare n up s
    either (inl rel) = inl (rel_pop m up ino (number_of s.current n) (λ j is. none j is ino two) rel)
    either (inr bare) = inr (let less = asks_less m up in omega (arith, less, bare))

popped : (T : ℕ → Ino → ℕ) (n : ℕ) (c : Client) (m : ToServer) (up : List ToServer) (down : List ToClient) (s : Server) → ((j : ℕ) → number_of s.current n ≡ Some j → (ino : Ino) → is_release j ino m ≡ false) → Knowing T n c (m ∷ up) down s → Between n c up down s
popped T n c m up down s none k = (requested.pops n c m up down s (asks_of T n c (m ∷ up) down s k), awaits_pop n c m up s (λ j is ino two. none j is ino) k.1)

brought_awaits : (n : ℕ) (c : Client) (up : List ToServer) (s : Server) (o : Option Asked) → Awaits n c up s → Awaits n c up (take_in_brought s o)
brought_awaits n c up s None was = was
brought_awaits n c up s (Some a) was = was

-- what is asked for Write isn't written
wants_few : (ino : Ino) (c : Client) → Frees c.files c.under → wants_write ino c.under ≡ true → has ino c.files ≤ 1
wants_few ino c frees wants = by_under c.under frees wants
  where
    same_has : (file : Ino) → is_ino ino file ≡ true → has file c.files ≤ 1 → has ino c.files ≤ 1
    same_has file is few = subst (λ (i : Ino). has i c.files ≤ 1) (sym (same is)) few
      where
        same : is_ino ino file ≡ true → ino ≡ file
        same is = grind (arith, nat_tests, is)

    by_under : (under : Under) → Frees c.files under → wants_write ino under ≡ true → has ino c.files ≤ 1
    by_under (Open number tid text (request.Cap file Write) gone) frees wants = same_has file (both_true (is_ino ino file) true wants).0 frees.1
    by_under (Open number tid text (request.Cap file Read) gone) frees wants = absurd (true≢false (sym (both_true (is_ino ino file) false wants).1))
    by_under under frees wants = absurd (true≢false (sym wants))

in_hand : (n : ℕ) (s : Server) (a : Asked) → is_operation s a ≡ false → (a.client == n) ≡ true → 1 ≤ count n (as_list (take_in s a).hand)
in_hand n s a isnt mine_a = rw (isnt, mine_a) (omega arith)

own_connect : (T : ℕ → Ino → ℕ) (n : ℕ) (c : Client) (conn : ℕ) (said : List Claim) (flushes : List FlushMsg) (asked : Option (ℕ × Request)) (up : List ToServer) (down : List ToClient) (s : Server) → Knowing T n c (Connect conn said flushes asked ∷ up) down s → Server's Awaiting n c up down (on_take s n (Connect conn said flushes asked))
own_connect T n c conn said flushes asked up down s k =
    take_connect (by_awaiting n c up down) s n conn said flushes asked (popped T n c (Connect conn said flushes asked) up down s (λ j is ino. refl) k)
    (λ above. ((accepts, brought_awaits n c up next (brought n asked) (λ ino wants two. absurd (never ino wants two))), treats asked link.up.1.asked accepts))
  where
    link : Link (offer c) (Connect conn said flushes asked ∷ up) (number_of s.current n) (down ++ mail_of n s.mail)
    link = k.0.0.0.0.0.1

    now : Server
    now = acts s (come_back s n said flushes)

    next : Server
    next = welcome (connected now n conn) n conn

    accepts : Requested n c up down (take_in_brought next (brought n asked))
    accepts = requested.accepts n c conn said flushes asked up down now (came_asking n n c said flushes (Connect conn said flushes asked ∷ up) down s (asks_of T n c (Connect conn said flushes asked ∷ up) down s k))

    table : (ino : Ino) → shares n ino now.holders ≡ has ino c.files
    table ino = subst (λ (l : List FlushMsg). shares n ino (acts s (come_back s n said l)).holders ≡ has ino c.files) (sym link.up.1.flushes)
        (subst (λ (l : List Claim). shares n ino (acts s (come_back s n l c.unacked)).holders ≡ has ino c.files) (sym link.up.1.claims)
        (back_shares n (last_flush (take s.durable s.entries) n) c.files c.unacked s k.0.1.0.0 k.0.1.1.0 (last_take n s.durable s.entries k.0.0.0.1.counted) k.0.1.0.1.1.held ino))

    never : (ino : Ino) → wants_write ino c.under ≡ true → 2 ≤ shares n ino now.holders → ⊥
    never ino wants two = let e = table ino in let few = wants_few ino c k.0.1.0.1.0.frees wants in omega (arith, e, few, two)

    treats : (o : Option (ℕ × Request)) → o ≡ open_request c.under → Requested n c up down (take_in_brought next (brought n o)) → Fit (AwaitFit n c up) (take_in_brought next (brought n o)) (treat_brought (take_in_brought next (brought n o)) (brought n o))
    treats None is r = tt
    treats (Some q) is r = let a = asked_by n q.0 q.1 in
        treat_fit n c up (take_in next a) false a (record {
          of = λ b at. hand_of next a b (is_operation next a) at;
          it = λ at. subst (λ (o : Option (ℕ × Request)). IsIt o q.0 q.1) is (refl, refl);
          few = λ at ino wants two. absurd (never ino wants two);
          bare = λ isnt at. bare_of n c up down (take_in next a) r (in_hand n next a isnt at);
        })

other_connect : (T : ℕ → Ino → ℕ) (n x : ℕ) (c : Client) (conn : ℕ) (said : List Claim) (flushes : List FlushMsg) (asked : Option (ℕ × Request)) (up : List ToServer) (down : List ToClient) (s : Server) → (x == n) ≡ false → Knowing T n c up down s → Server's Awaiting n c up down (on_take s x (Connect conn said flushes asked))
other_connect T n x c conn said flushes asked up down s isnt k =
    take_connect (by_awaiting n c up down) s x conn said flushes asked (between T n c up down s k)
    (λ above. ((requested.accepts_other n x c conn asked up down now isnt (came_asking n x c said flushes up down s (asks_of T n c up down s k)), brought_awaits n c up next (brought x asked) awaits_next), treats asked))
  where
    now : Server
    now = acts s (come_back s x said flushes)

    next : Server
    next = welcome (connected now x conn) x conn

    q_now : Between n c up down now
    q_now = acts_keep {F = AwaitFit n c up} {Q = Between n c up down} (λ t a fit so. between_act n c up down t a fit so) (come_back s x said flushes) s (back_fit n x c up isnt s said flushes) (between T n c up down s k)

    awaits_next : Awaits n c up next
    awaits_next = fewer_awaits n c up now next (ap (λ (b : Bool). cond b (Some conn) (number_of now.current n)) isnt) (λ ino two. two)
        (let one = count_less n (λ a. not (of_client x a)) now.held in let two = count_less n (λ a. not (of_client x a)) now.deferred in omega (arith, one, two)) q_now.1

    treats : (o : Option (ℕ × Request)) → Fit (AwaitFit n c up) (take_in_brought next (brought x o)) (treat_brought (take_in_brought next (brought x o)) (brought x o))
    treats None = tt
    treats (Some q) = let a = asked_by x q.0 q.1 in
        treat_fit n c up (take_in next a) false a (record {
          of = λ b at. hand_of next a b (is_operation next a) at;
          it = λ at. absurd (true≢false (sym at ∙ isnt));
          few = λ at. absurd (true≢false (sym at ∙ isnt));
          bare = λ no at. absurd (true≢false (sym at ∙ isnt));
        })

-- a flush is taken: what it releases isn't in the table any more
own_flush : (T : ℕ → Ino → ℕ) (n : ℕ) (c : Client) (conn : ℕ) (f : FlushMsg) (up : List ToServer) (down : List ToClient) (s : Server) → Knowing T n c (Flush conn f ∷ up) down s → Server's Awaiting n c up down (on_take s n (Flush conn f))
own_flush T n c conn f up down s k = rw fits (by_current (is_number conn (number_of s.current n)) refl)
  where
    fits : flush_fits f ≡ true
    fits = k.0.0.0.0.1.1.up.0.1

    made : knows_file s f.ino ≡ true
    made = known_made s.entries f.ino (from_front (λ (l : List Entry). Known l f.ino) (λ xs ys so. known_more xs ys f.ino so) s.durable s.entries k.0.0.0.0.1.1.up.0.0)

    all : List ToServer
    all = Flush conn f ∷ up

    t : Server
    t = acts s (flush_rule n s f)

    e : Entry
    e = record { client = n; number = f.number; what = flush_entry f }

    entered : Awaits n c all t
    entered = acts_keep {F = AwaitFit n c all} {Q = Awaits n c all} (λ u a fit so. awaits_act n c all u a fit so) (flush_rule n s f) s (flush_fit n n c all s f) k.1

    asked_now : Requested n c up down t
    asked_now = acts_keep {F = λ u a. Unit {0}} {Q = Requested n c up down} (λ u a fit r. requests_act n c up down u a r) (flush_rule n s f) s (any_fit s (flush_rule n s f)) (requested.pops n c (Flush conn f) up down s (asks_of T n c all down s k))

    new_number : is_number conn (number_of s.current n) ≡ true → f.number ≡ last_flush s.entries n + 1
    new_number now = let first = first_of (number_of s.current n) conn f up c.unacked (last_flush s.entries n) now k.0.0.0.1.way in next_number n c down s (Way (number_of s.current n) all c.unacked) f (flushes_of first.0 up) first.2 k.0.0.0.1

    freed : is_number conn (number_of s.current n) ≡ true → (b : Bool) → nat_le f.number (last_flush s.entries n) ≡ b → (ino : Ino) → 2 ≤ shares n ino (acts s (cond b [] (Buffer e ∷ flush_settles n f ∷ []) ++ TellAck n f.number ∷ [])).holders → (f.release && is_ino ino f.ino) ≡ false
    freed now true old ino two = absurd (above_it (new_number now) old)
      where
        above_it : f.number ≡ last_flush s.entries n + 1 → nat_le f.number (last_flush s.entries n) ≡ true → ⊥
        above_it new old = grind (arith, nat_tests, new, old)
    freed now false new ino two = by_cases f.release (is_ino ino f.ino) refl (subst (λ (l : List Holder). 2 ≤ shares n ino l) (act_rest (act (buffer s e) (flush_settles n f)) (TellAck n f.number) tt).1 two)
      where
        by_cases : (r i : Bool) → is_ino ino f.ino ≡ i → 2 ≤ shares n ino (act (buffer s e) (cond r (LetGo n f.ino) (Settled n f.ino f.upto))).holders → (r && i) ≡ false
        by_cases true true is two = let zero_now = shares_gone n ino f.ino (buffer s e).holders is in absurd (omega (arith, zero_now, two))
        by_cases true false is two = refl
        by_cases false i is two = refl

    no_match : (a b : Bool) → b ≡ false → (a && b) ≡ false
    no_match true b none = none
    no_match false b none = refl

    taken : is_number conn (number_of s.current n) ≡ true → Between n c up down t
    taken now = (asked_now, awaits_pop n c (Flush conn f) up t (λ j is ino two. no_match (conn == j) (f.release && is_ino ino f.ino) (freed now (nat_le f.number (last_flush s.entries n)) refl ino two)) entered)

    other_number : is_number conn (number_of s.current n) ≡ false → (j : ℕ) → number_of s.current n ≡ Some j → (ino : Ino) → (conn == j && (f.release && is_ino ino f.ino)) ≡ false
    other_number test j is ino = ap (λ (b : Bool). b && (f.release && is_ino ino f.ino)) (differs (subst (λ (o : Option ℕ). is_number conn o ≡ false) is test))
      where
        differs : (j == conn) ≡ false → (conn == j) ≡ false
        differs isnt = grind (arith, nat_tests, isnt)

    by_current : (b : Bool) → is_number conn (number_of s.current n) ≡ b → Server's Awaiting n c up down (cond (b && knows_file s f.ino) (row_of s (flush_rule n s f)) (drops s))
    by_current true test = rw made (after_held (by_awaiting n c up down) (2 + length s.held) s (flush_rule n s f) (taken test))
    by_current false test = (popped T n c (Flush conn f) up down s (other_number test) k).1

own : (T : ℕ → Ino → ℕ) (n : ℕ) (c : Client) (m : ToServer) (up : List ToServer) (down : List ToClient) (s : Server) → Knowing T n c (m ∷ up) down s → Server's Awaiting n c up down (on_take s n m)
own T n c (Connect conn said flushes asked) up down s k = own_connect T n c conn said flushes asked up down s k
own T n c (Ask conn tid asked) up down s k = let all = asks_of T n c (Ask conn tid asked ∷ up) down s k in let a = asked_by n tid asked in let was = popped T n c (Ask conn tid asked) up down s (λ j is ino. refl) k in
    take_ask (by_awaiting n c up down) s n conn tid asked was
    (λ now. let asks_now = requested.asks n c conn tid asked up down s now all in (
      (asks_now, was.1),
      treat_fit n c up (take_in s a) false a (record {
        of = λ b at. hand_of s a b (is_operation s a) at;
        it = λ is. all.1.up.0;
        few = λ is ino wants two. rel_pop (Ask conn tid asked) up ino (number_of s.current n) (λ j at. refl) (awaits_few n c (Ask conn tid asked ∷ up) s (omega arith) k.1 ino wants two);
        bare = λ isnt is. bare_of n c up down (take_in s a) asks_now (in_hand n s a isnt is);
      }),
    ))
own T n c (Flush conn f) up down s k = own_flush T n c conn f up down s k
own T n c (DropRead conn ino) up down s k = take_drop (by_awaiting n c up down) s n conn ino (popped T n c (DropRead conn ino) up down s (λ j is x. refl) k) (drop_fit n n c up s ino)
own T n c (Purged id) up down s k = take_purged (by_awaiting n c up down) s n id (popped T n c (Purged id) up down s (λ j is ino. refl) k)
own T n c (Deleted ino) up down s k = take_deleted (by_awaiting n c up down) s n ino (popped T n c (Deleted ino) up down s (λ j is x. refl) k)

other : (T : ℕ → Ino → ℕ) (n x : ℕ) (c : Client) (m : ToServer) (up : List ToServer) (down : List ToClient) (s : Server) → (x == n) ≡ false → Knowing T n c up down s → Server's Awaiting n c up down (on_take s x m)
other T n x c (Connect conn said flushes asked) up down s isnt k = other_connect T n x c conn said flushes asked up down s isnt k
other T n x c (Ask conn tid asked) up down s isnt k = let a = asked_by x tid asked in
    take_ask (by_awaiting n c up down) s x conn tid asked (between T n c up down s k)
    (λ now. (
      (requested.asks_other n x c tid asked up down s isnt (asks_of T n c up down s k), k.1),
      treat_fit n c up (take_in s a) false a (record {
        of = λ b at. hand_of s a b (is_operation s a) at;
        it = λ at. absurd (true≢false (sym at ∙ isnt));
        few = λ at. absurd (true≢false (sym at ∙ isnt));
        bare = λ no_operation at. absurd (true≢false (sym at ∙ isnt));
      }),
    ))
other T n x c (Flush conn f) up down s isnt k = take_flush (by_awaiting n c up down) s x conn f (between T n c up down s k) (flush_fit n x c up s f)
other T n x c (DropRead conn ino) up down s isnt k = take_drop (by_awaiting n c up down) s x conn ino (between T n c up down s k) (drop_fit n x c up s ino)
other T n x c (Purged id) up down s isnt k = take_purged (by_awaiting n c up down) s x id (between T n c up down s k)
other T n x c (Deleted ino) up down s isnt k = take_deleted (by_awaiting n c up down) s x ino (between T n c up down s k)

-- The rows of the client: what is open for Write was open so and nothing is asked, or it is asked for now, and isn't written.
abbrev RowWants : Client → Row Client → Type 0
RowWants c r = (ino : Ino) → wants_write ino r.state.under ≡ true → ((wants_write ino c.under ≡ true) × (asks (for_server r.sent) ≡ 0)) ⊎ ((has ino c.files ≤ 1) × (wants_write ino c.under ≡ false))

same_wants : (c : Client) (r : Row Client) (under : Under) → r.state.under ≡ under → ((ino : Ino) → wants_write ino under ≡ wants_write ino c.under) → asks (for_server r.sent) ≡ 0 → RowWants c r
same_wants c r under is same none ino wants = inl (sym (same ino) ∙ sym (ap (wants_write ino) is) ∙ wants, none)

plain_asks : (up : List ToServer) → AllPlain up → asks up ≡ 0
plain_asks [] all = refl
plain_asks (Flush conn f ∷ up) all = plain_asks up all.1
plain_asks (m ∷ up) all = absurd all.0

quiet_wants : (c : Client) (r : Row Client) → Quiet c r → RowWants c r
quiet_wants c r quiet = same_wants c r c.under quiet.under (λ ino. refl) (plain_asks (for_server r.sent) quiet.says)

returns_wants : (c : Client) (r : Row Client) → Returns c r → RowWants c r
returns_wants c r back_now = same_wants c r (sent_again c.under) back_now.under (λ ino. again_wants ino c.under) (ap asks back_now.says.3)

no_wants : (under : Under) (ino : Ino) → NotOpen under → wants_write ino under ≡ true → ⊥
no_wants Idle ino none wants = true≢false (sym wants)
no_wants (AtStore number entry file head) ino none wants = true≢false (sym wants)
no_wants (Open number tid text asked gone) ino none wants = none

ends_wants : (c : Client) (gain : Ino → ℕ) (r : Row Client) → Ends c gain r → RowWants c r
ends_wants c gain r ends ino wants = absurd (no_wants r.state.under ino ends.under wants)

lets_wants : (c : Client) (r : Row Client) → LetsGo c r → RowWants c r
lets_wants c r lets = same_wants c r (with_let_go lets.ino c.under) lets.under (λ ino. still_wants ino lets.ino c.under) (none lets.says)
  where
    none : ((has lets.ino c.files ≡ 1) × (for_server r.sent ≡ DropRead c.conn lets.ino ∷ [])) ⊎ ((has lets.ino c.files ≡ 2) × ((f : FlushMsg) × (f.release ≡ true) × (f.ino ≡ lets.ino) × (for_server r.sent ≡ Flush c.conn f ∷ []))) → asks (for_server r.sent) ≡ 0
    none (inl drop) = ap asks drop.1
    none (inr release) = ap asks release.1.3

cap_few : (ino : Ino) (c : Client) (asked : Request) → CapFree c.files [] asked → asks_write ino asked ≡ true → has ino c.files ≤ 1
cap_few ino c (request.Cap file Write) free wants = subst (λ (i : Ino). has i c.files ≤ 1) (sym (same (both_true (is_ino ino file) true wants).0)) free
  where
    same : is_ino ino file ≡ true → ino ≡ file
    same is = grind (arith, nat_tests, is)
cap_few ino c (request.Cap file Read) free wants = absurd (true≢false (sym (both_true (is_ino ino file) false wants).1))
cap_few ino c asked free wants = absurd (true≢false (sym wants))

asks_wants : (c : Client) (r : Row Client) → ((ino : Ino) → wants_write ino c.under ≡ true → ⊥) → AsksNow c r → RowWants c r
asks_wants c r none a ino wants = inr (cap_few ino c a.asked a.free (sym (ap (wants_write ino) a.under) ∙ wants), by_test (wants_write ino c.under) refl)
  where
    by_test : (b : Bool) → wants_write ino c.under ≡ b → b ≡ false
    by_test true is = absurd (none ino is)
    by_test false is = refl

begun_wants : (c : Client) (r : Row Client) → open_request c.under ≡ None → Begun c r → RowWants c r
begun_wants c r none (inl quiet) = quiet_wants c r quiet
begun_wants c r none (inr (inl ends)) = ends_wants c _ r ends
begun_wants c r none (inr (inr (inl a))) = asks_wants c r (λ ino wants. wants_open ino c.under none wants) a
begun_wants c r none (inr (inr (inr back_now))) = returns_wants c r back_now

opens_wants : (c : Client) (r : Row Client) → Opens c r → RowWants c r
opens_wants c r (inl back_now) = returns_wants c r back_now
opens_wants c r (inr begun) = begun_wants c r begun.0 begun.1

closes_wants : (c : Client) (r : Row Client) → Closes c r → RowWants c r
closes_wants c r (inl quiet) = quiet_wants c r quiet
closes_wants c r (inr ends) = ends_wants c _ r ends.1

-- a message that is no Reply asks for nothing
abbrev NotReply : ToClient → Type 0
NotReply (Reply conn tid st said) = ⊥
NotReply m = Unit {0}

grant_asks : (c : Client) (tid : ℕ) (st : Stamp) (ino : Ino) (mode : Mode) (size : ℕ) (file : FileTrace) (under : Under) → asks (for_server (take_grant c tid st ino mode size file under).sent) ≡ 0
grant_asks c tid st ino mode size file Idle = refl
grant_asks c tid st ino mode size file (AtStore number entry other head) = refl
grant_asks c tid st ino mode size file (Open number open_tid text asked gone) = by_test (open_tid == tid && asks_for asked ino mode && not (is_writer ino c.files)) (edit_of text)
  where
    by_test : (b : Bool) (o : Option Edit) → asks (for_server (cond b (goes_on (granted c ino mode size st.snap file) number ino o) (stays c)).sent) ≡ 0
    by_test true (Some e) = refl
    by_test true None = refl
    by_test false o = refl

told_asks : (c : Client) (m : ToClient) → NotReply m → asks (for_server (on_told c m).sent) ≡ 0
told_asks c m isnt = by_test (may_take c m && to_client_fits m)
  where
    by_message : (m : ToClient) → NotReply m → asks (for_server (take_own (having_heard c m) m).sent) ≡ 0
    by_message (Reply conn tid st said) isnt = absurd isnt
    by_message (Grant conn tid st ino mode size file) isnt = grant_asks (having_heard c (Grant conn tid st ino mode size file)) tid st ino mode size file c.under
    by_message (Recall conn st ino) isnt = refl
    by_message (Notice conn st update) isnt = refl
    by_message (FlushAck conn st number) isnt = refl
    by_message (Welcome conn st last update) isnt = refl
    by_message (Restarted st) isnt = refl

    by_test : (b : Bool) → asks (for_server (cond b (take_own (having_heard c m) m) (stays (having_heard c m))).sent) ≡ 0
    by_test true = by_message m isnt
    by_test false = refl

some_asked : (conn tid : ℕ) (asked : Request) (o : Option Ino) → 1 ≤ asks (drop_list conn o ++ Ask conn tid asked ∷ [])
some_asked conn tid asked None = omega arith
some_asked conn tid asked (Some ino) = omega arith

told_wants : (c : Client) (m : ToClient) → NoReplyToCap c.conn (open_request c.under) m → ToldLends c m (on_told c m) → RowWants c (on_told c m)
told_wants c m not_cap (inl quiet) = quiet_wants c (on_told c m) quiet
told_wants c m not_cap (inr (inl here)) = by_answer here.0 here.1
  where
    asked_anew : IsOwn c m → AsksNow c (on_told c m) → RowWants c (on_told c m)
    asked_anew own_now a = by_message m not_cap own_now a
      where
        impossible : {R : Type 0} (m : ToClient) → NotReply m → AsksNow c (on_told c m) → R
        impossible m isnt a = absurd (let some = some_asked c.conn a.tid a.asked a.before in let same = ap asks a.sent in let none = told_asks c m isnt in omega (arith, some, same, none))

        by_message : (m : ToClient) → NoReplyToCap c.conn (open_request c.under) m → IsOwn c m → AsksNow c (on_told c m) → RowWants c (on_told c m)
        by_message (Reply conn tid st said) not_cap own_now a = asks_wants c (on_told c (Reply conn tid st said)) (λ ino wants. wants_cap ino c.under (not_cap (same own_now.0)) wants) a
          where
            same : Number conn ≡ Number c.conn → (conn == c.conn) ≡ true
            same is = let e : conn ≡ c.conn = cc in grind (arith, nat_tests, e)
        by_message (Grant conn tid st ino mode size file) not_cap own_now a = impossible (Grant conn tid st ino mode size file) tt a
        by_message (Recall conn st ino) not_cap own_now a = impossible (Recall conn st ino) tt a
        by_message (Notice conn st update) not_cap own_now a = impossible (Notice conn st update) tt a
        by_message (FlushAck conn st number) not_cap own_now a = impossible (FlushAck conn st number) tt a
        by_message (Welcome conn st last update) not_cap own_now a = impossible (Welcome conn st last update) tt a
        by_message (Restarted st) not_cap own_now a = impossible (Restarted st) tt a

    by_answer : IsOwn c m → Ends c (gain_of c m) (on_told c m) ⊎ (AsksNow c (on_told c m) × WantsStill c (on_told c m)) → RowWants c (on_told c m)
    by_answer own_now (inl ends) = ends_wants c (gain_of c m) (on_told c m) ends
    by_answer own_now (inr a) = asked_anew own_now a.0
told_wants c m not_cap (inr (inr back_now)) = returns_wants c (on_told c m) back_now

-- so it goes on
rel_more : (up more : List ToServer) (ino : Ino) (o : Option ℕ) → Rel up ino o → Rel (up ++ more) ino o
rel_more up more ino None rel = tt
rel_more up more ino (Some j) rel = list_any-append (is_release j ino) up more ∙ first_or (list_any (is_release j ino) up) (list_any (is_release j ino) more) rel

row_awaits : (T : ℕ → Ino → ℕ) (n : ℕ) (c : Client) (up : List ToServer) (s : Server) (r : Row Client) → RowWants c r → WritersBy c.files c.under up (λ ino. shares n ino s.holders) (number_of s.current n) → Awaits n c up s → Awaits n r.state (up ++ for_server r.sent) s
row_awaits T n c up s r row_wants writers was ino wants two = by_row (row_wants ino wants)
  where
    more : List ToServer
    more = for_server r.sent

    carried : asks more ≡ 0 → Rel up ino (number_of s.current n) ⊎ Bare n up s → Rel (up ++ more) ino (number_of s.current n) ⊎ Bare n (up ++ more) s
    carried none (inl rel) = inl (rel_more up more ino (number_of s.current n) rel)
    carried none (inr bare) = inr (let sum = asks_append up more in omega (arith, sum, none, bare))

    by_writers : has ino c.files ≤ 1 → wants_write ino c.under ≡ false → (o : Option ℕ) → WritersBy c.files c.under up (λ ino. shares n ino s.holders) o → Rel up ino o
    by_writers few none None writers = tt
    by_writers few none (Some j) writers = either (writers ino two)
      where
        either : Writes c.files c.under up j ino → list_any (is_release j ino) up ≡ true
        either (inl held) = absurd (omega (arith, few, held))
        either (inr (inl rel)) = rel
        either (inr (inr wants)) = absurd (true≢false (sym wants ∙ none))

    by_row : ((wants_write ino c.under ≡ true) × (asks more ≡ 0)) ⊎ ((has ino c.files ≤ 1) × (wants_write ino c.under ≡ false)) → Rel (up ++ more) ino (number_of s.current n) ⊎ Bare n (up ++ more) s
    by_row (inl same) = carried same.1 (was ino same.0 two)
    by_row (inr new) = inl (rel_more up more ino (number_of s.current n) (by_writers new.0 new.1 (number_of s.current n) writers))

pub awaits : (T : ℕ → Ino → ℕ) → GivenByRows (Knowing T) Awaiting
awaits T = record {
  weak = λ n c up down s k. k.1;
  op = λ n c up down s k. if_row (on_op c) (λ r. (c.frozen ≡ false) × Opens c r) (Client's Awaiting n up down s) (λ r opens. row_awaits T n c up s r (opens_wants c r opens.1) k.0.1.0.1.0.writers k.1) (op_opens c c.lines);
  flush = λ n c up down s k. if_row (on_flush c) (λ r. (c.frozen ≡ false) × (Quiet c r ⊎ LetsGo c r)) (Client's Awaiting n up down s) (λ r lends. row_awaits T n c up s r (flush_wants c r lends.1) k.0.1.0.1.0.writers k.1) (flush_lends c k.0.1.0.0);
  told = λ n c up m down s k. row_awaits T n c up s (on_told c m) (told_wants c m k.0.0.1.1.1.0 (told_lends c m k.0.1.0.1.0.frees)) k.0.1.0.1.0.writers k.1;
  stored = λ n c m up down s k. row_awaits T n c up s (on_stored c m) (closes_wants c (on_stored c m) (stored_closes c m)) k.0.1.0.1.0.writers k.1;
  own = λ n c m up down s k. own T n c m up down s k;
  other = λ n x c m up down s isnt k. other T n x c m up down s isnt k;
  reported = λ n c m up down s k. row_keeps (by_awaiting n c up down) s (reported s m) (reported_fit n c up s m) (between T n c up down s k);
  committed = λ n c up down s k. commit_keeps {Q = Between n c up down} {After = Server's Awaiting n c up down} (λ r e after. after) (λ t q. q.1) s (between T n c up down s k);
  tended = λ n c up down s k. turn_keeps (by_awaiting n c up down) s (turn_fit n c up down s (between T n c up down s k)) (between T n c up down s k);
  restarted = λ n c up down s j k. restart_keeps (λ r e after. after) (by_awaiting n c up down) s j (λ fits. ((requested.survives n c up down s j fits (asks_of T n c up down s k), λ ino wants two. inl tt), restarts_fit n c up (left_with s (s.durable + j))));
}
  where
    flush_wants : (c : Client) (r : Row Client) → Quiet c r ⊎ LetsGo c r → RowWants c r
    flush_wants c r (inl quiet) = quiet_wants c r quiet
    flush_wants c r (inr lets) = lets_wants c r lets

-- along each run
knowing_each : (w : World) (h : Holds w) → EachClient Awaiting w → EachClient (Knowing h.pairs.most) w
knowing_each w h each n = found (client w.clients n) (before_all w h n) (each n)
  where
    found : (o : Option Client) → IfSome o (λ c. Before h.pairs.most n c (mine n w.up) (mine n w.down) w.server) → IfSome o (λ c. Awaiting n c (mine n w.up) (mine n w.down) w.server) → IfSome o (λ c. Knowing h.pairs.most n c (mine n w.up) (mine n w.down) w.server)
    found None before all = tt
    found (Some c) before all = (before, all)

awaiting_run : (w : World) (steps : List Step) → Holds w → EachClient Awaiting w → Holds (after w steps) × EachClient Awaiting (after w steps)
awaiting_run w [] h each = (h, each)
awaiting_run w (step ∷ steps) h each = awaiting_run (after_row w (row w step)) steps (next w step h) (step_gives (Knowing h.pairs.most) Awaiting (awaits h.pairs.most) w step (knowing_each w h each))

-- the law
known_at : (n : ℕ) (c : Client) (up : List ToServer) (s : Server) (o : Option ℕ) → WritersBy c.files c.under up (λ ino. shares n ino s.holders) o → ((ino : Ino) → wants_write ino c.under ≡ true → 2 ≤ shares n ino s.holders → Rel up ino o ⊎ Bare n up s)
    → IfSome o (λ k. (ino : Ino) → list_any (writes_at n ino) s.holders ≡ true → (is_writer ino c.files ≡ true) ⊎ ((list_any (is_release k ino) up ≡ true) ⊎ ((wants_write ino c.under ≡ true) × IsTreated n up s)))
known_at n c up s None writers awaits = tt
known_at n c up s (Some k) writers awaits = λ ino any. either ino (writer_two n ino s.holders any) (writers ino (writer_two n ino s.holders any))
  where
    treated : (ino : Ino) → wants_write ino c.under ≡ true → (list_any (is_release k ino) up ≡ true) ⊎ Bare n up s → (is_writer ino c.files ≡ true) ⊎ ((list_any (is_release k ino) up ≡ true) ⊎ ((wants_write ino c.under ≡ true) × IsTreated n up s))
    treated ino wants (inl rel) = inr (inl rel)
    treated ino wants (inr bare) = inr (inr (wants, bare))

    either : (ino : Ino) → 2 ≤ shares n ino s.holders → Writes c.files c.under up k ino → (is_writer ino c.files ≡ true) ⊎ ((list_any (is_release k ino) up ≡ true) ⊎ ((wants_write ino c.under ≡ true) × IsTreated n up s))
    either ino two (inl held) = inl (held_writer ino c.files held)
    either ino two (inr (inl rel)) = inr (inl rel)
    either ino two (inr (inr wants)) = treated ino wants (awaits ino wants two)

-- a request that waits
waits_free : (n : ℕ) (c : Client) (up : List ToServer) (s : Server) (a : Asked) (ino : Ino) → IsIt (open_request c.under) a.tid (request.Cap ino Write) → asks up ≡ 0 → 1 ≤ count n s.held → Lets c.conn c.under up → Frees c.files c.under
    → (is_writer ino c.files ≡ true) ⊎ ((list_any (is_release c.conn ino) up ≡ true) ⊎ ((wants_write ino c.under ≡ true) × IsTreated n up s)) → ⊥
waits_free n c up s a ino it none some lets frees known = by_under c.under it lets frees known
  where
    itself : is_ino ino ino ≡ true
    itself = grind (arith, nat_tests)

    by_under : (under : Under) → IsIt (open_request under) a.tid (request.Cap ino Write) → Lets c.conn under up → Frees c.files under
        → (is_writer ino c.files ≡ true) ⊎ ((list_any (is_release c.conn ino) up ≡ true) ⊎ ((wants_write ino under ≡ true) × IsTreated n up s)) → ⊥
    by_under Idle it lets frees known = it
    by_under (AtStore number entry file head) it lets frees known = it
    by_under (Open number tid text asked gone) it lets frees (inl writes) =
        let few : CapFree c.files gone (request.Cap ino Write) = subst (CapFree c.files gone) (sym it.1) frees.1 in let two = has_writer ino c.files writes in omega (arith, few, two)
    by_under (Open number tid text asked gone) it lets frees (inr (inl released)) = true≢false (sym itself ∙ ap (is_cap ino) it.1 ∙ (let_released c.conn asked gone ino up lets none released).1)
    by_under (Open number tid text asked gone) it lets frees (inr (inr treated)) = let zero_now = treated.1 in omega (arith, some, zero_now)

waits_unwritten : (T : ℕ → Ino → ℕ) (n : ℕ) (c : Client) (up : List ToServer) (down : List ToClient) (s : Server) → Knowing T n c up down s → number_of s.current n ≡ Some c.conn → AllUnwritten n s.holders s.held
waits_unwritten T n c up down s k number = by_held s.held (λ some. some) k.0.0.1.0.in_held
  where
    known : (ino : Ino) → list_any (writes_at n ino) s.holders ≡ true → (is_writer ino c.files ≡ true) ⊎ ((list_any (is_release c.conn ino) up ≡ true) ⊎ ((wants_write ino c.under ≡ true) × IsTreated n up s))
    known = subst (λ (o : Option ℕ). IfSome o (λ k. (ino : Ino) → list_any (writes_at n ino) s.holders ≡ true → (is_writer ino c.files ≡ true) ⊎ ((list_any (is_release k ino) up ≡ true) ⊎ ((wants_write ino c.under ≡ true) × IsTreated n up s)))) number
        (known_at n c up s (number_of s.current n) k.0.1.0.1.0.writers k.1)

    none_asked : 1 ≤ count n s.held → asks up ≡ 0
    none_asked some = let one : asks up + (count n (as_list s.hand) + count n s.held + count n s.deferred + count n (as_list s.operation)) + answers k.0.0.1.0.base (down ++ mail_of n s.mail) ≤ 1 = k.0.0.1.0.one in omega (arith, one, some)

    one : (a : Asked) (asked : Request) → a.request ≡ asked → 1 ≤ count n s.held → IsIt (open_request c.under) a.tid a.request → IsUnwritten n s.holders asked
    one a (request.Cap ino Write) is some it = by_test (list_any (writes_at n ino) s.holders) refl
      where
        by_test : (b : Bool) → list_any (writes_at n ino) s.holders ≡ b → b ≡ false
        by_test true any = absurd (waits_free n c up s a ino (subst (λ (r : Request). IsIt (open_request c.under) a.tid r) is it) (none_asked some) some k.0.1.0.1.0.lets k.0.1.0.1.0.frees (known ino any))
        by_test false any = refl
    one a (request.Cap ino Read) is some it = tt
    one a asked is some it = tt

    by_held : (list : List Asked) → (1 ≤ count n list → 1 ≤ count n s.held) → AllOf n (open_request c.under) list → AllUnwritten n s.holders list
    by_held [] some all = tt
    by_held (a ∷ list) some all = ((λ mine_a. one a a.request refl (some (rw mine_a (omega arith))) (all.0 mine_a)), by_held list (λ more. some (more_of (of_client n a) more)) all.1)
      where
        more_of : (b : Bool) → 1 ≤ count n list → 1 ≤ cond b (count n list + 1) (count n list)
        more_of true more = omega arith
        more_of false more = more

pub waits_law : (script : Script) (history : List Event) → EachClient WaitsUnwritten (world_after script history)
waits_law script history n = found (client w.clients n) (knowing_each w all.0 all.1 n)
  where
    w : World
    w = world_after script history

    all : Holds w × EachClient Awaiting w
    all = awaiting_run (start script) (steps_of history) (first script) (at_start Awaiting script (λ m is ino wants two. absurd (true≢false (sym wants))))

    found : (o : Option Client) → IfSome o (λ c. Knowing all.0.pairs.most n c (mine n w.up) (mine n w.down) w.server) → IfSome o (λ c. WaitsUnwritten n c (mine n w.up) (mine n w.down) w.server)
    found None k = tt
    found (Some c) k = waits_unwritten all.0.pairs.most n c (mine n w.up) (mine n w.down) w.server k

pub known_law : (script : Script) (history : List Event) → EachClient WriterIsKnown (world_after script history)
known_law script history n = found (client w.clients n) (knowing_each w all.0 all.1 n)
  where
    w : World
    w = world_after script history

    all : Holds w × EachClient Awaiting w
    all = awaiting_run (start script) (steps_of history) (first script) (at_start Awaiting script (λ m is ino wants two. absurd (true≢false (sym wants))))

    found : (o : Option Client) → IfSome o (λ c. Knowing all.0.pairs.most n c (mine n w.up) (mine n w.down) w.server) → IfSome o (λ c. WriterIsKnown n c (mine n w.up) (mine n w.down) w.server)
    found None k = tt
    found (Some c) k = known_at n c (mine n w.up) w.server (number_of w.server.current n) k.0.1.0.1.0.writers k.1

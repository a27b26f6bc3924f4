-- What is asked stands at one place, along each run.
use Rattle.std.proofs.Common.{◌≡◌, ◌<◌, ◌≤◌, ℕ, ◌+◌, List, [], ◌∷◌, ◌++◌, length, Bool, true, false, true≢false, not, cond, Option, None, Some, refl, sym, ap, ◌∙◌, subst, arith, ◌⊎◌, inl, inr}
use Rattle.std.proofs.lemmas.List.{append-nil}
use Rattle.std.proofs.lemmas.Bool.Decides.{nat_tests}
use Rattle.std.specs.Prelude.{◌==◌, ◌&&◌}
use Rattle.plain_types.specs.declared.history.Event.{Event}
use Rattle.plain_types.specs.declared.history.Step.{Step}
use Rattle.plain_types.specs.declared.message.Claim.{Claim}
use Rattle.plain_types.specs.declared.message.FlushMsg.{FlushMsg}
use Rattle.plain_types.specs.declared.message.Message.TheVariants as message
use Rattle.plain_types.specs.declared.message.ToClient.{ToClient}
use Rattle.plain_types.specs.declared.message.ToServer.{ToServer}
use Rattle.plain_types.specs.declared.message.ToServer.TheVariants.{Connect, Ask, Flush, DropRead, Purged, Deleted}
use Rattle.plain_types.specs.declared.request.Request.{Request}
use Rattle.plain_types.specs.declared.script.Script.{Script}
use Rattle.step_table.specs.Row.{Row}
use Rattle.step_table.specs.ServerState.{Asked, Server, number_of}
use Rattle.step_table.specs.Acts.{of_client, as_list, hand_out}
use Rattle.step_table.specs.Requests.{is_operation}
use Rattle.step_table.specs.Flushes.{asked_by, take_in, hand_for, connected, not_of}
use Rattle.step_table.specs.ServerRows.{left_with}
use Rattle.step_table.specs.ClientState.{Client, open_request, new_client}
use Rattle.step_table.specs.ClientLines.{on_op, on_flush}
use Rattle.step_table.specs.ClientTakes.{on_told, on_stored}
use Rattle.step_table.specs.World.{start, after, lines_of, to_server as for_server}
use Rattle.run_laws.specs.Moments.{steps_of, world_after}
use Rattle.run_laws.specs.Links.{View, EachClient, mail_of, Link, Offer, offer, Behind, Up, AllOld, highest}
use Rattle.run_laws.specs.Requests.{IsIt, AllAsked, asks, connects, AllOf, count, answer_to_tid, AllAnswered, answers, RequestedAt, Requested}
use Rattle.run_laws.proofs.Channels.{mail_split}
use Rattle.run_laws.proofs.Link.{Says, again, connect_of, flowing, now_flows, link_old, highest_most}
use Rattle.run_laws.proofs.Clients.{Renews, Keeps, Begins, Acts, ActsNow, Hidden, op_acts, flush_acts, store_hidden}
use Rattle.run_laws.proofs.Told.{ToldRow, IsAnswer, told_row}
use Rattle.run_laws.proofs.Linked.{hello, OpenLinked, linked, more_mail, if_row, at_start, first_link, each_part}
use Rattle.run_laws.proofs.Asked.{all_filter, count_less, answered_append, answered_front, answers_append, asked_none, none_asked, of_none, none_of, answered_none, none_answered, old_answered, asks_append, asked_append, answers_tail, none_above, shrink, requests_act, connects_append}
use Rattle.run_laws.proofs.Views.{Client's, Server's, run_keeps}
use Rattle.run_laws.proofs.ViewActs.{KeptViews, AnyOf, all_fit, rows_of_acts, accepted, both, given}

abbrev Sum : ℕ → Server → ℕ
Sum n s = count n (as_list s.hand) + count n s.held + count n s.deferred + count n (as_list s.operation)

-- a client with a channel to the server and one back
abbrev Now : ℕ → Client → List ToServer → List ToClient → Server → Type 0
Now n c up p s = RequestedAt n (open_request c.under) c.tid c.conn up p s.hand s.held s.deferred s.operation

-- numbers
says_none : (conn : ℕ) (up : List ToServer) → Says conn up → connects up ≡ 0
says_none conn [] says = refl
says_none conn (Ask number tid asked ∷ up) says = says_none conn up says.1
says_none conn (Flush number f ∷ up) says = says_none conn up says.1
says_none conn (DropRead number ino ∷ up) says = says_none conn up says.1
says_none conn (m ∷ up) says = absurd says

behind_number : (o : Offer) (k : ℕ) (up : List ToServer) → Behind o k up → k + connects up ≡ o.conn
behind_number o k [] is = omega (arith, is)
behind_number o k (Connect conn said flushes asked ∷ up) is = let rest = behind_number o (k + 1) up is.1 in omega (arith, rest)
behind_number o k (m ∷ up) is = absurd is

up_number : (o : Offer) (k : ℕ) (up : List ToServer) → Up o k up → k + connects up ≡ o.conn
up_number o k [] is = omega (arith, is)
up_number o k (Connect conn said flushes asked ∷ up) is = let rest = behind_number o (k + 1) up is.2 in omega (arith, rest)
up_number o k (Ask conn tid asked ∷ up) is = up_number o k up is.1
up_number o k (Flush conn f ∷ up) is = up_number o k up is.1
up_number o k (DropRead conn ino ∷ up) is = up_number o k up is.1
up_number o k (m ∷ up) is = absurd is

no_asks_behind : (o : Offer) (k : ℕ) (up : List ToServer) → Behind o k up → asks up ≡ 0
no_asks_behind o k [] is = refl
no_asks_behind o k (Connect conn said flushes asked ∷ up) is = no_asks_behind o (k + 1) up is.1
no_asks_behind o k (m ∷ up) is = absurd is

-- a row of the client that keeps what is open, with other messages before it
keep_row : (n : ℕ) (c : Client) (r : Row Client) (up : List ToServer) (p q : List ToClient) (s : Server) → r.state.conn ≡ c.conn → Keeps c r → AllAnswered c.conn (open_request c.under) q → ((b : ℕ) → answers b q ≤ answers b p) → Now n c up p s → Now n r.state (up ++ for_server r.sent) q s
keep_row n c r up p q s conn keep down less was = rw (keep.same, keep.tid, keep.conn) (record {
  base = was.base;
  number = let e = connects_append up (for_server r.sent) in let none = says_none c.conn (for_server r.sent) keep.says in let is = was.number in omega (arith, e, none, is);
  opened = was.opened;
  up = asked_append (open_request c.under) up (for_server r.sent) was.up (keep.sent (open_request c.under));
  in_hand = was.in_hand;
  in_held = was.in_held;
  in_deferred = was.in_deferred;
  in_operation = was.in_operation;
  down = down;
  one =
      let before : asks up + Sum n s + answers was.base p ≤ 1 = was.one in
      let sum = asks_append up (for_server r.sent) in let none = keep.none in let fewer = less was.base in
      omega (arith, before, sum, none, fewer);
})

-- one that says all again
renew_row : (n : ℕ) (c : Client) (r : Row Client) (up : List ToServer) (p q : List ToClient) (s : Server) → Renews c r → AllOld (c.conn + 1) q → ((b : ℕ) → answers b q ≤ answers b p) → Now n c up p s → Now n r.state (up ++ for_server r.sent) q s
renew_row n c r up p q s renew old less was = rw (same, renew.tid, conn, renew.sent) (record {
  base = was.base;
  number = let e = connects_append up (connect_of (again (offer c)) ∷ []) in let is = was.number in omega (arith, e, is);
  opened = was.opened;
  up = asked_append (open_request c.under) up (connect_of (again (offer c)) ∷ []) was.up tt;
  in_hand = was.in_hand;
  in_held = was.in_held;
  in_deferred = was.in_deferred;
  in_operation = was.in_operation;
  down = none_answered (c.conn + 1) (open_request c.under) q (old_answered (c.conn + 1) q old);
  one =
      let before : asks up + Sum n s + answers was.base p ≤ 1 = was.one in
      let sum = asks_append up (connect_of (again (offer c)) ∷ []) in let fewer = less was.base in
      omega (arith, before, sum, fewer);
})
  where
    same : open_request r.state.under ≡ open_request c.under
    same = ap (λ (o : Offer). o.asked) renew.state

    conn : r.state.conn ≡ c.conn + 1
    conn = ap (λ (o : Offer). o.conn) renew.state

-- one that changes nothing of it
hidden_row : (n : ℕ) (c : Client) (r : Row Client) (up : List ToServer) (p q : List ToClient) (s : Server) → Hidden c r → AllAnswered c.conn (open_request c.under) q → ((b : ℕ) → answers b q ≤ answers b p) → Now n c up p s → Now n r.state (up ++ for_server r.sent) q s
hidden_row n c r up p q s hidden down less was = rw (same, hidden.tid, conn, hidden.sent, append-nil up) (record {
  base = was.base;
  number = was.number;
  opened = was.opened;
  up = was.up;
  in_hand = was.in_hand;
  in_held = was.in_held;
  in_deferred = was.in_deferred;
  in_operation = was.in_operation;
  down = down;
  one = let before : asks up + Sum n s + answers was.base p ≤ 1 = was.one in let fewer = less was.base in omega (arith, before, fewer);
})
  where
    same : open_request r.state.under ≡ open_request c.under
    same = ap (λ (o : Offer). o.asked) hidden.state

    conn : r.state.conn ≡ c.conn
    conn = ap (λ (o : Offer). o.conn) hidden.state

-- nothing is anywhere
pub record Nothing (n b : ℕ) (up : List ToServer) (q : List ToClient) (s : Server) : Type 0 where
  pub asked : asks up ≡ 0
  pub hand : count n (as_list s.hand) ≡ 0
  pub held : count n s.held ≡ 0
  pub deferred : count n s.deferred ≡ 0
  pub operation : count n (as_list s.operation) ≡ 0
  pub answered : answers b q ≡ 0

-- a row that opens or closes a request, where the client's connection is the server's
begin_row : (n : ℕ) (c : Client) (r : Row Client) (up : List ToServer) (q : List ToClient) (s : Server) → Begins c r → connects up ≡ 0 → Nothing n c.conn up q s → Now n r.state (up ++ for_server r.sent) q s
begin_row n c r up q s begin none nothing = rw begin.conn (record {
  base = c.conn;
  number = let e = connects_append up (for_server r.sent) in let no = says_none c.conn (for_server r.sent) begin.says in omega (arith, e, none, no);
  opened = begin.opens;
  up = asked_append (open_request r.state.under) up (for_server r.sent) (none_asked (open_request r.state.under) up nothing.asked) begin.sent;
  in_hand = none_of n _ (as_list s.hand) nothing.hand;
  in_held = none_of n _ s.held nothing.held;
  in_deferred = none_of n _ s.deferred nothing.deferred;
  in_operation = none_of n _ (as_list s.operation) nothing.operation;
  down = none_answered c.conn (open_request r.state.under) q nothing.answered;
  one =
      let few = begin.few in let sum = asks_append up (for_server r.sent) in
      let e1 = nothing.asked in let e2 = nothing.hand in let e3 = nothing.held in let e4 = nothing.deferred in let e5 = nothing.operation in let e6 = nothing.answered in
      omega (arith, few, sum, e1, e2, e3, e4, e5, e6);
})

pub none_open : (n : ℕ) (c : Client) (up : List ToServer) (p : List ToClient) (s : Server) → open_request c.under ≡ None → Now n c up p s → Nothing n c.conn up p s
none_open n c up p s none r = record {
  asked = asked_none up (subst (λ (o : Option (ℕ × Request)). AllAsked o up) none r.up);
  hand = of_none n (as_list s.hand) (subst (λ (o : Option (ℕ × Request)). AllOf n o (as_list s.hand)) none r.in_hand);
  held = of_none n s.held (subst (λ (o : Option (ℕ × Request)). AllOf n o s.held) none r.in_held);
  deferred = of_none n s.deferred (subst (λ (o : Option (ℕ × Request)). AllOf n o s.deferred) none r.in_deferred);
  operation = of_none n (as_list s.operation) (subst (λ (o : Option (ℕ × Request)). AllOf n o (as_list s.operation)) none r.in_operation);
  answered = answered_none c.conn p (subst (λ (o : Option (ℕ × Request)). AllAnswered c.conn o p) none r.down);
}

-- where the link flows no Connect is on the way
pub flows_none : (o : Offer) (up : List ToServer) (k : Option ℕ) (p : List ToClient) (link : Link o up k p) → link.base ≡ o.conn → connects up ≡ 0
flows_none o up k p link is = let e = up_number o link.base up link.up in omega (arith, e, is)

own_row : (n : ℕ) (c : Client) (up : List ToServer) (down : List ToClient) (s : Server) (r : Row Client) → ActsNow c r → OpenLinked n c up down s → Requested n c up down s → Client's Requested n up down s r
own_row n c up down s r acts link was = by_kind acts.1
  where
    by_kind : Acts c r → Client's Requested n up down s r
    by_kind (inl begin) = begin_row n c r up (down ++ mail_of n s.mail) s begin.1
        (flows_none (offer c) up (number_of s.current n) (down ++ mail_of n s.mail) link.1 (flowing (offer c) up (number_of s.current n) (down ++ mail_of n s.mail) acts.0 link.1).base)
        (none_open n c up (down ++ mail_of n s.mail) s begin.0 was)
    by_kind (inr (inl keep)) = keep_row n c r up (down ++ mail_of n s.mail) (down ++ mail_of n s.mail) s keep.conn keep was.down (λ b. omega arith) was
    by_kind (inr (inr renew)) = renew_row n c r up (down ++ mail_of n s.mail) (down ++ mail_of n s.mail) s renew (link_old (offer c) up (number_of s.current n) (down ++ mail_of n s.mail) link.1) (λ b. omega arith) was

-- an answer was the one
pub answered_all : (n : ℕ) (c : Client) (up : List ToServer) (m : ToClient) (p : List ToClient) (s : Server) → IsAnswer c m → connects up ≡ 0 → Now n c up (m ∷ p) s → Nothing n c.conn up p s
answered_all n c up m p s is none was = record {
  asked = omega (arith, all);
  hand = omega (arith, all);
  held = omega (arith, all);
  deferred = omega (arith, all);
  operation = omega (arith, all);
  answered = omega (arith, all);
}
  where
    base : was.base ≡ c.conn
    base = let e = was.number in omega (arith, e, none)

    all : asks up + (count n (as_list s.hand) + count n s.held + count n s.deferred + count n (as_list s.operation)) + (answers c.conn p + 1) ≤ 1
    all = subst (λ (k : ℕ). asks up + (count n (as_list s.hand) + count n s.held + count n s.deferred + count n (as_list s.operation)) + k ≤ 1) (is (answers c.conn p))
        (subst (λ (b : ℕ). asks up + (count n (as_list s.hand) + count n s.held + count n s.deferred + count n (as_list s.operation)) + answers b (m ∷ p) ≤ 1) base was.one)

told_requests : (n : ℕ) (c : Client) (up : List ToServer) (m : ToClient) (p : List ToClient) (s : Server) (r : Row Client) → ToldRow c m r → Link (offer c) up (number_of s.current n) (m ∷ p) → Now n c up (m ∷ p) s → Now n r.state (up ++ for_server r.sent) p s
told_requests n c up m p s r (inl here) link was = by_row here.1
  where
    none : connects up ≡ 0
    none = flows_none (offer c) up (number_of s.current n) (m ∷ p) link (now_flows (offer c) up (number_of s.current n) m p here.0 link).base

    by_row : (Begins c r × IsAnswer c m) ⊎ Keeps c r → Now n r.state (up ++ for_server r.sent) p s
    by_row (inl begin) = begin_row n c r up p s begin.0 none (answered_all n c up m p s begin.1 none was)
    by_row (inr keep) = keep_row n c r up (m ∷ p) p s keep.conn keep was.down.1 (λ b. answers_tail b m p) was
told_requests n c up m p s r (inr (inl renew)) link was = renew_row n c r up (m ∷ p) p s renew.1 (link_old (offer c) up (number_of s.current n) (m ∷ p) link).1 (λ b. answers_tail b m p) was
told_requests n c up m p s r (inr (inr (inl hail))) link was = keep_row n c r up (m ∷ p) p s hail.1.conn hail.1 was.down.1 (λ b. answers_tail b m p) was
told_requests n c up m p s r (inr (inr (inr skip))) link was = hidden_row n c r up (m ∷ p) p s skip.1 was.down.1 (λ b. answers_tail b m p) was

-- the server takes a request
count_itself : (n : ℕ) (a : Asked) → count n (a ∷ []) ≤ 1
count_itself n a = by_test (of_client n a)
  where
    by_test : (b : Bool) → cond b (0 + 1) 0 ≤ 1
    by_test true = omega arith
    by_test false = omega arith

hand_one : (n : ℕ) (o : Option (ℕ × Request)) (b : Bool) (a : Asked) → IsIt o a.tid a.request → AllOf n o (as_list (cond b None (Some a))) × (count n (as_list (cond b None (Some a))) ≤ 1)
hand_one n o true a it = (tt, omega arith)
hand_one n o false a it = (((λ _. it), tt), count_itself n a)

not_mine : (n : ℕ) (o : Option (ℕ × Request)) (b : Bool) (a : Asked) → of_client n a ≡ false → AllOf n o (as_list (cond b None (Some a))) × (count n (as_list (cond b None (Some a))) ≡ 0)
not_mine n o true a other = (tt, refl)
not_mine n o false a other = (((λ is. absurd (true≢false (sym is ∙ other))), tt), rw other refl)

asks_own : (n : ℕ) (c : Client) (conn tid : ℕ) (asked : Request) (up : List ToServer) (down : List ToClient) (s : Server) → Requested n c (Ask conn tid asked ∷ up) down s → Requested n c up down (take_in s (asked_by n tid asked))
asks_own n c conn tid asked up down s was =
    let hand = hand_one n (open_request c.under) (is_operation s (asked_by n tid asked)) (asked_by n tid asked) was.up.0 in
    record {
      base = was.base;
      number = was.number;
      opened = was.opened;
      up = was.up.1;
      in_hand = hand.0;
      in_held = was.in_held;
      in_deferred = was.in_deferred;
      in_operation = was.in_operation;
      down = was.down;
      one = let before : (asks up + 1) + Sum n s + answers was.base (down ++ mail_of n s.mail) ≤ 1 = was.one in let few = hand.1 in omega (arith, before, few);
    }

asks_other : (n x : ℕ) (c : Client) (tid : ℕ) (asked : Request) (up : List ToServer) (down : List ToClient) (s : Server) → (x == n) ≡ false → Requested n c up down s → Requested n c up down (take_in s (asked_by x tid asked))
asks_other n x c tid asked up down s other was =
    let hand = not_mine n (open_request c.under) (is_operation s (asked_by x tid asked)) (asked_by x tid asked) other in
    record {
      base = was.base;
      number = was.number;
      opened = was.opened;
      up = was.up;
      in_hand = hand.0;
      in_held = was.in_held;
      in_deferred = was.in_deferred;
      in_operation = was.in_operation;
      down = was.down;
      one = let before : asks up + Sum n s + answers was.base (down ++ mail_of n s.mail) ≤ 1 = was.one in let none = hand.1 in omega (arith, before, none);
    }

-- the server takes something else
above_base : (o : Offer) (up : List ToServer) (k : Option ℕ) (p : List ToClient) (link : Link o up k p) (b : ℕ) → link.base < b → answers b p ≡ 0
above_base o up k p link b less = none_above 0 (highest link.base k) b p (let most = highest_most link.base k link.known in omega (arith, most, less)) link.order

same_row : (n : ℕ) (c : Client) (m : ToServer) (up : List ToServer) (down : List ToClient) (s : Server) → connects (m ∷ up) ≡ connects up → asks (m ∷ up) ≡ asks up → AllAsked (open_request c.under) up → Requested n c (m ∷ up) down s → Requested n c up down s
same_row n c m up down s same_connects same_asks all was = record {
  base = was.base;
  number = let is = was.number in omega (arith, is, same_connects);
  opened = was.opened;
  up = all;
  in_hand = was.in_hand;
  in_held = was.in_held;
  in_deferred = was.in_deferred;
  in_operation = was.in_operation;
  down = was.down;
  one = let before : asks (m ∷ up) + Sum n s + answers was.base (down ++ mail_of n s.mail) ≤ 1 = was.one in omega (arith, before, same_asks);
}

pops : (n : ℕ) (c : Client) (m : ToServer) (up : List ToServer) (down : List ToClient) (s : Server) → Link (offer c) (m ∷ up) (number_of s.current n) (down ++ mail_of n s.mail) → Requested n c (m ∷ up) down s → Requested n c up down s
pops n c (Connect conn said flushes asked) up down s link was = record {
  base = was.base + 1;
  number = let is = was.number in omega (arith, is);
  opened = was.opened;
  up = was.up;
  in_hand = was.in_hand;
  in_held = was.in_held;
  in_deferred = was.in_deferred;
  in_operation = was.in_operation;
  down = was.down;
  one =
      let before : asks up + Sum n s + answers was.base (down ++ mail_of n s.mail) ≤ 1 = was.one in
      let none = above_base (offer c) (Connect conn said flushes asked ∷ up) (number_of s.current n) (down ++ mail_of n s.mail) link (was.base + 1) low in
      omega (arith, before, none);
}
  where
    low : link.base < was.base + 1
    low = let is = was.number in let e = up_number (offer c) link.base (Connect conn said flushes asked ∷ up) link.up in omega (arith, is, e)
pops n c (Ask conn tid asked) up down s link was = record {
  base = was.base;
  number = was.number;
  opened = was.opened;
  up = was.up.1;
  in_hand = was.in_hand;
  in_held = was.in_held;
  in_deferred = was.in_deferred;
  in_operation = was.in_operation;
  down = was.down;
  one = let before : (asks up + 1) + Sum n s + answers was.base (down ++ mail_of n s.mail) ≤ 1 = was.one in omega (arith, before);
}
pops n c (Flush conn f) up down s link was = same_row n c (Flush conn f) up down s refl refl was.up was
pops n c (DropRead conn ino) up down s link was = same_row n c (DropRead conn ino) up down s refl refl was.up was
pops n c (Purged id) up down s link was = same_row n c (Purged id) up down s refl refl was.up was
pops n c (Deleted ino) up down s link was = same_row n c (Deleted ino) up down s refl refl was.up was

hands : (n : ℕ) (c : Client) (up : List ToServer) (down : List ToClient) (s : Server) → Requested n c up down s → Server's Requested n c up down (hand_out s)
hands n c up down s was =
    let now = shrink n (open_request c.under) c.tid c.conn up (down ++ mail_of n s.mail) s.hand None s.held s.held s.deferred s.deferred s.operation s.operation tt was.in_held was.in_deferred was.in_operation (omega arith) was in
    subst (λ (p : List ToClient). RequestedAt n (open_request c.under) c.tid c.conn up p None s.held s.deferred s.operation) (mail_split n s.durable down s.mail) now

survives : (n : ℕ) (c : Client) (up : List ToServer) (down : List ToClient) (s : Server) (k : ℕ) → Requested n c up down s → Requested n c up down (left_with s (s.durable + k))
survives n c up down s k was = rw (append-nil down) (record {
  base = was.base;
  number = was.number;
  opened = was.opened;
  up = was.up;
  in_hand = tt;
  in_held = tt;
  in_deferred = tt;
  in_operation = tt;
  down = answered_front c.conn (open_request c.under) down (mail_of n s.mail) was.down;
  one =
      let before : asks up + Sum n s + answers was.base (down ++ mail_of n s.mail) ≤ 1 = was.one in
      let sum = answers_append was.base down (mail_of n s.mail) in omega (arith, before, sum);
})

-- a Connect
gone : (n : ℕ) (xs : List Asked) → count n (not_of n xs) ≡ 0
gone n [] = refl
gone n (a ∷ xs) = by_test (of_client n a) refl (gone n xs)
  where
    by_test : (b : Bool) → of_client n a ≡ b → count n (not_of n xs) ≡ 0 → count n (cond (not b) (a ∷ not_of n xs) (not_of n xs)) ≡ 0
    by_test true is rest = rest
    by_test false is rest = rw is rest

-- its request is in the hand or outstanding, and not both
again_one : (n : ℕ) (o : Option (ℕ × Request)) (s : Server) (r : ℕ × Request) → Some r ≡ o → AllOf n o (as_list s.operation) → AllOf n o (as_list (hand_for s (asked_by n r.0 r.1))) × (count n (as_list (hand_for s (asked_by n r.0 r.1))) + count n (as_list s.operation) ≤ 1)
again_one n o s r is all = by_operation s.operation all
  where
    it : IsIt o r.0 r.1
    it = subst (λ (x : Option (ℕ × Request)). IsIt x r.0 r.1) is (refl, refl)

    by_operation : (t : Option Asked) → AllOf n o (as_list t) → (let h = cond (elim t [ None ↦ false | Some x ↦ x.client == n && x.tid == r.0 ]) None (Some (asked_by n r.0 r.1)) in AllOf n o (as_list h) × (count n (as_list h) + count n (as_list t) ≤ 1))
    by_operation None all = (((λ _. it), tt), let less = count_itself n (asked_by n r.0 r.1) in omega (arith, less))
    by_operation (Some t) all = by_test (t.client == n) refl (t.tid == r.0) refl
      where
        by_test : (b : Bool) → (t.client == n) ≡ b → (e : Bool) → (t.tid == r.0) ≡ e → (let h = cond (b && e) None (Some (asked_by n r.0 r.1)) in AllOf n o (as_list h) × (count n (as_list h) + count n (t ∷ []) ≤ 1))
        by_test true is true same = (tt, let less = count_itself n t in omega (arith, less))
        by_test true mine_it false differs = absurd (true≢false (sym same ∙ differs))
          where
            tid : IsIt (Some r) t.tid t.request
            tid = subst (λ (x : Option (ℕ × Request)). IsIt x t.tid t.request) (sym is) (all.0 mine_it)

            same : (t.tid == r.0) ≡ true
            same = let e = tid.0 in grind (arith, nat_tests, e)
        by_test false other e test = (((λ _. it), tt), let less = count_itself n (asked_by n r.0 r.1) in rw other (omega (arith, less)))

-- with this in the hand
abbrev Accepted : ℕ → Client → List ToServer → List ToClient → Server → Option Asked → Type 0
Accepted n c up p s h = RequestedAt n (open_request c.under) c.tid c.conn up p h (not_of n s.held) (not_of n s.deferred) s.operation

accept_whole : (n : ℕ) (c : Client) (conn : ℕ) (said : List Claim) (flushes : List FlushMsg) (asked : Option (ℕ × Request)) (up : List ToServer) (p : List ToClient) (s : Server) (h : Option Asked) (m : ToClient) → answer_to_tid m ≡ None
    → AllOf n (open_request c.under) (as_list h) → (count n (as_list h) + count n (as_list s.operation) ≤ 1)
    → Link (offer c) (Connect conn said flushes asked ∷ up) (number_of s.current n) p → Now n c (Connect conn said flushes asked ∷ up) p s → Accepted n c up (p ++ m ∷ []) s h
accept_whole n c conn said flushes asked up p s h m none all few link was = record {
  base = was.base + 1;
  number = let is = was.number in omega (arith, is);
  opened = was.opened;
  up = was.up;
  in_hand = all;
  in_held = all_filter n (open_request c.under) (λ a. not (of_client n a)) s.held was.in_held;
  in_deferred = all_filter n (open_request c.under) (λ a. not (of_client n a)) s.deferred was.in_deferred;
  in_operation = was.in_operation;
  down = answered_append c.conn (open_request c.under) p (m ∷ []) was.down (rw none tt, tt);
  one =
      let e1 = no_asks_behind (offer c) (link.base + 1) up link.up.2 in
      let e2 = gone n s.held in let e3 = gone n s.deferred in
      let e4 = above_base (offer c) (Connect conn said flushes asked ∷ up) (number_of s.current n) p link (was.base + 1) low in
      let e5 : answers (was.base + 1) (p ++ m ∷ []) ≡ answers (was.base + 1) p + 0 = answers_append (was.base + 1) p (m ∷ []) ∙ ap (λ (k : ℕ). answers (was.base + 1) p + k) (nothing (was.base + 1)) in
      omega (arith, e1, e2, e3, e4, e5, few);
}
  where
    low : link.base < was.base + 1
    low = let is = was.number in let e = up_number (offer c) link.base (Connect conn said flushes asked ∷ up) link.up in omega (arith, is, e)

    nothing : (b : ℕ) → answers b (m ∷ []) ≡ 0
    nothing b = rw none refl

accepts : (n : ℕ) (c : Client) (conn : ℕ) (said : List Claim) (flushes : List FlushMsg) (asked : Option (ℕ × Request)) (up : List ToServer) (down : List ToClient) (s : Server) → Link (offer c) (Connect conn said flushes asked ∷ up) (number_of s.current n) (down ++ mail_of n s.mail) → Requested n c (Connect conn said flushes asked ∷ up) down s → Requested n c up down (accepted s n conn asked)
accepts n c conn said flushes asked up down s link was = by_asked asked link.up.1.asked
  where
    itself : (n == n) ≡ true
    itself = grind (arith, nat_tests)

    whole : (h : Option Asked) → AllOf n (open_request c.under) (as_list h) → (count n (as_list h) + count n (as_list s.operation) ≤ 1) → Accepted n c up (down ++ mail_of n (s.mail ++ (length s.entries, record { to = n; message = message.ToClient (hello (connected s n conn) n conn) }) ∷ [])) s h
    whole h all few = more_mail (λ (p : List ToClient). Accepted n c up p s h) n down s.mail (length s.entries, record { to = n; message = message.ToClient (hello (connected s n conn) n conn) })
        (rw itself (accept_whole n c conn said flushes asked up (down ++ mail_of n s.mail) s h (hello (connected s n conn) n conn) refl all few link was))

    none : open_request c.under ≡ None → (l : List Asked) → AllOf n (open_request c.under) l → count n l ≡ 0
    none is l all = of_none n l (subst (λ (o : Option (ℕ × Request)). AllOf n o l) is all)

    by_asked : (o : Option (ℕ × Request)) → o ≡ open_request c.under → Requested n c up down (accepted s n conn o)
    by_asked None is = whole s.hand was.in_hand (let e1 = none (sym is) (as_list s.hand) was.in_hand in let e2 = none (sym is) (as_list s.operation) was.in_operation in omega (arith, e1, e2))
    by_asked (Some r) is = let both_of = again_one n (open_request c.under) s r is was.in_operation in whole (hand_for s (asked_by n r.0 r.1)) both_of.0 both_of.1

accepts_other : (n x : ℕ) (c : Client) (conn : ℕ) (asked : Option (ℕ × Request)) (up : List ToServer) (down : List ToClient) (s : Server) → (x == n) ≡ false → Requested n c up down s → Requested n c up down (accepted s x conn asked)
accepts_other n x c conn asked up down s other was = by_asked asked
  where
    Of : Option Asked → List ToClient → Type 0
    Of h p = RequestedAt n (open_request c.under) c.tid c.conn up p h (not_of x s.held) (not_of x s.deferred) s.operation

    now : (h : Option Asked) → AllOf n (open_request c.under) (as_list h) → (count n (as_list h) ≤ count n (as_list s.hand)) → Of h (down ++ mail_of n s.mail)
    now h all few = record {
      base = was.base;
      number = was.number;
      opened = was.opened;
      up = was.up;
      in_hand = all;
      in_held = all_filter n (open_request c.under) (λ a. not (of_client x a)) s.held was.in_held;
      in_deferred = all_filter n (open_request c.under) (λ a. not (of_client x a)) s.deferred was.in_deferred;
      in_operation = was.in_operation;
      down = was.down;
      one =
          let before : asks up + Sum n s + answers was.base (down ++ mail_of n s.mail) ≤ 1 = was.one in
          let less = count_less n (λ a. not (of_client x a)) s.held in let fewer = count_less n (λ a. not (of_client x a)) s.deferred in
          omega (arith, before, few, less, fewer);
    }

    whole : (h : Option Asked) → AllOf n (open_request c.under) (as_list h) → (count n (as_list h) ≤ count n (as_list s.hand)) → Of h (down ++ mail_of n (s.mail ++ (length s.entries, record { to = x; message = message.ToClient (hello (connected s x conn) x conn) }) ∷ []))
    whole h all few = more_mail (Of h) n down s.mail (length s.entries, record { to = x; message = message.ToClient (hello (connected s x conn) x conn) })
        (rw other (subst (Of h) (sym (append-nil (down ++ mail_of n s.mail))) (now h all few)))

    by_asked : (o : Option (ℕ × Request)) → Requested n c up down (accepted s x conn o)
    by_asked None = whole s.hand was.in_hand (omega arith)
    by_asked (Some r) = let both_of = not_mine n (open_request c.under) (is_operation s (asked_by x r.0 r.1)) (asked_by x r.0 r.1) other in whole (hand_for s (asked_by x r.0 r.1)) both_of.0 (let none = both_of.1 in omega (arith, none))

-- links and requests
abbrev pub Asking : View
Asking n c up down s = OpenLinked n c up down s × Requested n c up down s

pub requested : KeptViews AnyOf Asking Requested
requested = record {
  op = λ n c up down s all. if_row (on_op c) (ActsNow c) (Client's Requested n up down s) (λ r acts. own_row n c up down s r acts all.0 all.1) (op_acts c c.lines all.1.opened);
  flush = λ n c up down s all. if_row (on_flush c) (λ r. (c.frozen ≡ false) × Keeps c r) (Client's Requested n up down s) (λ r acts. own_row n c up down s r (acts.0, inr (inl acts.1)) all.0 all.1) (flush_acts c);
  told = λ n c up m down s all. told_requests n c up m (down ++ mail_of n s.mail) s (on_told c m) (told_row c m all.1.opened) all.0.1 all.1;
  stored = λ n c m up down s all. hidden_row n c (on_stored c m) up (down ++ mail_of n s.mail) (down ++ mail_of n s.mail) s (store_hidden c m) all.1.down (λ b. omega arith) all.1;
  one = λ n c up down s a fit all. requests_act n c up down s a all.1;
  pops = λ n c m up down s all. pops n c m up down s all.0.1 all.1;
  accepts = λ n c conn said flushes asked up down s all. accepts n c conn said flushes asked up down s all.0.1 all.1;
  accepts_other = λ n x c conn asked up down s other all. accepts_other n x c conn asked up down s other all.1;
  asks = λ n c conn tid asked up down s is all. asks_own n c conn tid asked up down s all.1;
  asks_other = λ n x c tid asked up down s other all. asks_other n x c tid asked up down s other all.1;
  hands = λ n c up down s all. hands n c up down s all.1;
  durable = λ n c up down s all. all.1;
  survives = λ n c up down s k fits all. survives n c up down s k all.1;
}

pub asking : KeptViews AnyOf Asking Asking
asking = both (given (λ n c up down s all. all.0) (λ n c s a fit. fit) linked) requested

pub first_requested : (n : ℕ) (c : Client) (s : Server) → c.conn ≡ 1 → open_request c.under ≡ None → s.mail ≡ [] → s.hand ≡ None → s.held ≡ [] → s.deferred ≡ [] → s.operation ≡ None → Requested n c [] [] s
first_requested n c s conn none mail hand held deferred operation = rw (none, mail, hand, held, deferred, operation) (record {
  base = 1;
  number = omega (arith, conn);
  opened = tt;
  up = tt;
  in_hand = tt;
  in_held = tt;
  in_deferred = tt;
  in_operation = tt;
  down = tt;
  one = omega arith;
})

pub requests_hold : (script : Script) (steps : List Step) → EachClient Asking (after (start script) steps)
requests_hold script steps = run_keeps Asking (rows_of_acts Asking asking (all_fit Asking)) (start script) steps
    (at_start Asking script (λ n is. (
      (tt, first_link (new_client n (script.clients + 1) (lines_of n script.lines)) _ refl is),
      first_requested n (new_client n (script.clients + 1) (lines_of n script.lines)) (start script).server refl refl refl refl refl refl refl,
    )))

pub requests_law : (script : Script) (history : List Event) → EachClient Requested (world_after script history)
requests_law script history = each_part Asking Requested (world_after script history) (λ n c up down s all. all.1) (requests_hold script (steps_of history))

-- What is asked stands at one place: lists, and the server's acts.
use Rattle.std.proofs.Common.{◌≡◌, ◌<◌, ◌≤◌, ℕ, ◌+◌, List, [], ◌∷◌, ◌++◌, drop, length, Bool, true, false, true≢false, not, cond, filter, Option, None, Some, refl, sym, ap, ◌∙◌, subst, arith}
use Rattle.std.proofs.lemmas.List.{append-nil}
use Rattle.std.proofs.lemmas.Bool.Decides.{nat_tests}
use Rattle.std.specs.Prelude.{◌==◌}
use Rattle.plain_types.specs.declared.entry.Entry.{Entry}
use Rattle.plain_types.specs.declared.entry.What.{What}
use Rattle.plain_types.specs.declared.message.Message.TheVariants as message
use Rattle.plain_types.specs.declared.message.ToClient.{ToClient}
use Rattle.plain_types.specs.declared.message.ToClient.TheVariants.{Reply, Grant, Recall, Notice, FlushAck, Welcome, Restarted}
use Rattle.plain_types.specs.declared.message.ToServer.{ToServer}
use Rattle.plain_types.specs.declared.message.ToServer.TheVariants.{Connect, Ask}
use Rattle.plain_types.specs.declared.message.ToStore.{ToStore}
use Rattle.plain_types.specs.declared.message.ToStore.TheVariants.{Purge, Delete}
use Rattle.plain_types.specs.declared.request.Request.{Request}
use Rattle.plain_journal.specs.Coverage.{context}
use Rattle.step_table.specs.ServerState.{Asked, Server, Told, Answered, Granted, WantedBack, Changed, Acked, message_of, tell, tell_at, send_client, send_store, number_of, up_to, stamp}
use Rattle.step_table.specs.Acts.{Act, TellRecall, TellAck, TellRestart, AnswerIt, GrantIt, MakeEffect, Prepare, Wait, Defer, DeferFirst, TakeHeld, TakeDeferred, TakeOperation, Buffer, SendPurge, SendDelete, act, of_client, as_list, first_of, answer_hand, grant_hand, effect_hand, buffer_for, written_down, prepare_hand, entry_for, buffer}
use Rattle.step_table.specs.ClientState.{Client, open_request}
use Rattle.step_table.specs.ClientTakes.{conn_of}
use Rattle.run_laws.specs.Links.{mail_of, AllOld, Ordered, OrderedAt}
use Rattle.run_laws.specs.Requests.{IsIt, IsTid, AllAsked, asks, connects, AllOf, count, answer_to_tid, AnsweredAt, AllAnswered, answer_at, answers, RequestedAt, Requested}
use Rattle.run_laws.proofs.Acts.{notices_keep}
use Rattle.run_laws.proofs.Link.{ordered_low}
use Rattle.run_laws.proofs.Linked.{more_mail}

-- requests at the server
pub all_append : (n : ℕ) (o : Option (ℕ × Request)) (xs ys : List Asked) → AllOf n o xs → AllOf n o ys → AllOf n o (xs ++ ys)
all_append n o [] ys all then = then
all_append n o (a ∷ xs) ys all then = (all.0, all_append n o xs ys all.1 then)

pub count_append : (n : ℕ) (xs ys : List Asked) → count n (xs ++ ys) ≡ count n xs + count n ys
count_append n [] ys = omega arith
count_append n (a ∷ xs) ys = by_test (of_client n a) (count_append n xs ys)
  where
    by_test : (b : Bool) → count n (xs ++ ys) ≡ count n xs + count n ys → cond b (count n (xs ++ ys) + 1) (count n (xs ++ ys)) ≡ cond b (count n xs + 1) (count n xs) + count n ys
    by_test true e = omega (arith, e)
    by_test false e = e

pub all_filter : (n : ℕ) (o : Option (ℕ × Request)) (p : Asked → Bool) (xs : List Asked) → AllOf n o xs → AllOf n o (filter p xs)
all_filter n o p [] all = tt
all_filter n o p (a ∷ xs) all = by_test (p a) (all_filter n o p xs all.1)
  where
    by_test : (b : Bool) → AllOf n o (filter p xs) → AllOf n o (cond b (a ∷ filter p xs) (filter p xs))
    by_test true rest = (all.0, rest)
    by_test false rest = rest

pub all_first : (n : ℕ) (o : Option (ℕ × Request)) (xs : List Asked) → AllOf n o xs → AllOf n o (as_list (first_of xs))
all_first n o [] all = tt
all_first n o (a ∷ xs) all = (all.0, tt)

pub all_drop : (n : ℕ) (o : Option (ℕ × Request)) (xs : List Asked) → AllOf n o xs → AllOf n o (drop 1 xs)
all_drop n o [] all = tt
all_drop n o (a ∷ xs) all = all.1

pub count_drop : (n : ℕ) (xs : List Asked) → count n (as_list (first_of xs)) + count n (drop 1 xs) ≤ count n xs
count_drop n [] = omega arith
count_drop n (a ∷ xs) = by_test (of_client n a)
  where
    by_test : (b : Bool) → cond b (0 + 1) 0 + count n xs ≤ cond b (count n xs + 1) (count n xs)
    by_test true = omega arith
    by_test false = omega arith

pub count_less : (n : ℕ) (q : Asked → Bool) (ys : List Asked) → count n (filter q ys) ≤ count n ys
count_less n q [] = omega arith
count_less n q (a ∷ ys) = two (q a) (of_client n a) refl (count_less n q ys)
  where
    two : (b t : Bool) → of_client n a ≡ t → count n (filter q ys) ≤ count n ys → count n (cond b (a ∷ filter q ys) (filter q ys)) ≤ cond t (count n ys + 1) (count n ys)
    two true true is less = rw is (omega (arith, less))
    two true false is less = rw is less
    two false true is less = omega (arith, less)
    two false false is less = less

count_first : (n : ℕ) (p : Asked → Bool) (xs : List Asked) → count n (as_list (first_of (filter p xs))) + count n (filter (λ a. not (p a)) xs) ≤ count n xs
count_first n p [] = omega arith
count_first n p (a ∷ xs) = by_test (p a) (of_client n a) refl (count_first n p xs) (count_less n (λ a. not (p a)) xs)
  where
    by_test : (b t : Bool) → of_client n a ≡ t → count n (as_list (first_of (filter p xs))) + count n (filter (λ a. not (p a)) xs) ≤ count n xs → count n (filter (λ a. not (p a)) xs) ≤ count n xs → count n (as_list (first_of (cond b (a ∷ filter p xs) (filter p xs)))) + count n (cond (not b) (a ∷ filter (λ a. not (p a)) xs) (filter (λ a. not (p a)) xs)) ≤ cond t (count n xs + 1) (count n xs)
    by_test true true is rest less = rw is (omega (arith, less))
    by_test true false is rest less = rw is (omega (arith, less))
    by_test false true is rest less = rw is (omega (arith, rest))
    by_test false false is rest less = rw is rest

-- answers on the way
pub answered_append : (conn : ℕ) (o : Option (ℕ × Request)) (p q : List ToClient) → AllAnswered conn o p → AllAnswered conn o q → AllAnswered conn o (p ++ q)
answered_append conn o [] q all then = then
answered_append conn o (m ∷ p) q all then = (all.0, answered_append conn o p q all.1 then)

pub answered_front : (conn : ℕ) (o : Option (ℕ × Request)) (p q : List ToClient) → AllAnswered conn o (p ++ q) → AllAnswered conn o p
answered_front conn o [] q all = tt
answered_front conn o (m ∷ p) q all = (all.0, answered_front conn o p q all.1)

pub answers_append : (conn : ℕ) (p q : List ToClient) → answers conn (p ++ q) ≡ answers conn p + answers conn q
answers_append conn [] q = omega arith
answers_append conn (m ∷ p) q = one (answer_to_tid m) (answers_append conn p q)
  where
    one : (a : Option (ℕ × ℕ)) → answers conn (p ++ q) ≡ answers conn p + answers conn q → answer_at conn a (answers conn (p ++ q)) ≡ answer_at conn a (answers conn p) + answers conn q
    one None e = e
    one (Some a) e = by_test (a.0 == conn)
      where
        by_test : (b : Bool) → cond b (answers conn (p ++ q) + 1) (answers conn (p ++ q)) ≡ cond b (answers conn p + 1) (answers conn p) + answers conn q
        by_test true = omega (arith, e)
        by_test false = e

-- lists: nothing is open, so nothing is anywhere; and the other way
pub asked_none : (up : List ToServer) → AllAsked None up → asks up ≡ 0
asked_none [] all = refl
asked_none (Ask conn tid request ∷ up) all = absurd all.0
asked_none (m ∷ up) all = asked_none up all

pub none_asked : (o : Option (ℕ × Request)) (up : List ToServer) → asks up ≡ 0 → AllAsked o up
none_asked o [] none = tt
none_asked o (Ask conn tid request ∷ up) none = absurd (omega (arith, none))
none_asked o (m ∷ up) none = none_asked o up none

pub of_none : (n : ℕ) (list : List Asked) → AllOf n None list → count n list ≡ 0
of_none n [] all = refl
of_none n (a ∷ list) all = by_test (of_client n a) refl (of_none n list all.1)
  where
    by_test : (b : Bool) → of_client n a ≡ b → count n list ≡ 0 → cond b (count n list + 1) (count n list) ≡ 0
    by_test true is rest = absurd (all.0 is)
    by_test false is rest = rest

pub none_of : (n : ℕ) (o : Option (ℕ × Request)) (list : List Asked) → count n list ≡ 0 → AllOf n o list
none_of n o [] none = tt
none_of n o (a ∷ list) none = by_test (of_client n a) refl none (none_of n o list)
  where
    by_test : (b : Bool) → of_client n a ≡ b → cond b (count n list + 1) (count n list) ≡ 0 → (count n list ≡ 0 → AllOf n o list) → (of_client n a ≡ true → IsIt o a.tid a.request) × AllOf n o list
    by_test true is zero go = absurd (omega (arith, zero))
    by_test false is zero go = (λ yes_it. absurd (true≢false (sym yes_it ∙ is)), go zero)

pub answered_none : (conn : ℕ) (p : List ToClient) → AllAnswered conn None p → answers conn p ≡ 0
answered_none conn [] all = refl
answered_none conn (m ∷ p) all = one (answer_to_tid m) all.0 (answered_none conn p all.1)
  where
    one : (a : Option (ℕ × ℕ)) → AnsweredAt conn None a → answers conn p ≡ 0 → answer_at conn a (answers conn p) ≡ 0
    one None is rest = rest
    one (Some a) is rest = by_test (a.0 == conn) refl
      where
        by_test : (b : Bool) → (a.0 == conn) ≡ b → cond b (answers conn p + 1) (answers conn p) ≡ 0
        by_test true test = absurd (is test)
        by_test false test = rest

pub none_answered : (conn : ℕ) (o : Option (ℕ × Request)) (p : List ToClient) → answers conn p ≡ 0 → AllAnswered conn o p
none_answered conn o [] none = tt
none_answered conn o (m ∷ p) none = one (answer_to_tid m) none (none_answered conn o p)
  where
    one : (a : Option (ℕ × ℕ)) → answer_at conn a (answers conn p) ≡ 0 → (answers conn p ≡ 0 → AllAnswered conn o p) → AnsweredAt conn o a × AllAnswered conn o p
    one None zero go = (tt, go zero)
    one (Some a) zero go = by_test (a.0 == conn) refl zero
      where
        by_test : (b : Bool) → (a.0 == conn) ≡ b → cond b (answers conn p + 1) (answers conn p) ≡ 0 → AnsweredAt conn o (Some a) × AllAnswered conn o p
        by_test true test zero = absurd (omega (arith, zero))
        by_test false test zero = (λ yes_it. absurd (true≢false (sym yes_it ∙ test)), go zero)

pub old_answered : (conn : ℕ) (p : List ToClient) → AllOld conn p → answers conn p ≡ 0
old_answered conn [] old = refl
old_answered conn (Reply j tid stamp answer ∷ p) old = let less = old.0 in let rest = old_answered conn p old.1 in rw (below j less) rest
  where
    below : (j : ℕ) → j < conn → (j == conn) ≡ false
    below j less = grind (arith, nat_tests, less)
old_answered conn (Grant j tid stamp ino mode size file ∷ p) old = let less = old.0 in let rest = old_answered conn p old.1 in rw (below j less) rest
  where
    below : (j : ℕ) → j < conn → (j == conn) ≡ false
    below j less = grind (arith, nat_tests, less)
old_answered conn (m ∷ p) old = old_answered conn p old.1

pub asks_append : (up more : List ToServer) → asks (up ++ more) ≡ asks up + asks more
asks_append [] more = omega arith
asks_append (Ask conn tid request ∷ up) more = let rest = asks_append up more in omega (arith, rest)
asks_append (m ∷ up) more = asks_append up more

pub asked_append : (o : Option (ℕ × Request)) (up more : List ToServer) → AllAsked o up → AllAsked o more → AllAsked o (up ++ more)
asked_append o [] more all then = then
asked_append o (Ask conn tid request ∷ up) more all then = (all.0, asked_append o up more all.1 then)
asked_append o (m ∷ up) more all then = asked_append o up more all then

pub answers_tail : (conn : ℕ) (m : ToClient) (p : List ToClient) → answers conn p ≤ answers conn (m ∷ p)
answers_tail conn m p = one (answer_to_tid m)
  where
    one : (a : Option (ℕ × ℕ)) → answers conn p ≤ answer_at conn a (answers conn p)
    one None = omega arith
    one (Some a) = by_test (a.0 == conn)
      where
        by_test : (b : Bool) → answers conn p ≤ cond b (answers conn p + 1) (answers conn p)
        by_test true = omega arith
        by_test false = omega arith

-- no message has a number above the highest
pub none_above : (low high b : ℕ) (p : List ToClient) → high < b → Ordered low high p → answers b p ≡ 0
none_above low high b [] above order = refl
none_above low high b (m ∷ p) above order = by_message m (λ next order. none_above next high b p above order) (λ next order. ordered_low next high p order) order
  where
    differs : (n : ℕ) → n ≤ high → (n == b) ≡ false
    differs n most = grind (arith, nat_tests, most, above)

    by_message : (x : ToClient) → ((next : ℕ) → Ordered next high p → answers b p ≡ 0) → ((next : ℕ) → Ordered next high p → next ≤ high) → OrderedAt low (conn_of x) (λ next. Ordered next high p) → answer_at b (answer_to_tid x) (answers b p) ≡ 0
    by_message (Reply conn tid st said) go most order = rw (differs conn (most conn order.1)) (go conn order.1)
    by_message (Grant conn tid st ino mode size file) go most order = rw (differs conn (most conn order.1)) (go conn order.1)
    by_message (Recall conn st ino) go most order = go conn order.1
    by_message (Notice conn st update) go most order = go conn order.1
    by_message (FlushAck conn st number) go most order = go conn order.1
    by_message (Welcome conn st last update) go most order = go conn order.1
    by_message (Restarted st) go most order = go low order

-- requests move between the places, or go
pub shrink : (n : ℕ) (o : Option (ℕ × Request)) (tid conn : ℕ) (q : List ToServer) (p : List ToClient) (i i' : Option Asked) (h h' d d' : List Asked) (t t' : Option Asked)
    → AllOf n o (as_list i') → AllOf n o h' → AllOf n o d' → AllOf n o (as_list t') → count n (as_list i') + count n h' + count n d' + count n (as_list t') ≤ count n (as_list i) + count n h + count n d + count n (as_list t)
    → RequestedAt n o tid conn q p i h d t → RequestedAt n o tid conn q p i' h' d' t'
shrink n o tid conn q p i i' h h' d d' t t' hand held deferred operation less r = record {
  base = r.base;
  number = r.number;
  opened = r.opened;
  up = r.up;
  in_hand = hand;
  in_held = held;
  in_deferred = deferred;
  in_operation = operation;
  down = r.down;
  one = let was : asks q + (count n (as_list i) + count n h + count n d + count n (as_list t)) + answers r.base p ≤ 1 = r.one in omega (arith, was, less);
}

-- a message that is no answer
add_quiet : (n : ℕ) (o : Option (ℕ × Request)) (tid conn : ℕ) (q : List ToServer) (p : List ToClient) (i : Option Asked) (h d : List Asked) (t : Option Asked) (m : ToClient) → answer_to_tid m ≡ None → RequestedAt n o tid conn q p i h d t → RequestedAt n o tid conn q (p ++ m ∷ []) i h d t
add_quiet n o tid conn q p i h d t m none r = record {
  base = r.base;
  number = r.number;
  opened = r.opened;
  up = r.up;
  in_hand = r.in_hand;
  in_held = r.in_held;
  in_deferred = r.in_deferred;
  in_operation = r.in_operation;
  down = answered_append conn o p (m ∷ []) r.down (rw none tt, tt);
  one =
      let was : asks q + (count n (as_list i) + count n h + count n d + count n (as_list t)) + answers r.base p ≤ 1 = r.one in
      let more : answers r.base (p ++ m ∷ []) ≡ answers r.base p + 0 = answers_append r.base p (m ∷ []) ∙ ap (λ (k : ℕ). answers r.base p + k) (same r.base) in
      omega (arith, was, more);
}
  where
    same : (b : ℕ) → answers b (m ∷ []) ≡ 0
    same b = rw none refl

-- the answer of the request in hand
add_answer : (n : ℕ) (o : Option (ℕ × Request)) (tid conn : ℕ) (q : List ToServer) (p : List ToClient) (a : Asked) (h d : List Asked) (t : Option Asked) (m : ToClient) (j : ℕ) → answer_to_tid m ≡ Some (j, a.tid) → of_client n a ≡ true → RequestedAt n o tid conn q p (Some a) h d t → RequestedAt n o tid conn q (p ++ m ∷ []) None h d t
add_answer n o tid conn q p a h d t m j is mine_it r = record {
  base = r.base;
  number = r.number;
  opened = r.opened;
  up = r.up;
  in_hand = tt;
  in_held = r.in_held;
  in_deferred = r.in_deferred;
  in_operation = r.in_operation;
  down = answered_append conn o p (m ∷ []) r.down (rw is (λ same. right o (r.in_hand.0 mine_it)), tt);
  one =
      let was : asks q + (count n (a ∷ []) + count n h + count n d + count n (as_list t)) + answers r.base p ≤ 1 = r.one in
      let more : answers r.base (p ++ m ∷ []) ≡ answers r.base p + answers r.base (m ∷ []) = answers_append r.base p (m ∷ []) in
      let few = fewer r.base in
      omega (arith, was, more, few, in_hand);
}
  where
    right : (r : Option (ℕ × Request)) → IsIt r a.tid a.request → IsTid r a.tid
    right None it = it
    right (Some r) it = it.0

    by_test : (b : Bool) → cond b (0 + 1) 0 ≤ 1
    by_test true = omega arith
    by_test false = omega arith

    fewer : (b : ℕ) → answers b (m ∷ []) ≤ 1
    fewer b = rw is (by_test (j == b))

    in_hand : count n (a ∷ []) ≡ 1
    in_hand = rw mine_it (omega arith)

-- of the server
pub sent_requests : (n : ℕ) (c : Client) (up : List ToServer) (down : List ToClient) (s : Server) (x : ℕ) (m : ToClient) → answer_to_tid m ≡ None → Requested n c up down s → Requested n c up down (send_client s x m)
sent_requests n c up down s x m none r = more_mail (λ (p : List ToClient). RequestedAt n (open_request c.under) c.tid c.conn up p s.hand s.held s.deferred s.operation) n down s.mail (length s.entries, record { to = x; message = message.ToClient m }) (by_test (x == n))
  where
    Now : List ToClient → Type 0
    Now p = RequestedAt n (open_request c.under) c.tid c.conn up p s.hand s.held s.deferred s.operation

    by_test : (b : Bool) → Now ((down ++ mail_of n s.mail) ++ cond b (m ∷ []) [])
    by_test true = add_quiet n (open_request c.under) c.tid c.conn up (down ++ mail_of n s.mail) s.hand s.held s.deferred s.operation m none r
    by_test false = subst Now (sym (append-nil (down ++ mail_of n s.mail))) r

ordered_requests : (n : ℕ) (c : Client) (up : List ToServer) (down : List ToClient) (s : Server) (order : ToStore) → Requested n c up down s → Requested n c up down (send_store s order)
ordered_requests n c up down s order r = more_mail (λ (p : List ToClient). RequestedAt n (open_request c.under) c.tid c.conn up p s.hand s.held s.deferred s.operation) n down s.mail (length s.entries, record { to = s.clients + 1; message = message.ToStore order })
    (subst (λ (p : List ToClient). RequestedAt n (open_request c.under) c.tid c.conn up p s.hand s.held s.deferred s.operation) (sym (append-nil (down ++ mail_of n s.mail))) r)

-- what is no answer
abbrev IsQuiet : Server → Told → Type 0
IsQuiet s told = (j : ℕ) → answer_to_tid (message_of s j told) ≡ None

tell_requests : (n : ℕ) (c : Client) (up : List ToServer) (down : List ToClient) (s : Server) (x : ℕ) (told : Told) → IsQuiet s told → Requested n c up down s → Requested n c up down (tell s x told)
tell_requests n c up down s x told quiet r = by_number (number_of s.current x)
  where
    by_number : (o : Option ℕ) → Requested n c up down (tell_at s x told o)
    by_number None = r
    by_number (Some j) = sent_requests n c up down s x (message_of s j told) (quiet j) r

answer_requests : (n : ℕ) (c : Client) (up : List ToServer) (down : List ToClient) (s : Server) (a : Asked) (told : Told) → ((j : ℕ) → answer_to_tid (message_of (record s { hand = None }) j told) ≡ Some (j, a.tid)) → RequestedAt n (open_request c.under) c.tid c.conn up (down ++ mail_of n s.mail) (Some a) s.held s.deferred s.operation → Requested n c up down (tell (record s { hand = None }) a.client told)
answer_requests n c up down s a told is r = by_number (number_of s.current a.client)
  where
    Now : List ToClient → Type 0
    Now p = RequestedAt n (open_request c.under) c.tid c.conn up p None s.held s.deferred s.operation

    gone : Now (down ++ mail_of n s.mail)
    gone = shrink n (open_request c.under) c.tid c.conn up (down ++ mail_of n s.mail) (Some a) None s.held s.held s.deferred s.deferred s.operation s.operation tt r.in_held r.in_deferred r.in_operation (omega arith) r

    by_test : (j : ℕ) (b : Bool) → of_client n a ≡ b → Now ((down ++ mail_of n s.mail) ++ cond b (message_of (record s { hand = None }) j told ∷ []) [])
    by_test j true test = add_answer n (open_request c.under) c.tid c.conn up (down ++ mail_of n s.mail) a s.held s.deferred s.operation _ j (is j) test r
    by_test j false test = subst Now (sym (append-nil (down ++ mail_of n s.mail))) gone

    by_number : (o : Option ℕ) → Requested n c up down (tell_at (record s { hand = None }) a.client told o)
    by_number None = gone
    by_number (Some j) = more_mail (λ (p : List ToClient). RequestedAt n (open_request c.under) c.tid c.conn up p None s.held s.deferred s.operation) n down s.mail (length s.entries, record { to = a.client; message = message.ToClient (message_of (record s { hand = None }) j told) }) (by_test j (of_client n a) refl)

buffers : (n : ℕ) (c : Client) (up : List ToServer) (down : List ToClient) (s : Server) (entry : Entry) → Requested n c up down s → Requested n c up down (buffer s entry)
buffers n c up down s entry r = notices_keep (Requested n c up down) (λ t x inos so. tell_requests n c up down t x (Changed inos) (λ j. refl) so) s.entries (up_to s.clients) (record s { entries = s.entries ++ entry ∷ [] }) r

pub requests_act : (n : ℕ) (c : Client) (up : List ToServer) (down : List ToClient) (s : Server) (a : Act) → Requested n c up down s → Requested n c up down (act s a)
requests_act n c up down s (TellRecall x ino) r = tell_requests n c up down s x (WantedBack ino) (λ j. refl) r
requests_act n c up down s (TellAck x number) r = tell_requests n c up down s x (Acked number) (λ j. refl) r
requests_act n c up down s (TellRestart x) r = sent_requests n c up down s x (Restarted (stamp s)) refl r
requests_act n c up down s (AnswerIt said) r = by_hand s.hand r
  where
    by_hand : (o : Option Asked) → RequestedAt n (open_request c.under) c.tid c.conn up (down ++ mail_of n s.mail) o s.held s.deferred s.operation → Requested n c up down (answer_hand s said o)
    by_hand None now = r
    by_hand (Some a) now = answer_requests n c up down s a (Answered a.tid said) (λ j. refl) now
requests_act n c up down s (GrantIt ino mode) r = by_hand s.hand r
  where
    by_hand : (o : Option Asked) → RequestedAt n (open_request c.under) c.tid c.conn up (down ++ mail_of n s.mail) o s.held s.deferred s.operation → Requested n c up down (grant_hand s ino mode o)
    by_hand None now = r
    by_hand (Some a) now = answer_requests n c up down s a (Granted a.tid ino mode) (λ j. refl) now
requests_act n c up down s (Buffer entry) r = buffers n c up down s entry r
requests_act n c up down s (MakeEffect change) r = by_hand s.hand
  where
    by_said : (a : Asked) (o : Option What) → Requested n c up down (buffer_for s a o)
    by_said a None = r
    by_said a (Some said) = buffers n c up down s (entry_for a said) r

    by_hand : (o : Option Asked) → Requested n c up down (effect_hand s change o)
    by_hand None = r
    by_hand (Some a) = by_said a (written_down change)
requests_act n c up down s (Prepare said) r = by_hand s.hand r
  where
    by_hand : (o : Option Asked) → RequestedAt n (open_request c.under) c.tid c.conn up (down ++ mail_of n s.mail) o s.held s.deferred s.operation → Requested n c up down (prepare_hand s said o)
    by_hand None now = r
    by_hand (Some a) now = buffers n c up down (record s { operation = Some a; hand = None }) (entry_for a said)
        (shrink n _ _ _ up (down ++ mail_of n s.mail) (Some a) None s.held s.held s.deferred s.deferred s.operation (Some a) tt now.in_held now.in_deferred now.in_hand (omega arith) now)
requests_act n c up down s Wait r = shrink n _ _ _ up (down ++ mail_of n s.mail) s.hand None s.held (s.held ++ as_list s.hand) s.deferred s.deferred s.operation s.operation tt (all_append n _ s.held (as_list s.hand) r.in_held r.in_hand) r.in_deferred r.in_operation (let e = count_append n s.held (as_list s.hand) in omega (arith, e)) r
requests_act n c up down s (TakeHeld x) r = shrink n _ _ _ up (down ++ mail_of n s.mail) s.hand (first_of (filter (of_client x) s.held)) s.held (filter (λ a. not (of_client x a)) s.held) s.deferred s.deferred s.operation s.operation
    (all_first n _ (filter (of_client x) s.held) (all_filter n _ (of_client x) s.held r.in_held)) (all_filter n _ (λ a. not (of_client x a)) s.held r.in_held) r.in_deferred r.in_operation (let e = count_first n (of_client x) s.held in omega (arith, e)) r
requests_act n c up down s Defer r = shrink n _ _ _ up (down ++ mail_of n s.mail) s.hand None s.held s.held s.deferred (s.deferred ++ as_list s.hand) s.operation s.operation tt r.in_held (all_append n _ s.deferred (as_list s.hand) r.in_deferred r.in_hand) r.in_operation (let e = count_append n s.deferred (as_list s.hand) in omega (arith, e)) r
requests_act n c up down s DeferFirst r = shrink n _ _ _ up (down ++ mail_of n s.mail) s.hand None s.held s.held s.deferred (as_list s.hand ++ s.deferred) s.operation s.operation tt r.in_held (all_append n _ (as_list s.hand) s.deferred r.in_hand r.in_deferred) r.in_operation (let e = count_append n (as_list s.hand) s.deferred in omega (arith, e)) r
requests_act n c up down s TakeDeferred r = shrink n _ _ _ up (down ++ mail_of n s.mail) s.hand (first_of s.deferred) s.held s.held s.deferred (drop 1 s.deferred) s.operation s.operation (all_first n _ s.deferred r.in_deferred) r.in_held (all_drop n _ s.deferred r.in_deferred) r.in_operation (let e = count_drop n s.deferred in omega (arith, e)) r
requests_act n c up down s TakeOperation r = shrink n _ _ _ up (down ++ mail_of n s.mail) s.hand s.operation s.held s.held s.deferred s.deferred s.operation None r.in_operation r.in_held r.in_deferred tt (omega arith) r
requests_act n c up down s (SendPurge id) r = ordered_requests n c up down (record s { purging = s.purging ++ id ∷ [] }) (Purge id) r
requests_act n c up down s (SendDelete ino) r = ordered_requests n c up down (record s { deleting = s.deleting ++ ino ∷ [] }) (Delete ino (context s.entries ino)) r
requests_act n c up down s a r = r

-- Connects
pub connects_append : (up more : List ToServer) → connects (up ++ more) ≡ connects up + connects more
connects_append [] more = omega arith
connects_append (Connect conn said flushes asked ∷ up) more = let rest = connects_append up more in omega (arith, rest)
connects_append (m ∷ up) more = connects_append up more

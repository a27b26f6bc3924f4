-- An effect that isn't durable is of the open request, along each run: what answers the request counts all its effects.
use Rattle.std.proofs.Common.{◌≡◌, ◌≤◌, ℕ, ◌+◌, List, [], ◌∷◌, ◌++◌, length, length-append, take, drop, Bool, true, false, true≢false, cond, Option, None, Some, refl, sym, ap, ◌∙◌, subst, IfSome, arith, ◌⊎◌, inl, inr}
use Rattle.std.proofs.lemmas.List.{append-nil, take-append-drop, drop-append-le, drop_all, length-take-le}
use Rattle.std.proofs.lemmas.Bool.Decides.{nat_tests}
use Rattle.std.specs.Prelude.{◌==◌, ◌&&◌, nat_le, is_some}
use Rattle.std.specs.List.{cons_option}
use Rattle.plain_types.specs.declared.answer.Answer.{Answer}
use Rattle.plain_types.specs.declared.change.Change.{Change}
use Rattle.plain_types.specs.declared.entry.Entry.{Entry}
use Rattle.plain_types.specs.declared.entry.What.{What}
use Rattle.plain_types.specs.declared.history.Event.{Event}
use Rattle.plain_types.specs.declared.history.Sent.{Sent}
use Rattle.plain_types.specs.declared.history.Step.{Step}
use Rattle.plain_types.specs.declared.message.Message.{Message}
use Rattle.plain_types.specs.declared.message.Message.TheVariants as message
use Rattle.plain_types.specs.declared.message.ToClient.{ToClient}
use Rattle.plain_types.specs.declared.message.ToClient.TheVariants.{Restarted}
use Rattle.plain_types.specs.declared.message.ToServer.{ToServer}
use Rattle.plain_types.specs.declared.message.ToStore.{ToStore}
use Rattle.plain_types.specs.declared.message.ToStore.TheVariants.{Purge, Delete}
use Rattle.plain_types.specs.declared.request.Request.{Request}
use Rattle.plain_types.specs.declared.script.Script.{Script}
use Rattle.snap_ids.specs.declared.id.Ino.{Ino}
use Rattle.snap_ids.specs.declared.values.Mode.{Mode}
use Rattle.plain_journal.specs.Coverage.{context}
use Rattle.plain_journal.specs.Entries.{change_in}
use Rattle.step_table.specs.Row.{Row}
use Rattle.step_table.specs.ServerState.{Asked, Server, Told, Answered, Granted, WantedBack, Changed, Acked, message_of, tell, tell_at, send_client, send_store, number_of, up_to, stamp, welcome}
use Rattle.step_table.specs.Acts.{Act, TellRecall, TellAck, TellRestart, AnswerIt, GrantIt, MakeEffect, Prepare, Buffer, SendPurge, SendDelete, act, of_client, as_list, answer_hand, grant_hand, effect_hand, buffer_for, written_down, prepare_hand, entry_for, buffer, goes, waits}
use Rattle.step_table.specs.Flushes.{connected}
use Rattle.step_table.specs.ClientState.{Client, open_request, new_client}
use Rattle.step_table.specs.ClientLines.{on_op, on_flush}
use Rattle.step_table.specs.ClientTakes.{on_told, on_stored}
use Rattle.step_table.specs.World.{start, after, lines_of, to_clients, told_to}
use Rattle.run_laws.specs.Moments.{steps_of, world_after}
use Rattle.run_laws.specs.Links.{View, EachClient, mine, mail_of, Link, Offer, offer, Flowing, Asking as AsksAnew, Hailing}
use Rattle.run_laws.specs.Requests.{IsIt, IsTid, AllOf, count, is_of, AllAbove, Rising, connects, answer_to_tid, answer_at, answers, RequestedAt}
use Rattle.run_laws.specs.Stamps.{told_by, entry_of}
use Rattle.run_laws.specs.Answered.{NotAbove, AllOpen, effects_of, Undurable}
use Rattle.run_laws.proofs.Acts.{notices_keep}
use Rattle.run_laws.proofs.Asked.{old_answered}
use Rattle.run_laws.proofs.Channels.{mail_split}
use Rattle.run_laws.proofs.Clients.{Renews, Keeps, Begins, Acts, ActsNow, op_acts, flush_acts, store_hidden}
use Rattle.run_laws.proofs.Effects.{EffectFits}
use Rattle.run_laws.proofs.Growing.{room}
use Rattle.run_laws.proofs.Link.{now_flows, link_old}
use Rattle.run_laws.proofs.Linked.{hello, in_hand, if_row, at_start, each_part, more_mail}
use Rattle.run_laws.proofs.Moves.{KeptByMoves, act_keeps}
use Rattle.run_laws.proofs.Once.{FitsFor, Whole, all_hold as whole_holds}
use Rattle.run_laws.proofs.Operations.{All as Known, all_kept, all_rules, first_all}
use Rattle.run_laws.proofs.Requested.{Asking, none_open, flows_none, answered_all}
use Rattle.run_laws.proofs.Strangers.{NoneOf}
use Rattle.run_laws.proofs.Told.{ToldRow, IsAnswer, told_row}
use Rattle.run_laws.proofs.Views.{Client's, run_keeps}
use Rattle.run_laws.proofs.ViewActs.{KeptViews, RulesFit, rows_of_acts, accepted, both, given}

-- messages that are all of a kind
abbrev pub AllThat : (ToClient → Type 0) → List ToClient → Type 0
AllThat Q [] = Unit {0}
AllThat Q (m ∷ p) = Q m × AllThat Q p

pub that_append : (Q : ToClient → Type 0) (p q : List ToClient) → AllThat Q p → AllThat Q q → AllThat Q (p ++ q)
that_append Q [] q all more = more
that_append Q (m ∷ p) q all more = (all.0, that_append Q p q all.1 more)

pub that_front : (Q : ToClient → Type 0) (p q : List ToClient) → AllThat Q (p ++ q) → AllThat Q p
that_front Q [] q all = tt
that_front Q (m ∷ p) q all = (all.0, that_front Q p q all.1)

pub that_weaker : (Q R : ToClient → Type 0) → ((m : ToClient) → Q m → R m) → (p : List ToClient) → AllThat Q p → AllThat R p
that_weaker Q R go [] all = tt
that_weaker Q R go (m ∷ p) all = (go m all.0, that_weaker Q R go p all.1)

pub that_quiet : (conn : ℕ) (Q : ToClient → Type 0) → ((m : ToClient) → answer_at conn (answer_to_tid m) 0 ≡ 0 → Q m) → (p : List ToClient) → answers conn p ≡ 0 → AllThat Q p
that_quiet conn Q quiet [] none = tt
that_quiet conn Q quiet (m ∷ p) none = (quiet m (first (answer_to_tid m) none), that_quiet conn Q quiet p (rest (answer_to_tid m) none))
  where
    first : (a : Option (ℕ × ℕ)) → answer_at conn a (answers conn p) ≡ 0 → answer_at conn a 0 ≡ 0
    first None is = refl
    first (Some a) is = by_test (a.0 == conn) is
      where
        by_test : (b : Bool) → cond b (answers conn p + 1) (answers conn p) ≡ 0 → cond b (0 + 1) 0 ≡ 0
        by_test true is = absurd (omega (arith, is))
        by_test false is = refl

    rest : (a : Option (ℕ × ℕ)) → answer_at conn a (answers conn p) ≡ 0 → answers conn p ≡ 0
    rest None is = is
    rest (Some a) is = by_test (a.0 == conn) is
      where
        by_test : (b : Bool) → cond b (answers conn p + 1) (answers conn p) ≡ 0 → answers conn p ≡ 0
        by_test true is = absurd (omega (arith, is))
        by_test false is = is

-- What is sent is stamped with entries that are durable, and what waits with its number of entries.
abbrev AllMade : List (ℕ × Sent) → Type 0
AllMade [] = Unit {0}
AllMade (m ∷ mail) = IfSome (told_by m.1.message) (λ told. entry_of told ≡ m.0) × AllMade mail

made_end : (mail : List (ℕ × Sent)) (m : ℕ × Sent) → IfSome (told_by m.1.message) (λ told. entry_of told ≡ m.0) → AllMade mail → AllMade (mail ++ m ∷ [])
made_end [] m made all = (made, tt)
made_end (x ∷ mail) m made all = (all.0, made_end mail m made all.1)

made_waits : (d : ℕ) (mail : List (ℕ × Sent)) → AllMade mail → AllMade (waits d mail)
made_waits d [] all = tt
made_waits d (m ∷ mail) all = by_test (nat_le m.0 d) (made_waits d mail all.1)
  where
    by_test : (b : Bool) → AllMade (waits d mail) → AllMade (cond b (waits d mail) (m ∷ mail))
    by_test true rest = rest
    by_test false rest = all

made_goes : (n d : ℕ) (mail : List (ℕ × Sent)) → AllMade mail → AllThat (λ m. entry_of m ≤ d) (mine n (to_clients (goes d mail)))
made_goes n d [] all = tt
made_goes n d (m ∷ mail) all = by_test (nat_le m.0 d) refl (made_goes n d mail all.1)
  where
    one : (to : ℕ) (x : Message) → IfSome (told_by x) (λ told. entry_of told ≡ m.0) → m.0 ≤ d → AllThat (λ m. entry_of m ≤ d) (mine n (to_clients (goes d mail))) → AllThat (λ m. entry_of m ≤ d) (mine n (cons_option (told_to to x) (to_clients (goes d mail))))
    one to (message.ToClient told) made less rest = by_number (to == n)
      where
        by_number : (b : Bool) → AllThat (λ m. entry_of m ≤ d) (cond b (told ∷ mine n (to_clients (goes d mail))) (mine n (to_clients (goes d mail))))
        by_number true = (omega (arith, made, less), rest)
        by_number false = rest
    one to x made less rest = rest

    by_test : (b : Bool) → nat_le m.0 d ≡ b → AllThat (λ m. entry_of m ≤ d) (mine n (to_clients (goes d mail))) → AllThat (λ m. entry_of m ≤ d) (mine n (to_clients (cond b (m.1 ∷ goes d mail) [])))
    by_test true test rest = one m.1.to m.1.message all.0 (grind (arith, nat_tests, test)) rest
    by_test false test rest = tt

pub record SentAt (entries : List Entry) (durable : ℕ) (p : List ToClient) (post : List (ℕ × Sent)) : Type 0 where
  pub fits : durable ≤ length entries
  pub low : AllThat (λ m. entry_of m ≤ durable) p
  pub made : AllMade post

abbrev pub SentLow : View
SentLow n c up down s = SentAt s.entries s.durable down s.mail

one_sent : (down : List ToClient) (s : Server) (sent : Sent) → IfSome (told_by sent.message) (λ told. entry_of told ≡ length s.entries) → SentAt s.entries s.durable down s.mail → SentAt s.entries s.durable down (s.mail ++ (length s.entries, sent) ∷ [])
one_sent down s sent made was = record { fits = was.fits; low = was.low; made = made_end s.mail (length s.entries, sent) made was.made }

stamped : (s : Server) (conn : ℕ) (told : Told) → entry_of (message_of s conn told) ≡ length s.entries
stamped s conn (Answered tid answer) = refl
stamped s conn (Granted tid ino mode) = refl
stamped s conn (WantedBack ino) = refl
stamped s conn (Changed inos) = refl
stamped s conn (Acked number) = refl

tell_sent : (down : List ToClient) (s : Server) (x : ℕ) (told : Told) → SentAt s.entries s.durable down s.mail → (let t = tell s x told in SentAt t.entries t.durable down t.mail)
tell_sent down s x told was = by_number (number_of s.current x)
  where
    by_number : (o : Option ℕ) → (let t = tell_at s x told o in SentAt t.entries t.durable down t.mail)
    by_number None = was
    by_number (Some conn) = one_sent down s (record { to = x; message = message.ToClient (message_of s conn told) }) (stamped s conn told) was

sent_moves : (down : List ToClient) → KeptByMoves (λ entries durable mail current. SentAt entries durable down mail)
sent_moves down = record {
  tells = λ s x told was. tell_sent down s x told was;
  restarts = λ s x was. one_sent down s (record { to = x; message = message.ToClient (Restarted (stamp s)) }) refl was;
  stores = λ s order was. one_sent down s (record { to = s.clients + 1; message = message.ToStore order }) tt was;
  enters = λ s e was. record { fits = let fits = was.fits in grind (arith, fits, length-append); low = was.low; made = was.made };
}

any_row : {X : Type 0} (o : Option X) (P : X → Type 0) → ((x : X) → P x) → IfSome o P
any_row None P go = tt
any_row (Some x) P go = go x

lower : (d e : ℕ) (p : List ToClient) → d ≤ e → AllThat (λ m. entry_of m ≤ d) p → AllThat (λ m. entry_of m ≤ e) p
lower d e p less all = that_weaker (λ m. entry_of m ≤ d) (λ m. entry_of m ≤ e) (λ m low. omega (arith, low, less)) p all

sent_low : {A : View} {F : ℕ → Client → Server → Act → Type 0} → ((n : ℕ) (c : Client) (up : List ToServer) (down : List ToClient) (s : Server) → A n c up down s → SentLow n c up down s) → KeptViews F A SentLow
sent_low {A} of = record {
  op = λ n c up down s all. any_row (on_op c) (Client's SentLow n up down s) (λ r. of n c up down s all);
  flush = λ n c up down s all. any_row (on_flush c) (Client's SentLow n up down s) (λ r. of n c up down s all);
  told = λ n c up m down s all. let was = of n c up (m ∷ down) s all in record { fits = was.fits; low = was.low.1; made = was.made };
  stored = λ n c m up down s all. of n c up down s all;
  one = λ n c up down s a fit all. act_keeps (sent_moves down) s a (of n c up down s all);
  pops = λ n c m up down s all. of n c (m ∷ up) down s all;
  accepts = λ n c conn said flushes asked up down s all. in_hand (λ (t : Server). SentAt t.entries t.durable down t.mail) (λ t hand so. so) (welcome (connected s n conn) n conn) n asked (one_sent down (connected s n conn) (record { to = n; message = message.ToClient (hello (connected s n conn) n conn) }) refl (of n c _ down s all));
  accepts_other = λ n x c conn asked up down s other all. in_hand (λ (t : Server). SentAt t.entries t.durable down t.mail) (λ t hand so. so) (welcome (connected s x conn) x conn) x asked (one_sent down (connected s x conn) (record { to = x; message = message.ToClient (hello (connected s x conn) x conn) }) refl (of n c up down s all));
  asks = λ n c conn tid asked up down s is all. of n c _ down s all;
  asks_other = λ n x c tid asked up down s other all. of n c up down s all;
  hands = λ n c up down s all. let was = of n c up down s all in record { fits = was.fits; low = that_append (λ m. entry_of m ≤ s.durable) down (mine n (to_clients (goes s.durable s.mail))) was.low (made_goes n s.durable s.mail was.made); made = made_waits s.durable s.mail was.made };
  durable = λ n c up down s all. let was = of n c up down s all in record { fits = omega arith; low = lower s.durable (length s.entries) down was.fits was.low; made = was.made };
  survives = λ n c up down s k fits all. let was = of n c up down s all in record { fits = let long = length-take-le (s.durable + k) s.entries (room k s fits was.fits) in omega (arith, long); low = lower s.durable (s.durable + k) down (omega arith) was.low; made = tt };
}

-- A kind of messages, over the entries: what is no answer of a connection is of it, and it stays where the entries get one
-- that is no effect of the client.
pub record Carried (n conn : ℕ) (Q : List Entry → ToClient → Type 0) : Type 0 where
  pub quiet : (entries : List Entry) (m : ToClient) → answer_at conn (answer_to_tid m) 0 ≡ 0 → Q entries m
  pub more : (entries : List Entry) (e : Entry) (m : ToClient) → is_of n e ≡ false → Q entries m → Q (entries ++ e ∷ []) m

abbrev pub Sending : ℕ → (List Entry → ToClient → Type 0) → List ToClient → Server → Type 0
Sending n Q down s = AllThat (Q s.entries) (down ++ mail_of n s.mail)

send_that : (n : ℕ) (Q : List Entry → ToClient → Type 0) (down : List ToClient) (s : Server) (x : ℕ) (m : ToClient) → ((x == n) ≡ true → Q s.entries m) → Sending n Q down s → Sending n Q down (send_client s x m)
send_that n Q down s x m is all = more_mail (AllThat (Q s.entries)) n down s.mail (length s.entries, record { to = x; message = message.ToClient m }) (by_test (x == n) refl)
  where
    by_test : (b : Bool) → (x == n) ≡ b → AllThat (Q s.entries) ((down ++ mail_of n s.mail) ++ cond b (m ∷ []) [])
    by_test true test = that_append (Q s.entries) (down ++ mail_of n s.mail) (m ∷ []) all (is test, tt)
    by_test false test = subst (AllThat (Q s.entries)) (sym (append-nil (down ++ mail_of n s.mail))) all

store_that : (n : ℕ) (Q : List Entry → ToClient → Type 0) (down : List ToClient) (s : Server) (order : ToStore) → Sending n Q down s → Sending n Q down (send_store s order)
store_that n Q down s order all = more_mail (AllThat (Q s.entries)) n down s.mail (length s.entries, record { to = s.clients + 1; message = message.ToStore order }) (subst (AllThat (Q s.entries)) (sym (append-nil (down ++ mail_of n s.mail))) all)

tell_that : (n : ℕ) (Q : List Entry → ToClient → Type 0) (down : List ToClient) (s : Server) (x : ℕ) (told : Told) → ((j : ℕ) → (x == n) ≡ true → Q s.entries (message_of s j told)) → Sending n Q down s → Sending n Q down (tell s x told)
tell_that n Q down s x told is all = by_number (number_of s.current x)
  where
    by_number : (o : Option ℕ) → Sending n Q down (tell_at s x told o)
    by_number None = all
    by_number (Some j) = send_that n Q down s x (message_of s j told) (is j) all

buffer_that : (n conn : ℕ) (Q : List Entry → ToClient → Type 0) (k : Carried n conn Q) (down : List ToClient) (s : Server) (e : Entry) → AllThat (Q (s.entries ++ e ∷ [])) (down ++ mail_of n s.mail) → Sending n Q down (buffer s e)
buffer_that n conn Q k down s e all = notices_keep (Sending n Q down) (λ t x inos so. tell_that n Q down t x (Changed inos) (λ j to. k.quiet t.entries (message_of t j (Changed inos)) refl) so) s.entries (up_to s.clients) (record s { entries = s.entries ++ e ∷ [] }) all

pub more_that : (n conn : ℕ) (Q : List Entry → ToClient → Type 0) (k : Carried n conn Q) (entries : List Entry) (e : Entry) (p : List ToClient) → is_of n e ≡ false → AllThat (Q entries) p → AllThat (Q (entries ++ e ∷ [])) p
more_that n conn Q k entries e p isnt all = that_weaker (Q entries) (Q (entries ++ e ∷ [])) (λ m is. k.more entries e m isnt is) p all

pub no_effect : (n : ℕ) (e : Entry) → change_in e.what ≡ None → is_of n e ≡ false
no_effect n e none = rw none refl

pub of_other : (n : ℕ) (e : Entry) → (e.client == n) ≡ false → is_of n e ≡ false
of_other n e other = by_test (is_some (change_in e.what)) (e.client == n) other
  where
    by_test : (a b : Bool) → b ≡ false → (a && b) ≡ false
    by_test true b is = is
    by_test false b is = refl

-- each act keeps it: where an effect of the client is made, no answer is on the way
pub that_one : (n conn : ℕ) (Q : List Entry → ToClient → Type 0) → Carried n conn Q → (down : List ToClient) (s : Server) (a : Act) → EffectFits n s a
    → ((h : Asked) → s.hand ≡ Some h → of_client n h ≡ true → answers conn (down ++ mail_of n s.mail) ≡ 0)
    → ((h : Asked) (said : Answer) (j : ℕ) → s.hand ≡ Some h → of_client n h ≡ true → a ≡ AnswerIt said → Q s.entries (message_of s j (Answered h.tid said)))
    → ((h : Asked) (ino : Ino) (mode : Mode) (j : ℕ) → s.hand ≡ Some h → of_client n h ≡ true → a ≡ GrantIt ino mode → Q s.entries (message_of s j (Granted h.tid ino mode)))
    → Sending n Q down s → Sending n Q down (act s a)
that_one n conn Q k down s (TellRecall x ino) fit none says gives all = tell_that n Q down s x (WantedBack ino) (λ j to. k.quiet s.entries (message_of s j (WantedBack ino)) refl) all
that_one n conn Q k down s (TellAck x number) fit none says gives all = tell_that n Q down s x (Acked number) (λ j to. k.quiet s.entries (message_of s j (Acked number)) refl) all
that_one n conn Q k down s (TellRestart x) fit none says gives all = send_that n Q down s x (Restarted (stamp s)) (λ to. k.quiet s.entries (Restarted (stamp s)) refl) all
that_one n conn Q k down s (AnswerIt said) fit none says gives all = by_hand s.hand refl
  where
    by_hand : (o : Option Asked) → s.hand ≡ o → Sending n Q down (answer_hand s said o)
    by_hand None is = all
    by_hand (Some h) is = tell_that n Q down (record s { hand = None }) h.client (Answered h.tid said) (λ j to. says h said j is to refl) all
that_one n conn Q k down s (GrantIt ino mode) fit none says gives all = by_hand s.hand refl
  where
    by_hand : (o : Option Asked) → s.hand ≡ o → Sending n Q down (grant_hand s ino mode o)
    by_hand None is = all
    by_hand (Some h) is = tell_that n Q down (record s { hand = None }) h.client (Granted h.tid ino mode) (λ j to. gives h ino mode j is to refl) all
that_one n conn Q k down s (MakeEffect made) fit none says gives all = by_hand s.hand refl
  where
    by_said : (h : Asked) → s.hand ≡ Some h → (w : Option What) → Sending n Q down (buffer_for s h w)
    by_said h is None = all
    by_said h is (Some said) = by_client (h.client == n) refl
      where
        by_client : (b : Bool) → (h.client == n) ≡ b → Sending n Q down (buffer s (entry_for h said))
        by_client true test = buffer_that n conn Q k down s (entry_for h said) (that_quiet conn (Q (s.entries ++ entry_for h said ∷ [])) (k.quiet (s.entries ++ entry_for h said ∷ [])) (down ++ mail_of n s.mail) (none h is test))
        by_client false test = buffer_that n conn Q k down s (entry_for h said) (more_that n conn Q k s.entries (entry_for h said) (down ++ mail_of n s.mail) (of_other n (entry_for h said) test) all)

    by_hand : (o : Option Asked) → s.hand ≡ o → Sending n Q down (effect_hand s made o)
    by_hand None is = all
    by_hand (Some h) is = by_said h is (written_down made)
that_one n conn Q k down s (Prepare said) fit none says gives all = by_hand s.hand
  where
    by_hand : (o : Option Asked) → Sending n Q down (prepare_hand s said o)
    by_hand None = all
    by_hand (Some h) = buffer_that n conn Q k down (record s { operation = Some h; hand = None }) (entry_for h said) (more_that n conn Q k s.entries (entry_for h said) (down ++ mail_of n s.mail) (no_effect n (entry_for h said) fit.0) all)
that_one n conn Q k down s (Buffer e) fit none says gives all = buffer_that n conn Q k down s e (more_that n conn Q k s.entries e (down ++ mail_of n s.mail) (no_effect n e fit.0) all)
that_one n conn Q k down s (SendPurge id) fit none says gives all = store_that n Q down (record s { purging = s.purging ++ id ∷ [] }) (Purge id) all
that_one n conn Q k down s (SendDelete ino) fit none says gives all = store_that n Q down (record s { deleting = s.deleting ++ ino ∷ [] }) (Delete ino (context s.entries ino)) all
that_one n conn Q k down s a fit none says gives all = all

-- where the request in hand is the client's, no answer is on the way to it
pub no_answer : (n : ℕ) (c : Client) (up : List ToServer) (p : List ToClient) (s : Server) → Link (offer c) up (number_of s.current n) p → RequestedAt n (open_request c.under) c.tid c.conn up p s.hand s.held s.deferred s.operation → (h : Asked) → s.hand ≡ Some h → of_client n h ≡ true → answers c.conn p ≡ 0
no_answer n c up p s link was h is mine_it = by_link link.down
  where
    one_of : count n (as_list s.hand) ≡ 1
    one_of = subst (λ (o : Option Asked). count n (as_list o) ≡ 1) (sym is) (rw mine_it (omega arith))

    none : answers was.base p ≡ 0
    none = let one = was.one in omega (arith, one, one_of)

    at_base : link.base ≡ c.conn → answers c.conn p ≡ 0
    at_base base = subst (λ (b : ℕ). answers b p ≡ 0) (let free = flows_none (offer c) up (number_of s.current n) p link base in let number = was.number in omega (arith, free, number)) none

    by_link : Flowing (offer c) link.base (number_of s.current n) p ⊎ (AsksAnew (offer c) (number_of s.current n) p ⊎ Hailing (offer c) link.base (number_of s.current n) p) → answers c.conn p ≡ 0
    by_link (inl flows) = at_base flows.base
    by_link (inr (inl asks)) = old_answered c.conn p asks.down
    by_link (inr (inr hails)) = at_base hails.base

-- A kind of answers to what is open, for each connection of a client.
abbrev pub Kind : Type 1
Kind = ℕ → ℕ → Option (ℕ × Request) → List Entry → ToClient → Type 0

pub record CarriedKind (K : Kind) : Type 0 where
  pub stays : (n conn : ℕ) (o : Option (ℕ × Request)) → Carried n conn (K n conn o)
  pub shorter : (n conn : ℕ) (o : Option (ℕ × Request)) (k : ℕ) (entries : List Entry) (m : ToClient) → k ≤ length entries → entry_of m ≤ k → K n conn o entries m → K n conn o (take k entries) m

abbrev pub Carries : Kind → View
Carries K n c up down s = AllThat (K n c.conn (open_request c.under) s.entries) (down ++ mail_of n s.mail)

abbrev OfClient : Kind → ℕ → Client → List Entry → List ToClient → Type 0
OfClient K n c entries p = AllThat (K n c.conn (open_request c.under) entries) p

quiet_kind : (K : Kind) → CarriedKind K → (n conn : ℕ) (o : Option (ℕ × Request)) (entries : List Entry) (p : List ToClient) → answers conn p ≡ 0 → AllThat (K n conn o entries) p
quiet_kind K k n conn o entries p none = that_quiet conn (K n conn o entries) ((k.stays n conn o).quiet entries) p none

same_kind : (K : Kind) (n : ℕ) (c d : Client) (entries : List Entry) (p : List ToClient) → d.conn ≡ c.conn → open_request d.under ≡ open_request c.under → OfClient K n c entries p → OfClient K n d entries p
same_kind K n c d entries p conn same all = rw (conn, same) all

renewed_kind : (K : Kind) → CarriedKind K → (n : ℕ) (c : Client) (r : Row Client) (up : List ToServer) (k : Option ℕ) (entries : List Entry) (p : List ToClient) → Renews c r → Link (offer c) up k p → OfClient K n r.state entries p
renewed_kind K kept n c r up k entries p renew link = rw (ap (λ (o : Offer). o.conn) renew.state) (quiet_kind K kept n (c.conn + 1) (open_request r.state.under) entries p (old_answered (c.conn + 1) p (link_old (offer c) up k p link)))

acts_kind : (K : Kind) → CarriedKind K → (n : ℕ) (c : Client) (up : List ToServer) (down : List ToClient) (s : Server) (r : Row Client) → Acts c r → Asking n c up down s → Carries K n c up down s → OfClient K n r.state s.entries (down ++ mail_of n s.mail)
acts_kind K kept n c up down s r (inl begin) asking all = rw begin.1.conn (quiet_kind K kept n c.conn (open_request r.state.under) s.entries (down ++ mail_of n s.mail) (none_open n c up (down ++ mail_of n s.mail) s begin.0 asking.1).answered)
acts_kind K kept n c up down s r (inr (inl keep)) asking all = same_kind K n c r.state s.entries (down ++ mail_of n s.mail) keep.conn keep.same all
acts_kind K kept n c up down s r (inr (inr renew)) asking all = renewed_kind K kept n c r up (number_of s.current n) s.entries (down ++ mail_of n s.mail) renew asking.0.1

told_kind : (K : Kind) → CarriedKind K → (n : ℕ) (c : Client) (up : List ToServer) (m : ToClient) (down : List ToClient) (s : Server) (r : Row Client) → ToldRow c m r → Asking n c up (m ∷ down) s → Carries K n c up (m ∷ down) s → OfClient K n r.state s.entries (down ++ mail_of n s.mail)
told_kind K kept n c up m down s r (inl here) asking all = by_row here.1
  where
    free : connects up ≡ 0
    free = flows_none (offer c) up (number_of s.current n) (m ∷ (down ++ mail_of n s.mail)) asking.0.1 (now_flows (offer c) up (number_of s.current n) m (down ++ mail_of n s.mail) here.0 asking.0.1).base

    by_row : (Begins c r × IsAnswer c m) ⊎ Keeps c r → OfClient K n r.state s.entries (down ++ mail_of n s.mail)
    by_row (inl begin) = rw begin.0.conn (quiet_kind K kept n c.conn (open_request r.state.under) s.entries (down ++ mail_of n s.mail) (answered_all n c up m (down ++ mail_of n s.mail) s begin.1 free asking.1).answered)
    by_row (inr keep) = same_kind K n c r.state s.entries (down ++ mail_of n s.mail) keep.conn keep.same all.1
told_kind K kept n c up m down s r (inr (inl renew)) asking all = rw (ap (λ (o : Offer). o.conn) renew.1.state) (quiet_kind K kept n (c.conn + 1) (open_request r.state.under) s.entries (down ++ mail_of n s.mail) (old_answered (c.conn + 1) (down ++ mail_of n s.mail) (link_old (offer c) up (number_of s.current n) (m ∷ (down ++ mail_of n s.mail)) asking.0.1).1))
told_kind K kept n c up m down s r (inr (inr (inl hail))) asking all = same_kind K n c r.state s.entries (down ++ mail_of n s.mail) hail.1.conn hail.1.same all.1
told_kind K kept n c up m down s r (inr (inr (inr skip))) asking all = same_kind K n c r.state s.entries (down ++ mail_of n s.mail) (ap (λ (o : Offer). o.conn) skip.1.state) (ap (λ (o : Offer). o.asked) skip.1.state) all.1

-- a Connect is taken: the Welcome is no answer
welcomed_that : (n x conn : ℕ) (Q : List Entry → ToClient → Type 0) (at : ℕ) → Carried n at Q → (down : List ToClient) (s : Server) (asked : Option (ℕ × Request)) → Sending n Q down s → Sending n Q down (accepted s x conn asked)
welcomed_that n x conn Q at k down s asked all = in_hand (Sending n Q down) (λ t hand so. so) (welcome (connected s x conn) x conn) x asked (send_that n Q down (connected s x conn) x (hello (connected s x conn) x conn) (λ to. k.quiet s.entries (hello (connected s x conn) x conn) refl) all)

pub kind_kept : {F : ℕ → Client → Server → Act → Type 0} {A : View} (K : Kind) → CarriedKind K
    → ((n : ℕ) (c : Client) (s : Server) (a : Act) → F n c s a → EffectFits n s a)
    → ((n : ℕ) (c : Client) (up : List ToServer) (down : List ToClient) (s : Server) → A n c up down s → Asking n c up down s × (SentLow n c up down s × Carries K n c up down s))
    → ((n : ℕ) (c : Client) (up : List ToServer) (down : List ToClient) (s : Server) → A n c up down s → (h : Asked) (said : Answer) (j : ℕ) → s.hand ≡ Some h → of_client n h ≡ true → F n c s (AnswerIt said) → K n c.conn (open_request c.under) s.entries (message_of s j (Answered h.tid said)))
    → ((n : ℕ) (c : Client) (up : List ToServer) (down : List ToClient) (s : Server) → A n c up down s → (h : Asked) (ino : Ino) (mode : Mode) (j : ℕ) → s.hand ≡ Some h → of_client n h ≡ true → F n c s (GrantIt ino mode) → K n c.conn (open_request c.under) s.entries (message_of s j (Granted h.tid ino mode)))
    → KeptViews F A (Carries K)
kind_kept {F} {A} K k effects of says gives = record {
  op = λ n c up down s all. let was = of n c up down s all in if_row (on_op c) (ActsNow c) (Client's (Carries K) n up down s) (λ r does. acts_kind K k n c up down s r does.1 was.0 was.1.1) (op_acts c c.lines was.0.1.opened);
  flush = λ n c up down s all. let was = of n c up down s all in if_row (on_flush c) (λ r. (c.frozen ≡ false) × Keeps c r) (Client's (Carries K) n up down s) (λ r does. acts_kind K k n c up down s r (inr (inl does.1)) was.0 was.1.1) (flush_acts c);
  told = λ n c up m down s all. let was = of n c up (m ∷ down) s all in told_kind K k n c up m down s (on_told c m) (told_row c m was.0.1.opened) was.0 was.1.1;
  stored = λ n c m up down s all. let was = of n c up down s all in let hidden = store_hidden c m in same_kind K n c (on_stored c m).state s.entries (down ++ mail_of n s.mail) (ap (λ (o : Offer). o.conn) hidden.state) (ap (λ (o : Offer). o.asked) hidden.state) was.1.1;
  one = λ n c up down s a fit all. let was = of n c up down s all in that_one n c.conn (K n c.conn (open_request c.under)) (k.stays n c.conn (open_request c.under)) down s a (effects n c s a fit)
      (no_answer n c up (down ++ mail_of n s.mail) s was.0.0.1 was.0.1)
      (λ h said j is mine_it same. says n c up down s all h said j is mine_it (subst (F n c s) same fit))
      (λ h ino mode j is mine_it same. gives n c up down s all h ino mode j is mine_it (subst (F n c s) same fit))
      was.1.1;
  pops = λ n c m up down s all. (of n c (m ∷ up) down s all).1.1;
  accepts = λ n c conn said flushes asked up down s all. welcomed_that n n conn (K n c.conn (open_request c.under)) c.conn (k.stays n c.conn (open_request c.under)) down s asked (of n c _ down s all).1.1;
  accepts_other = λ n x c conn asked up down s other all. welcomed_that n x conn (K n c.conn (open_request c.under)) c.conn (k.stays n c.conn (open_request c.under)) down s asked (of n c up down s all).1.1;
  asks = λ n c conn tid asked up down s is all. (of n c _ down s all).1.1;
  asks_other = λ n x c tid asked up down s other all. (of n c up down s all).1.1;
  hands = λ n c up down s all. subst (AllThat (K n c.conn (open_request c.under) s.entries)) (mail_split n s.durable down s.mail) (of n c up down s all).1.1;
  durable = λ n c up down s all. (of n c up down s all).1.1;
  survives = λ n c up down s k_more fits all. let was = of n c up down s all in
      subst (AllThat (K n c.conn (open_request c.under) (take (s.durable + k_more) s.entries))) (sym (append-nil down))
      (shorter_that n c.conn (open_request c.under) (s.durable + k_more) s.entries down (room k_more s fits was.1.0.fits) (lower s.durable (s.durable + k_more) down (omega arith) was.1.0.low) (that_front (K n c.conn (open_request c.under) s.entries) down (mail_of n s.mail) was.1.1));
}
  where
    shorter_that : (n conn : ℕ) (o : Option (ℕ × Request)) (most : ℕ) (entries : List Entry) (p : List ToClient) → most ≤ length entries → AllThat (λ m. entry_of m ≤ most) p → AllThat (K n conn o entries) p → AllThat (K n conn o (take most entries)) p
    shorter_that n conn o most entries [] fits low all = tt
    shorter_that n conn o most entries (m ∷ p) fits low all = (k.shorter n conn o most entries m fits low.0 all.0, shorter_that n conn o most entries p fits low.1 all.1)

-- what each act makes of a predicate of the entries, where it is known which effects of the client are made
pub entries_one : (n : ℕ) (P : List Entry → ℕ → Type 0) (s : Server) (a : Act) → EffectFits n s a
    → ((t : Server) (e : Entry) → is_of n e ≡ false → P s.entries s.durable → P (s.entries ++ e ∷ []) s.durable)
    → ((h : Asked) (made : Change) (said : What) → s.hand ≡ Some h → of_client n h ≡ true → a ≡ MakeEffect made → written_down made ≡ Some said → P (s.entries ++ entry_for h said ∷ []) s.durable)
    → P s.entries s.durable → (let t = act s a in P t.entries t.durable)
entries_one n P s a fit more new was = by_act a fit new
  where
    Of : Server → Type 0
    Of t = P t.entries t.durable

    tells : (t : Server) (x : ℕ) (told : Told) → Of t → Of (tell t x told)
    tells t x told so = by_number (number_of t.current x)
      where
        by_number : (o : Option ℕ) → Of (tell_at t x told o)
        by_number None = so
        by_number (Some conn) = so

    buffers : (t : Server) (e : Entry) → P (t.entries ++ e ∷ []) t.durable → Of (buffer t e)
    buffers t e so = notices_keep Of (λ u x inos now. tells u x (Changed inos) now) t.entries (up_to t.clients) (record t { entries = t.entries ++ e ∷ [] }) so

    by_act : (b : Act) → EffectFits n s b → ((h : Asked) (made : Change) (said : What) → s.hand ≡ Some h → of_client n h ≡ true → b ≡ MakeEffect made → written_down made ≡ Some said → P (s.entries ++ entry_for h said ∷ []) s.durable) → Of (act s b)
    by_act (TellRecall x ino) fit new = tells s x (WantedBack ino) was
    by_act (TellAck x number) fit new = tells s x (Acked number) was
    by_act (AnswerIt said) fit new = by_hand s.hand
      where
        by_hand : (o : Option Asked) → Of (answer_hand s said o)
        by_hand None = was
        by_hand (Some h) = tells (record s { hand = None }) h.client (Answered h.tid said) was
    by_act (GrantIt ino mode) fit new = by_hand s.hand
      where
        by_hand : (o : Option Asked) → Of (grant_hand s ino mode o)
        by_hand None = was
        by_hand (Some h) = tells (record s { hand = None }) h.client (Granted h.tid ino mode) was
    by_act (MakeEffect made) fit new = by_hand s.hand refl
      where
        by_said : (h : Asked) → s.hand ≡ Some h → (w : Option What) → written_down made ≡ w → Of (buffer_for s h w)
        by_said h is None writes = was
        by_said h is (Some said) writes = by_client (h.client == n) refl
          where
            by_client : (b : Bool) → (h.client == n) ≡ b → Of (buffer s (entry_for h said))
            by_client true test = buffers s (entry_for h said) (new h made said is test refl writes)
            by_client false test = buffers s (entry_for h said) (more s (entry_for h said) (of_other n (entry_for h said) test) was)

        by_hand : (o : Option Asked) → s.hand ≡ o → Of (effect_hand s made o)
        by_hand None is = was
        by_hand (Some h) is = by_said h is (written_down made) refl
    by_act (Prepare said) fit new = by_hand s.hand
      where
        by_hand : (o : Option Asked) → Of (prepare_hand s said o)
        by_hand None = was
        by_hand (Some h) = buffers (record s { operation = Some h; hand = None }) (entry_for h said) (more s (entry_for h said) (no_effect n (entry_for h said) fit.0) was)
    by_act (Buffer e) fit new = buffers s e (more s e (no_effect n e fit.0) was)
    by_act b fit new = was

-- no effect of the client stands behind a place
pub none_end : (n : ℕ) (entries : List Entry) (e : Entry) → is_of n e ≡ false → NoneOf n entries → NoneOf n (entries ++ e ∷ [])
none_end n [] e is none = (is, tt)
none_end n (x ∷ entries) e is none = (none.0, none_end n entries e is none.1)

none_front : (n : ℕ) (entries more : List Entry) → NoneOf n (entries ++ more) → NoneOf n entries
none_front n [] more none = tt
none_front n (x ∷ entries) more none = (none.0, none_front n entries more none.1)

none_back : (n : ℕ) (entries more : List Entry) → NoneOf n (entries ++ more) → NoneOf n more
none_back n [] more none = none
none_back n (x ∷ entries) more none = none_back n entries more none.1

none_drop : (n k : ℕ) (entries : List Entry) → NoneOf n entries → NoneOf n (drop k entries)
none_drop n k entries none = none_back n (take k entries) (drop k entries) (subst (NoneOf n) (sym (take-append-drop k entries)) none)

abbrev pub NoneBehind : ℕ → ℕ → List Entry → Type 0
NoneBehind n place entries = (place ≤ length entries) × NoneOf n (drop place entries)

pub behind_more : (n place : ℕ) (entries : List Entry) (e : Entry) → is_of n e ≡ false → NoneBehind n place entries → NoneBehind n place (entries ++ e ∷ [])
behind_more n place entries e isnt none = (let less = none.0 in grind (arith, less, length-append), subst (NoneOf n) (sym (drop-append-le place entries (e ∷ []) none.0)) (none_end n (drop place entries) e isnt none.1))

pub behind_shorter : (n place k : ℕ) (entries : List Entry) → k ≤ length entries → place ≤ k → NoneBehind n place entries → NoneBehind n place (take k entries)
behind_shorter n place k entries fits less none = (within, none_front n (drop place (take k entries)) (drop k entries) (subst (NoneOf n) (ap (drop place) (sym (take-append-drop k entries)) ∙ drop-append-le place (take k entries) (drop k entries) within) none.1))
  where
    within : place ≤ length (take k entries)
    within = let long = length-take-le k entries fits in omega (arith, long, less)

pub behind_later : (n place d : ℕ) (entries : List Entry) → d ≤ length entries → place ≤ d → NoneBehind n place entries → NoneOf n (drop d entries)
behind_later n place d entries fits less none = none_back n (drop place (take d entries)) (drop d entries) (subst (NoneOf n) (ap (drop place) (sym (take-append-drop d entries)) ∙ drop-append-le place (take d entries) (drop d entries) within) none.1)
  where
    within : place ≤ length (take d entries)
    within = let long = length-take-le d entries fits in omega (arith, long, less)

pub behind_all : (n : ℕ) (entries : List Entry) → NoneBehind n (length entries) entries
behind_all n entries = (omega arith, subst (NoneOf n) (sym (drop_all (length entries) entries (omega arith))) tt)

abbrev BehindAt : ℕ → ℕ → List Entry → ℕ → Option (ℕ × ℕ) → Type 0
BehindAt n conn entries place None = Unit {0}
BehindAt n conn entries place (Some a) = (a.0 == conn) ≡ true → NoneBehind n place entries

-- an answer of the connection counts all effects of the client
abbrev pub Behind : Kind
Behind n conn o entries m = BehindAt n conn entries (entry_of m) (answer_to_tid m)

behind_carried : CarriedKind Behind
behind_carried = record {
  stays = λ n conn o. record {
    quiet = λ entries m none. quiet n conn entries (entry_of m) (answer_to_tid m) none;
    more = λ entries e m isnt is. more n conn entries (entry_of m) e (answer_to_tid m) isnt is;
  };
  shorter = λ n conn o k entries m fits low is. shorter n conn entries k (entry_of m) (answer_to_tid m) fits low is;
}
  where
    quiet : (n conn : ℕ) (entries : List Entry) (place : ℕ) (a : Option (ℕ × ℕ)) → answer_at conn a 0 ≡ 0 → BehindAt n conn entries place a
    quiet n conn entries place None none = tt
    quiet n conn entries place (Some a) none = λ is. absurd (not_one (subst (λ (b : Bool). cond b (0 + 1) 0 ≡ 0) is none))
      where
        not_one : 0 + 1 ≡ 0 → ⊥
        not_one zero = omega (arith, zero)

    more : (n conn : ℕ) (entries : List Entry) (place : ℕ) (e : Entry) (a : Option (ℕ × ℕ)) → is_of n e ≡ false → BehindAt n conn entries place a → BehindAt n conn (entries ++ e ∷ []) place a
    more n conn entries place e None isnt is = tt
    more n conn entries place e (Some a) isnt is = λ now. behind_more n place entries e isnt (is now)

    shorter : (n conn : ℕ) (entries : List Entry) (k place : ℕ) (a : Option (ℕ × ℕ)) → k ≤ length entries → place ≤ k → BehindAt n conn entries place a → BehindAt n conn (take k entries) place a
    shorter n conn entries k place None fits low is = tt
    shorter n conn entries k place (Some a) fits low is = λ now. behind_shorter n place k entries fits low (is now)

pub behind_head : (n : ℕ) (c : Client) (entries : List Entry) (m : ToClient) → IsAnswer c m → Behind n c.conn (open_request c.under) entries m → NoneBehind n (entry_of m) entries
behind_head n c entries m answers_it is = by_answer (answer_to_tid m) (answers_it 0) is
  where
    by_answer : (a : Option (ℕ × ℕ)) → answer_at c.conn a 0 ≡ 0 + 1 → BehindAt n c.conn entries (entry_of m) a → NoneBehind n (entry_of m) entries
    by_answer None one is = absurd (omega (arith, one))
    by_answer (Some a) one is = by_test (a.0 == c.conn) refl one
      where
        by_test : (b : Bool) → (a.0 == c.conn) ≡ b → cond b (0 + 1) 0 ≡ 0 + 1 → NoneBehind n (entry_of m) entries
        by_test true test one = is test
        by_test false test one = absurd (omega (arith, one))

-- what isn't durable
abbrev OpenTail : View
OpenTail n c up down s = AllOpen n (open_request c.under) (drop s.durable s.entries)

open_none : (n : ℕ) (o : Option (ℕ × Request)) (entries : List Entry) → NoneOf n entries → AllOpen n o entries
open_none n o [] none = tt
open_none n o (e ∷ entries) none = ((λ is. absurd (true≢false (sym is ∙ none.0))), open_none n o entries none.1)

none_opened : (n : ℕ) (o : Option (ℕ × Request)) (entries : List Entry) → AllOpen n None entries → AllOpen n o entries
none_opened n o [] all = tt
none_opened n o (e ∷ entries) all = ((λ is. absurd (all.0 is)), none_opened n o entries all.1)

open_end : (n : ℕ) (o : Option (ℕ × Request)) (entries : List Entry) (e : Entry) → (is_of n e ≡ true → IsTid o e.number) → AllOpen n o entries → AllOpen n o (entries ++ e ∷ [])
open_end n o [] e is all = (is, tt)
open_end n o (x ∷ entries) e is all = (all.0, open_end n o entries e is all.1)

abbrev pub Tails : View
Tails n c up down s = (SentLow n c up down s × Carries Behind n c up down s) × OpenTail n c up down s

abbrev pub Ended : View
Ended n c up down s = Known n c up down s × Tails n c up down s

pub asking_of : (n : ℕ) (c : Client) (up : List ToServer) (down : List ToClient) (s : Server) → Ended n c up down s → Asking n c up down s
asking_of n c up down s all = all.0.0.0

same_tail : (n : ℕ) (c d : Client) (entries : List Entry) → open_request d.under ≡ open_request c.under → AllOpen n (open_request c.under) entries → AllOpen n (open_request d.under) entries
same_tail n c d entries same all = rw same all

acts_tail : (n : ℕ) (c : Client) (r : Row Client) (entries : List Entry) → Acts c r → AllOpen n (open_request c.under) entries → AllOpen n (open_request r.state.under) entries
acts_tail n c r entries (inl begin) all = none_opened n (open_request r.state.under) entries (subst (λ (o : Option (ℕ × Request)). AllOpen n o entries) begin.0 all)
acts_tail n c r entries (inr (inl keep)) all = same_tail n c r.state entries keep.same all
acts_tail n c r entries (inr (inr renew)) all = same_tail n c r.state entries (ap (λ (o : Offer). o.asked) renew.state) all

told_tail : (n : ℕ) (c : Client) (m : ToClient) (r : Row Client) (entries : List Entry) (d : ℕ) → d ≤ length entries → entry_of m ≤ d → Behind n c.conn (open_request c.under) entries m → ToldRow c m r → AllOpen n (open_request c.under) (drop d entries) → AllOpen n (open_request r.state.under) (drop d entries)
told_tail n c m r entries d fits low behind (inl here) all = by_row here.1
  where
    by_row : (Begins c r × IsAnswer c m) ⊎ Keeps c r → AllOpen n (open_request r.state.under) (drop d entries)
    by_row (inl begin) = open_none n (open_request r.state.under) (drop d entries) (behind_later n (entry_of m) d entries fits low (behind_head n c entries m begin.1 behind))
    by_row (inr keep) = same_tail n c r.state (drop d entries) keep.same all
told_tail n c m r entries d fits low behind (inr (inl renew)) all = same_tail n c r.state (drop d entries) (ap (λ (o : Offer). o.asked) renew.1.state) all
told_tail n c m r entries d fits low behind (inr (inr (inl hail))) all = same_tail n c r.state (drop d entries) hail.1.same all
told_tail n c m r entries d fits low behind (inr (inr (inr skip))) all = same_tail n c r.state (drop d entries) (ap (λ (o : Offer). o.asked) skip.1.state) all

is_tid : (o : Option (ℕ × Request)) (h : Asked) → IsIt o h.tid h.request → IsTid o h.tid
is_tid None h it = it
is_tid (Some r) h it = it.0

pub hand_it : (n : ℕ) (o : Option (ℕ × Request)) (s : Server) (h : Asked) → AllOf n o (as_list s.hand) → s.hand ≡ Some h → of_client n h ≡ true → IsIt o h.tid h.request
hand_it n o s h all is mine_it = (subst (λ (x : Option Asked). AllOf n o (as_list x)) is all).0 mine_it

tail_one : (n : ℕ) (o : Option (ℕ × Request)) (s : Server) (a : Act) → EffectFits n s a → s.durable ≤ length s.entries → AllOf n o (as_list s.hand) → AllOpen n o (drop s.durable s.entries) → (let t = act s a in AllOpen n o (drop t.durable t.entries))
tail_one n o s a fit fits hand all = entries_one n (λ entries d. AllOpen n o (drop d entries)) s a fit
    (λ t e isnt was. longer e (λ is. absurd (true≢false (sym is ∙ isnt))))
    (λ h made said is mine_it makes writes. longer (entry_for h said) (λ its. is_tid o h (hand_it n o s h hand is mine_it)))
    all
  where
    longer : (e : Entry) → (is_of n e ≡ true → IsTid o e.number) → AllOpen n o (drop s.durable (s.entries ++ e ∷ []))
    longer e is = subst (AllOpen n o) (sym (drop-append-le s.durable s.entries (e ∷ []) fits)) (open_end n o (drop s.durable s.entries) e is all)

open_tail : KeptViews FitsFor Ended OpenTail
open_tail = record {
  op = λ n c up down s all. if_row (on_op c) (ActsNow c) (Client's OpenTail n up down s) (λ r does. acts_tail n c r (drop s.durable s.entries) does.1 all.1.1) (op_acts c c.lines (asking_of n c up down s all).1.opened);
  flush = λ n c up down s all. if_row (on_flush c) (λ r. (c.frozen ≡ false) × Keeps c r) (Client's OpenTail n up down s) (λ r does. acts_tail n c r (drop s.durable s.entries) (inr (inl does.1)) all.1.1) (flush_acts c);
  told = λ n c up m down s all. told_tail n c m (on_told c m) s.entries s.durable all.1.0.0.fits all.1.0.0.low.0 all.1.0.1.0 (told_row c m (asking_of n c up (m ∷ down) s all).1.opened) all.1.1;
  stored = λ n c m up down s all. same_tail n c (on_stored c m).state (drop s.durable s.entries) (ap (λ (o : Offer). o.asked) (store_hidden c m).state) all.1.1;
  one = λ n c up down s a fit all. tail_one n (open_request c.under) s a fit all.1.0.0.fits (asking_of n c up down s all).1.in_hand all.1.1;
  pops = λ n c m up down s all. all.1.1;
  accepts = λ n c conn said flushes asked up down s all. in_hand (λ (t : Server). AllOpen n (open_request c.under) (drop t.durable t.entries)) (λ t hand so. so) (welcome (connected s n conn) n conn) n asked all.1.1;
  accepts_other = λ n x c conn asked up down s other all. in_hand (λ (t : Server). AllOpen n (open_request c.under) (drop t.durable t.entries)) (λ t hand so. so) (welcome (connected s x conn) x conn) x asked all.1.1;
  asks = λ n c conn tid asked up down s is all. all.1.1;
  asks_other = λ n x c tid asked up down s other all. all.1.1;
  hands = λ n c up down s all. all.1.1;
  durable = λ n c up down s all. subst (AllOpen n (open_request c.under)) (sym (drop_all (length s.entries) s.entries (omega arith))) tt;
  survives = λ n c up down s k fits all. subst (AllOpen n (open_request c.under)) (sym (drop_all (s.durable + k) (take (s.durable + k) s.entries) (let long = length-take-le (s.durable + k) s.entries (room k s fits all.1.0.0.fits) in omega (arith, long)))) tt;
}

behind_tail : KeptViews FitsFor Ended (Carries Behind)
behind_tail = kind_kept Behind behind_carried (λ n c s a fit. fit) (λ n c up down s all. (asking_of n c up down s all, all.1.0))
    (λ n c up down s all h said j is mine_it fit. λ now. behind_all n s.entries)
    (λ n c up down s all h ino mode j is mine_it fit. λ now. behind_all n s.entries)

pub ended : KeptViews FitsFor Ended Ended
ended = both (given (λ n c up down s all. all.0) (λ n c s a fit. fit) all_kept) (both (both (sent_low (λ n c up down s all. all.1.0.0)) behind_tail) open_tail)

pub ended_rules : RulesFit FitsFor Ended
ended_rules = record {
  anew = λ n c up down s all. all_rules.anew n c up down s all.0;
  asks = λ n c conn tid asked up down s is all. all_rules.asks n c conn tid asked up down s is all.0;
  asks_other = λ n x c tid asked up down s other all. all_rules.asks_other n x c tid asked up down s other all.0;
  brings = λ n c conn said flushes asked up down s all. all_rules.brings n c conn said flushes asked up down s all.0;
  brings_other = λ n x c conn asked up down s other all. all_rules.brings_other n x c conn asked up down s other all.0;
  comes = all_rules.comes;
  flushes = all_rules.flushes;
  drops = all_rules.drops;
  reports = all_rules.reports;
  restarts = all_rules.restarts;
  turns = λ n c up down s all. all_rules.turns n c up down s all.0;
}

pub first_ended : (script : Script) (n : ℕ) → number_of (start script).server.current n ≡ Some 1 → Ended n (new_client n (script.clients + 1) (lines_of n script.lines)) [] [] (start script).server
first_ended script n is = (first_all script n is, ((record { fits = omega arith; low = tt; made = tt }, tt), tt))

pub ended_hold : (script : Script) (steps : List Step) → EachClient Ended (after (start script) steps)
ended_hold script steps = run_keeps Ended (rows_of_acts Ended ended ended_rules) (start script) steps (at_start Ended script (first_ended script))

-- the laws
pub above_law : (script : Script) (history : List Event) → EachClient NotAbove (world_after script history)
above_law script history = each_part Whole NotAbove (world_after script history) (λ n c up down s all. all.1.upto) (whole_holds script (steps_of history))

rising_back : (n : ℕ) (entries more : List Entry) → Rising n (entries ++ more) → Rising n more
rising_back n [] more rising = rising
rising_back n (e ∷ entries) more rising = rising_back n entries more rising.1

pub rising_drop : (n k : ℕ) (entries : List Entry) → Rising n entries → Rising n (drop k entries)
rising_drop n k entries rising = rising_back n (take k entries) (drop k entries) (subst (Rising n) (sym (take-append-drop k entries)) rising)

no_other : (n tid least : ℕ) (request : Request) (entries : List Entry) → tid ≤ least → AllAbove n least entries → AllOpen n (Some (tid, request)) entries → effects_of n entries ≡ 0
no_other n tid least request [] low above all = refl
no_other n tid least request (e ∷ entries) low above all = by_test (is_of n e) refl (no_other n tid least request entries low above.1 all.1)
  where
    by_test : (b : Bool) → is_of n e ≡ b → effects_of n entries ≡ 0 → cond b (effects_of n entries + 1) (effects_of n entries) ≡ 0
    by_test true is rest = let more = above.0 is in let same = all.0 is in absurd (omega (arith, low, more, same))
    by_test false is rest = rest

one_effect : (n : ℕ) (o : Option (ℕ × Request)) (entries : List Entry) → Rising n entries → AllOpen n o entries → effects_of n entries ≤ 1
one_effect n o [] rising all = omega arith
one_effect n o (e ∷ entries) rising all = by_test (is_of n e) refl (one_effect n o entries rising.1 all.1)
  where
    alone : (o : Option (ℕ × Request)) → IsTid o e.number → AllAbove n e.number entries → AllOpen n o entries → effects_of n entries ≡ 0
    alone None it above all = absurd it
    alone (Some r) it above all = no_other n r.0 e.number r.1 entries (omega (arith, it)) above all

    by_test : (b : Bool) → is_of n e ≡ b → effects_of n entries ≤ 1 → cond b (effects_of n entries + 1) (effects_of n entries) ≤ 1
    by_test true is rest = let none = alone o (all.0 is) (rising.0 is) all.1 in omega (arith, none)
    by_test false is rest = rest

pub undurable_law : (script : Script) (history : List Event) → EachClient Undurable (world_after script history)
undurable_law script history = each_part Ended Undurable (world_after script history) (λ n c up down s all. (all.1.1, one_effect n (open_request c.under) (drop s.durable s.entries) (rising_drop n s.durable s.entries all.0.0.1.rising) all.1.1)) (ended_hold script (steps_of history))

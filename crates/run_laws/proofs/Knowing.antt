-- What clients hold, and what the server grants and finds, is known: a file that the entries made. So no flush is dropped.
use Rattle.std.proofs.Common.{◌≡◌, ◌≤◌, ℕ, ◌+◌, List, [], ◌∷◌, ◌++◌, append_assoc, drop, take, filter, length, length-append, Bool, true, false, true≢false, not, cond, Option, None, Some, refl, sym, ap, ◌∙◌, subst, IfSome, arith, inl, inr}
use Rattle.std.proofs.lemmas.List.{append-nil, take-append-le, length-take-le}
use Rattle.std.proofs.Math.Seq.{take-length}
use Rattle.std.proofs.lemmas.Bool.Decides.{nat_tests}
use Rattle.std.specs.Prelude.{◌==◌, ◌&&◌, nat_lt, nat_le}
use Rattle.std.specs.List.{list_all, cons_option}
use Rattle.plain_types.specs.declared.answer.Answer.{Answer}
use Rattle.plain_types.specs.declared.answer.Answer.TheVariants as answer
use Rattle.plain_types.specs.declared.entry.Entry.{Entry}
use Rattle.plain_types.specs.declared.entry.What.{What}
use Rattle.plain_types.specs.declared.history.Sent.{Sent}
use Rattle.plain_types.specs.declared.history.Step.{Step}
use Rattle.plain_types.specs.declared.message.Claim.{Claim}
use Rattle.plain_types.specs.declared.message.FlushMsg.{FlushMsg}
use Rattle.plain_types.specs.declared.message.Message.{Message}
use Rattle.plain_types.specs.declared.message.Message.TheVariants as message
use Rattle.plain_types.specs.declared.message.ToClient.{ToClient}
use Rattle.plain_types.specs.declared.message.ToClient.TheVariants.{Reply, Grant, Restarted}
use Rattle.plain_types.specs.declared.message.ToServer.{ToServer}
use Rattle.plain_types.specs.declared.message.ToServer.TheVariants.{Connect, Ask, Flush, DropRead, Purged, Deleted}
use Rattle.plain_types.specs.declared.message.ToStore.TheVariants.{Purge, Delete}
use Rattle.plain_types.specs.declared.request.Request.{Request}
use Rattle.plain_types.specs.declared.request.Request.TheVariants as request
use Rattle.plain_types.specs.declared.script.Line.{Line}
use Rattle.plain_types.specs.declared.script.Script.{Script}
use Rattle.plain_journal.specs.Coverage.{context}
use Rattle.step_table.specs.Messages.{flush_fits, to_server_fits}
use Rattle.step_table.specs.Row.{Row}
use Rattle.step_table.specs.ServerState.{Asked, Server, Told, Answered, Granted, WantedBack, Changed, Acked, message_of, tell, tell_at, number_of, stamp, up_to, is_current, connection, buffered, send, welcome}
use Rattle.step_table.specs.Acts.{Act, TellRecall, TellAck, TellRestart, AnswerIt, GrantIt, MakeEffect, Prepare, Wait, Defer, DeferFirst, TakeHeld, TakeDeferred, TakeOperation, Buffer, SendPurge, SendDelete, act, acts, each, of_client, first_of, as_list, answer_hand, grant_hand, effect_hand, buffer_for, written_down, prepare_hand, entry_for, buffer, goes, waits, hand_out}
use Rattle.step_table.specs.Requests.{treat, is_operation}
use Rattle.step_table.specs.Flushes.{knows_file, knows_asked, knows_brought, on_flush as flush_rule, on_drop, asked_by, brought, hand_for, take_in, take_in_brought, connected, come_back, may_connect, treat_brought}
use Rattle.step_table.specs.Background.{turn}
use Rattle.step_table.specs.ServerRows.{on_take, left_with, restarts, reported, ask, back, connect_with, drops}
use Rattle.step_table.specs.ClientState.{Client, new_client}
use Rattle.step_table.specs.ClientLines.{on_op, on_flush}
use Rattle.step_table.specs.ClientTakes.{on_told, on_stored}
use Rattle.step_table.specs.World.{to_clients, told_to, start, after, lines_of, to_server as for_server}
use Rattle.run_laws.specs.Links.{View, EachClient, mine}
use Rattle.run_laws.specs.Stamps.{told_by}
use Rattle.run_laws.proofs.Acts.{Fit, fit_append, KeptByActs, acts_keep, notices_keep, row_keeps, connect_keeps, take_flush, take_drop, take_purged, take_deleted, turn_keeps, commit_keeps, restart_keeps}
use Rattle.run_laws.proofs.Growing.{by_entries, room, take_take}
use Rattle.run_laws.proofs.Held.{holding_more}
use Rattle.run_laws.proofs.Holds.{HoldsIn, NoFlush, Stays, Sends, Takes, NamesKnown, op_stays, flush_sends, told_takes, stored_stays}
use Rattle.run_laws.proofs.Known.{Known, known_more, longer, from_front, made_known}
use Rattle.run_laws.proofs.Linked.{if_row, at_start}
use Rattle.run_laws.proofs.Moves.{act_keeps}
use Rattle.run_laws.proofs.Ruled.{SaysKnown, IsRuled, AllRuled, CapAt, AllCaps, ruled_treat, ruled_drop, ruled_reported, ruled_restarts, ruled_turn, IsFlushing, AllFlushing, flushing_flush, flushing_back}
use Rattle.run_laws.proofs.Views.{Client's, Server's, KeptByRows, run_keeps}

-- entries grow
grown : (s : Server) (a : Act) → (more : List Entry) × ((act s a).entries ≡ s.entries ++ more)
grown s a = act_keeps (by_entries (λ entries durable. (more : List Entry) × (entries ≡ s.entries ++ more)) (λ t e so. (so.0 ++ e ∷ [], ap (λ (l : List Entry). l ++ e ∷ []) so.1 ∙ append_assoc s.entries so.0 (e ∷ [])))) s a ([], sym (append-nil s.entries))

pub grown_all : (list : List Act) (s : Server) → (more : List Entry) × ((acts s list).entries ≡ s.entries ++ more)
grown_all [] s = ([], sym (append-nil s.entries))
grown_all (a ∷ list) s =
    let one = grown s a in let rest = grown_all list (act s a) in
    (one.0 ++ rest.0, rest.1 ∙ ap (λ (l : List Entry). l ++ rest.0) one.1 ∙ append_assoc s.entries one.0 rest.0)

says_more : (entries more : List Entry) (said : Answer) → SaysKnown entries said → SaysKnown (entries ++ more) said
says_more entries more (answer.FoundLive ino perm size write_held) is = known_more entries more ino is
says_more entries more said is = tt

pub ruled_more : (entries more : List Entry) (list : List Act) → AllRuled entries list → AllRuled (entries ++ more) list
ruled_more entries more [] all = tt
ruled_more entries more (a ∷ list) all = (one a all.0, ruled_more entries more list all.1)
  where
    one : (a : Act) → IsRuled entries a → IsRuled (entries ++ more) a
    one (Buffer e) is = is
    one (Prepare said) is = is
    one (TellAck x number) is = is
    one (GrantIt ino mode) is = known_more entries more ino is
    one (AnswerIt said) is = says_more entries more said is
    one a is = tt

-- what is ruled fits, act by act
pub ruled_fit : (F : Server → Act → Type 0) → ((t : Server) (a : Act) → IsRuled t.entries a → F t a) → (list : List Act) (s : Server) → AllRuled s.entries list → Fit F s list
ruled_fit F to [] s all = tt
ruled_fit F to (a ∷ list) s all =
    let more = grown s a in
    (to s a all.0, ruled_fit F to list (act s a) (subst (λ (l : List Entry). AllRuled l list) (sym more.1) (ruled_more s.entries more.0 list all.1)))

pub flushing_fit : (F : Server → Act → Type 0) (x : ℕ) → ((t : Server) (a : Act) → IsFlushing x a → F t a) → (list : List Act) (s : Server) → AllFlushing x list → Fit F s list
flushing_fit F x to [] s all = tt
flushing_fit F x to (a ∷ list) s all = (to s a all.0, flushing_fit F x to list (act s a) all.1)

cap_more : (entries more : List Entry) (asked : Request) → CapAt entries asked → CapAt (entries ++ more) asked
cap_more entries more (request.Cap ino mode) is = known_more entries more ino is
cap_more entries more asked is = tt

caps_more : (entries more : List Entry) (list : List Asked) → AllCaps entries list → AllCaps (entries ++ more) list
caps_more entries more [] all = tt
caps_more entries more (a ∷ list) all = (cap_more entries more a.request all.0, caps_more entries more list all.1)

pub anew_fit : (F : Server → Act → Type 0) → ((t : Server) (a : Act) → IsRuled t.entries a → F t a) → (list : List Asked) (s : Server) → AllCaps s.entries list → Fit F s (each (λ t (a : Asked). TakeHeld a.client ∷ treat false (act t (TakeHeld a.client)) a) s list)
anew_fit F to [] s caps = tt
anew_fit F to (a ∷ list) s caps =
    let t = act s (TakeHeld a.client) in
    let first = TakeHeld a.client ∷ treat false t a in
    let more = grown_all first s in
    fit_append F s first (each (λ t (a : Asked). TakeHeld a.client ∷ treat false (act t (TakeHeld a.client)) a) (acts s first) list)
    (to s (TakeHeld a.client) tt, ruled_fit F to (treat false t a) t (ruled_treat t false a caps.0))
    (anew_fit F to list (acts s first) (subst (λ (l : List Entry). AllCaps l list) (sym more.1) (caps_more s.entries more.0 list caps.1)))

-- lists of requests
caps_append : (entries : List Entry) (xs ys : List Asked) → AllCaps entries xs → AllCaps entries ys → AllCaps entries (xs ++ ys)
caps_append entries [] ys all more = more
caps_append entries (a ∷ xs) ys all more = (all.0, caps_append entries xs ys all.1 more)

caps_filter : (entries : List Entry) (p : Asked → Bool) (xs : List Asked) → AllCaps entries xs → AllCaps entries (filter p xs)
caps_filter entries p [] all = tt
caps_filter entries p (a ∷ xs) all = by_test (p a) (caps_filter entries p xs all.1)
  where
    by_test : (b : Bool) → AllCaps entries (filter p xs) → AllCaps entries (cond b (a ∷ filter p xs) (filter p xs))
    by_test true rest = (all.0, rest)
    by_test false rest = rest

caps_first : (entries : List Entry) (xs : List Asked) → AllCaps entries xs → AllCaps entries (as_list (first_of xs))
caps_first entries [] all = tt
caps_first entries (a ∷ xs) all = (all.0, tt)

caps_drop : (entries : List Entry) (xs : List Asked) → AllCaps entries xs → AllCaps entries (drop 1 xs)
caps_drop entries [] all = tt
caps_drop entries (a ∷ xs) all = all.1

-- mail names files that were known when it was made
abbrev NamedBy : List Entry → Option ToClient → Type 0
NamedBy entries None = Unit {0}
NamedBy entries (Some told) = NamesKnown entries told

abbrev AllMail : List Entry → List (ℕ × Sent) → Type 0
AllMail entries [] = Unit {0}
AllMail entries (m ∷ mail) = (m.0 ≤ length entries) × NamedBy (take m.0 entries) (told_by m.1.message) × AllMail entries mail

mail_more : (entries : List Entry) (e : Entry) (mail : List (ℕ × Sent)) → AllMail entries mail → AllMail (entries ++ e ∷ []) mail
mail_more entries e [] all = tt
mail_more entries e (m ∷ mail) all =
    (let less = all.0 in grind (arith, less, length-append), subst (λ (l : List Entry). NamedBy l (told_by m.1.message)) (sym (take-append-le m.0 entries (e ∷ []) all.0)) all.1, mail_more entries e mail all.2)

mail_end : (entries : List Entry) (mail : List (ℕ × Sent)) (sent : Sent) → NamedBy entries (told_by sent.message) → AllMail entries mail → AllMail entries (mail ++ (length entries, sent) ∷ [])
mail_end entries [] sent named all = (omega arith, subst (λ (l : List Entry). NamedBy l (told_by sent.message)) (sym (take-length entries)) named, tt)
mail_end entries (m ∷ mail) sent named all = (all.0, all.1, mail_end entries mail sent named all.2)

mail_waits : (entries : List Entry) (d : ℕ) (mail : List (ℕ × Sent)) → AllMail entries mail → AllMail entries (waits d mail)
mail_waits entries d [] all = tt
mail_waits entries d (m ∷ mail) all = by_test (nat_le m.0 d) (mail_waits entries d mail all.2)
  where
    by_test : (b : Bool) → AllMail entries (waits d mail) → AllMail entries (cond b (waits d mail) (m ∷ mail))
    by_test true rest = rest
    by_test false rest = all

-- what has been sent
abbrev pub AllKnown : List Entry → List ToClient → Type 0
AllKnown entries [] = Unit {0}
AllKnown entries (m ∷ down) = NamesKnown entries m × AllKnown entries down

known_append : (entries : List Entry) (p q : List ToClient) → AllKnown entries p → AllKnown entries q → AllKnown entries (p ++ q)
known_append entries [] q all more = more
known_append entries (m ∷ p) q all more = (all.0, known_append entries p q all.1 more)

names_more : (entries more : List Entry) (m : ToClient) → NamesKnown entries m → NamesKnown (entries ++ more) m
names_more entries more (Grant conn tid st ino mode size file) is = known_more entries more ino is
names_more entries more (Reply conn tid st said) is = says_more entries more said is
names_more entries more m is = tt

all_known_more : (entries more : List Entry) (down : List ToClient) → AllKnown entries down → AllKnown (entries ++ more) down
all_known_more entries more [] all = tt
all_known_more entries more (m ∷ down) all = (names_more entries more m all.0, all_known_more entries more down all.1)

gone_known : (n : ℕ) (entries : List Entry) (d : ℕ) → d ≤ length entries → (mail : List (ℕ × Sent)) → AllMail entries mail → AllKnown (take d entries) (mine n (to_clients (goes d mail)))
gone_known n entries d fits [] all = tt
gone_known n entries d fits (m ∷ mail) all = by_test (nat_le m.0 d) refl (gone_known n entries d fits mail all.2)
  where
    one : (to : ℕ) (x : Message) → NamedBy (take m.0 entries) (told_by x) → m.0 ≤ d → AllKnown (take d entries) (mine n (to_clients (goes d mail))) → AllKnown (take d entries) (mine n (cons_option (told_to to x) (to_clients (goes d mail))))
    one to (message.ToClient told) named less rest = by_number (to == n)
      where
        by_number : (b : Bool) → AllKnown (take d entries) (cond b (told ∷ mine n (to_clients (goes d mail))) (mine n (to_clients (goes d mail))))
        by_number true = (longer (λ (l : List Entry). NamesKnown l told) (λ xs ys is. names_more xs ys told is) m.0 d entries less fits named, rest)
        by_number false = rest
    one to x named less rest = rest

    by_test : (b : Bool) → nat_le m.0 d ≡ b → AllKnown (take d entries) (mine n (to_clients (goes d mail))) → AllKnown (take d entries) (mine n (to_clients (cond b (m.1 ∷ goes d mail) [])))
    by_test true test rest = one m.1.to m.1.message all.1 (grind (arith, nat_tests, test)) rest
    by_test false test rest = tt

-- the server
pub record Knows (s : Server) : Type 0 where
  pub fits : s.durable ≤ length s.entries
  pub hand : AllCaps s.entries (as_list s.hand)
  pub held : AllCaps s.entries s.held
  pub deferred : AllCaps s.entries s.deferred
  pub operation : AllCaps s.entries (as_list s.operation)
  pub mail : AllMail s.entries s.mail

-- an act fits that grants, or finds, a known file
abbrev pub KnownFits : Server → Act → Type 0
KnownFits s (GrantIt ino mode) = Known s.entries ino
KnownFits s (AnswerIt said) = SaysKnown s.entries said
KnownFits s a = Unit {0}

pub ruled_known : (s : Server) (a : Act) → IsRuled s.entries a → KnownFits s a
ruled_known s (GrantIt ino mode) is = is
ruled_known s (AnswerIt said) is = is
ruled_known s a is = tt

pub flushing_known : (x : ℕ) (s : Server) (a : Act) → IsFlushing x a → KnownFits s a
flushing_known x s (GrantIt ino mode) is = absurd is
flushing_known x s (AnswerIt said) is = absurd is
flushing_known x s a is = tt

abbrev ToldKnown : List Entry → Told → Type 0
ToldKnown entries (Answered tid said) = SaysKnown entries said
ToldKnown entries (Granted tid ino mode) = Known entries ino
ToldKnown entries told = Unit {0}

told_names : (s : Server) (conn : ℕ) (told : Told) → ToldKnown s.entries told → NamesKnown s.entries (message_of s conn told)
told_names s conn (Answered tid said) is = is
told_names s conn (Granted tid ino mode) is = is
told_names s conn (WantedBack ino) is = tt
told_names s conn (Changed inos) is = tt
told_names s conn (Acked number) is = tt

send_knows : (s : Server) (sent : Sent) → NamedBy s.entries (told_by sent.message) → Knows s → Knows (send s sent)
send_knows s sent named k = record { fits = k.fits; hand = k.hand; held = k.held; deferred = k.deferred; operation = k.operation; mail = mail_end s.entries s.mail sent named k.mail }

tell_knows : (s : Server) (x : ℕ) (told : Told) → ToldKnown s.entries told → Knows s → Knows (tell s x told)
tell_knows s x told is k = by_number (number_of s.current x)
  where
    by_number : (o : Option ℕ) → Knows (tell_at s x told o)
    by_number None = k
    by_number (Some conn) = send_knows s (record { to = x; message = message.ToClient (message_of s conn told) }) (told_names s conn told is) k

buffer_knows : (s : Server) (e : Entry) → Knows s → Knows (buffer s e)
buffer_knows s e k = notices_keep Knows (λ t x inos so. tell_knows t x (Changed inos) tt so) s.entries (up_to s.clients) (record s { entries = s.entries ++ e ∷ [] }) (record {
  fits = let fits = k.fits in grind (arith, fits, length-append);
  hand = caps_more s.entries (e ∷ []) (as_list s.hand) k.hand;
  held = caps_more s.entries (e ∷ []) s.held k.held;
  deferred = caps_more s.entries (e ∷ []) s.deferred k.deferred;
  operation = caps_more s.entries (e ∷ []) (as_list s.operation) k.operation;
  mail = mail_more s.entries e s.mail k.mail;
})

-- with other requests at the server's places
places : (s : Server) (hand : Option Asked) (held deferred : List Asked) (operation : Option Asked) → AllCaps s.entries (as_list hand) → AllCaps s.entries held → AllCaps s.entries deferred → AllCaps s.entries (as_list operation) → Knows s → Knows (record s { hand = hand; held = held; deferred = deferred; operation = operation })
places s hand held deferred operation one two three four k = record { fits = k.fits; hand = one; held = two; deferred = three; operation = four; mail = k.mail }

pub one_knows : (s : Server) (a : Act) → KnownFits s a → Knows s → Knows (act s a)
one_knows s (TellRecall x ino) fit k = tell_knows s x (WantedBack ino) tt k
one_knows s (TellAck x number) fit k = tell_knows s x (Acked number) tt k
one_knows s (TellRestart x) fit k = send_knows s (record { to = x; message = message.ToClient (Restarted (stamp s)) }) tt k
one_knows s (AnswerIt said) fit k = by_hand s.hand
  where
    by_hand : (h : Option Asked) → Knows (answer_hand s said h)
    by_hand None = k
    by_hand (Some a) = tell_knows (record s { hand = None }) a.client (Answered a.tid said) fit (places s None s.held s.deferred s.operation tt k.held k.deferred k.operation k)
one_knows s (GrantIt ino mode) fit k = by_hand s.hand
  where
    by_hand : (h : Option Asked) → Knows (grant_hand s ino mode h)
    by_hand None = k
    by_hand (Some a) = tell_knows (record s { hand = None }) a.client (Granted a.tid ino mode) fit (places s None s.held s.deferred s.operation tt k.held k.deferred k.operation k)
one_knows s (MakeEffect made) fit k = by_hand s.hand
  where
    by_said : (a : Asked) (o : Option What) → Knows (buffer_for s a o)
    by_said a None = k
    by_said a (Some said) = buffer_knows s (entry_for a said) k

    by_hand : (h : Option Asked) → Knows (effect_hand s made h)
    by_hand None = k
    by_hand (Some a) = by_said a (written_down made)
one_knows s (Prepare said) fit k = by_hand s.hand k.hand
  where
    by_hand : (h : Option Asked) → AllCaps s.entries (as_list h) → Knows (prepare_hand s said h)
    by_hand None caps = k
    by_hand (Some a) caps = buffer_knows (record s { operation = Some a; hand = None }) (entry_for a said) (places s None s.held s.deferred (Some a) tt k.held k.deferred caps k)
one_knows s (Buffer e) fit k = buffer_knows s e k
one_knows s Wait fit k = places s None (s.held ++ as_list s.hand) s.deferred s.operation tt (caps_append s.entries s.held (as_list s.hand) k.held k.hand) k.deferred k.operation k
one_knows s Defer fit k = places s None s.held (s.deferred ++ as_list s.hand) s.operation tt k.held (caps_append s.entries s.deferred (as_list s.hand) k.deferred k.hand) k.operation k
one_knows s DeferFirst fit k = places s None s.held (as_list s.hand ++ s.deferred) s.operation tt k.held (caps_append s.entries (as_list s.hand) s.deferred k.hand k.deferred) k.operation k
one_knows s (TakeHeld x) fit k = places s (first_of (filter (of_client x) s.held)) (filter (λ a. not (of_client x a)) s.held) s.deferred s.operation
    (caps_first s.entries (filter (of_client x) s.held) (caps_filter s.entries (of_client x) s.held k.held)) (caps_filter s.entries (λ a. not (of_client x a)) s.held k.held) k.deferred k.operation k
one_knows s TakeDeferred fit k = places s (first_of s.deferred) s.held (drop 1 s.deferred) s.operation (caps_first s.entries s.deferred k.deferred) k.held (caps_drop s.entries s.deferred k.deferred) k.operation k
one_knows s TakeOperation fit k = places s s.operation s.held s.deferred None k.operation k.held k.deferred tt k
one_knows s (SendPurge id) fit k = record { fits = k.fits; hand = k.hand; held = k.held; deferred = k.deferred; operation = k.operation; mail = mail_end s.entries s.mail (record { to = s.clients + 1; message = message.ToStore (Purge id) }) tt k.mail }
one_knows s (SendDelete ino) fit k = record { fits = k.fits; hand = k.hand; held = k.held; deferred = k.deferred; operation = k.operation; mail = mail_end s.entries s.mail (record { to = s.clients + 1; message = message.ToStore (Delete ino (context s.entries ino)) }) tt k.mail }
one_knows s a fit k = record { fits = k.fits; hand = k.hand; held = k.held; deferred = k.deferred; operation = k.operation; mail = k.mail }

-- flushes on the way to the server are of known files, and their numbers can be
abbrev pub GoodAt : List Entry → ToServer → Type 0 → Type 0
GoodAt entries (Flush conn f) Rest = (Known entries f.ino × (flush_fits f ≡ true)) × Rest
GoodAt entries message Rest = Rest

abbrev pub AllGood : List Entry → List ToServer → Type 0
AllGood entries [] = Unit {0}
AllGood entries (m ∷ up) = GoodAt entries m (AllGood entries up)

good_tail : (entries : List Entry) (m : ToServer) (up : List ToServer) → AllGood entries (m ∷ up) → AllGood entries up
good_tail entries (Flush conn f) up all = all.1
good_tail entries m up all = all

good_append : (entries : List Entry) (up more : List ToServer) → AllGood entries up → AllGood entries more → AllGood entries (up ++ more)
good_append entries [] more all then = then
good_append entries (Flush conn f ∷ up) more all then = (all.0, good_append entries up more all.1 then)
good_append entries (m ∷ up) more all then = good_append entries up more all then

good_none : (entries : List Entry) (up : List ToServer) → NoFlush up → AllGood entries up
good_none entries [] none = tt
good_none entries (Flush conn f ∷ up) none = absurd none
good_none entries (m ∷ up) none = good_none entries up none

good_more : (entries more : List Entry) (up : List ToServer) → AllGood entries up → AllGood (entries ++ more) up
good_more entries more [] all = tt
good_more entries more (Flush conn f ∷ up) all = ((known_more entries more f.ino all.0.0, all.0.1), good_more entries more up all.1)
good_more entries more (m ∷ up) all = good_more entries more up all

-- of a client and its channels
pub record Around (entries : List Entry) (c : Client) (q : List ToServer) (p : List ToClient) : Type 0 where
  pub down : AllKnown entries p
  pub holds : HoldsIn entries c
  pub up : AllGood entries q

around_more : (c : Client) (up : List ToServer) (down : List ToClient) (entries more : List Entry) → Around entries c up down → Around (entries ++ more) c up down
around_more c up down entries more a = record { down = all_known_more entries more down a.down; holds = holding_more c.files c.contexts c.under entries more a.holds; up = good_more entries more up a.up }

abbrev front : Server → List Entry
front s = take s.durable s.entries

-- The server knows the files of all requests that it keeps and of its mail, and what is durable makes all files that the
-- client holds, or will hold, and flushes.
abbrev pub Knowing : View
Knowing n c up down s = Knows s × Around (take s.durable s.entries) c up down

front_same : (s : Server) (a : Act) → s.durable ≤ length s.entries → front (act s a) ≡ front s
front_same s a fits = (act_keeps (by_entries (λ entries durable. (durable ≤ length entries) × (take durable entries ≡ front s)) enters) s a (fits, refl)).1
  where
    enters : (t : Server) (e : Entry) → (t.durable ≤ length t.entries) × (front t ≡ front s) → (t.durable ≤ length (t.entries ++ e ∷ [])) × (take t.durable (t.entries ++ e ∷ []) ≡ front s)
    enters t e so = (let less = so.0 in grind (arith, less, length-append), take-append-le t.durable t.entries (e ∷ []) so.0 ∙ so.1)

one : (n : ℕ) (c : Client) (up : List ToServer) (down : List ToClient) (s : Server) (a : Act) → KnownFits s a → Knowing n c up down s → Knowing n c up down (act s a)
one n c up down s a fit k = (one_knows s a fit k.0, subst (λ (l : List Entry). Around l c up down) (sym (front_same s a k.0.fits)) k.1)

hands : (n : ℕ) (c : Client) (up : List ToServer) (down : List ToClient) (s : Server) → Knowing n c up down s → Server's Knowing n c up down (hand_out s)
hands n c up down s k = (
  record { fits = k.0.fits; hand = tt; held = k.0.held; deferred = k.0.deferred; operation = k.0.operation; mail = mail_waits s.entries s.durable s.mail k.0.mail },
  record { down = known_append (front s) down (mine n (to_clients (goes s.durable s.mail))) k.1.down (gone_known n s.entries s.durable k.0.fits s.mail k.0.mail); holds = k.1.holds; up = k.1.up },
)

by_acts : (n : ℕ) (c : Client) (up : List ToServer) (down : List ToClient) → KeptByActs KnownFits (Knowing n c up down) (Server's Knowing n c up down)
by_acts n c up down = record {
  one = λ s a fit k. one n c up down s a fit k;
  hands = hands n c up down;
  anew = λ s k. anew_fit KnownFits ruled_known s.held s k.0.held;
}

-- the rows of the server
pub row_if : (After : Row Server → Type 0) (b : Bool) (x y : Row Server) → (b ≡ true → After x) → After y → After (cond b x y)
row_if After true x y here other = here refl
row_if After false x y here other = other

pub and_true : (a b : Bool) → (a && b) ≡ true → (a ≡ true) × (b ≡ true)
and_true true b is = (refl, is)
and_true false b is = absurd (true≢false (sym is))

pub knows_cap : (s : Server) (asked : Request) → knows_asked s asked ≡ true → CapAt s.entries asked
knows_cap s (request.Cap ino mode) is = made_known s.entries ino is
knows_cap s asked is = tt

hand_caps : (s : Server) (a : Asked) → CapAt s.entries a.request → AllCaps s.entries (as_list (hand_for s a))
hand_caps s a cap = by_test (is_operation s a)
  where
    by_test : (b : Bool) → AllCaps s.entries (as_list (cond b None (Some a)))
    by_test true = tt
    by_test false = (cap, tt)

pub take_in_knows : (s : Server) (a : Asked) → CapAt s.entries a.request → Knows s → Knows (take_in s a)
take_in_knows s a cap k = places s (hand_for s a) s.held s.deferred s.operation (hand_caps s a cap) k.held k.deferred k.operation k

-- A request is taken, where its acts fit and what else holds reads nothing of the hand.
pub ask_row : {F : Server → Act → Type 0} {R : Server → Type 0} {After : Row Server → Type 0} → KeptByActs F (λ t. Knows t × R t) After → ((t : Server) (a : Act) → IsRuled t.entries a → F t a) → ((t : Server) (hand : Option Asked) → R t → R (record t { hand = hand })) → (s : Server) (x conn tid : ℕ) (asked : Request) → Knows s × R s → After (on_take s x (Ask conn tid asked))
ask_row {F} {R} {After} kept to blind s x conn tid asked k =
    row_if After (is_current s x conn && knows_asked s asked) (ask s (asked_by x tid asked)) (drops s)
    (λ may. taken (knows_cap s asked (and_true (is_current s x conn) (knows_asked s asked) may).1)) (kept.hands s k)
  where
    taken : CapAt s.entries asked → After (ask s (asked_by x tid asked))
    taken cap =
        let t = take_in s (asked_by x tid asked) in
        row_keeps kept t (treat false t (asked_by x tid asked)) (ruled_fit F to (treat false t (asked_by x tid asked)) t (ruled_treat t false (asked_by x tid asked) cap)) (take_in_knows s (asked_by x tid asked) cap k.0, blind s (hand_for s (asked_by x tid asked)) k.1)

abbrev pub BroughtCap : List Entry → Option Asked → Type 0
BroughtCap entries None = Unit {0}
BroughtCap entries (Some a) = CapAt entries a.request

pub brought_cap : (s : Server) (o : Option Asked) → knows_brought s o ≡ true → BroughtCap s.entries o
brought_cap s None is = tt
brought_cap s (Some a) is = knows_cap s a.request is

pub brought_more : (entries more : List Entry) (o : Option Asked) → BroughtCap entries o → BroughtCap (entries ++ more) o
brought_more entries more None cap = tt
brought_more entries more (Some a) cap = cap_more entries more a.request cap

-- a connection has its Welcome
pub welcome_knows : (x conn : ℕ) (t : Server) → Knows t → Knows (welcome (connected t x conn) x conn)
welcome_knows x conn t now = record {
  fits = now.fits;
  hand = now.hand;
  held = caps_filter t.entries (λ a. not (of_client x a)) t.held now.held;
  deferred = caps_filter t.entries (λ a. not (of_client x a)) t.deferred now.deferred;
  operation = now.operation;
  mail = mail_end t.entries t.mail _ tt now.mail;
}

-- A connection is taken, where what else holds does after its Welcome.
pub connect_row : {F : Server → Act → Type 0} {R : Server → Type 0} {After : Row Server → Type 0} → KeptByActs F (λ t. Knows t × R t) After → ((t : Server) (a : Act) → IsRuled t.entries a → F t a) → ((t : Server) (hand : Option Asked) → R t → R (record t { hand = hand }))
    → (s : Server) (x conn : ℕ) (said : List Claim) (flushes : List FlushMsg) (asked : Option (ℕ × Request)) → Knows s × R s → R (welcome (connected (acts s (come_back s x said flushes)) x conn) x conn) → After (on_take s x (Connect conn said flushes asked))
connect_row {F} {R} {After} kept to blind s x conn said flushes asked k then =
    row_if After (to_server_fits (Connect conn said flushes asked)) _ (drops s)
    (λ fine. row_if After (may_connect s x conn said flushes (brought x asked)) _ (drops s) (λ may. taken (brought_cap s (brought x asked) (knows may))) (kept.hands s k))
    (kept.hands s k)
  where
    knows : may_connect s x conn said flushes (brought x asked) ≡ true → knows_brought s (brought x asked) ≡ true
    knows may =
        let a = nat_lt (connection s x) conn in
        let b = list_all (λ (claim : Claim). knows_file s claim.ino) said in
        let d = list_all (λ (f : FlushMsg). knows_file s f.ino) flushes in
        (and_true (a && b && d) (knows_brought s (brought x asked)) may).1

    came : Knows (acts s (come_back s x said flushes))
    came = acts_keep {F = KnownFits} {Q = Knows} one_knows (come_back s x said flushes) s (flushing_fit KnownFits x (flushing_known x) (come_back s x said flushes) s (flushing_back s x said flushes)) k.0

    in_hand : (t : Server) (o : Option Asked) → BroughtCap t.entries o → Knows t × R t → Knows (take_in_brought t o) × R (take_in_brought t o)
    in_hand t None cap now = now
    in_hand t (Some a) cap now = (take_in_knows t a cap now.0, blind t (hand_for t a) now.1)

    treats : (t : Server) (o : Option Asked) → BroughtCap t.entries o → Fit F (take_in_brought t o) (treat_brought (take_in_brought t o) o)
    treats t None cap = tt
    treats t (Some a) cap = ruled_fit F to (treat false (take_in t a) a) (take_in t a) (ruled_treat (take_in t a) false a cap)

    taken : BroughtCap s.entries (brought x asked) → After (connect_with (back s x conn said flushes (brought x asked)) (brought x asked))
    taken cap =
        let more = grown_all (come_back s x said flushes) s in
        let t = welcome (connected (acts s (come_back s x said flushes)) x conn) x conn in
        let now : BroughtCap t.entries (brought x asked) = subst (λ (l : List Entry). BroughtCap l (brought x asked)) (sym more.1) (brought_more s.entries more.0 (brought x asked) cap) in
        connect_keeps kept (back s x conn said flushes (brought x asked)) (brought x asked) (treats t (brought x asked) now) (in_hand t (brought x asked) now (welcome_knows x conn (acts s (come_back s x said flushes)) came, then))

-- what is around a client, as a statement on the server
abbrev Here : Client → List ToServer → List ToClient → Server → Type 0
Here c up down s = Around (take s.durable s.entries) c up down

pub takes_row : (n x : ℕ) (c : Client) (m : ToServer) (up : List ToServer) (down : List ToClient) (s : Server) → Knowing n c up down s → Server's Knowing n c up down (on_take s x m)
takes_row n x c (Connect conn said flushes asked) up down s k =
    connect_row {R = Here c up down} (by_acts n c up down) ruled_known (λ t hand so. so) s x conn said flushes asked k
    (acts_keep (by_acts n c up down).one (come_back s x said flushes) s (flushing_fit KnownFits x (flushing_known x) (come_back s x said flushes) s (flushing_back s x said flushes)) k).1
takes_row n x c (Ask conn tid asked) up down s k = ask_row {R = Here c up down} (by_acts n c up down) ruled_known (λ t hand so. so) s x conn tid asked k
takes_row n x c (Flush conn f) up down s k = take_flush (by_acts n c up down) s x conn f k (flushing_fit KnownFits x (flushing_known x) (flush_rule x s f) s (flushing_flush x s f))
takes_row n x c (DropRead conn ino) up down s k = take_drop (by_acts n c up down) s x conn ino k (ruled_fit KnownFits ruled_known (on_drop x s ino) s (ruled_drop x s ino))
takes_row n x c (Purged id) up down s k = take_purged (by_acts n c up down) s x id k
takes_row n x c (Deleted ino) up down s k = take_deleted (by_acts n c up down) s x ino k

pub durable_knows : (s : Server) → Knows s → Knows (record s { durable = length s.entries })
durable_knows s k = record { fits = omega arith; hand = k.hand; held = k.held; deferred = k.deferred; operation = k.operation; mail = k.mail }

durable_row : (n : ℕ) (c : Client) (up : List ToServer) (down : List ToClient) (s : Server) → Knowing n c up down s → Knowing n c up down (record s { durable = length s.entries })
durable_row n c up down s k = (
  durable_knows s k.0,
  subst (λ (l : List Entry). Around l c up down) (sym (take-length s.entries)) (from_front (λ (l : List Entry). Around l c up down) (around_more c up down) s.durable s.entries k.1),
)

pub left_knows : (s : Server) (k : ℕ) → nat_le k (buffered s) ≡ true → Knows s → Knows (left_with s (s.durable + k))
left_knows s k fits now = record { fits = let long = length-take-le (s.durable + k) s.entries (room k s fits now.fits) in omega (arith, long); hand = tt; held = tt; deferred = tt; operation = tt; mail = tt }

left_row : (n : ℕ) (c : Client) (up : List ToServer) (down : List ToClient) (s : Server) (k : ℕ) → nat_le k (buffered s) ≡ true → Knowing n c up down s → Knowing n c up down (left_with s (s.durable + k))
left_row n c up down s k fits now = (
  left_knows s k fits now.0,
  subst (λ (l : List Entry). Around l c up down) (sym (take_take (s.durable + k) (s.durable + k) s.entries (omega arith) (room k s fits now.0.fits)))
      (longer (λ (l : List Entry). Around l c up down) (around_more c up down) s.durable (s.durable + k) s.entries (omega arith) (room k s fits now.0.fits) now.1),
)

turn_fit : (n : ℕ) (c : Client) (up : List ToServer) (down : List ToClient) (s : Server) → Knowing n c up down s → IfSome (turn s) (Fit KnownFits s)
turn_fit n c up down s k = by_turn (turn s) (ruled_turn s k.0.deferred)
  where
    by_turn : (o : Option (List Act)) → IfSome o (AllRuled s.entries) → IfSome o (Fit KnownFits s)
    by_turn None all = tt
    by_turn (Some list) all = ruled_fit KnownFits ruled_known list s all

-- the rows of the client
stays_row : (n : ℕ) (c : Client) (up : List ToServer) (down : List ToClient) (s : Server) (r : Row Client) → Knows s → AllKnown (take s.durable s.entries) down → AllGood (take s.durable s.entries) up → Stays (take s.durable s.entries) c r → Client's Knowing n up down s r
stays_row n c up down s r knows known good stays = (knows, record { down = known; holds = stays.holds; up = good_append (take s.durable s.entries) up (for_server r.sent) good (good_none (take s.durable s.entries) (for_server r.sent) stays.none) })

sends_row : (n : ℕ) (c : Client) (up : List ToServer) (down : List ToClient) (s : Server) (r : Row Client) → Knowing n c up down s → Sends (take s.durable s.entries) c r → Client's Knowing n up down s r
sends_row n c up down s r k (inl stays) = stays_row n c up down s r k.0 k.1.down k.1.up stays
sends_row n c up down s r k (inr f) = (k.0, record { down = k.1.down; holds = f.holds; up = good_append (take s.durable s.entries) up (for_server r.sent) k.1.up (subst (AllGood (take s.durable s.entries)) (sym f.sent) ((f.known, f.fits), tt)) })

told_row : (n : ℕ) (c : Client) (up : List ToServer) (m : ToClient) (down : List ToClient) (s : Server) (r : Row Client) → Knowing n c up (m ∷ down) s → Takes (take s.durable s.entries) c m r → Client's Knowing n up down s r
told_row n c up m down s r k (inl stays) = stays_row n c up down s r k.0 k.1.down.1 k.1.up stays
told_row n c up m down s r k (inr settles) = (k.0, record { down = k.1.down.1; holds = settles.holds; up = good_append (take s.durable s.entries) up (for_server r.sent) k.1.up (subst (AllGood (take s.durable s.entries)) (sym settles.sent) tt) })

pub knowing : KeptByRows Knowing
knowing = record {
  op = λ n c up down s k. if_row (on_op c) (Stays (take s.durable s.entries) c) (Client's Knowing n up down s) (λ r stays. stays_row n c up down s r k.0 k.1.down k.1.up stays) (op_stays (take s.durable s.entries) c c.lines k.1.holds);
  flush = λ n c up down s k. if_row (on_flush c) (λ r. (c.frozen ≡ false) × Sends (take s.durable s.entries) c r) (Client's Knowing n up down s) (λ r sends. sends_row n c up down s r k sends.1) (flush_sends (take s.durable s.entries) c k.1.holds);
  told = λ n c up m down s k. told_row n c up m down s (on_told c m) k (told_takes (take s.durable s.entries) c m k.1.down.0 k.1.holds);
  stored = λ n c m up down s k. stays_row n c up down s (on_stored c m) k.0 k.1.down k.1.up (stored_stays (take s.durable s.entries) c m k.1.holds);
  own = λ n c m up down s k. takes_row n n c m up down s (k.0, record { down = k.1.down; holds = k.1.holds; up = good_tail (take s.durable s.entries) m up k.1.up });
  other = λ n x c m up down s other k. takes_row n x c m up down s k;
  reported = λ n c m up down s k. row_keeps (by_acts n c up down) s (reported s m) (ruled_fit KnownFits ruled_known (reported s m) s (ruled_reported s m)) k;
  committed = λ n c up down s k. commit_keeps {Q = Knowing n c up down} {After = Server's Knowing n c up down} (λ r e after. after) (hands n c up down) s (durable_row n c up down s k);
  tended = λ n c up down s k. turn_keeps (by_acts n c up down) s (turn_fit n c up down s k) k;
  restarted = λ n c up down s k now. restart_keeps (λ r e after. after) (by_acts n c up down) s k (λ fits. (left_row n c up down s k fits now, ruled_fit KnownFits ruled_known (restarts (left_with s (s.durable + k))) (left_with s (s.durable + k)) (ruled_restarts (left_with s (s.durable + k)))));
}

pub first_knowing : (n store : ℕ) (lines : List Line) (script : Script) → Knowing n (new_client n store lines) [] [] (start script).server
first_knowing n store lines script = (
  record { fits = omega arith; hand = tt; held = tt; deferred = tt; operation = tt; mail = tt },
  record { down = tt; holds = record { files = tt; contexts = tt; under = tt }; up = tt },
)

pub knowing_holds : (script : Script) (steps : List Step) → EachClient Knowing (after (start script) steps)
knowing_holds script steps = run_keeps Knowing knowing (start script) steps (at_start Knowing script (λ n is. first_knowing n (script.clients + 1) (lines_of n script.lines) script))

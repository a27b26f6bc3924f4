-- Who holds a file at the server, and whose requests it keeps: clients that are connected, with files that were made.
use Rattle.std.proofs.Common.{◌≡◌, ℕ, ◌+◌, List, [], ◌∷◌, ◌++◌, map, drop, filter, Bool, true, false, true≢false, not, cond, Option, None, Some, refl, sym, subst, IfSome, arith}
use Rattle.std.proofs.lemmas.Bool.Decides.{nat_tests}
use Rattle.std.specs.Prelude.{◌==◌, ◌&&◌, nat_lt, nat_le, flat_map, find, is_some, Result, Ok, Err}
use Rattle.std.specs.List.{list_any, list_all}
use Rattle.snap_ids.specs.declared.id.Ino.{Ino}
use Rattle.snap_ids.specs.declared.id.SnapId.{SnapId}
use Rattle.snap_ids.specs.declared.values.Kind.{Kind}
use Rattle.snap_ids.specs.declared.values.Kind.TheVariants.{Dir, File}
use Rattle.snap_ids.specs.declared.values.Mode.{Mode}
use Rattle.snap_ids.specs.declared.values.Mode.TheVariants.{Read}
use Rattle.snap_ids.specs.Context.{is_listed}
use Rattle.plain_types.specs.declared.answer.Answer.{Answer}
use Rattle.plain_types.specs.declared.answer.Refusal.{Refusal}
use Rattle.plain_types.specs.declared.change.Change.{Change}
use Rattle.plain_types.specs.declared.change.Change.TheVariants as change
use Rattle.plain_types.specs.declared.entry.Entry.{Entry}
use Rattle.plain_types.specs.declared.entry.What.{What}
use Rattle.plain_types.specs.declared.entry.What.TheVariants.{PrepareCreate, PrepareDestroy}
use Rattle.plain_types.specs.declared.message.Claim.{Claim}
use Rattle.plain_types.specs.declared.message.FlushMsg.{FlushMsg}
use Rattle.plain_types.specs.declared.message.ToServer.{ToServer}
use Rattle.plain_types.specs.declared.message.ToServer.TheVariants.{Connect, Ask, Flush, DropRead, Purged, Deleted}
use Rattle.plain_types.specs.declared.request.Query.TheVariants as query
use Rattle.plain_types.specs.declared.request.Request.{Request}
use Rattle.plain_types.specs.declared.request.Request.TheVariants as request
use Rattle.plain_tree.specs.Query.{Found, InLive, SnapsOf, InTree}
use Rattle.plain_tree.specs.Request.{change_asked}
use Rattle.plain_tree.specs.State.{kind_in, same_ino}
use Rattle.plain_journal.specs.Answers.{found, answer_to}
use Rattle.plain_journal.specs.Entries.{state_after, tree_at}
use Rattle.plain_journal.specs.Table.{outstanding, last_flush, to_purge, dead, barrier}
use Rattle.held_files.specs.Files.{is_empty, is_write}
use Rattle.step_table.specs.Messages.{to_server_fits}
use Rattle.step_table.specs.ServerState.{Asked, Holder, Server, Told, Answered, Granted, WantedBack, Changed, Acked, tell, tell_at, number_of, up_to, all_connected, is_current, is_holder, is_writer, connection, welcome}
use Rattle.step_table.specs.Acts.{Act, TellRecall, TellAck, TellRestart, AnswerIt, GrantIt, MakeEffect, Prepare, Wait, Defer, DeferFirst, TakeHeld, TakeDeferred, TakeOperation, Buffer, SendDelete, Hold, Raise, MarkRecalled, Settled, LetGo, LetAllGo, act, acts, each, of_client, first_of, as_list, raised, recalled, settled, answer_hand, grant_hand, effect_hand, buffer_for, written_down, prepare_hand, entry_for, buffer}
use Rattle.step_table.specs.Capabilities.{in_conflict, against, is_recalled, recall, recalls, tenure, give_to, give, ask_cap, found_live, ask_found, clash, owing}
use Rattle.step_table.specs.Requests.{treat, treat_known, treat_new, kept_answer, is_operation, decided, make, prepare, is_busy, next_id, by_kind, settled_answer, look_at}
use Rattle.step_table.specs.Flushes.{knows_file, knows_asked, knows_brought, flush_settles, take_flush, on_flush, on_drop, claimed, take_claim, take_brought, come_back, asked_by, brought, hand_for, take_in, connected, may_connect, treat_brought}
use Rattle.step_table.specs.Background.{roll_back, finish, finish_with, least, unsent_purges, turn_deferred, turn_at, turn, holders_of, is_due, first_file, first_barrier, waits_at, is_finished, open_to, turn_barrier, turn_dead, turn_purge, turn_operation}
use Rattle.step_table.specs.ServerRows.{on_take, left_with, restarts, reported, roll_back_from, ask, back, drops}
use Rattle.run_laws.proofs.Acts.{Fit, fit_append, KeptByActs, acts_keep, notices_keep, row_keeps, connect_keeps, take_flush as flush_taken, take_drop, take_purged, take_deleted, turn_keeps, commit_keeps, restart_keeps}
use Rattle.run_laws.proofs.Known.{Known, known_more, made_known}
use Rattle.run_laws.proofs.Knowing.{grown_all, row_if, and_true, knows_cap}
use Rattle.run_laws.proofs.Ruled.{CapAt}
use Rattle.run_laws.proofs.Serving.{ServerGives, Keeps}
use Rattle.run_laws.proofs.Taking.{current_all}

-- a client that is connected
abbrev pub Seat : List (ℕ × ℕ) → ℕ → Type 0
Seat current x = is_some (number_of current x) ≡ true

abbrev pub HolderAt : List Entry → List (ℕ × ℕ) → Holder → Type 0
HolderAt entries current h = Known entries h.ino × Seat current h.client

abbrev pub AllHolders : List Entry → List (ℕ × ℕ) → List Holder → Type 0
AllHolders entries current [] = Unit {0}
AllHolders entries current (h ∷ holders) = HolderAt entries current h × AllHolders entries current holders

abbrev pub AskedAt : List Entry → List (ℕ × ℕ) → Asked → Type 0
AskedAt entries current a = CapAt entries a.request × Seat current a.client

abbrev pub AllAsk : List Entry → List (ℕ × ℕ) → List Asked → Type 0
AllAsk entries current [] = Unit {0}
AllAsk entries current (a ∷ list) = AskedAt entries current a × AllAsk entries current list

pub record SeatsAt (entries : List Entry) (current : List (ℕ × ℕ)) (hand : Option Asked) (held deferred : List Asked) (operation : Option Asked) (holders : List Holder) : Type 0 where
  pub in_hand : AllAsk entries current (as_list hand)
  pub in_held : AllAsk entries current held
  pub in_deferred : AllAsk entries current deferred
  pub in_operation : AllAsk entries current (as_list operation)
  pub table : AllHolders entries current holders

-- where these connections count too: those that are about to be accepted
abbrev pub SeatsWith : List (ℕ × ℕ) → Server → Type 0
SeatsWith extra s = SeatsAt s.entries (extra ++ s.current) s.hand s.held s.deferred s.operation s.holders

abbrev pub Seats : Server → Type 0
Seats s = SeatsWith [] s

-- lists of requests and holders
ask_append : (entries : List Entry) (current : List (ℕ × ℕ)) (xs ys : List Asked) → AllAsk entries current xs → AllAsk entries current ys → AllAsk entries current (xs ++ ys)
ask_append entries current [] ys all more = more
ask_append entries current (a ∷ xs) ys all more = (all.0, ask_append entries current xs ys all.1 more)

ask_filter : (entries : List Entry) (current : List (ℕ × ℕ)) (p : Asked → Bool) (xs : List Asked) → AllAsk entries current xs → AllAsk entries current (filter p xs)
ask_filter entries current p [] all = tt
ask_filter entries current p (a ∷ xs) all = by_test (p a) (ask_filter entries current p xs all.1)
  where
    by_test : (b : Bool) → AllAsk entries current (filter p xs) → AllAsk entries current (cond b (a ∷ filter p xs) (filter p xs))
    by_test true rest = (all.0, rest)
    by_test false rest = rest

ask_first : (entries : List Entry) (current : List (ℕ × ℕ)) (xs : List Asked) → AllAsk entries current xs → AllAsk entries current (as_list (first_of xs))
ask_first entries current [] all = tt
ask_first entries current (a ∷ xs) all = (all.0, tt)

ask_drop : (entries : List Entry) (current : List (ℕ × ℕ)) (xs : List Asked) → AllAsk entries current xs → AllAsk entries current (drop 1 xs)
ask_drop entries current [] all = tt
ask_drop entries current (a ∷ xs) all = all.1

holders_end : (entries : List Entry) (current : List (ℕ × ℕ)) (holders : List Holder) (h : Holder) → HolderAt entries current h → AllHolders entries current holders → AllHolders entries current (holders ++ h ∷ [])
holders_end entries current [] h at all = (at, tt)
holders_end entries current (g ∷ holders) h at all = (all.0, holders_end entries current holders h at all.1)

holders_filter : (entries : List Entry) (current : List (ℕ × ℕ)) (p : Holder → Bool) (holders : List Holder) → AllHolders entries current holders → AllHolders entries current (filter p holders)
holders_filter entries current p [] all = tt
holders_filter entries current p (h ∷ holders) all = by_test (p h) (holders_filter entries current p holders all.1)
  where
    by_test : (b : Bool) → AllHolders entries current (filter p holders) → AllHolders entries current (cond b (h ∷ filter p holders) (filter p holders))
    by_test true rest = (all.0, rest)
    by_test false rest = rest

holders_map : (entries : List Entry) (current : List (ℕ × ℕ)) (f : Holder → Holder) (holders : List Holder) → ((h : Holder) → HolderAt entries current h → HolderAt entries current (f h)) → AllHolders entries current holders → AllHolders entries current (map f holders)
holders_map entries current f [] go all = tt
holders_map entries current f (h ∷ holders) go all = (go h all.0, holders_map entries current f holders go all.1)

-- more entries, and more connections
cap_more : (entries more : List Entry) (asked : Request) → CapAt entries asked → CapAt (entries ++ more) asked
cap_more entries more (request.Cap ino mode) is = known_more entries more ino is
cap_more entries more asked is = tt

pub ask_to : (entries entries' : List Entry) (current current' : List (ℕ × ℕ)) → ((a : Asked) → AskedAt entries current a → AskedAt entries' current' a) → (xs : List Asked) → AllAsk entries current xs → AllAsk entries' current' xs
ask_to entries entries' current current' go [] all = tt
ask_to entries entries' current current' go (a ∷ xs) all = (go a all.0, ask_to entries entries' current current' go xs all.1)

holders_to : (entries entries' : List Entry) (current current' : List (ℕ × ℕ)) → ((h : Holder) → HolderAt entries current h → HolderAt entries' current' h) → (xs : List Holder) → AllHolders entries current xs → AllHolders entries' current' xs
holders_to entries entries' current current' go [] all = tt
holders_to entries entries' current current' go (h ∷ xs) all = (go h all.0, holders_to entries entries' current current' go xs all.1)

seats_to : {hand operation : Option Asked} {held deferred : List Asked} {holders : List Holder} (entries entries' : List Entry) (current current' : List (ℕ × ℕ)) → ((a : Asked) → AskedAt entries current a → AskedAt entries' current' a) → ((h : Holder) → HolderAt entries current h → HolderAt entries' current' h)
    → SeatsAt entries current hand held deferred operation holders → SeatsAt entries' current' hand held deferred operation holders
seats_to {hand} {operation} {held} {deferred} {holders} entries entries' current current' asks holds p = record {
  in_hand = ask_to entries entries' current current' asks (as_list hand) p.in_hand;
  in_held = ask_to entries entries' current current' asks held p.in_held;
  in_deferred = ask_to entries entries' current current' asks deferred p.in_deferred;
  in_operation = ask_to entries entries' current current' asks (as_list operation) p.in_operation;
  table = holders_to entries entries' current current' holds holders p.table;
}

seat_more : (x conn y : ℕ) (current : List (ℕ × ℕ)) → Seat current y → Seat ((x, conn) ∷ current) y
seat_more x conn y current is = by_test (x == y)
  where
    by_test : (b : Bool) → is_some (cond b (Some conn) (number_of current y)) ≡ true
    by_test true = refl
    by_test false = is

-- an act fits that holds a file that was made for a client that is connected
abbrev pub HoldFits : List (ℕ × ℕ) → Server → Act → Type 0
HoldFits extra s (Hold h) = HolderAt s.entries (extra ++ s.current) h
HoldFits extra s a = Unit {0}

tell_seats : (extra : List (ℕ × ℕ)) (s : Server) (x : ℕ) (told : Told) → SeatsWith extra s → SeatsWith extra (tell s x told)
tell_seats extra s x told p = by_number (number_of s.current x)
  where
    by_number : (o : Option ℕ) → SeatsWith extra (tell_at s x told o)
    by_number None = p
    by_number (Some conn) = p

buffer_seats : (extra : List (ℕ × ℕ)) (s : Server) (e : Entry) → SeatsWith extra s → SeatsWith extra (buffer s e)
buffer_seats extra s e p = notices_keep (SeatsWith extra) (λ t x inos so. tell_seats extra t x (Changed inos) so) s.entries (up_to s.clients) (record s { entries = s.entries ++ e ∷ [] })
    (seats_to s.entries (s.entries ++ e ∷ []) (extra ++ s.current) (extra ++ s.current) (λ a at. (cap_more s.entries (e ∷ []) a.request at.0, at.1)) (λ h at. (known_more s.entries (e ∷ []) h.ino at.0, at.1)) p)

pub handed : (extra : List (ℕ × ℕ)) (s : Server) (hand : Option Asked) → AllAsk s.entries (extra ++ s.current) (as_list hand) → SeatsWith extra s → SeatsWith extra (record s { hand = hand })
handed extra s hand at p = record { in_hand = at; in_held = p.in_held; in_deferred = p.in_deferred; in_operation = p.in_operation; table = p.table }

tabled : (extra : List (ℕ × ℕ)) (s : Server) (holders : List Holder) → AllHolders s.entries (extra ++ s.current) holders → SeatsWith extra s → SeatsWith extra (record s { holders = holders })
tabled extra s holders at p = record { in_hand = p.in_hand; in_held = p.in_held; in_deferred = p.in_deferred; in_operation = p.in_operation; table = at }

pub one : (extra : List (ℕ × ℕ)) (s : Server) (a : Act) → HoldFits extra s a → SeatsWith extra s → SeatsWith extra (act s a)
one extra s (TellRecall x ino) fit p = tell_seats extra s x (WantedBack ino) p
one extra s (TellAck x number) fit p = tell_seats extra s x (Acked number) p
one extra s (AnswerIt said) fit p = by_hand s.hand
  where
    by_hand : (o : Option Asked) → SeatsWith extra (answer_hand s said o)
    by_hand None = p
    by_hand (Some a) = tell_seats extra (record s { hand = None }) a.client (Answered a.tid said) (handed extra s None tt p)
one extra s (GrantIt ino mode) fit p = by_hand s.hand
  where
    by_hand : (o : Option Asked) → SeatsWith extra (grant_hand s ino mode o)
    by_hand None = p
    by_hand (Some a) = tell_seats extra (record s { hand = None }) a.client (Granted a.tid ino mode) (handed extra s None tt p)
one extra s (MakeEffect made) fit p = by_hand s.hand
  where
    by_said : (a : Asked) (o : Option What) → SeatsWith extra (buffer_for s a o)
    by_said a None = p
    by_said a (Some said) = buffer_seats extra s (entry_for a said) p

    by_hand : (o : Option Asked) → SeatsWith extra (effect_hand s made o)
    by_hand None = p
    by_hand (Some a) = by_said a (written_down made)
one extra s (Prepare said) fit p = by_hand s.hand p.in_hand
  where
    by_hand : (o : Option Asked) → AllAsk s.entries (extra ++ s.current) (as_list o) → SeatsWith extra (prepare_hand s said o)
    by_hand None at = p
    by_hand (Some a) at = buffer_seats extra (record s { operation = Some a; hand = None }) (entry_for a said) (record { in_hand = tt; in_held = p.in_held; in_deferred = p.in_deferred; in_operation = at; table = p.table })
one extra s (Buffer e) fit p = buffer_seats extra s e p
one extra s Wait fit p = record { in_hand = tt; in_held = ask_append s.entries (extra ++ s.current) s.held (as_list s.hand) p.in_held p.in_hand; in_deferred = p.in_deferred; in_operation = p.in_operation; table = p.table }
one extra s Defer fit p = record { in_hand = tt; in_held = p.in_held; in_deferred = ask_append s.entries (extra ++ s.current) s.deferred (as_list s.hand) p.in_deferred p.in_hand; in_operation = p.in_operation; table = p.table }
one extra s DeferFirst fit p = record { in_hand = tt; in_held = p.in_held; in_deferred = ask_append s.entries (extra ++ s.current) (as_list s.hand) s.deferred p.in_hand p.in_deferred; in_operation = p.in_operation; table = p.table }
one extra s (TakeHeld x) fit p = record {
  in_hand = ask_first s.entries (extra ++ s.current) (filter (of_client x) s.held) (ask_filter s.entries (extra ++ s.current) (of_client x) s.held p.in_held);
  in_held = ask_filter s.entries (extra ++ s.current) (λ a. not (of_client x a)) s.held p.in_held;
  in_deferred = p.in_deferred;
  in_operation = p.in_operation;
  table = p.table;
}
one extra s TakeDeferred fit p = record { in_hand = ask_first s.entries (extra ++ s.current) s.deferred p.in_deferred; in_held = p.in_held; in_deferred = ask_drop s.entries (extra ++ s.current) s.deferred p.in_deferred; in_operation = p.in_operation; table = p.table }
one extra s TakeOperation fit p = record { in_hand = p.in_operation; in_held = p.in_held; in_deferred = p.in_deferred; in_operation = tt; table = p.table }
one extra s (Hold h) fit p = tabled extra s (s.holders ++ h ∷ []) (holders_end s.entries (extra ++ s.current) s.holders h fit p.table) p
one extra s (Raise x ino upto) fit p = tabled extra s (map (raised x ino upto) s.holders) (holders_map s.entries (extra ++ s.current) (raised x ino upto) s.holders (λ h at. at) p.table) p
one extra s (MarkRecalled x ino) fit p = tabled extra s (map (recalled x ino) s.holders) (holders_map s.entries (extra ++ s.current) (recalled x ino) s.holders (λ h at. at) p.table) p
one extra s (Settled x ino upto) fit p = tabled extra s (map (settled x ino upto) s.holders) (holders_map s.entries (extra ++ s.current) (settled x ino upto) s.holders (λ h at. at) p.table) p
one extra s (LetGo x ino) fit p = tabled extra s (filter (λ h. not (is_holder x ino h)) s.holders) (holders_filter s.entries (extra ++ s.current) (λ h. not (is_holder x ino h)) s.holders p.table) p
one extra s (LetAllGo x) fit p = tabled extra s (filter (λ h. not (h.client == x)) s.holders) (holders_filter s.entries (extra ++ s.current) (λ h. not (h.client == x)) s.holders p.table) p
one extra s a fit p = p

-- what is held newly by a list of acts
abbrev HoldsOf : (Holder → Type 0) → Act → Type 0
HoldsOf P (Hold h) = P h
HoldsOf P a = Unit {0}

abbrev AllHold : (Holder → Type 0) → List Act → Type 0
AllHold P [] = Unit {0}
AllHold P (a ∷ list) = HoldsOf P a × AllHold P list

hold_append : (P : Holder → Type 0) (xs ys : List Act) → AllHold P xs → AllHold P ys → AllHold P (xs ++ ys)
hold_append P [] ys all more = more
hold_append P (a ∷ xs) ys all more = (all.0, hold_append P xs ys all.1 more)

hold_if : (P : Holder → Type 0) (b : Bool) (xs ys : List Act) → AllHold P xs → AllHold P ys → AllHold P (cond b xs ys)
hold_if P true xs ys here other = here
hold_if P false xs ys here other = other

hold_flat : {X : Type 0} (P : Holder → Type 0) (f : X → List Act) → ((x : X) → AllHold P (f x)) → (xs : List X) → AllHold P (flat_map f xs)
hold_flat P f go [] = tt
hold_flat P f go (x ∷ xs) = hold_append P (f x) (flat_map f xs) (go x) (hold_flat P f go xs)

hold_each : {X : Type 0} (P : Holder → Type 0) (rule : Server → X → List Act) → ((s : Server) (x : X) → AllHold P (rule s x)) → (s : Server) (xs : List X) → AllHold P (each rule s xs)
hold_each P rule go s [] = tt
hold_each P rule go s (x ∷ xs) = hold_append P (rule s x) (each rule (acts s (rule s x)) xs) (go s x) (hold_each P rule go (acts s (rule s x)) xs)

holds_to : (P Q : Holder → Type 0) → ((h : Holder) → P h → Q h) → (list : List Act) → AllHold P list → AllHold Q list
holds_to P Q go [] all = tt
holds_to P Q go (a ∷ list) all = (by_act a all.0, holds_to P Q go list all.1)
  where
    by_act : (a : Act) → HoldsOf P a → HoldsOf Q a
    by_act (Hold h) is = go h is
    by_act a is = tt

-- it stays right while the acts are done
later : (extra : List (ℕ × ℕ)) (s : Server) (list : List Act) (h : Holder) → HolderAt s.entries (extra ++ s.current) h → HolderAt (acts s list).entries (extra ++ (acts s list).current) h
later extra s list h at = let more = grown_all list s in (
  subst (λ (l : List Entry). Known l h.ino) (sym more.1) (known_more s.entries more.0 h.ino at.0),
  subst (λ (l : List (ℕ × ℕ)). Seat (extra ++ l) h.client) (sym (current_all list s)) at.1,
)

pub later_asked : (s : Server) (list : List Act) (a : Asked) → AskedAt s.entries s.current a → AskedAt (acts s list).entries (acts s list).current a
later_asked s list a at = let more = grown_all list s in (
  subst (λ (l : List Entry). CapAt l a.request) (sym more.1) (cap_more s.entries more.0 a.request at.0),
  subst (λ (l : List (ℕ × ℕ)). Seat l a.client) (sym (current_all list s)) at.1,
)

holds_fit : (extra : List (ℕ × ℕ)) (list : List Act) (s : Server) → AllHold (HolderAt s.entries (extra ++ s.current)) list → Fit (HoldFits extra) s list
holds_fit extra [] s all = tt
holds_fit extra (a ∷ list) s all = (by_act a all.0, holds_fit extra list (act s a) (holds_to (HolderAt s.entries (extra ++ s.current)) (HolderAt (act s a).entries (extra ++ (act s a).current)) (later extra s (a ∷ [])) list all.1))
  where
    by_act : (a : Act) → HoldsOf (HolderAt s.entries (extra ++ s.current)) a → HoldFits extra s a
    by_act (Hold h) is = is
    by_act a is = tt

-- the rules
hold_recalls : (P : Holder → Type 0) (s : Server) (ino : Ino) (clients : List ℕ) → AllHold P (recalls s ino clients)
hold_recalls P s ino clients = hold_flat P (recall s ino) (λ x. hold_if P (is_recalled s ino x) [] (MarkRecalled x ino ∷ TellRecall x ino ∷ []) tt (tt, (tt, tt))) clients

hold_give : (P : Holder → Type 0) (s : Server) (x : ℕ) (ino : Ino) (mode : Mode) → P (tenure s x ino mode) → AllHold P (give s x ino mode)
hold_give P s x ino mode is = by_holder (find (is_holder x ino) s.holders)
  where
    by_holder : (o : Option Holder) → AllHold P (give_to s x ino mode o)
    by_holder None = (is, tt)
    by_holder (Some h) = hold_if P (is_write mode && not (is_write h.mode)) _ [] (tt, tt) tt

hold_cap : (P : Holder → Type 0) (s : Server) (x : ℕ) (ino : Ino) (mode : Mode) (granted : Act) → P (tenure s x ino mode) → HoldsOf P granted → AllHold P (ask_cap s x ino mode granted)
hold_cap P s x ino mode granted is none = hold_if P (in_conflict s x ino mode) (recalls s ino (against s x ino mode) ++ Wait ∷ []) (give s x ino mode ++ granted ∷ [])
    (hold_append P (recalls s ino (against s x ino mode)) (Wait ∷ []) (hold_recalls P s ino (against s x ino mode)) (tt, tt))
    (hold_append P (give s x ino mode) (granted ∷ []) (hold_give P s x ino mode is) (none, tt))

-- a client's tenure of any file that was made
abbrev Gives : (Holder → Type 0) → Server → ℕ → Type 0
Gives P s x = (ino : Ino) (mode : Mode) → Known s.entries ino → P (tenure s x ino mode)

hold_kind : (P : Holder → Type 0) (k : Kind) (xs ys : List Act) → AllHold P xs → (k ≡ File → AllHold P ys) → AllHold P (by_kind k xs ys)
hold_kind P Dir xs ys first other = first
hold_kind P File xs ys first other = other refl

hold_look : (P : Holder → Type 0) (s : Server) (a : Asked) (said : Answer) (o : Result Found Refusal) → Gives P s a.client → AllHold P (look_at s a said o)
hold_look P s a said (Ok (InLive ino)) gives = hold_kind P (kind_in (state_after s.entries).inodes ino) (AnswerIt said ∷ []) (ask_found s a.client ino) (tt, tt) (λ is.
    hold_if P (list_any (is_writer a.client ino) s.holders) (AnswerIt (found_live s ino true) ∷ []) (ask_cap s a.client ino Read (AnswerIt (found_live s ino false))) (tt, tt) (hold_cap P s a.client ino Read (AnswerIt (found_live s ino false)) (gives ino Read is) tt))
hold_look P s a said (Ok (InTree id ino)) gives = hold_kind P (kind_in (tree_at s.entries id).inodes ino) (AnswerIt said ∷ []) (AnswerIt (settled_answer said (owing s ino id)) ∷ []) (tt, tt) (λ is. (tt, tt))
hold_look P s a said (Ok (SnapsOf dir)) gives = (tt, tt)
hold_look P s a said (Err refusal) gives = (tt, tt)

hold_prepare : (P : Holder → Type 0) (s : Server) (alone : Bool) (said : What) → AllHold P (prepare alone s said)
hold_prepare P s alone said = hold_if P (is_busy alone s) (Defer ∷ []) (Prepare said ∷ []) (tt, tt) (tt, tt)

hold_make : (P : Holder → Type 0) (s : Server) (alone : Bool) (made : Change) → AllHold P (make alone s made)
hold_make P s alone (change.Mksnap id dir name) = hold_prepare P s alone (PrepareCreate id)
hold_make P s alone (change.Rmsnap id) = hold_prepare P s alone (PrepareDestroy id)
hold_make P s alone made = (tt, (tt, tt))

hold_decided : (P : Holder → Type 0) (s : Server) (alone : Bool) (o : Option (Result Change Refusal)) → AllHold P (decided alone s o)
hold_decided P s alone None = tt
hold_decided P s alone (Some (Err refusal)) = (tt, tt)
hold_decided P s alone (Some (Ok made)) = hold_make P s alone made

hold_new : (P : Holder → Type 0) (s : Server) (alone : Bool) (a : Asked) (asked : Request) → CapAt s.entries asked → Gives P s a.client → AllHold P (treat_new alone s a asked)
hold_new P s alone a (request.Cap ino mode) known gives = hold_cap P s a.client ino mode (GrantIt ino mode) (gives ino mode known) tt
hold_new P s alone a (request.Cat path) known gives = hold_look P s a (answer_to s.entries (query.Cat path)) (found s.entries path) gives
hold_new P s alone a (request.Stat path) known gives = hold_look P s a (answer_to s.entries (query.Stat path)) (found s.entries path) gives
hold_new P s alone a (request.List path) known gives = (tt, tt)
hold_new P s alone a (request.Realm path) known gives = (tt, tt)
hold_new P s alone a (request.Clones path index) known gives = (tt, tt)
hold_new P s alone a (request.Barrier number) known gives = hold_if P (nat_le number (barrier s.entries)) _ (Wait ∷ []) (tt, tt) (tt, tt)
hold_new P s alone a asked known gives = hold_decided P s alone (change_asked (state_after s.entries) a.client (next_id s) asked)

hold_treat : (P : Holder → Type 0) (s : Server) (alone : Bool) (a : Asked) → CapAt s.entries a.request → Gives P s a.client → AllHold P (treat alone s a)
hold_treat P s alone a known gives = hold_if P (all_connected s) (treat_known alone s a (kept_answer s a)) (Wait ∷ []) (by_kept (kept_answer s a)) (tt, tt)
  where
    by_kept : (o : Option Answer) → AllHold P (treat_known alone s a o)
    by_kept (Some said) = (tt, tt)
    by_kept None = hold_if P (is_operation s a) [] _ tt (hold_new P s alone a a.request known gives)

hold_settles : (P : Holder → Type 0) (x : ℕ) (f : FlushMsg) → HoldsOf P (flush_settles x f)
hold_settles P x f = by_test f.release
  where
    by_test : (b : Bool) → HoldsOf P (cond b (LetGo x f.ino) (Settled x f.ino f.upto))
    by_test true = tt
    by_test false = tt

hold_taken : (P : Holder → Type 0) (x : ℕ) (s : Server) (f : FlushMsg) → AllHold P (take_flush x s f)
hold_taken P x s f = hold_if P (nat_le f.number (last_flush s.entries x)) [] _ tt (tt, (hold_settles P x f, tt))

pub hold_flush : (P : Holder → Type 0) (x : ℕ) (s : Server) (f : FlushMsg) → AllHold P (on_flush x s f)
hold_flush P x s f = hold_append P (take_flush x s f) (TellAck x f.number ∷ []) (hold_taken P x s f) (tt, tt)

pub hold_drop : (P : Holder → Type 0) (x : ℕ) (s : Server) (ino : Ino) → AllHold P (on_drop x s ino)
hold_drop P x s ino = hold_if P (list_any (λ h. is_holder x ino h && not (is_write h.mode)) s.holders) (LetGo x ino ∷ []) [] (tt, tt) tt

hold_claims : (P : Holder → Type 0) (x : ℕ) (claims : List Claim) (s t : Server) → ((k : Claim) → Known s.entries k.ino → P (claimed x k)) → list_all (λ (k : Claim). knows_file s k.ino) claims ≡ true → AllHold P (each (take_claim x) t claims)
hold_claims P x [] s t is known = tt
hold_claims P x (k ∷ claims) s t is known = let parts = and_true (knows_file s k.ino) (list_all (λ (k : Claim). knows_file s k.ino) claims) known in
    hold_append P (take_claim x t k) (each (take_claim x) (acts t (take_claim x t k)) claims)
    (hold_if P (list_any (clash (claimed x k)) t.holders) [] (Hold (claimed x k) ∷ []) tt (is k (made_known s.entries k.ino parts.0), tt))
    (hold_claims P x claims s (acts t (take_claim x t k)) is parts.1)

hold_back : (P : Holder → Type 0) (s : Server) (x : ℕ) (said : List Claim) (flushes : List FlushMsg) → ((k : Claim) → Known s.entries k.ino → P (claimed x k)) → list_all (λ (k : Claim). knows_file s k.ino) said ≡ true → AllHold P (come_back s x said flushes)
hold_back P s x said flushes is known = let t = acts s (LetAllGo x ∷ []) in (
  tt,
  hold_append P (each (take_claim x) t said) (each (take_brought x) (acts t (each (take_claim x) t said)) flushes) (hold_claims P x said s t is known)
      (hold_each P (take_brought x) (λ u f. hold_append P (take_flush x u f) (cond f.release [] (Settled x f.ino f.upto ∷ [])) (hold_taken P x u f) (hold_if P f.release [] (Settled x f.ino f.upto ∷ []) tt (tt, tt))) (acts t (each (take_claim x) t said)) flushes),
)

pub hold_reported : (P : Holder → Type 0) (s : Server) (m : ToServer) → AllHold P (reported s m)
hold_reported P s (Purged id) = hold_if P (is_listed id (to_purge s.entries)) _ [] (tt, tt) tt
hold_reported P s (Deleted ino) = hold_if P (list_any (same_ino ino) (dead s.entries)) _ [] (tt, tt) tt
hold_reported P s (Connect conn said flushes asked) = tt
hold_reported P s (Ask conn tid asked) = tt
hold_reported P s (Flush conn f) = tt
hold_reported P s (DropRead conn ino) = tt

pub hold_restarts : (P : Holder → Type 0) (s : Server) → AllHold P (restarts s)
hold_restarts P s = hold_append P (map TellRestart (up_to s.clients)) (roll_back_from (outstanding s.entries)) (told (up_to s.clients)) (rolled (outstanding s.entries))
  where
    told : (clients : List ℕ) → AllHold P (map TellRestart clients)
    told [] = tt
    told (x ∷ clients) = (tt, told clients)

    rolled : (o : Option (SnapId × ℕ)) → AllHold P (roll_back_from o)
    rolled None = tt
    rolled (Some o) = (tt, tt)

hold_purge : (P : Holder → Type 0) (s : Server) (o : Option SnapId) → IfSome (turn_purge s o) (AllHold P)
hold_purge P s (Some id) = (tt, (tt, tt))
hold_purge P s None = by_file (first_file (filter (is_due s) (dead s.entries)))
  where
    if_some : (b : Bool) (list : List Act) → AllHold P list → IfSome (cond b (Some list) None) (AllHold P)
    if_some true list all = all
    if_some false list all = tt

    by_barrier : (o : Option ℕ) → IfSome (turn_barrier s o) (AllHold P)
    by_barrier None = tt
    by_barrier (Some number) = if_some (list_all (waits_at s number) (up_to s.clients) && is_finished s) _ (tt, hold_flat P open_to (λ x. (tt, (tt, tt))) (up_to s.clients))

    by_file : (o : Option Ino) → IfSome (turn_dead s o) (AllHold P)
    by_file None = by_barrier (first_barrier s.held)
    by_file (Some ino) = hold_if P (is_empty (holders_of s ino)) (SendDelete ino ∷ []) (recalls s ino (holders_of s ino)) (tt, tt) (hold_recalls P s ino (holders_of s ino))

hold_finish : (P : Holder → Type 0) (id : SnapId) (o : Option (Result Change Refusal)) → AllHold P (finish id o)
hold_finish P id None = tt
hold_finish P id (Some (Err refusal)) = (tt, (tt, tt))
hold_finish P id (Some (Ok made)) = by_made made
  where
    by_made : (made : Change) → AllHold P (finish_with id made)
    by_made (change.Rmsnap now) = hold_if P (now.0 == id.0) _ (roll_back id ∷ DeferFirst ∷ []) (tt, (tt, tt)) (tt, (tt, tt))
    by_made made = (tt, (tt, tt))

-- a request that is treated
pub treat_fit : (s : Server) (alone : Bool) (a : Asked) → AskedAt s.entries s.current a → Fit (HoldFits []) s (treat alone s a)
treat_fit s alone a at = holds_fit [] (treat alone s a) s (hold_treat (HolderAt s.entries s.current) s alone a at.0 (λ ino mode known. (known, at.1)))

pub anew : (list : List Asked) (s : Server) → AllAsk s.entries s.current list → Fit (HoldFits []) s (each (λ t (a : Asked). TakeHeld a.client ∷ treat false (act t (TakeHeld a.client)) a) s list)
anew [] s all = tt
anew (a ∷ list) s all =
    let t = act s (TakeHeld a.client) in
    let first = TakeHeld a.client ∷ treat false t a in
    fit_append (HoldFits []) s first (each (λ t (a : Asked). TakeHeld a.client ∷ treat false (act t (TakeHeld a.client)) a) (acts s first) list)
    (tt, treat_fit t false a all.0)
    (anew list (acts s first) (ask_to s.entries (acts s first).entries s.current (acts s first).current (later_asked s first) list all.1))

by_acts : KeptByActs (HoldFits []) Seats (λ r. Seats r.state)
by_acts = record { one = λ s a fit p. one [] s a fit p; hands = λ s p. handed [] s None tt p; anew = λ s p. anew s.held s p.in_held }

pub seat_of : (s : Server) (x conn : ℕ) → is_current s x conn ≡ true → Seat s.current x
seat_of s x conn is = by_number (number_of s.current x) is
  where
    by_number : (o : Option ℕ) → elim o as (λ _. Bool) [ None ↦ false | Some number ↦ number == conn ] ≡ true → is_some o ≡ true
    by_number None is = is
    by_number (Some number) is = refl

pub in_hand_for : (s : Server) (a : Asked) → AskedAt s.entries s.current a → AllAsk s.entries s.current (as_list (hand_for s a))
in_hand_for s a at = by_test (is_operation s a)
  where
    by_test : (b : Bool) → AllAsk s.entries s.current (as_list (cond b None (Some a)))
    by_test true = tt
    by_test false = (at, tt)

take_asked : (s : Server) (x conn tid : ℕ) (asked : Request) → Seats s → Seats (on_take s x (Ask conn tid asked)).state
take_asked s x conn tid asked p = row_if (λ r. Seats r.state) (is_current s x conn && knows_asked s asked) (ask s (asked_by x tid asked)) (drops s) (λ may.
    (let parts = and_true (is_current s x conn) (knows_asked s asked) may in
    let a = asked_by x tid asked in
    let at : AskedAt s.entries s.current a = (knows_cap s asked parts.1, seat_of s x conn parts.0) in
    row_keeps by_acts (take_in s a) (treat false (take_in s a) a) (treat_fit (take_in s a) false a at) (handed [] s (hand_for s a) (in_hand_for s a at) p)))
    (handed [] s None tt p)

-- a client that has come back
pub record Came (s : Server) (x conn : ℕ) (said : List Claim) (flushes : List FlushMsg) (o : Option (ℕ × Request)) : Type 0 where
  pub seats : Seats (back s x conn said flushes (brought x o))
  pub treats : Fit (HoldFits []) (back s x conn said flushes (brought x o)) (treat_brought (back s x conn said flushes (brought x o)) (brought x o))

pub came : (s : Server) (x conn : ℕ) (said : List Claim) (flushes : List FlushMsg) (o : Option (ℕ × Request)) → may_connect s x conn said flushes (brought x o) ≡ true → Seats s → Came s x conn said flushes o
came s x conn said flushes o may p = taken o claims_known asked_known
  where
    a : Bool
    a = nat_lt (connection s x) conn

    b : Bool
    b = list_all (λ (k : Claim). knows_file s k.ino) said

    d : Bool
    d = list_all (λ (f : FlushMsg). knows_file s f.ino) flushes

    claims_known : b ≡ true
    claims_known = (and_true a b (and_true (a && b) d (and_true (a && b && d) (knows_brought s (brought x o)) may).0).0).1

    asked_known : knows_brought s (brought x o) ≡ true
    asked_known = (and_true (a && b && d) (knows_brought s (brought x o)) may).1

    extra : List (ℕ × ℕ)
    extra = (x, conn) ∷ []

    itself : Seat ((x, conn) ∷ s.current) x
    itself = by_test (x == x) (grind (arith, nat_tests))
      where
        by_test : (b : Bool) → b ≡ true → is_some (cond b (Some conn) (number_of s.current x)) ≡ true
        by_test true is = refl
        by_test false is = absurd (true≢false (sym is))

    now : Server
    now = acts s (come_back s x said flushes)

    next : Server
    next = welcome (connected now x conn) x conn

    seats_now : b ≡ true → SeatsWith extra now
    seats_now known = acts_keep (one extra) (come_back s x said flushes) s
        (holds_fit extra (come_back s x said flushes) s (hold_back (HolderAt s.entries (extra ++ s.current)) s x said flushes (λ k is. (is, itself)) known))
        (seats_to s.entries s.entries s.current ((x, conn) ∷ s.current) (λ a at. (at.0, seat_more x conn a.client s.current at.1)) (λ h at. (at.0, seat_more x conn h.client s.current at.1)) p)

    seats_next : SeatsWith extra now → Seats next
    seats_next q = record {
      in_hand = q.in_hand;
      in_held = ask_filter now.entries (extra ++ now.current) (λ a. not (of_client x a)) now.held q.in_held;
      in_deferred = ask_filter now.entries (extra ++ now.current) (λ a. not (of_client x a)) now.deferred q.in_deferred;
      in_operation = q.in_operation;
      table = q.table;
    }

    brought_at : (r : ℕ × Request) → knows_brought s (brought x (Some r)) ≡ true → AskedAt next.entries next.current (asked_by x r.0 r.1)
    brought_at r known = let more = grown_all (come_back s x said flushes) s in (
      subst (λ (l : List Entry). CapAt l r.1) (sym more.1) (cap_more s.entries more.0 r.1 (knows_cap s r.1 known)),
      subst (λ (l : List (ℕ × ℕ)). Seat ((x, conn) ∷ l) x) (sym (current_all (come_back s x said flushes) s)) itself,
    )

    taken : (o : Option (ℕ × Request)) → b ≡ true → knows_brought s (brought x o) ≡ true → Came s x conn said flushes o
    taken None claims known = record { seats = seats_next (seats_now claims); treats = tt }
    taken (Some r) claims known = let a = asked_by x r.0 r.1 in let at = brought_at r known in record {
      seats = handed [] next (hand_for next a) (in_hand_for next a at) (seats_next (seats_now claims));
      treats = treat_fit (take_in next a) false a at;
    }

take_connected : (s : Server) (x conn : ℕ) (said : List Claim) (flushes : List FlushMsg) (asked : Option (ℕ × Request)) → Seats s → Seats (on_take s x (Connect conn said flushes asked)).state
take_connected s x conn said flushes asked p =
    row_if (λ r. Seats r.state) (to_server_fits (Connect conn said flushes asked)) _ (drops s)
    (λ fine. row_if (λ r. Seats r.state) (may_connect s x conn said flushes (brought x asked)) _ (drops s) (λ may.
    let now = came s x conn said flushes asked may p in
    connect_keeps by_acts (back s x conn said flushes (brought x asked)) (brought x asked) now.treats now.seats) (handed [] s None tt p))
    (handed [] s None tt p)

pub no_holds : (list : List Act) (s : Server) → ((P : Holder → Type 0) → AllHold P list) → Fit (HoldFits []) s list
no_holds list s all = holds_fit [] list s (all (HolderAt s.entries s.current))

takes : (s : Server) (x : ℕ) (m : ToServer) → Seats s → Seats (on_take s x m).state
takes s x (Connect conn said flushes asked) p = take_connected s x conn said flushes asked p
takes s x (Ask conn tid asked) p = take_asked s x conn tid asked p
takes s x (Flush conn f) p = flush_taken by_acts s x conn f p (no_holds (on_flush x s f) s (λ P. hold_flush P x s f))
takes s x (DropRead conn ino) p = take_drop by_acts s x conn ino p (no_holds (on_drop x s ino) s (λ P. hold_drop P x s ino))
takes s x (Purged id) p = take_purged by_acts s x id p
takes s x (Deleted ino) p = take_deleted by_acts s x ino p

pub turn_fit : (s : Server) → Seats s → IfSome (turn s) (Fit (HoldFits []) s)
turn_fit s p = by_test (all_connected s)
  where
    Good : Option (List Act) → Type 0
    Good o = IfSome o (Fit (HoldFits []) s)

    plainly : (o : Option (List Act)) → IfSome o (AllHold (HolderAt s.entries s.current)) → Good o
    plainly None all = tt
    plainly (Some list) all = holds_fit [] list s all

    by_operation : (id : SnapId) (o : Option Asked) → Good (turn_operation s id o)
    by_operation id None = tt
    by_operation id (Some a) = (tt, no_holds (finish id (change_asked (state_after s.entries) a.client id a.request)) (act s TakeOperation) (λ P. hold_finish P id (change_asked (state_after s.entries) a.client id a.request)))

    by_purge : Good (turn_purge s (least (unsent_purges s)))
    by_purge = plainly (turn_purge s (least (unsent_purges s))) (hold_purge (HolderAt s.entries s.current) s (least (unsent_purges s)))

    by_deferred : (list : List Asked) → AllAsk s.entries s.current list → Good (turn_deferred s list)
    by_deferred [] all = by_purge
    by_deferred (a ∷ more) all = (tt, treat_fit (act s TakeDeferred) true a all.0)

    by_outstanding : (o : Option (SnapId × ℕ)) → Good (turn_at s o)
    by_outstanding None = by_deferred s.deferred p.in_deferred
    by_outstanding (Some o) = by_durable (nat_le o.1 s.durable)
      where
        by_durable : (b : Bool) → Good (cond b (turn_operation s o.0 s.operation) (turn_purge s (least (unsent_purges s))))
        by_durable true = by_operation o.0 s.operation
        by_durable false = by_purge

    by_test : (b : Bool) → Good (cond b (turn_at s (outstanding s.entries)) None)
    by_test true = by_outstanding (outstanding s.entries)
    by_test false = tt

pub seats_gives : ServerGives Seats (Keeps Seats)
seats_gives = record {
  takes = λ s x m p. takes s x m p;
  reports = λ s m p. row_keeps by_acts s (reported s m) (no_holds (reported s m) s (λ P. hold_reported P s m)) p;
  commits = λ s p. commit_keeps {Q = Seats} {After = λ r. Seats r.state} (λ r e after. after) (λ s so. handed [] s None tt so) s p;
  restarts = λ s k p. restart_keeps (λ r e after. after) by_acts s k (λ fits. (record { in_hand = tt; in_held = tt; in_deferred = tt; in_operation = tt; table = tt }, no_holds (restarts (left_with s (s.durable + k))) (left_with s (s.durable + k)) (λ P. hold_restarts P (left_with s (s.durable + k)))));
  tends = λ s p. turn_keeps by_acts s (turn_fit s p) p;
}

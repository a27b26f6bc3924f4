-- Where a request for a file is held, some holder is recalled.
use Rattle.std.proofs.Common.{◌≡◌, ◌≤◌, ℕ, zero, suc, ◌+◌, List, [], ◌∷◌, ◌++◌, map, length, filter, Bool, true, false, true≢false, not, cond, Option, None, Some, refl, sym, ap, ◌∙◌, subst, IfSome, arith, ◌⊎◌, inl, inr}
use Rattle.std.proofs.lemmas.Bool.Decides.{nat_tests}
use Rattle.std.proofs.lemmas.List.Folds.{list_any-append}
use Rattle.std.specs.Prelude.{◌==◌, ◌&&◌, ◌||◌, nat_le, is_some, option_map, flat_map, Result, Ok, Err}
use Rattle.std.specs.List.{list_any, list_all}
use Rattle.snap_ids.specs.declared.id.Ino.{Ino}
use Rattle.snap_ids.specs.declared.id.SnapId.{SnapId}
use Rattle.snap_ids.specs.declared.values.Kind.{Kind}
use Rattle.snap_ids.specs.declared.values.Kind.TheVariants.{Dir, File}
use Rattle.snap_ids.specs.declared.values.Mode.{Mode}
use Rattle.snap_ids.specs.declared.values.Mode.TheVariants.{Read}
use Rattle.snap_ids.specs.Context.{is_listed}
use Rattle.plain_types.specs.declared.answer.Answer.{Answer}
use Rattle.plain_types.specs.declared.answer.Answer.TheVariants.{Done}
use Rattle.plain_types.specs.declared.answer.Refusal.{Refusal}
use Rattle.plain_types.specs.declared.change.Change.{Change}
use Rattle.plain_types.specs.declared.change.Change.TheVariants as change
use Rattle.plain_types.specs.declared.entry.Entry.{Entry}
use Rattle.plain_types.specs.declared.entry.What.{What}
use Rattle.plain_types.specs.declared.history.Event.{Event}
use Rattle.plain_types.specs.declared.history.Step.{Step}
use Rattle.plain_types.specs.declared.message.Claim.{Claim}
use Rattle.plain_types.specs.declared.message.FlushMsg.{FlushMsg}
use Rattle.plain_types.specs.declared.message.ToClient.{ToClient}
use Rattle.plain_types.specs.declared.message.ToServer.{ToServer}
use Rattle.plain_types.specs.declared.message.ToServer.TheVariants.{Connect, Ask, Flush, DropRead, Purged, Deleted}
use Rattle.plain_types.specs.declared.request.Query.TheVariants as query
use Rattle.plain_types.specs.declared.request.Request.{Request}
use Rattle.plain_types.specs.declared.request.Request.TheVariants as request
use Rattle.plain_types.specs.declared.script.Script.{Script}
use Rattle.plain_tree.specs.Query.{Found, InLive, SnapsOf, InTree}
use Rattle.plain_tree.specs.Request.{change_asked}
use Rattle.plain_tree.specs.State.{kind_in, same_ino}
use Rattle.plain_journal.specs.Answers.{found, answer_to}
use Rattle.plain_journal.specs.Entries.{state_after, tree_at}
use Rattle.plain_journal.specs.Table.{outstanding, last_flush, to_purge, dead, barrier}
use Rattle.held_files.specs.Files.{is_empty, is_write}
use Rattle.step_table.specs.Messages.{to_server_fits}
use Rattle.step_table.specs.Row.{Row}
use Rattle.step_table.specs.ServerState.{Asked, Holder, Server, Told, Answered, Granted, WantedBack, Changed, Acked, tell, tell_at, number_of, up_to, all_connected, is_current, is_holder, is_writer}
use Rattle.step_table.specs.Acts.{Act, TellRecall, TellAck, TellRestart, AnswerIt, GrantIt, MakeEffect, Prepare, Wait, DeferFirst, TakeHeld, TakeDeferred, Buffer, SendDelete, Hold, Raise, MarkRecalled, Settled, LetGo, LetAllGo, act, acts, each, of_client, first_of, as_list, recalled, settled, answer_hand, grant_hand, effect_hand, buffer_for, written_down, prepare_hand, entry_for, buffer}
use Rattle.step_table.specs.Capabilities.{is_against, in_conflict, against, is_recalled, recall, recalls, give, ask_cap, found_live, ask_found, owing}
use Rattle.step_table.specs.Requests.{treat, treat_known, treat_new, kept_answer, is_operation, decided, next_id, by_kind, settled_answer, look_at, opens, decide_anew, then_held}
use Rattle.step_table.specs.Flushes.{knows_file, knows_asked, flush_settles, take_flush, on_flush as flush_rule, on_drop, come_back, asked_by, brought, hand_for, take_in, may_connect, treat_brought}
use Rattle.step_table.specs.Background.{roll_back, finish, finish_with, least, unsent_purges, turn_deferred, turn_at, turn, holders_of, is_due, first_file, first_barrier, waits_at, is_finished, open_to, turn_barrier, turn_dead, turn_purge, turn_operation}
use Rattle.step_table.specs.ServerRows.{row_of, on_take, left_with, restarts, reported, roll_back_from, ask, back, connect_with, drops}
use Rattle.step_table.specs.ClientState.{Client, new_client, open_request}
use Rattle.step_table.specs.ClientLines.{on_op, on_flush}
use Rattle.step_table.specs.World.{start, after, client, lines_of}
use Rattle.run_laws.specs.Links.{View, EachClient, mine}
use Rattle.run_laws.specs.Moments.{steps_of, world_after}
use Rattle.run_laws.specs.Requests.{AllOf}
use Rattle.run_laws.specs.Tenures.{wants_file, was_recalled, wants_of, SomeIsRecalled}
use Rattle.run_laws.proofs.Acts.{Fit, fit_append, acts_keep, notices_keep, if_some}
use Rattle.run_laws.proofs.Holders.{or_false}
use Rattle.run_laws.proofs.Knowing.{row_if, and_true, knows_cap}
use Rattle.run_laws.proofs.Linked.{at_start, first_link}
use Rattle.run_laws.proofs.Numbering.{acts_append}
use Rattle.run_laws.proofs.Once.{first_client}
use Rattle.run_laws.proofs.Pairs.{Placed, placed_gives, placed_in, served_rows}
use Rattle.run_laws.proofs.Parting.{either_true}
use Rattle.run_laws.proofs.Requested.{Asking, asking, first_requested}
use Rattle.run_laws.proofs.Rooted.{AllPlaced, placed_at, clients_same, rooted_holds}
use Rattle.run_laws.proofs.Rounds.{IsStill, AllStill, all_still, still_append, still_if, still_recalls, still_give, still_decided, Ends, ends_treat, each_few, round_fewer}
use Rattle.run_laws.proofs.Seats.{AllHolders, AskedAt, AllAsk, Seats, seats_gives, HoldFits, one as one_seat, ask_to, later_asked, handed, hold_flush, hold_drop, hold_reported, hold_restarts, treat_fit, turn_fit, no_holds, in_hand_for, seat_of, anew as anew_seats, came}
use Rattle.run_laws.proofs.Taking.{KeptBefore, joined, alone, current_all}
use Rattle.run_laws.proofs.ViewActs.{all_fit, rows_of_acts}
use Rattle.run_laws.proofs.Views.{Client's, Server's, run_keeps}
use Rattle.run_laws.proofs.Waiting.{redo, acts_asked, none_left, none_open, held_same, SameHand, hand_for_same}

-- all clients are connected, and all who are connected are clients
abbrev CondAt : ℕ → List (ℕ × ℕ) → Type 0
CondAt k current = (list_all (λ (c : ℕ). is_some (number_of current c)) (up_to k) ≡ true) × AllPlaced k current

abbrev Cond : Server → Type 0
Cond s = CondAt s.clients s.current

-- then some holder is recalled where the client wants a file, or else this is so
abbrev RecallOr : Type 0 → ℕ → Server → Type 0
RecallOr X n s = Cond s → list_any (wants_of n) s.held ≡ true → (list_any was_recalled s.holders ≡ true) ⊎ X

-- a request for a file waits where some holder is recalled
abbrev RecallFit : ℕ → Server → Act → Type 0
RecallFit n s Wait = Cond s → (b : Asked) → s.hand ≡ Some b → wants_of n b ≡ true → list_any was_recalled s.holders ≡ true
RecallFit n s (LetAllGo x) = ⊥
RecallFit n s a = Unit {0}

-- lists
any_filter : {Y : Type 0} (p q : Y → Bool) (xs : List Y) → list_any p (filter q xs) ≡ true → list_any p xs ≡ true
any_filter p q [] any = any
any_filter p q (x ∷ xs) any = by_test (q x) any (any_filter p q xs)
  where
    or_true : (a b : Bool) → b ≡ true → (a || b) ≡ true
    or_true true b is = refl
    or_true false b is = is

    both : (a b d : Bool) → (b ≡ true → d ≡ true) → (a || b) ≡ true → (a || d) ≡ true
    both true b d go is = refl
    both false b d go is = go is

    by_test : (b : Bool) → list_any p (cond b (x ∷ filter q xs) (filter q xs)) ≡ true → (list_any p (filter q xs) ≡ true → list_any p xs ≡ true) → (p x || list_any p xs) ≡ true
    by_test true any go = both (p x) (list_any p (filter q xs)) (list_any p xs) go any
    by_test false any go = or_true (p x) (list_any p xs) (go any)

any_end : {Y : Type 0} (p : Y → Bool) (xs ys : List Y) → list_any p xs ≡ true → list_any p (xs ++ ys) ≡ true
any_end p xs ys any = list_any-append p xs ys ∙ by_test (list_any p xs) any
  where
    by_test : (b : Bool) → b ≡ true → (b || list_any p ys) ≡ true
    by_test true is = refl
    by_test false is = absurd (true≢false (sym is))

any_map : {Y : Type 0} (p : Y → Bool) (f : Y → Y) → ((y : Y) → p y ≡ true → p (f y) ≡ true) → (xs : List Y) → list_any p xs ≡ true → list_any p (map f xs) ≡ true
any_map p f go [] any = any
any_map p f go (x ∷ xs) any = by_test (p x) (p (f x)) (go x) any (any_map p f go xs)
  where
    by_test : (b d : Bool) → (b ≡ true → d ≡ true) → (b || list_any p xs) ≡ true → (list_any p xs ≡ true → list_any p (map f xs) ≡ true) → (d || list_any p (map f xs)) ≡ true
    by_test b true here any rest = refl
    by_test true false here any rest = absurd (true≢false (sym (here refl)))
    by_test false false here any rest = rest any

wants_is_of : (n : ℕ) (xs : List Asked) → list_any (wants_of n) xs ≡ true → list_any (of_client n) xs ≡ true
wants_is_of n [] any = any
wants_is_of n (a ∷ xs) any = by_test (of_client n a) (wants_file a.request) any (wants_is_of n xs)
  where
    by_test : (b d : Bool) → ((b && d) || list_any (wants_of n) xs) ≡ true → (list_any (wants_of n) xs ≡ true → list_any (of_client n) xs ≡ true) → (b || list_any (of_client n) xs) ≡ true
    by_test true d any go = refl
    by_test false d any go = go any

none_wants : {Y : Type 0} (n : ℕ) (xs : List Asked) → list_any (of_client n) xs ≡ false → list_any (wants_of n) xs ≡ true → Y
none_wants n xs none any = absurd (true≢false (sym (wants_is_of n xs any) ∙ none))

-- each act
tell_or : (X : Type 0) (n : ℕ) (s : Server) (x : ℕ) (told : Told) → RecallOr X n s → RecallOr X n (tell s x told)
tell_or X n s x told r = by_number (number_of s.current x)
  where
    by_number : (o : Option ℕ) → RecallOr X n (tell_at s x told o)
    by_number None = r
    by_number (Some conn) = r

buffer_or : (X : Type 0) (n : ℕ) (s : Server) (e : Entry) → RecallOr X n s → RecallOr X n (buffer s e)
buffer_or X n s e r = notices_keep (RecallOr X n) (λ t x inos so. tell_or X n t x (Changed inos) so) s.entries (up_to s.clients) (record s { entries = s.entries ++ e ∷ [] }) r

or_recalled : (X : Type 0) (holders other : List Holder) → (list_any was_recalled holders ≡ true → list_any was_recalled other ≡ true) → (list_any was_recalled holders ≡ true) ⊎ X → (list_any was_recalled other ≡ true) ⊎ X
or_recalled X holders other go (inl is) = inl (go is)
or_recalled X holders other go (inr x) = inr x

first_or : (a b : Bool) → a ≡ true → (a || b) ≡ true
first_or true b is = refl
first_or false b is = absurd (true≢false (sym is))

one : (X : Type 0) (n : ℕ) (s : Server) (a : Act) → opens a ≡ false → RecallFit n s a → RecallOr X n s → RecallOr X n (act s a)
one X n s (TellRecall x ino) shut fit r = tell_or X n s x (WantedBack ino) r
one X n s (TellAck x number) shut fit r = tell_or X n s x (Acked number) r
one X n s (AnswerIt said) shut fit r = by_hand s.hand
  where
    by_hand : (o : Option Asked) → RecallOr X n (answer_hand s said o)
    by_hand None = r
    by_hand (Some a) = tell_or X n (record s { hand = None }) a.client (Answered a.tid said) r
one X n s (GrantIt ino mode) shut fit r = by_hand s.hand
  where
    by_hand : (o : Option Asked) → RecallOr X n (grant_hand s ino mode o)
    by_hand None = r
    by_hand (Some a) = tell_or X n (record s { hand = None }) a.client (Granted a.tid ino mode) r
one X n s (MakeEffect made) shut fit r = by_hand s.hand
  where
    by_said : (a : Asked) (o : Option What) → RecallOr X n (buffer_for s a o)
    by_said a None = r
    by_said a (Some said) = buffer_or X n s (entry_for a said) r

    by_hand : (o : Option Asked) → RecallOr X n (effect_hand s made o)
    by_hand None = r
    by_hand (Some a) = by_said a (written_down made)
one X n s (Prepare said) shut fit r = by_hand s.hand
  where
    by_hand : (o : Option Asked) → RecallOr X n (prepare_hand s said o)
    by_hand None = r
    by_hand (Some a) = buffer_or X n (record s { operation = Some a; hand = None }) (entry_for a said) r
one X n s (Buffer e) shut fit r = buffer_or X n s e r
one X n s Wait shut fit r = λ cond_now any. either cond_now (either_true (list_any (wants_of n) s.held) (list_any (wants_of n) (as_list s.hand)) (sym (list_any-append (wants_of n) s.held (as_list s.hand)) ∙ any))
  where
    by_hand : (o : Option Asked) → ((b : Asked) → o ≡ Some b → wants_of n b ≡ true → list_any was_recalled s.holders ≡ true) → list_any (wants_of n) (as_list o) ≡ true → list_any was_recalled s.holders ≡ true
    by_hand None go any = absurd (true≢false (sym any))
    by_hand (Some b) go any = by_test (wants_of n b) (go b refl) any
      where
        by_test : (d : Bool) → (d ≡ true → list_any was_recalled s.holders ≡ true) → (d || false) ≡ true → list_any was_recalled s.holders ≡ true
        by_test true go any = go refl
        by_test false go any = absurd (true≢false (sym any))

    either : Cond s → (list_any (wants_of n) s.held ≡ true) ⊎ (list_any (wants_of n) (as_list s.hand) ≡ true) → (list_any was_recalled s.holders ≡ true) ⊎ X
    either cond_now (inl any) = r cond_now any
    either cond_now (inr any) = inl (by_hand s.hand (fit cond_now) any)
one X n s (TakeHeld x) shut fit r = λ cond_now any. r cond_now (any_filter (wants_of n) (λ a. not (of_client x a)) s.held any)
one X n s (Hold h) shut fit r = λ cond_now any. or_recalled X s.holders (s.holders ++ h ∷ []) (any_end was_recalled s.holders (h ∷ [])) (r cond_now any)
one X n s (MarkRecalled x ino) shut fit r = λ cond_now any. or_recalled X s.holders (map (recalled x ino) s.holders) (any_map was_recalled (recalled x ino) (λ h is. first_or h.recalled (is_holder x ino h) is) s.holders) (r cond_now any)
one X n s (Settled x ino upto) shut fit r = λ cond_now any. or_recalled X s.holders (map (settled x ino upto) s.holders) (any_map was_recalled (settled x ino upto) (λ h is. is) s.holders) (r cond_now any)
one X n s (LetGo x ino) shut fit r = absurd (true≢false shut)
one X n s (LetAllGo x) shut fit r = absurd fit
one X n s (Raise x ino upto) shut fit r = absurd (true≢false shut)
one X n s a shut fit r = r

closed : (X : Type 0) (n : ℕ) (list : List Act) (s : Server) → Fit (RecallFit n) s list → list_any opens list ≡ false → RecallOr X n s → RecallOr X n (acts s list)
closed X n [] s fit shut r = r
closed X n (a ∷ list) s fit shut r = let parts = or_false (opens a) (list_any opens list) shut in closed X n list (act s a) fit.1 parts.1 (one X n s a parts.0 fit.0 r)

still_fits : (n : ℕ) (list : List Act) (s : Server) → AllStill list → Fit (RecallFit n) s list
still_fits n [] s all = tt
still_fits n (a ∷ list) s all = (by_act a all.0, still_fits n list (act s a) all.1)
  where
    by_act : (a : Act) → IsStill a → RecallFit n s a
    by_act Wait is = absurd is
    by_act (LetAllGo x) is = absurd is
    by_act a is = tt

-- who is against it is recalled
recall_holders : (s : Server) (ino : Ino) (x : ℕ) (t : Server) → (acts t (recall s ino x)).holders ≡ cond (is_recalled s ino x) t.holders (map (recalled x ino) t.holders)
recall_holders s ino x t = by_test (is_recalled s ino x)
  where
    by_number : (o : Option ℕ) → (tell_at (act t (MarkRecalled x ino)) x (WantedBack ino) o).holders ≡ map (recalled x ino) t.holders
    by_number None = refl
    by_number (Some conn) = refl

    by_test : (b : Bool) → (acts t (cond b [] (MarkRecalled x ino ∷ TellRecall x ino ∷ []))).holders ≡ cond b t.holders (map (recalled x ino) t.holders)
    by_test true = refl
    by_test false = by_number (number_of t.current x)

kept_by : (p : Holder → Bool) (s : Server) (ino : Ino) → ((x : ℕ) (h : Holder) → p h ≡ true → p (recalled x ino h) ≡ true) → (x : ℕ) (t : Server) → list_any p t.holders ≡ true → list_any p (acts t (recall s ino x)).holders ≡ true
kept_by p s ino keeps x t any = subst (λ (l : List Holder). list_any p l ≡ true) (sym (recall_holders s ino x t)) (by_test (is_recalled s ino x))
  where
    by_test : (b : Bool) → list_any p (cond b t.holders (map (recalled x ino) t.holders)) ≡ true
    by_test true = any
    by_test false = any_map p (recalled x ino) (keeps x) t.holders any

flag_stays : (ino : Ino) (x : ℕ) (h : Holder) → was_recalled h ≡ true → was_recalled (recalled x ino h) ≡ true
flag_stays ino x h is = first_or h.recalled (is_holder x ino h) is

all_recalled : (s : Server) (ino : Ino) (clients : List ℕ) (t : Server) → list_any was_recalled t.holders ≡ true → list_any was_recalled (acts t (recalls s ino clients)).holders ≡ true
all_recalled s ino [] t any = any
all_recalled s ino (x ∷ clients) t any = subst (λ (u : Server). list_any was_recalled u.holders ≡ true) (sym (acts_append (recall s ino x) (recalls s ino clients) t)) (all_recalled s ino clients (acts t (recall s ino x)) (kept_by was_recalled s ino (flag_stays ino) x t any))

marks : (x : ℕ) (ino : Ino) (holders : List Holder) → list_any (is_holder x ino) holders ≡ true → list_any was_recalled (map (recalled x ino) holders) ≡ true
marks x ino [] any = any
marks x ino (h ∷ holders) any = by_test (is_holder x ino h) h.recalled any (marks x ino holders)
  where
    by_test : (b d : Bool) → (b || list_any (is_holder x ino) holders) ≡ true → (list_any (is_holder x ino) holders ≡ true → list_any was_recalled (map (recalled x ino) holders) ≡ true) → ((d || b) || list_any was_recalled (map (recalled x ino) holders)) ≡ true
    by_test true true any go = refl
    by_test true false any go = refl
    by_test false true any go = refl
    by_test false false any go = go any

is_flag : (s : Server) (ino : Ino) (x : ℕ) (holders : List Holder) → list_any (λ h. is_holder x ino h && h.recalled) holders ≡ true → list_any was_recalled holders ≡ true
is_flag s ino x [] any = any
is_flag s ino x (h ∷ holders) any = by_test (is_holder x ino h) h.recalled any (is_flag s ino x holders)
  where
    by_test : (b d : Bool) → ((b && d) || list_any (λ h. is_holder x ino h && h.recalled) holders) ≡ true → (list_any (λ h. is_holder x ino h && h.recalled) holders ≡ true → list_any was_recalled holders ≡ true) → (d || list_any was_recalled holders) ≡ true
    by_test b true any go = refl
    by_test true false any go = go any
    by_test false false any go = go any

one_recalled : (s : Server) (ino : Ino) (y : ℕ) (clients : List ℕ) (t : Server) → list_any (λ (x : ℕ). x == y) clients ≡ true → is_recalled s ino y ≡ false → list_any (is_holder y ino) t.holders ≡ true → list_any was_recalled (acts t (recalls s ino clients)).holders ≡ true
one_recalled s ino y [] t any isnt held = absurd (true≢false (sym any))
one_recalled s ino y (x ∷ clients) t any isnt held = subst (λ (u : Server). list_any was_recalled u.holders ≡ true) (sym (acts_append (recall s ino x) (recalls s ino clients) t)) (by_test (x == y) refl any (λ more. one_recalled s ino y clients (acts t (recall s ino x)) more isnt (kept_by (is_holder y ino) s ino (λ z h is. is) x t held)))
  where
    same : (x == y) ≡ true → x ≡ y
    same is = grind (arith, nat_tests, is)

    here : x ≡ y → list_any was_recalled (acts t (recall s ino x)).holders ≡ true
    here same = subst (λ (z : ℕ). list_any was_recalled (acts t (recall s ino z)).holders ≡ true) (sym same) (subst (λ (l : List Holder). list_any was_recalled l ≡ true) (sym (recall_holders s ino y t ∙ ap (λ (b : Bool). cond b t.holders (map (recalled y ino) t.holders)) isnt)) (marks y ino t.holders held))

    by_test : (b : Bool) → (x == y) ≡ b → (b || list_any (λ (x : ℕ). x == y) clients) ≡ true → (list_any (λ (x : ℕ). x == y) clients ≡ true → list_any was_recalled (acts (acts t (recall s ino x)) (recalls s ino clients)).holders ≡ true) → list_any was_recalled (acts (acts t (recall s ino x)) (recalls s ino clients)).holders ≡ true
    by_test true is any go = all_recalled s ino clients (acts t (recall s ino x)) (here (same is))
    by_test false is any go = go any

-- one of the clients is against it
pub record Against (s : Server) (x : ℕ) (ino : Ino) (mode : Mode) (holders : List Holder) : Type 0 where
  pub client : ℕ
  pub placed : list_any (λ (y : ℕ). y == client) (up_to s.clients) ≡ true
  pub against : list_any (λ h. h.client == client && is_against x ino mode h) holders ≡ true
  pub holds : list_any (is_holder client ino) holders ≡ true

some_against : (s : Server) (x : ℕ) (ino : Ino) (mode : Mode) (holders : List Holder) → AllPlaced s.clients s.current → AllHolders s.entries s.current holders → list_any (is_against x ino mode) holders ≡ true → Against s x ino mode holders
some_against s x ino mode [] placed all any = absurd (true≢false (sym any))
some_against s x ino mode (h ∷ holders) placed all any = by_test (is_against x ino mode h) refl any (some_against s x ino mode holders placed all.1)
  where
    or_true : (a b : Bool) → b ≡ true → (a || b) ≡ true
    or_true true b is = refl
    or_true false b is = is

    both : (a b : Bool) → a ≡ true → b ≡ true → (a && b) ≡ true
    both a b is at = rw (is, at) refl

    file : is_against x ino mode h ≡ true → same_ino h.ino ino ≡ true
    file is = (and_true (not (h.client == x)) (same_ino h.ino ino) (and_true (not (h.client == x) && same_ino h.ino ino) (is_write mode || is_write h.mode) is).0).1

    itself : (h.client == h.client) ≡ true
    itself = grind (arith, nat_tests)

    by_test : (b : Bool) → is_against x ino mode h ≡ b → (b || list_any (is_against x ino mode) holders) ≡ true → (list_any (is_against x ino mode) holders ≡ true → Against s x ino mode holders) → Against s x ino mode (h ∷ holders)
    by_test true is any go = record {
      client = h.client;
      placed = placed_at s.clients s.current h.client placed all.0.1;
      against = first_or (h.client == h.client && is_against x ino mode h) (list_any (λ g. g.client == h.client && is_against x ino mode g) holders) (both (h.client == h.client) (is_against x ino mode h) itself is);
      holds = first_or (is_holder h.client ino h) (list_any (is_holder h.client ino) holders) (both (h.client == h.client) (same_ino h.ino ino) itself (file is));
    }
    by_test false is any go = let a = go any in record {
      client = a.client;
      placed = a.placed;
      against = or_true (h.client == a.client && is_against x ino mode h) (list_any (λ g. g.client == a.client && is_against x ino mode g) holders) a.against;
      holds = or_true (is_holder a.client ino h) (list_any (is_holder a.client ino) holders) a.holds;
    }

in_filter : (p : ℕ → Bool) (y : ℕ) (xs : List ℕ) → p y ≡ true → list_any (λ (x : ℕ). x == y) xs ≡ true → list_any (λ (x : ℕ). x == y) (filter p xs) ≡ true
in_filter p y [] is any = any
in_filter p y (x ∷ xs) is any = by_tests (x == y) (p x) refl refl any (in_filter p y xs is)
  where
    same : (x == y) ≡ true → y ≡ x
    same at = grind (arith, nat_tests, at)

    or_true : (a b : Bool) → b ≡ true → (a || b) ≡ true
    or_true true b is = refl
    or_true false b is = is

    by_tests : (b d : Bool) → (x == y) ≡ b → p x ≡ d → (b || list_any (λ (x : ℕ). x == y) xs) ≡ true → (list_any (λ (x : ℕ). x == y) xs ≡ true → list_any (λ (x : ℕ). x == y) (filter p xs) ≡ true) → list_any (λ (x : ℕ). x == y) (cond d (x ∷ filter p xs) (filter p xs)) ≡ true
    by_tests true true at may any go = first_or (x == y) (list_any (λ (x : ℕ). x == y) (filter p xs)) at
    by_tests true false at may any go = absurd (true≢false (sym (subst (λ (z : ℕ). p z ≡ true) (same at) is) ∙ may))
    by_tests false true at may any go = or_true (x == y) (list_any (λ (x : ℕ). x == y) (filter p xs)) (go any)
    by_tests false false at may any go = go any

conflict_recalled : (s : Server) (x : ℕ) (ino : Ino) (mode : Mode) → AllPlaced s.clients s.current → AllHolders s.entries s.current s.holders → in_conflict s x ino mode ≡ true → list_any was_recalled (acts s (recalls s ino (against s x ino mode))).holders ≡ true
conflict_recalled s x ino mode placed all is = by_test (is_recalled s ino a.client) refl
  where
    a : Against s x ino mode s.holders
    a = some_against s x ino mode s.holders placed all is

    by_test : (b : Bool) → is_recalled s ino a.client ≡ b → list_any was_recalled (acts s (recalls s ino (against s x ino mode))).holders ≡ true
    by_test true flag = all_recalled s ino (against s x ino mode) s (is_flag s ino a.client s.holders flag)
    by_test false flag = one_recalled s ino a.client (against s x ino mode) s (in_filter (λ c. list_any (λ h. h.client == c && is_against x ino mode h) s.holders) a.client (up_to s.clients) a.against a.placed) flag a.holds

-- the rules
recall_cap : (n : ℕ) (s : Server) (x : ℕ) (ino : Ino) (mode : Mode) (granted : Act) → IsStill granted → Seats s → Fit (RecallFit n) s (ask_cap s x ino mode granted)
recall_cap n s x ino mode granted still seats = by_test (in_conflict s x ino mode) refl
  where
    list : List Act
    list = recalls s ino (against s x ino mode)

    back_to : Cond (acts s list) → AllPlaced s.clients s.current
    back_to now = subst (λ (k : ℕ). AllPlaced k s.current) (clients_same list s) (subst (AllPlaced (acts s list).clients) (current_all list s) now.1)

    by_test : (b : Bool) → in_conflict s x ino mode ≡ b → Fit (RecallFit n) s (cond b (list ++ Wait ∷ []) (give s x ino mode ++ granted ∷ []))
    by_test true is = fit_append (RecallFit n) s list (Wait ∷ []) (still_fits n list s (still_recalls s ino (against s x ino mode))) ((λ now b at wants. conflict_recalled s x ino mode (back_to now) seats.table is), tt)
    by_test false is = still_fits n (give s x ino mode ++ granted ∷ []) s (still_append (give s x ino mode) (granted ∷ []) (still_give s x ino mode) (still, tt))

recall_kind : (n : ℕ) (s : Server) (k : Kind) (xs ys : List Act) → Fit (RecallFit n) s xs → Fit (RecallFit n) s ys → Fit (RecallFit n) s (by_kind k xs ys)
recall_kind n s Dir xs ys first other = first
recall_kind n s File xs ys first other = other

recall_look : (n : ℕ) (s : Server) (a : Asked) (said : Answer) (o : Result Found Refusal) → Seats s → Fit (RecallFit n) s (look_at s a said o)
recall_look n s a said (Ok (InLive ino)) seats = recall_kind n s (kind_in (state_after s.entries).inodes ino) (AnswerIt said ∷ []) (ask_found s a.client ino) (tt, tt) (by_test (list_any (is_writer a.client ino) s.holders))
  where
    by_test : (b : Bool) → Fit (RecallFit n) s (cond b (AnswerIt (found_live s ino true) ∷ []) (ask_cap s a.client ino Read (AnswerIt (found_live s ino false))))
    by_test true = (tt, tt)
    by_test false = recall_cap n s a.client ino Read (AnswerIt (found_live s ino false)) tt seats
recall_look n s a said (Ok (InTree id ino)) seats = recall_kind n s (kind_in (tree_at s.entries id).inodes ino) (AnswerIt said ∷ []) (AnswerIt (settled_answer said (owing s ino id)) ∷ []) (tt, tt) (tt, tt)
recall_look n s a said (Ok (SnapsOf dir)) seats = (tt, tt)
recall_look n s a said (Err refusal) seats = (tt, tt)

-- a barrier wants no file
barrier_none : (n : ℕ) (b : Asked) (number : ℕ) → (of_client n b ≡ true → b.request ≡ request.Barrier number) → wants_of n b ≡ false
barrier_none n b number go = by_test (of_client n b) refl
  where
    by_test : (d : Bool) → of_client n b ≡ d → (d && wants_file b.request) ≡ false
    by_test true is = rw (go is) refl
    by_test false is = refl

recall_new : (n : ℕ) (s : Server) (alone : Bool) (a : Asked) (asked : Request) → Seats s → SameHand n s asked → Fit (RecallFit n) s (treat_new alone s a asked)
recall_new n s alone a (request.Cap ino mode) seats same = recall_cap n s a.client ino mode (GrantIt ino mode) tt seats
recall_new n s alone a (request.Cat path) seats same = recall_look n s a (answer_to s.entries (query.Cat path)) (found s.entries path) seats
recall_new n s alone a (request.Stat path) seats same = recall_look n s a (answer_to s.entries (query.Stat path)) (found s.entries path) seats
recall_new n s alone a (request.List path) seats same = (tt, tt)
recall_new n s alone a (request.Realm path) seats same = (tt, tt)
recall_new n s alone a (request.Clones path index) seats same = (tt, tt)
recall_new n s alone a (request.Barrier number) seats same = by_test (nat_le number (barrier s.entries))
  where
    by_test : (b : Bool) → Fit (RecallFit n) s (cond b (AnswerIt Done ∷ []) (Wait ∷ []))
    by_test true = (tt, tt)
    by_test false = ((λ now b at wants. absurd (true≢false (sym wants ∙ barrier_none n b number (λ of. same b at of)))), tt)
recall_new n s alone a asked seats same = still_fits n (decided alone s (change_asked (state_after s.entries) a.client (next_id s) asked)) s (still_decided s alone (change_asked (state_after s.entries) a.client (next_id s) asked))

recall_treat : (n : ℕ) (s : Server) (alone : Bool) (a : Asked) → Seats s → SameHand n s a.request → Fit (RecallFit n) s (treat alone s a)
recall_treat n s alone a seats same = by_test (all_connected s) refl
  where
    by_operation : (b : Bool) → Fit (RecallFit n) s (cond b [] (treat_new alone s a a.request))
    by_operation true = tt
    by_operation false = recall_new n s alone a a.request seats same

    by_kept : (o : Option Answer) → Fit (RecallFit n) s (treat_known alone s a o)
    by_kept (Some said) = (tt, tt)
    by_kept None = by_operation (is_operation s a)

    by_test : (b : Bool) → all_connected s ≡ b → Fit (RecallFit n) s (cond b (treat_known alone s a (kept_answer s a)) (Wait ∷ []))
    by_test true is = by_kept (kept_answer s a)
    by_test false is = ((λ now b at wants. absurd (true≢false (sym now.0 ∙ is))), tt)

-- between acts
abbrev Inside : View
Inside n c up down s = Asking n c up down s × Seats s

acts_inside : (n : ℕ) (c : Client) (up : List ToServer) (down : List ToClient) (s : Server) (list : List Act) → Fit (HoldFits []) s list → Inside n c up down s → Inside n c up down (acts s list)
acts_inside n c up down s list fit i = (acts_asked n c up down s list i.0, acts_keep (one_seat []) list s fit i.1)

redo_inside : (n : ℕ) (c : Client) (up : List ToServer) (down : List ToClient) (s : Server) (a : Asked) → AskedAt s.entries s.current a → Inside n c up down s → Inside n c up down (acts s (redo s a))
redo_inside n c up down s a at i = acts_inside n c up down s (redo s a) (tt, treat_fit (act s (TakeHeld a.client)) false a (later_asked s (TakeHeld a.client ∷ []) a at)) i

-- a round that opens nothing
round : (n : ℕ) (c : Client) (up : List ToServer) (down : List ToClient) (list : List Asked) (s : Server) → Inside n c up down s → AllOf n (open_request c.under) list → AllAsk s.entries s.current list → list_any opens (each redo s list) ≡ false
    → RecallOr (list_any (of_client n) list ≡ true) n s → RecallOr ⊥ n (acts s (each redo s list))
round n c up down [] s i all at shut r = λ now any. either (r now any)
  where
    either : (list_any was_recalled s.holders ≡ true) ⊎ (false ≡ true) → (list_any was_recalled s.holders ≡ true) ⊎ ⊥
    either (inl is) = inl is
    either (inr is) = absurd (true≢false (sym is))
round n c up down (a ∷ list) s i all at shut r = subst (RecallOr ⊥ n) (sym (acts_append (redo s a) rest s))
    (round n c up down list (acts s (redo s a)) (redo_inside n c up down s a at.0 i) all.1 (ask_to s.entries (acts s (redo s a)).entries s.current (acts s (redo s a)).current (later_asked s (redo s a)) list at.1) parts.1
    (closed Rest n (treat false t a) t (recall_treat n t false a now.1 (held_same n c up down t a now.0 (λ b is. first_client a.client s.held b is) all.0)) parts.0 (by_test (of_client n a) refl r)))
  where
    t : Server
    t = act s (TakeHeld a.client)

    rest : List Act
    rest = each redo (acts s (redo s a)) list

    now : Inside n c up down t
    now = acts_inside n c up down s (TakeHeld a.client ∷ []) (tt, tt) i

    parts : (list_any opens (redo s a) ≡ false) × (list_any opens rest ≡ false)
    parts = or_false (list_any opens (redo s a)) (list_any opens rest) (sym (list_any-append opens (redo s a) rest) ∙ shut)

    Rest : Type 0
    Rest = list_any (of_client n) list ≡ true

    same : (a.client == n) ≡ true → n ≡ a.client
    same is = grind (arith, nat_tests, is)

    by_test : (b : Bool) → of_client n a ≡ b → RecallOr ((b || list_any (of_client n) list) ≡ true) n s → RecallOr Rest n t
    by_test true is r = λ now any. none_wants n t.held (subst (λ (y : ℕ). list_any (of_client n) (filter (λ a. not (of_client y a)) s.held) ≡ false) (same is) (none_left n s.held)) any
    by_test false is r = one Rest n s (TakeHeld a.client) refl tt r

at_first : (n : ℕ) (s : Server) → RecallOr (list_any (of_client n) s.held ≡ true) n s
at_first n s now any = inr (wants_is_of n s.held any)

-- the rounds: with as many as there are held requests
none_held : (n : ℕ) (held : List Asked) → length held ≤ 0 → list_any (wants_of n) held ≡ true → ⊥
none_held n [] none any = true≢false (sym any)
none_held n (a ∷ held) none any = omega (arith, none)

again_inside : (n : ℕ) (c : Client) (up : List ToServer) (down : List ToClient) (s : Server) → Inside n c up down s → Inside n c up down (acts s (decide_anew s))
again_inside n c up down s i = acts_inside n c up down s (decide_anew s) (anew_seats s.held s i.1.in_held) i

rounds : (n : ℕ) (c : Client) (up : List ToServer) (down : List ToClient) (most : ℕ) (s : Server) → Inside n c up down s → length s.held ≤ most → RecallOr ⊥ n (acts s (then_held most s (decide_anew s)))
rounds n c up down zero s i few = λ now any. absurd (none_held n (acts s (decide_anew s)).held (let less = each_few s.held s in omega (arith, few, less)) any)
rounds n c up down (suc most) s i few = by_test (list_any opens (decide_anew s)) refl (round_fewer s) (λ less. rounds n c up down most (acts s (decide_anew s)) (again_inside n c up down s i) less)
  where
    next : Server
    next = acts s (decide_anew s)

    fewer_now : (length next.held + 1 ≤ length s.held) ⊎ (list_any opens (decide_anew s) ≡ false) → list_any opens (decide_anew s) ≡ true → length next.held ≤ most
    fewer_now (inl less) is = omega (arith, less, few)
    fewer_now (inr none) is = absurd (true≢false (sym is ∙ none))

    by_test : (b : Bool) → list_any opens (decide_anew s) ≡ b → (length next.held + 1 ≤ length s.held) ⊎ (list_any opens (decide_anew s) ≡ false) → (length next.held ≤ most → RecallOr ⊥ n (acts next (then_held most next (decide_anew next))))
        → RecallOr ⊥ n (acts s (elim b [ false ↦ decide_anew s | true ↦ decide_anew s ++ then_held most next (decide_anew next) ]))
    by_test false is less go = round n c up down s.held s i i.0.1.in_held i.1.in_held is (at_first n s)
    by_test true is less go = subst (RecallOr ⊥ n) (sym (acts_append (decide_anew s) (then_held most next (decide_anew next)) s)) (go (fewer_now less is))

-- a row's acts, and the rounds after them
pub record RowOk (n : ℕ) (s : Server) (list : List Act) : Type 0 where
  pub shut : list_any opens list ≡ false → RecallOr ⊥ n (acts s list)
  pub few : list_any opens list ≡ true → length (acts s list).held ≤ length s.held

row_end : (n : ℕ) (c : Client) (up : List ToServer) (down : List ToClient) (most : ℕ) (s : Server) (list : List Act) → Inside n c up down (acts s list) → RowOk n s list → length s.held + 1 ≤ most → RecallOr ⊥ n (acts s (then_held most s list))
row_end n c up down zero s list i ok room = absurd (omega (arith, room))
row_end n c up down (suc most) s list i ok room = by_test (list_any opens list) refl
  where
    next : Server
    next = acts s list

    by_test : (b : Bool) → list_any opens list ≡ b → RecallOr ⊥ n (acts s (elim b [ false ↦ list | true ↦ list ++ then_held most next (decide_anew next) ]))
    by_test false is = ok.shut is
    by_test true is = subst (RecallOr ⊥ n) (sym (acts_append list (then_held most next (decide_anew next)) s)) (rounds n c up down most next i (let less = ok.few is in omega (arith, less, room)))

still_ok : (n : ℕ) (s : Server) (list : List Act) → AllStill list → RecallOr ⊥ n s → RowOk n s list
still_ok n s list all r = record {
  shut = λ is. closed ⊥ n list s (still_fits n list s all) is r;
  few = λ is. (let e = ap (λ (l : List Asked). length l) (all_still list s all) in omega (arith, e));
}

treat_ok : (n : ℕ) (s : Server) (alone : Bool) (a : Asked) → Seats s → SameHand n s a.request → RecallOr ⊥ n s → RowOk n s (treat alone s a)
treat_ok n s alone a seats same r = record {
  shut = λ is. closed ⊥ n (treat alone s a) s (recall_treat n s alone a seats same) is r;
  few = λ is. by_end is (ends_treat s alone a);
}
  where
    by_end : list_any opens (treat alone s a) ≡ true → Ends s (treat alone s a) → length (acts s (treat alone s a)).held ≤ length s.held
    by_end is (inl same) = let e = ap (λ (l : List Asked). length l) same in omega (arith, e)
    by_end is (inr waited) = absurd (true≢false (sym is ∙ waited.1))

-- rules that leave what is held
still_settles : (x : ℕ) (f : FlushMsg) → IsStill (flush_settles x f)
still_settles x f = by_test f.release
  where
    by_test : (b : Bool) → IsStill (cond b (LetGo x f.ino) (Settled x f.ino f.upto))
    by_test true = tt
    by_test false = tt

still_flush : (x : ℕ) (s : Server) (f : FlushMsg) → AllStill (flush_rule x s f)
still_flush x s f = still_append (take_flush x s f) (TellAck x f.number ∷ []) (still_if (nat_le f.number (last_flush s.entries x)) [] _ tt (tt, (still_settles x f, tt))) (tt, tt)

still_drop : (x : ℕ) (s : Server) (ino : Ino) → AllStill (on_drop x s ino)
still_drop x s ino = still_if (list_any (λ h. is_holder x ino h && not (is_write h.mode)) s.holders) (LetGo x ino ∷ []) [] (tt, tt) tt

still_reported : (s : Server) (m : ToServer) → AllStill (reported s m)
still_reported s (Purged id) = still_if (is_listed id (to_purge s.entries)) _ [] (tt, tt) tt
still_reported s (Deleted ino) = still_if (list_any (same_ino ino) (dead s.entries)) _ [] (tt, tt) tt
still_reported s (Connect conn said flushes asked) = tt
still_reported s (Ask conn tid asked) = tt
still_reported s (Flush conn f) = tt
still_reported s (DropRead conn ino) = tt

still_restarts : (s : Server) → AllStill (restarts s)
still_restarts s = still_append (map TellRestart (up_to s.clients)) (roll_back_from (outstanding s.entries)) (told (up_to s.clients)) (rolled (outstanding s.entries))
  where
    told : (clients : List ℕ) → AllStill (map TellRestart clients)
    told [] = tt
    told (x ∷ clients) = (tt, told clients)

    rolled : (o : Option (SnapId × ℕ)) → AllStill (roll_back_from o)
    rolled None = tt
    rolled (Some o) = (tt, tt)

still_finish : (id : SnapId) (o : Option (Result Change Refusal)) → AllStill (finish id o)
still_finish id None = tt
still_finish id (Some (Err refusal)) = (tt, (tt, tt))
still_finish id (Some (Ok made)) = by_made made
  where
    by_made : (made : Change) → AllStill (finish_with id made)
    by_made (change.Rmsnap now) = still_if (now.0 == id.0) _ (roll_back id ∷ DeferFirst ∷ []) (tt, (tt, tt)) (tt, (tt, tt))
    by_made made = (tt, (tt, tt))

-- the turn
purge_ok : (n : ℕ) (s : Server) → Placed n s → RecallOr ⊥ n s → (o : Option SnapId) → IfSome (turn_purge s o) (RowOk n s)
purge_ok n s placed r (Some id) = still_ok n s _ (tt, (tt, tt)) r
purge_ok n s placed r None = by_file (first_file (filter (is_due s) (dead s.entries)))
  where
    if_ok : (b : Bool) (list : List Act) → RowOk n s list → IfSome (cond b (Some list) None) (RowOk n s)
    if_ok true list ok = ok
    if_ok false list ok = tt

    open_shut : (clients : List ℕ) → list_any opens (flat_map open_to clients) ≡ false
    open_shut [] = refl
    open_shut (x ∷ clients) = open_shut clients

    by_barrier : (o : Option ℕ) → IfSome (turn_barrier s o) (RowOk n s)
    by_barrier None = tt
    by_barrier (Some number) = if_ok (list_all (waits_at s number) (up_to s.clients) && is_finished s) _ (record {
      shut = λ is now any. none_wants n _ (none_open n (up_to s.clients) _ placed) any;
      few = λ is. absurd (true≢false (sym is ∙ open_shut (up_to s.clients)));
    })

    by_file : (o : Option Ino) → IfSome (turn_dead s o) (RowOk n s)
    by_file None = by_barrier (first_barrier s.held)
    by_file (Some ino) = still_ok n s _ (still_if (is_empty (holders_of s ino)) (SendDelete ino ∷ []) (recalls s ino (holders_of s ino)) (tt, tt) (still_recalls s ino (holders_of s ino))) r

turn_ok : (n : ℕ) (s : Server) → Placed n s → Seats s → RecallOr ⊥ n s → IfSome (turn s) (RowOk n s)
turn_ok n s placed seats r = by_test (all_connected s)
  where
    Good : Option (List Act) → Type 0
    Good o = IfSome o (RowOk n s)

    by_operation : (id : SnapId) (o : Option Asked) → Good (turn_operation s id o)
    by_operation id None = tt
    by_operation id (Some a) = still_ok n s _ (tt, still_finish id (change_asked (state_after s.entries) a.client id a.request)) r

    by_deferred : (list : List Asked) → s.deferred ≡ list → Good (turn_deferred s list)
    by_deferred [] is = purge_ok n s placed r (least (unsent_purges s))
    by_deferred (a ∷ more) is = let ok = treat_ok n (act s TakeDeferred) true a (one_seat [] s TakeDeferred tt seats) (λ b at mine_b. let same : a ≡ b = first_is (sym (ap first_of is) ∙ at) in sym (ap (λ (y : Asked). y.request) same)) r in record { shut = ok.shut; few = ok.few }
      where
        first_is : {b : Asked} → Some a ≡ Some b → a ≡ b
        first_is at = cc

    by_outstanding : (o : Option (SnapId × ℕ)) → Good (turn_at s o)
    by_outstanding None = by_deferred s.deferred refl
    by_outstanding (Some o) = by_durable (nat_le o.1 s.durable)
      where
        by_durable : (b : Bool) → Good (cond b (turn_operation s o.0 s.operation) (turn_purge s (least (unsent_purges s))))
        by_durable true = by_operation o.0 s.operation
        by_durable false = purge_ok n s placed r (least (unsent_purges s))

    by_test : (b : Bool) → Good (cond b (turn_at s (outstanding s.entries)) None)
    by_test true = by_outstanding (outstanding s.entries)
    by_test false = tt

-- the rows
abbrev Known : View
Known n c up down s = (Asking n c up down s × Placed n s) × Seats s

abbrev Recalls : View
Recalls n c up down s = RecallOr ⊥ n s

room : (k : ℕ) → k + 1 ≤ 2 + k
room k = omega arith

still_row : (n : ℕ) (c : Client) (up : List ToServer) (down : List ToClient) (s : Server) (list : List Act) → AllStill list → Fit (HoldFits []) s list → Inside n c up down s → RecallOr ⊥ n s → Server's Recalls n c up down (row_of s list)
still_row n c up down s list all fit i r = row_end n c up down (2 + length s.held) s list (acts_inside n c up down s list fit i) (still_ok n s list all r) (room (length s.held))

ask_row : (n : ℕ) (c : Client) (up : List ToServer) (down : List ToClient) (s : Server) (x conn tid : ℕ) (asked : Request) → (is_current s x conn ≡ true → Asking n c up down (take_in s (asked_by x tid asked))) → Seats s → RecallOr ⊥ n s → Server's Recalls n c up down (on_take s x (Ask conn tid asked))
ask_row n c up down s x conn tid asked asks seats r = row_if (Server's Recalls n c up down) (is_current s x conn && knows_asked s asked) (ask s (asked_by x tid asked)) (drops s) (λ may. taken (and_true (is_current s x conn) (knows_asked s asked) may)) r
  where
    a : Asked
    a = asked_by x tid asked

    taken : (is_current s x conn ≡ true) × (knows_asked s asked ≡ true) → Server's Recalls n c up down (ask s a)
    taken parts =
        let at : AskedAt s.entries s.current a = (knows_cap s asked parts.1, seat_of s x conn parts.0) in
        let t = take_in s a in
        let seats_now : Seats t = handed [] s (hand_for s a) (in_hand_for s a at) seats in
        row_end n c up down (2 + length t.held) t (treat false t a) (acts_inside n c up down t (treat false t a) (treat_fit t false a at) (asks parts.0, seats_now)) (treat_ok n t false a seats_now (hand_for_same n s a) r) (room (length t.held))

connect_row : (n : ℕ) (c : Client) (up : List ToServer) (down : List ToClient) (s : Server) (x conn : ℕ) (said : List Claim) (flushes : List FlushMsg) (asked : Option (ℕ × Request)) → Asking n c up down (back s x conn said flushes (brought x asked)) → Seats s → RecallOr ⊥ n s → Server's Recalls n c up down (on_take s x (Connect conn said flushes asked))
connect_row n c up down s x conn said flushes asked asks seats r =
    row_if (Server's Recalls n c up down) (to_server_fits (Connect conn said flushes asked)) _ (drops s)
    (λ fine. row_if (Server's Recalls n c up down) (may_connect s x conn said flushes (brought x asked)) _ (drops s) (λ may. taken may) r) r
  where
    next : Server
    next = back s x conn said flushes (brought x asked)

    now : Server
    now = acts next (treat_brought next (brought x asked))

    taken : may_connect s x conn said flushes (brought x asked) ≡ true → Server's Recalls n c up down (connect_with next (brought x asked))
    taken may = let back_now = came s x conn said flushes asked may seats in
        rounds n c up down (1 + length now.held) now (acts_inside n c up down next (treat_brought next (brought x asked)) back_now.treats (asks, back_now.seats)) (omega arith)

flush_row : (n : ℕ) (c : Client) (up : List ToServer) (down : List ToClient) (s : Server) (x conn : ℕ) (f : FlushMsg) → Inside n c up down s → RecallOr ⊥ n s → Server's Recalls n c up down (on_take s x (Flush conn f))
flush_row n c up down s x conn f i r =
    row_if (Server's Recalls n c up down) (to_server_fits (Flush conn f)) _ (drops s)
    (λ fine. row_if (Server's Recalls n c up down) (is_current s x conn && knows_file s f.ino) (row_of s (flush_rule x s f)) (drops s) (λ may. still_row n c up down s (flush_rule x s f) (still_flush x s f) (no_holds (flush_rule x s f) s (λ P. hold_flush P x s f)) i r) r) r

drop_row : (n : ℕ) (c : Client) (up : List ToServer) (down : List ToClient) (s : Server) (x conn : ℕ) (ino : Ino) → Inside n c up down s → RecallOr ⊥ n s → Server's Recalls n c up down (on_take s x (DropRead conn ino))
drop_row n c up down s x conn ino i r =
    row_if (Server's Recalls n c up down) (is_current s x conn) (row_of s (on_drop x s ino)) (drops s) (λ may. still_row n c up down s (on_drop x s ino) (still_drop x s ino) (no_holds (on_drop x s ino) s (λ P. hold_drop P x s ino)) i r) r

own : (n : ℕ) (c : Client) (m : ToServer) (up : List ToServer) (down : List ToClient) (s : Server) → Known n c (m ∷ up) down s → Recalls n c (m ∷ up) down s → Server's Recalls n c up down (on_take s n m)
own n c (Connect conn said flushes asked) up down s k r = connect_row n c up down s n conn said flushes asked
    (asking.accepts n c conn said flushes asked up down (acts s (come_back s n said flushes)) (acts_asked n c (Connect conn said flushes asked ∷ up) down s (come_back s n said flushes) k.0.0)) k.1 r
own n c (Ask conn tid asked) up down s k r = ask_row n c up down s n conn tid asked (λ is. asking.asks n c conn tid asked up down s is k.0.0) k.1 r
own n c (Flush conn f) up down s k r = flush_row n c up down s n conn f (asking.pops n c (Flush conn f) up down s k.0.0, k.1) r
own n c (DropRead conn ino) up down s k r = drop_row n c up down s n conn ino (asking.pops n c (DropRead conn ino) up down s k.0.0, k.1) r
own n c (Purged id) up down s k r = row_if (Server's Recalls n c up down) (to_server_fits (Purged id)) (drops s) (drops s) (λ fine. r) r
own n c (Deleted ino) up down s k r = r

other : (n x : ℕ) (c : Client) (m : ToServer) (up : List ToServer) (down : List ToClient) (s : Server) → (x == n) ≡ false → Known n c up down s → Recalls n c up down s → Server's Recalls n c up down (on_take s x m)
other n x c (Connect conn said flushes asked) up down s isnt k r = connect_row n c up down s x conn said flushes asked
    (asking.accepts_other n x c conn asked up down (acts s (come_back s x said flushes)) isnt (acts_asked n c up down s (come_back s x said flushes) k.0.0)) k.1 r
other n x c (Ask conn tid asked) up down s isnt k r = ask_row n c up down s x conn tid asked (λ is. asking.asks_other n x c tid asked up down s isnt k.0.0) k.1 r
other n x c (Flush conn f) up down s isnt k r = flush_row n c up down s x conn f (k.0.0, k.1) r
other n x c (DropRead conn ino) up down s isnt k r = drop_row n c up down s x conn ino (k.0.0, k.1) r
other n x c (Purged id) up down s isnt k r = row_if (Server's Recalls n c up down) (to_server_fits (Purged id)) (drops s) (drops s) (λ fine. r) r
other n x c (Deleted ino) up down s isnt k r = r

recalls_rows : KeptBefore Known Recalls
recalls_rows = record {
  op = λ n c up down s k r. still n up down s (on_op c) r;
  flush = λ n c up down s k r. still n up down s (on_flush c) r;
  told = λ n c up m down s k r. r;
  stored = λ n c m up down s k r. r;
  own = own;
  other = other;
  reported = λ n c m up down s k r. still_row n c up down s (reported s m) (still_reported s m) (no_holds (reported s m) s (λ P. hold_reported P s m)) (k.0.0, k.1) r;
  committed = λ n c up down s k r. if_some (Server's Recalls n c up down) _ _ (λ is. r);
  tended = λ n c up down s k r. tended n c up down s k (turn s) (turn_ok n s k.0.1 k.1 r) (turn_fit s k.1);
  restarted = λ n c up down s j k r. if_some (Server's Recalls n c up down) _ _ (λ fits. let t = left_with s (s.durable + j) in still_row n c up down t (restarts t) (still_restarts t) (no_holds (restarts t) t (λ P. hold_restarts P t))
      (asking.survives n c up down s j fits k.0.0, record { in_hand = tt; in_held = tt; in_deferred = tt; in_operation = tt; table = tt }) (λ now any. absurd (true≢false (sym any))));
}
  where
    still : (n : ℕ) (up : List ToServer) (down : List ToClient) (s : Server) (o : Option (Row Client)) → RecallOr ⊥ n s → IfSome o (Client's Recalls n up down s)
    still n up down s None r = tt
    still n up down s (Some x) r = r

    tended : (n : ℕ) (c : Client) (up : List ToServer) (down : List ToClient) (s : Server) → Known n c up down s → (o : Option (List Act)) → IfSome o (RowOk n s) → IfSome o (Fit (HoldFits []) s) → IfSome (option_map (row_of s) o) (Server's Recalls n c up down)
    tended n c up down s k None ok fit = tt
    tended n c up down s k (Some list) ok fit = row_end n c up down (2 + length s.held) s list (acts_inside n c up down s list fit (k.0.0, k.1)) ok (room (length s.held))

abbrev Whole : View
Whole n c up down s = Known n c up down s × Recalls n c up down s

whole_holds : (script : Script) (steps : List Step) → EachClient Whole (after (start script) steps)
whole_holds script steps = run_keeps Whole (joined (joined (joined (rows_of_acts Asking asking (all_fit Asking)) (alone (served_rows {P = Placed} placed_gives))) (alone (served_rows {P = λ n s. Seats s} (λ n. seats_gives)))) recalls_rows) (start script) steps
    (at_start Whole script (λ n is. (((((tt, first_link (new_client n (script.clients + 1) (lines_of n script.lines)) _ refl is), first_requested n (new_client n (script.clients + 1) (lines_of n script.lines)) (start script).server refl refl refl refl refl refl refl), placed_in n (up_to script.clients) is), record { in_hand = tt; in_held = tt; in_deferred = tt; in_operation = tt; table = tt }), λ now any. absurd (true≢false (sym any)))))

pub recalled_law : (script : Script) (history : List Event) → EachClient SomeIsRecalled (world_after script history)
recalled_law script history n = found (client (world_after script history).clients n) (whole_holds script (steps_of history) n)
  where
    found : (o : Option Client) → IfSome o (λ c. Whole n c (mine n (world_after script history).up) (mine n (world_after script history).down) (world_after script history).server) → IfSome o (λ c. SomeIsRecalled n c (mine n (world_after script history).up) (mine n (world_after script history).down) (world_after script history).server)
    found None all = tt
    found (Some c) all = λ connected_all any. either (all.1 (connected_all, rooted_holds script (steps_of history)) any)
      where
        either : (list_any was_recalled (world_after script history).server.holders ≡ true) ⊎ ⊥ → list_any was_recalled (world_after script history).server.holders ≡ true
        either (inl is) = is
        either (inr never) = absurd never

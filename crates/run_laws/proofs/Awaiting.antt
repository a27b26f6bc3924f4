-- While a request to write a file waits for the server, its client doesn't write the file in the table yet: what each act
-- keeps of that, and that the acts of each rule do.
use Rattle.std.proofs.Common.{◌≡◌, ◌≤◌, ℕ, ◌+◌, List, [], ◌∷◌, ◌++◌, map, Bool, true, false, true≢false, not, cond, filter, Option, None, Some, refl, sym, ap, ◌∙◌, subst, IfSome, arith, ◌⊎◌, inl, inr}
use Rattle.std.proofs.lemmas.Bool.Decides.{nat_tests}
use Rattle.std.specs.Prelude.{◌==◌, ◌&&◌, ◌||◌, max, nat_le, find, flat_map, Result, Ok, Err}
use Rattle.std.specs.List.{list_any, list_all}
use Rattle.snap_ids.specs.declared.id.Ino.{Ino}
use Rattle.snap_ids.specs.declared.id.SnapId.{SnapId}
use Rattle.snap_ids.specs.declared.values.Kind.{Kind}
use Rattle.snap_ids.specs.declared.values.Kind.TheVariants.{Dir, File}
use Rattle.snap_ids.specs.declared.values.Mode.{Mode}
use Rattle.snap_ids.specs.declared.values.Mode.TheVariants.{Read}
use Rattle.snap_ids.specs.Context.{is_listed}
use Rattle.plain_types.specs.declared.answer.Answer.{Answer}
use Rattle.plain_types.specs.declared.answer.Answer.TheVariants as answer
use Rattle.plain_types.specs.declared.answer.Refusal.{Refusal}
use Rattle.plain_types.specs.declared.change.Change.{Change}
use Rattle.plain_types.specs.declared.change.Change.TheVariants as change
use Rattle.plain_types.specs.declared.entry.Entry.{Entry}
use Rattle.plain_types.specs.declared.entry.What.{What}
use Rattle.plain_types.specs.declared.entry.What.TheVariants.{PrepareCreate, PrepareDestroy}
use Rattle.plain_types.specs.declared.message.Claim.{Claim}
use Rattle.plain_types.specs.declared.message.FlushMsg.{FlushMsg}
use Rattle.plain_types.specs.declared.message.ToClient.{ToClient}
use Rattle.plain_types.specs.declared.message.ToServer.{ToServer}
use Rattle.plain_types.specs.declared.message.ToServer.TheVariants.{Connect, Ask, Flush, DropRead, Purged, Deleted}
use Rattle.plain_types.specs.declared.request.Query.TheVariants as query
use Rattle.plain_types.specs.declared.request.Request.{Request}
use Rattle.plain_types.specs.declared.request.Request.TheVariants as request
use Rattle.plain_tree.specs.Query.{Found, InLive, SnapsOf, InTree}
use Rattle.plain_tree.specs.Request.{change_asked}
use Rattle.plain_tree.specs.State.{same_ino, kind_in}
use Rattle.plain_journal.specs.Answers.{found, answer_to}
use Rattle.plain_journal.specs.Entries.{applied, state_after, tree_at}
use Rattle.plain_journal.specs.Table.{last_flush, outstanding, to_purge, dead, barrier}
use Rattle.held_files.specs.Files.{is_empty, is_ino, is_write}
use Rattle.step_table.specs.ServerState.{Asked, Holder, Server, Told, Answered, Granted, WantedBack, Changed, Acked, tell_at, number_of, up_to, all_connected, is_holder, is_writer}
use Rattle.step_table.specs.Acts.{Act, TellRecall, TellAck, TellRestart, AnswerIt, GrantIt, MakeEffect, Prepare, Wait, Defer, DeferFirst, TakeHeld, TakeDeferred, TakeOperation, Buffer, Hold, Raise, MarkRecalled, Settled, LetGo, LetAllGo, act, acts, each, of_client, as_list, first_of, recalled, settled, answer_hand, grant_hand, effect_hand, buffer_for, written_down, prepare_hand, entry_for, buffer}
use Rattle.step_table.specs.Capabilities.{in_conflict, against, is_recalled, recall, recalls, tenure, give_to, give, ask_cap, found_live, ask_found, clash, owing}
use Rattle.step_table.specs.Requests.{treat, treat_known, treat_new, kept_answer, is_operation, is_busy, decided, make, prepare, next_id, by_kind, settled_answer, look_at, decide_anew}
use Rattle.step_table.specs.Flushes.{take_flush, on_flush, on_drop, claimed, take_claim, take_brought, come_back}
use Rattle.step_table.specs.Background.{roll_back, finish, finish_with, least, unsent_purges, turn_operation, turn_deferred, turn_purge, turn_dead, turn_barrier, turn_at, turn, is_due, first_file, first_barrier, waits_at, is_finished, open_to, holders_of}
use Rattle.step_table.specs.ServerRows.{reported, restarts, roll_back_from}
use Rattle.step_table.specs.ClientState.{Client, open_request}
use Rattle.run_laws.specs.Answered.{asks_capability}
use Rattle.run_laws.specs.Links.{mail_of}
use Rattle.run_laws.specs.Requests.{AllOf, count, asks, answers, Requested}
use Rattle.run_laws.specs.Tenures.{is_release, asks_write, wants_write}
use Rattle.run_laws.proofs.Acts.{Fit, fit_append, notices_keep, acts_keep}
use Rattle.run_laws.proofs.Answering.{buffer_same, change_no_cap}
use Rattle.run_laws.proofs.Asked.{count_append, count_drop, count_less, requests_act}
use Rattle.run_laws.proofs.Granting.{IfOpen, not_asked}
use Rattle.run_laws.proofs.Once.{HandOf, first_client}
use Rattle.run_laws.proofs.Returning.{AllFall, fall_acts}
use Rattle.run_laws.proofs.Rounds.{Ends, ends_treat}
use Rattle.run_laws.proofs.Shares.{rank, shares, shares_end, shares_same, shares_filter, raised_either}
use Rattle.run_laws.proofs.Taking.{current_all}
use Rattle.run_laws.proofs.Waiting.{recalls_hand}

-- a release of the file is on the way, where the server has this number for the client
abbrev pub Rel : List ToServer → Ino → Option ℕ → Type 0
Rel up ino None = Unit {0}
Rel up ino (Some k) = list_any (is_release k ino) up ≡ true

-- no request of the client is on the way, or waits at the server
abbrev pub Bare : ℕ → List ToServer → Server → Type 0
Bare n up s = asks up + (count n s.held + count n s.deferred + count n (as_list s.operation)) ≡ 0

-- the client writes what it asked for only in a table that a release is to leave
abbrev pub Few : ℕ → Client → List ToServer → Server → Type 0
Few n c up s = (ino : Ino) → wants_write ino c.under ≡ true → 2 ≤ shares n ino s.holders → Rel up ino (number_of s.current n)

-- or its request is treated
abbrev pub Awaits : ℕ → Client → List ToServer → Server → Type 0
Awaits n c up s = (ino : Ino) → wants_write ino c.under ≡ true → 2 ≤ shares n ino s.holders → Rel up ino (number_of s.current n) ⊎ Bare n up s

pub awaits_few : (n : ℕ) (c : Client) (up : List ToServer) (s : Server) → 1 ≤ asks up + (count n s.held + count n s.deferred + count n (as_list s.operation)) → Awaits n c up s → Few n c up s
awaits_few n c up s some was ino wants two = either (was ino wants two)
  where
    either : Rel up ino (number_of s.current n) ⊎ Bare n up s → Rel up ino (number_of s.current n)
    either (inl rel) = rel
    either (inr bare) = absurd (omega (arith, some, bare))

-- An act fits that makes the client a writer when its request doesn't wait, and by which it waits only where it is no writer.
abbrev NotWrite : ℕ → Client → Server → Type 0
NotWrite n c s = (b : Asked) → s.hand ≡ Some b → of_client n b ≡ true → (ino : Ino) → wants_write ino c.under ≡ false

abbrev pub AwaitFit : ℕ → Client → List ToServer → Server → Act → Type 0
AwaitFit n c up s Wait = (b : Asked) → s.hand ≡ Some b → of_client n b ≡ true → Few n c up s
AwaitFit n c up s Defer = NotWrite n c s
AwaitFit n c up s DeferFirst = NotWrite n c s
AwaitFit n c up s (Prepare said) = NotWrite n c s
AwaitFit n c up s (Hold h) = (h.client == n) ≡ true → Bare n up s
AwaitFit n c up s (Raise x ino upto) = (x == n) ≡ true → Bare n up s
AwaitFit n c up s a = Unit {0}

-- acts that leave all that is read
abbrev Same : Server → Server → Type 0
Same s t = (t.current ≡ s.current) × (t.holders ≡ s.holders) × (t.held ≡ s.held) × (t.deferred ≡ s.deferred) × (t.operation ≡ s.operation)

told_same : (s t : Server) (x : ℕ) (told : Told) (o : Option ℕ) → Same s t → Same s (tell_at t x told o)
told_same s t x told None same = same
told_same s t x told (Some j) same = same

buffered_same : (s t : Server) (e : Entry) → Same s t → Same s (buffer t e)
buffered_same s t e same = notices_keep (Same s) (λ u x inos so. told_same s u x (Changed inos) (number_of u.current x) so) t.entries (up_to t.clients) (record t { entries = t.entries ++ e ∷ [] }) same

-- where these are the same, and the requests are no more
pub fewer_awaits : (n : ℕ) (c : Client) (up : List ToServer) (s t : Server) → number_of t.current n ≡ number_of s.current n → ((ino : Ino) → 2 ≤ shares n ino t.holders → 2 ≤ shares n ino s.holders)
    → count n t.held + count n t.deferred + count n (as_list t.operation) ≤ count n s.held + count n s.deferred + count n (as_list s.operation) → Awaits n c up s → Awaits n c up t
fewer_awaits n c up s t current less few was ino wants two = either (was ino wants (less ino two))
  where
    either : Rel up ino (number_of s.current n) ⊎ Bare n up s → Rel up ino (number_of t.current n) ⊎ Bare n up t
    either (inl rel) = inl (subst (Rel up ino) (sym current) rel)
    either (inr bare) = inr (omega (arith, bare, few))

same_awaits : (n : ℕ) (c : Client) (up : List ToServer) (s t : Server) → Same s t → Awaits n c up s → Awaits n c up t
same_awaits n c up s t same was = fewer_awaits n c up s t (ap (λ (l : List (ℕ × ℕ)). number_of l n) same.0) (λ ino two. subst (λ (l : List Holder). 2 ≤ shares n ino l) same.1 two)
    (let a = ap (count n) same.2 in let b = ap (count n) same.3 in let d = ap (λ (o : Option Asked). count n (as_list o)) same.4 in omega (arith, a, b, d)) was

-- the request in hand is the client's, or it has none there
abbrev HandOr : ℕ → Server → Type 0
HandOr n s = (count n (as_list s.hand) ≡ 0) ⊎ ((b : Asked) × (s.hand ≡ Some b) × (of_client n b ≡ true))

hand_or : (n : ℕ) (s : Server) → HandOr n s
hand_or n s = by_hand s.hand refl
  where
    by_hand : (o : Option Asked) → s.hand ≡ o → HandOr n s
    by_hand None is = inl (ap (λ (o : Option Asked). count n (as_list o)) is)
    by_hand (Some b) is = by_test (of_client n b) refl
      where
        by_test : (d : Bool) → of_client n b ≡ d → HandOr n s
        by_test true test = inr (b, is, test)
        by_test false test = inl (ap (λ (o : Option Asked). count n (as_list o)) is ∙ rw test refl)

hold_two : (n : ℕ) (ino : Ino) (holders : List Holder) (h : Holder) → 2 ≤ shares n ino (holders ++ h ∷ []) → (2 ≤ shares n ino holders) ⊎ ((h.client == n) ≡ true)
hold_two n ino holders h two = by_test (h.client == n) (same_ino h.ino ino) refl (let e = shares_end n ino holders h in omega (arith, e, two))
  where
    by_test : (a b : Bool) → (h.client == n) ≡ a → 2 ≤ max (shares n ino holders) (cond (a && b) (rank h.mode) 0) → (2 ≤ shares n ino holders) ⊎ ((h.client == n) ≡ true)
    by_test true b is two = inr is
    by_test false b is two = inl (omega (arith, two))

pub awaits_act : (n : ℕ) (c : Client) (up : List ToServer) (s : Server) (a : Act) → AwaitFit n c up s a → Awaits n c up s → Awaits n c up (act s a)
awaits_act n c up s (TellRecall x ino) fit was = same_awaits n c up s (act s (TellRecall x ino)) (told_same s s x (WantedBack ino) (number_of s.current x) (refl, refl, refl, refl, refl)) was
awaits_act n c up s (TellAck x number) fit was = same_awaits n c up s (act s (TellAck x number)) (told_same s s x (Acked number) (number_of s.current x) (refl, refl, refl, refl, refl)) was
awaits_act n c up s (AnswerIt said) fit was = by_hand s.hand
  where
    by_hand : (o : Option Asked) → Awaits n c up (answer_hand s said o)
    by_hand None = was
    by_hand (Some a) = same_awaits n c up s (answer_hand s said (Some a)) (told_same s (record s { hand = None }) a.client (Answered a.tid said) (number_of s.current a.client) (refl, refl, refl, refl, refl)) was
awaits_act n c up s (GrantIt ino mode) fit was = by_hand s.hand
  where
    by_hand : (o : Option Asked) → Awaits n c up (grant_hand s ino mode o)
    by_hand None = was
    by_hand (Some a) = same_awaits n c up s (grant_hand s ino mode (Some a)) (told_same s (record s { hand = None }) a.client (Granted a.tid ino mode) (number_of s.current a.client) (refl, refl, refl, refl, refl)) was
awaits_act n c up s (MakeEffect made) fit was = by_hand s.hand
  where
    by_said : (a : Asked) (o : Option What) → Awaits n c up (buffer_for s a o)
    by_said a None = was
    by_said a (Some said) = same_awaits n c up s (buffer s (entry_for a said)) (buffered_same s s (entry_for a said) (refl, refl, refl, refl, refl)) was

    by_hand : (o : Option Asked) → Awaits n c up (effect_hand s made o)
    by_hand None = was
    by_hand (Some a) = by_said a (written_down made)
awaits_act n c up s (Prepare said) fit was = by_hand s.hand refl
  where
    prepared : (a : Asked) → s.hand ≡ Some a → Awaits n c up (record s { operation = Some a; hand = None })
    prepared a is ino wants two = either (was ino wants two)
      where
        by_test : (b : Bool) → of_client n a ≡ b → Bare n up s → Rel up ino (number_of s.current n) ⊎ Bare n up (record s { operation = Some a; hand = None })
        by_test true test bare = absurd (true≢false (sym wants ∙ fit a is test ino))
        by_test false test bare = inr (let none : count n (a ∷ []) ≡ 0 = rw test refl in omega (arith, bare, none))

        either : Rel up ino (number_of s.current n) ⊎ Bare n up s → Rel up ino (number_of s.current n) ⊎ Bare n up (record s { operation = Some a; hand = None })
        either (inl rel) = inl rel
        either (inr bare) = by_test (of_client n a) refl bare

    by_hand : (o : Option Asked) → s.hand ≡ o → Awaits n c up (prepare_hand s said o)
    by_hand None is = was
    by_hand (Some a) is = let t = record s { operation = Some a; hand = None } in same_awaits n c up t (buffer t (entry_for a said)) (buffered_same t t (entry_for a said) (refl, refl, refl, refl, refl)) (prepared a is)
awaits_act n c up s (Buffer e) fit was = same_awaits n c up s (buffer s e) (buffered_same s s e (refl, refl, refl, refl, refl)) was
awaits_act n c up s Wait fit was = λ ino wants two. by_hand ino wants two (hand_or n s) (was ino wants two)
  where
    by_hand : (ino : Ino) → wants_write ino c.under ≡ true → 2 ≤ shares n ino s.holders → HandOr n s → Rel up ino (number_of s.current n) ⊎ Bare n up s → Rel up ino (number_of s.current n) ⊎ Bare n up (act s Wait)
    by_hand ino wants two hand (inl rel) = inl rel
    by_hand ino wants two (inl none) (inr bare) = inr (let sum = count_append n s.held (as_list s.hand) in omega (arith, bare, none, sum))
    by_hand ino wants two (inr mine_it) (inr bare) = inl (fit mine_it.0 mine_it.1 mine_it.2 ino wants two)
awaits_act n c up s Defer fit was = λ ino wants two. by_hand ino wants (hand_or n s) (was ino wants two)
  where
    by_hand : (ino : Ino) → wants_write ino c.under ≡ true → HandOr n s → Rel up ino (number_of s.current n) ⊎ Bare n up s → Rel up ino (number_of s.current n) ⊎ Bare n up (act s Defer)
    by_hand ino wants hand (inl rel) = inl rel
    by_hand ino wants (inl none) (inr bare) = inr (let sum = count_append n s.deferred (as_list s.hand) in omega (arith, bare, none, sum))
    by_hand ino wants (inr mine_it) (inr bare) = absurd (true≢false (sym wants ∙ fit mine_it.0 mine_it.1 mine_it.2 ino))
awaits_act n c up s DeferFirst fit was = λ ino wants two. by_hand ino wants (hand_or n s) (was ino wants two)
  where
    by_hand : (ino : Ino) → wants_write ino c.under ≡ true → HandOr n s → Rel up ino (number_of s.current n) ⊎ Bare n up s → Rel up ino (number_of s.current n) ⊎ Bare n up (act s DeferFirst)
    by_hand ino wants hand (inl rel) = inl rel
    by_hand ino wants (inl none) (inr bare) = inr (let sum = count_append n (as_list s.hand) s.deferred in omega (arith, bare, none, sum))
    by_hand ino wants (inr mine_it) (inr bare) = absurd (true≢false (sym wants ∙ fit mine_it.0 mine_it.1 mine_it.2 ino))
awaits_act n c up s (TakeHeld x) fit was = fewer_awaits n c up s (act s (TakeHeld x)) refl (λ ino two. two) (let less = count_less n (λ a. not (of_client x a)) s.held in omega (arith, less)) was
awaits_act n c up s TakeDeferred fit was = fewer_awaits n c up s (act s TakeDeferred) refl (λ ino two. two) (let less = count_drop n s.deferred in omega (arith, less)) was
awaits_act n c up s TakeOperation fit was = fewer_awaits n c up s (act s TakeOperation) refl (λ ino two. two) (omega arith) was
awaits_act n c up s (Hold h) fit was = λ ino wants two. either ino wants (hold_two n ino s.holders h two)
  where
    either : (ino : Ino) → wants_write ino c.under ≡ true → (2 ≤ shares n ino s.holders) ⊎ ((h.client == n) ≡ true) → Rel up ino (number_of s.current n) ⊎ Bare n up s
    either ino wants (inl two) = was ino wants two
    either ino wants (inr is) = inr (fit is)
awaits_act n c up s (Raise x file upto) fit was = λ ino wants two. either ino wants (raised_either n x ino file upto s.holders two)
  where
    either : (ino : Ino) → wants_write ino c.under ≡ true → (2 ≤ shares n ino s.holders) ⊎ (((x == n) ≡ true) × (is_ino ino file ≡ true)) → Rel up ino (number_of s.current n) ⊎ Bare n up s
    either ino wants (inl two) = was ino wants two
    either ino wants (inr is) = inr (fit is.0)
awaits_act n c up s (MarkRecalled x file) fit was = fewer_awaits n c up s (act s (MarkRecalled x file)) refl (λ ino two. let e = shares_same n ino (recalled x file) s.holders (λ h. refl) in omega (arith, e, two)) (omega arith) was
awaits_act n c up s (Settled x file upto) fit was = fewer_awaits n c up s (act s (Settled x file upto)) refl (λ ino two. let e = shares_same n ino (settled x file upto) s.holders (λ h. refl) in omega (arith, e, two)) (omega arith) was
awaits_act n c up s (LetGo x file) fit was = fewer_awaits n c up s (act s (LetGo x file)) refl (λ ino two. let less = shares_filter n ino (λ h. not (is_holder x file h)) s.holders in omega (arith, less, two)) (omega arith) was
awaits_act n c up s (LetAllGo x) fit was = fewer_awaits n c up s (act s (LetAllGo x)) refl (λ ino two. let less = shares_filter n ino (λ h. not (h.client == x)) s.holders in omega (arith, less, two)) (omega arith) was
awaits_act n c up s a fit was = was

-- acts that always fit
abbrev IsFree : Act → Type 0
IsFree Wait = ⊥
IsFree Defer = ⊥
IsFree DeferFirst = ⊥
IsFree (Prepare said) = ⊥
IsFree (Hold h) = ⊥
IsFree (Raise x ino upto) = ⊥
IsFree a = Unit {0}

abbrev AllFree : List Act → Type 0
AllFree [] = Unit {0}
AllFree (a ∷ list) = IsFree a × AllFree list

free_fits : (n : ℕ) (c : Client) (up : List ToServer) (s : Server) (a : Act) → IsFree a → AwaitFit n c up s a
free_fits n c up s Wait is = absurd is
free_fits n c up s Defer is = absurd is
free_fits n c up s DeferFirst is = absurd is
free_fits n c up s (Prepare said) is = absurd is
free_fits n c up s (Hold h) is = absurd is
free_fits n c up s (Raise x ino upto) is = absurd is
free_fits n c up s a is = tt

free_fit : (n : ℕ) (c : Client) (up : List ToServer) (list : List Act) (s : Server) → AllFree list → Fit (AwaitFit n c up) s list
free_fit n c up [] s all = tt
free_fit n c up (a ∷ list) s all = (free_fits n c up s a all.0, free_fit n c up list (act s a) all.1)

free_append : (xs ys : List Act) → AllFree xs → AllFree ys → AllFree (xs ++ ys)
free_append [] ys all more = more
free_append (x ∷ xs) ys all more = (all.0, free_append xs ys all.1 more)

free_if : (b : Bool) (xs ys : List Act) → AllFree xs → AllFree ys → AllFree (cond b xs ys)
free_if true xs ys here other = here
free_if false xs ys here other = other

free_flat : {X : Type 0} (f : X → List Act) → ((x : X) → AllFree (f x)) → (xs : List X) → AllFree (flat_map f xs)
free_flat f one [] = tt
free_flat f one (x ∷ xs) = free_append (f x) (flat_map f xs) (one x) (free_flat f one xs)

free_recalls : (s : Server) (ino : Ino) (clients : List ℕ) → AllFree (recalls s ino clients)
free_recalls s ino clients = free_flat (recall s ino) (λ x. free_if (is_recalled s ino x) [] (MarkRecalled x ino ∷ TellRecall x ino ∷ []) tt (tt, (tt, tt))) clients

fall_recalls : (s : Server) (ino : Ino) (clients : List ℕ) → AllFall (recalls s ino clients)
fall_recalls s ino [] = tt
fall_recalls s ino (x ∷ clients) = by_test (is_recalled s ino x) (fall_recalls s ino clients)
  where
    by_test : (b : Bool) → AllFall (recalls s ino clients) → AllFall (cond b [] (MarkRecalled x ino ∷ TellRecall x ino ∷ []) ++ recalls s ino clients)
    by_test true rest = rest
    by_test false rest = (tt, (tt, rest))

-- The request in hand is treated.
pub record Treats (n : ℕ) (c : Client) (up : List ToServer) (s : Server) (a : Asked) : Type 0 where
  pub of : HandOf s a.client
  pub it : IfOpen n c a
  pub few : (a.client == n) ≡ true → Few n c up s
  pub bare : is_operation s a ≡ false → (a.client == n) ≡ true → Bare n up s

few_later : (n : ℕ) (c : Client) (up : List ToServer) (s t : Server) → t.current ≡ s.current → ((ino : Ino) → shares n ino t.holders ≤ shares n ino s.holders) → Few n c up s → Few n c up t
few_later n c up s t current less few ino wants two = subst (λ (l : List (ℕ × ℕ)). Rel up ino (number_of l n)) (sym current) (few ino wants (let most = less ino in omega (arith, most, two)))

its_client : (n x : ℕ) (b : Asked) → b.client ≡ x → of_client n b ≡ true → (x == n) ≡ true
its_client n x b of mine_b = subst (λ (y : ℕ). (y == n) ≡ true) of mine_b

waits_fit : (n : ℕ) (c : Client) (up : List ToServer) (s : Server) (x : ℕ) → HandOf s x → ((x == n) ≡ true → Few n c up s) → Fit (AwaitFit n c up) s (Wait ∷ [])
waits_fit n c up s x of few = ((λ b is mine_b. few (its_client n x b (of b is) mine_b)), tt)

cap_fit : (n : ℕ) (c : Client) (up : List ToServer) (s : Server) (x : ℕ) (ino : Ino) (mode : Mode) (granted : Act) → IsFree granted → HandOf s x → ((x == n) ≡ true → Few n c up s) → ((x == n) ≡ true → Bare n up s) → Fit (AwaitFit n c up) s (ask_cap s x ino mode granted)
cap_fit n c up s x ino mode granted free of few bare = by_test (in_conflict s x ino mode)
  where
    list : List Act
    list = recalls s ino (against s x ino mode)

    then : Server
    then = acts s list

    give_fit : (o : Option Holder) → Fit (AwaitFit n c up) s (give_to s x ino mode o ++ granted ∷ [])
    give_fit None = (bare, (free_fits n c up (act s (Hold (tenure s x ino mode))) granted free, tt))
    give_fit (Some h) = by_raise (is_write mode && not (is_write h.mode))
      where
        by_raise : (b : Bool) → Fit (AwaitFit n c up) s (cond b (Raise x ino (record { 0 = applied s.entries }) ∷ []) [] ++ granted ∷ [])
        by_raise true = (bare, (free_fits n c up (act s (Raise x ino (record { 0 = applied s.entries }))) granted free, tt))
        by_raise false = (free_fits n c up s granted free, tt)

    by_test : (b : Bool) → Fit (AwaitFit n c up) s (cond b (list ++ Wait ∷ []) (give s x ino mode ++ granted ∷ []))
    by_test true = fit_append (AwaitFit n c up) s list (Wait ∷ []) (free_fit n c up list s (free_recalls s ino (against s x ino mode)))
        (waits_fit n c up then x (λ b is. of b (sym (recalls_hand s ino (against s x ino mode) s) ∙ is))
        (λ at. few_later n c up s then (current_all list s) (λ y. fall_acts n y list s (fall_recalls s ino (against s x ino mode))) (few at)))
    by_test false = give_fit (find (is_holder x ino) s.holders)

found_fit : (n : ℕ) (c : Client) (up : List ToServer) (s : Server) (x : ℕ) (ino : Ino) → HandOf s x → ((x == n) ≡ true → Few n c up s) → ((x == n) ≡ true → Bare n up s) → Fit (AwaitFit n c up) s (ask_found s x ino)
found_fit n c up s x ino of few bare = by_test (list_any (is_writer x ino) s.holders)
  where
    by_test : (b : Bool) → Fit (AwaitFit n c up) s (cond b (AnswerIt (found_live s ino true) ∷ []) (ask_cap s x ino Read (AnswerIt (found_live s ino false))))
    by_test true = (tt, tt)
    by_test false = cap_fit n c up s x ino Read (AnswerIt (found_live s ino false)) tt of few bare

kind_fit : (F : Server → Act → Type 0) (s : Server) (k : Kind) (xs ys : List Act) → Fit F s xs → Fit F s ys → Fit F s (by_kind k xs ys)
kind_fit F s Dir xs ys one other = one
kind_fit F s File xs ys one other = other

look_fit : (n : ℕ) (c : Client) (up : List ToServer) (s : Server) (a : Asked) (said : Answer) (o : Result Found Refusal) → HandOf s a.client → ((a.client == n) ≡ true → Few n c up s) → ((a.client == n) ≡ true → Bare n up s) → Fit (AwaitFit n c up) s (look_at s a said o)
look_fit n c up s a said (Ok (InLive ino)) of few bare = kind_fit (AwaitFit n c up) s (kind_in (state_after s.entries).inodes ino) (AnswerIt said ∷ []) (ask_found s a.client ino) (tt, tt) (found_fit n c up s a.client ino of few bare)
look_fit n c up s a said (Ok (InTree id ino)) of few bare = kind_fit (AwaitFit n c up) s (kind_in (tree_at s.entries id).inodes ino) (AnswerIt said ∷ []) (AnswerIt (settled_answer said (owing s ino id)) ∷ []) (tt, tt) (tt, tt)
look_fit n c up s a said (Ok (SnapsOf dir)) of few bare = (tt, tt)
look_fit n c up s a said (Err refusal) of few bare = (tt, tt)

prepare_fit : (n : ℕ) (c : Client) (up : List ToServer) (s : Server) (alone : Bool) (said : What) → NotWrite n c s → Fit (AwaitFit n c up) s (prepare alone s said)
prepare_fit n c up s alone said none = by_test (is_busy alone s)
  where
    by_test : (b : Bool) → Fit (AwaitFit n c up) s (cond b (Defer ∷ []) (Prepare said ∷ []))
    by_test true = (none, tt)
    by_test false = (none, tt)

make_fit : (n : ℕ) (c : Client) (up : List ToServer) (s : Server) (alone : Bool) (made : Change) → NotWrite n c s → Fit (AwaitFit n c up) s (make alone s made)
make_fit n c up s alone (change.Mksnap id dir name) none = prepare_fit n c up s alone (PrepareCreate id) none
make_fit n c up s alone (change.Rmsnap id) none = prepare_fit n c up s alone (PrepareDestroy id) none
make_fit n c up s alone made none = (tt, (tt, tt))

decided_fit : (n : ℕ) (c : Client) (up : List ToServer) (s : Server) (alone : Bool) (o : Option (Result Change Refusal)) → NotWrite n c s → Fit (AwaitFit n c up) s (decided alone s o)
decided_fit n c up s alone None none = tt
decided_fit n c up s alone (Some (Err refusal)) none = (tt, tt)
decided_fit n c up s alone (Some (Ok made)) none = make_fit n c up s alone made none

-- a request that is for no capability isn't to write
no_cap_write : (asked : Request) (ino : Ino) → asks_capability asked ≡ false → asks_write ino asked ≡ false
no_cap_write (request.Cap file mode) ino none = absurd (true≢false none)
no_cap_write asked ino none = refl

not_write : (n : ℕ) (c : Client) (s : Server) (a : Asked) → HandOf s a.client → IfOpen n c a → asks_capability a.request ≡ false → NotWrite n c s
not_write n c s a of it none b is mine_b ino = not_asked c.under a.tid a.request ino (it (its_client n a.client b (of b is) mine_b)) (no_cap_write a.request ino none)

new_fit : (n : ℕ) (c : Client) (up : List ToServer) (s : Server) (alone : Bool) (a : Asked) (asked : Request) → a.request ≡ asked → HandOf s a.client → IfOpen n c a → ((a.client == n) ≡ true → Few n c up s) → ((a.client == n) ≡ true → Bare n up s) → Fit (AwaitFit n c up) s (treat_new alone s a asked)
new_fit n c up s alone a (request.Cap ino mode) same of it few bare = cap_fit n c up s a.client ino mode (GrantIt ino mode) tt of few bare
new_fit n c up s alone a (request.Cat path) same of it few bare = look_fit n c up s a (answer_to s.entries (query.Cat path)) (found s.entries path) of few bare
new_fit n c up s alone a (request.Stat path) same of it few bare = look_fit n c up s a (answer_to s.entries (query.Stat path)) (found s.entries path) of few bare
new_fit n c up s alone a (request.List path) same of it few bare = (tt, tt)
new_fit n c up s alone a (request.Realm path) same of it few bare = (tt, tt)
new_fit n c up s alone a (request.Clones path index) same of it few bare = (tt, tt)
new_fit n c up s alone a (request.Barrier number) same of it few bare = by_test (nat_le number (barrier s.entries))
  where
    by_test : (b : Bool) → Fit (AwaitFit n c up) s (cond b (AnswerIt answer.Done ∷ []) (Wait ∷ []))
    by_test true = (tt, tt)
    by_test false = waits_fit n c up s a.client of few
new_fit n c up s alone a asked same of it few bare = decided_fit n c up s alone (change_asked (state_after s.entries) a.client (next_id s) asked) (not_write n c s a of it (ap asks_capability same))

pub treat_fit : (n : ℕ) (c : Client) (up : List ToServer) (s : Server) (alone : Bool) (a : Asked) → Treats n c up s a → Fit (AwaitFit n c up) s (treat alone s a)
treat_fit n c up s alone a t = by_test (all_connected s)
  where
    by_operation : (b : Bool) → is_operation s a ≡ b → Fit (AwaitFit n c up) s (cond b [] (treat_new alone s a a.request))
    by_operation true is = tt
    by_operation false is = new_fit n c up s alone a a.request refl t.of t.it t.few (t.bare is)

    by_kept : (o : Option Answer) → Fit (AwaitFit n c up) s (treat_known alone s a o)
    by_kept (Some said) = (tt, tt)
    by_kept None = by_operation (is_operation s a) refl

    by_test : (b : Bool) → Fit (AwaitFit n c up) s (cond b (treat_known alone s a (kept_answer s a)) (Wait ∷ []))
    by_test true = by_kept (kept_answer s a)
    by_test false = waits_fit n c up s a.client t.of t.few

-- where the request in hand is the client's, none waits
pub bare_of : (n : ℕ) (c : Client) (up : List ToServer) (down : List ToClient) (s : Server) → Requested n c up down s → 1 ≤ count n (as_list s.hand) → Bare n up s
bare_of n c up down s r some = let one : asks up + (count n (as_list s.hand) + count n s.held + count n s.deferred + count n (as_list s.operation)) + answers r.base (down ++ mail_of n s.mail) ≤ 1 = r.one in omega (arith, one, some)

-- what holds between the acts
abbrev pub Between : ℕ → Client → List ToServer → List ToClient → Server → Type 0
Between n c up down s = Requested n c up down s × Awaits n c up s

pub between_act : (n : ℕ) (c : Client) (up : List ToServer) (down : List ToClient) (s : Server) (a : Act) → AwaitFit n c up s a → Between n c up down s → Between n c up down (act s a)
between_act n c up down s a fit q = (requests_act n c up down s a q.0, awaits_act n c up s a fit q.1)

-- The held requests: the one that is treated is in hand then.
count_any : (n : ℕ) (xs : List Asked) → list_any (of_client n) xs ≡ true → 1 ≤ count n xs
count_any n [] any = absurd (true≢false (sym any))
count_any n (a ∷ xs) any = by_test (of_client n a) any (count_any n xs)
  where
    by_test : (b : Bool) → (b || list_any (of_client n) xs) ≡ true → (list_any (of_client n) xs ≡ true → 1 ≤ count n xs) → 1 ≤ cond b (count n xs + 1) (count n xs)
    by_test true any go = omega arith
    by_test false any go = go any

first_taken : (n : ℕ) (xs : List Asked) → 1 ≤ count n xs → 1 ≤ count n (as_list (first_of (filter (of_client n) xs)))
first_taken n [] some = absurd (omega (arith, some))
first_taken n (a ∷ xs) some = by_test (of_client n a) refl some (first_taken n xs)
  where
    by_test : (b : Bool) → of_client n a ≡ b → 1 ≤ cond b (count n xs + 1) (count n xs) → (1 ≤ count n xs → 1 ≤ count n (as_list (first_of (filter (of_client n) xs)))) → 1 ≤ count n (as_list (first_of (cond b (a ∷ filter (of_client n) xs) (filter (of_client n) xs))))
    by_test true is some go = rw is (omega arith)
    by_test false is some go = go some

others_taken : (n x : ℕ) (xs : List Asked) → (x == n) ≡ false → count n (filter (λ a. not (of_client x a)) xs) ≡ count n xs
others_taken n x [] other = refl
others_taken n x (a ∷ xs) other = by_tests (a.client == x) (a.client == n) refl refl (others_taken n x xs other)
  where
    by_tests : (b d : Bool) → (a.client == x) ≡ b → (a.client == n) ≡ d → count n (filter (λ a. not (of_client x a)) xs) ≡ count n xs → count n (cond (not b) (a ∷ filter (λ a. not (of_client x a)) xs) (filter (λ a. not (of_client x a)) xs)) ≡ cond d (count n xs + 1) (count n xs)
    by_tests true true is at rest = absurd (true≢false (grind (arith, nat_tests, is, at, other)))
    by_tests true false is at rest = rest
    by_tests false true is at rest = rw at (omega (arith, rest))
    by_tests false false is at rest = rw at rest

pub held_fit : (n : ℕ) (c : Client) (up : List ToServer) (down : List ToClient) (list : List Asked) (s : Server) → AllOf n (open_request c.under) list → count n list ≤ 1 → (1 ≤ count n list → 1 ≤ count n s.held) → Between n c up down s → Fit (AwaitFit n c up) s (each (λ t (a : Asked). TakeHeld a.client ∷ treat false (act t (TakeHeld a.client)) a) s list)
held_fit n c up down [] s all few there q = tt
held_fit n c up down (a ∷ list) s all few there q = by_client (a.client == n) refl few there (λ u few there q. held_fit n c up down list u all.1 few there q)
  where
    t : Server
    t = act s (TakeHeld a.client)

    front : List Act
    front = TakeHeld a.client ∷ treat false t a

    q_now : Between n c up down t
    q_now = between_act n c up down s (TakeHeld a.client) tt q

    same : (a.client == n) ≡ true → a.client ≡ n
    same is = grind (arith, nat_tests, is)

    in_hand : (a.client == n) ≡ true → 1 ≤ count n s.held → 1 ≤ count n (as_list t.hand)
    in_hand is some = subst (λ (x : ℕ). 1 ≤ count n (as_list (first_of (filter (of_client x) s.held)))) (sym (same is)) (first_taken n s.held some)

    fits : ((a.client == n) ≡ true → 1 ≤ count n s.held) → Fit (AwaitFit n c up) t (treat false t a)
    fits there = treat_fit n c up t false a (record {
      of = λ b is. first_client a.client s.held b is;
      it = all.0;
      few = λ is. few_later n c up s t refl (λ ino. omega arith) (awaits_few n c up s (let some = there is in omega (arith, some)) q.1);
      bare = λ isnt is. bare_of n c up down t q_now.0 (in_hand is (there is));
    })

    Rest : Type 0
    Rest = (u : Server) → count n list ≤ 1 → (1 ≤ count n list → 1 ≤ count n u.held) → Between n c up down u → Fit (AwaitFit n c up) u (each (λ t (a : Asked). TakeHeld a.client ∷ treat false (act t (TakeHeld a.client)) a) u list)

    go : Rest → Fit (AwaitFit n c up) t (treat false t a) → count n list ≤ 1 → (1 ≤ count n list → 1 ≤ count n (acts s front).held) → Fit (AwaitFit n c up) s (front ++ each (λ t (a : Asked). TakeHeld a.client ∷ treat false (act t (TakeHeld a.client)) a) (acts s front) list)
    go rest fit few there = fit_append (AwaitFit n c up) s front (each (λ t (a : Asked). TakeHeld a.client ∷ treat false (act t (TakeHeld a.client)) a) (acts s front) list) (tt, fit)
        (rest (acts s front) few there (acts_keep {F = AwaitFit n c up} {Q = Between n c up down} (λ u b so r. between_act n c up down u b so r) front s (tt, fit) q))

    still : (a.client == n) ≡ false → Ends t (treat false t a) → 1 ≤ count n s.held → 1 ≤ count n (acts t (treat false t a)).held
    still isnt (inl held) some = let e = ap (count n) held in let kept = others_taken n a.client s.held isnt in omega (arith, e, kept, some)
    still isnt (inr held) some = let e = ap (count n) held.0 in let sum = count_append n t.held (as_list t.hand) in let kept = others_taken n a.client s.held isnt in omega (arith, e, sum, kept, some)

    by_client : (b : Bool) → (a.client == n) ≡ b → cond b (count n list + 1) (count n list) ≤ 1 → (1 ≤ cond b (count n list + 1) (count n list) → 1 ≤ count n s.held) → Rest → Fit (AwaitFit n c up) s (front ++ each (λ t (a : Asked). TakeHeld a.client ∷ treat false (act t (TakeHeld a.client)) a) (acts s front) list)
    by_client true is few there rest = go rest (fits (λ at. there (omega arith))) (omega (arith, few)) (λ some. absurd (omega (arith, few, some)))
    by_client false isnt few there rest = go rest (fits (λ at. absurd (true≢false (sym at ∙ isnt)))) few (λ some. still isnt (ends_treat t false a) (there some))

pub anew_fit : (n : ℕ) (c : Client) (up : List ToServer) (down : List ToClient) (s : Server) → Between n c up down s → Fit (AwaitFit n c up) s (decide_anew s)
anew_fit n c up down s q = held_fit n c up down s.held s q.0.in_held (let one : asks up + (count n (as_list s.hand) + count n s.held + count n s.deferred + count n (as_list s.operation)) + answers q.0.base (down ++ mail_of n s.mail) ≤ 1 = q.0.one in omega (arith, one)) (λ some. some) q

-- the server's own time
pub reported_fit : (n : ℕ) (c : Client) (up : List ToServer) (s : Server) (m : ToServer) → Fit (AwaitFit n c up) s (reported s m)
reported_fit n c up s m = free_fit n c up (reported s m) s (free m)
  where
    free : (m : ToServer) → AllFree (reported s m)
    free (Purged id) = free_if (is_listed id (to_purge s.entries)) _ [] (tt, tt) tt
    free (Deleted ino) = free_if (list_any (same_ino ino) (dead s.entries)) _ [] (tt, tt) tt
    free (Connect conn said flushes asked) = tt
    free (Ask conn tid asked) = tt
    free (Flush conn f) = tt
    free (DropRead conn ino) = tt

pub restarts_fit : (n : ℕ) (c : Client) (up : List ToServer) (s : Server) → Fit (AwaitFit n c up) s (restarts s)
restarts_fit n c up s = free_fit n c up (restarts s) s (free_append (map TellRestart (up_to s.clients)) (roll_back_from (outstanding s.entries)) (told (up_to s.clients)) (rolled (outstanding s.entries)))
  where
    told : (clients : List ℕ) → AllFree (map TellRestart clients)
    told [] = tt
    told (x ∷ clients) = (tt, told clients)

    rolled : (o : Option (SnapId × ℕ)) → AllFree (roll_back_from o)
    rolled None = tt
    rolled (Some o) = (tt, tt)

free_purge : (s : Server) (o : Option SnapId) → IfSome (turn_purge s o) AllFree
free_purge s (Some id) = (tt, (tt, tt))
free_purge s None = by_file (first_file (filter (is_due s) (dead s.entries)))
  where
    if_some : (b : Bool) (list : List Act) → AllFree list → IfSome (cond b (Some list) None) AllFree
    if_some true list all = all
    if_some false list all = tt

    by_barrier : (o : Option ℕ) → IfSome (turn_barrier s o) AllFree
    by_barrier None = tt
    by_barrier (Some number) = if_some (list_all (waits_at s number) (up_to s.clients) && is_finished s) _ (tt, free_flat open_to (λ x. (tt, (tt, tt))) (up_to s.clients))

    by_file : (o : Option Ino) → IfSome (turn_dead s o) AllFree
    by_file None = by_barrier (first_barrier s.held)
    by_file (Some ino) = free_if (is_empty (holders_of s ino)) _ (recalls s ino (holders_of s ino)) (tt, tt) (free_recalls s ino (holders_of s ino))

finish_fit : (n : ℕ) (c : Client) (up : List ToServer) (s : Server) (id : SnapId) (o : Option (Result Change Refusal)) → IfSome o (λ (r : Result Change Refusal). NotWrite n c s) → Fit (AwaitFit n c up) s (finish id o)
finish_fit n c up s id None none = tt
finish_fit n c up s id (Some (Err refusal)) none = (tt, (tt, tt))
finish_fit n c up s id (Some (Ok made)) none = by_made made
  where
    rolled : NotWrite n c (act s (roll_back id))
    rolled b is mine_b = none b (sym (buffer_same s _).1 ∙ is) mine_b

    by_test : (now : SnapId) (b : Bool) → Fit (AwaitFit n c up) s (cond b (MakeEffect (change.Rmsnap now) ∷ AnswerIt answer.Done ∷ []) (roll_back id ∷ DeferFirst ∷ []))
    by_test now true = (tt, (tt, tt))
    by_test now false = (tt, (rolled, tt))

    by_made : (made : Change) → Fit (AwaitFit n c up) s (finish_with id made)
    by_made (change.Rmsnap now) = by_test now (now.0 == id.0)
    by_made made = (tt, (tt, tt))

pub turn_fit : (n : ℕ) (c : Client) (up : List ToServer) (down : List ToClient) (s : Server) → Between n c up down s → IfSome (turn s) (Fit (AwaitFit n c up) s)
turn_fit n c up down s q = by_test (all_connected s)
  where
    Good : Option (List Act) → Type 0
    Good o = IfSome o (Fit (AwaitFit n c up) s)

    free : (o : Option (List Act)) → IfSome o AllFree → Good o
    free None is = tt
    free (Some list) is = free_fit n c up list s is

    purges : (o : Option SnapId) → Good (turn_purge s o)
    purges o = free (turn_purge s o) (free_purge s o)

    by_operation : (id : SnapId) (o : Option Asked) → s.operation ≡ o → Good (turn_operation s id o)
    by_operation id None is = tt
    by_operation id (Some a) is = (tt, finish_fit n c up (act s TakeOperation) id decision (none_if decision (change_no_cap (state_after s.entries) a.client id a.request)))
      where
        decision : Option (Result Change Refusal)
        decision = change_asked (state_after s.entries) a.client id a.request

        same : (b : Asked) → s.operation ≡ Some b → a ≡ b
        same b at = some_same (sym is ∙ at)
          where
            some_same : Some a ≡ Some b → a ≡ b
            some_same e = cc

        it : IfOpen n c a
        it = (subst (λ (o : Option Asked). AllOf n (open_request c.under) (as_list o)) is q.0.in_operation).0

        none_if : (o : Option (Result Change Refusal)) → IfSome o (λ r. asks_capability a.request ≡ false) → IfSome o (λ (r : Result Change Refusal). NotWrite n c (act s TakeOperation))
        none_if None none = tt
        none_if (Some r) none = λ b at mine_b. not_write n c (act s TakeOperation) a (λ d here. ap (λ (x : Asked). x.client) (sym (same d here))) it none b at mine_b

    by_deferred : (list : List Asked) → s.deferred ≡ list → Good (turn_deferred s list)
    by_deferred [] is = purges (least (unsent_purges s))
    by_deferred (a ∷ more) is = (
      tt,
      treat_fit n c up t true a (record {
        of = λ b at. ap (λ (x : Asked). x.client) (sym (same b (sym (ap first_of is) ∙ at)));
        it = (subst (AllOf n (open_request c.under)) is q.0.in_deferred).0;
        few = λ mine_a. few_later n c up s t refl (λ ino. omega arith) (awaits_few n c up s (let some = here mine_a in omega (arith, some)) q.1);
        bare = λ isnt mine_a. bare_of n c up down t (between_act n c up down s TakeDeferred tt q).0 (subst (λ (l : List Asked). 1 ≤ count n (as_list (first_of l))) (sym is) (one mine_a));
      }),
    )
      where
        t : Server
        t = act s TakeDeferred

        same : (b : Asked) → Some a ≡ Some b → a ≡ b
        same b e = cc

        one : (a.client == n) ≡ true → 1 ≤ count n (a ∷ [])
        one mine_a = rw mine_a (omega arith)

        here : (a.client == n) ≡ true → 1 ≤ count n s.deferred
        here mine_a = subst (λ (l : List Asked). 1 ≤ count n l) (sym is) (rw mine_a (omega arith))

    by_outstanding : (o : Option (SnapId × ℕ)) → Good (turn_at s o)
    by_outstanding None = by_deferred s.deferred refl
    by_outstanding (Some o) = by_durable (nat_le o.1 s.durable)
      where
        by_durable : (b : Bool) → Good (cond b (turn_operation s o.0 s.operation) (turn_purge s (least (unsent_purges s))))
        by_durable true = by_operation o.0 s.operation refl
        by_durable false = purges (least (unsent_purges s))

    by_test : (b : Bool) → Good (cond b (turn_at s (outstanding s.entries)) None)
    by_test true = by_outstanding (outstanding s.entries)
    by_test false = tt

-- what the client sends of files, and what another brings
free_take : (x : ℕ) (s : Server) (f : FlushMsg) → AllFree (take_flush x s f)
free_take x s f = free_if (nat_le f.number (last_flush s.entries x)) [] _ tt (tt, (by_test f.release, tt))
  where
    by_test : (b : Bool) → IsFree (cond b (LetGo x f.ino) (Settled x f.ino f.upto))
    by_test true = tt
    by_test false = tt

pub flush_fit : (n x : ℕ) (c : Client) (up : List ToServer) (s : Server) (f : FlushMsg) → Fit (AwaitFit n c up) s (on_flush x s f)
flush_fit n x c up s f = free_fit n c up (on_flush x s f) s (free_append (take_flush x s f) _ (free_take x s f) (tt, tt))

pub drop_fit : (n x : ℕ) (c : Client) (up : List ToServer) (s : Server) (ino : Ino) → Fit (AwaitFit n c up) s (on_drop x s ino)
drop_fit n x c up s ino = free_fit n c up (on_drop x s ino) s (free_if (list_any (λ h. is_holder x ino h && not (is_write h.mode)) s.holders) (LetGo x ino ∷ []) [] (tt, tt) tt)

-- acts of another client
abbrev IsOther : ℕ → Act → Type 0
IsOther n (Hold h) = (h.client == n) ≡ false
IsOther n a = IsFree a

abbrev AllOther : ℕ → List Act → Type 0
AllOther n [] = Unit {0}
AllOther n (a ∷ list) = IsOther n a × AllOther n list

other_fits : (n : ℕ) (c : Client) (up : List ToServer) (s : Server) (a : Act) → IsOther n a → AwaitFit n c up s a
other_fits n c up s (Hold h) is = λ at. absurd (true≢false (sym at ∙ is))
other_fits n c up s a is = free_fits n c up s a is

other_fit : (n : ℕ) (c : Client) (up : List ToServer) (list : List Act) (s : Server) → AllOther n list → Fit (AwaitFit n c up) s list
other_fit n c up [] s all = tt
other_fit n c up (a ∷ list) s all = (other_fits n c up s a all.0, other_fit n c up list (act s a) all.1)

other_append : (n : ℕ) (xs ys : List Act) → AllOther n xs → AllOther n ys → AllOther n (xs ++ ys)
other_append n [] ys all more = more
other_append n (x ∷ xs) ys all more = (all.0, other_append n xs ys all.1 more)

other_each : {X : Type 0} (n : ℕ) (rule : Server → X → List Act) → ((s : Server) (y : X) → AllOther n (rule s y)) → (s : Server) (ys : List X) → AllOther n (each rule s ys)
other_each n rule one s [] = tt
other_each n rule one s (y ∷ ys) = other_append n (rule s y) (each rule (acts s (rule s y)) ys) (one s y) (other_each n rule one (acts s (rule s y)) ys)

other_if : (n : ℕ) (b : Bool) (xs ys : List Act) → AllOther n xs → AllOther n ys → AllOther n (cond b xs ys)
other_if n true xs ys here other = here
other_if n false xs ys here other = other

free_other : (n x : ℕ) (s : Server) (f : FlushMsg) → AllOther n (take_flush x s f)
free_other n x s f = other_if n (nat_le f.number (last_flush s.entries x)) [] _ tt (tt, (by_test f.release, tt))
  where
    by_test : (b : Bool) → IsOther n (cond b (LetGo x f.ino) (Settled x f.ino f.upto))
    by_test true = tt
    by_test false = tt

pub back_fit : (n x : ℕ) (c : Client) (up : List ToServer) → (x == n) ≡ false → (s : Server) (said : List Claim) (flushes : List FlushMsg) → Fit (AwaitFit n c up) s (come_back s x said flushes)
back_fit n x c up other s said flushes = let t = acts s (LetAllGo x ∷ []) in
    other_fit n c up (come_back s x said flushes) s (
      tt,
      other_append n (each (take_claim x) t said) (each (take_brought x) (acts t (each (take_claim x) t said)) flushes)
          (other_each n (take_claim x) claim t said) (other_each n (take_brought x) brought_one (acts t (each (take_claim x) t said)) flushes),
    )
  where
    claim : (s : Server) (k : Claim) → AllOther n (take_claim x s k)
    claim s k = other_if n (list_any (clash (claimed x k)) s.holders) [] (Hold (claimed x k) ∷ []) tt (other, tt)

    brought_one : (s : Server) (f : FlushMsg) → AllOther n (take_brought x s f)
    brought_one s f = other_append n (take_flush x s f) (cond f.release [] (Settled x f.ino f.upto ∷ [])) (free_other n x s f) (other_if n f.release [] (Settled x f.ino f.upto ∷ []) tt (tt, tt))

-- The acts of each rule fit the view of a client: it is given no more than the table says.
use Rattle.std.proofs.Common.{◌≡◌, ◌≤◌, ℕ, List, [], ◌∷◌, ◌++◌, map, Bool, true, false, true≢false, not, cond, filter, Option, None, Some, refl, sym, ap, ◌∙◌, subst, IfSome, arith, inl, inr}
use Rattle.std.proofs.lemmas.Bool.Decides.{nat_tests}
use Rattle.std.specs.Prelude.{◌&&◌, ◌==◌, max, nat_le, flat_map, find, Result, Ok, Err}
use Rattle.std.specs.List.{list_any, list_all}
use Rattle.snap_ids.specs.declared.id.Ino.{Ino}
use Rattle.snap_ids.specs.declared.id.SnapId.{SnapId}
use Rattle.snap_ids.specs.declared.values.Kind.{Kind}
use Rattle.snap_ids.specs.declared.values.Kind.TheVariants.{Dir, File}
use Rattle.snap_ids.specs.declared.values.Mode.{Mode}
use Rattle.snap_ids.specs.declared.values.Mode.TheVariants.{Read, Write}
use Rattle.snap_ids.specs.Context.{is_listed}
use Rattle.snap_ids.specs.Path.{place_of}
use Rattle.plain_types.specs.declared.answer.Answer.{Answer}
use Rattle.plain_types.specs.declared.answer.Answer.TheVariants as answer
use Rattle.plain_types.specs.declared.answer.Refusal.{Refusal}
use Rattle.plain_types.specs.declared.answer.Refusal.TheVariants.{IsDir, NotDir}
use Rattle.plain_types.specs.declared.change.Change.{Change}
use Rattle.plain_types.specs.declared.change.Change.TheVariants as change
use Rattle.plain_types.specs.declared.entry.Entry.{Entry}
use Rattle.plain_types.specs.declared.entry.What.{What}
use Rattle.plain_types.specs.declared.entry.What.TheVariants.{PrepareCreate, PrepareDestroy}
use Rattle.plain_types.specs.declared.message.Claim.{Claim}
use Rattle.plain_types.specs.declared.message.FlushMsg.{FlushMsg}
use Rattle.plain_types.specs.declared.message.ToServer.{ToServer}
use Rattle.plain_types.specs.declared.message.ToServer.TheVariants.{Connect, Ask, Flush, DropRead, Purged, Deleted}
use Rattle.plain_types.specs.declared.request.Request.{Request}
use Rattle.plain_types.specs.declared.request.Request.TheVariants as request
use Rattle.plain_tree.specs.Line.{answer_to as answer_of}
use Rattle.plain_tree.specs.Query.{Found, InLive, SnapsOf, InTree, answered, list_in, list_answer, stat_in, file_in, live_only}
use Rattle.plain_tree.specs.Request.{change_asked}
use Rattle.plain_tree.specs.State.{State, same_ino, kind_in, inode_in, listing}
use Rattle.plain_journal.specs.Answers.{found, found_live as found_answer, live_stat, stat_found, cat_found, live_answer}
use Rattle.plain_journal.specs.Coverage.{context}
use Rattle.plain_journal.specs.Realms.{realm_at, shown}
use Rattle.plain_journal.specs.Settled.{settled_size}
use Rattle.plain_journal.specs.Entries.{change_in, state_after, applied, tree_at}
use Rattle.plain_journal.specs.Table.{answer_kept, last_effect, outstanding, to_purge, dead, last_flush, barrier}
use Rattle.held_files.specs.Files.{is_empty, is_ino, is_write}
use Rattle.step_table.specs.ServerState.{Asked, Holder, Server, up_to, is_holder, is_writer, all_connected}
use Rattle.step_table.specs.Acts.{Act, TellRecall, TellAck, TellRestart, AnswerIt, GrantIt, MakeEffect, Prepare, Wait, Defer, DeferFirst, TakeHeld, TakeDeferred, TakeOperation, SendDelete, Hold, Raise, MarkRecalled, Settled, LetGo, LetAllGo, act, acts, each, of_client, first_of, raised}
use Rattle.step_table.specs.Capabilities.{in_conflict, against, is_recalled, recall, recalls, tenure, give_to, give, ask_cap, found_live, ask_found, clash, owing}
use Rattle.step_table.specs.Requests.{treat, treat_known, treat_new, kept_for, kept_answer, is_operation, decided, make, prepare, is_busy, next_id, by_kind, settled_answer, look_at, at_barrier}
use Rattle.step_table.specs.Flushes.{take_flush, on_flush, on_drop, claimed, take_claim, take_brought, come_back}
use Rattle.step_table.specs.Background.{roll_back, finish, finish_with, least, unsent_purges, turn_deferred, turn_at, turn, holders_of, is_due, first_file, first_barrier, waits_at, is_finished, open_to, turn_barrier, turn_dead, turn_purge, turn_operation}
use Rattle.step_table.specs.ClientState.{Client, Under, Idle, Open, AtStore, open_request}
use Rattle.step_table.specs.ServerRows.{reported, restarts, roll_back_from}
use Rattle.run_laws.specs.Requests.{IsIt, AllOf}
use Rattle.run_laws.specs.Tenures.{asks_write, wants_write}
use Rattle.run_laws.specs.LetGo.{IsAsked}
use Rattle.run_laws.proofs.Acts.{Fit, fit_append}
use Rattle.run_laws.proofs.Effects.{last_from}
use Rattle.run_laws.proofs.Giving.{MyFit, FoundFit}
use Rattle.run_laws.proofs.Once.{HandOf, first_client}
use Rattle.run_laws.proofs.Shares.{rank, share, shares, shares_end, both_true, two_most, writer_two, reader_one}

-- an answer that finds no live file
abbrev pub NoFind : Answer → Type 0
NoFind (answer.FoundLive ino perm size write_held) = ⊥
NoFind said = Unit {0}

-- an act that gives nothing and takes no file
abbrev pub IsMild : Act → Type 0
IsMild (GrantIt ino mode) = ⊥
IsMild (AnswerIt said) = NoFind said
IsMild (Hold h) = ⊥
IsMild (Raise x ino upto) = ⊥
IsMild (LetGo x ino) = ⊥
IsMild (LetAllGo x) = ⊥
IsMild a = Unit {0}

abbrev pub AllMild : List Act → Type 0
AllMild [] = Unit {0}
AllMild (a ∷ list) = IsMild a × AllMild list

no_find_fits : (under : Under) (table : Ino → ℕ) (said : Answer) → NoFind said → FoundFit under table said
no_find_fits under table (answer.FoundLive ino perm size write_held) is = absurd is
no_find_fits under table said is = tt

mild_my : (n : ℕ) (c : Client) (s : Server) (a : Act) → IsMild a → MyFit n c s a
mild_my n c s (GrantIt ino mode) is = absurd is
mild_my n c s (AnswerIt said) is = λ b at mine_it. no_find_fits c.under (λ ino. shares n ino s.holders) said is
mild_my n c s (Hold h) is = absurd is
mild_my n c s (Raise x ino upto) is = absurd is
mild_my n c s (LetGo x ino) is = absurd is
mild_my n c s (LetAllGo x) is = absurd is
mild_my n c s a is = tt

pub mild_fit : (n : ℕ) (c : Client) (list : List Act) (s : Server) → AllMild list → Fit (MyFit n c) s list
mild_fit n c [] s all = tt
mild_fit n c (a ∷ list) s all = (mild_my n c s a all.0, mild_fit n c list (act s a) all.1)

mild_append : (xs ys : List Act) → AllMild xs → AllMild ys → AllMild (xs ++ ys)
mild_append [] ys all more = more
mild_append (x ∷ xs) ys all more = (all.0, mild_append xs ys all.1 more)

mild_if : (b : Bool) (xs ys : List Act) → AllMild xs → AllMild ys → AllMild (cond b xs ys)
mild_if true xs ys here other = here
mild_if false xs ys here other = other

mild_flat : {X : Type 0} (f : X → List Act) → ((x : X) → AllMild (f x)) → (xs : List X) → AllMild (flat_map f xs)
mild_flat f one [] = tt
mild_flat f one (x ∷ xs) = mild_append (f x) (flat_map f xs) (one x) (mild_flat f one xs)

mild_recalls : (s : Server) (ino : Ino) (clients : List ℕ) → AllMild (recalls s ino clients)
mild_recalls s ino clients = mild_flat (recall s ino) (λ x. mild_if (is_recalled s ino x) [] (MarkRecalled x ino ∷ TellRecall x ino ∷ []) tt (tt, (tt, tt))) clients

-- a capability is given: the table says it then
find_share : (x : ℕ) (ino : Ino) (h : Holder) (holders : List Holder) → find (is_holder x ino) holders ≡ Some h → rank h.mode ≤ shares x ino holders
find_share x ino h [] is = cc
find_share x ino h (g ∷ holders) is = by_test (is_holder x ino g) is (find_share x ino h holders)
  where
    by_test : (b : Bool) → cond b (Some g) (find (is_holder x ino) holders) ≡ Some h → (find (is_holder x ino) holders ≡ Some h → rank h.mode ≤ shares x ino holders) → rank h.mode ≤ max (cond b (rank g.mode) 0) (shares x ino holders)
    by_test true is go = let same : g ≡ h = cc in subst (λ (y : Holder). rank y.mode ≤ max (rank g.mode) (shares x ino holders)) same (omega arith)
    by_test false is go = let rest = go is in omega (arith, rest)

find_raised : (x : ℕ) (ino : Ino) (upto : SnapId) (h : Holder) (holders : List Holder) → find (is_holder x ino) holders ≡ Some h → 2 ≤ shares x ino (map (raised x ino upto) holders)
find_raised x ino upto h [] is = cc
find_raised x ino upto h (g ∷ holders) is = by_test (is_holder x ino g) is (find_raised x ino upto h holders)
  where
    by_test : (b : Bool) → cond b (Some g) (find (is_holder x ino) holders) ≡ Some h → (find (is_holder x ino) holders ≡ Some h → 2 ≤ shares x ino (map (raised x ino upto) holders)) → 2 ≤ max (cond b (rank (cond b Write g.mode)) 0) (shares x ino (map (raised x ino upto) holders))
    by_test true is go = omega arith
    by_test false is go = let rest = go is in omega (arith, rest)

modes_less : (m h : Mode) → (is_write m && not (is_write h)) ≡ false → rank m ≤ rank h
modes_less Read Read is = omega arith
modes_less Read Write is = omega arith
modes_less Write Read is = absurd (true≢false is)
modes_less Write Write is = omega arith

writes : (m : Mode) (b : Bool) → (is_write m && b) ≡ true → rank m ≤ 2
writes Read b is = omega arith
writes Write b is = omega arith

write_rank : (m : Mode) → is_write m ≡ true → rank m ≡ 2
write_rank Read is = absurd (true≢false (sym is))
write_rank Write is = refl

-- after these acts: what was in hand is, and the client has the file in this mode
pub record Gave (n : ℕ) (c : Client) (s : Server) (x : ℕ) (ino : Ino) (mode : Mode) (list : List Act) : Type 0 where
  pub fit : Fit (MyFit n c) s list
  pub hand : (acts s list).hand ≡ s.hand
  pub share : rank mode ≤ shares x ino (acts s list).holders
  pub most : shares x ino (acts s list).holders ≤ max (shares x ino s.holders) (rank mode)

give_my : (n : ℕ) (c : Client) (s : Server) (x : ℕ) (ino : Ino) (mode : Mode) → all_connected s ≡ true → ((x == n) ≡ true → is_write mode ≡ true → wants_write ino c.under ≡ true) → Gave n c s x ino mode (give s x ino mode)
give_my n c s x ino mode connected wants = by_holder (find (is_holder x ino) s.holders) refl
  where
    both_are : (a b : Bool) → a ≡ true → b ≡ true → (a && b) ≡ true
    both_are a b one two = rw (one, two) refl

    itself : is_holder x ino (tenure s x ino mode) ≡ true
    itself = both_are (x == x) (same_ino ino ino) (grind (arith, nat_tests)) (grind (arith, nat_tests))

    by_raise : (h : Holder) → find (is_holder x ino) s.holders ≡ Some h → (b : Bool) → (is_write mode && not (is_write h.mode)) ≡ b → Gave n c s x ino mode (cond b (Raise x ino (record { 0 = applied s.entries }) ∷ []) [])
    by_raise h is true raise = record {
      fit = ((inl connected, λ at. wants at (both_true (is_write mode) (not (is_write h.mode)) raise).0), tt);
      hand = refl;
      share = let two = find_raised x ino (record { 0 = applied s.entries }) h s.holders is in let most = writes mode (not (is_write h.mode)) raise in omega (arith, two, most);
      most = let few = two_most x ino (map (raised x ino (record { 0 = applied s.entries })) s.holders) in let two = write_rank mode (both_true (is_write mode) (not (is_write h.mode)) raise).0 in omega (arith, few, two);
    }
    by_raise h is false raise = record { fit = tt; hand = refl; share = let one = find_share x ino h s.holders is in let less = modes_less mode h.mode raise in omega (arith, one, less); most = omega arith }

    by_holder : (o : Option Holder) → find (is_holder x ino) s.holders ≡ o → Gave n c s x ino mode (give_to s x ino mode o)
    by_holder None is = record {
      fit = ((inl connected, wants), tt);
      hand = refl;
      share = let e = shares_end x ino s.holders (tenure s x ino mode) in let one : share x ino (tenure s x ino mode) ≡ rank mode = ap (λ (b : Bool). cond b (rank mode) 0) itself in omega (arith, e, one);
      most = let e = shares_end x ino s.holders (tenure s x ino mode) in let one : share x ino (tenure s x ino mode) ≡ rank mode = ap (λ (b : Bool). cond b (rank mode) 0) itself in omega (arith, e, one);
    }
    by_holder (Some h) is = by_raise h is (is_write mode && not (is_write h.mode)) refl

cap_my : (n : ℕ) (c : Client) (s : Server) (x : ℕ) (ino : Ino) (mode : Mode) (granted : Act) → all_connected s ≡ true → ((x == n) ≡ true → is_write mode ≡ true → wants_write ino c.under ≡ true) → ((t : Server) → t.hand ≡ s.hand → rank mode ≤ shares x ino t.holders → shares x ino t.holders ≤ max (shares x ino s.holders) (rank mode) → MyFit n c t granted) → Fit (MyFit n c) s (ask_cap s x ino mode granted)
cap_my n c s x ino mode granted connected wants fits = by_test (in_conflict s x ino mode)
  where
    by_test : (b : Bool) → Fit (MyFit n c) s (cond b (recalls s ino (against s x ino mode) ++ Wait ∷ []) (give s x ino mode ++ granted ∷ []))
    by_test true = mild_fit n c (recalls s ino (against s x ino mode) ++ Wait ∷ []) s (mild_append (recalls s ino (against s x ino mode)) (Wait ∷ []) (mild_recalls s ino (against s x ino mode)) (tt, tt))
    by_test false = let gave = give_my n c s x ino mode connected wants in fit_append (MyFit n c) s (give s x ino mode) (granted ∷ []) gave.fit (fits (acts s (give s x ino mode)) gave.hand gave.share gave.most, tt)

-- the share is the client's own
own_share : (n x : ℕ) (ino : Ino) (most : ℕ) (holders : List Holder) (b : Asked) → b.client ≡ x → of_client n b ≡ true → most ≤ shares x ino holders → most ≤ shares n ino holders
own_share n x ino most holders b of mine_b less = subst (λ (y : ℕ). most ≤ shares y ino holders) (same mine_b) less
  where
    same : (b.client == n) ≡ true → x ≡ n
    same at = grind (arith, nat_tests, of, at)

own_most : (n x : ℕ) (ino : Ino) (most : ℕ) (holders : List Holder) (b : Asked) → b.client ≡ x → of_client n b ≡ true → shares x ino holders ≤ most → shares n ino holders ≤ most
own_most n x ino most holders b of mine_b less = subst (λ (y : ℕ). shares y ino holders ≤ most) (same mine_b) less
  where
    same : (b.client == n) ≡ true → x ≡ n
    same at = grind (arith, nat_tests, of, at)

-- what is open isn't for this file for Write
abbrev NotAsked : ℕ → Client → ℕ → Type 0
NotAsked n c x = (x == n) ≡ true → (ino : Ino) → wants_write ino c.under ≡ false

pub not_asked : (under : Under) (tid : ℕ) (asked : Request) (ino : Ino) → IsIt (open_request under) tid asked → asks_write ino asked ≡ false → wants_write ino under ≡ false
not_asked Idle tid asked ino it none = absurd it
not_asked (AtStore number entry file head) tid asked ino it none = absurd it
not_asked (Open number open_tid text wanted gone) tid asked ino it none = sym (ap (asks_write ino) it.1) ∙ none

asked_write : (under : Under) (ino : Ino) (mode : Mode) → IsAsked under ino mode → is_write mode ≡ true → wants_write ino under ≡ true
asked_write Idle ino mode asked is = absurd asked
asked_write (AtStore number entry file head) ino mode asked is = absurd asked
asked_write (Open number open_tid text wanted gone) ino mode asked is = ap (asks_write ino) asked ∙ both_are (grind (arith, nat_tests)) is
  where
    both_are : is_ino ino ino ≡ true → is_write mode ≡ true → (is_ino ino ino && is_write mode) ≡ true
    both_are one two = rw (one, two) refl

found_my : (n : ℕ) (c : Client) (s : Server) (x : ℕ) (ino : Ino) → all_connected s ≡ true → HandOf s x → NotAsked n c x → Fit (MyFit n c) s (ask_found s x ino)
found_my n c s x ino connected of asks_no = by_test (list_any (is_writer x ino) s.holders) refl
  where
    by_test : (b : Bool) → list_any (is_writer x ino) s.holders ≡ b → Fit (MyFit n c) s (cond b (AnswerIt (found_live s ino true) ∷ []) (ask_cap s x ino Read (AnswerIt (found_live s ino false))))
    by_test true any = ((λ b at mine_b. (own_share n x ino 2 s.holders b (of b at) mine_b (writer_two x ino s.holders any), asks_no (subst (λ (y : ℕ). (y == n) ≡ true) (of b at) mine_b) ino)), tt)
    by_test false any = cap_my n c s x ino Read (AnswerIt (found_live s ino false)) connected (λ at is. absurd (true≢false (sym is)))
        (λ t hand less most b at mine_b. one_only (own_share n x ino 1 t.holders b (of b (sym hand ∙ at)) mine_b less) (own_most n x ino 1 t.holders b (of b (sym hand ∙ at)) mine_b (let few = reader_one x ino s.holders any in omega (arith, few, most))))
      where
        one_only : {k : ℕ} → 1 ≤ k → k ≤ 1 → k ≡ 1
        one_only some few = omega (arith, some, few)

-- what the journal answers
dir_stat : (entries : List Entry) (ino : Ino) → kind_in (state_after entries).inodes ino ≡ Dir → NoFind (live_stat entries (state_after entries) ino)
dir_stat entries ino is = by_kind_of (kind_in (state_after entries).inodes ino) is
  where
    by_kind_of : (k : Kind) → k ≡ Dir → NoFind (elim k as (λ _. Answer) [ Dir ↦ answer.StatDir (inode_in (state_after entries).inodes ino).mode | File ↦ found_answer entries (state_after entries) ino ])
    by_kind_of Dir is = tt
    by_kind_of File is = cc

dir_cat : (state : State) (ino : Ino) (said : Answer) → kind_in state.inodes ino ≡ Dir → NoFind (file_in state ino said)
dir_cat state ino said is = by_kind_of (kind_in state.inodes ino) is
  where
    by_kind_of : (k : Kind) → k ≡ Dir → NoFind (elim k as (λ _. Answer) [ Dir ↦ answer.Refused IsDir | File ↦ said ])
    by_kind_of Dir is = tt
    by_kind_of File is = cc

file_none : (state : State) (ino : Ino) (said : Answer) → NoFind said → NoFind (file_in state ino said)
file_none state ino said none = by_file (kind_in state.inodes ino)
  where
    by_file : (k : Kind) → NoFind (elim k as (λ _. Answer) [ Dir ↦ answer.Refused IsDir | File ↦ said ])
    by_file Dir = tt
    by_file File = none

stat_none : (size : ℕ) (state : State) (ino : Ino) → NoFind (stat_in size state ino)
stat_none size state ino = by_file (kind_in state.inodes ino)
  where
    by_file : (k : Kind) → NoFind (elim k as (λ _. Answer) [ Dir ↦ answer.StatDir (inode_in state.inodes ino).mode | File ↦ answer.StatFile (inode_in state.inodes ino).mode size ])
    by_file Dir = tt
    by_file File = tt

list_none : (state : State) (ino : Ino) → NoFind (list_in state ino)
list_none state ino = by_file (kind_in state.inodes ino)
  where
    by_file : (k : Kind) → NoFind (elim k as (λ _. Answer) [ Dir ↦ answer.Listed (listing (kind_in state.inodes) state.entries ino) | File ↦ answer.Refused NotDir ])
    by_file Dir = tt
    by_file File = tt

listed_none : (entries : List Entry) (o : Result Found Refusal) → NoFind (answered o (list_answer (shown entries) (tree_at entries) (state_after entries)))
listed_none entries (Ok (InLive ino)) = list_none (state_after entries) ino
listed_none entries (Ok (SnapsOf dir)) = tt
listed_none entries (Ok (InTree id ino)) = list_none (tree_at entries id) ino
listed_none entries (Err refusal) = tt

realm_none : (entries : List Entry) (o : Result Ino Refusal) → NoFind (live_answer o (λ ino. answer.RealmIs (realm_at entries ino) (context entries ino)))
realm_none entries (Ok ino) = tt
realm_none entries (Err refusal) = tt

clones_none : (entries : List Entry) (index : ℕ) (o : Result Ino Refusal) → NoFind (live_answer o (λ ino. file_in (state_after entries) ino (answer.FoundObject ino index)))
clones_none entries index (Ok ino) = file_none (state_after entries) ino (answer.FoundObject ino index) tt
clones_none entries index (Err refusal) = tt

change_none : (made : Change) → NoFind (answer_of made)
change_none (change.Mksnap id dir name) = tt
change_none (change.OpenFile handle ino writable) = tt
change_none made = tt

-- an answer that is kept
kept_none : (done : List Entry) (x : ℕ) (before : Option (ℕ × Answer)) → IfSome before (λ k. NoFind k.1) → IfSome (last_from x before done) (λ k. NoFind k.1)
kept_none [] x before is = is
kept_none (e ∷ done) x before is = kept_none done x (cond (e.client == x) (answer_kept (change_in e.what) e.number before) before) (by_test (e.client == x) (change_in e.what))
  where
    by_test : (b : Bool) (o : Option Change) → IfSome (cond b (answer_kept o e.number before) before) (λ k. NoFind k.1)
    by_test true None = is
    by_test true (Some made) = change_none made
    by_test false o = is

kept_says : (tid : ℕ) (o : Option (ℕ × Answer)) (said : Answer) → IfSome o (λ k. NoFind k.1) → kept_for tid o ≡ Some said → NoFind said
kept_says tid None said none is = cc
kept_says tid (Some k) said none is = by_test (k.0 == tid) is
  where
    by_test : (b : Bool) → cond b (Some k.1) None ≡ Some said → NoFind said
    by_test true is = let same : k.1 ≡ said = cc in subst NoFind same none
    by_test false is = cc

-- the request of the client is the open one
abbrev pub IfOpen : ℕ → Client → Asked → Type 0
IfOpen n c a = of_client n a ≡ true → IsIt (open_request c.under) a.tid a.request

asked_is : (under : Under) (tid : ℕ) (ino : Ino) (mode : Mode) → IsIt (open_request under) tid (request.Cap ino mode) → IsAsked under ino mode
asked_is Idle tid ino mode it = it
asked_is (AtStore number entry file head) tid ino mode it = it
asked_is (Open number open_tid text asked gone) tid ino mode it = sym it.1

kind_my : (n : ℕ) (c : Client) (s : Server) (k : Kind) (xs ys : List Act) → (k ≡ Dir → Fit (MyFit n c) s xs) → Fit (MyFit n c) s ys → Fit (MyFit n c) s (by_kind k xs ys)
kind_my n c s Dir xs ys one other = one refl
kind_my n c s File xs ys one other = other

owed_none : (said : Answer) (o : Option ℕ) → NoFind said → NoFind (settled_answer said o)
owed_none said None none = none
owed_none said (Some x) none = tt

one_mild : (n : ℕ) (c : Client) (s : Server) (said : Answer) → NoFind said → Fit (MyFit n c) s (AnswerIt said ∷ [])
one_mild n c s said none = mild_fit n c (AnswerIt said ∷ []) s (none, tt)

stat_my : (n : ℕ) (c : Client) (s : Server) (a : Asked) (o : Result Found Refusal) → all_connected s ≡ true → HandOf s a.client → NotAsked n c a.client → Fit (MyFit n c) s (look_at s a (answered o (stat_found s.entries)) o)
stat_my n c s a (Ok (InLive ino)) connected of asks_no = kind_my n c s (kind_in (state_after s.entries).inodes ino) _ (ask_found s a.client ino) (λ is. one_mild n c s _ (dir_stat s.entries ino is)) (found_my n c s a.client ino connected of asks_no)
stat_my n c s a (Ok (SnapsOf dir)) connected of asks_no = one_mild n c s _ (stat_none 0 (state_after s.entries) dir)
stat_my n c s a (Ok (InTree id ino)) connected of asks_no =
    let none = stat_none (settled_size s.entries ino id) (tree_at s.entries id) ino in
    kind_my n c s (kind_in (tree_at s.entries id).inodes ino) _ _ (λ is. one_mild n c s _ none) (one_mild n c s _ (owed_none (stat_in (settled_size s.entries ino id) (tree_at s.entries id) ino) (owing s ino id) none))
stat_my n c s a (Err refusal) connected of asks_no = one_mild n c s (answered (Err refusal) (stat_found s.entries)) tt

cat_my : (n : ℕ) (c : Client) (s : Server) (a : Asked) (o : Result Found Refusal) → all_connected s ≡ true → HandOf s a.client → NotAsked n c a.client → Fit (MyFit n c) s (look_at s a (answered o (cat_found s.entries)) o)
cat_my n c s a (Ok (InLive ino)) connected of asks_no = kind_my n c s (kind_in (state_after s.entries).inodes ino) _ (ask_found s a.client ino) (λ is. one_mild n c s _ (dir_cat (state_after s.entries) ino (found_answer s.entries (state_after s.entries) ino) is)) (found_my n c s a.client ino connected of asks_no)
cat_my n c s a (Ok (SnapsOf dir)) connected of asks_no = one_mild n c s (answered (Ok (SnapsOf dir)) (cat_found s.entries)) tt
cat_my n c s a (Ok (InTree id ino)) connected of asks_no =
    let said = answer.FoundSnap ino id (settled_size s.entries ino id) in
    let none = file_none (tree_at s.entries id) ino said tt in
    kind_my n c s (kind_in (tree_at s.entries id).inodes ino) _ _ (λ is. one_mild n c s _ none) (one_mild n c s _ (owed_none (file_in (tree_at s.entries id) ino said) (owing s ino id) none))
cat_my n c s a (Err refusal) connected of asks_no = one_mild n c s (answered (Err refusal) (cat_found s.entries)) tt

mild_barrier : (s : Server) (number : ℕ) → AllMild (at_barrier s number)
mild_barrier s number = mild_if (nat_le number (barrier s.entries)) _ (Wait ∷ []) (tt, tt) (tt, tt)

mild_prepare : (s : Server) (alone : Bool) (said : What) → AllMild (prepare alone s said)
mild_prepare s alone said = mild_if (is_busy alone s) (Defer ∷ []) (Prepare said ∷ []) (tt, tt) (tt, tt)

mild_make : (s : Server) (alone : Bool) (made : Change) → AllMild (make alone s made)
mild_make s alone (change.Mksnap id dir name) = mild_prepare s alone (PrepareCreate id)
mild_make s alone (change.Rmsnap id) = mild_prepare s alone (PrepareDestroy id)
mild_make s alone made = (tt, (change_none made, tt))

mild_decided : (s : Server) (alone : Bool) (o : Option (Result Change Refusal)) → AllMild (decided alone s o)
mild_decided s alone None = tt
mild_decided s alone (Some (Err refusal)) = (tt, tt)
mild_decided s alone (Some (Ok made)) = mild_make s alone made

new_my : (n : ℕ) (c : Client) (s : Server) (alone : Bool) (a : Asked) (asked : Request) → all_connected s ≡ true → HandOf s a.client → (of_client n a ≡ true → IsIt (open_request c.under) a.tid asked) → Fit (MyFit n c) s (treat_new alone s a asked)
new_my n c s alone a (request.Cap ino mode) connected of it = cap_my n c s a.client ino mode (GrantIt ino mode) connected (λ at is. asked_write c.under ino mode (asked_is c.under a.tid ino mode (it at)) is) (λ t hand less most b at mine_b. (
  asked_is c.under a.tid ino mode (it (subst (λ (x : ℕ). (x == n) ≡ true) (of b (sym hand ∙ at)) mine_b)),
  own_share n a.client ino (rank mode) t.holders b (of b (sym hand ∙ at)) mine_b less,
))
new_my n c s alone a (request.Cat path) connected of it = cat_my n c s a (found s.entries path) connected of (λ at ino. not_asked c.under a.tid (request.Cat path) ino (it at) refl)
new_my n c s alone a (request.Stat path) connected of it = stat_my n c s a (found s.entries path) connected of (λ at ino. not_asked c.under a.tid (request.Stat path) ino (it at) refl)
new_my n c s alone a (request.List path) connected of it = one_mild n c s _ (listed_none s.entries (found s.entries path))
new_my n c s alone a (request.Realm path) connected of it = one_mild n c s _ (realm_none s.entries (live_only (state_after s.entries) (place_of path)))
new_my n c s alone a (request.Clones path index) connected of it = one_mild n c s _ (clones_none s.entries index (live_only (state_after s.entries) (place_of path)))
new_my n c s alone a (request.Barrier number) connected of it = mild_fit n c (at_barrier s number) s (mild_barrier s number)
new_my n c s alone a asked connected of it = mild_fit n c (decided alone s (change_asked (state_after s.entries) a.client (next_id s) asked)) s (mild_decided s alone (change_asked (state_after s.entries) a.client (next_id s) asked))

pub treat_my : (n : ℕ) (c : Client) (s : Server) (alone : Bool) (a : Asked) → HandOf s a.client → IfOpen n c a → Fit (MyFit n c) s (treat alone s a)
treat_my n c s alone a of it = by_test (all_connected s) refl
  where
    by_operation : all_connected s ≡ true → (b : Bool) → Fit (MyFit n c) s (cond b [] (treat_new alone s a a.request))
    by_operation connected true = tt
    by_operation connected false = new_my n c s alone a a.request connected of it

    by_kept : all_connected s ≡ true → (o : Option Answer) → kept_answer s a ≡ o → Fit (MyFit n c) s (treat_known alone s a o)
    by_kept connected (Some said) is = one_mild n c s said (kept_says a.tid (last_effect s.entries a.client) said (kept_none s.entries a.client None tt) is)
    by_kept connected None is = by_operation connected (is_operation s a)

    by_test : (b : Bool) → all_connected s ≡ b → Fit (MyFit n c) s (cond b (treat_known alone s a (kept_answer s a)) (Wait ∷ []))
    by_test true connected = by_kept connected (kept_answer s a) refl
    by_test false connected = (tt, tt)

pub anew_my : (n : ℕ) (c : Client) (list : List Asked) (s : Server) → AllOf n (open_request c.under) list → Fit (MyFit n c) s (each (λ t (a : Asked). TakeHeld a.client ∷ treat false (act t (TakeHeld a.client)) a) s list)
anew_my n c [] s all = tt
anew_my n c (a ∷ list) s all =
    let t = act s (TakeHeld a.client) in
    let first = TakeHeld a.client ∷ treat false t a in
    fit_append (MyFit n c) s first (each (λ t (a : Asked). TakeHeld a.client ∷ treat false (act t (TakeHeld a.client)) a) (acts s first) list)
    (tt, treat_my n c t false a (λ b is. first_client a.client s.held b is) all.0)
    (anew_my n c list (acts s first) all.1)

-- the server's own time
pub reported_my : (n : ℕ) (c : Client) (s : Server) (m : ToServer) → Fit (MyFit n c) s (reported s m)
reported_my n c s m = mild_fit n c (reported s m) s (mild_reported m)
  where
    mild_reported : (m : ToServer) → AllMild (reported s m)
    mild_reported (Purged id) = mild_if (is_listed id (to_purge s.entries)) _ [] (tt, tt) tt
    mild_reported (Deleted ino) = mild_if (list_any (same_ino ino) (dead s.entries)) _ [] (tt, tt) tt
    mild_reported (Connect conn said flushes asked) = tt
    mild_reported (Ask conn tid asked) = tt
    mild_reported (Flush conn f) = tt
    mild_reported (DropRead conn ino) = tt

pub restarts_my : (n : ℕ) (c : Client) (s : Server) → Fit (MyFit n c) s (restarts s)
restarts_my n c s = mild_fit n c (restarts s) s (mild_append (map TellRestart (up_to s.clients)) (roll_back_from (outstanding s.entries)) (told (up_to s.clients)) (rolled (outstanding s.entries)))
  where
    told : (clients : List ℕ) → AllMild (map TellRestart clients)
    told [] = tt
    told (x ∷ clients) = (tt, told clients)

    rolled : (o : Option (SnapId × ℕ)) → AllMild (roll_back_from o)
    rolled None = tt
    rolled (Some o) = (tt, tt)

mild_purge : (s : Server) (o : Option SnapId) → IfSome (turn_purge s o) AllMild
mild_purge s (Some id) = (tt, (tt, tt))
mild_purge s None = by_file (first_file (filter (is_due s) (dead s.entries)))
  where
    if_some : (b : Bool) (list : List Act) → AllMild list → IfSome (cond b (Some list) None) AllMild
    if_some true list all = all
    if_some false list all = tt

    by_barrier : (o : Option ℕ) → IfSome (turn_barrier s o) AllMild
    by_barrier None = tt
    by_barrier (Some number) = if_some (list_all (waits_at s number) (up_to s.clients) && is_finished s) _ (tt, mild_flat open_to (λ x. (tt, (tt, tt))) (up_to s.clients))

    by_file : (o : Option Ino) → IfSome (turn_dead s o) AllMild
    by_file None = by_barrier (first_barrier s.held)
    by_file (Some ino) = mild_if (is_empty (holders_of s ino)) (SendDelete ino ∷ []) (recalls s ino (holders_of s ino)) (tt, tt) (mild_recalls s ino (holders_of s ino))

mild_finish : (s : Server) (id : SnapId) (o : Option (Result Change Refusal)) → AllMild (finish id o)
mild_finish s id None = tt
mild_finish s id (Some (Err refusal)) = (tt, (tt, tt))
mild_finish s id (Some (Ok made)) = by_made made
  where
    by_made : (made : Change) → AllMild (finish_with id made)
    by_made (change.Rmsnap now) = mild_if (now.0 == id.0) (MakeEffect (change.Rmsnap now) ∷ AnswerIt answer.Done ∷ []) (roll_back id ∷ DeferFirst ∷ []) (tt, (tt, tt)) (tt, (tt, tt))
    by_made made = (tt, (change_none made, tt))

pub turn_my : (n : ℕ) (c : Client) (s : Server) → AllOf n (open_request c.under) s.deferred → IfSome (turn s) (Fit (MyFit n c) s)
turn_my n c s all = by_test (all_connected s)
  where
    Good : Option (List Act) → Type 0
    Good o = IfSome o (Fit (MyFit n c) s)

    mild : (o : Option (List Act)) → IfSome o AllMild → Good o
    mild None is = tt
    mild (Some list) is = mild_fit n c list s is

    by_operation : (id : SnapId) (o : Option Asked) → Good (turn_operation s id o)
    by_operation id None = tt
    by_operation id (Some a) = mild_fit n c (TakeOperation ∷ finish id (change_asked (state_after s.entries) a.client id a.request)) s (tt, mild_finish s id (change_asked (state_after s.entries) a.client id a.request))

    by_deferred : (list : List Asked) → s.deferred ≡ list → AllOf n (open_request c.under) list → Good (turn_deferred s list)
    by_deferred [] is all = mild (turn_purge s (least (unsent_purges s))) (mild_purge s (least (unsent_purges s)))
    by_deferred (a ∷ more) is all = (tt, treat_my n c (act s TakeDeferred) true a (λ b at. same b (sym (ap first_of is) ∙ at)) all.0)
      where
        same : (b : Asked) → Some a ≡ Some b → b.client ≡ a.client
        same b e = let one : a ≡ b = cc in ap (λ (x : Asked). x.client) (sym one)

    by_outstanding : (o : Option (SnapId × ℕ)) → Good (turn_at s o)
    by_outstanding None = by_deferred s.deferred refl all
    by_outstanding (Some o) = by_durable (nat_le o.1 s.durable)
      where
        by_durable : (b : Bool) → Good (cond b (turn_operation s o.0 s.operation) (turn_purge s (least (unsent_purges s))))
        by_durable true = by_operation o.0 s.operation
        by_durable false = mild (turn_purge s (least (unsent_purges s))) (mild_purge s (least (unsent_purges s)))

    by_test : (b : Bool) → Good (cond b (turn_at s (outstanding s.entries)) None)
    by_test true = by_outstanding (outstanding s.entries)
    by_test false = tt

-- acts on another client's files
abbrev IsOther : ℕ → Act → Type 0
IsOther n (GrantIt ino mode) = ⊥
IsOther n (AnswerIt said) = ⊥
IsOther n (Hold h) = (h.client == n) ≡ false
IsOther n (Raise x ino upto) = ⊥
IsOther n (LetGo x ino) = (x == n) ≡ false
IsOther n (LetAllGo x) = (x == n) ≡ false
IsOther n a = Unit {0}

abbrev AllOther : ℕ → List Act → Type 0
AllOther n [] = Unit {0}
AllOther n (a ∷ list) = IsOther n a × AllOther n list

other_my : (n : ℕ) (c : Client) (s : Server) (a : Act) → IsOther n a → MyFit n c s a
other_my n c s (GrantIt ino mode) is = absurd is
other_my n c s (AnswerIt said) is = absurd is
other_my n c s (Hold h) is = (inr is, λ at wants. absurd (true≢false (sym at ∙ is)))
other_my n c s (Raise x ino upto) is = absurd is
other_my n c s (LetGo x ino) is = is
other_my n c s (LetAllGo x) is = is
other_my n c s a is = tt

other_fit : (n : ℕ) (c : Client) (list : List Act) (s : Server) → AllOther n list → Fit (MyFit n c) s list
other_fit n c [] s all = tt
other_fit n c (a ∷ list) s all = (other_my n c s a all.0, other_fit n c list (act s a) all.1)

other_append : (n : ℕ) (xs ys : List Act) → AllOther n xs → AllOther n ys → AllOther n (xs ++ ys)
other_append n [] ys all more = more
other_append n (x ∷ xs) ys all more = (all.0, other_append n xs ys all.1 more)

other_if : (n : ℕ) (b : Bool) (xs ys : List Act) → AllOther n xs → AllOther n ys → AllOther n (cond b xs ys)
other_if n true xs ys here other = here
other_if n false xs ys here other = other

other_each : {X : Type 0} (n : ℕ) (rule : Server → X → List Act) → ((s : Server) (y : X) → AllOther n (rule s y)) → (s : Server) (ys : List X) → AllOther n (each rule s ys)
other_each n rule one s [] = tt
other_each n rule one s (y ∷ ys) = other_append n (rule s y) (each rule (acts s (rule s y)) ys) (one s y) (other_each n rule one (acts s (rule s y)) ys)

take_other : (n x : ℕ) → (x == n) ≡ false → (s : Server) (f : FlushMsg) → AllOther n (take_flush x s f)
take_other n x other s f = other_if n (nat_le f.number (last_flush s.entries x)) [] _ tt (tt, (by_test f.release, tt))
  where
    by_test : (b : Bool) → IsOther n (cond b (LetGo x f.ino) (Settled x f.ino f.upto))
    by_test true = other
    by_test false = tt

pub flush_other : (n x : ℕ) (c : Client) → (x == n) ≡ false → (s : Server) (f : FlushMsg) → Fit (MyFit n c) s (on_flush x s f)
flush_other n x c other s f = other_fit n c (on_flush x s f) s (other_append n (take_flush x s f) (TellAck x f.number ∷ []) (take_other n x other s f) (tt, tt))

pub drop_other : (n x : ℕ) (c : Client) → (x == n) ≡ false → (s : Server) (ino : Ino) → Fit (MyFit n c) s (on_drop x s ino)
drop_other n x c other s ino = other_fit n c (on_drop x s ino) s (other_if n (list_any (λ h. is_holder x ino h && not (is_write h.mode)) s.holders) (LetGo x ino ∷ []) [] (other, tt) tt)

pub back_other : (n x : ℕ) (c : Client) → (x == n) ≡ false → (s : Server) (said : List Claim) (flushes : List FlushMsg) → Fit (MyFit n c) s (come_back s x said flushes)
back_other n x c other s said flushes = let t = acts s (LetAllGo x ∷ []) in
    other_fit n c (come_back s x said flushes) s (
      other,
      other_append n (each (take_claim x) t said) (each (take_brought x) (acts t (each (take_claim x) t said)) flushes)
          (other_each n (take_claim x) claim t said) (other_each n (take_brought x) brought_one (acts t (each (take_claim x) t said)) flushes),
    )
  where
    claim : (s : Server) (k : Claim) → AllOther n (take_claim x s k)
    claim s k = other_if n (list_any (clash (claimed x k)) s.holders) [] (Hold (claimed x k) ∷ []) tt (other, tt)

    brought_one : (s : Server) (f : FlushMsg) → AllOther n (take_brought x s f)
    brought_one s f = other_append n (take_flush x s f) (cond f.release [] (Settled x f.ino f.upto ∷ [])) (take_other n x other s f) (other_if n f.release [] (Settled x f.ino f.upto ∷ []) tt (tt, tt))

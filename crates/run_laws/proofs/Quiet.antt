-- What the rules of the server do that only answer, and those that don't.
use Rattle.std.proofs.Common.{◌≡◌, ℕ, List, [], ◌∷◌, ◌++◌, map, Bool, true, false, true≢false, cond, Option, None, Some, refl}
use Rattle.std.specs.Prelude.{◌&&◌, not, nat_le, flat_map, find, Result, Ok, Err}
use Rattle.std.specs.List.{list_any}
use Rattle.snap_ids.specs.declared.id.Ino.{Ino}
use Rattle.snap_ids.specs.declared.id.SnapId.{SnapId}
use Rattle.snap_ids.specs.declared.values.Kind.{Kind}
use Rattle.snap_ids.specs.declared.values.Kind.TheVariants.{Dir, File}
use Rattle.snap_ids.specs.declared.values.Mode.{Mode}
use Rattle.snap_ids.specs.declared.values.Mode.TheVariants.{Read}
use Rattle.snap_ids.specs.Context.{is_listed}
use Rattle.plain_types.specs.declared.answer.Answer.{Answer}
use Rattle.plain_types.specs.declared.answer.Answer.TheVariants as answer
use Rattle.plain_types.specs.declared.answer.Refusal.{Refusal}
use Rattle.plain_types.specs.declared.answer.Refusal.TheVariants.{IsDir, NotDir}
use Rattle.plain_types.specs.declared.entry.Entry.{Entry}
use Rattle.plain_types.specs.declared.message.Claim.{Claim}
use Rattle.plain_types.specs.declared.message.FlushMsg.{FlushMsg}
use Rattle.plain_types.specs.declared.message.ToServer.{ToServer}
use Rattle.plain_types.specs.declared.message.ToServer.TheVariants.{Connect, Ask, Flush, DropRead, Purged, Deleted}
use Rattle.plain_types.specs.declared.request.Request.{Request}
use Rattle.plain_types.specs.declared.request.Request.TheVariants as request
use Rattle.plain_tree.specs.Query.{Found, InLive, SnapsOf, InTree, answered, file_in, stat_in, list_in, list_answer}
use Rattle.plain_tree.specs.State.{State, same_ino, kind_in, inode_in, listing}
use Rattle.plain_journal.specs.Answers.{found_live as found_answer, live_stat, stat_found, cat_found, live_answer}
use Rattle.plain_journal.specs.Coverage.{context}
use Rattle.plain_journal.specs.Entries.{state_after, tree_at}
use Rattle.plain_journal.specs.Realms.{realm_at, shown}
use Rattle.plain_journal.specs.Settled.{settled_size}
use Rattle.plain_journal.specs.Table.{last_flush, outstanding, to_purge, dead, barrier}
use Rattle.held_files.specs.Files.{is_empty, is_write}
use Rattle.step_table.specs.ServerState.{Asked, Holder, Server, Told, Answered, Granted, WantedBack, Acked, tell, tell_at, number_of, up_to, is_holder, is_writer}
use Rattle.step_table.specs.Acts.{Act, TellRecall, TellAck, TellRestart, AnswerIt, GrantIt, MakeEffect, Prepare, Wait, Defer, DeferFirst, TakeHeld, TakeDeferred, TakeOperation, Buffer, SendDelete, MarkRecalled, Settled, LetGo, LetAllGo, act, acts, each, answer_hand, grant_hand}
use Rattle.step_table.specs.Capabilities.{in_conflict, against, is_recalled, recall, recalls, give_to, give, ask_cap, found_live, ask_found, clash, owing}
use Rattle.step_table.specs.Requests.{by_kind, settled_answer, look_at, at_barrier}
use Rattle.step_table.specs.Flushes.{flush_settles, take_flush, on_flush, on_drop, claimed, take_claim, take_brought, come_back}
use Rattle.step_table.specs.Background.{holders_of}
use Rattle.step_table.specs.ServerRows.{reported, restarts, roll_back_from}
use Rattle.step_table.specs.ClientTakes.{is_success}

-- An act after which the request in hand is the same or none, and the entries are the same; and it doesn't answer a
-- request like this with a success.
abbrev pub IsQuiet : Request → Act → Type 0
IsQuiet asked (AnswerIt said) = is_success asked said ≡ false
IsQuiet asked (MakeEffect made) = ⊥
IsQuiet asked (Prepare said) = ⊥
IsQuiet asked (Buffer e) = ⊥
IsQuiet asked (TakeHeld x) = ⊥
IsQuiet asked TakeDeferred = ⊥
IsQuiet asked TakeOperation = ⊥
IsQuiet asked a = Unit {0}

abbrev pub AllQuiet : Request → List Act → Type 0
AllQuiet asked [] = Unit {0}
AllQuiet asked (a ∷ list) = IsQuiet asked a × AllQuiet asked list

pub record Same (s t : Server) : Type 0 where
  pub entries : t.entries ≡ s.entries
  pub hand : (h : Asked) → t.hand ≡ Some h → s.hand ≡ Some h

same_tell : (s t : Server) (x : ℕ) (told : Told) → Same s t → Same s (tell t x told)
same_tell s t x told same = by_number (number_of t.current x)
  where
    by_number : (o : Option ℕ) → Same s (tell_at t x told o)
    by_number None = same
    by_number (Some conn) = record { entries = same.entries; hand = same.hand }

empty_hand : (s : Server) → Same s (record s { hand = None })
empty_hand s = record { entries = refl; hand = λ h is. cc }

pub quiet_same : (asked : Request) (s : Server) (a : Act) → IsQuiet asked a → Same s (act s a)
quiet_same asked s (TellRecall x ino) is = same_tell s s x (WantedBack ino) (record { entries = refl; hand = λ h at. at })
quiet_same asked s (TellAck x number) is = same_tell s s x (Acked number) (record { entries = refl; hand = λ h at. at })
quiet_same asked s (AnswerIt said) is = by_hand s.hand
  where
    by_hand : (o : Option Asked) → Same s (answer_hand s said o)
    by_hand None = record { entries = refl; hand = λ h at. at }
    by_hand (Some a) = same_tell s (record s { hand = None }) a.client (Answered a.tid said) (empty_hand s)
quiet_same asked s (GrantIt ino mode) is = by_hand s.hand
  where
    by_hand : (o : Option Asked) → Same s (grant_hand s ino mode o)
    by_hand None = record { entries = refl; hand = λ h at. at }
    by_hand (Some a) = same_tell s (record s { hand = None }) a.client (Granted a.tid ino mode) (empty_hand s)
quiet_same asked s (MakeEffect made) is = absurd is
quiet_same asked s (Prepare said) is = absurd is
quiet_same asked s (Buffer e) is = absurd is
quiet_same asked s (TakeHeld x) is = absurd is
quiet_same asked s TakeDeferred is = absurd is
quiet_same asked s TakeOperation is = absurd is
quiet_same asked s Wait is = record { entries = refl; hand = λ h at. cc }
quiet_same asked s Defer is = record { entries = refl; hand = λ h at. cc }
quiet_same asked s DeferFirst is = record { entries = refl; hand = λ h at. cc }
quiet_same asked s a is = record { entries = refl; hand = λ h at. at }

quiet_append : (asked : Request) (xs ys : List Act) → AllQuiet asked xs → AllQuiet asked ys → AllQuiet asked (xs ++ ys)
quiet_append asked [] ys all more = more
quiet_append asked (x ∷ xs) ys all more = (all.0, quiet_append asked xs ys all.1 more)

quiet_if : (asked : Request) (b : Bool) (xs ys : List Act) → AllQuiet asked xs → AllQuiet asked ys → AllQuiet asked (cond b xs ys)
quiet_if asked true xs ys here other = here
quiet_if asked false xs ys here other = other

quiet_flat : {X : Type 0} (asked : Request) (f : X → List Act) → ((x : X) → AllQuiet asked (f x)) → (xs : List X) → AllQuiet asked (flat_map f xs)
quiet_flat asked f one [] = tt
quiet_flat asked f one (x ∷ xs) = quiet_append asked (f x) (flat_map f xs) (one x) (quiet_flat asked f one xs)

quiet_recalls : (asked : Request) (s : Server) (ino : Ino) (clients : List ℕ) → AllQuiet asked (recalls s ino clients)
quiet_recalls asked s ino clients = quiet_flat asked (recall s ino) (λ x. quiet_if asked (is_recalled s ino x) [] (MarkRecalled x ino ∷ TellRecall x ino ∷ []) tt (tt, (tt, tt))) clients

quiet_give : (asked : Request) (s : Server) (x : ℕ) (ino : Ino) (mode : Mode) → AllQuiet asked (give s x ino mode)
quiet_give asked s x ino mode = by_holder (find (is_holder x ino) s.holders)
  where
    by_holder : (o : Option Holder) → AllQuiet asked (give_to s x ino mode o)
    by_holder None = (tt, tt)
    by_holder (Some h) = quiet_if asked (is_write mode && not (is_write h.mode)) _ [] (tt, tt) tt

quiet_cap : (asked : Request) (s : Server) (x : ℕ) (ino : Ino) (mode : Mode) (granted : Act) → IsQuiet asked granted → AllQuiet asked (ask_cap s x ino mode granted)
quiet_cap asked s x ino mode granted is = quiet_if asked (in_conflict s x ino mode) (recalls s ino (against s x ino mode) ++ Wait ∷ []) (give s x ino mode ++ granted ∷ [])
    (quiet_append asked (recalls s ino (against s x ino mode)) (Wait ∷ []) (quiet_recalls asked s ino (against s x ino mode)) (tt, tt))
    (quiet_append asked (give s x ino mode) (granted ∷ []) (quiet_give asked s x ino mode) (is, tt))

-- an answer that is a success of no request
abbrev pub is_done : Answer → Bool
is_done answer.Done = true
is_done (answer.Snap id) = true
is_done (answer.Opened ino) = true
is_done said = false

pub no_success : (asked : Request) (said : Answer) → is_done said ≡ false → is_success asked said ≡ false
no_success (request.Barrier number) said isnt = refl
no_success asked answer.Done isnt = absurd (true≢false isnt)
no_success asked (answer.Snap id) isnt = absurd (true≢false isnt)
no_success asked (answer.Opened ino) isnt = absurd (true≢false isnt)
no_success asked said isnt = refl

quiet_found : (asked : Request) (s : Server) (x : ℕ) (ino : Ino) → AllQuiet asked (ask_found s x ino)
quiet_found asked s x ino = quiet_if asked (list_any (is_writer x ino) s.holders) (AnswerIt (found_live s ino true) ∷ []) (ask_cap s x ino Read (AnswerIt (found_live s ino false)))
    (no_success asked (found_live s ino true) refl, tt) (quiet_cap asked s x ino Read (AnswerIt (found_live s ino false)) (no_success asked (found_live s ino false) refl))

quiet_kind : (asked : Request) (k : Kind) (xs ys : List Act) → AllQuiet asked xs → AllQuiet asked ys → AllQuiet asked (by_kind k xs ys)
quiet_kind asked Dir xs ys one other = one
quiet_kind asked File xs ys one other = other

settled_quiet : (said : Answer) (o : Option ℕ) → is_done said ≡ false → is_done (settled_answer said o) ≡ false
settled_quiet said None isnt = isnt
settled_quiet said (Some client) isnt = refl

pub quiet_look : (asked : Request) (s : Server) (a : Asked) (said : Answer) (o : Result Found Refusal) → is_done said ≡ false → AllQuiet asked (look_at s a said o)
quiet_look asked s a said (Ok (InLive ino)) isnt = quiet_kind asked (kind_in (state_after s.entries).inodes ino) (AnswerIt said ∷ []) (ask_found s a.client ino) (no_success asked said isnt, tt) (quiet_found asked s a.client ino)
quiet_look asked s a said (Ok (InTree id ino)) isnt = quiet_kind asked (kind_in (tree_at s.entries id).inodes ino) (AnswerIt said ∷ []) (AnswerIt (settled_answer said (owing s ino id)) ∷ [])
    (no_success asked said isnt, tt) (no_success asked (settled_answer said (owing s ino id)) (settled_quiet said (owing s ino id) isnt), tt)
quiet_look asked s a said (Ok (SnapsOf dir)) isnt = (no_success asked said isnt, tt)
quiet_look asked s a said (Err refusal) isnt = (no_success asked said isnt, tt)

-- what the journal answers to queries
quiet_file : (state : State) (ino : Ino) (said : Answer) → is_done said ≡ false → is_done (file_in state ino said) ≡ false
quiet_file state ino said isnt = by_file (kind_in state.inodes ino)
  where
    by_file : (k : Kind) → is_done (elim k as (λ _. Answer) [ Dir ↦ answer.Refused IsDir | File ↦ said ]) ≡ false
    by_file Dir = refl
    by_file File = isnt

quiet_live : (entries : List Entry) (ino : Ino) → is_done (live_stat entries (state_after entries) ino) ≡ false
quiet_live entries ino = by_file (kind_in (state_after entries).inodes ino)
  where
    by_file : (k : Kind) → is_done (elim k as (λ _. Answer) [ Dir ↦ answer.StatDir (inode_in (state_after entries).inodes ino).mode | File ↦ found_answer entries (state_after entries) ino ]) ≡ false
    by_file Dir = refl
    by_file File = refl

quiet_in : (size : ℕ) (state : State) (ino : Ino) → is_done (stat_in size state ino) ≡ false
quiet_in size state ino = by_file (kind_in state.inodes ino)
  where
    by_file : (k : Kind) → is_done (elim k as (λ _. Answer) [ Dir ↦ answer.StatDir (inode_in state.inodes ino).mode | File ↦ answer.StatFile (inode_in state.inodes ino).mode size ]) ≡ false
    by_file Dir = refl
    by_file File = refl

quiet_list : (state : State) (ino : Ino) → is_done (list_in state ino) ≡ false
quiet_list state ino = by_file (kind_in state.inodes ino)
  where
    by_file : (k : Kind) → is_done (elim k as (λ _. Answer) [ Dir ↦ answer.Listed (listing (kind_in state.inodes) state.entries ino) | File ↦ answer.Refused NotDir ]) ≡ false
    by_file Dir = refl
    by_file File = refl

pub quiet_stated : (entries : List Entry) (o : Result Found Refusal) → is_done (answered o (stat_found entries)) ≡ false
quiet_stated entries (Ok (InLive ino)) = quiet_live entries ino
quiet_stated entries (Ok (SnapsOf dir)) = quiet_in 0 (state_after entries) dir
quiet_stated entries (Ok (InTree id ino)) = quiet_in (settled_size entries ino id) (tree_at entries id) ino
quiet_stated entries (Err refusal) = refl

pub quiet_catted : (entries : List Entry) (o : Result Found Refusal) → is_done (answered o (cat_found entries)) ≡ false
quiet_catted entries (Ok (InLive ino)) = quiet_file (state_after entries) ino (found_answer entries (state_after entries) ino) refl
quiet_catted entries (Ok (SnapsOf dir)) = refl
quiet_catted entries (Ok (InTree id ino)) = quiet_file (tree_at entries id) ino (answer.FoundSnap ino id (settled_size entries ino id)) refl
quiet_catted entries (Err refusal) = refl

pub quiet_listed : (entries : List Entry) (o : Result Found Refusal) → is_done (answered o (list_answer (shown entries) (tree_at entries) (state_after entries))) ≡ false
quiet_listed entries (Ok (InLive ino)) = quiet_list (state_after entries) ino
quiet_listed entries (Ok (SnapsOf dir)) = refl
quiet_listed entries (Ok (InTree id ino)) = quiet_list (tree_at entries id) ino
quiet_listed entries (Err refusal) = refl

pub quiet_realm : (entries : List Entry) (o : Result Ino Refusal) → is_done (live_answer o (λ ino. answer.RealmIs (realm_at entries ino) (context entries ino))) ≡ false
quiet_realm entries (Ok ino) = refl
quiet_realm entries (Err refusal) = refl

pub quiet_clones : (entries : List Entry) (index : ℕ) (o : Result Ino Refusal) → is_done (live_answer o (λ ino. file_in (state_after entries) ino (answer.FoundObject ino index))) ≡ false
quiet_clones entries index (Ok ino) = quiet_file (state_after entries) ino (answer.FoundObject ino index) refl
quiet_clones entries index (Err refusal) = refl

-- a barrier that was passed is answered, which is no success
pub quiet_barrier : (s : Server) (number : ℕ) → AllQuiet (request.Barrier number) (at_barrier s number)
quiet_barrier s number = quiet_if (request.Barrier number) (nat_le number (barrier s.entries)) _ (Wait ∷ []) (refl, tt) (tt, tt)

-- an act that answers nothing, and makes no effect of a request
abbrev pub IsSilent : Act → Type 0
IsSilent (MakeEffect made) = ⊥
IsSilent (AnswerIt said) = ⊥
IsSilent a = Unit {0}

abbrev pub AllSilent : List Act → Type 0
AllSilent [] = Unit {0}
AllSilent (a ∷ list) = IsSilent a × AllSilent list

silent_append : (xs ys : List Act) → AllSilent xs → AllSilent ys → AllSilent (xs ++ ys)
silent_append [] ys all more = more
silent_append (x ∷ xs) ys all more = (all.0, silent_append xs ys all.1 more)

silent_if : (b : Bool) (xs ys : List Act) → AllSilent xs → AllSilent ys → AllSilent (cond b xs ys)
silent_if true xs ys here other = here
silent_if false xs ys here other = other

silent_flat : {X : Type 0} (f : X → List Act) → ((x : X) → AllSilent (f x)) → (xs : List X) → AllSilent (flat_map f xs)
silent_flat f one [] = tt
silent_flat f one (x ∷ xs) = silent_append (f x) (flat_map f xs) (one x) (silent_flat f one xs)

silent_each : {X : Type 0} (rule : Server → X → List Act) → ((s : Server) (x : X) → AllSilent (rule s x)) → (s : Server) (xs : List X) → AllSilent (each rule s xs)
silent_each rule one s [] = tt
silent_each rule one s (x ∷ xs) = silent_append (rule s x) (each rule (acts s (rule s x)) xs) (one s x) (silent_each rule one (acts s (rule s x)) xs)

settles_silent : (x : ℕ) (f : FlushMsg) → IsSilent (flush_settles x f)
settles_silent x f = by_test f.release
  where
    by_test : (b : Bool) → IsSilent (cond b (LetGo x f.ino) (Settled x f.ino f.upto))
    by_test true = tt
    by_test false = tt

silent_take : (x : ℕ) (s : Server) (f : FlushMsg) → AllSilent (take_flush x s f)
silent_take x s f = silent_if (nat_le f.number (last_flush s.entries x)) [] _ tt (tt, (settles_silent x f, tt))

pub silent_flush : (x : ℕ) (s : Server) (f : FlushMsg) → AllSilent (on_flush x s f)
silent_flush x s f = silent_append (take_flush x s f) (TellAck x f.number ∷ []) (silent_take x s f) (tt, tt)

pub silent_drop : (x : ℕ) (s : Server) (ino : Ino) → AllSilent (on_drop x s ino)
silent_drop x s ino = silent_if (list_any (λ h. is_holder x ino h && not (is_write h.mode)) s.holders) (LetGo x ino ∷ []) [] (tt, tt) tt

silent_claim : (x : ℕ) (s : Server) (k : Claim) → AllSilent (take_claim x s k)
silent_claim x s k = silent_if (list_any (clash (claimed x k)) s.holders) [] _ tt (tt, tt)

silent_brought : (x : ℕ) (s : Server) (f : FlushMsg) → AllSilent (take_brought x s f)
silent_brought x s f = silent_append (take_flush x s f) (cond f.release [] (Settled x f.ino f.upto ∷ [])) (silent_take x s f) (silent_if f.release [] (Settled x f.ino f.upto ∷ []) tt (tt, tt))

pub silent_back : (s : Server) (x : ℕ) (said : List Claim) (flushes : List FlushMsg) → AllSilent (come_back s x said flushes)
silent_back s x said flushes = let t = acts s (LetAllGo x ∷ []) in
    (tt, silent_append (each (take_claim x) t said) (each (take_brought x) (acts t (each (take_claim x) t said)) flushes) (silent_each (take_claim x) (silent_claim x) t said) (silent_each (take_brought x) (silent_brought x) (acts t (each (take_claim x) t said)) flushes))

pub silent_reported : (s : Server) (m : ToServer) → AllSilent (reported s m)
silent_reported s (Purged id) = silent_if (is_listed id (to_purge s.entries)) _ [] (tt, tt) tt
silent_reported s (Deleted ino) = silent_if (list_any (same_ino ino) (dead s.entries)) _ [] (tt, tt) tt
silent_reported s (Connect conn said flushes asked) = tt
silent_reported s (Ask conn tid asked) = tt
silent_reported s (Flush conn f) = tt
silent_reported s (DropRead conn ino) = tt

pub silent_restarts : (s : Server) → AllSilent (restarts s)
silent_restarts s = silent_append (map TellRestart (up_to s.clients)) (roll_back_from (outstanding s.entries)) (told (up_to s.clients)) (rolled (outstanding s.entries))
  where
    told : (clients : List ℕ) → AllSilent (map TellRestart clients)
    told [] = tt
    told (x ∷ clients) = (tt, told clients)

    rolled : (o : Option (SnapId × ℕ)) → AllSilent (roll_back_from o)
    rolled None = tt
    rolled (Some o) = (tt, tt)

silent_recalls : (s : Server) (ino : Ino) (clients : List ℕ) → AllSilent (recalls s ino clients)
silent_recalls s ino clients = silent_flat (recall s ino) (λ x. silent_if (is_recalled s ino x) [] (MarkRecalled x ino ∷ TellRecall x ino ∷ []) tt (tt, (tt, tt))) clients

silent_give : (s : Server) (x : ℕ) (ino : Ino) (mode : Mode) → AllSilent (give s x ino mode)
silent_give s x ino mode = by_holder (find (is_holder x ino) s.holders)
  where
    by_holder : (o : Option Holder) → AllSilent (give_to s x ino mode o)
    by_holder None = (tt, tt)
    by_holder (Some h) = silent_if (is_write mode && not (is_write h.mode)) _ [] (tt, tt) tt

pub silent_cap : (s : Server) (x : ℕ) (ino : Ino) (mode : Mode) → AllSilent (ask_cap s x ino mode (GrantIt ino mode))
silent_cap s x ino mode = silent_if (in_conflict s x ino mode) (recalls s ino (against s x ino mode) ++ Wait ∷ []) (give s x ino mode ++ GrantIt ino mode ∷ [])
    (silent_append (recalls s ino (against s x ino mode)) (Wait ∷ []) (silent_recalls s ino (against s x ino mode)) (tt, tt))
    (silent_append (give s x ino mode) (GrantIt ino mode ∷ []) (silent_give s x ino mode) (tt, tt))

pub silent_dead : (s : Server) (ino : Ino) → AllSilent (cond (is_empty (holders_of s ino)) (SendDelete ino ∷ []) (recalls s ino (holders_of s ino)))
silent_dead s ino = silent_if (is_empty (holders_of s ino)) (SendDelete ino ∷ []) (recalls s ino (holders_of s ino)) (tt, tt) (silent_recalls s ino (holders_of s ino))

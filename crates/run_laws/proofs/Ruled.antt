-- What the rules of the server do but those for flushes: they buffer no flush and acknowledge none, and what they grant or
-- find is a file that the entries made.
use Rattle.std.proofs.Common.{◌≡◌, ℕ, List, [], ◌∷◌, ◌++◌, map, Bool, true, false, cond, Option, None, Some, refl, subst, IfSome}
use Rattle.std.specs.Prelude.{◌&&◌, ◌==◌, not, nat_le, flat_map, find, filter, Result, Ok, Err}
use Rattle.std.specs.List.{list_any, list_all}
use Rattle.snap_ids.specs.declared.id.Ino.{Ino}
use Rattle.snap_ids.specs.declared.id.SnapId.{SnapId}
use Rattle.snap_ids.specs.declared.values.Kind.{Kind}
use Rattle.snap_ids.specs.declared.values.Kind.TheVariants.{Dir, File}
use Rattle.snap_ids.specs.declared.values.Mode.{Mode}
use Rattle.snap_ids.specs.declared.values.Mode.TheVariants.{Read}
use Rattle.snap_ids.specs.Context.{is_listed}
use Rattle.snap_ids.specs.Path.{place_of}
use Rattle.plain_types.specs.declared.answer.Answer.{Answer}
use Rattle.plain_types.specs.declared.answer.Answer.TheVariants as answer
use Rattle.plain_types.specs.declared.answer.Refusal.{Refusal}
use Rattle.plain_types.specs.declared.answer.Refusal.TheVariants.{IsDir, NotDir}
use Rattle.plain_types.specs.declared.change.Change.{Change}
use Rattle.plain_types.specs.declared.change.Change.TheVariants as change
use Rattle.plain_types.specs.declared.entry.Entry.{Entry}
use Rattle.plain_types.specs.declared.entry.What.{What}
use Rattle.plain_types.specs.declared.entry.What.TheVariants.{PrepareCreate, PrepareDestroy}
use Rattle.plain_types.specs.declared.message.Claim.{Claim}
use Rattle.plain_types.specs.declared.message.FlushMsg.{FlushMsg}
use Rattle.plain_types.specs.declared.message.ToServer.{ToServer}
use Rattle.plain_types.specs.declared.message.ToServer.TheVariants.{Connect, Ask, Flush, DropRead, Purged, Deleted}
use Rattle.plain_types.specs.declared.request.Query.TheVariants as query
use Rattle.plain_types.specs.declared.request.Request.{Request}
use Rattle.plain_types.specs.declared.request.Request.TheVariants as request
use Rattle.plain_tree.specs.Line.{answer_to as answer_of}
use Rattle.plain_tree.specs.Query.{Found, InLive, SnapsOf, InTree, answered, list_in, list_answer, stat_in, file_in, live_only}
use Rattle.plain_tree.specs.Request.{change_asked}
use Rattle.plain_tree.specs.State.{State, same_ino, kind_in, inode_in, listing}
use Rattle.plain_journal.specs.Answers.{found, found_live as found_answer, live_stat, stat_found, cat_found, live_answer, answer_to}
use Rattle.plain_journal.specs.Coverage.{context}
use Rattle.plain_journal.specs.Realms.{realm_at, shown}
use Rattle.plain_journal.specs.Settled.{settled_size}
use Rattle.plain_journal.specs.Entries.{change_in, state_after, tree_at}
use Rattle.plain_journal.specs.Table.{answer_kept, last_effect, is_flush, outstanding, to_purge, dead, last_flush, barrier}
use Rattle.held_files.specs.Files.{is_empty, is_write}
use Rattle.step_table.specs.ServerState.{Asked, Holder, Server, up_to, is_holder, is_writer, all_connected}
use Rattle.step_table.specs.Acts.{Act, TellRecall, TellAck, TellRestart, AnswerIt, GrantIt, MakeEffect, Prepare, Wait, Defer, DeferFirst, TakeDeferred, Buffer, SendDelete, Hold, MarkRecalled, Settled, LetGo, LetAllGo, act, acts, each}
use Rattle.step_table.specs.Capabilities.{in_conflict, against, is_recalled, recall, recalls, give_to, give, ask_cap, found_live, ask_found, clash, owing}
use Rattle.step_table.specs.Requests.{treat, treat_known, treat_new, kept_for, kept_answer, is_operation, decided, make, prepare, is_busy, next_id, by_kind, settled_answer, look_at, at_barrier}
use Rattle.step_table.specs.Flushes.{flush_settles, take_flush, on_flush, on_drop, claimed, take_claim, take_brought, come_back}
use Rattle.step_table.specs.Background.{roll_back, finish, finish_with, least, unsent_purges, turn_deferred, turn_at, turn, holders_of, is_due, first_file, first_barrier, waits_at, is_finished, open_to, turn_barrier, turn_dead, turn_purge, turn_operation}
use Rattle.step_table.specs.ServerRows.{reported, restarts, roll_back_from}
use Rattle.run_laws.proofs.Effects.{last_from}
use Rattle.run_laws.proofs.Known.{Known}

-- a live file that is found is one that the entries made
abbrev pub SaysKnown : List Entry → Answer → Type 0
SaysKnown entries (answer.FoundLive ino perm size write_held) = Known entries ino
SaysKnown entries said = Unit {0}

abbrev pub IsRuled : List Entry → Act → Type 0
IsRuled entries (Buffer e) = is_flush e.what ≡ false
IsRuled entries (Prepare said) = is_flush said ≡ false
IsRuled entries (TellAck x number) = ⊥
IsRuled entries (GrantIt ino mode) = Known entries ino
IsRuled entries (AnswerIt said) = SaysKnown entries said
IsRuled entries a = Unit {0}

abbrev pub AllRuled : List Entry → List Act → Type 0
AllRuled entries [] = Unit {0}
AllRuled entries (a ∷ list) = IsRuled entries a × AllRuled entries list

pub ruled_append : (entries : List Entry) (xs ys : List Act) → AllRuled entries xs → AllRuled entries ys → AllRuled entries (xs ++ ys)
ruled_append entries [] ys all more = more
ruled_append entries (x ∷ xs) ys all more = (all.0, ruled_append entries xs ys all.1 more)

ruled_if : (entries : List Entry) (b : Bool) (xs ys : List Act) → AllRuled entries xs → AllRuled entries ys → AllRuled entries (cond b xs ys)
ruled_if entries true xs ys here other = here
ruled_if entries false xs ys here other = other

ruled_flat : {X : Type 0} (entries : List Entry) (f : X → List Act) → ((x : X) → AllRuled entries (f x)) → (xs : List X) → AllRuled entries (flat_map f xs)
ruled_flat entries f one [] = tt
ruled_flat entries f one (x ∷ xs) = ruled_append entries (f x) (flat_map f xs) (one x) (ruled_flat entries f one xs)

-- capabilities
ruled_recalls : (s : Server) (ino : Ino) (clients : List ℕ) → AllRuled s.entries (recalls s ino clients)
ruled_recalls s ino clients = ruled_flat s.entries (recall s ino) (λ x. ruled_if s.entries (is_recalled s ino x) [] (MarkRecalled x ino ∷ TellRecall x ino ∷ []) tt (tt, (tt, tt))) clients

ruled_give : (s : Server) (x : ℕ) (ino : Ino) (mode : Mode) → AllRuled s.entries (give s x ino mode)
ruled_give s x ino mode = by_holder (find (is_holder x ino) s.holders)
  where
    by_holder : (o : Option Holder) → AllRuled s.entries (give_to s x ino mode o)
    by_holder None = (tt, tt)
    by_holder (Some h) = ruled_if s.entries (is_write mode && not (is_write h.mode)) _ [] (tt, tt) tt

ruled_cap : (s : Server) (x : ℕ) (ino : Ino) (mode : Mode) (granted : Act) → IsRuled s.entries granted → AllRuled s.entries (ask_cap s x ino mode granted)
ruled_cap s x ino mode granted is = ruled_if s.entries (in_conflict s x ino mode) (recalls s ino (against s x ino mode) ++ Wait ∷ []) (give s x ino mode ++ granted ∷ [])
    (ruled_append s.entries (recalls s ino (against s x ino mode)) (Wait ∷ []) (ruled_recalls s ino (against s x ino mode)) (tt, tt))
    (ruled_append s.entries (give s x ino mode) (granted ∷ []) (ruled_give s x ino mode) (is, tt))

ruled_found : (s : Server) (x : ℕ) (ino : Ino) → Known s.entries ino → AllRuled s.entries (ask_found s x ino)
ruled_found s x ino is = ruled_if s.entries (list_any (is_writer x ino) s.holders) (AnswerIt (found_live s ino true) ∷ []) (ask_cap s x ino Read (AnswerIt (found_live s ino false))) (is, tt) (ruled_cap s x ino Read (AnswerIt (found_live s ino false)) is)

-- what the journal answers
live_known : (entries : List Entry) (ino : Ino) → SaysKnown entries (live_stat entries (state_after entries) ino)
live_known entries ino = by_file (kind_in (state_after entries).inodes ino) refl
  where
    by_file : (k : Kind) → kind_in (state_after entries).inodes ino ≡ k → SaysKnown entries (elim k as (λ _. Answer) [ Dir ↦ answer.StatDir (inode_in (state_after entries).inodes ino).mode | File ↦ found_answer entries (state_after entries) ino ])
    by_file Dir is = tt
    by_file File is = is

file_known : (entries : List Entry) (state : State) (ino : Ino) (said : Answer) → (kind_in state.inodes ino ≡ File → SaysKnown entries said) → SaysKnown entries (file_in state ino said)
file_known entries state ino said known = by_file (kind_in state.inodes ino) refl
  where
    by_file : (k : Kind) → kind_in state.inodes ino ≡ k → SaysKnown entries (elim k as (λ _. Answer) [ Dir ↦ answer.Refused IsDir | File ↦ said ])
    by_file Dir is = tt
    by_file File is = known is

stat_known : (entries : List Entry) (size : ℕ) (state : State) (ino : Ino) → SaysKnown entries (stat_in size state ino)
stat_known entries size state ino = by_file (kind_in state.inodes ino)
  where
    by_file : (k : Kind) → SaysKnown entries (elim k as (λ _. Answer) [ Dir ↦ answer.StatDir (inode_in state.inodes ino).mode | File ↦ answer.StatFile (inode_in state.inodes ino).mode size ])
    by_file Dir = tt
    by_file File = tt

list_known : (entries : List Entry) (state : State) (ino : Ino) → SaysKnown entries (list_in state ino)
list_known entries state ino = by_file (kind_in state.inodes ino)
  where
    by_file : (k : Kind) → SaysKnown entries (elim k as (λ _. Answer) [ Dir ↦ answer.Listed (listing (kind_in state.inodes) state.entries ino) | File ↦ answer.Refused NotDir ])
    by_file Dir = tt
    by_file File = tt

listed_known : (entries : List Entry) (o : Result Found Refusal) → SaysKnown entries (answered o (list_answer (shown entries) (tree_at entries) (state_after entries)))
listed_known entries (Ok (InLive ino)) = list_known entries (state_after entries) ino
listed_known entries (Ok (SnapsOf dir)) = tt
listed_known entries (Ok (InTree id ino)) = list_known entries (tree_at entries id) ino
listed_known entries (Err refusal) = tt

stated_known : (entries : List Entry) (o : Result Found Refusal) → SaysKnown entries (answered o (stat_found entries))
stated_known entries (Ok (InLive ino)) = live_known entries ino
stated_known entries (Ok (SnapsOf dir)) = stat_known entries 0 (state_after entries) dir
stated_known entries (Ok (InTree id ino)) = stat_known entries (settled_size entries ino id) (tree_at entries id) ino
stated_known entries (Err refusal) = tt

catted_known : (entries : List Entry) (o : Result Found Refusal) → SaysKnown entries (answered o (cat_found entries))
catted_known entries (Ok (InLive ino)) = file_known entries (state_after entries) ino (found_answer entries (state_after entries) ino) (λ is. is)
catted_known entries (Ok (SnapsOf dir)) = tt
catted_known entries (Ok (InTree id ino)) = file_known entries (tree_at entries id) ino (answer.FoundSnap ino id (settled_size entries ino id)) (λ is. tt)
catted_known entries (Err refusal) = tt

realm_known : (entries : List Entry) (o : Result Ino Refusal) → SaysKnown entries (live_answer o (λ ino. answer.RealmIs (realm_at entries ino) (context entries ino)))
realm_known entries (Ok ino) = tt
realm_known entries (Err refusal) = tt

clones_known : (entries : List Entry) (index : ℕ) (o : Result Ino Refusal) → SaysKnown entries (live_answer o (λ ino. file_in (state_after entries) ino (answer.FoundObject ino index)))
clones_known entries index (Ok ino) = file_known entries (state_after entries) ino (answer.FoundObject ino index) (λ is. tt)
clones_known entries index (Err refusal) = tt

change_known : (entries : List Entry) (made : Change) → SaysKnown entries (answer_of made)
change_known entries (change.Mksnap id dir name) = tt
change_known entries (change.OpenFile handle ino writable) = tt
change_known entries made = tt

-- an answer that is kept
kept_known : (entries done : List Entry) (x : ℕ) (before : Option (ℕ × Answer)) → IfSome before (λ k. SaysKnown entries k.1) → IfSome (last_from x before done) (λ k. SaysKnown entries k.1)
kept_known entries [] x before is = is
kept_known entries (e ∷ done) x before is = kept_known entries done x (cond (e.client == x) (answer_kept (change_in e.what) e.number before) before) (by_test (e.client == x) (change_in e.what))
  where
    by_test : (b : Bool) (o : Option Change) → IfSome (cond b (answer_kept o e.number before) before) (λ k. SaysKnown entries k.1)
    by_test true None = is
    by_test true (Some made) = change_known entries made
    by_test false o = is

kept_says : (entries : List Entry) (tid : ℕ) (o : Option (ℕ × Answer)) (said : Answer) → IfSome o (λ k. SaysKnown entries k.1) → kept_for tid o ≡ Some said → SaysKnown entries said
kept_says entries tid None said known is = cc
kept_says entries tid (Some k) said known is = by_test (k.0 == tid) is
  where
    by_test : (b : Bool) → cond b (Some k.1) None ≡ Some said → SaysKnown entries said
    by_test true is = let same : k.1 ≡ said = cc in subst (SaysKnown entries) same known
    by_test false is = cc

-- a request for a capability is for a file that the entries made
abbrev pub CapAt : List Entry → Request → Type 0
CapAt entries (request.Cap ino mode) = Known entries ino
CapAt entries asked = Unit {0}

abbrev pub AllCaps : List Entry → List Asked → Type 0
AllCaps entries [] = Unit {0}
AllCaps entries (a ∷ list) = CapAt entries a.request × AllCaps entries list

ruled_kind : (entries : List Entry) (k : Kind) (xs ys : List Act) → AllRuled entries xs → (k ≡ File → AllRuled entries ys) → AllRuled entries (by_kind k xs ys)
ruled_kind entries Dir xs ys one other = one
ruled_kind entries File xs ys one other = other refl

ruled_look : (s : Server) (a : Asked) (said : Answer) (o : Result Found Refusal) → SaysKnown s.entries said → AllRuled s.entries (look_at s a said o)
ruled_look s a said (Ok (InLive ino)) known = ruled_kind s.entries (kind_in (state_after s.entries).inodes ino) (AnswerIt said ∷ []) (ask_found s a.client ino) (known, tt) (λ is. ruled_found s a.client ino is)
ruled_look s a said (Ok (InTree id ino)) known = ruled_kind s.entries (kind_in (tree_at s.entries id).inodes ino) (AnswerIt said ∷ []) (AnswerIt (settled_answer said (owing s ino id)) ∷ []) (known, tt) (λ is. (by_owing (owing s ino id), tt))
  where
    by_owing : (o : Option ℕ) → SaysKnown s.entries (settled_answer said o)
    by_owing None = known
    by_owing (Some x) = tt
ruled_look s a said (Ok (SnapsOf dir)) known = (known, tt)
ruled_look s a said (Err refusal) known = (known, tt)

ruled_barrier : (s : Server) (number : ℕ) → AllRuled s.entries (at_barrier s number)
ruled_barrier s number = ruled_if s.entries (nat_le number (barrier s.entries)) _ (Wait ∷ []) (tt, tt) (tt, tt)

ruled_prepare : (s : Server) (alone : Bool) (said : What) → is_flush said ≡ false → AllRuled s.entries (prepare alone s said)
ruled_prepare s alone said is = ruled_if s.entries (is_busy alone s) (Defer ∷ []) (Prepare said ∷ []) (tt, tt) (is, tt)

ruled_make : (s : Server) (alone : Bool) (made : Change) → AllRuled s.entries (make alone s made)
ruled_make s alone (change.Mksnap id dir name) = ruled_prepare s alone (PrepareCreate id) refl
ruled_make s alone (change.Rmsnap id) = ruled_prepare s alone (PrepareDestroy id) refl
ruled_make s alone made = (tt, (change_known s.entries made, tt))

ruled_decided : (s : Server) (alone : Bool) (o : Option (Result Change Refusal)) → AllRuled s.entries (decided alone s o)
ruled_decided s alone None = tt
ruled_decided s alone (Some (Err refusal)) = (tt, tt)
ruled_decided s alone (Some (Ok made)) = ruled_make s alone made

ruled_new : (s : Server) (alone : Bool) (a : Asked) (asked : Request) → CapAt s.entries asked → AllRuled s.entries (treat_new alone s a asked)
ruled_new s alone a (request.Cap ino mode) known = ruled_cap s a.client ino mode (GrantIt ino mode) known
ruled_new s alone a (request.Cat path) known = ruled_look s a (answer_to s.entries (query.Cat path)) (found s.entries path) (catted_known s.entries (found s.entries path))
ruled_new s alone a (request.Stat path) known = ruled_look s a (answer_to s.entries (query.Stat path)) (found s.entries path) (stated_known s.entries (found s.entries path))
ruled_new s alone a (request.List path) known = (listed_known s.entries (found s.entries path), tt)
ruled_new s alone a (request.Realm path) known = (realm_known s.entries (live_only (state_after s.entries) (place_of path)), tt)
ruled_new s alone a (request.Clones path index) known = (clones_known s.entries index (live_only (state_after s.entries) (place_of path)), tt)
ruled_new s alone a (request.Barrier number) known = ruled_barrier s number
ruled_new s alone a asked known = ruled_decided s alone (change_asked (state_after s.entries) a.client (next_id s) asked)

pub ruled_treat : (s : Server) (alone : Bool) (a : Asked) → CapAt s.entries a.request → AllRuled s.entries (treat alone s a)
ruled_treat s alone a known = by_test (all_connected s)
  where
    by_kept : (o : Option Answer) → kept_answer s a ≡ o → AllRuled s.entries (treat_known alone s a o)
    by_kept (Some said) is = (kept_says s.entries a.tid (last_effect s.entries a.client) said (kept_known s.entries s.entries a.client None tt) is, tt)
    by_kept None is = ruled_if s.entries (is_operation s a) [] _ tt (ruled_new s alone a a.request known)

    by_test : (b : Bool) → AllRuled s.entries (cond b (treat_known alone s a (kept_answer s a)) (Wait ∷ []))
    by_test true = by_kept (kept_answer s a) refl
    by_test false = (tt, tt)

-- the server's own time
pub ruled_drop : (x : ℕ) (s : Server) (ino : Ino) → AllRuled s.entries (on_drop x s ino)
ruled_drop x s ino = ruled_if s.entries (list_any (λ h. is_holder x ino h && not (is_write h.mode)) s.holders) (LetGo x ino ∷ []) [] (tt, tt) tt

pub ruled_reported : (s : Server) (m : ToServer) → AllRuled s.entries (reported s m)
ruled_reported s (Purged id) = ruled_if s.entries (is_listed id (to_purge s.entries)) _ [] (refl, tt) tt
ruled_reported s (Deleted ino) = ruled_if s.entries (list_any (same_ino ino) (dead s.entries)) _ [] (refl, tt) tt
ruled_reported s (Connect conn said flushes asked) = tt
ruled_reported s (Ask conn tid asked) = tt
ruled_reported s (Flush conn f) = tt
ruled_reported s (DropRead conn ino) = tt

pub ruled_restarts : (s : Server) → AllRuled s.entries (restarts s)
ruled_restarts s = ruled_append s.entries (map TellRestart (up_to s.clients)) (roll_back_from (outstanding s.entries)) (told (up_to s.clients)) (rolled (outstanding s.entries))
  where
    told : (clients : List ℕ) → AllRuled s.entries (map TellRestart clients)
    told [] = tt
    told (x ∷ clients) = (tt, told clients)

    rolled : (o : Option (SnapId × ℕ)) → AllRuled s.entries (roll_back_from o)
    rolled None = tt
    rolled (Some o) = (refl, tt)

ruled_purge : (s : Server) (o : Option SnapId) → IfSome (turn_purge s o) (AllRuled s.entries)
ruled_purge s (Some id) = (refl, (tt, tt))
ruled_purge s None = by_file (first_file (filter (is_due s) (dead s.entries)))
  where
    if_some : (b : Bool) (list : List Act) → AllRuled s.entries list → IfSome (cond b (Some list) None) (AllRuled s.entries)
    if_some true list all = all
    if_some false list all = tt

    by_barrier : (o : Option ℕ) → IfSome (turn_barrier s o) (AllRuled s.entries)
    by_barrier None = tt
    by_barrier (Some number) = if_some (list_all (waits_at s number) (up_to s.clients) && is_finished s) _ (refl, ruled_flat s.entries open_to (λ x. (tt, (tt, tt))) (up_to s.clients))

    by_file : (o : Option Ino) → IfSome (turn_dead s o) (AllRuled s.entries)
    by_file None = by_barrier (first_barrier s.held)
    by_file (Some ino) = ruled_if s.entries (is_empty (holders_of s ino)) (SendDelete ino ∷ []) (recalls s ino (holders_of s ino)) (tt, tt) (ruled_recalls s ino (holders_of s ino))

ruled_finish : (s : Server) (id : SnapId) (o : Option (Result Change Refusal)) → AllRuled s.entries (finish id o)
ruled_finish s id None = tt
ruled_finish s id (Some (Err refusal)) = (refl, (tt, tt))
ruled_finish s id (Some (Ok made)) = by_made made
  where
    by_made : (made : Change) → AllRuled s.entries (finish_with id made)
    by_made (change.Rmsnap now) = ruled_if s.entries (now.0 == id.0) (MakeEffect (change.Rmsnap now) ∷ AnswerIt answer.Done ∷ []) (roll_back id ∷ DeferFirst ∷ []) (tt, (tt, tt)) (refl, (tt, tt))
    by_made made = (tt, (change_known s.entries made, tt))

-- where each deferred request is of a known file
pub ruled_turn : (s : Server) → AllCaps s.entries s.deferred → IfSome (turn s) (AllRuled s.entries)
ruled_turn s caps = by_test (all_connected s)
  where
    Good : Option (List Act) → Type 0
    Good o = IfSome o (AllRuled s.entries)

    by_operation : (id : SnapId) (o : Option Asked) → Good (turn_operation s id o)
    by_operation id None = tt
    by_operation id (Some a) = (tt, ruled_finish s id (change_asked (state_after s.entries) a.client id a.request))

    by_deferred : (list : List Asked) → AllCaps s.entries list → Good (turn_deferred s list)
    by_deferred [] caps = ruled_purge s (least (unsent_purges s))
    by_deferred (a ∷ more) caps = (tt, ruled_treat (act s TakeDeferred) true a caps.0)

    by_outstanding : (o : Option (SnapId × ℕ)) → Good (turn_at s o)
    by_outstanding None = by_deferred s.deferred caps
    by_outstanding (Some o) = by_durable (nat_le o.1 s.durable)
      where
        by_durable : (b : Bool) → Good (cond b (turn_operation s o.0 s.operation) (turn_purge s (least (unsent_purges s))))
        by_durable true = by_operation o.0 s.operation
        by_durable false = ruled_purge s (least (unsent_purges s))

    by_test : (b : Bool) → Good (cond b (turn_at s (outstanding s.entries)) None)
    by_test true = by_outstanding (outstanding s.entries)
    by_test false = tt

-- what the rules for a client's flushes do: they buffer entries of that client and acknowledge to it, and answer no request
abbrev pub IsFlushing : ℕ → Act → Type 0
IsFlushing x (Buffer e) = e.client ≡ x
IsFlushing x (TellAck y number) = y ≡ x
IsFlushing x (Prepare said) = ⊥
IsFlushing x (GrantIt ino mode) = ⊥
IsFlushing x (AnswerIt said) = ⊥
IsFlushing x (MakeEffect made) = ⊥
IsFlushing x a = Unit {0}

abbrev pub AllFlushing : ℕ → List Act → Type 0
AllFlushing x [] = Unit {0}
AllFlushing x (a ∷ list) = IsFlushing x a × AllFlushing x list

flushing_append : (x : ℕ) (xs ys : List Act) → AllFlushing x xs → AllFlushing x ys → AllFlushing x (xs ++ ys)
flushing_append x [] ys all more = more
flushing_append x (a ∷ xs) ys all more = (all.0, flushing_append x xs ys all.1 more)

flushing_if : (x : ℕ) (b : Bool) (xs ys : List Act) → AllFlushing x xs → AllFlushing x ys → AllFlushing x (cond b xs ys)
flushing_if x true xs ys here other = here
flushing_if x false xs ys here other = other

flushing_each : {X : Type 0} (x : ℕ) (rule : Server → X → List Act) → ((s : Server) (y : X) → AllFlushing x (rule s y)) → (s : Server) (ys : List X) → AllFlushing x (each rule s ys)
flushing_each x rule one s [] = tt
flushing_each x rule one s (y ∷ ys) = flushing_append x (rule s y) (each rule (acts s (rule s y)) ys) (one s y) (flushing_each x rule one (acts s (rule s y)) ys)

settles_flushing : (x : ℕ) (f : FlushMsg) → IsFlushing x (flush_settles x f)
settles_flushing x f = by_test f.release
  where
    by_test : (b : Bool) → IsFlushing x (cond b (LetGo x f.ino) (Settled x f.ino f.upto))
    by_test true = tt
    by_test false = tt

flushing_take : (x : ℕ) (s : Server) (f : FlushMsg) → AllFlushing x (take_flush x s f)
flushing_take x s f = flushing_if x (nat_le f.number (last_flush s.entries x)) [] _ tt (refl, (settles_flushing x f, tt))

pub flushing_flush : (x : ℕ) (s : Server) (f : FlushMsg) → AllFlushing x (on_flush x s f)
flushing_flush x s f = flushing_append x (take_flush x s f) (TellAck x f.number ∷ []) (flushing_take x s f) (refl, tt)

flushing_claim : (x : ℕ) (s : Server) (k : Claim) → AllFlushing x (take_claim x s k)
flushing_claim x s k = flushing_if x (list_any (clash (claimed x k)) s.holders) [] (Hold (claimed x k) ∷ []) tt (tt, tt)

flushing_brought : (x : ℕ) (s : Server) (f : FlushMsg) → AllFlushing x (take_brought x s f)
flushing_brought x s f = flushing_append x (take_flush x s f) (cond f.release [] (Settled x f.ino f.upto ∷ [])) (flushing_take x s f) (flushing_if x f.release [] (Settled x f.ino f.upto ∷ []) tt (tt, tt))

pub flushing_back : (s : Server) (x : ℕ) (said : List Claim) (flushes : List FlushMsg) → AllFlushing x (come_back s x said flushes)
flushing_back s x said flushes = let t = acts s (LetAllGo x ∷ []) in
    (tt, flushing_append x (each (take_claim x) t said) (each (take_brought x) (acts t (each (take_claim x) t said)) flushes) (flushing_each x (take_claim x) (flushing_claim x) t said) (flushing_each x (take_brought x) (flushing_brought x) (acts t (each (take_claim x) t said)) flushes))

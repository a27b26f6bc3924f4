-- Which rules of the server make no effect of a request: what they buffer is none.
use Rattle.std.proofs.Common.{◌≡◌, ℕ, List, [], ◌∷◌, ◌++◌, map, Bool, true, false, cond, Option, None, Some, refl, IfSome}
use Rattle.std.specs.Prelude.{◌&&◌, not, nat_le, flat_map, find, filter, Result, Ok, Err}
use Rattle.std.specs.List.{list_any, list_all}
use Rattle.snap_ids.specs.declared.id.Ino.{Ino}
use Rattle.snap_ids.specs.declared.id.SnapId.{SnapId}
use Rattle.snap_ids.specs.declared.values.Kind.{Kind}
use Rattle.snap_ids.specs.declared.values.Kind.TheVariants.{Dir, File}
use Rattle.snap_ids.specs.declared.values.Mode.{Mode}
use Rattle.snap_ids.specs.declared.values.Mode.TheVariants.{Read}
use Rattle.snap_ids.specs.Context.{is_listed}
use Rattle.plain_types.specs.declared.answer.Answer.{Answer}
use Rattle.plain_types.specs.declared.answer.Refusal.{Refusal}
use Rattle.plain_types.specs.declared.entry.What.TheVariants as what
use Rattle.plain_types.specs.declared.message.Claim.{Claim}
use Rattle.plain_types.specs.declared.message.FlushMsg.{FlushMsg}
use Rattle.plain_types.specs.declared.message.ToServer.{ToServer}
use Rattle.plain_types.specs.declared.message.ToServer.TheVariants.{Connect, Ask, Flush, DropRead, Purged, Deleted}
use Rattle.plain_tree.specs.State.{same_ino}
use Rattle.plain_tree.specs.Query.{Found, InLive, SnapsOf, InTree}
use Rattle.plain_tree.specs.State.{kind_in}
use Rattle.plain_journal.specs.Entries.{change_in, state_after, tree_at}
use Rattle.plain_journal.specs.Table.{outstanding, to_purge, dead, last_flush, barrier}
use Rattle.held_files.specs.Files.{is_empty, is_write}
use Rattle.step_table.specs.ServerState.{Asked, Holder, Server, up_to, is_holder, is_writer}
use Rattle.step_table.specs.Acts.{Act, TellRecall, TellAck, TellRestart, AnswerIt, MakeEffect, Prepare, Wait, Buffer, SendDelete, Hold, MarkRecalled, Settled, LetGo, LetAllGo, acts, each}
use Rattle.step_table.specs.Capabilities.{in_conflict, against, is_recalled, recall, recalls, give_to, give, ask_cap, found_live, ask_found, clash, owing}
use Rattle.step_table.specs.Requests.{by_kind, settled_answer, look_at, at_barrier}
use Rattle.step_table.specs.Flushes.{flush_entry, flush_settles, take_flush, on_flush, on_drop, claimed, take_claim, take_brought, come_back}
use Rattle.step_table.specs.Background.{holders_of, is_due, first_file, first_barrier, waits_at, is_finished, open_to, turn_barrier, turn_dead, turn_purge}
use Rattle.step_table.specs.ServerRows.{reported, restarts, roll_back_from}
use Rattle.run_laws.specs.Tables.{is_prepare}

-- an act that makes no effect of a request, and prepares none
abbrev pub IsPlain : Act → Type 0
IsPlain (MakeEffect change) = ⊥
IsPlain (Prepare said) = ⊥
IsPlain (Buffer e) = (change_in e.what ≡ None) × (is_prepare e.what ≡ false)
IsPlain a = Unit {0}

abbrev pub AllPlain : List Act → Type 0
AllPlain [] = Unit {0}
AllPlain (a ∷ list) = IsPlain a × AllPlain list

pub plain_append : (xs ys : List Act) → AllPlain xs → AllPlain ys → AllPlain (xs ++ ys)
plain_append [] ys all more = more
plain_append (x ∷ xs) ys all more = (all.0, plain_append xs ys all.1 more)

plain_if : (b : Bool) (xs ys : List Act) → AllPlain xs → AllPlain ys → AllPlain (cond b xs ys)
plain_if true xs ys here other = here
plain_if false xs ys here other = other

plain_flat : {X : Type 0} (f : X → List Act) → ((x : X) → AllPlain (f x)) → (xs : List X) → AllPlain (flat_map f xs)
plain_flat f one [] = tt
plain_flat f one (x ∷ xs) = plain_append (f x) (flat_map f xs) (one x) (plain_flat f one xs)

plain_each : {X : Type 0} (rule : Server → X → List Act) → ((s : Server) (x : X) → AllPlain (rule s x)) → (s : Server) (xs : List X) → AllPlain (each rule s xs)
plain_each rule one s [] = tt
plain_each rule one s (x ∷ xs) = plain_append (rule s x) (each rule (acts s (rule s x)) xs) (one s x) (plain_each rule one (acts s (rule s x)) xs)

-- capabilities
plain_recalls : (s : Server) (ino : Ino) (clients : List ℕ) → AllPlain (recalls s ino clients)
plain_recalls s ino clients = plain_flat (recall s ino) (λ x. plain_if (is_recalled s ino x) [] (MarkRecalled x ino ∷ TellRecall x ino ∷ []) tt (tt, (tt, tt))) clients

plain_give : (s : Server) (x : ℕ) (ino : Ino) (mode : Mode) → AllPlain (give s x ino mode)
plain_give s x ino mode = by_holder (find (is_holder x ino) s.holders)
  where
    by_holder : (o : Option Holder) → AllPlain (give_to s x ino mode o)
    by_holder None = (tt, tt)
    by_holder (Some h) = plain_if (is_write mode && not (is_write h.mode)) _ [] (tt, tt) tt

pub plain_cap : (s : Server) (x : ℕ) (ino : Ino) (mode : Mode) (granted : Act) → IsPlain granted → AllPlain (ask_cap s x ino mode granted)
plain_cap s x ino mode granted is = plain_if (in_conflict s x ino mode) (recalls s ino (against s x ino mode) ++ Wait ∷ []) (give s x ino mode ++ granted ∷ [])
    (plain_append (recalls s ino (against s x ino mode)) (Wait ∷ []) (plain_recalls s ino (against s x ino mode)) (tt, tt))
    (plain_append (give s x ino mode) (granted ∷ []) (plain_give s x ino mode) (is, tt))

pub plain_found : (s : Server) (x : ℕ) (ino : Ino) → AllPlain (ask_found s x ino)
plain_found s x ino = plain_if (list_any (is_writer x ino) s.holders) (AnswerIt (found_live s ino true) ∷ []) (ask_cap s x ino Read (AnswerIt (found_live s ino false))) (tt, tt) (plain_cap s x ino Read (AnswerIt (found_live s ino false)) tt)

plain_kind : (k : Kind) (xs ys : List Act) → AllPlain xs → AllPlain ys → AllPlain (by_kind k xs ys)
plain_kind Dir xs ys one other = one
plain_kind File xs ys one other = other

pub plain_look : (s : Server) (a : Asked) (said : Answer) (o : Result Found Refusal) → AllPlain (look_at s a said o)
plain_look s a said (Ok (InLive ino)) = plain_kind (kind_in (state_after s.entries).inodes ino) (AnswerIt said ∷ []) (ask_found s a.client ino) (tt, tt) (plain_found s a.client ino)
plain_look s a said (Ok (InTree id ino)) = plain_kind (kind_in (tree_at s.entries id).inodes ino) (AnswerIt said ∷ []) (AnswerIt (settled_answer said (owing s ino id)) ∷ []) (tt, tt) (tt, tt)
plain_look s a said (Ok (SnapsOf dir)) = (tt, tt)
plain_look s a said (Err refusal) = (tt, tt)

pub plain_barrier : (s : Server) (number : ℕ) → AllPlain (at_barrier s number)
plain_barrier s number = plain_if (nat_le number (barrier s.entries)) _ (Wait ∷ []) (tt, tt) (tt, tt)

-- flushes
flush_none : (f : FlushMsg) → change_in (flush_entry f) ≡ None
flush_none f = by_test f.release
  where
    by_test : (b : Bool) → change_in (cond b (what.Release f.ino f.follows f.size) (what.Settle f.ino f.follows f.upto f.size)) ≡ None
    by_test true = refl
    by_test false = refl

flush_not : (f : FlushMsg) → is_prepare (flush_entry f) ≡ false
flush_not f = by_test f.release
  where
    by_test : (b : Bool) → is_prepare (cond b (what.Release f.ino f.follows f.size) (what.Settle f.ino f.follows f.upto f.size)) ≡ false
    by_test true = refl
    by_test false = refl

settles_plain : (x : ℕ) (f : FlushMsg) → IsPlain (flush_settles x f)
settles_plain x f = by_test f.release
  where
    by_test : (b : Bool) → IsPlain (cond b (LetGo x f.ino) (Settled x f.ino f.upto))
    by_test true = tt
    by_test false = tt

plain_take : (x : ℕ) (s : Server) (f : FlushMsg) → AllPlain (take_flush x s f)
plain_take x s f = plain_if (nat_le f.number (last_flush s.entries x)) [] _ tt ((flush_none f, flush_not f), (settles_plain x f, tt))

pub plain_flush : (x : ℕ) (s : Server) (f : FlushMsg) → AllPlain (on_flush x s f)
plain_flush x s f = plain_append (take_flush x s f) (TellAck x f.number ∷ []) (plain_take x s f) (tt, tt)

pub plain_drop : (x : ℕ) (s : Server) (ino : Ino) → AllPlain (on_drop x s ino)
plain_drop x s ino = plain_if (list_any (λ h. is_holder x ino h && not (is_write h.mode)) s.holders) (LetGo x ino ∷ []) [] (tt, tt) tt

plain_claim : (x : ℕ) (s : Server) (k : Claim) → AllPlain (take_claim x s k)
plain_claim x s k = plain_if (list_any (clash (claimed x k)) s.holders) [] (Hold (claimed x k) ∷ []) tt (tt, tt)

plain_brought : (x : ℕ) (s : Server) (f : FlushMsg) → AllPlain (take_brought x s f)
plain_brought x s f = plain_append (take_flush x s f) (cond f.release [] (Settled x f.ino f.upto ∷ [])) (plain_take x s f) (plain_if f.release [] (Settled x f.ino f.upto ∷ []) tt (tt, tt))

pub plain_back : (s : Server) (x : ℕ) (said : List Claim) (flushes : List FlushMsg) → AllPlain (come_back s x said flushes)
plain_back s x said flushes = let t = acts s (LetAllGo x ∷ []) in
    (tt, plain_append (each (take_claim x) t said) (each (take_brought x) (acts t (each (take_claim x) t said)) flushes) (plain_each (take_claim x) (plain_claim x) t said) (plain_each (take_brought x) (plain_brought x) (acts t (each (take_claim x) t said)) flushes))

-- the store and the server's own time
pub plain_reported : (s : Server) (m : ToServer) → AllPlain (reported s m)
plain_reported s (Purged id) = plain_if (is_listed id (to_purge s.entries)) _ [] ((refl, refl), tt) tt
plain_reported s (Deleted ino) = plain_if (list_any (same_ino ino) (dead s.entries)) _ [] ((refl, refl), tt) tt
plain_reported s (Connect conn said flushes asked) = tt
plain_reported s (Ask conn tid asked) = tt
plain_reported s (Flush conn f) = tt
plain_reported s (DropRead conn ino) = tt

pub plain_restarts : (s : Server) → AllPlain (restarts s)
plain_restarts s = plain_append (map TellRestart (up_to s.clients)) (roll_back_from (outstanding s.entries)) (told (up_to s.clients)) (rolled (outstanding s.entries))
  where
    told : (clients : List ℕ) → AllPlain (map TellRestart clients)
    told [] = tt
    told (x ∷ clients) = (tt, told clients)

    rolled : (o : Option (SnapId × ℕ)) → AllPlain (roll_back_from o)
    rolled None = tt
    rolled (Some o) = ((refl, refl), tt)

pub plain_turn : (s : Server) (o : Option SnapId) → IfSome (turn_purge s o) AllPlain
plain_turn s (Some id) = ((refl, refl), (tt, tt))
plain_turn s None = by_file (first_file (filter (is_due s) (dead s.entries)))
  where
    if_some : (b : Bool) (list : List Act) → AllPlain list → IfSome (cond b (Some list) None) AllPlain
    if_some true list all = all
    if_some false list all = tt

    by_barrier : (o : Option ℕ) → IfSome (turn_barrier s o) AllPlain
    by_barrier None = tt
    by_barrier (Some number) = if_some (list_all (waits_at s number) (up_to s.clients) && is_finished s) _ ((refl, refl), plain_flat open_to (λ x. (tt, (tt, tt))) (up_to s.clients))

    by_file : (o : Option Ino) → IfSome (turn_dead s o) AllPlain
    by_file None = by_barrier (first_barrier s.held)
    by_file (Some ino) = plain_if (is_empty (holders_of s ino)) (SendDelete ino ∷ []) (recalls s ino (holders_of s ino)) (tt, tt) (plain_recalls s ino (holders_of s ino))

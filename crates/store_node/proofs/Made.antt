-- What is sent at a message, and what the store then stands for.
use Rattle.std.proofs.Common.{◌≡◌, ℕ, Bool, true, false, ◌==◌, List, [], ◌∷◌, ◌++◌, Option, if◌then◌else◌, sym, refl, ap, subst}
use Rattle.std.specs.Option.{option_to_list}
use Rattle.snap_ids.specs.declared.id.Ino.{Ino}
use Rattle.snap_ids.specs.declared.id.SnapId.{SnapId}
use Rattle.snap_ids.specs.declared.values.CloneList.{CloneList}
use Rattle.snap_ids.specs.Context.{Context}
use Rattle.plain_types.specs.declared.history.Sent.{Sent}
use Rattle.plain_types.specs.declared.message.FromStore.{FromStore}
use Rattle.plain_types.specs.declared.message.FromStore.TheVariants.{Stored, Got, NotThere, CloneListIs}
use Rattle.plain_types.specs.declared.message.ToServer.{ToServer}
use Rattle.plain_types.specs.declared.message.ToServer.TheVariants.{Purged, Deleted}
use Rattle.plain_types.specs.declared.message.ToStore.{ToStore}
use Rattle.plain_types.specs.declared.message.ToStore.TheVariants as order
use Rattle.object_log.specs.Bytes.{bytes_head}
use Rattle.object_log.specs.Objects.{clones_of}
use Rattle.object_clones.specs.Store.{Shown}
use Rattle.object_clones.specs.Stands.{StandsFor}
use Rattle.step_table.specs.Messages.{to_store_fits}
use Rattle.step_table.specs.Row.{sends}
use Rattle.step_table.specs.StoreRows.{answers, reports, send_answers, send_reports, takes, on_asked, on_ordered}
use Rattle.store_node.specs.Rows.{Sends}
use Rattle.store_node.proofs.Silence.{Silent, still_stands, head_silent, snap_silent, list_silent}

-- a read at a snapshot
pub got : (gone : Bool) (key : ℕ) (bytes served : List ℕ) → (gone ≡ true → false ≡ true) → bytes ≡ served
    → Got key bytes ∷ [] ≡ (if gone then NotThere key else Got key served) ∷ []
got true key bytes served kept same = let wrong = kept refl in cc
got false key bytes served kept same = ap (λ b. Got key b ∷ []) same

pub not_there : (gone : Bool) (key : ℕ) (served : List ℕ) → gone ≡ true
    → NotThere key ∷ [] ≡ (if gone then NotThere key else Got key served) ∷ []
not_there true key served is = refl
not_there false key served is = cc

-- what a client asks
abbrev pub Answers : List ToStore → ToStore → ℕ → FromStore → ℕ → Shown → Type 0
Answers log o node said object new = Sends (takes log o (send_answers node (answers object log o))) (send_answers node (said ∷ [])) object new

pub written : (log : List ToStore) (o : ToStore) (ino : Ino) (offset : ℕ) (bytes : List ℕ) (context : Context) (node object : ℕ) (new : Shown)
    → o ≡ order.WriteAt ino offset bytes context → StandsFor new object (log ++ order.WriteAt ino offset bytes context ∷ [])
    → Answers log o node (Stored ino) object new
written log o ino offset bytes context node object new is stands =
    subst (λ (x : ToStore). Answers log x node (Stored ino) object new) (sym is) (record { exact = refl; no_effect = refl; no_reply = refl; stands = stands })

pub cut : (log : List ToStore) (o : ToStore) (ino : Ino) (size : ℕ) (context : Context) (node object : ℕ) (new : Shown)
    → o ≡ order.Cut ino size context → StandsFor new object (log ++ order.Cut ino size context ∷ [])
    → Answers log o node (Stored ino) object new
cut log o ino size context node object new is stands =
    subst (λ (x : ToStore). Answers log x node (Stored ino) object new) (sym is) (record { exact = refl; no_effect = refl; no_reply = refl; stands = stands })

answered : (log : List ToStore) (o : ToStore) (said : FromStore) (node object : ℕ) (shown : Shown) → said ∷ [] ≡ answers object log o
    → Silent o → StandsFor shown object log → Answers log o node said object shown
answered log o said node object shown is silent stands =
    subst (λ (xs : List FromStore). Sends (takes log o (send_answers node xs)) (send_answers node (said ∷ [])) object shown) is
    (record { exact = refl; no_effect = refl; no_reply = refl; stands = still_stands shown object log o silent stands })

pub head_read : (log : List ToStore) (o : ToStore) (key : ℕ) (ino : Ino) (size : ℕ) (bytes : List ℕ) (node object : ℕ) (shown : Shown)
    → o ≡ order.ReadHead key ino size → bytes ≡ bytes_head log ino size → StandsFor shown object log
    → Answers log o node (Got key bytes) object shown
head_read log o key ino size bytes node object shown is same stands =
    subst (λ (x : ToStore). Answers log x node (Got key bytes) object shown) (sym is)
    (answered log (order.ReadHead key ino size) (Got key bytes) node object shown (ap (λ b. Got key b ∷ []) same) (head_silent key ino size) stands)

pub snap_read : (log : List ToStore) (o : ToStore) (key : ℕ) (ino : Ino) (size : ℕ) (s : SnapId) (said : FromStore) (node object : ℕ) (shown : Shown)
    → o ≡ order.ReadSnap key ino size s → said ∷ [] ≡ answers object log (order.ReadSnap key ino size s) → StandsFor shown object log
    → Answers log o node said object shown
snap_read log o key ino size s said node object shown is same stands =
    subst (λ (x : ToStore). Answers log x node said object shown) (sym is)
    (answered log (order.ReadSnap key ino size s) said node object shown same (snap_silent key ino size s) stands)

pub clones_listed : (log : List ToStore) (o : ToStore) (key : ℕ) (ino : Ino) (index : ℕ) (list : CloneList) (node object : ℕ) (shown : Shown)
    → o ≡ order.ListClones key ino index → list ≡ clones_of object log ino index → StandsFor shown object log
    → Answers log o node (CloneListIs key list) object shown
clones_listed log o key ino index list node object shown is same stands =
    subst (λ (x : ToStore). Answers log x node (CloneListIs key list) object shown) (sym is)
    (answered log (order.ListClones key ino index) (CloneListIs key list) node object shown (ap (λ l. CloneListIs key l ∷ []) same) (list_silent key ino index) stands)

-- what the server orders
abbrev pub Reports : List ToStore → ToStore → ToServer → ℕ → Shown → Type 0
Reports log o said object new = Sends (takes log o (send_reports (reports o))) (send_reports (said ∷ [])) object new

pub deleted : (log : List ToStore) (o : ToStore) (ino : Ino) (context : Context) (object : ℕ) (new : Shown)
    → o ≡ order.Delete ino context → StandsFor new object (log ++ order.Delete ino context ∷ []) → Reports log o (Deleted ino) object new
deleted log o ino context object new is stands =
    subst (λ (x : ToStore). Reports log x (Deleted ino) object new) (sym is) (record { exact = refl; no_effect = refl; no_reply = refl; stands = stands })

pub purged : (log : List ToStore) (o : ToStore) (id : SnapId) (object : ℕ) (new : Shown)
    → o ≡ order.Purge id → StandsFor new object (log ++ order.Purge id ∷ []) → Reports log o (Purged id) object new
purged log o id object new is stands =
    subst (λ (x : ToStore). Reports log x (Purged id) object new) (sym is) (record { exact = refl; no_effect = refl; no_reply = refl; stands = stands })

-- what can be
pub asked_so : (log : List ToStore) (o : ToStore) (told said : Option FromStore) (node object : ℕ) (new : Shown) → to_store_fits o ≡ true → told ≡ said
    → Sends (takes log o (send_answers node (answers object log o))) (send_answers node (option_to_list told)) object new
    → Sends (on_asked object log node o) (send_answers node (option_to_list said)) object new
asked_so log o told said node object new fits is does =
    subst (λ b. Sends (if b then takes log o (send_answers node (answers object log o)) else sends log []) (send_answers node (option_to_list said)) object new) (sym fits)
    (subst (λ (x : Option FromStore). Sends (takes log o (send_answers node (answers object log o))) (send_answers node (option_to_list x)) object new) is does)

pub ordered_so : (log : List ToStore) (o : ToStore) (told said : Option ToServer) (object : ℕ) (new : Shown) → to_store_fits o ≡ true → told ≡ said
    → Sends (takes log o (send_reports (reports o))) (send_reports (option_to_list told)) object new
    → Sends (on_ordered log o) (send_reports (option_to_list said)) object new
ordered_so log o told said object new fits is does =
    subst (λ b. Sends (if b then takes log o (send_reports (reports o)) else sends log []) (send_reports (option_to_list said)) object new) (sym fits)
    (subst (λ (x : Option ToServer). Sends (takes log o (send_reports (reports o))) (send_reports (option_to_list x)) object new) is does)

-- node 0 is the server
pub of_server : (log : List ToStore) (o : ToStore) (node object : ℕ) (sent : List Sent) (new : Shown) → node ≡ 0
    → Sends (on_ordered log o) sent object new → Sends (if node == 0 then on_ordered log o else on_asked object log node o) sent object new
of_server log o node object sent new is does =
    subst (λ n. Sends (if n == 0 then on_ordered log o else on_asked object log n o) sent object new) (sym is) does

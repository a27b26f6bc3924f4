-- What the server's acts keep, its rows give: for acts that fit where what the rows tested is known.
use Rattle.std.proofs.Common.{◌≡◌, ℕ, ◌+◌, List, [], ◌∷◌, Bool, true, false, true≢false, cond, Option, None, Some, refl, sym, IfSome}
use Rattle.std.specs.Prelude.{◌&&◌, nat_lt}
use Rattle.std.specs.List.{list_all}
use Rattle.snap_ids.specs.declared.id.Ino.{Ino}
use Rattle.plain_types.specs.declared.message.Claim.{Claim}
use Rattle.plain_types.specs.declared.message.FlushMsg.{FlushMsg}
use Rattle.plain_types.specs.declared.message.ToServer.{ToServer}
use Rattle.plain_types.specs.declared.message.ToServer.TheVariants.{Connect, Ask, Flush, DropRead, Purged, Deleted}
use Rattle.plain_types.specs.declared.request.Request.{Request}
use Rattle.step_table.specs.Messages.{to_server_fits, claim_fits, flush_fits}
use Rattle.step_table.specs.Row.{Row}
use Rattle.step_table.specs.ServerState.{Asked, Server, is_current, connection, welcome}
use Rattle.step_table.specs.Acts.{Act, TakeHeld, act, acts, each}
use Rattle.step_table.specs.Requests.{treat, is_operation}
use Rattle.step_table.specs.Flushes.{knows_file, knows_brought, on_flush, on_drop, asked_by, brought, hand_for, take_in, take_in_brought, connected, come_back, may_connect, treat_brought}
use Rattle.step_table.specs.Background.{turn}
use Rattle.step_table.specs.ServerRows.{on_take, on_report, on_commit, on_restart, on_tend, left_with, restarts, reported, back, connect_with}
use Rattle.run_laws.proofs.Acts.{Fit, fit_append, KeptByActs, acts_keep, take_ask, take_drop, take_purged, take_deleted, row_keeps, turn_keeps, commit_keeps, restart_keeps, connect_keeps, first_true}
use Rattle.run_laws.proofs.Gives.{KeptByServer}
use Rattle.run_laws.proofs.Once.{HandOf, first_client, hand_of}
use Rattle.run_laws.proofs.Serving.{ServerGives}

-- the acts of each rule fit: the request in hand is of the client whose request is treated, flushes are of known files
pub record TestedFit (F : Server → Act → Type 0) : Type 0 where
  pub held : (s : Server) (x : ℕ) → F s (TakeHeld x)
  pub treats : (s : Server) (a : Asked) → HandOf s a.client → Fit F s (treat false s a)
  pub comes : (s : Server) (x : ℕ) (said : List Claim) (flushes : List FlushMsg) → list_all flush_fits flushes ≡ true → list_all (λ (f : FlushMsg). knows_file s f.ino) flushes ≡ true → Fit F s (come_back s x said flushes)
  pub flushes : (s : Server) (x : ℕ) (f : FlushMsg) → flush_fits f ≡ true → knows_file s f.ino ≡ true → Fit F s (on_flush x s f)
  pub drops : (s : Server) (x : ℕ) (ino : Ino) → Fit F s (on_drop x s ino)
  pub reports : (s : Server) (m : ToServer) → Fit F s (reported s m)
  pub restarts : (s : Server) → Fit F s (restarts s)
  pub turns : (s : Server) → IfSome (turn s) (Fit F s)

anew_tested : {F : Server → Act → Type 0} → TestedFit F → (list : List Asked) (s : Server) → Fit F s (each (λ t (a : Asked). TakeHeld a.client ∷ treat false (act t (TakeHeld a.client)) a) s list)
anew_tested fits [] s = tt
anew_tested {F} fits (a ∷ list) s =
    let t = act s (TakeHeld a.client) in
    fit_append F s (TakeHeld a.client ∷ treat false t a) (each (λ t (a : Asked). TakeHeld a.client ∷ treat false (act t (TakeHeld a.client)) a) (acts s (TakeHeld a.client ∷ treat false t a)) list)
    (fits.held s a.client, fits.treats t a (λ b is. first_client a.client s.held b is))
    (anew_tested fits list (acts s (TakeHeld a.client ∷ treat false t a)))

second_true : (a b : Bool) → (a && b) ≡ true → b ≡ true
second_true true b is = is
second_true false b is = absurd (true≢false (sym is))

row_if : (After : Row Server → Type 0) (b : Bool) (x y : Row Server) → (b ≡ true → After x) → After y → After (cond b x y)
row_if After true x y here other = here refl
row_if After false x y here other = other

flush_tested : {F : Server → Act → Type 0} {Q : Server → Type 0} {After : Row Server → Type 0} → KeptByActs F Q After → (s : Server) (client conn : ℕ) (f : FlushMsg) → Q s → (flush_fits f ≡ true → knows_file s f.ino ≡ true → Fit F s (on_flush client s f)) → After (on_take s client (Flush conn f))
flush_tested {F} {Q} {After} k s client conn f holds fit =
    row_if After (to_server_fits (Flush conn f)) _ _ (λ fine. row_if After (is_current s client conn && knows_file s f.ino) _ _ (λ may. row_keeps k s (on_flush client s f) (fit fine (second_true (is_current s client conn) (knows_file s f.ino) may)) holds) (k.hands s holds)) (k.hands s holds)

connect_tested : {F : Server → Act → Type 0} {Q : Server → Type 0} {After : Row Server → Type 0} → KeptByActs F Q After → (s : Server) (client conn : ℕ) (claims : List Claim) (flushes : List FlushMsg) (asked : Option (ℕ × Request)) → Q s
    → (list_all flush_fits flushes ≡ true → list_all (λ (f : FlushMsg). knows_file s f.ino) flushes ≡ true → Q (back s client conn claims flushes (brought client asked)) × Fit F (back s client conn claims flushes (brought client asked)) (treat_brought (back s client conn claims flushes (brought client asked)) (brought client asked)))
    → After (on_take s client (Connect conn claims flushes asked))
connect_tested {F} {Q} {After} k s client conn claims flushes asked holds connects =
    row_if After (to_server_fits (Connect conn claims flushes asked)) _ _ (λ fine.
    row_if After (may_connect s client conn claims flushes (brought client asked)) _ _ (λ may. taken (connects (second_true (list_all claim_fits claims) (list_all flush_fits flushes) fine) (known may))) (k.hands s holds))
    (k.hands s holds)
  where
    known : may_connect s client conn claims flushes (brought client asked) ≡ true → list_all (λ (f : FlushMsg). knows_file s f.ino) flushes ≡ true
    known may =
        let a = nat_lt (connection s client) conn in
        let b = list_all (λ (x : Claim). knows_file s x.ino) claims in
        let d = list_all (λ (f : FlushMsg). knows_file s f.ino) flushes in
        second_true (a && b) d (first_true (a && b && d) (knows_brought s (brought client asked)) may)

    taken : Q (back s client conn claims flushes (brought client asked)) × Fit F (back s client conn claims flushes (brought client asked)) (treat_brought (back s client conn claims flushes (brought client asked)) (brought client asked)) → After (connect_with (back s client conn claims flushes (brought client asked)) (brought client asked))
    taken both = connect_keeps k (back s client conn claims flushes (brought client asked)) (brought client asked) both.1 both.0

pub tested_gives : {F : Server → Act → Type 0} {P : Server → Type 0} {Q : Bool → Server → Server → Type 0} {After : Bool → Server → Row Server → Type 0} → TestedFit F → KeptByServer F P Q After → ServerGives P After
tested_gives {F} {P} {Q} {After} fits k = record { takes = takes; reports = reports; commits = commits; restarts = restarted; tends = tends }
  where
    by_acts : (b : Bool) (first : Server) → KeptByActs F (Q b first) (After b first)
    by_acts b first = record { one = λ s a fit holds. k.one b first s a fit holds; hands = k.hands b first; anew = λ s holds. anew_tested fits s.held s }

    in_hand : (first s : Server) (o : Option Asked) → Q false first s → Q false first (take_in_brought s o)
    in_hand first s None holds = holds
    in_hand first s (Some a) holds = k.takes first s (hand_for s a) holds

    treats_in : (s : Server) (a : Asked) → Fit F (take_in s a) (treat false (take_in s a) a)
    treats_in s a = fits.treats (take_in s a) a (λ b at. hand_of s a b (is_operation s a) at)

    brought_fit : (s : Server) (o : Option Asked) → Fit F (take_in_brought s o) (treat_brought (take_in_brought s o) o)
    brought_fit s None = tt
    brought_fit s (Some a) = treats_in s a

    takes : (s : Server) (client : ℕ) (m : ToServer) → P s → After false s (on_take s client m)
    takes s client (Connect conn said flushes asked) holds = connect_tested (by_acts false s) s client conn said flushes asked (k.begins s holds) (λ fine known. (
      in_hand s (welcome (connected (acts s (come_back s client said flushes)) client conn) client conn) (brought client asked) (k.accepts s (acts s (come_back s client said flushes)) client conn (acts_keep (by_acts false s).one (come_back s client said flushes) s (fits.comes s client said flushes fine known) (k.begins s holds))),
      brought_fit (welcome (connected (acts s (come_back s client said flushes)) client conn) client conn) (brought client asked),
    ))
    takes s client (Ask conn tid asked) holds = take_ask (by_acts false s) s client conn tid asked (k.begins s holds) (λ is.
        (k.takes s s (hand_for s (asked_by client tid asked)) (k.begins s holds), treats_in s (asked_by client tid asked)))
    takes s client (Flush conn f) holds = flush_tested (by_acts false s) s client conn f (k.begins s holds) (fits.flushes s client f)
    takes s client (DropRead conn ino) holds = take_drop (by_acts false s) s client conn ino (k.begins s holds) (fits.drops s client ino)
    takes s client (Purged id) holds = take_purged (by_acts false s) s client id (k.begins s holds)
    takes s client (Deleted ino) holds = take_deleted (by_acts false s) s client ino (k.begins s holds)

    reports : (s : Server) (m : ToServer) → P s → After false s (on_report s m)
    reports s m holds = row_keeps (by_acts false s) s (reported s m) (fits.reports s m) (k.begins s holds)

    commits : (s : Server) → P s → IfSome (on_commit s) (After false s)
    commits s holds = commit_keeps (k.blind false s) (k.hands false s) s (k.durable s holds)

    restarted : (s : Server) (n : ℕ) → P s → IfSome (on_restart s n) (After true s)
    restarted s n holds = restart_keeps (k.blind true s) (by_acts true s) s n (λ left. (k.survives s n left holds, fits.restarts (left_with s (s.durable + n))))

    tends : (s : Server) → P s → IfSome (on_tend s) (After false s)
    tends s holds = turn_keeps (by_acts false s) s (fits.turns s) (k.begins s holds)

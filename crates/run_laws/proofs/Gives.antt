-- What the server's acts keep, its rows give.
use Rattle.std.proofs.Common.{◌≡◌, ℕ, ◌+◌, List, [], ◌∷◌, Bool, true, false, Option, None, Some, IfSome}
use Rattle.std.specs.Prelude.{nat_le, length}
use Rattle.snap_ids.specs.declared.id.Ino.{Ino}
use Rattle.plain_types.specs.declared.change.Effect.{Effect}
use Rattle.plain_types.specs.declared.message.Claim.{Claim}
use Rattle.plain_types.specs.declared.message.FlushMsg.{FlushMsg}
use Rattle.plain_types.specs.declared.message.ToServer.{ToServer}
use Rattle.plain_types.specs.declared.message.ToServer.TheVariants.{Connect, Ask, Flush, DropRead, Purged, Deleted}
use Rattle.step_table.specs.Row.{Row}
use Rattle.step_table.specs.ServerState.{Asked, Server, buffered, welcome}
use Rattle.step_table.specs.Acts.{Act, TakeHeld, act, acts, each, hand_out}
use Rattle.step_table.specs.Requests.{treat}
use Rattle.step_table.specs.Flushes.{on_flush, on_drop, asked_by, brought, hand_for, take_in, take_in_brought, connected, come_back, treat_brought}
use Rattle.step_table.specs.Background.{turn}
use Rattle.step_table.specs.ServerRows.{on_take, on_report, on_commit, on_restart, on_tend, left_with, restarts, reported, back}
use Rattle.run_laws.proofs.Acts.{Fit, fit_append, AnyAct, any_fit, KeptByActs, acts_keep, take_ask, take_connect, take_flush, take_drop, take_purged, take_deleted, row_keeps, turn_keeps, commit_keeps, restart_keeps}
use Rattle.run_laws.proofs.Serving.{ServerGives}

-- the acts of each rule fit, in whatever state
pub record AlwaysFit (F : Server → Act → Type 0) : Type 0 where
  pub held : (s : Server) (x : ℕ) → F s (TakeHeld x)
  pub treats : (s : Server) (a : Asked) → Fit F s (treat false s a)
  pub comes : (s : Server) (x : ℕ) (said : List Claim) (flushes : List FlushMsg) → Fit F s (come_back s x said flushes)
  pub flushes : (s : Server) (x : ℕ) (f : FlushMsg) → Fit F s (on_flush x s f)
  pub drops : (s : Server) (x : ℕ) (ino : Ino) → Fit F s (on_drop x s ino)
  pub reports : (s : Server) (m : ToServer) → Fit F s (reported s m)
  pub restarts : (s : Server) → Fit F s (restarts s)
  pub turns : (s : Server) → IfSome (turn s) (Fit F s)

pub any_always : AlwaysFit AnyAct
any_always = record {
  held = λ s x. tt;
  treats = λ s a. any_fit s (treat false s a);
  comes = λ s x said flushes. any_fit s (come_back s x said flushes);
  flushes = λ s x f. any_fit s (on_flush x s f);
  drops = λ s x ino. any_fit s (on_drop x s ino);
  reports = λ s m. any_fit s (reported s m);
  restarts = λ s. any_fit s (restarts s);
  turns = λ s. some s (turn s);
}
  where
    some : (s : Server) (o : Option (List Act)) → IfSome o (Fit AnyAct s)
    some s None = tt
    some s (Some list) = any_fit s list

pub anew_fit : {F : Server → Act → Type 0} → AlwaysFit F → (s : Server) (list : List Asked) → Fit F s (each (λ t (a : Asked). TakeHeld a.client ∷ treat false (act t (TakeHeld a.client)) a) s list)
anew_fit fits s [] = tt
anew_fit {F} fits s (a ∷ list) =
    let t = act s (TakeHeld a.client) in
    fit_append F s (TakeHeld a.client ∷ treat false t a) (each (λ t (a : Asked). TakeHeld a.client ∷ treat false (act t (TakeHeld a.client)) a) (acts s (TakeHeld a.client ∷ treat false t a)) list)
    (fits.held s a.client, fits.treats t a)
    (anew_fit fits (acts s (TakeHeld a.client ∷ treat false t a)) list)

-- `P` holds between rows, `Q` between the acts of a row that began in a state, and `After` of such a row; a restart or not
pub record KeptByServer (F : Server → Act → Type 0) (P : Server → Type 0) (Q : Bool → Server → Server → Type 0) (After : Bool → Server → Row Server → Type 0) : Type 0 where
  pub begins : (s : Server) → P s → Q false s s
  pub one : (b : Bool) (first s : Server) (a : Act) → F s a → Q b first s → Q b first (act s a)
  pub takes : (first s : Server) (hand : Option Asked) → Q false first s → Q false first (record s { hand = hand })
  pub accepts : (first s : Server) (client conn : ℕ) → Q false first s → Q false first (welcome (connected s client conn) client conn)
  pub durable : (s : Server) → P s → Q false s (record s { durable = length s.entries })
  pub survives : (s : Server) (k : ℕ) → nat_le k (buffered s) ≡ true → P s → Q true s (left_with s (s.durable + k))
  pub hands : (b : Bool) (first s : Server) → Q b first s → After b first (hand_out s)
  pub blind : (b : Bool) (first : Server) (r : Row Server) (e : List Effect) → After b first r → After b first (record r { effects = e })

pub server_gives : {F : Server → Act → Type 0} {P : Server → Type 0} {Q : Bool → Server → Server → Type 0} {After : Bool → Server → Row Server → Type 0} → AlwaysFit F → KeptByServer F P Q After → ServerGives P After
server_gives {F} {P} {Q} {After} fits k = record { takes = takes; reports = reports; commits = commits; restarts = restarted; tends = tends }
  where
    by_acts : (b : Bool) (first : Server) → KeptByActs F (Q b first) (After b first)
    by_acts b first = record { one = λ s a fit holds. k.one b first s a fit holds; hands = k.hands b first; anew = λ s holds. anew_fit fits s s.held }

    in_hand : (first s : Server) (o : Option Asked) → Q false first s → Q false first (take_in_brought s o)
    in_hand first s None holds = holds
    in_hand first s (Some a) holds = k.takes first s (hand_for s a) holds

    came : (s : Server) (client conn : ℕ) (said : List Claim) (flushes : List FlushMsg) (o : Option Asked) → P s → Q false s (back s client conn said flushes o)
    came s client conn said flushes o holds = in_hand s _ o (k.accepts s (acts s (come_back s client said flushes)) client conn (acts_keep (by_acts false s).one (come_back s client said flushes) s (fits.comes s client said flushes) (k.begins s holds)))

    brought_fit : (s : Server) (o : Option Asked) → Fit F s (treat_brought s o)
    brought_fit s None = tt
    brought_fit s (Some a) = fits.treats s a

    takes : (s : Server) (client : ℕ) (m : ToServer) → P s → After false s (on_take s client m)
    takes s client (Connect conn said flushes asked) holds = take_connect (by_acts false s) s client conn said flushes asked (k.begins s holds) (λ above.
        (came s client conn said flushes (brought client asked) holds, brought_fit (back s client conn said flushes (brought client asked)) (brought client asked)))
    takes s client (Ask conn tid asked) holds = take_ask (by_acts false s) s client conn tid asked (k.begins s holds) (λ is. (k.takes s s (hand_for s (asked_by client tid asked)) (k.begins s holds), fits.treats (take_in s (asked_by client tid asked)) (asked_by client tid asked)))
    takes s client (Flush conn f) holds = take_flush (by_acts false s) s client conn f (k.begins s holds) (fits.flushes s client f)
    takes s client (DropRead conn ino) holds = take_drop (by_acts false s) s client conn ino (k.begins s holds) (fits.drops s client ino)
    takes s client (Purged id) holds = take_purged (by_acts false s) s client id (k.begins s holds)
    takes s client (Deleted ino) holds = take_deleted (by_acts false s) s client ino (k.begins s holds)

    reports : (s : Server) (m : ToServer) → P s → After false s (on_report s m)
    reports s m holds = row_keeps (by_acts false s) s (reported s m) (fits.reports s m) (k.begins s holds)

    commits : (s : Server) → P s → IfSome (on_commit s) (After false s)
    commits s holds = commit_keeps (k.blind false s) (k.hands false s) s (k.durable s holds)

    restarted : (s : Server) (n : ℕ) → P s → IfSome (on_restart s n) (After true s)
    restarted s n holds = restart_keeps (k.blind true s) (by_acts true s) s n (λ fit. (k.survives s n fit holds, fits.restarts (left_with s (s.durable + n))))

    tends : (s : Server) → P s → IfSome (on_tend s) (After false s)
    tends s holds = turn_keeps (by_acts false s) s (fits.turns s) (k.begins s holds)

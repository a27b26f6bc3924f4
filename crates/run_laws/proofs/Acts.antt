-- What each act of the server keeps, and each change between acts, each of its rows keeps.
use Rattle.std.proofs.Common.{◌≡◌, ℕ, zero, suc, ◌+◌, List, [], ◌∷◌, ◌++◌, Bool, true, false, cond, Option, None, Some, refl, IfSome}
use Rattle.std.specs.Prelude.{◌&&◌, nat_lt, nat_le, length, option_map}
use Rattle.std.specs.List.{list_all, list_any}
use Rattle.snap_ids.specs.declared.id.Ino.{Ino}
use Rattle.snap_ids.specs.declared.id.SnapId.{SnapId}
use Rattle.plain_types.specs.declared.change.Effect.{Effect}
use Rattle.plain_types.specs.declared.entry.Entry.{Entry}
use Rattle.plain_types.specs.declared.message.Claim.{Claim}
use Rattle.plain_types.specs.declared.message.FlushMsg.{FlushMsg}
use Rattle.plain_types.specs.declared.message.ToServer.TheVariants.{Connect, Ask, Flush, DropRead, Purged, Deleted}
use Rattle.plain_types.specs.declared.request.Request.{Request}
use Rattle.step_table.specs.Messages.{to_server_fits}
use Rattle.step_table.specs.Row.{Row}
use Rattle.step_table.specs.ServerState.{Asked, Server, Changed, tell, is_current, connection, buffered}
use Rattle.step_table.specs.Acts.{Act, act, acts, hand_out, notices, tell_changed, changed_files}
use Rattle.step_table.specs.Requests.{opens, decide_anew, then_held, treat}
use Rattle.step_table.specs.Flushes.{knows_file, knows_asked, knows_brought, on_flush, on_drop, asked_by, brought, take_in, may_connect, treat_brought}
use Rattle.step_table.specs.Background.{turn}
use Rattle.step_table.specs.ServerRows.{row_of, ask, back, connect_with, on_take, on_commit, committed, takes_effect, left_with, restarts, restarted, on_restart, on_tend}

-- each act of a list fits the state in which it is made
abbrev pub Fit : (Server → Act → Type 0) → Server → List Act → Type 0
Fit F s [] = Unit {0}
Fit F s (a ∷ list) = F s a × Fit F (act s a) list

-- every act fits
abbrev pub AnyAct : Server → Act → Type 0
AnyAct s a = Unit {0}

pub any_fit : (s : Server) (list : List Act) → Fit AnyAct s list
any_fit s [] = tt
any_fit s (a ∷ list) = (tt, any_fit (act s a) list)

pub fit_append : (F : Server → Act → Type 0) (s : Server) (xs ys : List Act) → Fit F s xs → Fit F (acts s xs) ys → Fit F s (xs ++ ys)
fit_append F s [] ys fit more = more
fit_append F s (x ∷ xs) ys fit more = (fit.0, fit_append F (act s x) xs ys fit.1 more)

-- what holds between acts is kept by each that fits; it gives what holds after the row; and the held requests may be
-- decided anew
pub record KeptByActs (F : Server → Act → Type 0) (Q : Server → Type 0) (After : Row Server → Type 0) : Type 0 where
  pub one : (s : Server) (a : Act) → F s a → Q s → Q (act s a)
  pub hands : (s : Server) → Q s → After (hand_out s)
  pub anew : (s : Server) → Q s → Fit F s (decide_anew s)

pub acts_keep : {F : Server → Act → Type 0} {Q : Server → Type 0} → ((s : Server) (a : Act) → F s a → Q s → Q (act s a)) → (list : List Act) (s : Server) → Fit F s list → Q s → Q (acts s list)
acts_keep one [] s fit holds = holds
acts_keep one (a ∷ list) s fit holds = acts_keep one list (act s a) fit.1 (one s a fit.0 holds)

-- what telling keeps, the notices of an entry keep
pub notices_keep : (P : Server → Type 0) → ((s : Server) (c : ℕ) (inos : List Ino) → P s → P (tell s c (Changed inos))) → (before : List Entry) (clients : List ℕ) (s : Server) → P s → P (notices before s clients)
notices_keep P tells before [] s holds = holds
notices_keep P tells before (c ∷ clients) s holds = notices_keep P tells before clients _ (told (changed_files before s c))
  where
    told : (inos : List Ino) → P (tell_changed s c inos)
    told [] = holds
    told (ino ∷ inos) = tells s c (ino ∷ inos) holds

pub if_some : {X : Type 0} (Q : X → Type 0) (b : Bool) (x : X) → (b ≡ true → Q x) → IfSome (cond b (Some x) None) Q
if_some Q true x holds = holds refl
if_some Q false x holds = tt

-- acts and the rounds over the held requests after them
held_fit : {F : Server → Act → Type 0} {Q : Server → Type 0} {After : Row Server → Type 0} → KeptByActs F Q After → (most : ℕ) (s : Server) (list : List Act) → Fit F s list → Q s → Fit F s (then_held most s list)
held_fit k zero s list fit holds = fit
held_fit {F} {Q} k (suc most) s list fit holds =
    let more = acts_keep k.one list s fit holds in
    by_test (list_any opens list) (held_fit k most (acts s list) (decide_anew (acts s list)) (k.anew (acts s list) more) more)
  where
    by_test : (b : Bool) → Fit F (acts s list) (then_held most (acts s list) (decide_anew (acts s list))) → Fit F s (elim b [ false ↦ list | true ↦ list ++ then_held most (acts s list) (decide_anew (acts s list)) ])
    by_test false rest = fit
    by_test true rest = fit_append F s list (then_held most (acts s list) (decide_anew (acts s list))) fit rest

pub row_keeps : {F : Server → Act → Type 0} {Q : Server → Type 0} {After : Row Server → Type 0} → KeptByActs F Q After → (s : Server) (list : List Act) → Fit F s list → Q s → After (row_of s list)
row_keeps k s list fit holds =
    let all = then_held (2 + length s.held) s list in
    k.hands (acts s all) (acts_keep k.one all s (held_fit k (2 + length s.held) s list fit holds) holds)

pub connect_keeps : {F : Server → Act → Type 0} {Q : Server → Type 0} {After : Row Server → Type 0} → KeptByActs F Q After → (s : Server) (asked : Option Asked) → Fit F s (treat_brought s asked) → Q s → After (connect_with s asked)
connect_keeps k s asked fit holds =
    let now = acts s (treat_brought s asked) in
    let then = acts_keep k.one (treat_brought s asked) s fit holds in
    let all = then_held (1 + length now.held) now (decide_anew now) in
    k.hands (acts now all) (acts_keep k.one all now (held_fit k (1 + length now.held) now (decide_anew now) (k.anew now then) then) then)

if_row : (After : Row Server → Type 0) (b : Bool) (x y : Row Server) → (b ≡ true → After x) → After y → After (cond b x y)
if_row After true x y here other = here refl
if_row After false x y here other = other

pub first_true : (a b : Bool) → (a && b) ≡ true → a ≡ true
first_true true b is = refl
first_true false b is = is

-- what a client sends is taken
pub take_ask : {F : Server → Act → Type 0} {Q : Server → Type 0} {After : Row Server → Type 0} → KeptByActs F Q After → (s : Server) (client conn tid : ℕ) (asked : Request) → Q s
    → (is_current s client conn ≡ true → Q (take_in s (asked_by client tid asked)) × Fit F (take_in s (asked_by client tid asked)) (treat false (take_in s (asked_by client tid asked)) (asked_by client tid asked)))
    → After (on_take s client (Ask conn tid asked))
take_ask {F} {Q} {After} k s client conn tid asked holds asks = if_row After (is_current s client conn && knows_asked s asked) _ _ (λ may. taken (asks (first_true (is_current s client conn) (knows_asked s asked) may))) (k.hands s holds)
  where
    taken : Q (take_in s (asked_by client tid asked)) × Fit F (take_in s (asked_by client tid asked)) (treat false (take_in s (asked_by client tid asked)) (asked_by client tid asked)) → After (ask s (asked_by client tid asked))
    taken both = row_keeps k (take_in s (asked_by client tid asked)) (treat false (take_in s (asked_by client tid asked)) (asked_by client tid asked)) both.1 both.0

pub take_connect : {F : Server → Act → Type 0} {Q : Server → Type 0} {After : Row Server → Type 0} → KeptByActs F Q After → (s : Server) (client conn : ℕ) (claims : List Claim) (flushes : List FlushMsg) (asked : Option (ℕ × Request)) → Q s
    → (nat_lt (connection s client) conn ≡ true → Q (back s client conn claims flushes (brought client asked)) × Fit F (back s client conn claims flushes (brought client asked)) (treat_brought (back s client conn claims flushes (brought client asked)) (brought client asked)))
    → After (on_take s client (Connect conn claims flushes asked))
take_connect {F} {Q} {After} k s client conn claims flushes asked holds connects =
    if_row After (to_server_fits (Connect conn claims flushes asked)) _ _ (λ fine.
    if_row After (may_connect s client conn claims flushes (brought client asked)) _ _ (λ may. taken (connects (above may))) (k.hands s holds))
    (k.hands s holds)
  where
    above : may_connect s client conn claims flushes (brought client asked) ≡ true → nat_lt (connection s client) conn ≡ true
    above may =
        let a = nat_lt (connection s client) conn in
        let b = list_all (λ (x : Claim). knows_file s x.ino) claims in
        let d = list_all (λ (f : FlushMsg). knows_file s f.ino) flushes in
        first_true a b (first_true (a && b) d (first_true (a && b && d) (knows_brought s (brought client asked)) may))

    taken : Q (back s client conn claims flushes (brought client asked)) × Fit F (back s client conn claims flushes (brought client asked)) (treat_brought (back s client conn claims flushes (brought client asked)) (brought client asked)) → After (connect_with (back s client conn claims flushes (brought client asked)) (brought client asked))
    taken both = connect_keeps k (back s client conn claims flushes (brought client asked)) (brought client asked) both.1 both.0

pub take_flush : {F : Server → Act → Type 0} {Q : Server → Type 0} {After : Row Server → Type 0} → KeptByActs F Q After → (s : Server) (client conn : ℕ) (f : FlushMsg) → Q s → Fit F s (on_flush client s f) → After (on_take s client (Flush conn f))
take_flush {F} {Q} {After} k s client conn f holds fit =
    if_row After (to_server_fits (Flush conn f)) _ _ (λ fine. if_row After (is_current s client conn && knows_file s f.ino) _ _ (λ may. row_keeps k s (on_flush client s f) fit holds) (k.hands s holds)) (k.hands s holds)

pub take_drop : {F : Server → Act → Type 0} {Q : Server → Type 0} {After : Row Server → Type 0} → KeptByActs F Q After → (s : Server) (client conn : ℕ) (ino : Ino) → Q s → Fit F s (on_drop client s ino) → After (on_take s client (DropRead conn ino))
take_drop {F} {Q} {After} k s client conn ino holds fit =
    if_row After (is_current s client conn) _ _ (λ may. row_keeps k s (on_drop client s ino) fit holds) (k.hands s holds)

pub take_purged : {F : Server → Act → Type 0} {Q : Server → Type 0} {After : Row Server → Type 0} → KeptByActs F Q After → (s : Server) (client : ℕ) (id : SnapId) → Q s → After (on_take s client (Purged id))
take_purged {F} {Q} {After} k s client id holds = if_row After (to_server_fits (Purged id)) _ _ (λ fine. k.hands s holds) (k.hands s holds)

pub take_deleted : {F : Server → Act → Type 0} {Q : Server → Type 0} {After : Row Server → Type 0} → KeptByActs F Q After → (s : Server) (client : ℕ) (ino : Ino) → Q s → After (on_take s client (Deleted ino))
take_deleted k s client ino holds = k.hands s holds

-- its turn
pub turn_keeps : {F : Server → Act → Type 0} {Q : Server → Type 0} {After : Row Server → Type 0} → KeptByActs F Q After → (s : Server) → IfSome (turn s) (Fit F s) → Q s → IfSome (on_tend s) After
turn_keeps {F} {Q} {After} k s fit holds = by_turn (turn s) fit
  where
    by_turn : (o : Option (List Act)) → IfSome o (Fit F s) → IfSome (option_map (row_of s) o) After
    by_turn None fit = tt
    by_turn (Some list) fit = row_keeps k s list fit holds

-- for what says nothing of a row's effects
pub commit_keeps : {Q : Server → Type 0} {After : Row Server → Type 0} → ((r : Row Server) (e : List Effect) → After r → After (record r { effects = e })) → ((s : Server) → Q s → After (hand_out s)) → (s : Server) → Q (record s { durable = length s.entries }) → IfSome (on_commit s) After
commit_keeps {Q} {After} blind hands s holds =
    if_some After (nat_lt 0 (buffered s)) (committed s) (λ some. blind (hand_out (record s { durable = length s.entries })) (takes_effect s (length s.entries)) (hands (record s { durable = length s.entries }) holds))

pub restart_keeps : {F : Server → Act → Type 0} {Q : Server → Type 0} {After : Row Server → Type 0} → ((r : Row Server) (e : List Effect) → After r → After (record r { effects = e })) → KeptByActs F Q After → (s : Server) (k : ℕ)
    → (nat_le k (buffered s) ≡ true → Q (left_with s (s.durable + k)) × Fit F (left_with s (s.durable + k)) (restarts (left_with s (s.durable + k)))) → IfSome (on_restart s k) After
restart_keeps {F} {Q} {After} blind kept s k survives =
    if_some After (nat_le k (buffered s)) (restarted s (s.durable + k)) (λ fits. blind (row_of (left_with s (s.durable + k)) (restarts (left_with s (s.durable + k)))) (takes_effect s (s.durable + k)) (left (survives fits)))
  where
    left : Q (left_with s (s.durable + k)) × Fit F (left_with s (s.durable + k)) (restarts (left_with s (s.durable + k))) → After (row_of (left_with s (s.durable + k)) (restarts (left_with s (s.durable + k))))
    left both = row_keeps kept (left_with s (s.durable + k)) (restarts (left_with s (s.durable + k))) both.1 both.0

-- What each act of the server keeps of a client's view, and a few more changes, each of the rows keeps.
use Rattle.std.proofs.Common.{◌≡◌, ℕ, ◌+◌, List, [], ◌∷◌, true, false, Option, None, Some, IfSome}
use Rattle.std.specs.Prelude.{◌==◌, nat_le, length}
use Rattle.snap_ids.specs.declared.id.Ino.{Ino}
use Rattle.plain_types.specs.declared.message.Claim.{Claim}
use Rattle.plain_types.specs.declared.message.FlushMsg.{FlushMsg}
use Rattle.plain_types.specs.declared.message.FromStore.{FromStore}
use Rattle.plain_types.specs.declared.message.ToClient.{ToClient}
use Rattle.plain_types.specs.declared.message.ToServer.{ToServer}
use Rattle.plain_types.specs.declared.message.ToServer.TheVariants.{Connect, Ask, Flush, DropRead, Purged, Deleted}
use Rattle.plain_types.specs.declared.request.Request.{Request}
use Rattle.step_table.specs.ServerState.{Server, is_current, buffered, welcome}
use Rattle.step_table.specs.Acts.{Act, act, acts, hand_out}
use Rattle.step_table.specs.Requests.{treat, decide_anew}
use Rattle.step_table.specs.Flushes.{on_flush as flush_acts, on_drop, asked_by, brought, take_in, take_in_brought, connected, come_back, treat_brought}
use Rattle.step_table.specs.Background.{turn}
use Rattle.step_table.specs.ServerRows.{on_take, on_report, on_commit, on_restart, on_tend, left_with, restarts, reported}
use Rattle.step_table.specs.ClientState.{Client}
use Rattle.step_table.specs.ClientLines.{on_op, on_flush}
use Rattle.step_table.specs.ClientTakes.{on_told, on_stored}
use Rattle.run_laws.specs.Links.{View}
use Rattle.run_laws.proofs.Acts.{Fit, KeptByActs, acts_keep, take_ask, take_connect, take_flush, take_drop, take_purged, take_deleted, row_keeps, turn_keeps, commit_keeps, restart_keeps}
use Rattle.run_laws.proofs.Views.{Client's, Server's, KeptByRows}

-- a client that has connected, and the request that it brought along in the hand
abbrev pub accepted : Server → ℕ → ℕ → Option (ℕ × Request) → Server
accepted s x conn asked = take_in_brought (welcome (connected s x conn) x conn) (brought x asked)

-- what A holds of before, I holds of after; an act that fits
pub record KeptViews (F : ℕ → Client → Server → Act → Type 0) (A I : View) : Type 0 where
  pub op : (n : ℕ) (c : Client) (up : List ToServer) (down : List ToClient) (s : Server) → A n c up down s → IfSome (on_op c) (Client's I n up down s)
  pub flush : (n : ℕ) (c : Client) (up : List ToServer) (down : List ToClient) (s : Server) → A n c up down s → IfSome (on_flush c) (Client's I n up down s)
  pub told : (n : ℕ) (c : Client) (up : List ToServer) (m : ToClient) (down : List ToClient) (s : Server) → A n c up (m ∷ down) s → Client's I n up down s (on_told c m)
  pub stored : (n : ℕ) (c : Client) (m : FromStore) (up : List ToServer) (down : List ToClient) (s : Server) → A n c up down s → Client's I n up down s (on_stored c m)
  pub one : (n : ℕ) (c : Client) (up : List ToServer) (down : List ToClient) (s : Server) (a : Act) → F n c s a → A n c up down s → I n c up down (act s a)
  pub pops : (n : ℕ) (c : Client) (m : ToServer) (up : List ToServer) (down : List ToClient) (s : Server) → A n c (m ∷ up) down s → I n c up down s
  pub accepts : (n : ℕ) (c : Client) (conn : ℕ) (said : List Claim) (flushes : List FlushMsg) (asked : Option (ℕ × Request)) (up : List ToServer) (down : List ToClient) (s : Server) → A n c (Connect conn said flushes asked ∷ up) down s → I n c up down (accepted s n conn asked)
  pub asks : (n : ℕ) (c : Client) (conn tid : ℕ) (asked : Request) (up : List ToServer) (down : List ToClient) (s : Server) → is_current s n conn ≡ true → A n c (Ask conn tid asked ∷ up) down s → I n c up down (take_in s (asked_by n tid asked))
  pub asks_other : (n x : ℕ) (c : Client) (tid : ℕ) (asked : Request) (up : List ToServer) (down : List ToClient) (s : Server) → (x == n) ≡ false → A n c up down s → I n c up down (take_in s (asked_by x tid asked))
  pub accepts_other : (n x : ℕ) (c : Client) (conn : ℕ) (asked : Option (ℕ × Request)) (up : List ToServer) (down : List ToClient) (s : Server) → (x == n) ≡ false → A n c up down s → I n c up down (accepted s x conn asked)
  pub hands : (n : ℕ) (c : Client) (up : List ToServer) (down : List ToClient) (s : Server) → A n c up down s → Server's I n c up down (hand_out s)
  pub durable : (n : ℕ) (c : Client) (up : List ToServer) (down : List ToClient) (s : Server) → A n c up down s → I n c up down (record s { durable = length s.entries })
  pub survives : (n : ℕ) (c : Client) (up : List ToServer) (down : List ToClient) (s : Server) (k : ℕ) → nat_le k (buffered s) ≡ true → A n c up down s → I n c up down (left_with s (s.durable + k))

-- the acts of each rule fit
pub record RulesFit (F : ℕ → Client → Server → Act → Type 0) (A : View) : Type 0 where
  pub anew : (n : ℕ) (c : Client) (up : List ToServer) (down : List ToClient) (s : Server) → A n c up down s → Fit (F n c) s (decide_anew s)
  pub asks : (n : ℕ) (c : Client) (conn tid : ℕ) (asked : Request) (up : List ToServer) (down : List ToClient) (s : Server) → is_current s n conn ≡ true → A n c (Ask conn tid asked ∷ up) down s → Fit (F n c) (take_in s (asked_by n tid asked)) (treat false (take_in s (asked_by n tid asked)) (asked_by n tid asked))
  pub asks_other : (n x : ℕ) (c : Client) (tid : ℕ) (asked : Request) (up : List ToServer) (down : List ToClient) (s : Server) → (x == n) ≡ false → A n c up down s → Fit (F n c) (take_in s (asked_by x tid asked)) (treat false (take_in s (asked_by x tid asked)) (asked_by x tid asked))
  pub brings : (n : ℕ) (c : Client) (conn : ℕ) (said : List Claim) (flushes : List FlushMsg) (asked : Option (ℕ × Request)) (up : List ToServer) (down : List ToClient) (s : Server) → A n c (Connect conn said flushes asked ∷ up) down s → Fit (F n c) (accepted s n conn asked) (treat_brought (accepted s n conn asked) (brought n asked))
  pub brings_other : (n x : ℕ) (c : Client) (conn : ℕ) (asked : Option (ℕ × Request)) (up : List ToServer) (down : List ToClient) (s : Server) → (x == n) ≡ false → A n c up down s → Fit (F n c) (accepted s x conn asked) (treat_brought (accepted s x conn asked) (brought x asked))
  pub comes : (n x : ℕ) (c : Client) (said : List Claim) (flushes : List FlushMsg) (s : Server) → Fit (F n c) s (come_back s x said flushes)
  pub flushes : (n x : ℕ) (c : Client) (f : FlushMsg) (s : Server) → Fit (F n c) s (flush_acts x s f)
  pub drops : (n x : ℕ) (c : Client) (ino : Ino) (s : Server) → Fit (F n c) s (on_drop x s ino)
  pub reports : (n : ℕ) (c : Client) (m : ToServer) (s : Server) → Fit (F n c) s (reported s m)
  pub restarts : (n : ℕ) (c : Client) (s : Server) → Fit (F n c) s (restarts s)
  pub turns : (n : ℕ) (c : Client) (up : List ToServer) (down : List ToClient) (s : Server) → A n c up down s → IfSome (turn s) (Fit (F n c) s)

abbrev pub AnyOf : ℕ → Client → Server → Act → Type 0
AnyOf n c s a = Unit {0}

pub any_of : (n : ℕ) (c : Client) (s : Server) (list : List Act) → Fit (AnyOf n c) s list
any_of n c s [] = tt
any_of n c s (a ∷ list) = (tt, any_of n c (act s a) list)

pub all_fit : (A : View) → RulesFit AnyOf A
all_fit A = record {
  anew = λ n c up down s holds. any_of n c s (decide_anew s);
  asks = λ n c conn tid asked up down s is holds. any_of n c (take_in s (asked_by n tid asked)) (treat false (take_in s (asked_by n tid asked)) (asked_by n tid asked));
  asks_other = λ n x c tid asked up down s other holds. any_of n c (take_in s (asked_by x tid asked)) (treat false (take_in s (asked_by x tid asked)) (asked_by x tid asked));
  brings = λ n c conn said flushes asked up down s holds. any_of n c (accepted s n conn asked) (treat_brought (accepted s n conn asked) (brought n asked));
  brings_other = λ n x c conn asked up down s other holds. any_of n c (accepted s x conn asked) (treat_brought (accepted s x conn asked) (brought x asked));
  comes = λ n x c said flushes s. any_of n c s (come_back s x said flushes);
  flushes = λ n x c f s. any_of n c s (flush_acts x s f);
  drops = λ n x c ino s. any_of n c s (on_drop x s ino);
  reports = λ n c m s. any_of n c s (reported s m);
  restarts = λ n c s. any_of n c s (restarts s);
  turns = λ n c up down s holds. some n c s (turn s);
}
  where
    some : (n : ℕ) (c : Client) (s : Server) (o : Option (List Act)) → IfSome o (Fit (AnyOf n c) s)
    some n c s None = tt
    some n c s (Some list) = any_of n c s list

-- two at once, and with more known before
pub both : {F : ℕ → Client → Server → Act → Type 0} {A I J : View} → KeptViews F A I → KeptViews F A J → KeptViews F A (λ n c up down s. I n c up down s × J n c up down s)
both {F} {A} {I} {J} one two = record {
  op = λ n c up down s a. if_both (on_op c) (Client's I n up down s) (Client's J n up down s) (one.op n c up down s a) (two.op n c up down s a);
  flush = λ n c up down s a. if_both (on_flush c) (Client's I n up down s) (Client's J n up down s) (one.flush n c up down s a) (two.flush n c up down s a);
  told = λ n c up m down s a. (one.told n c up m down s a, two.told n c up m down s a);
  stored = λ n c m up down s a. (one.stored n c m up down s a, two.stored n c m up down s a);
  one = λ n c up down s x fit a. (one.one n c up down s x fit a, two.one n c up down s x fit a);
  pops = λ n c m up down s a. (one.pops n c m up down s a, two.pops n c m up down s a);
  accepts = λ n c conn said flushes asked up down s a. (one.accepts n c conn said flushes asked up down s a, two.accepts n c conn said flushes asked up down s a);
  asks = λ n c conn tid asked up down s is a. (one.asks n c conn tid asked up down s is a, two.asks n c conn tid asked up down s is a);
  asks_other = λ n x c tid asked up down s other a. (one.asks_other n x c tid asked up down s other a, two.asks_other n x c tid asked up down s other a);
  accepts_other = λ n x c conn asked up down s other a. (one.accepts_other n x c conn asked up down s other a, two.accepts_other n x c conn asked up down s other a);
  hands = λ n c up down s a. (one.hands n c up down s a, two.hands n c up down s a);
  durable = λ n c up down s a. (one.durable n c up down s a, two.durable n c up down s a);
  survives = λ n c up down s k fits a. (one.survives n c up down s k fits a, two.survives n c up down s k fits a);
}
  where
    if_both : {X : Type 0} (o : Option X) (P Q : X → Type 0) → IfSome o P → IfSome o Q → IfSome o (λ x. P x × Q x)
    if_both None P Q p q = tt
    if_both (Some x) P Q p q = (p, q)

pub given : {F G : ℕ → Client → Server → Act → Type 0} {A B I : View} → ((n : ℕ) (c : Client) (up : List ToServer) (down : List ToClient) (s : Server) → B n c up down s → A n c up down s) → ((n : ℕ) (c : Client) (s : Server) (a : Act) → G n c s a → F n c s a) → KeptViews F A I → KeptViews G B I
given {F} {G} {A} {B} {I} as_a fits kept = record {
  op = λ n c up down s b. kept.op n c up down s (as_a n c up down s b);
  flush = λ n c up down s b. kept.flush n c up down s (as_a n c up down s b);
  told = λ n c up m down s b. kept.told n c up m down s (as_a n c up (m ∷ down) s b);
  stored = λ n c m up down s b. kept.stored n c m up down s (as_a n c up down s b);
  one = λ n c up down s x fit b. kept.one n c up down s x (fits n c s x fit) (as_a n c up down s b);
  pops = λ n c m up down s b. kept.pops n c m up down s (as_a n c (m ∷ up) down s b);
  accepts = λ n c conn said flushes asked up down s b. kept.accepts n c conn said flushes asked up down s (as_a n c (Connect conn said flushes asked ∷ up) down s b);
  asks = λ n c conn tid asked up down s is b. kept.asks n c conn tid asked up down s is (as_a n c (Ask conn tid asked ∷ up) down s b);
  asks_other = λ n x c tid asked up down s other b. kept.asks_other n x c tid asked up down s other (as_a n c up down s b);
  accepts_other = λ n x c conn asked up down s other b. kept.accepts_other n x c conn asked up down s other (as_a n c up down s b);
  hands = λ n c up down s b. kept.hands n c up down s (as_a n c up down s b);
  durable = λ n c up down s b. kept.durable n c up down s (as_a n c up down s b);
  survives = λ n c up down s k fits_it b. kept.survives n c up down s k fits_it (as_a n c up down s b);
}

pub rows_of_acts : {F : ℕ → Client → Server → Act → Type 0} (I : View) → KeptViews F I I → RulesFit F I → KeptByRows I
rows_of_acts {F} I kept rules = record {
  op = kept.op;
  flush = kept.flush;
  told = kept.told;
  stored = kept.stored;
  own = own;
  other = other;
  reported = reports;
  committed = committed;
  tended = tended;
  restarted = restarted;
}
  where
    by_acts : (n : ℕ) (c : Client) (up : List ToServer) (down : List ToClient) → KeptByActs (F n c) (I n c up down) (Server's I n c up down)
    by_acts n c up down = record { one = λ s a fit holds. kept.one n c up down s a fit holds; hands = kept.hands n c up down; anew = rules.anew n c up down }

    own : (n : ℕ) (c : Client) (m : ToServer) (up : List ToServer) (down : List ToClient) (s : Server) → I n c (m ∷ up) down s → Server's I n c up down (on_take s n m)
    own n c (Connect conn said flushes asked) up down s holds = take_connect (by_acts n c up down) s n conn said flushes asked (kept.pops n c (Connect conn said flushes asked) up down s holds) (λ above.
        (kept.accepts n c conn said flushes asked up down (acts s (come_back s n said flushes)) came, rules.brings n c conn said flushes asked up down (acts s (come_back s n said flushes)) came))
      where
        came : I n c (Connect conn said flushes asked ∷ up) down (acts s (come_back s n said flushes))
        came = acts_keep (by_acts n c (Connect conn said flushes asked ∷ up) down).one (come_back s n said flushes) s (rules.comes n n c said flushes s) holds
    own n c (Ask conn tid asked) up down s holds = take_ask (by_acts n c up down) s n conn tid asked (kept.pops n c (Ask conn tid asked) up down s holds) (λ is.
        (kept.asks n c conn tid asked up down s is holds, rules.asks n c conn tid asked up down s is holds))
    own n c (Flush conn f) up down s holds = take_flush (by_acts n c up down) s n conn f (kept.pops n c (Flush conn f) up down s holds) (rules.flushes n n c f s)
    own n c (DropRead conn ino) up down s holds = take_drop (by_acts n c up down) s n conn ino (kept.pops n c (DropRead conn ino) up down s holds) (rules.drops n n c ino s)
    own n c (Purged id) up down s holds = take_purged (by_acts n c up down) s n id (kept.pops n c (Purged id) up down s holds)
    own n c (Deleted ino) up down s holds = take_deleted (by_acts n c up down) s n ino (kept.pops n c (Deleted ino) up down s holds)

    other : (n x : ℕ) (c : Client) (m : ToServer) (up : List ToServer) (down : List ToClient) (s : Server) → (x == n) ≡ false → I n c up down s → Server's I n c up down (on_take s x m)
    other n x c (Connect conn said flushes asked) up down s is_not holds = take_connect (by_acts n c up down) s x conn said flushes asked holds (λ above.
        (kept.accepts_other n x c conn asked up down (acts s (come_back s x said flushes)) is_not came, rules.brings_other n x c conn asked up down (acts s (come_back s x said flushes)) is_not came))
      where
        came : I n c up down (acts s (come_back s x said flushes))
        came = acts_keep (by_acts n c up down).one (come_back s x said flushes) s (rules.comes n x c said flushes s) holds
    other n x c (Ask conn tid asked) up down s is_not holds = take_ask (by_acts n c up down) s x conn tid asked holds (λ is.
        (kept.asks_other n x c tid asked up down s is_not holds, rules.asks_other n x c tid asked up down s is_not holds))
    other n x c (Flush conn f) up down s is_not holds = take_flush (by_acts n c up down) s x conn f holds (rules.flushes n x c f s)
    other n x c (DropRead conn ino) up down s is_not holds = take_drop (by_acts n c up down) s x conn ino holds (rules.drops n x c ino s)
    other n x c (Purged id) up down s is_not holds = take_purged (by_acts n c up down) s x id holds
    other n x c (Deleted ino) up down s is_not holds = take_deleted (by_acts n c up down) s x ino holds

    reports : (n : ℕ) (c : Client) (m : ToServer) (up : List ToServer) (down : List ToClient) (s : Server) → I n c up down s → Server's I n c up down (on_report s m)
    reports n c m up down s holds = row_keeps (by_acts n c up down) s (reported s m) (rules.reports n c m s) holds

    committed : (n : ℕ) (c : Client) (up : List ToServer) (down : List ToClient) (s : Server) → I n c up down s → IfSome (on_commit s) (Server's I n c up down)
    committed n c up down s holds = commit_keeps {Q = I n c up down} {After = Server's I n c up down} (λ r e after. after) (kept.hands n c up down) s (kept.durable n c up down s holds)

    tended : (n : ℕ) (c : Client) (up : List ToServer) (down : List ToClient) (s : Server) → I n c up down s → IfSome (on_tend s) (Server's I n c up down)
    tended n c up down s holds = turn_keeps (by_acts n c up down) s (rules.turns n c up down s holds) holds

    restarted : (n : ℕ) (c : Client) (up : List ToServer) (down : List ToClient) (s : Server) (k : ℕ) → I n c up down s → IfSome (on_restart s k) (Server's I n c up down)
    restarted n c up down s k holds = restart_keeps (λ r e after. after) (by_acts n c up down) s k (λ fits. (kept.survives n c up down s k fits holds, rules.restarts n c (left_with s (s.durable + k))))

-- Of two clients one holds a file for Write at most, and then the other doesn't hold it, along each run.
use Rattle.std.proofs.Common.{◌≡◌, ◌≤◌, ℕ, ◌+◌, List, [], ◌∷◌, ◌++◌, map, Bool, true, false, true≢false, cond, Option, None, Some, refl, sym, ◌∙◌, subst, IfSome, arith, inl, inr}
use Rattle.std.proofs.lemmas.Bool.Decides.{nat_tests}
use Rattle.std.specs.Prelude.{◌==◌, ◌||◌, ◌&&◌, not, is_some}
use Rattle.std.specs.List.{list_any, list_all}
use Rattle.snap_ids.specs.declared.id.Ino.{Ino}
use Rattle.snap_ids.specs.declared.values.Mode.{Mode}
use Rattle.snap_ids.specs.declared.values.Mode.TheVariants.{Read, Write}
use Rattle.plain_types.specs.declared.answer.Answer.{Answer}
use Rattle.plain_types.specs.declared.answer.Answer.TheVariants as answer
use Rattle.held_files.specs.Files.{is_ino}
use Rattle.plain_types.specs.declared.history.Event.{Event}
use Rattle.plain_types.specs.declared.history.Step.{Step}
use Rattle.plain_types.specs.declared.message.ToClient.{ToClient}
use Rattle.plain_types.specs.declared.message.ToClient.TheVariants.{Reply, Grant}
use Rattle.plain_types.specs.declared.message.ToServer.{ToServer}
use Rattle.plain_types.specs.declared.script.Script.{Script}
use Rattle.step_table.specs.Row.{Row}
use Rattle.step_table.specs.ServerState.{Server, number_of, up_to, all_connected}
use Rattle.step_table.specs.ClientState.{Client, open_request, new_client}
use Rattle.step_table.specs.ClientLines.{on_op, on_flush}
use Rattle.step_table.specs.ServerRows.{on_commit, on_restart, on_tend}
use Rattle.step_table.specs.World.{World, row, after_row, after, client, start, lines_of}
use Rattle.run_laws.specs.Holding.{finds, is_given, WriterIsAlone, OneClientWrites}
use Rattle.run_laws.specs.Tenures.{gone_in}
use Rattle.run_laws.proofs.Sharing.{Covered, CoverBy}
use Rattle.run_laws.specs.Links.{View, EachClient, mine, mail_of}
use Rattle.run_laws.specs.Moments.{steps_of, world_after}
use Rattle.run_laws.proofs.Answering.{Replied, NoReplyToCap, no_reply_to_cap, replied_rows, first_replied}
use Rattle.run_laws.proofs.Buffered.{AllThat, that_front, that_weaker}
use Rattle.run_laws.proofs.Apart.{Few, FewUnless, few_step}
use Rattle.run_laws.proofs.Bounding.{act_clients, BoundAt, Bounded, Rising}
use Rattle.run_laws.proofs.Files.{has_writer, held_not}
use Rattle.run_laws.proofs.Gives.{any_always, server_gives}
use Rattle.run_laws.proofs.Kept.{Tables, tables_gives}
use Rattle.run_laws.proofs.Knowing.{and_true}
use Rattle.run_laws.proofs.Linked.{at_start, each_part, first_link}
use Rattle.run_laws.proofs.Requested.{Asking, asking, first_requested}
use Rattle.run_laws.proofs.Returning.{Clear, has_most}
use Rattle.run_laws.proofs.Serving.{ServerGives, Keeps, NoClient, no_client_step, no_client_start, step_serves}
use Rattle.run_laws.proofs.Shares.{rank, has, shares, found_in, gives, AllGive, or_none, writer_two, one_shares}
use Rattle.run_laws.proofs.Sharers.{Sharer, Before, After, sharers}
use Rattle.run_laws.proofs.Strangers.{Strange, strange_step, strangers}
use Rattle.run_laws.proofs.Taking.{All, rows_of_all, first_all, joined, alone}
use Rattle.run_laws.proofs.ViewActs.{all_fit, rows_of_acts}
use Rattle.run_laws.proofs.Views.{Client's, Server's, KeptByRows, step_gives, step_keeps}

-- what the server's rows keep, for each client
pub served_rows : {P : ℕ → Server → Type 0} → ((n : ℕ) → ServerGives (P n) (Keeps (P n))) → KeptByRows (λ n c up down s. P n s)
served_rows {P} gives = record {
  op = λ n c up down s p. still n up down s (on_op c) p;
  flush = λ n c up down s p. still n up down s (on_flush c) p;
  told = λ n c up m down s p. p;
  stored = λ n c m up down s p. p;
  own = λ n c m up down s p. (gives n).takes s n m p;
  other = λ n x c m up down s isnt p. (gives n).takes s x m p;
  reported = λ n c m up down s p. (gives n).reports s m p;
  committed = λ n c up down s p. served n c up down s (on_commit s) false ((gives n).commits s p);
  tended = λ n c up down s p. served n c up down s (on_tend s) false ((gives n).tends s p);
  restarted = λ n c up down s k p. served n c up down s (on_restart s k) true ((gives n).restarts s k p);
}
  where
    I : View
    I n c up down s = P n s

    still : (n : ℕ) (up : List ToServer) (down : List ToClient) (s : Server) (o : Option (Row Client)) → P n s → IfSome o (Client's I n up down s)
    still n up down s None p = tt
    still n up down s (Some r) p = p

    served : (n : ℕ) (c : Client) (up : List ToServer) (down : List ToClient) (s : Server) (o : Option (Row Server)) (b : Bool) → IfSome o (Keeps (P n) b s) → IfSome o (Server's I n c up down)
    served n c up down s None b p = tt
    served n c up down s (Some r) b p = p

-- a client is one of the server's
abbrev pub Placed : ℕ → Server → Type 0
Placed n s = list_any (λ (x : ℕ). x == n) (up_to s.clients) ≡ true

pub placed_gives : (n : ℕ) → ServerGives (Placed n) (Keeps (Placed n))
placed_gives n = server_gives {Q = λ b first s. Placed n s} any_always (record {
  begins = λ s p. p;
  one = λ b first s a fit p. subst (λ (k : ℕ). list_any (λ (x : ℕ). x == n) (up_to k) ≡ true) (sym (act_clients s a)) p;
  takes = λ first s hand p. p;
  accepts = λ first s x conn p. p;
  durable = λ s p. p;
  survives = λ s k fits p. p;
  hands = λ b first s p. p;
  blind = λ b first r e p. p;
})

pub placed_in : (n : ℕ) (l : List ℕ) → number_of (map (λ c. (c, 1)) l) n ≡ Some 1 → list_any (λ (x : ℕ). x == n) l ≡ true
placed_in n [] is = cc
placed_in n (x ∷ l) is = by_test (x == n) is (placed_in n l)
  where
    by_test : (b : Bool) → cond b (Some 1) (number_of (map (λ c. (c, 1)) l) n) ≡ Some 1 → (number_of (map (λ c. (c, 1)) l) n ≡ Some 1 → list_any (λ (x : ℕ). x == n) l ≡ true) → (b || list_any (λ (x : ℕ). x == n) l) ≡ true
    by_test true is go = refl
    by_test false is go = go is

all_at : (p : ℕ → Bool) (n : ℕ) (l : List ℕ) → list_all p l ≡ true → list_any (λ (x : ℕ). x == n) l ≡ true → p n ≡ true
all_at p n [] all any = absurd (true≢false (sym any))
all_at p n (x ∷ l) all any = let parts = and_true (p x) (list_all p l) all in by_test (x == n) refl any parts.0 (all_at p n l parts.1)
  where
    same : (x == n) ≡ true → x ≡ n
    same is = grind (arith, nat_tests, is)

    by_test : (b : Bool) → (x == n) ≡ b → (b || list_any (λ (x : ℕ). x == n) l) ≡ true → p x ≡ true → (list_any (λ (x : ℕ). x == n) l ≡ true → p n ≡ true) → p n ≡ true
    by_test true is any here go = subst (λ (y : ℕ). p y ≡ true) (same is) here
    by_test false is any here go = go any

-- what other layers keep
abbrev pub Base : View
Base n c up down s = (All n c up down s × Asking n c up down s) × (Tables s × Placed n s)

base_rows : KeptByRows Base
base_rows = joined (joined rows_of_all (alone (rows_of_acts Asking asking (all_fit Asking)))) (alone (joined (served_rows {P = λ n s. Tables s} (λ n. tables_gives)) (alone (served_rows {P = Placed} placed_gives))))

-- the ranks of two clients are 2 at most together
pub record Pairs (w : World) : Type 0 where
  pub most : ℕ → Ino → ℕ
  pub pair : (a b : ℕ) → (a == b) ≡ false → (ino : Ino) → most a ino + most b ino ≤ 2
  pub bounded : EachClient (Bounded most) w
  pub few : (n : ℕ) → client w.clients n ≡ None → Few n (most n) w.server

pub record Holds (w : World) : Type 0 where
  pub base : EachClient Base w
  pub replied : EachClient Replied w
  pub tables : Tables w.server
  pub nobody : NoClient w
  pub strange : (n : ℕ) → Strange n w
  pub sharer : EachClient Sharer w
  pub pairs : Pairs w

held_most : (o : Option ℕ) (held : ℕ) (C : ℕ → Type 0) (most : ℕ) → BoundAt o held C most → held ≤ most
held_most None held C most bound = bound.0
held_most (Some j) held C most bound = bound

share_most : (w : World) (h : Holds w) (x : ℕ) (ino : Ino) → shares x ino w.server.holders ≤ h.pairs.most x ino
share_most w h x ino = by_client (client w.clients x) refl (h.pairs.bounded x)
  where
    by_client : (o : Option Client) → client w.clients x ≡ o → IfSome o (λ c. Bounded h.pairs.most x c (mine x w.up) (mine x w.down) w.server) → shares x ino w.server.holders ≤ h.pairs.most x ino
    by_client None is bounded = h.pairs.few x is ino
    by_client (Some c) is bounded = held_most (number_of w.server.current x) (shares x ino w.server.holders) _ (h.pairs.most x ino) (bounded ino)

pub before_all : (w : World) (h : Holds w) → EachClient (Before h.pairs.most) w
before_all w h n = found (client w.clients n) (h.base n) (h.replied n) (h.sharer n) (h.pairs.bounded n)
  where
    found : (o : Option Client) → IfSome o (λ c. Base n c (mine n w.up) (mine n w.down) w.server) → IfSome o (λ c. Replied n c (mine n w.up) (mine n w.down) w.server) → IfSome o (λ c. Sharer n c (mine n w.up) (mine n w.down) w.server) → IfSome o (λ c. Bounded h.pairs.most n c (mine n w.up) (mine n w.down) w.server) → IfSome o (λ c. Before h.pairs.most n c (mine n w.up) (mine n w.down) w.server)
    found None base replied sharer bounded = tt
    found (Some c) base replied sharer bounded = ((base.0.0, (base.0.1.1, (base.1.0.0, no_replies))), (sharer, (clear, bounded)))
      where
        no_replies : AllThat (NoReplyToCap c.conn (open_request c.under)) (mine n w.down)
        no_replies = that_weaker _ _ (λ m well. no_reply_to_cap n c w.server.entries m replied.0.1 well) (mine n w.down) (that_front _ (mine n w.down) (mail_of n w.server.mail) replied.1)

        clear : Clear n c (mine n w.up) (mine n w.down) w.server
        clear x other ino =
            let one = share_most w h x ino in
            let two = has_most h.pairs.most n c (mine n w.up) (mine n w.down) w.server sharer.1.0 bounded ino in
            let both = h.pairs.pair x n other ino in omega (arith, one, two, both)

pub next : (w : World) (step : Step) → Holds w → Holds (after_row w (row w step))
next w step h = record { base = base; replied = step_keeps Replied replied_rows w step h.replied; tables = tables; nobody = no_client_step w step h.nobody; strange = λ n. strange_step n w step (h.strange n); sharer = each_part (After h.pairs.most) Sharer w2 (λ n c up down s a. a.0) after_all; pairs = by_test (all_connected w2.server) refl }
  where
    w2 : World
    w2 = after_row w (row w step)

    base : EachClient Base w2
    base = step_keeps Base base_rows w step h.base

    tables : Tables w2.server
    tables = step_serves tables_gives w step h.nobody h.tables

    after_all : EachClient (After h.pairs.most) w2
    after_all = step_gives (Before h.pairs.most) (After h.pairs.most) (sharers h.pairs.most) w step (before_all w h)

    now : ℕ → Ino → ℕ
    now n ino = shares n ino w2.server.holders

    bounded_now : all_connected w2.server ≡ true → EachClient (Bounded now) w2
    bounded_now connected n = found (client w2.clients n) (base n)
      where
        by_number : (ino : Ino) (C : ℕ → Type 0) (o : Option ℕ) → is_some o ≡ true → BoundAt o (shares n ino w2.server.holders) C (now n ino)
        by_number ino C None is = absurd (true≢false (sym is))
        by_number ino C (Some j) is = omega arith

        found : (o : Option Client) → IfSome o (λ c. Base n c (mine n w2.up) (mine n w2.down) w2.server) → IfSome o (λ c. Bounded now n c (mine n w2.up) (mine n w2.down) w2.server)
        found None base = tt
        found (Some c) base = λ ino. by_number ino _ (number_of w2.server.current n) (all_at (λ (x : ℕ). is_some (number_of w2.server.current x)) n (up_to w2.server.clients) connected base.1.1)

    bounded_still : all_connected w2.server ≡ false → EachClient (Bounded h.pairs.most) w2
    bounded_still not_all n = found (client w2.clients n) (after_all n)
      where
        either : (c : Client) → Rising h.pairs.most n c (mine n w2.up) (mine n w2.down) w2.server → Bounded h.pairs.most n c (mine n w2.up) (mine n w2.down) w2.server
        either c (inl connected) = absurd (true≢false (sym connected ∙ not_all))
        either c (inr bounded) = bounded

        found : (o : Option Client) → IfSome o (λ c. After h.pairs.most n c (mine n w2.up) (mine n w2.down) w2.server) → IfSome o (λ c. Bounded h.pairs.most n c (mine n w2.up) (mine n w2.down) w2.server)
        found None a = tt
        found (Some c) a = either c a.1

    few_still : all_connected w2.server ≡ false → (n : ℕ) → client w2.clients n ≡ None → Few n (h.pairs.most n) w2.server
    few_still not_all n none = either (few_step n (h.pairs.most n) w step (h.strange n) (λ was. h.pairs.few n was) none)
      where
        either : FewUnless n (h.pairs.most n) w2.server → Few n (h.pairs.most n) w2.server
        either (inl connected) = absurd (true≢false (sym connected ∙ not_all))
        either (inr few) = few

    by_test : (b : Bool) → all_connected w2.server ≡ b → Pairs w2
    by_test true connected = record { most = now; pair = λ a b other ino. one_shares a b ino other w2.server.holders tables.0; bounded = bounded_now connected; few = λ n none ino. omega arith }
    by_test false not_all = record { most = h.pairs.most; pair = h.pairs.pair; bounded = bounded_still not_all; few = few_still not_all }

pub first : (script : Script) → Holds (start script)
first script = record {
  base = at_start Base script (λ n is. ((first_all script n is, ((tt, first_link (new_client n (script.clients + 1) (lines_of n script.lines)) _ refl is), first_requested n (new_client n (script.clients + 1) (lines_of n script.lines)) (start script).server refl refl refl refl refl refl refl)), ((tt, tt), placed_in n (up_to script.clients) is)));
  replied = at_start Replied script (first_replied script);
  tables = (tt, tt);
  nobody = no_client_start script;
  strange = λ n. strangers script [] n;
  sharer = at_start Sharer script (λ n is. (tt, (rw is (record { cover = λ ino. (omega arith, tt); dropped = λ ino any one. absurd (true≢false (sym any)); lets = tt; frees = tt; grants = tt; writers = λ ino two. absurd (omega (arith, two)); says = tt }), record { held = λ ino. inl refl; coming = tt; post = tt })));
  pairs = record { most = λ n ino. 0; pair = λ a b other ino. omega arith; bounded = at_start (Bounded (λ n ino. 0)) script (λ n is ino. rw is (omega arith)); few = λ n none ino. omega arith };
}

run : (w : World) (steps : List Step) → Holds w → Holds (after w steps)
run w [] h = h
run w (step ∷ steps) h = run (after_row w (row w step)) steps (next w step h)

pub held_once_law : (script : Script) (history : List Event) → OneClientWrites (world_after script history)
held_once_law script history a b c d ino is_c is_d differs writes = held_not ino d.files (let one = most_of a c is_c in let two = has_writer ino c.files writes in let other = most_of b d is_d in let both = h.pairs.pair a b differs ino in omega (arith, one, two, other, both))
  where
    w : World
    w = world_after script history

    h : Holds w
    h = run (start script) (steps_of history) (first script)

    most_of : (n : ℕ) (x : Client) → client w.clients n ≡ Some x → has ino x.files ≤ h.pairs.most n ino
    most_of n x is = has_most h.pairs.most n x (mine n w.up) (mine n w.down) w.server
        (subst (λ (o : Option Client). IfSome o (λ c. Sharer n c (mine n w.up) (mine n w.down) w.server)) is (h.sharer n)).1.0
        (subst (λ (o : Option Client). IfSome o (λ c. Bounded h.pairs.most n c (mine n w.up) (mine n w.down) w.server)) is (h.pairs.bounded n)) ino

pub sharers_hold : (script : Script) (steps : List Step) → EachClient Sharer (after (start script) steps)
sharers_hold script steps = (run (start script) steps (first script)).sharer

-- what gives nothing isn't given
pub not_given : (conn : ℕ) (gone : List Ino) (ino : Ino) (p : List ToClient) → AllGive conn gone ino 0 p → list_any (is_given conn gone ino) p ≡ false
not_given conn gone ino [] all = refl
not_given conn gone ino (m ∷ p) all = or_none (is_given conn gone ino m) (list_any (is_given conn gone ino) p) (one m all.0) (not_given conn gone ino p all.1)
  where
    by_mode : (b : Bool) (mode : Mode) → cond b (rank mode) 0 ≤ 0 → b ≡ false
    by_mode true Read none = absurd (omega (arith, none))
    by_mode true Write none = absurd (omega (arith, none))
    by_mode false mode none = refl

    by_tests : (a b : Bool) → cond a (cond b 1 0) 0 ≤ 0 → (a && b) ≡ false
    by_tests true true none = absurd (omega (arith, none))
    by_tests true false none = refl
    by_tests false b none = refl

    and_none : (b : Bool) → (b && false) ≡ false
    and_none true = refl
    and_none false = refl

    by_said : (b : Bool) (said : Answer) → cond b (found_in gone ino said) 0 ≤ 0 → (b && finds gone ino said) ≡ false
    by_said b (answer.FoundLive file perm size write_held) none = by_tests b (is_ino ino file && not write_held && not (list_any (is_ino ino) gone)) none
    by_said b said none = and_none b

    one : (m : ToClient) → gives conn gone ino m ≤ 0 → is_given conn gone ino m ≡ false
    one (Grant k tid st file mode size trace) none = by_mode (k == conn && is_ino ino file) mode none
    one (Reply k tid st said) none = by_said (k == conn) said none
    one m none = refl

pub alone_law : (script : Script) (history : List Event) → WriterIsAlone (world_after script history)
alone_law script history a b d ino is_d differs writes =
    let none = covered (number_of w.server.current b) sharer.1.0.cover (bounded ino) in
    (held_not ino d.files (let few = none.0 in omega (arith, few)), not_given d.conn (gone_in d.under) ino (mine b w.down ++ mail_of b w.server.mail) none.1)
  where
    w : World
    w = world_after script history

    h : Holds w
    h = run (start script) (steps_of history) (first script)

    sharer : Sharer b d (mine b w.up) (mine b w.down) w.server
    sharer = subst (λ (o : Option Client). IfSome o (λ c. Sharer b c (mine b w.up) (mine b w.down) w.server)) is_d (h.sharer b)

    bounded : Bounded h.pairs.most b d (mine b w.up) (mine b w.down) w.server
    bounded = subst (λ (o : Option Client). IfSome o (λ c. Bounded h.pairs.most b c (mine b w.up) (mine b w.down) w.server)) is_d (h.pairs.bounded b)

    zero_now : h.pairs.most b ino ≡ 0
    zero_now = let share = share_most w h a ino in let two = writer_two a ino w.server.holders writes in let both = h.pairs.pair a b differs ino in omega (arith, share, two, both)

    Now : ℕ → Type 0
    Now most = Covered d.conn (gone_in d.under) d.files (mine b w.down ++ mail_of b w.server.mail) ino most

    covered : (o : Option ℕ) → CoverBy (Covered d.conn (gone_in d.under) d.files (mine b w.down ++ mail_of b w.server.mail)) (λ x. shares b x w.server.holders) o → BoundAt o (shares b ino w.server.holders) Now (h.pairs.most b ino) → Now 0
    covered None cover bound = subst Now zero_now bound.1
    covered (Some j) cover bound = subst Now (let most = zero_now in none_share (shares b ino w.server.holders) bound most) (cover ino)
      where
        none_share : (held : ℕ) {most : ℕ} → held ≤ most → most ≡ 0 → held ≡ 0
        none_share held less is = omega (arith, less, is)

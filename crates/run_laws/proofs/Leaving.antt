-- A release on its way is of a file that its client writes in the server's table, and nobody has the file.
use Rattle.std.proofs.Common.{◌≡◌, ◌≤◌, ℕ, ◌+◌, List, [], ◌∷◌, ◌++◌, length, take, filter, Bool, true, false, true≢false, not, cond, Option, None, Some, refl, sym, ap, ◌∙◌, subst, IfSome, arith, ◌⊎◌, inl, inr}
use Rattle.std.proofs.lemmas.List.Folds.{list_any-append}
use Rattle.std.proofs.lemmas.Bool.Decides.{nat_tests}
use Rattle.std.specs.Prelude.{◌==◌, ◌&&◌, ◌||◌, nat_le, nat_lt}
use Rattle.std.specs.List.{list_any}
use Rattle.snap_ids.specs.declared.id.Ino.{Ino}
use Rattle.plain_types.specs.declared.entry.Entry.{Entry}
use Rattle.plain_types.specs.declared.history.Event.{Event}
use Rattle.plain_types.specs.declared.history.Step.{Step}
use Rattle.plain_types.specs.declared.message.Claim.{Claim}
use Rattle.plain_types.specs.declared.message.FlushMsg.{FlushMsg}
use Rattle.plain_types.specs.declared.message.ToClient.{ToClient}
use Rattle.plain_types.specs.declared.message.ToServer.{ToServer}
use Rattle.plain_types.specs.declared.message.ToServer.TheVariants.{Connect, Ask, Flush, DropRead, Purged, Deleted}
use Rattle.plain_types.specs.declared.request.Request.{Request}
use Rattle.plain_types.specs.declared.script.Script.{Script}
use Rattle.plain_journal.specs.Table.{last_flush}
use Rattle.held_files.specs.Files.{is_ino, is_held, is_write}
use Rattle.step_table.specs.Messages.{to_server_fits}
use Rattle.step_table.specs.Row.{Row}
use Rattle.step_table.specs.ServerState.{Asked, Holder, Server, number_of, is_current, is_holder, welcome}
use Rattle.step_table.specs.Acts.{Act, TellAck, Buffer, Hold, Raise, MarkRecalled, Settled, LetGo, LetAllGo, act, acts, recalled, settled, buffer}
use Rattle.step_table.specs.Capabilities.{OneWriter}
use Rattle.step_table.specs.Requests.{is_operation}
use Rattle.step_table.specs.Flushes.{knows_file, flush_entry, flush_settles, on_flush as flush_rule, on_drop, asked_by, brought, take_in, take_in_brought, connected, come_back, treat_brought}
use Rattle.step_table.specs.ServerRows.{row_of, drops, on_take, left_with, reported}
use Rattle.step_table.specs.ClientState.{Client, open_request}
use Rattle.step_table.specs.ClientLines.{on_op, on_flush}
use Rattle.step_table.specs.ClientTakes.{on_told, on_stored}
use Rattle.step_table.specs.World.{World, row, after_row, after, client, start, to_server as for_server}
use Rattle.run_laws.specs.FlushNumbers.{above, flushes_of}
use Rattle.run_laws.specs.Holding.{is_given, ReleasedIsFree}
use Rattle.run_laws.specs.Links.{View, EachClient, Offer, Behind, Link, mine, mail_of, offer}
use Rattle.run_laws.specs.Moments.{steps_of, world_after}
use Rattle.run_laws.specs.Requests.{IsIt, Requested}
use Rattle.run_laws.specs.Tenures.{AllReleased, gone_in, is_release, flushes_file, AllFlushed, FlushedIsWritten}
use Rattle.run_laws.proofs.Acts.{Fit, KeptByActs, any_fit, acts_keep, row_keeps, turn_keeps, commit_keeps, restart_keeps, take_ask, take_connect, take_flush, take_drop, take_purged, take_deleted}
use Rattle.run_laws.proofs.Asked.{requests_act}
use Rattle.run_laws.proofs.Bounding.{act_rest}
use Rattle.run_laws.proofs.Clean.{Tidy, tidy_rows, FlushesWritten, flush_writes}
use Rattle.run_laws.proofs.Counted.{last_take}
use Rattle.run_laws.proofs.Covering.{or_second, current_number, other_file, down_none, mail_none}
use Rattle.run_laws.proofs.Covers.{share_writes}
use Rattle.run_laws.proofs.Files.{held_not}
use Rattle.run_laws.proofs.Giving.{MyFit, other_holder, other_client, releases, shares_ino}
use Rattle.run_laws.proofs.Granting.{treat_my, anew_my, reported_my, restarts_my, turn_my, flush_other, drop_other, back_other}
use Rattle.run_laws.proofs.Holders.{or_false}
use Rattle.run_laws.proofs.Holds.{NoFlush, Stays, Flushed, Settles, op_stays, flush_sends, told_takes, stored_stays}
use Rattle.run_laws.proofs.Knowing.{row_if}
use Rattle.run_laws.proofs.Linked.{at_start, each_part, if_row}
use Rattle.run_laws.proofs.Once.{hand_of}
use Rattle.run_laws.proofs.Pairs.{Holds, before_all, next, first, not_given, alone_law}
use Rattle.run_laws.proofs.Requested.{Asking, asking, requested}
use Rattle.run_laws.proofs.Shares.{has, shares, give_append, or_none, both_true, reader_shares, shares_end, shares_same, shares_others, shares_raised}
use Rattle.run_laws.proofs.Sharing.{Letting, CoverBy, Covered}
use Rattle.run_laws.proofs.Sharers.{Grounds, Sharer, Before}
use Rattle.run_laws.proofs.Taking.{Way, after_held, current_same, current_all}
use Rattle.run_laws.proofs.ViewActs.{AnyOf, any_of}
use Rattle.run_laws.proofs.Views.{Client's, Server's, GivenByRows, step_gives, step_keeps}

-- a flush of a connection: the table has its client as the writer of the file; and behind a release of a file no flush of it
-- comes
abbrev pub Leave : ℕ → (Ino → ℕ) → List ToServer → ToServer → Type 0
Leave k table behind m = (ino : Ino) → (flushes_file k ino m ≡ true → 2 ≤ table ino) × (is_release k ino m ≡ true → list_any (flushes_file k ino) behind ≡ false)

abbrev pub AllLeave : ℕ → (Ino → ℕ) → List ToServer → Type 0
AllLeave k table [] = Unit {0}
AllLeave k table (m ∷ up) = Leave k table up m × AllLeave k table up

abbrev pub LeaveBy : (Ino → ℕ) → List ToServer → Option ℕ → Type 0
LeaveBy table up None = Unit {0}
LeaveBy table up (Some k) = AllLeave k table up

abbrev pub Leaving : View
Leaving n c up down s = LeaveBy (λ ino. shares n ino s.holders) up (number_of s.current n)

-- another table, and another list
pub first_or : (a b : Bool) → a ≡ true → (a || b) ≡ true
first_or true b is = refl
first_or false b is = absurd (true≢false (sym is))

leave_table : (k : ℕ) (table more : Ino → ℕ) (up : List ToServer) → ((ino : Ino) → list_any (flushes_file k ino) up ≡ true → 2 ≤ table ino → 2 ≤ more ino) → AllLeave k table up → AllLeave k more up
leave_table k table more [] go all = tt
leave_table k table more (m ∷ up) go all = (
  (λ ino. let was = all.0 ino in ((λ is. go ino (first_or (flushes_file k ino m) (list_any (flushes_file k ino) up) is) (was.0 is)), was.1)),
  leave_table k table more up (λ ino any. go ino (or_second (flushes_file k ino m) (list_any (flushes_file k ino) up) any)) all.1,
)

leave_by : (table more : Ino → ℕ) (up : List ToServer) (o : Option ℕ) → ((k : ℕ) → o ≡ Some k → (ino : Ino) → list_any (flushes_file k ino) up ≡ true → 2 ≤ table ino → 2 ≤ more ino) → LeaveBy table up o → LeaveBy more up o
leave_by table more up None go all = tt
leave_by table more up (Some k) go all = leave_table k table more up (go k refl) all

leave_tail : (table : Ino → ℕ) (m : ToServer) (up : List ToServer) (o : Option ℕ) → LeaveBy table (m ∷ up) o → LeaveBy table up o
leave_tail table m up None all = tt
leave_tail table m up (Some k) all = all.1

none_leave : (k : ℕ) (table : Ino → ℕ) (up : List ToServer) → ((ino : Ino) → list_any (flushes_file k ino) up ≡ false) → AllLeave k table up
none_leave k table [] none = tt
none_leave k table (m ∷ up) none = (
  (λ ino. let parts = or_false (flushes_file k ino m) (list_any (flushes_file k ino) up) (none ino) in ((λ is. absurd (true≢false (sym is ∙ parts.0))), (λ is. parts.1))),
  none_leave k table up (λ ino. (or_false (flushes_file k ino m) (list_any (flushes_file k ino) up) (none ino)).1),
)

leave_more : (k : ℕ) (table : Ino → ℕ) (up more : List ToServer) → ((ino : Ino) → list_any (flushes_file k ino) more ≡ false) → AllLeave k table up → AllLeave k table (up ++ more)
leave_more k table [] more none all = none_leave k table more none
leave_more k table (m ∷ up) more none all = (
  (λ ino. let was = all.0 ino in (was.0, λ is. list_any-append (flushes_file k ino) up more ∙ or_none (list_any (flushes_file k ino) up) (list_any (flushes_file k ino) more) (was.1 is) (none ino))),
  leave_more k table up more none all.1,
)

-- a new flush of a file of which no release is on the way
abbrev New : ℕ → (Ino → ℕ) → List ToServer → ToServer → Type 0
New k table up m = (ino : Ino) → flushes_file k ino m ≡ true → (2 ≤ table ino) × (list_any (is_release k ino) up ≡ false)

leave_end : (k : ℕ) (table : Ino → ℕ) (up : List ToServer) (m : ToServer) → New k table up m → AllLeave k table up → AllLeave k table (up ++ m ∷ [])
leave_end k table [] m new all = ((λ ino. ((λ is. (new ino is).0), (λ is. refl))), tt)
leave_end k table (x ∷ up) m new all = (
  (λ ino. let was = all.0 ino in (was.0, λ is. list_any-append (flushes_file k ino) up (m ∷ []) ∙ or_none (list_any (flushes_file k ino) up) (list_any (flushes_file k ino) (m ∷ [])) (was.1 is) (not_it ino is (flushes_file k ino m) refl))),
  leave_end k table up m (λ ino is. let now = new ino is in (now.0, (or_false (is_release k ino x) (list_any (is_release k ino) up) now.1).1)) all.1,
)
  where
    not_it : (ino : Ino) → is_release k ino x ≡ true → (b : Bool) → flushes_file k ino m ≡ b → (b || false) ≡ false
    not_it ino is true now = absurd (true≢false (sym is ∙ (or_false (is_release k ino x) (list_any (is_release k ino) up) (new ino now).1).0))
    not_it ino is false now = refl

-- messages that flush nothing
no_flush : (k : ℕ) (ino : Ino) (up : List ToServer) → NoFlush up → list_any (flushes_file k ino) up ≡ false
no_flush k ino [] none = refl
no_flush k ino (Flush conn f ∷ up) none = absurd none
no_flush k ino (m ∷ up) none = no_flush k ino up none

-- a release is a flush
release_flushes : (k : ℕ) (ino : Ino) (m : ToServer) → is_release k ino m ≡ true → flushes_file k ino m ≡ true
release_flushes k ino (Flush conn f) is = by_tests (conn == k) f.release (is_ino ino f.ino) is
  where
    by_tests : (a b d : Bool) → (a && (b && d)) ≡ true → (a && d) ≡ true
    by_tests true true d is = is
    by_tests true false d is = absurd (true≢false (sym is))
    by_tests false b d is = absurd (true≢false (sym is))
release_flushes k ino m is = absurd (true≢false (sym is))

-- where the releases of a file are entered, none is on the way
above_free : (ino : Ino) (low last : ℕ) (kept : List FlushMsg) → low ≤ last → AllReleased ino low kept → list_any (releases ino) (above last kept) ≡ false
above_free ino low last [] less all = refl
above_free ino low last (f ∷ kept) less all = by_test (nat_lt last f.number) refl (above_free ino low last kept less all.1)
  where
    one : last + 1 ≤ f.number → (b : Bool) → (f.release && is_ino ino f.ino) ≡ b → b ≡ false
    one high true is = let few = all.0 is in absurd (omega (arith, few, high, less))
    one high false is = refl

    by_test : (b : Bool) → nat_lt last f.number ≡ b → list_any (releases ino) (above last kept) ≡ false → list_any (releases ino) (cond b (f ∷ above last kept) (above last kept)) ≡ false
    by_test true test rest = or_none (f.release && is_ino ino f.ino) (list_any (releases ino) (above last kept)) (one (grind (arith, nat_tests, test)) (f.release && is_ino ino f.ino) refl) rest
    by_test false test rest = rest

way_free : (k : ℕ) (ino : Ino) (up : List ToServer) → list_any (releases ino) (flushes_of k up) ≡ false → list_any (is_release k ino) up ≡ false
way_free k ino [] none = refl
way_free k ino (Flush conn f ∷ up) none = by_test (conn == k) none (way_free k ino up)
  where
    by_test : (b : Bool) → list_any (releases ino) (cond b (f ∷ flushes_of k up) (flushes_of k up)) ≡ false → (list_any (releases ino) (flushes_of k up) ≡ false → list_any (is_release k ino) up ≡ false) → ((b && (f.release && is_ino ino f.ino)) || list_any (is_release k ino) up) ≡ false
    by_test true none go = let parts = or_false (f.release && is_ino ino f.ino) (list_any (releases ino) (flushes_of k up)) none in or_none (f.release && is_ino ino f.ino) (list_any (is_release k ino) up) parts.0 (go parts.1)
    by_test false none go = go none
way_free k ino (m ∷ up) none = way_free k ino up none

-- so it is of a release on the way: no lower number has all of them
pub never_low : (k : ℕ) (ino : Ino) (up : List ToServer) (low last : ℕ) (kept : List FlushMsg) → flushes_of k up ≡ above last kept → low ≤ last → list_any (is_release k ino) up ≡ true → AllReleased ino low kept → ⊥
never_low k ino up low last kept way less any all = true≢false (sym any ∙ way_free k ino up (subst (λ (l : List FlushMsg). list_any (releases ino) l ≡ false) (sym way) (above_free ino low last kept less all)))

-- an act that fits lowers no share of the client
stay_act : (n : ℕ) (c : Client) (s : Server) (a : Act) → MyFit n c s a → (ino : Ino) → shares n ino s.holders ≤ shares n ino (act s a).holders
stay_act n c s (Hold h) fit ino = let e = shares_end n ino s.holders h in omega (arith, e)
stay_act n c s (Raise x file upto) fit ino = shares_raised n x ino file upto s.holders
stay_act n c s (MarkRecalled x file) fit ino = let e = shares_same n ino (recalled x file) s.holders (λ h. refl) in omega (arith, e)
stay_act n c s (Settled x file upto) fit ino = let e = shares_same n ino (settled x file upto) s.holders (λ h. refl) in omega (arith, e)
stay_act n c s (LetGo x file) fit ino = let e = shares_others n ino (λ h. not (is_holder x file h)) s.holders (λ h at. other_holder n x file ino h fit at) in omega (arith, e)
stay_act n c s (LetAllGo x) fit ino = let e = shares_others n ino (λ h. not (h.client == x)) s.holders (λ h at. other_client n x ino h fit at) in omega (arith, e)
stay_act n c s a fit ino = let e = ap (shares n ino) (act_rest s a tt).1 in omega (arith, e)

leaving_act : (n : ℕ) (c : Client) (up : List ToServer) (down : List ToClient) (s : Server) (a : Act) → MyFit n c s a → Leaving n c up down s → Leaving n c up down (act s a)
leaving_act n c up down s a fit was = subst (λ (l : List (ℕ × ℕ)). LeaveBy (λ ino. shares n ino (act s a).holders) up (number_of l n)) (sym (current_same s a))
    (leave_by (λ ino. shares n ino s.holders) (λ ino. shares n ino (act s a).holders) up (number_of s.current n) (λ k at ino any two. let less = stay_act n c s a fit ino in omega (arith, less, two)) was)

-- what holds between the acts
abbrev Between : View
Between n c up down s = Requested n c up down s × Leaving n c up down s

by_between : (n : ℕ) (c : Client) (up : List ToServer) (down : List ToClient) → KeptByActs (MyFit n c) (Between n c up down) (Server's Leaving n c up down)
by_between n c up down = record {
  one = λ s a fit q. (requests_act n c up down s a q.0, leaving_act n c up down s a fit q.1);
  hands = λ s q. q.1;
  anew = λ s q. anew_my n c s.held s q.0.in_held;
}

-- what other layers keep
abbrev pub Shared : View
Shared n c up down s = Grounds n c up down s × Sharer n c up down s

abbrev pub Known : View
Known n c up down s = Shared n c up down s × Leaving n c up down s

asks_of : (n : ℕ) (c : Client) (up : List ToServer) (down : List ToClient) (s : Server) → Known n c up down s → Asking n c up down s
asks_of n c up down s k = (k.0.0.0.0.0, k.0.0.1.0)

popped : (n : ℕ) (c : Client) (m : ToServer) (up : List ToServer) (down : List ToClient) (s : Server) → Known n c (m ∷ up) down s → Between n c up down s
popped n c m up down s k = (requested.pops n c m up down s (asks_of n c (m ∷ up) down s k), leave_tail (λ ino. shares n ino s.holders) m up (number_of s.current n) k.1)

between : (n : ℕ) (c : Client) (up : List ToServer) (down : List ToClient) (s : Server) → Known n c up down s → Between n c up down s
between n c up down s k = (k.0.0.1.0, k.1)

brought_leaving : (n : ℕ) (c : Client) (up : List ToServer) (down : List ToClient) (s : Server) (o : Option Asked) → Leaving n c up down s → Leaving n c up down (take_in_brought s o)
brought_leaving n c up down s None was = was
brought_leaving n c up down s (Some a) was = was

-- a client connects: nothing of its connection is on the way
behind_none : (o : Offer) (j k : ℕ) (ino : Ino) (up : List ToServer) → Behind o j up → list_any (flushes_file k ino) up ≡ false
behind_none o j k ino [] is = refl
behind_none o j k ino (Connect conn said flushes asked ∷ up) is = behind_none o (j + 1) k ino up is.1
behind_none o j k ino (m ∷ up) is = absurd is

pub came_asking : (n x : ℕ) (c : Client) (said : List Claim) (flushes : List FlushMsg) (up : List ToServer) (down : List ToClient) (s : Server) → Asking n c up down s → Asking n c up down (acts s (come_back s x said flushes))
came_asking n x c said flushes up down s asks = acts_keep {F = AnyOf n c} {Q = Asking n c up down} (λ t a fit all. asking.one n c up down t a fit all) (come_back s x said flushes) s (any_of n c s (come_back s x said flushes)) asks

own_connect : (n : ℕ) (c : Client) (conn : ℕ) (said : List Claim) (flushes : List FlushMsg) (asked : Option (ℕ × Request)) (up : List ToServer) (down : List ToClient) (s : Server) → Known n c (Connect conn said flushes asked ∷ up) down s → Server's Leaving n c up down (on_take s n (Connect conn said flushes asked))
own_connect n c conn said flushes asked up down s k =
    take_connect (by_between n c up down) s n conn said flushes asked (popped n c (Connect conn said flushes asked) up down s k)
    (λ above. ((requested.accepts n c conn said flushes asked up down now (came_asking n n c said flushes (Connect conn said flushes asked ∷ up) down s (asks_of n c (Connect conn said flushes asked ∷ up) down s k)), brought_leaving n c up down next (brought n asked) leaving_next), treats asked link.up.1.asked))
  where
    link : Link (offer c) (Connect conn said flushes asked ∷ up) (number_of s.current n) (down ++ mail_of n s.mail)
    link = k.0.0.0.0.0.1

    now : Server
    now = acts s (come_back s n said flushes)

    next : Server
    next = welcome (connected now n conn) n conn

    itself : number_of ((n, conn) ∷ now.current) n ≡ Some conn
    itself = by_test (n == n) (grind (arith, nat_tests))
      where
        by_test : (b : Bool) → b ≡ true → cond b (Some conn) (number_of now.current n) ≡ Some conn
        by_test true is = refl
        by_test false is = absurd (true≢false (sym is))

    leaving_next : Leaving n c up down next
    leaving_next = subst (LeaveBy (λ ino. shares n ino now.holders) up) (sym itself) (none_leave conn (λ ino. shares n ino now.holders) up (λ ino. behind_none (offer c) (link.base + 1) conn ino up link.up.2))

    treats : (o : Option (ℕ × Request)) → o ≡ open_request c.under → Fit (MyFit n c) (take_in_brought next (brought n o)) (treat_brought (take_in_brought next (brought n o)) (brought n o))
    treats None is = tt
    treats (Some r) is = let a = asked_by n r.0 r.1 in
        treat_my n c (take_in next a) false a (λ b at. hand_of next a b (is_operation next a) at) (λ at. subst (λ (o : Option (ℕ × Request)). IsIt o r.0 r.1) is (refl, refl))

other_connect : (n x : ℕ) (c : Client) (conn : ℕ) (said : List Claim) (flushes : List FlushMsg) (asked : Option (ℕ × Request)) (up : List ToServer) (down : List ToClient) (s : Server) → (x == n) ≡ false → Known n c up down s → Server's Leaving n c up down (on_take s x (Connect conn said flushes asked))
other_connect n x c conn said flushes asked up down s isnt k =
    take_connect (by_between n c up down) s x conn said flushes asked (between n c up down s k)
    (λ above. ((requested.accepts_other n x c conn asked up down now isnt (came_asking n x c said flushes up down s (asks_of n c up down s k)), brought_leaving n c up down next (brought x asked) leaving_next), treats asked))
  where
    now : Server
    now = acts s (come_back s x said flushes)

    next : Server
    next = welcome (connected now x conn) x conn

    leaving_now : Leaving n c up down now
    leaving_now = acts_keep {F = MyFit n c} {Q = Leaving n c up down} (λ t a fit so. leaving_act n c up down t a fit so) (come_back s x said flushes) s (back_other n x c isnt s said flushes) k.1

    leaving_next : Leaving n c up down next
    leaving_next = subst (LeaveBy (λ ino. shares n ino now.holders) up) (sym (ap (λ (b : Bool). cond b (Some conn) (number_of now.current n)) isnt)) leaving_now

    treats : (o : Option (ℕ × Request)) → Fit (MyFit n c) (take_in_brought next (brought x o)) (treat_brought (take_in_brought next (brought x o)) (brought x o))
    treats None = tt
    treats (Some r) = let a = asked_by x r.0 r.1 in
        treat_my n c (take_in next a) false a (λ b at. hand_of next a b (is_operation next a) at) (λ at. absurd (true≢false (sym at ∙ isnt)))

-- a flush is taken: what it releases isn't flushed by one behind it
at_number : (table : Ino → ℕ) (q : List ToServer) (o : Option ℕ) (conn : ℕ) → o ≡ Some conn → LeaveBy table q o → AllLeave conn table q
at_number table q None conn is all = cc
at_number table q (Some k) conn is all = subst (λ (j : ℕ). AllLeave j table q) (same is) all
  where
    same : Some k ≡ Some conn → k ≡ conn
    same e = cc

same_number : (conn : ℕ) (b : Bool) → b ≡ true → (conn == conn && b) ≡ true
same_number conn b is = rw (itself, is) refl
  where
    itself : (conn == conn) ≡ true
    itself = grind (arith, nat_tests)

own_flush : (n : ℕ) (c : Client) (conn : ℕ) (f : FlushMsg) (up : List ToServer) (down : List ToClient) (s : Server) → Known n c (Flush conn f ∷ up) down s → Server's Leaving n c up down (on_take s n (Flush conn f))
own_flush n c conn f up down s k =
    row_if (Server's Leaving n c up down) (to_server_fits (Flush conn f)) _ (drops s)
    (λ fits. row_if (Server's Leaving n c up down) (is_current s n conn && knows_file s f.ino) _ (drops s) (λ may. taken (both_true (is_current s n conn) (knows_file s f.ino) may).0) was.1)
    was.1
  where
    was : Between n c up down s
    was = popped n c (Flush conn f) up down s k

    e : Entry
    e = record { client = n; number = f.number; what = flush_entry f }

    settles : (r i : Bool) (x : Ino) → is_ino x f.ino ≡ i → (r && i) ≡ false → shares n x (act (buffer s e) (cond r (LetGo n f.ino) (Settled n f.ino f.upto))).holders ≡ shares n x s.holders
    settles true true x is none = absurd (true≢false none)
    settles true false x is none = shares_others n x (λ h. not (is_holder n f.ino h)) (buffer s e).holders (λ h at. other_file n x f.ino h is at) ∙ ap (shares n x) (act_rest s (Buffer e) tt).1
    settles false i x is none = shares_same n x (settled n f.ino f.upto) (buffer s e).holders (λ h. refl) ∙ ap (shares n x) (act_rest s (Buffer e) tt).1

    table : (x : Ino) → (f.release && is_ino x f.ino) ≡ false → (b : Bool) → shares n x (acts s (cond b [] (Buffer e ∷ flush_settles n f ∷ []) ++ TellAck n f.number ∷ [])).holders ≡ shares n x s.holders
    table x none true = ap (shares n x) (act_rest s (TellAck n f.number) tt).1
    table x none false = ap (shares n x) (act_rest (act (buffer s e) (flush_settles n f)) (TellAck n f.number) tt).1 ∙ settles f.release (is_ino x f.ino) x refl none

    other : is_current s n conn ≡ true → (x : Ino) → list_any (flushes_file conn x) up ≡ true → (b : Bool) → (f.release && is_ino x f.ino) ≡ b → b ≡ false
    other now x any true is =
        let all = at_number (λ ino. shares n ino s.holders) (Flush conn f ∷ up) (number_of s.current n) conn (current_number (number_of s.current n) conn now) k.1 in
        absurd (true≢false (sym any ∙ (all.0 x).1 (same_number conn (f.release && is_ino x f.ino) is)))
    other now x any false is = refl

    leaves : is_current s n conn ≡ true → Leaving n c up down (acts s (flush_rule n s f))
    leaves now = subst (λ (l : List (ℕ × ℕ)). LeaveBy (λ ino. shares n ino (acts s (flush_rule n s f)).holders) up (number_of l n)) (sym (current_all (flush_rule n s f) s))
        (leave_by (λ ino. shares n ino s.holders) (λ ino. shares n ino (acts s (flush_rule n s f)).holders) up (number_of s.current n)
        (λ j at x any two. let same = table x (other now x (at_it j at x any) (f.release && is_ino x f.ino) refl) (nat_le f.number (last_flush s.entries n)) in omega (arith, same, two)) was.1)
      where
        at_it : (j : ℕ) → number_of s.current n ≡ Some j → (x : Ino) → list_any (flushes_file j x) up ≡ true → list_any (flushes_file conn x) up ≡ true
        at_it j at x any = subst (λ (i : ℕ). list_any (flushes_file i x) up ≡ true) (same (sym at ∙ current_number (number_of s.current n) conn now)) any
          where
            same : Some j ≡ Some conn → j ≡ conn
            same is = cc

    taken : is_current s n conn ≡ true → Server's Leaving n c up down (row_of s (flush_rule n s f))
    taken now = after_held (by_between n c up down) (2 + length s.held) s (flush_rule n s f)
        (acts_keep {F = λ t a. Unit {0}} {Q = Requested n c up down} (λ t a fit r. requests_act n c up down t a r) (flush_rule n s f) s (any_fit s (flush_rule n s f)) was.0, leaves now)

-- a reader lets go: it doesn't write the file in the table
own_drop : (n : ℕ) (c : Client) (conn : ℕ) (ino : Ino) (up : List ToServer) (down : List ToClient) (s : Server) → Known n c (DropRead conn ino ∷ up) down s → Server's Leaving n c up down (on_take s n (DropRead conn ino))
own_drop n c conn ino up down s k = row_if (Server's Leaving n c up down) (is_current s n conn) (row_of s (on_drop n s ino)) (drops s)
    (λ now. after_held (by_between n c up down) (2 + length s.held) s (on_drop n s ino) (gone (list_any (λ h. is_holder n ino h && not (is_write h.mode)) s.holders) refl)) was.1
  where
    was : Between n c up down s
    was = popped n c (DropRead conn ino) up down s k

    one : OneWriter s.holders
    one = k.0.0.1.1.0

    still : list_any (λ h. is_holder n ino h && not (is_write h.mode)) s.holders ≡ true → (x : Ino) (b : Bool) → is_ino x ino ≡ b → 2 ≤ shares n x s.holders → 2 ≤ shares n x (filter (λ h. not (is_holder n ino h)) s.holders)
    still any x true is two = let same = shares_ino n x ino s.holders is in let read = reader_shares n ino s.holders one any in absurd (omega (arith, same, read, two))
    still any x false is two = let same = shares_others n x (λ h. not (is_holder n ino h)) s.holders (λ h at. other_file n x ino h is at) in omega (arith, same, two)

    gone : (b : Bool) → list_any (λ h. is_holder n ino h && not (is_write h.mode)) s.holders ≡ b → Between n c up down (acts s (cond b (LetGo n ino ∷ []) []))
    gone false any = was
    gone true any = (
      requests_act n c up down s (LetGo n ino) was.0,
      leave_by (λ x. shares n x s.holders) (λ x. shares n x (filter (λ h. not (is_holder n ino h)) s.holders)) up (number_of s.current n) (λ j at x released two. still any x (is_ino x ino) refl two) was.1,
    )

own : (n : ℕ) (c : Client) (m : ToServer) (up : List ToServer) (down : List ToClient) (s : Server) → Known n c (m ∷ up) down s → Server's Leaving n c up down (on_take s n m)
own n c (Connect conn said flushes asked) up down s k = own_connect n c conn said flushes asked up down s k
own n c (Ask conn tid asked) up down s k = let all = asks_of n c (Ask conn tid asked ∷ up) down s k in let a = asked_by n tid asked in
    take_ask (by_between n c up down) s n conn tid asked (popped n c (Ask conn tid asked) up down s k)
    (λ now. ((requested.asks n c conn tid asked up down s now all, (popped n c (Ask conn tid asked) up down s k).1), treat_my n c (take_in s a) false a (λ b at. hand_of s a b (is_operation s a) at) (λ is. all.1.up.0)))
own n c (Flush conn f) up down s k = own_flush n c conn f up down s k
own n c (DropRead conn ino) up down s k = own_drop n c conn ino up down s k
own n c (Purged id) up down s k = take_purged (by_between n c up down) s n id (popped n c (Purged id) up down s k)
own n c (Deleted ino) up down s k = take_deleted (by_between n c up down) s n ino (popped n c (Deleted ino) up down s k)

other : (n x : ℕ) (c : Client) (m : ToServer) (up : List ToServer) (down : List ToClient) (s : Server) → (x == n) ≡ false → Known n c up down s → Server's Leaving n c up down (on_take s x m)
other n x c (Connect conn said flushes asked) up down s isnt k = other_connect n x c conn said flushes asked up down s isnt k
other n x c (Ask conn tid asked) up down s isnt k = let a = asked_by x tid asked in
    take_ask (by_between n c up down) s x conn tid asked (between n c up down s k)
    (λ now. ((requested.asks_other n x c tid asked up down s isnt (asks_of n c up down s k), k.1), treat_my n c (take_in s a) false a (λ b at. hand_of s a b (is_operation s a) at) (λ at. absurd (true≢false (sym at ∙ isnt)))))
other n x c (Flush conn f) up down s isnt k = take_flush (by_between n c up down) s x conn f (between n c up down s k) (flush_other n x c isnt s f)
other n x c (DropRead conn ino) up down s isnt k = take_drop (by_between n c up down) s x conn ino (between n c up down s k) (drop_other n x c isnt s ino)
other n x c (Purged id) up down s isnt k = take_purged (by_between n c up down) s x id (between n c up down s k)
other n x c (Deleted ino) up down s isnt k = take_deleted (by_between n c up down) s x ino (between n c up down s k)

-- the rows of the client
sends_none : (n : ℕ) (up more : List ToServer) (s : Server) → ((k : ℕ) (ino : Ino) → list_any (flushes_file k ino) more ≡ false) → LeaveBy (λ ino. shares n ino s.holders) up (number_of s.current n) → LeaveBy (λ ino. shares n ino s.holders) (up ++ more) (number_of s.current n)
sends_none n up more s none was = by_number (number_of s.current n) was
  where
    by_number : (o : Option ℕ) → LeaveBy (λ ino. shares n ino s.holders) up o → LeaveBy (λ ino. shares n ino s.holders) (up ++ more) o
    by_number None all = tt
    by_number (Some k) all = leave_more k (λ ino. shares n ino s.holders) up more (none k) all

stays_leaving : (n : ℕ) (c : Client) (up : List ToServer) (down : List ToClient) (s : Server) (entries : List Entry) (r : Row Client) → Stays entries c r → LeaveBy (λ ino. shares n ino s.holders) up (number_of s.current n) → Client's Leaving n up down s r
stays_leaving n c up down s entries r stays was = sends_none n up (for_server r.sent) s (λ k ino. no_flush k ino (for_server r.sent) stays.none) was

-- a flush is sent: its file is written, so its releases are entered
flushed_leaving : (n : ℕ) (c : Client) (up : List ToServer) (down : List ToClient) (s : Server) (entries : List Entry) (r : Row Client) → (flushed : Flushed entries c r) → has flushed.flush.ino c.files ≡ 2 → Known n c up down s → Client's Leaving n up down s r
flushed_leaving n c up down s entries r flushed two k = subst (λ (more : List ToServer). LeaveBy table (up ++ more) (number_of s.current n)) (sym flushed.sent) (by_number (number_of s.current n) k.0.1.1.0.cover k.0.0.0.1.way k.1)
  where
    table : Ino → ℕ
    table ino = shares n ino s.holders

    f : FlushMsg
    f = flushed.flush

    has_it : (x : Ino) → is_ino x f.ino ≡ true → has x c.files ≡ 2
    has_it x is = ap (λ (i : Ino). has i c.files) (grind (arith, nat_tests, is)) ∙ two

    entered : (x : Ino) → has x c.files ≡ 2 → (has x c.files ≡ 0) ⊎ AllReleased x (last_flush (take s.durable s.entries) n) c.unacked → AllReleased x (last_flush (take s.durable s.entries) n) c.unacked
    entered x two (inl none) = absurd (omega (arith, two, none))
    entered x two (inr all) = all

    by_number : (o : Option ℕ) → CoverBy (Covered c.conn (gone_in c.under) c.files (down ++ mail_of n s.mail)) table o → Way o up c.unacked (last_flush s.entries n) → LeaveBy table up o → LeaveBy table (up ++ Flush c.conn f ∷ []) o
    by_number None cover way all = tt
    by_number (Some j) cover way all = leave_end j table up (Flush c.conn f) new all
      where
        not_any : (x : Ino) (b : Bool) → list_any (is_release j x) up ≡ b → AllReleased x (last_flush (take s.durable s.entries) n) c.unacked → b ≡ false
        not_any x true any all = absurd (never_low j x up (last_flush (take s.durable s.entries) n) (last_flush s.entries n) c.unacked way (last_take n s.durable s.entries k.0.0.0.1.counted) any all)
        not_any x false any all = refl

        new : New j table up (Flush c.conn f)
        new x is = let it = has_it x (both_true (c.conn == j) (is_ino x f.ino) is).1 in
            (let covers = (cover x).0 in omega (arith, covers, it), not_any x (list_any (is_release j x) up) refl (entered x it (k.0.1.1.1.held x)))

-- with what readers keep back
abbrev pub Whole : View
Whole n c up down s = Known n c up down s × Tidy n c up down s

pub leaves : GivenByRows Whole Leaving
leaves = record {
  weak = λ n c up down s a. a.0.1;
  op = λ n c up down s a. let k = a.0 in if_row (on_op c) (Stays (take s.durable s.entries) c) (Client's Leaving n up down s) (λ r stays. stays_leaving n c up down s (take s.durable s.entries) r stays k.1) (op_stays (take s.durable s.entries) c c.lines k.0.0.0.0.1.1.holds);
  flush = λ n c up down s a. let k = a.0 in both_some (on_flush c) (λ r. (c.frozen ≡ false) × (Stays (take s.durable s.entries) c r ⊎ Flushed (take s.durable s.entries) c r)) (FlushesWritten c) (Client's Leaving n up down s) (λ r sends writes. by_kind n c up down s r k sends.1 writes) (flush_sends (take s.durable s.entries) c k.0.0.0.0.1.1.holds) (flush_writes c k.0.1.0 a.1.1);
  told = λ n c up m down s a. let k = a.0 in told_row n c up m down s k (told_takes (take s.durable s.entries) c m k.0.0.0.0.1.1.down.0 k.0.0.0.0.1.1.holds);
  stored = λ n c m up down s a. let k = a.0 in stays_leaving n c up down s (take s.durable s.entries) (on_stored c m) (stored_stays (take s.durable s.entries) c m k.0.0.0.0.1.1.holds) k.1;
  own = λ n c m up down s a. own n c m up down s a.0;
  other = λ n x c m up down s isnt a. other n x c m up down s isnt a.0;
  reported = λ n c m up down s a. row_keeps (by_between n c up down) s (reported s m) (reported_my n c s m) (between n c up down s a.0);
  committed = λ n c up down s a. commit_keeps {Q = Between n c up down} {After = Server's Leaving n c up down} (λ r e after. after) (λ t q. q.1) s (between n c up down s a.0);
  tended = λ n c up down s a. turn_keeps (by_between n c up down) s (turn_my n c s a.0.0.0.1.0.in_deferred) (between n c up down s a.0);
  restarted = λ n c up down s j a. restart_keeps (λ r e after. after) (by_between n c up down) s j (λ fits. ((requested.survives n c up down s j fits (asks_of n c up down s a.0), tt), restarts_my n c (left_with s (s.durable + j))));
}
  where
    both_some : {X : Type 0} (o : Option X) (P Q R : X → Type 0) → ((x : X) → P x → Q x → R x) → IfSome o P → IfSome o Q → IfSome o R
    both_some None P Q R go p q = tt
    both_some (Some x) P Q R go p q = go x p q

    by_kind : (n : ℕ) (c : Client) (up : List ToServer) (down : List ToClient) (s : Server) (r : Row Client) → Known n c up down s → Stays (take s.durable s.entries) c r ⊎ Flushed (take s.durable s.entries) c r → FlushesWritten c r → Client's Leaving n up down s r
    by_kind n c up down s r k (inl stays) writes = stays_leaving n c up down s (take s.durable s.entries) r stays k.1
    by_kind n c up down s r k (inr flushed) writes = flushed_leaving n c up down s (take s.durable s.entries) r flushed (writes flushed.flush flushed.sent) k

    told_row : (n : ℕ) (c : Client) (up : List ToServer) (m : ToClient) (down : List ToClient) (s : Server) → Known n c up (m ∷ down) s → Stays (take s.durable s.entries) c (on_told c m) ⊎ Settles (take s.durable s.entries) c m (on_told c m) → Client's Leaving n up down s (on_told c m)
    told_row n c up m down s k (inl stays) = stays_leaving n c up down s (take s.durable s.entries) (on_told c m) stays k.1
    told_row n c up m down s k (inr settles) = sends_none n up (for_server (on_told c m).sent) s (λ j ino. ap (list_any (flushes_file j ino)) settles.sent) k.1

-- along each run
known_each : (w : World) (h : Holds w) → EachClient Leaving w → EachClient Known w
known_each w h each n = found (client w.clients n) (before_all w h n) (each n)
  where
    found : (o : Option Client) → IfSome o (λ c. Before h.pairs.most n c (mine n w.up) (mine n w.down) w.server) → IfSome o (λ c. Leaving n c (mine n w.up) (mine n w.down) w.server) → IfSome o (λ c. Known n c (mine n w.up) (mine n w.down) w.server)
    found None before all = tt
    found (Some c) before all = ((before.0, before.1.0), all)

whole_each : (w : World) → EachClient Known w → EachClient Tidy w → EachClient Whole w
whole_each w each tidies n = found (client w.clients n) (each n) (tidies n)
  where
    found : (o : Option Client) → IfSome o (λ c. Known n c (mine n w.up) (mine n w.down) w.server) → IfSome o (λ c. Tidy n c (mine n w.up) (mine n w.down) w.server) → IfSome o (λ c. Whole n c (mine n w.up) (mine n w.down) w.server)
    found None known all = tt
    found (Some c) known all = (known, all)

leaving_run : (w : World) (steps : List Step) → Holds w → EachClient Tidy w → EachClient Leaving w → EachClient Known (after w steps)
leaving_run w [] h tidies each = known_each w h each
leaving_run w (step ∷ steps) h tidies each = leaving_run (after_row w (row w step)) steps (next w step h) (step_keeps Tidy tidy_rows w step tidies) (step_gives Whole Leaving leaves w step (whole_each w (known_each w h each) tidies))

pub known_hold : (script : Script) (steps : List Step) → EachClient Known (after (start script) steps)
known_hold script steps = leaving_run (start script) steps (first script) (at_start Tidy script (λ n is. (tt, tt))) (at_start Leaving script (λ n is. subst (LeaveBy (λ ino. 0) []) (sym is) tt))

-- the laws
all_leaving : (n k : ℕ) (holders : List Holder) (up : List ToServer) → AllLeave k (λ ino. shares n ino holders) up → AllFlushed n k holders up
all_leaving n k holders [] all = tt
all_leaving n k holders (m ∷ up) all = ((λ ino. let was = all.0 ino in ((λ is. share_writes n ino holders (was.0 is)), was.1)), all_leaving n k holders up all.1)

pub leaving_law : (script : Script) (history : List Event) → EachClient FlushedIsWritten (world_after script history)
leaving_law script history = each_part Known FlushedIsWritten (world_after script history) (λ n c up down s k. by_number n c up s (number_of s.current n) k.1) (known_hold script (steps_of history))
  where
    by_number : (n : ℕ) (c : Client) (up : List ToServer) (s : Server) (o : Option ℕ) → LeaveBy (λ ino. shares n ino s.holders) up o → IfSome o (λ k. AllFlushed n k s.holders up)
    by_number n c up s None all = tt
    by_number n c up s (Some k) all = all_leaving n k s.holders up all

-- who released it has it no more, by its number
own_free : (n k : ℕ) (c : Client) (up : List ToServer) (down : List ToClient) (s : Server) (ino : Ino) → number_of s.current n ≡ Some k → list_any (is_release k ino) up ≡ true → Known n c up down s → Covered c.conn (gone_in c.under) c.files (down ++ mail_of n s.mail) ino 0
own_free n k c up down s ino number any known = (
  held (letting.held ino),
  give_append c.conn (gone_in c.under) ino 0 down (mail_of n s.mail)
      (down_none c.conn (gone_in c.under) c.unacked (last_flush (take s.durable s.entries) n) ino (never (last_flush (take s.durable s.entries) n) (last_take n s.durable s.entries known.0.0.0.1.counted)) down letting.coming)
      (mail_none n c.conn (gone_in c.under) c.unacked s.entries ino never known.0.0.0.1.counted s.mail letting.post),
)
  where
    letting : Letting n c up down s
    letting = known.0.1.1.1

    way : flushes_of k up ≡ above (last_flush s.entries n) c.unacked
    way = subst (λ (o : Option ℕ). Way o up c.unacked (last_flush s.entries n)) number known.0.0.0.1.way

    never : (low : ℕ) → low ≤ last_flush s.entries n → AllReleased ino low c.unacked → ⊥
    never low less all = never_low k ino up low (last_flush s.entries n) c.unacked way less any all

    held : (has ino c.files ≡ 0) ⊎ AllReleased ino (last_flush (take s.durable s.entries) n) c.unacked → has ino c.files ≤ 0
    held (inl none) = omega (arith, none)
    held (inr all) = absurd (never (last_flush (take s.durable s.entries) n) (last_take n s.durable s.entries known.0.0.0.1.counted) all)

any_leaves : (k : ℕ) (table : Ino → ℕ) (ino : Ino) (up : List ToServer) → AllLeave k table up → list_any (is_release k ino) up ≡ true → 2 ≤ table ino
any_leaves k table ino [] all any = absurd (true≢false (sym any))
any_leaves k table ino (m ∷ up) all any = by_test (is_release k ino m) refl any (any_leaves k table ino up all.1)
  where
    by_test : (b : Bool) → is_release k ino m ≡ b → (b || list_any (is_release k ino) up) ≡ true → (list_any (is_release k ino) up ≡ true → 2 ≤ table ino) → 2 ≤ table ino
    by_test true is any go = (all.0 ino).0 (release_flushes k ino m is)
    by_test false is any go = go any

pub free_law : (script : Script) (history : List Event) → ReleasedIsFree (world_after script history)
free_law script history a b k c d ino is_c is_d number any = by_client (a == b) refl
  where
    w : World
    w = world_after script history

    known : (n : ℕ) (x : Client) → client w.clients n ≡ Some x → Known n x (mine n w.up) (mine n w.down) w.server
    known n x is = subst (λ (o : Option Client). IfSome o (λ c. Known n c (mine n w.up) (mine n w.down) w.server)) is (known_hold script (steps_of history) n)

    Free : ℕ → Client → Type 0
    Free n x = (is_held ino x.files ≡ false) × (list_any (is_given x.conn (gone_in x.under) ino) (mine n w.down ++ mail_of n w.server.mail) ≡ false)

    own_now : Free a c
    own_now = let none = own_free a k c (mine a w.up) (mine a w.down) w.server ino number any (known a c is_c) in
        (held_not ino c.files (let few = none.0 in omega (arith, few)), not_given c.conn (gone_in c.under) ino (mine a w.down ++ mail_of a w.server.mail) none.1)

    same_client : a ≡ b → c ≡ d
    same_client same = some_same (sym is_c ∙ ap (client w.clients) same ∙ is_d)
      where
        some_same : Some c ≡ Some d → c ≡ d
        some_same e = cc

    by_client : (e : Bool) → (a == b) ≡ e → Free b d
    by_client true is = let same : a ≡ b = grind (arith, nat_tests, is) in subst (λ (n : ℕ). Free n d) same (subst (Free a) (same_client same) own_now)
    by_client false is = alone_law script history a b d ino is_d is
        (share_writes a ino w.server.holders (any_leaves k (λ x. shares a x w.server.holders) ino (mine a w.up) (at_number (λ x. shares a x w.server.holders) (mine a w.up) (number_of w.server.current a) k number (known a c is_c).1) any))

-- What covers what a client holds, and what its share is bounded by, along the server's rows.
use Rattle.std.proofs.Common.{◌≡◌, ◌≤◌, ℕ, ◌+◌, List, [], ◌∷◌, ◌++◌, map, take, length, Bool, true, false, true≢false, not, cond, filter, Option, None, Some, refl, sym, ap, ◌∙◌, subst, arith, ◌⊎◌, inl, inr}
use Rattle.std.proofs.lemmas.List.{append-nil}
use Rattle.std.proofs.lemmas.Bool.Decides.{nat_tests}
use Rattle.std.specs.Prelude.{◌==◌, ◌&&◌, ◌||◌, nat_lt, nat_le}
use Rattle.std.specs.List.{list_any, cons_option}
use Rattle.snap_ids.specs.declared.id.Ino.{Ino}
use Rattle.snap_ids.specs.declared.id.SnapId.{SnapId}
use Rattle.plain_types.specs.declared.entry.Entry.{Entry}
use Rattle.plain_types.specs.declared.history.Sent.{Sent}
use Rattle.plain_types.specs.declared.message.FlushMsg.{FlushMsg}
use Rattle.plain_types.specs.declared.message.Message.{Message}
use Rattle.plain_types.specs.declared.message.Message.TheVariants as message
use Rattle.plain_types.specs.declared.message.ToClient.{ToClient}
use Rattle.plain_types.specs.declared.message.ToServer.{ToServer}
use Rattle.plain_types.specs.declared.message.ToServer.TheVariants.{Ask, Flush, DropRead}
use Rattle.plain_types.specs.declared.request.Request.{Request}
use Rattle.plain_tree.specs.State.{same_ino}
use Rattle.plain_journal.specs.Table.{last_flush}
use Rattle.held_files.specs.Files.{HeldFiles, is_ino, is_write}
use Rattle.step_table.specs.Messages.{flush_fits}
use Rattle.step_table.specs.ServerState.{Holder, Server, Changed, Acked, number_of, up_to, is_current, is_holder, message_of, tell, tell_at}
use Rattle.step_table.specs.Acts.{Act, TellAck, Buffer, Settled, LetGo, act, acts, settled, goes, waits, hand_out, buffer}
use Rattle.step_table.specs.Capabilities.{OneWriter}
use Rattle.step_table.specs.Requests.{treat, decide_anew, is_operation}
use Rattle.step_table.specs.Flushes.{knows_file, knows_asked, flush_entry, flush_settles, on_flush as flush_rule, on_drop, asked_by, take_in}
use Rattle.step_table.specs.ServerRows.{row_of, drops, ask, on_take}
use Rattle.step_table.specs.ClientState.{Client, Under, Idle, Open, AtStore}
use Rattle.step_table.specs.World.{to_clients, told_to}
use Rattle.run_laws.specs.FlushNumbers.{above, Follow, Counted, flushes_of}
use Rattle.run_laws.specs.Links.{View, mine, mail_of}
use Rattle.run_laws.specs.Requests.{Requested}
use Rattle.run_laws.specs.Stamps.{told_by}
use Rattle.run_laws.specs.Tenures.{AllReleased, gone_in, is_release}
use Rattle.run_laws.specs.LetGo.{is_drop, Lets}
use Rattle.run_laws.proofs.Acts.{Fit, AnyAct, any_fit, notices_keep, KeptByActs, acts_keep, row_keeps}
use Rattle.run_laws.proofs.Asked.{requests_act}
use Rattle.run_laws.proofs.Bounding.{my_rise, BoundAt, Bounded, Rising, rising_act, fall_act}
use Rattle.run_laws.proofs.Channels.{mail_split}
use Rattle.run_laws.proofs.Counted.{last_take, last_longer}
use Rattle.run_laws.proofs.Giving.{MyFit, same_table, lower_table, one_sharing, one_letting, buffer_sharing, letting_buffer, tell_sharing, letting_tell, shares_ino}
use Rattle.run_laws.proofs.Granting.{treat_my, anew_my}
use Rattle.run_laws.proofs.Known.{Known, known_made}
use Rattle.run_laws.proofs.Knowing.{Knows, ruled_fit, anew_fit, knows_cap, take_in_knows, row_if, and_true}
use Rattle.run_laws.proofs.Linked.{more_mail}
use Rattle.run_laws.proofs.Numbering.{In, follows_last}
use Rattle.run_laws.proofs.Once.{hand_of}
use Rattle.run_laws.proofs.Requested.{Asking, requested}
use Rattle.run_laws.proofs.Ruled.{CapAt, ruled_treat}
use Rattle.run_laws.proofs.Shares.{has, shares, gives, AllGive, give_append, both_true, reader_shares, shares_others, shares_same, shares_filter, shares_gone}
use Rattle.run_laws.proofs.Sharing.{GivesAfter, DownAfter, ToldAfter, MailAfter, Covered, DroppedBy, SharesAt, Writes, writers_go, Sharing, Letting}
use Rattle.run_laws.proofs.Releasing.{released_more, released_filter}
use Rattle.run_laws.proofs.Taking.{Way, Flushes, Fits, ruled, is_number, first_of, after_held, flush_taken, flush_knows, flush_passed, same_way}
use Rattle.run_laws.proofs.Taking.{by_acts as flushing_by}
use Rattle.run_laws.proofs.Views.{Server's}

-- all that holds between the acts of a row
abbrev pub Owns : (ℕ → Ino → ℕ) → View
Owns T n c up down s = (Sharing n c up down s × Letting n c up down s) × Rising T n c up down s

abbrev pub Whole : (ℕ → Ino → ℕ) → View
Whole T n c up down s = (Knows s × Flushes n c up down s) × (Requested n c up down s × Owns T n c up down s)

abbrev pub Fine : ℕ → Client → Server → Act → Type 0
Fine n c s a = Fits n s a × MyFit n c s a

pub both_fit : (F G : Server → Act → Type 0) (list : List Act) (s : Server) → Fit F s list → Fit G s list → Fit (λ t a. F t a × G t a) s list
both_fit F G [] s one two = tt
both_fit F G (a ∷ list) s one two = ((one.0, two.0), both_fit F G list (act s a) one.1 two.1)

one_whole : (T : ℕ → Ino → ℕ) (n : ℕ) (c : Client) (up : List ToServer) (down : List ToClient) (s : Server) (a : Act) → Fine n c s a → Whole T n c up down s → Whole T n c up down (act s a)
one_whole T n c up down s a fit q = (
  (flushing_by n c up down).one s a fit.0 q.0,
  (
    requests_act n c up down s a q.1.0,
    (
      (one_sharing n c up down s a fit.1 q.1.0 q.0.1.way q.1.1.0.0, one_letting n c up down s a fit.1 q.0.0.fits q.1.0 q.0.1.way q.1.1.0.0 q.1.1.0.1),
      rising_act T n c up down s a (my_rise n c s a fit.1) q.1.1.1,
    ),
  ),
)

-- what goes at a row's end
gone_after : (n conn : ℕ) (gone : List Ino) (kept : List FlushMsg) (entries : List Entry) (d : ℕ) → d ≤ length entries → Counted n 0 entries → (mail : List (ℕ × Sent)) → MailAfter n conn gone kept entries mail → DownAfter conn gone kept (last_flush (take d entries) n) (mine n (to_clients (goes d mail)))
gone_after n conn gone kept entries d fits counted [] all = tt
gone_after n conn gone kept entries d fits counted (m ∷ mail) all = by_test (nat_le m.0 d) refl (gone_after n conn gone kept entries d fits counted mail all.2)
  where
    later : (last : ℕ) (told : ToClient) → last ≤ last_flush (take d entries) n → GivesAfter conn gone kept last told → GivesAfter conn gone kept (last_flush (take d entries) n) told
    later last told less after ino = either (after ino)
      where
        either : (gives conn gone ino told ≡ 0) ⊎ AllReleased ino last kept → (gives conn gone ino told ≡ 0) ⊎ AllReleased ino (last_flush (take d entries) n) kept
        either (inl zero_now) = inl zero_now
        either (inr all) = inr (released_more ino last (last_flush (take d entries) n) kept less all)

    one : (to : ℕ) (x : Message) → ((to == n) ≡ true → ToldAfter conn gone kept (last_flush (take m.0 entries) n) (told_by x)) → m.0 ≤ d → DownAfter conn gone kept (last_flush (take d entries) n) (mine n (to_clients (goes d mail))) → DownAfter conn gone kept (last_flush (take d entries) n) (mine n (cons_option (told_to to x) (to_clients (goes d mail))))
    one to (message.ToClient told) after less rest = by_number (to == n) refl
      where
        by_number : (b : Bool) → (to == n) ≡ b → DownAfter conn gone kept (last_flush (take d entries) n) (cond b (told ∷ mine n (to_clients (goes d mail))) (mine n (to_clients (goes d mail))))
        by_number true test = (later (last_flush (take m.0 entries) n) told (last_longer n m.0 d entries less fits counted) (after test), rest)
        by_number false test = rest
    one to x after less rest = rest

    by_test : (b : Bool) → nat_le m.0 d ≡ b → DownAfter conn gone kept (last_flush (take d entries) n) (mine n (to_clients (goes d mail))) → DownAfter conn gone kept (last_flush (take d entries) n) (mine n (to_clients (cond b (m.1 ∷ goes d mail) [])))
    by_test true test rest = one m.1.to m.1.message all.1 (grind (arith, nat_tests, test)) rest
    by_test false test rest = tt

after_append : (conn : ℕ) (gone : List Ino) (kept : List FlushMsg) (last : ℕ) (p q : List ToClient) → DownAfter conn gone kept last p → DownAfter conn gone kept last q → DownAfter conn gone kept last (p ++ q)
after_append conn gone kept last [] q all more = more
after_append conn gone kept last (m ∷ p) q all more = (all.0, after_append conn gone kept last p q all.1 more)

after_waits : (n conn : ℕ) (gone : List Ino) (kept : List FlushMsg) (entries : List Entry) (d : ℕ) (mail : List (ℕ × Sent)) → MailAfter n conn gone kept entries mail → MailAfter n conn gone kept entries (waits d mail)
after_waits n conn gone kept entries d [] all = tt
after_waits n conn gone kept entries d (m ∷ mail) all = by_test (nat_le m.0 d) (after_waits n conn gone kept entries d mail all.2)
  where
    by_test : (b : Bool) → MailAfter n conn gone kept entries (waits d mail) → MailAfter n conn gone kept entries (cond b (waits d mail) (m ∷ mail))
    by_test true rest = rest
    by_test false rest = all

pub hands_owns : (T : ℕ → Ino → ℕ) (n : ℕ) (c : Client) (up : List ToServer) (down : List ToClient) (s : Server) → Whole T n c up down s → Server's (Owns T) n c up down (hand_out s)
hands_owns T n c up down s q = (
  (
    subst (λ (p : List ToClient). SharesAt c.conn c.files c.under up (number_of s.current n) p (λ ino. shares n ino s.holders)) split q.1.1.0.0,
    record {
      held = q.1.1.0.1.held;
      coming = after_append c.conn (gone_in c.under) c.unacked (last_flush (take s.durable s.entries) n) down (mine n (to_clients (goes s.durable s.mail))) q.1.1.0.1.coming (gone_after n c.conn (gone_in c.under) c.unacked s.entries s.durable q.0.0.fits q.0.1.counted s.mail q.1.1.0.1.post);
      post = after_waits n c.conn (gone_in c.under) c.unacked s.entries s.durable s.mail q.1.1.0.1.post;
    },
  ),
  rising q.1.1.1,
)
  where
    split : down ++ mail_of n s.mail ≡ (down ++ mine n (to_clients (goes s.durable s.mail))) ++ mail_of n (waits s.durable s.mail)
    split = mail_split n s.durable down s.mail

    rising : Rising T n c up down s → Rising T n c up (down ++ mine n (to_clients (goes s.durable s.mail))) (record s { mail = waits s.durable s.mail; hand = None })
    rising (inl connected) = inl connected
    rising (inr bounded) = inr (λ ino. subst (λ (p : List ToClient). BoundAt (number_of s.current n) (shares n ino s.holders) (Covered c.conn (gone_in c.under) c.files p ino) (T n ino)) split (bounded ino))

pub by_whole : (T : ℕ → Ino → ℕ) (n : ℕ) (c : Client) (up : List ToServer) (down : List ToClient) → KeptByActs (Fine n c) (Whole T n c up down) (Server's (Owns T) n c up down)
by_whole T n c up down = record {
  one = λ s a fit q. one_whole T n c up down s a fit q;
  hands = λ s q. hands_owns T n c up down s q;
  anew = λ s q. both_fit (Fits n) (MyFit n c) (decide_anew s) s (anew_fit (Fits n) (ruled n) s.held s q.0.0.held) (anew_my n c s.held s q.1.0.in_held);
}

-- a message less on the way
pub or_second : (a b : Bool) → b ≡ true → (a || b) ≡ true
or_second true b is = refl
or_second false b is = is

pub shares_tail : (conn : ℕ) (files : HeldFiles) (under : Under) (m : ToServer) (q : List ToServer) (k : Option ℕ) (p : List ToClient) (table : Ino → ℕ) → ((j : ℕ) → k ≡ Some j → (ino : Ino) → 2 ≤ table ino → is_release j ino m ≡ false) → SharesAt conn files under (m ∷ q) k p table → SharesAt conn files under q k p table
shares_tail conn files under m q k p table free was = record { cover = was.cover; dropped = drops_less k was.dropped; lets = lets under was.lets; frees = was.frees; grants = was.grants; writers = writers_go files files under under (m ∷ q) q table table k (λ j is ino two before. tail j ino (free j is ino two) (before two)) was.writers; says = was.says }
  where
    tail : (j : ℕ) (ino : Ino) → is_release j ino m ≡ false → Writes files under (m ∷ q) j ino → Writes files under q j ino
    tail j ino none (inl two) = inl two
    tail j ino none (inr (inl any)) = inr (inl (sym (ap (λ (b : Bool). b || list_any (is_release j ino) q) none) ∙ any))
    tail j ino none (inr (inr is)) = inr (inr is)

    drops_less : (k : Option ℕ) → DroppedBy (Covered conn (gone_in under) files p) (m ∷ q) table k → DroppedBy (Covered conn (gone_in under) files p) q table k
    drops_less None all = tt
    drops_less (Some j) all = λ ino any is. all ino (or_second (is_drop j ino m) (list_any (is_drop j ino) q) any) is

    lets : (under : Under) → Lets conn under (m ∷ q) → Lets conn under q
    lets Idle all = tt
    lets (AtStore number entry ino head) all = tt
    lets (Open number tid text asked gone) all = all.1

-- A row of the server that takes a message of the client: what holds before it.
pub record Taken (T : ℕ → Ino → ℕ) (n : ℕ) (c : Client) (m : ToServer) (up : List ToServer) (down : List ToClient) (s : Server) : Type 0 where
  pub asking : Asking n c (m ∷ up) down s
  pub knows : Knows s
  pub flushes : Flushes n c (m ∷ up) down s
  pub sharing : Sharing n c (m ∷ up) down s
  pub letting : Letting n c (m ∷ up) down s
  pub bounded : Bounded T n c (m ∷ up) down s
  pub one : OneWriter s.holders

pub popped_with : (T : ℕ → Ino → ℕ) (n : ℕ) (c : Client) (m : ToServer) (up : List ToServer) (down : List ToClient) (s : Server) → Taken T n c m up down s → ((j : ℕ) → number_of s.current n ≡ Some j → (ino : Ino) → is_release j ino m ≡ false) → Flushes n c up down s → Whole T n c up down s
popped_with T n c m up down s was free flushes = (
  (was.knows, flushes),
  (
    requested.pops n c m up down s was.asking,
    ((shares_tail c.conn c.files c.under m up (number_of s.current n) (down ++ mail_of n s.mail) (λ ino. shares n ino s.holders) (λ j is ino two. free j is ino) was.sharing, was.letting), inr was.bounded),
  ),
)

pub own_ask : (T : ℕ → Ino → ℕ) (n : ℕ) (c : Client) (conn tid : ℕ) (asked : Request) (up : List ToServer) (down : List ToClient) (s : Server) → Taken T n c (Ask conn tid asked) up down s → Server's (Owns T) n c up down (on_take s n (Ask conn tid asked))
own_ask T n c conn tid asked up down s was =
    row_if (Server's (Owns T) n c up down) (is_current s n conn && knows_asked s asked) (ask s (asked_by n tid asked)) (drops s)
    (λ may. taken (and_true (is_current s n conn) (knows_asked s asked) may).0 (knows_cap s asked (and_true (is_current s n conn) (knows_asked s asked) may).1)) (hands_owns T n c up down s popped)
  where
    popped : Whole T n c up down s
    popped = popped_with T n c (Ask conn tid asked) up down s was (λ j is ino. refl) (same_way n c (Ask conn tid asked) up down s (λ k. refl) was.flushes)

    taken : is_current s n conn ≡ true → CapAt s.entries asked → Server's (Owns T) n c up down (ask s (asked_by n tid asked))
    taken now cap =
        let a = asked_by n tid asked in
        let t = take_in s a in
        row_keeps (by_whole T n c up down) t (treat false t a)
        (both_fit (Fits n) (MyFit n c) (treat false t a) t (ruled_fit (Fits n) (ruled n) (treat false t a) t (ruled_treat t false a cap)) (treat_my n c t false a (λ b at. hand_of s a b (is_operation s a) at) (λ is. was.asking.1.up.0)))
        ((take_in_knows s a cap was.knows, popped.0.1), (requested.asks n c conn tid asked up down s now was.asking, popped.1.1))

-- a reader lets go
pub current_number : (o : Option ℕ) (conn : ℕ) → is_number conn o ≡ true → o ≡ Some conn
current_number None conn is = absurd (true≢false (sym is))
current_number (Some k) conn is = ap Some same
  where
    same : k ≡ conn
    same = grind (arith, nat_tests, is)

dropped_at : (C : Ino → ℕ → Type 0) (q : List ToServer) (table : Ino → ℕ) (k : Option ℕ) (conn : ℕ) → k ≡ Some conn → DroppedBy C q table k → (ino : Ino) → list_any (is_drop conn ino) q ≡ true → table ino ≡ 1 → C ino 0
dropped_at C q table None conn is all = cc
dropped_at C q table (Some j) conn is all = subst (λ (i : ℕ). (ino : Ino) → list_any (is_drop i ino) q ≡ true → table ino ≡ 1 → C ino 0) (same is) all
  where
    same : Some j ≡ Some conn → j ≡ conn
    same e = cc

head_drop : (conn : ℕ) (x ino : Ino) (rest : Bool) → is_ino x ino ≡ true → ((conn == conn && is_ino x ino) || rest) ≡ true
head_drop conn x ino rest is = rw (itself, is) refl
  where
    itself : (conn == conn) ≡ true
    itself = grind (arith, nat_tests)

-- holders of another file
pub other_file : (n : ℕ) (x ino : Ino) (h : Holder) → is_ino x ino ≡ false → is_holder n x h ≡ true → not (is_holder n ino h) ≡ true
other_file n x ino h other is = by_test (h.client == n) (same_ino h.ino ino) (differs (both_true (h.client == n) (same_ino h.ino x) is).1)
  where
    differs : same_ino h.ino x ≡ true → same_ino h.ino ino ≡ false
    differs at = grind (arith, nat_tests, other, at)

    by_test : (a b : Bool) → b ≡ false → not (a && b) ≡ true
    by_test true true isnt = absurd (true≢false isnt)
    by_test true false isnt = refl
    by_test false b isnt = refl

let_one_go : (n : ℕ) (c : Client) (up : List ToServer) (down : List ToClient) (s : Server) (ino : Ino) → ((x : Ino) → is_ino x ino ≡ true → Covered c.conn (gone_in c.under) c.files (down ++ mail_of n s.mail) x 0) → Sharing n c up down s → Sharing n c up down (act s (LetGo n ino))
let_one_go n c up down s ino none was = lower_table c.conn c.files c.under up (number_of s.current n) (down ++ mail_of n s.mail) (λ x. shares n x s.holders) (λ x. shares n x (filter (λ h. not (is_holder n ino h)) s.holders)) (λ x. shares_filter n x (λ h. not (is_holder n ino h)) s.holders) (λ x. by_test x (is_ino x ino) refl) was
  where
    by_test : (x : Ino) (b : Bool) → is_ino x ino ≡ b → (shares n x (filter (λ h. not (is_holder n ino h)) s.holders) ≡ shares n x s.holders) ⊎ Covered c.conn (gone_in c.under) c.files (down ++ mail_of n s.mail) x 0
    by_test x true is = inr (none x is)
    by_test x false is = inl (shares_others n x (λ h. not (is_holder n ino h)) s.holders (λ h at. other_file n x ino h is at))

pub own_drop : (T : ℕ → Ino → ℕ) (n : ℕ) (c : Client) (conn : ℕ) (ino : Ino) (up : List ToServer) (down : List ToClient) (s : Server) → Taken T n c (DropRead conn ino) up down s → Server's (Owns T) n c up down (on_take s n (DropRead conn ino))
own_drop T n c conn ino up down s was = row_if (Server's (Owns T) n c up down) (is_current s n conn) (row_of s (on_drop n s ino)) (drops s) (λ now. after_held (by_whole T n c up down) (2 + length s.held) s (on_drop n s ino) (taken now (list_any (λ h. is_holder n ino h && not (is_write h.mode)) s.holders) refl)) (hands_owns T n c up down s popped)
  where
    popped : Whole T n c up down s
    popped = popped_with T n c (DropRead conn ino) up down s was (λ j is ino. refl) (same_way n c (DropRead conn ino) up down s (λ k. refl) was.flushes)

    none : is_current s n conn ≡ true → list_any (λ h. is_holder n ino h && not (is_write h.mode)) s.holders ≡ true → (x : Ino) → is_ino x ino ≡ true → Covered c.conn (gone_in c.under) c.files (down ++ mail_of n s.mail) x 0
    none now any x is = dropped_at (Covered c.conn (gone_in c.under) c.files (down ++ mail_of n s.mail)) (DropRead conn ino ∷ up) (λ y. shares n y s.holders) (number_of s.current n) conn (current_number (number_of s.current n) conn now) was.sharing.dropped x (head_drop conn x ino (list_any (is_drop conn x) up) is)
        (shares_ino n x ino s.holders is ∙ reader_shares n ino s.holders was.one any)

    taken : is_current s n conn ≡ true → (b : Bool) → list_any (λ h. is_holder n ino h && not (is_write h.mode)) s.holders ≡ b → Whole T n c up down (acts s (cond b (LetGo n ino ∷ []) []))
    taken now false any = popped
    taken now true any = (
      (flushing_by n c up down).one s (LetGo n ino) (tt, tt) popped.0,
      (
        requests_act n c up down s (LetGo n ino) popped.1.0,
        ((let_one_go n c up down s ino (none now any) popped.1.1.0.0, popped.1.1.0.1), rising_act T n c up down s (LetGo n ino) tt popped.1.1.1),
      ),
    )

-- A flush of the client: where it is a release, the file isn't held any more and not given.
covered_told : (n : ℕ) (c : Client) (down : List ToClient) (x : Ino) (most : ℕ) (s : Server) (y : ℕ) (inos : List Ino) → Covered c.conn (gone_in c.under) c.files (down ++ mail_of n s.mail) x most → Covered c.conn (gone_in c.under) c.files (down ++ mail_of n (tell s y (Changed inos)).mail) x most
covered_told n c down x most s y inos was = by_number (number_of s.current y)
  where
    Now : List ToClient → Type 0
    Now p = AllGive c.conn (gone_in c.under) x most p

    by_test : (m : ToClient) → gives c.conn (gone_in c.under) x m ≡ 0 → (b : Bool) → Now ((down ++ mail_of n s.mail) ++ cond b (m ∷ []) [])
    by_test m none true = give_append c.conn (gone_in c.under) x most (down ++ mail_of n s.mail) (m ∷ []) was.1 (omega (arith, none), tt)
    by_test m none false = subst Now (sym (append-nil (down ++ mail_of n s.mail))) was.1

    by_number : (o : Option ℕ) → Covered c.conn (gone_in c.under) c.files (down ++ mail_of n (tell_at s y (Changed inos) o).mail) x most
    by_number None = was
    by_number (Some j) = (was.0, more_mail Now n down s.mail (length s.entries, record { to = y; message = message.ToClient (message_of s j (Changed inos)) }) (by_test (message_of s j (Changed inos)) refl (y == n)))

covered_buffer : (n : ℕ) (c : Client) (down : List ToClient) (x : Ino) (most : ℕ) (s : Server) (e : Entry) → Covered c.conn (gone_in c.under) c.files (down ++ mail_of n s.mail) x most → Covered c.conn (gone_in c.under) c.files (down ++ mail_of n (buffer s e).mail) x most
covered_buffer n c down x most s e was = notices_keep (λ t. Covered c.conn (gone_in c.under) c.files (down ++ mail_of n t.mail) x most) (λ t y inos so. covered_told n c down x most t y inos so) s.entries (up_to s.clients) (record s { entries = s.entries ++ e ∷ [] }) was

pub down_none : (conn : ℕ) (gone : List Ino) (kept : List FlushMsg) (last : ℕ) (x : Ino) → (AllReleased x last kept → ⊥) → (p : List ToClient) → DownAfter conn gone kept last p → AllGive conn gone x 0 p
down_none conn gone kept last x never [] all = tt
down_none conn gone kept last x never (m ∷ p) all = (either (all.0 x), down_none conn gone kept last x never p all.1)
  where
    either : (gives conn gone x m ≡ 0) ⊎ AllReleased x last kept → gives conn gone x m ≤ 0
    either (inl zero_now) = omega (arith, zero_now)
    either (inr all) = absurd (never all)

pub mail_none : (n conn : ℕ) (gone : List Ino) (kept : List FlushMsg) (entries : List Entry) (x : Ino) → ((low : ℕ) → low ≤ last_flush entries n → AllReleased x low kept → ⊥) → Counted n 0 entries → (mail : List (ℕ × Sent)) → MailAfter n conn gone kept entries mail → AllGive conn gone x 0 (mail_of n mail)
mail_none n conn gone kept entries x never counted [] all = tt
mail_none n conn gone kept entries x never counted (m ∷ mail) all = one m.1.to m.1.message all.1 (mail_none n conn gone kept entries x never counted mail all.2)
  where
    either : (told : ToClient) → (gives conn gone x told ≡ 0) ⊎ AllReleased x (last_flush (take m.0 entries) n) kept → gives conn gone x told ≤ 0
    either told (inl zero_now) = omega (arith, zero_now)
    either told (inr all) = absurd (never (last_flush (take m.0 entries) n) (last_take n m.0 entries counted) all)

    one : (to : ℕ) (y : Message) → ((to == n) ≡ true → ToldAfter conn gone kept (last_flush (take m.0 entries) n) (told_by y)) → AllGive conn gone x 0 (mail_of n mail) → AllGive conn gone x 0 (mine n (cons_option (told_to to y) (to_clients (map (λ (m : ℕ × Sent). m.1) mail))))
    one to (message.ToClient told) after rest = by_test (to == n) refl
      where
        by_test : (b : Bool) → (to == n) ≡ b → AllGive conn gone x 0 (cond b (told ∷ mail_of n mail) (mail_of n mail))
        by_test true is = (either told (after is x), rest)
        by_test false is = rest
    one to y after rest = rest

pub next_number : (n : ℕ) (c : Client) (down : List ToClient) (s : Server) (W : ℕ → Type 0) (f : FlushMsg) (rest : List FlushMsg) → f ∷ rest ≡ above (last_flush s.entries n) c.unacked → In n c.flushes c.unacked W down s → f.number ≡ last_flush s.entries n + 1
next_number n c down s W f rest same fl = (subst (Follow (last_flush s.entries n) c.flushes) (sym same) (follows_last n c.flushes c.unacked W down s.entries s.durable s.mail fl)).0

release_none : (n : ℕ) (c : Client) (up : List ToServer) (down : List ToClient) (s : Server) (W : ℕ → Type 0) (f : FlushMsg) (rest : List FlushMsg) (x : Ino) → f ∷ rest ≡ above (last_flush s.entries n) c.unacked → In n c.flushes c.unacked W down s → (f.release && is_ino x f.ino) ≡ true → Letting n c up down s → Covered c.conn (gone_in c.under) c.files (down ++ mail_of n s.mail) x 0
release_none n c up down s W f rest x same fl is was = (
  held (was.held x),
  give_append c.conn (gone_in c.under) x 0 down (mail_of n s.mail)
      (down_none c.conn (gone_in c.under) c.unacked (last_flush (take s.durable s.entries) n) x (never (last_flush (take s.durable s.entries) n) (last_take n s.durable s.entries fl.counted)) down was.coming)
      (mail_none n c.conn (gone_in c.under) c.unacked s.entries x never fl.counted s.mail was.post),
)
  where
    next : f.number ≡ last_flush s.entries n + 1
    next = next_number n c down s W f rest same fl

    never : (low : ℕ) → low ≤ last_flush s.entries n → AllReleased x low c.unacked → ⊥
    never low less all =
        let first : AllReleased x low (f ∷ rest) = subst (AllReleased x low) (sym same) (released_filter x low (λ (g : FlushMsg). nat_lt (last_flush s.entries n) g.number) c.unacked all) in
        let few = first.0 is in let at = next in omega (arith, less, few, at)

    held : (has x c.files ≡ 0) ⊎ AllReleased x (last_flush (take s.durable s.entries) n) c.unacked → has x c.files ≤ 0
    held (inl zero_now) = omega (arith, zero_now)
    held (inr all) = absurd (never (last_flush (take s.durable s.entries) n) (last_take n s.durable s.entries fl.counted) all)

-- acts on a flush, one after the other
owns_ack : (T : ℕ → Ino → ℕ) (n : ℕ) (c : Client) (up : List ToServer) (down : List ToClient) (s : Server) (x number : ℕ) → Owns T n c up down s → Owns T n c up down (act s (TellAck x number))
owns_ack T n c up down s x number o = ((tell_sharing n c up down s x (Acked number) tt o.0.0, letting_tell n c up down s x (Acked number) tt o.0.1), rising_act T n c up down s (TellAck x number) tt o.1)

owns_settled : (T : ℕ → Ino → ℕ) (n : ℕ) (c : Client) (up : List ToServer) (down : List ToClient) (s : Server) (x : ℕ) (file : Ino) (upto : SnapId) → Owns T n c up down s → Owns T n c up down (act s (Settled x file upto))
owns_settled T n c up down s x file upto o = (
  (same_table c.conn c.files c.under up (number_of s.current n) (down ++ mail_of n s.mail) (λ ino. shares n ino s.holders) (λ ino. shares n ino (map (settled x file upto) s.holders)) (λ ino. shares_same n ino (settled x file upto) s.holders (λ h. refl)) o.0.0, o.0.1),
  rising_act T n c up down s (Settled x file upto) tt o.1,
)

pub own_flush : (T : ℕ → Ino → ℕ) (n : ℕ) (c : Client) (conn : ℕ) (f : FlushMsg) (up : List ToServer) (down : List ToClient) (s : Server) → flush_fits f ≡ true → Known s.entries f.ino → Taken T n c (Flush conn f) up down s → Server's (Owns T) n c up down (on_take s n (Flush conn f))
own_flush T n c conn f up down s fits known was = rw fits (by_current (is_number conn (number_of s.current n)) refl)
  where
    made : knows_file s f.ino ≡ true
    made = known_made s.entries f.ino known

    e : Entry
    e = record { client = n; number = f.number; what = flush_entry f }

    all : List ToServer
    all = Flush conn f ∷ up

    entered : Owns T n c all down (buffer s e)
    entered = ((buffer_sharing n c all down s e was.sharing, letting_buffer n c all down s e was.knows.fits was.letting), rising_act T n c all down s (Buffer e) tt (inr was.bounded))

    here : is_number conn (number_of s.current n) ≡ true → (k : ℕ) × (number_of s.current n ≡ Some k) × (f ∷ flushes_of k up ≡ above (last_flush s.entries n) c.unacked)
    here test = first_of (number_of s.current n) conn f up c.unacked (last_flush s.entries n) test was.flushes.way

    none : is_number conn (number_of s.current n) ≡ true → f.release ≡ true → (x : Ino) → is_ino x f.ino ≡ true → Covered c.conn (gone_in c.under) c.files (down ++ mail_of n (buffer s e).mail) x 0
    none test rel x is = let first = here test in
        covered_buffer n c down x 0 s e (release_none n c up down s (Way (number_of s.current n) (Flush conn f ∷ up) c.unacked) f (flushes_of first.0 up) x first.2 was.flushes (rw (rel, is) refl) was.letting)

    by_release : is_number conn (number_of s.current n) ≡ true → (r : Bool) → f.release ≡ r → Owns T n c all down (act (buffer s e) (cond r (LetGo n f.ino) (Settled n f.ino f.upto)))
    by_release test true rel = ((let_one_go n c all down (buffer s e) f.ino (none test rel) entered.0.0, entered.0.1), rising_act T n c all down (buffer s e) (LetGo n f.ino) tt entered.1)
    by_release test false rel = owns_settled T n c all down (buffer s e) n f.ino f.upto entered

    owns : is_number conn (number_of s.current n) ≡ true → (b : Bool) → Owns T n c all down (acts s (cond b [] (Buffer e ∷ flush_settles n f ∷ []) ++ TellAck n f.number ∷ []))
    owns test true = owns_ack T n c all down s n f.number ((was.sharing, was.letting), inr was.bounded)
    owns test false = owns_ack T n c all down (act (buffer s e) (flush_settles n f)) n f.number (by_release test f.release refl)

    -- what it releases is in the table no more
    freed : is_number conn (number_of s.current n) ≡ true → (b : Bool) → nat_le f.number (last_flush s.entries n) ≡ b → (ino : Ino) → 2 ≤ shares n ino (acts s (cond b [] (Buffer e ∷ flush_settles n f ∷ []) ++ TellAck n f.number ∷ [])).holders → (f.release && is_ino ino f.ino) ≡ false
    freed test true old ino two = let first = here test in let new = next_number n c down s (Way (number_of s.current n) (Flush conn f ∷ up) c.unacked) f (flushes_of first.0 up) first.2 was.flushes in absurd (above_it new old)
      where
        above_it : f.number ≡ last_flush s.entries n + 1 → nat_le f.number (last_flush s.entries n) ≡ true → ⊥
        above_it new old = grind (arith, nat_tests, new, old)
    freed test false new ino two = by_cases f.release (is_ino ino f.ino) refl (let less = fall_act n (act (buffer s e) (flush_settles n f)) (TellAck n f.number) tt ino in omega (arith, less, two))
      where
        by_cases : (r i : Bool) → is_ino ino f.ino ≡ i → 2 ≤ shares n ino (act (buffer s e) (cond r (LetGo n f.ino) (Settled n f.ino f.upto))).holders → (r && i) ≡ false
        by_cases true true is two = let zero_now = shares_gone n ino f.ino (buffer s e).holders is in absurd (omega (arith, zero_now, two))
        by_cases true false is two = refl
        by_cases false i is two = refl

    popped : is_number conn (number_of s.current n) ≡ true → Owns T n c up down (acts s (flush_rule n s f))
    popped test = let t = acts s (flush_rule n s f) in let done = owns test (nat_le f.number (last_flush s.entries n)) in (
      (shares_tail c.conn c.files c.under (Flush conn f) up (number_of t.current n) (down ++ mail_of n t.mail) (λ ino. shares n ino t.holders) (λ j is ino two. no_match (conn == j) (f.release && is_ino ino f.ino) (freed test (nat_le f.number (last_flush s.entries n)) refl ino two)) done.0.0, done.0.1),
      done.1,
    )
      where
        no_match : (a b : Bool) → b ≡ false → (a && b) ≡ false
        no_match true b none = none
        no_match false b none = refl

    whole : is_number conn (number_of s.current n) ≡ true → Whole T n c up down (acts s (flush_rule n s f))
    whole test = (
      (flush_knows n s f was.knows, (flush_taken n c conn f up down s test was.flushes).0),
      (
        acts_keep {F = AnyAct} {Q = Requested n c up down} (λ t a fit r. requests_act n c up down t a r) (flush_rule n s f) s (any_fit s (flush_rule n s f)) (requested.pops n c (Flush conn f) up down s was.asking),
        popped test,
      ),
    )

    by_current : (b : Bool) → is_number conn (number_of s.current n) ≡ b → Server's (Owns T) n c up down (cond (b && knows_file s f.ino) (row_of s (flush_rule n s f)) (drops s))
    by_current true test = rw made (after_held (by_whole T n c up down) (2 + length s.held) s (flush_rule n s f) (whole test))
    by_current false test = hands_owns T n c up down s (popped_with T n c (Flush conn f) up down s was (λ j is ino. other_number test j is ino) (flush_passed n c conn f up down s test was.flushes))
      where
        other_number : is_number conn (number_of s.current n) ≡ false → (j : ℕ) → number_of s.current n ≡ Some j → (ino : Ino) → (conn == j && (f.release && is_ino ino f.ino)) ≡ false
        other_number test j is ino = ap (λ (b : Bool). b && (f.release && is_ino ino f.ino)) (differs (subst (λ (o : Option ℕ). is_number conn o ≡ false) is test))
          where
            differs : (j == conn) ≡ false → (conn == j) ≡ false
            differs isnt = grind (arith, nat_tests, isnt)

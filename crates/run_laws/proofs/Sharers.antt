-- What covers what a client holds is kept by each row, and its share rises only where all clients are connected.
use Rattle.std.proofs.Common.{◌≡◌, ◌≤◌, ℕ, ◌+◌, List, [], ◌∷◌, ◌++◌, take, length, Bool, true, false, true≢false, cond, Option, None, Some, refl, sym, ap, ◌∙◌, subst, IfSome, arith, ◌⊎◌, inl, inr}
use Rattle.std.proofs.lemmas.List.{append-nil}
use Rattle.std.proofs.Math.Seq.{take-length}
use Rattle.std.specs.Prelude.{◌==◌, ◌&&◌, nat_lt, nat_le, is_some}
use Rattle.std.specs.List.{list_all}
use Rattle.snap_ids.specs.declared.id.Ino.{Ino}
use Rattle.snap_ids.specs.declared.values.Mode.{Mode}
use Rattle.snap_ids.specs.declared.values.Mode.TheVariants.{Read, Write}
use Rattle.std.proofs.lemmas.Bool.Decides.{nat_tests}
use Rattle.plain_types.specs.declared.entry.Entry.{Entry}
use Rattle.plain_types.specs.declared.message.Claim.{Claim}
use Rattle.plain_types.specs.declared.message.FlushMsg.{FlushMsg}
use Rattle.plain_types.specs.declared.message.Message.TheVariants as message
use Rattle.plain_types.specs.declared.message.ToClient.{ToClient}
use Rattle.plain_types.specs.declared.message.ToClient.TheVariants.{Reply, Grant}
use Rattle.plain_types.specs.declared.message.ToServer.{ToServer}
use Rattle.plain_types.specs.declared.message.ToServer.TheVariants.{Connect, Ask, Flush, DropRead, Purged, Deleted}
use Rattle.plain_types.specs.declared.request.Request.{Request}
use Rattle.plain_types.specs.declared.request.Request.TheVariants as request
use Rattle.held_files.specs.Files.{is_ino, is_write}
use Rattle.plain_journal.specs.Table.{last_flush}
use Rattle.step_table.specs.Messages.{to_server_fits}
use Rattle.step_table.specs.Row.{Row}
use Rattle.step_table.specs.ServerState.{Asked, Server, number_of, up_to, is_current, connection, buffered, welcome}
use Rattle.step_table.specs.Acts.{Act, acts}
use Rattle.step_table.specs.Capabilities.{OneWriter}
use Rattle.step_table.specs.Requests.{treat, is_operation}
use Rattle.step_table.specs.Flushes.{knows_file, knows_asked, knows_brought, on_flush as flush_rule, on_drop, asked_by, brought, take_in, take_in_brought, connected, come_back, may_connect, treat_brought}
use Rattle.step_table.specs.Background.{turn}
use Rattle.step_table.specs.ServerRows.{ask, back, connect_with, drops, on_take, on_report, on_commit, on_restart, on_tend, left_with, restarts, reported}
use Rattle.step_table.specs.ClientState.{Client, Under, Idle, Open, AtStore, open_request}
use Rattle.step_table.specs.ClientLines.{on_op, on_flush}
use Rattle.step_table.specs.ClientTakes.{on_told, on_stored}
use Rattle.step_table.specs.World.{to_server as for_server}
use Rattle.run_laws.specs.Links.{View, mail_of, offer, Link, Same, Number}
use Rattle.run_laws.specs.Requests.{answers, Requested}
use Rattle.run_laws.specs.LetGo.{IsAsked, GrantAt, AllGrants}
use Rattle.run_laws.proofs.Acts.{Fit, acts_keep, row_keeps, turn_keeps, commit_keeps, restart_keeps, connect_keeps, take_flush, take_drop, take_purged, take_deleted}
use Rattle.run_laws.proofs.Asked.{old_answered}
use Rattle.run_laws.proofs.Bounding.{BoundAt, Bounded, Rising}
use Rattle.run_laws.proofs.Counted.{last_take, last_longer}
use Rattle.run_laws.proofs.Covering.{Owns, Whole, Fine, both_fit, by_whole, hands_owns, Taken, popped_with, own_ask, own_drop, own_flush}
use Rattle.run_laws.specs.Answered.{asks_capability}
use Rattle.run_laws.specs.Tenures.{Distinct, AllReleased, gone_in, asks_write, wants_write}
use Rattle.run_laws.proofs.Answering.{NoReplyToCap}
use Rattle.run_laws.proofs.Buffered.{AllThat}
use Rattle.run_laws.proofs.Files.{distinct_without}
use Rattle.run_laws.proofs.Giving.{MyFit, send_sharing, letting_send}
use Rattle.run_laws.proofs.Granting.{treat_my, reported_my, restarts_my, turn_my, flush_other, drop_other, back_other}
use Rattle.run_laws.proofs.Growing.{room, take_take}
use Rattle.run_laws.proofs.Holds.{Stays, Sends, op_stays, flush_sends, told_takes, stored_stays}
use Rattle.run_laws.proofs.Known.{Known, known_more, from_front}
use Rattle.run_laws.proofs.Knowing.{Knows, ruled_fit, flushing_fit, left_knows, durable_knows, knows_cap, take_in_knows, welcome_knows, BroughtCap, brought_cap, brought_more, grown_all, row_if, and_true}
use Rattle.run_laws.proofs.Lending.{Quiet, Ends, AsksNow, Returns, LetsGo, Begun, Opens, nothing, Closes, gain_of, WantsStill, IsOwn, ToldLends, op_opens, flush_lends, stored_closes, told_lends}
use Rattle.run_laws.proofs.Link.{flowing, now_flows, link_old}
use Rattle.run_laws.proofs.Linked.{more_mail, hello}
use Rattle.run_laws.proofs.Once.{hand_of}
use Rattle.run_laws.proofs.Parting.{Lent, same_less, tail_less, shares_lent, quiet_lent, ends_lent, asks_lent, returns_lent, let_go_lent}
use Rattle.run_laws.proofs.Releasing.{KeepsReleased, released_more, after_more, stays_released, sends_released, takes_released, quiet_letting, ends_letting, asks_letting, returns_letting, let_go_letting}
use Rattle.run_laws.proofs.Requested.{Asking, asking, requested, none_open, answered_all, flows_none}
use Rattle.run_laws.proofs.Returning.{Clear, own_connect}
use Rattle.run_laws.proofs.Ruled.{CapAt, ruled_treat, ruled_drop, ruled_reported, ruled_restarts, flushing_flush, flushing_back}
use Rattle.run_laws.proofs.Shares.{rank, has, shares, give_front, give_more, both_true}
use Rattle.run_laws.proofs.Sharing.{AllSay, DownAfter, Covered, CoverBy, SharesAt, Sharing, Letting}
use Rattle.run_laws.proofs.Taking.{All, Flushes, Fits, ruled, flushed, same_way, turn_fit, welcomed_other}
use Rattle.run_laws.proofs.Taking.{durable as flushes_durable, survives as flushes_survive}
use Rattle.run_laws.proofs.ViewActs.{AnyOf, any_of}
use Rattle.run_laws.proofs.Views.{Client's, Server's, GivenByRows}

-- what is kept of each client
abbrev pub Sharer : View
Sharer n c up down s = Distinct c.files × (Sharing n c up down s × Letting n c up down s)

-- no reply is on its way to a request for a capability
abbrev pub NoReplies : View
NoReplies n c up down s = AllThat (NoReplyToCap c.conn (open_request c.under)) down

-- what other layers keep
abbrev pub Grounds : View
Grounds n c up down s = All n c up down s × (Requested n c up down s × (OneWriter s.holders × NoReplies n c up down s))

abbrev pub Before : (ℕ → Ino → ℕ) → View
Before T n c up down s = Grounds n c up down s × (Sharer n c up down s × (Clear n c up down s × Bounded T n c up down s))

abbrev pub After : (ℕ → Ino → ℕ) → View
After T n c up down s = Sharer n c up down s × Rising T n c up down s

asks_of : (T : ℕ → Ino → ℕ) (n : ℕ) (c : Client) (up : List ToServer) (down : List ToClient) (s : Server) → Before T n c up down s → Asking n c up down s
asks_of T n c up down s b = (b.0.0.0.0, b.0.1.0)

whole_of : (T : ℕ → Ino → ℕ) (n : ℕ) (c : Client) (up : List ToServer) (down : List ToClient) (s : Server) → Before T n c up down s → Whole T n c up down s
whole_of T n c up down s b = ((b.0.0.0.1.0, b.0.0.1), (b.0.1.0, (b.1.0.1, inr b.1.1.1)))

taken_of : (T : ℕ → Ino → ℕ) (n : ℕ) (c : Client) (m : ToServer) (up : List ToServer) (down : List ToClient) (s : Server) → Before T n c (m ∷ up) down s → Taken T n c m up down s
taken_of T n c m up down s b = record { asking = (b.0.0.0.0, b.0.1.0); knows = b.0.0.0.1.0; flushes = b.0.0.1; sharing = b.1.0.1.0; letting = b.1.0.1.1; bounded = b.1.1.1; one = b.0.1.1.0 }

-- The rows of the server.
own : (T : ℕ → Ino → ℕ) (n : ℕ) (c : Client) (m : ToServer) (up : List ToServer) (down : List ToClient) (s : Server) → Before T n c (m ∷ up) down s → Server's (Owns T) n c up down (on_take s n m)
own T n c (Connect conn said flushes asked) up down s b = let was = taken_of T n c (Connect conn said flushes asked) up down s b in
    own_connect T n c conn said flushes asked up down s b.1.0.0 b.1.1.0 was (popped_with T n c (Connect conn said flushes asked) up down s was (λ j is ino. refl) (same_way n c (Connect conn said flushes asked) up down s (λ k. refl) was.flushes))
own T n c (Ask conn tid asked) up down s b = own_ask T n c conn tid asked up down s (taken_of T n c (Ask conn tid asked) up down s b)
own T n c (Flush conn f) up down s b = let k = b.0.0.0.1 in
    own_flush T n c conn f up down s k.1.up.0.1 (from_front (λ (l : List Entry). Known l f.ino) (λ xs ys so. known_more xs ys f.ino so) s.durable s.entries k.1.up.0.0) (taken_of T n c (Flush conn f) up down s b)
own T n c (DropRead conn ino) up down s b = own_drop T n c conn ino up down s (taken_of T n c (DropRead conn ino) up down s b)
own T n c (Purged id) up down s b = let was = taken_of T n c (Purged id) up down s b in take_purged (by_whole T n c up down) s n id (popped_with T n c (Purged id) up down s was (λ j is ino. refl) (same_way n c (Purged id) up down s (λ k. refl) was.flushes))
own T n c (Deleted ino) up down s b = let was = taken_of T n c (Deleted ino) up down s b in take_deleted (by_whole T n c up down) s n ino (popped_with T n c (Deleted ino) up down s was (λ j is ino. refl) (same_way n c (Deleted ino) up down s (λ k. refl) was.flushes))

all_more : {X : Type 0} (p q : X → Bool) → ((x : X) → p x ≡ true → q x ≡ true) → (xs : List X) → list_all p xs ≡ true → list_all q xs ≡ true
all_more p q more [] is = refl
all_more p q more (x ∷ xs) is = let parts = and_true (p x) (list_all p xs) is in both_are (q x) (list_all q xs) (more x parts.0) (all_more p q more xs parts.1)
  where
    both_are : (a b : Bool) → a ≡ true → b ≡ true → (a && b) ≡ true
    both_are a b one two = rw (one, two) refl

pub connected_more : (x conn : ℕ) (current : List (ℕ × ℕ)) (k : ℕ) → list_all (λ (c : ℕ). is_some (number_of current c)) (up_to k) ≡ true → list_all (λ (c : ℕ). is_some (number_of ((x, conn) ∷ current) c)) (up_to k) ≡ true
connected_more x conn current k is = all_more (λ (c : ℕ). is_some (number_of current c)) (λ (c : ℕ). is_some (number_of ((x, conn) ∷ current) c)) (λ c at. by_test c (x == c) at) (up_to k) is
  where
    by_test : (c : ℕ) (b : Bool) → is_some (number_of current c) ≡ true → is_some (cond b (Some conn) (number_of current c)) ≡ true
    by_test c true at = refl
    by_test c false at = at

other_connect : (T : ℕ → Ino → ℕ) (n x : ℕ) (c : Client) (conn : ℕ) (said : List Claim) (flushes : List FlushMsg) (asked : Option (ℕ × Request)) (up : List ToServer) (down : List ToClient) (s : Server) → (x == n) ≡ false → Asking n c up down s → Whole T n c up down s → Server's (Owns T) n c up down (on_take s x (Connect conn said flushes asked))
other_connect T n x c conn said flushes asked up down s isnt asks whole =
    row_if (Server's (Owns T) n c up down) (to_server_fits (Connect conn said flushes asked)) _ (drops s)
    (λ fine. row_if (Server's (Owns T) n c up down) (may_connect s x conn said flushes (brought x asked)) _ (drops s) (λ may. taken (brought_cap s (brought x asked) (knows may))) (hands_owns T n c up down s whole))
    (hands_owns T n c up down s whole)
  where
    knows : may_connect s x conn said flushes (brought x asked) ≡ true → knows_brought s (brought x asked) ≡ true
    knows may =
        let a = nat_lt (connection s x) conn in
        let b = list_all (λ (claim : Claim). knows_file s claim.ino) said in
        let d = list_all (λ (f : FlushMsg). knows_file s f.ino) flushes in
        (and_true (a && b && d) (knows_brought s (brought x asked)) may).1

    now : Server
    now = acts s (come_back s x said flushes)

    next : Server
    next = welcome (connected now x conn) x conn

    whole_now : Whole T n c up down now
    whole_now = acts_keep (by_whole T n c up down).one (come_back s x said flushes) s
        (both_fit (Fits n) (MyFit n c) (come_back s x said flushes) s (flushing_fit (Fits n) x (flushed n x isnt) (come_back s x said flushes) s (flushing_back s x said flushes)) (back_other n x c isnt s said flushes)) whole

    asks_now : Asking n c up down now
    asks_now = acts_keep {F = AnyOf n c} {Q = Asking n c up down} (λ t a fit all. asking.one n c up down t a fit all) (come_back s x said flushes) s (any_of n c s (come_back s x said flushes)) asks

    same : number_of ((x, conn) ∷ now.current) n ≡ number_of now.current n
    same = ap (λ (b : Bool). cond b (Some conn) (number_of now.current n)) isnt

    sharing_next : Sharing n c up down next
    sharing_next = send_sharing n c up down (connected now x conn) x (hello (connected now x conn) x conn) (λ to. absurd (true≢false (sym to ∙ isnt)))
        (subst (λ (k : Option ℕ). SharesAt c.conn c.files c.under up k (down ++ mail_of n now.mail) (λ ino. shares n ino now.holders)) (sym same) whole_now.1.1.0.0)

    letting_next : Letting n c up down next
    letting_next = letting_send n c up down (connected now x conn) (record { to = x; message = message.ToClient (hello (connected now x conn) x conn) }) (λ to. absurd (true≢false (sym to ∙ isnt))) whole_now.1.1.0.1

    rising_next : Rising T n c up down now → Rising T n c up down next
    rising_next (inl connected_all) = inl (connected_more x conn now.current now.clients connected_all)
    rising_next (inr bounded) = inr (λ ino. subst (λ (k : Option ℕ). BoundAt k (shares n ino now.holders) (Covered c.conn (gone_in c.under) c.files (down ++ mail_of n next.mail) ino) (T n ino)) (sym same)
        (more_mail (λ (p : List ToClient). BoundAt (number_of now.current n) (shares n ino now.holders) (Covered c.conn (gone_in c.under) c.files p ino) (T n ino)) n down now.mail (length now.entries, record { to = x; message = message.ToClient (hello (connected now x conn) x conn) })
        (by_test ino (x == n) isnt (bounded ino))))
      where
        by_test : (ino : Ino) (b : Bool) → b ≡ false → BoundAt (number_of now.current n) (shares n ino now.holders) (Covered c.conn (gone_in c.under) c.files (down ++ mail_of n now.mail) ino) (T n ino) → BoundAt (number_of now.current n) (shares n ino now.holders) (Covered c.conn (gone_in c.under) c.files ((down ++ mail_of n now.mail) ++ cond b (hello (connected now x conn) x conn ∷ []) []) ino) (T n ino)
        by_test ino true isnt_it was = absurd (true≢false isnt_it)
        by_test ino false isnt_it was = subst (λ (p : List ToClient). BoundAt (number_of now.current n) (shares n ino now.holders) (Covered c.conn (gone_in c.under) c.files p ino) (T n ino)) (sym (append-nil (down ++ mail_of n now.mail))) was

    owns_with : (o : Option Asked) → Owns T n c up down next → Owns T n c up down (take_in_brought next o)
    owns_with None owns = owns
    owns_with (Some a) owns = owns

    flushes_with : (o : Option Asked) → Flushes n c up down next → Flushes n c up down (take_in_brought next o)
    flushes_with None kept = kept
    flushes_with (Some a) kept = kept

    knows_with : (o : Option Asked) → BroughtCap next.entries o → Knows (take_in_brought next o)
    knows_with None cap = welcome_knows x conn now whole_now.0.0
    knows_with (Some a) cap = take_in_knows next a cap (welcome_knows x conn now whole_now.0.0)

    treats : (o : Option (ℕ × Request)) → BroughtCap next.entries (brought x o) → Fit (Fine n c) (take_in_brought next (brought x o)) (treat_brought (take_in_brought next (brought x o)) (brought x o))
    treats None cap = tt
    treats (Some r) cap =
        let a = asked_by x r.0 r.1 in
        both_fit (Fits n) (MyFit n c) (treat false (take_in next a) a) (take_in next a)
        (ruled_fit (Fits n) (ruled n) (treat false (take_in next a) a) (take_in next a) (ruled_treat (take_in next a) false a cap))
        (treat_my n c (take_in next a) false a (λ b at. hand_of next a b (is_operation next a) at) (λ at. absurd (true≢false (sym at ∙ isnt))))

    taken : BroughtCap s.entries (brought x asked) → Server's (Owns T) n c up down (connect_with (back s x conn said flushes (brought x asked)) (brought x asked))
    taken cap =
        let more = grown_all (come_back s x said flushes) s in
        let cap_now : BroughtCap next.entries (brought x asked) = subst (λ (l : List Entry). BroughtCap l (brought x asked)) (sym more.1) (brought_more s.entries more.0 (brought x asked) cap) in
        connect_keeps (by_whole T n c up down) (back s x conn said flushes (brought x asked)) (brought x asked) (treats asked cap_now) (
          (knows_with (brought x asked) cap_now, flushes_with (brought x asked) (welcomed_other n x c conn up down now isnt whole_now.0.1)),
          (requested.accepts_other n x c conn asked up down now isnt asks_now, owns_with (brought x asked) ((sharing_next, letting_next), rising_next whole_now.1.1.1)),
        )

other_ask : (T : ℕ → Ino → ℕ) (n x : ℕ) (c : Client) (conn tid : ℕ) (asked : Request) (up : List ToServer) (down : List ToClient) (s : Server) → (x == n) ≡ false → Asking n c up down s → Whole T n c up down s → Server's (Owns T) n c up down (on_take s x (Ask conn tid asked))
other_ask T n x c conn tid asked up down s isnt asks whole =
    row_if (Server's (Owns T) n c up down) (is_current s x conn && knows_asked s asked) (ask s (asked_by x tid asked)) (drops s)
    (λ may. taken (knows_cap s asked (and_true (is_current s x conn) (knows_asked s asked) may).1)) (hands_owns T n c up down s whole)
  where
    taken : CapAt s.entries asked → Server's (Owns T) n c up down (ask s (asked_by x tid asked))
    taken cap =
        let a = asked_by x tid asked in
        let t = take_in s a in
        row_keeps (by_whole T n c up down) t (treat false t a)
        (both_fit (Fits n) (MyFit n c) (treat false t a) t (ruled_fit (Fits n) (ruled n) (treat false t a) t (ruled_treat t false a cap)) (treat_my n c t false a (λ b at. hand_of s a b (is_operation s a) at) (λ at. absurd (true≢false (sym at ∙ isnt)))))
        ((take_in_knows s a cap whole.0.0, whole.0.1), (requested.asks_other n x c tid asked up down s isnt asks, whole.1.1))

other : (T : ℕ → Ino → ℕ) (n x : ℕ) (c : Client) (m : ToServer) (up : List ToServer) (down : List ToClient) (s : Server) → (x == n) ≡ false → Before T n c up down s → Server's (Owns T) n c up down (on_take s x m)
other T n x c (Connect conn said flushes asked) up down s isnt b = other_connect T n x c conn said flushes asked up down s isnt (asks_of T n c up down s b) (whole_of T n c up down s b)
other T n x c (Ask conn tid asked) up down s isnt b = other_ask T n x c conn tid asked up down s isnt (asks_of T n c up down s b) (whole_of T n c up down s b)
other T n x c (Flush conn f) up down s isnt b = take_flush (by_whole T n c up down) s x conn f (whole_of T n c up down s b)
    (both_fit (Fits n) (MyFit n c) (flush_rule x s f) s (flushing_fit (Fits n) x (flushed n x isnt) (flush_rule x s f) s (flushing_flush x s f)) (flush_other n x c isnt s f))
other T n x c (DropRead conn ino) up down s isnt b = take_drop (by_whole T n c up down) s x conn ino (whole_of T n c up down s b)
    (both_fit (Fits n) (MyFit n c) (on_drop x s ino) s (ruled_fit (Fits n) (ruled n) (on_drop x s ino) s (ruled_drop x s ino)) (drop_other n x c isnt s ino))
other T n x c (Purged id) up down s isnt b = take_purged (by_whole T n c up down) s x id (whole_of T n c up down s b)
other T n x c (Deleted ino) up down s isnt b = take_deleted (by_whole T n c up down) s x ino (whole_of T n c up down s b)

durable_whole : (T : ℕ → Ino → ℕ) (n : ℕ) (c : Client) (up : List ToServer) (down : List ToClient) (s : Server) → Whole T n c up down s → Whole T n c up down (record s { durable = length s.entries })
durable_whole T n c up down s q = (
  (durable_knows s q.0.0, flushes_durable n c up down s q.0.1),
  (q.1.0, ((q.1.1.0.0, record { held = λ ino. held ino (q.1.1.0.1.held ino); coming = later down q.1.1.0.1.coming; post = q.1.1.0.1.post }), q.1.1.1)),
)
  where
    now : last_flush (take (length s.entries) s.entries) n ≡ last_flush s.entries n
    now = ap (λ (l : List Entry). last_flush l n) (take-length s.entries)

    less : last_flush (take s.durable s.entries) n ≤ last_flush (take (length s.entries) s.entries) n
    less = let e = now in let few = last_take n s.durable s.entries q.0.1.counted in omega (arith, e, few)

    held : (ino : Ino) → (has ino c.files ≡ 0) ⊎ AllReleased ino (last_flush (take s.durable s.entries) n) c.unacked → (has ino c.files ≡ 0) ⊎ AllReleased ino (last_flush (take (length s.entries) s.entries) n) c.unacked
    held ino (inl z) = inl z
    held ino (inr all) = inr (released_more ino (last_flush (take s.durable s.entries) n) (last_flush (take (length s.entries) s.entries) n) c.unacked less all)

    later : (p : List ToClient) → DownAfter c.conn (gone_in c.under) c.unacked (last_flush (take s.durable s.entries) n) p → DownAfter c.conn (gone_in c.under) c.unacked (last_flush (take (length s.entries) s.entries) n) p
    later p all = after_more c.conn (gone_in c.under) c.unacked (last_flush (take s.durable s.entries) n) (last_flush (take (length s.entries) s.entries) n) less p all

left_whole : (T : ℕ → Ino → ℕ) (n : ℕ) (c : Client) (up : List ToServer) (down : List ToClient) (s : Server) (k : ℕ) → nat_le k (buffered s) ≡ true → Before T n c up down s → Whole T n c up down (left_with s (s.durable + k))
left_whole T n c up down s k fits b = (
  (left_knows s k fits b.0.0.0.1.0, flushes_survive n c up down s k fits b.0.0.1),
  (
    requested.survives n c up down s k fits (asks_of T n c up down s b),
    (
      (
        record { cover = tt; dropped = tt; lets = b.1.0.1.0.lets; frees = b.1.0.1.0.frees; grants = subst (AllGrants c.conn c.under) (sym (append-nil down)) (grants_front down b.1.0.1.0.grants); writers = tt; says = subst (AllSay c.conn (gone_in c.under) c.files) (sym (append-nil down)) (say_front down b.1.0.1.0.says) },
        record { held = λ ino. held ino (b.1.0.1.1.held ino); coming = after_more c.conn (gone_in c.under) c.unacked (last_flush (take s.durable s.entries) n) (last_flush (take (s.durable + k) (take (s.durable + k) s.entries)) n) less down b.1.0.1.1.coming; post = tt },
      ),
      inr (λ ino. (omega arith, subst (λ (p : List ToClient). Covered c.conn (gone_in c.under) c.files p ino (T n ino)) (sym (append-nil down)) (bound ino (number_of s.current n) b.1.0.1.0.cover (b.1.1.1 ino)))),
    ),
  ),
)
  where
    less : last_flush (take s.durable s.entries) n ≤ last_flush (take (s.durable + k) (take (s.durable + k) s.entries)) n
    less = let same = ap (λ (l : List Entry). last_flush l n) (take_take (s.durable + k) (s.durable + k) s.entries (omega arith) (room k s fits b.0.0.1.fits)) in let low = last_longer n s.durable (s.durable + k) s.entries (omega arith) (room k s fits b.0.0.1.fits) b.0.0.1.counted in omega (arith, same, low)

    held : (ino : Ino) → (has ino c.files ≡ 0) ⊎ AllReleased ino (last_flush (take s.durable s.entries) n) c.unacked → (has ino c.files ≡ 0) ⊎ AllReleased ino (last_flush (take (s.durable + k) (take (s.durable + k) s.entries)) n) c.unacked
    held ino (inl z) = inl z
    held ino (inr all) = inr (released_more ino (last_flush (take s.durable s.entries) n) (last_flush (take (s.durable + k) (take (s.durable + k) s.entries)) n) c.unacked less all)

    grants_front : (p : List ToClient) → AllGrants c.conn c.under (p ++ mail_of n s.mail) → AllGrants c.conn c.under p
    grants_front [] all = tt
    grants_front (m ∷ p) all = (all.0, grants_front p all.1)

    say_front : (p : List ToClient) → AllSay c.conn (gone_in c.under) c.files (p ++ mail_of n s.mail) → AllSay c.conn (gone_in c.under) c.files p
    say_front [] all = tt
    say_front (m ∷ p) all = (all.0, say_front p all.1)

    bound : (ino : Ino) (o : Option ℕ) → CoverBy (Covered c.conn (gone_in c.under) c.files (down ++ mail_of n s.mail)) (λ x. shares n x s.holders) o → BoundAt o (shares n ino s.holders) (Covered c.conn (gone_in c.under) c.files (down ++ mail_of n s.mail) ino) (T n ino) → Covered c.conn (gone_in c.under) c.files down ino (T n ino)
    bound ino None cover most = (most.1.0, give_front c.conn (gone_in c.under) ino (T n ino) down (mail_of n s.mail) most.1.1)
    bound ino (Some j) cover most = ((let one = (cover ino).0 in omega (arith, one, most)), give_front c.conn (gone_in c.under) ino (T n ino) down (mail_of n s.mail) (give_more c.conn (gone_in c.under) ino (shares n ino s.holders) (T n ino) (down ++ mail_of n s.mail) most (cover ino).1))

turn_fine : (n : ℕ) (c : Client) (s : Server) (o : Option (List Act)) → IfSome o (Fit (Fits n) s) → IfSome o (Fit (MyFit n c) s) → IfSome o (Fit (Fine n c) s)
turn_fine n c s None one two = tt
turn_fine n c s (Some list) one two = both_fit (Fits n) (MyFit n c) list s one two

-- The rows of the client. What is open for Write is given for Write by its answer.
pub wants_open : (ino : Ino) (under : Under) → open_request under ≡ None → wants_write ino under ≡ true → ⊥
wants_open ino Idle none wants = true≢false (sym wants)
wants_open ino (AtStore number entry file head) none wants = true≢false (sym wants)
wants_open ino (Open number tid text asked gone) none wants = cc

pub wants_cap : (ino : Ino) (under : Under) → IfSome (open_request under) (λ r. asks_capability r.1 ≡ false) → wants_write ino under ≡ true → ⊥
wants_cap ino (Open number tid text (request.Cap file mode) gone) not_cap wants = true≢false not_cap
wants_cap ino under not_cap wants = true≢false (sym wants)

write_given : (x ino : Ino) (mode : Mode) (under : Under) → IsAsked under ino mode → wants_write x under ≡ true → (is_ino x ino ≡ true) × (rank mode ≡ 2)
write_given x ino mode Idle asked wants = absurd asked
write_given x ino mode (AtStore number entry file head) asked wants = absurd asked
write_given x ino mode (Open number tid text wanted gone) asked wants = by_mode mode (both_true (is_ino x ino) (is_write mode) (sym (ap (asks_write x) asked) ∙ wants))
  where
    by_mode : (m : Mode) → (is_ino x ino ≡ true) × (is_write m ≡ true) → (is_ino x ino ≡ true) × (rank m ≡ 2)
    by_mode Read parts = absurd (true≢false (sym parts.1))
    by_mode Write parts = (parts.0, refl)

write_gain : (c : Client) (m : ToClient) → IsOwn c m → NoReplyToCap c.conn (open_request c.under) m → GrantAt c.conn c.under m → (ino : Ino) → wants_write ino c.under ≡ true → 2 ≤ gain_of c m ino
write_gain c (Reply conn tid st said) own_now not_cap grant ino wants = absurd (wants_cap ino c.under (not_cap (same own_now.0)) wants)
  where
    same : Number conn ≡ Number c.conn → (conn == c.conn) ≡ true
    same is = let e : conn ≡ c.conn = cc in grind (arith, nat_tests, e)
write_gain c (Grant conn tid st file mode size trace) own_now not_cap grant ino wants =
    let given = write_given ino file mode c.under (grant (same own_now.0)) wants in by_tests (conn == c.conn) (is_ino ino file) (same own_now.0) given.0 given.1
  where
    same : Number conn ≡ Number c.conn → (conn == c.conn) ≡ true
    same is = let e : conn ≡ c.conn = cc in grind (arith, nat_tests, e)

    by_tests : (b d : Bool) → b ≡ true → d ≡ true → rank mode ≡ 2 → 2 ≤ cond (b && d) (rank mode) 0
    by_tests true true one two is = omega (arith, is)
    by_tests true false one two is = absurd (true≢false (sym two))
    by_tests false d one two is = absurd (true≢false (sym one))
write_gain c m own_now not_cap grant ino wants = let one = own_now.1 0 in absurd (omega (arith, one))

after_lent : (T : ℕ → Ino → ℕ) (n : ℕ) (c : Client) (up : List ToServer) (down p : List ToClient) (s : Server) (r : Row Client) → Lent (number_of s.current n) c.conn c.files c.under up p r.state (up ++ for_server r.sent) (down ++ mail_of n s.mail) → Letting n r.state (up ++ for_server r.sent) down s → Distinct r.state.files
    → SharesAt c.conn c.files c.under up (number_of s.current n) p (λ ino. shares n ino s.holders) → ((ino : Ino) → BoundAt (number_of s.current n) (shares n ino s.holders) (Covered c.conn (gone_in c.under) c.files p ino) (T n ino)) → Client's (After T) n up down s r
after_lent T n c up down p s r lent letting once was bounded = (
  (once, (shares_lent c.conn c.files c.under up p r.state (up ++ for_server r.sent) (down ++ mail_of n s.mail) (number_of s.current n) (λ ino. shares n ino s.holders) lent was, letting)),
  inr (λ ino. by_number ino (number_of s.current n) (bounded ino)),
)
  where
    by_number : (ino : Ino) (o : Option ℕ) → BoundAt o (shares n ino s.holders) (Covered c.conn (gone_in c.under) c.files p ino) (T n ino) → BoundAt o (shares n ino s.holders) (Covered r.state.conn (gone_in r.state.under) r.state.files (down ++ mail_of n s.mail) ino) (T n ino)
    by_number ino None most = (most.0, lent.covers ino (T n ino) most.1)
    by_number ino (Some j) most = most

both_some : {X : Type 0} (o : Option X) (P Q R : X → Type 0) → ((x : X) → P x → Q x → R x) → IfSome o P → IfSome o Q → IfSome o R
both_some None P Q R go p q = tt
both_some (Some x) P Q R go p q = go x p q

quiet_after : (T : ℕ → Ino → ℕ) (n : ℕ) (c : Client) (up : List ToServer) (down : List ToClient) (s : Server) (r : Row Client) → Quiet c r → KeepsReleased c r → Before T n c up down s → Client's (After T) n up down s r
quiet_after T n c up down s r quiet keeps b = let p = down ++ mail_of n s.mail in let sh = b.1.0.1.0 in let le = b.1.0.1.1 in
    after_lent T n c up down p s r (quiet_lent (number_of s.current n) c r up p p quiet (same_less c.conn p) sh.lets sh.frees sh.grants sh.says) (quiet_letting n c r down s.entries s.durable s.mail quiet keeps le.held le.coming le.post) (quiet.once b.1.0.0) sh b.1.1.1

ends_after : (T : ℕ → Ino → ℕ) (n : ℕ) (c : Client) (up : List ToServer) (down : List ToClient) (s : Server) (r : Row Client) → open_request c.under ≡ None → Ends c nothing r → KeepsReleased c r → Before T n c up down s → Client's (After T) n up down s r
ends_after T n c up down s r open_none ends keeps b = let p = down ++ mail_of n s.mail in let sh = b.1.0.1.0 in let le = b.1.0.1.1 in
    let none = (none_open n c up p s open_none b.0.1.0).answered in
    after_lent T n c up down p s r (ends_lent (number_of s.current n) c nothing r up p p ends (λ ino wants. absurd (wants_open ino c.under open_none wants)) (λ ino most all. omega arith) none) (ends_letting n c nothing r down s.entries s.durable s.mail ends keeps (λ ino. inl refl) none le.held le.coming le.post) (ends.once b.1.0.0) sh b.1.1.1

asks_after : (T : ℕ → Ino → ℕ) (n : ℕ) (c : Client) (up : List ToServer) (down : List ToClient) (s : Server) (r : Row Client) → open_request c.under ≡ None → AsksNow c r → KeepsReleased c r → Before T n c up down s → Client's (After T) n up down s r
asks_after T n c up down s r open_none a keeps b = let p = down ++ mail_of n s.mail in let sh = b.1.0.1.0 in let le = b.1.0.1.1 in
    let none = (none_open n c up p s open_none b.0.1.0).answered in
    after_lent T n c up down p s r (asks_lent (number_of s.current n) c r up p p a (λ ino wants. absurd (wants_open ino c.under open_none wants)) sh.frees none) (asks_letting n c r down s.entries s.durable s.mail a keeps none le.held le.coming le.post) (rw a.files b.1.0.0) sh b.1.1.1

returns_after : (T : ℕ → Ino → ℕ) (n : ℕ) (c : Client) (up : List ToServer) (down : List ToClient) (s : Server) (r : Row Client) → Returns c r → KeepsReleased c r → Before T n c up down s → Client's (After T) n up down s r
returns_after T n c up down s r back_now keeps b = let p = down ++ mail_of n s.mail in let sh = b.1.0.1.0 in let le = b.1.0.1.1 in let link = b.0.0.0.0.1 in
    let none = old_answered (c.conn + 1) p (link_old (offer c) up (number_of s.current n) p link) in
    after_lent T n c up down p s r (returns_lent (number_of s.current n) c r (offer c) link.base up p p refl link.up back_now sh.frees none) (returns_letting n c r down s.entries s.durable s.mail back_now keeps none le.held le.coming le.post) (rw back_now.files b.1.0.0) sh b.1.1.1

let_go_after : (T : ℕ → Ino → ℕ) (n : ℕ) (c : Client) (up : List ToServer) (down : List ToClient) (s : Server) (r : Row Client) → c.frozen ≡ false → LetsGo c r → KeepsReleased c r → Before T n c up down s → Client's (After T) n up down s r
let_go_after T n c up down s r free go keeps b = let p = down ++ mail_of n s.mail in let sh = b.1.0.1.0 in let le = b.1.0.1.1 in
    after_lent T n c up down p s r (let_go_lent (number_of s.current n) c r up p go (λ j is. subst (Same c.conn) is (flowing (offer c) up (number_of s.current n) p free b.0.0.0.0.1).number) b.1.0.0 sh.lets sh.frees sh.grants sh.says (λ none. (none_open n c up p s none b.0.1.0).answered))
    (let_go_letting n c r down s.entries s.durable s.mail go keeps b.1.0.0 sh.frees sh.grants (λ none. (none_open n c up p s none b.0.1.0).answered) le.held le.coming le.post) (rw go.files (distinct_without go.ino c.files b.1.0.0)) sh b.1.1.1

begun_after : (T : ℕ → Ino → ℕ) (n : ℕ) (c : Client) (up : List ToServer) (down : List ToClient) (s : Server) (r : Row Client) → open_request c.under ≡ None → Begun c r → KeepsReleased c r → Before T n c up down s → Client's (After T) n up down s r
begun_after T n c up down s r none (inl quiet) keeps b = quiet_after T n c up down s r quiet keeps b
begun_after T n c up down s r none (inr (inl ends)) keeps b = ends_after T n c up down s r none ends keeps b
begun_after T n c up down s r none (inr (inr (inl a))) keeps b = asks_after T n c up down s r none a keeps b
begun_after T n c up down s r none (inr (inr (inr back_now))) keeps b = returns_after T n c up down s r back_now keeps b

op_after : (T : ℕ → Ino → ℕ) (n : ℕ) (c : Client) (up : List ToServer) (down : List ToClient) (s : Server) (r : Row Client) → Opens c r → KeepsReleased c r → Before T n c up down s → Client's (After T) n up down s r
op_after T n c up down s r (inl back_now) keeps b = returns_after T n c up down s r back_now keeps b
op_after T n c up down s r (inr begun) keeps b = begun_after T n c up down s r begun.0 begun.1 keeps b

flush_after : (T : ℕ → Ino → ℕ) (n : ℕ) (c : Client) (up : List ToServer) (down : List ToClient) (s : Server) (r : Row Client) → (c.frozen ≡ false) × (Quiet c r ⊎ LetsGo c r) → KeepsReleased c r → Before T n c up down s → Client's (After T) n up down s r
flush_after T n c up down s r sent keeps b = either sent.1
  where
    either : Quiet c r ⊎ LetsGo c r → Client's (After T) n up down s r
    either (inl quiet) = quiet_after T n c up down s r quiet keeps b
    either (inr go) = let_go_after T n c up down s r sent.0 go keeps b

closes_after : (T : ℕ → Ino → ℕ) (n : ℕ) (c : Client) (up : List ToServer) (down : List ToClient) (s : Server) (r : Row Client) → Closes c r → KeepsReleased c r → Before T n c up down s → Client's (After T) n up down s r
closes_after T n c up down s r (inl quiet) keeps b = quiet_after T n c up down s r quiet keeps b
closes_after T n c up down s r (inr ends) keeps b = ends_after T n c up down s r ends.0 ends.1 keeps b

told_after : (T : ℕ → Ino → ℕ) (n : ℕ) (c : Client) (up : List ToServer) (m : ToClient) (down : List ToClient) (s : Server) (r : Row Client) → ToldLends c m r → KeepsReleased c r → Before T n c up (m ∷ down) s → Client's (After T) n up down s r
told_after T n c up m down s r told keeps b = by_kind told
  where
    q : List ToClient
    q = down ++ mail_of n s.mail

    sh : Sharing n c up (m ∷ down) s
    sh = b.1.0.1.0

    le : Letting n c up (m ∷ down) s
    le = b.1.0.1.1

    link : Link (offer c) up (number_of s.current n) (m ∷ q)
    link = b.0.0.0.0.1

    none : IsOwn c m → answers c.conn q ≡ 0
    none here = (answered_all n c up m q s here.1 (flows_none (offer c) up (number_of s.current n) (m ∷ q) link (now_flows (offer c) up (number_of s.current n) m q here.0 link).base) b.0.1.0).answered

    by_kind : ToldLends c m r → Client's (After T) n up down s r
    by_kind (inl quiet) = after_lent T n c up down (m ∷ q) s r (quiet_lent (number_of s.current n) c r up (m ∷ q) q quiet (tail_less c.conn m q) sh.lets sh.frees sh.grants sh.says) (quiet_letting n c r down s.entries s.durable s.mail quiet keeps le.held le.coming.1 le.post) (quiet.once b.1.0.0) sh b.1.1.1
    by_kind (inr (inl here)) = by_answer here.0 here.1
      where
        by_answer : IsOwn c m → Ends c (gain_of c m) r ⊎ (AsksNow c r × WantsStill c r) → Client's (After T) n up down s r
        by_answer own_now (inl ends) = after_lent T n c up down (m ∷ q) s r (ends_lent (number_of s.current n) c (gain_of c m) r up (m ∷ q) q ends (λ ino wants. write_gain c m own_now b.0.1.1.1.0 sh.grants.0 ino wants) (λ ino most all. all.0) (none own_now)) (ends_letting n c (gain_of c m) r down s.entries s.durable s.mail ends keeps (λ ino. le.coming.0 ino) (none own_now) le.held le.coming.1 le.post) (ends.once b.1.0.0) sh b.1.1.1
        by_answer own_now (inr a) = after_lent T n c up down (m ∷ q) s r (asks_lent (number_of s.current n) c r up (m ∷ q) q a.0 a.1 sh.frees (none own_now)) (asks_letting n c r down s.entries s.durable s.mail a.0 keeps (none own_now) le.held le.coming.1 le.post) (rw a.0.files b.1.0.0) sh b.1.1.1
    by_kind (inr (inr back_now)) = let old = old_answered (c.conn + 1) q (link_old (offer c) up (number_of s.current n) (m ∷ q) link).1 in
        after_lent T n c up down (m ∷ q) s r (returns_lent (number_of s.current n) c r (offer c) link.base up (m ∷ q) q refl link.up back_now sh.frees old) (returns_letting n c r down s.entries s.durable s.mail back_now keeps old le.held le.coming.1 le.post) (rw back_now.files b.1.0.0) sh b.1.1.1

pub sharers : (T : ℕ → Ino → ℕ) → GivenByRows (Before T) (After T)
sharers T = record {
  weak = λ n c up down s b. (b.1.0, inr b.1.1.1);
  op = λ n c up down s b. both_some (on_op c) (λ r. (c.frozen ≡ false) × Opens c r) (Stays (take s.durable s.entries) c) (Client's (After T) n up down s) (λ r opens stays. op_after T n c up down s r opens.1 (stays_released (take s.durable s.entries) c r stays) b) (op_opens c c.lines) (op_stays (take s.durable s.entries) c c.lines b.0.0.0.1.1.holds);
  flush = λ n c up down s b. both_some (on_flush c) (λ r. (c.frozen ≡ false) × (Quiet c r ⊎ LetsGo c r)) (λ r. (c.frozen ≡ false) × Sends (take s.durable s.entries) c r) (Client's (After T) n up down s) (λ r lends sends. flush_after T n c up down s r lends (sends_released (take s.durable s.entries) c r sends.1) b) (flush_lends c b.1.0.0) (flush_sends (take s.durable s.entries) c b.0.0.0.1.1.holds);
  told = λ n c up m down s b. told_after T n c up m down s (on_told c m) (told_lends c m b.1.0.1.0.frees) (takes_released (take s.durable s.entries) c m (on_told c m) (told_takes (take s.durable s.entries) c m b.0.0.0.1.1.down.0 b.0.0.0.1.1.holds)) b;
  stored = λ n c m up down s b. closes_after T n c up down s (on_stored c m) (stored_closes c m) (stays_released (take s.durable s.entries) c (on_stored c m) (stored_stays (take s.durable s.entries) c m b.0.0.0.1.1.holds)) b;
  own = λ n c m up down s b. to_after n c up down (on_take s n m) b.1.0.0 (own T n c m up down s b);
  other = λ n x c m up down s isnt b. to_after n c up down (on_take s x m) b.1.0.0 (other T n x c m up down s isnt b);
  reported = λ n c m up down s b. to_after n c up down (on_report s m) b.1.0.0 (row_keeps (by_whole T n c up down) s (reported s m) (both_fit (Fits n) (MyFit n c) (reported s m) s (ruled_fit (Fits n) (ruled n) (reported s m) s (ruled_reported s m)) (reported_my n c s m)) (whole_of T n c up down s b));
  committed = λ n c up down s b. some_after n c up down (on_commit s) b.1.0.0 (commit_keeps {Q = Whole T n c up down} {After = Server's (Owns T) n c up down} (λ r e after. after) (hands_owns T n c up down) s (durable_whole T n c up down s (whole_of T n c up down s b)));
  tended = λ n c up down s b. some_after n c up down (on_tend s) b.1.0.0 (turn_keeps (by_whole T n c up down) s (turn_fine n c s (turn s) (turn_fit n s b.0.0.0.1.0) (turn_my n c s b.0.1.0.in_deferred)) (whole_of T n c up down s b));
  restarted = λ n c up down s k b. some_after n c up down (on_restart s k) b.1.0.0 (restart_keeps (λ r e after. after) (by_whole T n c up down) s k (λ fits. (
    left_whole T n c up down s k fits b,
    both_fit (Fits n) (MyFit n c) (restarts (left_with s (s.durable + k))) (left_with s (s.durable + k)) (ruled_fit (Fits n) (ruled n) (restarts (left_with s (s.durable + k))) (left_with s (s.durable + k)) (ruled_restarts (left_with s (s.durable + k)))) (restarts_my n c (left_with s (s.durable + k))),
  )));
}
  where
    to_after : (n : ℕ) (c : Client) (up : List ToServer) (down : List ToClient) (r : Row Server) → Distinct c.files → Server's (Owns T) n c up down r → Server's (After T) n c up down r
    to_after n c up down r once o = ((once, o.0), o.1)

    some_after : (n : ℕ) (c : Client) (up : List ToServer) (down : List ToClient) (o : Option (Row Server)) → Distinct c.files → IfSome o (Server's (Owns T) n c up down) → IfSome o (Server's (After T) n c up down)
    some_after n c up down None once o = tt
    some_after n c up down (Some r) once o = ((once, o.0), o.1)

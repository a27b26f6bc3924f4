-- What covers what a client holds, each act of the server keeps.
use Rattle.std.proofs.Common.{◌≡◌, ◌≤◌, ℕ, zero, suc, ◌+◌, List, [], ◌∷◌, ◌++◌, map, length, length-append, Bool, true, false, true≢false, not, cond, filter, Option, None, Some, refl, sym, ap, ◌∙◌, subst, arith, ◌⊎◌, inl, inr}
use Rattle.std.proofs.lemmas.List.{append-nil, take-append-le}
use Rattle.std.proofs.Math.Seq.{take-length}
use Rattle.std.proofs.lemmas.Bool.Decides.{nat_tests}
use Rattle.std.specs.Prelude.{◌==◌, ◌&&◌, max, nat_lt}
use Rattle.std.specs.List.{list_any}
use Rattle.snap_ids.specs.declared.id.Ino.{Ino}
use Rattle.snap_ids.specs.declared.values.Mode.{Mode}
use Rattle.snap_ids.specs.declared.values.Mode.TheVariants.{Read, Write}
use Rattle.plain_types.specs.declared.answer.Answer.{Answer}
use Rattle.plain_types.specs.declared.answer.Answer.TheVariants as answer
use Rattle.plain_types.specs.declared.entry.Entry.{Entry}
use Rattle.plain_types.specs.declared.entry.What.{What}
use Rattle.plain_types.specs.declared.history.Sent.{Sent}
use Rattle.plain_types.specs.declared.message.FileTrace.{FileTrace}
use Rattle.plain_types.specs.declared.message.FlushMsg.{FlushMsg}
use Rattle.plain_types.specs.declared.message.Message.TheVariants as message
use Rattle.plain_types.specs.declared.message.Stamp.{Stamp}
use Rattle.plain_types.specs.declared.message.ToClient.{ToClient}
use Rattle.plain_types.specs.declared.message.ToClient.TheVariants.{Reply, Grant, Restarted}
use Rattle.plain_types.specs.declared.message.ToServer.{ToServer}
use Rattle.plain_types.specs.declared.message.ToServer.TheVariants.{Ask, Flush}
use Rattle.plain_types.specs.declared.message.ToStore.{ToStore}
use Rattle.plain_types.specs.declared.message.ToStore.TheVariants.{Purge, Delete}
use Rattle.plain_types.specs.declared.request.Request.{Request}
use Rattle.plain_types.specs.declared.request.Request.TheVariants as request
use Rattle.plain_journal.specs.Coverage.{context}
use Rattle.plain_journal.specs.Table.{last_flush}
use Rattle.plain_tree.specs.State.{same_ino}
use Rattle.held_files.specs.Files.{HeldFiles, is_ino, is_write}
use Rattle.step_table.specs.ServerState.{Asked, Holder, Server, Told, Answered, Granted, WantedBack, Changed, Acked, message_of, tell, tell_at, number_of, up_to, all_connected, stamp, send, send_client, is_holder}
use Rattle.step_table.specs.Acts.{Act, TellRecall, TellAck, TellRestart, AnswerIt, GrantIt, MakeEffect, Prepare, Buffer, SendPurge, SendDelete, Hold, Raise, MarkRecalled, Settled, LetGo, LetAllGo, act, of_client, as_list, raised, recalled, settled, answer_hand, grant_hand, effect_hand, buffer_for, written_down, prepare_hand, entry_for, buffer}
use Rattle.step_table.specs.ClientState.{Client, Under, Idle, Open, AtStore, open_request}
use Rattle.run_laws.specs.FlushNumbers.{above, flushes_of}
use Rattle.run_laws.specs.Links.{mail_of}
use Rattle.run_laws.specs.Requests.{IsIt, AllOf, count, asks, answers, Requested}
use Rattle.run_laws.specs.Stamps.{told_by}
use Rattle.run_laws.specs.Tenures.{AllReleased, gone_in, is_gone, is_release, wants_write}
use Rattle.run_laws.specs.LetGo.{is_drop, is_cap, AllLet, Lets, IsAsked, GrantAt, AllGrants}
use Rattle.run_laws.proofs.Acts.{notices_keep}
use Rattle.run_laws.proofs.Holders.{or_false}
use Rattle.run_laws.proofs.Lending.{gone_same}
use Rattle.run_laws.proofs.Linked.{more_mail}
use Rattle.run_laws.proofs.Parting.{either_true}
use Rattle.run_laws.proofs.Shares.{rank, has, share, shares, found_in, gives, give_append, give_more, both_true, or_none, shares_end, shares_same, shares_others, shares_raised, raised_either}
use Rattle.run_laws.proofs.Sharing.{CapFree, Frees, GivesAfter, DownAfter, ToldAfter, MailAfter, Covered, CoverBy, DroppedBy, SharesAt, Says, SaysIn, SaysAt, AllSay, Writes, WritersBy, writers_go, Sharing, Letting}
use Rattle.run_laws.proofs.Taking.{Way}

-- the request in hand is the open one, and none is on the way
pub handed : (n : ℕ) (c : Client) (up : List ToServer) (down : List ToClient) (s : Server) (a : Asked) → Requested n c up down s → s.hand ≡ Some a → of_client n a ≡ true → IsIt (open_request c.under) a.tid a.request × (asks up ≡ 0)
handed n c up down s a r is at = (all.0 at, omega (arith, few, here))
  where
    all : AllOf n (open_request c.under) (a ∷ [])
    all = subst (λ (h : Option Asked). AllOf n (open_request c.under) (as_list h)) is r.in_hand

    few : asks up + (count n (a ∷ []) + count n s.held + count n s.deferred + count n (as_list s.operation)) + answers r.base (down ++ mail_of n s.mail) ≤ 1
    few = subst (λ (h : Option Asked). asks up + (count n (as_list h) + count n s.held + count n s.deferred + count n (as_list s.operation)) + answers r.base (down ++ mail_of n s.mail) ≤ 1) is r.one

    here : count n (a ∷ []) ≡ 1
    here = rw at (omega arith)

-- what was let go on the way, where no request is on the way
asks_tail : (m : ToServer) (up : List ToServer) → asks (m ∷ up) ≡ 0 → asks up ≡ 0
asks_tail (Ask conn tid asked) up none = absurd (omega (arith, none))
asks_tail m up none = none

let_dropped : (conn : ℕ) (asked : Request) (gone : List Ino) (ino : Ino) (up : List ToServer) → AllLet conn asked gone up → asks up ≡ 0 → list_any (is_drop conn ino) up ≡ true → is_gone ino gone ≡ true
let_dropped conn asked gone ino [] all none any = absurd (true≢false (sym any))
let_dropped conn asked gone ino (m ∷ up) all none any = by_place (let_dropped conn asked gone ino up all.1 (asks_tail m up none)) (either_true (is_drop conn ino m) (list_any (is_drop conn ino) up) any)
  where
    by_place : (list_any (is_drop conn ino) up ≡ true → is_gone ino gone ≡ true) → (is_drop conn ino m ≡ true) ⊎ (list_any (is_drop conn ino) up ≡ true) → is_gone ino gone ≡ true
    by_place go (inl is) = (all.0 (asks_tail m up none) ino).0 is
    by_place go (inr is) = go is

pub let_released : (conn : ℕ) (asked : Request) (gone : List Ino) (ino : Ino) (up : List ToServer) → AllLet conn asked gone up → asks up ≡ 0 → list_any (is_release conn ino) up ≡ true → (is_gone ino gone ≡ true) × (is_cap ino asked ≡ false)
let_released conn asked gone ino [] all none any = absurd (true≢false (sym any))
let_released conn asked gone ino (m ∷ up) all none any = by_place (let_released conn asked gone ino up all.1 (asks_tail m up none)) (either_true (is_release conn ino m) (list_any (is_release conn ino) up) any)
  where
    by_place : (list_any (is_release conn ino) up ≡ true → (is_gone ino gone ≡ true) × (is_cap ino asked ≡ false)) → (is_release conn ino m ≡ true) ⊎ (list_any (is_release conn ino) up ≡ true) → (is_gone ino gone ≡ true) × (is_cap ino asked ≡ false)
    by_place go (inl is) = (all.0 (asks_tail m up none) ino).1 is
    by_place go (inr is) = go is

-- what isn't on the way is entered
abbrev pub releases : Ino → FlushMsg → Bool
releases ino f = f.release && is_ino ino f.ino

none_in : (k : ℕ) (ino : Ino) (up : List ToServer) → list_any (is_release k ino) up ≡ false → list_any (releases ino) (flushes_of k up) ≡ false
none_in k ino [] none = refl
none_in k ino (Flush conn f ∷ up) none = let parts = or_false (conn == k && (f.release && is_ino ino f.ino)) (list_any (is_release k ino) up) none in by_test (conn == k) parts.0 (none_in k ino up parts.1)
  where
    by_test : (b : Bool) → (b && (f.release && is_ino ino f.ino)) ≡ false → list_any (releases ino) (flushes_of k up) ≡ false → list_any (releases ino) (cond b (f ∷ flushes_of k up) (flushes_of k up)) ≡ false
    by_test true one rest = or_none (f.release && is_ino ino f.ino) (list_any (releases ino) (flushes_of k up)) one rest
    by_test false one rest = rest
none_in k ino (m ∷ up) none = none_in k ino up (or_false (is_release k ino m) (list_any (is_release k ino) up) none).1

above_none : (ino : Ino) (last : ℕ) (kept : List FlushMsg) → list_any (releases ino) (above last kept) ≡ false → AllReleased ino last kept
above_none ino last [] none = tt
above_none ino last (f ∷ kept) none = by_test (nat_lt last f.number) refl none (above_none ino last kept)
  where
    by_test : (b : Bool) → nat_lt last f.number ≡ b → list_any (releases ino) (cond b (f ∷ above last kept) (above last kept)) ≡ false → (list_any (releases ino) (above last kept) ≡ false → AllReleased ino last kept) → ((f.release && is_ino ino f.ino) ≡ true → f.number ≤ last) × AllReleased ino last kept
    by_test true test none go = let parts = or_false (f.release && is_ino ino f.ino) (list_any (releases ino) (above last kept)) none in ((λ is. absurd (true≢false (sym is ∙ parts.0))), go parts.1)
    by_test false test none go = ((λ is. grind (arith, nat_tests, test)), go none)

pub way_released : (k : ℕ) (ino : Ino) (up : List ToServer) (last : ℕ) (kept : List FlushMsg) → flushes_of k up ≡ above last kept → list_any (is_release k ino) up ≡ false → AllReleased ino last kept
way_released k ino up last kept way none = above_none ino last kept (subst (λ (l : List FlushMsg). list_any (releases ino) l ≡ false) way (none_in k ino up none))

-- A message may be made for the client.
pub record MayGive (conn : ℕ) (files : HeldFiles) (under : Under) (q : List ToServer) (k : Option ℕ) (m : ToClient) (table : Ino → ℕ) : Type 0 where
  pub give : CoverBy (λ ino most. gives conn (gone_in under) ino m ≤ most) table k
  pub drop : DroppedBy (λ ino most. gives conn (gone_in under) ino m ≤ most) q table k
  pub grant : GrantAt conn under m
  pub says : SaysAt conn (gone_in under) files m

grants_end : (conn : ℕ) (under : Under) (p : List ToClient) (m : ToClient) → GrantAt conn under m → AllGrants conn under p → AllGrants conn under (p ++ m ∷ [])
grants_end conn under [] m is all = (is, tt)
grants_end conn under (x ∷ p) m is all = (all.0, grants_end conn under p m is all.1)

say_end : (conn : ℕ) (gone : List Ino) (files : HeldFiles) (p : List ToClient) (m : ToClient) → SaysAt conn gone files m → AllSay conn gone files p → AllSay conn gone files (p ++ m ∷ [])
say_end conn gone files [] m is all = (is, tt)
say_end conn gone files (x ∷ p) m is all = (all.0, say_end conn gone files p m is all.1)

pub sharing_more : (conn : ℕ) (files : HeldFiles) (under : Under) (q : List ToServer) (k : Option ℕ) (p : List ToClient) (table : Ino → ℕ) (m : ToClient) → MayGive conn files under q k m table → SharesAt conn files under q k p table → SharesAt conn files under q k (p ++ m ∷ []) table
sharing_more conn files under q k p table m may was = record { cover = covers k may.give was.cover; dropped = drops k may.drop was.dropped; lets = was.lets; frees = was.frees; grants = grants_end conn under p m may.grant was.grants; writers = was.writers; says = say_end conn (gone_in under) files p m may.says was.says }
  where
    covers : (k : Option ℕ) → CoverBy (λ ino most. gives conn (gone_in under) ino m ≤ most) table k → CoverBy (Covered conn (gone_in under) files p) table k → CoverBy (Covered conn (gone_in under) files (p ++ m ∷ [])) table k
    covers None one all = tt
    covers (Some j) one all = λ ino. ((all ino).0, give_append conn (gone_in under) ino (table ino) p (m ∷ []) (all ino).1 (one ino, tt))

    drops : (k : Option ℕ) → DroppedBy (λ ino most. gives conn (gone_in under) ino m ≤ most) q table k → DroppedBy (Covered conn (gone_in under) files p) q table k → DroppedBy (Covered conn (gone_in under) files (p ++ m ∷ [])) q table k
    drops None one all = tt
    drops (Some j) one all = λ ino any is. ((all ino any is).0, give_append conn (gone_in under) ino 0 p (m ∷ []) (all ino any is).1 (one ino any is, tt))

-- a message that gives nothing
abbrev pub Silent : ToClient → Type 0
Silent (Reply k tid st said) = ⊥
Silent (Grant k tid st ino mode size trace) = ⊥
Silent m = Unit {0}

pub silent_gives : (conn : ℕ) (gone : List Ino) (ino : Ino) (m : ToClient) → Silent m → gives conn gone ino m ≡ 0
silent_gives conn gone ino (Reply k tid st said) is = absurd is
silent_gives conn gone ino (Grant k tid st file mode size trace) is = absurd is
silent_gives conn gone ino m is = refl

silent_grant : (conn : ℕ) (under : Under) (m : ToClient) → Silent m → GrantAt conn under m
silent_grant conn under (Reply k tid st said) is = absurd is
silent_grant conn under (Grant k tid st file mode size trace) is = absurd is
silent_grant conn under m is = tt

silent_says : (conn : ℕ) (gone : List Ino) (files : HeldFiles) (m : ToClient) → Silent m → SaysAt conn gone files m
silent_says conn gone files (Reply k tid st said) is = absurd is
silent_says conn gone files (Grant k tid st ino mode size trace) is = absurd is
silent_says conn gone files m is = tt

pub silent_may : (conn : ℕ) (files : HeldFiles) (under : Under) (q : List ToServer) (k : Option ℕ) (m : ToClient) (table : Ino → ℕ) → Silent m → MayGive conn files under q k m table
silent_may conn files under q k m table is = record { give = gives_at k; drop = drops_at k; grant = silent_grant conn under m is; says = silent_says conn (gone_in under) files m is }
  where
    none : (ino : Ino) (most : ℕ) → gives conn (gone_in under) ino m ≤ most
    none ino most = let zero_now = silent_gives conn (gone_in under) ino m is in omega (arith, zero_now)

    gives_at : (k : Option ℕ) → CoverBy (λ ino most. gives conn (gone_in under) ino m ≤ most) table k
    gives_at None = tt
    gives_at (Some j) = λ ino. none ino (table ino)

    drops_at : (k : Option ℕ) → DroppedBy (λ ino most. gives conn (gone_in under) ino m ≤ most) q table k
    drops_at None = tt
    drops_at (Some j) = λ ino any one. none ino 0

-- the same file by another name of it
pub shares_ino : (n : ℕ) (x ino : Ino) (holders : List Holder) → is_ino x ino ≡ true → shares n x holders ≡ shares n ino holders
shares_ino n x ino [] is = refl
shares_ino n x ino (h ∷ holders) is = let rest = shares_ino n x ino holders is in ap (λ (b : Bool). max (cond (h.client == n && b) (rank h.mode) 0) (shares n x holders)) same ∙ ap (λ (k : ℕ). max (share n ino h) k) rest
  where
    same : same_ino h.ino x ≡ same_ino h.ino ino
    same = grind (arith, nat_tests, is)

-- a capability that was asked for is granted
grant_may : (n conn j : ℕ) (files : HeldFiles) (under : Under) (up : List ToServer) (holders : List Holder) (kept : List FlushMsg) (last tid : ℕ) (st : Stamp) (ino : Ino) (mode : Mode) (size : ℕ) (trace : FileTrace)
    → asks up ≡ 0 → Lets conn under up → Frees files under → flushes_of j up ≡ above last kept → IsAsked under ino mode → rank mode ≤ shares n ino holders → MayGive conn files under up (Some j) (Grant j tid st ino mode size trace) (λ x. shares n x holders) × GivesAfter conn (gone_in under) kept last (Grant j tid st ino mode size trace)
grant_may n conn j files Idle up holders kept last tid st ino mode size trace none lets frees way asked less = absurd asked
grant_may n conn j files (AtStore number entry file head) up holders kept last tid st ino mode size trace none lets frees way asked less = absurd asked
grant_may n conn j files (Open number open_tid text wanted gone) up holders kept last tid st ino mode size trace none lets frees way asked less = (record { give = give; drop = drop; grant = λ same. asked; says = tt }, λ x. by_release (j == conn) refl x)
  where
    give : (x : Ino) → cond (j == conn && is_ino x ino) (rank mode) 0 ≤ shares n x holders
    give x = by_tests (j == conn) (is_ino x ino) refl
      where
        by_tests : (b d : Bool) → is_ino x ino ≡ d → cond (b && d) (rank mode) 0 ≤ shares n x holders
        by_tests true true is = let same = shares_ino n x ino holders is in let few = less in omega (arith, same, few)
        by_tests true false is = omega arith
        by_tests false d is = omega arith

    same_conn : (j == conn) ≡ true → j ≡ conn
    same_conn test = grind (arith, nat_tests, test)

    gone_now : (j == conn) ≡ true → (x : Ino) → list_any (is_drop j x) up ≡ true → is_gone x gone ≡ true
    gone_now test x any = let_dropped conn wanted gone x up lets none (subst (λ (i : ℕ). list_any (is_drop i x) up ≡ true) (same_conn test) any)

    by_mode : (m : Mode) → mode ≡ m → (x : Ino) → is_ino x ino ≡ true → is_gone x gone ≡ true → shares n x holders ≡ 1 → rank m ≤ 0
    by_mode Read is x at gone_x one = absurd (true≢false (sym gone_x ∙ gone_same x ino gone at ∙ (subst (CapFree files gone) (asked ∙ ap (λ (m : Mode). request.Cap ino m) is) frees.1).1))
    by_mode Write is x at gone_x one = let same = shares_ino n x ino holders at in let few : 2 ≤ shares n ino holders = subst (λ (m : Mode). rank m ≤ shares n ino holders) is less in absurd (omega (arith, same, few, one))

    drop : (x : Ino) → list_any (is_drop j x) up ≡ true → shares n x holders ≡ 1 → cond (j == conn && is_ino x ino) (rank mode) 0 ≤ 0
    drop x any one = by_tests (j == conn) (is_ino x ino) refl refl
      where
        by_tests : (b d : Bool) → (j == conn) ≡ b → is_ino x ino ≡ d → cond (b && d) (rank mode) 0 ≤ 0
        by_tests true true test is = by_mode mode refl x is (gone_now test x any) one
        by_tests true false test is = omega arith
        by_tests false d test is = omega arith

    by_release : (b : Bool) → (j == conn) ≡ b → (x : Ino) → (cond (j == conn && is_ino x ino) (rank mode) 0 ≡ 0) ⊎ AllReleased x last kept
    by_release false test x = inl (rw test refl)
    by_release true test x = by_any (list_any (is_release j x) up) refl
      where
        not_it : is_cap x wanted ≡ false → is_ino x ino ≡ false
        not_it is = sym (ap (is_cap x) asked) ∙ is

        by_any : (d : Bool) → list_any (is_release j x) up ≡ d → (cond (j == conn && is_ino x ino) (rank mode) 0 ≡ 0) ⊎ AllReleased x last kept
        by_any true any = inl (rw (test, not_it (let_released conn wanted gone x up lets none (subst (λ (i : ℕ). list_any (is_release i x) up ≡ true) (same_conn test) any)).1) refl)
        by_any false any = inr (way_released j x up last kept way any)

-- an answer that finds a file says what the table says of it, and isn't to who asks for it for Write
abbrev pub FoundAs : ℕ → Bool → Bool → Type 0
FoundAs share wants true = (2 ≤ share) × (wants ≡ false)
FoundAs share wants false = share ≡ 1

abbrev pub FoundFit : Under → (Ino → ℕ) → Answer → Type 0
FoundFit under table (answer.FoundLive ino perm size write_held) = FoundAs (table ino) (wants_write ino under) write_held
FoundFit under table said = Unit {0}

found_few : (n : ℕ) (under : Under) (holders : List Holder) (gone : List Ino) (x : Ino) (said : Answer) → FoundFit under (λ ino. shares n ino holders) said → found_in gone x said ≤ shares n x holders
found_few n under holders gone x (answer.FoundLive ino perm size write_held) fit = by_tests (is_ino x ino) write_held (is_gone x gone) refl fit
  where
    by_tests : (a w g : Bool) → is_ino x ino ≡ a → FoundAs (shares n ino holders) (wants_write ino under) w → cond (a && not w && not g) 1 0 ≤ shares n x holders
    by_tests true false false is fit = let same = shares_ino n x ino holders is in let one : shares n ino holders ≡ 1 = fit in omega (arith, same, one)
    by_tests true false true is fit = omega arith
    by_tests true true g is fit = omega arith
    by_tests false w g is fit = omega arith
found_few n under holders gone x said fit = omega arith

found_gone : (gone : List Ino) (x : Ino) (said : Answer) → is_gone x gone ≡ true → found_in gone x said ≤ 0
found_gone gone x (answer.FoundLive ino perm size write_held) is = by_tests (is_ino x ino) write_held (is_gone x gone) is
  where
    by_tests : (a w g : Bool) → g ≡ true → cond (a && not w && not g) 1 0 ≤ 0
    by_tests true false true is = omega arith
    by_tests true false false is = absurd (true≢false (sym is))
    by_tests true true g is = omega arith
    by_tests false w g is = omega arith
found_gone gone x said is = omega arith

found_may : (n conn j : ℕ) (files : HeldFiles) (under : Under) (up : List ToServer) (holders : List Holder) (kept : List FlushMsg) (last tid : ℕ) (st : Stamp) (said : Answer) (open_tid : ℕ) (wanted : Request)
    → asks up ≡ 0 → Lets conn under up → flushes_of j up ≡ above last kept → IsIt (open_request under) open_tid wanted → FoundFit under (λ x. shares n x holders) said → ((x : Ino) → has x files ≤ shares n x holders) → ((x : Ino) → 2 ≤ shares n x holders → Writes files under up j x) → MayGive conn files under up (Some j) (Reply j tid st said) (λ x. shares n x holders) × GivesAfter conn (gone_in under) kept last (Reply j tid st said)
found_may n conn j files Idle up holders kept last tid st said open_tid wanted none lets way it fit cover writers = absurd it
found_may n conn j files (AtStore number entry file head) up holders kept last tid st said open_tid wanted none lets way it fit cover writers = absurd it
found_may n conn j files (Open number t text asked gone) up holders kept last tid st said open_tid wanted none lets way it fit cover writers = (record { give = give; drop = drop; grant = tt; says = λ now. says now said fit }, after)
  where
    same_conn : (j == conn) ≡ true → j ≡ conn
    same_conn test = grind (arith, nat_tests, test)

    writes : (j == conn) ≡ true → (x : Ino) → is_gone x gone ≡ false → wants_write x (Open number t text asked gone) ≡ false → Writes files (Open number t text asked gone) up j x → 2 ≤ has x files
    writes now x left not_asked (inl two) = two
    writes now x left not_asked (inr (inl any)) = absurd (true≢false (sym (let_released conn asked gone x up lets none (subst (λ (i : ℕ). list_any (is_release i x) up ≡ true) (same_conn now) any)).0 ∙ left))
    writes now x left not_asked (inr (inr is)) = absurd (true≢false (sym is ∙ not_asked))

    says : (j == conn) ≡ true → (said : Answer) → FoundFit (Open number t text asked gone) (λ x. shares n x holders) said → SaysIn gone files said
    says now (answer.FoundLive ino perm size write_held) fit = λ left. by_held write_held fit left
      where
        by_held : (w : Bool) → FoundAs (shares n ino holders) (wants_write ino (Open number t text asked gone)) w → is_gone ino gone ≡ false → Says (has ino files) w
        by_held true fit left = writes now ino left fit.1 (writers ino fit.0)
        by_held false fit left = let few = cover ino in let one : shares n ino holders ≡ 1 = fit in omega (arith, few, one)
    says now said fit = tt

    give : (x : Ino) → cond (j == conn) (found_in gone x said) 0 ≤ shares n x holders
    give x = by_test (j == conn)
      where
        by_test : (b : Bool) → cond b (found_in gone x said) 0 ≤ shares n x holders
        by_test true = found_few n (Open number t text asked gone) holders gone x said fit
        by_test false = omega arith

    drop : (x : Ino) → list_any (is_drop j x) up ≡ true → shares n x holders ≡ 1 → cond (j == conn) (found_in gone x said) 0 ≤ 0
    drop x any one = by_test (j == conn) refl
      where
        by_test : (b : Bool) → (j == conn) ≡ b → cond b (found_in gone x said) 0 ≤ 0
        by_test true test = let none_now = found_gone gone x said (let_dropped conn asked gone x up lets none (subst (λ (i : ℕ). list_any (is_drop i x) up ≡ true) (same_conn test) any)) in omega (arith, none_now)
        by_test false test = omega arith

    after : (x : Ino) → (cond (j == conn) (found_in gone x said) 0 ≡ 0) ⊎ AllReleased x last kept
    after x = by_test (j == conn) refl
      where
        by_any : (j == conn) ≡ true → (d : Bool) → list_any (is_release j x) up ≡ d → (found_in gone x said ≡ 0) ⊎ AllReleased x last kept
        by_any test true any = inl (let few = found_gone gone x said (let_released conn asked gone x up lets none (subst (λ (i : ℕ). list_any (is_release i x) up ≡ true) (same_conn test) any)).0 in omega (arith, few))
        by_any test false any = inr (way_released j x up last kept way any)

        by_test : (b : Bool) → (j == conn) ≡ b → (cond b (found_in gone x said) 0 ≡ 0) ⊎ AllReleased x last kept
        by_test true test = by_any test (list_any (is_release j x) up) refl
        by_test false test = inl refl

-- the server's table changes
pub raise_table : (conn : ℕ) (files : HeldFiles) (under : Under) (q : List ToServer) (k : Option ℕ) (p : List ToClient) (table more : Ino → ℕ) → ((ino : Ino) → table ino ≤ more ino) → ((ino : Ino) → 2 ≤ more ino → (2 ≤ table ino) ⊎ (wants_write ino under ≡ true)) → SharesAt conn files under q k p table → SharesAt conn files under q k p more
raise_table conn files under q k p table more less wants was = record { cover = covers k was.cover; dropped = drops k was.cover was.dropped; lets = was.lets; frees = was.frees; grants = was.grants; writers = writers_go files files under under q q table more k (λ j is ino two before. by_share j ino before (wants ino two)) was.writers; says = was.says }
  where
    by_share : (j : ℕ) (ino : Ino) → (2 ≤ table ino → Writes files under q j ino) → (2 ≤ table ino) ⊎ (wants_write ino under ≡ true) → Writes files under q j ino
    by_share j ino before (inl two) = before two
    by_share j ino before (inr is) = inr (inr is)

    covers : (k : Option ℕ) → CoverBy (Covered conn (gone_in under) files p) table k → CoverBy (Covered conn (gone_in under) files p) more k
    covers None all = tt
    covers (Some j) all = λ ino. ((let one = (all ino).0 in let few = less ino in omega (arith, one, few)), give_more conn (gone_in under) ino (table ino) (more ino) p (less ino) (all ino).1)

    drops : (k : Option ℕ) → CoverBy (Covered conn (gone_in under) files p) table k → DroppedBy (Covered conn (gone_in under) files p) q table k → DroppedBy (Covered conn (gone_in under) files p) q more k
    drops None all before = tt
    drops (Some j) all before = λ ino any is. by_rank ino any (table ino) refl (let few = less ino in omega (arith, few, is))
      where
        by_rank : (ino : Ino) → list_any (is_drop j ino) q ≡ true → (t : ℕ) → table ino ≡ t → t ≤ 1 → Covered conn (gone_in under) files p ino 0
        by_rank ino any zero is few = subst (λ (most : ℕ). Covered conn (gone_in under) files p ino most) is (all ino)
        by_rank ino any (suc zero) is few = before ino any is
        by_rank ino any (suc (suc t)) is few = absurd (omega (arith, few))

-- it stays
pub same_table : (conn : ℕ) (files : HeldFiles) (under : Under) (q : List ToServer) (k : Option ℕ) (p : List ToClient) (table more : Ino → ℕ) → ((ino : Ino) → more ino ≡ table ino) → SharesAt conn files under q k p table → SharesAt conn files under q k p more
same_table conn files under q k p table more same was = raise_table conn files under q k p table more (λ ino. let e = same ino in omega (arith, e)) (λ ino two. inl (let e = same ino in omega (arith, e, two))) was

-- it falls where nothing is held or given
pub lower_table : (conn : ℕ) (files : HeldFiles) (under : Under) (q : List ToServer) (k : Option ℕ) (p : List ToClient) (table less : Ino → ℕ) → ((ino : Ino) → less ino ≤ table ino) → ((ino : Ino) → (less ino ≡ table ino) ⊎ Covered conn (gone_in under) files p ino 0) → SharesAt conn files under q k p table → SharesAt conn files under q k p less
lower_table conn files under q k p table less falls same was = record { cover = covers k was.cover; dropped = drops k was.dropped; lets = was.lets; frees = was.frees; grants = was.grants; writers = writers_go files files under under q q table less k (λ j is ino two before. before (let few = falls ino in omega (arith, few, two))) was.writers; says = was.says }
  where
    rise : (ino : Ino) (most : ℕ) → Covered conn (gone_in under) files p ino 0 → Covered conn (gone_in under) files p ino most
    rise ino most none = ((let zero_now = none.0 in omega (arith, zero_now)), give_more conn (gone_in under) ino 0 most p (omega arith) none.1)

    cover_one : (ino : Ino) → (less ino ≡ table ino) ⊎ Covered conn (gone_in under) files p ino 0 → Covered conn (gone_in under) files p ino (table ino) → Covered conn (gone_in under) files p ino (less ino)
    cover_one ino (inl e) one = subst (λ (most : ℕ). Covered conn (gone_in under) files p ino most) (sym e) one
    cover_one ino (inr none) one = rise ino (less ino) none

    covers : (k : Option ℕ) → CoverBy (Covered conn (gone_in under) files p) table k → CoverBy (Covered conn (gone_in under) files p) less k
    covers None all = tt
    covers (Some j) all = λ ino. cover_one ino (same ino) (all ino)

    drop_one : (ino : Ino) → (less ino ≡ table ino) ⊎ Covered conn (gone_in under) files p ino 0 → less ino ≡ 1 → (table ino ≡ 1 → Covered conn (gone_in under) files p ino 0) → Covered conn (gone_in under) files p ino 0
    drop_one ino (inl e) is go = go (sym e ∙ is)
    drop_one ino (inr none) is go = none

    drops : (k : Option ℕ) → DroppedBy (Covered conn (gone_in under) files p) q table k → DroppedBy (Covered conn (gone_in under) files p) q less k
    drops None before = tt
    drops (Some j) before = λ ino any is. drop_one ino (same ino) is (before ino any)

-- holders of others
pub other_holder : (n x : ℕ) (ino file : Ino) (h : Holder) → (x == n) ≡ false → is_holder n file h ≡ true → not (is_holder x ino h) ≡ true
other_holder n x ino file h other is = rw (differs (both_true (h.client == n) (same_ino h.ino file) is).0) refl
  where
    differs : (h.client == n) ≡ true → (h.client == x) ≡ false
    differs at = grind (arith, nat_tests, other, at)

pub other_client : (n x : ℕ) (file : Ino) (h : Holder) → (x == n) ≡ false → is_holder n file h ≡ true → not (h.client == x) ≡ true
other_client n x file h other is = rw (differs (both_true (h.client == n) (same_ino h.ino file) is).0) refl
  where
    differs : (h.client == n) ≡ true → (h.client == x) ≡ false
    differs at = grind (arith, nat_tests, other, at)

-- a client's share rises only where all are connected
abbrev pub MayRise : ℕ → ℕ → Server → Type 0
MayRise n x s = (all_connected s ≡ true) ⊎ ((x == n) ≡ false)

-- an act fits the view of a client: it is given no more than the table says, and its files aren't let go
abbrev pub MyFit : ℕ → Client → Server → Act → Type 0
MyFit n c s (GrantIt ino mode) = (a : Asked) → s.hand ≡ Some a → of_client n a ≡ true → IsAsked c.under ino mode × (rank mode ≤ shares n ino s.holders)
MyFit n c s (AnswerIt said) = (a : Asked) → s.hand ≡ Some a → of_client n a ≡ true → FoundFit c.under (λ ino. shares n ino s.holders) said
MyFit n c s (LetGo x ino) = (x == n) ≡ false
MyFit n c s (LetAllGo x) = (x == n) ≡ false
MyFit n c s (Hold h) = MayRise n h.client s × ((h.client == n) ≡ true → is_write h.mode ≡ true → wants_write h.ino c.under ≡ true)
MyFit n c s (Raise x ino upto) = MayRise n x s × ((x == n) ≡ true → wants_write ino c.under ≡ true)
MyFit n c s a = Unit {0}

-- what is sent
pub send_sharing : (n : ℕ) (c : Client) (up : List ToServer) (down : List ToClient) (s : Server) (x : ℕ) (m : ToClient) → ((x == n) ≡ true → MayGive c.conn c.files c.under up (number_of s.current n) m (λ ino. shares n ino s.holders)) → Sharing n c up down s → Sharing n c up down (send_client s x m)
send_sharing n c up down s x m may was = more_mail Now n down s.mail (length s.entries, record { to = x; message = message.ToClient m }) (by_test (x == n) refl)
  where
    Now : List ToClient → Type 0
    Now p = SharesAt c.conn c.files c.under up (number_of s.current n) p (λ ino. shares n ino s.holders)

    by_test : (b : Bool) → (x == n) ≡ b → Now ((down ++ mail_of n s.mail) ++ cond b (m ∷ []) [])
    by_test true test = sharing_more c.conn c.files c.under up (number_of s.current n) (down ++ mail_of n s.mail) (λ ino. shares n ino s.holders) m (may test) was
    by_test false test = subst Now (sym (append-nil (down ++ mail_of n s.mail))) was

store_sharing : (n : ℕ) (c : Client) (up : List ToServer) (down : List ToClient) (s : Server) (order : ToStore) → Sharing n c up down s → Sharing n c up down (send s (record { to = s.clients + 1; message = message.ToStore order }))
store_sharing n c up down s order was = more_mail (λ (p : List ToClient). SharesAt c.conn c.files c.under up (number_of s.current n) p (λ ino. shares n ino s.holders)) n down s.mail (length s.entries, record { to = s.clients + 1; message = message.ToStore order })
    (subst (λ (p : List ToClient). SharesAt c.conn c.files c.under up (number_of s.current n) p (λ ino. shares n ino s.holders)) (sym (append-nil (down ++ mail_of n s.mail))) was)

-- what is told that gives nothing
abbrev pub SilentTold : Told → Type 0
SilentTold (Answered tid said) = ⊥
SilentTold (Granted tid ino mode) = ⊥
SilentTold told = Unit {0}

silent_message : (s : Server) (j : ℕ) (told : Told) → SilentTold told → Silent (message_of s j told)
silent_message s j (Answered tid said) is = absurd is
silent_message s j (Granted tid ino mode) is = absurd is
silent_message s j (WantedBack ino) is = tt
silent_message s j (Changed inos) is = tt
silent_message s j (Acked number) is = tt

pub tell_sharing : (n : ℕ) (c : Client) (up : List ToServer) (down : List ToClient) (s : Server) (x : ℕ) (told : Told) → SilentTold told → Sharing n c up down s → Sharing n c up down (tell s x told)
tell_sharing n c up down s x told is was = by_number (number_of s.current x)
  where
    by_number : (o : Option ℕ) → Sharing n c up down (tell_at s x told o)
    by_number None = was
    by_number (Some j) = send_sharing n c up down s x (message_of s j told) (λ to. silent_may c.conn c.files c.under up (number_of s.current n) (message_of s j told) (λ ino. shares n ino s.holders) (silent_message s j told is)) was

pub buffer_sharing : (n : ℕ) (c : Client) (up : List ToServer) (down : List ToClient) (s : Server) (e : Entry) → Sharing n c up down s → Sharing n c up down (buffer s e)
buffer_sharing n c up down s e was = notices_keep (Sharing n c up down) (λ t x inos so. tell_sharing n c up down t x (Changed inos) tt so) s.entries (up_to s.clients) (record s { entries = s.entries ++ e ∷ [] }) was

-- the client's own number
number_here : (n : ℕ) (s : Server) (a : Asked) (j : ℕ) → number_of s.current a.client ≡ Some j → (a.client == n) ≡ true → number_of s.current n ≡ Some j
number_here n s a j is at = subst (λ (x : ℕ). number_of s.current x ≡ Some j) same is
  where
    same : a.client ≡ n
    same = grind (arith, nat_tests, at)

way_here : (o : Option ℕ) (j : ℕ) (up : List ToServer) (kept : List FlushMsg) (last : ℕ) → o ≡ Some j → Way o up kept last → flushes_of j up ≡ above last kept
way_here None j up kept last is way = cc
way_here (Some i) j up kept last is way = subst (λ (x : ℕ). flushes_of x up ≡ above last kept) (same is) way
  where
    same : Some i ≡ Some j → i ≡ j
    same e = cc

-- the message for the request in hand
hand_grant : (n : ℕ) (c : Client) (up : List ToServer) (down : List ToClient) (s : Server) (a : Asked) (ino : Ino) (mode : Mode) (j : ℕ) → s.hand ≡ Some a → number_of s.current a.client ≡ Some j → (a.client == n) ≡ true → MyFit n c s (GrantIt ino mode) → Requested n c up down s → Way (number_of s.current n) up c.unacked (last_flush s.entries n) → Sharing n c up down s
    → MayGive c.conn c.files c.under up (Some j) (message_of (record s { hand = None }) j (Granted a.tid ino mode)) (λ x. shares n x s.holders) × GivesAfter c.conn (gone_in c.under) c.unacked (last_flush s.entries n) (message_of (record s { hand = None }) j (Granted a.tid ino mode))
hand_grant n c up down s a ino mode j is number at fit r way was =
    grant_may n c.conn j c.files c.under up s.holders c.unacked (last_flush s.entries n) _ _ ino mode _ _ (handed n c up down s a r is at).1 was.lets was.frees (way_here (number_of s.current n) j up c.unacked (last_flush s.entries n) (number_here n s a j number at) way) (fit a is at).0 (fit a is at).1

hand_answer : (n : ℕ) (c : Client) (up : List ToServer) (down : List ToClient) (s : Server) (a : Asked) (said : Answer) (j : ℕ) → s.hand ≡ Some a → number_of s.current a.client ≡ Some j → (a.client == n) ≡ true → MyFit n c s (AnswerIt said) → Requested n c up down s → Way (number_of s.current n) up c.unacked (last_flush s.entries n) → Sharing n c up down s
    → MayGive c.conn c.files c.under up (Some j) (message_of (record s { hand = None }) j (Answered a.tid said)) (λ x. shares n x s.holders) × GivesAfter c.conn (gone_in c.under) c.unacked (last_flush s.entries n) (message_of (record s { hand = None }) j (Answered a.tid said))
hand_answer n c up down s a said j is number at fit r way was =
    let hand = handed n c up down s a r is at in
    found_may n c.conn j c.files c.under up s.holders c.unacked (last_flush s.entries n) _ _ said a.tid a.request hand.1 was.lets (way_here (number_of s.current n) j up c.unacked (last_flush s.entries n) (number_here n s a j number at) way) hand.0 (fit a is at)
    (λ x. (subst (CoverBy (Covered c.conn (gone_in c.under) c.files (down ++ mail_of n s.mail)) (λ y. shares n y s.holders)) (number_here n s a j number at) was.cover x).0)
    (subst (WritersBy c.files c.under up (λ y. shares n y s.holders)) (number_here n s a j number at) was.writers)

-- who is held for Write in the table has asked for that
wants_same : (x ino : Ino) (under : Under) → is_ino x ino ≡ true → wants_write ino under ≡ true → wants_write x under ≡ true
wants_same x ino (Open number tid text (request.Cap file mode) gone) is wants = by_mode (is_write mode) (both_true (is_ino ino file) (is_write mode) wants)
  where
    same : is_ino ino file ≡ true → is_ino x file ≡ true
    same at = grind (arith, nat_tests, is, at)

    by_mode : (w : Bool) → (is_ino ino file ≡ true) × (w ≡ true) → (is_ino x file && w) ≡ true
    by_mode w both_are = rw (same both_are.0, both_are.1) refl
wants_same x ino under is wants = absurd (true≢false (sym wants))

held_wants : (n : ℕ) (under : Under) (ino : Ino) (h : Holder) (holders : List Holder) → ((h.client == n) ≡ true → is_write h.mode ≡ true → wants_write h.ino under ≡ true) → 2 ≤ shares n ino (holders ++ h ∷ []) → (2 ≤ shares n ino holders) ⊎ (wants_write ino under ≡ true)
held_wants n under ino h holders fit two = by_test (is_holder n ino h) refl h.mode refl (let e = shares_end n ino holders h in omega (arith, e, two))
  where
    turned : same_ino h.ino ino ≡ true → is_ino ino h.ino ≡ true
    turned is = grind (arith, nat_tests, is)

    by_test : (b : Bool) → is_holder n ino h ≡ b → (m : Mode) → h.mode ≡ m → 2 ≤ max (shares n ino holders) (cond b (rank m) 0) → (2 ≤ shares n ino holders) ⊎ (wants_write ino under ≡ true)
    by_test false is m mode two = inl (omega (arith, two))
    by_test true is Read mode two = inl (omega (arith, two))
    by_test true is Write mode two = let parts = both_true (h.client == n) (same_ino h.ino ino) is in inr (wants_same ino h.ino under (turned parts.1) (fit parts.0 (ap is_write mode)))

raise_wants : (n : ℕ) (under : Under) (x : ℕ) (ino file : Ino) {share : ℕ} → ((x == n) ≡ true → wants_write file under ≡ true) → (2 ≤ share) ⊎ (((x == n) ≡ true) × (is_ino ino file ≡ true)) → (2 ≤ share) ⊎ (wants_write ino under ≡ true)
raise_wants n under x ino file fit (inl two) = inl two
raise_wants n under x ino file fit (inr is) = inr (wants_same ino file under is.1 (fit is.0))

pub one_sharing : (n : ℕ) (c : Client) (up : List ToServer) (down : List ToClient) (s : Server) (a : Act) → MyFit n c s a → Requested n c up down s → Way (number_of s.current n) up c.unacked (last_flush s.entries n) → Sharing n c up down s → Sharing n c up down (act s a)
one_sharing n c up down s (TellRecall x ino) fit r way was = tell_sharing n c up down s x (WantedBack ino) tt was
one_sharing n c up down s (TellAck x number) fit r way was = tell_sharing n c up down s x (Acked number) tt was
one_sharing n c up down s (TellRestart x) fit r way was = send_sharing n c up down s x (Restarted (stamp s)) (λ to. silent_may c.conn c.files c.under up (number_of s.current n) (Restarted (stamp s)) (λ ino. shares n ino s.holders) tt) was
one_sharing n c up down s (AnswerIt said) fit r way was = by_hand s.hand refl
  where
    by_number : (a : Asked) → s.hand ≡ Some a → (o : Option ℕ) → number_of s.current a.client ≡ o → Sharing n c up down (tell_at (record s { hand = None }) a.client (Answered a.tid said) o)
    by_number a is None number = was
    by_number a is (Some j) number = send_sharing n c up down (record s { hand = None }) a.client (message_of (record s { hand = None }) j (Answered a.tid said))
        (λ at. subst (λ (k : Option ℕ). MayGive c.conn c.files c.under up k (message_of (record s { hand = None }) j (Answered a.tid said)) (λ x. shares n x s.holders)) (sym (number_here n s a j number at)) (hand_answer n c up down s a said j is number at fit r way was).0) was

    by_hand : (h : Option Asked) → s.hand ≡ h → Sharing n c up down (answer_hand s said h)
    by_hand None is = was
    by_hand (Some a) is = by_number a is (number_of s.current a.client) refl
one_sharing n c up down s (GrantIt ino mode) fit r way was = by_hand s.hand refl
  where
    by_number : (a : Asked) → s.hand ≡ Some a → (o : Option ℕ) → number_of s.current a.client ≡ o → Sharing n c up down (tell_at (record s { hand = None }) a.client (Granted a.tid ino mode) o)
    by_number a is None number = was
    by_number a is (Some j) number = send_sharing n c up down (record s { hand = None }) a.client (message_of (record s { hand = None }) j (Granted a.tid ino mode))
        (λ at. subst (λ (k : Option ℕ). MayGive c.conn c.files c.under up k (message_of (record s { hand = None }) j (Granted a.tid ino mode)) (λ x. shares n x s.holders)) (sym (number_here n s a j number at)) (hand_grant n c up down s a ino mode j is number at fit r way was).0) was

    by_hand : (h : Option Asked) → s.hand ≡ h → Sharing n c up down (grant_hand s ino mode h)
    by_hand None is = was
    by_hand (Some a) is = by_number a is (number_of s.current a.client) refl
one_sharing n c up down s (MakeEffect made) fit r way was = by_hand s.hand
  where
    by_said : (a : Asked) (o : Option What) → Sharing n c up down (buffer_for s a o)
    by_said a None = was
    by_said a (Some said) = buffer_sharing n c up down s (entry_for a said) was

    by_hand : (h : Option Asked) → Sharing n c up down (effect_hand s made h)
    by_hand None = was
    by_hand (Some a) = by_said a (written_down made)
one_sharing n c up down s (Prepare said) fit r way was = by_hand s.hand
  where
    by_hand : (h : Option Asked) → Sharing n c up down (prepare_hand s said h)
    by_hand None = was
    by_hand (Some a) = buffer_sharing n c up down (record s { operation = Some a; hand = None }) (entry_for a said) was
one_sharing n c up down s (Buffer e) fit r way was = buffer_sharing n c up down s e was
one_sharing n c up down s (SendPurge id) fit r way was = store_sharing n c up down (record s { purging = s.purging ++ id ∷ [] }) (Purge id) was
one_sharing n c up down s (SendDelete ino) fit r way was = store_sharing n c up down (record s { deleting = s.deleting ++ ino ∷ [] }) (Delete ino (context s.entries ino)) was
one_sharing n c up down s (Hold h) fit r way was = raise_table c.conn c.files c.under up (number_of s.current n) (down ++ mail_of n s.mail) (λ ino. shares n ino s.holders) (λ ino. shares n ino (s.holders ++ h ∷ [])) (λ ino. let e = shares_end n ino s.holders h in omega (arith, e)) (λ ino. held_wants n c.under ino h s.holders fit.1) was
one_sharing n c up down s (Raise x file upto) fit r way was = raise_table c.conn c.files c.under up (number_of s.current n) (down ++ mail_of n s.mail) (λ ino. shares n ino s.holders) (λ ino. shares n ino (map (raised x file upto) s.holders)) (λ ino. shares_raised n x ino file upto s.holders) (λ ino two. raise_wants n c.under x ino file fit.1 (raised_either n x ino file upto s.holders two)) was
one_sharing n c up down s (MarkRecalled x file) fit r way was = same_table c.conn c.files c.under up (number_of s.current n) (down ++ mail_of n s.mail) (λ ino. shares n ino s.holders) (λ ino. shares n ino (map (recalled x file) s.holders)) (λ ino. shares_same n ino (recalled x file) s.holders (λ h. refl)) was
one_sharing n c up down s (Settled x file upto) fit r way was = same_table c.conn c.files c.under up (number_of s.current n) (down ++ mail_of n s.mail) (λ ino. shares n ino s.holders) (λ ino. shares n ino (map (settled x file upto) s.holders)) (λ ino. shares_same n ino (settled x file upto) s.holders (λ h. refl)) was
one_sharing n c up down s (LetGo x file) fit r way was = same_table c.conn c.files c.under up (number_of s.current n) (down ++ mail_of n s.mail) (λ ino. shares n ino s.holders) (λ ino. shares n ino (filter (λ h. not (is_holder x file h)) s.holders)) (λ ino. shares_others n ino (λ h. not (is_holder x file h)) s.holders (λ h is. other_holder n x file ino h fit is)) was
one_sharing n c up down s (LetAllGo x) fit r way was = same_table c.conn c.files c.under up (number_of s.current n) (down ++ mail_of n s.mail) (λ ino. shares n ino s.holders) (λ ino. shares n ino (filter (λ h. not (h.client == x)) s.holders)) (λ ino. shares_others n ino (λ h. not (h.client == x)) s.holders (λ h is. other_client n x ino h fit is)) was
one_sharing n c up down s a fit r way was = was

-- the releases: what is entered, and what is sent
pub letting_send : (n : ℕ) (c : Client) (up : List ToServer) (down : List ToClient) (s : Server) (sent : Sent) → ((sent.to == n) ≡ true → ToldAfter c.conn (gone_in c.under) c.unacked (last_flush s.entries n) (told_by sent.message)) → Letting n c up down s → Letting n c up down (send s sent)
letting_send n c up down s sent after was = record { held = was.held; coming = was.coming; post = mail_end s.mail was.post }
  where
    mail_end : (mail : List (ℕ × Sent)) → MailAfter n c.conn (gone_in c.under) c.unacked s.entries mail → MailAfter n c.conn (gone_in c.under) c.unacked s.entries (mail ++ (length s.entries, sent) ∷ [])
    mail_end [] all = (omega arith, (λ to. subst (λ (l : List Entry). ToldAfter c.conn (gone_in c.under) c.unacked (last_flush l n) (told_by sent.message)) (sym (take-length s.entries)) (after to)), tt)
    mail_end (m ∷ mail) all = (all.0, all.1, mail_end mail all.2)

mail_entered : (n conn : ℕ) (gone : List Ino) (kept : List FlushMsg) (entries : List Entry) (e : Entry) (mail : List (ℕ × Sent)) → MailAfter n conn gone kept entries mail → MailAfter n conn gone kept (entries ++ e ∷ []) mail
mail_entered n conn gone kept entries e [] all = tt
mail_entered n conn gone kept entries e (m ∷ mail) all =
    ((let less = all.0 in grind (arith, less, length-append)), (λ to. subst (λ (l : List Entry). ToldAfter conn gone kept (last_flush l n) (told_by m.1.message)) (sym (take-append-le m.0 entries (e ∷ []) all.0)) (all.1 to)), mail_entered n conn gone kept entries e mail all.2)

letting_entered : (n : ℕ) (c : Client) (up : List ToServer) (down : List ToClient) (s : Server) (e : Entry) → s.durable ≤ length s.entries → Letting n c up down s → Letting n c up down (record s { entries = s.entries ++ e ∷ [] })
letting_entered n c up down s e fits was = record {
  held = λ ino. subst (λ (l : List Entry). (has ino c.files ≡ 0) ⊎ AllReleased ino (last_flush l n) c.unacked) (sym (take-append-le s.durable s.entries (e ∷ []) fits)) (was.held ino);
  coming = subst (λ (l : List Entry). DownAfter c.conn (gone_in c.under) c.unacked (last_flush l n) down) (sym (take-append-le s.durable s.entries (e ∷ []) fits)) was.coming;
  post = mail_entered n c.conn (gone_in c.under) c.unacked s.entries e s.mail was.post;
}

pub silent_after : (conn : ℕ) (gone : List Ino) (kept : List FlushMsg) (last : ℕ) (m : ToClient) → Silent m → GivesAfter conn gone kept last m
silent_after conn gone kept last m is = λ ino. inl (silent_gives conn gone ino m is)

pub letting_tell : (n : ℕ) (c : Client) (up : List ToServer) (down : List ToClient) (s : Server) (x : ℕ) (told : Told) → SilentTold told → Letting n c up down s → Letting n c up down (tell s x told)
letting_tell n c up down s x told is was = by_number (number_of s.current x)
  where
    by_number : (o : Option ℕ) → Letting n c up down (tell_at s x told o)
    by_number None = was
    by_number (Some j) = letting_send n c up down s (record { to = x; message = message.ToClient (message_of s j told) }) (λ to. silent_after c.conn (gone_in c.under) c.unacked (last_flush s.entries n) (message_of s j told) (silent_message s j told is)) was

pub letting_buffer : (n : ℕ) (c : Client) (up : List ToServer) (down : List ToClient) (s : Server) (e : Entry) → s.durable ≤ length s.entries → Letting n c up down s → Letting n c up down (buffer s e)
letting_buffer n c up down s e fits was = notices_keep (Letting n c up down) (λ t x inos so. letting_tell n c up down t x (Changed inos) tt so) s.entries (up_to s.clients) (record s { entries = s.entries ++ e ∷ [] }) (letting_entered n c up down s e fits was)

-- an act that answers no request
abbrev pub NotGiving : Act → Type 0
NotGiving (GrantIt ino mode) = ⊥
NotGiving (AnswerIt said) = ⊥
NotGiving a = Unit {0}

pub calm_letting : (n : ℕ) (c : Client) (up : List ToServer) (down : List ToClient) (s : Server) (a : Act) → NotGiving a → s.durable ≤ length s.entries → Letting n c up down s → Letting n c up down (act s a)
calm_letting n c up down s (TellRecall x ino) is fits was = letting_tell n c up down s x (WantedBack ino) tt was
calm_letting n c up down s (TellAck x number) is fits was = letting_tell n c up down s x (Acked number) tt was
calm_letting n c up down s (TellRestart x) is fits was = letting_send n c up down s (record { to = x; message = message.ToClient (Restarted (stamp s)) }) (λ to. silent_after c.conn (gone_in c.under) c.unacked (last_flush s.entries n) (Restarted (stamp s)) tt) was
calm_letting n c up down s (AnswerIt said) is fits was = absurd is
calm_letting n c up down s (GrantIt ino mode) is fits was = absurd is
calm_letting n c up down s (MakeEffect made) is fits was = by_hand s.hand
  where
    by_said : (a : Asked) (o : Option What) → Letting n c up down (buffer_for s a o)
    by_said a None = was
    by_said a (Some said) = letting_buffer n c up down s (entry_for a said) fits was

    by_hand : (h : Option Asked) → Letting n c up down (effect_hand s made h)
    by_hand None = was
    by_hand (Some a) = by_said a (written_down made)
calm_letting n c up down s (Prepare said) is fits was = by_hand s.hand
  where
    by_hand : (h : Option Asked) → Letting n c up down (prepare_hand s said h)
    by_hand None = was
    by_hand (Some a) = letting_buffer n c up down (record s { operation = Some a; hand = None }) (entry_for a said) fits was
calm_letting n c up down s (Buffer e) is fits was = letting_buffer n c up down s e fits was
calm_letting n c up down s (SendPurge id) is fits was = letting_send n c up down (record s { purging = s.purging ++ id ∷ [] }) (record { to = s.clients + 1; message = message.ToStore (Purge id) }) (λ to. tt) was
calm_letting n c up down s (SendDelete ino) is fits was = letting_send n c up down (record s { deleting = s.deleting ++ ino ∷ [] }) (record { to = s.clients + 1; message = message.ToStore (Delete ino (context s.entries ino)) }) (λ to. tt) was
calm_letting n c up down s a is fits was = was

pub one_letting : (n : ℕ) (c : Client) (up : List ToServer) (down : List ToClient) (s : Server) (a : Act) → MyFit n c s a → s.durable ≤ length s.entries → Requested n c up down s → Way (number_of s.current n) up c.unacked (last_flush s.entries n) → Sharing n c up down s → Letting n c up down s → Letting n c up down (act s a)
one_letting n c up down s (AnswerIt said) fit fits r way sh was = by_hand s.hand refl
  where
    by_number : (a : Asked) → s.hand ≡ Some a → (o : Option ℕ) → number_of s.current a.client ≡ o → Letting n c up down (tell_at (record s { hand = None }) a.client (Answered a.tid said) o)
    by_number a is None number = was
    by_number a is (Some j) number = letting_send n c up down (record s { hand = None }) (record { to = a.client; message = message.ToClient (message_of (record s { hand = None }) j (Answered a.tid said)) }) (λ at. (hand_answer n c up down s a said j is number at fit r way sh).1) was

    by_hand : (h : Option Asked) → s.hand ≡ h → Letting n c up down (answer_hand s said h)
    by_hand None is = was
    by_hand (Some a) is = by_number a is (number_of s.current a.client) refl
one_letting n c up down s (GrantIt ino mode) fit fits r way sh was = by_hand s.hand refl
  where
    by_number : (a : Asked) → s.hand ≡ Some a → (o : Option ℕ) → number_of s.current a.client ≡ o → Letting n c up down (tell_at (record s { hand = None }) a.client (Granted a.tid ino mode) o)
    by_number a is None number = was
    by_number a is (Some j) number = letting_send n c up down (record s { hand = None }) (record { to = a.client; message = message.ToClient (message_of (record s { hand = None }) j (Granted a.tid ino mode)) }) (λ at. (hand_grant n c up down s a ino mode j is number at fit r way sh).1) was

    by_hand : (h : Option Asked) → s.hand ≡ h → Letting n c up down (grant_hand s ino mode h)
    by_hand None is = was
    by_hand (Some a) is = by_number a is (number_of s.current a.client) refl
one_letting n c up down s a fit fits r way sh was = calm_letting n c up down s a tt fits was

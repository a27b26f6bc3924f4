-- What covers what a client holds, the client's rows keep.
use Rattle.std.proofs.Common.{◌≡◌, ◌≤◌, ℕ, ◌+◌, List, [], ◌∷◌, ◌++◌, append_assoc, Bool, true, false, true≢false, not, cond, Option, None, Some, refl, sym, ap, ◌∙◌, subst, IfSome, arith, ◌⊎◌, inl, inr}
use Rattle.std.proofs.lemmas.List.{append-nil}
use Rattle.std.proofs.lemmas.List.Folds.{list_any-append}
use Rattle.std.proofs.lemmas.Bool.Decides.{nat_tests}
use Rattle.std.specs.Prelude.{◌==◌, ◌&&◌, ◌||◌}
use Rattle.std.specs.List.{list_any}
use Rattle.snap_ids.specs.declared.id.Ino.{Ino}
use Rattle.snap_ids.specs.declared.values.Mode.{Mode}
use Rattle.snap_ids.specs.declared.values.Mode.TheVariants.{Read, Write}
use Rattle.plain_types.specs.declared.answer.Answer.{Answer}
use Rattle.plain_types.specs.declared.answer.Answer.TheVariants as answer
use Rattle.plain_types.specs.declared.message.FlushMsg.{FlushMsg}
use Rattle.plain_types.specs.declared.message.ToClient.{ToClient}
use Rattle.plain_types.specs.declared.message.ToClient.TheVariants.{Reply, Grant, Recall, Notice, FlushAck, Welcome, Restarted}
use Rattle.plain_types.specs.declared.message.ToServer.{ToServer}
use Rattle.plain_types.specs.declared.message.ToServer.TheVariants.{Connect, Ask, Flush, DropRead}
use Rattle.plain_types.specs.declared.request.Request.{Request}
use Rattle.plain_types.specs.declared.request.Request.TheVariants as request
use Rattle.plain_types.specs.declared.script.Line.{Line}
use Rattle.held_files.specs.Files.{HeldFiles, is_ino, without}
use Rattle.step_table.specs.Row.{Row}
use Rattle.step_table.specs.ClientState.{Client, Under, Idle, Open, AtStore, open_request, sent_again}
use Rattle.step_table.specs.ClientLines.{with_let_go}
use Rattle.step_table.specs.World.{to_server as for_server}
use Rattle.run_laws.specs.Links.{Offer, Up, Behind}
use Rattle.run_laws.specs.Requests.{answers}
use Rattle.run_laws.specs.LetGo.{is_drop, is_cap, AllLet, Lets, IsAsked, GrantAt, AllGrants}
use Rattle.run_laws.proofs.Asked.{asks_append}
use Rattle.run_laws.specs.Tenures.{Distinct, gone_in, is_gone, is_release, wants_write}
use Rattle.run_laws.proofs.Files.{has_none, has_other, file_same}
use Rattle.run_laws.proofs.Lending.{AllPlain, Quiet, NotOpen, Ends, AsksNow, drop_list, Returns, LetsGo, WantsStill, gone_same, free_again}
use Rattle.run_laws.proofs.Holders.{or_false}
use Rattle.run_laws.proofs.Link.{up_most}
use Rattle.run_laws.proofs.Shares.{rank, rank_in, has, found_in, gives, AllGive, give_more, or_none}
use Rattle.run_laws.proofs.Sharing.{CapFree, Frees, Covered, CoverBy, DroppedBy, SharesAt, Says, SaysIn, SaysAt, AllSay, Writes, writers_go}

or_right : (a b : Bool) → b ≡ true → (a || b) ≡ true
or_right true b is = refl
or_right false b is = is

or_left : (a b : Bool) → a ≡ true → (a || b) ≡ true
or_left true b is = refl
or_left false b is = absurd (true≢false (sym is))

-- fewer messages
pub record Less (conn : ℕ) (p q : List ToClient) : Type 0 where
  pub give : (gone : List Ino) (ino : Ino) (most : ℕ) → AllGive conn gone ino most p → AllGive conn gone ino most q
  pub grants : (under : Under) → AllGrants conn under p → AllGrants conn under q
  pub says : (gone : List Ino) (files : HeldFiles) → AllSay conn gone files p → AllSay conn gone files q

pub same_less : (conn : ℕ) (p : List ToClient) → Less conn p p
same_less conn p = record { give = λ gone ino most all. all; grants = λ under all. all; says = λ gone files all. all }

pub tail_less : (conn : ℕ) (m : ToClient) (p : List ToClient) → Less conn (m ∷ p) p
tail_less conn m p = record { give = λ gone ino most all. all.1; grants = λ under all. all.1; says = λ gone files all. all.1 }

-- where no answer is on the way, nothing is given
pub none_give : (conn : ℕ) (gone : List Ino) (ino : Ino) (p : List ToClient) → answers conn p ≡ 0 → AllGive conn gone ino 0 p
none_give conn gone ino [] none = tt
none_give conn gone ino (Reply k tid st said ∷ p) none = by_test (k == conn) none (none_give conn gone ino p)
  where
    by_test : (b : Bool) → cond b (answers conn p + 1) (answers conn p) ≡ 0 → (answers conn p ≡ 0 → AllGive conn gone ino 0 p) → (cond b (found_in gone ino said) 0 ≤ 0) × AllGive conn gone ino 0 p
    by_test true none go = absurd (omega (arith, none))
    by_test false none go = (omega arith, go none)
none_give conn gone ino (Grant k tid st file mode size trace ∷ p) none = by_test (k == conn) none (none_give conn gone ino p)
  where
    by_test : (b : Bool) → cond b (answers conn p + 1) (answers conn p) ≡ 0 → (answers conn p ≡ 0 → AllGive conn gone ino 0 p) → (cond (b && is_ino ino file) (rank mode) 0 ≤ 0) × AllGive conn gone ino 0 p
    by_test true none go = absurd (omega (arith, none))
    by_test false none go = (omega arith, go none)
none_give conn gone ino (Recall k st file ∷ p) none = (omega arith, none_give conn gone ino p none)
none_give conn gone ino (Notice k st update ∷ p) none = (omega arith, none_give conn gone ino p none)
none_give conn gone ino (FlushAck k st number ∷ p) none = (omega arith, none_give conn gone ino p none)
none_give conn gone ino (Welcome k st last update ∷ p) none = (omega arith, none_give conn gone ino p none)
none_give conn gone ino (Restarted st ∷ p) none = (omega arith, none_give conn gone ino p none)

pub none_grants : (conn : ℕ) (under : Under) (p : List ToClient) → answers conn p ≡ 0 → AllGrants conn under p
none_grants conn under [] none = tt
none_grants conn under (Reply k tid st said ∷ p) none = (tt, by_test (k == conn) none (none_grants conn under p))
  where
    by_test : (b : Bool) → cond b (answers conn p + 1) (answers conn p) ≡ 0 → (answers conn p ≡ 0 → AllGrants conn under p) → AllGrants conn under p
    by_test true none go = absurd (omega (arith, none))
    by_test false none go = go none
none_grants conn under (Grant k tid st ino mode size trace ∷ p) none = by_test (k == conn) refl none (none_grants conn under p)
  where
    by_test : (b : Bool) → (k == conn) ≡ b → cond b (answers conn p + 1) (answers conn p) ≡ 0 → (answers conn p ≡ 0 → AllGrants conn under p) → ((k == conn) ≡ true → IsAsked under ino mode) × AllGrants conn under p
    by_test true is none go = absurd (omega (arith, none))
    by_test false is none go = (λ same. absurd (true≢false (sym same ∙ is)), go none)
none_grants conn under (Recall k st file ∷ p) none = (tt, none_grants conn under p none)
none_grants conn under (Notice k st update ∷ p) none = (tt, none_grants conn under p none)
none_grants conn under (FlushAck k st number ∷ p) none = (tt, none_grants conn under p none)
none_grants conn under (Welcome k st last update ∷ p) none = (tt, none_grants conn under p none)
none_grants conn under (Restarted st ∷ p) none = (tt, none_grants conn under p none)

pub none_say : (conn : ℕ) (gone : List Ino) (files : HeldFiles) (p : List ToClient) → answers conn p ≡ 0 → AllSay conn gone files p
none_say conn gone files [] none = tt
none_say conn gone files (Reply k tid st said ∷ p) none = by_test (k == conn) refl none (none_say conn gone files p)
  where
    by_test : (b : Bool) → (k == conn) ≡ b → cond b (answers conn p + 1) (answers conn p) ≡ 0 → (answers conn p ≡ 0 → AllSay conn gone files p) → ((k == conn) ≡ true → SaysIn gone files said) × AllSay conn gone files p
    by_test true is none go = absurd (omega (arith, none))
    by_test false is none go = (λ same. absurd (true≢false (sym same ∙ is)), go none)
none_say conn gone files (Grant k tid st ino mode size trace ∷ p) none = (tt, by_test (k == conn) none (none_say conn gone files p))
  where
    by_test : (b : Bool) → cond b (answers conn p + 1) (answers conn p) ≡ 0 → (answers conn p ≡ 0 → AllSay conn gone files p) → AllSay conn gone files p
    by_test true none go = absurd (omega (arith, none))
    by_test false none go = go none
none_say conn gone files (Recall k st file ∷ p) none = (tt, none_say conn gone files p none)
none_say conn gone files (Notice k st update ∷ p) none = (tt, none_say conn gone files p none)
none_say conn gone files (FlushAck k st number ∷ p) none = (tt, none_say conn gone files p none)
none_say conn gone files (Welcome k st last update ∷ p) none = (tt, none_say conn gone files p none)
none_say conn gone files (Restarted st ∷ p) none = (tt, none_say conn gone files p none)

-- what an answer says stays true where the file is held as before, or is let go
says_as : (b : Bool) (old new : ℕ) → new ≡ old → Says old b → Says new b
says_as true old new same says = let many : 2 ≤ old = says in omega (arith, same, many)
says_as false old new same says = let few : old ≤ 1 = says in omega (arith, same, few)

say_go : (conn : ℕ) (gone more : List Ino) (old new : HeldFiles) (p : List ToClient) → ((ino : Ino) → is_gone ino more ≡ false → (is_gone ino gone ≡ false) × (has ino new ≡ has ino old)) → AllSay conn gone old p → AllSay conn more new p
say_go conn gone more old new [] go all = tt
say_go conn gone more old new (m ∷ p) go all = (one m all.0, say_go conn gone more old new p go all.1)
  where
    found : (said : Answer) → SaysIn gone old said → SaysIn more new said
    found (answer.FoundLive ino perm size write_held) says = λ left. let kept = go ino left in says_as write_held (has ino old) (has ino new) kept.1 (says kept.0)
    found said says = tt

    one : (m : ToClient) → SaysAt conn gone old m → SaysAt conn more new m
    one (Reply k tid st said) says = λ now. found said (says now)
    one m says = tt

-- who writes a file on the server's table: as before, with more on the way to the server
writes_as : (files new : HeldFiles) (under next : Under) (q more : List ToServer) (j : ℕ) (ino : Ino) → (2 ≤ has ino files → (2 ≤ has ino new) ⊎ (list_any (is_release j ino) more ≡ true)) → (wants_write ino under ≡ true → (2 ≤ has ino new) ⊎ (wants_write ino next ≡ true)) → Writes files under q j ino → Writes new next (q ++ more) j ino
writes_as files new under next q more j ino holds wants (inl two) = by_place (holds two)
  where
    by_place : (2 ≤ has ino new) ⊎ (list_any (is_release j ino) more ≡ true) → Writes new next (q ++ more) j ino
    by_place (inl still) = inl still
    by_place (inr any) = inr (inl (list_any-append (is_release j ino) q more ∙ or_right (list_any (is_release j ino) q) (list_any (is_release j ino) more) any))
writes_as files new under next q more j ino holds wants (inr (inl any)) = inr (inl (list_any-append (is_release j ino) q more ∙ or_left (list_any (is_release j ino) q) (list_any (is_release j ino) more) any))
writes_as files new under next q more j ino holds wants (inr (inr is)) = by_place (wants is)
  where
    by_place : (2 ≤ has ino new) ⊎ (wants_write ino next ≡ true) → Writes new next (q ++ more) j ino
    by_place (inl two) = inl two
    by_place (inr still) = inr (inr still)

-- what is said more on the way to the server
pub either_true : (a b : Bool) → (a || b) ≡ true → (a ≡ true) ⊎ (b ≡ true)
either_true true b is = inl refl
either_true false b is = inr is

pub drop_either : (j : ℕ) (ino : Ino) (up more : List ToServer) → list_any (is_drop j ino) (up ++ more) ≡ true → (list_any (is_drop j ino) up ≡ true) ⊎ (list_any (is_drop j ino) more ≡ true)
drop_either j ino up more any = either_true (list_any (is_drop j ino) up) (list_any (is_drop j ino) more) (sym (list_any-append (is_drop j ino) up more) ∙ any)

plain_no_drop : (j : ℕ) (ino : Ino) (more : List ToServer) → AllPlain more → list_any (is_drop j ino) more ≡ false
plain_no_drop j ino [] all = refl
plain_no_drop j ino (Flush conn f ∷ more) all = plain_no_drop j ino more all.1
plain_no_drop j ino (m ∷ more) all = absurd all.0

pub no_release : (a r i : Bool) → r ≡ false → (a && (r && i)) ≡ false
no_release true r i none = rw none refl
no_release false r i none = refl

plain_let : (conn : ℕ) (asked : Request) (gone : List Ino) (more : List ToServer) → AllPlain more → AllLet conn asked gone more
plain_let conn asked gone [] all = tt
plain_let conn asked gone (Flush j f ∷ more) all = (λ none ino. (λ is. absurd (true≢false (sym is)), λ is. absurd (true≢false (sym is ∙ no_release (j == conn) f.release (is_ino ino f.ino) all.0))), plain_let conn asked gone more all.1)
plain_let conn asked gone (m ∷ more) all = absurd all.0

let_more : (conn : ℕ) (asked : Request) (gone : List Ino) (up more : List ToServer) → AllLet conn asked gone more → AllLet conn asked gone up → AllLet conn asked gone (up ++ more)
let_more conn asked gone [] more then all = then
let_more conn asked gone (m ∷ up) more then all = (λ none. all.0 (let sum = asks_append up more in omega (arith, sum, none)), let_more conn asked gone up more then all.1)

lets_plain : (conn : ℕ) (under : Under) (up more : List ToServer) → AllPlain more → Lets conn under up → Lets conn under (up ++ more)
lets_plain conn Idle up more all lets = tt
lets_plain conn (AtStore number entry ino head) up more all lets = tt
lets_plain conn (Open number tid text asked gone) up more all lets = let_more conn asked gone up more (plain_let conn asked gone more all) lets

lets_none : (conn : ℕ) (under : Under) (up : List ToServer) → NotOpen under → Lets conn under up
lets_none conn Idle up is = tt
lets_none conn (AtStore number entry ino head) up is = tt
lets_none conn (Open number tid text asked gone) up is = absurd is

-- all is before the request
let_ask : (conn tid : ℕ) (asked : Request) (gone : List Ino) (up : List ToServer) → AllLet conn asked gone (up ++ Ask conn tid asked ∷ [])
let_ask conn tid asked gone [] = (λ none ino. (λ is. absurd (true≢false (sym is)), λ is. absurd (true≢false (sym is))), tt)
let_ask conn tid asked gone (m ∷ up) = (λ none. absurd (let sum = asks_append up (Ask conn tid asked ∷ []) in omega (arith, sum, none)), let_ask conn tid asked gone up)

-- what is held less
cap_less : (old new : HeldFiles) (gone : List Ino) (asked : Request) → ((x : Ino) → has x new ≤ has x old) → CapFree old gone asked → CapFree new gone asked
cap_less old new gone (request.Cap file Read) less free = (let few = less file in let zero = free.0 in omega (arith, few, zero), free.1)
cap_less old new gone (request.Cap file Write) less free = let few = less file in let one : has file old ≤ 1 = free in omega (arith, few, one)
cap_less old new gone asked less free = tt

pub frees_less : (under : Under) (old new : HeldFiles) → ((x : Ino) → has x new ≤ has x old) → Frees old under → Frees new under
frees_less Idle old new less frees = tt
frees_less (AtStore number entry ino head) old new less frees = tt
frees_less (Open number tid text asked gone) old new less frees = (λ ino is. let zero = frees.0 ino is in let few = less ino in omega (arith, zero, few), cap_less old new gone asked less frees.1)

frees_none : (files : HeldFiles) (under : Under) → NotOpen under → Frees files under
frees_none files Idle is = tt
frees_none files (AtStore number entry ino head) is = tt
frees_none files (Open number tid text asked gone) is = absurd is

-- What a row of the client makes of what covers it: `p` and `q` go over into `p'` and `q'`; `k` is the server's number for it.
pub record Lent (k : Option ℕ) (conn : ℕ) (files : HeldFiles) (under : Under) (q : List ToServer) (p : List ToClient) (c : Client) (q' : List ToServer) (p' : List ToClient) : Type 0 where
  pub covers : (ino : Ino) (most : ℕ) → Covered conn (gone_in under) files p ino most → Covered c.conn (gone_in c.under) c.files p' ino most
  pub drops : (j : ℕ) (ino : Ino) → list_any (is_drop j ino) q' ≡ true → Covered conn (gone_in under) files p ino 1 → (list_any (is_drop j ino) q ≡ true) ⊎ Covered c.conn (gone_in c.under) c.files p' ino 0
  pub lets : Lets c.conn c.under q'
  pub frees : Frees c.files c.under
  pub grants : AllGrants c.conn c.under p'
  pub writers : (j : ℕ) → k ≡ Some j → (ino : Ino) → Writes files under q j ino → Writes c.files c.under q' j ino
  pub says : AllSay c.conn (gone_in c.under) c.files p'

pub shares_lent : (conn : ℕ) (files : HeldFiles) (under : Under) (q : List ToServer) (p : List ToClient) (c : Client) (q' : List ToServer) (p' : List ToClient) (k : Option ℕ) (table : Ino → ℕ)
    → Lent k conn files under q p c q' p' → SharesAt conn files under q k p table → SharesAt c.conn c.files c.under q' k p' table
shares_lent conn files under q p c q' p' k table lent was = record {
  cover = covers k was.cover;
  dropped = drops k was.cover was.dropped;
  lets = lent.lets;
  frees = lent.frees;
  grants = lent.grants;
  writers = writers_go files c.files under c.under q q' table table k (λ j is ino two before. lent.writers j is ino (before two)) was.writers;
  says = lent.says;
}
  where
    covers : (k : Option ℕ) → CoverBy (Covered conn (gone_in under) files p) table k → CoverBy (Covered c.conn (gone_in c.under) c.files p') table k
    covers None all = tt
    covers (Some j) all = λ ino. lent.covers ino (table ino) (all ino)

    drops : (k : Option ℕ) → CoverBy (Covered conn (gone_in under) files p) table k → DroppedBy (Covered conn (gone_in under) files p) q table k → DroppedBy (Covered c.conn (gone_in c.under) c.files p') q' table k
    drops None all before = tt
    drops (Some j) all before = λ ino any one. either ino one (lent.drops j ino any (subst (λ (most : ℕ). Covered conn (gone_in under) files p ino most) one (all ino)))
      where
        either : (ino : Ino) → table ino ≡ 1 → (list_any (is_drop j ino) q ≡ true) ⊎ Covered c.conn (gone_in c.under) c.files p' ino 0 → Covered c.conn (gone_in c.under) c.files p' ino 0
        either ino one (inl any) = lent.covers ino 0 (before ino any one)
        either ino one (inr now) = now

-- nothing is said of it
pub quiet_lent : (k : Option ℕ) (c : Client) (r : Row Client) (up : List ToServer) (p q : List ToClient) → Quiet c r → Less c.conn p q → Lets c.conn c.under up → Frees c.files c.under → AllGrants c.conn c.under p → AllSay c.conn (gone_in c.under) c.files p → Lent k c.conn c.files c.under up p r.state (up ++ for_server r.sent) q
quiet_lent k c r up p q quiet less lets frees grants says = record {
  covers = λ ino most was. rw (quiet.conn, quiet.under) ((let same = quiet.modes ino in let few = was.0 in omega (arith, same, few)), less.give (gone_in c.under) ino most was.1);
  drops = λ j ino any was. inl (there j ino (drop_either j ino up (for_server r.sent) any));
  lets = rw (quiet.conn, quiet.under) (lets_plain c.conn c.under up (for_server r.sent) quiet.says lets);
  frees = rw quiet.under (frees_less c.under c.files r.state.files (λ x. let same = quiet.modes x in omega (arith, same)) frees);
  grants = rw (quiet.conn, quiet.under) (less.grants c.under grants);
  writers = λ j is ino before. rw quiet.under (writes_as c.files r.state.files c.under c.under up (for_server r.sent) j ino (λ two. inl (let same = quiet.modes ino in omega (arith, same, two))) (λ wants. inr wants) before);
  says = rw (quiet.conn, quiet.under) (say_go c.conn (gone_in c.under) (gone_in c.under) c.files r.state.files q (λ ino left. (left, quiet.modes ino)) (less.says (gone_in c.under) c.files says));
}
  where
    there : (j : ℕ) (ino : Ino) → (list_any (is_drop j ino) up ≡ true) ⊎ (list_any (is_drop j ino) (for_server r.sent) ≡ true) → list_any (is_drop j ino) up ≡ true
    there j ino (inl any) = any
    there j ino (inr any) = absurd (true≢false (sym any ∙ plain_no_drop j ino (for_server r.sent) quiet.says))

-- no request is open afterwards
pub ends_lent : (k : Option ℕ) (c : Client) (gain : Ino → ℕ) (r : Row Client) (up : List ToServer) (p q : List ToClient) → Ends c gain r → ((ino : Ino) → wants_write ino c.under ≡ true → 2 ≤ gain ino) → ((ino : Ino) (most : ℕ) → AllGive c.conn (gone_in c.under) ino most p → gain ino ≤ most) → answers c.conn q ≡ 0 → Lent k c.conn c.files c.under up p r.state (up ++ for_server r.sent) q
ends_lent k c gain r up p q ends wants less none = record {
  covers = λ ino most was. rw ends.conn ((let here = ends.modes ino in let few = was.0 in let more = less ino most was.1 in omega (arith, here, few, more)), give_more c.conn (gone_in r.state.under) ino 0 most q (omega arith) (none_give c.conn (gone_in r.state.under) ino q none));
  drops = λ j ino any was. inl (subst (λ (l : List ToServer). list_any (is_drop j ino) l ≡ true) (append-nil up) (subst (λ (l : List ToServer). list_any (is_drop j ino) (up ++ l) ≡ true) ends.none any));
  lets = lets_none r.state.conn r.state.under (up ++ for_server r.sent) ends.under;
  frees = frees_none r.state.files r.state.under ends.under;
  grants = rw ends.conn (none_grants c.conn r.state.under q none);
  writers = λ j is ino before. writes_as c.files r.state.files c.under r.state.under up (for_server r.sent) j ino (λ two. inl (let here = ends.modes ino in omega (arith, here, two))) (λ was. inl (let here = ends.modes ino in let more = wants ino was in omega (arith, here, more))) before;
  says = rw ends.conn (none_say c.conn (gone_in r.state.under) r.state.files q none);
}

-- a request is sent
gone_free : (files : HeldFiles) (under : Under) (ino : Ino) → Frees files under → is_gone ino (gone_in under) ≡ true → has ino files ≡ 0
gone_free files Idle ino frees is = absurd (true≢false (sym is))
gone_free files (AtStore number entry file head) ino frees is = absurd (true≢false (sym is))
gone_free files (Open number tid text asked gone) ino frees is = frees.0 ino is

pub asks_lent : (k : Option ℕ) (c : Client) (r : Row Client) (up : List ToServer) (p q : List ToClient) → AsksNow c r → WantsStill c r → Frees c.files c.under → answers c.conn q ≡ 0 → Lent k c.conn c.files c.under up p r.state (up ++ for_server r.sent) q
asks_lent k c r up p q a wants frees none = record {
  covers = λ ino most was. rw (a.conn, a.files) (was.0, give_more c.conn (gone_in r.state.under) ino 0 most q (omega arith) (none_give c.conn (gone_in r.state.under) ino q none));
  drops = λ j ino any was. by_place j ino (drop_either j ino up (drop_list c.conn a.before ++ Ask c.conn a.tid a.asked ∷ []) (subst (λ (l : List ToServer). list_any (is_drop j ino) (up ++ l) ≡ true) a.sent any));
  lets = rw (a.conn, a.under, a.sent) (subst (AllLet c.conn a.asked []) (append_assoc up (drop_list c.conn a.before) (Ask c.conn a.tid a.asked ∷ [])) (let_ask c.conn a.tid a.asked [] (up ++ drop_list c.conn a.before)));
  frees = rw (a.under, a.files) (λ ino is. absurd (true≢false (sym is)), a.free);
  grants = rw a.conn (none_grants c.conn r.state.under q none);
  writers = λ j is ino before. writes_as c.files r.state.files c.under r.state.under up (for_server r.sent) j ino (λ two. inl (subst (λ (files : HeldFiles). 2 ≤ has ino files) (sym a.files) two)) (λ was. inr (wants ino was)) before;
  says = rw a.conn (none_say c.conn (gone_in r.state.under) r.state.files q none);
}
  where
    dropped : (j : ℕ) (ino : Ino) (o : Option Ino) → IfSome o (λ x. is_gone x (gone_in c.under) ≡ true) → list_any (is_drop j ino) (drop_list c.conn o ++ Ask c.conn a.tid a.asked ∷ []) ≡ true → has ino c.files ≡ 0
    dropped j ino None gone any = absurd (true≢false (sym any))
    dropped j ino (Some x) gone any = by_test (c.conn == j) (is_ino ino x) refl any
      where
        by_test : (b d : Bool) → is_ino ino x ≡ d → ((b && d) || false) ≡ true → has ino c.files ≡ 0
        by_test true true same is = gone_free c.files c.under ino frees (gone_same ino x (gone_in c.under) same ∙ gone)
        by_test true false same is = absurd (true≢false (sym is))
        by_test false d same is = absurd (true≢false (sym is))

    by_place : (j : ℕ) (ino : Ino) → (list_any (is_drop j ino) up ≡ true) ⊎ (list_any (is_drop j ino) (drop_list c.conn a.before ++ Ask c.conn a.tid a.asked ∷ []) ≡ true) → (list_any (is_drop j ino) up ≡ true) ⊎ Covered r.state.conn (gone_in r.state.under) r.state.files q ino 0
    by_place j ino (inl any) = inl any
    by_place j ino (inr any) = inr (rw (a.conn, a.files) ((let zero = dropped j ino a.before a.gone any in omega (arith, zero)), none_give c.conn (gone_in r.state.under) ino q none))

-- it connects anew: all on its way is of older connections
old_let : (o : Offer) (k : ℕ) (up : List ToServer) (asked : Request) (gone : List Ino) → k ≤ o.conn → Up o k up → AllLet (o.conn + 1) asked gone up
old_let o k [] asked gone most is = tt
old_let o k (Connect conn said flushes with ∷ up) asked gone most is = (λ none ino. (λ no. absurd (true≢false (sym no)), λ no. absurd (true≢false (sym no))), behind_let (k + 1) up is.2)
  where
    behind_let : (j : ℕ) (up : List ToServer) → Behind o j up → AllLet (o.conn + 1) asked gone up
    behind_let j [] is = tt
    behind_let j (Connect conn said flushes with ∷ up) is = (λ none ino. (λ no. absurd (true≢false (sym no)), λ no. absurd (true≢false (sym no))), behind_let (j + 1) up is.1)
    behind_let j (m ∷ up) is = absurd is
old_let o k (Ask conn tid request ∷ up) asked gone most is = (λ none ino. (λ no. absurd (true≢false (sym no)), λ no. absurd (true≢false (sym no))), old_let o k up asked gone most is.1)
old_let o k (Flush conn f ∷ up) asked gone most is = (λ none ino. (λ no. absurd (true≢false (sym no)), λ no. absurd (true≢false (sym no ∙ ap (λ (b : Bool). b && (f.release && is_ino ino f.ino)) (below conn is.0)))), old_let o k up asked gone most is.1)
  where
    below : (j : ℕ) → j ≡ k → (j == (o.conn + 1)) ≡ false
    below j same = grind (arith, nat_tests, same, most)
old_let o k (DropRead conn file ∷ up) asked gone most is = (λ none ino. (λ no. absurd (true≢false (sym no ∙ ap (λ (b : Bool). b && is_ino ino file) (below conn is.0))), λ no. absurd (true≢false (sym no))), old_let o k up asked gone most is.1)
  where
    below : (j : ℕ) → j ≡ k → (j == (o.conn + 1)) ≡ false
    below j same = grind (arith, nat_tests, same, most)
old_let o k (m ∷ up) asked gone most is = absurd is

connect_let : (conn : ℕ) (asked : Request) (gone : List Ino) (m : ToServer) → ((j : ℕ) (ino : Ino) → (is_drop j ino m ≡ false) × (is_release j ino m ≡ false)) → AllLet conn asked gone (m ∷ [])
connect_let conn asked gone m none = (λ no ino. (λ is. absurd (true≢false (sym is ∙ (none conn ino).0)), λ is. absurd (true≢false (sym is ∙ (none conn ino).1))), tt)

again_lets : (o : Offer) (k : ℕ) (under : Under) (up : List ToServer) (m : ToServer) → ((j : ℕ) (ino : Ino) → (is_drop j ino m ≡ false) × (is_release j ino m ≡ false)) → Up o k up → Lets (o.conn + 1) (sent_again under) (up ++ m ∷ [])
again_lets o k Idle up m none is = tt
again_lets o k (AtStore number entry ino head) up m none is = tt
again_lets o k (Open number tid text asked gone) up m none is = let_more (o.conn + 1) asked [] up (m ∷ []) (connect_let (o.conn + 1) asked [] m none) (old_let o k up asked [] (up_most o k up is) is)

again_frees : (files : HeldFiles) (under : Under) → Frees files under → Frees files (sent_again under)
again_frees files Idle frees = tt
again_frees files (AtStore number entry ino head) frees = tt
again_frees files (Open number tid text asked gone) frees = (λ ino is. absurd (true≢false (sym is)), free_again files gone asked frees.1)

pub again_wants : (ino : Ino) (under : Under) → wants_write ino (sent_again under) ≡ wants_write ino under
again_wants ino Idle = refl
again_wants ino (AtStore number entry file head) = refl
again_wants ino (Open number tid text asked gone) = refl

pub returns_lent : (known : Option ℕ) (c : Client) (r : Row Client) (o : Offer) (k : ℕ) (up : List ToServer) (p q : List ToClient) → o.conn ≡ c.conn → Up o k up → Returns c r → Frees c.files c.under → answers (c.conn + 1) q ≡ 0 → Lent known c.conn c.files c.under up p r.state (up ++ for_server r.sent) q
returns_lent known c r o k up p q same is back frees none = record {
  covers = λ ino most was. rw (back.conn, back.files) (was.0, give_more (c.conn + 1) (gone_in r.state.under) ino 0 most q (omega arith) (none_give (c.conn + 1) (gone_in r.state.under) ino q none));
  drops = λ j ino any was. inl (there j ino (drop_either j ino up (m ∷ []) (subst (λ (l : List ToServer). list_any (is_drop j ino) (up ++ l) ≡ true) back.says.3 any)));
  lets = rw (back.conn, back.under, back.says.3) (subst (λ (j : ℕ). Lets (j + 1) (sent_again c.under) (up ++ m ∷ [])) same (again_lets o k c.under up m (λ j ino. (refl, refl)) is));
  frees = rw (back.under, back.files) (again_frees c.files c.under frees);
  grants = rw back.conn (none_grants (c.conn + 1) r.state.under q none);
  writers = λ j known_as ino before. writes_as c.files r.state.files c.under r.state.under up (for_server r.sent) j ino (λ two. inl (subst (λ (files : HeldFiles). 2 ≤ has ino files) (sym back.files) two)) (λ was. inr (ap (wants_write ino) back.under ∙ again_wants ino c.under ∙ was)) before;
  says = rw back.conn (none_say (c.conn + 1) (gone_in r.state.under) r.state.files q none);
}
  where
    m : ToServer
    m = Connect (c.conn + 1) back.says.0 back.says.1 back.says.2

    there : (j : ℕ) (ino : Ino) → (list_any (is_drop j ino) up ≡ true) ⊎ (list_any (is_drop j ino) (m ∷ []) ≡ true) → list_any (is_drop j ino) up ≡ true
    there j ino (inl any) = any
    there j ino (inr any) = absurd (true≢false (sym any))

-- a file is let go
has_same : (x ino : Ino) (files : HeldFiles) → is_ino x ino ≡ true → has x files ≡ has ino files
has_same x ino files is = ap rank_in (file_same x ino files is)

pub less_without : (x ino : Ino) (files : HeldFiles) → Distinct files → has x (without ino files) ≤ has x files
less_without x ino files once = by_test (is_ino x ino) refl
  where
    by_test : (b : Bool) → is_ino x ino ≡ b → has x (without ino files) ≤ has x files
    by_test true is = let zero : has x (without ino files) ≡ 0 = has_same x ino (without ino files) is ∙ has_none ino files once in omega (arith, zero)
    by_test false is = let same = has_other x ino files is in omega (arith, same)

pub none_without : (x ino : Ino) (files : HeldFiles) → Distinct files → is_ino x ino ≡ true → has x (without ino files) ≡ 0
none_without x ino files once is = has_same x ino (without ino files) is ∙ has_none ino files once

found_gone : (y ino : Ino) (gone : List Ino) (said : Answer) → found_in (y ∷ gone) ino said ≤ found_in gone ino said
found_gone y ino gone (answer.FoundLive file perm size write_held) = by_tests (is_ino ino file) write_held (is_ino ino y) (is_gone ino gone)
  where
    by_tests : (a w x g : Bool) → cond (a && not w && not (x || g)) 1 0 ≤ cond (a && not w && not g) 1 0
    by_tests false w x g = omega arith
    by_tests true true x g = omega arith
    by_tests true false true true = omega arith
    by_tests true false true false = omega arith
    by_tests true false false g = omega arith
found_gone y ino gone said = omega arith

pub gives_gone : (conn : ℕ) (y ino : Ino) (gone : List Ino) (m : ToClient) → gives conn (y ∷ gone) ino m ≤ gives conn gone ino m
gives_gone conn y ino gone (Reply k tid st said) = by_test (k == conn)
  where
    by_test : (b : Bool) → cond b (found_in (y ∷ gone) ino said) 0 ≤ cond b (found_in gone ino said) 0
    by_test true = found_gone y ino gone said
    by_test false = omega arith
gives_gone conn y ino gone m = omega arith

all_gone : (conn : ℕ) (y : Ino) (gone : List Ino) (ino : Ino) (most : ℕ) (p : List ToClient) → AllGive conn gone ino most p → AllGive conn (y ∷ gone) ino most p
all_gone conn y gone ino most [] all = tt
all_gone conn y gone ino most (m ∷ p) all = (let less = gives_gone conn y ino gone m in let one = all.0 in omega (arith, less, one), all_gone conn y gone ino most p all.1)

give_let_go : (conn : ℕ) (y : Ino) (under : Under) (ino : Ino) (most : ℕ) (p : List ToClient) → AllGive conn (gone_in under) ino most p → AllGive conn (gone_in (with_let_go y under)) ino most p
give_let_go conn y Idle ino most p all = all
give_let_go conn y (AtStore number entry file head) ino most p all = all
give_let_go conn y (Open number tid text asked gone) ino most p all = all_gone conn y gone ino most p all

grants_let_go : (conn : ℕ) (y : Ino) (under : Under) (p : List ToClient) → AllGrants conn under p → AllGrants conn (with_let_go y under) p
grants_let_go conn y Idle p all = all
grants_let_go conn y (AtStore number entry file head) p all = all
grants_let_go conn y (Open number tid text asked gone) p all = each_grant p all
  where
    one : (m : ToClient) → GrantAt conn (Open number tid text asked gone) m → GrantAt conn (Open number tid text asked (y ∷ gone)) m
    one (Grant k t st ino mode size trace) is = is
    one m is = tt

    each_grant : (p : List ToClient) → AllGrants conn (Open number tid text asked gone) p → AllGrants conn (Open number tid text asked (y ∷ gone)) p
    each_grant [] all = tt
    each_grant (m ∷ p) all = (one m all.0, each_grant p all.1)

-- where a file can be let go, no message of the connection gives it then
found_nothing : (x ino : Ino) (gone : List Ino) (said : Answer) → is_ino x ino ≡ true → found_in (ino ∷ gone) x said ≤ 0
found_nothing x ino gone (answer.FoundLive file perm size write_held) is = by_tests (is_ino x file) write_held (is_ino x ino) is
  where
    by_tests : (a w d : Bool) → d ≡ true → cond (a && not w && not (d || is_gone x gone)) 1 0 ≤ 0
    by_tests true true d is = omega arith
    by_tests true false true is = omega arith
    by_tests true false false is = absurd (true≢false (sym is))
    by_tests false w d is = omega arith
found_nothing x ino gone said is = omega arith

-- a file is held in this mode; for Read no message gives more than Read
abbrev pub LetMode : ℕ → List Ino → HeldFiles → Ino → Ino → ToClient → Type 0
LetMode conn gone files ino x m = (has ino files ≡ 2) ⊎ ((has ino files ≡ 1) × (gives conn gone x m ≤ 1))

grant_nothing : (files : HeldFiles) (gone : List Ino) (ino x file : Ino) (mode : Mode) → is_ino x ino ≡ true → is_ino x file ≡ true → CapFree files gone (request.Cap file mode) → (has ino files ≡ 2) ⊎ ((has ino files ≡ 1) × (rank mode ≤ 1)) → rank mode ≤ 0
grant_nothing files gone ino x file Read is at free (inl two) = let a = has_same x ino files is in let b = has_same x file files at in let zero = free.0 in absurd (omega (arith, a, b, zero, two))
grant_nothing files gone ino x file Read is at free (inr one) = let a = has_same x ino files is in let b = has_same x file files at in let zero = free.0 in let o = one.0 in absurd (omega (arith, a, b, zero, o))
grant_nothing files gone ino x file Write is at free (inl two) = let a = has_same x ino files is in let b = has_same x file files at in let few : has file files ≤ 1 = free in absurd (omega (arith, a, b, few, two))
grant_nothing files gone ino x file Write is at free (inr one) = let less : 2 ≤ 1 = one.1 in absurd (omega (arith, less))

pub let_nothing : (conn : ℕ) (files : HeldFiles) (number tid : ℕ) (text : Line) (asked : Request) (gone : List Ino) (ino x : Ino) (m : ToClient) → is_ino x ino ≡ true → CapFree files gone asked → GrantAt conn (Open number tid text asked gone) m → LetMode conn gone files ino x m → gives conn (ino ∷ gone) x m ≤ 0
let_nothing conn files number tid text asked gone ino x (Reply k t st said) is free grant mode = by_test (k == conn)
  where
    by_test : (b : Bool) → cond b (found_in (ino ∷ gone) x said) 0 ≤ 0
    by_test true = found_nothing x ino gone said is
    by_test false = omega arith
let_nothing conn files number tid text asked gone ino x (Grant k t st file m size trace) is free grant mode = by_tests (k == conn) (is_ino x file) refl refl mode
  where
    by_tests : (b d : Bool) → (k == conn) ≡ b → is_ino x file ≡ d → (has ino files ≡ 2) ⊎ ((has ino files ≡ 1) × (cond (b && d) (rank m) 0 ≤ 1)) → cond (b && d) (rank m) 0 ≤ 0
    by_tests true true now at mode = grant_nothing files gone ino x file m is at (subst (CapFree files gone) (grant now) free) mode
    by_tests true false now at mode = omega arith
    by_tests false d now at mode = omega arith
let_nothing conn files number tid text asked gone ino x m is free grant mode = omega arith

all_nothing : (conn : ℕ) (files : HeldFiles) (number tid : ℕ) (text : Line) (asked : Request) (gone : List Ino) (ino x : Ino) (p : List ToClient) → is_ino x ino ≡ true → CapFree files gone asked → has ino files ≡ 1 → AllGrants conn (Open number tid text asked gone) p → AllGive conn gone x 1 p → AllGive conn (ino ∷ gone) x 0 p
all_nothing conn files number tid text asked gone ino x [] is free one grants all = tt
all_nothing conn files number tid text asked gone ino x (m ∷ p) is free one grants all =
    (let_nothing conn files number tid text asked gone ino x m is free grants.0 (inr (one, all.0)), all_nothing conn files number tid text asked gone ino x p is free one grants.1 all.1)

under_nothing : (conn : ℕ) (files : HeldFiles) (under : Under) (ino x : Ino) (p : List ToClient) → is_ino x ino ≡ true → Frees files under → has ino files ≡ 1 → AllGrants conn under p → (open_request under ≡ None → answers conn p ≡ 0) → AllGive conn (gone_in under) x 1 p → AllGive conn (gone_in (with_let_go ino under)) x 0 p
under_nothing conn files Idle ino x p is frees one grants none all = none_give conn [] x p (none refl)
under_nothing conn files (AtStore number entry file head) ino x p is frees one grants none all = none_give conn [] x p (none refl)
under_nothing conn files (Open number tid text asked gone) ino x p is frees one grants none all = all_nothing conn files number tid text asked gone ino x p is frees.1 one grants all

-- what was let go is remembered

let_grow : (conn : ℕ) (asked : Request) (gone : List Ino) (ino : Ino) (up : List ToServer) → AllLet conn asked gone up → AllLet conn asked (ino ∷ gone) up
let_grow conn asked gone ino [] all = tt
let_grow conn asked gone ino (m ∷ up) all = (
  (λ none y. (
    (λ is. or_right (is_ino y ino) (is_gone y gone) ((all.0 none y).0 is)),
    (λ is. let two = (all.0 none y).1 is in (or_right (is_ino y ino) (is_gone y gone) two.0, two.1)),
  )),
  let_grow conn asked gone ino up all.1,
)

cap_not : (files : HeldFiles) (gone : List Ino) (asked : Request) (y ino : Ino) → CapFree files gone asked → has ino files ≡ 2 → is_ino y ino ≡ true → is_cap y asked ≡ false
cap_not files gone (request.Cap file mode) y ino free two is = by_test (is_ino y file) refl mode free
  where
    by_test : (b : Bool) → is_ino y file ≡ b → (m : Mode) → CapFree files gone (request.Cap file m) → b ≡ false
    by_test true at Read free = let a = has_same y ino files is in let b = has_same y file files at in let zero = free.0 in absurd (omega (arith, a, b, zero, two))
    by_test true at Write free = let a = has_same y ino files is in let b = has_same y file files at in let few : has file files ≤ 1 = free in absurd (omega (arith, a, b, few, two))
    by_test false at m free = refl
cap_not files gone asked y ino free two is = refl

second_true : (a b : Bool) → (a && b) ≡ true → b ≡ true
second_true true b is = is
second_true false b is = absurd (true≢false (sym is))

-- the message with which it is let go
abbrev pub LetSaid : ℕ → HeldFiles → Ino → List ToServer → Type 0
LetSaid conn files ino sent =
    ((has ino files ≡ 1) × (sent ≡ DropRead conn ino ∷ []))
    ⊎ ((has ino files ≡ 2) × ((f : FlushMsg) × (f.release ≡ true) × (f.ino ≡ ino) × (sent ≡ Flush conn f ∷ [])))

let_new : (conn : ℕ) (files : HeldFiles) (asked : Request) (gone : List Ino) (ino : Ino) (sent : List ToServer) → CapFree files gone asked → LetSaid conn files ino sent → AllLet conn asked (ino ∷ gone) sent
let_new conn files asked gone ino sent free (inl said) = rw said.1 (
  (λ none y. (
    (λ is. or_left (is_ino y ino) (is_gone y gone) (second_true (conn == conn) (is_ino y ino) is)),
    (λ is. absurd (true≢false (sym is))),
  )),
  tt,
)
let_new conn files asked gone ino sent free (inr said) = rw said.1.3 (
  (λ none y. (
    (λ is. absurd (true≢false (sym is))),
    (λ is. let at = same y (second_true said.1.0.release (is_ino y said.1.0.ino) (second_true (conn == conn) (said.1.0.release && is_ino y said.1.0.ino) is)) in
        (or_left (is_ino y ino) (is_gone y gone) at, cap_not files gone asked y ino free said.0 at)),
  )),
  tt,
)
  where
    same : (y : Ino) → is_ino y said.1.0.ino ≡ true → is_ino y ino ≡ true
    same y is = subst (λ (x : Ino). is_ino y x ≡ true) said.1.2 is

lets_let_go : (conn : ℕ) (files : HeldFiles) (under : Under) (ino : Ino) (up sent : List ToServer) → Frees files under → LetSaid conn files ino sent → Lets conn under up → Lets conn (with_let_go ino under) (up ++ sent)
lets_let_go conn files Idle ino up sent frees said lets = tt
lets_let_go conn files (AtStore number entry file head) ino up sent frees said lets = tt
lets_let_go conn files (Open number tid text asked gone) ino up sent frees said lets = let_more conn asked (ino ∷ gone) up sent (let_new conn files asked gone ino sent frees.1 said) (let_grow conn asked gone ino up lets)

said_held : (conn : ℕ) (files : HeldFiles) (ino : Ino) (sent : List ToServer) → LetSaid conn files ino sent → 1 ≤ has ino files
said_held conn files ino sent (inl said) = let one = said.0 in omega (arith, one)
said_held conn files ino sent (inr said) = let two = said.0 in omega (arith, two)

cap_let_go : (files : HeldFiles) (gone : List Ino) (asked : Request) (ino : Ino) → Distinct files → 1 ≤ has ino files → CapFree files gone asked → CapFree (without ino files) (ino ∷ gone) asked
cap_let_go files gone (request.Cap file Read) ino once some free =
    (let few = less_without file ino files once in let zero = free.0 in omega (arith, few, zero), or_none (is_ino file ino) (is_gone file gone) (by_test (is_ino file ino) refl) free.1)
  where
    by_test : (b : Bool) → is_ino file ino ≡ b → b ≡ false
    by_test true is = let same = has_same file ino files is in let zero = free.0 in absurd (omega (arith, same, zero, some))
    by_test false is = refl
cap_let_go files gone (request.Cap file Write) ino once some free = let few = less_without file ino files once in let one : has file files ≤ 1 = free in omega (arith, few, one)
cap_let_go files gone asked ino once some free = tt

frees_let_go : (files : HeldFiles) (under : Under) (ino : Ino) → Distinct files → 1 ≤ has ino files → Frees files under → Frees (without ino files) (with_let_go ino under)
frees_let_go files Idle ino once some frees = tt
frees_let_go files (AtStore number entry file head) ino once some frees = tt
frees_let_go files (Open number tid text asked gone) ino once some frees = ((λ y is. by_place y (either_true (is_ino y ino) (is_gone y gone) is)), cap_let_go files gone asked ino once some frees.1)
  where
    by_place : (y : Ino) → (is_ino y ino ≡ true) ⊎ (is_gone y gone ≡ true) → has y (without ino files) ≡ 0
    by_place y (inl is) = none_without y ino files once is
    by_place y (inr is) = let few = less_without y ino files once in let zero = frees.0 y is in omega (arith, few, zero)

pub still_wants : (x ino : Ino) (under : Under) → wants_write x (with_let_go ino under) ≡ wants_write x under
still_wants x ino Idle = refl
still_wants x ino (AtStore number entry file head) = refl
still_wants x ino (Open number tid text asked gone) = refl

say_let_go : (conn : ℕ) (files : HeldFiles) (ino : Ino) (under : Under) (p : List ToClient) → (open_request under ≡ None → answers conn p ≡ 0) → AllSay conn (gone_in under) files p → AllSay conn (gone_in (with_let_go ino under)) (without ino files) p
say_let_go conn files ino Idle p none says = none_say conn [] (without ino files) p (none refl)
say_let_go conn files ino (AtStore number entry file head) p none says = none_say conn [] (without ino files) p (none refl)
say_let_go conn files ino (Open number tid text asked gone) p none says = say_go conn gone (ino ∷ gone) files (without ino files) p (λ x left. let parts = or_false (is_ino x ino) (is_gone x gone) left in (parts.1, has_other x ino files parts.0)) says

pub let_go_lent : (k : Option ℕ) (c : Client) (r : Row Client) (up : List ToServer) (p : List ToClient) → LetsGo c r → ((j : ℕ) → k ≡ Some j → j ≡ c.conn) → Distinct c.files → Lets c.conn c.under up → Frees c.files c.under → AllGrants c.conn c.under p → AllSay c.conn (gone_in c.under) c.files p → (open_request c.under ≡ None → answers c.conn p ≡ 0) → Lent k c.conn c.files c.under up p r.state (up ++ for_server r.sent) p
let_go_lent k c r up p go known once lets frees grants says none = record {
  covers = λ x most was. rw (go.conn, go.under, go.files) ((let few = less_without x go.ino c.files once in let before = was.0 in omega (arith, few, before)), give_let_go c.conn go.ino c.under x most p was.1);
  drops = λ j x any was. by_place j x was (drop_either j x up (for_server r.sent) any);
  lets = rw (go.conn, go.under) (lets_let_go c.conn c.files c.under go.ino up (for_server r.sent) frees go.says lets);
  frees = rw (go.under, go.files) (frees_let_go c.files c.under go.ino once (said_held c.conn c.files go.ino (for_server r.sent) go.says) frees);
  grants = rw (go.conn, go.under) (grants_let_go c.conn go.ino c.under p grants);
  writers = λ j is x before. writes_as c.files r.state.files c.under r.state.under up (for_server r.sent) j x (λ two. leaves j is x two go.says) (λ wants. inr (ap (wants_write x) go.under ∙ still_wants x go.ino c.under ∙ wants)) before;
  says = rw (go.conn, go.under, go.files) (say_let_go c.conn c.files go.ino c.under p none says);
}
  where
    leaves : (j : ℕ) → k ≡ Some j → (x : Ino) → 2 ≤ has x c.files → LetSaid c.conn c.files go.ino (for_server r.sent) → (2 ≤ has x r.state.files) ⊎ (list_any (is_release j x) (for_server r.sent) ≡ true)
    leaves j is x two said = by_file (is_ino x go.ino) refl said
      where
        itself : (c.conn == j) ≡ true
        itself = let same = known j is in grind (arith, nat_tests, same)

        by_file : (b : Bool) → is_ino x go.ino ≡ b → LetSaid c.conn c.files go.ino (for_server r.sent) → (2 ≤ has x r.state.files) ⊎ (list_any (is_release j x) (for_server r.sent) ≡ true)
        by_file false other said = inl (let same = ap (has x) go.files ∙ has_other x go.ino c.files other in omega (arith, same, two))
        by_file true at (inl said) = let same = has_same x go.ino c.files at in let one = said.0 in absurd (omega (arith, same, one, two))
        by_file true at (inr said) = inr (ap (list_any (is_release j x)) said.1.3 ∙ or_left (c.conn == j && (said.1.0.release && is_ino x said.1.0.ino)) false (all_three itself said.1.1 (subst (λ (y : Ino). is_ino x y ≡ true) (sym said.1.2) at)))
          where
            all_three : {a b d : Bool} → a ≡ true → b ≡ true → d ≡ true → (a && (b && d)) ≡ true
            all_three one two three = rw (one, two, three) refl

    now : (j : ℕ) (x : Ino) → Covered c.conn (gone_in c.under) c.files p x 1 → LetSaid c.conn c.files go.ino (for_server r.sent) → list_any (is_drop j x) (for_server r.sent) ≡ true → Covered c.conn (gone_in (with_let_go go.ino c.under)) (without go.ino c.files) p x 0
    now j x was (inl said) any = by_test (c.conn == j) (is_ino x go.ino) refl (subst (λ (l : List ToServer). list_any (is_drop j x) l ≡ true) said.1 any)
      where
        by_test : (b d : Bool) → is_ino x go.ino ≡ d → ((b && d) || false) ≡ true → Covered c.conn (gone_in (with_let_go go.ino c.under)) (without go.ino c.files) p x 0
        by_test true true is any = ((let zero = none_without x go.ino c.files once is in omega (arith, zero)), under_nothing c.conn c.files c.under go.ino x p is frees said.0 grants none was.1)
        by_test true false is any = absurd (true≢false (sym any))
        by_test false d is any = absurd (true≢false (sym any))
    now j x was (inr said) any = absurd (true≢false (sym (subst (λ (l : List ToServer). list_any (is_drop j x) l ≡ true) said.1.3 any)))

    by_place : (j : ℕ) (x : Ino) → Covered c.conn (gone_in c.under) c.files p x 1 → (list_any (is_drop j x) up ≡ true) ⊎ (list_any (is_drop j x) (for_server r.sent) ≡ true) → (list_any (is_drop j x) up ≡ true) ⊎ Covered r.state.conn (gone_in r.state.under) r.state.files p x 0
    by_place j x was (inl any) = inl any
    by_place j x was (inr any) = inr (rw (go.conn, go.under, go.files) (now j x was go.says any))

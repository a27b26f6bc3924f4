-- What the server's table has of what clients hold, and what of their releases is durable: the laws.
use Rattle.std.proofs.Common.{◌≡◌, ◌≤◌, ℕ, zero, suc, List, [], ◌∷◌, ◌++◌, Bool, true, false, true≢false, cond, Option, None, Some, refl, sym, ◌∙◌, IfSome, arith, ◌⊎◌, inl, inr}
use Rattle.std.proofs.lemmas.Bool.Decides.{nat_tests}
use Rattle.std.specs.Prelude.{◌==◌, ◌&&◌, ◌||◌, max}
use Rattle.std.specs.List.{list_any}
use Rattle.snap_ids.specs.declared.id.Ino.{Ino}
use Rattle.snap_ids.specs.declared.values.Mode.{Mode}
use Rattle.snap_ids.specs.declared.values.Mode.TheVariants.{Read, Write}
use Rattle.plain_types.specs.declared.answer.Answer.{Answer}
use Rattle.plain_types.specs.declared.answer.Answer.TheVariants as answer
use Rattle.plain_types.specs.declared.history.Event.{Event}
use Rattle.plain_types.specs.declared.message.ToClient.{ToClient}
use Rattle.plain_types.specs.declared.message.ToClient.TheVariants.{Reply, Grant}
use Rattle.plain_types.specs.declared.script.Script.{Script}
use Rattle.held_files.specs.Files.{HeldFiles, is_ino, is_held, is_writer, is_write}
use Rattle.step_table.specs.ServerState.{Holder, is_holder, is_writer as writes_at, number_of}
use Rattle.run_laws.specs.Links.{EachClient, mail_of}
use Rattle.run_laws.specs.Moments.{steps_of, world_after}
use Rattle.run_laws.specs.Tenures.{InTable, HeldInTable, GrantInTable, AllGrantsInTable, TableCovers, HeldAfterRelease, gone_in, SaysWriterIn, SaysWriterAt, AllSayWriter, SaysWriter}
use Rattle.run_laws.proofs.Files.{has_writer, has_reader, held_not}
use Rattle.run_laws.proofs.Linked.{each_part}
use Rattle.run_laws.proofs.Pairs.{sharers_hold}
use Rattle.run_laws.proofs.Shares.{rank, has, shares, gives, AllGive}
use Rattle.run_laws.proofs.Sharers.{Sharer}
use Rattle.run_laws.proofs.Sharing.{Covered, CoverBy, Says, SaysIn, SaysAt, AllSay}

-- a share of the table is a holder's
pub share_any : (n : ℕ) (ino : Ino) (holders : List Holder) → 1 ≤ shares n ino holders → list_any (is_holder n ino) holders ≡ true
share_any n ino [] some = absurd (omega (arith, some))
share_any n ino (h ∷ holders) some = by_test (is_holder n ino h) some (share_any n ino holders)
  where
    by_test : (b : Bool) → 1 ≤ max (cond b (rank h.mode) 0) (shares n ino holders) → (1 ≤ shares n ino holders → list_any (is_holder n ino) holders ≡ true) → (b || list_any (is_holder n ino) holders) ≡ true
    by_test true some go = refl
    by_test false some go = go (omega (arith, some))

pub share_writes : (n : ℕ) (ino : Ino) (holders : List Holder) → 2 ≤ shares n ino holders → list_any (writes_at n ino) holders ≡ true
share_writes n ino [] two = absurd (omega (arith, two))
share_writes n ino (h ∷ holders) two = by_test (is_holder n ino h) h.mode two (share_writes n ino holders)
  where
    by_test : (b : Bool) (m : Mode) → 2 ≤ max (cond b (rank m) 0) (shares n ino holders) → (2 ≤ shares n ino holders → list_any (writes_at n ino) holders ≡ true) → ((b && is_write m) || list_any (writes_at n ino) holders) ≡ true
    by_test true Write two go = refl
    by_test true Read two go = go (omega (arith, two))
    by_test false m two go = go (omega (arith, two))

share_mode : (n : ℕ) (ino : Ino) (mode : Mode) (holders : List Holder) → rank mode ≤ shares n ino holders → InTable n ino mode holders
share_mode n ino Read holders less = share_any n ino holders less
share_mode n ino Write holders less = share_writes n ino holders less

some_held : (ino : Ino) (files : HeldFiles) → is_held ino files ≡ true → 1 ≤ has ino files
some_held ino files is = by_rank (has ino files) refl
  where
    by_rank : (r : ℕ) → has ino files ≡ r → 1 ≤ r
    by_rank zero none = absurd (true≢false (sym is ∙ held_not ino files none))
    by_rank (suc r) some = omega arith

grants_in : (n conn : ℕ) (gone : List Ino) (holders : List Holder) (p : List ToClient) → ((ino : Ino) → AllGive conn gone ino (shares n ino holders) p) → AllGrantsInTable n conn holders p
grants_in n conn gone holders [] all = tt
grants_in n conn gone holders (m ∷ p) all = (by_message m (λ ino. (all ino).0), grants_in n conn gone holders p (λ ino. (all ino).1))
  where
    by_message : (m : ToClient) → ((ino : Ino) → gives conn gone ino m ≤ shares n ino holders) → GrantInTable n conn holders m
    by_message (Grant k tid st ino mode size file) less = λ same. share_mode n ino mode holders (by_tests (k == conn) (is_ino ino ino) same (grind (arith, nat_tests)) (less ino))
      where
        by_tests : (b d : Bool) → b ≡ true → d ≡ true → cond (b && d) (rank mode) 0 ≤ shares n ino holders → rank mode ≤ shares n ino holders
        by_tests true true one two less = less
        by_tests true false one two less = absurd (true≢false (sym two))
        by_tests false d one two less = absurd (true≢false (sym one))
    by_message m less = tt

covers : (n conn : ℕ) (gone : List Ino) (files : HeldFiles) (p : List ToClient) (holders : List Holder) (o : Option ℕ) → CoverBy (Covered conn gone files p) (λ ino. shares n ino holders) o → IfSome o (λ k. HeldInTable n files holders × AllGrantsInTable n conn holders p)
covers n conn gone files p holders None cover = tt
covers n conn gone files p holders (Some k) cover = (
  (λ ino. (
    (λ is. share_any n ino holders (let one = some_held ino files is in let less = (cover ino).0 in omega (arith, one, less))),
    (λ is. share_writes n ino holders (let two = has_writer ino files is in let less = (cover ino).0 in omega (arith, two, less))),
  )),
  grants_in n conn gone holders p (λ ino. (cover ino).1),
)

pub covers_law : (script : Script) (history : List Event) → EachClient TableCovers (world_after script history)
covers_law script history = each_part Sharer TableCovers (world_after script history)
    (λ n c up down s so. covers n c.conn (gone_in c.under) c.files (down ++ mail_of n s.mail) s.holders (number_of s.current n) so.1.0.cover) (sharers_hold script (steps_of history))

pub released_law : (script : Script) (history : List Event) → EachClient HeldAfterRelease (world_after script history)
released_law script history = each_part Sharer HeldAfterRelease (world_after script history)
    (λ n c up down s so ino is. either ino c.files is (so.1.1.held ino)) (sharers_hold script (steps_of history))
  where
    either : {R : Type 0} (ino : Ino) (files : HeldFiles) → is_held ino files ≡ true → (has ino files ≡ 0) ⊎ R → R
    either ino files is (inl none) = absurd (true≢false (sym is ∙ held_not ino files none))
    either ino files is (inr all) = all

-- who writes, by the answers on the way
pub held_writer : (ino : Ino) (files : HeldFiles) → 2 ≤ has ino files → is_writer ino files ≡ true
held_writer ino files two = by_test (is_writer ino files) refl
  where
    by_test : (b : Bool) → is_writer ino files ≡ b → b ≡ true
    by_test true is = refl
    by_test false is = let few = has_reader ino files is in absurd (omega (arith, two, few))

pub held_reader : (ino : Ino) (files : HeldFiles) → has ino files ≤ 1 → is_writer ino files ≡ false
held_reader ino files few = by_test (is_writer ino files) refl
  where
    by_test : (b : Bool) → is_writer ino files ≡ b → b ≡ false
    by_test true is = let two = has_writer ino files is in absurd (omega (arith, two, few))
    by_test false is = refl

say_writer : (conn : ℕ) (gone : List Ino) (files : HeldFiles) (p : List ToClient) → AllSay conn gone files p → AllSayWriter conn gone files p
say_writer conn gone files [] all = tt
say_writer conn gone files (m ∷ p) all = (one m all.0, say_writer conn gone files p all.1)
  where
    by_held : (w : Bool) (ino : Ino) → Says (has ino files) w → w ≡ is_writer ino files
    by_held true ino says = sym (held_writer ino files says)
    by_held false ino says = sym (held_reader ino files says)

    found : (said : Answer) → SaysIn gone files said → SaysWriterIn gone files said
    found (answer.FoundLive ino perm size write_held) says = λ left. by_held write_held ino (says left)
    found said says = tt

    one : (m : ToClient) → SaysAt conn gone files m → SaysWriterAt conn gone files m
    one (Reply k tid stamp said) says = λ now. found said (says now)
    one m says = tt

pub says_law : (script : Script) (history : List Event) → EachClient SaysWriter (world_after script history)
says_law script history = each_part Sharer SaysWriter (world_after script history)
    (λ n c up down s so. say_writer c.conn (gone_in c.under) c.files (down ++ mail_of n s.mail) so.1.0.says) (sharers_hold script (steps_of history))

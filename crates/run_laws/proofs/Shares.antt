-- In which mode a client holds a file: at the server, by its own list, and by what is on the way to it.
use Rattle.std.proofs.Common.{◌≡◌, ◌≤◌, ℕ, ◌+◌, List, [], ◌∷◌, ◌++◌, map, Bool, true, false, true≢false, not, cond, filter, Option, None, Some, refl, sym, ap, ◌∙◌, arith, ◌⊎◌, inl, inr}
use Rattle.std.proofs.lemmas.Bool.Decides.{nat_tests}
use Rattle.std.specs.Prelude.{◌==◌, ◌&&◌, ◌||◌, max}
use Rattle.std.specs.List.{list_any}
use Rattle.snap_ids.specs.declared.id.Ino.{Ino}
use Rattle.snap_ids.specs.declared.id.SnapId.{SnapId}
use Rattle.snap_ids.specs.declared.values.Mode.{Mode}
use Rattle.snap_ids.specs.declared.values.Mode.TheVariants.{Read, Write}
use Rattle.plain_types.specs.declared.answer.Answer.{Answer}
use Rattle.plain_types.specs.declared.answer.Answer.TheVariants as answer
use Rattle.plain_types.specs.declared.message.ToClient.{ToClient}
use Rattle.plain_types.specs.declared.message.ToClient.TheVariants.{Reply, Grant}
use Rattle.held_files.specs.Files.{HeldFile, HeldFiles, is_ino, file_of, is_write}
use Rattle.plain_tree.specs.State.{same_ino}
use Rattle.step_table.specs.ServerState.{Holder, is_holder, is_writer}
use Rattle.step_table.specs.Acts.{raised}
use Rattle.step_table.specs.Capabilities.{clash, OneWriter}
use Rattle.run_laws.proofs.Holders.{or_false}

-- none, Read or Write
abbrev pub rank : Mode → ℕ
rank Read = 1
rank Write = 2

abbrev pub rank_in : Option HeldFile → ℕ
rank_in None = 0
rank_in (Some file) = rank file.mode

-- by the client's own list
abbrev pub has : Ino → HeldFiles → ℕ
has ino files = rank_in (file_of ino files)

-- by the server's table
abbrev pub share : ℕ → Ino → Holder → ℕ
share n ino h = cond (is_holder n ino h) (rank h.mode) 0

abbrev pub shares : ℕ → Ino → List Holder → ℕ
shares n ino [] = 0
shares n ino (h ∷ holders) = max (share n ino h) (shares n ino holders)

-- by an answer, where these files were let go
abbrev pub found_in : List Ino → Ino → Answer → ℕ
found_in gone ino (answer.FoundLive file perm size write_held) = cond (is_ino ino file && not write_held && not (list_any (is_ino ino) gone)) 1 0
found_in gone ino said = 0

-- by a message of a connection
abbrev pub gives : ℕ → List Ino → Ino → ToClient → ℕ
gives conn gone ino (Reply k tid stamp said) = cond (k == conn) (found_in gone ino said) 0
gives conn gone ino (Grant k tid stamp file mode size trace) = cond (k == conn && is_ino ino file) (rank mode) 0
gives conn gone ino m = 0

-- no message gives more
abbrev pub AllGive : ℕ → List Ino → Ino → ℕ → List ToClient → Type 0
AllGive conn gone ino most [] = Unit {0}
AllGive conn gone ino most (m ∷ down) = (gives conn gone ino m ≤ most) × AllGive conn gone ino most down

pub give_append : (conn : ℕ) (gone : List Ino) (ino : Ino) (most : ℕ) (p q : List ToClient) → AllGive conn gone ino most p → AllGive conn gone ino most q → AllGive conn gone ino most (p ++ q)
give_append conn gone ino most [] q all more = more
give_append conn gone ino most (m ∷ p) q all more = (all.0, give_append conn gone ino most p q all.1 more)

pub give_front : (conn : ℕ) (gone : List Ino) (ino : Ino) (most : ℕ) (p q : List ToClient) → AllGive conn gone ino most (p ++ q) → AllGive conn gone ino most p
give_front conn gone ino most [] q all = tt
give_front conn gone ino most (m ∷ p) q all = (all.0, give_front conn gone ino most p q all.1)

pub give_more : (conn : ℕ) (gone : List Ino) (ino : Ino) (few many : ℕ) (p : List ToClient) → few ≤ many → AllGive conn gone ino few p → AllGive conn gone ino many p
give_more conn gone ino few many [] less all = tt
give_more conn gone ino few many (m ∷ p) less all = (let one = all.0 in omega (arith, one, less), give_more conn gone ino few many p less all.1)

-- the server's table
pub shares_end : (n : ℕ) (ino : Ino) (holders : List Holder) (h : Holder) → shares n ino (holders ++ h ∷ []) ≡ max (shares n ino holders) (share n ino h)
shares_end n ino [] h = omega arith
shares_end n ino (g ∷ holders) h = let rest = shares_end n ino holders h in omega (arith, rest)

pub shares_filter : (n : ℕ) (ino : Ino) (p : Holder → Bool) (holders : List Holder) → shares n ino (filter p holders) ≤ shares n ino holders
shares_filter n ino p [] = omega arith
shares_filter n ino p (h ∷ holders) = by_test (p h) (shares_filter n ino p holders)
  where
    by_test : (b : Bool) → shares n ino (filter p holders) ≤ shares n ino holders → shares n ino (cond b (h ∷ filter p holders) (filter p holders)) ≤ max (share n ino h) (shares n ino holders)
    by_test true less = omega (arith, less)
    by_test false less = omega (arith, less)

-- others are taken out
pub shares_others : (n : ℕ) (ino : Ino) (p : Holder → Bool) (holders : List Holder) → ((h : Holder) → is_holder n ino h ≡ true → p h ≡ true) → shares n ino (filter p holders) ≡ shares n ino holders
shares_others n ino p [] keeps = refl
shares_others n ino p (h ∷ holders) keeps = by_test (is_holder n ino h) (p h) refl refl (shares_others n ino p holders keeps)
  where
    by_test : (b q : Bool) → is_holder n ino h ≡ b → p h ≡ q → shares n ino (filter p holders) ≡ shares n ino holders → shares n ino (cond q (h ∷ filter p holders) (filter p holders)) ≡ max (cond b (rank h.mode) 0) (shares n ino holders)
    by_test true true is may rest = rw is (ap (λ (k : ℕ). max (rank h.mode) k) rest)
    by_test true false is may rest = absurd (true≢false (sym (keeps h is) ∙ may))
    by_test false true is may rest = rw is (ap (λ (k : ℕ). max 0 k) rest)
    by_test false false is may rest = omega (arith, rest)

-- a change that leaves client, file and mode
pub shares_same : (n : ℕ) (ino : Ino) (f : Holder → Holder) (holders : List Holder) → ((h : Holder) → share n ino (f h) ≡ share n ino h) → shares n ino (map f holders) ≡ shares n ino holders
shares_same n ino f [] same = refl
shares_same n ino f (h ∷ holders) same = let one = same h in let rest = shares_same n ino f holders same in omega (arith, one, rest)

pub or_none : (a b : Bool) → a ≡ false → b ≡ false → (a || b) ≡ false
or_none a b none other = rw (none, other) refl

pub both_true : (a b : Bool) → (a && b) ≡ true → (a ≡ true) × (b ≡ true)
both_true true b is = (refl, is)
both_true false b is = absurd (true≢false (sym is))

-- two holders of a file don't clash
same_file : (a n : ℕ) (ino : Ino) (h g : Holder) → is_holder a ino h ≡ true → is_holder n ino g ≡ true → same_ino h.ino g.ino ≡ true
same_file a n ino h g is at =
    let x = (both_true (h.client == a) (same_ino h.ino ino) is).1 in let y = (both_true (g.client == n) (same_ino g.ino ino) at).1 in grind (arith, nat_tests, x, y)

same_client : (n : ℕ) (ino : Ino) (h g : Holder) → is_holder n ino h ≡ true → is_holder n ino g ≡ true → (h.client == g.client) ≡ true
same_client n ino h g is at =
    let x = (both_true (h.client == n) (same_ino h.ino ino) is).0 in let y = (both_true (g.client == n) (same_ino g.ino ino) at).0 in grind (arith, nat_tests, x, y)

ranks : (m : Mode) → rank m + 0 ≤ 2
ranks Read = omega arith
ranks Write = omega arith

modes_fit : (x y : Mode) (same held one : Bool) → (held ≡ true → same ≡ true) → (same && (is_write x || is_write y || one)) ≡ false → rank x + cond held (rank y) 0 ≤ 2
modes_fit x y same false one go none = ranks x
modes_fit x y false true one go none = absurd (true≢false (sym (go refl)))
modes_fit Read Read true true one go none = omega arith
modes_fit Read Write true true one go none = absurd (true≢false none)
modes_fit Write y true true one go none = absurd (true≢false none)

not_twice : (x y : Mode) (same held one : Bool) → (held ≡ true → same ≡ true) → (held ≡ true → one ≡ true) → (same && (is_write x || is_write y || one)) ≡ false → cond held (rank y) 0 ≡ 0
not_twice x y same false one go client none = refl
not_twice x y false true one go client none = absurd (true≢false (sym (go refl)))
not_twice x y true true false go client none = absurd (true≢false (sym (client refl)))
not_twice Read Read true true true go client none = absurd (true≢false none)
not_twice Read Write true true true go client none = absurd (true≢false none)
not_twice Write y true true true go client none = absurd (true≢false none)

pub beside : (a n : ℕ) (ino : Ino) (h : Holder) (holders : List Holder) → is_holder a ino h ≡ true → list_any (clash h) holders ≡ false → rank h.mode + shares n ino holders ≤ 2
beside a n ino h [] is none = ranks h.mode
beside a n ino h (g ∷ holders) is none =
    let parts = or_false (clash h g) (list_any (clash h) holders) none in
    let one : rank h.mode + share n ino g ≤ 2 = modes_fit h.mode g.mode (same_ino h.ino g.ino) (is_holder n ino g) (h.client == g.client) (λ at. same_file a n ino h g is at) parts.0 in
    let rest = beside a n ino h holders is parts.1 in
    omega (arith, one, rest)

pub beside_own : (n : ℕ) (ino : Ino) (h : Holder) (holders : List Holder) → is_holder n ino h ≡ true → list_any (clash h) holders ≡ false → shares n ino holders ≡ 0
beside_own n ino h [] is none = refl
beside_own n ino h (g ∷ holders) is none =
    let parts = or_false (clash h g) (list_any (clash h) holders) none in
    let one : share n ino g ≡ 0 = not_twice h.mode g.mode (same_ino h.ino g.ino) (is_holder n ino g) (h.client == g.client) (λ at. same_file n n ino h g is at) (λ at. same_client n ino h g is at) parts.0 in
    let rest = beside_own n ino h holders is parts.1 in
    omega (arith, one, rest)

-- so a file has one writer, by rank: two clients' ranks are 2 at most together
pub one_shares : (a b : ℕ) (ino : Ino) → (a == b) ≡ false → (holders : List Holder) → OneWriter holders → shares a ino holders + shares b ino holders ≤ 2
one_shares a b ino differs [] one = omega arith
one_shares a b ino differs (h ∷ holders) one = by_test (is_holder a ino h) (is_holder b ino h) refl refl (one_shares a b ino differs holders one.1)
  where
    by_test : (p q : Bool) → is_holder a ino h ≡ p → is_holder b ino h ≡ q → shares a ino holders + shares b ino holders ≤ 2 → max (cond p (rank h.mode) 0) (shares a ino holders) + max (cond q (rank h.mode) 0) (shares b ino holders) ≤ 2
    by_test true true is at rest =
        let x = (both_true (h.client == a) (same_ino h.ino ino) is).0 in let y = (both_true (h.client == b) (same_ino h.ino ino) at).0 in absurd (true≢false (grind (arith, nat_tests, x, y, differs)))
    by_test true false is at rest = let other = beside a b ino h holders is one.0 in let own = beside_own a ino h holders is one.0 in omega (arith, other, own)
    by_test false true is at rest = let other = beside b a ino h holders at one.0 in let own = beside_own b ino h holders at one.0 in omega (arith, other, own)
    by_test false false is at rest = omega (arith, rest)

-- a client that holds a file for Read somewhere in the table doesn't hold it for Write
pub reader_shares : (n : ℕ) (ino : Ino) (holders : List Holder) → OneWriter holders → list_any (λ h. is_holder n ino h && not (is_write h.mode)) holders ≡ true → shares n ino holders ≡ 1
reader_shares n ino [] one any = absurd (true≢false (sym any))
reader_shares n ino (h ∷ holders) one any = by_test (reader_shares n ino holders one.1) (is_holder n ino h) refl h.mode any
  where
    by_test : (list_any (λ h. is_holder n ino h && not (is_write h.mode)) holders ≡ true → shares n ino holders ≡ 1) → (b : Bool) → is_holder n ino h ≡ b → (m : Mode) → ((b && not (is_write m)) || list_any (λ h. is_holder n ino h && not (is_write h.mode)) holders) ≡ true → max (cond b (rank m) 0) (shares n ino holders) ≡ 1
    by_test go true is Read any = let own = beside_own n ino h holders is one.0 in omega (arith, own)
    by_test go true is Write any = let own = beside_own n ino h holders is one.0 in let rest = go any in absurd (omega (arith, own, rest))
    by_test go false is m any = let rest = go any in omega (arith, rest)

-- no rank is above Write's, and a share of it is a writer's
pub two_most : (n : ℕ) (ino : Ino) (holders : List Holder) → shares n ino holders ≤ 2
two_most n ino [] = omega arith
two_most n ino (h ∷ holders) = by_test (is_holder n ino h) h.mode (two_most n ino holders)
  where
    by_test : (b : Bool) (m : Mode) → shares n ino holders ≤ 2 → max (cond b (rank m) 0) (shares n ino holders) ≤ 2
    by_test true Read few = omega (arith, few)
    by_test true Write few = omega (arith, few)
    by_test false m few = omega (arith, few)

pub writer_two : (n : ℕ) (ino : Ino) (holders : List Holder) → list_any (is_writer n ino) holders ≡ true → 2 ≤ shares n ino holders
writer_two n ino [] any = absurd (true≢false (sym any))
writer_two n ino (h ∷ holders) any = by_test (is_holder n ino h) h.mode any (writer_two n ino holders)
  where
    by_test : (b : Bool) (m : Mode) → ((b && is_write m) || list_any (is_writer n ino) holders) ≡ true → (list_any (is_writer n ino) holders ≡ true → 2 ≤ shares n ino holders) → 2 ≤ max (cond b (rank m) 0) (shares n ino holders)
    by_test true Write any go = omega arith
    by_test true Read any go = let rest = go any in omega (arith, rest)
    by_test false m any go = let rest = go any in omega (arith, rest)

pub reader_one : (n : ℕ) (ino : Ino) (holders : List Holder) → list_any (is_writer n ino) holders ≡ false → shares n ino holders ≤ 1
reader_one n ino [] none = omega arith
reader_one n ino (h ∷ holders) none = by_test (is_holder n ino h) h.mode none (reader_one n ino holders)
  where
    by_test : (b : Bool) (m : Mode) → ((b && is_write m) || list_any (is_writer n ino) holders) ≡ false → (list_any (is_writer n ino) holders ≡ false → shares n ino holders ≤ 1) → max (cond b (rank m) 0) (shares n ino holders) ≤ 1
    by_test true Write none go = absurd (true≢false none)
    by_test true Read none go = let rest = go none in omega (arith, rest)
    by_test false m none go = let rest = go none in omega (arith, rest)

-- a file that was let go has no share
pub shares_gone : (n : ℕ) (x ino : Ino) (holders : List Holder) → is_ino x ino ≡ true → shares n x (filter (λ h. not (is_holder n ino h)) holders) ≡ 0
shares_gone n x ino [] is = refl
shares_gone n x ino (h ∷ holders) is = by_test (is_holder n ino h) refl (shares_gone n x ino holders is)
  where
    file : same_ino h.ino x ≡ same_ino h.ino ino
    file = grind (arith, nat_tests, is)

    same : is_holder n x h ≡ is_holder n ino h
    same = ap (λ (b : Bool). h.client == n && b) file

    by_test : (b : Bool) → is_holder n ino h ≡ b → shares n x (filter (λ h. not (is_holder n ino h)) holders) ≡ 0 → shares n x (cond (not b) (h ∷ filter (λ h. not (is_holder n ino h)) holders) (filter (λ h. not (is_holder n ino h)) holders)) ≡ 0
    by_test true at rest = rest
    by_test false at rest = let none : share n x h ≡ 0 = ap (λ (b : Bool). cond b (rank h.mode) 0) (same ∙ at) in omega (arith, none, rest)

-- who is raised, is, and others aren't
pub raised_either : (n x : ℕ) (ino file : Ino) (upto : SnapId) (holders : List Holder) → 2 ≤ shares n ino (map (raised x file upto) holders) → (2 ≤ shares n ino holders) ⊎ (((x == n) ≡ true) × (is_ino ino file ≡ true))
raised_either n x ino file upto [] two = inl two
raised_either n x ino file upto (h ∷ holders) two = by_test (is_holder n ino h) refl (is_holder x file h) refl h.mode two (raised_either n x ino file upto holders)
  where
    Either : ℕ → Type 0
    Either share = (2 ≤ share) ⊎ (((x == n) ≡ true) × (is_ino ino file ≡ true))

    later : (before : ℕ) → Either (shares n ino holders) → Either (max before (shares n ino holders))
    later before (inl two) = inl (omega (arith, two))
    later before (inr is) = inr is

    it_is : is_holder n ino h ≡ true → is_holder x file h ≡ true → ((x == n) ≡ true) × (is_ino ino file ≡ true)
    it_is is at = let a = both_true (h.client == n) (same_ino h.ino ino) is in let b = both_true (h.client == x) (same_ino h.ino file) at in (same a.0 b.0, same_file_of a.1 b.1)
      where
        same : (h.client == n) ≡ true → (h.client == x) ≡ true → (x == n) ≡ true
        same one two = grind (arith, nat_tests, one, two)

        same_file_of : same_ino h.ino ino ≡ true → same_ino h.ino file ≡ true → is_ino ino file ≡ true
        same_file_of one two = grind (arith, nat_tests, one, two)

    by_test : (b : Bool) → is_holder n ino h ≡ b → (p : Bool) → is_holder x file h ≡ p → (m : Mode) → 2 ≤ max (cond b (rank (cond p Write m)) 0) (shares n ino (map (raised x file upto) holders)) → (2 ≤ shares n ino (map (raised x file upto) holders) → Either (shares n ino holders)) → Either (max (cond b (rank m) 0) (shares n ino holders))
    by_test true is true at m two go = inr (it_is is at)
    by_test true is false at Write two go = inl (omega arith)
    by_test true is false at Read two go = later 1 (go (omega (arith, two)))
    by_test false is p at m two go = later 0 (go (omega (arith, two)))

-- a holder is raised to Write
pub shares_raised : (n x : ℕ) (ino file : Ino) (upto : SnapId) (holders : List Holder) → shares n ino holders ≤ shares n ino (map (raised x file upto) holders)
shares_raised n x ino file upto [] = omega arith
shares_raised n x ino file upto (h ∷ holders) = by_test (is_holder n ino h) (is_holder x file h) h.mode (shares_raised n x ino file upto holders)
  where
    by_test : (b p : Bool) (m : Mode) → shares n ino holders ≤ shares n ino (map (raised x file upto) holders) → max (cond b (rank m) 0) (shares n ino holders) ≤ max (cond b (rank (cond p Write m)) 0) (shares n ino (map (raised x file upto) holders))
    by_test true true Read less = omega (arith, less)
    by_test true true Write less = omega (arith, less)
    by_test true false m less = omega (arith, less)
    by_test false p m less = omega (arith, less)

-- What at most one of a list passes is decided by the one that is found.
use Rattle.std.proofs.Common.{◌≡◌, ℕ, Bool, true, false, ◌||◌, ◌&&◌, ◌==◌, cond, List, [], ◌∷◌, find, Option, None, Some, refl, sym, ap, ◌∙◌, arith}
use Rattle.std.specs.List.{list_any, AllByRecursion}
use Rattle.std.proofs.lemmas.Bool.Decides.{nat_tests}
use Rattle.snap_ids.specs.declared.id.Ino.{Ino}
use Rattle.snap_ids.specs.declared.values.Mode.{Mode}
use Rattle.snap_ids.specs.declared.values.Mode.TheVariants.{Read, Write}
use Rattle.plain_tree.specs.State.{same_ino}
use Rattle.held_files.specs.Files.{is_write}
use Rattle.cap_state.specs.Table.{Holding, is_of, is_at, writes, MayPrecede, IsTable}
use Rattle.step_table.specs.ServerState.{Holder, is_holder}
use Rattle.step_table.specs.Capabilities.{clash, OneWriter}
use Rattle.server_holders.proofs.Any.{or_false, none_true, none_more}

pub same_mode : (mode : Mode) → writes mode ≡ is_write mode
same_mode Read = refl
same_mode Write = refl

module _ {X : Type 0} where
  -- at most one passes
  abbrev pub AtMostOne : (X → Bool) → List X → Type 0
  AtMostOne q [] = Unit {0}
  AtMostOne q (x ∷ xs) = (q x ≡ true → list_any q xs ≡ false) × AtMostOne q xs

  abbrev pub test : (X → Bool) → Option X → Bool
  test p None = false
  test p (Some x) = p x

  none_both : (p q : X → Bool) (xs : List X) → list_any q xs ≡ false → list_any (λ x. q x && p x) xs ≡ false
  none_both p q [] none = refl
  none_both p q (x ∷ xs) none =
      let l = none_true (q x) (list_any q xs) none in
      ap (λ b. (b && p x) || list_any (λ x. q x && p x) xs) l.0 ∙ none_both p q xs l.1

  pub by_found : (p q : X → Bool) (xs : List X) → AtMostOne q xs → list_any (λ x. q x && p x) xs ≡ test p (find q xs)
  by_found p q [] one = refl
  by_found p q (x ∷ xs) one = go (q x) refl (by_found p q xs one.1)
    where
      go : (b : Bool) → q x ≡ b → list_any (λ x. q x && p x) xs ≡ test p (find q xs) → ((b && p x) || list_any (λ x. q x && p x) xs) ≡ test p (cond b (Some x) (find q xs))
      go true is rest = ap (λ b. p x || b) (none_both p q xs (one.0 is)) ∙ or_false (p x)
      go false is rest = rest

  -- a narrower test
  pub fewer : (p q : X → Bool) (xs : List X) → ((x : X) → p x ≡ true → q x ≡ true) → AtMostOne q xs → AtMostOne p xs
  fewer p q [] more one = tt
  fewer p q (x ∷ xs) more one = (λ is. none_more p q xs more (one.0 (more x is)), fewer p q xs more one.1)

-- a client's holding of a file stands in a table at most once
later_apart : (client : ℕ) (ino : Ino) (g : Holding) (held : List Holding) → is_at client ino g ≡ true → AllByRecursion (MayPrecede g) held → list_any (is_at client ino) held ≡ false
later_apart client ino g [] here order = refl
later_apart client ino g (h ∷ held) here order =
    let off : is_at client ino h ≡ false = apart g h here order.0 in
    ap (λ b. b || list_any (is_at client ino) held) off ∙ later_apart client ino g held here order.1
  where
    apart : (g h : Holding) → is_at client ino g ≡ true → MayPrecede g h → is_at client ino h ≡ false
    apart g h here order = let before = order.before in grind (arith, nat_tests)

pub one_at : (client : ℕ) (ino : Ino) (held : List Holding) → IsTable held → AtMostOne (is_at client ino) held
one_at client ino [] table = tt
one_at client ino (h ∷ held) table = (λ here. later_apart client ino h held here table.0, one_at client ino held table.1)

-- a file has one writer in a table at most
abbrev pub writes_to : Ino → Holding → Bool
writes_to ino h = is_of ino h && writes h.1.mode

later_reads : (ino : Ino) (g : Holding) (held : List Holding) → writes_to ino g ≡ true → AllByRecursion (MayPrecede g) held → list_any (writes_to ino) held ≡ false
later_reads ino g [] here order = refl
later_reads ino g (h ∷ held) here order =
    let off : writes_to ino h ≡ false = apart g h here order.0 in
    ap (λ b. b || list_any (writes_to ino) held) off ∙ later_reads ino g held here order.1
  where
    apart : (g h : Holding) → writes_to ino g ≡ true → MayPrecede g h → writes_to ino h ≡ false
    apart g h here order = let order_apart = order.apart in grind (arith, nat_tests)

pub one_writes : (ino : Ino) (held : List Holding) → IsTable held → AtMostOne (writes_to ino) held
one_writes ino [] table = tt
one_writes ino (h ∷ held) table = (λ here. later_reads ino h held here table.0, one_writes ino held table.1)

-- and so among the holders
module _ (q : Holder → Bool) (clashing : (g h : Holder) → q g ≡ true → q h ≡ true → clash g h ≡ true) where
  later_none : (g : Holder) (holders : List Holder) → q g ≡ true → list_any (clash g) holders ≡ false → list_any q holders ≡ false
  later_none g [] is none = refl
  later_none g (h ∷ holders) is none =
      let l = none_true (clash g h) (list_any (clash g) holders) none in
      ap (λ b. b || list_any q holders) (off (q h) refl l.0) ∙ later_none g holders is l.1
    where
      off : (b : Bool) → q h ≡ b → clash g h ≡ false → b ≡ false
      off true here apart = let never : true ≡ false = sym (clashing g h is here) ∙ apart in cc
      off false here apart = refl

  pub one_of : (holders : List Holder) → OneWriter holders → AtMostOne q holders
  one_of [] one = tt
  one_of (h ∷ holders) one = (λ is. later_none h holders is one.0, one_of holders one.1)

abbrev pub is_writing : Ino → Holder → Bool
is_writing ino h = same_ino h.ino ino && is_write h.mode

pub one_holder : (client : ℕ) (ino : Ino) (holders : List Holder) → OneWriter holders → AtMostOne (is_holder client ino) holders
one_holder client ino holders one = one_of (is_holder client ino) same holders one
  where
    same : (g h : Holder) → is_holder client ino g ≡ true → is_holder client ino h ≡ true → clash g h ≡ true
    same g h is is_too = go (is_write g.mode) (is_write h.mode) (grind (arith, nat_tests)) (grind (arith, nat_tests))
      where
        go : (a b : Bool) → same_ino g.ino h.ino ≡ true → (g.client == h.client) ≡ true → (same_ino g.ino h.ino && (a || b || g.client == h.client)) ≡ true
        go true b file client = rw file refl
        go false true file client = rw file refl
        go false false file client = rw (file, client) refl

pub one_writing : (ino : Ino) (holders : List Holder) → OneWriter holders → AtMostOne (is_writing ino) holders
one_writing ino holders one = one_of (is_writing ino) same holders one
  where
    same : (g h : Holder) → is_writing ino g ≡ true → is_writing ino h ≡ true → clash g h ≡ true
    same g h is is_too = go (is_write g.mode) (is_write h.mode) (both g is) (grind (arith, nat_tests))
      where
        second : (a b : Bool) → (a && b) ≡ true → b ≡ true
        second true b is = is
        second false b is = cc

        both : (g : Holder) → is_writing ino g ≡ true → is_write g.mode ≡ true
        both g is = second (same_ino g.ino ino) (is_write g.mode) is

        go : (a b : Bool) → a ≡ true → same_ino g.ino h.ino ≡ true → (same_ino g.ino h.ino && (a || b || g.client == h.client)) ≡ true
        go true b writes file = rw file refl
        go false b writes file = cc

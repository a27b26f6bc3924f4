-- The inodes of a table after one of them was put in.
use Rattle.std.proofs.Common.{◌≡◌, ℕ, ◌+◌, ◌≤◌, Bool, true, false, ◌==◌, cond, List, [], ◌∷◌, length, Option, None, Some, refl, ap, ◌∙◌, sym, arith}
use Rattle.std.specs.Option.{option_map}
use Rattle.std.specs.Map.{lookup, set_value}
use Rattle.std.specs.Ordering.{nat_cmp, is_eq, match_ordering}
use Rattle.std.specs.declared.cmp.Ordering.{Ordering}
use Rattle.std.specs.declared.cmp.Ordering.TheVariants.{Less, Equal, Greater}
use Rattle.std.specs.BTreeMap.{is_at, insert_entry}
use Rattle.std.proofs.lemmas.List.Sums.{sum_by-cons}
use Rattle.std.proofs.lemmas.Bool.Decides.{nat_tests}
use Rattle.std.proofs.lemmas.Bool.{eqb-true}
use Rattle.snap_ids.specs.declared.id.Ino.{Ino}
use Rattle.snap_ids.specs.declared.id.SnapId.{SnapId}
use Rattle.inode_versions.specs.Histories.{History, at_id}
use Rattle.inode_versions.specs.Table.{history_of, answer, attr_at, since}
use Rattle.inode_versions.specs.Fields.{total}

-- how many earlier versions there are with another history in the place of one
one_set : (t : Bool) (e : ℕ × History) (es ns : List (ℕ × History)) (h w : History) (found : Option History) → cond t (Some e.1) found ≡ Some h → (found ≡ Some h → total ns + length h.earlier ≡ total es + length w.earlier) → total (cond t ((e.0, w) ∷ es) (e ∷ ns)) + length h.earlier ≡ total (e ∷ es) + length w.earlier
one_set true e es ns h w found is rest =
    let same : e.1 ≡ h = cc in
    let long : length e.1.earlier ≡ length h.earlier = ap (λ (x : History). length x.earlier) same in
    omega (arith, sum_by-cons (λ (inode : ℕ × History). length inode.1.earlier) (e.0, w) es, sum_by-cons (λ (inode : ℕ × History). length inode.1.earlier) e es)
one_set false e es ns h w found is rest =
    let more : total ns + length h.earlier ≡ total es + length w.earlier = rest is in
    omega (arith, sum_by-cons (λ (inode : ℕ × History). length inode.1.earlier) e ns, sum_by-cons (λ (inode : ℕ × History). length inode.1.earlier) e es)

pub total-set : (test : ℕ → Bool) (es : List (ℕ × History)) (h w : History) → lookup test es ≡ Some h → total (set_value test es w) + length h.earlier ≡ total es + length w.earlier
total-set test [] h w found = cc
total-set test (e ∷ es) h w found = one_set (test e.0) e es (set_value test es w) h w (lookup test es) found (λ more. total-set test es h w more)

-- no inode has more of them than there are
pub some_of_total : (test : ℕ → Bool) (es : List (ℕ × History)) (h : History) → lookup test es ≡ Some h → length h.earlier ≤ total es
some_of_total test es h found =
    let none : History = record { since = h.since; head = h.head; earlier = [] } in
    let both : total (set_value test es none) + length h.earlier ≡ total es + 0 = total-set test es h none found in
    omega arith

-- and with a new inode
one_inserted : (k : ℕ) (h : History) (e : ℕ × History) (es ns : List (ℕ × History)) (o : Ordering) → cond (is_eq o) (Some e.1) (lookup (is_at (nat_cmp k)) es) ≡ None → (lookup (is_at (nat_cmp k)) es ≡ None → total ns ≡ total es + length h.earlier) → total (match_ordering o ((k, h) ∷ e ∷ es) ((e.0, h) ∷ es) (e ∷ ns)) ≡ total (e ∷ es) + length h.earlier
one_inserted k h e es ns Less none rest = omega (arith, sum_by-cons (λ (inode : ℕ × History). length inode.1.earlier) (k, h) (e ∷ es))
one_inserted k h e es ns Equal none rest = cc
one_inserted k h e es ns Greater none rest =
    let more : total ns ≡ total es + length h.earlier = rest none in
    omega (arith, sum_by-cons (λ (inode : ℕ × History). length inode.1.earlier) e ns, sum_by-cons (λ (inode : ℕ × History). length inode.1.earlier) e es)

pub total-insert : (es : List (ℕ × History)) (k : ℕ) (h : History) → lookup (is_at (nat_cmp k)) es ≡ None → total (insert_entry nat_cmp es k h) ≡ total es + length h.earlier
total-insert [] k h none = omega (arith, sum_by-cons (λ (inode : ℕ × History). length inode.1.earlier) (k, h) [])
total-insert (e ∷ es) k h none = one_inserted k h e es (insert_entry nat_cmp es k h) (nat_cmp k e.0) none (λ more. total-insert es k h more)

-- a query finds the key that is its number
is_it : (k n : ℕ) → is_at (nat_cmp k) n ≡ (k == n)
is_it k n = grind (arith, nat_tests)

-- one table has an inode's history put in, and is otherwise as the other
pub record Puts (es ns : List (ℕ × History)) (ino : Ino) (w : History) : Type 0 where
  pub found : (i : Ino) → history_of ns i ≡ cond (i.0 == ino.0) (Some w) (history_of es i)

-- one more inode, the one that is asked for or another
read_one : (k q : ℕ) (e : ℕ × History) (es : List (ℕ × History)) (h w : History) (here : Bool) → here ≡ (k == e.0) → cond here (Some e.1) (lookup (is_at (nat_cmp k)) es) ≡ Some h → (lookup (is_at (nat_cmp k)) es ≡ Some h → lookup (is_at (nat_cmp q)) (set_value (is_at (nat_cmp k)) es w) ≡ cond (q == k) (Some w) (lookup (is_at (nat_cmp q)) es)) → lookup (is_at (nat_cmp q)) (cond here ((e.0, w) ∷ es) (e ∷ set_value (is_at (nat_cmp k)) es w)) ≡ cond (q == k) (Some w) (cond (is_at (nat_cmp q) e.0) (Some e.1) (lookup (is_at (nat_cmp q)) es))
read_one k q e es h w true is found rest = rw (is_it q e.0) (taken k q e.0 (q == e.0) (q == k) (sym is) refl refl)
  where
    apart : (k q n : ℕ) → (k == n) ≡ true → (q == k) ≡ (q == n)
    apart k q n one = grind (arith, nat_tests)

    taken : (k q n : ℕ) (asked same : Bool) → (k == n) ≡ true → (q == n) ≡ asked → (q == k) ≡ same → cond asked (Some w) (lookup (is_at (nat_cmp q)) es) ≡ cond same (Some w) (cond asked (Some e.1) (lookup (is_at (nat_cmp q)) es))
    taken k q n true true one asked same = refl
    taken k q n false false one asked same = refl
    taken k q n true false one asked same = absurd (let no : true ≡ false = sym asked ∙ sym (apart k q n one) ∙ same in cc)
    taken k q n false true one asked same = absurd (let no : true ≡ false = sym same ∙ apart k q n one ∙ asked in cc)
read_one k q e es h w false is found rest = rw (is_it q e.0) (others (q == e.0) (q == k) refl refl)
  where
    apart : (k q n : ℕ) → false ≡ (k == n) → (q == n) ≡ true → (q == k) ≡ true → ⊥
    apart k q n one two same = grind (arith, nat_tests)

    others : (asked same : Bool) → (q == e.0) ≡ asked → (q == k) ≡ same → cond asked (Some e.1) (lookup (is_at (nat_cmp q)) (set_value (is_at (nat_cmp k)) es w)) ≡ cond same (Some w) (cond asked (Some e.1) (lookup (is_at (nat_cmp q)) es))
    others true false is_asked is_same = refl
    others true true is_asked is_same = absurd (apart k q e.0 is is_asked is_same)
    others false same is_asked is_same = rest found ∙ ap (λ b. cond b (Some w) (lookup (is_at (nat_cmp q)) es)) is_same

read_set : (k q : ℕ) (es : List (ℕ × History)) (h w : History) → lookup (is_at (nat_cmp k)) es ≡ Some h → lookup (is_at (nat_cmp q)) (set_value (is_at (nat_cmp k)) es w) ≡ cond (q == k) (Some w) (lookup (is_at (nat_cmp q)) es)
read_set k q [] h w found = cc
read_set k q (e ∷ es) h w found =
    read_one k q e es h w (is_at (nat_cmp k) e.0) (is_it k e.0) found (λ more. read_set k q es h w more)

pub puts_set : (es ns : List (ℕ × History)) (ino : Ino) (h w : History) → ns ≡ set_value (is_at (nat_cmp ino.0)) es w → history_of es ino ≡ Some h → Puts es ns ino w
puts_set es ns ino h w set found = record { found = λ i. ap (history_at i) set ∙ read_set ino.0 i.0 es h w found }
  where
    history_at : Ino → List (ℕ × History) → Option History
    history_at i table = history_of table i

-- as a new one
pub puts_new : (es ns : List (ℕ × History)) (ino : Ino) (w : History) → ((q : ℕ) → lookup (is_at (nat_cmp q)) ns ≡ cond (is_at (nat_cmp ino.0) q) (Some w) (lookup (is_at (nat_cmp q)) es)) → Puts es ns ino w
puts_new es ns ino w found = record { found = λ i. found i.0 ∙ ap (λ b. cond b (Some w) (history_of es i)) (turned ino.0 i.0) }
  where
    turned : (k q : ℕ) → is_at (nat_cmp k) q ≡ (q == k)
    turned k q = grind (arith, nat_tests)

-- an inode's answer and first id where its history is known
pub attr_of : (es : List (ℕ × History)) (i : Ino) (s : SnapId) (o : Option History) → history_of es i ≡ o → attr_at es i s ≡ answer o s
unfolding attr_at
attr_of es i s o found = ap (λ o. answer o s) found

pub since_of : (es : List (ℕ × History)) (i : Ino) (o : Option History) → history_of es i ≡ o → since es i ≡ option_map (λ history. history.since) o
unfolding since
since_of es i o found = ap (option_map (λ history. history.since)) found

-- the same inode
pub it : (es : List (ℕ × History)) (i ino : Ino) (o : Option History) → (i.0 == ino.0) ≡ true → history_of es ino ≡ o → history_of es i ≡ o
it es i ino o same found = ap (λ n. lookup (is_at (nat_cmp n)) es) (eqb-true i.0 ino.0 same) ∙ found

module _ (es ns : List (ℕ × History)) (ino : Ino) (w : History) (puts : Puts es ns ino w) where
  -- what is put in answers for its inode
  pub attr_put : (i : Ino) (s : SnapId) (same : Bool) → (i.0 == ino.0) ≡ same → attr_at ns i s ≡ cond same (at_id w s) (attr_at es i s)
  attr_put i s true is = attr_of ns i s (Some w) (puts.found i ∙ rw is refl)
  attr_put i s false is = attr_of ns i s (history_of es i) (puts.found i ∙ rw is refl) ∙ sym (attr_of es i s (history_of es i) refl)

  pub since_put : (i : Ino) (same : Bool) → (i.0 == ino.0) ≡ same → since ns i ≡ cond same (Some w.since) (since es i)
  since_put i true is = since_of ns i (Some w) (puts.found i ∙ rw is refl)
  since_put i false is = since_of ns i (history_of es i) (puts.found i ∙ rw is refl) ∙ sym (since_of es i (history_of es i) refl)

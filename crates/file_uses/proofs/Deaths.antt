-- What one changed file makes of the list of the dead ones.
use Rattle.std.proofs.Common.{◌≡◌, ℕ, ◌+◌, ◌<◌, ◌≤◌, suc, Bool, true, false, not, ◌==◌, cond, List, [], ◌∷◌, ◌++◌, length, map, filter, Option, None, Some, nat_lt, refl, sym, ap, ◌∙◌, subst, arith}
use Rattle.std.specs.List.{AllByRecursion}
use Rattle.std.specs.List.Sorted.{IsStrictlySortedBy}
use Rattle.std.specs.Map.{lookup, set_value, keys_of}
use Rattle.std.specs.Ordering.{nat_cmp, match_ordering}
use Rattle.std.specs.declared.cmp.Ordering.{Ordering}
use Rattle.std.specs.declared.cmp.Ordering.TheVariants.{Less, Equal, Greater}
use Rattle.std.specs.BTreeMap.{is_at, insert_entry}
use Rattle.std.proofs.lemmas.Bool.Decides.{nat_tests}
use Rattle.snap_ids.specs.declared.id.Ino.{Ino}
use Rattle.file_uses.specs.declared.files.FileUse.{FileUse}
use Rattle.file_uses.specs.Uses.{ino_of, changed, with_new, new_use}
use Rattle.file_uses.specs.Rising.{KeysAbove, KeysRise, Rises, with_ino, without}
use Rattle.file_uses.proofs.Lists.{all_weaker, filter_none, filter_all}

above_of : (n : ℕ) (files : List (ℕ × FileUse)) → AllByRecursion (λ m. nat_cmp n m ≡ Less) (keys_of files) → KeysAbove n files
above_of n [] all = tt
above_of n (e ∷ files) all = (grind (arith, nat_tests, all.0), above_of n files all.1)

-- a map's files rise
pub keys_rise : (files : List (ℕ × FileUse)) → IsStrictlySortedBy nat_cmp (keys_of files) → KeysRise files
unfolding IsStrictlySortedBy
keys_rise [] sorted = tt
keys_rise (e ∷ files) sorted = (above_of e.0 files sorted.0, keys_rise files sorted.1)

-- the inodes of the files that pass a test
abbrev pub picked : (ℕ × FileUse → Bool) → List (ℕ × FileUse) → List Ino
picked p files = map ino_of (filter p files)

-- an inode in front, if it is one of them
abbrev pub before : Bool → Ino → List Ino → List Ino
before b ino inos = cond b (ino ∷ inos) inos

split : (p : ℕ × FileUse → Bool) (b : Bool) (e : ℕ × FileUse) (files : List (ℕ × FileUse)) → p e ≡ b → picked p (e ∷ files) ≡ before b (ino_of e) (picked p files)
split p true e files is = rw is refl
split p false e files is = rw is refl

pub picked_first : (p : ℕ × FileUse → Bool) (e : ℕ × FileUse) (files : List (ℕ × FileUse)) → picked p (e ∷ files) ≡ before (p e) (ino_of e) (picked p files)
picked_first p e files = split p (p e) e files refl

-- they are above a number where the files are, and rise where these do
one_above : (n : ℕ) (b : Bool) (ino : Ino) (inos : List Ino) → n < ino.0 → AllByRecursion (λ (i : Ino). n < i.0) inos → AllByRecursion (λ (i : Ino). n < i.0) (before b ino inos)
one_above n true ino inos here later = (here, later)
one_above n false ino inos here later = later

pub picked_above : (p : ℕ × FileUse → Bool) (n : ℕ) (files : List (ℕ × FileUse)) → KeysAbove n files → AllByRecursion (λ (i : Ino). n < i.0) (picked p files)
picked_above p n [] all = tt
picked_above p n (e ∷ files) all =
    subst (AllByRecursion (λ (i : Ino). n < i.0)) (sym (picked_first p e files)) (one_above n (p e) (ino_of e) (picked p files) all.0 (picked_above p n files all.1))

one_rises : (b : Bool) (ino : Ino) (inos : List Ino) → AllByRecursion (λ (i : Ino). ino.0 < i.0) inos → Rises inos → Rises (before b ino inos)
one_rises true ino inos above rise = (above, rise)
one_rises false ino inos above rise = rise

pub picked_rise : (p : ℕ × FileUse → Bool) (files : List (ℕ × FileUse)) → KeysRise files → Rises (picked p files)
picked_rise p [] rise = tt
picked_rise p (e ∷ files) rise =
    subst Rises (sym (picked_first p e files)) (one_rises (p e) (ino_of e) (picked p files) (picked_above p e.0 files rise.0) (picked_rise p files rise.1))

-- there are at most as many as there are files
one_counts : (b : Bool) (ino : Ino) (inos : List Ino) (n : ℕ) → length inos ≤ n → length (before b ino inos) ≤ n + 1
one_counts true ino inos n few = omega arith
one_counts false ino inos n few = omega arith

pub picked_count : (p : ℕ × FileUse → Bool) (files : List (ℕ × FileUse)) → length (picked p files) ≤ length files
picked_count p [] = omega arith
picked_count p (e ∷ files) =
    let all : length (before (p e) (ino_of e) (picked p files)) ≤ length files + 1 = one_counts (p e) (ino_of e) (picked p files) (length files) (picked_count p files) in
    let same : length (picked p (e ∷ files)) ≡ length (before (p e) (ino_of e) (picked p files)) = ap length (picked_first p e files) in
    omega arith

-- an inode put among rising ones, or taken out of them
module _ (k : Ino) where
  pub with_above : (inos : List Ino) → AllByRecursion (λ (i : Ino). k.0 < i.0) inos → with_ino k inos ≡ k ∷ inos
  with_above inos above =
      ap (λ front. front ++ k ∷ filter (λ (other : Ino). nat_lt k.0 other.0) inos) (filter_none (λ (other : Ino). nat_lt other.0 k.0) inos (all_weaker _ _ (λ i h. grind (arith, nat_tests, h)) inos above))
      ∙ ap (λ back. k ∷ back) (filter_all (λ (other : Ino). nat_lt k.0 other.0) inos (all_weaker _ _ (λ i h. grind (arith, nat_tests, h)) inos above))

  pub with_below : (ino : Ino) (inos : List Ino) → ino.0 < k.0 → with_ino k (ino ∷ inos) ≡ ino ∷ with_ino k inos
  with_below ino inos below =
      let is : nat_lt ino.0 k.0 ≡ true = grind (arith, nat_tests) in
      let not_above : nat_lt k.0 ino.0 ≡ false = grind (arith, nat_tests) in
      rw (is, not_above) refl

  pub without_off : (inos : List Ino) → AllByRecursion (λ (i : Ino). (i.0 == k.0) ≡ false) inos → without k inos ≡ inos
  without_off inos off = filter_all (λ (other : Ino). not (other.0 == k.0)) inos (all_weaker _ _ (λ i h. ap not h) inos off)

  off_above : (inos : List Ino) → AllByRecursion (λ (i : Ino). k.0 < i.0) inos → AllByRecursion (λ (i : Ino). (i.0 == k.0) ≡ false) inos
  off_above inos above = all_weaker _ _ (λ i h. grind (arith, nat_tests, h)) inos above

  without_first : (ino : Ino) (inos : List Ino) → (ino.0 == k.0) ≡ true → without k (ino ∷ inos) ≡ without k inos
  without_first ino inos is = rw is refl

  without_other : (ino : Ino) (inos : List Ino) → (ino.0 == k.0) ≡ false → without k (ino ∷ inos) ≡ ino ∷ without k inos
  without_other ino inos off = rw off refl

  -- what is put or taken out behind an inode below it
  with_behind : (b : Bool) (ino : Ino) (inos : List Ino) → ino.0 < k.0 → with_ino k (before b ino inos) ≡ before b ino (with_ino k inos)
  with_behind true ino inos below = with_below ino inos below
  with_behind false ino inos below = refl

  without_behind : (b : Bool) (ino : Ino) (inos : List Ino) → ino.0 < k.0 → without k (before b ino inos) ≡ before b ino (without k inos)
  without_behind true ino inos below = without_other ino inos (grind (arith, nat_tests))
  without_behind false ino inos below = refl

  -- or at its own place
  with_here : (b : Bool) (ino : Ino) (inos : List Ino) → ino ≡ k → AllByRecursion (λ (i : Ino). k.0 < i.0) inos → with_ino k (before b ino inos) ≡ k ∷ inos
  with_here true ino inos same above =
      let not_below : nat_lt k.0 k.0 ≡ false = grind (arith, nat_tests) in
      let first : with_ino k (k ∷ inos) ≡ with_ino k inos = rw not_below refl in
      ap (λ (i : Ino). with_ino k (i ∷ inos)) same ∙ first ∙ with_above inos above
  with_here false ino inos same above = with_above inos above

  without_here : (b : Bool) (ino : Ino) (inos : List Ino) → ino ≡ k → AllByRecursion (λ (i : Ino). k.0 < i.0) inos → without k (before b ino inos) ≡ inos
  without_here true ino inos same above =
      let is : (ino.0 == k.0) ≡ true = subst (λ (i : Ino). (i.0 == k.0) ≡ true) (sym same) (grind arith) in
      without_first ino inos is ∙ without_off inos (off_above inos above)
  without_here false ino inos same above = without_off inos (off_above inos above)

-- one file has changed, and of the others none passes another test than before
module _ (p q : ℕ × FileUse → Bool) (k : Ino) (f : FileUse → FileUse) (same : (e : ℕ × FileUse) → (e.0 == k.0) ≡ false → q e ≡ p e) where
  abbrev change : ℕ × FileUse → ℕ × FileUse
  change e = cond (e.0 == k.0) (e.0, f e.1) e

  -- a file with another number
  other_first : (e : ℕ × FileUse) (files : List (ℕ × FileUse)) (rest : List Ino) → (e.0 == k.0) ≡ false → picked q (changed k f files) ≡ rest → picked q (changed k f (e ∷ files)) ≡ before (p e) (ino_of e) rest
  other_first e files rest off later =
      let stays : change e ≡ e = rw off refl in
      picked_first q (change e) (changed k f files)
      ∙ ap (λ (x : ℕ × FileUse). before (q x) (ino_of x) (picked q (changed k f files))) stays
      ∙ ap (λ b. before b (ino_of e) (picked q (changed k f files))) (same e off)
      ∙ ap (before (p e) (ino_of e)) later

  above_same : (files : List (ℕ × FileUse)) → KeysAbove k.0 files → picked q (changed k f files) ≡ picked p files
  above_same [] above = refl
  above_same (e ∷ files) above =
      let off : (e.0 == k.0) ≡ false = grind (arith, nat_tests, above.0) in
      other_first e files (picked p files) off (above_same files above.1) ∙ sym (picked_first p e files)

  -- the file itself
  own_first : (e : ℕ × FileUse) (files : List (ℕ × FileUse)) (b : Bool) → e.0 ≡ k.0 → q (k.0, f e.1) ≡ b → KeysAbove e.0 files → picked q (changed k f (e ∷ files)) ≡ before b k (picked p files)
  own_first e files b key is above =
      let at : (e.0 == k.0) ≡ true = subst (λ n. (n == k.0) ≡ true) (sym key) (grind arith) in
      let it : change e ≡ (k.0, f e.1) = rw at (ap (λ n. let x : ℕ × FileUse = (n, f e.1) in x) key) in
      picked_first q (change e) (changed k f files)
      ∙ ap (λ (x : ℕ × FileUse). before (q x) (ino_of x) (picked q (changed k f files))) it
      ∙ ap (λ t. before t k (picked q (changed k f files))) is
      ∙ ap (before b k) (above_same files (subst (λ n. KeysAbove n files) key above))

  -- the test by which a map is searched
  abbrev test : ℕ → Bool
  test = is_at (nat_cmp k.0)

  one_below : (n : ℕ) (b : Bool) (e : ℕ × FileUse) (rest : Option FileUse) (h : FileUse) → test e.0 ≡ b → n < e.0 → cond b (Some e.1) rest ≡ Some h → (rest ≡ Some h → n < k.0) → n < k.0
  one_below n true e rest h at above found later = let key : e.0 ≡ k.0 = grind (arith, nat_tests) in omega arith
  one_below n false e rest h off above found later = later found

  -- a file that is found is above what all are above
  found_above : (n : ℕ) (files : List (ℕ × FileUse)) (h : FileUse) → KeysAbove n files → lookup test files ≡ Some h → n < k.0
  found_above n [] h above found = cc
  found_above n (e ∷ files) h above found = one_below n (test e.0) e (lookup test files) h refl above.0 found (λ more. found_above n files h above.1 more)

  -- the list with the file, or without it
  abbrev put_by : Bool → List Ino → List Ino
  put_by b inos = cond b (with_ino k inos) (without k inos)

  put_here : (b : Bool) (c : Bool) (ino : Ino) (inos : List Ino) → ino ≡ k → AllByRecursion (λ (i : Ino). k.0 < i.0) inos → put_by b (before c ino inos) ≡ before b k inos
  put_here true c ino inos is above = with_here k c ino inos is above
  put_here false c ino inos is above = without_here k c ino inos is above

  put_behind : (b : Bool) (c : Bool) (ino : Ino) (inos : List Ino) → ino.0 < k.0 → put_by b (before c ino inos) ≡ before c ino (put_by b inos)
  put_behind true c ino inos below = with_behind k c ino inos below
  put_behind false c ino inos below = without_behind k c ino inos below

  one_noted : (t b : Bool) (e : ℕ × FileUse) (files : List (ℕ × FileUse)) (h : FileUse) → test e.0 ≡ t → KeysRise (e ∷ files) → cond t (Some e.1) (lookup test files) ≡ Some h → q (k.0, f h) ≡ b → (lookup test files ≡ Some h → picked q (changed k f files) ≡ put_by b (picked p files)) → picked q (changed k f (e ∷ files)) ≡ put_by b (picked p (e ∷ files))
  one_noted true b e files h at rise some is rest =
      let key : e.0 ≡ k.0 = grind (arith, nat_tests) in
      let kind : e.1 ≡ h = cc in
      let it : ino_of e ≡ k = ap (λ n. let i : Ino = record { 0 = n } in i) key in
      own_first e files b key (ap (λ (u : FileUse). q (k.0, f u)) kind ∙ is) rise.0
      ∙ sym (put_here b (p e) (ino_of e) (picked p files) it (picked_above p k.0 files (subst (λ n. KeysAbove n files) key rise.0)))
      ∙ ap (put_by b) (sym (picked_first p e files))
  one_noted false b e files h off rise some is rest =
      let below : e.0 < k.0 = found_above e.0 files h rise.0 some in
      other_first e files (put_by b (picked p files)) (grind (arith, nat_tests)) (rest some)
      ∙ sym (put_behind b (p e) (ino_of e) (picked p files) below)
      ∙ ap (put_by b) (sym (picked_first p e files))

  -- the files that pass then are those that passed, with the changed one or without it
  pub noted : (files : List (ℕ × FileUse)) (h : FileUse) (b : Bool) → KeysRise files → lookup test files ≡ Some h → q (k.0, f h) ≡ b → picked q (changed k f files) ≡ put_by b (picked p files)
  noted [] h b rise found is = cc
  noted (e ∷ files) h b rise found is = one_noted (test e.0) b e files h refl rise found is (λ some. noted files h b rise.1 some is)

-- a file that doesn't pass is none of them, and leaves room
module _ (p : ℕ × FileUse → Bool) (k : Ino) where
  abbrev at_k : ℕ → Bool
  at_k = is_at (nat_cmp k.0)

  off_before : (b : Bool) (ino : Ino) (inos : List Ino) → (ino.0 == k.0) ≡ false → AllByRecursion (λ (i : Ino). (i.0 == k.0) ≡ false) inos → AllByRecursion (λ (i : Ino). (i.0 == k.0) ≡ false) (before b ino inos)
  off_before true ino inos here later = (here, later)
  off_before false ino inos here later = later

  one_absent : (t : Bool) (e : ℕ × FileUse) (files : List (ℕ × FileUse)) (h : FileUse) → at_k e.0 ≡ t → KeysRise (e ∷ files) → cond t (Some e.1) (lookup at_k files) ≡ Some h → p (k.0, h) ≡ false → (lookup at_k files ≡ Some h → (AllByRecursion (λ (i : Ino). (i.0 == k.0) ≡ false) (picked p files)) × (length (picked p files) < length files)) → (AllByRecursion (λ (i : Ino). (i.0 == k.0) ≡ false) (picked p (e ∷ files))) × (length (picked p (e ∷ files)) < length (e ∷ files))
  one_absent true e files h at rise some off rest =
      let key : e.0 ≡ k.0 = grind (arith, nat_tests) in
      let kind : e.1 ≡ h = cc in
      let it : e ≡ (k.0, h) = ap (λ n. let x : ℕ × FileUse = (n, e.1) in x) key ∙ ap (λ (u : FileUse). let x : ℕ × FileUse = (k.0, u) in x) kind in
      let none : picked p (e ∷ files) ≡ picked p files = picked_first p e files ∙ ap (λ b. before b (ino_of e) (picked p files)) (ap p it ∙ off) in
      let few : length (picked p files) ≤ length files = picked_count p files in
      let long : length (picked p (e ∷ files)) ≡ length (picked p files) = ap length none in
      (subst (AllByRecursion (λ (i : Ino). (i.0 == k.0) ≡ false)) (sym none) (off_above k (picked p files) (picked_above p k.0 files (subst (λ n. KeysAbove n files) key rise.0))), omega arith)
  one_absent false e files h off_it rise some off rest =
      let more = rest some in
      let long : length (picked p (e ∷ files)) ≡ length (before (p e) (ino_of e) (picked p files)) = ap length (picked_first p e files) in
      let few : length (before (p e) (ino_of e) (picked p files)) ≤ length (picked p files) + 1 = one_counts (p e) (ino_of e) (picked p files) (length (picked p files)) (omega arith) in
      (subst (AllByRecursion (λ (i : Ino). (i.0 == k.0) ≡ false)) (sym (picked_first p e files)) (off_before (p e) (ino_of e) (picked p files) (grind (arith, nat_tests)) more.0), omega (arith, more.1))

  pub absent : (files : List (ℕ × FileUse)) (h : FileUse) → KeysRise files → lookup at_k files ≡ Some h → p (k.0, h) ≡ false → (AllByRecursion (λ (i : Ino). (i.0 == k.0) ≡ false) (picked p files)) × (length (picked p files) < length files)
  absent [] h rise found off = cc
  absent (e ∷ files) h rise found off = one_absent (at_k e.0) e files h refl rise found off (λ some. absent files h rise.1 some off)

-- no file has changed, and none passes another test than before
one_steady : (a b : Bool) (ino : Ino) (xs ys : List Ino) → a ≡ b → xs ≡ ys → before a ino xs ≡ before b ino ys
one_steady a b ino xs ys test rest = ap (λ t. before t ino xs) test ∙ ap (before b ino) rest

one_missing : (b : Bool) (p q : ℕ × FileUse → Bool) (k : Ino) (e : ℕ × FileUse) (rest : Option FileUse) → is_at (nat_cmp k.0) e.0 ≡ b → cond b (Some e.1) rest ≡ None → ((e.0 == k.0) ≡ false) × (rest ≡ None)
one_missing true p q k e rest at none = cc
one_missing false p q k e rest off none = (grind (arith, nat_tests), none)

pub steady : (p q : ℕ × FileUse → Bool) (k : Ino) → ((e : ℕ × FileUse) → (e.0 == k.0) ≡ false → q e ≡ p e) → (files : List (ℕ × FileUse)) → lookup (is_at (nat_cmp k.0)) files ≡ None → picked q files ≡ picked p files
steady p q k same [] none = refl
steady p q k same (e ∷ files) none =
    let off = one_missing (is_at (nat_cmp k.0) e.0) p q k e (lookup (is_at (nat_cmp k.0)) files) refl none in
    picked_first q e files ∙ one_steady (q e) (p e) (ino_of e) (picked q files) (picked p files) (same e off.0) (steady p q k same files off.1) ∙ sym (picked_first p e files)

-- a file that changes to itself
own_same : (b : Bool) (e : ℕ × FileUse) → cond b (e.0, e.1) e ≡ e
own_same true e = refl
own_same false e = refl

pub changed_same : (k : Ino) (files : List (ℕ × FileUse)) → changed k (λ h. h) files ≡ files
changed_same k [] = refl
changed_same k (e ∷ files) = ap (λ (x : ℕ × FileUse). x ∷ changed k (λ h. h) files) (own_same (e.0 == k.0) e) ∙ ap (λ es. e ∷ es) (changed_same k files)

-- what is put in place of a file's use is a change of that file alone
above_changed : (k : Ino) (f : FileUse → FileUse) (files : List (ℕ × FileUse)) → KeysAbove k.0 files → changed k f files ≡ files
above_changed k f [] above = refl
above_changed k f (e ∷ files) above =
    let off : (e.0 == k.0) ≡ false = grind (arith, nat_tests, above.0) in
    let stays : cond (e.0 == k.0) (e.0, f e.1) e ≡ e = rw off refl in
    ap (λ (x : ℕ × FileUse). x ∷ changed k f files) stays ∙ ap (λ es. e ∷ es) (above_changed k f files above.1)

module _ (k : Ino) (f : FileUse → FileUse) (h : FileUse) where
  one_set : (t : Bool) (e : ℕ × FileUse) (files : List (ℕ × FileUse)) → is_at (nat_cmp k.0) e.0 ≡ t → KeysRise (e ∷ files) → cond t (Some e.1) (lookup (is_at (nat_cmp k.0)) files) ≡ Some h → (lookup (is_at (nat_cmp k.0)) files ≡ Some h → set_value (is_at (nat_cmp k.0)) files (f h) ≡ changed k f files) → cond t ((e.0, f h) ∷ files) (e ∷ set_value (is_at (nat_cmp k.0)) files (f h)) ≡ changed k f (e ∷ files)
  one_set true e files at rise some rest =
      let same : (e.0 == k.0) ≡ true = grind (arith, nat_tests) in
      let key : e.0 ≡ k.0 = grind (arith, nat_tests) in
      let kind : e.1 ≡ h = cc in
      let it : cond (e.0 == k.0) (e.0, f e.1) e ≡ (e.0, f h) = rw same (ap (λ (u : FileUse). let x : ℕ × FileUse = (e.0, f u) in x) kind) in
      sym (ap (λ (x : ℕ × FileUse). x ∷ changed k f files) it ∙ ap (λ es. (e.0, f h) ∷ es) (above_changed k f files (subst (λ n. KeysAbove n files) key rise.0)))
  one_set false e files off rise some rest =
      let other : (e.0 == k.0) ≡ false = grind (arith, nat_tests) in
      let it : cond (e.0 == k.0) (e.0, f e.1) e ≡ e = rw other refl in
      sym (ap (λ (x : ℕ × FileUse). x ∷ changed k f files) it ∙ ap (λ es. e ∷ es) (sym (rest some)))

  pub set_changed : (files : List (ℕ × FileUse)) → KeysRise files → lookup (is_at (nat_cmp k.0)) files ≡ Some h → set_value (is_at (nat_cmp k.0)) files (f h) ≡ changed k f files
  set_changed [] rise found = cc
  set_changed (e ∷ files) rise found = one_set (is_at (nat_cmp k.0) e.0) e files refl rise found (λ some. set_changed files rise.1 some)

-- the files rise as before
above_kept : (n : ℕ) (k : Ino) (f : FileUse → FileUse) (b : Bool) (e : ℕ × FileUse) (files : List (ℕ × FileUse)) → n < e.0 → KeysAbove n files → KeysAbove n (cond b (e.0, f e.1) e ∷ files)
above_kept n k f true e files here later = (here, later)
above_kept n k f false e files here later = (here, later)

changed_above : (n : ℕ) (k : Ino) (f : FileUse → FileUse) (files : List (ℕ × FileUse)) → KeysAbove n files → KeysAbove n (changed k f files)
changed_above n k f [] above = tt
changed_above n k f (e ∷ files) above = above_kept n k f (e.0 == k.0) e (changed k f files) above.0 (changed_above n k f files above.1)

one_rising : (k : Ino) (f : FileUse → FileUse) (b : Bool) (e : ℕ × FileUse) (files : List (ℕ × FileUse)) → KeysAbove e.0 files → KeysRise files → KeysRise (cond b (e.0, f e.1) e ∷ files)
one_rising k f true e files above rise = (above, rise)
one_rising k f false e files above rise = (above, rise)

pub changed_rise : (k : Ino) (f : FileUse → FileUse) (files : List (ℕ × FileUse)) → KeysRise files → KeysRise (changed k f files)
changed_rise k f [] rise = tt
changed_rise k f (e ∷ files) rise = one_rising k f (e.0 == k.0) e (changed k f files) (changed_above e.0 k f files rise.0) (changed_rise k f files rise.1)

-- there are as many files as before
pub changed_count : (k : Ino) (f : FileUse → FileUse) (files : List (ℕ × FileUse)) → length (changed k f files) ≡ length files
changed_count k f [] = refl
changed_count k f (e ∷ files) = ap suc (changed_count k f files)

-- a new file goes to its place, and passes no test that it fails
one_new : (o : Ordering) (k : Ino) (e : ℕ × FileUse) (files more : List (ℕ × FileUse)) → nat_cmp k.0 e.0 ≡ o → lookup (is_at (nat_cmp k.0)) (e ∷ files) ≡ None → more ≡ with_new k files → match_ordering o ((k.0, new_use) ∷ e ∷ files) ((e.0, new_use) ∷ files) (e ∷ more) ≡ with_new k (e ∷ files)
one_new Less k e files more is none rest = let below : nat_lt k.0 e.0 ≡ true = grind (arith, nat_tests) in rw below refl
one_new Equal k e files more is none rest =
    let at : is_at (nat_cmp k.0) e.0 ≡ true = grind (arith, nat_tests) in
    absurd (let no : Some e.1 ≡ None = sym (rw at refl) ∙ none in cc)
one_new Greater k e files more is none rest = let above : nat_lt k.0 e.0 ≡ false = grind (arith, nat_tests) in rw above (ap (λ es. e ∷ es) rest)

pub inserted_new : (k : Ino) (files : List (ℕ × FileUse)) → lookup (is_at (nat_cmp k.0)) files ≡ None → insert_entry nat_cmp files k.0 new_use ≡ with_new k files
inserted_new k [] none = refl
inserted_new k (e ∷ files) none =
    let off = one_missing (is_at (nat_cmp k.0) e.0) (λ x. true) (λ x. true) k e (lookup (is_at (nat_cmp k.0)) files) refl none in
    one_new (nat_cmp k.0 e.0) k e files (insert_entry nat_cmp files k.0 new_use) refl none (inserted_new k files off.1)

module _ (p : ℕ × FileUse → Bool) (k : Ino) (fails : p (k.0, new_use) ≡ false) where
  new_front : (files : List (ℕ × FileUse)) → picked p ((k.0, new_use) ∷ files) ≡ picked p files
  new_front files = picked_first p (k.0, new_use) files ∙ ap (λ b. before b k (picked p files)) fails

  one_picked : (b : Bool) (e : ℕ × FileUse) (files : List (ℕ × FileUse)) → picked p (with_new k files) ≡ picked p files → picked p (cond b ((k.0, new_use) ∷ e ∷ files) (e ∷ with_new k files)) ≡ picked p (e ∷ files)
  one_picked true e files rest = new_front (e ∷ files)
  one_picked false e files rest = picked_first p e (with_new k files) ∙ ap (before (p e) (ino_of e)) rest ∙ sym (picked_first p e files)

  pub picked_new : (files : List (ℕ × FileUse)) → picked p (with_new k files) ≡ picked p files
  picked_new [] = new_front []
  picked_new (e ∷ files) = one_picked (nat_lt k.0 e.0) e files (picked_new files)

  -- it is one file more
  one_longer : (b : Bool) (e : ℕ × FileUse) (files : List (ℕ × FileUse)) → length (with_new k files) ≡ length files + 1 → length (cond b ((k.0, new_use) ∷ e ∷ files) (e ∷ with_new k files)) ≡ length (e ∷ files) + 1
  one_longer true e files rest = omega arith
  one_longer false e files rest = omega arith

  pub new_count : (files : List (ℕ × FileUse)) → length (with_new k files) ≡ length files + 1
  new_count [] = refl
  new_count (e ∷ files) = one_longer (nat_lt k.0 e.0) e files (new_count files)

-- where the file isn't there nothing is put in its place
one_kept_out : (b : Bool) (e : ℕ × FileUse) (rest more : List (ℕ × FileUse)) (h : FileUse) (found : Option FileUse) → cond b (Some e.1) found ≡ None → (found ≡ None → more ≡ rest) → cond b ((e.0, h) ∷ rest) (e ∷ more) ≡ e ∷ rest
one_kept_out true e rest more h found none later = cc
one_kept_out false e rest more h found none later = ap (λ es. e ∷ es) (later none)

pub set_missing : (test : ℕ → Bool) (files : List (ℕ × FileUse)) (h : FileUse) → lookup test files ≡ None → set_value test files h ≡ files
set_missing test [] h none = refl
set_missing test (e ∷ files) h none = one_kept_out (test e.0) e files (set_value test files h) h (lookup test files) none (λ off. set_missing test files h off)

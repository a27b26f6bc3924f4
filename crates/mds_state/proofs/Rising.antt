-- Inodes are made in rising order.
use Rattle.std.proofs.Common.{◌≡◌, ℕ, ◌<◌, List, [], ◌∷◌, ◌++◌, map, filter, Bool, true, false, cond, refl, sym, ap, subst, ◌∙◌, eqb-true}
use Rattle.std.specs.Prelude.{if◌then◌else◌}
use Rattle.std.specs.List.{AllByRecursion}
use Rattle.snap_ids.specs.declared.id.Ino.{Ino}
use Rattle.plain_types.specs.declared.change.Change.TheVariants as change
use Rattle.plain_types.specs.declared.entry.Entry.{Entry}
use Rattle.plain_types.specs.declared.entry.What.{What}
use Rattle.plain_types.specs.declared.entry.What.TheVariants as what
use Rattle.plain_tree.specs.State.{State, Inode, new_directory, next_ino}
use Rattle.plain_tree.specs.Change.{is_refused, new_file, with_mode, make}
use Rattle.plain_journal.specs.Entries.{change_in, with_change, state_after}
use Rattle.plain_journal.specs.Legal.{is_made_by, fits, is_legal, is_journal}
use Rattle.journal_laws.proofs.Steps.{both_true, of_journals, state_more}
use Rattle.journal_names.proofs.Inodes.{AllLow, IsLow, low_step, low_after, steady_inodes}
use Rattle.server_holders.proofs.Rising.{Rises}

-- the numbers of inodes
abbrev pub raw : List Ino → List ℕ
raw inos = map (λ (ino : Ino). ino.0) inos

abbrev pub inos_of : List Inode → List Ino
inos_of inodes = map (λ (inode : Inode). inode.ino) inodes

later : (n : ℕ) (inodes : List Inode) (new : Inode) → AllByRecursion (λ m. n < m) (raw (inos_of inodes)) → n < new.ino.0 → AllByRecursion (λ m. n < m) (raw (inos_of (inodes ++ new ∷ [])))
later n [] new all less = (less, tt)
later n (x ∷ xs) new all less = (all.0, later n xs new all.1 less)

push : (inodes : List Inode) (new : Inode) → Rises (raw (inos_of inodes)) → AllLow new.ino.0 inodes → Rises (raw (inos_of (inodes ++ new ∷ [])))
push [] new rises low = (tt, tt)
push (x ∷ xs) new rises low = (later x.ino.0 xs new rises.0 low.0, push xs new rises.1 low.1)

same_mode : (ino : Ino) (mode : ℕ) (inodes : List Inode) → inos_of (with_mode ino mode inodes) ≡ inos_of inodes
same_mode ino mode [] = refl
same_mode ino mode (x ∷ xs) = ap (λ (inos : List Ino). x.ino ∷ inos) (same_mode ino mode xs)

module _ (state : State) (client : ℕ) (low : IsLow state) (rises : Rises (raw (inos_of state.inodes))) where
  new_low : (n : ℕ) → n ≡ (next_ino state).0 → AllLow n state.inodes
  new_low n next = subst (λ (m : ℕ). AllLow m state.inodes) (sym next) low.low

  by_mkdir : (dir : Ino) (name : List ℕ) (ino : Ino) → ino.0 ≡ (next_ino state).0 → (b : Bool) → Rises (raw (inos_of (if b then state else make state client (change.Mkdir dir name ino)).inodes))
  by_mkdir dir name ino next true = rises
  by_mkdir dir name ino next false = push state.inodes (new_directory ino) rises (new_low ino.0 next)

  by_create : (dir : Ino) (name : List ℕ) (ino : Ino) (mode : ℕ) → ino.0 ≡ (next_ino state).0 → (b : Bool) → Rises (raw (inos_of (if b then state else make state client (change.Create dir name ino mode)).inodes))
  by_create dir name ino mode next true = rises
  by_create dir name ino mode next false = push state.inodes (new_file ino mode) rises (new_low ino.0 next)

  by_chmod : (ino : Ino) (mode : ℕ) (b : Bool) → Rises (raw (inos_of (if b then state else make state client (change.Chmod ino mode)).inodes))
  by_chmod ino mode true = rises
  by_chmod ino mode false = subst (λ (inos : List Ino). Rises (raw inos)) (sym (same_mode ino mode state.inodes)) rises

  by_steady : (new : State) → new.inodes ≡ state.inodes → Rises (raw (inos_of new.inodes))
  by_steady new same = subst (λ (l : List Inode). Rises (raw (inos_of l))) (sym same) rises

rises_step : (entries : List Entry) (client : ℕ) (w : What) → IsLow (state_after entries) → Rises (raw (inos_of (state_after entries).inodes)) → fits entries w ≡ true
    → Rises (raw (inos_of (with_change (state_after entries) client (change_in w)).inodes))
rises_step entries client (what.Mkdir dir name ino) low rises fine =
    by_mkdir (state_after entries) client low rises dir name ino (eqb-true ino.0 (next_ino (state_after entries)).0 fine) (is_refused (state_after entries) client (change.Mkdir dir name ino))
rises_step entries client (what.Create dir name ino mode) low rises fine =
    by_create (state_after entries) client low rises dir name ino mode (eqb-true ino.0 (next_ino (state_after entries)).0 fine) (is_refused (state_after entries) client (change.Create dir name ino mode))
rises_step entries client (what.Chmod ino mode) low rises fine = by_chmod (state_after entries) client low rises ino mode (is_refused (state_after entries) client (change.Chmod ino mode))
rises_step entries client w low rises fine = by_steady (state_after entries) client low rises (with_change (state_after entries) client (change_in w)) (steady_inodes (state_after entries) client (change_in w) refl)

record Climbs (state : State) : Type 0 where
  low : IsLow state
  rises : Rises (raw (inos_of state.inodes))

-- the inodes after a journal rise
pub rises_after : (entries : List Entry) → is_journal entries ≡ true → Rises (raw (inos_of (state_after entries).inodes))
rises_after entries legal = (of_journals (λ (done : List Entry). Climbs (state_after done)) (record { low = low_after [] refl; rises = (tt, tt) }) more entries legal).rises
  where
    more : (done : List Entry) (e : Entry) → Climbs (state_after done) → is_legal done e ≡ true → Climbs (state_after (done ++ e ∷ []))
    more done e is fine =
        let fit = (both_true (is_made_by (state_after done) e.client (change_in e.what)) (fits done e.what) fine).1 in
        subst Climbs (sym (state_more done e))
        (record { low = low_step done e.client e.what is.low fit; rises = rises_step done e.client e.what is.low is.rises fit })

-- some of a rising list rise
above_some : (p : Ino → Bool) (n : ℕ) (xs : List Ino) → AllByRecursion (λ m. n < m) (raw xs) → AllByRecursion (λ m. n < m) (raw (filter p xs))
above_some p n [] all = tt
above_some p n (x ∷ xs) all = go (p x) (above_some p n xs all.1)
  where
    go : (b : Bool) → AllByRecursion (λ m. n < m) (raw (filter p xs)) → AllByRecursion (λ m. n < m) (raw (cond b (x ∷ filter p xs) (filter p xs)))
    go true rest = (all.0, rest)
    go false rest = rest

pub rises_some : (p : Ino → Bool) (xs : List Ino) → Rises (raw xs) → Rises (raw (filter p xs))
rises_some p [] rises = tt
rises_some p (x ∷ xs) rises = go (p x) (rises_some p xs rises.1)
  where
    go : (b : Bool) → Rises (raw (filter p xs)) → Rises (raw (cond b (x ∷ filter p xs) (filter p xs)))
    go true rest = (above_some p x.0 xs rises.0, rest)
    go false rest = rest

-- inodes with the same numbers are the same
back : (xs : List Ino) → map (λ (n : ℕ). let ino : Ino = record { 0 = n } in ino) (raw xs) ≡ xs
back [] = refl
back (x ∷ xs) = ap (λ (l : List Ino). x ∷ l) (back xs)

pub same_raw : (xs ys : List Ino) → raw xs ≡ raw ys → xs ≡ ys
same_raw xs ys same = sym (back xs) ∙ ap (map (λ (n : ℕ). let ino : Ino = record { 0 = n } in ino)) same ∙ back ys

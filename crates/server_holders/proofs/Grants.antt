-- What a request without conflict leaves, and what the mode is in which a client holds a file.
use Rattle.std.proofs.Common.{◌≡◌, ℕ, Bool, true, false, not, ◌||◌, ◌&&◌, ◌==◌, cond, List, [], ◌∷◌, map, find, option_map, Option, None, Some, refl, sym, ap, subst, ◌∙◌}
use Rattle.std.specs.List.{list_any}
use Rattle.snap_ids.specs.declared.id.Ino.{Ino}
use Rattle.snap_ids.specs.declared.id.SnapId.{SnapId}
use Rattle.snap_ids.specs.declared.values.Mode.{Mode}
use Rattle.snap_ids.specs.declared.values.Mode.TheVariants.{Read, Write}
use Rattle.plain_tree.specs.State.{same_ino}
use Rattle.plain_journal.specs.Entries.{applied}
use Rattle.held_files.specs.Files.{is_write}
use Rattle.cap_state.specs.Table as table
use Rattle.cap_state.specs.Table.{Holding, is_of, is_at, writes, conflicts, mode_of, suffices, with_holding, granted, after_by, after_ask, holders_of, IsTable}
use Rattle.step_table.specs.ServerState.{Holder, Server, is_holder, is_writer}
use Rattle.step_table.specs.Acts.{acts, Raise}
use Rattle.step_table.specs.Capabilities.{OneWriter, is_against, in_conflict, give_to, give}
use Rattle.server_holders.specs.Stands.{Marks, HoldersStand, unmarked, marks_after}
use Rattle.server_holders.proofs.Any.{any_same, any_filter, none_filter, none_found}
use Rattle.server_holders.proofs.One.{same_mode, test, by_found, one_at, one_holder}
use Rattle.server_holders.proofs.Changes.{holds, raises}

found_none : {X : Type 0} (p : X → Bool) (xs : List X) → find p xs ≡ None → list_any p xs ≡ false
found_none p [] is = refl
found_none p (x ∷ xs) is = go (p x) is (found_none p xs)
  where
    go : (b : Bool) → cond b (Some x) (find p xs) ≡ None → (find p xs ≡ None → list_any p xs ≡ false) → (b || list_any p xs) ≡ false
    go true is rest = cc
    go false is rest = rest is

found_some : {X : Type 0} (p : X → Bool) (xs : List X) (x : X) → find p xs ≡ Some x → list_any p xs ≡ true
found_some p [] x is = cc
found_some p (y ∷ ys) x is = go (p y) is (found_some p ys x)
  where
    go : (b : Bool) → cond b (Some y) (find p ys) ≡ Some x → (find p ys ≡ Some x → list_any p ys ≡ true) → (b || list_any p ys) ≡ true
    go true is rest = refl
    go false is rest = rest is

module _ (held : List Holding) (marks : Marks) (holders : List Holder) (stands : HoldersStand held marks holders) (client : ℕ) (ino : Ino) where
  -- the same tests
  pub at_holder : list_any (is_at client ino) held ≡ list_any (is_holder client ino) holders
  at_holder = stands (λ h m. is_at client ino h)

  pub writer_there : list_any (table.is_writer client ino) held ≡ list_any (is_writer client ino) holders
  writer_there =
      stands (λ h m. table.is_writer client ino h)
      ∙ any_same (λ (h : Holder). is_holder client ino h && writes h.mode) (is_writer client ino) holders (λ h. ap (λ b. is_holder client ino h && b) (same_mode h.mode))

  pub reader_there : list_any (λ (h : Holding). is_at client ino h && not (writes h.1.mode)) held ≡ list_any (λ (h : Holder). is_holder client ino h && not (is_write h.mode)) holders
  reader_there =
      stands (λ h m. is_at client ino h && not (writes h.1.mode))
      ∙ any_same (λ (h : Holder). is_holder client ino h && not (writes h.mode)) (λ (h : Holder). is_holder client ino h && not (is_write h.mode)) holders (λ h. ap (λ b. is_holder client ino h && not b) (same_mode h.mode))

  -- nobody is against it
  pub against_there : (mode : Mode) → list_any (λ (h : Holding). is_of ino h && conflicts client mode h) held ≡ list_any (is_against client ino mode) holders
  against_there mode =
      stands (λ h m. is_of ino h && conflicts client mode h)
      ∙ any_same (λ (h : Holder). same_ino h.ino ino && (not (h.client == client) && (writes mode || writes h.mode))) (is_against client ino mode) holders same
    where
      turned : (a b c d e f : Bool) → c ≡ e → d ≡ f → (a && (b && (c || d))) ≡ (b && a && (e || f))
      turned true true c d e f l r = λ i. (l i || r i)
      turned true false c d e f l r = refl
      turned false true c d e f l r = refl
      turned false false c d e f l r = refl

      same : (h : Holder) → (same_ino h.ino ino && (not (h.client == client) && (writes mode || writes h.mode))) ≡ is_against client ino mode h
      same h = turned (same_ino h.ino ino) (not (h.client == client)) (writes mode) (writes h.mode) (is_write mode) (is_write h.mode) (same_mode mode) (same_mode h.mode)

  pub none_against : (mode : Mode) → list_any (is_against client ino mode) holders ≡ false → table.against client ino mode held ≡ []
  none_against mode none =
      ap (λ (xs : List Holding). map (λ (h : Holding). h.0) xs)
      (none_filter (conflicts client mode) (holders_of ino held) (any_filter (conflicts client mode) (is_of ino) held ∙ against_there mode ∙ none))

-- whether what is found of a client's holdings suffices
suffices_none : (mode : Mode) (found : Option Holding) → found ≡ None → suffices (option_map (λ (h : Holding). h.1.mode) found) mode ≡ false
suffices_none mode None is = refl
suffices_none mode (Some h) is = cc

suffices_some : (client : ℕ) (ino : Ino) (mode : Mode) (held : List Holding) (w : Bool) (found : Option Holding) → find (is_at client ino) held ≡ found → list_any (is_at client ino) held ≡ true → test (λ (h : Holding). writes h.1.mode) found ≡ w → suffices (option_map (λ (h : Holding). h.1.mode) found) mode ≡ (w || not (is_write mode))
suffices_some client ino mode held w None is some same = let never : true ≡ false = sym some ∙ found_none (is_at client ino) held is in cc
suffices_some client ino mode held w (Some h) is some same = λ i. (same i || not (same_mode mode i))

write_mode : (mode : Mode) → is_write mode ≡ true → mode ≡ Write
write_mode Read is = cc
write_mode Write is = refl

module _ (held : List Holding) (marks : Marks) (s : Server) (client : ℕ) (ino : Ino) (mode : Mode) (tab : IsTable held) (one : OneWriter s.holders) (stands : HoldersStand held marks s.holders) where
  abbrev last : SnapId
  last = record { 0 = applied s.entries }

  abbrev new : Holding
  new = (client, record { ino = ino; mode = mode; settled = last })

  by_mode : (h : Holder) → list_any (is_holder client ino) s.holders ≡ true → (a b : Bool) → is_write mode ≡ b → HoldersStand (cond (a || not b) held (with_holding new held)) (cond (a || not b) marks (unmarked client ino marks)) (acts s (cond (b && not a) (Raise client ino last ∷ []) [])).holders
  by_mode h some true true is = stands
  by_mode h some true false is = stands
  by_mode h some false false is = stands
  by_mode h some false true is = raises held marks s.holders stands client ino mode last (write_mode mode is) some

  by_holder : (found : Option Holder) → find (is_holder client ino) s.holders ≡ found → HoldersStand (granted client (record { ino = ino; mode = mode; settled = last }) held) (marks_after client ino mode held marks) (acts s (give_to s client ino mode found)).holders
  by_holder None is =
      let none = found_none (is_holder client ino) s.holders is in
      subst (λ b. HoldersStand (cond b held (with_holding new held)) (cond b marks (unmarked client ino marks)) (acts s (give_to s client ino mode None)).holders)
      (sym (suffices_none mode (find (is_at client ino) held) (none_found (is_at client ino) held (at_holder held marks s.holders stands client ino ∙ none))))
      (holds held marks s.holders stands client ino mode last none)
  by_holder (Some h) is =
      let some = found_some (is_holder client ino) s.holders h is in
      let here : test (λ (x : Holding). writes x.1.mode) (find (is_at client ino) held) ≡ is_write h.mode = sym (by_found (λ (x : Holding). writes x.1.mode) (is_at client ino) held (one_at client ino held tab)) ∙ writer_there held marks s.holders stands client ino ∙ by_found (λ (x : Holder). is_write x.mode) (is_holder client ino) s.holders (one_holder client ino s.holders one) ∙ ap (test (λ (x : Holder). is_write x.mode)) is in
      subst (λ b. HoldersStand (cond b held (with_holding new held)) (cond b marks (unmarked client ino marks)) (acts s (give_to s client ino mode (Some h))).holders)
      (sym (suffices_some client ino mode held (is_write h.mode) (find (is_at client ino) held) refl (at_holder held marks s.holders stands client ino ∙ some) here))
      (by_mode h some (is_write h.mode) (is_write mode) refl)

  pub gives : in_conflict s client ino mode ≡ false → HoldersStand (after_ask client ino mode last held) (marks_after client ino mode held marks) (acts s (give s client ino mode)).holders
  gives none =
      subst (λ (clients : List ℕ). HoldersStand (after_by clients held (granted client (record { ino = ino; mode = mode; settled = last }) held)) (marks_after client ino mode held marks) (acts s (give s client ino mode)).holders)
      (sym (none_against held marks s.holders stands client ino mode none))
      (by_holder (find (is_holder client ino) s.holders) refl)

-- the mode in which a client holds a file
module _ (client : ℕ) (ino : Ino) (held : List Holding) (tab : IsTable held) where
  pub found_mode : (p : Mode → Bool) → list_any (λ (h : Holding). is_at client ino h && p h.1.mode) held ≡ test (λ (h : Holding). p h.1.mode) (find (is_at client ino) held)
  found_mode p = by_found (λ (h : Holding). p h.1.mode) (is_at client ino) held (one_at client ino held tab)

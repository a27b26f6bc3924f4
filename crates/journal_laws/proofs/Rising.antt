-- Ids of snapshots rise along a journal.
use Rattle.std.proofs.Common.{◌≡◌, ℕ, ◌<◌, ◌≤◌, List, [], ◌∷◌, ◌++◌, Bool, true, false, refl, sym, ap, ◌∙◌, subst, arith}
use Rattle.std.proofs.lemmas.List.Folds.{list_any-append}
use Rattle.std.proofs.lemmas.List.Sums.{fold-append}
use Rattle.std.proofs.lemmas.Bool.{eqb-true}
use borrow.Author.Tests.{ltb-true}
use Rattle.std.specs.Prelude.{◌||◌, ◌==◌, nat_lt}
use Rattle.snap_ids.specs.declared.id.SnapId.{SnapId}
use Rattle.plain_types.specs.declared.entry.Entry.{Entry}
use Rattle.plain_types.specs.declared.entry.What.{What}
use Rattle.plain_types.specs.declared.entry.What.TheVariants as what
use Rattle.plain_journal.specs.Entries.{change_in, state_after, makes_snap, applied_by, applied}
use Rattle.plain_journal.specs.Legal.{is_made_by, is_given, fits, is_legal, is_journal}
use Rattle.journal_laws.specs.Entries.{was_made}
use Rattle.journal_laws.proofs.Steps.{both_true, of_journals, last_legal}

-- the last id after one more entry
applied_more : (entries : List Entry) (e : Entry) → applied (entries ++ e ∷ []) ≡ applied_by (applied entries) e.what
applied_more entries e = fold-append (λ before (x : Entry). applied_by before x.what) 1 entries (e ∷ [])

-- an id that was made before, or now, is at most the last one
one_more : (w : What) (s : SnapId) (before : ℕ) (b : Bool) → (b ≡ true → s.0 ≤ before) → ((id : SnapId) (dir : _) (name : _) → w ≡ what.Mksnap id dir name → before < id.0) → (b || (makes_snap s w || false)) ≡ true → s.0 ≤ applied_by before w
one_more (what.Mksnap id dir name) s before true old above made = omega (arith, old refl, above id dir name refl)
one_more (what.Mksnap id dir name) s before false old above made = by_test (id.0 == s.0) refl made
  where
    by_test : (b : Bool) → (id.0 == s.0) ≡ b → (b || false) ≡ true → s.0 ≤ id.0
    by_test true same is = let eq : id.0 ≡ s.0 = eqb-true id.0 s.0 same in omega (arith, eq)
    by_test false same is = cc
one_more (what.Mkdir d n i) s before true old above made = old refl
one_more (what.Create d n i m) s before true old above made = old refl
one_more (what.Link i d n) s before true old above made = old refl
one_more (what.Unlink d n) s before true old above made = old refl
one_more (what.Rmdir d n) s before true old above made = old refl
one_more (what.Rename d n td tn) s before true old above made = old refl
one_more (what.Chmod i m) s before true old above made = old refl
one_more (what.OpenFile h i w) s before true old above made = old refl
one_more (what.CloseFile h) s before true old above made = old refl
one_more (what.PrepareCreate id) s before true old above made = old refl
one_more (what.PrepareDestroy id) s before true old above made = old refl
one_more (what.Rmsnap id) s before true old above made = old refl
one_more (what.Rollback id) s before true old above made = old refl
one_more (what.Settle i f u z) s before true old above made = old refl
one_more (what.Release i f z) s before true old above made = old refl
one_more (what.Trim id) s before true old above made = old refl
one_more (what.Purgedone id) s before true old above made = old refl
one_more (what.Deadfile i) s before true old above made = old refl
one_more (what.Barrier n) s before true old above made = old refl
one_more w s before false old above made = cc

-- the id of a new snapshot is above the last one
above_last : (entries : List Entry) (w : What) (id : SnapId) (dir : _) (name : _) → w ≡ what.Mksnap id dir name → fits entries w ≡ true → applied entries < id.0
above_last entries w id dir name is fine =
    let of_snap : fits entries (what.Mksnap id dir name) ≡ true = subst (λ (x : What). fits entries x ≡ true) is fine in
    ltb-true (applied entries) id.0 (both_true (nat_lt (applied entries) id.0) (is_given id) of_snap).0

pub made_upto_applied : (entries : List Entry) → is_journal entries ≡ true → (s : SnapId) → was_made s entries ≡ true → s.0 ≤ applied entries
made_upto_applied entries legal = of_journals (λ (done : List Entry). (s : SnapId) → was_made s done ≡ true → s.0 ≤ applied done) (λ s made. cc) more entries legal
  where
    more : (done : List Entry) (e : Entry) → ((s : SnapId) → was_made s done ≡ true → s.0 ≤ applied done) → is_legal done e ≡ true → (s : SnapId) → was_made s (done ++ e ∷ []) ≡ true → s.0 ≤ applied (done ++ e ∷ [])
    more done e old fine s made =
        subst (λ (n : ℕ). s.0 ≤ n) (sym (applied_more done e))
        (one_more e.what s (applied done) (was_made s done) (old s) (λ id dir name is. above_last done e.what id dir name is (both_true (is_made_by (state_after done) e.client (change_in e.what)) (fits done e.what) fine).1)
        (sym (list_any-append (λ (x : Entry). makes_snap s x.what) done (e ∷ [])) ∙ made))

pub new_above : (entries : List Entry) (e : Entry) (id : SnapId) (dir : _) (name : _) → is_journal (entries ++ e ∷ []) ≡ true → e.what ≡ what.Mksnap id dir name → (applied entries < id.0) × (applied (entries ++ e ∷ []) ≡ id.0)
new_above entries e id dir name legal is =
    let l = last_legal [] entries e legal in
    (above_last entries e.what id dir name is (both_true _ _ l.1).1, applied_more entries e ∙ ap (applied_by (applied entries)) is)

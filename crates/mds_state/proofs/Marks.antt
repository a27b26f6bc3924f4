-- The marks of who was asked to give which file back.
use Rattle.std.proofs.Common.{◌≡◌, ℕ, List, [], ◌∷◌, ◌++◌, Bool, true, false, not, cond, refl, sym, ap, ◌∙◌, arith}
use Rattle.std.proofs.lemmas.Bool.{eqb-true}
use Rattle.std.proofs.lemmas.Bool.Decides.{nat_tests}
use Rattle.std.proofs.lemmas.List.Folds.{list_any-append}
use Rattle.std.proofs.lemmas.Map.Views.{any-filter_same}
use Rattle.std.specs.Prelude.{◌||◌, ◌&&◌, ◌==◌}
use Rattle.std.specs.List.{list_any}
use Rattle.snap_ids.specs.declared.id.Ino.{Ino}
use Rattle.snap_ids.specs.declared.values.Mode.{Mode}
use Rattle.plain_tree.specs.State.{same_ino}
use Rattle.cap_state.specs.Table.{mode_of, suffices}
use Rattle.server_holders.specs.Stands.{marked, unmarked, none_marked, marks_after}
use Rattle.mds_state.specs.Parts.{TenureParts, is_mark, marks_in}
use Rattle.mds_state.specs.Tenures.{unmark, unmark_all, marks_given}
use Rattle.mds_state.proofs.Alone.{both}

or_false : (b : Bool) → (b || false) ≡ b
or_false true = refl
or_false false = refl

turned : (a b : ℕ) → (a == b) ≡ (b == a)
turned a b = grind (arith, nat_tests)

pub marked_is : (marks : List (ℕ × Ino)) (client : ℕ) (ino : Ino) → marks_in (marks ++ (client, ino) ∷ []) ≡ marked client ino (marks_in marks)
marked_is marks client ino = λ i c x. same c x i
  where
    same : (c : ℕ) (x : Ino) → marks_in (marks ++ (client, ino) ∷ []) c x ≡ marked client ino (marks_in marks) c x
    same c x = list_any-append (is_mark c x) marks ((client, ino) ∷ []) ∙ ap (λ b. list_any (is_mark c x) marks || b) (or_false (is_mark c x (client, ino)))

-- a mark that is of one client and file, by its own
of_both : (a b c d e f : ℕ) → (a == b && c == d) ≡ true → (e == b && f == d) ≡ (a == e && c == f)
of_both a b c d e f is =
    let l = both (a == b) (c == d) is in
    (λ i. turned e b i && turned f d i) ∙ (λ i. (sym (eqb-true a b l.0) i == e) && (sym (eqb-true c d l.1) i == f))

pub unmarked_is : (marks : List (ℕ × Ino)) (client : ℕ) (ino : Ino) → marks_in (unmark client ino marks) ≡ unmarked client ino (marks_in marks)
unmarked_is marks client ino = λ i c x. same c x i
  where
    same : (c : ℕ) (x : Ino) → marks_in (unmark client ino marks) c x ≡ unmarked client ino (marks_in marks) c x
    same c x =
        any-filter_same (is_mark c x) (λ (mark : ℕ × Ino). not (is_mark client ino mark)) (not (c == client && same_ino x ino))
        (λ mark is. ap not (of_both c mark.0 x.0 mark.1.0 client ino.0 is)) marks

pub none_marked_is : (marks : List (ℕ × Ino)) (client : ℕ) → marks_in (unmark_all client marks) ≡ none_marked client (marks_in marks)
none_marked_is marks client = λ i c x. same c x i
  where
    same : (c : ℕ) (x : Ino) → marks_in (unmark_all client marks) c x ≡ none_marked client (marks_in marks) c x
    same c x =
        any-filter_same (is_mark c x) (λ (mark : ℕ × Ino). not (mark.0 == client)) (not (c == client))
        (λ mark is. ap (λ (n : ℕ). not (n == client)) (sym (eqb-true c mark.0 (both (c == mark.0) (same_ino x mark.1) is).0))) marks

pub marks_given_are : (client : ℕ) (ino : Ino) (mode : Mode) (t : TenureParts) → marks_in (marks_given client ino mode t) ≡ marks_after client ino mode t.holdings (marks_in t.marks)
marks_given_are client ino mode t = go (suffices (mode_of client ino t.holdings) mode)
  where
    go : (b : Bool) → marks_in (cond b t.marks (unmark client ino t.marks)) ≡ cond b (marks_in t.marks) (unmarked client ino (marks_in t.marks))
    go true = refl
    go false = unmarked_is t.marks client ino

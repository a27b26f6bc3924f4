-- What is kept by each entry that follows a journal.
use Rattle.std.proofs.Common.{◌≡◌, List, [], ◌∷◌, ◌++◌, true, refl, sym, subst, append_assoc}
use Rattle.std.proofs.lemmas.List.{append-nil}
use Rattle.plain_types.specs.declared.entry.Entry.{Entry}
use Rattle.plain_journal.specs.Legal.{is_legal, legal_after, is_journal}
use Rattle.journal_laws.proofs.Steps.{both_true, of_journals}

-- a legal entry more
legal_more : (done entries : List Entry) (e : Entry) → legal_after done entries ≡ true → is_legal (done ++ entries) e ≡ true → legal_after done (entries ++ e ∷ []) ≡ true
legal_more done [] e legal fine =
    let is : is_legal done e ≡ true = subst (λ (d : List Entry). is_legal d e ≡ true) (append-nil done) fine in
    rw is refl
legal_more done (f ∷ entries) e legal fine =
    let l = both_true (is_legal done f) (legal_after (done ++ f ∷ []) entries) legal in
    let rest = legal_more (done ++ f ∷ []) entries e l.1 (subst (λ (d : List Entry). is_legal d e ≡ true) (sym (append_assoc done (f ∷ []) entries)) fine) in
    rw (l.0, rest) refl

-- what holds at first, and is kept by each entry that may follow a journal, holds of each journal
pub of_each : (P : List Entry → Type 0) → P [] → ((done : List Entry) (e : Entry) → is_journal done ≡ true → P done → is_legal done e ≡ true → P (done ++ e ∷ [])) → (entries : List Entry) → is_journal entries ≡ true → P entries
of_each P first kept entries legal =
    (of_journals (λ (done : List Entry). (is_journal done ≡ true) × P done) (refl, first) more entries legal).1
  where
    more : (done : List Entry) (e : Entry) → (is_journal done ≡ true) × P done → is_legal done e ≡ true → (is_journal (done ++ e ∷ []) ≡ true) × P (done ++ e ∷ [])
    more done e holds fine = (legal_more [] done e holds.0 fine, kept done e holds.0 holds.1 fine)

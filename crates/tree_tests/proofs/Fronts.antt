-- The entries of a journal, one after another.
use Rattle.std.proofs.Common.{◌≡◌, ℕ, suc, ◌+◌, ◌<◌, List, [], ◌∷◌, ◌++◌, length, take, drop, get_or, true, sym, ap, ◌∙◌, subst, append_assoc, take-append-drop, drop-cons}
use Rattle.std.proofs.lemmas.List.{append-nil, take_more}
use Rattle.plain_types.specs.declared.entry.Entry.{Entry}
use Rattle.plain_journal.specs.Legal.{is_legal, legal_after, is_journal}
use Rattle.journal_laws.proofs.Steps.{both_true}
use Rattle.meta_state.specs.Stands.{Tables, StandsFor, MayFollow}

legal_at : (done xs : List Entry) (y : Entry) (ys : List Entry) → legal_after done (xs ++ y ∷ ys) ≡ true → is_legal (done ++ xs) y ≡ true
legal_at done [] y ys legal =
    subst (λ (d : List Entry). is_legal d y ≡ true) (sym (append-nil done)) (both_true (is_legal done y) (legal_after (done ++ y ∷ []) ys) legal).0
legal_at done (x ∷ xs) y ys legal =
    subst (λ (d : List Entry). is_legal d y ≡ true) (append_assoc done (x ∷ []) xs)
    (legal_at (done ++ x ∷ []) xs y ys (both_true (is_legal done x) (legal_after (done ++ x ∷ []) (xs ++ y ∷ ys)) legal).1)

module _ (entries : List Entry) (i : ℕ) (e : Entry) (within : i < length entries) (is : e ≡ get_or entries i e) (journal : is_journal entries ≡ true) where
  legal_next : is_legal (take i entries) e ≡ true
  legal_next =
      let split : entries ≡ take i entries ++ get_or entries i e ∷ drop (suc i) entries = sym (take-append-drop i entries) ∙ ap (λ (d : List Entry). take i entries ++ d) (drop-cons entries i e within) in
      subst (λ (x : Entry). is_legal (take i entries) x ≡ true) (sym is)
      (legal_at [] (take i entries) (get_or entries i e) (drop (suc i) entries) (subst (λ (es : List Entry). legal_after [] es ≡ true) split journal))

  -- the next one may follow
  pub may_next : (tables : Tables) → StandsFor tables (take i entries) → MayFollow tables e
  may_next tables stands = record { entries = take i entries; stands = stands; legal = legal_next }

  -- after it the tables stand for one more
  pub stands_next : (tables new : Tables) → StandsFor tables (take i entries) → ((done : List Entry) → StandsFor tables done → is_legal done e ≡ true → StandsFor new (done ++ e ∷ [])) → StandsFor new (take (i + 1) entries)
  stands_next tables new stands applied =
      subst (StandsFor new) (ap (λ (x : Entry). take i entries ++ x ∷ []) is ∙ sym (take_more entries i e within)) (applied (take i entries) stands legal_next)

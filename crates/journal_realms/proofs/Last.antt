-- The last id of both vocabularies.
use Rattle.std.proofs.Common.{◌≡◌, List, [], ◌∷◌, ◌++◌, true, refl, sym, ap, ◌∙◌}
use Rattle.plain_types.specs.declared.entry.Entry.{Entry}
use Rattle.plain_journal.specs.Entries.{state_after, applied_by, applied}
use Rattle.plain_journal.specs.Legal.{is_legal, is_journal}
use Rattle.realm_story.specs.Family.{Family}
use Rattle.journal_laws.proofs.Steps.{of_journals}
use Rattle.journal_realms.specs.Told.{family_of}
use Rattle.journal_realms.proofs.Family.{family_more, applied_more, told_applied}

pub same_applied : (entries : List Entry) → is_journal entries ≡ true → (family_of entries).applied.0 ≡ applied entries
same_applied entries legal = of_journals (λ (done : List Entry). (family_of done).applied.0 ≡ applied done) refl more entries legal
  where
    more : (done : List Entry) (e : Entry) → (family_of done).applied.0 ≡ applied done → is_legal done e ≡ true → (family_of (done ++ e ∷ [])).applied.0 ≡ applied (done ++ e ∷ [])
    more done e same fine =
        ap (λ (f : Family). f.applied.0) (family_more done e)
        ∙ told_applied (state_after done) e.what (family_of done)
        ∙ ap (λ n. applied_by n e.what) same
        ∙ sym (applied_more done e)

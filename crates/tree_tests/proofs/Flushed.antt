-- The journal of a test.
use Rattle.std.proofs.Common.{◌≡◌, ℕ, List, [], ◌∷◌, true, codes, refl, sym, subst}
use Rattle.snap_ids.specs.declared.id.Ino.{Ino}
use Rattle.snap_ids.specs.declared.id.TheConstants.{ROOT}
use Rattle.plain_types.specs.declared.entry.Entry.{Entry}
use Rattle.plain_types.specs.declared.entry.What.{What}
use Rattle.plain_types.specs.declared.entry.What.TheVariants.{Mkdir, Create, Mksnap, Settle, Chmod, Release, Unlink, Barrier}
use Rattle.plain_tree.specs.Change.{is_directory}
use Rattle.plain_journal.specs.Entries.{state_after}
use Rattle.plain_journal.specs.Legal.{is_journal}
use Rattle.meta_state.specs.Stands.{Tables, StandsFor}
use Rattle.meta_state.specs.Queries.{HasDirectory}

abbrev by_one : What → Entry
by_one what = record { client = 1; number = 1; what = what }

abbrev dir : Ino
dir = record { 0 = 1099511627776 }

abbrev file : Ino
file = record { 0 = 1099511627777 }

abbrev pub flushed : List ℕ → List ℕ → List ℕ → List ℕ → List Entry
flushed a f s again =
    by_one (Mkdir ROOT a dir)
    ∷ by_one (Create dir f file 420)
    ∷ by_one (Mksnap (record { 0 = 2 }) dir s)
    ∷ by_one (Settle file (record { 0 = 1 }) (record { 0 = 2 }) 7)
    ∷ by_one (Chmod file 384)
    ∷ by_one (Release file (record { 0 = 2 }) 9)
    ∷ by_one (Unlink dir again)
    ∷ by_one (Barrier 3)
    ∷ []

-- the names of a test are those that it spells
module _ (a f s again : List ℕ) (a_is : a ≡ codes "a") (f_is : f ≡ codes "f") (s_is : s ≡ codes "s") (again_is : again ≡ codes "f") where
  spelled : flushed a f s again ≡ flushed (codes "a") (codes "f") (codes "s") (codes "f")
  spelled = λ i. flushed (a_is i) (f_is i) (s_is i) (again_is i)

  pub is_flushed : is_journal (flushed a f s again) ≡ true
  is_flushed = subst (λ (entries : List Entry). is_journal entries ≡ true) (sym spelled) refl

  pub has_directory : (tables : Tables) → StandsFor tables (flushed a f s again) → HasDirectory tables dir
  has_directory tables stands = record {
    entries = flushed a f s again;
    stands = stands;
    there = subst (λ (entries : List Entry). is_directory (state_after entries) dir ≡ true) (sym spelled) refl;
  }

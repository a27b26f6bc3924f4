-- The entries before a snapshot, after one more entry.
use Rattle.std.proofs.Common.{◌≡◌, List, [], ◌∷◌, ◌++◌, Bool, true, false, refl, sym, ap, ◌∙◌}
use Rattle.std.proofs.lemmas.List.{append-nil}
use Rattle.std.specs.Prelude.{◌||◌, if◌then◌else◌}
use Rattle.snap_ids.specs.declared.id.SnapId.{SnapId}
use Rattle.plain_types.specs.declared.entry.Entry.{Entry}
use Rattle.plain_journal.specs.Entries.{state_after, tree_at, makes_snap, before_snap}
use Rattle.journal_laws.specs.Entries.{was_made}

-- what follows the entry that makes a snapshot doesn't count
before_made : (s : SnapId) (entries more : List Entry) → was_made s entries ≡ true → before_snap s (entries ++ more) ≡ before_snap s entries
before_made s [] more made = cc
before_made s (e ∷ entries) more made = go (makes_snap s e.what) made (before_made s entries more)
  where
    go : (b : Bool) → (b || was_made s entries) ≡ true → (was_made s entries ≡ true → before_snap s (entries ++ more) ≡ before_snap s entries) → (if b then [] else e ∷ before_snap s (entries ++ more)) ≡ (if b then [] else e ∷ before_snap s entries)
    go true made rest = refl
    go false made rest = ap (λ (l : List Entry). e ∷ l) (rest made)

-- entries that don't make it all stand before
before_others : (s : SnapId) (entries more : List Entry) → was_made s entries ≡ false → before_snap s (entries ++ more) ≡ entries ++ before_snap s more
before_others s [] more none = refl
before_others s (e ∷ entries) more none = go (makes_snap s e.what) none (before_others s entries more)
  where
    go : (b : Bool) → (b || was_made s entries) ≡ false → (was_made s entries ≡ false → before_snap s (entries ++ more) ≡ entries ++ before_snap s more) → (if b then [] else e ∷ before_snap s (entries ++ more)) ≡ e ∷ (entries ++ before_snap s more)
    go true none rest = cc
    go false none rest = ap (λ (l : List Entry). e ∷ l) (rest none)

-- a snapshot that was made keeps its tree
pub tree_stays : (entries : List Entry) (e : Entry) (s : SnapId) → was_made s entries ≡ true → tree_at (entries ++ e ∷ []) s ≡ tree_at entries s
tree_stays entries e s made = ap state_after (before_made s entries (e ∷ []) made)

-- the tree of what wasn't made is that of now
pub tree_now : (entries : List Entry) (s : SnapId) → was_made s entries ≡ false → tree_at entries s ≡ state_after entries
tree_now entries s none = ap state_after (ap (before_snap s) (sym (append-nil entries)) ∙ before_others s entries [] none ∙ append-nil entries)

-- the tree of what is made now is that before
pub tree_made : (entries : List Entry) (e : Entry) (s : SnapId) → was_made s entries ≡ false → makes_snap s e.what ≡ true → tree_at (entries ++ e ∷ []) s ≡ state_after entries
tree_made entries e s none makes = ap state_after (before_others s entries (e ∷ []) none ∙ ap (λ (l : List Entry). entries ++ l) (first (makes_snap s e.what) makes) ∙ append-nil entries)
  where
    first : (b : Bool) → b ≡ true → (if b then [] else e ∷ []) ≡ []
    first true is = refl
    first false is = cc

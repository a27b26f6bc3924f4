-- How many inodes there are, and the last barrier, after one more entry.
use Rattle.std.proofs.Common.{◌≡◌, ℕ, ◌+◌, List, [], ◌∷◌, ◌++◌, length, true, refl, ap, ◌∙◌, arith, length-append}
use Rattle.std.proofs.lemmas.List.{length-map}
use Rattle.std.proofs.lemmas.List.Sums.{fold-append}
use Rattle.plain_types.specs.declared.change.Change.TheVariants as change
use Rattle.plain_types.specs.declared.entry.Entry.{Entry}
use Rattle.plain_types.specs.declared.entry.What.{What}
use Rattle.plain_types.specs.declared.entry.What.TheVariants as what
use Rattle.plain_tree.specs.State.{State, Inode, new_directory}
use Rattle.plain_tree.specs.Change.{new_file}
use Rattle.plain_journal.specs.Entries.{change_in, with_change, state_after}
use Rattle.plain_journal.specs.Legal.{is_made_by, fits, is_legal}
use Rattle.plain_journal.specs.Table.{barrier_by, barrier}
use Rattle.journal_laws.proofs.Steps.{both_true, state_more}
use Rattle.journal_names.proofs.Facts.{is_made}
use Rattle.journal_names.proofs.Inodes.{steady_inodes}

-- how many inodes an entry makes
abbrev pub made_by : What → ℕ
made_by (what.Mkdir dir name ino) = 1
made_by (what.Create dir name ino mode) = 1
made_by w = 0

plus_none : (a b n : ℕ) → a ≡ b → n ≡ 0 → a ≡ b + n
plus_none a b n same none = omega arith

counted : (state : State) (client : ℕ) (w : What) → is_made_by state client (change_in w) ≡ true → length (with_change state client (change_in w)).inodes ≡ length state.inodes + made_by w
counted state client (what.Mkdir dir name ino) made =
    ap (λ (s : State). length s.inodes) (is_made state client (change.Mkdir dir name ino) made) ∙ length-append state.inodes (new_directory ino ∷ [])
counted state client (what.Create dir name ino mode) made =
    ap (λ (s : State). length s.inodes) (is_made state client (change.Create dir name ino mode) made) ∙ length-append state.inodes (new_file ino mode ∷ [])
counted state client (what.Chmod ino mode) made =
    plus_none _ _ 0 (ap (λ (s : State). length s.inodes) (is_made state client (change.Chmod ino mode) made) ∙ length-map state.inodes _) refl
counted state client w made = plus_none _ _ (made_by w) (ap (λ (inodes : List Inode). length inodes) (steady_inodes state client (change_in w) refl)) refl

pub inodes_more : (entries : List Entry) (e : Entry) (w : What) → e.what ≡ w → is_legal entries e ≡ true → length (state_after (entries ++ e ∷ [])).inodes ≡ length (state_after entries).inodes + made_by w
inodes_more entries e w is legal =
    ap (λ (s : State). length s.inodes) (state_more entries e)
    ∙ counted (state_after entries) e.client e.what (both_true (is_made_by (state_after entries) e.client (change_in e.what)) (fits entries e.what) legal).0
    ∙ ap (λ (v : What). length (state_after entries).inodes + made_by v) is

pub barrier_more : (entries : List Entry) (e : Entry) (w : What) → e.what ≡ w → barrier (entries ++ e ∷ []) ≡ barrier_by (barrier entries) w
barrier_more entries e w is = fold-append (λ before (x : Entry). barrier_by before x.what) 0 entries (e ∷ []) ∙ ap (barrier_by (barrier entries)) is

pub length_more : (entries : List Entry) (e : Entry) → length (entries ++ e ∷ []) ≡ length entries + 1
length_more entries e = length-append entries (e ∷ [])

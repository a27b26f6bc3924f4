-- After every journal the ways of the story are tied to the names of the plain tree.
use Rattle.std.proofs.Common.{◌≡◌, List, [], ◌∷◌, ◌++◌, Bool, true, false, cond, ◌||◌, refl, sym, ap, ◌∙◌, subst, arith}
use Rattle.std.proofs.lemmas.Bool.{eqb-true}
use Rattle.snap_ids.specs.declared.id.Ino.{Ino}
use Rattle.snap_ids.specs.declared.values.Kind.TheVariants.{Dir, File}
use Rattle.snap_ids.specs.declared.id.TheConstants.{ROOT}
use Rattle.plain_types.specs.declared.entry.Entry.{Entry}
use Rattle.plain_types.specs.declared.entry.What.{What}
use Rattle.plain_types.specs.declared.entry.What.TheVariants as what
use Rattle.plain_tree.specs.State.{State, next_ino}
use Rattle.plain_tree.specs.State.{start as empty}
use Rattle.plain_journal.specs.Entries.{change_in, after_entry, state_after}
use Rattle.plain_journal.specs.Legal.{is_made_by, fits, is_legal, is_journal}
use Rattle.realm_story.specs.Family.{Family, same_ino, above_by, member}
use Rattle.plain_tree.specs.Change.{is_directory}
use Rattle.realm_story.proofs.Facts.{both_of, same_sym}
use Rattle.journal_laws.proofs.Steps.{of_journals, state_more}
use Rattle.journal_realms.specs.Above.{LeadsUp}
use Rattle.journal_realms.specs.Told.{family_of}
use Rattle.journal_realms.proofs.Family.{family_more}
use Rattle.journal_realms.proofs.Tree.{IsTree}
use Rattle.journal_realms.proofs.Chains.{folder_chain}
use Rattle.journal_realms.proofs.Kept.{IsNext, folder_of, tree_step}

-- the ways of the story are tied to the names of the plain tree
abbrev pub Tied : List Entry → Type 0
Tied done = IsTree (state_after done).entries (state_after done).inodes (family_of done).members

first_tree : IsTree [] empty.inodes []
first_tree = record {
  once = tt;
  dirs = tt;
  some = omega arith;
  named = λ x none. refl;
  high = λ x is. cc;
  low = λ x is. cc;
  files = λ x is inside. cc;
  globals = λ x is inside. cc;
  ways = λ x is outside. cc;
  few = λ x outside. omega arith;
  placed = λ x is kind. cc;
  kept = λ x made kind. root_kind (same_ino ROOT x) kind;
  made = λ x is. ap (λ (b : Bool). b || false) (same_sym ROOT x) ∙ is;
}
  where
    root_kind : (b : Bool) → cond b Dir Dir ≡ File → false ≡ true
    root_kind true kind = cc
    root_kind false kind = cc

-- the number of a new inode fits
pub next_of : (done : List Entry) (w : What) → fits done w ≡ true → IsNext (state_after done) w
next_of done (what.Mkdir dir name ino) fine = eqb-true ino.0 (next_ino (state_after done)).0 fine
next_of done (what.Create dir name ino mode) fine = eqb-true ino.0 (next_ino (state_after done)).0 fine
next_of done w fine = tt

pub tied_step : (done : List Entry) (e : Entry) → Tied done → is_legal done e ≡ true → Tied (done ++ e ∷ [])
tied_step done e tied fine =
    let l = both_of (is_made_by (state_after done) e.client (change_in e.what)) (fits done e.what) fine in
    subst (λ (s : State). IsTree s.entries s.inodes (family_of (done ++ e ∷ [])).members) (sym (state_more done e))
    (subst (λ (f : Family). IsTree (after_entry (state_after done) e).entries (after_entry (state_after done) e).inodes f.members) (sym (family_more done e))
    (tree_step (state_after done) e.client (family_of done) tied e.what l.0 (next_of done e.what l.1)))

pub tied_after : (entries : List Entry) → is_journal entries ≡ true → Tied entries
tied_after entries legal = of_journals Tied first_tree tied_step entries legal

-- the way above a directory that is there is the chain of its parents
pub leads_above : (entries : List Entry) → is_journal entries ≡ true → (dir : Ino) → is_directory (state_after entries) dir ≡ true → LeadsUp (state_after entries).entries dir (above_by (member (family_of entries).members dir))
leads_above entries legal dir is =
    let tied = tied_after entries legal in
    folder_chain (state_after entries).entries (state_after entries).inodes (family_of entries).members tied dir
    (folder_of (state_after entries) 0 (family_of entries) tied dir is)

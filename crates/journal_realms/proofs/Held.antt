-- Files that were made and directories that are there are members of the story.
use Rattle.std.proofs.Common.{◌≡◌, List, Bool, true, false, cond, ◌⊎◌, inl, inr, refl, sym, ap, ◌∙◌}
use Rattle.snap_ids.specs.declared.id.Ino.{Ino}
use Rattle.snap_ids.specs.declared.id.TheConstants.{ROOT}
use Rattle.plain_types.specs.declared.entry.Entry.{Entry}
use Rattle.plain_tree.specs.State.{kind_in}
use Rattle.plain_tree.specs.Change.{is_directory}
use Rattle.plain_journal.specs.Entries.{state_after}
use Rattle.plain_journal.specs.Coverage.{is_made}
use Rattle.plain_journal.specs.Legal.{is_made_file, is_journal}
use Rattle.realm_story.specs.Family.{same_ino, member, is_member, birth_of}
use Rattle.journal_realms.specs.Above.{is_held, birth_at}
use Rattle.journal_realms.specs.Told.{family_of}
use Rattle.journal_realms.proofs.Tree.{of_folder}
use Rattle.journal_realms.proofs.Kept.{file_is, folder_of}
use Rattle.journal_realms.proofs.Trees.{tied_after}
use Rattle.journal_realms.proofs.Births.{births_of}

pub held_member : (entries : List Entry) → is_journal entries ≡ true → (x : Ino) → is_held (state_after entries) x ≡ true → (x ≡ ROOT) ⊎ (is_member (member (family_of entries).members x) ≡ true)
held_member entries legal x held = go (is_made_file (state_after entries) x) refl held
  where
    go : (b : Bool) → is_made_file (state_after entries) x ≡ b → cond b true (is_directory (state_after entries) x) ≡ true → (x ≡ ROOT) ⊎ (is_member (member (family_of entries).members x) ≡ true)
    go true file held =
        let l = file_is (kind_in (state_after entries).inodes x) (is_made (state_after entries) x) file in
        inr ((tied_after entries legal).kept x l.1 l.0)
    go false other there =
        of_folder (state_after entries).entries (state_after entries).inodes (family_of entries).members (tied_after entries legal) x
        (folder_of (state_after entries) 0 (family_of entries) (tied_after entries legal) x there)

pub same_births : (entries : List Entry) → is_journal entries ≡ true → (x : Ino) → is_held (state_after entries) x ≡ true → same_ino x ROOT ≡ false → (birth_of (family_of entries) x).0 ≡ birth_at entries x
same_births entries legal x held other = go (held_member entries legal x held)
  where
    go : (x ≡ ROOT) ⊎ (is_member (member (family_of entries).members x) ≡ true) → (birth_of (family_of entries) x).0 ≡ birth_at entries x
    go (inl root) =
        let never : true ≡ false = ap (λ (y : Ino). same_ino y ROOT) (sym root) ∙ other in
        cc
    go (inr there) = (births_of entries legal x there).1

-- The dead files of both are the same.
use Rattle.std.proofs.Common.{◌≡◌, ℕ, suc, arith, Bool, true, false, not, ◌==◌, ◌&&◌, cond, List, [], ◌∷◌, length, map, filter, refl, sym, ap, ◌∙◌}
use Rattle.snap_ids.specs.declared.id.Ino.{Ino}
use Rattle.snap_ids.specs.declared.values.Kind.{Kind}
use Rattle.snap_ids.specs.declared.values.Kind.TheVariants.{Dir, File}
use Rattle.plain_tree.specs.State.{State, Inode, Entry}
use Rattle.plain_tree.specs.Walk.{names_of}
use Rattle.plain_journal.specs.Table.{is_unused}
use Rattle.plain_journal.specs.Table.{is_dead as is_dead_inode}
use Rattle.file_uses.specs.declared.files.FileUse.{FileUse}
use Rattle.file_uses.specs.Handles.{is_open}
use Rattle.file_uses.specs.Uses.{is_dead}
use Rattle.file_uses.proofs.Deaths.{picked, before, picked_first}
use Rattle.journal_uses.specs.Stands.{is_regular, use_in}

suc_off : (n : ℕ) → (suc n == 0) ≡ false
suc_off n = grind arith

module _ (state : State) (collected : Ino → Bool) where
  -- no entry names it, and no handle holds it open
  unused_by : (names : List Entry) (ino : Ino) → names_of state.entries ino ≡ names → is_unused state ino ≡ ((length names == 0) && not (is_open state.handles ino.0))
  unused_by [] ino is = rw is refl
  unused_by (name ∷ names) ino is = rw is (ap (λ b. b && not (is_open state.handles ino.0)) (sym (suc_off (length names))))

  abbrev files : List Inode → List (ℕ × FileUse)
  files inodes = map (use_in state collected) (filter is_regular inodes)

  abbrev left : List Inode → List Ino
  left inodes = filter (λ ino. not (collected ino)) (map (λ (inode : Inode). inode.ino) (filter (is_dead_inode state) inodes))

  left_first : (u d : Bool) (inode : Inode) (inodes : List Inode) → is_dead_inode state inode ≡ u → collected inode.ino ≡ d → left (inode ∷ inodes) ≡ cond u (cond (not d) (inode.ino ∷ left inodes) (left inodes)) (left inodes)
  left_first true true inode inodes dies gone = rw dies (rw gone refl)
  left_first true false inode inodes dies gone = rw dies (rw gone refl)
  left_first false d inode inodes dies gone = rw dies refl

  same_tests : (z d o : Bool) (ino : Ino) (inos : List Ino) → before (z && not d && not o) ino inos ≡ cond (z && not o) (cond (not d) (ino ∷ inos) inos) inos
  same_tests true true true ino inos = refl
  same_tests true true false ino inos = refl
  same_tests true false true ino inos = refl
  same_tests true false false ino inos = refl
  same_tests false d o ino inos = refl

  one_dead : (kind : Kind) (inode : Inode) (inodes : List Inode) → inode.kind ≡ kind → picked (is_dead state.handles) (files inodes) ≡ left inodes → picked (is_dead state.handles) (files (inode ∷ inodes)) ≡ left (inode ∷ inodes)
  one_dead Dir inode inodes is rest =
      let none : files (inode ∷ inodes) ≡ files inodes = rw is refl in
      let lives : is_dead_inode state inode ≡ false = rw is refl in
      ap (picked (is_dead state.handles)) none ∙ rest ∙ sym (left_first false (collected inode.ino) inode inodes lives refl)
  one_dead File inode inodes is rest =
      let one : files (inode ∷ inodes) ≡ use_in state collected inode ∷ files inodes = rw is refl in
      let names = names_of state.entries inode.ino in
      let test : is_dead_inode state inode ≡ ((length names == 0) && not (is_open state.handles inode.ino.0)) = rw is (unused_by names inode.ino refl) in
      ap (picked (is_dead state.handles)) one
      ∙ picked_first (is_dead state.handles) (use_in state collected inode) (files inodes)
      ∙ same_tests (length names == 0) (collected inode.ino) (is_open state.handles inode.ino.0) inode.ino (picked (is_dead state.handles) (files inodes))
      ∙ ap (λ (inos : List Ino). cond ((length names == 0) && not (is_open state.handles inode.ino.0)) (cond (not (collected inode.ino)) (inode.ino ∷ inos) inos) inos) rest
      ∙ sym (left_first ((length names == 0) && not (is_open state.handles inode.ino.0)) (collected inode.ino) inode inodes test refl)

  pub dead_same : (inodes : List Inode) → picked (is_dead state.handles) (files inodes) ≡ left inodes
  dead_same [] = refl
  dead_same (inode ∷ inodes) = one_dead inode.kind inode inodes refl (dead_same inodes)

-- Files that get a mark, and files that are granted.
use Rattle.std.proofs.Common.{◌≡◌, ℕ, Bool, true, false, cond, nat_lt, [], ◌∷◌, if◌then◌else◌, None, Some, refl, sym, ap, ◌∙◌, arith}
use Rattle.snap_ids.specs.declared.id.Ino.{Ino}
use Rattle.snap_ids.specs.declared.id.SnapId.{SnapId}
use Rattle.snap_ids.specs.declared.values.Mode.{Mode}
use Rattle.snap_ids.specs.declared.values.Mode.TheVariants.{Write}
use Rattle.snap_ids.specs.Context.{Context}
use Rattle.held_files.specs.Files.{HeldFile, HeldFiles, is_ino, file_of, with_file, with_mark, hold, held_newly, held_again, is_write, is_writer, may_write}
use Rattle.step_table.specs.ClientState.{size_in}
use Rattle.step_table.specs.ClientTakes.{marked}

-- a held file is changed alike by two changes that agree on it
alike : (ino : Ino) (f g : HeldFile → HeldFile) (files : HeldFiles) → ((file : HeldFile) → Some file ≡ file_of ino files → f file ≡ g file)
    → with_file ino f files ≡ with_file ino g files
alike ino f g [] same = refl
alike ino f g (h ∷ files) same = by (is_ino ino h.0) (alike ino f g files) same
  where
    by : (b : Bool) → (((file : HeldFile) → Some file ≡ file_of ino files → f file ≡ g file) → with_file ino f files ≡ with_file ino g files)
        → ((file : HeldFile) → Some file ≡ cond b (Some h.1) (file_of ino files) → f file ≡ g file)
        → (if b then (h.0, f h.1) ∷ files else h ∷ with_file ino f files) ≡ (if b then (h.0, g h.1) ∷ files else h ∷ with_file ino g files)
    by true more same = λ i. (h.0, same h.1 refl i) ∷ files
    by false more same = ap (λ (l : HeldFiles). h ∷ l) (more same)

-- a change that changes no file
unchanged : (ino : Ino) (f : HeldFile → HeldFile) (files : HeldFiles) → ((file : HeldFile) → f file ≡ file) → with_file ino f files ≡ files
unchanged ino f [] same = refl
unchanged ino f (h ∷ files) same = by (is_ino ino h.0) (unchanged ino f files same)
  where
    by : (b : Bool) → with_file ino f files ≡ files → (if b then (h.0, f h.1) ∷ files else h ∷ with_file ino f files) ≡ h ∷ files
    by true more = λ i. (h.0, same h.1 i) ∷ files
    by false more = ap (λ (l : HeldFiles). h ∷ l) more

-- the mark of a file has its size
pub mark_kept : (ino : Ino) (old new : Context) (files : HeldFiles) (size : ℕ) → size ≡ size_in (file_of ino files) → nat_lt old.seq.0 new.seq.0 ≡ true
    → with_file ino (with_mark (record { follows = old.seq; upto = new.seq; size = size })) files ≡ with_file ino (marked old new) files
mark_kept ino old new files size is grows = alike ino _ (marked old new) files (λ file held.
    ap (λ (n : ℕ). with_mark (record { follows = old.seq; upto = new.seq; size = n }) file) (is ∙ ap size_in (sym held))
    ∙ sym (ap (λ b. if b then with_mark (record { follows = old.seq; upto = new.seq; size = file.size }) file else file) grows))

pub no_mark : (ino : Ino) (old new : Context) (files : HeldFiles) → nat_lt old.seq.0 new.seq.0 ≡ false → files ≡ with_file ino (marked old new) files
no_mark ino old new files same = sym (unchanged ino (marked old new) files (λ file.
    ap (λ b. if b then with_mark (record { follows = old.seq; upto = new.seq; size = file.size }) file else file) same))

same_ino : (ino : Ino) → is_ino ino ino ≡ true
same_ino ino = grind arith

-- a file that is held for Write is a writer's
pub written : (ino : Ino) (mode : Mode) (size : ℕ) (settled : SnapId) (files : HeldFiles) → mode ≡ Write → is_writer ino (hold ino mode size settled files) ≡ true
written ino mode size settled [] w = ap (λ b. may_write (cond b (Some (held_newly mode size settled)) None)) (same_ino ino) ∙ ap is_write w
written ino mode size settled (f ∷ files) w = by (is_ino ino f.0) refl (written ino mode size settled files w)
  where
    by : (b : Bool) → is_ino ino f.0 ≡ b → is_writer ino (hold ino mode size settled files) ≡ true
        → is_writer ino (if b then (f.0, held_again mode size settled f.1) ∷ files else f ∷ hold ino mode size settled files) ≡ true
    by true is more = ap (λ b. may_write (cond b (Some (held_again mode size settled f.1)) (file_of ino files))) is ∙ ap is_write w
    by false is more = ap (λ b. may_write (cond b (Some f.1) (file_of ino (hold ino mode size settled files)))) is ∙ more

-- What happens to the list of held files, and in which mode a file is held after it.
use Rattle.std.proofs.Common.{◌≡◌, ◌≤◌, ℕ, List, [], ◌∷◌, Bool, true, false, true≢false, cond, Option, None, Some, refl, sym, ap, ◌∙◌, arith}
use Rattle.std.proofs.lemmas.Bool.Decides.{nat_tests}
use Rattle.std.specs.Prelude.{fold, is_some}
use Rattle.snap_ids.specs.declared.id.Ino.{Ino}
use Rattle.snap_ids.specs.declared.id.SnapId.{SnapId}
use Rattle.snap_ids.specs.declared.values.Mode.{Mode}
use Rattle.snap_ids.specs.declared.values.Mode.TheVariants.{Read, Write}
use Rattle.plain_types.specs.declared.message.FlushMsg.{FlushMsg}
use Rattle.held_files.specs.Files.{HeldFile, HeldFiles, is_ino, file_of, with_file, without, held_newly, held_again, hold, is_held, is_writer, is_write, may_write, settled_to}
use Rattle.step_table.specs.ClientTakes.{settled_by}
use Rattle.run_laws.specs.Tenures.{Distinct}
use Rattle.run_laws.proofs.Shares.{rank, rank_in, has}

ino_sym : (a b : Ino) → is_ino a b ≡ is_ino b a
ino_sym a b = grind (arith, nat_tests)

ino_same : (a b x : Ino) → is_ino a b ≡ true → is_ino x a ≡ is_ino x b
ino_same a b x is = grind (arith, nat_tests, is)

-- the same file by another name of it
pub file_same : (a b : Ino) (files : HeldFiles) → is_ino a b ≡ true → file_of a files ≡ file_of b files
file_same a b [] is = refl
file_same a b (f ∷ files) is = by_test (is_ino a f.0) (is_ino b f.0) (ino_sym a f.0 ∙ ino_same a b f.0 is ∙ ino_sym f.0 b) (file_same a b files is)
  where
    by_test : (p q : Bool) → p ≡ q → file_of a files ≡ file_of b files → cond p (Some f.1) (file_of a files) ≡ cond q (Some f.1) (file_of b files)
    by_test p q same rest = rw (same, rest) refl

-- a change that keeps the mode
pub has_with : (x ino : Ino) (change : HeldFile → HeldFile) → ((file : HeldFile) → (change file).mode ≡ file.mode) → (files : HeldFiles) → has x (with_file ino change files) ≡ has x files
has_with x ino change keeps [] = refl
has_with x ino change keeps (f ∷ files) = by_test (is_ino ino f.0) (has_with x ino change keeps files)
  where
    here : (q : Bool) → rank_in (cond q (Some (change f.1)) (file_of x files)) ≡ rank_in (cond q (Some f.1) (file_of x files))
    here true = ap rank (keeps f.1)
    here false = refl

    there : (q : Bool) → has x (with_file ino change files) ≡ has x files → rank_in (cond q (Some f.1) (file_of x (with_file ino change files))) ≡ rank_in (cond q (Some f.1) (file_of x files))
    there true rest = refl
    there false rest = rest

    by_test : (b : Bool) → has x (with_file ino change files) ≡ has x files → has x (cond b ((f.0, change f.1) ∷ files) (f ∷ with_file ino change files)) ≡ has x (f ∷ files)
    by_test true rest = here (is_ino x f.0)
    by_test false rest = there (is_ino x f.0) rest

pub has_settled : (x : Ino) (flushes : List FlushMsg) (files : HeldFiles) → has x (fold settled_by files flushes) ≡ has x files
has_settled x [] files = refl
has_settled x (f ∷ flushes) files = has_settled x flushes (settled_by files f) ∙ by_test f.release
  where
    by_test : (b : Bool) → has x (cond b files (with_file f.ino (settled_to f.upto) files)) ≡ has x files
    by_test true = refl
    by_test false = has_with x f.ino (settled_to f.upto) (λ file. refl) files

-- a file is let go
pub not_held : (ino : Ino) (files : HeldFiles) → is_held ino files ≡ false → has ino files ≡ 0
not_held ino files none = by_file (file_of ino files) none
  where
    by_file : (o : Option HeldFile) → is_some o ≡ false → rank_in o ≡ 0
    by_file None is = refl
    by_file (Some file) is = absurd (true≢false is)

pub has_none : (ino : Ino) (files : HeldFiles) → Distinct files → has ino (without ino files) ≡ 0
has_none ino [] once = refl
has_none ino (f ∷ files) once = by_test (is_ino ino f.0) refl (has_none ino files once.1)
  where
    by_test : (b : Bool) → is_ino ino f.0 ≡ b → has ino (without ino files) ≡ 0 → has ino (cond b files (f ∷ without ino files)) ≡ 0
    by_test true is rest = ap rank_in (file_same ino f.0 files is) ∙ not_held f.0 files once.0
    by_test false is rest = rw is rest

pub has_other : (x ino : Ino) (files : HeldFiles) → is_ino x ino ≡ false → has x (without ino files) ≡ has x files
has_other x ino [] other = refl
has_other x ino (f ∷ files) other = by_test (is_ino ino f.0) refl (has_other x ino files other)
  where
    there : (q : Bool) → has x (without ino files) ≡ has x files → rank_in (cond q (Some f.1) (file_of x (without ino files))) ≡ rank_in (cond q (Some f.1) (file_of x files))
    there true rest = refl
    there false rest = rest

    differs : is_ino ino f.0 ≡ true → is_ino x f.0 ≡ false
    differs is = grind (arith, nat_tests, is, other)

    by_test : (b : Bool) → is_ino ino f.0 ≡ b → has x (without ino files) ≡ has x files → has x (cond b files (f ∷ without ino files)) ≡ has x (f ∷ files)
    by_test true is rest = rw (differs is) refl
    by_test false is rest = there (is_ino x f.0) rest

-- a file is held
pub has_hold : (x ino : Ino) (mode : Mode) (size : ℕ) (settled : SnapId) (files : HeldFiles) → has x (hold ino mode size settled files) ≡ cond (is_ino x ino) (rank mode) (has x files)
has_hold x ino mode size settled [] = by_test (is_ino x ino)
  where
    by_test : (b : Bool) → rank_in (cond b (Some (held_newly mode size settled)) None) ≡ cond b (rank mode) 0
    by_test true = refl
    by_test false = refl
has_hold x ino mode size settled (f ∷ files) = by_test (is_ino ino f.0) refl (has_hold x ino mode size settled files)
  where
    same : (q p : Bool) → is_ino x f.0 ≡ q → is_ino x ino ≡ p → q ≡ p → rank_in (cond q (Some (held_again mode size settled f.1)) (file_of x files)) ≡ cond p (rank mode) (rank_in (cond q (Some f.1) (file_of x files)))
    same true true is at e = refl
    same true false is at e = absurd (true≢false e)
    same false true is at e = absurd (true≢false (sym e))
    same false false is at e = refl

    other : (q p : Bool) → (q ≡ true → p ≡ false) → has x (hold ino mode size settled files) ≡ cond p (rank mode) (has x files) → rank_in (cond q (Some f.1) (file_of x (hold ino mode size settled files))) ≡ cond p (rank mode) (rank_in (cond q (Some f.1) (file_of x files)))
    other true p go rest = rw (go refl) refl
    other false p go rest = rest

    not_it : is_ino ino f.0 ≡ false → is_ino x f.0 ≡ true → is_ino x ino ≡ false
    not_it isnt at = grind (arith, nat_tests, isnt, at)

    by_test : (b : Bool) → is_ino ino f.0 ≡ b → has x (hold ino mode size settled files) ≡ cond (is_ino x ino) (rank mode) (has x files) → has x (cond b ((f.0, held_again mode size settled f.1) ∷ files) (f ∷ hold ino mode size settled files)) ≡ cond (is_ino x ino) (rank mode) (has x (f ∷ files))
    by_test true is rest = same (is_ino x f.0) (is_ino x ino) refl refl (sym (ino_same ino f.0 x is))
    by_test false is rest = other (is_ino x f.0) (is_ino x ino) (not_it is) rest

-- no file stands twice after it
held_with : (x ino : Ino) (change : HeldFile → HeldFile) (files : HeldFiles) → is_held x (with_file ino change files) ≡ is_held x files
held_with x ino change [] = refl
held_with x ino change (f ∷ files) = by_test (is_ino ino f.0) (held_with x ino change files)
  where
    here : (q : Bool) → is_some (cond q (Some (change f.1)) (file_of x files)) ≡ is_some (cond q (Some f.1) (file_of x files))
    here true = refl
    here false = refl

    there : (q : Bool) → is_held x (with_file ino change files) ≡ is_held x files → is_some (cond q (Some f.1) (file_of x (with_file ino change files))) ≡ is_some (cond q (Some f.1) (file_of x files))
    there true rest = refl
    there false rest = rest

    by_test : (b : Bool) → is_held x (with_file ino change files) ≡ is_held x files → is_held x (cond b ((f.0, change f.1) ∷ files) (f ∷ with_file ino change files)) ≡ is_held x (f ∷ files)
    by_test true rest = here (is_ino x f.0)
    by_test false rest = there (is_ino x f.0) rest

pub distinct_with : (ino : Ino) (change : HeldFile → HeldFile) (files : HeldFiles) → Distinct files → Distinct (with_file ino change files)
distinct_with ino change [] once = tt
distinct_with ino change (f ∷ files) once = by_test (is_ino ino f.0) (distinct_with ino change files once.1)
  where
    by_test : (b : Bool) → Distinct (with_file ino change files) → Distinct (cond b ((f.0, change f.1) ∷ files) (f ∷ with_file ino change files))
    by_test true rest = once
    by_test false rest = (held_with f.0 ino change files ∙ once.0, rest)

pub distinct_settled : (flushes : List FlushMsg) (files : HeldFiles) → Distinct files → Distinct (fold settled_by files flushes)
distinct_settled [] files once = once
distinct_settled (f ∷ flushes) files once = distinct_settled flushes (settled_by files f) (by_test f.release)
  where
    by_test : (b : Bool) → Distinct (cond b files (with_file f.ino (settled_to f.upto) files))
    by_test true = once
    by_test false = distinct_with f.ino (settled_to f.upto) files once

split_none : (x : Ino) (f : Ino × HeldFile) (files : HeldFiles) → is_held x (f ∷ files) ≡ false → (is_ino x f.0 ≡ false) × (is_held x files ≡ false)
split_none x f files none = by_test (is_ino x f.0) refl none
  where
    by_test : (q : Bool) → is_ino x f.0 ≡ q → is_some (cond q (Some f.1) (file_of x files)) ≡ false → (is_ino x f.0 ≡ false) × (is_held x files ≡ false)
    by_test true is none = absurd (true≢false none)
    by_test false is none = (is, none)

held_without : (x ino : Ino) (files : HeldFiles) → is_held x files ≡ false → is_held x (without ino files) ≡ false
held_without x ino [] none = refl
held_without x ino (f ∷ files) none = let parts = split_none x f files none in by_test (is_ino ino f.0) parts.0 parts.1 (held_without x ino files parts.1)
  where
    by_test : (b : Bool) → is_ino x f.0 ≡ false → is_held x files ≡ false → is_held x (without ino files) ≡ false → is_held x (cond b files (f ∷ without ino files)) ≡ false
    by_test true isnt none rest = none
    by_test false isnt none rest = rw isnt rest

pub distinct_without : (ino : Ino) (files : HeldFiles) → Distinct files → Distinct (without ino files)
distinct_without ino [] once = tt
distinct_without ino (f ∷ files) once = by_test (is_ino ino f.0) (distinct_without ino files once.1)
  where
    by_test : (b : Bool) → Distinct (without ino files) → Distinct (cond b files (f ∷ without ino files))
    by_test true rest = once.1
    by_test false rest = (held_without f.0 ino files once.0, rest)

held_hold : (x ino : Ino) (mode : Mode) (size : ℕ) (settled : SnapId) (files : HeldFiles) → is_ino x ino ≡ false → is_held x files ≡ false → is_held x (hold ino mode size settled files) ≡ false
held_hold x ino mode size settled [] other none = rw other refl
held_hold x ino mode size settled (f ∷ files) other none = let parts = split_none x f files none in by_test (is_ino ino f.0) parts.0 parts.1 (held_hold x ino mode size settled files other parts.1)
  where
    by_test : (b : Bool) → is_ino x f.0 ≡ false → is_held x files ≡ false → is_held x (hold ino mode size settled files) ≡ false → is_held x (cond b ((f.0, held_again mode size settled f.1) ∷ files) (f ∷ hold ino mode size settled files)) ≡ false
    by_test true isnt none rest = rw isnt none
    by_test false isnt none rest = rw isnt rest

pub distinct_hold : (ino : Ino) (mode : Mode) (size : ℕ) (settled : SnapId) (files : HeldFiles) → Distinct files → Distinct (hold ino mode size settled files)
distinct_hold ino mode size settled [] once = (refl, tt)
distinct_hold ino mode size settled (f ∷ files) once = by_test (is_ino ino f.0) refl (distinct_hold ino mode size settled files once.1)
  where
    other : is_ino ino f.0 ≡ false → is_ino f.0 ino ≡ false
    other isnt = grind (arith, nat_tests, isnt)

    by_test : (b : Bool) → is_ino ino f.0 ≡ b → Distinct (hold ino mode size settled files) → Distinct (cond b ((f.0, held_again mode size settled f.1) ∷ files) (f ∷ hold ino mode size settled files))
    by_test true is rest = once
    by_test false is rest = (held_hold f.0 ino mode size settled files (other is) once.0, rest)

-- what the mode says
pub has_writer : (ino : Ino) (files : HeldFiles) → is_writer ino files ≡ true → has ino files ≡ 2
has_writer ino files is = by_file (file_of ino files) is
  where
    by_mode : (m : Mode) → is_write m ≡ true → rank m ≡ 2
    by_mode Write is = refl
    by_mode Read is = absurd (true≢false (sym is))

    by_file : (o : Option HeldFile) → may_write o ≡ true → rank_in o ≡ 2
    by_file None is = absurd (true≢false (sym is))
    by_file (Some file) is = by_mode file.mode is

pub has_reader : (ino : Ino) (files : HeldFiles) → is_writer ino files ≡ false → has ino files ≤ 1
has_reader ino files is = by_file (file_of ino files) is
  where
    by_mode : (m : Mode) → is_write m ≡ false → rank m ≤ 1
    by_mode Write is = absurd (true≢false is)
    by_mode Read is = omega arith

    by_file : (o : Option HeldFile) → may_write o ≡ false → rank_in o ≤ 1
    by_file None is = omega arith
    by_file (Some file) is = by_mode file.mode is

pub held_not : (ino : Ino) (files : HeldFiles) → has ino files ≡ 0 → is_held ino files ≡ false
held_not ino files none = by_file (file_of ino files) none
  where
    by_mode : (m : Mode) → rank m ≡ 0 → true ≡ false
    by_mode Read is = absurd (omega (arith, is))
    by_mode Write is = absurd (omega (arith, is))

    by_file : (o : Option HeldFile) → rank_in o ≡ 0 → is_some o ≡ false
    by_file None is = refl
    by_file (Some file) is = by_mode file.mode is

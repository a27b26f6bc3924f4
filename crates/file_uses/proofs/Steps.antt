-- What each call makes of the list of the dead files.
use Rattle.std.proofs.Common.{◌≡◌, ℕ, ◌<◌, Bool, true, false, not, ◌==◌, ◌&&◌, cond, List, Option, None, Some, IsSome, option_map, refl, sym, ap, ◌∙◌, subst, arith}
use Rattle.std.specs.Map.{lookup}
use Rattle.std.specs.Ordering.{nat_cmp}
use Rattle.std.specs.BTreeMap.{is_at}
use Rattle.std.proofs.lemmas.Bool.Decides.{nat_tests}
use Rattle.snap_ids.specs.declared.id.Ino.{Ino}
use Rattle.plain_tree.specs.State.{Handle}
use Rattle.file_uses.specs.declared.files.FileUse.{FileUse}
use Rattle.file_uses.specs.declared.handles.Opened.{Opened}
use Rattle.file_uses.specs.Handles.{opened_of, is_open}
use Rattle.file_uses.specs.Uses.{Uses, use_of, names_of, names_in, is_dead, changed, one_more, as_dropped}
use Rattle.file_uses.specs.Rising.{KeysRise, with_ino, without}
use Rattle.file_uses.proofs.Deaths.{picked, noted, absent, without_off, steady, changed_same}

-- what is known of a file in the files
abbrev pub found_in : List (ℕ × FileUse) → Ino → Option FileUse
found_in files k = lookup (is_at (nat_cmp k.0)) files

-- a file with a name, an open one and a dropped one aren't dead
pub named_lives : (handles : List Handle) (k : ℕ) (file : FileUse) → (file.names == 0) ≡ false → is_dead handles (k, file) ≡ false
named_lives handles k file named = rw named refl

and_false : (a b : Bool) → (a && b && not true) ≡ false
and_false true true = refl
and_false true false = refl
and_false false b = refl

pub open_lives : (handles : List Handle) (k : ℕ) (file : FileUse) → is_open handles k ≡ true → is_dead handles (k, file) ≡ false
open_lives handles k file is = ap (λ b. (file.names == 0) && not file.dropped && not b) is ∙ and_false (file.names == 0) (not file.dropped)

no_and : (a b : Bool) → (a && false && b) ≡ false
no_and true b = refl
no_and false b = refl

pub dropped_lives : (handles : List Handle) (k : ℕ) (file : FileUse) → is_dead handles (k, as_dropped file) ≡ false
dropped_lives handles k file = no_and (file.names == 0) (not (is_open handles k))

pub more_lives : (handles : List Handle) (k : ℕ) (file : FileUse) → is_dead handles (k, one_more file) ≡ false
more_lives handles k file = named_lives handles k (one_more file) (grind (arith, nat_tests))

-- where the open files are the same but for one, so are the dead ones
pub same_dead : (before after : List Handle) (k : Ino) → ((ino : ℕ) → (ino == k.0) ≡ false → is_open after ino ≡ is_open before ino) → (e : ℕ × FileUse) → (e.0 == k.0) ≡ false → is_dead after e ≡ is_dead before e
same_dead before after k same e off = ap (λ b. (e.1.names == 0) && not e.1.dropped && not b) (same e.0 off)

module _ (files : List (ℕ × FileUse)) (before after : List Handle) (k : Ino) (f : FileUse → FileUse) (h : FileUse) (rise : KeysRise files) (found : found_in files k ≡ Some h) (same : (ino : ℕ) → (ino == k.0) ≡ false → is_open after ino ≡ is_open before ino) where
  -- a file that isn't dead then is none of the dead
  pub raised : is_dead after (k.0, f h) ≡ false → without k (picked (is_dead before) files) ≡ picked (is_dead after) (changed k f files)
  raised lives = sym (noted (is_dead before) (is_dead after) k f (same_dead before after k same) files h false rise found lives)

  -- one that wasn't dead before is one of them if it is dead then
  either : (b : Bool) → is_dead after (k.0, f h) ≡ b → without k (picked (is_dead before) files) ≡ picked (is_dead before) files → cond b (with_ino k (picked (is_dead before) files)) (picked (is_dead before) files) ≡ picked (is_dead after) (changed k f files)
  either true is stays = sym (noted (is_dead before) (is_dead after) k f (same_dead before after k same) files h true rise found is)
  either false is stays = sym stays ∙ sym (noted (is_dead before) (is_dead after) k f (same_dead before after k same) files h false rise found is)

  pub buried : (b : Bool) → is_dead after (k.0, f h) ≡ b → is_dead before (k.0, h) ≡ false → cond b (with_ino k (picked (is_dead before) files)) (picked (is_dead before) files) ≡ picked (is_dead after) (changed k f files)
  buried b is lived = either b is (without_off k (picked (is_dead before) files) (absent (is_dead before) k files h rise found lived).0)

-- the same where no file changes
module _ (files : List (ℕ × FileUse)) (before after : List Handle) (k : Ino) (rise : KeysRise files) (same : (ino : ℕ) → (ino == k.0) ≡ false → is_open after ino ≡ is_open before ino) where
  unchanged : picked (is_dead after) (changed k (λ h. h) files) ≡ picked (is_dead after) files
  unchanged = ap (picked (is_dead after)) (changed_same k files)

  pub raised_same : (h : FileUse) → found_in files k ≡ Some h → is_dead after (k.0, h) ≡ false → without k (picked (is_dead before) files) ≡ picked (is_dead after) files
  raised_same h found lives = raised files before after k (λ h. h) h rise found same lives ∙ unchanged

  pub buried_same : (h : FileUse) (b : Bool) → found_in files k ≡ Some h → is_dead after (k.0, h) ≡ b → is_dead before (k.0, h) ≡ false → cond b (with_ino k (picked (is_dead before) files)) (picked (is_dead before) files) ≡ picked (is_dead after) files
  buried_same h b found is lived = buried files before after k (λ h. h) h rise found same b is lived ∙ unchanged

  pub missing_same : found_in files k ≡ None → picked (is_dead before) files ≡ picked (is_dead after) files
  missing_same none = sym (steady (is_dead before) (is_dead after) k (same_dead before after k same) files none)

-- a file that has a name isn't dead
pub counted_lives : (uses now : Uses) → uses ≡ now → (k : Ino) (file : FileUse) → found_in uses.files k ≡ Some file → 0 < names_of now k → is_dead uses.handles (k.0, file) ≡ false
counted_lives uses now same k file found some =
    let at : use_of now k ≡ Some file = ap (λ (u : Uses). use_of u k) (sym same) ∙ found in
    let names : 0 < file.names = subst (λ (o : Option FileUse). 0 < names_in o) at some in
    named_lives uses.handles k.0 file (grind (arith, nat_tests, names))

-- a file that is there is found
found_some : (o : Option FileUse) → IsSome o → (file : FileUse) × (o ≡ Some file)
found_some None some = cc
found_some (Some file) some = (file, refl)

pub there_found : (uses now : Uses) → uses ≡ now → (k : Ino) → IsSome (use_of now k) → (file : FileUse) × (found_in uses.files k ≡ Some file)
there_found uses now same k some = found_some (found_in uses.files k) (subst (λ (u : Uses). IsSome (use_of u k)) (sym same) some)

-- what is open under a handle, and what isn't
pub none_opened : (o : Option Handle) → None ≡ option_map opened_of o → o ≡ None
none_opened None is = refl
none_opened (Some opened) is = cc

pub some_opened : (o : Option Handle) (w : Opened) → Some w ≡ option_map opened_of o → (opened : Handle) × (o ≡ Some opened) × (opened.ino ≡ w.ino)
some_opened None w is = cc
some_opened (Some opened) w is = (opened, refl, let same : w ≡ opened_of opened = cc in ap (λ (v : Opened). v.ino) (sym same))

pub same_option : (o : Option Ino) → option_map (λ (ino : Ino). ino) o ≡ o
same_option None = refl
same_option (Some ino) = refl

-- What is to be done to the objects from an index on.
use Rattle.std.proofs.Common.{◌≡◌, ℕ, ◌+◌, ◌-◌, ◌<◌, ◌≤◌, nat_lt, true, false, Bool, List, [], ◌∷◌, ◌++◌, length, get_or, Option, None, Some, if◌then◌else◌, sym, ◌∙◌, refl, ap, subst, arith, cond}
use Rattle.std.specs.Option.{option_map, IsSome}
use Rattle.std.specs.Map.{lookup}
use Rattle.std.specs.Map.Calls.{RetainsPairs}
use Rattle.std.proofs.lemmas.List.{get_or_append_left, get_or_at, get_or_past}
use Rattle.snap_ids.specs.declared.id.SnapId.{SnapId}
use Rattle.object_clones.specs.declared.object.Change.{Change}
use Rattle.object_clones.specs.declared.object.Object.{Object}
use Rattle.object_clones.specs.declared.file.File.{File}
use Rattle.object_clones.specs.Bytes.{or_empty}
use Rattle.object_clones.specs.Objects.{next, plain, blank, bytes_shown, purged}
use Rattle.object_clones.specs.Files.{change_at, plain_or_blank, object_in}
use Rattle.object_clones.specs.Store.{object_or_blank}
use Rattle.object_clones.proofs.Clones.{if_true, if_false, not_below}

pub below : (a b : ℕ) → a < b → nat_lt a b ≡ true
below a b h = grind arith

pub change_at_from : (first : ℕ) (changes : List (Option Change)) (k : ℕ) → first ≤ k
    → change_at first changes k ≡ option_map next (get_or changes (k - first) None)
change_at_from first changes k h = if_false (nat_lt k first) None (option_map next (get_or changes (k - first) None)) (not_below k first h)

pub change_at_before : (first : ℕ) (changes : List (Option Change)) (k : ℕ) → k < first → change_at first changes k ≡ None
change_at_before first changes k h = if_true (nat_lt k first) None (option_map next (get_or changes (k - first) None)) (below k first h)

pub change_at_last : (first : ℕ) (changes : List (Option Change)) (c : Option Change) (k : ℕ) → first + length changes ≡ k
    → change_at first (changes ++ c ∷ []) k ≡ option_map next c
change_at_last first changes c k e = change_at_from first (changes ++ c ∷ []) k (omega arith)
    ∙ ap (option_map next) (get_or_at changes c [] None (k - first) (omega arith))

pub change_at_front : (first : ℕ) (changes more : List (Option Change)) (k : ℕ) → first ≤ k → k < first + length changes
    → change_at first (changes ++ more) k ≡ change_at first changes k
change_at_front first changes more k l h = change_at_from first (changes ++ more) k l
    ∙ ap (option_map next) (get_or_append_left changes more None (k - first) (omega arith))
    ∙ sym (change_at_from first changes k l)

pub change_at_past : (first : ℕ) (changes : List (Option Change)) (k : ℕ) → first + length changes ≤ k → change_at first changes k ≡ None
change_at_past first changes k h = change_at_from first changes k (omega arith)
    ∙ ap (option_map next) (get_or_past changes (k - first) None (omega arith))

pub some_from_map : (c : Option Change) → IsSome (option_map next c) → IsSome c
some_from_map None h = h
some_from_map (Some x) h = refl

-- an object that never was has no bytes
pub blank_bytes : (s : Option SnapId) → or_empty (bytes_shown s blank) ≡ []
blank_bytes None = refl
blank_bytes (Some s) = elim (nat_lt 0 s.0) as (λ b. or_empty (if b then None else None) ≡ []) [ true ↦ refl | false ↦ refl ]

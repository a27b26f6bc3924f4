-- The store's value, and what its files hold.
use Rattle.std.proofs.Common.{◌≡◌, ℕ, List, [], Option, None, Some, ◌∙◌, refl, ap}
use Rattle.std.specs.Map.{lookup}
use Rattle.std.specs.Ordering.{nat_cmp}
use Rattle.std.specs.BTreeMap.{is_at}
use Rattle.std.specs.Option.{option_map, unwrap_or}
use Rattle.std.proofs.lemmas.Map.Made.{lookup-map_values}
use Rattle.object_clones.specs.declared.object.Object.{Object}
use Rattle.object_clones.specs.declared.file.File.{File}
use Rattle.object_clones.specs.declared.files.Files.{Files}
use Rattle.object_clones.specs.Objects.{blank, plain}
use Rattle.object_clones.specs.Files.{plain_or_blank}
use Rattle.object_clones.specs.Store.{object_at, plain_file, plain_files, object_or_blank, object_among}

shown_object : (o : Option Object) → unwrap_or (option_map plain o) blank ≡ plain_or_blank o
shown_object None = refl
shown_object (Some o) = refl

shown_file : (o : Option File) (index : ℕ)
    → unwrap_or (lookup (is_at (nat_cmp index)) (unwrap_or (option_map plain_file o) [])) blank ≡ object_or_blank o index
shown_file None index = refl
shown_file (Some file) index = ap (λ o. unwrap_or o blank) (lookup-map_values plain (is_at (nat_cmp index)) file.objects.entries)
    ∙ shown_object (lookup (is_at (nat_cmp index)) file.objects.entries)

-- an object that the store shows is the one among its files
pub object_at-plain_files : (files : Files) (size : ℕ) (purged : List ℕ) (ino index : ℕ)
    → object_at (record { size = size; files = plain_files files; purged = purged }) ino index ≡ object_among files ino index
object_at-plain_files files size purged ino index =
    ap (λ o. unwrap_or (lookup (is_at (nat_cmp index)) (unwrap_or o [])) blank) (lookup-map_values plain_file (is_at (nat_cmp ino)) files.files.entries)
    ∙ shown_file (lookup (is_at (nat_cmp ino)) files.files.entries) index

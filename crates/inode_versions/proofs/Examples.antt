-- The definitions on a file that is made at 2 and changes above 3, by hand.
use Rattle.std.proofs.Common.{◌≡◌, ℕ, List, [], ◌∷◌, None, Some, refl}
use Rattle.snap_ids.specs.declared.id.SnapId.{SnapId}
use Rattle.snap_ids.specs.declared.id.TheConstants.{NOSNAP}
use Rattle.snap_ids.specs.declared.values.Kind.TheVariants.{File}
use Rattle.inode_versions.specs.declared.attr.Attr.{Attr}
use Rattle.inode_versions.specs.declared.attr.Version.{Version}
use Rattle.inode_versions.specs.Histories.{History, at_id, since_settled}
use Rattle.inode_versions.specs.Parts.{changed, settled, trimmed, unneeded}

abbrev id : ℕ → SnapId
id n = record { 0 = n }

abbrev file : ℕ → ℕ → Attr
file mode size = record { kind = File; mode = mode; size = size }

abbrev version : ℕ → ℕ → Attr → Version
version first last attr = record { valid = record { first = id first; last = id last }; attr = attr }

abbrev history : ℕ → Attr → List Version → History
history since head earlier = record { since = id since; head = head; earlier = earlier }

-- it isn't there before 2
not_yet : at_id (history 2 (file 644 0) []) (id 1) ≡ None
not_yet = refl

made : at_id (history 2 (file 644 0) []) (id 2) ≡ Some (file 644 0)
made = refl

-- a change above 3 leaves what it was at 2 and 3
change : changed (id 3) (file 600 0) (history 2 (file 644 0) []) ≡ history 4 (file 600 0) (version 2 3 (file 644 0) ∷ [])
change = refl

-- one above 1 leaves nothing
change_all : changed (id 1) (file 600 0) (history 2 (file 644 0) []) ≡ history 2 (file 600 0) []
change_all = refl

-- a size from 2 to 3 goes to the earlier version, and leaves its mode
settle_earlier : settled (id 1) (id 3) 5 (history 4 (file 600 0) (version 2 3 (file 644 0) ∷ [])) ≡ history 4 (file 600 0) (version 2 3 (file 644 5) ∷ [])
settle_earlier = refl

-- one from 4 on goes to the head
settle_head : settled (id 3) NOSNAP 9 (history 4 (file 600 0) (version 2 3 (file 644 5) ∷ [])) ≡ history 4 (file 600 9) (version 2 3 (file 644 5) ∷ [])
settle_head = refl

-- one from 3 to 4 splits both
settle_both : settled (id 2) (id 4) 7 (history 4 (file 600 0) (version 2 3 (file 644 0) ∷ [])) ≡ history 5 (file 600 0) (version 2 2 (file 644 0) ∷ version 3 3 (file 644 7) ∷ version 4 4 (file 600 7) ∷ [])
settle_both = refl

-- the head's first id stays where the head has the size
settle_same : since_settled (id 2) (id 4) 7 (file 600 7) (id 4) ≡ id 4
settle_same = refl

-- 3 needs the earlier version, 4 doesn't
trim_needed : trimmed (id 3 ∷ []) (history 4 (file 600 0) (version 2 3 (file 644 0) ∷ [])) ≡ history 4 (file 600 0) (version 2 3 (file 644 0) ∷ [])
trim_needed = refl

trim_unneeded : trimmed (id 4 ∷ []) (history 4 (file 600 0) (version 2 3 (file 644 0) ∷ [])) ≡ history 4 (file 600 0) []
trim_unneeded = refl

count : unneeded (id 4 ∷ []) (history 4 (file 600 0) (version 2 3 (file 644 0) ∷ [])) ≡ 1
count = refl

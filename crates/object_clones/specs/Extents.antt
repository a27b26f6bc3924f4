-- Extents: bytes that were written, each with the offset at which they begin.
use Rattle.std.specs.Prelude.{ℕ, ◌+◌, ◌<◌, ◌≤◌, List, [], ◌∷◌, length, fold}
use Rattle.object_log.specs.Bytes.{so_many, laid}
use Rattle.object_clones.specs.declared.extents.Extent.{Extent}

-- the byte at a place under extents that are laid over it
abbrev pub byte_over : ℕ → ℕ → List Extent → ℕ
byte_over place byte extents = fold (λ (b : ℕ) (e : Extent). laid place e.offset e.bytes.items b) byte extents

-- the byte at a place, zero where no extent is
abbrev pub byte_in : ℕ → List Extent → ℕ
byte_in place extents = byte_over place 0 extents

-- so many bytes of extents
abbrev pub bytes_of : ℕ → List Extent → List ℕ
bytes_of size extents = so_many size (λ place. byte_in place extents)

-- the extents rise from one offset up to another, don't overlap, and aren't empty
abbrev pub Rise : ℕ → ℕ → List Extent → Type 0
Rise from upto [] = from ≤ upto
Rise from upto (e ∷ es) = (from ≤ e.offset) × (0 < length e.bytes.items) × Rise (e.offset + length e.bytes.items) upto es

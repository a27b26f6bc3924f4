-- What is purged next, and how much is dropped.
use Rattle.std.specs.Prelude.{ℕ, ◌+◌, not, min, List, find, Option}
use Rattle.snap_ids.specs.declared.id.SnapId.{SnapId}
use Rattle.snap_ids.specs.Context.{is_listed}

-- the first id of a list that another list doesn't have
abbrev pub first_unsent : List SnapId → List SnapId → Option SnapId
first_unsent sent ids = find (λ id. not (is_listed id sent)) ids

-- the sum of two counts, up to the greatest that the type has
abbrev pub counted : ℕ → ℕ → ℕ
counted a b = min (a + b) 18446744073709551615

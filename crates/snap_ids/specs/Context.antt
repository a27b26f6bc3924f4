-- The context of a write, which says for which snapshots the old bytes are to be kept.
use Rattle.std.specs.Prelude.{Bool, true, false, not, ◌&&◌, ◌==◌, nat_lt, List, [], ◌∷◌}
use Rattle.std.specs.List.{list_any}
use Rattle.snap_ids.specs.declared.id.SnapId.{SnapId}

-- a sequence id and a list of ids
pub record Context : Type 0 where
  pub seq : SnapId
  pub ids : List SnapId

-- the first id, if there is one, is below another
abbrev pub begins_below : SnapId → List SnapId → Bool
begins_below id [] = true
begins_below id (next ∷ ids) = nat_lt next.0 id.0

-- the ids fall strictly
abbrev pub falls : List SnapId → Bool
falls [] = true
falls (id ∷ ids) = begins_below id ids && falls ids

-- the first id, if there is one, is above the sequence id
abbrev pub begins_above : SnapId → List SnapId → Bool
begins_above seq [] = false
begins_above seq (id ∷ ids) = nat_lt seq.0 id.0

-- the ids of a context fall strictly, and none is above its sequence id
abbrev pub is_context : Context → Bool
is_context context = falls context.ids && not (begins_above context.seq context.ids)

-- the id is listed
abbrev pub is_listed : SnapId → List SnapId → Bool
is_listed s ids = list_any (λ id. id.0 == s.0) ids

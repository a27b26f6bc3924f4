-- Which requests ask for a change.
use Rattle.std.specs.Prelude.{Bool, true, false}
use Rattle.plain_types.specs.declared.request.Request.{Request}
use Rattle.plain_types.specs.declared.request.Request.TheVariants as request

-- a request asks for a change: all but the queries, a capability and a barrier
abbrev pub is_change : Request → Bool
is_change (request.Cat path) = false
is_change (request.Stat path) = false
is_change (request.List path) = false
is_change (request.Realm path) = false
is_change (request.Clones path index) = false
is_change (request.Cap ino mode) = false
is_change (request.Barrier number) = false
is_change asked = true

-- Requests that ask for no change.
use Rattle.std.specs.Prelude.{Bool, true, false}
use Rattle.plain_types.specs.declared.request.Request.{Request}
use Rattle.plain_types.specs.declared.request.Request.TheVariants as request

-- it asks for a file, for what a path leads to, for a realm or clones, or to wait at a barrier
abbrev pub is_query : Request → Bool
is_query (request.Cap ino mode) = true
is_query (request.Cat path) = true
is_query (request.Stat path) = true
is_query (request.List path) = true
is_query (request.Realm path) = true
is_query (request.Clones path index) = true
is_query (request.Barrier number) = true
is_query asked = false

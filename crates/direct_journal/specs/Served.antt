-- Which lines are served directly: those that need neither a handle nor a file's bytes.
use Rattle.std.specs.Prelude.{Bool, true, false}
use Rattle.snap_ids.specs.Path.{Place, Live, Snaps, InSnap, place_of}
use Rattle.plain_types.specs.declared.script.Line.{Line}
use Rattle.plain_types.specs.declared.script.Line.TheVariants as line

-- the place is one of the live tree
abbrev pub is_live_place : Place → Bool
is_live_place (Live path) = true
is_live_place (Snaps dir) = false
is_live_place (InSnap dir name below) = false

-- the lines that are served; no direct history is legal for another one
abbrev pub is_served : Line → Bool
is_served (line.Mkdir path) = true
is_served (line.Rmdir path) = true
is_served (line.Create path mode) = true
is_served (line.Unlink path) = true
is_served (line.Link path target) = true
is_served (line.Rename path target) = true
is_served (line.Chmod path mode) = true
is_served (line.Stat path) = is_live_place (place_of path)
is_served (line.List path) = true
is_served (line.Realm path) = true
is_served line = false

-- The versions that a change, a settled size and a trim leave of an inode.
use Rattle.std.specs.Prelude.{ℕ, ◌+◌, not, ◌||◌, ◌==◌, nat_lt, nat_le, min, max, List, [], ◌∷◌, ◌++◌, if◌then◌else◌, filter, Option, None, Some}
use Rattle.std.specs.List.{flat_map, count_by}
use Rattle.snap_ids.specs.declared.id.SnapId.{SnapId}
use Rattle.snap_ids.specs.declared.id.TheConstants.{NOSNAP}
use Rattle.inode_versions.specs.declared.attr.Attr.{Attr}
use Rattle.inode_versions.specs.declared.attr.Version.{Version}
use Rattle.inode_versions.specs.Histories.{History, with_size, since_changed, since_settled, is_needed}

-- the attribute of a version, if there is one and it begins by an id
abbrev pub begun : SnapId → Option Version → Option Attr
begun s None = None
begun s (Some version) = if nat_le version.valid.first.0 s.0 then Some version.attr else None

-- a version from a first to a last id, if there is an id between them
abbrev pub part : ℕ → ℕ → Attr → List Version
part first last attr = if nat_le first last then (record { valid = record { first = record { 0 = first }; last = record { 0 = last } }; attr = attr } ∷ []) else []

-- the head's versions before an id
abbrev pub head_before : SnapId → History → List Version
head_before follows history = part history.since.0 follows.0 history.head

-- an inode with another head at the ids above `follows`
abbrev pub changed : SnapId → Attr → History → History
changed follows attr history = record {
  since = since_changed follows history.since;
  head = attr;
  earlier = history.earlier ++ head_before follows history;
}

-- a version before, among and behind the ids that get a size
abbrev pub parts : SnapId → SnapId → ℕ → Version → List Version
parts follows upto size version =
    part version.valid.first.0 (min version.valid.last.0 follows.0) version.attr
    ++ (part (max version.valid.first.0 (follows.0 + 1)) (min version.valid.last.0 upto.0) (with_size size version.attr)
    ++ part (max version.valid.first.0 (upto.0 + 1)) version.valid.last.0 version.attr)

-- the same, in one piece where the version has the size
abbrev pub settled_parts : SnapId → SnapId → ℕ → Version → List Version
settled_parts follows upto size version = if version.attr.size == size then version ∷ [] else parts follows upto size version

-- the head's versions before the ids above which it stays, in two pieces where it gets the size between
abbrev pub head_parts : SnapId → SnapId → ℕ → History → List Version
head_parts follows upto size history =
    if (history.head.size == size) || nat_lt upto.0 history.since.0 then []
    else head_before follows history
    ++ (if nat_lt upto.0 NOSNAP.0 then part (max history.since.0 (follows.0 + 1)) upto.0 (with_size size history.head) else [])

-- the head, with the size where the ids reach it
abbrev pub head_settled : SnapId → ℕ → Attr → Attr
head_settled upto size head = if nat_lt upto.0 NOSNAP.0 then head else with_size size head

-- an inode with another size at the ids above `follows` and up to `upto`
abbrev pub settled : SnapId → SnapId → ℕ → History → History
settled follows upto size history = record {
  since = since_settled follows upto size history.head history.since;
  head = head_settled upto size history.head;
  earlier = flat_map (settled_parts follows upto size) history.earlier ++ head_parts follows upto size history;
}

-- an inode without the earlier versions that no id of a list needs
abbrev pub trimmed : List SnapId → History → History
trimmed live history = record { since = history.since; head = history.head; earlier = filter (is_needed live) history.earlier }

-- how many these are
abbrev pub unneeded : List SnapId → History → ℕ
unneeded live history = count_by (λ version. not (is_needed live version)) history.earlier

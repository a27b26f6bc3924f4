-- Small scripts, and what the grammar gives of them.
use Rattle.std.specs.Prelude.{ℕ, List, [], ◌∷◌, ◌++◌, codes, true, None, Some}
use Rattle.plain_types.specs.declared.history.Step.TheVariants as step
use Rattle.plain_types.specs.declared.script.Line.{Line}
use Rattle.plain_types.specs.declared.script.Line.TheVariants as line
use Rattle.plain_types.specs.declared.script.Planned.{Planned}
use Rattle.plain_types.specs.declared.script.Planned.TheVariants.{Make, Drain, All, Ops}
use Rattle.plain_types.specs.declared.script.Script.{Script}

-- the bytes of some lines, each ended by a line feed
abbrev pub text_of : List (List ℕ) → List ℕ
text_of [] = []
text_of (line ∷ lines) = line ++ 10 ∷ text_of lines

-- the script of so many clients with these lines and this schedule, in so many lines of the input
abbrev pub script_of : ℕ → List (ℕ × Line) → List (ℕ × Planned) → ℕ → Script
script_of clients lines schedule input_lines =
    record { clients = clients; object = None; restarts = []; lines = lines; schedule = schedule; input_lines = input_lines }

-- a directory gets a snapshot, and then a directory in it; the snapshot is listed, and then the directory
abbrev pub snapshot_lines : List (List ℕ)
snapshot_lines =
    codes "clients 1"
    ∷ codes "1 mkdir /a"
    ∷ codes "1 mkdir /a/.snap/s"
    ∷ codes "1 mkdir /a/b"
    ∷ codes "1 ls /a/.snap/s"
    ∷ codes "1 ls /a"
    ∷ codes "schedule"
    ∷ codes "all"
    ∷ []

-- what these lines ask, in their order
abbrev pub snapshot_asked : List (ℕ × Line)
snapshot_asked =
    (1, line.Mkdir (codes "a" ∷ []))
    ∷ (1, line.Mkdir (codes "a" ∷ codes ".snap" ∷ codes "s" ∷ []))
    ∷ (1, line.Mkdir (codes "a" ∷ codes "b" ∷ []))
    ∷ (1, line.List (codes "a" ∷ codes ".snap" ∷ codes "s" ∷ []))
    ∷ (1, line.List (codes "a" ∷ []))
    ∷ []

-- the script of these lines
abbrev pub snapshot_script : Script
snapshot_script = script_of 1 snapshot_asked ((8, All) ∷ []) 8

-- comments, an empty line, lines that end as on other systems, an object size and restarts
abbrev pub dressed_lines : List (List ℕ)
dressed_lines =
    codes "# two writers"
    ∷ []
    ∷ (codes "clients 2" ++ 13 ∷ [])
    ∷ codes "objsize 64"
    ∷ codes "restart 3 0"
    ∷ (codes "restart 4 4294967295" ++ 13 ∷ [])
    ∷ codes "# the lines"
    ∷ codes "2 open 64 /a/f w"
    ∷ codes "1 create /a/f 0644"
    ∷ []

-- the script of these lines
abbrev pub dressed_script : Script
dressed_script = record {
  clients = 2;
  object = Some 64;
  restarts = (3, 0) ∷ (4, 4294967295) ∷ [];
  lines = (2, line.Open 64 (codes "a" ∷ codes "f" ∷ []) true) ∷ (1, line.Create (codes "a" ∷ codes "f" ∷ []) 420) ∷ [];
  schedule = [];
  input_lines = 9;
}

-- each kind of line of a schedule
abbrev pub planned_lines : List (List ℕ)
planned_lines =
    codes "clients 2"
    ∷ codes "schedule"
    ∷ codes "op 1"
    ∷ codes "flush 2"
    ∷ codes "commit"
    ∷ codes "tend"
    ∷ codes "restart 7"
    ∷ codes "take 1 server"
    ∷ codes "take 2 store"
    ∷ codes "take server 2"
    ∷ codes "take server store"
    ∷ codes "take store 1"
    ∷ codes "take store server"
    ∷ codes "# and then"
    ∷ codes "drain"
    ∷ codes "ops 2 10"
    ∷ codes "all"
    ∷ []

-- the script of these lines
abbrev pub planned_script : Script
planned_script =
    script_of 2 []
    ((3, Make (step.Op 1))
    ∷ (4, Make (step.Flush 2))
    ∷ (5, Make step.Commit)
    ∷ (6, Make step.Tend)
    ∷ (7, Make (step.Restart 7))
    ∷ (8, Make (step.ClientFromServer 1))
    ∷ (9, Make (step.ClientFromStore 2))
    ∷ (10, Make (step.ServerTakes 2))
    ∷ (11, Make (step.ServerTakes 3))
    ∷ (12, Make (step.StoreTakes 1))
    ∷ (13, Make (step.StoreTakes 0))
    ∷ (15, Drain)
    ∷ (16, Ops 2 10)
    ∷ (17, All)
    ∷ [])
    17

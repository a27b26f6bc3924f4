-- A small run, and its text in each form.
use Rattle.std.specs.Prelude.{ℕ, false, List, [], ◌∷◌, ◌++◌, codes, None}
use Rattle.snap_ids.specs.declared.values.Kind.TheVariants.{Dir}
use Rattle.plain_types.specs.declared.answer.Answer.{Answer}
use Rattle.plain_types.specs.declared.answer.Answer.TheVariants.{Done, Snap, Listed}
use Rattle.plain_types.specs.declared.history.Event.{Event}
use Rattle.plain_types.specs.declared.history.Replied.{Replied}
use Rattle.plain_types.specs.declared.history.Step.{Step}
use Rattle.plain_types.specs.declared.history.Step.TheVariants as step
use Rattle.plain_types.specs.declared.script.Line.TheVariants as line
use Rattle.plain_types.specs.declared.script.Script.{Script}

-- some lines, each ended by a line feed
abbrev pub text_of : List (List ℕ) → List ℕ
text_of [] = []
text_of (line ∷ lines) = line ++ codes "\n" ++ text_of lines

-- a directory gets a snapshot and then a directory; the snapshot is listed, and then the directory
abbrev pub small_script : Script
small_script = record {
  clients = 1;
  object = None;
  restarts = [];
  lines =
      (1, line.Mkdir (codes "a" ∷ []))
      ∷ (1, line.Mkdir (codes "a" ∷ codes ".snap" ∷ codes "s" ∷ []))
      ∷ (1, line.Mkdir (codes "a" ∷ codes "b" ∷ []))
      ∷ (1, line.List (codes "a" ∷ codes ".snap" ∷ codes "s" ∷ []))
      ∷ (1, line.List (codes "a" ∷ []))
      ∷ [];
  schedule = [];
  input_lines = 6;
}

-- client 1's reply to a line
abbrev pub replied : ℕ → Answer → Replied
replied number answer = record { client = 1; line = number; changed = false; entry = 0; answer = answer }

-- an event of a node with some replies
abbrev pub event : ℕ → Step → List Replied → Event
event node made replies = record { node = node; step = made; taken = None; sent = []; effects = []; replies = replies }

-- some of the events of its run, its replies among them
abbrev pub small_history : List Event
small_history =
    event 1 (step.Op 1) []
    ∷ event 0 (step.ServerTakes 1) []
    ∷ event 0 step.Commit []
    ∷ event 1 (step.ClientFromServer 1) (replied 1 Done ∷ [])
    ∷ event 1 (step.ClientFromServer 1) (replied 2 (Snap (record { 0 = 2 })) ∷ replied 3 Done ∷ [])
    ∷ event 1 (step.ClientFromStore 1) (replied 4 (Listed []) ∷ [])
    ∷ event 2 (step.StoreTakes 1) (replied 5 (Listed ((codes "b", Dir) ∷ [])) ∷ [])
    ∷ event 0 (step.ServerTakes 2) []
    ∷ []

abbrev pub small_plain : List (List ℕ)
small_plain = codes "1.1 ok" ∷ codes "1.2 ok snap 2" ∷ codes "1.3 ok" ∷ codes "1.4 list" ∷ codes "1.5 list b/" ∷ codes "done" ∷ []

abbrev pub small_json : List (List ℕ)
small_json =
    codes "{\"client\":1,\"line\":1,\"reply\":\"ok\"}"
    ∷ codes "{\"client\":1,\"line\":2,\"reply\":\"ok snap 2\"}"
    ∷ codes "{\"client\":1,\"line\":3,\"reply\":\"ok\"}"
    ∷ codes "{\"client\":1,\"line\":4,\"reply\":\"list\"}"
    ∷ codes "{\"client\":1,\"line\":5,\"reply\":\"list b/\"}"
    ∷ codes "{\"done\":true}"
    ∷ []

abbrev pub small_steps : List (List ℕ)
small_steps =
    codes "clients 1"
    ∷ codes "1 mkdir /a"
    ∷ codes "1 mkdir /a/.snap/s"
    ∷ codes "1 mkdir /a/b"
    ∷ codes "1 ls /a/.snap/s"
    ∷ codes "1 ls /a"
    ∷ codes "schedule"
    ∷ codes "op 1"
    ∷ codes "take server 1"
    ∷ codes "commit"
    ∷ codes "take 1 server"
    ∷ codes "take 1 server"
    ∷ codes "take 1 store"
    ∷ codes "take store 1"
    ∷ codes "take server store"
    ∷ []

abbrev pub small_summary : List (List ℕ)
small_summary = codes "clients 1" ∷ codes "lines 5" ∷ codes "snapshots 1" ∷ codes "removed 0" ∷ codes "refused 0" ∷ codes "done" ∷ []

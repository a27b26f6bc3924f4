-- What a run of the program comes to.
use Rattle.std.specs.Prelude.{◌≡◌, ℕ, true, false, List, [], ◌++◌, take, codes, decimal, map, string_bytes, String, IfSome, IsSomeAnd, Option, Ok}
use Rattle.std.specs.Io.KnownBytes.{Consumes, Appends, IsAtEnd}
use Rattle.plain_types.specs.declared.history.Event.{Event}
use Rattle.plain_types.specs.declared.script.Script.{Script}
use Rattle.plain_tree.specs.History.{replies}
use Rattle.direct_journal.specs.Legal.{Legal, EachReply, IsFromSnap, IsFromLive}
use Rattle.io_edge.specs.Outside.{Rises, AppendsSome}
use Rattle.script_text.specs.declared.outcome.End.{End}
use Rattle.script_text.specs.declared.outcome.End.TheVariants as ending
use Rattle.script_text.specs.declared.error.ScriptError.{ScriptError}
use Rattle.script_text.specs.declared.error.ScriptError.TheVariants as error
use Rattle.script_text.specs.Grammar.{grammar}
use Rattle.reply_text.specs.declared.form.Form.TheVariants.{Plain}
use Rattle.reply_text.specs.Text.{text}
use Rattle.snap_run.specs.Ends.{is_replay, end_of}

-- the words as texts
abbrev pub texts : {Z : Type 0} → List (String Z) → List (List ℕ)
texts words = map string_bytes words

-- the line that tells why a script is refused
abbrev pub refusal_text : ScriptError → List ℕ
refusal_text (error.BadLine line) = codes "error line " ++ decimal line ++ codes " bad\n"
refusal_text (error.TooLong line) = codes "error line " ++ decimal line ++ codes " long\n"
refusal_text (error.Limit line) = codes "error line " ++ decimal line ++ codes " limit\n"
refusal_text (error.Barriers a b) = codes "error barriers " ++ decimal a ++ codes " " ++ decimal b ++ codes "\n"
refusal_text error.NoMemory = []

-- the line that tells of an error; the other ends have none
abbrev pub error_text : End → List ℕ
error_text ending.Done = []
error_text ending.Usage = codes "error usage\n"
error_text (ending.ScriptRefused error) = refusal_text error
error_text ending.ReadFault = codes "error read\n"
error_text ending.WriteFault = []
error_text ending.DiskFault = codes "error disk\n"
error_text ending.NoMemory = []
error_text (ending.ScheduleRefused line) = codes "error step " ++ decimal line ++ codes "\n"
error_text (ending.Unfinished lines) = codes "error unfinished " ++ decimal lines ++ codes "\n"

-- A script was run: the input spells it, the history is legal for it, each reply to `ls` under `.snap` is the plain
-- tree's answer in the one tree of that snapshot, each other reply is the live answer, and this is the text of all.
pub record Runs (input : List ℕ) (history : List Event) (printed : List ℕ) : Type 0 where
  pub script : Script
  pub spelled : grammar input true ≡ Ok script
  pub legal : Legal history script.lines
  pub from_snap : EachReply (IsFromSnap history) script.lines (replies history)
  pub from_live : EachReply (IsFromLive history) script.lines (replies history)
  pub text_of_all : printed ≡ text script history Plain

-- What happened and what is to be written where an input's run ends so. No step is made where that isn't its end.
abbrev pub IsReport : List ℕ → End → List Event → List ℕ → Type 0
IsReport input ending.Done history printed = Runs input history printed
IsReport input end history printed = (history ≡ []) × (printed ≡ error_text end)

-- What a source had left and has left, and its counts of faults before and after.
pub record Reading : Type 0 where
  pub left : Option (List ℕ)
  pub after : Option (List ℕ)
  pub before : ℕ
  pub now : ℕ

-- what a source tells as the call begins and at its return
abbrev pub reading_of : {S : Type 0} → (S → Option (List ℕ)) → (S → ℕ) → S → S → Reading
reading_of left faults old new = record { left = left old; after = left new; before = faults old; now = faults new }

-- the input is what the source had, up to one byte more than a script can have; no more was read, and without a fault
pub record IsInputOf (reading : Reading) (input : List ℕ) : Type 0 where
  pub front : IfSome reading.left (λ bytes. input ≡ take 16777217 bytes)
  pub taken : Consumes reading.left reading.after input
  pub sound : reading.now ≡ reading.before

-- an input was read that comes to this end
pub record ComesTo (words : List (List ℕ)) (reading : Reading) (end : End) : Type 0 where
  pub input : List ℕ
  pub read : IsInputOf reading input
  pub comes : end_of words input ≡ end

-- a script was read to the end of its source without a fault, and was run
pub record RunsAll (words : List (List ℕ)) (reading : Reading) (history : List Event) (printed : List ℕ) : Type 0 where
  pub input : List ℕ
  pub replay : is_replay words ≡ true
  pub whole : IfSome reading.left (λ bytes. bytes ≡ input)
  pub to_the_end : IsAtEnd reading.after
  pub sound : reading.now ≡ reading.before
  pub runs : Runs input history printed

-- the words ask for a replay, and the source failed
pub record Faults (words : List (List ℕ)) (reading : Reading) : Type 0 where
  pub replay : is_replay words ≡ true
  pub risen : Rises reading.before reading.now

-- What the run comes to and is to write. No step was made where it doesn't come to a script's end.
abbrev pub IsVerdict : List (List ℕ) → Reading → End → List Event → List ℕ → Type 0
IsVerdict words reading ending.Done history printed = RunsAll words reading history printed × ComesTo words reading ending.Done
IsVerdict words reading ending.Usage history printed =
    (is_replay words ≡ false) × (history ≡ []) × (printed ≡ error_text ending.Usage)
IsVerdict words reading (ending.ScriptRefused error) history printed =
    ComesTo words reading (ending.ScriptRefused error) × (history ≡ []) × (printed ≡ error_text (ending.ScriptRefused error))
IsVerdict words reading (ending.Unfinished lines) history printed =
    ComesTo words reading (ending.Unfinished lines) × (history ≡ []) × (printed ≡ error_text (ending.Unfinished lines))
IsVerdict words reading ending.ReadFault history printed =
    Faults words reading × (history ≡ []) × (printed ≡ error_text ending.ReadFault)
IsVerdict words reading ending.WriteFault history printed = ⊥
IsVerdict words reading ending.DiskFault history printed = ⊥
IsVerdict words reading ending.NoMemory history printed = ⊥
IsVerdict words reading (ending.ScheduleRefused line) history printed = ⊥

-- What a sink had and has, and its counts of faults before and after.
pub record Writing : Type 0 where
  pub old : Option (List ℕ)
  pub new : Option (List ℕ)
  pub before : ℕ
  pub now : ℕ

-- what a sink tells as the call begins and at its return
abbrev pub writing_of : {W : Type 0} → (W → Option (List ℕ)) → (W → ℕ) → W → W → Writing
writing_of written faults old new =
    record { old = written old; new = written new; before = faults old; now = faults new }

-- the verdict's text was written, all of it and without a fault
pub record Written (words : List (List ℕ)) (reading : Reading) (writing : Writing) (end : End) (history : List Event) : Type 0 where
  pub printed : List ℕ
  pub verdict : IsVerdict words reading end history printed
  pub all : Appends writing.old writing.new printed
  pub sound : writing.now ≡ writing.before

-- the sink failed, behind some front of the text of a verdict
pub record Broken (words : List (List ℕ)) (reading : Reading) (writing : Writing) (history : List Event) : Type 0 where
  pub meant : End
  pub printed : List ℕ
  pub verdict : IsVerdict words reading meant history printed
  pub front : AppendsSome writing.old writing.new printed
  pub risen : Rises writing.before writing.now

-- how the run ended; at want of memory nothing happened
abbrev pub IsOutcome : List (List ℕ) → Reading → Writing → End → List Event → Type 0
IsOutcome words reading writing ending.WriteFault history = Broken words reading writing history
IsOutcome words reading writing ending.NoMemory history = history ≡ []
IsOutcome words reading writing end history = Written words reading writing end history

-- the source tells what it has left, and that is as P says
abbrev pub Tells : Reading → (List ℕ → Type 0) → Type 0
Tells reading P = IsSomeAnd reading.left P

-- neither source nor sink failed
pub record IsSound (reading : Reading) (writing : Writing) : Type 0 where
  pub source : Rises reading.before reading.now → ⊥
  pub sink : Rises writing.before writing.now → ⊥

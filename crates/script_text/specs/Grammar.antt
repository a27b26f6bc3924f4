-- Which inputs are scripts, and why the others are refused.
use Rattle.std.specs.Prelude.{ℕ, zero, suc, ◌+◌, ◌==◌, nat_lt, nat_le, Bool, true, false, ◌&&◌, ◌||◌, if◌then◌else◌, List, [], ◌∷◌, ◌++◌, length, bytes_eq, codes, count_by, is_none, Option, None, Some, Result, Ok, Err}
use Rattle.std.specs.Option.{option_or, option_zip}
use Rattle.plain_types.specs.declared.script.Line.{Line}
use Rattle.plain_types.specs.declared.script.Line.TheVariants as line
use Rattle.plain_types.specs.declared.script.Planned.{Planned}
use Rattle.plain_types.specs.declared.script.Script.{Script}
use Rattle.script_text.specs.declared.error.Fault.{Fault}
use Rattle.script_text.specs.declared.error.Fault.TheVariants as fault
use Rattle.script_text.specs.declared.error.ScriptError.{ScriptError}
use Rattle.script_text.specs.declared.error.ScriptError.TheVariants as error
use Rattle.script_text.specs.declared.reading.Reading.{Reading}
use Rattle.script_text.specs.Faults.{fault_at}
use Rattle.script_text.specs.Lines.{lines_of, text_of_line, is_skipped, words_of, number_of, within, small_of}
use Rattle.script_text.specs.Asked.{asked}
use Rattle.script_text.specs.Planned.{client_of, planned}

-- `clients N` is the first line: N is at least 1, and at most 8 is the limit
abbrev pub with_clients : Reading → Option ℕ → Result Reading Fault
with_clients sofar None = Err fault.Bad
with_clients sofar (Some n) =
    if n == 0 then Err fault.Bad
    else (if nat_le n 8 then Ok (record sofar { script = record sofar.script { clients = n } })
    else Err fault.Limit)

-- `objsize` stands at most once, before restart lines and client lines
abbrev pub takes_object : Reading → Bool
takes_object sofar = is_none sofar.script.object && length sofar.script.restarts == 0 && length sofar.script.lines == 0

-- `objsize S`; 16 to 65,536 is the limit
abbrev pub with_object : Reading → Option ℕ → Result Reading Fault
with_object sofar None = Err fault.Bad
with_object sofar (Some size) =
    if takes_object sofar
    then (if nat_le 16 size && nat_le size 65536
    then Ok (record sofar { script = record sofar.script { object = Some size } })
    else Err fault.Limit)
    else Err fault.Bad

-- the AFTER of the last restart line, or 0
abbrev pub last_after : List (ℕ × ℕ) → ℕ
last_after [] = 0
last_after (restart ∷ []) = restart.0
last_after (restart ∷ restarts) = last_after restarts

-- `restart AFTER KEEP` stands before client lines, with rising AFTER; 16 is the limit
abbrev pub with_restart : Reading → Option (ℕ × ℕ) → Result Reading Fault
with_restart sofar None = Err fault.Bad
with_restart sofar (Some restart) =
    if length sofar.script.lines == 0 && nat_lt (last_after sofar.script.restarts) restart.0
    then (if nat_lt (length sofar.script.restarts) 16
    then Ok (record sofar { script = record sofar.script { restarts = sofar.script.restarts ++ restart ∷ [] } })
    else Err fault.Limit)
    else Err fault.Bad

-- `C LINE` is a client's line; 512 is the limit
abbrev pub with_line : Reading → Option (ℕ × Line) → Result Reading Fault
with_line sofar None = Err fault.Bad
with_line sofar (Some asked) =
    if nat_lt (length sofar.script.lines) 512
    then Ok (record sofar { script = record sofar.script { lines = sofar.script.lines ++ asked ∷ [] } })
    else Err fault.Limit

-- a line of the schedule, with its number; 500,000 is the limit
abbrev pub with_plan : Reading → Option Planned → Result Reading Fault
with_plan sofar None = Err fault.Bad
with_plan sofar (Some plan) =
    if nat_lt (length sofar.script.schedule) 500000
    then Ok (record sofar {
      script = record sofar.script {
        schedule = sofar.script.schedule ++ (sofar.script.input_lines, plan) ∷ [];
      };
    })
    else Err fault.Limit

-- the number that stands behind a word: there is one word, which spells it
abbrev pub lone_number : List (List ℕ) → Option ℕ
lone_number (word ∷ []) = number_of word
lone_number words = None

-- AFTER, which is at least 1 and below 2^64, and KEEP, which is below 2^32
abbrev pub restart_of : List (List ℕ) → Option (ℕ × ℕ)
restart_of (after ∷ kept ∷ []) = option_zip (within 1 18446744073709551615 (number_of after)) (small_of kept)
restart_of words = None

-- the first line that isn't skipped
abbrev pub first_line : Reading → List (List ℕ) → Result Reading Fault
first_line sofar [] = Err fault.Bad
first_line sofar (word ∷ words) =
    if bytes_eq word (codes "clients") then with_clients sofar (lone_number words) else Err fault.Bad

-- the line `schedule`, where one may stand
abbrev pub schedule_begins : Bool → Reading → List ℕ → Result Reading Fault
schedule_begins allowed sofar word =
    if allowed && bytes_eq word (codes "schedule") then Ok (record sofar { planning = true }) else Err fault.Bad

-- a line of two words and more, between the first line and the schedule
abbrev pub longer_line : Reading → List ℕ → List (List ℕ) → Result Reading Fault
longer_line sofar word words =
    if bytes_eq word (codes "objsize") then with_object sofar (lone_number words)
    else (if bytes_eq word (codes "restart") then with_restart sofar (restart_of words)
    else with_line sofar (option_zip (client_of sofar.script.clients word) (asked words)))

-- a line between the first one and the schedule
abbrev pub body_line : Bool → Reading → List (List ℕ) → Result Reading Fault
body_line allowed sofar [] = Err fault.Bad
body_line allowed sofar (word ∷ []) = schedule_begins allowed sofar word
body_line allowed sofar (word ∷ words) = longer_line sofar word words

-- a line that isn't skipped, by what stands before it
abbrev pub read_words : Bool → Reading → List (List ℕ) → Result Reading Fault
read_words allowed sofar words =
    if sofar.script.clients == 0 then first_line sofar words
    else (if sofar.planning then with_plan sofar (planned sofar.script.clients words)
    else body_line allowed sofar words)

-- one line more, of so many bytes
abbrev pub counted : Reading → ℕ → Reading
counted sofar bytes =
    record sofar { script = record sofar.script { input_lines = sofar.script.input_lines + 1 }; bytes = sofar.bytes + bytes }

-- a line of more than 1,024 bytes, or one that reaches past the input's 16,777,216th byte
abbrev pub is_too_long : List ℕ → ℕ → Bool
is_too_long text bytes = nat_lt 1024 (length text) || nat_lt 16777216 bytes

-- the text of a line, which is counted already
abbrev pub read_text : Bool → Reading → List ℕ → Result Reading Fault
read_text allowed sofar text =
    if is_too_long text sofar.bytes then Err fault.TooLong
    else (if is_skipped text then Ok sofar
    else read_words allowed sofar (words_of text))

-- what was read, or the fault of the line of this number
abbrev pub numbered : ℕ → Result Reading Fault → Result Reading ScriptError
numbered number (Ok sofar) = Ok sofar
numbered number (Err fault) = Err (fault_at number fault)

-- one line more
abbrev pub read_line : Bool → Reading → List ℕ → Result Reading ScriptError
read_line allowed sofar line =
    let counted = counted sofar (length line) in
    numbered counted.script.input_lines (read_text allowed counted (text_of_line line))

infixl 10 ◌>>=◌
abbrev pub ◌>>=◌ : {A B : Type 0} → Result A ScriptError → (A → Result B ScriptError) → Result B ScriptError
Ok x >>= f = f x
Err error >>= f = Err error

-- all lines, the first refusal being the input's
abbrev pub read_lines : Bool → Reading → List (List ℕ) → Result Reading ScriptError
read_lines allowed sofar [] = Ok sofar
read_lines allowed sofar (line ∷ lines) = read_line allowed sofar line >>= λ more. read_lines allowed more lines

-- nothing was read yet
abbrev pub unread : Reading
unread = record {
  script = record { clients = 0; object = None; restarts = []; lines = []; schedule = []; input_lines = 0 };
  planning = false;
  bytes = 0;
}

-- a client's `barrier`
abbrev pub is_barrier_of : ℕ → ℕ × Line → Bool
is_barrier_of client (of, line.Barrier) = of == client
is_barrier_of client (of, asked) = false

-- how many `barrier` lines a client has
abbrev pub barriers_of : List (ℕ × Line) → ℕ → ℕ
barriers_of lines client = count_by (is_barrier_of client) lines

-- the least client up to this one whose number of barriers isn't client 1's
abbrev pub uneven : List (ℕ × Line) → ℕ → Option ℕ
uneven lines zero = None
uneven lines (suc n) =
    option_or (uneven lines n) (if barriers_of lines (suc n) == barriers_of lines 1 then None else Some (suc n))

-- the barriers must be even
abbrev pub evened : Script → Option ℕ → Result Script ScriptError
evened script None = Ok script
evened script (Some client) = Err (error.Barriers 1 client)

-- the end of the input: the first line must have been there, and the barriers must be even
abbrev pub finished : Reading → Result Script ScriptError
finished sofar =
    if sofar.script.clients == 0 then Err (error.BadLine 1)
    else evened sofar.script (uneven sofar.script.lines sofar.script.clients)

-- The script that an input spells, or the first reason to refuse it: the first line that has one, and uneven
-- barriers after all lines. A schedule may stand where one is allowed.
abbrev pub grammar : List ℕ → Bool → Result Script ScriptError
grammar input allowed = read_lines allowed unread (lines_of input) >>= finished

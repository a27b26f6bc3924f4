-- What a line leaves as it is in what was read.
use Rattle.std.proofs.Common.{◌≡◌, ℕ, ◌+◌, ◌≤◌, Bool, true, false, cond, ◌==◌, ◌&&◌, ◌||◌, List, [], ◌∷◌, ◌++◌, length, length-append, Option, Some, None, Result, Ok, Err, refl, subst, leb-true, ltb-true, ltb-false, arith}
use Rattle.std.specs.Prelude.{IfOk, nat_le, nat_lt, bytes_eq, codes}
use Rattle.std.specs.Option.{option_zip}
use Rattle.plain_types.specs.declared.script.Line.{Line}
use Rattle.plain_types.specs.declared.script.Planned.{Planned}
use Rattle.plain_types.specs.declared.script.Script.{Script}
use Rattle.script_text.specs.declared.error.Fault.{Fault}
use Rattle.script_text.specs.declared.error.Fault.TheVariants as fault
use Rattle.script_text.specs.declared.error.ScriptError.TheVariants as error
use Rattle.script_text.specs.declared.reading.Reading.{Reading}
use Rattle.script_text.specs.Lines.{text_of_line, is_skipped, words_of}
use Rattle.script_text.specs.Asked.{asked}
use Rattle.script_text.specs.Planned.{client_of, planned}
use Rattle.script_text.specs.Grammar.{with_clients, takes_object, with_object, last_after, with_restart, with_line, with_plan, restart_of, first_line, lone_number, longer_line, body_line, read_words, counted, numbered, read_line, evened, uneven, finished}

-- there are at most 8 clients, 512 client lines and 16 restart lines
pub record IsLimited (sofar : Reading) : Type 0 where
  pub clients : sofar.script.clients ≤ 8
  pub few : length sofar.script.lines ≤ 512
  pub restarts : length sofar.script.restarts ≤ 16

-- the numbers of lines and bytes, and the limits
pub record Kept (sofar more : Reading) : Type 0 where
  pub lines : more.script.input_lines ≡ sofar.script.input_lines
  pub bytes : more.bytes ≡ sofar.bytes
  pub limited : IsLimited sofar → IsLimited more

abbrev Keeps : Reading → Result Reading Fault → Type 0
Keeps sofar told = IfOk told (Kept sofar)

same : (sofar : Reading) → Kept sofar sofar
same sofar = record { lines = refl; bytes = refl; limited = λ h. record { clients = h.clients; few = h.few; restarts = h.restarts } }

either : (sofar : Reading) (t : Bool) (a b : Result Reading Fault) → Keeps sofar a → Keeps sofar b → Keeps sofar (cond t a b)
either sofar true a b p q = p
either sofar false a b p q = q

few_clients : (sofar : Reading) (n : ℕ) (t : Bool) → nat_le n 8 ≡ t → Keeps sofar (cond t (Ok (record sofar { script = record sofar.script { clients = n } })) (Err fault.Limit))
few_clients sofar n true h = record { lines = refl; bytes = refl; limited = λ l. record { clients = leb-true n 8 h; few = l.few; restarts = l.restarts } }
few_clients sofar n false h = tt

keeps-clients : (sofar : Reading) (n : Option ℕ) → Keeps sofar (with_clients sofar n)
keeps-clients sofar None = tt
keeps-clients sofar (Some n) = either sofar (n == 0) _ _ tt (few_clients sofar n (nat_le n 8) refl)

keeps-object : (sofar : Reading) (n : Option ℕ) → Keeps sofar (with_object sofar n)
keeps-object sofar None = tt
keeps-object sofar (Some n) = either sofar (takes_object sofar) _ _ (either sofar (nat_le 16 n && nat_le n 65536) _ _ (record { lines = refl; bytes = refl; limited = λ h. record { clients = h.clients; few = h.few; restarts = h.restarts } }) tt) tt

few_restarts : (sofar : Reading) (restart : ℕ × ℕ) (t : Bool) → nat_lt (length sofar.script.restarts) 16 ≡ t → Keeps sofar (cond t (Ok (record sofar { script = record sofar.script { restarts = sofar.script.restarts ++ restart ∷ [] } })) (Err fault.Limit))
few_restarts sofar restart true h = record {
  lines = refl;
  bytes = refl;
  limited = λ l. record { clients = l.clients; few = l.few; restarts = omega (arith, ltb-true (length sofar.script.restarts) 16 h, length-append sofar.script.restarts (restart ∷ [])) };
}
few_restarts sofar restart false h = tt

keeps-restart : (sofar : Reading) (restart : Option (ℕ × ℕ)) → Keeps sofar (with_restart sofar restart)
keeps-restart sofar None = tt
keeps-restart sofar (Some r) = either sofar (length sofar.script.lines == 0 && nat_lt (last_after sofar.script.restarts) r.0) _ _ (few_restarts sofar r (nat_lt (length sofar.script.restarts) 16) refl) tt

few_lines : (sofar : Reading) (line : ℕ × Line) (t : Bool) → nat_lt (length sofar.script.lines) 512 ≡ t → Keeps sofar (cond t (Ok (record sofar { script = record sofar.script { lines = sofar.script.lines ++ line ∷ [] } })) (Err fault.Limit))
few_lines sofar line true h = record {
  lines = refl;
  bytes = refl;
  limited = λ l. record { clients = l.clients; few = omega (arith, ltb-true (length sofar.script.lines) 512 h, length-append sofar.script.lines (line ∷ [])); restarts = l.restarts };
}
few_lines sofar line false h = tt

keeps-line : (sofar : Reading) (line : Option (ℕ × Line)) → Keeps sofar (with_line sofar line)
keeps-line sofar None = tt
keeps-line sofar (Some line) = few_lines sofar line (nat_lt (length sofar.script.lines) 512) refl

keeps-plan : (sofar : Reading) (plan : Option Planned) → Keeps sofar (with_plan sofar plan)
keeps-plan sofar None = tt
keeps-plan sofar (Some plan) = either sofar (nat_lt (length sofar.script.schedule) 500000) _ _ (record { lines = refl; bytes = refl; limited = λ h. record { clients = h.clients; few = h.few; restarts = h.restarts } }) tt

keeps-first : (sofar : Reading) (words : List (List ℕ)) → Keeps sofar (first_line sofar words)
keeps-first sofar [] = tt
keeps-first sofar (word ∷ words) = either sofar (bytes_eq word (codes "clients")) _ _ (keeps-clients sofar (lone_number words)) tt

keeps-longer : (sofar : Reading) (word : List ℕ) (words : List (List ℕ)) → Keeps sofar (longer_line sofar word words)
keeps-longer sofar word words =
    either sofar (bytes_eq word (codes "objsize")) _ _ (keeps-object sofar (lone_number words))
    (either sofar (bytes_eq word (codes "restart")) _ _ (keeps-restart sofar (restart_of words))
    (keeps-line sofar (option_zip (client_of sofar.script.clients word) (asked words))))

keeps-body : (allowed : Bool) (sofar : Reading) (words : List (List ℕ)) → Keeps sofar (body_line allowed sofar words)
keeps-body allowed sofar [] = tt
keeps-body allowed sofar (word ∷ []) = either sofar (allowed && bytes_eq word (codes "schedule")) _ _ (record { lines = refl; bytes = refl; limited = λ h. record { clients = h.clients; few = h.few; restarts = h.restarts } }) tt
keeps-body allowed sofar (word ∷ a ∷ words) = keeps-longer sofar word (a ∷ words)

keeps-words : (allowed : Bool) (sofar : Reading) (words : List (List ℕ)) → Keeps sofar (read_words allowed sofar words)
keeps-words allowed sofar words =
    either sofar (sofar.script.clients == 0) _ _ (keeps-first sofar words)
    (either sofar sofar.planning _ _ (keeps-plan sofar (planned sofar.script.clients words)) (keeps-body allowed sofar words))

-- what follows from a line of so many bytes
pub record Counted (sofar : Reading) (count : ℕ) (more : Reading) : Type 0 where
  pub lines : more.script.input_lines ≡ sofar.script.input_lines + 1
  pub bytes : more.bytes ≡ sofar.bytes + count
  pub short : more.bytes ≤ 16777216
  pub limited : IsLimited sofar → IsLimited more

of_kept : (sofar : Reading) (count : ℕ) (more : Reading) → sofar.bytes + count ≤ 16777216 → Kept (counted sofar count) more → Counted sofar count more
of_kept sofar count more short kept = record {
  lines = kept.lines;
  bytes = kept.bytes;
  short = omega (arith, kept.bytes);
  limited = λ h. kept.limited (record { clients = h.clients; few = h.few; restarts = h.restarts });
}

-- the same of all that a text can give
of_told : (sofar : Reading) (count number : ℕ) (told : Result Reading Fault) (more : Reading) → sofar.bytes + count ≤ 16777216 → Keeps (counted sofar count) told → numbered number told ≡ Ok more → Counted sofar count more
of_told sofar count number (Ok read) more short kept h =
    let e : read ≡ more = cc in
    of_kept sofar count more short (subst (Kept (counted sofar count)) e kept)
of_told sofar count number (Err fault) more short kept h = cc

-- which way a test for the length goes
of_text : (allowed : Bool) (sofar : Reading) (count number : ℕ) (text : List ℕ) (more : Reading) (a b : Bool) → nat_lt 16777216 (sofar.bytes + count) ≡ b → numbered number (cond (a || b) (Err fault.TooLong) (cond (is_skipped text) (Ok (counted sofar count)) (read_words allowed (counted sofar count) (words_of text)))) ≡ Ok more → Counted sofar count more
of_text allowed sofar count number text more true b is h = cc
of_text allowed sofar count number text more false true is h = cc
of_text allowed sofar count number text more false false is h =
    of_told sofar count number _ more (ltb-false _ _ is)
    (either (counted sofar count) (is_skipped text) _ _ (same (counted sofar count)) (keeps-words allowed (counted sofar count) (words_of text))) h

-- a line that is accepted
pub line_counted : (allowed : Bool) (sofar : Reading) (line : List ℕ) (more : Reading) → read_line allowed sofar line ≡ Ok more → Counted sofar (length line) more
line_counted allowed sofar line more h =
    of_text allowed sofar (length line) (sofar.script.input_lines + 1) (text_of_line line) more (nat_lt 1024 (length (text_of_line line))) _ refl h

-- the end of the input leaves the script as it is
evened_same : (script all : Script) (client : Option ℕ) → evened script client ≡ Ok all → script ≡ all
evened_same script all None h = cc
evened_same script all (Some client) h = cc

pub finished_same : (sofar : Reading) (script : Script) → finished sofar ≡ Ok script → sofar.script ≡ script
finished_same sofar script h =
    elim (sofar.script.clients == 0) as (λ t. cond t (Err (error.BadLine 1)) (evened sofar.script (uneven sofar.script.lines sofar.script.clients)) ≡ Ok script → sofar.script ≡ script) [
      | true ↦ λ here. cc
      | false ↦ λ here. evened_same sofar.script script (uneven sofar.script.lines sofar.script.clients) here
    ] h

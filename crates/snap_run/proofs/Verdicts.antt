-- What running an input comes to is what the whole run comes to.
use Rattle.std.proofs.Common.{◌≡◌, ℕ, zero, suc, ◌+◌, ◌<◌, ◌≤◌, List, [], ◌∷◌, length, take, get_or, ltb, Bool, true, false, not, cond, Option, None, Some, Result, Ok, Err, refl, sym, ap, ◌∙◌, subst, arith}
use Rattle.std.specs.Prelude.{IfSome, IfNone, IfOk, ◌&&◌, ◌==◌}
use Rattle.std.specs.List.{AllByRecursion, position, position_or_len}
use Rattle.std.proofs.lemmas.Bool.Decides.{nat_tests}
use Rattle.std.proofs.lemmas.List.{take_all, length-take}
use Rattle.std.specs.Io.KnownBytes.{IsAtEnd}
use Rattle.plain_types.specs.declared.history.Event.{Event}
use Rattle.plain_types.specs.declared.script.Line.{Line}
use Rattle.plain_types.specs.declared.script.Script.{Script}
use Rattle.direct_journal.specs.Served.{is_served}
use Rattle.direct_journal.specs.Direct.{OfOneClient}
use Rattle.script_text.specs.declared.error.ScriptError.{ScriptError}
use Rattle.script_text.specs.declared.outcome.End.{End}
use Rattle.script_text.specs.declared.outcome.End.TheVariants as ending
use Rattle.script_text.specs.Grammar.{grammar}
use Rattle.snap_run.specs.Ends.{is_taken, IsTaken, first_unserved, is_unfinished, end_with, end_of_result, is_replay}
use Rattle.snap_run.specs.declared.verdict.Verdict.{Verdict}
use Rattle.snap_run.specs.Run.{Reading, IsInputOf, ComesTo, IsReport, IsVerdict}

-- what running an input can come to
abbrev IsPossible : End → Type 0
IsPossible ending.Done = Unit {0}
IsPossible (ending.ScriptRefused error) = Unit {0}
IsPossible (ending.Unfinished lines) = Unit {0}
IsPossible end = ⊥

possible_with : (script : Script) (first : Option ℕ) → IsPossible (end_with script first)
possible_with script (Some number) = tt
possible_with script None = elim (is_unfinished script) as (λ t. IsPossible (cond t (ending.Unfinished script.input_lines) ending.Done)) [ true ↦ tt | false ↦ tt ]

possible_of : (input : List ℕ) (result : Result Script ScriptError) → IsPossible (end_of_result input result)
possible_of input (Err error) = tt
possible_of input (Ok script) = possible_with script (first_unserved input script)

possible : (input : List ℕ) (end : End) → end ≡ end_of_result input (grammar input true) → IsPossible end
possible input end is = subst IsPossible (sym is) (possible_of input (grammar input true))

comes_to : (words : List (List ℕ)) (reading : Reading) (input : List ℕ) (end : End) → is_replay words ≡ true → IsInputOf reading input → end ≡ end_of_result input (grammar input true) → ComesTo words reading end
comes_to words reading input end replay read is = record { input = input; read = read; comes = rw replay (sym is) }

-- a front that is shorter than the limit is the whole
whole_front : (bytes input : List ℕ) (n : ℕ) → length input < n → input ≡ take n bytes → bytes ≡ input
whole_front bytes input n short front =
    let small : length bytes ≤ n = omega (arith, ap length front, length-take n bytes) in
    sym (front ∙ take_all n bytes small)

whole_input : (left : Option (List ℕ)) (input : List ℕ) → length input ≤ 16777216 → IfSome left (λ bytes. input ≡ take 16777217 bytes) → IfSome left (λ bytes. bytes ≡ input)
whole_input None input short front = tt
whole_input (Some bytes) input short front = whole_front bytes input 16777217 (omega arith) front

-- an input that was read and run gives the verdict on the run
pub verdict_from_run : (words : List (List ℕ)) (reading : Reading) (input : List ℕ) (end : End) (history : List Event) (printed : List ℕ) → is_replay words ≡ true → IsInputOf reading input → (length input ≤ 16777216 → IsAtEnd reading.after) → (end ≡ ending.Done → length input ≤ 16777216) → end ≡ end_of_result input (grammar input true) → IsReport input end history printed → IsVerdict words reading end history printed
verdict_from_run words reading input ending.Done history printed replay read at_end short is report = (
  record {
    input = input;
    replay = replay;
    whole = whole_input reading.left input (short refl) read.front;
    to_the_end = at_end (short refl);
    sound = read.sound;
    runs = report;
  },
  comes_to words reading input ending.Done replay read is,
)
verdict_from_run words reading input (ending.ScriptRefused error) history printed replay read at_end short is report =
    (comes_to words reading input (ending.ScriptRefused error) replay read is, report.0, report.1)
verdict_from_run words reading input (ending.Unfinished lines) history printed replay read at_end short is report =
    (comes_to words reading input (ending.Unfinished lines) replay read is, report.0, report.1)
verdict_from_run words reading input ending.Usage history printed replay read at_end short is report = absurd (possible input ending.Usage is)
verdict_from_run words reading input ending.ReadFault history printed replay read at_end short is report = absurd (possible input ending.ReadFault is)
verdict_from_run words reading input ending.WriteFault history printed replay read at_end short is report = possible input ending.WriteFault is
verdict_from_run words reading input ending.DiskFault history printed replay read at_end short is report = possible input ending.DiskFault is
verdict_from_run words reading input ending.NoMemory history printed replay read at_end short is report = possible input ending.NoMemory is
verdict_from_run words reading input (ending.ScheduleRefused line) history printed replay read at_end short is report = possible input (ending.ScheduleRefused line) is

-- the same, from the clauses of a call
pub verdict_from_clauses : {E : Type 0} (words : List (List ℕ)) (reading : Reading) (input : List ℕ) (result : Result Verdict E) → is_replay words ≡ true → IsInputOf reading input → (length input ≤ 16777216 → IsAtEnd reading.after) → IfOk result (λ verdict. verdict.end ≡ end_of_result input (grammar input true)) → IfOk result (λ verdict. IsReport input verdict.end verdict.history verdict.text.items) → IfOk result (λ verdict. verdict.end ≡ ending.Done → length input ≤ 16777216) → IfOk result (λ verdict. IsVerdict words reading verdict.end verdict.history verdict.text.items)
verdict_from_clauses words reading input (Ok verdict) replay read at_end is report short =
    verdict_from_run words reading input verdict.end verdict.history verdict.text.items replay read at_end short is report
verdict_from_clauses words reading input (Err error) replay read at_end is report short = tt

both : (a b : Bool) → (a && b) ≡ true → (a ≡ true) × (b ≡ true)
both true b h = (refl, h)
both false b h = cc

not_not : (b : Bool) → not b ≡ false → b ≡ true
not_not true h = refl
not_not false h = cc

-- lines that are taken are those of client 1
pub of_one_client : (lines : List (ℕ × Line)) → AllByRecursion IsTaken lines → OfOneClient lines
of_one_client [] all = tt
of_one_client (line ∷ lines) all =
    (let test : (line.0 == 1) ≡ true = (both (line.0 == 1) (is_served line.1) all.0).0 in grind (arith, nat_tests), of_one_client lines all.1)

-- what holds anyway holds where nothing is found
pub if_none : {A : Type 0} (o : Option A) (P : Type 0) → P → IfNone o P
if_none None P p = p
if_none (Some x) P p = tt

-- where none is found that isn't taken, all are
pub all_taken : (lines : List (ℕ × Line)) → position (λ line. not (is_taken line)) lines ≡ None → AllByRecursion IsTaken lines
all_taken lines none = all_taken_long lines (behind_all (position_or_len (λ line. not (is_taken line)) lines) (length lines) none)
  where
    behind_all : (n m : ℕ) → cond (ltb n m) (Some n) None ≡ None → m ≤ n
    behind_all n m is = by_test (ltb n m) refl is
      where
        by_test : (t : Bool) → ltb n m ≡ t → cond t (Some n) None ≡ None → m ≤ n
        by_test true test here = cc
        by_test false test here = grind (arith, nat_tests)

    all_taken_long : (lines : List (ℕ × Line)) → length lines ≤ position_or_len (λ line. not (is_taken line)) lines → AllByRecursion IsTaken lines
    all_taken_long [] long = tt
    all_taken_long (line ∷ lines) long = by_test (not (is_taken line)) refl long (all_taken_long lines)
      where
        by_test : (t : Bool) → not (is_taken line) ≡ t → suc (length lines) ≤ cond (not t) (1 + position_or_len (λ other. not (is_taken other)) lines) 0 → (length lines ≤ position_or_len (λ other. not (is_taken other)) lines → AllByRecursion IsTaken lines) → AllByRecursion IsTaken (line ∷ lines)
        by_test true is le rest = absurd (omega arith)
        by_test false is le rest = (not_not (is_taken line) is, rest (omega arith))

-- each of them is
pub taken_at : (lines : List (ℕ × Line)) (i : ℕ) (line : ℕ × Line) → AllByRecursion IsTaken lines → i < length lines → line ≡ get_or lines i line → IsTaken line
taken_at [] i line all within is = absurd (omega arith)
taken_at (first ∷ lines) zero line all within is = subst IsTaken (sym is) all.0
taken_at (first ∷ lines) (suc i) line all within is = taken_at lines i line all.1 (omega arith) is

-- a line that is taken is one of client 1, and is served
pub of_one : (line : ℕ × Line) → IsTaken line → line.0 ≡ 1
of_one line taken = let test : (line.0 == 1) ≡ true = (both (line.0 == 1) (is_served line.1) taken).0 in grind (arith, nat_tests)

pub served : (line : ℕ × Line) → IsTaken line → is_served line.1 ≡ true
served line taken = (both (line.0 == 1) (is_served line.1) taken).1

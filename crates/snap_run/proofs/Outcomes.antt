-- What the outcome of a run says at each end.
use Rattle.std.proofs.Common.{◌≡◌, ℕ, ◌≤◌, List, [], length, take, Bool, true, false, cond, Option, None, Some, Result, Ok, Err, inl, inr, refl, sym, ap, ◌∙◌, subst, arith}
use Rattle.std.specs.Prelude.{IfSome, IsSomeAnd}
use Rattle.std.proofs.lemmas.List.{take_all}
use Rattle.std.specs.Io.KnownBytes.{Appends}
use Rattle.plain_types.specs.declared.history.Event.{Event}
use Rattle.plain_types.specs.declared.script.Script.{Script}
use Rattle.io_edge.specs.Outside.{Rises, AppendsSome}
use Rattle.script_text.specs.declared.error.ScriptError.{ScriptError}
use Rattle.script_text.specs.declared.outcome.End.{End}
use Rattle.script_text.specs.declared.outcome.End.TheVariants as ending
use Rattle.script_text.specs.Grammar.{grammar}
use Rattle.snap_run.specs.Ends.{is_replay, end_of_result, end_of, EndsAs}
use Rattle.snap_run.specs.Run.{error_text, Reading, Writing, ComesTo, RunsAll, Faults, IsVerdict, Broken, IsOutcome, Tells, IsSound}

-- a write that failed behind the text of a verdict
pub broken : (words : List (List ℕ)) (reading : Reading) (writing : Writing) (meant end : End) (history after : List Event) (printed : List ℕ) → IsVerdict words reading meant history printed → AppendsSome writing.old writing.new printed → Rises writing.before writing.now → end ≡ ending.WriteFault → after ≡ history → IsOutcome words reading writing end after
broken words reading writing meant end history after printed verdict front risen is same =
    subst (λ (e : End). IsOutcome words reading writing e after) (sym is)
    (subst (λ (h : List Event). Broken words reading writing h) (sym same) (record { meant = meant; printed = printed; verdict = verdict; front = front; risen = risen }))

-- a text that was written
pub written : (words : List (List ℕ)) (reading : Reading) (writing : Writing) (end : End) (history : List Event) (printed : List ℕ) → IsVerdict words reading end history printed → Appends writing.old writing.new printed → writing.now ≡ writing.before → IsOutcome words reading writing end history
written words reading writing ending.WriteFault history printed verdict all sound = absurd verdict
written words reading writing ending.NoMemory history printed verdict all sound = absurd verdict
written words reading writing end history printed verdict all sound = record { printed = printed; verdict = verdict; all = all; sound = sound }

module _ (words : List (List ℕ)) (reading : Reading) (writing : Writing) (end : End) (history : List Event) (outcome : IsOutcome words reading writing end history) where
  at : (wanted : End) → end ≡ wanted → IsOutcome words reading writing wanted history
  at wanted is = subst (λ (e : End). IsOutcome words reading writing e history) is outcome

  pub at_done : end ≡ ending.Done → (printed : List ℕ) × RunsAll words reading history printed × ComesTo words reading ending.Done × Appends writing.old writing.new printed × (writing.now ≡ writing.before)
  at_done is = let done = at ending.Done is in (done.printed, done.verdict.0, done.verdict.1, done.all, done.sound)

  pub at_usage : end ≡ ending.Usage → (is_replay words ≡ false) × (history ≡ []) × Appends writing.old writing.new (error_text ending.Usage)
  at_usage is =
      let told = at ending.Usage is in
      (told.verdict.0, told.verdict.1, subst (Appends writing.old writing.new) told.verdict.2 told.all)

  pub at_refused : (error : ScriptError) → end ≡ ending.ScriptRefused error → ComesTo words reading (ending.ScriptRefused error) × (history ≡ []) × Appends writing.old writing.new (error_text (ending.ScriptRefused error))
  at_refused error is =
      let told = at (ending.ScriptRefused error) is in
      (told.verdict.0, told.verdict.1, subst (Appends writing.old writing.new) told.verdict.2 told.all)

  pub at_unfinished : (lines : ℕ) → end ≡ ending.Unfinished lines → ComesTo words reading (ending.Unfinished lines) × (history ≡ []) × Appends writing.old writing.new (error_text (ending.Unfinished lines))
  at_unfinished lines is =
      let told = at (ending.Unfinished lines) is in
      (told.verdict.0, told.verdict.1, subst (Appends writing.old writing.new) told.verdict.2 told.all)

  pub at_read_fault : end ≡ ending.ReadFault → Faults words reading × (history ≡ []) × Appends writing.old writing.new (error_text ending.ReadFault)
  at_read_fault is =
      let told = at ending.ReadFault is in
      (told.verdict.0, told.verdict.1, subst (Appends writing.old writing.new) told.verdict.2 told.all)

  pub at_write_fault : end ≡ ending.WriteFault → Broken words reading writing history
  at_write_fault is = at ending.WriteFault is

  pub at_no_memory : end ≡ ending.NoMemory → history ≡ []
  at_no_memory is = at ending.NoMemory is

  pub never : ((line : ℕ) → end ≡ ending.ScheduleRefused line → ⊥) × (end ≡ ending.DiskFault → ⊥)
  never = (λ line is. (at (ending.ScheduleRefused line) is).verdict, λ is. (at ending.DiskFault is).verdict)

-- the bytes up to the limit decide as all do
module _ (decides : (bytes : List ℕ) → grammar (take 16777217 bytes) true ≡ grammar bytes true) (accepted : (bytes : List ℕ) (script : Script) → grammar bytes true ≡ Ok script → length bytes ≤ 16777216) where
  result_decides : (bytes : List ℕ) (result : Result Script ScriptError) → grammar bytes true ≡ result → end_of_result (take 16777217 bytes) result ≡ end_of_result bytes result
  result_decides bytes (Err error) is = refl
  result_decides bytes (Ok script) is =
      let short : length bytes ≤ 16777217 = omega (arith, accepted bytes script is) in
      ap (λ (b : List ℕ). end_of_result b (Ok script)) (take_all 16777217 bytes short)

  end_decides : (words : List (List ℕ)) (bytes : List ℕ) → end_of words (take 16777217 bytes) ≡ end_of words bytes
  end_decides words bytes =
      ap (λ (r : Result Script ScriptError). cond (is_replay words) (end_of_result (take 16777217 bytes) r) ending.Usage) (decides bytes)
      ∙ ap (λ (e : End). cond (is_replay words) e ending.Usage) (result_decides bytes (grammar bytes true) refl)

  -- what was read comes to the same end as all that the source had
  comes_whole : (words : List (List ℕ)) (reading : Reading) (bytes : List ℕ) (end : End) → reading.left ≡ Some bytes → ComesTo words reading end → end_of words bytes ≡ end
  comes_whole words reading bytes end known comes =
      let front : comes.input ≡ take 16777217 bytes = subst (λ (left : Option (List ℕ)). IfSome left (λ b. comes.input ≡ take 16777217 b)) known comes.read.front in
      sym (end_decides words bytes) ∙ ap (end_of words) (sym front) ∙ comes.comes

-- what the source tells, with the bytes
told : (left : Option (List ℕ)) (P : List ℕ → Type 0) → IsSomeAnd left P → (bytes : List ℕ) × (left ≡ Some bytes) × P bytes
told None P tells = absurd (elim tells [ ])
told (Some bytes) P tells = (bytes, refl, tells)

-- what a source has left is as Q says where it is as P says, and that implies Q
told_weaker : (left : Option (List ℕ)) (P Q : List ℕ → Type 0) → ((bytes : List ℕ) → P bytes → Q bytes) → IsSomeAnd left P → IsSomeAnd left Q
told_weaker (Some bytes) P Q step tells = step bytes tells
told_weaker None P Q step tells = absurd (elim tells [ ])

-- what an input comes to that the grammar refuses
refusal_end : (words : List (List ℕ)) (input : List ℕ) (error : ScriptError) → is_replay words ≡ true → grammar input true ≡ Err error → end_of words input ≡ ending.ScriptRefused error
refusal_end words input error is refused = rw (is, refused) refl

not_both : (b : Bool) → b ≡ true → b ≡ false → ⊥
not_both b holds fails = cc

usage_of : (words : List (List ℕ)) (bytes : List ℕ) → is_replay words ≡ false → end_of words bytes ≡ ending.Usage
usage_of words bytes none = rw none refl

replays_of : (words : List (List ℕ)) (reading : Reading) (end : End) → is_replay words ≡ false → ComesTo words reading end → end ≡ ending.Usage
replays_of words reading end none comes = sym comes.comes ∙ usage_of words comes.input none

-- the outcome is as the run of the whole input comes to, where nothing fails
module _ (decides : (bytes : List ℕ) → grammar (take 16777217 bytes) true ≡ grammar bytes true) (accepted : (bytes : List ℕ) (script : Script) → grammar bytes true ≡ Ok script → length bytes ≤ 16777216) (words : List (List ℕ)) (reading : Reading) (writing : Writing) where
  as_whole : (end wanted : End) → Tells reading (λ input. end_of words input ≡ wanted) → ComesTo words reading end → EndsAs wanted end
  as_whole end wanted tells comes =
      let input = told reading.left (λ (bytes : List ℕ). end_of words bytes ≡ wanted) tells in
      inl (sym (comes_whole decides accepted words reading input.0 end input.1 comes) ∙ input.2)

  pub completes : (end : End) (history : List Event) → IsOutcome words reading writing end history → (wanted : End) → Tells reading (λ input. end_of words input ≡ wanted) → IsSound reading writing → EndsAs wanted end
  completes ending.Done history outcome wanted tells sound = as_whole ending.Done wanted tells outcome.verdict.1
  completes (ending.ScriptRefused error) history outcome wanted tells sound = as_whole (ending.ScriptRefused error) wanted tells outcome.verdict.0
  completes (ending.Unfinished lines) history outcome wanted tells sound = as_whole (ending.Unfinished lines) wanted tells outcome.verdict.0
  completes ending.Usage history outcome wanted tells sound =
      let input = told reading.left (λ (bytes : List ℕ). end_of words bytes ≡ wanted) tells in
      inl (sym (usage_of words input.0 outcome.verdict.0) ∙ input.2)
  completes ending.ReadFault history outcome wanted tells sound = absurd (sound.source outcome.verdict.0.risen)
  completes ending.WriteFault history outcome wanted tells sound = absurd (sound.sink outcome.risen)
  completes ending.DiskFault history outcome wanted tells sound = absurd outcome.verdict
  completes ending.NoMemory history outcome wanted tells sound = inr refl
  completes (ending.ScheduleRefused line) history outcome wanted tells sound = absurd outcome.verdict

  pub completes_refusal : (end : End) (history : List Event) → IsOutcome words reading writing end history → (error : ScriptError) → is_replay words ≡ true → Tells reading (λ input. grammar input true ≡ Err error) → IsSound reading writing → EndsAs (ending.ScriptRefused error) end
  completes_refusal end history outcome error is tells sound =
      completes end history outcome (ending.ScriptRefused error)
      (told_weaker reading.left (λ input. grammar input true ≡ Err error) (λ input. end_of words input ≡ ending.ScriptRefused error)
      (λ input refused. refusal_end words input error is refused) tells)
      sound

-- words that are no form are told so, where the sink doesn't fail
pub completes_usage : (words : List (List ℕ)) (reading : Reading) (writing : Writing) (end : End) (history : List Event) → IsOutcome words reading writing end history → is_replay words ≡ false → (Rises writing.before writing.now → ⊥) → EndsAs ending.Usage end
completes_usage words reading writing ending.Usage history outcome none sound = inl refl
completes_usage words reading writing ending.Done history outcome none sound = inl (replays_of words reading ending.Done none outcome.verdict.1)
completes_usage words reading writing (ending.ScriptRefused error) history outcome none sound = inl (replays_of words reading (ending.ScriptRefused error) none outcome.verdict.0)
completes_usage words reading writing (ending.Unfinished lines) history outcome none sound = inl (replays_of words reading (ending.Unfinished lines) none outcome.verdict.0)
completes_usage words reading writing ending.ReadFault history outcome none sound = absurd (not_both (is_replay words) outcome.verdict.0.replay none)
completes_usage words reading writing ending.WriteFault history outcome none sound = absurd (sound outcome.risen)
completes_usage words reading writing ending.DiskFault history outcome none sound = absurd outcome.verdict
completes_usage words reading writing ending.NoMemory history outcome none sound = inr refl
completes_usage words reading writing (ending.ScheduleRefused line) history outcome none sound = absurd outcome.verdict

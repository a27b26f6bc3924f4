-- One line of an input read, and the lines behind it.
use Rattle.std.proofs.Common.{◌≡◌, ℕ, Bool, List, ◌∷◌, Result, Ok, Err, ap, ◌∙◌}
use Rattle.script_text.specs.declared.error.ScriptError.{ScriptError}
use Rattle.script_text.specs.declared.reading.Reading.{Reading}
use Rattle.script_text.specs.Grammar.{read_line, read_lines, finished, ◌>>=◌}

-- a line that is accepted, and the rest
pub step_accepted : (allowed : Bool) (sofar more : Reading) (line : List ℕ) (rest all : List (List ℕ)) → all ≡ line ∷ rest → read_line allowed sofar line ≡ Ok more → (read_lines allowed sofar all >>= finished) ≡ (read_lines allowed more rest >>= finished)
step_accepted allowed sofar more line rest all cut read =
    ap (λ (lines : List (List ℕ)). read_lines allowed sofar lines >>= finished) cut
    ∙ ap (λ (told : Result Reading ScriptError). (told >>= λ more. read_lines allowed more rest) >>= finished) read

-- a line that is refused
pub step_refused : (allowed : Bool) (sofar : Reading) (error : ScriptError) (line : List ℕ) (rest all : List (List ℕ)) → all ≡ line ∷ rest → read_line allowed sofar line ≡ Err error → (read_lines allowed sofar all >>= finished) ≡ Err error
step_refused allowed sofar error line rest all cut read =
    ap (λ (lines : List (List ℕ)). read_lines allowed sofar lines >>= finished) cut
    ∙ ap (λ (told : Result Reading ScriptError). (told >>= λ more. read_lines allowed more rest) >>= finished) read

-- What a path leads to, and what a `cat` or a `stat` of it comes to.
use Rattle.std.specs.Prelude.{◌≡◌, ℕ, true, false, List, [], ◌∷◌}
use Rattle.plain_types.specs.declared.answer.Answer.{Answer}
use Rattle.plain_types.specs.declared.answer.Answer.TheVariants.{FoundLive}
use Rattle.plain_journal.specs.Answers.{found}
use Rattle.plain_journal.specs.Coverage.{is_purged}
use Rattle.plain_journal.specs.Entries.{state_after}
use Rattle.plain_journal.specs.Legal.{is_made_file}
use Rattle.step_table.specs.Acts.{AnswerIt}
use Rattle.step_table.specs.Capabilities.{ask_found, found_live, owing}
use Rattle.step_table.specs.Requests.{look_at, settled_answer}
use Rattle.step_table.specs.ServerState.{Asked, Server}
use Rattle.mds_asks.specs.declared.sight.Sight.{Sight}
use Rattle.mds_asks.specs.declared.sight.Sight.TheVariants.{Live, Past, Other}

-- a live file was made and wants a capability; a file in a snapshot wants its flush, and the snapshot wasn't purged; the
-- rest is answered
abbrev pub IsSight : Server → List (List ℕ) → Sight → Type 0
IsSight s path (Live ino perm size) =
    (is_made_file (state_after s.entries) ino ≡ true)
    × (FoundLive ino perm size false ≡ found_live s ino false)
    × ((a : Asked) (answer : Answer) → look_at s a answer (found s.entries path) ≡ ask_found s a.client ino)
IsSight s path (Past ino id) =
    (is_purged s.entries id ≡ false)
    × ((a : Asked) (answer : Answer) → look_at s a answer (found s.entries path) ≡ AnswerIt (settled_answer answer (owing s ino id)) ∷ [])
IsSight s path Other = (a : Asked) (answer : Answer) → look_at s a answer (found s.entries path) ≡ AnswerIt answer ∷ []

use Rattle.server_holders.proofs.Changes.{let_go, let_go_unmarked}
use Rattle.server_holders.proofs.acts.a_file_is_let_go.Goals as goal

pub returns-clause-marks_stay : goal.returns-clause-marks_stay
returns-clause-marks_stay c held marks s client ino stands = let_go held marks s.holders stands client ino

pub returns-clause-mark_goes : goal.returns-clause-mark_goes
returns-clause-mark_goes c held marks s client ino stands = let_go_unmarked held marks s.holders stands client ino

use Rattle.std.proofs.Common.{◌≡◌, ◌<◌, true, refl, sym, subst}
use Rattle.plain_types.specs.declared.change.Change.{Change}
use Rattle.plain_tree.specs.Line.{answer_to}
use Rattle.plain_types.specs.declared.change.Change.TheVariants.{Mksnap, OpenFile}
use Rattle.session_link.specs.Sessions.{Link, has_effect}
use Rattle.server_sessions.proofs.Steps.{session_found}
use Rattle.server_sessions.proofs.laws.calls_are_fine.Goals as goal

all_effects : (change : Change) → has_effect (answer_to change) ≡ true
all_effects (Mksnap id dir name) = refl
all_effects (OpenFile handle ino writable) = refl
all_effects change = refl

pub returns-clause-effect : goal.returns-clause-effect
returns-clause-effect c change = all_effects change

pub returns-clause-flush : goal.returns-clause-flush
returns-clause-flush c links s client number stands from_one upto below =
    subst (λ (link : Link). link.last_flush < number) (sym (session_found links s client stands from_one upto)) below

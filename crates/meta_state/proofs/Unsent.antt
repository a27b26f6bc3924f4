-- The dead files, and the least that isn't in a list.
use Rattle.std.proofs.Common.{◌≡◌, List, ap, ◌∙◌}
use Rattle.std.specs.Prelude.{find, not}
use Rattle.snap_ids.specs.declared.id.Ino.{Ino}
use Rattle.plain_types.specs.declared.entry.Entry.{Entry}
use Rattle.plain_journal.specs.Entries.{state_after}
use Rattle.plain_journal.specs.Table.{dead, is_collected}
use Rattle.file_uses.specs.Uses.{Uses, dead_of, is_among}
use Rattle.journal_uses.specs.Stands.{uses_after}
use Rattle.journal_uses.proofs.Dead.{dead_same}

pub dead_files_are : (uses : Uses) (entries : List Entry) → uses ≡ uses_after entries → dead_of uses ≡ dead entries
dead_files_are uses entries is = ap dead_of is ∙ dead_same (state_after entries) (is_collected entries) (state_after entries).inodes

pub next_dead_is : (uses : Uses) (entries : List Entry) (sent : List Ino) → uses ≡ uses_after entries → find (λ (ino : Ino). not (is_among sent ino)) (dead_of uses) ≡ find (λ (ino : Ino). not (is_among sent ino)) (dead entries)
next_dead_is uses entries sent is =
    ap (find (λ (ino : Ino). not (is_among sent ino))) (dead_files_are uses entries is)

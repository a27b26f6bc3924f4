use Rattle.std.proofs.Common.{◌≡◌, ℕ, ◌++◌, length}
use Rattle.snap_notice.specs.Notices.{of_client, file_trace}
use Rattle.snap_notice.proofs.Files.{AllThere}
use Rattle.snap_notice.proofs.notice.files_for.Given as goal

-- what was told, and what is left
abbrev pub invariant-loop-file : goal.invariant-loop-file
invariant-loop-file l = record {
  there : AllThere l.realms l.left;
  same : l.files.items ++ of_client (file_trace l.realms) l.client l.left ≡ of_client (file_trace l.realms) l.client l.told;
}

abbrev pub decreases-loop-file : goal.decreases-loop-file
decreases-loop-file l = length l.left

use Rattle.std.proofs.Common.{◌≡◌}
use Rattle.std.specs.List.{flat_map, range_with_len}
use Rattle.snap_notice.specs.Notices.{of_client, notice, file_trace}
use Rattle.snap_notice.proofs.notice.all_notices.Given as goal

-- the clients so far are told
abbrev pub invariant-loop-number : goal.invariant-loop-number
invariant-loop-number l = l.list.items ≡ flat_map (λ client. notice client (of_client (file_trace l.realms) client l.told)) (range_with_len 0 l.number)

use Rattle.std.proofs.Common.{ap, sym, ◌++◌, ◌∙◌, arith}
use Rattle.std.specs.List.{flat_map}
use Rattle.snap_notice.specs.Notices.{of_client, notice, file_trace}
use Rattle.snap_notice.proofs.Files.{next_client, clients_are}
use Rattle.snap_notice.proofs.notice.all_notices.Goals as goal

-- one more client is told
pub loop-number-preserved : goal.loop-number-preserved
loop-number-preserved c =
    c.in_ok-push_notice.ensures
    ∙ (λ i. c.loop-number.invariant i ++ notice c.loop-number.number (c.in_ok-files.ensures i))
    ∙ sym (next_client (λ client. notice client (of_client (file_trace c.args.realms.now) client c.args.told.now)) c.loop-number.number)

-- all are
pub returns : goal.returns
returns c =
    c.loop-number.invariant
    ∙ ap (flat_map (λ client. notice client (of_client (file_trace c.args.realms.now) client c.args.told.now))) (clients_are c.loop-number.number (omega (arith, c.loop-number-test.false, c.loop-number.auto.number-end)))

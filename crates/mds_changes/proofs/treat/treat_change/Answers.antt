use Rattle.std.proofs.Common.{Some}
use Rattle.mds_changes.proofs.Makes.{acted, decided_so}
use Rattle.mds_changes.proofs.treat.treat_change.Goals as goal

pub follow-requires : goal.follow-requires
follow-requires c =
    let may = c.requires.may in
    let taken = Some c.args.asked in
    record {
      may = record {
        state = may.state;
        stands = may.stands;
        fit = may.fit;
        is = decided_so may.state c.args.asked c.in_ok-decision.decision c.client.result c.tid.result c.next_id-id.result c.request.result.now
            c.client.ensures c.tid.ensures (c.next_id-id.ensures may.state taken may.stands) c.request.ensures c.requires.change
            (λ made. c.in_ok-decision.ensures.written may.state taken made may.stands)
            (c.in_ok-decision.ensures.legal may.state taken may.stands)
            (λ refusal. c.in_ok-decision.ensures.refused may.state taken refusal may.stands);
      };
    }

pub returns-clause-acts : goal.returns-clause-acts
returns-clause-acts c = λ s stands fit.
    let taken = Some c.args.asked in
    acted c.follow.new.state c.args.alone s c.args.asked c.requires.change
    (c.in_ok-follow.ensures.table s stands fit
    (decided_so s c.args.asked c.in_ok-decision.decision c.client.result c.tid.result c.next_id-id.result c.request.result.now
    c.client.ensures c.tid.ensures (c.next_id-id.ensures s taken stands) c.request.ensures c.requires.change
    (λ made. c.in_ok-decision.ensures.written s taken made stands)
    (c.in_ok-decision.ensures.legal s taken stands)
    (λ refusal. c.in_ok-decision.ensures.refused s taken refusal stands)))

use Rattle.std.proofs.Common.{◌≡◌, true, Some, ◌∙◌, sym, rules}
use Rattle.plain_journal.specs.Legal.{is_given}
use Rattle.mds_turns.proofs.Finishes.{ends_so}
use Rattle.mds_turns.proofs.finish.finish.Goals as goal

pub follow-requires : goal.follow-requires
follow-requires c =
    let may = c.requires.may in
    let taken = Some c.args.asked in
    let passed : c.is_given.result ≡ true = search rules in
    let given : is_given c.args.id ≡ true = sym c.is_given.ensures ∙ passed in
    record {
      may = record {
        state = may.state;
        stands = may.stands;
        fit = may.fit;
        ends = ends_so may.state c.args.asked c.in_ok-decision.decision c.client.result c.tid.result c.args.id c.request.result.now
            c.client.ensures c.tid.ensures c.request.ensures given may.was
            (λ made. c.in_ok-decision.ensures.written may.state taken made may.stands)
            (c.in_ok-decision.ensures.legal may.state taken may.stands)
            (λ refusal. c.in_ok-decision.ensures.refused may.state taken refusal may.stands);
      };
    }

pub returns-clause-table : goal.returns-clause-table
returns-clause-table c = λ s stands fit was.
    let taken = Some c.args.asked in
    let passed : c.is_given.result ≡ true = search rules in
    let given : is_given c.args.id ≡ true = sym c.is_given.ensures ∙ passed in
    c.in_ok-follow.ensures.table s stands fit
    (ends_so s c.args.asked c.in_ok-decision.decision c.client.result c.tid.result c.args.id c.request.result.now
    c.client.ensures c.tid.ensures c.request.ensures given was
    (λ made. c.in_ok-decision.ensures.written s taken made stands)
    (c.in_ok-decision.ensures.legal s taken stands)
    (λ refusal. c.in_ok-decision.ensures.refused s taken refusal stands))

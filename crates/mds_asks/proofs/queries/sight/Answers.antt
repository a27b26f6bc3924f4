use Rattle.std.proofs.Common.{List, ℕ, ap, ◌∙◌}
use Rattle.plain_journal.specs.Answers.{answer_to, found}
use Rattle.plain_types.specs.declared.request.Query.TheVariants as query
use Rattle.mds_asks.proofs.Asked.{found_past}
use Rattle.mds_asks.proofs.queries.sight.Goals as goal

pub returns : goal.returns
returns c = λ s taken stands past.
    c.sight_of.ensures s c.args.path.now stands.written.tree.journal
    (c.in_ok-there.ensures s taken stands (found_past s.entries (found s.entries c.in_ok-path.path) past)
    ∙ ap (λ (path : List (List ℕ)). answer_to s.entries (query.Cat path)) c.in_ok-path.ensures)

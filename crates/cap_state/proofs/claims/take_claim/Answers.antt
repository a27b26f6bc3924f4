use Rattle.std.proofs.Common.{List, ap, sym, ◌∙◌}
use Rattle.std.specs.List.{list_any}
use Rattle.cap_state.specs.Table.{Holding, bars, holders_of}
use Rattle.cap_state.proofs.Apart.{apart_from_unbarred}
use Rattle.cap_state.proofs.claims.take_claim.Goals as goal

-- nothing of the file stands in the way
pub put-requires-clause-apart : goal.put-requires-clause-apart
put-requires-clause-apart c =
    let test = list_any (bars c.args.client c.args.claim.now.mode) in
    apart_from_unbarred c.args.client c.args.claim.now c.args.held.now.items
    (ap (λ (held : List Holding). test (holders_of c.args.claim.now.ino held)) (sym c.deref.ensures.value)
    ∙ ap test (sym c.of_file.ensures)
    ∙ sym c.are_in_the_way.ensures
    ∙ c.if-not-are_in_the_way.true)

use Rattle.std.proofs.Common.{◌≡◌, get_or, set, ap, sym, subst, ◌∙◌}
use Rattle.plain_types.specs.declared.message.Claim.{Claim}
use Rattle.cap_state.specs.Table.{Holding, IsTable, writes, raised, flushed}
use Rattle.cap_state.specs.Places.{IsPlace, IsGap}
use Rattle.cap_state.proofs.Edits.{table_flushed, flushed_here, any_writer_here, reader_not_flushed, reader_no_writer, any_writer_none, flushed_none}
use Rattle.cap_state.proofs.places.settle.Goals as goal
use Rattle.cap_state.proofs.places.settle.Goals.{After-writes-is_writer, After-raised, Else-is_writer, In-Err}

here : (c : After-writes-is_writer) → IsPlace c.args.client c.args.ino c.args.held.now.items c.in-Ok.at
here c = subst (λ held. IsPlace c.args.client c.args.ino held c.in-Ok.at) c.deref.ensures.value c.in-Ok.ensures.found

-- the mode of the holding at the place
mode : (c : After-writes-is_writer) → writes (get_or c.args.held.now.items c.in-Ok.at c.index.result.now).1.mode ≡ c.writes-is_writer.result
mode c = ap (λ (h : Holding). writes h.1.mode) (sym c.index.ensures) ∙ sym c.writes-is_writer.ensures

gap : (c : In-Err) → IsGap c.args.client c.args.ino c.args.held.now.items c.in-Err.field-0
gap c = subst (λ held. IsGap c.args.client c.args.ino held c.in-Err.field-0) c.deref.ensures.value c.in-Err.ensures.absent

-- what is written is the flushed holding
written : (c : After-raised) → set c.args.held.now.items c.in-Ok.at (c.args.client, c.raised.result) ≡ flushed c.args.client c.args.ino c.args.upto c.args.held.now.items
written c =
    let it = (goal.at.After-raised c).After-writes-is_writer in
    ap (λ (k : Claim). set c.args.held.now.items c.in-Ok.at (c.args.client, k)) (c.raised.ensures ∙ ap (λ (h : Holding). raised c.args.upto h.1) c.index.ensures)
    ∙ sym (flushed_here c.args.client c.args.ino c.args.held.now.items c.in-Ok.at (here it) c.index.result.now c.args.upto (mode it ∙ c.if-is_writer.true))

pub returns-then-is_writer-clause-flushed : goal.returns-then-is_writer-clause-flushed
returns-then-is_writer-clause-flushed c = written (goal.at.returns-then-is_writer-clause-flushed c).After-raised

pub returns-then-is_writer-clause-table : goal.returns-then-is_writer-clause-table
returns-then-is_writer-clause-table c =
    subst IsTable (sym (written (goal.at.returns-then-is_writer-clause-table c).After-raised)) (table_flushed c.args.client c.args.ino c.args.upto c.args.held.now.items c.requires)

pub returns-then-is_writer-clause-said : goal.returns-then-is_writer-clause-said
returns-then-is_writer-clause-said c =
    let it = (goal.at.returns-then-is_writer-clause-said c).After-writes-is_writer in
    c.if-is_writer.true ∙ sym (any_writer_here c.args.client c.args.ino c.args.held.now.items c.in-Ok.at (here it) c.index.result.now (mode it ∙ c.if-is_writer.true))

pub returns-else-is_writer-clause-said : goal.returns-else-is_writer-clause-said
returns-else-is_writer-clause-said c =
    let it = (goal.at.returns-else-is_writer-clause-said c).After-writes-is_writer in
    c.if-is_writer.false ∙ sym (reader_no_writer c.args.client c.args.ino c.args.held.now.items c.in-Ok.at (here it) c.index.result.now (mode it ∙ c.if-is_writer.false))

pub returns-else-is_writer-clause-flushed : goal.returns-else-is_writer-clause-flushed
returns-else-is_writer-clause-flushed c =
    let it = (goal.at.returns-else-is_writer-clause-flushed c).After-writes-is_writer in
    sym (reader_not_flushed c.args.client c.args.ino c.args.held.now.items c.in-Ok.at (here it) c.index.result.now c.args.upto (mode it ∙ c.if-is_writer.false))

pub returns-in-Err-clause-said : goal.returns-in-Err-clause-said
returns-in-Err-clause-said c =
    let it = (goal.at.returns-in-Err-clause-said c).In-Err in sym (any_writer_none c.args.client c.args.ino c.args.held.now.items _ (gap it))

pub returns-in-Err-clause-flushed : goal.returns-in-Err-clause-flushed
returns-in-Err-clause-flushed c =
    let it = (goal.at.returns-in-Err-clause-flushed c).In-Err in sym (flushed_none c.args.client c.args.ino c.args.held.now.items _ (gap it) c.args.upto)

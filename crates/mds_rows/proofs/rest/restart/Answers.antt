use Rattle.std.proofs.Common.{length, None, refl}
use Rattle.step_table.specs.ServerRows.{left_with}
use Rattle.mds_rows.proofs.Quiet.{began, whole}
use Rattle.mds_rows.proofs.rest.restart.Goals as goal

pub begin_anew-requires : goal.begin_anew-requires
begin_anew-requires c = record {
  taken = None;
  state = left_with (began c.args.clients c.args.entries) (length c.args.entries);
  stands = c.in_ok-state.ensures.table (began c.args.clients c.args.entries) refl (whole c.args.entries);
}

pub returns-clause-row : goal.returns-clause-row
returns-clause-row c = λ s same front.
    let gives = c.in_ok-sent.ensures.row (left_with s (length c.args.entries)) (c.in_ok-state.ensures.table s same front) in
    record { stands = gives.stands; sends = gives.sends; traces = gives.traces }

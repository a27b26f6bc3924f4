use Rattle.std.proofs.Common.{[], map, refl, ap, subst, sym, ◌∙◌}
use Rattle.std.specs.List.{list_all}
use Rattle.mds_state.specs.Parts.{TenureParts, marks_in}
use Rattle.mds_state.specs.Stands.{letter_traces_fit, bare, plain_mail, TenuresStand}
use Rattle.mds_state.proofs.state.MdsState.lost.Goals as goal

pub returns-clause-table : goal.returns-clause-table
returns-clause-table c =
    let first = c.sessions_are_found_again.ensures (bare c.args.clients [] []) 0 tt in
    record {
      clients = refl;
      written = c.in_ok-written.ensures c.args.clients;
      sessions = record { each = c.in_ok-sessions.ensures ∙ first.each; numbered = first.numbered };
      tenures = subst (λ (t : TenureParts). TenuresStand t c.args.clients [] []) (sym c.new-2.ensures)
          (record { table = tt; stands = c.no_holders_stand.ensures (marks_in []); alone = tt; theirs = refl; made = refl });
      mail = ap (map plain_mail) c.new-3.ensures.items;
      traces = ap (list_all letter_traces_fit) c.new-3.ensures.items;
      hand = refl;
      held = c.new-4.ensures;
      deferred = c.new-5.ensures;
      operation = refl;
      purging = c.new-6.ensures.items;
      deleting = c.new-7.ensures;
    }

use Rattle.std.proofs.Common.{subst, sym, arith}
use Rattle.mds_state.specs.Parts.{Parts}
use Rattle.mds_state.specs.Stands.{StandsFor}
use Rattle.mds_state.proofs.Enters.{enters}
use Rattle.mds_state.proofs.Quiet.{enters_in, flush_above}
use Rattle.mds_state.proofs.state.MdsState.enter.Goals as goal

pub note_in-requires : goal.note_in-requires
note_in-requires c =
    let is = c.requires in
    let now = subst (λ (p : Parts). StandsFor p is.taken is.state) (sym c.self.view_is) is.stands in
    record {
      upto = omega (arith, is.may.whose.0, c.self.invariant, now.clients);
      flush = flush_above _ is.taken is.state c.args.entry now is.may.whose is.may.rises;
    }

pub enter-requires : goal.enter-requires
enter-requires c =
    let is = c.requires in
    let now = subst (λ (p : Parts). StandsFor p is.taken is.state) (sym c.self.view_is) is.stands in
    record { clients = is.state.clients; entries = is.state.entries; done = is.state.durable; stands = now.written; may = is.may }

pub returns-clause-table : goal.returns-clause-table
returns-clause-table c = λ s taken stands may.
    let now = subst (λ (p : Parts). StandsFor p taken s) (sym c.self.view_is) stands in
    enters_in _ taken s c.args.entry c.enter.new.self c.note_in.new.sessions.items now
    (enters c.args.entry c.self.inside.written c.enter.new.self s.clients s.entries s.durable c.in_ok-enter.ensures now.written may)
    c.note_in.ensures.called may.whose

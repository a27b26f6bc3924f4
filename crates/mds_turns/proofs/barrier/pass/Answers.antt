use Rattle.std.proofs.Common.{◌≡◌, ℕ, subst, sym, ◌∙◌}
use Rattle.std.specs.Prelude.{flat_map}
use Rattle.plain_types.specs.declared.entry.What.TheVariants.{Barrier}
use Rattle.step_table.specs.Acts.{act, acts, own_entry, Buffer}
use Rattle.step_table.specs.Background.{open_to}
use Rattle.step_table.specs.ServerState.{up_to}
use Rattle.mds_state.specs.Acted.{Stands}
use Rattle.mds_asks.proofs.Acting.{stands_so}
use Rattle.mds_turns.proofs.barrier.pass.Goals as goal

pub open_all-requires : goal.open_all-requires
open_all-requires c =
    let at = c.requires.state in
    let t = act at.state (Buffer (own_entry (Barrier c.args.number))) in
    record { state = record { state = t; stands = stands_so c.write_own.new.state at.state.hand t (c.in_ok-write_own.ensures.table at.state at.state.hand at.stands) } }

pub returns-clause-table : goal.returns-clause-table
returns-clause-table c = λ s stands.
    let t = act s (Buffer (own_entry (Barrier c.args.number))) in
    let entered = c.in_ok-write_own.ensures.table s s.hand stands in
    let same : t.clients ≡ s.clients = sym entered.clients ∙ c.in_ok-write_own.ensures.clients ∙ stands.clients in
    subst (λ (n : ℕ). Stands c.open_all.new.state (acts t (flat_map open_to (up_to n)))) same
    (c.in_ok-open_all.ensures.table t (stands_so c.write_own.new.state s.hand t entered))

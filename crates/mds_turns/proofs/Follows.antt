-- The entries that the server makes by itself may follow any others.
use Rattle.std.proofs.Common.{◌≡◌, ℕ, ◌≤◌, true, refl, sym, subst, arith}
use Rattle.plain_types.specs.declared.entry.Entry.{Entry}
use Rattle.plain_types.specs.declared.entry.What.{What}
use Rattle.plain_types.specs.declared.entry.What.TheVariants as what
use Rattle.step_table.specs.Acts.{own_entry}
use Rattle.step_table.specs.ServerState.{Server}
use Rattle.mds_state.specs.Parts.{Parts}
use Rattle.mds_state.specs.Stands.{IsState, MayBuffer, MayFollow}
use Rattle.mds_turns.specs.Finishing.{is_own}

least : (n : ℕ) → 0 ≤ n
least n = omega arith

pub own_follows : (s : Server) (w : What) → is_own w ≡ true → MayFollow s.clients s.entries (own_entry w)
own_follows s (what.Rollback id) own = record { legal = refl; ruled = tt; whose = (least s.clients, λ zero. (refl, refl)); rises = λ flush. cc }
own_follows s (what.Trim id) own = record { legal = refl; ruled = tt; whose = (least s.clients, λ zero. (refl, refl)); rises = λ flush. cc }
own_follows s (what.Barrier number) own = record { legal = refl; ruled = tt; whose = (least s.clients, λ zero. (refl, refl)); rises = λ flush. cc }
own_follows s w own = cc

pub may_own : (p : Parts) (w : What) (e : Entry) → e ≡ own_entry w → IsState p → is_own w ≡ true → MayBuffer p e
may_own p w e is state own = record {
  taken = state.taken;
  state = state.state;
  stands = state.stands;
  may = subst (MayFollow state.state.clients state.state.entries) (sym is) (own_follows state.state w own);
}

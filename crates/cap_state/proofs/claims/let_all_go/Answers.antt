use Rattle.std.proofs.Common.{◌≡◌, rules, not, eqb, sym, subst}
use Rattle.std.proofs.lemmas.Fn.{filter_same}
use Rattle.cap_state.specs.Table.{Holding, IsTable, of_others}
use Rattle.cap_state.proofs.Order.{table_filter}
use Rattle.cap_state.proofs.claims.let_all_go.Goals as goal
use Rattle.cap_state.proofs.claims.let_all_go.Goals.{After-retain}

kept : (c : After-retain) → c.retain.new.self.items ≡ of_others c.args.client c.args.held.now.items
kept c = filter_same _ (λ (h : Holding). not (eqb h.0 c.args.client)) _ (λ x b q k. search rules) _ _ c.retain.ensures.filtered

pub returns-clause-gone : goal.returns-clause-gone
returns-clause-gone c = kept (goal.at.returns-clause-gone c).After-retain

pub returns-clause-table : goal.returns-clause-table
returns-clause-table c =
    subst IsTable (sym (kept (goal.at.returns-clause-table c).After-retain))
    (table_filter (λ (h : Holding). not (eqb h.0 c.args.client)) c.args.held.now.items c.requires)

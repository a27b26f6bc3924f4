-- How a request in hand is treated, case by case.
use Rattle.std.proofs.Common.{◌≡◌, [], ◌∷◌, Bool, true, false, cond, Option, None, Some, sym, subst}
use Rattle.plain_types.specs.declared.answer.Answer.{Answer}
use Rattle.step_table.specs.ServerState.{Asked, Server, all_connected}
use Rattle.step_table.specs.Acts.{Wait}
use Rattle.step_table.specs.Requests.{treat, treat_known, treat_new, kept_answer, is_operation}
use Rattle.mds_state.specs.Parts.{Parts}
use Rattle.mds_state.specs.Acted.{Acted}
use Rattle.mds_state.specs.Stands.{StandsFor}
use Rattle.mds_requests.proofs.Turned.{as_it_is}

module _ (p : Parts) (s : Server) (a : Asked) (alone opened : Bool) where
  pub other_one : is_operation s a ≡ false → Acted p s (treat_new alone s a a.request) opened → Acted p s (treat_known alone s a None) opened
  other_one is acted = subst (λ (b : Bool). Acted p s (cond b [] (treat_new alone s a a.request)) opened) (sym is) acted

  pub the_same : is_operation s a ≡ true → StandsFor p (Some a) s → opened ≡ false → Acted p s (treat_known alone s a None) opened
  the_same is stands none = subst (λ (b : Bool). Acted p s (cond b [] (treat_new alone s a a.request)) opened) (sym is) (as_it_is p (Some a) s stands, none)

  pub known_so : (o : Option Answer) → o ≡ kept_answer s a → Acted p s (treat_known alone s a o) opened → Acted p s (treat_known alone s a (kept_answer s a)) opened
  known_so o same acted = subst (λ (k : Option Answer). Acted p s (treat_known alone s a k) opened) same acted

  pub where_all : all_connected s ≡ true → Acted p s (treat_known alone s a (kept_answer s a)) opened → Acted p s (treat alone s a) opened
  where_all is acted = subst (λ (b : Bool). Acted p s (cond b (treat_known alone s a (kept_answer s a)) (Wait ∷ [])) opened) (sym is) acted

  pub where_some_lack : all_connected s ≡ false → Acted p s (Wait ∷ []) opened → Acted p s (treat alone s a) opened
  where_some_lack is acted = subst (λ (b : Bool). Acted p s (cond b (treat_known alone s a (kept_answer s a)) (Wait ∷ [])) opened) (sym is) acted

use Rattle.std.proofs.Common.{◌≡◌, ℕ, ◌++◌, ◌∷◌, [], replicate, ap, ◌∙◌, arith}
use Rattle.std.proofs.lemmas.List.{replicate_more}
use Rattle.session_link.specs.Sessions.{first}
use Rattle.mds_state.proofs.state.first_sessions.Goals as goal

pub loop-made-preserved : goal.loop-made-preserved
loop-made-preserved c =
    (c.in_ok-push.ensures.items ∙ (λ i. c.loop-made.invariant.0 i ++ c.first.ensures i ∷ []) ∙ replicate_more c.loop-made.made first, omega arith)

pub returns : goal.returns
returns c =
    let same : c.loop-made.made ≡ c.args.clients = omega (arith, c.loop-made.invariant.1) in
    c.loop-made.invariant.0 ∙ ap (λ (n : ℕ). replicate n first) same

use Rattle.std.proofs.Common.{◌≡◌, [], Bool, true, false, refl, rules, ap, sym, ◌∙◌}
use Rattle.std.specs.Prelude.{◌&&◌}
use Rattle.std.specs.List.{list_all}
use Rattle.std.proofs.lemmas.List.{nil_from_length}
use Rattle.mds_flushes.specs.Takes.{is_known_claim}
use Rattle.mds_flushes.proofs.back.knows_claims.Goals as goal

pub loop-claim-init : goal.loop-claim-init
loop-claim-init c = λ s taken stands. refl

pub returns-then-not-knows_file : goal.returns-then-not-knows_file
returns-then-not-knows_file c = λ s taken stands.
    let failed : c.knows_file.result ≡ false = search rules in
    ap (λ (b : Bool). b && list_all (is_known_claim s) c.in-Some.rest.now) (sym failed ∙ c.knows_file.ensures s taken stands)
    ∙ sym (ap (list_all (is_known_claim s)) c.in-Some.ensures.cases.0)
    ∙ c.loop-claim.invariant s taken stands

pub loop-claim-preserved : goal.loop-claim-preserved
loop-claim-preserved c = λ s taken stands.
    let passed : c.knows_file.result ≡ true = search rules in
    ap (λ (b : Bool). b && list_all (is_known_claim s) c.in-Some.rest.now) (sym passed ∙ c.knows_file.ensures s taken stands)
    ∙ sym (ap (list_all (is_known_claim s)) c.in-Some.ensures.cases.0)
    ∙ c.loop-claim.invariant s taken stands

pub returns : goal.returns
returns c = λ s taken stands.
    let none : c.loop-claim.left.now ≡ [] = nil_from_length _ c.in_default.ensures.cases in
    ap (list_all (is_known_claim s)) (sym none) ∙ c.loop-claim.invariant s taken stands

use Rattle.std.proofs.Common.{◌≡◌, [], Bool, true, false, refl, rules, ap, sym, ◌∙◌}
use Rattle.std.specs.Prelude.{◌&&◌}
use Rattle.std.specs.List.{list_all}
use Rattle.std.proofs.lemmas.List.{nil_from_length}
use Rattle.mds_flushes.specs.Takes.{is_known}
use Rattle.mds_flushes.proofs.back.knows_flushes.Goals as goal

pub loop-flush-init : goal.loop-flush-init
loop-flush-init c = λ s taken stands. refl

pub returns-then-not-knows_file : goal.returns-then-not-knows_file
returns-then-not-knows_file c = λ s taken stands.
    let failed : c.knows_file.result ≡ false = search rules in
    ap (λ (b : Bool). b && list_all (is_known s) c.in-Some.rest.now) (sym failed ∙ c.knows_file.ensures s taken stands)
    ∙ sym (ap (list_all (is_known s)) c.in-Some.ensures.cases.0)
    ∙ c.loop-flush.invariant s taken stands

pub loop-flush-preserved : goal.loop-flush-preserved
loop-flush-preserved c = λ s taken stands.
    let passed : c.knows_file.result ≡ true = search rules in
    ap (λ (b : Bool). b && list_all (is_known s) c.in-Some.rest.now) (sym passed ∙ c.knows_file.ensures s taken stands)
    ∙ sym (ap (list_all (is_known s)) c.in-Some.ensures.cases.0)
    ∙ c.loop-flush.invariant s taken stands

pub returns : goal.returns
returns c = λ s taken stands.
    let none : c.loop-flush.left.now ≡ [] = nil_from_length _ c.in_default.ensures.cases in
    ap (list_all (is_known s)) (sym none) ∙ c.loop-flush.invariant s taken stands

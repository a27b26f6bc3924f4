use Rattle.std.proofs.Common.{◌≡◌, ℕ, ◌≤◌, Bool, true, Option, Some, refl, sym, subst, ◌∙◌}
use Rattle.plain_types.specs.declared.request.Request.{Request}
use Rattle.step_table.specs.Acts.{GrantIt, acts}
use Rattle.step_table.specs.Capabilities.{give}
use Rattle.step_table.specs.Flushes.{knows_asked}
use Rattle.mds_state.specs.Stands.{StandsFor}
use Rattle.mds_asks.specs.Others.{IsAsked, after_asked}
use Rattle.mds_asks.proofs.Given.{free, has_file, refused, still_made}
use Rattle.mds_asks.proofs.caps.ask_cap.Goals as goal

pub grant-requires : goal.grant-requires
grant-requires c =
    let is = c.requires.may in
    let a = c.args.asked.now in
    let made = subst (λ (r : Request). knows_asked is.state r ≡ true) c.requires.asks is.fit.known in
    let stands = subst (λ (g : Option Bool). StandsFor c.ask.new.state (Some a) (after_asked g is.state a.client c.args.ino c.args.mode)) c.in-Some.is (c.in_ok-given.ensures.table is.state (Some a) is.stands made) in
    record {
      from_one = is.fit.from_one;
      upto = subst (λ (n : ℕ). a.client ≤ n) (sym (c.in_ok-given.ensures.clients ∙ is.stands.clients)) is.fit.upto;
      file =
          has_file c.ask.new.state (Some a) (acts is.state (give is.state a.client c.args.ino c.args.mode)) c.args.ino stands
          (still_made is.state a.client c.args.ino c.args.mode made);
    }

pub returns-in-None-clause-acts : goal.returns-in-None-clause-acts
returns-in-None-clause-acts c = λ s stands known.
    let a = c.args.asked.now in
    refused c.ask.new.state a s c.args.ino c.args.mode (GrantIt c.args.ino c.args.mode)
    (subst (λ (g : Option Bool). IsAsked g s a.client c.args.ino c.args.mode) c.in-None.is (c.in_ok-given.ensures.answer s (Some a) stands))
    (subst (λ (g : Option Bool). StandsFor c.ask.new.state (Some a) (after_asked g s a.client c.args.ino c.args.mode)) c.in-None.is (c.in_ok-given.ensures.table s (Some a) stands known))

pub returns-in_ok-grant-in-Some-clause-acts : goal.returns-in_ok-grant-in-Some-clause-acts
returns-in_ok-grant-in-Some-clause-acts c = λ s stands known.
    let a = c.args.asked.now in
    free c.grant.new.self a s c.args.ino c.args.mode (GrantIt c.args.ino c.args.mode) c.in-Some.opened
    (subst (λ (g : Option Bool). IsAsked g s a.client c.args.ino c.args.mode) c.in-Some.is (c.in_ok-given.ensures.answer s (Some a) stands))
    refl
    (c.in_ok-grant-in-Some.ensures.table (acts s (give s a.client c.args.ino c.args.mode))
    (subst (λ (g : Option Bool). StandsFor c.ask.new.state (Some a) (after_asked g s a.client c.args.ino c.args.mode)) c.in-Some.is (c.in_ok-given.ensures.table s (Some a) stands known))
    (still_made s a.client c.args.ino c.args.mode known))

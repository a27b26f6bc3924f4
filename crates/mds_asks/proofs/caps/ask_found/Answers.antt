use Rattle.std.proofs.Common.{◌≡◌, ℕ, ◌≤◌, true, false, Some, sym, subst, ◌∙◌}
use Rattle.std.specs.List.{list_any}
use Rattle.plain_types.specs.declared.answer.Answer.TheVariants.{FoundLive}
use Rattle.step_table.specs.ServerState.{is_writer}
use Rattle.mds_asks.proofs.Given.{reads_it, writes_it, written}
use Rattle.mds_asks.proofs.caps.ask_found.Goals as goal

pub answer-requires : goal.answer-requires
answer-requires c =
    let is = c.requires in
    record {
      from_one = is.fit.from_one;
      upto = subst (λ (n : ℕ). c.args.asked.now.client ≤ n) (sym is.stands.clients) is.fit.upto;
    }

pub returns-then-writes-clause-acts : goal.returns-then-writes-clause-acts
returns-then-writes-clause-acts c = λ s stands made same.
    let a = c.args.asked.now in
    let is = sym (c.writes.ensures s (Some a) stands) ∙ c.if-writes.true in
    writes_it c.answer.new.self a s c.args.ino c.found_live.result
    (subst (λ (n : ℕ). list_any (is_writer n c.args.ino) s.holders ≡ true) c.client.ensures is)
    (c.found_live.ensures ∙ written s c.args.ino c.args.perm c.args.size same)
    (c.in_ok-answer.ensures.table s stands)

pub returns-clause-acts : goal.returns-clause-acts
returns-clause-acts c = λ s stands made same.
    let a = c.args.asked.now in
    let is = sym (c.writes.ensures s (Some a) stands) ∙ c.if-writes.false in
    reads_it c.ask_read.new.state a s c.args.ino (FoundLive c.args.ino c.args.perm c.args.size false) c.in_ok-treated.treated
    (subst (λ (n : ℕ). list_any (is_writer n c.args.ino) s.holders ≡ false) c.client.ensures is)
    same
    (c.in_ok-treated.ensures.acts s stands made)

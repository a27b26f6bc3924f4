use Rattle.std.proofs.Common.{rules, ◌≡◌, true, false, nat_lt}
use Rattle.client_state.proofs.Changed.{kept_mark, kept_none}
use Rattle.client_state.proofs.state.ClientState.keep_mark.Goals as goal

pub returns-then-lt : goal.returns-then-lt
returns-then-lt c =
    let grows : nat_lt c.seq_of-old.result.0 c.seq-new.result.0 ≡ true = search rules in
    kept_mark _ c.args.self.now c.self.view_is c.args.ino c.args.context.now c.seq_of-old.result c.seq-new.result c.size_of-size.result _
    c.seq_of-old.ensures c.seq-new.ensures.seq c.size_of-size.ensures grows c.in_ok-queue.ensures.marked

pub returns : goal.returns
returns c =
    let same : nat_lt c.seq_of-old.result.0 c.seq-new.result.0 ≡ false = search rules in
    kept_none c.args.self.now c.args.ino c.args.context.now c.seq_of-old.result c.seq-new.result c.seq_of-old.ensures c.seq-new.ensures.seq same

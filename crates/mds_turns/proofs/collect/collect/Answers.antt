use Rattle.std.proofs.Common.{◌≡◌, ℕ, List, [], ◌∷◌, Bool, true, false, cond, subst, sym, ◌∙◌, rules}
use Rattle.held_files.specs.Files.{is_empty}
use Rattle.step_table.specs.Acts.{act, acts, SendDelete}
use Rattle.step_table.specs.Background.{holders_of, is_due}
use Rattle.step_table.specs.Capabilities.{recalls}
use Rattle.mds_state.specs.Acted.{Stands}
use Rattle.mds_asks.specs.Others.{AreOthers}
use Rattle.mds_asks.proofs.Acting.{stands_so}
use Rattle.mds_asks.proofs.Recalled.{chosen_are}
use Rattle.mds_turns.proofs.Dead.{dead_made}
use Rattle.mds_turns.proofs.collect.collect.Goals as goal

pub send_delete-requires-clause-file : goal.send_delete-requires-clause-file
send_delete-requires-clause-file c =
    let at = c.requires.state in
    record {
      clients = at.state.clients;
      entries = at.state.entries;
      done = at.state.durable;
      stands = at.stands.written;
      made = dead_made at.state.entries at.stands.written.tree.journal (is_due at.state) c.args.ino at.first;
    }

pub returns-then-is_free-clause-table : goal.returns-then-is_free-clause-table
returns-then-is_free-clause-table c = λ s stands first.
    let none : is_empty (holders_of s c.args.ino) ≡ true = sym (c.is_free.ensures s s.hand stands) ∙ c.if-is_free.true in
    let made = dead_made s.entries stands.written.tree.journal (is_due s) c.args.ino first in
    subst (λ (b : Bool). Stands c.send_delete.new.self (acts s (cond b (SendDelete c.args.ino ∷ []) (recalls s c.args.ino (holders_of s c.args.ino))))) (sym none)
    (stands_so c.send_delete.new.self s.hand (act s (SendDelete c.args.ino)) (c.in_ok-send_delete.ensures.table s s.hand stands made))

pub recall_all-requires : goal.recall_all-requires
recall_all-requires c =
    let at = c.requires.state in
    let same : c.in_ok-holders.holders ≡ holders_of at.state c.args.ino = c.in_ok-holders.ensures ∙ c.holders_of.ensures at.state at.state.hand at.stands in
    subst (λ (n : ℕ). AreOthers n c.in_ok-holders.holders) (sym at.stands.clients) (subst (AreOthers at.state.clients) (sym same) (chosen_are at.state.clients _))

pub returns-clause-table : goal.returns-clause-table
returns-clause-table c = λ s stands first.
    let some : is_empty (holders_of s c.args.ino) ≡ false = sym (c.is_free.ensures s s.hand stands) ∙ c.if-is_free.false in
    let same : c.in_ok-holders.holders ≡ holders_of s c.args.ino = c.in_ok-holders.ensures ∙ c.holders_of.ensures s s.hand stands in
    subst (λ (b : Bool). Stands c.recall_all.new.state (acts s (cond b (SendDelete c.args.ino ∷ []) (recalls s c.args.ino (holders_of s c.args.ino))))) (sym some)
    (subst (λ (list : List ℕ). Stands c.recall_all.new.state (acts s (recalls s c.args.ino list))) same
    (stands_so c.recall_all.new.state s.hand (acts s (recalls s c.args.ino c.in_ok-holders.holders)) (c.in_ok-recall_all.ensures.table s s.hand stands)))

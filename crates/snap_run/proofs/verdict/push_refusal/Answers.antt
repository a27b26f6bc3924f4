use Rattle.std.proofs.Common.{◌≡◌, ℕ, List, [], ◌++◌, sym, ap, ◌∙◌, append_assoc}
use Rattle.std.specs.Prelude.{codes, decimal}
use Rattle.std.proofs.lemmas.List.{append-nil}
use Rattle.snap_run.specs.Run.{refusal_text}
use Rattle.snap_run.proofs.verdict.push_refusal.Goals as goal

-- two numbers with texts around them, put one after the other
two_numbers : (out before a between b behind first all : List ℕ) → first ≡ ((out ++ before) ++ a) ++ between → all ≡ ((first ++ []) ++ b) ++ behind → all ≡ out ++ ((((before ++ a) ++ between) ++ b) ++ behind)
two_numbers out before a between b behind first all one two = two ∙ rw (one, append-nil) (simp append_assoc)

pub returns-in_ok-push_numbered-in-Barriers-2 : goal.returns-in_ok-push_numbered-in-Barriers-2
returns-in_ok-push_numbered-in-Barriers-2 c =
    two_numbers c.args.out.now.items (codes "error barriers ") (decimal c.in-Barriers.a) (codes " ") (decimal c.in-Barriers.b) (codes "\n") c.push_numbered-in-Barriers.new.out.items c.push_numbered-in-Barriers-2.new.out.items
    (rw c.from.ensures at c.in_ok-push_numbered-in-Barriers.ensures)
    (rw c.from-in-Barriers.ensures at c.in_ok-push_numbered-in-Barriers-2.ensures)
    ∙ ap (λ error. c.args.out.now.items ++ refusal_text error) (sym c.in-Barriers.is)

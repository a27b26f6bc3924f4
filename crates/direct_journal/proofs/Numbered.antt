-- Lines with their numbers, and the replies that answer them.
use Rattle.std.proofs.Common.{◌≡◌, ℕ, ◌+◌, ◌<◌, ◌≤◌, List, [], ◌∷◌, Bool, true, false, cond, eqb, refl, ap, arith}
use Rattle.std.specs.Prelude.{filter, ◌&&◌}
use Rattle.std.specs.List.{AllByRecursion}
use Rattle.std.proofs.lemmas.Bool.Decides.{nat_tests}
use Rattle.plain_types.specs.declared.history.Replied.{Replied}
use Rattle.plain_types.specs.declared.script.Line.{Line}
use Rattle.direct_journal.specs.Legal.{Asked, one_more, numbered_after, is_reply_to, HasReply}

-- the line has a greater number than those of its client before
pub record IsAfter (before : ℕ → ℕ) (asked : Asked) : Type 0 where
  pub later : before asked.client < asked.number

one_more-le : (client other : ℕ) (before : ℕ → ℕ) → before other ≤ one_more client before other
one_more-le client other before =
    elim (eqb other client) as (λ t. before other ≤ cond t (before other + 1) (before other)) [ true ↦ omega arith | false ↦ omega arith ]

after_weaker : (client : ℕ) (before : ℕ → ℕ) (lines : List Asked) → AllByRecursion (IsAfter (one_more client before)) lines → AllByRecursion (IsAfter before) lines
after_weaker client before [] all = tt
after_weaker client before (asked ∷ lines) all = (
  record { later = omega (arith, all.0.later, one_more-le client asked.client before) },
  after_weaker client before lines all.1,
)

-- each numbered line has
pub all_after : (before : ℕ → ℕ) (lines : List (ℕ × Line)) → AllByRecursion (IsAfter before) (numbered_after before lines)
all_after before [] = tt
all_after before (line ∷ lines) = (
  record { later = omega arith },
  after_weaker line.0 before _ (all_after (one_more line.0 before) lines),
)

-- a later line isn't the one that has just this number
differs : (before : ℕ → ℕ) (client x n : ℕ) (t : Bool) → eqb x client ≡ t → cond t (before x + 1) (before x) < n → (eqb x client && eqb n (before client + 1)) ≡ false
differs before client x n true same later =
    let is : x ≡ client = grind (arith, nat_tests) in
    let number : before x ≡ before client = ap before is in
    let other : eqb n (before client + 1) ≡ false = grind (arith, nat_tests) in
    rw (same, other) refl
differs before client x n false same later = rw same refl

differs_too : (before : ℕ → ℕ) (client x n : ℕ) (t : Bool) → eqb x client ≡ t → cond t (before x + 1) (before x) < n → (eqb client x && eqb (before client + 1) n) ≡ false
differs_too before client x n true same later =
    let is : x ≡ client = grind (arith, nat_tests) in
    let number : before x ≡ before client = ap before is in
    let other : eqb (before client + 1) n ≡ false = grind (arith, nat_tests) in
    let this : eqb client x ≡ true = grind (arith, nat_tests) in
    rw (this, other) refl
differs_too before client x n false same later =
    let other : eqb client x ≡ false = grind (arith, nat_tests) in
    rw other refl

-- the replies answer these lines, one after another
abbrev pub Answers : List Asked → List Replied → Type 0
Answers [] [] = Unit {0}
Answers (asked ∷ lines) (reply ∷ replies) = (reply.client ≡ asked.client) × (reply.line ≡ asked.number) × Answers lines replies
Answers [] (reply ∷ replies) = ⊥
Answers (asked ∷ lines) [] = ⊥

-- no later reply answers the line
pub none_answers : (before : ℕ → ℕ) (first : Asked) (lines : List Asked) (replies : List Replied) → first.number ≡ before first.client + 1 → AllByRecursion (IsAfter (one_more first.client before)) lines → Answers lines replies → filter (is_reply_to first) replies ≡ []
none_answers before first [] [] is all answers = refl
none_answers before first [] (reply ∷ replies) is all answers = absurd answers
none_answers before first (asked ∷ lines) [] is all answers = absurd answers
none_answers before first (asked ∷ lines) (reply ∷ replies) is all answers =
    let here : is_reply_to first reply ≡ false =
    rw (answers.0, answers.1, is) (differs before first.client asked.client asked.number (eqb asked.client first.client) refl (all.0.later)) in
    rw here (none_answers before first lines replies is all.1 answers.2)

-- a line keeps its one reply behind the reply to an earlier line
further : (P : Line → Replied → Type 0) (reply : Replied) (replies : List Replied) (asked : Asked) → is_reply_to asked reply ≡ false → HasReply P replies asked → HasReply P (reply ∷ replies) asked
further P reply replies asked other has = record { reply = has.reply; one = rw other has.one; right = has.right }

pub all_further : (P : Line → Replied → Type 0) (before : ℕ → ℕ) (client : ℕ) (reply : Replied) (replies : List Replied) (lines : List Asked) → reply.client ≡ client → reply.line ≡ before client + 1 → AllByRecursion (IsAfter (one_more client before)) lines → AllByRecursion (HasReply P replies) lines → AllByRecursion (HasReply P (reply ∷ replies)) lines
all_further P before client reply replies [] same is all has = tt
all_further P before client reply replies (asked ∷ lines) same is all has =
    let other : is_reply_to asked reply ≡ false =
    rw (same, is) (differs_too before client asked.client asked.number (eqb asked.client client) refl (all.0.later)) in
    (further P reply replies asked other has.0, all_further P before client reply replies lines same is all.1 has.1)

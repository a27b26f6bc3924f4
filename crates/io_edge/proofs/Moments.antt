-- How a run of a disk's calls goes on.
use Rattle.std.proofs.Common.{inl, inr, ⊎_elim, ℕ, List}
use Rattle.io_edge.specs.Disk.{Passes, LeavesOnly}

module _ {D : Type 0} (may_leave : D → List ℕ → Type 0) (left_since : D → D → List ℕ → Type 0) where
  -- before the first call
  pub started : (old : D) (P : List ℕ → Type 0) → ((c : List ℕ) → left_since old old c → P c) → LeavesOnly left_since old old P
  started old P here = record { each = here; before = λ earlier c left. inl left }

  -- one call more, after which a crash leaves what has P
  pub goes_on : (old mid new : D) (P : List ℕ → Type 0) → LeavesOnly left_since old mid P → Passes may_leave left_since mid new → ((c : List ℕ) → may_leave new c → P c) → LeavesOnly left_since old new P
  goes_on old mid new P so_far time here = record {
    each = λ c left. ⊎_elim (so_far.each c) (here c) (time.nothing_else old c left);
    before = λ earlier c left. ⊎_elim (so_far.before earlier c) (λ now. inr (here c now)) (time.nothing_else earlier c left);
  }

  -- one run after another
  pub runs_on : (old mid new : D) (P : List ℕ → Type 0) → LeavesOnly left_since old mid P → LeavesOnly left_since mid new P → LeavesOnly left_since old new P
  runs_on old mid new P first next = record {
    each = λ c left. ⊎_elim (first.each c) (λ now. now) (next.before old c left);
    before = λ earlier c left. ⊎_elim (first.before earlier c) (λ now. inr now) (next.before earlier c left);
  }

-- a run that leaves what has P leaves what has Q, where P gives Q
pub leaves_weaker : {D : Type 0} (left_since : D → D → List ℕ → Type 0) (old new : D) (P Q : List ℕ → Type 0) → ((c : List ℕ) → P c → Q c) → LeavesOnly left_since old new P → LeavesOnly left_since old new Q
leaves_weaker left_since old new P Q weaker run = record {
  each = λ c left. weaker c (run.each c left);
  before = λ earlier c left. ⊎_elim (λ before. inl before) (λ now. inr (weaker c now)) (run.before earlier c left);
}

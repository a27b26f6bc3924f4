-- Lists all of whose elements are so, channels and clients among them.
use Rattle.std.proofs.Common.{ℕ, List, [], ◌∷◌, ◌++◌, filter, Bool, true, false, cond, Option, None, Some, IfSome}
use Rattle.std.specs.Prelude.{◌==◌}
use Rattle.std.specs.List.{AllByRecursion}
use Rattle.step_table.specs.ClientState.{Client}
use Rattle.step_table.specs.World.{pop, client, put, tagged}
use Rattle.run_laws.specs.Links.{mine}
use Rattle.id_laws.specs.Upto.{Every}

pub all_append : {A : Type 0} (P : A → Type 0) (xs ys : List A) → AllByRecursion P xs → AllByRecursion P ys → AllByRecursion P (xs ++ ys)
all_append P [] ys all more = more
all_append P (x ∷ xs) ys all more = (all.0, all_append P xs ys all.1 more)

pub all_weaker : {A : Type 0} (P Q : A → Type 0) → ((x : A) → P x → Q x) → (xs : List A) → AllByRecursion P xs → AllByRecursion Q xs
all_weaker P Q go [] all = tt
all_weaker P Q go (x ∷ xs) all = (go x all.0, all_weaker P Q go xs all.1)

pub all_filter : {A : Type 0} (P : A → Type 0) (test : A → Bool) (xs : List A) → AllByRecursion P xs → AllByRecursion P (filter test xs)
all_filter P test [] all = tt
all_filter {A} P test (x ∷ xs) all = by_test (test x) (all_filter P test xs all.1)
  where
    by_test : (b : Bool) → AllByRecursion P (filter test xs) → AllByRecursion P (cond b (x ∷ filter test xs) (filter test xs))
    by_test true rest = (all.0, rest)
    by_test false rest = rest

-- channels
pub every_pop : {M : Type 0} (P : M → Type 0) (n : ℕ) (channels : List (ℕ × M)) → Every P channels → IfSome (pop n channels) (λ f. P f.0 × Every P f.1)
every_pop P n [] all = tt
every_pop {M} P n (m ∷ channels) all = by_test (m.0 == n) (every_pop P n channels all.1)
  where
    Popped : Option (M × List (ℕ × M)) → Type 0
    Popped o = IfSome o (λ f. P f.0 × Every P f.1)

    behind : (o : Option (M × List (ℕ × M))) → Popped o → Popped (elim o [ None ↦ None | Some found ↦ Some (found.0, m ∷ found.1) ])
    behind None rest = tt
    behind (Some found) rest = (rest.0, (all.0, rest.1))

    by_test : (b : Bool) → Popped (pop n channels) → Popped (elim b [ true ↦ Some (m.1, channels) | false ↦ elim (pop n channels) [ None ↦ None | Some found ↦ Some (found.0, m ∷ found.1) ] ])
    by_test true rest = (all.0, all.1)
    by_test false rest = behind (pop n channels) rest

pub every_tagged : {M : Type 0} (P : M → Type 0) (n : ℕ) (ms : List M) → AllByRecursion P ms → Every P (tagged n ms)
every_tagged P n [] all = tt
every_tagged P n (m ∷ ms) all = (all.0, every_tagged P n ms all.1)

pub every_mine : {M : Type 0} (P : M → Type 0) (n : ℕ) (channels : List (ℕ × M)) → Every P channels → AllByRecursion P (mine n channels)
every_mine P n [] all = tt
every_mine {M} P n (m ∷ channels) all = by_test (m.0 == n) (every_mine P n channels all.1)
  where
    by_test : (b : Bool) → AllByRecursion P (mine n channels) → AllByRecursion P (cond b (m.1 ∷ mine n channels) (mine n channels))
    by_test true rest = (all.0, rest)
    by_test false rest = rest

-- clients
pub every_client : (P : Client → Type 0) (n : ℕ) (clients : List (ℕ × Client)) → Every P clients → IfSome (client clients n) P
every_client P n [] all = tt
every_client P n (c ∷ clients) all = by_test (c.0 == n) (every_client P n clients all.1)
  where
    by_test : (b : Bool) → IfSome (client clients n) P → IfSome (cond b (Some c.1) (client clients n)) P
    by_test true rest = all.0
    by_test false rest = rest

pub every_put : (P : Client → Type 0) (n : ℕ) (new : Client) → P new → (clients : List (ℕ × Client)) → Every P clients → Every P (put clients n new)
every_put P n new is [] all = tt
every_put P n new is (c ∷ clients) all = (by_test (c.0 == n), every_put P n new is clients all.1)
  where
    by_test : (b : Bool) → P (cond b new c.1)
    by_test true = is
    by_test false = all.0

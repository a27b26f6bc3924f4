-- The largest size that flushes of some entries settled; and the numbers in what the server tells, bounded by the newest id
-- and by that size.
use Rattle.std.proofs.Common.{◌≡◌, ◌≤◌, ◌<◌, ℕ, List, [], ◌∷◌, ◌++◌, fold, Bool, true, false, cond, refl, sym, subst, arith}
use Rattle.std.proofs.lemmas.Bool.Decides.{nat_tests}
use Rattle.std.specs.Prelude.{max, ◌&&◌, nat_lt, nat_le}
use Rattle.std.specs.List.{AllByRecursion, list_all}
use Rattle.snap_ids.specs.declared.id.Ino.{Ino}
use Rattle.snap_ids.specs.declared.id.SnapId.{SnapId}
use Rattle.snap_ids.specs.declared.id.TheConstants.{NOSNAP}
use Rattle.snap_ids.specs.declared.values.RealmInfo.{RealmInfo}
use Rattle.plain_types.specs.declared.answer.Answer.{Answer}
use Rattle.plain_types.specs.declared.answer.Answer.TheVariants as answer
use Rattle.plain_types.specs.declared.entry.Entry.{Entry}
use Rattle.plain_types.specs.declared.entry.What.{What}
use Rattle.plain_types.specs.declared.entry.What.TheVariants.{Settle, Release}
use Rattle.plain_types.specs.declared.message.FileTrace.{FileTrace}
use Rattle.plain_types.specs.declared.message.ToClient.{ToClient}
use Rattle.plain_types.specs.declared.message.ToClient.TheVariants.{Reply, Grant, Notice, Welcome}
use Rattle.plain_tree.specs.State.{same_ino}
use Rattle.plain_journal.specs.Settled.{size_by, settled_size}
use Rattle.step_table.specs.Messages.{is_id, is_size, realm_fits, trace_fits, answer_fits, told_fits}
use Rattle.id_laws.specs.Upto.{ContextUpto}
use Rattle.id_laws.proofs.Keeps.{joined, context_weaker}

-- the larger one of a size and what an entry settles
abbrev pub larger_by : ℕ → What → ℕ
larger_by n (Settle ino follows upto size) = max n size
larger_by n (Release ino follows size) = max n size
larger_by n what = n

abbrev pub largest_from : ℕ → List Entry → ℕ
largest_from n [] = n
largest_from n (e ∷ entries) = largest_from (larger_by n e.what) entries

abbrev pub largest : List Entry → ℕ
largest entries = largest_from 0 entries

largest_append : (n : ℕ) (xs ys : List Entry) → largest_from n (xs ++ ys) ≡ largest_from (largest_from n xs) ys
largest_append n [] ys = refl
largest_append n (x ∷ xs) ys = largest_append (larger_by n x.what) xs ys

by_least : (n : ℕ) (w : What) → n ≤ larger_by n w
by_least n (Settle ino follows upto size) = omega arith
by_least n (Release ino follows size) = omega arith
by_least n w = omega arith

least_from : (n : ℕ) (entries : List Entry) → n ≤ largest_from n entries
least_from n [] = omega arith
least_from n (e ∷ entries) = let one = by_least n e.what in let rest = least_from (larger_by n e.what) entries in omega (arith, one, rest)

pub largest_grows : (xs ys : List Entry) → largest xs ≤ largest (xs ++ ys)
largest_grows xs ys = subst (λ (n : ℕ). largest xs ≤ n) (sym (largest_append 0 xs ys)) (least_from (largest xs) ys)

-- what is settled is none above it
settles_by : (f : Ino) (s : SnapId) (a n : ℕ) (w : What) → a ≤ n → size_by f s a w ≤ larger_by n w
settles_by f s a n (Settle ino follows upto size) less = by_test (same_ino ino f && nat_lt follows.0 s.0 && nat_le s.0 upto.0)
  where
    by_test : (b : Bool) → cond b size a ≤ max n size
    by_test true = omega arith
    by_test false = omega (arith, less)
settles_by f s a n (Release ino follows size) less = by_test (same_ino ino f && nat_lt follows.0 s.0)
  where
    by_test : (b : Bool) → cond b size a ≤ max n size
    by_test true = omega arith
    by_test false = omega (arith, less)
settles_by f s a n w less = less

settles_from : (f : Ino) (s : SnapId) (a n : ℕ) (entries : List Entry) → a ≤ n → fold (λ size (entry : Entry). size_by f s size entry.what) a entries ≤ largest_from n entries
settles_from f s a n [] less = less
settles_from f s a n (e ∷ entries) less = settles_from f s (size_by f s a e.what) (larger_by n e.what) entries (settles_by f s a n e.what less)

pub settled_largest : (entries : List Entry) (f : Ino) (s : SnapId) → settled_size entries f s ≤ largest entries
settled_largest entries f s = settles_from f s 0 0 entries (omega arith)

-- the numbers in an answer of the server; it has no bytes and no clones to tell of
abbrev pub AnswerUpto : ℕ → ℕ → Answer → Type 0
AnswerUpto last most (answer.Snap id) = id.0 ≤ last
AnswerUpto last most (answer.FileBytes bytes) = ⊥
AnswerUpto last most (answer.StatFile mode size) = size ≤ most
AnswerUpto last most (answer.RealmIs ino context) = ContextUpto last context
AnswerUpto last most (answer.FoundLive ino perm size write_held) = size ≤ most
AnswerUpto last most (answer.FoundSnap ino snap size) = (snap.0 ≤ last) × (size ≤ most)
AnswerUpto last most (answer.ClonesAre list) = ⊥
AnswerUpto last most said = Unit {0}

pub answer_weaker : (last most high more : ℕ) → last ≤ high → most ≤ more → (said : Answer) → AnswerUpto last most said → AnswerUpto high more said
answer_weaker last most high more less fewer (answer.Snap id) is = joined id.0 last high is less
answer_weaker last most high more less fewer (answer.FileBytes bytes) is = is
answer_weaker last most high more less fewer (answer.StatFile mode size) is = joined size most more is fewer
answer_weaker last most high more less fewer (answer.RealmIs ino context) is = context_weaker last high less context is
answer_weaker last most high more less fewer (answer.FoundLive ino perm size write_held) is = joined size most more is fewer
answer_weaker last most high more less fewer (answer.FoundSnap ino snap size) is = (joined snap.0 last high is.0 less, joined size most more is.1 fewer)
answer_weaker last most high more less fewer (answer.ClonesAre list) is = is
answer_weaker last most high more less fewer said is = tt

-- those in a file's trace, whatever it has beside the context
abbrev pub IdsUpto : ℕ → List SnapId → Type 0
IdsUpto last ids = AllByRecursion (λ (id : SnapId). id.0 ≤ last) ids

abbrev pub RealmUpto : ℕ → RealmInfo → Type 0
RealmUpto last realm = (realm.seq.0 ≤ last) × (realm.since.0 ≤ last) × IdsUpto last realm.own × IdsUpto last realm.past

abbrev pub WholeUpto : ℕ → FileTrace → Type 0
WholeUpto last file = (file.birth.0 ≤ last) × AllByRecursion (RealmUpto last) file.trace

-- those in a message
abbrev pub NumbersUpto : ℕ → ℕ → ToClient → Type 0
NumbersUpto last most (Reply conn tid stamp said) = AnswerUpto last most said
NumbersUpto last most (Grant conn tid stamp ino mode size file) = (size ≤ most) × WholeUpto last file
NumbersUpto last most (Notice conn stamp update) = AllByRecursion (WholeUpto last) update
NumbersUpto last most (Welcome conn stamp flushed update) = AllByRecursion (WholeUpto last) update
NumbersUpto last most told = Unit {0}

-- such numbers can be
pub below : (n last top : ℕ) → n ≤ last → last < top → nat_lt n top ≡ true
below n last top is less = grind (arith, nat_tests, is, less)

pub both : (a b : Bool) → a ≡ true → b ≡ true → (a && b) ≡ true
both a b one two = rw (one, two) refl

pub all_true : {A : Type 0} (P : A → Type 0) (test : A → Bool) → ((x : A) → P x → test x ≡ true) → (xs : List A) → AllByRecursion P xs → list_all test xs ≡ true
all_true P test go [] all = refl
all_true P test go (x ∷ xs) all = both (test x) (list_all test xs) (go x all.0) (all_true P test go xs all.1)

size_fits : (size most : ℕ) → size ≤ most → most ≤ 65536 → is_size size ≡ true
size_fits size most is less = grind (arith, nat_tests, is, less)

ids_fit : (last : ℕ) → last < NOSNAP.0 → (ids : List SnapId) → IdsUpto last ids → list_all is_id ids ≡ true
ids_fit last less ids all = all_true (λ (id : SnapId). id.0 ≤ last) is_id (λ id is. below id.0 last NOSNAP.0 is less) ids all

realm_can : (last : ℕ) → last < NOSNAP.0 → (realm : RealmInfo) → RealmUpto last realm → realm_fits realm ≡ true
realm_can last less realm is = both (is_id realm.seq && is_id realm.since && list_all is_id realm.own) (list_all is_id realm.past)
    (both (is_id realm.seq && is_id realm.since) (list_all is_id realm.own) (both (is_id realm.seq) (is_id realm.since) (below realm.seq.0 last NOSNAP.0 is.0 less) (below realm.since.0 last NOSNAP.0 is.1 less)) (ids_fit last less realm.own is.2))
    (ids_fit last less realm.past is.3)

trace_can : (last : ℕ) → last < NOSNAP.0 → (file : FileTrace) → WholeUpto last file → trace_fits file ≡ true
trace_can last less file is = both (is_id file.birth) (list_all realm_fits file.trace) (below file.birth.0 last NOSNAP.0 is.0 less) (all_true (RealmUpto last) realm_fits (realm_can last less) file.trace is.1)

answer_can : (last most : ℕ) → last < NOSNAP.0 → most ≤ 65536 → (said : Answer) → AnswerUpto last most said → answer_fits said ≡ true
answer_can last most less fewer (answer.Snap id) is = below id.0 last NOSNAP.0 is less
answer_can last most less fewer (answer.FileBytes bytes) is = absurd is
answer_can last most less fewer (answer.StatFile mode size) is = size_fits size most is fewer
answer_can last most less fewer (answer.RealmIs ino context) is = both (is_id context.seq) (list_all is_id context.ids) (below context.seq.0 last NOSNAP.0 is.0 less) (ids_fit last less context.ids is.1)
answer_can last most less fewer (answer.FoundLive ino perm size write_held) is = size_fits size most is fewer
answer_can last most less fewer (answer.FoundSnap ino snap size) is = both (is_id snap) (is_size size) (below snap.0 last NOSNAP.0 is.0 less) (size_fits size most is.1 fewer)
answer_can last most less fewer (answer.ClonesAre list) is = absurd is
answer_can last most less fewer said is = refl

pub told_can : (last most : ℕ) → last < NOSNAP.0 → most ≤ 65536 → (told : ToClient) → NumbersUpto last most told → told_fits told ≡ true
told_can last most less fewer (Reply conn tid stamp said) is = answer_can last most less fewer said is
told_can last most less fewer (Grant conn tid stamp ino mode size file) is = both (is_size size) (trace_fits file) (size_fits size most is.0 fewer) (trace_can last less file is.1)
told_can last most less fewer (Notice conn stamp update) is = all_true (WholeUpto last) trace_fits (trace_can last less) update is
told_can last most less fewer (Welcome conn stamp flushed update) is = all_true (WholeUpto last) trace_fits (trace_can last less) update is
told_can last most less fewer told is = refl

-- Sizes as flushes settled them, after one more entry; and which flushes are past.
use Rattle.std.proofs.Common.{◌≡◌, ℕ, ◌+◌, ◌<◌, ◌≤◌, List, [], ◌∷◌, ◌++◌, Bool, true, false, cond, ◌⊎◌, inl, inr, refl, sym, ap, ◌∙◌, arith, eqb-true}
use Rattle.std.proofs.lemmas.List.Sums.{fold-append}
use Rattle.std.proofs.lemmas.Bool.{and_parts, or_cases, ltb-true, leb-true, cases_lt}
use Rattle.std.specs.Prelude.{◌&&◌, ◌||◌, ◌==◌, nat_lt, nat_le, fold}
use Rattle.snap_ids.specs.declared.id.Ino.{Ino}
use Rattle.snap_ids.specs.declared.id.SnapId.{SnapId}
use Rattle.snap_ids.specs.declared.id.TheConstants.{NOSNAP}
use Rattle.snap_ids.specs.declared.values.Kind.{Kind}
use Rattle.snap_ids.specs.declared.values.Kind.TheVariants.{Dir, File}
use Rattle.plain_types.specs.declared.entry.Entry.{Entry}
use Rattle.plain_types.specs.declared.entry.What.{What}
use Rattle.plain_types.specs.declared.entry.What.TheVariants as what
use Rattle.plain_tree.specs.State.{State, same_ino, kind_in}
use Rattle.plain_journal.specs.Entries.{change_in, state_after, applied_by, applied}
use Rattle.plain_journal.specs.Coverage.{is_made}
use Rattle.plain_journal.specs.Settled.{size_by, settled_size}
use Rattle.plain_journal.specs.Legal.{is_made_by, is_made_file, fits, is_legal, is_journal}
use Rattle.journal_laws.proofs.Steps.{of_journals, state_more}
use Rattle.journal_shapes.specs.Past.{is_past, past_from, flushes_are_past}
use Rattle.journal_shapes.proofs.Inodes.{turned}
use Rattle.journal_shapes.proofs.Numbers.{unmade_before}

pub size_more : (entries : List Entry) (e : Entry) (x : Ino) (s : SnapId) → settled_size (entries ++ e ∷ []) x s ≡ size_by x s (settled_size entries x s) e.what
size_more entries e x s = fold-append (λ size (entry : Entry). size_by x s size entry.what) 0 entries (e ∷ [])

-- a file that was made
pub file_made : (k : Kind) (made : Bool) → (elim k [ Dir ↦ false | File ↦ made ]) ≡ true → made ≡ true
file_made Dir made is = cc
file_made File made is = is

-- a flush is of a file that was made
pub flushed_made : (entries : List Entry) (ino : Ino) (follows : SnapId) → (is_made_file (state_after entries) ino && nat_lt follows.0 NOSNAP.0) ≡ true → (is_made (state_after entries) ino ≡ true) × (follows.0 < NOSNAP.0)
flushed_made entries ino follows fine =
    let l = and_parts (is_made_file (state_after entries) ino) (nat_lt follows.0 NOSNAP.0) fine in
    (file_made (kind_in (state_after entries).inodes ino) (is_made (state_after entries) ino) l.0, ltb-true follows.0 NOSNAP.0 l.1)

-- so what wasn't made has no size
unmade_other : (entries : List Entry) (ino x : Ino) → is_made (state_after entries) ino ≡ true → is_made (state_after entries) x ≡ false → same_ino ino x ≡ false
unmade_other entries ino x made none = go (same_ino ino x) refl
  where
    go : (b : Bool) → same_ino ino x ≡ b → b ≡ false
    go true same =
        let was : is_made (state_after entries) x ≡ true = ap (λ (n : ℕ). is_made (state_after entries) (record { 0 = n })) (sym (eqb-true ino.0 x.0 same)) ∙ made in
        let never : true ≡ false = sym was ∙ none in
        cc
    go false other = refl

size_kept : (entries : List Entry) (w : What) (x : Ino) (s : SnapId) → fits entries w ≡ true → is_made (state_after entries) x ≡ false → size_by x s 0 w ≡ 0
size_kept entries (what.Settle ino follows upto size) x s fine none =
    ap (λ (b : Bool). cond (b && nat_lt follows.0 s.0 && nat_le s.0 upto.0) size 0) (unmade_other entries ino x (flushed_made entries ino follows fine).0 none)
size_kept entries (what.Release ino follows size) x s fine none =
    ap (λ (b : Bool). cond (b && nat_lt follows.0 s.0) size 0) (unmade_other entries ino x (flushed_made entries ino follows fine).0 none)
size_kept entries w x s fine none = refl

pub unmade_size : (entries : List Entry) → is_journal entries ≡ true → (x : Ino) (s : SnapId) → is_made (state_after entries) x ≡ false → settled_size entries x s ≡ 0
unmade_size entries legal = of_journals (λ (done : List Entry). (x : Ino) (s : SnapId) → is_made (state_after done) x ≡ false → settled_size done x s ≡ 0) (λ x s none. refl) more entries legal
  where
    more : (done : List Entry) (e : Entry) → ((x : Ino) (s : SnapId) → is_made (state_after done) x ≡ false → settled_size done x s ≡ 0) → is_legal done e ≡ true → (x : Ino) (s : SnapId) → is_made (state_after (done ++ e ∷ [])) x ≡ false → settled_size (done ++ e ∷ []) x s ≡ 0
    more done e old fine x s none =
        let before = unmade_before (state_after done) e x (sym (ap (λ (state : State). is_made state x) (state_more done e)) ∙ none) in
        size_more done e x s
        ∙ ap (λ n. size_by x s n e.what) (old x s before)
        ∙ size_kept done e.what x s (and_parts (is_made_by (state_after done) e.client (change_in e.what)) (fits done e.what) fine).1 before

-- flushes so far, and one more entry
pub past_push : (last : ℕ) (entries : List Entry) (e : Entry) (x : Ino) → past_from last (entries ++ e ∷ []) x ≡ (past_from last entries x && is_past (fold (λ before (entry : Entry). applied_by before entry.what) last entries) x e.what)
past_push last [] e x = go (is_past last x e.what)
  where
    go : (b : Bool) → (b && true) ≡ b
    go true = refl
    go false = refl
past_push last (first ∷ entries) e x =
    ap (λ (b : Bool). is_past last x first.what && b) (past_push (applied_by last first.what) entries e x)
    ∙ go (is_past last x first.what) (past_from (applied_by last first.what) entries x) (is_past (fold (λ before (entry : Entry). applied_by before entry.what) (applied_by last first.what) entries) x e.what)
  where
    go : (a b c : Bool) → (a && (b && c)) ≡ ((a && b) && c)
    go true b c = refl
    go false b c = refl

pub past_more : (entries : List Entry) (e : Entry) (x : Ino) → flushes_are_past (entries ++ e ∷ []) x ≡ true → (flushes_are_past entries x ≡ true) × (is_past (applied entries) x e.what ≡ true)
past_more entries e x past = and_parts (flushes_are_past entries x) (is_past (applied entries) x e.what) (sym (past_push 1 entries e x) ∙ past)

-- an id is above those that a flush follows, and the flush doesn't stop at it or above
abbrev pub IsAbove : What → Ino → ℕ → Type 0
IsAbove (what.Settle ino follows upto size) x t = (x.0 == ino.0) ≡ true → (follows.0 < t) × ((upto.0 < t) ⊎ (NOSNAP.0 ≤ upto.0))
IsAbove (what.Release ino follows size) x t = (x.0 == ino.0) ≡ true → follows.0 < t
IsAbove w x t = Unit {0}

pub above_live : (entries : List Entry) (w : What) (x : Ino) → fits entries w ≡ true → IsAbove w x NOSNAP.0
above_live entries (what.Settle ino follows upto size) x fine = λ same. ((flushed_made entries ino follows fine).1, cases_lt upto.0 NOSNAP.0)
above_live entries (what.Release ino follows size) x fine = λ same. (flushed_made entries ino follows fine).1
above_live entries w x fine = tt

-- what is said of it alone
of_it : (b c : Bool) → b ≡ true → cond b c true ≡ true → c ≡ true
of_it true c is past = past
of_it false c is past = cc

upto_past : (last : ℕ) (upto : SnapId) → (nat_le upto.0 last || nat_le NOSNAP.0 upto.0) ≡ true → (upto.0 < last + 1) ⊎ (NOSNAP.0 ≤ upto.0)
upto_past last upto past = go (or_cases (nat_le upto.0 last) (nat_le NOSNAP.0 upto.0) past)
  where
    go : ((nat_le upto.0 last ≡ true) ⊎ (nat_le NOSNAP.0 upto.0 ≡ true)) → (upto.0 < last + 1) ⊎ (NOSNAP.0 ≤ upto.0)
    go (inl low) = let l = leb-true upto.0 last low in inl (omega (arith, l))
    go (inr high) = inr (leb-true NOSNAP.0 upto.0 high)

settle_past : (last : ℕ) (x ino : Ino) (follows upto : SnapId) (size : ℕ) → is_past last x (what.Settle ino follows upto size) ≡ true → (x.0 == ino.0) ≡ true → (follows.0 < last + 1) × ((upto.0 < last + 1) ⊎ (NOSNAP.0 ≤ upto.0))
settle_past last x ino follows upto size past same =
    let mine = of_it (same_ino ino x) (nat_le follows.0 last && (nat_le upto.0 last || nat_le NOSNAP.0 upto.0)) (turned ino x ∙ same) past in
    let l = and_parts (nat_le follows.0 last) (nat_le upto.0 last || nat_le NOSNAP.0 upto.0) mine in
    let low = leb-true follows.0 last l.0 in
    (omega (arith, low), upto_past last upto l.1)

release_past : (last : ℕ) (x ino : Ino) (follows : SnapId) (size : ℕ) → is_past last x (what.Release ino follows size) ≡ true → (x.0 == ino.0) ≡ true → follows.0 < last + 1
release_past last x ino follows size past same =
    let low = leb-true follows.0 last (of_it (same_ino ino x) (nat_le follows.0 last) (turned ino x ∙ same) past) in
    omega (arith, low)

pub above_past : (last : ℕ) (w : What) (x : Ino) → is_past last x w ≡ true → IsAbove w x (applied_by last w + 1)
above_past last (what.Settle ino follows upto size) x past = settle_past last x ino follows upto size past
above_past last (what.Release ino follows size) x past = release_past last x ino follows size past
above_past last w x past = tt

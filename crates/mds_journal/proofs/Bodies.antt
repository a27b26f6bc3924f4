-- A batch that is read is the batch that stands there.
use Rattle.std.proofs.Common.{◌≡◌, ◌≢◌, ℕ, zero, suc, ◌+◌, ◌<◌, ◌≤◌, ◌^◌, Bool, true, false, cond, eqb, ltb, nat_lt, ◌||◌, List, [], ◌∷◌, ◌++◌, length, get_or, take, drop, Option, Some, None, IfSome, refl, sym, ap, subst, ◌∙◌, append_assoc, arith, length-append, length-take, take-append-drop}
use Rattle.std.proofs.lemmas.Bool.{ltb-false, le-ltb, ne_eqb}
use Rattle.std.proofs.lemmas.List.{take_at, drop_at}
use Rattle.plain_types.specs.declared.entry.Entry.{Entry}
use Rattle.journal_format.specs.Bytes.{word, bytes_of, bytes_of_all, AreEntries}
use Rattle.journal_format.specs.Image.{batch, IsBatch}
use Rattle.journal_format.specs.Reading.{◌>>=◌, word_at}
use Rattle.journal_format.proofs.Formats.{words, bind_some, some_is, guard_some, IsBytes}
use Rattle.journal_format.proofs.Listed.{bytes_of_all-cons}
use Rattle.mds_journal.specs.Batches.{body_of, body_at}
use Rattle.mds_journal.specs.Stops.{IsOpened, IsClosed}

-- what was read as a batch's bytes stands there, behind its length
pub record IsBody (bytes body behind : List ℕ) : Type 0 where
  pub parts : bytes ≡ word (length body) ++ (body ++ behind)
  pub some : 0 < length body
  pub fits : length body < 2 ^ 32

neither : (a b : Bool) → (a || b) ≡ false → (a ≡ false) × (b ≡ false)
neither true b e = absurd cc
neither false b e = (refl, e)

above_zero : (n : ℕ) → eqb n 0 ≡ false → 0 < n
above_zero zero e = absurd cc
above_zero (suc n) e = omega arith

pub body_is : (bytes body behind : List ℕ) → IsBytes bytes → body_at bytes ≡ Some (body, behind) → IsBody bytes body behind
unfolding body_at
body_is bytes body behind fits e =
    let read = bind_some (word_at bytes) _ (body, behind) e in
    let n = read.0.0 in
    let after = read.0.1 in
    let taken = words.takes bytes read.0 fits read.1 in
    let tests = guard_some (eqb n 0 || nat_lt (length after) n) (take n after, drop n after) (body, behind) read.2 in
    let both = neither (eqb n 0) (nat_lt (length after) n) tests.0 in
    let fronts : take n after ≡ body = ap (λ (p : List ℕ × List ℕ). p.0) tests.1 in
    let backs : drop n after ≡ behind = ap (λ (p : List ℕ × List ℕ). p.1) tests.1 in
    let room : n ≤ length after = ltb-false (length after) n both.1 in
    let size : length body ≡ n = ap length (sym fronts) ∙ length-take n after ∙ omega arith in
    let all : after ≡ body ++ behind = sym (take-append-drop n after) ∙ ap (λ (l : List ℕ). l ++ drop n after) fronts ∙ ap (λ (l : List ℕ). body ++ l) backs in
    record {
      parts = taken.0.parts ∙ ap (λ (l : List ℕ). word n ++ l) all ∙ ap (λ (m : ℕ). word m ++ (body ++ behind)) (sym size);
      some = omega (arith, size, above_zero n both.0);
      fits = omega (arith, size, taken.1);
    }

passes : (n m : ℕ) → 0 < n → n ≤ m → (eqb n 0 || nat_lt m n) ≡ false
passes zero m some within = absurd (omega arith)
passes (suc n) m some within = rw (ne_eqb (suc n) 0 (λ e. absurd cc)) (le-ltb m (suc n) within)

abbrev pair : List ℕ → List ℕ → Option (List ℕ × List ℕ)
pair front back = Some (front, back)

pub body_again : (body behind : List ℕ) → 0 < length body → length body < 2 ^ 32 → body_at (word (length body) ++ (body ++ behind)) ≡ Some (body, behind)
unfolding body_at
body_again body behind some fits =
    let n = length body in
    let after = body ++ behind in
    let read : word_at (word n ++ after) ≡ Some (n, after) = words.again n after fits in
    let test : (eqb n 0 || nat_lt (length after) n) ≡ false = passes n (length after) some (omega (arith, length-append body behind)) in
    ap (λ (o : Option (ℕ × List ℕ)). o >>= λ x. body_of x.0 x.1) read
    ∙ ap (λ (t : Bool). cond t None (pair (take n after) (drop n after))) test
    ∙ ap (λ (l : List ℕ). pair l (drop n after)) (take_at body behind n refl)
    ∙ ap (λ (l : List ℕ). pair body l) (drop_at body behind n refl)

-- behind an open gate, what begins a batch
pub opened_is : (rest : List ℕ) → IsOpened (1 ∷ rest) → (entries : List Entry) × (behind : List ℕ) × IsBatch entries × (body_at rest ≡ Some (bytes_of_all entries, behind))
opened_is rest opened =
    let entries = opened.0 in
    let body = bytes_of_all entries in
    let is : rest ≡ word (length body) ++ (body ++ opened.1) = ap (λ (l : List ℕ). drop 1 l) opened.3 ∙ append_assoc (word (length body)) body opened.1 in
    (entries, opened.1, opened.2, ap body_at is ∙ body_again body opened.1 (some_bytes entries opened.2.some) opened.2.fits)
  where
    some_bytes : (entries : List Entry) → 0 < length entries → 0 < length (bytes_of_all entries)
    some_bytes [] some = absurd (omega arith)
    some_bytes (entry ∷ entries) some =
        let long = ap length (bytes_of_all-cons entry entries) ∙ length-append (bytes_of entry) (bytes_of_all entries) in
        omega (arith, long)

open_gate : (rest : List ℕ) → IsClosed (1 ∷ rest) → ⊥
open_gate rest closed = closed.2 (sym (ap (λ (l : List ℕ). get_or l 0 0) closed.3))

-- bytes behind an open gate that are no batch's
pub no_body : (rest : List ℕ) → body_at rest ≡ None → (IsOpened (1 ∷ rest) → ⊥) × (IsClosed (1 ∷ rest) → ⊥)
no_body rest none = (λ opened. differ (opened_is rest opened), open_gate rest)
  where
    differ : (entries : List Entry) × (behind : List ℕ) × IsBatch entries × (body_at rest ≡ Some (bytes_of_all entries, behind)) → ⊥
    differ opened = absurd (cc (opened.3, none))

-- bytes of a batch that are those of no entries
pub no_entries : (rest body behind : List ℕ) → body_at rest ≡ Some (body, behind) → ((entries : List Entry) → AreEntries entries → body ≡ bytes_of_all entries → ⊥) → (IsOpened (1 ∷ rest) → ⊥) × (IsClosed (1 ∷ rest) → ⊥)
no_entries rest body behind is none = (λ opened. differ (opened_is rest opened), open_gate rest)
  where
    differ : (entries : List Entry) × (behind : List ℕ) × IsBatch entries × (body_at rest ≡ Some (bytes_of_all entries, behind)) → ⊥
    differ opened = none opened.0 opened.2.within (ap (λ (p : List ℕ × List ℕ). p.0) (some_is (body, behind) (bytes_of_all opened.0, opened.1) (sym is ∙ opened.3)))

-- a batch is read
pub batch_is : (rest body behind : List ℕ) (entries : List Entry) → IsBytes rest → body_at rest ≡ Some (body, behind) → AreEntries entries → body ≡ bytes_of_all entries → IsBatch entries × (1 ∷ rest ≡ batch entries ++ behind)
batch_is rest body behind entries fits is within bytes_are =
    let found = body_is rest body behind fits is in
    let size : length body ≡ length (bytes_of_all entries) = ap length bytes_are in
    let parts : rest ≡ word (length (bytes_of_all entries)) ++ (bytes_of_all entries ++ behind) = found.parts ∙ ap (λ (l : List ℕ). word (length l) ++ (l ++ behind)) bytes_are in (
      record { within = within; some = not_none entries size found.some; fits = omega (arith, size, found.fits) },
      ap (λ (l : List ℕ). 1 ∷ l) (parts ∙ sym (append_assoc (word (length (bytes_of_all entries))) (bytes_of_all entries) behind)),
    )
  where
    not_none : (entries : List Entry) → length body ≡ length (bytes_of_all entries) → 0 < length body → 0 < length entries
    not_none [] size some = absurd (omega (arith, size, some))
    not_none (entry ∷ entries) size some = omega arith

pub decoded : (read : Option (List Entry)) (entries : List Entry) (body : List ℕ) → read ≡ Some entries → IfSome read (λ entries. AreEntries entries × (body ≡ bytes_of_all entries)) → AreEntries entries × (body ≡ bytes_of_all entries)
decoded read entries body is found = subst (λ (r : Option (List Entry)). IfSome r (λ entries. AreEntries entries × (body ≡ bytes_of_all entries))) is found

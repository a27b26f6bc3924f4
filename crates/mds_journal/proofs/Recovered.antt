-- What a stop leaves of a disk that is read as a journal and cut behind its closed gate.
use Rattle.std.proofs.Common.{◌≡◌, ◌≤◌, ◌<◌, ◌+◌, inl, inr, ℕ, List, [], ◌∷◌, ◌++◌, length, take, refl, sym, ap, subst, ◌∙◌, append_assoc, arith, length-append, Ok, Err}
use Rattle.std.specs.Prelude.{◌↔◌}
use Rattle.std.specs.List.{flat_map}
use Rattle.std.proofs.lemmas.List.{take_at, append-nil}
use Rattle.io_edge.specs.Disk.{Shortened, Only, LeavesOnly}
use Rattle.io_edge.proofs.Moments.{runs_on, leaves_weaker}
use Rattle.plain_types.specs.declared.entry.Entry.{Entry}
use Rattle.journal_format.specs.Image.{header, batch, journal_of, IsJournal, IsImage}
use Rattle.mds_journal.specs.declared.fault.JournalFault.{JournalFault}
use Rattle.mds_journal.specs.declared.fault.JournalFault.TheVariants as why
use Rattle.mds_journal.specs.Stops.{before_gate, HasGate, KeepsEntries, Looks, Counts}
use Rattle.mds_journal.specs.Faults.{Scans}
use Rattle.mds_journal.proofs.Stopped.{at_gate, cut_left}

-- the file, cut behind its closed gate
pub record IsCut (file : List ℕ) (entries : List Entry) (gate : ℕ) (cut : List ℕ) : Type 0 where
  pub image : IsImage cut entries
  pub place : gate + 1 ≡ length cut

pub cut_is : (file cut : List ℕ) (entries : List Entry) (gate : ℕ) → HasGate file entries gate → cut ≡ take (gate + 1) file → IsCut file entries gate cut
cut_is file cut entries gate has is =
    let journal = has.journal in
    let front = before_gate journal.batches ++ journal.gate ∷ [] in
    let size : length front ≡ gate + 1 = omega (arith, length-append (before_gate journal.batches) (journal.gate ∷ []), has.place) in
    let whole : file ≡ front ++ journal.behind = journal.parts ∙ at_gate journal.batches journal.gate journal.behind ∙ sym (append_assoc (before_gate journal.batches) (journal.gate ∷ []) journal.behind) in
    let all : cut ≡ front = is ∙ ap (λ (l : List ℕ). take (gate + 1) l) whole ∙ take_at front journal.behind (gate + 1) size in
    record {
      image = record {
        batches = journal.batches;
        gate = journal.gate;
        parts = all ∙ append_assoc header (flat_map batch journal.batches) (journal.gate ∷ []);
        closed = journal.closed;
        each = journal.each;
        all = journal.all;
      };
      place = omega (arith, ap length all, size);
    }

-- the gate stands in the file
pub gate_inside : (file : List ℕ) (entries : List Entry) (gate : ℕ) → HasGate file entries gate → gate < length file
gate_inside file entries gate has =
    let journal = has.journal in
    let whole : file ≡ before_gate journal.batches ++ journal.gate ∷ journal.behind = journal.parts ∙ at_gate journal.batches journal.gate journal.behind in
    omega (arith, ap length whole, length-append (before_gate journal.batches) (journal.gate ∷ journal.behind), has.place)

module _ {D : Type 0} (file : D → List ℕ) (may_leave : D → List ℕ → Type 0) (left_since : D → D → List ℕ → Type 0)
    (leaves_file : (disk : D) → may_leave disk (file disk)) (since_now : (disk : D) (c : List ℕ) → left_since disk disk c ↔ may_leave disk c) where
  -- what reads give at last is one of the things that were left
  pub at_last : (old new : D) (P : List ℕ → Type 0) → Counts may_leave left_since old new → LeavesOnly left_since old new P → P (file new)
  at_last old new P moments left = left.each (file new) (moments old (λ c now. (since_now old c).1 now) (file new) (leaves_file new))

  -- what the old disk may leave, or that with the same entries
  abbrev Kept : D → List ℕ → Type 0
  Kept old c = (d : List ℕ) × may_leave old d × KeepsEntries d c

  pub stays : (old new : D) → Looks file may_leave left_since old new → LeavesOnly left_since old new (Kept old)
  stays old new looks = leaves_weaker left_since old new (may_leave old) (Kept old) (λ c left. (c, left, inl refl)) looks.left

  module _ (old mid new : D) (entries : List Entry) (gate : ℕ) (looks : Looks file may_leave left_since old mid) (only : Only (file old) (may_leave mid)) (has : HasGate (file old) entries gate)
      (cut : LeavesOnly left_since mid new (λ c. (d : List ℕ) × may_leave mid d × Shortened (gate + 1) d c)) (moments : Counts may_leave left_since mid new) where
    cut_journal : (c : List ℕ) → (d : List ℕ) × may_leave mid d × Shortened (gate + 1) d c → IsJournal c entries
    cut_journal c left =
        cut_left (file old) c (gate + 1) entries has.journal (omega (arith, has.place)) (subst (λ (l : List ℕ). Shortened (gate + 1) l c) (only left.0 left.1) left.2)

    pub cut_keeps : LeavesOnly left_since old new (Kept old)
    cut_keeps =
        runs_on may_leave left_since old mid new (Kept old) (stays old mid looks)
        (leaves_weaker left_since mid new _ (Kept old) (λ c left. (file old, leaves_file old, inr (entries, has.journal, cut_journal c left))) cut)

    pub cut_moments : Counts may_leave left_since old new
    cut_moments = λ earlier since. moments earlier (looks.moments earlier since)

    pub cut_file : KeepsEntries (file old) (file new)
    cut_file = inr (entries, has.journal, cut_journal (file new) (at_last mid new _ moments cut))

-- bytes that are refused as no journal are none
pub refused : (file bytes : List ℕ) (fault : JournalFault) → bytes ≡ file → Scans bytes (Err fault) → fault ≡ why.NotJournal → (entries : List Entry) → IsJournal file entries → ⊥
refused file bytes fault is scans because entries journal =
    let none : (entries : List Entry) → IsJournal bytes entries → ⊥ = subst (λ (f : JournalFault). Scans bytes (Err f)) because scans in
    none entries (subst (λ (l : List ℕ). IsJournal l entries) (sym is) journal)

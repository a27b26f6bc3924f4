-- Reading a journal's file batch by batch.
use Rattle.std.proofs.Common.{◌≡◌, ◌≢◌, Option, Some, None, Ok, Err, subst, ℕ, ◌+◌, ◌-◌, ◌<◌, List, [], ◌∷◌, ◌++◌, length, get_or, drop, refl, sym, ap, ◌∙◌, append_assoc, arith, length-append, inl, inr, ◌⊎◌, ⊎_elim}
use Rattle.std.specs.List.{flat_map, AllByRecursion}
use Rattle.std.proofs.lemmas.List.{append-nil, drop_at}
use Rattle.std.proofs.lemmas.List.Concat.{flat_map-cons}
use Rattle.std.proofs.lemmas.Grind.{flat_map-append}
use Rattle.plain_types.specs.declared.entry.Entry.{Entry}
use Rattle.journal_format.specs.Bytes.{bytes_of_all}
use Rattle.journal_format.specs.Image.{header, batch, journal_of, IsBatch, IsJournal}
use Rattle.journal_format.proofs.Journals.{same_batch, regrouped}
use Rattle.mds_journal.specs.declared.fault.JournalFault.{JournalFault}
use Rattle.mds_journal.specs.declared.fault.JournalFault.TheVariants as why
use Rattle.mds_journal.specs.Faults.{ReadsBatch, Scans}
use Rattle.mds_journal.specs.Stops.{before_gate, HasGate, IsOpened, IsClosed}
use Rattle.mds_journal.proofs.Stopped.{at_gate, each_push}

-- the batches so far, and what is left
pub record SoFar (bytes : List ℕ) (entries : List Entry) (rest : List ℕ) : Type 0 where
  pub batches : List (List Entry)
  pub parts : bytes ≡ before_gate batches ++ rest
  pub each : AllByRecursion IsBatch batches
  pub all : entries ≡ flat_map (λ entries. entries) batches

pub begun : (bytes rest : List ℕ) → bytes ≡ header ++ rest → SoFar bytes [] rest
begun bytes rest is = record { batches = []; parts = is; each = tt; all = refl }

pub one_more : (bytes : List ℕ) (entries : List Entry) (rest : List ℕ) (last : List Entry) (behind : List ℕ) → SoFar bytes entries rest → IsBatch last → rest ≡ batch last ++ behind → SoFar bytes (entries ++ last) behind
one_more bytes entries rest last behind so_far one is =
    let batches = so_far.batches in
    let tail : flat_map batch (last ∷ []) ≡ batch last = flat_map-cons batch last [] ∙ append-nil (batch last) in
    let all : flat_map batch (batches ++ last ∷ []) ≡ flat_map batch batches ++ batch last = flat_map-append batch batches (last ∷ []) ∙ ap (λ (l : List ℕ). flat_map batch batches ++ l) tail in
    record {
      batches = batches ++ last ∷ [];
      parts =
          so_far.parts ∙ ap (λ (l : List ℕ). before_gate batches ++ l) is ∙ sym (append_assoc (before_gate batches) (batch last) behind)
          ∙ ap (λ (l : List ℕ). l ++ behind) (append_assoc header (flat_map batch batches) (batch last) ∙ ap (λ (l : List ℕ). header ++ l) (sym all));
      each = each_push batches last so_far.each one;
      all =
          ap (λ (l : List Entry). l ++ last) so_far.all
          ∙ ap (λ (l : List Entry). flat_map (λ entries. entries) batches ++ l) (sym (flat_map-cons (λ (entries : List Entry). entries) last [] ∙ append-nil last))
          ∙ sym (flat_map-append (λ (entries : List Entry). entries) batches (last ∷ []));
    }

-- at the closed gate
pub ended : (bytes : List ℕ) (entries : List Entry) (rest : List ℕ) → SoFar bytes entries rest → IsClosed rest → HasGate bytes entries (length bytes - length rest)
ended bytes entries rest so_far closed = record {
  journal = record {
    batches = so_far.batches;
    gate = closed.0;
    behind = closed.1;
    parts = so_far.parts ∙ ap (λ (l : List ℕ). before_gate so_far.batches ++ l) closed.3 ∙ sym (at_gate so_far.batches closed.0 closed.1);
    closed = closed.2;
    each = so_far.each;
    all = so_far.all;
  };
  place = omega (arith, ap length so_far.parts, length-append (before_gate so_far.batches) rest);
}

-- behind the batches that were read a journal has one more, or its gate
rest_is : (batches others : List (List Entry)) (rest : List ℕ) (gate : ℕ) (behind : List ℕ) → AllByRecursion IsBatch batches → AllByRecursion IsBatch others → gate ≢ 1
    → flat_map batch batches ++ rest ≡ flat_map batch others ++ gate ∷ behind → IsOpened rest ⊎ IsClosed rest
rest_is [] [] rest gate behind each all closed e = inr (gate, behind, closed, e)
rest_is [] (other ∷ others) rest gate behind each all closed e =
    inl (other, flat_map batch others ++ gate ∷ behind, all.0, e ∙ regrouped other others (gate ∷ behind))
rest_is (one ∷ batches) [] rest gate behind each all closed e =
    let whole : gate ∷ behind ≡ batch one ++ (flat_map batch batches ++ rest) = sym e ∙ regrouped one batches rest in
    absurd (closed (ap (λ (l : List ℕ). get_or l 0 0) whole))
rest_is (one ∷ batches) (other ∷ others) rest gate behind each all closed e =
    let whole : batch one ++ (flat_map batch batches ++ rest) ≡ batch other ++ (flat_map batch others ++ gate ∷ behind) =
    sym (regrouped one batches rest) ∙ e ∙ regrouped other others (gate ∷ behind) in
    let heads = same_batch one other (flat_map batch batches ++ rest) (flat_map batch others ++ gate ∷ behind) each.0 all.0 whole in
    rest_is batches others rest gate behind each.1 all.1 closed heads.1

-- where neither stands there, the file is no journal
pub no_journal : (bytes : List ℕ) (entries : List Entry) (rest : List ℕ) → SoFar bytes entries rest → (IsOpened rest → ⊥) → (IsClosed rest → ⊥) → (others : List Entry) → IsJournal bytes others → ⊥
no_journal bytes entries rest so_far no_batch no_gate others journal =
    let inner : header ++ (flat_map batch so_far.batches ++ rest) ≡ header ++ (flat_map batch journal.batches ++ journal.gate ∷ journal.behind) =
    sym (append_assoc header (flat_map batch so_far.batches) rest) ∙ sym so_far.parts ∙ journal.parts ∙ at_gate journal.batches journal.gate journal.behind
    ∙ append_assoc header (flat_map batch journal.batches) (journal.gate ∷ journal.behind) in
    let same : flat_map batch so_far.batches ++ rest ≡ flat_map batch journal.batches ++ journal.gate ∷ journal.behind = ap (λ (l : List ℕ). drop 8 l) inner in
    ⊎_elim no_batch no_gate (rest_is so_far.batches journal.batches rest journal.gate journal.behind so_far.each journal.each journal.closed same)

-- nor is one without the header
pub no_header : (bytes : List ℕ) → ((x : List ℕ) → bytes ≡ header ++ x → ⊥) → (others : List Entry) → IsJournal bytes others → ⊥
no_header bytes none others journal =
    none (flat_map batch journal.batches ++ journal.gate ∷ journal.behind)
    (journal.parts ∙ at_gate journal.batches journal.gate journal.behind ∙ append_assoc header (flat_map batch journal.batches) (journal.gate ∷ journal.behind))

-- a batch takes bytes
pub batch_takes : (rest : List ℕ) (last : List Entry) (behind : List ℕ) → rest ≡ batch last ++ behind → length behind < length rest
batch_takes rest last behind is = omega (arith, ap length is, length-append (batch last) behind)

module _ {X : Type 0} (view : X → List Entry × List ℕ) where
  -- what was read by its case
  pub some_read : (bytes : List ℕ) (read : Option X) (x : X) → read ≡ Some x → ReadsBatch view bytes (Ok read) → IsBatch (view x).0 × (bytes ≡ batch (view x).0 ++ (view x).1)
  some_read bytes read x is reads = subst (λ (r : Option X). ReadsBatch view bytes (Ok r)) is reads

  pub none_read : (bytes : List ℕ) (read : Option X) → read ≡ None → ReadsBatch view bytes (Ok read) → IsClosed bytes
  none_read bytes read is reads = subst (λ (r : Option X). ReadsBatch view bytes (Ok r)) is reads

  pub not_read : (e : JournalFault) (bytes : List ℕ) (entries : List Entry) (rest : List ℕ) → SoFar bytes entries rest → ReadsBatch view rest (Err e) → Scans bytes (Err e)
  not_read why.NotJournal bytes entries rest so_far reads = no_journal bytes entries rest so_far reads.0 reads.1
  not_read why.NoMemory bytes entries rest so_far reads = tt
  not_read why.DiskFault bytes entries rest so_far reads = reads

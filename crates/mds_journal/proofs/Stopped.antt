-- What a stop leaves of a write behind a journal, of one over its gate, and of a cut behind it.
use Rattle.std.proofs.Common.{◌≡◌, ◌≤◌, inl, inr, ℕ, ◌+◌, ◌<◌, List, [], ◌∷◌, ◌++◌, length, get_or, take, drop, refl, sym, ap, subst, ◌∙◌, append_assoc, arith, length-append}
use Rattle.std.specs.List.{flat_map, AllByRecursion}
use Rattle.std.proofs.lemmas.Bool.{cases_eq}
use Rattle.std.proofs.lemmas.List.{append-nil, take_at, drop_at, take-take, take-append-drop}
use Rattle.std.proofs.lemmas.List.Concat.{flat_map-cons}
use Rattle.std.proofs.lemmas.Grind.{flat_map-append}
use Rattle.io_edge.specs.Disk.{written, Torn, Shortened, Only, LeavesOnly}
use Rattle.io_edge.proofs.Moments.{runs_on, leaves_weaker}
use Rattle.io_edge.proofs.TornLemmas.{torn_behind, torn_byte, written_behind, written_within}
use Rattle.plain_types.specs.declared.entry.Entry.{Entry}
use Rattle.journal_format.specs.Bytes.{word, bytes_of_all}
use Rattle.journal_format.specs.Image.{header, batch, journal_of, IsBatch, IsJournal, IsImage}
use Rattle.mds_journal.specs.Stops.{IsWithOrWithout, Stages, before_gate}

pub at_gate : (batches : List (List Entry)) (gate : ℕ) (behind : List ℕ) → journal_of batches gate ++ behind ≡ before_gate batches ++ gate ∷ behind
at_gate batches gate behind =
    append_assoc header (flat_map batch batches ++ gate ∷ []) behind
    ∙ ap (λ (l : List ℕ). header ++ l) (append_assoc (flat_map batch batches) (gate ∷ []) behind)
    ∙ sym (append_assoc header (flat_map batch batches) (gate ∷ behind))

-- whatever stands behind its closed gate, a file is a journal of the same entries
pub more_behind : (file more : List ℕ) (entries : List Entry) → IsImage file entries → IsJournal (file ++ more) entries
more_behind file more entries image = record {
  batches = image.batches;
  gate = image.gate;
  behind = more;
  parts = ap (λ (l : List ℕ). l ++ more) image.parts;
  closed = image.closed;
  each = image.each;
  all = image.all;
}

-- a write behind the gate leaves the entries
pub stage_left : (file c : List ℕ) (count : ℕ) (entries : List Entry) → IsImage file entries → Torn (length file) count file c → IsJournal c entries
stage_left file c count entries image torn =
    subst (λ (l : List ℕ). IsJournal l entries) (sym (torn_behind (length file) count file c refl torn)) (more_behind file (drop (length file) c) entries image)

pub each_push : (batches : List (List Entry)) (last : List Entry) → AllByRecursion IsBatch batches → IsBatch last → AllByRecursion IsBatch (batches ++ last ∷ [])
each_push [] last each one = (one, tt)
each_push (first ∷ batches) last each one = (each.0, each_push batches last each.1 one)

-- batches, and one more behind them
pub one_more_batch : (batches : List (List Entry)) (last : List Entry) (gate : ℕ) → before_gate batches ++ 1 ∷ (word (length (bytes_of_all last)) ++ (bytes_of_all last ++ gate ∷ [])) ≡ journal_of (batches ++ last ∷ []) gate
one_more_batch batches last gate =
    let tail : flat_map batch (last ∷ []) ≡ batch last = flat_map-cons batch last [] ∙ append-nil (batch last) in
    let all : flat_map batch (batches ++ last ∷ []) ≡ flat_map batch batches ++ batch last = flat_map-append batch batches (last ∷ []) ∙ ap (λ (l : List ℕ). flat_map batch batches ++ l) tail in
    let inner : batch last ++ gate ∷ [] ≡ 1 ∷ (word (length (bytes_of_all last)) ++ (bytes_of_all last ++ gate ∷ [])) = ap (λ (l : List ℕ). 1 ∷ l) (append_assoc (word (length (bytes_of_all last))) (bytes_of_all last) (gate ∷ [])) in
    append_assoc header (flat_map batch batches) _
    ∙ ap (λ (l : List ℕ). header ++ l) (
    ap (λ (l : List ℕ). flat_map batch batches ++ l) (sym inner)
    ∙ sym (append_assoc (flat_map batch batches) (batch last) (gate ∷ []))
    ∙ ap (λ (l : List ℕ). l ++ gate ∷ []) (sym all)
    )

-- with the gate open the batch behind it counts
pub opened : (batches : List (List Entry)) (last entries : List Entry) → AllByRecursion IsBatch batches → IsBatch last → entries ≡ flat_map (λ entries. entries) batches → IsImage (journal_of (batches ++ last ∷ []) 0) (entries ++ last)
opened batches last entries each one all = record {
  batches = batches ++ last ∷ [];
  gate = 0;
  parts = refl;
  closed = λ e. absurd cc;
  each = each_push batches last each one;
  all =
      ap (λ (l : List Entry). l ++ last) all
      ∙ ap (λ (l : List Entry). flat_map (λ entries. entries) batches ++ l) (sym (flat_map-cons (λ (entries : List Entry). entries) last [] ∙ append-nil last))
      ∙ sym (flat_map-append (λ (entries : List Entry). entries) batches (last ∷ []));
}

pub image_is_journal : (file : List ℕ) (entries : List Entry) → IsImage file entries → IsJournal file entries
image_is_journal file entries image = subst (λ (l : List ℕ). IsJournal l entries) (append-nil file) (more_behind file [] entries image)

-- some byte stands in the place of the gate, with a batch behind it
pub gate_left : (batches : List (List Entry)) (last entries : List Entry) (gate : ℕ) → AllByRecursion IsBatch batches → IsBatch last → entries ≡ flat_map (λ entries. entries) batches
    → IsWithOrWithout entries last (before_gate batches ++ gate ∷ (word (length (bytes_of_all last)) ++ (bytes_of_all last ++ 0 ∷ [])))
gate_left batches last entries gate each one all =
    let behind = word (length (bytes_of_all last)) ++ (bytes_of_all last ++ 0 ∷ []) in
    elim (cases_eq gate 1) [
      | inl is ↦
          let file : before_gate batches ++ gate ∷ behind ≡ journal_of (batches ++ last ∷ []) 0 = ap (λ (g : ℕ). before_gate batches ++ g ∷ behind) is ∙ one_more_batch batches last 0 in
          inr (subst (λ (l : List ℕ). IsJournal l (entries ++ last)) (sym file) (image_is_journal _ _ (opened batches last entries each one all)))
      | inr shut ↦ inl (record {
        batches = batches;
        gate = gate;
        behind = behind;
        parts = sym (at_gate batches gate behind);
        closed = shut;
        each = each;
        all = all;
      })
    ]

-- a stop in the write over the gate
gate_opened : (batches : List (List Entry)) (last entries : List Entry) (g gate : ℕ) (d c : List ℕ) → AllByRecursion IsBatch batches → IsBatch last → entries ≡ flat_map (λ entries. entries) batches
    → length (before_gate batches) ≡ gate → d ≡ before_gate batches ++ g ∷ (word (length (bytes_of_all last)) ++ (bytes_of_all last ++ 0 ∷ [])) → Torn gate 1 d c → IsWithOrWithout entries last c
gate_opened batches last entries g gate d c each one all size is torn =
    let staged = word (length (bytes_of_all last)) ++ (bytes_of_all last ++ 0 ∷ []) in
    let inside : gate < length d = omega (arith, ap length is, length-append (before_gate batches) (g ∷ staged), size) in
    let front : take gate d ≡ before_gate batches = ap (λ (l : List ℕ). take gate l) is ∙ take_at (before_gate batches) (g ∷ staged) gate size in
    let split : before_gate batches ++ g ∷ staged ≡ (before_gate batches ++ g ∷ []) ++ staged = sym (append_assoc (before_gate batches) (g ∷ []) staged) in
    let back : drop (gate + 1) d ≡ staged = ap (λ (l : List ℕ). drop (gate + 1) l) (is ∙ split) ∙ drop_at (before_gate batches ++ g ∷ []) staged (gate + 1) (omega (arith, length-append (before_gate batches) (g ∷ []), size)) in
    let byte = get_or c gate 0 in
    let whole : c ≡ before_gate batches ++ byte ∷ staged =
    torn_byte gate d c inside torn ∙ ap (λ (l : List ℕ). l ++ byte ∷ drop (gate + 1) d) front ∙ ap (λ (l : List ℕ). before_gate batches ++ byte ∷ l) back in
    subst (IsWithOrWithout entries last) (sym whole) (gate_left batches last entries byte each one all)

gate_size : (batches : List (List Entry)) (g gate : ℕ) (file : List ℕ) → file ≡ journal_of batches g → gate + 1 ≡ length file → length (before_gate batches) ≡ gate
gate_size batches g gate file is place =
    let whole : file ≡ before_gate batches ++ g ∷ [] = is ∙ sym (append-nil (journal_of batches g)) ∙ at_gate batches g [] in
    omega (arith, place, ap length whole, length-append (before_gate batches) (g ∷ []))

module _ {D : Type 0} (left_since : D → D → List ℕ → Type 0) (may_old may_mid : List ℕ → Type 0) (old mid : D) (file bytes : List ℕ) (gate : ℕ) (entries last : List Entry)
    (image : IsImage file entries) (stages : Stages file gate bytes last) (only : Only file may_old)
    (first : LeavesOnly left_since old mid (λ c. (d : List ℕ) × may_old d × Torn (gate + 1) (length bytes) d c)) where
  -- the write behind the gate
  pub staging : LeavesOnly left_since old mid (IsWithOrWithout entries last)
  staging = leaves_weaker left_since old mid _ _ (λ c left. inl (stage_left file c (length bytes) entries image (here c left))) first
    where
      here : (c : List ℕ) → (d : List ℕ) × may_old d × Torn (gate + 1) (length bytes) d c → Torn (length file) (length bytes) file c
      here c left = subst (λ (n : ℕ). Torn n (length bytes) file c) stages.place (subst (λ (l : List ℕ). Torn (gate + 1) (length bytes) l c) (only left.0 left.1) left.2)

  -- and the one over it
  pub opening : (new : D) (seen : List ℕ) → seen ≡ written (gate + 1) bytes file → Only seen may_mid → LeavesOnly left_since mid new (λ c. (d : List ℕ) × may_mid d × Torn gate 1 d c) → LeavesOnly left_since old new (IsWithOrWithout entries last)
  opening new seen done synced second = runs_on may_none left_since old mid new (IsWithOrWithout entries last) staging (leaves_weaker left_since mid new _ _ here second)
    where
      may_none : D → List ℕ → Type 0
      may_none disk c = Unit {0}

      here : (c : List ℕ) → (d : List ℕ) × may_mid d × Torn gate 1 d c → IsWithOrWithout entries last c
      here c left =
          let mid_is : seen ≡ before_gate image.batches ++ image.gate ∷ (word (length (bytes_of_all last)) ++ (bytes_of_all last ++ 0 ∷ [])) =
          done ∙ written_behind (gate + 1) bytes file stages.place ∙ ap (λ (l : List ℕ). file ++ l) stages.bytes_are ∙ ap (λ (l : List ℕ). l ++ (word (length (bytes_of_all last)) ++ (bytes_of_all last ++ 0 ∷ []))) image.parts
          ∙ at_gate image.batches image.gate (word (length (bytes_of_all last)) ++ (bytes_of_all last ++ 0 ∷ [])) in
          gate_opened image.batches last entries image.gate gate left.0 c image.each stages.one image.all (gate_size image.batches image.gate gate file image.parts stages.place) (synced left.0 left.1 ∙ mid_is) left.2

-- with both writes done the file is the image of the entries with the batch
pub appended : (file bytes : List ℕ) (gate : ℕ) (entries last : List Entry) → IsImage file entries → Stages file gate bytes last → IsImage (written gate (1 ∷ []) (written (gate + 1) bytes file)) (entries ++ last)
appended file bytes gate entries last image stages =
    let staged = word (length (bytes_of_all last)) ++ (bytes_of_all last ++ 0 ∷ []) in
    let batches = image.batches in
    let d = written (gate + 1) bytes file in
    let size = gate_size batches image.gate gate file image.parts stages.place in
    let is : d ≡ before_gate batches ++ image.gate ∷ staged =
    written_behind (gate + 1) bytes file stages.place ∙ ap (λ (l : List ℕ). file ++ l) stages.bytes_are ∙ ap (λ (l : List ℕ). l ++ staged) image.parts ∙ at_gate batches image.gate staged in
    let long : gate ≤ length d = omega (arith, ap length is, length-append (before_gate batches) (image.gate ∷ staged), size) in
    let front : take gate d ≡ before_gate batches = ap (λ (l : List ℕ). take gate l) is ∙ take_at (before_gate batches) (image.gate ∷ staged) gate size in
    let split : before_gate batches ++ image.gate ∷ staged ≡ (before_gate batches ++ image.gate ∷ []) ++ staged = sym (append_assoc (before_gate batches) (image.gate ∷ []) staged) in
    let back : drop (gate + 1) d ≡ staged = ap (λ (l : List ℕ). drop (gate + 1) l) (is ∙ split) ∙ drop_at (before_gate batches ++ image.gate ∷ []) staged (gate + 1) (omega (arith, length-append (before_gate batches) (image.gate ∷ []), size)) in
    let whole : written gate (1 ∷ []) d ≡ before_gate batches ++ 1 ∷ staged =
    written_within gate (1 ∷ []) d long ∙ ap (λ (l : List ℕ). l ++ 1 ∷ [] ++ drop (gate + 1) d) front ∙ ap (λ (l : List ℕ). before_gate batches ++ 1 ∷ [] ++ l) back ∙ append_assoc (before_gate batches) (1 ∷ []) staged in
    let file_is : written gate (1 ∷ []) d ≡ journal_of (batches ++ last ∷ []) 0 = whole ∙ one_more_batch batches last 0 in
    subst (λ (l : List ℕ). IsImage l (entries ++ last)) (sym file_is) (opened batches last entries image.each stages.one image.all)

-- any cut behind the gate leaves the entries
pub cut_left : (file c : List ℕ) (most : ℕ) (entries : List Entry) (journal : IsJournal file entries) → length (before_gate journal.batches) < most → Shortened most file c → IsJournal c entries
cut_left file c most entries journal behind short =
    let front = before_gate journal.batches ++ journal.gate ∷ [] in
    let size : length front ≡ length (before_gate journal.batches) + 1 = length-append (before_gate journal.batches) (journal.gate ∷ []) in
    let whole : file ≡ front ++ journal.behind = journal.parts ∙ at_gate journal.batches journal.gate journal.behind ∙ sym (append_assoc (before_gate journal.batches) (journal.gate ∷ []) journal.behind) in
    let long : length front ≤ length c = omega (arith, size, behind, short.no_shorter, ap length whole, length-append front journal.behind) in
    let cut : take (length front) c ≡ front = shortened_keeps_front long in
    let parts : c ≡ front ++ drop (length front) c = sym (take-append-drop (length front) c) ∙ ap (λ (l : List ℕ). l ++ drop (length front) c) cut in
    record {
      batches = journal.batches;
      gate = journal.gate;
      behind = drop (length front) c;
      parts = parts ∙ append_assoc (before_gate journal.batches) (journal.gate ∷ []) (drop (length front) c) ∙ sym (at_gate journal.batches journal.gate (drop (length front) c));
      closed = journal.closed;
      each = journal.each;
      all = journal.all;
    }
  where
    shortened_keeps_front : length (before_gate journal.batches ++ journal.gate ∷ []) ≤ length c → take (length (before_gate journal.batches ++ journal.gate ∷ [])) c ≡ before_gate journal.batches ++ journal.gate ∷ []
    shortened_keeps_front long =
        let front = before_gate journal.batches ++ journal.gate ∷ [] in
        let whole : file ≡ front ++ journal.behind = journal.parts ∙ at_gate journal.batches journal.gate journal.behind ∙ sym (append_assoc (before_gate journal.batches) (journal.gate ∷ []) journal.behind) in
        ap (λ (l : List ℕ). take (length front) l) (sym short.front) ∙ take-take (length front) (length c) file long ∙ ap (λ (l : List ℕ). take (length front) l) whole ∙ take_at front journal.behind (length front) refl

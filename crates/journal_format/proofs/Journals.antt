-- A file is a journal of one list of entries only.
use Rattle.std.proofs.Common.{◌≡◌, ◌≢◌, ℕ, List, [], ◌∷◌, ◌++◌, length, get_or, take, drop, Some, refl, sym, ap, ◌∙◌, append_assoc}
use Rattle.std.specs.List.{flat_map, AllByRecursion}
use Rattle.std.proofs.lemmas.List.{take_at, drop_at}
use Rattle.std.proofs.lemmas.List.Concat.{flat_map-cons}
use Rattle.plain_types.specs.declared.entry.Entry.{Entry}
use Rattle.journal_format.specs.Bytes.{word, bytes_of_all}
use Rattle.journal_format.specs.Image.{header, batch, journal_of, IsBatch, IsJournal}
use Rattle.journal_format.specs.Reading.{word_at}
use Rattle.journal_format.proofs.Formats.{words, some_is}
use Rattle.journal_format.proofs.Listed.{same_is}

-- files that begin with a batch begin with the same one, and go on alike
pub same_batch : (a b : List Entry) (x y : List ℕ) → IsBatch a → IsBatch b → batch a ++ x ≡ batch b ++ y → (a ≡ b) × (x ≡ y)
same_batch a b x y first second e =
    let m = length (bytes_of_all a) in
    let n = length (bytes_of_all b) in
    let inner : word m ++ (bytes_of_all a ++ x) ≡ word n ++ (bytes_of_all b ++ y) =
    sym (append_assoc (word m) (bytes_of_all a) x) ∙ ap (λ (l : List ℕ). drop 1 l) e ∙ append_assoc (word n) (bytes_of_all b) y in
    let one : word_at (word m ++ (bytes_of_all a ++ x)) ≡ Some (m, bytes_of_all a ++ x) = words.again m (bytes_of_all a ++ x) first.fits in
    let two : word_at (word n ++ (bytes_of_all b ++ y)) ≡ Some (n, bytes_of_all b ++ y) = words.again n (bytes_of_all b ++ y) second.fits in
    let pairs : (m, bytes_of_all a ++ x) ≡ (n, bytes_of_all b ++ y) = some_is (m, bytes_of_all a ++ x) (n, bytes_of_all b ++ y) (sym one ∙ ap word_at inner ∙ two) in
    let counts : m ≡ n = ap (λ (p : ℕ × List ℕ). p.0) pairs in
    let bodies : bytes_of_all a ++ x ≡ bytes_of_all b ++ y = ap (λ (p : ℕ × List ℕ). p.1) pairs in
    let fronts : bytes_of_all a ≡ bytes_of_all b = sym (take_at (bytes_of_all a) x m refl) ∙ ap (λ (l : List ℕ). take m l) bodies ∙ take_at (bytes_of_all b) y m (sym counts) in
    let backs : x ≡ y = sym (drop_at (bytes_of_all a) x m refl) ∙ ap (λ (l : List ℕ). drop m l) bodies ∙ drop_at (bytes_of_all b) y m (sym counts) in
    (same_is a b first.within second.within fronts, backs)

pub regrouped : (first : List Entry) (batches : List (List Entry)) (rest : List ℕ) → flat_map batch (first ∷ batches) ++ rest ≡ batch first ++ (flat_map batch batches ++ rest)
regrouped first batches rest = ap (λ (l : List ℕ). l ++ rest) (flat_map-cons batch first batches) ∙ append_assoc (batch first) (flat_map batch batches) rest

-- batches up to a closed gate are the same
same_batches : (a b : List (List Entry)) (g h : ℕ) (x y : List ℕ) → AllByRecursion IsBatch a → AllByRecursion IsBatch b → g ≢ 1 → h ≢ 1 → flat_map batch a ++ g ∷ x ≡ flat_map batch b ++ h ∷ y → a ≡ b
same_batches [] [] g h x y first second shut closed e = refl
same_batches [] (other ∷ b) g h x y first second shut closed e =
    let whole : g ∷ x ≡ batch other ++ (flat_map batch b ++ h ∷ y) = e ∙ regrouped other b (h ∷ y) in
    absurd (shut (ap (λ (l : List ℕ). get_or l 0 0) whole))
same_batches (one ∷ a) [] g h x y first second shut closed e =
    let whole : h ∷ y ≡ batch one ++ (flat_map batch a ++ g ∷ x) = sym e ∙ regrouped one a (g ∷ x) in
    absurd (closed (ap (λ (l : List ℕ). get_or l 0 0) whole))
same_batches (one ∷ a) (other ∷ b) g h x y first second shut closed e =
    let whole : batch one ++ (flat_map batch a ++ g ∷ x) ≡ batch other ++ (flat_map batch b ++ h ∷ y) = sym (regrouped one a (g ∷ x)) ∙ e ∙ regrouped other b (h ∷ y) in
    let heads = same_batch one other (flat_map batch a ++ g ∷ x) (flat_map batch b ++ h ∷ y) first.0 second.0 whole in
    let tails = same_batches a b g h x y first.1 second.1 shut closed heads.1 in
    ap (λ (l : List (List Entry)). one ∷ l) tails ∙ ap (λ (l : List Entry). l ∷ b) heads.0

-- the file behind its header
behind_header : (file : List ℕ) (batches : List (List Entry)) (gate : ℕ) (behind : List ℕ) → file ≡ journal_of batches gate ++ behind → drop 8 file ≡ flat_map batch batches ++ gate ∷ behind
behind_header file batches gate behind is =
    let inner = flat_map batch batches ++ gate ∷ [] in
    let whole : file ≡ header ++ (flat_map batch batches ++ gate ∷ behind) =
    is ∙ append_assoc header inner behind ∙ ap (λ (l : List ℕ). header ++ l) (append_assoc (flat_map batch batches) (gate ∷ []) behind) in
    ap (λ (l : List ℕ). drop 8 l) whole ∙ drop_at header (flat_map batch batches ++ gate ∷ behind) 8 refl

pub one_list : (file : List ℕ) (a b : List Entry) → IsJournal file a → IsJournal file b → a ≡ b
one_list file a b one other =
    let same = same_batches one.batches other.batches one.gate other.gate one.behind other.behind one.each other.each one.closed other.closed
    (sym (behind_header file one.batches one.gate one.behind one.parts) ∙ behind_header file other.batches other.gate other.behind other.parts) in
    one.all ∙ ap (λ (l : List (List Entry)). flat_map (λ entries. entries) l) same ∙ sym other.all

-- What a crash leaves of a write behind the end of a file, of one byte, and of a cut.
use Rattle.std.proofs.Common.{◌≡◌, ℕ, ◌+◌, ◌-◌, ◌≤◌, ◌<◌, List, [], ◌∷◌, ◌++◌, length, take, drop, min, get_or, replicate, sym, ap, ◌∙◌, arith, take-append-drop}
use Rattle.std.proofs.lemmas.List.{append-nil, take_all, drop_all, drop_more, take-take}
use Rattle.io_edge.specs.Disk.{written, Torn, Shortened}

-- what stands before the place stays
pub torn_front : (place count : ℕ) (old new : List ℕ) → place ≤ length old → Torn place count old new → take place new ≡ take place old
torn_front place count old new inside torn =
    let at_place : min place (length old) ≡ place = omega arith in
    ap (λ (n : ℕ). take n new) (sym at_place) ∙ torn.before

-- behind the old end: the old file, and something behind it
pub torn_behind : (place count : ℕ) (old new : List ℕ) → place ≡ length old → Torn place count old new → new ≡ old ++ drop place new
torn_behind place count old new is torn =
    let front : take place new ≡ old = torn_front place count old new (omega arith) torn ∙ take_all place old (omega arith) in
    sym (take-append-drop place new) ∙ ap (λ (l : List ℕ). l ++ drop place new) front

-- one byte: some byte stands there, and all else stays
pub torn_byte : (place : ℕ) (old new : List ℕ) → place < length old → Torn place 1 old new → new ≡ take place old ++ get_or new place 0 ∷ drop (place + 1) old
torn_byte place old new inside torn =
    let byte = get_or new place 0 in
    let rest : drop place new ≡ byte ∷ drop (place + 1) old =
    drop_more new place 0 (omega (arith, torn.no_shorter)) ∙ ap (λ (l : List ℕ). byte ∷ l) torn.after in
    sym (take-append-drop place new) ∙ ap (λ (l : List ℕ). l ++ drop place new) (torn_front place 1 old new (omega arith) torn)
    ∙ ap (λ (l : List ℕ). take place old ++ l) rest

-- a write that leaves no gap
pub written_within : (place : ℕ) (bytes file : List ℕ) → place ≤ length file → written place bytes file ≡ take place file ++ bytes ++ drop (place + length bytes) file
written_within place [] file inside =
    sym (take-append-drop place file) ∙ ap (λ (l : List ℕ). l ++ drop place file) (sym (append-nil (take place file))) ∙ ap (λ (n : ℕ). take place file ++ [] ++ drop n file) (omega arith)
written_within place (byte ∷ bytes) file inside =
    let none : place - length file ≡ 0 = omega arith in
    ap (λ (n : ℕ). take place file ++ replicate {A = ℕ} n 0 ++ byte ∷ bytes ++ drop (place + length (byte ∷ bytes)) file) none
    ∙ ap (λ (l : List ℕ). l ++ byte ∷ bytes ++ drop (place + length (byte ∷ bytes)) file) (append-nil (take place file))

-- a write at the end
pub written_behind : (place : ℕ) (bytes file : List ℕ) → place ≡ length file → written place bytes file ≡ file ++ bytes
written_behind place bytes file is =
    written_within place bytes file (omega arith)
    ∙ ap (λ (l : List ℕ). l ++ bytes ++ drop (place + length bytes) file) (take_all place file (omega arith))
    ∙ ap (λ (l : List ℕ). file ++ bytes ++ l) (drop_all (place + length bytes) file (omega arith))
    ∙ append-nil (file ++ bytes)

-- a cut keeps what is no longer than it
pub shortened_keeps : (n most : ℕ) (old new : List ℕ) → n ≤ most → n ≤ length old → Shortened most old new → take n new ≡ take n old
shortened_keeps n most old new under within short =
    ap (take n) (sym short.front) ∙ take-take n (length new) old (omega (arith, short.no_shorter))

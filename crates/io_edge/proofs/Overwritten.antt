-- Bytes that are written over a file, and behind its end.
use Rattle.std.proofs.Common.{◌≡◌, ◌≤◌, ◌<◌, ◌+◌, ◌-◌, ◌++◌, ℕ, List, [], ◌∷◌, length, take, drop, replicate, inl, inr, sym, ◌∙◌, ap, arith, length-append}
use Rattle.std.proofs.lemmas.List.{append-nil, take_all, drop_all, take-append-le, length-replicate, take-replicate}
use Rattle.std.proofs.Math.Seq.{take-append-add}
use Rattle.std.proofs.lemmas.Bool.{cases_lt}
use Rattle.io_edge.specs.Disk.{written}

-- a file with zeros behind it, up to an end
abbrev pub grown : ℕ → List ℕ → List ℕ
grown end file = file ++ replicate (end - length file) 0

nothing_more : (n : ℕ) → n ≡ 0 → replicate {A = ℕ} n 0 ≡ []
nothing_more n none = ap (λ (m : ℕ). replicate {A = ℕ} m 0) none

-- zeros stand in the gap
front_of_grown : (place end : ℕ) (file : List ℕ) → place ≤ end → take place (grown end file) ≡ take place file ++ replicate (place - length file) 0
front_of_grown place end file within = elim (cases_lt (length file) place) [
  | inr inside ↦
      take-append-le place file (replicate (end - length file) 0) inside ∙ sym (append-nil (take place file))
      ∙ ap (λ (gap : List ℕ). take place file ++ gap) (sym (nothing_more (place - length file) (omega arith)))
  | inl behind ↦
      let gap = place - length file in
      let at_gap : place ≡ length file + gap = omega arith in
      ap (λ (n : ℕ). take n (grown end file)) at_gap ∙ take-append-add file (replicate (end - length file) 0) gap
      ∙ ap (λ (zeros : List ℕ). file ++ zeros) (take-replicate gap (end - length file) 0 (omega arith))
      ∙ ap (λ (front : List ℕ). front ++ replicate gap 0) (sym (take_all place file (omega arith)))
]

-- what stands behind is what stood there
end_of_grown : (end : ℕ) (file : List ℕ) → drop end (grown end file) ≡ drop end file
end_of_grown end file = elim (cases_lt end (length file)) [
  | inr short ↦
      drop_all end (grown end file) (omega (arith, length-append file (replicate (end - length file) 0), length-replicate {A = ℕ} (end - length file) 0))
      ∙ sym (drop_all end file short)
  | inl long ↦ ap (λ (zeros : List ℕ). drop end (file ++ zeros)) (nothing_more (end - length file) (omega arith)) ∙ ap (drop end) (append-nil file)
]

-- bytes over a file that has grown up to their end
pub overwritten : (place end : ℕ) (bytes file : List ℕ) → 0 < length bytes → end ≡ place + length bytes → take place (grown end file) ++ bytes ++ drop (place + length bytes) (grown end file) ≡ written place bytes file
overwritten place end [] file some is = absurd (omega arith)
overwritten place end (byte ∷ bytes) file some is =
    let whole = byte ∷ bytes in
    let behind : drop (place + length whole) (grown end file) ≡ drop (place + length whole) file =
    ap (λ (n : ℕ). drop n (grown end file)) (sym is) ∙ end_of_grown end file ∙ ap (λ (n : ℕ). drop n file) is in
    ap (λ (front : List ℕ). front ++ whole ++ drop (place + length whole) (grown end file)) (front_of_grown place end file (omega arith))
    ∙ ap (λ (end : List ℕ). take place file ++ replicate (place - length file) 0 ++ whole ++ end) behind

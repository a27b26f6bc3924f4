-- The calls of a record up to some moment.
use Rattle.std.proofs.Common.{◌≡◌, ◌≤◌, ◌+◌, ◌-◌, ◌^◌, ℕ, List, length, take, drop, reverse, min, sym, ◌∙◌, ap, arith, take-append-drop, length-drop}
use Rattle.std.proofs.lemmas.List.{drop_at, reverse-append, length-reverse}
use Rattle.io_edge.specs.declared.disk_call.DiskCall.{DiskCall}
use Rattle.io_edge.specs.Past.{file_after, since_sync, stopped_file}

-- the first n, the last one first
reverse_take : (n : ℕ) (calls : List DiskCall) → n ≤ length calls → reverse (take n calls) ≡ drop (length calls - n) (reverse calls)
reverse_take n calls within =
    let later : length (reverse (drop n calls)) ≡ length calls - n = length-reverse (drop n calls) ∙ length-drop n calls in
    sym (ap (λ (all : List DiskCall). drop (length calls - n) (reverse all)) (sym (take-append-drop n calls))
    ∙ ap (drop (length calls - n)) (reverse-append (take n calls) (drop n calls))
    ∙ drop_at (reverse (drop n calls)) (reverse (take n calls)) (length calls - n) later)

-- those up to the last sync, and some first ones of those since
pub stopped_is : (base : List ℕ) (calls : List DiskCall) (synced kept until : ℕ) → synced + length (since_sync (reverse calls)) ≡ length calls → until ≡ min (min (synced + kept) (2 ^ 64 - 1)) (length calls) → length calls ≤ 2 ^ 64 - 1
    → file_after base (reverse (take until calls)) ≡ stopped_file kept (record { base = base; done = reverse calls })
stopped_is base calls synced kept until counts is fits =
    let behind : length calls - until ≡ length (since_sync (reverse calls)) - kept = omega arith in
    ap (file_after base) (reverse_take until calls (omega arith) ∙ ap (λ (n : ℕ). drop n (reverse calls)) behind)

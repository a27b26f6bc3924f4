-- The definitions at small files.
use Rattle.std.proofs.Common.{◌≡◌, ℕ, List, [], ◌∷◌, refl, ap, get_or, arith}
use Rattle.io_edge.specs.declared.disk_call.DiskCall.TheVariants.{Write, Cut, Sync}
use Rattle.io_edge.specs.Disk.{written, Torn, Shortened}
use Rattle.io_edge.specs.Past.{Past, file_of, stopped_file}

over : written 1 (8 ∷ 9 ∷ []) (1 ∷ 2 ∷ 3 ∷ 4 ∷ []) ≡ 1 ∷ 8 ∷ 9 ∷ 4 ∷ []
over = refl

past_the_end : written 1 (8 ∷ 9 ∷ []) (1 ∷ 2 ∷ []) ≡ 1 ∷ 8 ∷ 9 ∷ []
past_the_end = refl

over_a_gap : written 4 (8 ∷ []) (1 ∷ 2 ∷ []) ≡ 1 ∷ 2 ∷ 0 ∷ 0 ∷ 8 ∷ []
over_a_gap = refl

nothing_written : written 4 [] (1 ∷ 2 ∷ []) ≡ 1 ∷ 2 ∷ []
nothing_written = refl

-- a write, a sync, a write behind it and a cut, the last one first
abbrev example : Past
example = record { base = []; done = Cut 1 ∷ Write 2 (3 ∷ []) ∷ Sync ∷ Write 0 (1 ∷ 2 ∷ []) ∷ [] }

example_file : file_of example ≡ 1 ∷ []
example_file = refl

stopped_at_the_sync : stopped_file 0 example ≡ 1 ∷ 2 ∷ []
stopped_at_the_sync = refl

stopped_before_the_cut : stopped_file 1 example ≡ 1 ∷ 2 ∷ 3 ∷ []
stopped_before_the_cut = refl

stopped_late : stopped_file 7 example ≡ 1 ∷ []
stopped_late = refl

-- a torn write may leave any byte in its range
any_byte : Torn 1 1 (1 ∷ 2 ∷ 3 ∷ []) (1 ∷ 9 ∷ 3 ∷ [])
any_byte = record { before = refl; after = refl; no_shorter = omega arith }

-- and no other byte behind it
no_other_byte : Torn 1 1 (1 ∷ 2 ∷ 3 ∷ []) (1 ∷ 9 ∷ 4 ∷ []) → ⊥
no_other_byte torn = omega (arith, ap (λ (bytes : List ℕ). get_or bytes 0 0) torn.after)

-- a cut never leaves less than it is to leave
no_less : Shortened 1 (1 ∷ 2 ∷ []) [] → ⊥
no_less short = omega (arith, short.no_shorter)

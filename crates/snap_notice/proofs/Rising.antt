-- The files that a client is told of rise.
use Rattle.std.proofs.Common.{◌≡◌, ℕ, ◌<◌, Bool, true, false, cond, eqb, List, [], ◌∷◌, ◌++◌, map, filter, refl, ap, sym, ◌∙◌, subst, arith}
use Rattle.std.specs.Prelude.{nat_lt}
use Rattle.std.specs.List.{AllByRecursion, flat_map}
use Rattle.std.proofs.lemmas.Bool.Decides.{nat_tests}
use Rattle.snap_ids.specs.declared.id.Ino.{Ino}
use Rattle.plain_types.specs.declared.message.FileTrace.{FileTrace}
use Rattle.cap_state.specs.Table.{Holding, MayPrecede, IsTable}
use Rattle.snap_realm.specs.Tree.{Tree}
use Rattle.snap_notice.specs.Notices.{is_told, told, of_client, notice, clients, by_client, file_trace, Rise, files_of}

-- a client's files that are told
abbrev its_files : List Ino → ℕ → List Holding → List Ino
its_files changed client held = of_client (λ (ino : Ino). ino) client (told changed held)

abbrev all_told : List Ino → List Holding → List (ℕ × Ino)
all_told changed held = map (λ (h : Holding). (h.0, h.1.ino)) (filter (is_told changed) held)

-- one that stands before another of the same client is a lower file
less_by : (h g : Holding) (client : ℕ) → eqb h.0 client ≡ true → eqb g.0 client ≡ true → (e : Bool) → eqb h.1.ino.0 g.1.ino.0 ≡ e → cond e (nat_lt h.0 g.0) (nat_lt h.1.ino.0 g.1.ino.0) ≡ true → h.1.ino.0 < g.1.ino.0
less_by h g client mine its true same before = grind (arith, nat_tests)
less_by h g client mine its false same before = grind (arith, nat_tests)

later_files : (changed : List Ino) (client : ℕ) (h : Holding) → eqb h.0 client ≡ true → (held : List Holding) → AllByRecursion (MayPrecede h) held → AllByRecursion (λ (later : Ino). h.1.ino.0 < later.0) (its_files changed client held)
later_files changed client h mine [] all = tt
later_files changed client h mine (g ∷ held) all = go (is_told changed g) (later_files changed client h mine held all.1)
  where
    rest : List (ℕ × Ino)
    rest = filter (λ (file : ℕ × Ino). eqb file.0 client) (all_told changed held)

    here : (b : Bool) → eqb g.0 client ≡ b → AllByRecursion (λ (later : Ino). h.1.ino.0 < later.0) (map (λ (file : ℕ × Ino). file.1) rest) → AllByRecursion (λ (later : Ino). h.1.ino.0 < later.0) (map (λ (file : ℕ × Ino). file.1) (cond b ((g.0, g.1.ino) ∷ rest) rest))
    here true its later = (less_by h g client mine its (eqb h.1.ino.0 g.1.ino.0) refl all.0.before, later)
    here false its later = later

    go : (b : Bool) → AllByRecursion (λ (later : Ino). h.1.ino.0 < later.0) (map (λ (file : ℕ × Ino). file.1) rest) → AllByRecursion (λ (later : Ino). h.1.ino.0 < later.0) (of_client (λ (ino : Ino). ino) client (map (λ (h : Holding). (h.0, h.1.ino)) (cond b (g ∷ filter (is_told changed) held) (filter (is_told changed) held))))
    go true later = here (eqb g.0 client) refl later
    go false later = later

its_files_rise : (changed : List Ino) (client : ℕ) (held : List Holding) → IsTable held → Rise (its_files changed client held)
its_files_rise changed client [] table = tt
its_files_rise changed client (h ∷ held) table = go (is_told changed h) (its_files_rise changed client held table.1)
  where
    rest : List (ℕ × Ino)
    rest = filter (λ (file : ℕ × Ino). eqb file.0 client) (all_told changed held)

    here : (b : Bool) → eqb h.0 client ≡ b → Rise (map (λ (file : ℕ × Ino). file.1) rest) → Rise (map (λ (file : ℕ × Ino). file.1) (cond b ((h.0, h.1.ino) ∷ rest) rest))
    here true mine rise = (later_files changed client h mine held table.0, rise)
    here false mine rise = rise

    go : (b : Bool) → Rise (map (λ (file : ℕ × Ino). file.1) rest) → Rise (of_client (λ (ino : Ino). ino) client (map (λ (h : Holding). (h.0, h.1.ino)) (cond b (h ∷ filter (is_told changed) held) (filter (is_told changed) held))))
    go true rise = here (eqb h.0 client) refl rise
    go false rise = rise

files_are : (tree : Tree) (files : List (ℕ × Ino)) → map (λ (file : FileTrace). file.ino) (map (λ (file : ℕ × Ino). file_trace tree file.1) files) ≡ map (λ (file : ℕ × Ino). file.1) files
files_are tree [] = refl
files_are tree (file ∷ files) = ap (λ (l : List Ino). file.1 ∷ l) (files_are tree files)

abbrev pub Rising : List (ℕ × List FileTrace) → Type 0
Rising list = AllByRecursion (λ (update : ℕ × List FileTrace). Rise (files_of update)) list

in_notice : (client : ℕ) (files : List FileTrace) (more : List (ℕ × List FileTrace)) → Rise (map (λ (file : FileTrace). file.ino) files) → Rising more → Rising (notice client files ++ more)
in_notice client [] more rise others = others
in_notice client (file ∷ files) more rise others = (rise, others)

-- so do the files of each client
pub rising_law : (tree : Tree) (changed : List Ino) (held : List Holding) → IsTable held → Rising (by_client (file_trace tree) (told changed held))
rising_law tree changed held table = each clients
  where
    each : (numbers : List ℕ) → Rising (flat_map (λ client. notice client (of_client (file_trace tree) client (told changed held))) numbers)
    each [] = tt
    each (client ∷ numbers) =
        in_notice client (of_client (file_trace tree) client (told changed held)) (flat_map (λ client. notice client (of_client (file_trace tree) client (told changed held))) numbers)
        (subst Rise (sym (files_are tree (filter (λ (file : ℕ × Ino). eqb file.0 client) (told changed held)))) (its_files_rise changed client held table))
        (each numbers)

-- What clients are told, file by file and client by client.
use Rattle.std.proofs.Common.{◌≡◌, ℕ, ◌+◌, Bool, true, false, not, ◌||◌, ◌&&◌, cond, eqb, List, [], ◌∷◌, ◌++◌, map, filter, refl, ap, sym, ◌∙◌, arith}
use Rattle.std.specs.List.{AllByRecursion, list_all, flat_map, range_with_len}
use Rattle.std.proofs.lemmas.List.{append-nil}
use Rattle.std.proofs.lemmas.List.FromFn.{map-range_with_len_more}
use Rattle.std.proofs.lemmas.List.Folds.{flat_map-map}
use Rattle.std.proofs.lemmas.Grind.{flat_map-append}
use Rattle.snap_ids.specs.declared.id.Ino.{Ino}
use Rattle.snap_ids.specs.Context.{Context}
use Rattle.snap_ids.specs.Traces.{context_of}
use Rattle.plain_types.specs.declared.message.FileTrace.{FileTrace}
use Rattle.cap_state.specs.Table.{Holding}
use Rattle.realm_story.specs.Family.{Family, context}
use Rattle.snap_realm.specs.Tree.{Tree, StandsFor, is_there, birth_of, trace_of}
use Rattle.snap_notice.specs.Notices.{is_told, told, of_client, notice, clients, by_client, file_trace, file_context, as_context, has_all}

-- each file is in the tree
abbrev pub AllThere : Tree → List (ℕ × Ino) → Type 0
AllThere tree files = AllByRecursion (λ (file : ℕ × Ino). is_there tree file.1 ≡ true) files

pub there_of : (tree : Tree) (changed : List Ino) (held : List Holding) → has_all tree changed held ≡ true → AllThere tree (told changed held)
there_of tree changed [] all = tt
there_of tree changed (h ∷ held) all = go (is_told changed h) all (there_of tree changed held)
  where
    both : (a b : Bool) → (a && b) ≡ true → (a ≡ true) × (b ≡ true)
    both true b h = (refl, h)
    both false b h = cc

    go : (b : Bool) → ((not b || is_there tree h.1.ino) && has_all tree changed held) ≡ true → (has_all tree changed held ≡ true → AllThere tree (told changed held)) → AllThere tree (map (λ (h : Holding). (h.0, h.1.ino)) (cond b (h ∷ filter (is_told changed) held) (filter (is_told changed) held)))
    go true all rest = let parts = both (is_there tree h.1.ino) (has_all tree changed held) all in (parts.0, rest parts.1)
    go false all rest = rest all

-- the first file and the others
pub first_file : {A : Type 0} (f : Ino → A) (client : ℕ) (file : ℕ × Ino) (files : List (ℕ × Ino)) → of_client f client (file ∷ files) ≡ of_client f client (file ∷ []) ++ of_client f client files
first_file f client file files = go (eqb file.0 client)
  where
    its : List (ℕ × Ino) → List (ℕ × Ino)
    its files = filter (λ (file : ℕ × Ino). eqb file.0 client) files

    go : (b : Bool) → map (λ (file : ℕ × Ino). f file.1) (cond b (file ∷ its files) (its files)) ≡ map (λ (file : ℕ × Ino). f file.1) (cond b (file ∷ []) []) ++ map (λ (file : ℕ × Ino). f file.1) (its files)
    go true = refl
    go false = refl

-- one more client
pub next_client : {A : Type 0} (f : ℕ → List A) (n : ℕ) → flat_map f (range_with_len 0 (n + 1)) ≡ flat_map f (range_with_len 0 n) ++ f n
next_client {A} f n =
    sym (flat_map-map (λ (l : List A). l) f (range_with_len 0 (n + 1)))
    ∙ ap (flat_map (λ (l : List A). l)) (map-range_with_len_more f 0 n n (omega arith))
    ∙ flat_map-append (λ (l : List A). l) (map f (range_with_len 0 n)) (f n ∷ [])
    ∙ (λ i. flat_map-map (λ (l : List A). l) f (range_with_len 0 n) i ++ append-nil (f n) i)

-- all clients
pub clients_are : (n : ℕ) → n ≡ 256 → range_with_len 0 n ≡ clients
unfolding clients
clients_are n is = ap (range_with_len 0) is

abbrev pub contexts : List (ℕ × List FileTrace) → List (ℕ × List (Ino × Context))
contexts list = map (λ (update : ℕ × List FileTrace). (update.0, map as_context update.1)) list

-- the contexts of what one client is told
files_law : (tree : Tree) (family : Family) → ((ino : Ino) → is_there tree ino ≡ true → context_of (trace_of tree ino) (birth_of tree ino) ≡ context family ino) → (client : ℕ) (files : List (ℕ × Ino)) → AllThere tree files → map as_context (of_client (file_trace tree) client files) ≡ of_client (file_context family) client files
files_law tree family same client [] there = refl
files_law tree family same client (file ∷ files) there = go (eqb file.0 client) (files_law tree family same client files there.1)
  where
    its : List (ℕ × Ino)
    its = filter (λ (file : ℕ × Ino). eqb file.0 client) files

    go : (b : Bool) → map as_context (map (λ (file : ℕ × Ino). file_trace tree file.1) its) ≡ map (λ (file : ℕ × Ino). file_context family file.1) its → map as_context (map (λ (file : ℕ × Ino). file_trace tree file.1) (cond b (file ∷ its) its)) ≡ map (λ (file : ℕ × Ino). file_context family file.1) (cond b (file ∷ its) its)
    go true rest = λ i. (file.1, same file.1 there.0 i) ∷ rest i
    go false rest = rest

notice_law : (client : ℕ) (files : List FileTrace) → contexts (notice client files) ≡ notice client (map as_context files)
notice_law client [] = refl
notice_law client (file ∷ files) = refl

joined : (xs ys : List (ℕ × List FileTrace)) → contexts (xs ++ ys) ≡ contexts xs ++ contexts ys
joined [] ys = refl
joined (x ∷ xs) ys = ap (λ (l : List (ℕ × List (Ino × Context))). (x.0, map as_context x.1) ∷ l) (joined xs ys)

-- the contexts of what all are told
pub contexts_law : (tree : Tree) (family : Family) → ((ino : Ino) → is_there tree ino ≡ true → context_of (trace_of tree ino) (birth_of tree ino) ≡ context family ino) → (files : List (ℕ × Ino)) → AllThere tree files → contexts (by_client (file_trace tree) files) ≡ by_client (file_context family) files
contexts_law tree family same files there = each clients
  where
    each : (numbers : List ℕ) → contexts (flat_map (λ client. notice client (of_client (file_trace tree) client files)) numbers) ≡ flat_map (λ client. notice client (of_client (file_context family) client files)) numbers
    each [] = refl
    each (client ∷ numbers) =
        joined (notice client (of_client (file_trace tree) client files)) (flat_map (λ client. notice client (of_client (file_trace tree) client files)) numbers)
        ∙ (λ i. (notice_law client (of_client (file_trace tree) client files) ∙ ap (notice client) (files_law tree family same client files there)) i ++ each numbers i)

-- The snapshots that a directory shows by the records are those that it shows by the story.
use Rattle.std.specs.Prelude.{find}
use Rattle.std.proofs.Common.{◌≡◌, ℕ, Bool, true, false, ◌&&◌, cond, eqb, List, [], ◌∷◌, ◌++◌, map, filter, Option, Some, refl, ap, sym, ◌∙◌, bytes_eq, codes, decimal, arith}
use Rattle.std.proofs.lemmas.Bool.Decides.{nat_tests}
use Rattle.std.proofs.lemmas.List.{append_assoc}
use Rattle.std.specs.List.{fold}
use Rattle.std.specs.Fmt.{digits, digits_onto}
use Rattle.snap_ids.specs.declared.id.Ino.{Ino}
use Rattle.snap_ids.specs.declared.id.SnapId.{SnapId}
use Rattle.snap_ids.specs.declared.values.Kind.{Kind}
use Rattle.snap_ids.specs.declared.values.Kind.TheVariants.{Dir}
use Rattle.realm_story.specs.declared.records.Node.{Node}
use Rattle.realm_story.specs.declared.records.Snap.{Snap}
use Rattle.realm_story.specs.Family.{Made, Family, same_ino, birth_of, way_up, covering, shown, name_shown}
use Rattle.realm_story.specs.Family.{is_in_global as family_global}
use Rattle.realm_story.specs.Stands.{plain}
use Rattle.realm_story.proofs.Contexts.{covers_by}
use Rattle.snap_realm.specs.Tree.{Tree, StandsFor, node_at, is_there, is_in_global, way}
use Rattle.snap_realm.specs.Names.{name_of, is_shown, id_in, add_name, listed, with_shown}
use Rattle.snap_realm.specs.Walks.{id_by}
use Rattle.snap_realm.proofs.Named.{shown_on, shown_right}
use Rattle.snap_realm.proofs.Values.{way_is, global_is}

decimal_is : (n : ℕ) → decimal n ≡ digits_onto 64 10 false n []
unfolding digits
decimal_is n = refl

grouped : (name digits : List ℕ) → codes "_" ++ (name ++ (codes "_" ++ digits)) ≡ codes "_" ++ name ++ codes "_" ++ digits
grouped name digits = sym (append_assoc (codes "_" ++ name) (codes "_") digits ∙ append_assoc (codes "_") name (codes "_" ++ digits))

-- the two ways to say a name
name_is : (dir : Ino) (made : Made) → name_of dir (plain made) ≡ name_shown dir made
name_is dir made = go (same_ino made.root dir)
  where
    go : (b : Bool) → cond b made.name (codes "_" ++ (made.name ++ (codes "_" ++ decimal made.root.0))) ≡ cond b made.name (codes "_" ++ made.name ++ codes "_" ++ digits_onto 64 10 false made.root.0 [])
    go true = refl
    go false = ap (λ (d : List ℕ). codes "_" ++ (made.name ++ (codes "_" ++ d))) (decimal_is made.root.0) ∙ grouped made.name (digits_onto 64 10 false made.root.0 [])

same_numbers : (m n : ℕ) → eqb m n ≡ eqb n m
same_numbers m n = grind (arith, nat_tests)

same_bytes : (xs ys : List ℕ) → bytes_eq xs ys ≡ bytes_eq ys xs
same_bytes [] [] = refl
same_bytes [] (y ∷ ys) = refl
same_bytes (x ∷ xs) [] = refl
same_bytes (x ∷ xs) (y ∷ ys) = λ i. same_numbers x y i && same_bytes xs ys i

-- which snapshots they are
shown_is : (tree : Tree) (family : Family) → StandsFor tree family → (dir : Ino) → is_there tree dir ≡ true → is_in_global tree dir ≡ false → filter (is_shown tree.nodes dir) tree.snaps ≡ map plain (filter (λ (made : Made). made.live) (covering family dir))
shown_is tree family stands dir there outside =
    let off : family_global family.members dir ≡ false = sym (global_is tree family stands dir there) ∙ outside in
    ap (λ b. filter (shown_on (node_at tree.nodes) (way tree dir) b) tree.snaps) (stands.births dir)
    ∙ ap (λ w. filter (shown_on (node_at tree.nodes) w (birth_of family dir)) tree.snaps) (way_is tree family stands dir there)
    ∙ ap (λ s. filter (shown_on (node_at tree.nodes) (way_up family.members dir) (birth_of family dir)) s) stands.snaps_are
    ∙ shown_right (node_at tree.nodes) (way_up family.members dir) dir (birth_of family dir) family.snaps stands.named (stands.right dir (sym (stands.there dir) ∙ there) off)
    ∙ sym (ap (λ g. map plain (filter (λ (made : Made). made.live) (filter (covers_by (birth_of family dir) g dir) family.snaps))) off)

find_filter : (p q : Snap → Bool) (xs : List Snap) → find (λ x. p x && q x) xs ≡ find q (filter p xs)
find_filter p q [] = refl
find_filter p q (x ∷ xs) = go (p x) (find_filter p q xs)
  where
    go : (b : Bool) → find (λ x. p x && q x) xs ≡ find q (filter p xs) → cond (b && q x) (Some x) (find (λ x. p x && q x) xs) ≡ find q (cond b (x ∷ filter p xs) (filter p xs))
    go true rest = ap (cond (q x) (Some x)) rest
    go false rest = rest

abbrev goes_by : Ino → List ℕ → Snap → Bool
goes_by dir name snap = bytes_eq name (name_of dir snap)

abbrev called : Ino → List Made → List (List ℕ × SnapId)
called dir snaps = map (λ (made : Made). (name_shown dir made, made.id)) snaps

id_map : (dir : Ino) (name : List ℕ) (snaps : List Made) → id_by (find (goes_by dir name) (map plain snaps)) ≡ id_in (called dir snaps) name
id_map dir name [] = refl
id_map dir name (made ∷ snaps) =
    ap (λ b. id_by (cond b (Some (plain made)) (find (goes_by dir name) (map plain snaps)))) (same_bytes name (name_of dir (plain made)) ∙ ap (λ text. bytes_eq text name) (name_is dir made))
    ∙ go (bytes_eq (name_shown dir made) name) (id_map dir name snaps)
  where
    go : (b : Bool) → id_by (find (goes_by dir name) (map plain snaps)) ≡ id_in (called dir snaps) name → id_by (cond b (Some (plain made)) (find (goes_by dir name) (map plain snaps))) ≡ cond b (Some made.id) (id_in (called dir snaps) name)
    go true rest = refl
    go false rest = rest

-- the id of a name that is shown
pub id_shown_law : (tree : Tree) (family : Family) → StandsFor tree family → (dir : Ino) (name : List ℕ) → is_there tree dir ≡ true → is_in_global tree dir ≡ false → id_by (find (λ (snap : Snap). is_shown tree.nodes dir snap && bytes_eq name (name_of dir snap)) tree.snaps) ≡ id_in (shown family dir) name
id_shown_law tree family stands dir name there outside =
    ap id_by (find_filter (is_shown tree.nodes dir) (goes_by dir name) tree.snaps)
    ∙ ap (λ s. id_by (find (goes_by dir name) s)) (shown_is tree family stands dir there outside)
    ∙ id_map dir name (filter (λ (made : Made). made.live) (covering family dir))

abbrev with_name : Ino → List (List ℕ × Kind) → Snap → List (List ℕ × Kind)
with_name dir names snap = add_name (name_of dir snap, Dir) names

fold_filter : (p : Snap → Bool) (f : List (List ℕ × Kind) → Snap → List (List ℕ × Kind)) (acc : List (List ℕ × Kind)) (xs : List Snap) → fold (λ a x. cond (p x) (f a x) a) acc xs ≡ fold f acc (filter p xs)
fold_filter p f acc [] = refl
fold_filter p f acc (x ∷ xs) = go (p x) (fold_filter p f (f acc x) xs) (fold_filter p f acc xs)
  where
    go : (b : Bool) → fold (λ a x. cond (p x) (f a x) a) (f acc x) xs ≡ fold f (f acc x) (filter p xs) → fold (λ a x. cond (p x) (f a x) a) acc xs ≡ fold f acc (filter p xs) → fold (λ a x. cond (p x) (f a x) a) (cond b (f acc x) acc) xs ≡ fold f acc (cond b (x ∷ filter p xs) (filter p xs))
    go true yes_x no_x = yes_x
    go false yes_x no_x = no_x

fold_map : (dir : Ino) (acc : List (List ℕ × Kind)) (snaps : List Made) → fold (with_name dir) acc (map plain snaps) ≡ fold (λ names (snap : List ℕ × SnapId). add_name (snap.0, Dir) names) acc (called dir snaps)
fold_map dir acc [] = refl
fold_map dir acc (made ∷ snaps) =
    ap (λ name. fold (with_name dir) (add_name (name, Dir) acc) (map plain snaps)) (name_is dir made)
    ∙ fold_map dir (add_name (name_shown dir made, Dir) acc) snaps

-- the names that are shown
pub names_law : (tree : Tree) (family : Family) → StandsFor tree family → (dir : Ino) → is_there tree dir ≡ true → is_in_global tree dir ≡ false → fold (with_shown tree.nodes dir) [] tree.snaps ≡ listed (shown family dir)
names_law tree family stands dir there outside =
    fold_filter (is_shown tree.nodes dir) (with_name dir) [] tree.snaps
    ∙ ap (fold (with_name dir) []) (shown_is tree family stands dir there outside)
    ∙ fold_map dir [] (filter (λ (made : Made). made.live) (covering family dir))

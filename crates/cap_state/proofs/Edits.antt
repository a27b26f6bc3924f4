-- What a look, a removal, a new holding and a flush make of the table, at the place of a client's holding or in its gap.
use Rattle.std.proofs.Common.{◌≡◌, ℕ, suc, Bool, true, false, not, ◌&&◌, if◌then◌else◌, List, [], ◌∷◌, ◌++◌, take, drop, map, set, get_or, find, option_map, Option, Some, None, refl, sym, ap, subst, ◌∙◌, arith}
use Rattle.std.specs.List.{AllByRecursion, filter, list_any, insert, remove}
use Rattle.std.proofs.lemmas.Bool.Decides.{nat_tests}
use Rattle.std.proofs.lemmas.List.{take-append-drop}
use Rattle.std.proofs.lemmas.List.Elements.{filter-append}
use Rattle.snap_ids.specs.declared.id.Ino.{Ino}
use Rattle.snap_ids.specs.declared.id.SnapId.{SnapId}
use Rattle.snap_ids.specs.declared.values.Mode.{Mode}
use Rattle.plain_types.specs.declared.message.Claim.{Claim}
use Rattle.cap_state.specs.Table.{Holding, is_at, is_writer, writes, stands_before, stands_behind, MayPrecede, IsTable, with_holding, mode_of, suffices, granted, without, raised, flushed}
use Rattle.cap_state.specs.Places.{IsPlace, IsGap}
use Rattle.cap_state.proofs.Lists.{all_weaker, all_join, filter_none, filter_all, filter_front, find_first, find_none, any_here, any_none, map_same, left_out_first, parted_at, set_parts}
use Rattle.cap_state.proofs.Order.{before_off, behind_off, before_not_behind, behind_not_before, at_not_before, at_not_behind, table_map, table_filter}

-- a test that only the last ones pass, and one that all but one pass
filter_behind : {X : Type 0} (p : X → Bool) (front : List X) (x : X) (back : List X) → AllByRecursion (λ y. p y ≡ false) front → p x ≡ false → AllByRecursion (λ y. p y ≡ true) back → filter p (front ++ x ∷ back) ≡ back
filter_behind p front x back none here pass =
    filter-append p front (x ∷ back) ∙ ap (λ ys. ys ++ filter p (x ∷ back)) (filter_none p front none) ∙ left_out_first p x back here ∙ filter_all p back pass

filter_others : {X : Type 0} (p : X → Bool) (front : List X) (x : X) (back : List X) → AllByRecursion (λ y. p y ≡ true) front → p x ≡ false → AllByRecursion (λ y. p y ≡ true) back → filter p (front ++ x ∷ back) ≡ front ++ back
filter_others p front x back pass here pass_too =
    filter-append p front (x ∷ back) ∙ ap (λ ys. ys ++ filter p (x ∷ back)) (filter_all p front pass) ∙ ap (λ ys. front ++ ys) (left_out_first p x back here ∙ filter_all p back pass_too)

map_one : {X : Type 0} (f : X → X) (front : List X) (x : X) (back : List X) → AllByRecursion (λ y. f y ≡ y) front → AllByRecursion (λ y. f y ≡ y) back → map f (front ++ x ∷ back) ≡ front ++ f x ∷ back
map_one f [] x back same same_too = ap (λ ys. f x ∷ ys) (map_same f back same_too)
map_one f (y ∷ front) x back same same_too = rw (same.0, map_one f front x back same.1 same_too) refl

both_false : (a b : Bool) → a ≡ false → (a && b) ≡ false
both_false a b is = rw is refl

-- a flush of one holding
abbrev settled : ℕ → Ino → SnapId → Holding → Holding
settled client ino upto h = if is_writer client ino h then (h.0, raised upto h.1) else h

settled_by : (b : Bool) (upto : SnapId) (h : Holding) → b ≡ false → (if b then (h.0, raised upto h.1) else h) ≡ h
settled_by b upto h is = rw is refl

settled_other : (client : ℕ) (ino : Ino) (upto : SnapId) (h : Holding) → is_writer client ino h ≡ false → settled client ino upto h ≡ h
settled_other client ino upto h is = settled_by (is_writer client ino h) upto h is

settled_writer_by : (b : Bool) (client : ℕ) (upto : SnapId) (h : Holding) → b ≡ true → h.0 ≡ client → (if b then (h.0, raised upto h.1) else h) ≡ (client, raised upto h.1)
settled_writer_by b client upto h is own = rw is (ap (λ (c : ℕ). (c, raised upto h.1)) own)

-- a flush keeps the order, and who holds what
same_by : (a b : Bool) (upto : SnapId) (g h : Holding) → MayPrecede g h → MayPrecede (if a then (g.0, raised upto g.1) else g) (if b then (h.0, raised upto h.1) else h)
same_by true true upto g h order = record { before = order.before; apart = order.apart }
same_by true false upto g h order = record { before = order.before; apart = order.apart }
same_by false true upto g h order = record { before = order.before; apart = order.apart }
same_by false false upto g h order = order

pub table_flushed : (client : ℕ) (ino : Ino) (upto : SnapId) (held : List Holding) → IsTable held → IsTable (flushed client ino upto held)
table_flushed client ino upto held table =
    table_map (settled client ino upto) (λ g h order. same_by (is_writer client ino g) (is_writer client ino h) upto g h order) held table

-- and so does a release
pub table_without : (client : ℕ) (ino : Ino) (held : List Holding) → IsTable held → IsTable (without client ino held)
table_without client ino held table = table_filter (λ h. not (is_at client ino h)) held table

-- the client's own holding
own_from : (client : ℕ) (ino : Ino) (h : Holding) → is_at client ino h ≡ true → h.0 ≡ client
own_from client ino h is = grind (arith, nat_tests)

negated : (b : Bool) → b ≡ false → not b ≡ true
negated b is = ap not is

module _ (client : ℕ) (ino : Ino) (held : List Holding) (place : ℕ) (at : IsPlace client ino held place) (d : Holding) where
  abbrev x : Holding
  x = get_or held place d

  abbrev front : List Holding
  front = take place held

  abbrev back : List Holding
  back = drop (suc place) held

  parted : front ++ x ∷ back ≡ held
  parted = parted_at held place d at.within

  front_off : AllByRecursion (λ h. is_at client ino h ≡ false) front
  front_off = all_weaker (λ h. stands_before client ino h ≡ true) (λ h. is_at client ino h ≡ false) (before_off client ino) front at.before

  back_off : AllByRecursion (λ h. is_at client ino h ≡ false) back
  back_off = all_weaker (λ h. stands_behind client ino h ≡ true) (λ h. is_at client ino h ≡ false) (behind_off client ino) back at.behind

  -- the holding is found
  pub mode_here : mode_of client ino held ≡ Some x.1.mode
  mode_here = ap (option_map (λ (h : Holding). h.1.mode)) (ap (find (is_at client ino)) (sym parted) ∙ find_first (is_at client ino) front back x front_off (at.here d))

  pub any_at_here : list_any (is_at client ino) held ≡ true
  any_at_here = ap (list_any (is_at client ino)) (sym parted) ∙ any_here (is_at client ino) front back x (at.here d)

  -- it alone is taken out
  pub without_here : without client ino held ≡ remove held place
  without_here =
      ap (without client ino) (sym parted)
      ∙ filter_others (λ h. not (is_at client ino h)) front x back
      (all_weaker (λ h. is_at client ino h ≡ false) (λ h. not (is_at client ino h) ≡ true) (λ h off. negated (is_at client ino h) off) front front_off) (ap not (at.here d))
      (all_weaker (λ h. is_at client ino h ≡ false) (λ h. not (is_at client ino h) ≡ true) (λ h off. negated (is_at client ino h) off) back back_off)

  -- a flush changes it alone, and only where it is for Write
  off_writer : (hs : List Holding) → AllByRecursion (λ h. is_at client ino h ≡ false) hs → AllByRecursion (λ h. is_writer client ino h ≡ false) hs
  off_writer hs off =
      all_weaker (λ h. is_at client ino h ≡ false) (λ h. is_writer client ino h ≡ false) (λ h is. both_false (is_at client ino h) (writes h.1.mode) is) hs off

  writer_by : (b : Bool) → writes x.1.mode ≡ b → is_writer client ino x ≡ b
  writer_by b is = ap (λ a. a && writes x.1.mode) (at.here d) ∙ is

  off_settled : (upto : SnapId) (hs : List Holding) → AllByRecursion (λ h. is_at client ino h ≡ false) hs → AllByRecursion (λ h. settled client ino upto h ≡ h) hs
  off_settled upto hs off =
      all_weaker (λ h. is_writer client ino h ≡ false) (λ h. settled client ino upto h ≡ h) (settled_other client ino upto) hs (off_writer hs off)

  pub flushed_here : (upto : SnapId) → writes x.1.mode ≡ true → flushed client ino upto held ≡ set held place (client, raised upto x.1)
  flushed_here upto is =
      ap (flushed client ino upto) (sym parted)
      ∙ map_one (settled client ino upto) front x back (off_settled upto front front_off) (off_settled upto back back_off)
      ∙ ap (λ (h : Holding). front ++ h ∷ back) (settled_writer_by (is_writer client ino x) client upto x (writer_by true is) (own_from client ino x (at.here d)))
      ∙ set_parts held place (client, raised upto x.1) at.within

  pub any_writer_here : writes x.1.mode ≡ true → list_any (is_writer client ino) held ≡ true
  any_writer_here is = ap (list_any (is_writer client ino)) (sym parted) ∙ any_here (is_writer client ino) front back x (writer_by true is)

  no_writer : writes x.1.mode ≡ false → AllByRecursion (λ h. is_writer client ino h ≡ false) held
  no_writer is =
      subst (AllByRecursion (λ h. is_writer client ino h ≡ false)) parted (all_join (λ h. is_writer client ino h ≡ false) front x back (off_writer front front_off) (writer_by false is) (off_writer back back_off))

  pub reader_not_flushed : (upto : SnapId) → writes x.1.mode ≡ false → flushed client ino upto held ≡ held
  reader_not_flushed upto is =
      map_same (settled client ino upto) held
      (all_weaker (λ h. is_writer client ino h ≡ false) (λ h. settled client ino upto h ≡ h) (settled_other client ino upto) held (no_writer is))

  pub reader_no_writer : writes x.1.mode ≡ false → list_any (is_writer client ino) held ≡ false
  reader_no_writer is = any_none (is_writer client ino) held (no_writer is)

module _ (client : ℕ) (ino : Ino) (held : List Holding) (place : ℕ) (gap : IsGap client ino held place) where
  parted_there : take place held ++ drop place held ≡ held
  parted_there = take-append-drop place held

  all_append : {X : Type 0} (P : X → Type 0) (xs ys : List X) → AllByRecursion P xs → AllByRecursion P ys → AllByRecursion P (xs ++ ys)
  all_append P [] ys all all_too = all_too
  all_append P (y ∷ xs) ys all all_too = (all.0, all_append P xs ys all.1 all_too)

  all_off : AllByRecursion (λ h. is_at client ino h ≡ false) held
  all_off =
      subst (AllByRecursion (λ h. is_at client ino h ≡ false)) parted_there
      (all_append (λ h. is_at client ino h ≡ false) (take place held) (drop place held)
      (all_weaker (λ h. stands_before client ino h ≡ true) (λ h. is_at client ino h ≡ false) (before_off client ino) (take place held) gap.before)
      (all_weaker (λ h. stands_behind client ino h ≡ true) (λ h. is_at client ino h ≡ false) (behind_off client ino) (drop place held) gap.behind))

  -- nothing is found, taken out or flushed
  pub mode_none : mode_of client ino held ≡ None
  mode_none = ap (option_map (λ (h : Holding). h.1.mode)) (find_none (is_at client ino) held all_off)

  pub any_at_none : list_any (is_at client ino) held ≡ false
  any_at_none = any_none (is_at client ino) held all_off

  pub without_none : without client ino held ≡ held
  without_none =
      filter_all (λ h. not (is_at client ino h)) held
      (all_weaker (λ h. is_at client ino h ≡ false) (λ h. not (is_at client ino h) ≡ true) (λ h off. negated (is_at client ino h) off) held all_off)

  none_writes : AllByRecursion (λ h. is_writer client ino h ≡ false) held
  none_writes =
      all_weaker (λ h. is_at client ino h ≡ false) (λ h. is_writer client ino h ≡ false) (λ h is. both_false (is_at client ino h) (writes h.1.mode) is) held all_off

  pub any_writer_none : list_any (is_writer client ino) held ≡ false
  any_writer_none = any_none (is_writer client ino) held none_writes

  pub flushed_none : (upto : SnapId) → flushed client ino upto held ≡ held
  flushed_none upto =
      map_same (settled client ino upto) held
      (all_weaker (λ h. is_writer client ino h ≡ false) (λ h. settled client ino upto h ≡ h) (settled_other client ino upto) held none_writes)

module _ (client : ℕ) (claim : Claim) (held : List Holding) (place : ℕ) where
  abbrev before : Holding → Bool
  before = stands_before client claim.ino

  abbrev behind : Holding → Bool
  behind = stands_behind client claim.ino

  -- a holding takes the place of the client's old one
  pub with_here : IsPlace client claim.ino held place → with_holding (client, claim) held ≡ set held place (client, claim)
  with_here at =
      let d : Holding = (client, claim) in
      let x : Holding = get_or held place d in
      let front = take place held in
      let back = drop (suc place) held in
      let parted : front ++ x ∷ back ≡ held = parted_at held place d at.within in
      let in_front : filter before held ≡ front =
      ap (filter before) (sym parted)
      ∙ filter_front before front (x ∷ back) at.before
      (at_not_before client claim.ino x (at.here d), all_weaker (λ h. behind h ≡ true) (λ h. before h ≡ false) (behind_not_before client claim.ino) back at.behind) in
      let at_back : filter behind held ≡ back =
      ap (filter behind) (sym parted)
      ∙ filter_behind behind front x back (all_weaker (λ h. before h ≡ true) (λ h. behind h ≡ false) (before_not_behind client claim.ino) front at.before)
      (at_not_behind client claim.ino x (at.here d)) at.behind in
      ap (λ hs. hs ++ (client, claim) ∷ filter behind held) in_front ∙ ap (λ hs. front ++ (client, claim) ∷ hs) at_back ∙ set_parts held place (client, claim) at.within

  -- or goes where there was none
  pub with_there : IsGap client claim.ino held place → with_holding (client, claim) held ≡ insert held place (client, claim)
  with_there gap =
      let front = take place held in
      let back = drop place held in
      let parted : front ++ back ≡ held = take-append-drop place held in
      let in_front : filter before held ≡ front =
      ap (filter before) (sym parted)
      ∙ filter_front before front back gap.before (all_weaker (λ h. behind h ≡ true) (λ h. before h ≡ false) (behind_not_before client claim.ino) back gap.behind) in
      let at_back : filter behind held ≡ back =
      ap (filter behind) (sym parted)
      ∙ filter-append behind front back
      ∙ ap (λ hs. hs ++ filter behind back) (filter_none behind front (all_weaker (λ h. before h ≡ true) (λ h. behind h ≡ false) (before_not_behind client claim.ino) front gap.before))
      ∙ filter_all behind back gap.behind in
      ap (λ hs. hs ++ (client, claim) ∷ filter behind held) in_front ∙ ap (λ hs. front ++ (client, claim) ∷ hs) at_back

  -- a grant that changes nothing, and one that does
  pub granted_by : (b : Bool) (old : Option Mode) → mode_of client claim.ino held ≡ old → suffices old claim.mode ≡ b → granted client claim held ≡ (if b then held else with_holding (client, claim) held)
  granted_by b old is suits = ap (λ t. if t then held else with_holding (client, claim) held) (ap (λ m. suffices m claim.mode) is ∙ suits)

-- Ids that were given, and the room for what is outstanding.
use Rattle.std.proofs.Common.{◌≡◌, ℕ, ◌≤◌, Bool, true, false, ◌||◌, not, cond, eqb, nat_le, List, [], ◌∷◌, Option, None, Some, vec_len, vec_capacity, refl, arith}
use Rattle.std.specs.Global.{Vec}
use Rattle.std.specs.Cmp.Derive.{both_true}
use Rattle.snap_ids.specs.declared.id.SnapId.{SnapId}
use Rattle.snap_ids.specs.Context.{is_listed}
use Rattle.snap_table.specs.declared.op.TableOp.{TableOp}
use Rattle.snap_table.specs.declared.op.TableOp.TheVariants.{Create, Destroy}
use Rattle.snap_table.specs.Rising.{with_id, without}
use Rattle.snap_table.specs.Table.{are_given}
use Rattle.snap_table.specs.Fields.{HasRoom}
use Rattle.snap_table.proofs.Rises.{parts}

further : (m n k : ℕ) → m ≤ n → nat_le k m ≡ true → nat_le k n ≡ true
further m n k more given = grind arith

pub are_given-further : (m n : ℕ) (ids : List SnapId) → m ≤ n → are_given m ids ≡ true → are_given n ids ≡ true
are_given-further m n [] more given = refl
are_given-further m n (id ∷ ids) more given =
    let both = parts (nat_le id.0 m) (are_given m ids) given in
    both_true (further m n id.0 more both.0) (are_given-further m n ids more both.1)

placed : (n : ℕ) (id next : SnapId) (ids more : List SnapId) (t e : Bool) → nat_le id.0 n ≡ true → nat_le next.0 n ≡ true → are_given n ids ≡ true → are_given n more ≡ true → are_given n (cond t (id ∷ next ∷ ids) (cond e (next ∷ ids) (next ∷ more))) ≡ true
placed n id next ids more true e one first rest later = both_true one (both_true first rest)
placed n id next ids more false true one first rest later = both_true first rest
placed n id next ids more false false one first rest later = both_true first later

pub are_given-with_id : (n : ℕ) (id : SnapId) (ids : List SnapId) → nat_le id.0 n ≡ true → are_given n ids ≡ true → are_given n (with_id id ids) ≡ true
are_given-with_id n id [] one given = both_true one refl
are_given-with_id n id (next ∷ ids) one given =
    let both = parts (nat_le next.0 n) (are_given n ids) given in
    placed n id next ids (with_id id ids) _ _ one both.0 both.1 (are_given-with_id n id ids one both.1)

kept : (n : ℕ) (next : SnapId) (ids : List SnapId) (t : Bool) → nat_le next.0 n ≡ true → are_given n ids ≡ true → are_given n (cond t (next ∷ ids) ids) ≡ true
kept n next ids true first later = both_true first later
kept n next ids false first later = later

pub are_given-without : (n : ℕ) (id : SnapId) (ids : List SnapId) → are_given n ids ≡ true → are_given n (without id ids) ≡ true
are_given-without n id [] given = refl
are_given-without n id (next ∷ ids) given =
    let both = parts (nat_le next.0 n) (are_given n ids) given in
    kept n next (without id ids) (not (eqb next.0 id.0)) both.0 (are_given-without n id ids both.1)

same : (n a b : ℕ) → eqb a b ≡ true → nat_le a n ≡ true → nat_le b n ≡ true
same n a b equal given = grind arith

found : (n : ℕ) (id next : SnapId) (ids : List SnapId) (e : Bool) → eqb next.0 id.0 ≡ e → (e || is_listed id ids) ≡ true → nat_le next.0 n ≡ true → (is_listed id ids ≡ true → nat_le id.0 n ≡ true) → nat_le id.0 n ≡ true
found n id next ids true equal listed given later = same n next.0 id.0 equal given
found n id next ids false equal listed given later = later listed

-- a listed id was given
pub is_given-listed : (n : ℕ) (id : SnapId) (ids : List SnapId) → is_listed id ids ≡ true → are_given n ids ≡ true → nat_le id.0 n ≡ true
is_given-listed n id [] listed given = cc
is_given-listed n id (next ∷ ids) listed given =
    let both = parts (nat_le next.0 n) (are_given n ids) given in
    found n id next ids (eqb next.0 id.0) refl listed both.0 (λ h. is_given-listed n id ids h both.1)

-- the room stays where ids are taken out of a list
pub room-taken_out : (op : Option TableOp) (live before after : Vec SnapId) → vec_len after ≤ vec_len before → vec_capacity after ≡ vec_capacity before → HasRoom op live before → HasRoom op live after
room-taken_out None live before after len capacity room = tt
room-taken_out (Some (Create id)) live before after len capacity room = room
room-taken_out (Some (Destroy id)) live before after len capacity room = omega (arith, len, capacity, room)

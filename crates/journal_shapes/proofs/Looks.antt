-- What a plain tree has of an inode, after one more entry.
use Rattle.std.proofs.Common.{◌≡◌, ℕ, ◌≤◌, List, [], ◌∷◌, ◌++◌, Bool, true, false, cond, ◌&&◌, nat_lt, nat_le, Option, None, Some, refl, ap, ◌∙◌, eqb-true, le-leb}
use Rattle.std.specs.Prelude.{◌||◌, ◌==◌}
use Rattle.std.specs.Option.{option_map}
use Rattle.snap_ids.specs.declared.id.Ino.{Ino}
use Rattle.snap_ids.specs.declared.id.SnapId.{SnapId}
use Rattle.snap_ids.specs.declared.id.TheConstants.{NOSNAP}
use Rattle.plain_types.specs.declared.entry.What.{What}
use Rattle.plain_types.specs.declared.entry.What.TheVariants as what
use Rattle.plain_tree.specs.State.{Inode, new_directory, same_ino, kind_in, inode_in}
use Rattle.plain_tree.specs.Change.{new_file, with_mode}
use Rattle.plain_journal.specs.Settled.{Shape, size_by}
use Rattle.inode_versions.specs.declared.attr.Attr.{Attr}
use Rattle.inode_versions.specs.Histories.{with_size, settled_at}
use Rattle.journal_shapes.specs.Stands.{of_shape}
use Rattle.journal_shapes.specs.Calls.{directory, file, in_mode}
use Rattle.journal_shapes.proofs.Inodes.{makes, inodes_by, has, turned}

-- the first inode of this number
abbrev pub look : List Inode → Ino → Option Inode
look [] x = None
look (inode ∷ inodes) x = cond (same_ino inode.ino x) (Some inode) (look inodes x)

abbrev pub of_inode : ℕ → Inode → Attr
of_inode z inode = record { kind = inode.kind; mode = inode.mode; size = z }

abbrev pub shape_in : List Inode → Ino → ℕ → Shape
shape_in inodes x z = record { kind = kind_in inodes x; mode = (inode_in inodes x).mode; size = z }

-- a shape, by one look
pub seen : (z : ℕ) (inodes : List Inode) (x : Ino) → option_map of_shape (cond (has inodes x) (Some (shape_in inodes x z)) None) ≡ option_map (of_inode z) (look inodes x)
seen z [] x = refl
seen z (inode ∷ inodes) x = go (same_ino inode.ino x) (seen z inodes x)
  where
    go : (b : Bool) → option_map of_shape (cond (has inodes x) (Some (shape_in inodes x z)) None) ≡ option_map (of_inode z) (look inodes x) → option_map of_shape (cond (b || has inodes x) (Some (record { kind = cond b inode.kind (kind_in inodes x); mode = (cond b inode (inode_in inodes x)).mode; size = z })) None) ≡ option_map (of_inode z) (cond b (Some inode) (look inodes x))
    go true rest = refl
    go false rest = rest

pub unlooked : (inodes : List Inode) (x : Ino) → has inodes x ≡ false → look inodes x ≡ None
unlooked [] x none = refl
unlooked (inode ∷ inodes) x none = go (same_ino inode.ino x) none (unlooked inodes x)
  where
    go : (b : Bool) → (b || has inodes x) ≡ false → (has inodes x ≡ false → look inodes x ≡ None) → cond b (Some inode) (look inodes x) ≡ None
    go true none rest = cc
    go false none rest = rest none

-- one inode more
look_new : (new : Inode) (inodes : List Inode) (x : Ino) → (x.0 == new.ino.0) ≡ true → look inodes x ≡ None → look (inodes ++ new ∷ []) x ≡ Some new
look_new new [] x same none = rw (turned new.ino x ∙ same) refl
look_new new (inode ∷ inodes) x same none = go (same_ino inode.ino x) none (look_new new inodes x same)
  where
    go : (b : Bool) → cond b (Some inode) (look inodes x) ≡ None → (look inodes x ≡ None → look (inodes ++ new ∷ []) x ≡ Some new) → cond b (Some inode) (look (inodes ++ new ∷ []) x) ≡ Some new
    go true none rest = cc
    go false none rest = rest none

look_other : (new : Inode) (inodes : List Inode) (x : Ino) → (x.0 == new.ino.0) ≡ false → look (inodes ++ new ∷ []) x ≡ look inodes x
look_other new [] x other = rw (turned new.ino x ∙ other) refl
look_other new (inode ∷ inodes) x other = ap (λ (found : Option Inode). cond (same_ino inode.ino x) (Some inode) found) (look_other new inodes x other)

new_seen : (later : Bool) (new : Inode) (inodes : List Inode) (i : Ino) (z : ℕ) (b : Bool) → (i.0 == new.ino.0) ≡ b → (b ≡ true → (look inodes i ≡ None) × (z ≡ 0)) → option_map (of_inode z) (look (cond later (inodes ++ new ∷ []) inodes) i) ≡ cond b (cond later (Some (of_inode 0 new)) None) (option_map (of_inode z) (look inodes i))
new_seen true new inodes i z true same fresh = ap (option_map (of_inode z)) (look_new new inodes i same (fresh refl).0) ∙ ap (λ n. Some (of_inode n new)) (fresh refl).1
new_seen false new inodes i z true same fresh = ap (option_map (of_inode z)) (fresh refl).0
new_seen true new inodes i z false other fresh = ap (option_map (of_inode z)) (look_other new inodes i other)
new_seen false new inodes i z false other fresh = refl

-- another mode
mode_there : (t : Bool) (ino : Ino) (mode : ℕ) (inode : Inode) (inodes : List Inode) (i : Ino) (z : ℕ) (b : Bool) → (i.0 == ino.0) ≡ b → same_ino inode.ino i ≡ t → option_map (of_inode z) (look (with_mode ino mode inodes) i) ≡ cond b (option_map (in_mode mode) (option_map (of_inode z) (look inodes i))) (option_map (of_inode z) (look inodes i)) → option_map (of_inode z) (cond t (Some (record inode { mode = cond (same_ino inode.ino ino) mode inode.mode })) (look (with_mode ino mode inodes) i)) ≡ cond b (option_map (in_mode mode) (option_map (of_inode z) (cond t (Some inode) (look inodes i)))) (option_map (of_inode z) (cond t (Some inode) (look inodes i)))
mode_there true ino mode inode inodes i z b is here rest =
    ap (λ (c : Bool). option_map (of_inode z) (Some (record inode { mode = cond c mode inode.mode }))) (ap (λ n. n == ino.0) (eqb-true inode.ino.0 i.0 here) ∙ is) ∙ go b
  where
    go : (b : Bool) → option_map (of_inode z) (Some (record inode { mode = cond b mode inode.mode })) ≡ cond b (option_map (in_mode mode) (option_map (of_inode z) (Some inode))) (option_map (of_inode z) (Some inode))
    go true = refl
    go false = refl
mode_there false ino mode inode inodes i z b is other rest = rest

mode_all : (ino : Ino) (mode : ℕ) (inodes : List Inode) (i : Ino) (z : ℕ) → option_map (of_inode z) (look (with_mode ino mode inodes) i) ≡ cond (i.0 == ino.0) (option_map (in_mode mode) (option_map (of_inode z) (look inodes i))) (option_map (of_inode z) (look inodes i))
mode_all ino mode [] i z = go (i.0 == ino.0)
  where
    go : (b : Bool) → option_map (of_inode z) None ≡ cond b (option_map (in_mode mode) (option_map (of_inode z) None)) (option_map (of_inode z) None)
    go true = refl
    go false = refl
mode_all ino mode (inode ∷ inodes) i z =
    mode_there (same_ino inode.ino i) ino mode inode inodes i z (i.0 == ino.0) refl refl (mode_all ino mode inodes i z)

mode_seen : (later : Bool) (ino : Ino) (mode : ℕ) (inodes : List Inode) (i : Ino) (z : ℕ) → option_map (of_inode z) (look (cond later (with_mode ino mode inodes) inodes) i) ≡ cond ((i.0 == ino.0) && later) (option_map (in_mode mode) (option_map (of_inode z) (look inodes i))) (option_map (of_inode z) (look inodes i))
mode_seen true ino mode inodes i z =
    mode_all ino mode inodes i z
    ∙ ap (λ (b : Bool). cond b (option_map (in_mode mode) (option_map (of_inode z) (look inodes i))) (option_map (of_inode z) (look inodes i))) (go (i.0 == ino.0))
  where
    go : (b : Bool) → b ≡ (b && true)
    go true = refl
    go false = refl
mode_seen false ino mode inodes i z = go (i.0 == ino.0)
  where
    go : (b : Bool) → option_map (of_inode z) (look inodes i) ≡ cond (b && false) (option_map (in_mode mode) (option_map (of_inode z) (look inodes i))) (option_map (of_inode z) (look inodes i))
    go true = refl
    go false = refl

-- another size
size_seen : (size z : ℕ) (found : Option Inode) (a b c : Bool) → option_map (of_inode (cond (a && b && c) size z)) found ≡ cond a (option_map (λ (attr : Attr). cond (b && c) (with_size size attr) attr) (option_map (of_inode z) found)) (option_map (of_inode z) found)
size_seen size z None true b c = refl
size_seen size z None false b c = refl
size_seen size z (Some inode) true true true = refl
size_seen size z (Some inode) true true false = refl
size_seen size z (Some inode) true false c = refl
size_seen size z (Some inode) false b c = refl

last_size_seen : (size z : ℕ) (found : Option Inode) (a b c : Bool) → c ≡ true → option_map (of_inode (cond (a && b) size z)) found ≡ cond a (option_map (λ (attr : Attr). cond (b && c) (with_size size attr) attr) (option_map (of_inode z) found)) (option_map (of_inode z) found)
last_size_seen size z None true b c upto = refl
last_size_seen size z None false b c upto = refl
last_size_seen size z (Some inode) true true true upto = refl
last_size_seen size z (Some inode) true true false upto = cc
last_size_seen size z (Some inode) true false c upto = refl
last_size_seen size z (Some inode) false b c upto = refl

-- What an inode is at an id after an entry, where it was something before. An entry changes the tree at later ids alone.
abbrev pub told_by : Bool → What → Ino → SnapId → Option Attr → Option Attr
told_by later (what.Mkdir d n ino) i s was = cond (i.0 == ino.0) (cond later (Some (directory ino)) None) was
told_by later (what.Create d n ino mode) i s was = cond (i.0 == ino.0) (cond later (Some (file mode)) None) was
told_by later (what.Chmod ino mode) i s was = cond ((i.0 == ino.0) && later) (option_map (in_mode mode) was) was
told_by later (what.Settle ino follows upto size) i s was = cond (i.0 == ino.0) (option_map (settled_at follows upto size s) was) was
told_by later (what.Release ino follows size) i s was = cond (i.0 == ino.0) (option_map (settled_at follows NOSNAP size s) was) was
told_by later w i s was = was

same_list : (later : Bool) (inodes : List Inode) → cond later inodes inodes ≡ inodes
same_list true inodes = refl
same_list false inodes = refl

-- so the plain tree says
pub tree_told : (later : Bool) (w : What) (inodes : List Inode) (i : Ino) (s : SnapId) (z : ℕ) → s.0 ≤ NOSNAP.0 → (makes i w ≡ true → (look inodes i ≡ None) × (z ≡ 0)) → option_map (of_inode (size_by i s z w)) (look (cond later (inodes_by w inodes) inodes) i) ≡ told_by later w i s (option_map (of_inode z) (look inodes i))
tree_told later (what.Mkdir d n ino) inodes i s z upto fresh = new_seen later (new_directory ino) inodes i z (i.0 == ino.0) refl fresh
tree_told later (what.Create d n ino mode) inodes i s z upto fresh = new_seen later (new_file ino mode) inodes i z (i.0 == ino.0) refl fresh
tree_told later (what.Chmod ino mode) inodes i s z upto fresh = mode_seen later ino mode inodes i z
tree_told later (what.Settle ino follows last size) inodes i s z upto fresh =
    ap (λ (l : List Inode). option_map (of_inode (size_by i s z (what.Settle ino follows last size))) (look l i)) (same_list later inodes)
    ∙ ap (λ (a : Bool). option_map (of_inode (cond (a && nat_lt follows.0 s.0 && nat_le s.0 last.0) size z)) (look inodes i)) (turned ino i)
    ∙ size_seen size z (look inodes i) (i.0 == ino.0) (nat_lt follows.0 s.0) (nat_le s.0 last.0)
tree_told later (what.Release ino follows size) inodes i s z upto fresh =
    ap (λ (l : List Inode). option_map (of_inode (size_by i s z (what.Release ino follows size))) (look l i)) (same_list later inodes)
    ∙ ap (λ (a : Bool). option_map (of_inode (cond (a && nat_lt follows.0 s.0) size z)) (look inodes i)) (turned ino i)
    ∙ last_size_seen size z (look inodes i) (i.0 == ino.0) (nat_lt follows.0 s.0) (nat_le s.0 NOSNAP.0) (le-leb s.0 NOSNAP.0 upto)
tree_told later w inodes i s z upto fresh = ap (λ (l : List Inode). option_map (of_inode z) (look l i)) (same_list later inodes)

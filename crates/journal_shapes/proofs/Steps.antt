-- A table stands for a journal with one more entry after what is called for that entry.
use Rattle.std.proofs.Common.{◌≡◌, ℕ, ◌+◌, ◌<◌, ◌≤◌, List, [], ◌∷◌, ◌++◌, Bool, true, false, cond, not, ◌⊎◌, inl, inr, Option, None, Some, refl, sym, ap, ◌∙◌, subst, arith, le-leb}
use Rattle.std.proofs.lemmas.Bool.{and_parts, or_cases, not-true, not-false, ltb-true, ltb-false, eq-eqb}
use Rattle.std.specs.Prelude.{◌||◌, ◌==◌, nat_lt, nat_le, is_some}
use Rattle.std.specs.Option.{option_map}
use Rattle.snap_ids.specs.declared.id.Ino.{Ino}
use Rattle.snap_ids.specs.declared.id.SnapId.{SnapId}
use Rattle.snap_ids.specs.declared.id.TheConstants.{NOSNAP, ROOT}
use Rattle.plain_types.specs.declared.entry.Entry.{Entry}
use Rattle.plain_types.specs.declared.entry.What.{What}
use Rattle.plain_types.specs.declared.entry.What.TheVariants as what
use Rattle.plain_tree.specs.State.{State, Inode, start, new_directory, same_ino, is_there}
use Rattle.plain_journal.specs.Entries.{change_in, state_after, tree_at, applied_by, applied}
use Rattle.plain_journal.specs.Coverage.{is_made}
use Rattle.plain_journal.specs.Settled.{Shape, size_by, settled_size}
use Rattle.plain_journal.specs.Legal.{is_made_by, fits, is_legal, is_journal}
use Rattle.inode_versions.specs.declared.attr.Attr.{Attr}
use Rattle.inode_versions.specs.Histories.{History}
use Rattle.inode_versions.specs.Table.{attr_at, head_of, since, begins_by, is_heads}
use Rattle.journal_laws.proofs.Steps.{last_legal, state_more}
use Rattle.journal_moments.specs.Moments.{is_live_snap, is_above, is_asked, Moves}
use Rattle.journal_moments.proofs.Lives.{live_upto, applied_more, applied_rises, applied_below}
use Rattle.journal_moments.proofs.Moments.{true_above, above_now, applied_below_nosnap, nosnap_asked, moves_at}
use Rattle.journal_shapes.specs.Past.{flushes_are_past}
use Rattle.journal_shapes.specs.Stands.{of_shape, attr_after, last_id, next_id, ShapesStand}
use Rattle.journal_shapes.specs.Calls.{directory, Created, Called, IsNew, IsThere, IsFine}
use Rattle.journal_shapes.proofs.Inodes.{makes, inodes_by, has, turned, made_inodes, unmade_at, has_other}
use Rattle.journal_shapes.proofs.Looks.{look, of_inode, shape_in, seen, unlooked, told_by, tree_told}
use Rattle.journal_shapes.proofs.Numbers.{new_unmade, there_made, made_after}
use Rattle.journal_shapes.proofs.Sizes.{size_more, unmade_size, flushed_made, past_more, IsAbove, above_live, above_past}
use Rattle.journal_shapes.proofs.Heads.{begins_later, none_there}
use Rattle.journal_shapes.proofs.Told.{Known, table_told, begins}

-- an id that is asked for is at most that of what is live
asked_upto : (entries : List Entry) → is_journal entries ≡ true → (s : SnapId) → is_asked entries s ≡ true → s.0 ≤ NOSNAP.0
asked_upto entries legal s asked = go (or_cases (is_live_snap s (state_after entries).snaps) (is_above entries s) asked)
  where
    go : ((is_live_snap s (state_after entries).snaps ≡ true) ⊎ (is_above entries s ≡ true)) → s.0 ≤ NOSNAP.0
    go (inl live) = omega (arith, live_upto entries legal s live, applied_below entries legal)
    go (inr above) = (true_above entries s above).1

-- and a live snapshot has it, or it is above the last one
live_or_later : (entries : List Entry) (s : SnapId) → is_asked entries s ≡ true → (is_live_snap s (state_after entries).snaps ≡ true) ⊎ (nat_lt (applied entries) s.0 ≡ true)
live_or_later entries s asked = go (or_cases (is_live_snap s (state_after entries).snaps) (is_above entries s) asked)
  where
    go : ((is_live_snap s (state_after entries).snaps ≡ true) ⊎ (is_above entries s ≡ true)) → (is_live_snap s (state_after entries).snaps ≡ true) ⊎ (nat_lt (applied entries) s.0 ≡ true)
    go (inl live) = inl live
    go (inr above) = inr (and_parts (nat_lt (applied entries) s.0) (nat_le s.0 NOSNAP.0) above).0

-- a new snapshot changes no inode, so it is the same which last id counts
same_later : (w : What) (last n : ℕ) (i : Ino) (s : SnapId) (was : Option Attr) → told_by (nat_lt (applied_by last w) n) w i s was ≡ told_by (nat_lt last n) w i s was
same_later (what.Mksnap id d name) last n i s was = refl
same_later w last n i s was = refl

attr_look : (entries : List Entry) (i : Ino) (s : SnapId) → attr_after entries i s ≡ option_map (of_inode (settled_size entries i s)) (look (tree_at entries s).inodes i)
attr_look entries i s = seen (settled_size entries i s) (tree_at entries s).inodes i

attr_none : (entries : List Entry) (i : Ino) (s : SnapId) → is_made (state_after entries) i ≡ false → attr_after entries i s ≡ None
attr_none entries i s none =
    attr_look entries i s
    ∙ ap (option_map (of_inode (settled_size entries i s))) (unlooked (tree_at entries s).inodes i (unmade_at entries s i none))

-- what is live was made
some_made : (entries : List Entry) → is_journal entries ≡ true → (i : Ino) → is_some (attr_after entries i NOSNAP) ≡ is_made (state_after entries) i
some_made entries legal i =
    go (is_made (tree_at entries NOSNAP) i) (shape_in (tree_at entries NOSNAP).inodes i (settled_size entries i NOSNAP))
    ∙ ap (λ (state : State). is_made state i) (above_now entries legal NOSNAP (applied_below_nosnap entries legal))
  where
    go : (b : Bool) (shape : Shape) → is_some (option_map of_shape (cond b (Some shape) None)) ≡ b
    go true shape = refl
    go false shape = refl

module _ (entries : List Entry) (e : Entry) (both : is_journal (entries ++ e ∷ []) ≡ true) where
  legal : is_journal entries ≡ true
  legal = (last_legal [] entries e both).0

  fine : is_legal entries e ≡ true
  fine = (last_legal [] entries e both).1

  made : is_made_by (state_after entries) e.client (change_in e.what) ≡ true
  made = (and_parts (is_made_by (state_after entries) e.client (change_in e.what)) (fits entries e.what) fine).0

  fit : fits entries e.what ≡ true
  fit = (and_parts (is_made_by (state_after entries) e.client (change_in e.what)) (fits entries e.what) fine).1

  -- the inodes at an id that is asked for
  moved : (s : SnapId) → is_asked (entries ++ e ∷ []) s ≡ true → (tree_at (entries ++ e ∷ []) s).inodes ≡ cond (nat_lt (applied (entries ++ e ∷ [])) s.0) (inodes_by e.what (tree_at entries s).inodes) (tree_at entries s).inodes
  moved s asked = go (nat_lt (applied (entries ++ e ∷ [])) s.0) refl (moves_at entries e both s asked)
    where
      go : (b : Bool) → nat_lt (applied (entries ++ e ∷ [])) s.0 ≡ b → Moves entries e s → (tree_at (entries ++ e ∷ []) s).inodes ≡ cond b (inodes_by e.what (tree_at entries s).inodes) (tree_at entries s).inodes
      go true later moves =
          let above = ltb-true (applied (entries ++ e ∷ [])) s.0 later in
          let before : applied entries < s.0 = omega (arith, applied_rises entries e fine, above) in
          ap (λ (state : State). state.inodes) (moves.changes above)
          ∙ made_inodes (tree_at entries s) e.client e.what (subst (λ (state : State). is_made_by state e.client (change_in e.what) ≡ true) (sym (above_now entries legal s before)) made)
      go false upto moves = ap (λ (state : State). state.inodes) (moves.stays (ltb-false (applied (entries ++ e ∷ [])) s.0 upto))

  -- what is made now wasn't there, and has no size
  fresh : (i : Ino) (s : SnapId) → makes i e.what ≡ true → (look (tree_at entries s).inodes i ≡ None) × (settled_size entries i s ≡ 0)
  fresh i s is =
      let none = new_unmade entries legal e.what fit i is in
      (unlooked (tree_at entries s).inodes i (unmade_at entries s i none), unmade_size entries legal i s none)

  -- what the entries say then
  after_told : (i : Ino) (s : SnapId) → is_asked (entries ++ e ∷ []) s ≡ true → attr_after (entries ++ e ∷ []) i s ≡ told_by (nat_lt (applied entries) s.0) e.what i s (attr_after entries i s)
  after_told i s asked =
      attr_look (entries ++ e ∷ []) i s
      ∙ ap (λ (z : ℕ). option_map (of_inode z) (look (tree_at (entries ++ e ∷ []) s).inodes i)) (size_more entries e i s)
      ∙ ap (λ (l : List Inode). option_map (of_inode (size_by i s (settled_size entries i s) e.what)) (look l i)) (moved s asked)
      ∙ tree_told (nat_lt (applied (entries ++ e ∷ [])) s.0) e.what (tree_at entries s).inodes i s (settled_size entries i s) (asked_upto (entries ++ e ∷ []) both s asked) (fresh i s)
      ∙ ap (told_by (nat_lt (applied (entries ++ e ∷ [])) s.0) e.what i s) (sym (attr_look entries i s))
      ∙ ap (λ (n : ℕ). told_by (nat_lt n s.0) e.what i s (attr_after entries i s)) (applied_more entries e)
      ∙ same_later e.what (applied entries) s.0 i s (attr_after entries i s)

  made_before : (i : Ino) → is_made (state_after (entries ++ e ∷ [])) i ≡ true → makes i e.what ≡ false → is_made (state_after entries) i ≡ true
  made_before i is other =
      sym
      (ap (λ (state : State). is_made state i) (state_more entries e)
      ∙ ap (λ (l : List Inode). has l i) (made_inodes (state_after entries) e.client e.what made)
      ∙ has_other e.what (state_after entries).inodes i other)
      ∙ is

  module _ (old new : List (ℕ × History)) (stands : ShapesStand old entries) (called : Called entries e.what old new) where
    -- the table says what the entries say
    answers : (i : Ino) (s : SnapId) → is_asked (entries ++ e ∷ []) s ≡ true → (nat_lt (applied entries) s.0 ≡ true → is_made (state_after entries) i ≡ true → is_heads old i s ≡ true) → attr_at old i s ≡ attr_after entries i s → attr_at new i s ≡ attr_after (entries ++ e ∷ []) i s
    answers i s asked heads same =
        table_told entries old new i s known e.what called
        ∙ ap (told_by (nat_lt (applied entries) s.0) e.what i s) same
        ∙ sym (after_told i s asked)
      where
        known : Known entries old i s
        known = record {
          upto = asked_upto (entries ++ e ∷ []) both s asked;
          heads = λ later there. heads later (sym (stands.there i) ∙ there);
          absent = λ gone. same ∙ attr_none entries i s (sym (stands.there i) ∙ gone);
          asked = live_or_later entries s (moves_at entries e both s asked).asked;
        }

    live_now : (i : Ino) → head_of new i ≡ attr_after (entries ++ e ∷ []) i NOSNAP
    live_now i = answers i NOSNAP (nosnap_asked (entries ++ e ∷ []) both) (λ later is. stands.reaches i is) (stands.live i)

    reaches_now : (i : Ino) → is_made (state_after (entries ++ e ∷ [])) i ≡ true → is_heads new i NOSNAP ≡ true
    reaches_now i is =
        begins entries old new i NOSNAP (applied_below_nosnap entries legal) e.what called (λ other. stands.reaches i (made_before i is other)) (above_live entries e.what i fit)

    asked_now : (i : Ino) → flushes_are_past (entries ++ e ∷ []) i ≡ true → (s : SnapId) → is_asked (entries ++ e ∷ []) s ≡ true → attr_at new i s ≡ attr_after (entries ++ e ∷ []) i s
    asked_now i past s asked =
        let p = past_more entries e i past in
        answers i s asked (λ later is. begins_later (next_id entries) s (since old i) (above later) (stands.heads i p.0 is)) (stands.asked i p.0 s (moves_at entries e both s asked).asked)
      where
        above : nat_lt (applied entries) s.0 ≡ true → applied entries + 1 ≤ s.0
        above later = let l = ltb-true (applied entries) s.0 later in omega (arith, l)

    heads_now : (i : Ino) → flushes_are_past (entries ++ e ∷ []) i ≡ true → is_made (state_after (entries ++ e ∷ [])) i ≡ true → is_heads new i (next_id (entries ++ e ∷ [])) ≡ true
    heads_now i past is =
        let p = past_more entries e i past in
        begins entries old new i (next_id (entries ++ e ∷ [])) (omega (arith, applied_rises entries e fine)) e.what called
        (λ other. begins_later (next_id entries) (next_id (entries ++ e ∷ [])) (since old i) (omega (arith, applied_rises entries e fine)) (stands.heads i p.0 (made_before i is other)))
        (subst (λ (n : ℕ). IsAbove e.what i (n + 1)) (sym (applied_more entries e)) (above_past (applied entries) e.what i p.1))

    pub stands_more : ShapesStand new (entries ++ e ∷ [])
    stands_more = record {
      there = λ i. ap is_some (live_now i) ∙ some_made (entries ++ e ∷ []) both i;
      live = live_now;
      reaches = reaches_now;
      asked = asked_now;
      heads = heads_now;
    }

none_of : (found : Option Attr) → is_some found ≡ false → found ≡ None
none_of None is = refl
none_of (Some attr) is = cc

-- what the call for one entry more asks for
module _ (entries : List Entry) (legal : is_journal entries ≡ true) (table : List (ℕ × History)) (stands : ShapesStand table entries) where
  is_new : (w : What) (ino : Ino) → fits entries w ≡ true → makes ino w ≡ true → IsNew ino (next_id entries) table
  is_new w ino fit is = record {
    below_nosnap = omega (arith, applied_below entries legal);
    absent = none_of (head_of table ino) (stands.there ino ∙ new_unmade entries legal w fit ino is);
  }

  is_old : (ino : Ino) (follows : SnapId) → follows.0 < NOSNAP.0 → is_made (state_after entries) ino ≡ true → IsThere ino follows table
  is_old ino follows below is = record { below_nosnap = below; there = stands.there ino ∙ is }

  fine_by : (client : ℕ) (w : What) → is_made_by (state_after entries) client (change_in w) ≡ true → fits entries w ≡ true → IsFine entries w table
  fine_by client (what.Mkdir d n ino) good fits_it = is_new (what.Mkdir d n ino) ino fits_it (eq-eqb ino.0 ino.0 refl)
  fine_by client (what.Create d n ino mode) good fits_it = is_new (what.Create d n ino mode) ino fits_it (eq-eqb ino.0 ino.0 refl)
  fine_by client (what.Chmod ino mode) good fits_it =
      is_old ino (last_id entries) (applied_below_nosnap entries legal)
      (there_made (state_after entries) (made_after entries legal) ino (not-false (is_there (state_after entries).entries ino) (not-true (not (is_there (state_after entries).entries ino)) good)))
  fine_by client (what.Settle ino follows upto size) good fits_it = let l = flushed_made entries ino follows fits_it in is_old ino follows l.1 l.0
  fine_by client (what.Release ino follows size) good fits_it = let l = flushed_made entries ino follows fits_it in is_old ino follows l.1 l.0
  fine_by client w good fits_it = tt

pub fine_call : (entries : List Entry) (e : Entry) → is_journal (entries ++ e ∷ []) ≡ true → (table : List (ℕ × History)) → ShapesStand table entries → IsFine entries e.what table
fine_call entries e both table stands = fine_by entries (legal entries e both) table stands e.client e.what (made entries e both) (fit entries e both)

-- the root alone
root_after : (i : Ino) (s : SnapId) → attr_after [] i s ≡ cond (i.0 == ROOT.0) (Some (directory ROOT)) None
root_after i s =
    attr_look [] i s
    ∙ ap (λ (b : Bool). option_map (of_inode 0) (cond b (Some (new_directory ROOT)) None)) (turned ROOT i)
    ∙ go (i.0 == ROOT.0)
  where
    go : (b : Bool) → option_map (of_inode 0) (cond b (Some (new_directory ROOT)) None) ≡ cond b (Some (directory ROOT)) None
    go true = refl
    go false = refl

pub root_stands : (table : List (ℕ × History)) → Created ROOT (next_id []) (directory ROOT) [] table → ShapesStand table []
root_stands table call = record {
  there = λ i. ap is_some (live i) ∙ some_made [] refl i;
  live = live;
  reaches = λ i is. first i NOSNAP (omega arith) is;
  asked = λ i past s asked. says i s (asked_upto [] refl s asked) (from s (live_or_later [] s asked));
  heads = λ i past is. first i (next_id []) (omega arith) is;
}
  where
    says : (i : Ino) (s : SnapId) → s.0 ≤ NOSNAP.0 → 2 ≤ s.0 → attr_at table i s ≡ attr_after [] i s
    says i s upto later =
        call.at i s upto
        ∙ ap (λ (b : Bool). cond (i.0 == ROOT.0) (cond b (Some (directory ROOT)) None) (attr_at [] i s)) (le-leb 2 s.0 later)
        ∙ ap (λ (found : Option Attr). cond (i.0 == ROOT.0) (Some (directory ROOT)) found) (none_there i s)
        ∙ sym (root_after i s)

    live : (i : Ino) → head_of table i ≡ attr_after [] i NOSNAP
    live i = says i NOSNAP (omega arith) (omega arith)

    from : (s : SnapId) → (false ≡ true) ⊎ (nat_lt 1 s.0 ≡ true) → 2 ≤ s.0
    from s (inl never) = cc
    from s (inr later) = let l = ltb-true 1 s.0 later in omega (arith, l)

    first : (i : Ino) (t : SnapId) → 2 ≤ t.0 → is_made start i ≡ true → is_heads table i t ≡ true
    first i t later is = ap (begins_by t) (call.first i) ∙ go (i.0 == ROOT.0) (sym (turned ROOT i)) is
      where
        go : (b : Bool) → b ≡ same_ino ROOT i → (same_ino ROOT i || false) ≡ true → begins_by t (cond b (Some (next_id [])) (since [] i)) ≡ true
        go true same is = le-leb 2 t.0 later
        go false same is = let never : (false || false) ≡ true = ap (λ (b : Bool). b || false) same ∙ is in cc

-- What a table says after what is called for one more entry.
use Rattle.std.proofs.Common.{◌≡◌, ℕ, ◌+◌, ◌<◌, ◌≤◌, List, Bool, true, false, cond, ◌⊎◌, inl, inr, None, Some, refl, sym, ap, ◌∙◌, arith, le-leb, eqb-true}
use Rattle.std.proofs.lemmas.Bool.Decides.{nat_tests}
use Rattle.std.specs.Prelude.{◌&&◌, ◌==◌, nat_lt, nat_le, is_some}
use Rattle.std.specs.Option.{option_map}
use Rattle.snap_ids.specs.declared.id.Ino.{Ino}
use Rattle.snap_ids.specs.declared.id.SnapId.{SnapId}
use Rattle.snap_ids.specs.declared.id.TheConstants.{NOSNAP}
use Rattle.plain_types.specs.declared.entry.Entry.{Entry}
use Rattle.plain_types.specs.declared.entry.What.{What}
use Rattle.plain_types.specs.declared.entry.What.TheVariants as what
use Rattle.plain_journal.specs.Entries.{state_after, applied}
use Rattle.inode_versions.specs.declared.attr.Attr.{Attr}
use Rattle.inode_versions.specs.Histories.{History, since_changed}
use Rattle.inode_versions.specs.Table.{attr_at, head_of, since, begins_by, is_heads, first_settled, is_kept}
use Rattle.journal_moments.specs.Moments.{is_live_snap}
use Rattle.journal_shapes.specs.Stands.{last_id, next_id}
use Rattle.journal_shapes.specs.Calls.{directory, file, in_mode, Created, Changed, Settled, Trimmed, HasLive, Called}
use Rattle.journal_shapes.proofs.Inodes.{makes}
use Rattle.journal_shapes.proofs.Looks.{told_by}
use Rattle.journal_shapes.proofs.Sizes.{IsAbove}
use Rattle.journal_shapes.proofs.Heads.{head_at, head_kept, changed_begins, settled_begins}

-- what is known of an inode at an id before the call
pub record Known (entries : List Entry) (old : List (ℕ × History)) (i : Ino) (s : SnapId) : Type 0 where
  pub upto : s.0 ≤ NOSNAP.0
  pub heads : nat_lt (applied entries) s.0 ≡ true → is_some (head_of old i) ≡ true → is_heads old i s ≡ true
  pub absent : is_some (head_of old i) ≡ false → attr_at old i s ≡ None
  pub asked : (is_live_snap s (state_after entries).snaps ≡ true) ⊎ (nat_lt (applied entries) s.0 ≡ true)

next_later : (m n : ℕ) → nat_le (m + 1) n ≡ nat_lt m n
next_later m n = grind (arith, nat_tests)

module _ (entries : List Entry) (old new : List (ℕ × History)) (i : Ino) (s : SnapId) (known : Known entries old i s) where
  made_told : (ino : Ino) (attr : Attr) → Created ino (next_id entries) attr old new → attr_at new i s ≡ cond (i.0 == ino.0) (cond (nat_lt (applied entries) s.0) (Some attr) None) (attr_at old i s)
  made_told ino attr call = call.at i s known.upto ∙ ap (λ (b : Bool). cond (i.0 == ino.0) (cond b (Some attr) None) (attr_at old i s)) (next_later (applied entries) s.0)

  mode_told : (ino : Ino) (mode : ℕ) (head : Attr) → head_of old ino ≡ Some head → Changed ino (last_id entries) (in_mode mode head) old new → attr_at new i s ≡ cond ((i.0 == ino.0) && nat_lt (applied entries) s.0) (option_map (in_mode mode) (attr_at old i s)) (attr_at old i s)
  mode_told ino mode head is call = call.at i s known.upto ∙ go (i.0 == ino.0) (nat_lt (applied entries) s.0) (is_heads old i s) refl refl refl
    where
      its : (i.0 == ino.0) ≡ true → head_of old i ≡ Some head
      its same = ap (λ (n : ℕ). head_of old (record { 0 = n })) (eqb-true i.0 ino.0 same) ∙ is

      go : (a b c : Bool) → (i.0 == ino.0) ≡ a → nat_lt (applied entries) s.0 ≡ b → is_heads old i s ≡ c → cond (a && (b && c)) (Some (in_mode mode head)) (attr_at old i s) ≡ cond (a && b) (option_map (in_mode mode) (attr_at old i s)) (attr_at old i s)
      go true true true same later at = sym (ap (option_map (in_mode mode)) (head_at old i s known.upto at ∙ its same))
      go true true false same later at = let never : true ≡ false = sym (known.heads later (ap is_some (its same))) ∙ at in cc
      go true false c same later at = refl
      go false b c same later at = refl

  kept_told : (list : List SnapId) → HasLive entries list → Trimmed list old new → attr_at new i s ≡ attr_at old i s
  kept_told list has call = go known.asked
    where
      either : (b : Bool) → attr_at old i s ≡ None → cond b (attr_at old i s) None ≡ attr_at old i s
      either true none = refl
      either false none = sym none

      by_head : (b : Bool) → is_some (head_of old i) ≡ b → nat_lt (applied entries) s.0 ≡ true → attr_at new i s ≡ attr_at old i s
      by_head true there later = call.at i s ∙ ap (λ (b : Bool). cond b (attr_at old i s) None) (head_kept list old i s (known.heads later there))
      by_head false gone later = call.at i s ∙ either (is_kept list old i s) (known.absent gone)

      go : ((is_live_snap s (state_after entries).snaps ≡ true) ⊎ (nat_lt (applied entries) s.0 ≡ true)) → attr_at new i s ≡ attr_at old i s
      go (inl live) = call.listed i s (has s live)
      go (inr later) = by_head (is_some (head_of old i)) refl later

  pub table_told : (w : What) → Called entries w old new → attr_at new i s ≡ told_by (nat_lt (applied entries) s.0) w i s (attr_at old i s)
  table_told (what.Mkdir d n ino) call = made_told ino (directory ino) call
  table_told (what.Create d n ino mode) call = made_told ino (file mode) call
  table_told (what.Chmod ino mode) call = mode_told ino mode call.0 call.1 call.2
  table_told (what.Settle ino follows last size) call = call.at i s known.upto
  table_told (what.Release ino follows size) call = call.at i s known.upto
  table_told (what.Trim id) call = kept_told call.0 call.1 call.2
  table_told w call = ap (λ (table : List (ℕ × History)). attr_at table i s) call

-- an id above the last one that was the head's stays so
module _ (entries : List Entry) (old new : List (ℕ × History)) (i : Ino) (t : SnapId) (above : applied entries < t.0) where
  made_begins : (ino : Ino) (attr : Attr) → Created ino (next_id entries) attr old new → ((i.0 == ino.0) ≡ false → is_heads old i t ≡ true) → is_heads new i t ≡ true
  made_begins ino attr call before = ap (begins_by t) (call.first i) ∙ go (i.0 == ino.0) refl
    where
      go : (b : Bool) → (i.0 == ino.0) ≡ b → begins_by t (cond b (Some (next_id entries)) (since old i)) ≡ true
      go true same = le-leb (applied entries + 1) t.0 (omega arith)
      go false other = before other

  mode_begins : (ino : Ino) (attr : Attr) → Changed ino (last_id entries) attr old new → is_heads old i t ≡ true → is_heads new i t ≡ true
  mode_begins ino attr call before = ap (begins_by t) (call.first i) ∙ go (i.0 == ino.0)
    where
      go : (b : Bool) → begins_by t (cond b (option_map (since_changed (last_id entries)) (since old i)) (since old i)) ≡ true
      go true = changed_begins (last_id entries) t (since old i) above before
      go false = before

  size_begins : (ino : Ino) (follows upto : SnapId) (size : ℕ) → Settled ino follows upto size old new → is_heads old i t ≡ true → ((i.0 == ino.0) ≡ true → (follows.0 < t.0) × ((upto.0 < t.0) ⊎ (NOSNAP.0 ≤ upto.0))) → is_heads new i t ≡ true
  size_begins ino follows upto size call before past = ap (begins_by t) (call.first i) ∙ go (i.0 == ino.0) refl
    where
      go : (b : Bool) → (i.0 == ino.0) ≡ b → begins_by t (cond b (first_settled follows upto size (head_of old i) (since old i)) (since old i)) ≡ true
      go true same = settled_begins follows upto size (head_of old i) t (since old i) (past same).0 (past same).1 before
      go false other = before

  pub begins : (w : What) → Called entries w old new → (makes i w ≡ false → is_heads old i t ≡ true) → IsAbove w i t.0 → is_heads new i t ≡ true
  begins (what.Mkdir d n ino) call before past = made_begins ino (directory ino) call before
  begins (what.Create d n ino mode) call before past = made_begins ino (file mode) call before
  begins (what.Chmod ino mode) call before past = mode_begins ino (in_mode mode call.0) call.2 (before refl)
  begins (what.Settle ino follows upto size) call before past = size_begins ino follows upto size call (before refl) past
  begins (what.Release ino follows size) call before past = size_begins ino follows NOSNAP size call (before refl) (λ same. (past same, inr (omega arith)))
  begins (what.Trim id) call before past = ap (begins_by t) (call.2.first i) ∙ before refl
  begins w call before past = ap (λ (table : List (ℕ × History)). is_heads table i t) call ∙ before refl

-- What a message does at a place of an object.
use Rattle.std.proofs.Common.{◌≡◌, ℕ, ◌+◌, ◌-◌, ◌<◌, ◌≤◌, min, max, Bool, true, false, eqb, nat_lt, nat_le, List, length, Option, None, Some, if◌then◌else◌, sym, ◌∙◌, refl, arith, ◌⊎◌, inl, inr, ⊎_elim}
use Rattle.std.specs.Prelude.{is_some}
use Rattle.std.proofs.lemmas.Bool.{cases_lt}
use Rattle.snap_ids.specs.declared.id.Ino.{Ino}
use Rattle.snap_ids.specs.declared.id.SnapId.{SnapId}
use Rattle.snap_ids.specs.Context.{Context}
use Rattle.plain_types.specs.declared.message.ToStore.{ToStore}
use Rattle.plain_types.specs.declared.message.ToStore.TheVariants.{WriteAt, Cut, Delete, ReadHead, ReadSnap, ListClones, Purge}
use Rattle.object_log.specs.Bytes.{byte_after, laid, cut_off}
use Rattle.object_log.specs.Objects.{Touch, touch, end_of, length_of, meets, purged_after}
use Rattle.object_log.specs.Reads.{context_for}
use Rattle.object_log.proofs.Laid.{laid_before, laid_past, cut_in, cut_past}
use Rattle.object_log.proofs.Listing.{lt_is, lt_not}

-- a message that isn't for the file
pub record Leaves (f : Ino) (low high at : ℕ) (m : ToStore) : Type 0 where
  pub none : context_for f m ≡ None
  pub stays : (counts : Context → Bool) (b : ℕ) → byte_after f counts at b m ≡ b
  pub untouched : (head : Option ℕ) → touch f low high head m ≡ None

-- what a touch does with a byte, where a byte behind the head's end is zero
abbrev pub Does : Context → ℕ → ℕ → ℕ → ℕ → Option Touch → Type 0
Does context low at b new None = new ≡ b
Does context low at b new (Some t) = (t.context ≡ context) × (end_of low t.head ≤ at → new ≡ 0)

-- a message that changes the file under a context
pub record Changes (f : Ino) (low high at : ℕ) (m : ToStore) : Type 0 where
  pub context : Context
  pub change : ℕ → ℕ
  pub some : context_for f m ≡ Some context
  pub grows : (counts : Context → Bool) (b : ℕ) → byte_after f counts at b m ≡ (if counts context then change b else b)
  pub keeps : (ids : List SnapId) → purged_after ids m ≡ ids
  pub does : (head : Option ℕ) (b : ℕ) → (end_of low head ≤ at → b ≡ 0) → Does context low at b (change b) (touch f low high head m)

le_is : (a b : ℕ) → nat_le a b ≡ true → a ≤ b
le_is a b h = grind arith

le_not : (a b : ℕ) → nat_le a b ≡ false → b < a
le_not a b h = grind arith

head_upto : (low : ℕ) (head : Option ℕ) (n at : ℕ) → low + max (length_of head) n ≤ at → end_of low head ≤ at
head_upto low None n at h = omega arith
head_upto low (Some k) n at h = omega arith

write_does : (low high at offset : ℕ) (bytes : List ℕ) (context : Context) (head : Option ℕ) (b : ℕ) → low ≤ at → at < high → (end_of low head ≤ at → b ≡ 0)
    → (t : Bool) → nat_lt (max low offset) (min high (offset + length bytes)) ≡ t
    → Does context low at b (laid at offset bytes b)
    (if t then Some (record { context = context; head = Some (max (length_of head) (min high (offset + length bytes) - low)) }) else None)
write_does low high at offset bytes context head b h k zero true e =
    let l : max low offset < min high (offset + length bytes) = lt_is _ _ e in (
      refl,
      λ past. let q : low + max (length_of head) (min high (offset + length bytes) - low) ≤ at = past in
          laid_past at offset bytes b (omega arith) ∙ zero (head_upto low head (min high (offset + length bytes) - low) at q),
    )
write_does low high at offset bytes context head b h k zero false e =
    let l : min high (offset + length bytes) ≤ max low offset = lt_not _ _ e in
    ⊎_elim
    (λ (p : at < offset). laid_before at offset bytes b p)
    (λ (p : offset ≤ at). laid_past at offset bytes b (omega arith))
    (cases_lt at offset)

cut_does : (low at limit : ℕ) (context : Context) (head : Option ℕ) (b : ℕ) → low ≤ at → (end_of low head ≤ at → b ≡ 0)
    → (t : Bool) → nat_lt limit (end_of low head) ≡ t → (u : Bool) → nat_le limit low ≡ u
    → Does context low at b (cut_off at limit b) (if t then Some (record { context = context; head = if u then None else Some (limit - low) }) else None)
cut_does low at limit context head b h zero true e true d =
    let l : limit ≤ low = le_is limit low d in
    (refl, λ past. cut_past at limit b (omega arith))
cut_does low at limit context head b h zero true e false d =
    let l : low < limit = le_not limit low d in
    (refl, λ past. let q : low + (limit - low) ≤ at = past in cut_past at limit b (omega arith))
cut_does low at limit context head b h zero false e u d =
    let l : end_of low head ≤ limit = lt_not _ _ e in
    ⊎_elim
    (λ (p : at < limit). cut_in at limit b p)
    (λ (p : limit ≤ at). cut_past at limit b p ∙ sym (zero (omega arith)))
    (cases_lt at limit)

delete_does : (low at : ℕ) (context : Context) (head : Option ℕ) (b : ℕ) → (end_of low head ≤ at → b ≡ 0)
    → Does context low at b 0 (if is_some head then Some (record { context = context; head = None }) else None)
delete_does low at context None b zero = sym (zero (omega arith))
delete_does low at context (Some n) b zero = (refl, λ past. refl)

pub kind_of : (f : Ino) (low high at : ℕ) (m : ToStore) → low ≤ at → at < high → Leaves f low high at m ⊎ Changes f low high at m
kind_of f low high at (WriteAt ino offset bytes context) h k = by_file (eqb ino.0 f.0) refl
  where
    by_file : (t : Bool) → eqb ino.0 f.0 ≡ t → Leaves f low high at (WriteAt ino offset bytes context) ⊎ Changes f low high at (WriteAt ino offset bytes context)
    by_file true e = inr (record {
      context = context;
      change = λ b. laid at offset bytes b;
      some = rw e refl;
      grows = λ counts b. rw e refl;
      keeps = λ ids. refl;
      does = λ head b zero. rw e (write_does low high at offset bytes context head b h k zero (meets low high offset (offset + length bytes)) refl);
    })
    by_file false e = inl (record { none = rw e refl; stays = λ counts b. rw e refl; untouched = λ head. rw e refl })
kind_of f low high at (Cut ino limit context) h k = by_file (eqb ino.0 f.0) refl
  where
    by_file : (t : Bool) → eqb ino.0 f.0 ≡ t → Leaves f low high at (Cut ino limit context) ⊎ Changes f low high at (Cut ino limit context)
    by_file true e = inr (record {
      context = context;
      change = λ b. cut_off at limit b;
      some = rw e refl;
      grows = λ counts b. rw e refl;
      keeps = λ ids. refl;
      does = λ head b zero. rw e (cut_does low at limit context head b h zero (nat_lt limit (end_of low head)) refl (nat_le limit low) refl);
    })
    by_file false e = inl (record { none = rw e refl; stays = λ counts b. rw e refl; untouched = λ head. rw e refl })
kind_of f low high at (Delete ino context) h k = by_file (eqb ino.0 f.0) refl
  where
    by_file : (t : Bool) → eqb ino.0 f.0 ≡ t → Leaves f low high at (Delete ino context) ⊎ Changes f low high at (Delete ino context)
    by_file true e = inr (record {
      context = context;
      change = λ b. 0;
      some = rw e refl;
      grows = λ counts b. rw e refl;
      keeps = λ ids. refl;
      does = λ head b zero. rw e (delete_does low at context head b zero);
    })
    by_file false e = inl (record { none = rw e refl; stays = λ counts b. rw e refl; untouched = λ head. rw e refl })
kind_of f low high at (ReadHead key ino size) h k = inl (record { none = refl; stays = λ counts b. refl; untouched = λ head. refl })
kind_of f low high at (ReadSnap key ino size s) h k = inl (record { none = refl; stays = λ counts b. refl; untouched = λ head. refl })
kind_of f low high at (ListClones key ino index) h k = inl (record { none = refl; stays = λ counts b. refl; untouched = λ head. refl })
kind_of f low high at (Purge id) h k = inl (record { none = refl; stays = λ counts b. refl; untouched = λ head. refl })

-- Where the messages for a file come in order, what is served at a snapshot is the file at the snapshot.
use Rattle.std.proofs.Common.{◌≡◌, ℕ, ◌+◌, ◌*◌, ◌/◌, ◌%◌, ◌<◌, ◌≤◌, Bool, true, false, not, ◌||◌, ◌&&◌, nat_lt, List, [], ◌∷◌, ◌++◌, Option, None, Some, sym, ◌∙◌, refl, ap, subst, arith, append-nil, ◌⊎◌, inl, inr, ⊎_elim}
use Rattle.std.specs.Prelude.{fold}
use Rattle.std.specs.List.{list_all, filter_map, cons_option}
use Rattle.snap_ids.specs.declared.id.Ino.{Ino}
use Rattle.snap_ids.specs.declared.id.SnapId.{SnapId}
use Rattle.snap_ids.specs.Context.{Context, is_context, is_listed, falls, begins_above}
use Rattle.plain_types.specs.declared.message.ToStore.{ToStore}
use Rattle.plain_types.specs.declared.message.ToStore.TheVariants.{WriteAt, Cut, Delete, ReadHead, ReadSnap, ListClones, Purge}
use Rattle.object_log.specs.Bytes.{byte_after, byte_of, any_context, is_before, purges, was_purged, bytes_at}
use Rattle.object_log.specs.Objects.{Touch, touch, touched, news, with_clone, end_of, purged_after}
use Rattle.object_log.specs.Reads.{context_for, contexts_for, later_ones_list, earlier_ones_first, know_snapshot}
use Rattle.object_log.specs.Serves.{CloneByte, Place, made_by, keep_byte, place_after, nothing_there, place_of, still_kept, still_there, byte_kept, byte_served, bytes_served}
use Rattle.object_log.proofs.Changes.{Leaves, Changes, Does, kind_of}
use Rattle.object_log.proofs.Listing.{Starts, Reaches, AllBelow, lt_is, lt_not, is_lt, not_lt, and_front, and_back, or_front, or_back, if_true, if_false, still_listed, out_of, starts_filter, reaches_filter, below_append, past, none_more, serving}
use Rattle.object_log.proofs.Many.{so_many_same}

-- a place before any message of a context that isn't below the snapshot touched its object
record Early (s : SnapId) (low at : ℕ) (p : Place) (b : ℕ) : Type 0 where
  pub below : AllBelow s p.kept
  pub seq : p.object.seq < s.0
  pub same : p.byte ≡ b
  pub zero : end_of low p.object.head ≤ at → p.byte ≡ 0
  pub live : is_listed s p.object.purged ≡ false

-- and after one did
record Late (s : SnapId) (low at : ℕ) (p : Place) (b : ℕ) : Type 0 where
  pub serves : (ids : List SnapId) → is_listed s ids ≡ false → byte_kept s (filter_map (still_kept ids) p.kept) ≡ b
  pub seq : s.0 ≤ p.object.seq
  pub zero : end_of low p.object.head ≤ at → p.byte ≡ 0
  pub live : is_listed s p.object.purged ≡ false

early_served : (s : SnapId) (low at : ℕ) (p : Place) (b : ℕ) → Early s low at p b → byte_served s p ≡ b
early_served s low at p b e = if_true (nat_lt p.object.seq s.0) p.byte (byte_kept s (still_there p)) (is_lt p.object.seq s.0 e.seq) ∙ e.same

late_served : (s : SnapId) (low at : ℕ) (p : Place) (b : ℕ) → Late s low at p b → byte_served s p ≡ b
late_served s low at p b l = if_false (nat_lt p.object.seq s.0) p.byte (byte_kept s (still_there p)) (not_lt p.object.seq s.0 l.seq) ∙ l.serves p.object.purged l.live

-- a place after a message that is known so
abbrev next_place : Place → List SnapId → Option Touch → ℕ → Place
next_place p ids t new = record {
  object = touched (record p.object { purged = ids }) t;
  byte = new;
  kept = p.kept ++ keep_byte p.byte (made_by p.object t);
}

next_is : (f : Ino) (low high at : ℕ) (p : Place) (m : ToStore) (ids : List SnapId) (t : Option Touch) (new : ℕ)
    → purged_after p.object.purged m ≡ ids → touch f low high p.object.head m ≡ t → byte_after f any_context at p.byte m ≡ new
    → place_after f low high at p m ≡ next_place p ids t new
next_is f low high at p m ids t new purged touches bytes = λ i. record {
  object = touched (record p.object { purged = purged i }) (touches i);
  byte = bytes i;
  kept = p.kept ++ keep_byte p.byte (made_by p.object (touches i));
}

-- a message that isn't for the file
early_other : (s : SnapId) (low at : ℕ) (p : Place) (b : ℕ) (ids : List SnapId) → is_listed s ids ≡ false → Early s low at p b → Early s low at (next_place p ids None p.byte) b
early_other s low at p b ids live e = record { below = below_append s p.kept [] e.below tt; seq = e.seq; same = e.same; zero = e.zero; live = live }

late_other : (s : SnapId) (low at : ℕ) (p : Place) (b : ℕ) (ids : List SnapId) → is_listed s ids ≡ false → Late s low at p b → Late s low at (next_place p ids None p.byte) b
late_other s low at p b ids live l = record {
  serves = λ gone h. ap (λ ks. byte_kept s (filter_map (still_kept gone) ks)) (append-nil p.kept) ∙ l.serves gone h;
  seq = l.seq;
  zero = l.zero;
  live = live;
}

-- what a context below the snapshot is, and what one that lists it is
abbrev Before : SnapId → Context → Type 0
Before s c = (c.seq.0 < s.0) × (falls c.ids ≡ true) × Starts c.seq.0 c.ids

abbrev After : SnapId → Context → Type 0
After s c = (s.0 ≤ c.seq.0) × (falls c.ids ≡ true) × (is_listed s c.ids ≡ true)

made_below : (s : SnapId) (m : ℕ) (head : Option ℕ) (ids : List SnapId) (v : ℕ) → m < s.0 → Starts m ids → AllBelow s (keep_byte v (with_clone head ids []))
made_below s m None ids v l h = tt
made_below s m (Some n) [] v l h = tt
made_below s m (Some n) (x ∷ ids) v l h = (omega arith, tt)

early_before : (s : SnapId) (low at : ℕ) (p : Place) (b : ℕ) (c : Context) (new next : ℕ) (t : Option Touch) → Early s low at p b → Before s c
    → Does c low at p.byte new t → new ≡ next → Early s low at (next_place p p.object.purged t new) next
early_before s low at p b c new next None e h does same = record {
  below = below_append s p.kept [] e.below tt;
  seq = e.seq;
  same = same;
  zero = λ k. does ∙ e.zero k;
  live = e.live;
}
early_before s low at p b c new next (Some t) e h does same =
    let fits : Before s t.context = subst (Before s) (sym does.0) h in
    record {
      below = below_append s p.kept (keep_byte p.byte (with_clone p.object.head (news p.object.seq p.object.purged t.context) [])) e.below
          (made_below s t.context.seq.0 p.object.head (news p.object.seq p.object.purged t.context) p.byte fits.0
          (starts_filter t.context.ids t.context.seq.0 (λ q. nat_lt p.object.seq q.0 && not (is_listed q p.object.purged)) fits.1 fits.2));
      seq = let x : p.object.seq < s.0 = e.seq in let y : t.context.seq.0 < s.0 = fits.0 in omega arith;
      same = same;
      zero = does.1;
      live = e.live;
    }

-- the clone that the first touch after the snapshot makes serves it
made_serves : (s : SnapId) (low at : ℕ) (head : Option ℕ) (ids : List SnapId) (v b : ℕ) (gone : List SnapId) → v ≡ b → (end_of low head ≤ at → v ≡ 0)
    → Reaches s ids → is_listed s ids ≡ true → is_listed s gone ≡ false → byte_kept s (filter_map (still_kept gone) (keep_byte v (with_clone head ids []))) ≡ b
made_serves s low at None ids v b gone same zero reach listed live = sym (zero (omega arith)) ∙ same
made_serves s low at (Some n) [] v b gone same zero reach listed live = absurd reach
made_serves s low at (Some n) (x ∷ ids) v b gone same zero reach listed live = serving s gone (record { clone = (x, x ∷ ids); byte = v }) reach listed live ∙ same

-- a clone for others doesn't
made_for_others : (s : SnapId) (head : Option ℕ) (ids : List SnapId) (v : ℕ) (kept : List CloneByte) (gone : List SnapId) → is_listed s ids ≡ false
    → byte_kept s (filter_map (still_kept gone) (kept ++ keep_byte v (with_clone head ids []))) ≡ byte_kept s (filter_map (still_kept gone) kept)
made_for_others s None ids v kept gone n = ap (λ ks. byte_kept s (filter_map (still_kept gone) ks)) (append-nil kept)
made_for_others s (Some k) [] v kept gone n = ap (λ ks. byte_kept s (filter_map (still_kept gone) ks)) (append-nil kept)
made_for_others s (Some k) (x ∷ ids) v kept gone n = none_more s gone kept (record { clone = (x, x ∷ ids); byte = v }) n

abbrev State : SnapId → ℕ → ℕ → Place → ℕ → Type 0
State s low at p b = Early s low at p b ⊎ Late s low at p b

early_after : (s : SnapId) (low at : ℕ) (p : Place) (b : ℕ) (c : Context) (new : ℕ) (t : Option Touch) → Early s low at p b → After s c
    → Does c low at p.byte new t → State s low at (next_place p p.object.purged t new) b
early_after s low at p b c new None e h does = inl (record {
  below = below_append s p.kept [] e.below tt;
  seq = e.seq;
  same = does ∙ e.same;
  zero = λ k. does ∙ e.zero k;
  live = e.live;
})
early_after s low at p b c new (Some t) e h does =
    let fits : After s t.context = subst (After s) (sym does.0) h in
    let passing : SnapId → Bool = λ q. nat_lt p.object.seq q.0 && not (is_listed q p.object.purged) in
    let passes : passing s ≡ true = ap (λ x. x && not (is_listed s p.object.purged)) (is_lt p.object.seq s.0 e.seq) ∙ ap not e.live in
    inr (record {
      serves = λ gone live. past s gone p.kept (keep_byte p.byte (with_clone p.object.head (news p.object.seq p.object.purged t.context) [])) e.below
          ∙ made_serves s low at p.object.head (news p.object.seq p.object.purged t.context) p.byte b gone e.same e.zero
          (reaches_filter t.context.ids s passing fits.1 passes fits.2) (still_listed t.context.ids s passing passes fits.2) live;
      seq = let y : s.0 ≤ t.context.seq.0 = fits.0 in omega arith;
      zero = does.1;
      live = e.live;
    })

late_after : (s : SnapId) (low at : ℕ) (p : Place) (b : ℕ) (c : Context) (new : ℕ) (t : Option Touch) → Late s low at p b
    → Does c low at p.byte new t → Late s low at (next_place p p.object.purged t new) b
late_after s low at p b c new None l does = record {
  serves = λ gone h. ap (λ ks. byte_kept s (filter_map (still_kept gone) ks)) (append-nil p.kept) ∙ l.serves gone h;
  seq = l.seq;
  zero = λ k. does ∙ l.zero k;
  live = l.live;
}
late_after s low at p b c new (Some t) l does =
    let passing : SnapId → Bool = λ q. nat_lt p.object.seq q.0 && not (is_listed q p.object.purged) in
    let fails : passing s ≡ false = ap (λ x. x && not (is_listed s p.object.purged)) (not_lt p.object.seq s.0 l.seq) in
    record {
      serves = λ gone h. made_for_others s p.object.head (news p.object.seq p.object.purged t.context) p.byte p.kept gone (out_of t.context.ids s passing fails) ∙ l.serves gone h;
      seq = let y : s.0 ≤ p.object.seq = l.seq in omega arith;
      zero = does.1;
      live = l.live;
    }

-- contexts that all list the snapshot; and those that come before it, followed by such
abbrev AllLater : SnapId → List Context → Type 0
AllLater s [] = Unit {0}
AllLater s (c ∷ cs) = (is_before s c ≡ false) × (is_listed s c.ids ≡ true) × (is_context c ≡ true) × AllLater s cs

abbrev InOrder : SnapId → List Context → Type 0
InOrder s [] = Unit {0}
InOrder s (c ∷ cs) = ((is_before s c ≡ true) × (is_context c ≡ true) × InOrder s cs) ⊎ AllLater s (c ∷ cs)

fits_after : (s : SnapId) (c : Context) → is_before s c ≡ false → is_listed s c.ids ≡ true → is_context c ≡ true → After s c
fits_after s c late listed well = (lt_not c.seq.0 s.0 late, and_front (falls c.ids) (not (begins_above c.seq c.ids)) well, listed)

starts : (seq : SnapId) (ids : List SnapId) → not (begins_above seq ids) ≡ true → Starts seq.0 ids
starts seq [] h = tt
starts seq (x ∷ ids) h = by_test (nat_lt seq.0 x.0) refl h
  where
    by_test : (t : Bool) → nat_lt seq.0 x.0 ≡ t → not t ≡ true → x.0 ≤ seq.0
    by_test true e k = cc
    by_test false e k = lt_not seq.0 x.0 e

fits_before : (s : SnapId) (c : Context) → is_before s c ≡ true → is_context c ≡ true → Before s c
fits_before s c early well = (
  lt_is c.seq.0 s.0 early,
  and_front (falls c.ids) (not (begins_above c.seq c.ids)) well,
  starts c.seq c.ids (and_back (falls c.ids) (not (begins_above c.seq c.ids)) well),
)

-- what a message purges
still_live : (s : SnapId) (ids : List SnapId) (m : ToStore) → is_listed s ids ≡ false → purges s m ≡ false → is_listed s (purged_after ids m) ≡ false
still_live s ids (Purge id) live h = ap (λ b. b || is_listed s ids) h ∙ live
still_live s ids (WriteAt ino offset bytes context) live h = live
still_live s ids (Cut ino size context) live h = live
still_live s ids (Delete ino context) live h = live
still_live s ids (ReadHead key ino size) live h = live
still_live s ids (ReadSnap key ino size snap) live h = live
still_live s ids (ListClones key ino index) live h = live

-- the place and the byte after a message
abbrev Went : SnapId → Ino → ℕ → ℕ → ℕ → Place → ℕ → ToStore → Type 0
Went s f low high at p b m = State s low at (place_after f low high at p m) (byte_after f (is_before s) at b m)

went_other : (s : SnapId) (f : Ino) (low high at : ℕ) (p : Place) (b : ℕ) (m : ToStore) → State s low at p b → purges s m ≡ false → Leaves f low high at m
    → Went s f low high at p b m
went_other s f low high at p b m state gone leaves =
    let ids = purged_after p.object.purged m in
    subst (λ q. State s low at q (byte_after f (is_before s) at b m))
    (sym (next_is f low high at p m ids None p.byte refl (leaves.untouched p.object.head) (leaves.stays any_context p.byte)))
    (subst (λ c. State s low at (next_place p ids None p.byte) c) (sym (leaves.stays (is_before s) b)) (by_state state))
  where
    by_state : State s low at p b → State s low at (next_place p (purged_after p.object.purged m) None p.byte) b
    by_state (inl e) = inl (early_other s low at p b (purged_after p.object.purged m) (still_live s p.object.purged m e.live gone) e)
    by_state (inr l) = inr (late_other s low at p b (purged_after p.object.purged m) (still_live s p.object.purged m l.live gone) l)

went_after : (s : SnapId) (f : Ino) (low high at : ℕ) (p : Place) (b : ℕ) (m : ToStore) → State s low at p b → (c : Changes f low high at m)
    → is_before s c.context ≡ false → After s c.context → Went s f low high at p b m
went_after s f low high at p b m state c late fits =
    let t = touch f low high p.object.head m in
    subst (λ q. State s low at q (byte_after f (is_before s) at b m))
    (sym (next_is f low high at p m p.object.purged t (c.change p.byte) (c.keeps p.object.purged) refl (c.grows any_context p.byte)))
    (subst (λ x. State s low at (next_place p p.object.purged t (c.change p.byte)) x)
    (sym (c.grows (is_before s) b ∙ if_false (is_before s c.context) (c.change b) b late)) (by_state state))
  where
    by_state : State s low at p b → State s low at (next_place p p.object.purged (touch f low high p.object.head m) (c.change p.byte)) b
    by_state (inl e) = early_after s low at p b c.context (c.change p.byte) (touch f low high p.object.head m) e fits (c.does p.object.head p.byte e.zero)
    by_state (inr l) = inr (late_after s low at p b c.context (c.change p.byte) (touch f low high p.object.head m) l (c.does p.object.head p.byte l.zero))

went_before : (s : SnapId) (f : Ino) (low high at : ℕ) (p : Place) (b : ℕ) (m : ToStore) → Early s low at p b → (c : Changes f low high at m)
    → is_before s c.context ≡ true → Before s c.context → Early s low at (place_after f low high at p m) (byte_after f (is_before s) at b m)
went_before s f low high at p b m e c early fits =
    let t = touch f low high p.object.head m in
    subst (λ q. Early s low at q (byte_after f (is_before s) at b m))
    (sym (next_is f low high at p m p.object.purged t (c.change p.byte) (c.keeps p.object.purged) refl (c.grows any_context p.byte)))
    (early_before s low at p b c.context (c.change p.byte) (byte_after f (is_before s) at b m) t e fits (c.does p.object.head p.byte e.zero)
    (ap c.change e.same ∙ sym (c.grows (is_before s) b ∙ if_true (is_before s c.context) (c.change b) b early)))

-- one message more, after the snapshot, and before it
later_step : (s : SnapId) (f : Ino) (low high at : ℕ) (p : Place) (b : ℕ) (m : ToStore) (cs : List Context) → State s low at p b
    → purges s m ≡ false → AllLater s (cons_option (context_for f m) cs) → Leaves f low high at m ⊎ Changes f low high at m
    → Went s f low high at p b m × AllLater s cs
later_step s f low high at p b m cs state gone all (inl leaves) =
    (went_other s f low high at p b m state gone leaves, subst (λ o. AllLater s (cons_option o cs)) leaves.none all)
later_step s f low high at p b m cs state gone all (inr c) =
    let here : AllLater s (c.context ∷ cs) = subst (λ o. AllLater s (cons_option o cs)) c.some all in
    (went_after s f low high at p b m state c here.0 (fits_after s c.context here.0 here.1 here.2), here.3)

abbrev Went2 : SnapId → Ino → ℕ → ℕ → ℕ → Place → ℕ → ToStore → List Context → Type 0
Went2 s f low high at p b m cs = (Early s low at (place_after f low high at p m) (byte_after f (is_before s) at b m) × InOrder s cs)
    ⊎ (Went s f low high at p b m × AllLater s cs)

order_step : (s : SnapId) (f : Ino) (low high at : ℕ) (p : Place) (b : ℕ) (m : ToStore) (cs : List Context) → Early s low at p b
    → purges s m ≡ false → InOrder s (cons_option (context_for f m) cs) → Leaves f low high at m ⊎ Changes f low high at m
    → Went2 s f low high at p b m cs
order_step s f low high at p b m cs e gone all (inl leaves) =
    let ids = purged_after p.object.purged m in
    let same = next_is f low high at p m ids None p.byte refl (leaves.untouched p.object.head) (leaves.stays any_context p.byte) in
    inl (
      subst (λ q. Early s low at q (byte_after f (is_before s) at b m)) (sym same)
          (subst (λ c. Early s low at (next_place p ids None p.byte) c) (sym (leaves.stays (is_before s) b))
          (early_other s low at p b ids (still_live s p.object.purged m e.live gone) e)),
      subst (λ o. InOrder s (cons_option o cs)) leaves.none all,
    )
order_step s f low high at p b m cs e gone all (inr c) = by_order (subst (λ o. InOrder s (cons_option o cs)) c.some all)
  where
    by_order : InOrder s (c.context ∷ cs) → Went2 s f low high at p b m cs
    by_order (inl h) = inl (went_before s f low high at p b m e c h.0 (fits_before s c.context h.0 h.1), h.2)
    by_order (inr here) = inr (went_after s f low high at p b m (inl e) c here.0 (fits_after s c.context here.0 here.1 here.2), here.3)

later : (s : SnapId) (f : Ino) (low high at : ℕ) → low ≤ at → at < high → (taken : List ToStore) (p : Place) (b : ℕ) → State s low at p b
    → AllLater s (contexts_for f taken) → was_purged s taken ≡ false
    → byte_served s (fold (place_after f low high at) p taken) ≡ fold (byte_after f (is_before s) at) b taken
later s f low high at h k [] p b (inl e) all gone = early_served s low at p b e
later s f low high at h k [] p b (inr l) all gone = late_served s low at p b l
later s f low high at h k (m ∷ taken) p b state all gone =
    let q = later_step s f low high at p b m (contexts_for f taken) state (or_front (purges s m) (was_purged s taken) gone) all (kind_of f low high at m h k) in
    later s f low high at h k taken (place_after f low high at p m) (byte_after f (is_before s) at b m) q.0 q.1 (or_back (purges s m) (was_purged s taken) gone)

in_order : (s : SnapId) (f : Ino) (low high at : ℕ) → low ≤ at → at < high → (taken : List ToStore) (p : Place) (b : ℕ) → Early s low at p b
    → InOrder s (contexts_for f taken) → was_purged s taken ≡ false
    → byte_served s (fold (place_after f low high at) p taken) ≡ fold (byte_after f (is_before s) at) b taken
in_order s f low high at h k [] p b e all gone = early_served s low at p b e
in_order s f low high at h k (m ∷ taken) p b e all gone = ⊎_elim
    (λ (q : Early s low at (place_after f low high at p m) (byte_after f (is_before s) at b m) × InOrder s (contexts_for f taken)).
    in_order s f low high at h k taken (place_after f low high at p m) (byte_after f (is_before s) at b m) q.0 q.1 (or_back (purges s m) (was_purged s taken) gone))
    (λ (q : Went s f low high at p b m × AllLater s (contexts_for f taken)).
    later s f low high at h k taken (place_after f low high at p m) (byte_after f (is_before s) at b m) q.0 q.1 (or_back (purges s m) (was_purged s taken) gone))
    (order_step s f low high at p b m (contexts_for f taken) e (or_front (purges s m) (was_purged s taken) gone) all (kind_of f low high at m h k))

not_is : (b : Bool) → not b ≡ true → b ≡ false
not_is true h = cc
not_is false h = refl

all_later : (s : SnapId) (cs : List Context) → list_all (λ later. not (is_before s later)) cs ≡ true → later_ones_list s cs ≡ true
    → list_all is_context cs ≡ true → AllLater s cs
all_later s [] after lists well = tt
all_later s (c ∷ cs) after lists well =
    let late : is_before s c ≡ false = not_is (is_before s c) (and_front (not (is_before s c)) (list_all (λ later. not (is_before s later)) cs) after) in
    let listed : is_listed s c.ids ≡ true = sym (ap (λ b. b || is_listed s c.ids) late) ∙ and_front (is_before s c || is_listed s c.ids) (later_ones_list s cs) lists in (
      late,
      listed,
      and_front (is_context c) (list_all is_context cs) well,
      all_later s cs (and_back (not (is_before s c)) (list_all (λ later. not (is_before s later)) cs) after)
          (and_back (is_before s c || is_listed s c.ids) (later_ones_list s cs) lists) (and_back (is_context c) (list_all is_context cs) well),
    )

all_in_order : (s : SnapId) (cs : List Context) → earlier_ones_first s cs ≡ true → later_ones_list s cs ≡ true → list_all is_context cs ≡ true → InOrder s cs
all_in_order s [] first lists well = tt
all_in_order s (c ∷ cs) first lists well = order_one s c cs first lists well (λ h. all_in_order s cs h (and_back (is_before s c || is_listed s c.ids) (later_ones_list s cs) lists)
    (and_back (is_context c) (list_all is_context cs) well)) (is_before s c) refl
  where
    order_one : (s : SnapId) (c : Context) (cs : List Context) → earlier_ones_first s (c ∷ cs) ≡ true → later_ones_list s (c ∷ cs) ≡ true → list_all is_context (c ∷ cs) ≡ true
        → (earlier_ones_first s cs ≡ true → InOrder s cs) → (t : Bool) → is_before s c ≡ t → InOrder s (c ∷ cs)
    order_one s c cs first lists well more true e =
        inl (
          e,
          and_front (is_context c) (list_all is_context cs) well,
          more (sym (if_true (is_before s c) (earlier_ones_first s cs) (list_all (λ later. not (is_before s later)) cs) e) ∙ first),
        )
    order_one s c cs first lists well more false e =
        inr (all_later s (c ∷ cs)
        (ap (λ b. not b && list_all (λ later. not (is_before s later)) cs) e
        ∙ sym (if_false (is_before s c) (earlier_ones_first s cs) (list_all (λ later. not (is_before s later)) cs) e) ∙ first) lists well)

none_before : (s : SnapId) (cs : List Context) → s.0 ≤ 0 → list_all (λ later. not (is_before s later)) cs ≡ true
none_before s [] h = refl
none_before s (c ∷ cs) h = ap (λ b. not b && list_all (λ later. not (is_before s later)) cs) (not_lt c.seq.0 s.0 (omega arith)) ∙ none_before s cs h

byte_agrees : (s : SnapId) (f : Ino) (low high at : ℕ) → low ≤ at → at < high → (taken : List ToStore) → list_all is_context (contexts_for f taken) ≡ true
    → know_snapshot s f taken ≡ true → was_purged s taken ≡ false
    → byte_served s (fold (place_after f low high at) nothing_there taken) ≡ byte_of taken f (is_before s) at
byte_agrees s f low high at h k taken well known gone = by_id (nat_lt 0 s.0) refl
  where
    lists : later_ones_list s (contexts_for f taken) ≡ true
    lists = and_front (later_ones_list s (contexts_for f taken)) (earlier_ones_first s (contexts_for f taken)) known

    first : earlier_ones_first s (contexts_for f taken) ≡ true
    first = and_back (later_ones_list s (contexts_for f taken)) (earlier_ones_first s (contexts_for f taken)) known

    by_id : (t : Bool) → nat_lt 0 s.0 ≡ t → byte_served s (fold (place_after f low high at) nothing_there taken) ≡ byte_of taken f (is_before s) at
    by_id true e = in_order s f low high at h k taken nothing_there 0
        (record { below = tt; seq = lt_is 0 s.0 e; same = refl; zero = λ z. refl; live = refl }) (all_in_order s (contexts_for f taken) first lists well) gone
    by_id false e = later s f low high at h k taken nothing_there 0
        (inr (record { serves = λ ids live. refl; seq = lt_not 0 s.0 e; zero = λ z. refl; live = refl }))
        (all_later s (contexts_for f taken) (none_before s (contexts_for f taken) (lt_not 0 s.0 e)) lists well) gone

pub served_agrees : (object : ℕ) (taken : List ToStore) (f : Ino) (n : ℕ) (s : SnapId) → 0 < object → list_all is_context (contexts_for f taken) ≡ true
    → know_snapshot s f taken ≡ true → was_purged s taken ≡ false → bytes_served object taken f n s ≡ bytes_at taken f n s
served_agrees object taken f n s z well known gone =
    so_many_same (λ at. byte_served s (place_of object taken f (at / object) at)) (byte_of taken f (is_before s)) n (λ at h.
    let within : at % object < object = omega arith in
    let whole : at / object * object + at % object ≡ at = omega arith in
    byte_agrees s f (at / object * object) (at / object * object + object) at (omega arith) (omega arith) taken well known gone)

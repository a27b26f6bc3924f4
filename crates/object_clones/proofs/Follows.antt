-- An object follows the messages: one more of each kind.
use Rattle.std.proofs.Common.{◌≡◌, ◌≢◌, ℕ, ◌<◌, ◌≤◌, max, Bool, true, false, not, ◌||◌, ◌&&◌, eqb, nat_lt, nat_le, List, [], ◌∷◌, ◌++◌, length, filter, get_or, Option, None, Some, if◌then◌else◌, sym, ◌∙◌, refl, ap, arith, append-nil}
use Rattle.std.specs.List.{list_all, filter_map}
use Rattle.std.specs.Option.{option_map}
use Rattle.snap_ids.specs.declared.id.SnapId.{SnapId}
use Rattle.snap_ids.specs.Context.{Context, is_listed, falls}
use Rattle.object_log.specs.Bytes.{any_context, is_before}
use Rattle.object_log.specs.Objects.{kept_clone, with_clone, touched, Touch}
use Rattle.object_log.specs.Objects as log
use Rattle.object_log.specs.Reads.{later_ones_list, earlier_ones_first}
use Rattle.object_clones.specs.Bytes.{or_empty}
use Rattle.object_clones.specs.Objects.{Kept, Plain, Next, news, changed, with_kept, clone_at, bytes_at_snap, purged}
use Rattle.object_clones.specs.Stands.{IsObject, Rising}
use Rattle.object_clones.proofs.Clones.{if_true, if_false, not_below}
use Rattle.object_clones.proofs.Changes.{below}
use Rattle.object_clones.proofs.Decided.{and_front, and_back, or_front, or_back, lt_is, lt_not, is_le}
use Rattle.object_clones.proofs.Found.{rising_upto, rising_push, clone_past, clone_same, not_listed, purge_reads, purge_rising}
use Rattle.object_clones.proofs.Lists.{more_pairs, filter_twice, kept_after, purged_pairs}
use Rattle.object_clones.proofs.News.{Heads, Starts, heads_news, listed_news, listed_bound, first_front, first_back, all_more, all_front, all_last}

abbrev pub know : SnapId → List Context → Bool
know s cs = later_ones_list s cs && earlier_ones_first s cs

-- the head after an edit, the old one where it isn't touched
abbrev pub head_then : Option (List ℕ) → Option (Option (List ℕ)) → Option (List ℕ)
head_then head None = head
head_then head (Some after) = after

abbrev pub next_of : (SnapId → Bool) → Context → Plain → Option (Option (List ℕ)) → Option Next
next_of gone context o after = option_map (λ (head : Option (List ℕ)). record { ids = news gone o.seq context; head = head }) after

abbrev pub touch_of : Context → Option (Option (List ℕ)) → Option Touch
touch_of context after = option_map (λ (head : Option (List ℕ)). record { context = context; head = option_map length head }) after

pub know_front : (cs : List Context) (c : Context) (s : SnapId) → know s (cs ++ c ∷ []) ≡ true → know s cs ≡ true
know_front cs c s h =
    let a : later_ones_list s cs ≡ true = all_front cs c (λ context. is_before s context || is_listed s context.ids)
    (and_front (later_ones_list s (cs ++ c ∷ [])) (earlier_ones_first s (cs ++ c ∷ [])) h) in
    let b : earlier_ones_first s cs ≡ true = first_front cs c s (and_back (later_ones_list s (cs ++ c ∷ [])) (earlier_ones_first s (cs ++ c ∷ [])) h) in
    ap (λ t. t && earlier_ones_first s cs) a ∙ b

-- clones with one more rise
pub rising_kept : (head : Option (List ℕ)) (ids : List SnapId) (cs : List Kept) (seq top : ℕ) → Rising 0 cs seq → Heads seq top ids
    → Rising 0 (with_kept head ids cs) (max seq top)
rising_kept None ids cs seq top r h = rising_upto cs 0 seq (max seq top) r (omega arith)
rising_kept (Some bytes) [] cs seq top r h = rising_upto cs 0 seq (max seq top) r (omega arith)
rising_kept (Some bytes) (s ∷ ids) cs seq top r h = rising_push cs (record { id = s; ids = s ∷ ids; bytes = bytes }) 0 seq (max seq top) r h.0 h.1 (omega (arith, h.2))

-- the new clone serves an id that is news
pub found_new : (head : Option (List ℕ)) (ids : List SnapId) (cs : List Kept) (s : SnapId) (seq top : ℕ) → Rising 0 cs seq → Heads seq top ids
    → seq < s.0 → is_listed s ids ≡ true → or_empty (clone_at s (with_kept head ids cs)) ≡ or_empty head
found_new None ids cs s seq top r h l k = ap (λ ks. or_empty (clone_at s ks)) (sym (append-nil cs)) ∙ ap or_empty (clone_past cs [] s 0 seq r l)
found_new (Some bytes) [] cs s seq top r h l k = cc
found_new (Some bytes) (x ∷ ids) cs s seq top r h l k =
    let c : Kept = record { id = x; ids = x ∷ ids; bytes = bytes } in
    ap or_empty (clone_past cs (c ∷ []) s 0 seq r l
    ∙ if_true (nat_le s.0 x.0) (if is_listed s (x ∷ ids) then Some bytes else None) None (is_le s.0 x.0 (listed_bound (x ∷ ids) seq x.0 s h.1 k))
    ∙ if_true (is_listed s (x ∷ ids)) (Some bytes) None k)

-- the new clone doesn't serve an id that is none
pub found_old : (head : Option (List ℕ)) (ids : List SnapId) (cs : List Kept) (s : SnapId) (seq top : ℕ) → Heads seq top ids → s.0 ≤ seq
    → clone_at s (with_kept head ids cs) ≡ clone_at s cs
found_old None ids cs s seq top h l = refl
found_old (Some bytes) [] cs s seq top h l = refl
found_old (Some bytes) (x ∷ ids) cs s seq top h l = clone_same cs (record { id = x; ids = x ∷ ids; bytes = bytes }) s (not_listed (x ∷ ids) seq x.0 s h.1 l)

-- what is read at an id that the context lists, after a touch by it
pub read_after : (o : Plain) (head : Option (List ℕ)) (gone : SnapId → Bool) (context : Context) (s : SnapId) → Rising 0 o.clones o.seq
    → Heads o.seq context.seq.0 (news gone o.seq context) → gone s ≡ false → is_listed s context.ids ≡ true → is_before s context ≡ false
    → or_empty (bytes_at_snap s (changed context.seq.0 (Some (record { ids = news gone o.seq context; head = head })) o)) ≡ or_empty (bytes_at_snap s o)
read_after o head gone context s r h g l late =
    ap or_empty (if_false (nat_lt (max o.seq context.seq.0) s.0) head (clone_at s (with_kept o.head (news gone o.seq context) o.clones))
    (not_below (max o.seq context.seq.0) s.0 (let e : s.0 ≤ context.seq.0 = lt_not context.seq.0 s.0 late in omega arith)))
    ∙ go (nat_lt o.seq s.0) refl
  where
    go : (b : Bool) → nat_lt o.seq s.0 ≡ b → or_empty (clone_at s (with_kept o.head (news gone o.seq context) o.clones)) ≡ or_empty (if b then o.head else clone_at s o.clones)
    go true e = found_new o.head (news gone o.seq context) o.clones s o.seq context.seq.0 r h (lt_is o.seq s.0 e)
        (listed_news context.ids s o.seq (λ q. not (gone q)) e (ap not g) l)
    go false e = ap or_empty (found_old o.head (news gone o.seq context) o.clones s o.seq context.seq.0 h (lt_not o.seq s.0 e))

-- the ids that are news to an object are those that the log says, and none of them was purged
pub news_same : (l : log.Object) (gone : SnapId → Bool) (o : Plain) (context : Context) → o.seq ≡ l.seq → ((s : SnapId) → is_listed s l.purged ≡ gone s)
    → news gone o.seq context ≡ log.news l.seq l.purged context
news_same l gone o context seq purged = ap (λ (g : SnapId → Bool). news g o.seq context) (λ i s. sym (purged s) i)
    ∙ ap (λ n. filter (λ (s : SnapId). nat_lt n s.0 && not (is_listed s l.purged)) context.ids) seq

pub news_all : (l : log.Object) (gone : SnapId → Bool) (o : Plain) (context : Context) → ((s : SnapId) → is_listed s l.purged ≡ gone s)
    → filter (λ (s : SnapId). not (is_listed s l.purged)) (news gone o.seq context) ≡ news gone o.seq context
news_all l gone o context purged = ap (λ (g : SnapId → Bool). filter (λ (s : SnapId). not (g s)) (news gone o.seq context)) (λ i s. purged s i)
    ∙ filter_twice (λ s. nat_lt o.seq s.0) (λ s. not (gone s)) context.ids

-- an object after a message that changes its file
pub edited_is : (size : ℕ) (l : log.Object) (byte more : (Context → Bool) → ℕ → ℕ) (cs : List Context) (gone : SnapId → Bool) (o : Plain)
    (context : Context) (after : Option (Option (List ℕ))) (change : ℕ → ℕ → ℕ)
    → IsObject size l byte cs gone o → falls context.ids ≡ true → Starts context.seq.0 context.ids
    → ((counts : Context → Bool) (j : ℕ) → more counts j ≡ (if counts context then change j (byte counts j) else byte counts j))
    → ((j : ℕ) → j < size → get_or (or_empty (head_then o.head after)) j 0 ≡ change j (get_or (or_empty o.head) j 0))
    → IsObject size (touched l (touch_of context after)) more (cs ++ context ∷ []) gone (changed context.seq.0 (next_of gone context o after) o)
edited_is size l byte more cs gone o context None change is f t grows edits = record {
  seq = is.seq;
  head = is.head;
  bytes = bytes;
  clones = is.clones;
  purged = is.purged;
  rising = is.rising;
  below = λ s a z. is.below s (all_front cs context (is_before s) a) z;
  all_before = all_before;
  reads = λ s g k j h. reads s g k j h (is_before s context) refl;
}
  where
    bytes : (j : ℕ) → j < size → get_or (or_empty o.head) j 0 ≡ more any_context j
    bytes j h = edits j h ∙ ap (change j) (is.bytes j h) ∙ sym (grows any_context j)

    all_before : (s : SnapId) → list_all (is_before s) (cs ++ context ∷ []) ≡ true → (j : ℕ) → more (is_before s) j ≡ more any_context j
    all_before s a j = grows (is_before s) j ∙ if_true (is_before s context) (change j (byte (is_before s) j)) (byte (is_before s) j) (all_last cs context (is_before s) a)
        ∙ ap (change j) (is.all_before s (all_front cs context (is_before s) a) j) ∙ sym (grows any_context j)

    reads : (s : SnapId) → gone s ≡ false → know s (cs ++ context ∷ []) ≡ true → (j : ℕ) → j < size
        → (b : Bool) → is_before s context ≡ b → get_or (or_empty (bytes_at_snap s o)) j 0 ≡ more (is_before s) j
    reads s g k j h true e =
        let back : list_all (is_before s) cs ≡ true = first_back cs context s e (and_back (later_ones_list s (cs ++ context ∷ [])) (earlier_ones_first s (cs ++ context ∷ [])) k) in
        let low : o.seq < s.0 = is.below s back (let z : context.seq.0 < s.0 = lt_is context.seq.0 s.0 e in omega arith) in
        ap (λ r. get_or (or_empty r) j 0) (if_true (nat_lt o.seq s.0) o.head (clone_at s o.clones) (below o.seq s.0 low))
        ∙ bytes j h ∙ sym (all_before s (all_more cs context (is_before s) back e) j)
    reads s g k j h false e = is.reads s g (know_front cs context s k) j h
        ∙ sym (grows (is_before s) j ∙ if_false (is_before s context) (change j (byte (is_before s) j)) (byte (is_before s) j) e)
edited_is size l byte more cs gone o context (Some head) change is f t grows edits = record {
  seq = ap (λ n. max n context.seq.0) is.seq;
  head = refl;
  bytes = bytes;
  clones = more_pairs o.head ids l.purged o.clones l.clones all is.clones
      ∙ ap (λ h. filter_map (kept_clone l.purged) (with_clone h ids l.clones)) is.head
      ∙ ap (λ ns. filter_map (kept_clone l.purged) (with_clone l.head ns l.clones)) same;
  purged = is.purged;
  rising = rising_kept o.head ids o.clones o.seq context.seq.0 is.rising heads;
  below = below_all;
  all_before = all_before;
  reads = λ s g k j h. reads s g k j h (is_before s context) refl;
}
  where
    ids : List SnapId
    ids = news gone o.seq context

    same : ids ≡ log.news l.seq l.purged context
    same = news_same l gone o context is.seq is.purged

    all : filter (λ (s : SnapId). not (is_listed s l.purged)) ids ≡ ids
    all = news_all l gone o context is.purged

    heads : Heads o.seq context.seq.0 ids
    heads = heads_news context.ids o.seq context.seq.0 (λ s. not (gone s)) f t

    bytes : (j : ℕ) → j < size → get_or (or_empty head) j 0 ≡ more any_context j
    bytes j h = edits j h ∙ ap (change j) (is.bytes j h) ∙ sym (grows any_context j)

    below_all : (s : SnapId) → list_all (is_before s) (cs ++ context ∷ []) ≡ true → 0 < s.0 → max o.seq context.seq.0 < s.0
    below_all s a z =
        let x : o.seq < s.0 = is.below s (all_front cs context (is_before s) a) z in
        let y : context.seq.0 < s.0 = lt_is context.seq.0 s.0 (all_last cs context (is_before s) a) in
        omega arith

    all_before : (s : SnapId) → list_all (is_before s) (cs ++ context ∷ []) ≡ true → (j : ℕ) → more (is_before s) j ≡ more any_context j
    all_before s a j = grows (is_before s) j ∙ if_true (is_before s context) (change j (byte (is_before s) j)) (byte (is_before s) j) (all_last cs context (is_before s) a)
        ∙ ap (change j) (is.all_before s (all_front cs context (is_before s) a) j) ∙ sym (grows any_context j)

    now : Plain
    now = changed context.seq.0 (Some (record { ids = ids; head = head })) o

    reads : (s : SnapId) → gone s ≡ false → know s (cs ++ context ∷ []) ≡ true → (j : ℕ) → j < size
        → (b : Bool) → is_before s context ≡ b → get_or (or_empty (bytes_at_snap s now)) j 0 ≡ more (is_before s) j
    reads s g k j h true e =
        let back : list_all (is_before s) cs ≡ true = first_back cs context s e (and_back (later_ones_list s (cs ++ context ∷ [])) (earlier_ones_first s (cs ++ context ∷ [])) k) in
        let every : list_all (is_before s) (cs ++ context ∷ []) ≡ true = all_more cs context (is_before s) back e in
        let low : max o.seq context.seq.0 < s.0 = below_all s every (let z : context.seq.0 < s.0 = lt_is context.seq.0 s.0 e in omega arith) in
        ap (λ r. get_or (or_empty r) j 0) (if_true (nat_lt (max o.seq context.seq.0) s.0) head (clone_at s (with_kept o.head ids o.clones)) (below (max o.seq context.seq.0) s.0 low))
        ∙ bytes j h ∙ sym (all_before s every j)
    reads s g k j h false e =
        let lists : is_listed s context.ids ≡ true = sym (ap (λ b. b || is_listed s context.ids) e)
        ∙ all_last cs context (λ c. is_before s c || is_listed s c.ids) (and_front (later_ones_list s (cs ++ context ∷ [])) (earlier_ones_first s (cs ++ context ∷ [])) k) in
        ap (λ bs. get_or bs j 0) (read_after o head gone context s is.rising heads g lists e)
        ∙ is.reads s g (know_front cs context s k) j h
        ∙ sym (grows (is_before s) j ∙ if_false (is_before s context) (change j (byte (is_before s) j)) (byte (is_before s) j) e)

-- an object after a purge
pub purged_is : (size : ℕ) (l : log.Object) (byte : (Context → Bool) → ℕ → ℕ) (cs : List Context) (gone later : SnapId → Bool) (o : Plain) (p : SnapId)
    → IsObject size l byte cs gone o → ((s : SnapId) → later s ≡ (eqb p.0 s.0 || gone s))
    → IsObject size (record l { purged = p ∷ l.purged }) byte cs later (purged p o)
purged_is size l byte cs gone later o p is grows = record {
  seq = is.seq;
  head = is.head;
  bytes = is.bytes;
  clones = purged_pairs o.clones p ∙ ap (filter_map (kept_clone (p ∷ []))) is.clones ∙ sym (kept_after l.clones p l.purged);
  purged = λ s. ap (λ b. eqb p.0 s.0 || b) (is.purged s) ∙ sym (grows s);
  rising = purge_rising o.clones p 0 o.seq is.rising;
  below = is.below;
  all_before = is.all_before;
  reads = reads;
}
  where
    reads : (s : SnapId) → later s ≡ false → know s cs ≡ true → (j : ℕ) → j < size → get_or (or_empty (bytes_at_snap s (purged p o))) j 0 ≡ byte (is_before s) j
    reads s g k j h =
        let both : (eqb p.0 s.0 || gone s) ≡ false = sym (grows s) ∙ g in
        let apart : s.0 ≢ p.0 = grind (arith, or_front (eqb p.0 s.0) (gone s) both) in
        ap (λ r. get_or (or_empty r) j 0) (ap (λ r. if nat_lt o.seq s.0 then o.head else r) (purge_reads o.clones s p 0 o.seq apart is.rising))
        ∙ is.reads s (or_back (eqb p.0 s.0) (gone s) both) k j h

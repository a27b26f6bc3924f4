-- A store that stands for some messages, after one more.
use Rattle.std.proofs.Common.{◌≡◌, ℕ, ◌+◌, ◌*◌, ◌<◌, Bool, true, false, not, ◌||◌, eqb, nat_lt, List, [], ◌∷◌, ◌++◌, length, map, get_or, Option, None, Some, if◌then◌else◌, sym, ◌∙◌, refl, ap, subst, arith, append-nil}
use Rattle.std.specs.List.{cons_option, filter_map}
use Rattle.std.specs.Option.{option_map}
use Rattle.std.proofs.lemmas.List.Sums.{fold_push}
use Rattle.std.proofs.lemmas.List.Folds.{list_any-append}
use Rattle.std.proofs.lemmas.List.Elements.{filter_map-append}
use Rattle.std.proofs.lemmas.List.{get_or_past}
use Rattle.snap_ids.specs.declared.id.Ino.{Ino}
use Rattle.snap_ids.specs.declared.id.SnapId.{SnapId}
use Rattle.snap_ids.specs.Context.{Context, is_context, falls, begins_above}
use Rattle.plain_types.specs.declared.message.ToStore.{ToStore}
use Rattle.plain_types.specs.declared.message.ToStore.TheVariants as message
use Rattle.object_log.specs.Bytes.{byte_after, byte_of, purges, was_purged, laid, cut_off}
use Rattle.object_log.specs.Objects.{object_after, object_of, touch, touched, purged_after, never}
use Rattle.object_log.specs.Objects as log
use Rattle.object_log.specs.Reads.{context_for, contexts_for}
use Rattle.object_log.specs.Serves.{Place, place_after, nothing_there, place_of, still_kept, still_there}
use Rattle.object_clones.specs.declared.object.Edit.{Edit}
use Rattle.object_clones.specs.declared.object.Edit.TheVariants as edit
use Rattle.object_clones.specs.Bytes.{or_empty}
use Rattle.object_clones.specs.Objects.{Plain, head_after, edited, changed, purged}
use Rattle.object_clones.specs.Purged.{has_id}
use Rattle.object_clones.specs.Store.{Shown, object_at, SameStore, EditsFile, PurgesSnapshot}
use Rattle.object_clones.specs.Stands.{IsObject, StandsFor, kept_at}
use Rattle.object_clones.proofs.Clones.{if_true, if_false}
use Rattle.object_clones.proofs.Decided.{eqb_swap, or_false, and_front, and_back, not_true}
use Rattle.object_clones.proofs.News.{Starts}
use Rattle.object_clones.proofs.Follows.{head_then, next_of, touch_of, edited_is, purged_is}
use Rattle.object_clones.proofs.Served.{place_object, place_byte, there_after, kept_edited, kept_after_purge}
use Rattle.object_clones.proofs.Edits.{bytes_written, touch_written, bytes_cut, touch_cut, bytes_deleted}

-- a message changes a file as an edit does
pub record Says (m : ToStore) (ino : Ino) (e : Edit) (context : Context) (change : ℕ → ℕ → ℕ) : Type 0 where
  pub touches : (f : Ino) (low size : ℕ) (head : Option (List ℕ)) → eqb ino.0 f.0 ≡ true
      → touch f low (low + size) (option_map length head) m ≡ touch_of context (head_after low size e head)
  pub leaves : (f : Ino) (low high : ℕ) (head : Option ℕ) → eqb ino.0 f.0 ≡ false → touch f low high head m ≡ None
  pub grows : (f : Ino) (counts : Context → Bool) (place b : ℕ) → eqb ino.0 f.0 ≡ true
      → byte_after f counts place b m ≡ (if counts context then change place b else b)
  pub stays : (f : Ino) (counts : Context → Bool) (place b : ℕ) → eqb ino.0 f.0 ≡ false → byte_after f counts place b m ≡ b
  pub knows : (f : Ino) → eqb ino.0 f.0 ≡ true → context_for f m ≡ Some context
  pub ignores : (f : Ino) → eqb ino.0 f.0 ≡ false → context_for f m ≡ None
  pub edits : (low size : ℕ) (head : Option (List ℕ)) (j : ℕ) → j < size
      → get_or (or_empty (head_then head (head_after low size e head))) j 0 ≡ change (low + j) (get_or (or_empty head) j 0)
  pub keeps : (ids : List SnapId) → purged_after ids m ≡ ids
  pub purges_none : (s : SnapId) → purges s m ≡ false

pub says_write : (ino : Ino) (offset : ℕ) (bytes : _) (context : Context)
    → Says (message.WriteAt ino offset bytes.now context) ino (edit.Write offset bytes) context (λ place b. laid place offset bytes.now b)
says_write ino offset bytes context = record {
  touches = λ f low size head e. rw e (touch_written low size offset bytes.now head context);
  leaves = λ f low high head e. rw e refl;
  grows = λ f counts place b e. rw e refl;
  stays = λ f counts place b e. rw e refl;
  knows = λ f e. rw e refl;
  ignores = λ f e. rw e refl;
  edits = λ low size head j h. bytes_written low size offset bytes.now head j h;
  keeps = λ ids. refl;
  purges_none = λ s. refl;
}

pub says_cut : (ino : Ino) (size : ℕ) (context : Context)
    → Says (message.Cut ino size context) ino (edit.Cut size) context (λ place b. cut_off place size b)
says_cut ino limit context = record {
  touches = λ f low size head e. rw e (touch_cut low limit head context);
  leaves = λ f low high head e. rw e refl;
  grows = λ f counts place b e. rw e refl;
  stays = λ f counts place b e. rw e refl;
  knows = λ f e. rw e refl;
  ignores = λ f e. rw e refl;
  edits = λ low size head j h. bytes_cut low limit head j;
  keeps = λ ids. refl;
  purges_none = λ s. refl;
}

touch_deleted : (head : Option (List ℕ)) (f : Ino) (low high : ℕ) (ino : Ino) (context : Context) → eqb ino.0 f.0 ≡ true
    → touch f low high (option_map length head) (message.Delete ino context) ≡ touch_of context (head_after low high edit.Delete head)
touch_deleted None f low high ino context e = rw e refl
touch_deleted (Some bytes) f low high ino context e = rw e refl

pub says_delete : (ino : Ino) (context : Context) → Says (message.Delete ino context) ino edit.Delete context (λ place b. 0)
says_delete ino context = record {
  touches = λ f low size head e. touch_deleted head f low (low + size) ino context e;
  leaves = λ f low high head e. rw e refl;
  grows = λ f counts place b e. rw e refl;
  stays = λ f counts place b e. rw e refl;
  knows = λ f e. rw e refl;
  ignores = λ f e. rw e refl;
  edits = λ low size head j h. bytes_deleted head j;
  keeps = λ ids. refl;
  purges_none = λ s. refl;
}

pub same_stands : (old new : Shown) (size : ℕ) (taken : List ToStore) → SameStore old new → StandsFor old size taken → StandsFor new size taken
same_stands old new size taken same stands = record {
  of_size = same.size ∙ stands.of_size;
  some = stands.some;
  purged = λ s. ap (λ ids. has_id ids s) same.purged ∙ stands.purged s;
  objects = λ f index.
      let P : Plain → Type 0 = λ o. IsObject size (object_of size taken f index) (λ counts j. byte_of taken f counts (index * size + j))
      (contexts_for f taken) (λ s. was_purged s taken) o in
      subst P (sym (same.objects f.0 index)) (stands.objects f index);
  kept = λ f index j h. ap (λ (o : Plain). map (kept_at j) o.clones) (same.objects f.0 index) ∙ stands.kept f index j h;
}

purged_more : (s : SnapId) (taken : List ToStore) (m : ToStore) → was_purged s (taken ++ m ∷ []) ≡ (was_purged s taken || (purges s m || false))
purged_more s taken m = list_any-append (purges s) taken (m ∷ [])

same_purged : (s : SnapId) (taken : List ToStore) (m : ToStore) → purges s m ≡ false → was_purged s (taken ++ m ∷ []) ≡ was_purged s taken
same_purged s taken m none = purged_more s taken m ∙ ap (λ b. was_purged s taken || (b || false)) none ∙ or_false (was_purged s taken)

starts_within : (context : Context) → is_context context ≡ true → Starts context.seq.0 context.ids
starts_within context w = go context.ids (and_back (falls context.ids) (not (begins_above context.seq context.ids)) w)
  where
    go : (ids : List SnapId) → not (begins_above context.seq ids) ≡ true → Starts context.seq.0 ids
    go [] h = tt
    go (s ∷ ids) h = not_true context.seq.0 s.0 h

-- an object of a message's file, and one of another file, after the message
edited_object : (old new : Shown) (size : ℕ) (taken : List ToStore) (ino : Ino) (e : Edit) (context : Context) → EditsFile old new ino e context
    → StandsFor old size taken → (f : Ino) (index : ℕ) → eqb ino.0 f.0 ≡ true → object_at new f.0 index
    ≡ changed context.seq.0 (next_of (λ s. was_purged s taken) context (object_at old f.0 index) (head_after (index * size) size e (object_at old f.0 index).head)) (object_at old f.0 index)
edited_object old new size taken ino e context edits stands f index t =
    let o : Plain = object_at old f.0 index in
    let has_is : (λ s. has_id old.purged s) ≡ (λ s. was_purged s taken) = λ i s. stands.purged s i in
    edits.objects f.0 index ∙ if_true (eqb f.0 ino.0) (edited (has_id old.purged) (index * old.size) old.size e context o) o (eqb_swap f.0 ino.0 ∙ t)
    ∙ ap (λ n. edited (has_id old.purged) (index * n) n e context o) stands.of_size
    ∙ ap (λ (g : SnapId → Bool). edited g (index * size) size e context o) has_is

other_object : (old new : Shown) (ino : Ino) (e : Edit) (context : Context) → EditsFile old new ino e context → (f : Ino) (index : ℕ) → eqb ino.0 f.0 ≡ false
    → object_at new f.0 index ≡ object_at old f.0 index
other_object old new ino e context edits f index t =
    let o : Plain = object_at old f.0 index in
    edits.objects f.0 index ∙ if_false (eqb f.0 ino.0) (edited (has_id old.purged) (index * old.size) old.size e context o) o (eqb_swap f.0 ino.0 ∙ t)

-- the object of a message's file
object_here : (old new : Shown) (size : ℕ) (taken : List ToStore) (m : ToStore) (ino : Ino) (e : Edit) (context : Context) (change : ℕ → ℕ → ℕ)
    → Says m ino e context change → is_context context ≡ true → EditsFile old new ino e context → StandsFor old size taken
    → (f : Ino) (index : ℕ) → eqb ino.0 f.0 ≡ true
    → IsObject size (object_of size (taken ++ m ∷ []) f index) (λ counts j. byte_of (taken ++ m ∷ []) f counts (index * size + j))
    (contexts_for f (taken ++ m ∷ [])) (λ s. was_purged s (taken ++ m ∷ [])) (object_at new f.0 index)
object_here old new size taken m ino e context change says w edits stands f index t =
    let low = index * size in
    let o : Plain = object_at old f.0 index in
    let l : log.Object = object_of size taken f index in
    let gone : SnapId → Bool = λ s. was_purged s taken in
    let byte : (Context → Bool) → ℕ → ℕ = λ counts j. byte_of taken f counts (low + j) in
    let more : (Context → Bool) → ℕ → ℕ = λ counts j. byte_of (taken ++ m ∷ []) f counts (low + j) in
    let cs : List Context = contexts_for f taken in
    let is : IsObject size l byte cs gone o = stands.objects f index in
    let after : Option (Option (List ℕ)) = head_after low size e o.head in
    let base : IsObject size (touched l (touch_of context after)) more (cs ++ context ∷ []) gone (changed context.seq.0 (next_of gone context o after) o) =
    edited_is size l byte more cs gone o context after (λ j. change (low + j)) is
    (and_front (falls context.ids) (not (begins_above context.seq context.ids)) w) (starts_within context w)
    (λ counts j. fold_push (byte_after f counts (low + j)) 0 taken m ∙ says.grows f counts (low + j) (byte counts j) t)
    (λ j h. says.edits low size o.head j h) in
    let l_is : object_of size (taken ++ m ∷ []) f index ≡ touched l (touch_of context after) =
    fold_push (object_after f low (low + size)) never taken m
    ∙ ap (λ (ids : List SnapId). touched (record l { purged = ids }) (touch f low (low + size) l.head m)) (says.keeps l.purged)
    ∙ ap (λ h. touched l (touch f low (low + size) h m)) (sym is.head)
    ∙ ap (touched l) (says.touches f low size o.head t) in
    let cs_is : contexts_for f (taken ++ m ∷ []) ≡ cs ++ context ∷ [] =
    filter_map-append (context_for f) taken (m ∷ []) ∙ ap (λ c. cs ++ cons_option c []) (says.knows f t) in
    let gone_is : (λ s. was_purged s (taken ++ m ∷ [])) ≡ gone = λ i s. same_purged s taken m (says.purges_none s) i in
    let o_is : object_at new f.0 index ≡ changed context.seq.0 (next_of gone context o after) o =
    edited_object old new size taken ino e context edits stands f index t in
    let P1 : log.Object → Type 0 = λ x. IsObject size x more (cs ++ context ∷ []) gone (changed context.seq.0 (next_of gone context o after) o) in
    let P2 : List Context → Type 0 = λ x. IsObject size (object_of size (taken ++ m ∷ []) f index) more x gone (changed context.seq.0 (next_of gone context o after) o) in
    let P3 : (SnapId → Bool) → Type 0 = λ x. IsObject size (object_of size (taken ++ m ∷ []) f index) more (contexts_for f (taken ++ m ∷ [])) x
    (changed context.seq.0 (next_of gone context o after) o) in
    let P4 : Plain → Type 0 = λ x. IsObject size (object_of size (taken ++ m ∷ []) f index) more (contexts_for f (taken ++ m ∷ [])) (λ s. was_purged s (taken ++ m ∷ [])) x in
    subst P4 (sym o_is) (subst P3 (sym gone_is) (subst P2 (sym cs_is) (subst P1 (sym l_is) base)))

-- the object of another file
object_there : (old new : Shown) (size : ℕ) (taken : List ToStore) (m : ToStore) (ino : Ino) (e : Edit) (context : Context) (change : ℕ → ℕ → ℕ)
    → Says m ino e context change → EditsFile old new ino e context → StandsFor old size taken
    → (f : Ino) (index : ℕ) → eqb ino.0 f.0 ≡ false
    → IsObject size (object_of size (taken ++ m ∷ []) f index) (λ counts j. byte_of (taken ++ m ∷ []) f counts (index * size + j))
    (contexts_for f (taken ++ m ∷ [])) (λ s. was_purged s (taken ++ m ∷ [])) (object_at new f.0 index)
object_there old new size taken m ino e context change says edits stands f index t =
    let low = index * size in
    let o : Plain = object_at old f.0 index in
    let l : log.Object = object_of size taken f index in
    let gone : SnapId → Bool = λ s. was_purged s taken in
    let byte : (Context → Bool) → ℕ → ℕ = λ counts j. byte_of taken f counts (low + j) in
    let more : (Context → Bool) → ℕ → ℕ = λ counts j. byte_of (taken ++ m ∷ []) f counts (low + j) in
    let cs : List Context = contexts_for f taken in
    let is : IsObject size l byte cs gone o = stands.objects f index in
    let l_is : object_of size (taken ++ m ∷ []) f index ≡ l =
    fold_push (object_after f low (low + size)) never taken m
    ∙ ap (λ (ids : List SnapId). touched (record l { purged = ids }) (touch f low (low + size) l.head m)) (says.keeps l.purged)
    ∙ ap (touched l) (says.leaves f low (low + size) l.head t) in
    let byte_is : more ≡ byte = λ i counts j. (fold_push (byte_after f counts (low + j)) 0 taken m ∙ says.stays f counts (low + j) (byte counts j) t) i in
    let cs_is : contexts_for f (taken ++ m ∷ []) ≡ cs =
    filter_map-append (context_for f) taken (m ∷ []) ∙ ap (λ c. cs ++ cons_option c []) (says.ignores f t) ∙ append-nil cs in
    let gone_is : (λ s. was_purged s (taken ++ m ∷ [])) ≡ gone = λ i s. same_purged s taken m (says.purges_none s) i in
    let o_is : object_at new f.0 index ≡ o = other_object old new ino e context edits f index t in
    let P0 : ((Context → Bool) → ℕ → ℕ) → Type 0 = λ x. IsObject size l x cs gone o in
    let P1 : log.Object → Type 0 = λ x. IsObject size x more cs gone o in
    let P2 : List Context → Type 0 = λ x. IsObject size (object_of size (taken ++ m ∷ []) f index) more x gone o in
    let P3 : (SnapId → Bool) → Type 0 = λ x. IsObject size (object_of size (taken ++ m ∷ []) f index) more (contexts_for f (taken ++ m ∷ [])) x o in
    let P4 : Plain → Type 0 = λ x. IsObject size (object_of size (taken ++ m ∷ []) f index) more (contexts_for f (taken ++ m ∷ [])) (λ s. was_purged s (taken ++ m ∷ [])) x in
    subst P4 (sym o_is) (subst P3 (sym gone_is) (subst P2 (sym cs_is) (subst P1 (sym l_is) (subst P0 (sym byte_is) is))))

-- what the clones of a message's file keep at a place
kept_here : (old new : Shown) (size : ℕ) (taken : List ToStore) (m : ToStore) (ino : Ino) (e : Edit) (context : Context) (change : ℕ → ℕ → ℕ)
    → Says m ino e context change → EditsFile old new ino e context → StandsFor old size taken
    → (f : Ino) (index j : ℕ) → j < size → eqb ino.0 f.0 ≡ true
    → map (kept_at j) (object_at new f.0 index).clones ≡ still_there (place_of size (taken ++ m ∷ []) f index (index * size + j))
kept_here old new size taken m ino e context change says edits stands f index j h t =
    let low = index * size in
    let o : Plain = object_at old f.0 index in
    let l : log.Object = object_of size taken f index in
    let p : Place = place_of size taken f index (low + j) in
    let gone : SnapId → Bool = λ s. was_purged s taken in
    let byte : (Context → Bool) → ℕ → ℕ = λ counts i. byte_of taken f counts (low + i) in
    let is : IsObject size l byte (contexts_for f taken) gone o = stands.objects f index in
    let after : Option (Option (List ℕ)) = head_after low size e o.head in
    let l_is : p.object ≡ l = place_object f low (low + size) (low + j) nothing_there taken in
    let touches : touch f low (low + size) l.head m ≡ touch_of context after =
    ap (λ x. touch f low (low + size) x m) (sym is.head) ∙ says.touches f low size o.head t in
    ap (λ (x : Plain). map (kept_at j) x.clones) (edited_object old new size taken ino e context edits stands f index t)
    ∙ kept_edited size l byte (contexts_for f taken) gone o context after j p.byte p.kept is h
    (sym (place_byte f low (low + size) (low + j) nothing_there taken))
    (stands.kept f index j h ∙ ap (λ (x : log.Object). filter_map (still_kept x.purged) p.kept) l_is)
    ∙ sym (there_after f low (low + size) (low + j) p m l (touch_of context after) l.purged l_is touches (says.keeps l.purged))
    ∙ sym (ap still_there (fold_push (place_after f low (low + size) (low + j)) nothing_there taken m))

-- what the clones of another file keep there
kept_there : (old new : Shown) (size : ℕ) (taken : List ToStore) (m : ToStore) (ino : Ino) (e : Edit) (context : Context) (change : ℕ → ℕ → ℕ)
    → Says m ino e context change → EditsFile old new ino e context → StandsFor old size taken
    → (f : Ino) (index j : ℕ) → j < size → eqb ino.0 f.0 ≡ false
    → map (kept_at j) (object_at new f.0 index).clones ≡ still_there (place_of size (taken ++ m ∷ []) f index (index * size + j))
kept_there old new size taken m ino e context change says edits stands f index j h t =
    let low = index * size in
    let p : Place = place_of size taken f index (low + j) in
    ap (λ (x : Plain). map (kept_at j) x.clones) (other_object old new ino e context edits f index t)
    ∙ stands.kept f index j h ∙ ap (filter_map (still_kept p.object.purged)) (sym (append-nil p.kept))
    ∙ sym (there_after f low (low + size) (low + j) p m p.object None p.object.purged refl (says.leaves f low (low + size) p.object.head t) (says.keeps p.object.purged))
    ∙ sym (ap still_there (fold_push (place_after f low (low + size) (low + j)) nothing_there taken m))

-- a store after an edit stands for one more message
pub edited_stands : (old new : Shown) (size : ℕ) (taken : List ToStore) (m : ToStore) (ino : Ino) (e : Edit) (context : Context) (change : ℕ → ℕ → ℕ)
    → Says m ino e context change → is_context context ≡ true → EditsFile old new ino e context → StandsFor old size taken
    → StandsFor new size (taken ++ m ∷ [])
edited_stands old new size taken m ino e context change says w edits stands = record {
  of_size = edits.size ∙ stands.of_size;
  some = stands.some;
  purged = λ s. ap (λ ids. has_id ids s) edits.purged ∙ stands.purged s ∙ sym (same_purged s taken m (says.purges_none s));
  objects = λ f index. go f index (eqb ino.0 f.0) refl;
  kept = λ f index j h. keeps f index j h (eqb ino.0 f.0) refl;
}
  where
    keeps : (f : Ino) (index j : ℕ) → j < size → (b : Bool) → eqb ino.0 f.0 ≡ b
        → map (kept_at j) (object_at new f.0 index).clones ≡ still_there (place_of size (taken ++ m ∷ []) f index (index * size + j))
    keeps f index j h true t = kept_here old new size taken m ino e context change says edits stands f index j h t
    keeps f index j h false t = kept_there old new size taken m ino e context change says edits stands f index j h t

    go : (f : Ino) (index : ℕ) → (b : Bool) → eqb ino.0 f.0 ≡ b
        → IsObject size (object_of size (taken ++ m ∷ []) f index) (λ counts j. byte_of (taken ++ m ∷ []) f counts (index * size + j))
        (contexts_for f (taken ++ m ∷ [])) (λ s. was_purged s (taken ++ m ∷ [])) (object_at new f.0 index)
    go f index true t = object_here old new size taken m ino e context change says w edits stands f index t
    go f index false t = object_there old new size taken m ino e context change says edits stands f index t

or_swap : (a b : Bool) → (a || (b || false)) ≡ (b || a)
or_swap true true = refl
or_swap true false = refl
or_swap false true = refl
or_swap false false = refl

-- a store after a purge stands for one more message
pub purged_stands : (old new : Shown) (size : ℕ) (taken : List ToStore) (p : SnapId) → PurgesSnapshot old new p → StandsFor old size taken
    → StandsFor new size (taken ++ message.Purge p ∷ [])
purged_stands old new size taken p purges_it stands = record {
  of_size = purges_it.size ∙ stands.of_size;
  some = stands.some;
  purged = λ s. purges_it.gone s ∙ ap (λ b. b || has_id old.purged s) (eqb_swap s.0 p.0) ∙ ap (λ b. eqb p.0 s.0 || b) (stands.purged s) ∙ sym (grown s);
  objects = objects;
  kept = kept;
}
  where
    kept : (f : Ino) (index j : ℕ) → j < size
        → map (kept_at j) (object_at new f.0 index).clones ≡ still_there (place_of size (taken ++ message.Purge p ∷ []) f index (index * size + j))
    kept f index j h =
        let low = index * size in
        let q : Place = place_of size taken f index (low + j) in
        ap (λ (x : Plain). map (kept_at j) x.clones) (purges_it.objects f.0 index)
        ∙ kept_after_purge (object_at old f.0 index).clones p q.object.purged j q.byte q.kept (stands.kept f index j h)
        ∙ sym (there_after f low (low + size) (low + j) q (message.Purge p) q.object None (p ∷ q.object.purged) refl refl refl)
        ∙ sym (ap still_there (fold_push (place_after f low (low + size) (low + j)) nothing_there taken (message.Purge p)))

    grown : (s : SnapId) → was_purged s (taken ++ message.Purge p ∷ []) ≡ (eqb p.0 s.0 || was_purged s taken)
    grown s = purged_more s taken (message.Purge p) ∙ or_swap (was_purged s taken) (eqb p.0 s.0)

    objects : (f : Ino) (index : ℕ) → IsObject size (object_of size (taken ++ message.Purge p ∷ []) f index) (λ counts j. byte_of (taken ++ message.Purge p ∷ []) f counts (index * size + j))
        (contexts_for f (taken ++ message.Purge p ∷ [])) (λ s. was_purged s (taken ++ message.Purge p ∷ [])) (object_at new f.0 index)
    objects f index =
        let m : ToStore = message.Purge p in
        let low = index * size in
        let o : Plain = object_at old f.0 index in
        let l : log.Object = object_of size taken f index in
        let later : SnapId → Bool = λ s. was_purged s (taken ++ m ∷ []) in
        let byte : (Context → Bool) → ℕ → ℕ = λ counts j. byte_of taken f counts (low + j) in
        let more : (Context → Bool) → ℕ → ℕ = λ counts j. byte_of (taken ++ m ∷ []) f counts (low + j) in
        let cs : List Context = contexts_for f taken in
        let base : IsObject size (record l { purged = p ∷ l.purged }) byte cs later (purged p o) =
        purged_is size l byte cs (λ s. was_purged s taken) later o p (stands.objects f index) grown in
        let l_is : object_of size (taken ++ m ∷ []) f index ≡ record l { purged = p ∷ l.purged } = fold_push (object_after f low (low + size)) never taken m in
        let byte_is : more ≡ byte = λ i counts j. fold_push (byte_after f counts (low + j)) 0 taken m i in
        let cs_is : contexts_for f (taken ++ m ∷ []) ≡ cs = filter_map-append (context_for f) taken (m ∷ []) ∙ append-nil cs in
        let P0 : ((Context → Bool) → ℕ → ℕ) → Type 0 = λ x. IsObject size (record l { purged = p ∷ l.purged }) x cs later (purged p o) in
        let P1 : log.Object → Type 0 = λ x. IsObject size x more cs later (purged p o) in
        let P2 : List Context → Type 0 = λ x. IsObject size (object_of size (taken ++ m ∷ []) f index) more x later (purged p o) in
        let P3 : Plain → Type 0 = λ x. IsObject size (object_of size (taken ++ m ∷ []) f index) more (contexts_for f (taken ++ m ∷ [])) later x in
        subst P3 (sym (purges_it.objects f.0 index)) (subst P2 (sym cs_is) (subst P1 (sym l_is) (subst P0 (sym byte_is) base)))

-- a store that shows nothing stands for no message
pub new_stands : (size : ℕ) → 0 < size → StandsFor (record { size = size; files = []; purged = [] }) size []
new_stands size z = record {
  of_size = refl;
  some = z;
  purged = λ s. refl;
  objects = λ f index. record {
    seq = refl;
    head = refl;
    bytes = λ j h. get_or_past [] j 0 (omega arith);
    clones = refl;
    purged = λ s. refl;
    rising = omega arith;
    below = λ s a z. z;
    all_before = λ s a j. refl;
    reads = λ s g k j h. elim (nat_lt 0 s.0) as (λ b. get_or (or_empty (if b then None else None)) j 0 ≡ 0) [ true ↦ get_or_past [] j 0 (omega arith) | false ↦ get_or_past [] j 0 (omega arith) ];
  };
  kept = λ f index j h. refl;
}

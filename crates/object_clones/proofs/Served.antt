-- What a store serves at a snapshot: the clones and the bytes that they keep, message by message.
use Rattle.std.proofs.Common.{◌≡◌, ℕ, ◌<◌, Bool, true, false, nat_lt, nat_le, List, [], ◌∷◌, ◌++◌, length, map, cond, get_or, Option, None, Some, if◌then◌else◌, sym, ◌∙◌, refl, ap, arith, append-nil}
use Rattle.std.specs.Prelude.{fold}
use Rattle.std.specs.List.{filter_map, cons_option}
use Rattle.std.specs.Option.{option_map}
use Rattle.std.proofs.lemmas.List.{get_or_past, map-append}
use Rattle.std.proofs.lemmas.List.Elements.{filter_map-append}
use Rattle.snap_ids.specs.declared.id.Ino.{Ino}
use Rattle.snap_ids.specs.declared.id.SnapId.{SnapId}
use Rattle.snap_ids.specs.Context.{Context, is_listed}
use Rattle.plain_types.specs.declared.message.ToStore.{ToStore}
use Rattle.object_log.specs.Bytes.{byte_after, any_context}
use Rattle.object_log.specs.Objects.{Object, Touch, touch, touched, with_clone, object_after, object_of, purged_after}
use Rattle.object_log.specs.Objects as log
use Rattle.object_log.specs.Serves.{CloneByte, Place, made_by, keep_byte, place_after, still_kept, still_there, byte_kept, byte_served}
use Rattle.object_clones.specs.Bytes.{or_empty}
use Rattle.object_clones.specs.Objects.{Kept, Plain, clone_at, bytes_at_snap, with_kept, changed, purged_clones}
use Rattle.object_clones.specs.Stands.{IsObject, kept_at}
use Rattle.object_clones.proofs.Follows.{next_of, touch_of, news_same, news_all}
use Rattle.object_clones.proofs.Lists.{left, left_twice, with_ids}

-- a place's object is the object, and its byte is the file's
pub place_object : (f : Ino) (low high at : ℕ) (p : Place) (taken : List ToStore)
    → (fold (place_after f low high at) p taken).object ≡ fold (object_after f low high) p.object taken
place_object f low high at p [] = refl
place_object f low high at p (m ∷ taken) = place_object f low high at (place_after f low high at p m) taken

pub place_byte : (f : Ino) (low high at : ℕ) (p : Place) (taken : List ToStore)
    → (fold (place_after f low high at) p taken).byte ≡ fold (byte_after f any_context at) p.byte taken
place_byte f low high at p [] = refl
place_byte f low high at p (m ∷ taken) = place_byte f low high at (place_after f low high at p m) taken

abbrev pub keeping : ℕ → SnapId × List SnapId → CloneByte
keeping b clone = record { clone = clone; byte = b }

-- one more clone for the ids that are news
kept_more : (head : Option (List ℕ)) (ids purged : List SnapId) (cs : List Kept) (made : List CloneByte) (j b : ℕ)
    → left purged ids ≡ ids → get_or (or_empty head) j 0 ≡ b → map (kept_at j) cs ≡ filter_map (still_kept purged) made
    → map (kept_at j) (with_kept head ids cs) ≡ filter_map (still_kept purged) (made ++ keep_byte b (with_clone (option_map length head) ids []))
kept_more None ids purged cs made j b all byte same = same ∙ ap (filter_map (still_kept purged)) (sym (append-nil made))
kept_more (Some bytes) [] purged cs made j b all byte same = same ∙ ap (filter_map (still_kept purged)) (sym (append-nil made))
kept_more (Some bytes) (s ∷ ids) purged cs made j b all byte same =
    map-append (kept_at j) cs (record { id = s; ids = s ∷ ids; bytes = bytes } ∷ [])
    ∙ ap (λ xs. xs ++ keeping (get_or bytes j 0) (s, s ∷ ids) ∷ []) same
    ∙ ap (λ n. filter_map (still_kept purged) made ++ keeping n (s, s ∷ ids) ∷ []) byte
    ∙ ap (λ xs. filter_map (still_kept purged) made ++ cons_option (option_map (keeping b) (with_ids s xs)) []) (sym all)
    ∙ sym (filter_map-append (still_kept purged) made (keeping b (s, s ∷ ids) ∷ []))

-- an id more is purged
again : (id p : SnapId) (b : ℕ) (rest more : List CloneByte) → more ≡ filter_map (still_kept (p ∷ [])) rest → (ids : List SnapId)
    → cons_option (option_map (keeping b) (with_ids id (left (p ∷ []) ids))) more
    ≡ filter_map (still_kept (p ∷ [])) (cons_option (option_map (keeping b) (with_ids id ids)) rest)
again id p b rest more same [] = same
again id p b rest more same (s ∷ ids) = ap (cons_option (option_map (keeping b) (with_ids id (left (p ∷ []) (s ∷ ids))))) same

still_twice : (xs : List CloneByte) (p : SnapId) (ps : List SnapId)
    → filter_map (still_kept (p ∷ ps)) xs ≡ filter_map (still_kept (p ∷ [])) (filter_map (still_kept ps) xs)
still_twice [] p ps = refl
still_twice (x ∷ xs) p ps =
    ap (λ ids. cons_option (option_map (keeping x.byte) (with_ids x.clone.0 ids)) (filter_map (still_kept (p ∷ ps)) xs)) (left_twice x.clone.1 p ps)
    ∙ again x.clone.0 p x.byte (filter_map (still_kept ps) xs) (filter_map (still_kept (p ∷ ps)) xs) (still_twice xs p ps) (left ps x.clone.1)

purge_one : (c : Kept) (j : ℕ) (rest : List Kept) (ids : List SnapId)
    → map (kept_at j) (cond (nat_lt 0 (length ids)) (record c { ids = ids } ∷ rest) rest)
    ≡ cons_option (option_map (keeping (get_or c.bytes j 0)) (with_ids c.id ids)) (map (kept_at j) rest)
purge_one c j rest [] = refl
purge_one c j rest (s ∷ ids) = let e : nat_lt 0 (length (s ∷ ids)) ≡ true = grind arith in
    ap (λ b. map (kept_at j) (cond b (record c { ids = s ∷ ids } ∷ rest) rest)) e

kept_purged : (cs : List Kept) (p : SnapId) (j : ℕ) → map (kept_at j) (purged_clones p cs) ≡ filter_map (still_kept (p ∷ [])) (map (kept_at j) cs)
kept_purged [] p j = refl
kept_purged (c ∷ cs) p j = purge_one c j (purged_clones p cs) (left (p ∷ []) c.ids)
    ∙ ap (cons_option (option_map (keeping (get_or c.bytes j 0)) (with_ids c.id (left (p ∷ []) c.ids)))) (kept_purged cs p j)

purged_touched : (o : Object) (t : Option Touch) → (touched o t).purged ≡ o.purged
purged_touched o None = refl
purged_touched o (Some t) = refl

-- the clones of a place after a message that touches its object so
pub there_after : (f : Ino) (low high at : ℕ) (p : Place) (m : ToStore) (l : Object) (t : Option Touch) (ids : List SnapId)
    → p.object ≡ l → touch f low high l.head m ≡ t → purged_after l.purged m ≡ ids
    → still_there (place_after f low high at p m) ≡ filter_map (still_kept ids) (p.kept ++ keep_byte p.byte (made_by l t))
there_after f low high at p m l t ids is touches purges =
    ap (λ xs. filter_map (still_kept xs) (p.kept ++ keep_byte p.byte (made_by p.object (touch f low high p.object.head m))))
    (purged_touched (record p.object { purged = purged_after p.object.purged m }) (touch f low high p.object.head m))
    ∙ ap (λ (x : Object). filter_map (still_kept (purged_after x.purged m)) (p.kept ++ keep_byte p.byte (made_by x (touch f low high x.head m)))) is
    ∙ ap (λ xs. filter_map (still_kept xs) (p.kept ++ keep_byte p.byte (made_by l (touch f low high l.head m)))) purges
    ∙ ap (λ x. filter_map (still_kept ids) (p.kept ++ keep_byte p.byte (made_by l x))) touches

-- the clones of an object after an edit
pub kept_edited : (size : ℕ) (l : log.Object) (byte : (Context → Bool) → ℕ → ℕ) (cs : List Context) (gone : SnapId → Bool) (o : Plain)
    (context : Context) (after : Option (Option (List ℕ))) (j b : ℕ) (made : List CloneByte)
    → IsObject size l byte cs gone o → j < size → byte any_context j ≡ b → map (kept_at j) o.clones ≡ filter_map (still_kept l.purged) made
    → map (kept_at j) (changed context.seq.0 (next_of gone context o after) o).clones
    ≡ filter_map (still_kept l.purged) (made ++ keep_byte b (made_by l (touch_of context after)))
kept_edited size l byte cs gone o context None j b made is h e same = same ∙ ap (filter_map (still_kept l.purged)) (sym (append-nil made))
kept_edited size l byte cs gone o context (Some head) j b made is h e same =
    let ids : List SnapId = log.news l.seq l.purged context in
    let news = news_same l gone o context is.seq is.purged in
    let all : left l.purged ids ≡ ids = ap (left l.purged) (sym news) ∙ news_all l gone o context is.purged ∙ news in
    ap (λ xs. map (kept_at j) (with_kept o.head xs o.clones)) news
    ∙ kept_more o.head ids l.purged o.clones made j b all (is.bytes j h ∙ e) same
    ∙ ap (λ x. filter_map (still_kept l.purged) (made ++ keep_byte b (with_clone x ids []))) is.head

-- the clones of an object after a purge
pub kept_after_purge : (cs : List Kept) (p : SnapId) (ids : List SnapId) (j b : ℕ) (made : List CloneByte)
    → map (kept_at j) cs ≡ filter_map (still_kept ids) made
    → map (kept_at j) (purged_clones p cs) ≡ filter_map (still_kept (p ∷ ids)) (made ++ keep_byte b [])
kept_after_purge cs p ids j b made same = kept_purged cs p j ∙ ap (filter_map (still_kept (p ∷ []))) same ∙ sym (still_twice made p ids)
    ∙ ap (filter_map (still_kept (p ∷ ids))) (sym (append-nil made))

-- the byte of a clone that is found
clone_kept : (cs : List Kept) (s : SnapId) (j : ℕ) → get_or (or_empty (clone_at s cs)) j 0 ≡ byte_kept s (map (kept_at j) cs)
clone_kept [] s j = get_or_past [] j 0 (omega arith)
clone_kept (c ∷ cs) s j = elim (nat_le s.0 c.id.0) as (λ b.
    get_or (or_empty (if b then (if is_listed s c.ids then Some c.bytes else None) else clone_at s cs)) j 0
    ≡ (if b then (if is_listed s c.ids then get_or c.bytes j 0 else 0) else byte_kept s (map (kept_at j) cs))) [
      | true ↦ elim (is_listed s c.ids) as (λ l. get_or (or_empty (if l then Some c.bytes else None)) j 0 ≡ (if l then get_or c.bytes j 0 else 0))
          [ true ↦ refl | false ↦ get_or_past [] j 0 (omega arith) ]
      | false ↦ clone_kept cs s j
    ]

-- the byte that an object gives at a snapshot is the one that is served
pub snap_served : (o : Plain) (s : SnapId) (p : Place) (j : ℕ) → o.seq ≡ p.object.seq → get_or (or_empty o.head) j 0 ≡ p.byte
    → map (kept_at j) o.clones ≡ still_there p → get_or (or_empty (bytes_at_snap s o)) j 0 ≡ byte_served s p
snap_served o s p j seq byte kept =
    (elim (nat_lt o.seq s.0) as (λ b. get_or (or_empty (if b then o.head else clone_at s o.clones)) j 0 ≡ (if b then p.byte else byte_kept s (still_there p)))
    [ true ↦ byte | false ↦ clone_kept o.clones s j ∙ ap (byte_kept s) kept ])
    ∙ ap (λ n. if nat_lt n s.0 then p.byte else byte_kept s (still_there p)) seq

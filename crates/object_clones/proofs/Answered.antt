-- What a store that stands for some messages answers.
use Rattle.std.proofs.Common.{◌≡◌, ℕ, ◌+◌, ◌*◌, ◌/◌, ◌%◌, ◌<◌, true, false, List, None, Some, sym, ◌∙◌, ap, arith}
use Rattle.snap_ids.specs.declared.id.Ino.{Ino}
use Rattle.snap_ids.specs.declared.id.SnapId.{SnapId}
use Rattle.plain_types.specs.declared.message.ToStore.{ToStore}
use Rattle.object_log.specs.Bytes.{byte_of, any_context, is_before, was_purged, bytes_head, bytes_at}
use Rattle.object_log.specs.Objects.{clones_of}
use Rattle.object_log.specs.Objects as log
use Rattle.object_log.specs.Reads.{know_snapshot}
use Rattle.object_log.specs.Serves.{nothing_there, place_of, byte_served, bytes_served}
use Rattle.object_clones.specs.Bytes.{or_empty}
use Rattle.object_clones.specs.Objects.{bytes_shown, list_of}
use Rattle.object_clones.specs.Files.{byte_at, bytes_read}
use Rattle.object_clones.specs.Store.{Shown, object_at}
use Rattle.object_clones.specs.Stands.{StandsFor}
use Rattle.object_log.proofs.Many.{so_many_same}
use Rattle.object_clones.proofs.Served.{place_object, place_byte, snap_served}

pub head_read : (shown : Shown) (size : ℕ) (taken : List ToStore) (f : Ino) (n : ℕ) → StandsFor shown size taken
    → bytes_read shown.size (object_at shown f.0) n None ≡ bytes_head taken f n
head_read shown size taken f n st = ap (λ z. bytes_read z (object_at shown f.0) n None) st.of_size
    ∙ so_many_same (byte_at size (λ k. or_empty (bytes_shown None (object_at shown f.0 k)))) (byte_of taken f any_context) n (λ p h.
    let z : 0 < size = st.some in
    let within : p % size < size = omega arith in
    let whole : p / size * size + p % size ≡ p = omega arith in
    (st.objects f (p / size)).bytes (p % size) within ∙ ap (byte_of taken f any_context) whole)

pub snapshot_read : (shown : Shown) (size : ℕ) (taken : List ToStore) (f : Ino) (n : ℕ) (s : SnapId) → StandsFor shown size taken
    → was_purged s taken ≡ false → know_snapshot s f taken ≡ true
    → bytes_read shown.size (object_at shown f.0) n (Some s) ≡ bytes_at taken f n s
snapshot_read shown size taken f n s st kept known = ap (λ z. bytes_read z (object_at shown f.0) n (Some s)) st.of_size
    ∙ so_many_same (byte_at size (λ k. or_empty (bytes_shown (Some s) (object_at shown f.0 k)))) (byte_of taken f (is_before s)) n (λ p h.
    let z : 0 < size = st.some in
    let within : p % size < size = omega arith in
    let whole : p / size * size + p % size ≡ p = omega arith in
    (st.objects f (p / size)).reads s kept known (p % size) within ∙ ap (byte_of taken f (is_before s)) whole)

pub served_read : (shown : Shown) (size : ℕ) (taken : List ToStore) (f : Ino) (n : ℕ) (s : SnapId) → StandsFor shown size taken
    → bytes_read shown.size (object_at shown f.0) n (Some s) ≡ bytes_served size taken f n s
served_read shown size taken f n s st = ap (λ z. bytes_read z (object_at shown f.0) n (Some s)) st.of_size
    ∙ so_many_same (byte_at size (λ k. or_empty (bytes_shown (Some s) (object_at shown f.0 k)))) (λ at. byte_served s (place_of size taken f (at / size) at)) n (λ p h.
    let z : 0 < size = st.some in
    let within : p % size < size = omega arith in
    let whole : p / size * size + p % size ≡ p = omega arith in
    let low = p / size * size in
    let at = low + p % size in
    snap_served (object_at shown f.0 (p / size)) s (place_of size taken f (p / size) at) (p % size)
    ((st.objects f (p / size)).seq ∙ sym (ap (λ (o : log.Object). o.seq) (place_object f low (low + size) at nothing_there taken)))
    ((st.objects f (p / size)).bytes (p % size) within ∙ sym (place_byte f low (low + size) at nothing_there taken))
    (st.kept f (p / size) (p % size) within)
    ∙ ap (λ q. byte_served s (place_of size taken f (p / size) q)) whole)

pub list_read : (shown : Shown) (size : ℕ) (taken : List ToStore) (f : Ino) (index : ℕ) → StandsFor shown size taken
    → list_of (object_at shown f.0 index) ≡ clones_of size taken f index
list_read shown size taken f index st = λ i. record { clones = (st.objects f index).clones i; head = (st.objects f index).head i }

-- The moves of a link.
use Rattle.std.proofs.Common.{◌≡◌, ◌<◌, ◌≤◌, ℕ, ◌+◌, List, [], ◌∷◌, ◌++◌, Bool, true, false, true≢false, Option, None, Some, refl, sym, ◌∙◌, subst, arith, ◌⊎◌, inl, inr, ⊎_elim}
use Rattle.std.proofs.lemmas.Bool.Decides.{nat_tests}
use Rattle.std.specs.Prelude.{◌==◌}
use Rattle.plain_types.specs.declared.message.Claim.{Claim}
use Rattle.plain_types.specs.declared.message.FlushMsg.{FlushMsg}
use Rattle.plain_types.specs.declared.message.ToClient.{ToClient}
use Rattle.plain_types.specs.declared.message.ToClient.TheVariants.{Reply, Grant, Recall, Notice, FlushAck, Welcome, Restarted}
use Rattle.plain_types.specs.declared.message.ToServer.{ToServer}
use Rattle.plain_types.specs.declared.message.ToServer.TheVariants.{Connect, Ask, Flush, DropRead}
use Rattle.plain_types.specs.declared.request.Request.{Request}
use Rattle.step_table.specs.ClientTakes.{conn_of}
use Rattle.run_laws.specs.Links.{Mark, Free, Number, Hail, mark, IsNow, AllNow, IsOld, AllOld, HailedAt, Hailed, OrderedAt, Ordered, AtMost, Same, Below, highest, Flowing, Asking, Hailing, Link, Offer, Up, Behind}

-- lists of marks
pub now_old : (conn : ℕ) (down : List ToClient) → AllNow conn down → AllOld (conn + 1) down
now_old conn [] all = tt
now_old conn (m ∷ down) all = (one (mark m) all.0, now_old conn down all.1)
  where
    one : (k : Mark) → IsNow conn k → IsOld (conn + 1) k
    one Free is = tt
    one (Number n) is = omega (arith, is)
    one (Hail n) is = absurd is

pub old_old : (conn : ℕ) (down : List ToClient) → AllOld conn down → AllOld (conn + 1) down
old_old conn [] all = tt
old_old conn (m ∷ down) all = (one (mark m) all.0, old_old conn down all.1)
  where
    one : (k : Mark) → IsOld conn k → IsOld (conn + 1) k
    one Free is = tt
    one (Number n) is = omega (arith, is)
    one (Hail n) is = omega (arith, is)

pub hailed_old : (conn : ℕ) (down : List ToClient) → Hailed conn down → AllOld (conn + 1) down
hailed_old conn [] hailed = absurd hailed
hailed_old conn (m ∷ down) hailed = one (mark m) (hailed_old conn down) hailed
  where
    one : (k : Mark) → (Hailed conn down → AllOld (conn + 1) down) → HailedAt conn k (Hailed conn down) (AllNow conn down) → IsOld (conn + 1) k × AllOld (conn + 1) down
    one Free go is = (tt, go is)
    one (Number n) go is = (omega (arith, is.0), go is.1)
    one (Hail n) go (inl is) = (omega (arith, is.0), go is.1)
    one (Hail n) go (inr is) = (omega (arith, is.0), now_old conn down is.1)

pub now_append : (conn : ℕ) (down more : List ToClient) → AllNow conn down → AllNow conn more → AllNow conn (down ++ more)
now_append conn [] more all then = then
now_append conn (m ∷ down) more all then = (all.0, now_append conn down more all.1 then)

pub old_append : (conn : ℕ) (down more : List ToClient) → AllOld conn down → AllOld conn more → AllOld conn (down ++ more)
old_append conn [] more all then = then
old_append conn (m ∷ down) more all then = (all.0, old_append conn down more all.1 then)

pub hailed_append : (conn : ℕ) (down more : List ToClient) → Hailed conn down → AllNow conn more → Hailed conn (down ++ more)
hailed_append conn [] more hailed then = absurd hailed
hailed_append conn (m ∷ down) more hailed then = one (mark m) (λ rest. hailed_append conn down more rest then) hailed
  where
    one : (k : Mark) → (Hailed conn down → Hailed conn (down ++ more)) → HailedAt conn k (Hailed conn down) (AllNow conn down) → HailedAt conn k (Hailed conn (down ++ more)) (AllNow conn (down ++ more))
    one Free go is = go is
    one (Number n) go is = (is.0, go is.1)
    one (Hail n) go (inl is) = inl (is.0, go is.1)
    one (Hail n) go (inr is) = inr (is.0, now_append conn down more is.1 then)

pub old_hailed : (conn : ℕ) (down more : List ToClient) → AllOld conn down → Hailed conn more → Hailed conn (down ++ more)
old_hailed conn [] more all hailed = hailed
old_hailed conn (m ∷ down) more all hailed = one (mark m) all.0 (old_hailed conn down more all.1 hailed)
  where
    one : (k : Mark) → IsOld conn k → Hailed conn (down ++ more) → HailedAt conn k (Hailed conn (down ++ more)) (AllNow conn (down ++ more))
    one Free is rest = rest
    one (Number n) is rest = (is, rest)
    one (Hail n) is rest = inl (is, rest)

pub now_front : (conn : ℕ) (down more : List ToClient) → AllNow conn (down ++ more) → AllNow conn down
now_front conn [] more all = tt
now_front conn (m ∷ down) more all = (all.0, now_front conn down more all.1)

pub old_front : (conn : ℕ) (down more : List ToClient) → AllOld conn (down ++ more) → AllOld conn down
old_front conn [] more all = tt
old_front conn (m ∷ down) more all = (all.0, old_front conn down more all.1)

pub hailed_front : (conn : ℕ) (down more : List ToClient) → Hailed conn (down ++ more) → AllOld conn down ⊎ Hailed conn down
hailed_front conn [] more hailed = inl tt
hailed_front conn (m ∷ down) more hailed = one (mark m) (hailed_front conn down more) hailed
  where
    one : (k : Mark) → (Hailed conn (down ++ more) → AllOld conn down ⊎ Hailed conn down) → HailedAt conn k (Hailed conn (down ++ more)) (AllNow conn (down ++ more)) → (IsOld conn k × AllOld conn down) ⊎ HailedAt conn k (Hailed conn down) (AllNow conn down)
    one Free go is = ⊎_elim (λ old. inl (tt, old)) (λ rest. inr rest) (go is)
    one (Number n) go is = ⊎_elim (λ old. inl (is.0, old)) (λ rest. inr (is.0, rest)) (go is.1)
    one (Hail n) go (inl is) = ⊎_elim (λ old. inl (is.0, old)) (λ rest. inr (inl (is.0, rest))) (go is.1)
    one (Hail n) go (inr is) = inr (inr (is.0, now_front conn down more is.1))

-- the way up
pub behind_most : (o : Offer) (k : ℕ) (up : List ToServer) → Behind o k up → k ≤ o.conn
behind_most o k [] is = omega (arith, is)
behind_most o k (Connect conn said flushes asked ∷ up) is = let more = behind_most o (k + 1) up is.1 in omega (arith, more)
behind_most o k (m ∷ up) is = absurd is

-- messages of one number, no Connect
abbrev pub SaysAt : ℕ → ToServer → Type 0 → Type 0
SaysAt conn (Ask number tid request) Rest = (number ≡ conn) × Rest
SaysAt conn (Flush number f) Rest = (number ≡ conn) × Rest
SaysAt conn (DropRead number ino) Rest = (number ≡ conn) × Rest
SaysAt conn message Rest = ⊥

abbrev pub Says : ℕ → List ToServer → Type 0
Says conn [] = Unit {0}
Says conn (m ∷ up) = SaysAt conn m (Says conn up)

clash : {A : Type 0} {b : Bool} → b ≡ true → b ≡ false → A
clash is isnt = absurd (true≢false (sym is ∙ isnt))

says_all : (o : Offer) (k : ℕ) (up : List ToServer) → k ≡ o.conn → Says k up → Up o k up
says_all o k [] is says = is
says_all o k (Ask conn tid request ∷ up) is says = (says.0, says_all o k up is says.1)
says_all o k (Flush conn f ∷ up) is says = (says.0, says_all o k up is says.1)
says_all o k (DropRead conn ino ∷ up) is says = (says.0, says_all o k up is says.1)
says_all o k (m ∷ up) is says = absurd says

-- the next Connect
abbrev pub again : Offer → Offer
again o = record o { conn = o.conn + 1; frozen = true }

abbrev pub connect_of : Offer → ToServer
connect_of o = Connect o.conn o.claims o.flushes o.asked

behind_connect : (o : Offer) (k : ℕ) (up : List ToServer) → Behind o k up → Behind (again o) k (up ++ connect_of (again o) ∷ [])
behind_connect o k [] is = (record { number = omega (arith, is); claims = refl; flushes = refl; asked = refl }, omega (arith, is))
behind_connect o k (Connect conn said flushes asked ∷ up) is = (record { number = is.0.number; claims = is.0.claims; flushes = is.0.flushes; asked = is.0.asked }, behind_connect o (k + 1) up is.1)
behind_connect o k (m ∷ up) is = absurd is

up_connect : (o : Offer) (k : ℕ) (up : List ToServer) → Up o k up → Up (again o) k (up ++ connect_of (again o) ∷ [])
up_connect o k [] is = (refl, record { number = omega (arith, is); claims = refl; flushes = refl; asked = refl }, omega (arith, is))
up_connect o k (Connect conn said flushes asked ∷ up) is = (refl, record { number = is.1.number; claims = is.1.claims; flushes = is.1.flushes; asked = is.1.asked }, behind_connect o (k + 1) up is.2)
up_connect o k (Ask conn tid request ∷ up) is = (is.0, up_connect o k up is.1)
up_connect o k (Flush conn f ∷ up) is = (is.0, up_connect o k up is.1)
up_connect o k (DropRead conn ino ∷ up) is = (is.0, up_connect o k up is.1)
up_connect o k (m ∷ up) is = absurd is

behind_up : (o : Offer) (k : ℕ) (up : List ToServer) → o.frozen ≡ true → Behind o k up → Up o k up
behind_up o k [] frozen is = is
behind_up o k (Connect conn said flushes asked ∷ up) frozen is = (frozen, is.0, is.1)
behind_up o k (m ∷ up) frozen is = absurd is

pub up_most : (o : Offer) (k : ℕ) (up : List ToServer) → Up o k up → k ≤ o.conn
up_most o k [] is = omega (arith, is)
up_most o k (Connect conn said flushes asked ∷ up) is = let more = behind_most o (k + 1) up is.2 in omega (arith, more)
up_most o k (Ask conn tid request ∷ up) is = up_most o k up is.1
up_most o k (Flush conn f ∷ up) is = up_most o k up is.1
up_most o k (DropRead conn ino ∷ up) is = up_most o k up is.1
up_most o k (m ∷ up) is = absurd is

-- at the client's own number no Connect is on its way
pub up_reached : (o : Offer) (k : ℕ) (up : List ToServer) → k ≡ o.conn → Up o k up → Says k up
up_reached o k [] reached is = tt
up_reached o k (Connect conn said flushes asked ∷ up) reached is = let more = behind_most o (k + 1) up is.2 in absurd (omega (arith, more, reached))
up_reached o k (Ask conn tid request ∷ up) reached is = (is.0, up_reached o k up reached is.1)
up_reached o k (Flush conn f ∷ up) reached is = (is.0, up_reached o k up reached is.1)
up_reached o k (DropRead conn ino ∷ up) reached is = (is.0, up_reached o k up reached is.1)
up_reached o k (m ∷ up) reached is = absurd is

says_append : (k : ℕ) (up more : List ToServer) → Says k up → Says k more → Says k (up ++ more)
says_append k [] more says then = then
says_append k (Ask conn tid request ∷ up) more says then = (says.0, says_append k up more says.1 then)
says_append k (Flush conn f ∷ up) more says then = (says.0, says_append k up more says.1 then)
says_append k (DropRead conn ino ∷ up) more says then = (says.0, says_append k up more says.1 then)
says_append k (m ∷ up) more says then = absurd says

-- numbers in order
ordered_lower : (low next high : ℕ) (p : List ToClient) → low ≤ next → Ordered next high p → Ordered low high p
ordered_lower low next high [] less order = omega (arith, less, order)
ordered_lower low next high (m ∷ p) less order = one (conn_of m) (ordered_lower low next high p less) order
  where
    one : (o : Option ℕ) → (Ordered next high p → Ordered low high p) → OrderedAt next o (λ n. Ordered n high p) → OrderedAt low o (λ n. Ordered n high p)
    one None go order = go order
    one (Some n) go order = (let more = order.0 in omega (arith, less, more), order.1)

ordered_raise : (low high more : ℕ) (p : List ToClient) → high ≤ more → Ordered low high p → Ordered low more p
ordered_raise low high more [] less order = omega (arith, less, order)
ordered_raise low high more (m ∷ p) less order = one (conn_of m) (λ n order. ordered_raise n high more p less order) order
  where
    one : (o : Option ℕ) → ((n : ℕ) → Ordered n high p → Ordered n more p) → OrderedAt low o (λ n. Ordered n high p) → OrderedAt low o (λ n. Ordered n more p)
    one None go order = go low order
    one (Some n) go order = (order.0, go n order.1)

ordered_tail : (high : ℕ) (m : ToClient) (p : List ToClient) → Ordered 0 high (m ∷ p) → Ordered 0 high p
ordered_tail high m p order = one (conn_of m) order
  where
    one : (o : Option ℕ) → OrderedAt 0 o (λ n. Ordered n high p) → Ordered 0 high p
    one None order = order
    one (Some n) order = ordered_lower 0 n high p (omega arith) order.1

pub ordered_low : (low high : ℕ) (p : List ToClient) → Ordered low high p → low ≤ high
ordered_low low high [] order = order
ordered_low low high (m ∷ p) order = one (conn_of m) (λ n order. ordered_low n high p order) order
  where
    one : (o : Option ℕ) → ((n : ℕ) → Ordered n high p → n ≤ high) → OrderedAt low o (λ n. Ordered n high p) → low ≤ high
    one None go order = go low order
    one (Some n) go order = let less = order.0 in let more = go n order.1 in omega (arith, less, more)

ordered_front : (low high : ℕ) (p lost : List ToClient) → Ordered low high (p ++ lost) → Ordered low high p
ordered_front low high [] lost order = ordered_low low high lost order
ordered_front low high (m ∷ p) lost order = one (conn_of m) (λ n order. ordered_front n high p lost order) order
  where
    one : (o : Option ℕ) → ((n : ℕ) → Ordered n high (p ++ lost) → Ordered n high p) → OrderedAt low o (λ n. Ordered n high (p ++ lost)) → OrderedAt low o (λ n. Ordered n high p)
    one None go order = go low order
    one (Some n) go order = (order.0, go n order.1)

-- one more with the highest number, or none
abbrev pub IsHigh : ℕ → Option ℕ → Type 0
IsHigh high None = Unit {0}
IsHigh high (Some n) = n ≡ high

ordered_end : (low high : ℕ) (p : List ToClient) (m : ToClient) → IsHigh high (conn_of m) → Ordered low high p → Ordered low high (p ++ m ∷ [])
ordered_end low high [] m is order = one (conn_of m) is
  where
    one : (o : Option ℕ) → IsHigh high o → OrderedAt low o (λ n. n ≤ high)
    one None is = order
    one (Some n) is = (rw is order, rw is (omega arith))
ordered_end low high (x ∷ p) m is order = one (conn_of x) (λ n order. ordered_end n high p m is order) order
  where
    one : (o : Option ℕ) → ((n : ℕ) → Ordered n high p → Ordered n high (p ++ m ∷ [])) → OrderedAt low o (λ n. Ordered n high p) → OrderedAt low o (λ n. Ordered n high (p ++ m ∷ []))
    one None go order = go low order
    one (Some n) go order = (order.0, go n order.1)

pub highest_most : (base : ℕ) (k : Option ℕ) → AtMost base k → highest base k ≤ base
highest_most base None known = omega arith
highest_most base (Some k) known = known

-- The moves of the client. Its number rises and it says all again.
pub link_old : (o : Offer) (up : List ToServer) (k : Option ℕ) (p : List ToClient) → Link o up k p → AllOld (o.conn + 1) p
link_old o up k p link = ⊎_elim (λ (f : Flowing o link.base k p). now_old o.conn p f.down) (⊎_elim (λ (a : Asking o k p). old_old o.conn p a.down) (λ (h : Hailing o link.base k p). hailed_old o.conn p h.down)) link.down

below_most : (n m : ℕ) (k : Option ℕ) → n ≤ m → AtMost n k → Below (m + 1) k
below_most n m None less known = tt
below_most n m (Some j) less known = omega (arith, less, known)

pub connects_link : (o : Offer) (up : List ToServer) (k : Option ℕ) (p : List ToClient) → Link o up k p → Link (again o) (up ++ connect_of (again o) ∷ []) k p
connects_link o up k p link = record {
  base = link.base;
  known = link.known;
  up = up_connect o link.base up link.up;
  order = link.order;
  down = inr (inl (record { frozen = refl; number = below_most link.base o.conn k (up_most o link.base up link.up) link.known; down = link_old o up k p link }));
}

-- it takes a message and says all again
pub renewed_link : (o : Offer) (up : List ToServer) (k : Option ℕ) (m : ToClient) (p : List ToClient) → Link o up k (m ∷ p) → Link (again o) (up ++ connect_of (again o) ∷ []) k p
renewed_link o up k m p link = record {
  base = link.base;
  known = link.known;
  up = up_connect o link.base up link.up;
  order = ordered_tail (highest link.base k) m p link.order;
  down = inr (inl (record { frozen = refl; number = below_most link.base o.conn k (up_most o link.base up link.up) link.known; down = (link_old o up k (m ∷ p) link).1 }));
}

-- what it says while it isn't frozen, or while the link flows
pub flowing : (o : Offer) (up : List ToServer) (k : Option ℕ) (p : List ToClient) → o.frozen ≡ false → (link : Link o up k p) → Flowing o link.base k p
flowing o up k p free link = ⊎_elim (λ (f : Flowing o link.base k p). f) (⊎_elim (λ (a : Asking o k p). clash a.frozen free) (λ (h : Hailing o link.base k p). clash h.frozen free)) link.down

pub says_link : (o v : Offer) (up more : List ToServer) (k : Option ℕ) (p : List ToClient) (link : Link o up k p) → Flowing o link.base k p → v.conn ≡ o.conn → Says o.conn more → Link v (up ++ more) k p
says_link o v up more k p link f same says = record {
  base = link.base;
  known = link.known;
  up = says_all v link.base (up ++ more) (f.base ∙ sym same) (says_append link.base up more (up_reached o link.base up f.base link.up) (subst (λ (n : ℕ). Says n more) (sym f.base) says));
  order = link.order;
  down = inl (record { base = f.base ∙ sym same; number = subst (λ (n : ℕ). Same n k) (sym same) f.number; down = subst (λ (n : ℕ). AllNow n p) (sym same) f.down });
}

-- it takes what isn't the Welcome of now
abbrev pub Skips : ℕ → Mark → Type 0
Skips conn (Hail n) = n ≡ conn → ⊥
Skips conn k = Unit {0}

pub skip_link : (o : Offer) (up : List ToServer) (k : Option ℕ) (m : ToClient) (p : List ToClient) → Skips o.conn (mark m) → Link o up k (m ∷ p) → Link o up k p
skip_link o up k m p skips link = record { base = link.base; known = link.known; up = link.up; order = ordered_tail (highest link.base k) m p link.order; down = ⊎_elim flows (⊎_elim asks hails) link.down }
  where
    flows : Flowing o link.base k (m ∷ p) → Flowing o link.base k p ⊎ (Asking o k p ⊎ Hailing o link.base k p)
    flows f = inl (record { base = f.base; number = f.number; down = f.down.1 })

    asks : Asking o k (m ∷ p) → Flowing o link.base k p ⊎ (Asking o k p ⊎ Hailing o link.base k p)
    asks a = inr (inl (record { frozen = a.frozen; number = a.number; down = a.down.1 }))

    rest : (q : Mark) → Skips o.conn q → HailedAt o.conn q (Hailed o.conn p) (AllNow o.conn p) → Hailed o.conn p
    rest Free skip is = is
    rest (Number n) skip is = is.1
    rest (Hail n) skip (inl is) = is.1
    rest (Hail n) skip (inr is) = absurd (skip is.0)

    hails : Hailing o link.base k (m ∷ p) → Flowing o link.base k p ⊎ (Asking o k p ⊎ Hailing o link.base k p)
    hails h = inr (inr (record { frozen = h.frozen; base = h.base; number = h.number; down = rest (mark m) skips h.down }))

-- it takes the Welcome, or drops it
pub welcome_flows : (o : Offer) (up : List ToServer) (k : Option ℕ) (m : ToClient) (p : List ToClient) → mark m ≡ Hail o.conn → (link : Link o up k (m ∷ p)) → Flowing o link.base k p
welcome_flows o up k m p is link = ⊎_elim flows (⊎_elim asks hails) link.down
  where
    flows : Flowing o link.base k (m ∷ p) → Flowing o link.base k p
    flows f = absurd (subst (IsNow o.conn) is f.down.0)

    asks : Asking o k (m ∷ p) → Flowing o link.base k p
    asks a = let low : o.conn < o.conn = subst (IsOld o.conn) is a.down.0 in absurd (omega (arith, low))

    now : HailedAt o.conn (Hail o.conn) (Hailed o.conn p) (AllNow o.conn p) → AllNow o.conn p
    now (inl low) = let less = low.0 in absurd (omega (arith, less))
    now (inr then) = then.1

    hails : Hailing o link.base k (m ∷ p) → Flowing o link.base k p
    hails h = record { base = h.base; number = h.number; down = now (subst (λ (q : Mark). HailedAt o.conn q (Hailed o.conn p) (AllNow o.conn p)) is h.down) }

pub welcome_link : (o v : Offer) (up : List ToServer) (k : Option ℕ) (m : ToClient) (p : List ToClient) → mark m ≡ Hail o.conn → v.conn ≡ o.conn → Link o up k (m ∷ p) → Link v up k p
welcome_link o v up k m p is same link =
    let f = welcome_flows o up k m p is link in
    record {
      base = link.base;
      known = link.known;
      up = says_all v link.base up (f.base ∙ sym same) (up_reached o link.base up f.base link.up);
      order = ordered_tail (highest link.base k) m p link.order;
      down = inl (record { base = f.base ∙ sym same; number = subst (λ (n : ℕ). Same n k) (sym same) f.number; down = subst (λ (n : ℕ). AllNow n p) (sym same) f.down });
    }

-- where a message has the present number the link flows
pub now_flows : (o : Offer) (up : List ToServer) (k : Option ℕ) (m : ToClient) (p : List ToClient) → mark m ≡ Number o.conn → (link : Link o up k (m ∷ p)) → Flowing o link.base k (m ∷ p)
now_flows o up k m p is link = ⊎_elim (λ (f : Flowing o link.base k (m ∷ p)). f) (⊎_elim asks hails) link.down
  where
    asks : Asking o k (m ∷ p) → Flowing o link.base k (m ∷ p)
    asks a = let low : o.conn < o.conn = subst (IsOld o.conn) is a.down.0 in absurd (omega (arith, low))

    hails : Hailing o link.base k (m ∷ p) → Flowing o link.base k (m ∷ p)
    hails h =
        let low : (o.conn < o.conn) × Hailed o.conn p = subst (λ (q : Mark). HailedAt o.conn q (Hailed o.conn p) (AllNow o.conn p)) is h.down in
        let less = low.0 in absurd (omega (arith, less))

-- it takes such a message, and says something
pub heard_link : (o v : Offer) (up more : List ToServer) (k : Option ℕ) (m : ToClient) (p : List ToClient) → mark m ≡ Number o.conn → v.conn ≡ o.conn → Says o.conn more → Link o up k (m ∷ p) → Link v (up ++ more) k p
unfolding skip_link
heard_link o v up more k m p is same says link =
    let f = now_flows o up k m p is link in
    says_link o v up more k p (skip_link o up k m p (subst (Skips o.conn) (sym is) tt) link) (record { base = f.base; number = f.number; down = f.down.1 }) same says

-- The moves of the server. It sends: a number of its own, or none.
abbrev pub Fresh : Option ℕ → Mark → Type 0
Fresh k Free = Unit {0}
Fresh k (Number n) = k ≡ Some n
Fresh k (Hail n) = ⊥

fresh_now : (conn : ℕ) (k : Option ℕ) (q : Mark) → Fresh k q → Same conn k → IsNow conn q
fresh_now conn k Free fresh same = tt
fresh_now conn k (Number n) fresh same = subst (Same conn) fresh same
fresh_now conn k (Hail n) fresh same = absurd fresh

fresh_old : (conn : ℕ) (k : Option ℕ) (q : Mark) → Fresh k q → Below conn k → IsOld conn q
fresh_old conn k Free fresh below = tt
fresh_old conn k (Number n) fresh below = subst (Below conn) fresh below
fresh_old conn k (Hail n) fresh below = absurd fresh

fresh_high : (base n : ℕ) (k : Option ℕ) → k ≡ Some n → n ≡ highest base k
fresh_high base n k is = rw is refl

high : (base : ℕ) (k : Option ℕ) (m : ToClient) → Fresh k (mark m) → IsHigh (highest base k) (conn_of m)
high base k (Reply conn tid stamp answer) fresh = fresh_high base conn k fresh
high base k (Grant conn tid stamp ino mode size file) fresh = fresh_high base conn k fresh
high base k (Recall conn stamp ino) fresh = fresh_high base conn k fresh
high base k (Notice conn stamp update) fresh = fresh_high base conn k fresh
high base k (FlushAck conn stamp number) fresh = fresh_high base conn k fresh
high base k (Welcome conn stamp flushed update) fresh = absurd fresh
high base k (Restarted stamp) fresh = tt

pub send_link : (o : Offer) (up : List ToServer) (k : Option ℕ) (p : List ToClient) (m : ToClient) → Fresh k (mark m) → Link o up k p → Link o up k (p ++ m ∷ [])
send_link o up k p m fresh link = record { base = link.base; known = link.known; up = link.up; order = ordered_end 0 (highest link.base k) p m (high link.base k m fresh) link.order; down = ⊎_elim flows (⊎_elim asks hails) link.down }
  where
    flows : Flowing o link.base k p → Flowing o link.base k (p ++ m ∷ []) ⊎ (Asking o k (p ++ m ∷ []) ⊎ Hailing o link.base k (p ++ m ∷ []))
    flows f = inl (record { base = f.base; number = f.number; down = now_append o.conn p (m ∷ []) f.down (fresh_now o.conn k (mark m) fresh f.number, tt) })

    asks : Asking o k p → Flowing o link.base k (p ++ m ∷ []) ⊎ (Asking o k (p ++ m ∷ []) ⊎ Hailing o link.base k (p ++ m ∷ []))
    asks a = inr (inl (record { frozen = a.frozen; number = a.number; down = old_append o.conn p (m ∷ []) a.down (fresh_old o.conn k (mark m) fresh a.number, tt) }))

    hails : Hailing o link.base k p → Flowing o link.base k (p ++ m ∷ []) ⊎ (Asking o k (p ++ m ∷ []) ⊎ Hailing o link.base k (p ++ m ∷ []))
    hails h = inr (inr (record { frozen = h.frozen; base = h.base; number = h.number; down = hailed_append o.conn p (m ∷ []) h.down (fresh_now o.conn k (mark m) fresh h.number, tt) }))

-- the numbers on the way are in order, and none is above the client's own
pub numbers_order : (o : Offer) (up : List ToServer) (k : Option ℕ) (down mail : List ToClient) → Link o up k (down ++ mail) → Ordered 0 o.conn down
numbers_order o up k down mail link = ordered_raise 0 (highest link.base k) o.conn down (let less = highest_most link.base k link.known in let most = up_most o link.base up link.up in omega (arith, less, most)) (ordered_front 0 (highest link.base k) down mail link.order)

-- with a Connect on the way the client asks
pub asking : (o : Offer) (up : List ToServer) (k : Option ℕ) (p : List ToClient) (link : Link o up k p) → link.base < o.conn → Asking o k p
asking o up k p link less = ⊎_elim (λ (f : Flowing o link.base k p). let is = f.base in absurd (omega (arith, less, is))) (⊎_elim (λ (a : Asking o k p). a) (λ (h : Hailing o link.base k p). let is = h.base in absurd (omega (arith, less, is)))) link.down

-- it takes a Connect
pub accept_link : (o : Offer) (conn : ℕ) (said : List Claim) (flushes : List FlushMsg) (asked : Option (ℕ × Request)) (up : List ToServer) (k : Option ℕ) (p : List ToClient) (m : ToClient) → mark m ≡ Hail conn → conn_of m ≡ Some conn → Link o (Connect conn said flushes asked ∷ up) k p → Link o up (Some conn) (p ++ m ∷ [])
accept_link o conn said flushes asked up k p m is at link = record {
  base = link.base + 1;
  known = omega (arith, number);
  up = behind_up o (link.base + 1) up link.up.0 link.up.2;
  order = ordered_end 0 conn p m (rw at refl) (ordered_raise 0 (highest link.base k) conn p (let less = highest_most link.base k link.known in omega (arith, number, less)) link.order);
  down = by_test (link.base + 1 == o.conn) refl;
}
  where
    number : conn ≡ link.base + 1
    number = link.up.1.number

    most : link.base + 1 ≤ o.conn
    most = behind_most o (link.base + 1) up link.up.2

    a : Asking o k p
    a = asking o (Connect conn said flushes asked ∷ up) k p link (omega (arith, most))

    by_test : (b : Bool) → (link.base + 1 == o.conn) ≡ b → Flowing o (link.base + 1) (Some conn) (p ++ m ∷ []) ⊎ (Asking o (Some conn) (p ++ m ∷ []) ⊎ Hailing o (link.base + 1) (Some conn) (p ++ m ∷ []))
    by_test true test = let last : link.base + 1 ≡ o.conn = grind (arith, nat_tests, test) in inr (inr (record { frozen = link.up.0; base = last; number = number ∙ last; down = old_hailed o.conn p (m ∷ []) a.down (rw is (inr (number ∙ last, tt))) }))
    by_test false test =
        let less : conn < o.conn = grind (arith, nat_tests, test, number, most) in
        inr (inl (record { frozen = link.up.0; number = less; down = old_append o.conn p (m ∷ []) a.down (rw is less, tt) }))

-- it takes something else, or refuses a Connect
behind_base : (o : Offer) (conn : ℕ) (said : List Claim) (flushes : List FlushMsg) (asked : Option (ℕ × Request)) (up : List ToServer) (k : Option ℕ) (p : List ToClient) → Link o (Connect conn said flushes asked ∷ up) k p → Link o up k p
behind_base o conn said flushes asked up k p link = record {
  base = link.base + 1;
  known = more k link.known;
  up = behind_up o (link.base + 1) up link.up.0 link.up.2;
  order = ordered_raise 0 (highest link.base k) (highest (link.base + 1) k) p (higher k) link.order;
  down = inr (inl (asking o (Connect conn said flushes asked ∷ up) k p link (omega (arith, most))));
}
  where
    most : link.base + 1 ≤ o.conn
    most = behind_most o (link.base + 1) up link.up.2

    more : (j : Option ℕ) → AtMost link.base j → AtMost (link.base + 1) j
    more None known = tt
    more (Some j) known = omega (arith, known)

    higher : (j : Option ℕ) → highest link.base j ≤ highest (link.base + 1) j
    higher None = omega arith
    higher (Some j) = omega arith

pub pop_link : (o : Offer) (m : ToServer) (up : List ToServer) (k : Option ℕ) (p : List ToClient) → Link o (m ∷ up) k p → Link o up k p
pop_link o (Connect conn said flushes asked) up k p link = behind_base o conn said flushes asked up k p link
pop_link o (Ask conn tid request) up k p link = record { base = link.base; known = link.known; up = link.up.1; order = link.order; down = link.down }
pop_link o (Flush conn f) up k p link = record { base = link.base; known = link.known; up = link.up.1; order = link.order; down = link.down }
pop_link o (DropRead conn ino) up k p link = record { base = link.base; known = link.known; up = link.up.1; order = link.order; down = link.down }
pop_link o m up k p link = absurd link.up

-- it restarts: its mail is lost, and its numbers
pub restart_link : (o : Offer) (up : List ToServer) (k : Option ℕ) (p lost : List ToClient) → Link o up k (p ++ lost) → Link o up None p
restart_link o up k p lost link = record {
  base = link.base;
  known = tt;
  up = link.up;
  order = ordered_raise 0 (highest link.base k) link.base p (highest_most link.base k link.known) (ordered_front 0 (highest link.base k) p lost link.order);
  down = ⊎_elim flows (⊎_elim asks hails) link.down;
}
  where
    flows : Flowing o link.base k (p ++ lost) → Flowing o link.base None p ⊎ (Asking o None p ⊎ Hailing o link.base None p)
    flows f = inl (record { base = f.base; number = tt; down = now_front o.conn p lost f.down })

    asks : Asking o k (p ++ lost) → Flowing o link.base None p ⊎ (Asking o None p ⊎ Hailing o link.base None p)
    asks a = inr (inl (record { frozen = a.frozen; number = tt; down = old_front o.conn p lost a.down }))

    hails : Hailing o link.base k (p ++ lost) → Flowing o link.base None p ⊎ (Asking o None p ⊎ Hailing o link.base None p)
    hails h = ⊎_elim (λ old. inr (inl (record { frozen = h.frozen; number = tt; down = old }))) (λ rest. inr (inr (record { frozen = h.frozen; base = h.base; number = tt; down = rest }))) (hailed_front o.conn p lost h.down)

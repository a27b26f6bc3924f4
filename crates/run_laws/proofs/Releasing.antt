-- Where a file is held, or given, its releases are entered: the client's rows keep it.
use Rattle.std.proofs.Common.{◌≡◌, ◌≤◌, ℕ, ◌+◌, List, [], ◌∷◌, ◌++◌, map, take, Bool, true, false, true≢false, not, cond, filter, Option, None, Some, refl, sym, ◌∙◌, subst, arith, ◌⊎◌, inl, inr}
use Rattle.std.proofs.lemmas.Bool.Decides.{nat_tests}
use Rattle.std.specs.Prelude.{◌==◌, ◌&&◌, ◌||◌}
use Rattle.std.specs.List.{list_any, cons_option}
use Rattle.snap_ids.specs.declared.id.Ino.{Ino}
use Rattle.plain_types.specs.declared.entry.Entry.{Entry}
use Rattle.plain_types.specs.declared.history.Sent.{Sent}
use Rattle.plain_types.specs.declared.message.FlushMsg.{FlushMsg}
use Rattle.plain_types.specs.declared.message.Message.{Message}
use Rattle.plain_types.specs.declared.message.Message.TheVariants as message
use Rattle.plain_types.specs.declared.message.ToClient.{ToClient}
use Rattle.plain_types.specs.declared.message.ToServer.{ToServer}
use Rattle.plain_types.specs.declared.message.ToServer.TheVariants.{Ask, Flush}
use Rattle.plain_journal.specs.Table.{last_flush}
use Rattle.held_files.specs.Files.{HeldFiles, is_ino, without}
use Rattle.step_table.specs.Row.{Row}
use Rattle.step_table.specs.ClientState.{Client, Under, Idle, Open, AtStore, open_request}
use Rattle.step_table.specs.ClientLines.{with_let_go}
use Rattle.step_table.specs.World.{to_clients, told_to, to_server as for_server}
use Rattle.run_laws.specs.Links.{mine, mail_of}
use Rattle.run_laws.specs.Requests.{answers}
use Rattle.run_laws.specs.Stamps.{told_by}
use Rattle.run_laws.specs.Tenures.{Distinct, AllReleased, gone_in, is_release}
use Rattle.run_laws.specs.LetGo.{GrantAt, AllGrants}
use Rattle.run_laws.proofs.Holds.{Stays, Sends, Takes}
use Rattle.run_laws.proofs.Lending.{AllPlain, Quiet, Ends, AsksNow, Returns, LetsGo, drop_list}
use Rattle.run_laws.proofs.Parting.{no_release, none_give, gives_gone, let_nothing, less_without, none_without, LetSaid}
use Rattle.run_laws.proofs.Shares.{has, gives, AllGive, or_none}
use Rattle.run_laws.proofs.Sharing.{Frees, GivesAfter, DownAfter, ToldAfter, MailAfter, LettingAt}

-- releases
pub released_more : (ino : Ino) (few many : ℕ) (kept : List FlushMsg) → few ≤ many → AllReleased ino few kept → AllReleased ino many kept
released_more ino few many [] less all = tt
released_more ino few many (f ∷ kept) less all = (λ is. let one = all.0 is in omega (arith, one, less), released_more ino few many kept less all.1)

pub released_filter : (ino : Ino) (last : ℕ) (p : FlushMsg → Bool) (kept : List FlushMsg) → AllReleased ino last kept → AllReleased ino last (filter p kept)
released_filter ino last p [] all = tt
released_filter ino last p (f ∷ kept) all = by_test (p f) (released_filter ino last p kept all.1)
  where
    by_test : (b : Bool) → AllReleased ino last (filter p kept) → AllReleased ino last (cond b (f ∷ filter p kept) (filter p kept))
    by_test true rest = (all.0, rest)
    by_test false rest = rest

released_end : (ino : Ino) (last : ℕ) (kept : List FlushMsg) (f : FlushMsg) → (f.release && is_ino ino f.ino) ≡ false → AllReleased ino last kept → AllReleased ino last (kept ++ f ∷ [])
released_end ino last [] f none all = (λ is. absurd (true≢false (sym is ∙ none)), tt)
released_end ino last (g ∷ kept) f none all = (all.0, released_end ino last kept f none all.1)

-- a statement of each message
abbrev pub Each : (ToClient → Type 0) → List ToClient → Type 0
Each Q [] = Unit {0}
Each Q (m ∷ p) = Q m × Each Q p

pub each_front : (Q : ToClient → Type 0) (p q : List ToClient) → Each Q (p ++ q) → Each Q p
each_front Q [] q all = tt
each_front Q (m ∷ p) q all = (all.0, each_front Q p q all.1)

pub each_back : (Q : ToClient → Type 0) (p q : List ToClient) → Each Q (p ++ q) → Each Q q
each_back Q [] q all = all
each_back Q (m ∷ p) q all = each_back Q p q all.1

pub each_grants : (conn : ℕ) (under : Under) (p : List ToClient) → AllGrants conn under p → Each (GrantAt conn under) p
each_grants conn under [] all = tt
each_grants conn under (m ∷ p) all = (all.0, each_grants conn under p all.1)

-- it gives nothing
abbrev pub GivesNone : ℕ → List Ino → ToClient → Type 0
GivesNone conn gone m = (ino : Ino) → gives conn gone ino m ≡ 0

pub each_zero : (conn : ℕ) (gone : List Ino) (p : List ToClient) → ((ino : Ino) → AllGive conn gone ino 0 p) → Each (GivesNone conn gone) p
each_zero conn gone [] all = tt
each_zero conn gone (m ∷ p) all = (λ ino. (let few = (all ino).0 in omega (arith, few)), each_zero conn gone p (λ ino. (all ino).1))

-- a greater number
pub after_more : (conn : ℕ) (gone : List Ino) (kept : List FlushMsg) (few many : ℕ) → few ≤ many → (p : List ToClient) → DownAfter conn gone kept few p → DownAfter conn gone kept many p
after_more conn gone kept few many less [] all = tt
after_more conn gone kept few many less (m ∷ p) all = (λ ino. either ino (all.0 ino), after_more conn gone kept few many less p all.1)
  where
    either : (ino : Ino) → (gives conn gone ino m ≡ 0) ⊎ AllReleased ino few kept → (gives conn gone ino m ≡ 0) ⊎ AllReleased ino many kept
    either ino (inl z) = inl z
    either ino (inr all) = inr (released_more ino few many kept less all)

-- messages and mail, where each is taken over
abbrev pub Over : (ToClient → Type 0) → ℕ → List Ino → List FlushMsg → ℕ → List Ino → List FlushMsg → Type 0
Over Q conn gone kept conn' gone' kept' = (m : ToClient) (last : ℕ) → Q m → GivesAfter conn gone kept last m → GivesAfter conn' gone' kept' last m

pub down_over : (Q : ToClient → Type 0) (conn : ℕ) (gone : List Ino) (kept : List FlushMsg) (conn' : ℕ) (gone' : List Ino) (kept' : List FlushMsg) (last : ℕ) → Over Q conn gone kept conn' gone' kept' → (p : List ToClient) → Each Q p → DownAfter conn gone kept last p → DownAfter conn' gone' kept' last p
down_over Q conn gone kept conn' gone' kept' last go [] each all = tt
down_over Q conn gone kept conn' gone' kept' last go (m ∷ p) each all = (go m last each.0 all.0, down_over Q conn gone kept conn' gone' kept' last go p each.1 all.1)

pub mail_over : (Q : ToClient → Type 0) (n conn : ℕ) (gone : List Ino) (kept : List FlushMsg) (conn' : ℕ) (gone' : List Ino) (kept' : List FlushMsg) (entries : List Entry) → Over Q conn gone kept conn' gone' kept' → (mail : List (ℕ × Sent)) → Each Q (mail_of n mail) → MailAfter n conn gone kept entries mail → MailAfter n conn' gone' kept' entries mail
mail_over Q n conn gone kept conn' gone' kept' entries go [] each all = tt
mail_over Q n conn gone kept conn' gone' kept' entries go (m ∷ mail) each all =
    let parts = one m.1.to m.1.message each all.1 in (all.0, parts.1, mail_over Q n conn gone kept conn' gone' kept' entries go mail parts.0 all.2)
  where
    one : (to : ℕ) (x : Message) → Each Q (mine n (cons_option (told_to to x) (to_clients (map (λ (m : ℕ × Sent). m.1) mail)))) → ((to == n) ≡ true → ToldAfter conn gone kept (last_flush (take m.0 entries) n) (told_by x)) → Each Q (mail_of n mail) × ((to == n) ≡ true → ToldAfter conn' gone' kept' (last_flush (take m.0 entries) n) (told_by x))
    one to (message.ToClient told) each after = by_test (to == n) refl each after
      where
        by_test : (b : Bool) → (to == n) ≡ b → Each Q (cond b (told ∷ mail_of n mail) (mail_of n mail)) → ((to == n) ≡ true → GivesAfter conn gone kept (last_flush (take m.0 entries) n) told) → Each Q (mail_of n mail) × ((to == n) ≡ true → GivesAfter conn' gone' kept' (last_flush (take m.0 entries) n) told)
        by_test true is each after = (each.1, λ at. go told (last_flush (take m.0 entries) n) each.0 (after is))
        by_test false is each after = (each, λ at. absurd (true≢false (sym at ∙ is)))
    one to x each after = (each, λ at. tt)

letting_over : (Q : ToClient → Type 0) (n conn : ℕ) (gone : List Ino) (kept : List FlushMsg) (conn' : ℕ) (gone' : List Ino) (files' : HeldFiles) (kept' : List FlushMsg) (down : List ToClient) (entries : List Entry) (durable : ℕ) (mail : List (ℕ × Sent))
    → Over Q conn gone kept conn' gone' kept' → Each Q (down ++ mail_of n mail) → ((ino : Ino) → (has ino files' ≡ 0) ⊎ AllReleased ino (last_flush (take durable entries) n) kept') → DownAfter conn gone kept (last_flush (take durable entries) n) down → MailAfter n conn gone kept entries mail → LettingAt n conn' gone' files' kept' down entries durable mail
letting_over Q n conn gone kept conn' gone' files' kept' down entries durable mail go each held coming post = record {
  held = held;
  coming = down_over Q conn gone kept conn' gone' kept' (last_flush (take durable entries) n) go down (each_front Q down (mail_of n mail) each) coming;
  post = mail_over Q n conn gone kept conn' gone' kept' entries go mail (each_back Q down (mail_of n mail) each) post;
}

-- where nothing is given any more
letting_none : (n conn : ℕ) (gone : List Ino) (kept : List FlushMsg) (conn' : ℕ) (gone' : List Ino) (files' : HeldFiles) (kept' : List FlushMsg) (down : List ToClient) (entries : List Entry) (durable : ℕ) (mail : List (ℕ × Sent))
    → answers conn' (down ++ mail_of n mail) ≡ 0 → ((ino : Ino) → (has ino files' ≡ 0) ⊎ AllReleased ino (last_flush (take durable entries) n) kept') → DownAfter conn gone kept (last_flush (take durable entries) n) down → MailAfter n conn gone kept entries mail → LettingAt n conn' gone' files' kept' down entries durable mail
letting_none n conn gone kept conn' gone' files' kept' down entries durable mail none held coming post =
    letting_over (GivesNone conn' gone') n conn gone kept conn' gone' files' kept' down entries durable mail (λ m last zero after ino. inl (zero ino))
    (each_zero conn' gone' (down ++ mail_of n mail) (λ ino. none_give conn' gone' ino (down ++ mail_of n mail) none)) held coming post

-- what a row keeps of the releases that aren't acknowledged
abbrev pub KeepsReleased : Client → Row Client → Type 0
KeepsReleased c r = (ino : Ino) (last : ℕ) → list_any (is_release c.conn ino) (for_server r.sent) ≡ false → AllReleased ino last c.unacked → AllReleased ino last r.state.unacked

pub stays_released : (entries : List Entry) (c : Client) (r : Row Client) → Stays entries c r → KeepsReleased c r
stays_released entries c r stays ino last none all = rw stays.unacked all

same_conn : (conn : ℕ) → (conn == conn) ≡ true
same_conn conn = grind (arith, nat_tests)

sent_one : (a b : Bool) → a ≡ true → ((a && b) || false) ≡ false → b ≡ false
sent_one true true is none = absurd (true≢false none)
sent_one true false is none = refl
sent_one false b is none = absurd (true≢false (sym is))

pub sends_released : (entries : List Entry) (c : Client) (r : Row Client) → Sends entries c r → KeepsReleased c r
sends_released entries c r (inl stays) = stays_released entries c r stays
sends_released entries c r (inr f) = λ ino last none all. rw f.unacked (released_end ino last c.unacked f.flush
    (sent_one (c.conn == c.conn) (f.flush.release && is_ino ino f.flush.ino) (same_conn c.conn) (subst (λ (l : List ToServer). list_any (is_release c.conn ino) l ≡ false) f.sent none)) all)

pub takes_released : (entries : List Entry) (c : Client) (m : ToClient) (r : Row Client) → Takes entries c m r → KeepsReleased c r
takes_released entries c m r (inl stays) = stays_released entries c r stays
takes_released entries c m r (inr settles) = λ ino last none all. rw settles.unacked (released_filter ino last (λ (f : FlushMsg). not (settles.which f.number)) c.unacked all)

plain_no_release : (j : ℕ) (ino : Ino) (more : List ToServer) → AllPlain more → list_any (is_release j ino) more ≡ false
plain_no_release j ino [] all = refl
plain_no_release j ino (Flush conn f ∷ more) all = or_none (conn == j && (f.release && is_ino ino f.ino)) (list_any (is_release j ino) more) (no_release (conn == j) f.release (is_ino ino f.ino) all.0) (plain_no_release j ino more all.1)
plain_no_release j ino (m ∷ more) all = absurd all.0

-- a row of the client, in what way it is
pub quiet_letting : (n : ℕ) (c : Client) (r : Row Client) (down : List ToClient) (entries : List Entry) (durable : ℕ) (mail : List (ℕ × Sent)) → Quiet c r → KeepsReleased c r
    → ((ino : Ino) → (has ino c.files ≡ 0) ⊎ AllReleased ino (last_flush (take durable entries) n) c.unacked) → DownAfter c.conn (gone_in c.under) c.unacked (last_flush (take durable entries) n) down → MailAfter n c.conn (gone_in c.under) c.unacked entries mail
    → LettingAt n r.state.conn (gone_in r.state.under) r.state.files r.state.unacked down entries durable mail
quiet_letting n c r down entries durable mail quiet keeps held coming post = rw (quiet.conn, quiet.under)
    (letting_over (λ m. Unit {0}) n c.conn (gone_in c.under) c.unacked c.conn (gone_in c.under) r.state.files r.state.unacked down entries durable mail (λ m last one after ino. over ino m last (after ino)) (every (down ++ mail_of n mail)) (λ ino. now ino (held ino)) coming post)
  where
    none : (ino : Ino) → list_any (is_release c.conn ino) (for_server r.sent) ≡ false
    none ino = plain_no_release c.conn ino (for_server r.sent) quiet.says

    every : (p : List ToClient) → Each (λ m. Unit {0}) p
    every [] = tt
    every (m ∷ p) = (tt, every p)

    over : (ino : Ino) (m : ToClient) (last : ℕ) → (gives c.conn (gone_in c.under) ino m ≡ 0) ⊎ AllReleased ino last c.unacked → (gives c.conn (gone_in c.under) ino m ≡ 0) ⊎ AllReleased ino last r.state.unacked
    over ino m last (inl zero) = inl zero
    over ino m last (inr all) = inr (keeps ino last (none ino) all)

    now : (ino : Ino) → (has ino c.files ≡ 0) ⊎ AllReleased ino (last_flush (take durable entries) n) c.unacked → (has ino r.state.files ≡ 0) ⊎ AllReleased ino (last_flush (take durable entries) n) r.state.unacked
    now ino (inl zero) = inl (quiet.modes ino ∙ zero)
    now ino (inr all) = inr (keeps ino (last_flush (take durable entries) n) (none ino) all)

pub ends_letting : (n : ℕ) (c : Client) (gain : Ino → ℕ) (r : Row Client) (down : List ToClient) (entries : List Entry) (durable : ℕ) (mail : List (ℕ × Sent)) → Ends c gain r → KeepsReleased c r → ((ino : Ino) → (gain ino ≡ 0) ⊎ AllReleased ino (last_flush (take durable entries) n) c.unacked) → answers c.conn (down ++ mail_of n mail) ≡ 0
    → ((ino : Ino) → (has ino c.files ≡ 0) ⊎ AllReleased ino (last_flush (take durable entries) n) c.unacked) → DownAfter c.conn (gone_in c.under) c.unacked (last_flush (take durable entries) n) down → MailAfter n c.conn (gone_in c.under) c.unacked entries mail
    → LettingAt n r.state.conn (gone_in r.state.under) r.state.files r.state.unacked down entries durable mail
ends_letting n c gain r down entries durable mail ends keeps gained none held coming post = rw ends.conn
    (letting_none n c.conn (gone_in c.under) c.unacked c.conn (gone_in r.state.under) r.state.files r.state.unacked down entries durable mail none (λ ino. now ino (held ino) (gained ino)) coming post)
  where
    no : (ino : Ino) → list_any (is_release c.conn ino) (for_server r.sent) ≡ false
    no ino = rw ends.none refl

    now : (ino : Ino) → (has ino c.files ≡ 0) ⊎ AllReleased ino (last_flush (take durable entries) n) c.unacked → (gain ino ≡ 0) ⊎ AllReleased ino (last_flush (take durable entries) n) c.unacked → (has ino r.state.files ≡ 0) ⊎ AllReleased ino (last_flush (take durable entries) n) r.state.unacked
    now ino (inl zero) (inl nothing) = inl (let most = ends.modes ino in omega (arith, zero, nothing, most))
    now ino (inl zero) (inr all) = inr (keeps ino (last_flush (take durable entries) n) (no ino) all)
    now ino (inr all) other = inr (keeps ino (last_flush (take durable entries) n) (no ino) all)

pub asks_letting : (n : ℕ) (c : Client) (r : Row Client) (down : List ToClient) (entries : List Entry) (durable : ℕ) (mail : List (ℕ × Sent)) → AsksNow c r → KeepsReleased c r → answers c.conn (down ++ mail_of n mail) ≡ 0
    → ((ino : Ino) → (has ino c.files ≡ 0) ⊎ AllReleased ino (last_flush (take durable entries) n) c.unacked) → DownAfter c.conn (gone_in c.under) c.unacked (last_flush (take durable entries) n) down → MailAfter n c.conn (gone_in c.under) c.unacked entries mail
    → LettingAt n r.state.conn (gone_in r.state.under) r.state.files r.state.unacked down entries durable mail
asks_letting n c r down entries durable mail a keeps none held coming post = rw (a.conn, a.files)
    (letting_none n c.conn (gone_in c.under) c.unacked c.conn (gone_in r.state.under) c.files r.state.unacked down entries durable mail none (λ ino. now ino (held ino)) coming post)
  where
    no_drop : (ino : Ino) (o : Option Ino) → list_any (is_release c.conn ino) (drop_list c.conn o ++ Ask c.conn a.tid a.asked ∷ []) ≡ false
    no_drop ino None = refl
    no_drop ino (Some x) = refl

    now : (ino : Ino) → (has ino c.files ≡ 0) ⊎ AllReleased ino (last_flush (take durable entries) n) c.unacked → (has ino c.files ≡ 0) ⊎ AllReleased ino (last_flush (take durable entries) n) r.state.unacked
    now ino (inl zero) = inl zero
    now ino (inr all) = inr (keeps ino (last_flush (take durable entries) n) (rw a.sent (no_drop ino a.before)) all)

pub returns_letting : (n : ℕ) (c : Client) (r : Row Client) (down : List ToClient) (entries : List Entry) (durable : ℕ) (mail : List (ℕ × Sent)) → Returns c r → KeepsReleased c r → answers (c.conn + 1) (down ++ mail_of n mail) ≡ 0
    → ((ino : Ino) → (has ino c.files ≡ 0) ⊎ AllReleased ino (last_flush (take durable entries) n) c.unacked) → DownAfter c.conn (gone_in c.under) c.unacked (last_flush (take durable entries) n) down → MailAfter n c.conn (gone_in c.under) c.unacked entries mail
    → LettingAt n r.state.conn (gone_in r.state.under) r.state.files r.state.unacked down entries durable mail
returns_letting n c r down entries durable mail back keeps none held coming post = rw (back.conn, back.files)
    (letting_none n c.conn (gone_in c.under) c.unacked (c.conn + 1) (gone_in r.state.under) c.files r.state.unacked down entries durable mail none (λ ino. now ino (held ino)) coming post)
  where
    now : (ino : Ino) → (has ino c.files ≡ 0) ⊎ AllReleased ino (last_flush (take durable entries) n) c.unacked → (has ino c.files ≡ 0) ⊎ AllReleased ino (last_flush (take durable entries) n) r.state.unacked
    now ino (inl zero) = inl zero
    now ino (inr all) = inr (keeps ino (last_flush (take durable entries) n) (rw back.says.3 refl) all)

-- it lets a file go
said_release : (conn : ℕ) (files : HeldFiles) (ino x : Ino) (sent : List ToServer) → LetSaid conn files ino sent → list_any (is_release conn x) sent ≡ true → (has ino files ≡ 2) × (is_ino x ino ≡ true)
said_release conn files ino x sent (inl said) any = absurd (true≢false (sym (subst (λ (l : List ToServer). list_any (is_release conn x) l ≡ true) said.1 any)))
said_release conn files ino x sent (inr said) any = (said.0, subst (λ (y : Ino). is_ino x y ≡ true) said.1.2 (last_true (conn == conn) said.1.0.release (is_ino x said.1.0.ino) (subst (λ (l : List ToServer). list_any (is_release conn x) l ≡ true) said.1.3 any)))
  where
    last_true : (a b d : Bool) → ((a && (b && d)) || false) ≡ true → d ≡ true
    last_true true true true is = refl
    last_true true true false is = is
    last_true true false d is = absurd (true≢false (sym is))
    last_true false b d is = absurd (true≢false (sym is))

pub let_go_letting : (n : ℕ) (c : Client) (r : Row Client) (down : List ToClient) (entries : List Entry) (durable : ℕ) (mail : List (ℕ × Sent)) → LetsGo c r → KeepsReleased c r → Distinct c.files → Frees c.files c.under → AllGrants c.conn c.under (down ++ mail_of n mail) → (open_request c.under ≡ None → answers c.conn (down ++ mail_of n mail) ≡ 0)
    → ((ino : Ino) → (has ino c.files ≡ 0) ⊎ AllReleased ino (last_flush (take durable entries) n) c.unacked) → DownAfter c.conn (gone_in c.under) c.unacked (last_flush (take durable entries) n) down → MailAfter n c.conn (gone_in c.under) c.unacked entries mail
    → LettingAt n r.state.conn (gone_in r.state.under) r.state.files r.state.unacked down entries durable mail
let_go_letting n c r down entries durable mail go keeps once frees grants none held coming post = rw (go.conn, go.under, go.files) (by_under c.under frees grants none coming post)
  where
    now : (ino : Ino) → (has ino c.files ≡ 0) ⊎ AllReleased ino (last_flush (take durable entries) n) c.unacked → (has ino (without go.ino c.files) ≡ 0) ⊎ AllReleased ino (last_flush (take durable entries) n) r.state.unacked
    now ino (inl zero) = inl (let few = less_without ino go.ino c.files once in omega (arith, few, zero))
    now ino (inr all) = by_test (list_any (is_release c.conn ino) (for_server r.sent)) refl
      where
        by_test : (b : Bool) → list_any (is_release c.conn ino) (for_server r.sent) ≡ b → (has ino (without go.ino c.files) ≡ 0) ⊎ AllReleased ino (last_flush (take durable entries) n) r.state.unacked
        by_test true any = inl (none_without ino go.ino c.files once (said_release c.conn c.files go.ino ino (for_server r.sent) go.says any).1)
        by_test false any = inr (keeps ino (last_flush (take durable entries) n) any all)

    Goal : Under → Type 0
    Goal under = LettingAt n c.conn (gone_in (with_let_go go.ino under)) (without go.ino c.files) r.state.unacked down entries durable mail

    by_under : (under : Under) → Frees c.files under → AllGrants c.conn under (down ++ mail_of n mail) → (open_request under ≡ None → answers c.conn (down ++ mail_of n mail) ≡ 0) → DownAfter c.conn (gone_in under) c.unacked (last_flush (take durable entries) n) down → MailAfter n c.conn (gone_in under) c.unacked entries mail → Goal under
    by_under Idle frees grants none coming post = letting_none n c.conn [] c.unacked c.conn [] (without go.ino c.files) r.state.unacked down entries durable mail (none refl) (λ ino. now ino (held ino)) coming post
    by_under (AtStore number entry ino head) frees grants none coming post = letting_none n c.conn [] c.unacked c.conn [] (without go.ino c.files) r.state.unacked down entries durable mail (none refl) (λ ino. now ino (held ino)) coming post
    by_under (Open number tid text asked gone) frees grants none coming post =
        letting_over (GrantAt c.conn (Open number tid text asked gone)) n c.conn gone c.unacked c.conn (go.ino ∷ gone) (without go.ino c.files) r.state.unacked down entries durable mail (λ m last grant after ino. over ino m last grant (after ino)) (each_grants c.conn (Open number tid text asked gone) (down ++ mail_of n mail) grants) (λ ino. now ino (held ino)) coming post
      where
        over : (ino : Ino) (m : ToClient) (last : ℕ) → GrantAt c.conn (Open number tid text asked gone) m → (gives c.conn gone ino m ≡ 0) ⊎ AllReleased ino last c.unacked → (gives c.conn (go.ino ∷ gone) ino m ≡ 0) ⊎ AllReleased ino last r.state.unacked
        over ino m last grant (inl zero) = inl (let less = gives_gone c.conn go.ino ino gone m in omega (arith, less, zero))
        over ino m last grant (inr all) = by_test (list_any (is_release c.conn ino) (for_server r.sent)) refl
          where
            by_test : (b : Bool) → list_any (is_release c.conn ino) (for_server r.sent) ≡ b → (gives c.conn (go.ino ∷ gone) ino m ≡ 0) ⊎ AllReleased ino last r.state.unacked
            by_test true any = let at = said_release c.conn c.files go.ino ino (for_server r.sent) go.says any in inl (let zero = let_nothing c.conn c.files number tid text asked gone go.ino ino m at.1 frees.1 grant (inl at.0) in omega (arith, zero))
            by_test false any = inr (keeps ino last any all)

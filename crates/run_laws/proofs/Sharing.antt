-- What a client holds is covered by what the server's table says of it.
use Rattle.std.proofs.Common.{◌≡◌, ◌≤◌, ℕ, List, [], ◌∷◌, ◌++◌, take, length, Bool, true, false, Option, None, Some, refl, ◌⊎◌}
use Rattle.std.specs.Prelude.{◌==◌}
use Rattle.std.specs.List.{list_any}
use Rattle.snap_ids.specs.declared.id.Ino.{Ino}
use Rattle.snap_ids.specs.declared.values.Mode.TheVariants.{Read, Write}
use Rattle.plain_types.specs.declared.answer.Answer.{Answer}
use Rattle.plain_types.specs.declared.answer.Answer.TheVariants as answer
use Rattle.plain_types.specs.declared.entry.Entry.{Entry}
use Rattle.plain_types.specs.declared.history.Sent.{Sent}
use Rattle.plain_types.specs.declared.message.FlushMsg.{FlushMsg}
use Rattle.plain_types.specs.declared.message.ToClient.{ToClient}
use Rattle.plain_types.specs.declared.message.ToClient.TheVariants.{Reply}
use Rattle.plain_types.specs.declared.message.ToServer.{ToServer}
use Rattle.plain_types.specs.declared.request.Request.{Request}
use Rattle.plain_types.specs.declared.request.Request.TheVariants as request
use Rattle.plain_journal.specs.Table.{last_flush}
use Rattle.held_files.specs.Files.{HeldFiles}
use Rattle.step_table.specs.ServerState.{number_of}
use Rattle.step_table.specs.ClientState.{Under, Open}
use Rattle.run_laws.specs.Links.{View, mail_of}
use Rattle.run_laws.specs.Stamps.{told_by}
use Rattle.run_laws.specs.Tenures.{AllReleased, gone_in, is_gone, is_release, wants_write}
use Rattle.run_laws.specs.LetGo.{is_drop, Lets, AllGrants}
use Rattle.run_laws.proofs.Shares.{has, shares, gives, AllGive}

-- What was let go isn't held, and a capability is asked for that isn't held.
abbrev pub CapFree : HeldFiles → List Ino → Request → Type 0
CapFree files gone (request.Cap file Read) = (has file files ≡ 0) × (is_gone file gone ≡ false)
CapFree files gone (request.Cap file Write) = has file files ≤ 1
CapFree files gone asked = Unit {0}

abbrev pub Frees : HeldFiles → Under → Type 0
Frees files (Open number tid text asked gone) = ((ino : Ino) → is_gone ino gone ≡ true → has ino files ≡ 0) × CapFree files gone asked
Frees files under = Unit {0}

-- where a file is held or given, its releases are entered
abbrev pub GivesAfter : ℕ → List Ino → List FlushMsg → ℕ → ToClient → Type 0
GivesAfter conn gone kept last m = (ino : Ino) → (gives conn gone ino m ≡ 0) ⊎ AllReleased ino last kept

abbrev pub DownAfter : ℕ → List Ino → List FlushMsg → ℕ → List ToClient → Type 0
DownAfter conn gone kept last [] = Unit {0}
DownAfter conn gone kept last (m ∷ down) = GivesAfter conn gone kept last m × DownAfter conn gone kept last down

abbrev pub ToldAfter : ℕ → List Ino → List FlushMsg → ℕ → Option ToClient → Type 0
ToldAfter conn gone kept last None = Unit {0}
ToldAfter conn gone kept last (Some m) = GivesAfter conn gone kept last m

abbrev pub MailAfter : ℕ → ℕ → List Ino → List FlushMsg → List Entry → List (ℕ × Sent) → Type 0
MailAfter n conn gone kept entries [] = Unit {0}
MailAfter n conn gone kept entries (m ∷ mail) =
    (m.0 ≤ length entries) × ((m.1.to == n) ≡ true → ToldAfter conn gone kept (last_flush (take m.0 entries) n) (told_by m.1.message)) × MailAfter n conn gone kept entries mail

-- all that a client has and that is on its way to it, of its connection, is no more than this
abbrev pub Covered : ℕ → List Ino → HeldFiles → List ToClient → Ino → ℕ → Type 0
Covered conn gone files down ino most = (has ino files ≤ most) × AllGive conn gone ino most down

-- where the server has a number for the client: each file is covered by its table
abbrev pub CoverBy : (Ino → ℕ → Type 0) → (Ino → ℕ) → Option ℕ → Type 0
CoverBy C table None = Unit {0}
CoverBy C table (Some j) = (ino : Ino) → C ino (table ino)

-- and one that is let go on the way to the server, and is in the table for Read, isn't held and not given
abbrev pub DroppedBy : (Ino → ℕ → Type 0) → List ToServer → (Ino → ℕ) → Option ℕ → Type 0
DroppedBy C q table None = Unit {0}
DroppedBy C q table (Some j) = (ino : Ino) → list_any (is_drop j ino) q ≡ true → table ino ≡ 1 → C ino 0

-- an answer says whether a file is held for Write
abbrev pub Says : ℕ → Bool → Type 0
Says held true = 2 ≤ held
Says held false = held ≤ 1

abbrev pub SaysIn : List Ino → HeldFiles → Answer → Type 0
SaysIn gone files (answer.FoundLive ino perm size write_held) = is_gone ino gone ≡ false → Says (has ino files) write_held
SaysIn gone files said = Unit {0}

abbrev pub SaysAt : ℕ → List Ino → HeldFiles → ToClient → Type 0
SaysAt conn gone files (Reply k tid stamp said) = (k == conn) ≡ true → SaysIn gone files said
SaysAt conn gone files m = Unit {0}

abbrev pub AllSay : ℕ → List Ino → HeldFiles → List ToClient → Type 0
AllSay conn gone files [] = Unit {0}
AllSay conn gone files (m ∷ down) = SaysAt conn gone files m × AllSay conn gone files down

-- a writer of the server's table writes the file, or its release is on the way, or it has asked for the file
abbrev pub Writes : HeldFiles → Under → List ToServer → ℕ → Ino → Type 0
Writes files under q j ino = (2 ≤ has ino files) ⊎ ((list_any (is_release j ino) q ≡ true) ⊎ (wants_write ino under ≡ true))

abbrev pub WritersBy : HeldFiles → Under → List ToServer → (Ino → ℕ) → Option ℕ → Type 0
WritersBy files under q table None = Unit {0}
WritersBy files under q table (Some j) = (ino : Ino) → 2 ≤ table ino → Writes files under q j ino

pub writers_go : (files new : HeldFiles) (under next : Under) (q rest : List ToServer) (table more : Ino → ℕ) (k : Option ℕ)
    → ((j : ℕ) → k ≡ Some j → (ino : Ino) → 2 ≤ more ino → (2 ≤ table ino → Writes files under q j ino) → Writes new next rest j ino)
    → WritersBy files under q table k → WritersBy new next rest more k
writers_go files new under next q rest table more None go was = tt
writers_go files new under next q rest table more (Some j) go was = λ ino two. go j refl ino two (was ino)

-- Of one client: `k` is the server's number for it, `table` what the server's table says of its files.
pub record SharesAt (conn : ℕ) (files : HeldFiles) (under : Under) (q : List ToServer) (k : Option ℕ) (p : List ToClient) (table : Ino → ℕ) : Type 0 where
  pub cover : CoverBy (Covered conn (gone_in under) files p) table k
  pub dropped : DroppedBy (Covered conn (gone_in under) files p) q table k
  pub lets : Lets conn under q
  pub frees : Frees files under
  pub grants : AllGrants conn under p
  pub writers : WritersBy files under q table k
  pub says : AllSay conn (gone_in under) files p

abbrev pub Sharing : View
Sharing n c up down s =
    SharesAt c.conn c.files c.under up (number_of s.current n) (down ++ mail_of n s.mail) (λ ino. shares n ino s.holders)

-- Where a file is held, or given, its releases are durable, or entered when it was given.
pub record LettingAt (n conn : ℕ) (gone : List Ino) (files : HeldFiles) (kept : List FlushMsg) (down : List ToClient) (entries : List Entry) (durable : ℕ) (mail : List (ℕ × Sent)) : Type 0 where
  pub held : (ino : Ino) → (has ino files ≡ 0) ⊎ AllReleased ino (last_flush (take durable entries) n) kept
  pub coming : DownAfter conn gone kept (last_flush (take durable entries) n) down
  pub post : MailAfter n conn gone kept entries mail

abbrev pub Letting : View
Letting n c up down s = LettingAt n c.conn (gone_in c.under) c.files c.unacked down s.entries s.durable s.mail

-- What a client lets go while its request is open, and what is granted to it.
use Rattle.std.specs.Prelude.{◌≡◌, ℕ, Bool, true, false, not, ◌&&◌, ◌==◌, List, [], ◌∷◌, ◌++◌, take, IfSome}
use Rattle.std.specs.List.{list_any}
use Rattle.snap_ids.specs.declared.id.Ino.{Ino}
use Rattle.snap_ids.specs.declared.values.Mode.{Mode}
use Rattle.snap_ids.specs.declared.values.Mode.TheVariants.{Read, Write}
use Rattle.plain_types.specs.declared.entry.Entry.{Entry}
use Rattle.plain_types.specs.declared.message.FlushMsg.{FlushMsg}
use Rattle.plain_types.specs.declared.message.ToClient.{ToClient}
use Rattle.plain_types.specs.declared.message.ToClient.TheVariants.{Grant}
use Rattle.plain_types.specs.declared.message.ToServer.{ToServer}
use Rattle.plain_types.specs.declared.message.ToServer.TheVariants.{DropRead}
use Rattle.plain_types.specs.declared.request.Request.{Request}
use Rattle.plain_types.specs.declared.request.Request.TheVariants.{Cap}
use Rattle.plain_tree.specs.State.{Handle}
use Rattle.plain_journal.specs.Table.{last_flush}
use Rattle.held_files.specs.Files.{HeldFiles, is_ino, is_held, is_writer, is_write}
use Rattle.step_table.specs.ServerState.{Holder, number_of, is_holder}
use Rattle.step_table.specs.ClientState.{Under, Open, open_request}
use Rattle.run_laws.specs.Holding.{is_given}
use Rattle.run_laws.specs.Links.{View, mail_of}
use Rattle.run_laws.specs.Requests.{asks}
use Rattle.run_laws.specs.Tenures.{IsMade, CapIsMade, AllReleased, gone_in, is_gone, is_release}

-- a message of a connection lets a file go that was held for Read
abbrev pub is_drop : ℕ → Ino → ToServer → Bool
is_drop k ino (DropRead conn file) = conn == k && is_ino ino file
is_drop k ino m = false

-- a request is for a capability of this file
abbrev pub is_cap : Ino → Request → Bool
is_cap ino (Cap file mode) = is_ino ino file
is_cap ino asked = false

-- what a message lets go is remembered; and a file that is released isn't the one that the request asks for
abbrev pub IsLet : ℕ → Request → List Ino → ToServer → Type 0
IsLet conn asked gone m =
    (ino : Ino)
    → (is_drop conn ino m ≡ true → is_gone ino gone ≡ true)
    × (is_release conn ino m ≡ true → (is_gone ino gone ≡ true) × (is_cap ino asked ≡ false))

-- so is each message that no request stands behind
abbrev pub AllLet : ℕ → Request → List Ino → List ToServer → Type 0
AllLet conn asked gone [] = Unit {0}
AllLet conn asked gone (m ∷ up) = (asks up ≡ 0 → IsLet conn asked gone m) × AllLet conn asked gone up

abbrev pub Lets : ℕ → Under → List ToServer → Type 0
Lets conn (Open number tid text asked gone) up = AllLet conn asked gone up
Lets conn under up = Unit {0}

-- While a request is open, its client remembers what it let go behind the last sending of it, as far as the messages are
-- on the way.
abbrev pub LetGoIsRemembered : View
LetGoIsRemembered n c up down s = Lets c.conn c.under up

-- a capability is asked for that isn't held: for Read a file that isn't held and wasn't let go, for Write one that isn't
-- written
abbrev pub CapIsWanted : HeldFiles → List Ino → Request → Type 0
CapIsWanted files gone (Cap file Read) = (is_held file files ≡ false) × (is_gone file gone ≡ false)
CapIsWanted files gone (Cap file Write) = is_writer file files ≡ false
CapIsWanted files gone asked = Unit {0}

abbrev pub GoneIsFree : HeldFiles → Under → Type 0
GoneIsFree files (Open number tid text asked gone) =
    ((ino : Ino) → is_gone ino gone ≡ true → is_held ino files ≡ false) × CapIsWanted files gone asked
GoneIsFree files under = Unit {0}

-- While a request is open, what was let go since it was sent isn't held, and a capability is asked for that isn't held.
abbrev pub LetGoIsFree : View
LetGoIsFree n c up down s = GoneIsFree c.files c.under

-- a holder has a file for Read
abbrev pub reads_at : ℕ → Ino → Holder → Bool
reads_at n ino h = is_holder n ino h && not (is_write h.mode)

-- handles of files that the entries made
abbrev pub AllOfMade : List Entry → List Handle → Type 0
AllOfMade entries [] = Unit {0}
AllOfMade entries (h ∷ handles) = IsMade entries h.ino × AllOfMade entries handles

-- What a client has open, and what it asks a capability for, is a file that the entries made.
abbrev pub AsksOfMade : View
AsksOfMade n c up down s = AllOfMade s.entries c.handles × IfSome (open_request c.under) (λ r. CapIsMade s.entries r.1)

-- Where the server's table has a client as a reader of a file, and the file is let go on the way in the server's connection,
-- the client doesn't hold the file and isn't being given it.
abbrev pub DroppedIsFree : View
DroppedIsFree n c up down s =
    IfSome (number_of s.current n) (λ k. (ino : Ino) → list_any (is_drop k ino) up ≡ true → list_any (reads_at n ino) s.holders ≡ true
    → (is_held ino c.files ≡ false) × (list_any (is_given c.conn (gone_in c.under) ino) (down ++ mail_of n s.mail) ≡ false))

-- Where the server has a connection of a client, its table has that client with each file that a message of the client's
-- connection gives, sent or not.
abbrev pub TableCoversGiven : View
TableCoversGiven n c up down s =
    IfSome (number_of s.current n) (λ k. (ino : Ino)
    → list_any (is_given c.conn (gone_in c.under) ino) (down ++ mail_of n s.mail) ≡ true → list_any (is_holder n ino) s.holders ≡ true)

-- what a message gives, its client's releases are up to a number
abbrev pub AllGivenAfter : ℕ → List Ino → List FlushMsg → ℕ → List ToClient → Type 0
AllGivenAfter conn gone kept last [] = Unit {0}
AllGivenAfter conn gone kept last (m ∷ down) =
    ((ino : Ino) → is_given conn gone ino m ≡ true → AllReleased ino last kept) × AllGivenAfter conn gone kept last down

-- Where a message that was sent gives a client a file, all the client's earlier releases of it are durable.
abbrev pub GivenAfterRelease : View
GivenAfterRelease n c up down s = AllGivenAfter c.conn (gone_in c.under) c.unacked (last_flush (take s.durable s.entries) n) down

-- what is granted is what was asked for
abbrev pub IsAsked : Under → Ino → Mode → Type 0
IsAsked (Open number tid text asked gone) ino mode = asked ≡ Cap ino mode
IsAsked under ino mode = ⊥

abbrev pub GrantAt : ℕ → Under → ToClient → Type 0
GrantAt conn under (Grant k tid stamp ino mode size trace) = (k == conn) ≡ true → IsAsked under ino mode
GrantAt conn under m = Unit {0}

abbrev pub AllGrants : ℕ → Under → List ToClient → Type 0
AllGrants conn under [] = Unit {0}
AllGrants conn under (m ∷ down) = GrantAt conn under m × AllGrants conn under down

-- Each Grant of the connection, sent or not, is what the open request asks for.
abbrev pub GrantIsAsked : View
GrantIsAsked n c up down s = AllGrants c.conn c.under (down ++ mail_of n s.mail)

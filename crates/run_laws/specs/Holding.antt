-- Who holds a file, by what the clients themselves count.
use Rattle.std.specs.Prelude.{◌≡◌, ℕ, Bool, true, false, not, ◌&&◌, ◌==◌, List, ◌++◌, Some}
use Rattle.std.specs.List.{list_any}
use Rattle.snap_ids.specs.declared.id.Ino.{Ino}
use Rattle.plain_types.specs.declared.answer.Answer.{Answer}
use Rattle.plain_types.specs.declared.answer.Answer.TheVariants.{FoundLive}
use Rattle.plain_types.specs.declared.message.ToClient.{ToClient}
use Rattle.plain_types.specs.declared.message.ToClient.TheVariants.{Reply, Grant}
use Rattle.held_files.specs.Files.{is_ino, is_writer, is_held}
use Rattle.step_table.specs.ServerState.{number_of, is_writer as writes_at}
use Rattle.step_table.specs.ClientState.{Client}
use Rattle.step_table.specs.World.{World, client}
use Rattle.run_laws.specs.Links.{mine, mail_of}
use Rattle.run_laws.specs.Tenures.{gone_in, is_gone, is_release}

-- a message of a connection gives a file: it is granted, or found for a reader that didn't let it go meanwhile
abbrev pub finds : List Ino → Ino → Answer → Bool
finds gone ino (FoundLive file perm size write_held) = is_ino ino file && not write_held && not (is_gone ino gone)
finds gone ino said = false

abbrev pub is_given : ℕ → List Ino → Ino → ToClient → Bool
is_given conn gone ino (Grant k tid stamp file mode size trace) = k == conn && is_ino ino file
is_given conn gone ino (Reply k tid stamp said) = k == conn && finds gone ino said
is_given conn gone ino m = false

-- Where the server's table has a client as the writer of a file, no other client holds the file or is being given it.
abbrev pub WriterIsAlone : World → Type 0
WriterIsAlone w =
    (a b : ℕ) (d : Client) (ino : Ino) → client w.clients b ≡ Some d → (a == b) ≡ false → list_any (writes_at a ino) w.server.holders ≡ true
    → (is_held ino d.files ≡ false) × (list_any (is_given d.conn (gone_in d.under) ino) (mine b w.down ++ mail_of b w.server.mail) ≡ false)

-- While a release of a file is on the way in the server's connection of a client, no client holds the file or is being given
-- it, that one neither.
abbrev pub ReleasedIsFree : World → Type 0
ReleasedIsFree w =
    (a b k : ℕ) (c d : Client) (ino : Ino) → client w.clients a ≡ Some c → client w.clients b ≡ Some d
    → number_of w.server.current a ≡ Some k → list_any (is_release k ino) (mine a w.up) ≡ true
    → (is_held ino d.files ≡ false) × (list_any (is_given d.conn (gone_in d.under) ino) (mine b w.down ++ mail_of b w.server.mail) ≡ false)

-- Among the files that clients hold: where one client holds a file for Write, no other client holds it at all.
abbrev pub OneClientWrites : World → Type 0
OneClientWrites w =
    (a b : ℕ) (c d : Client) (ino : Ino) → client w.clients a ≡ Some c → client w.clients b ≡ Some d → (a == b) ≡ false
    → is_writer ino c.files ≡ true → is_held ino d.files ≡ false

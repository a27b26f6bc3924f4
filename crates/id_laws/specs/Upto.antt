-- What names no snapshot's id above a last one.
use Rattle.std.specs.Prelude.{◌≡◌, ◌≤◌, ℕ, false, List}
use Rattle.std.specs.List.{AllByRecursion}
use Rattle.snap_ids.specs.declared.id.SnapId.{SnapId}
use Rattle.snap_ids.specs.Context.{Context}
use Rattle.plain_types.specs.declared.message.Claim.{Claim}
use Rattle.plain_types.specs.declared.message.FileTrace.{FileTrace}
use Rattle.plain_types.specs.declared.message.FlushMsg.{FlushMsg}
use Rattle.plain_types.specs.declared.message.ToClient.{ToClient}
use Rattle.plain_types.specs.declared.message.ToClient.TheVariants.{Grant, Notice, Welcome}
use Rattle.plain_types.specs.declared.message.ToServer.{ToServer}
use Rattle.plain_types.specs.declared.message.ToServer.TheVariants.{Connect, Flush}
use Rattle.held_files.specs.Files.{Item, OfPiece, OfMark, HeldFile}
use Rattle.step_table.specs.ClientState.{Client}
use Rattle.step_table.specs.Messages.{context_by}

-- a context: its sequence id, and the ids that it lists
abbrev pub ContextUpto : ℕ → Context → Type 0
ContextUpto last context = (context.seq.0 ≤ last) × AllByRecursion (λ (id : SnapId). id.0 ≤ last) context.ids

-- the context that a file's trace gives
abbrev pub TraceUpto : ℕ → FileTrace → Type 0
TraceUpto last file = ContextUpto last (context_by file)

-- what a client is told of the contexts of files
abbrev pub ToldUpto : ℕ → ToClient → Type 0
ToldUpto last (Grant conn tid stamp ino mode size file) = TraceUpto last file
ToldUpto last (Notice conn stamp update) = AllByRecursion (TraceUpto last) update
ToldUpto last (Welcome conn stamp flushed update) = AllByRecursion (TraceUpto last) update
ToldUpto last told = Unit {0}

-- A flush: the snapshot that it follows, and the one up to which it settles its file. A release settles the file for what is
-- live too, and names no second one.
abbrev pub FlushUpto : ℕ → FlushMsg → Type 0
FlushUpto last f = (f.follows.0 ≤ last) × (f.release ≡ false → f.upto.0 ≤ last)

-- a claim: the id up to which its file is settled
abbrev pub ClaimUpto : ℕ → Claim → Type 0
ClaimUpto last claim = claim.settled.0 ≤ last

-- what a client tells the server: a flush; the claims and flushes that it brings along as it connects
abbrev pub SaidUpto : ℕ → ToServer → Type 0
SaidUpto last (Connect conn claims flushes asked) =
    AllByRecursion (ClaimUpto last) claims × AllByRecursion (FlushUpto last) flushes
SaidUpto last (Flush conn f) = FlushUpto last f
SaidUpto last said = Unit {0}

-- a mark that waits to be sent
abbrev pub ItemUpto : ℕ → Item → Type 0
ItemUpto last (OfMark mark) = (mark.follows.0 ≤ last) × (mark.upto.0 ≤ last)
ItemUpto last (OfPiece piece) = Unit {0}

-- a held file: the id up to which it is settled, and its marks
abbrev pub FileUpto : ℕ → HeldFile → Type 0
FileUpto last file = (file.settled.0 ≤ last) × AllByRecursion (ItemUpto last) file.unsent

-- the second parts of some pairs are all so
abbrev pub Every : {K A : Type 0} → (A → Type 0) → List (K × A) → Type 0
Every {K} {A} P pairs = AllByRecursion (λ (x : K × A). P x.1) pairs

-- a client: its contexts, its files, and the flushes that aren't acknowledged
pub record KeepsUpto (last : ℕ) (c : Client) : Type 0 where
  pub contexts : Every (ContextUpto last) c.contexts
  pub files : Every (FileUpto last) c.files
  pub flushes : AllByRecursion (FlushUpto last) c.unacked

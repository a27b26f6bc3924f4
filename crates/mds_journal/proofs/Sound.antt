-- What keeps a journal sound.
use Rattle.std.proofs.Common.{◌≡◌, ◌+◌, inl, inr, ℕ, List, [], ◌++◌, Bool, true, false, length, refl, ap, ◌∙◌}
use Rattle.io_edge.specs.Disk.{Only}
use Rattle.plain_types.specs.declared.entry.Entry.{Entry}
use Rattle.journal_format.specs.Image.{journal_of, IsJournal, IsImage}
use Rattle.mds_journal.specs.Stops.{IsWithOrWithout}
use Rattle.mds_journal.specs.Log.{IsSound}
use Rattle.mds_journal.proofs.Stopped.{image_is_journal}

pub empty_image : (file : List ℕ) → file ≡ journal_of [] 0 → IsImage file []
empty_image file is = record { batches = []; gate = 0; parts = is; closed = λ e. absurd cc; each = tt; all = refl }

-- an image on the disk
pub sound_image : (file : List ℕ) (may_leave : List ℕ → Type 0) (gate : ℕ) (ready : Bool) (entries : List Entry) → IsImage file entries → gate + 1 ≡ length file → Only file may_leave → IsSound file may_leave gate ready
sound_image file may_leave gate ready entries image place durable = record {
  entries = entries;
  journal = image_is_journal file entries image;
  rests = λ ready. record { entries = entries; image = image; place = place; durable = durable };
}

-- a refused batch
pub sound_left : (file : List ℕ) (may_leave : List ℕ → Type 0) (gate : ℕ) (entries batch : List Entry) → IsWithOrWithout entries batch file → IsSound file may_leave gate false
sound_left file may_leave gate entries batch (inl journal) = record { entries = entries; journal = journal; rests = λ e. absurd cc }
sound_left file may_leave gate entries batch (inr journal) = record { entries = entries ++ batch; journal = journal; rests = λ e. absurd cc }

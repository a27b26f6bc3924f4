use Rattle.std.proofs.Common.{◌≡◌, ℕ, ◌<◌, length, get_or, take, fold}
use Rattle.held_files.specs.Buffer.{byte_under}
use Rattle.file_buffer.proofs.buffer.FileBuf.read_over.Given as goal

abbrev pub invariant-loop-i : goal.invariant-loop-i
invariant-loop-i l = record {
  length : length l.bytes.items ≡ l.self-inside.size;
  bytes : (place : ℕ) → place < l.self-inside.size → get_or l.bytes.items place 0 ≡ fold (byte_under place) (get_or l.stored place 0) (take l.i l.self-inside.pieces.items);
}

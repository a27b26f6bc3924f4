use Rattle.std.proofs.Common.{◌≡◌, ℕ, ◌==◌, false, List, [], ◌∷◌, ◌++◌, sym, ap, subst, ◌∙◌, arith}
use Rattle.plain_tree.specs.State.{Handle}
use Rattle.file_uses.specs.Handles.{is_open}
use Rattle.file_uses.specs.Uses.{is_dead}
use Rattle.file_uses.specs.Rising.{Rises, without}
use Rattle.file_uses.proofs.Apart.{open_more, open_new, swapped}
use Rattle.file_uses.proofs.Deaths.{picked, picked_rise}
use Rattle.file_uses.proofs.Steps.{open_lives, raised_same, there_found}
use Rattle.file_uses.proofs.uses.FileUses.open.Goals as goal

pub take_out-requires : goal.take_out-requires
take_out-requires c = subst Rises (sym c.self.invariant.dead) (picked_rise (is_dead c.self.inside.handles) c.self.inside.files.entries c.self.invariant.files)

pub invariant_of-self-2 : goal.invariant_of-self-2
invariant_of-self-2 c =
    let k = c.args.ino in
    let files = c.self.inside.files.entries in
    let hs = c.self.inside.handles in
    let new : Handle = record { client = c.args.client; handle = c.args.handle; ino = k; writable = c.args.writable } in
    let it = there_found (record { files = files; handles = hs }) c.args.self.now c.self.view_is k c.requires.there in
    let same : (ino : ℕ) → (ino == k.0) ≡ false → is_open (hs ++ new ∷ []) ino ≡ is_open hs ino = λ ino off. open_more hs new ino (swapped ino k.0 off) in
    let lives : is_dead (hs ++ new ∷ []) (k.0, it.0) ≡ false = open_lives (hs ++ new ∷ []) k.0 it.0 (open_new hs new) in
    record {
      files = c.self.invariant.files;
      dead = c.take_out.ensures.items ∙ ap (without k) c.self.invariant.dead
          ∙ raised_same files hs (hs ++ new ∷ []) k c.self.invariant.files same it.0 it.1 lives ∙ ap (λ (handles : List Handle). picked (is_dead handles) files) (sym c.in_ok-push.ensures.opened);
      room = omega (arith, c.self.invariant.room, c.take_out.ensures.capacity);
    }

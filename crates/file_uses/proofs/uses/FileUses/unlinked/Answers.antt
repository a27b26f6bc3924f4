use Rattle.std.proofs.Common.{◌≡◌, ℕ, ◌<◌, ◌==◌, Bool, false, cond, List, length, Some, refl, sym, ap, subst, ◌∙◌, arith}
use Rattle.std.specs.List.{AllByRecursion}
use Rattle.snap_ids.specs.declared.id.Ino.{Ino}
use Rattle.file_uses.specs.declared.files.FileUse.{FileUse}
use Rattle.file_uses.specs.Uses.{Uses, is_dead, unlinked, changed, one_less}
use Rattle.file_uses.specs.Rising.{KeysRise, Rises, with_ino}
use Rattle.file_uses.proofs.Deaths.{picked, picked_rise, absent, set_changed, changed_rise, changed_count}
use Rattle.file_uses.proofs.Steps.{found_in, buried, counted_lives}
use Rattle.file_uses.proofs.uses.FileUses.unlinked.Goals as goal

pub note-requires-clause-rising : goal.note-requires-clause-rising
note-requires-clause-rising c = subst Rises (sym c.self.invariant.dead) (picked_rise (is_dead c.self.inside.handles) c.self.inside.files.entries c.self.invariant.files)

pub note-requires-clause-absent : goal.note-requires-clause-absent
note-requires-clause-absent c =
    let k = c.args.ino in
    let files = c.self.inside.files.entries in
    let hs = c.self.inside.handles in
    let found : found_in files k ≡ Some c.in-Some.file = sym c.in-Some.ensures in
    let lived : is_dead hs (k.0, c.in-Some.file) ≡ false = counted_lives (record { files = files; handles = hs }) c.args.self.now c.self.view_is k c.in-Some.file found c.requires.named in
    subst (AllByRecursion (λ (other : Ino). (other.0 == k.0) ≡ false)) (sym c.self.invariant.dead) (absent (is_dead hs) k files c.in-Some.file c.self.invariant.files found lived).0

pub note-requires-clause-room : goal.note-requires-clause-room
note-requires-clause-room c =
    let k = c.args.ino in
    let files = c.self.inside.files.entries in
    let hs = c.self.inside.handles in
    let found : found_in files k ≡ Some c.in-Some.file = sym c.in-Some.ensures in
    let lived : is_dead hs (k.0, c.in-Some.file) ≡ false = counted_lives (record { files = files; handles = hs }) c.args.self.now c.self.view_is k c.in-Some.file found c.requires.named in
    let few : length (picked (is_dead hs) files) < length files = (absent (is_dead hs) k files c.in-Some.file c.self.invariant.files found lived).1 in
    let same : length c.self.inside.dead.items ≡ length (picked (is_dead hs) files) = ap length c.self.invariant.dead in
    omega (arith, c.self.invariant.room, c.self.inside.dead.ok)

pub invariant_of-self : goal.invariant_of-self
invariant_of-self c =
    let k = c.args.ino in
    let files = c.self.inside.files.entries in
    let hs = c.self.inside.handles in
    let file = c.in-Some.file in
    let found : found_in files k ≡ Some file = sym c.in-Some.ensures in
    let lived : is_dead hs (k.0, file) ≡ false = counted_lives (record { files = files; handles = hs }) c.args.self.now c.self.view_is k file found c.requires.named in
    let entries : c.set.new.files.entries ≡ changed k one_less files = c.set.ensures.entries ∙ set_changed k one_less file files c.self.invariant.files found in
    let long : length c.set.new.files.entries ≡ length files = ap length entries ∙ changed_count k one_less files in
    let dies : Bool = c.is_dead-is_dead.result in
    record {
      files = subst KeysRise (sym entries) (changed_rise k one_less files c.self.invariant.files);
      dead = c.note.ensures.items ∙ ap (λ (inos : List Ino). cond c.is_dead-is_dead.result (with_ino k inos) inos) c.self.invariant.dead
          ∙ buried files hs hs k one_less file c.self.invariant.files found (λ ino off. refl) c.is_dead-is_dead.result (sym c.is_dead-is_dead.ensures) lived ∙ ap (picked (is_dead hs)) (sym entries);
      room = omega (arith, c.self.invariant.room, c.note.ensures.capacity);
    }

pub returns : goal.returns
returns c =
    let k = c.args.ino in
    let files = c.self.inside.files.entries in
    let found : found_in files k ≡ Some c.in-Some.file = sym c.in-Some.ensures in
    let entries : c.set.new.files.entries ≡ changed k one_less files = c.set.ensures.entries ∙ set_changed k one_less c.in-Some.file files c.self.invariant.files found in
    let same = ap (λ (es : List (ℕ × FileUse)). let u : Uses = record { files = es; handles = c.self.inside.handles } in u) entries ∙ ap (unlinked k) c.self.view_is in
    record { unlinked = same }

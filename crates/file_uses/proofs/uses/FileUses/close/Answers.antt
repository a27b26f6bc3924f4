use Rattle.std.proofs.Common.{◌≡◌, ℕ, ◌<◌, ◌==◌, true, false, cond, List, length, None, Some, sym, ap, subst, ◌∙◌, arith}
use Rattle.std.specs.List.{AllByRecursion}
use Rattle.snap_ids.specs.declared.id.Ino.{Ino}
use Rattle.plain_tree.specs.State.{Handle}
use Rattle.plain_tree.specs.Change.{is_handle, open_of}
use Rattle.file_uses.specs.Handles.{is_open}
use Rattle.file_uses.specs.Uses.{Uses, is_dead, closed}
use Rattle.file_uses.specs.Rising.{Rises, with_ino}
use Rattle.file_uses.proofs.Apart.{open_found, none_passes}
use Rattle.file_uses.proofs.Deaths.{picked, picked_rise, absent}
use Rattle.file_uses.proofs.Steps.{found_in, open_lives, buried_same, missing_same, none_opened, some_opened}
use Rattle.file_uses.proofs.uses.FileUses.close.Goals as goal

pub returns-in_default-clause-closed : goal.returns-in_default-clause-closed
returns-in_default-clause-closed c =
    let hs = c.self.inside.handles in
    let none : open_of hs c.args.client c.args.handle ≡ None = none_opened (open_of hs c.args.client c.args.handle) c.in_default.ensures in
    sym c.self.view_is
    ∙ ap (λ (handles : List Handle). let u : Uses = record { files = c.self.inside.files.entries; handles = handles } in u) (sym (none_passes (is_handle c.args.client c.args.handle) hs none))
    ∙ ap (closed c.args.client c.args.handle) c.self.view_is

pub note-requires-clause-rising : goal.note-requires-clause-rising
note-requires-clause-rising c = subst Rises (sym c.self.invariant.dead) (picked_rise (is_dead c.self.inside.handles) c.self.inside.files.entries c.self.invariant.files)

pub note-requires-clause-absent : goal.note-requires-clause-absent
note-requires-clause-absent c =
    let k = c.in-Some.opened.ino in
    let files = c.self.inside.files.entries in
    let hs = c.self.inside.handles in
    let it = some_opened (open_of hs c.args.client c.args.handle) c.in-Some.opened c.in-Some.ensures in
    let file = c.in-Some-use_of.file in
    let found : found_in files k ≡ Some file = sym c.in-Some-use_of.ensures in
    let lived : is_dead hs (k.0, file) ≡ false = open_lives hs k.0 file (subst (λ (i : Ino). is_open hs i.0 ≡ true) it.2 (open_found (is_handle c.args.client c.args.handle) hs it.0 it.1)) in
    subst (AllByRecursion (λ (other : Ino). (other.0 == k.0) ≡ false)) (sym c.self.invariant.dead) (absent (is_dead hs) k files file c.self.invariant.files found lived).0

pub note-requires-clause-room : goal.note-requires-clause-room
note-requires-clause-room c =
    let k = c.in-Some.opened.ino in
    let files = c.self.inside.files.entries in
    let hs = c.self.inside.handles in
    let it = some_opened (open_of hs c.args.client c.args.handle) c.in-Some.opened c.in-Some.ensures in
    let file = c.in-Some-use_of.file in
    let found : found_in files k ≡ Some file = sym c.in-Some-use_of.ensures in
    let lived : is_dead hs (k.0, file) ≡ false = open_lives hs k.0 file (subst (λ (i : Ino). is_open hs i.0 ≡ true) it.2 (open_found (is_handle c.args.client c.args.handle) hs it.0 it.1)) in
    let few : length (picked (is_dead hs) files) < length files = (absent (is_dead hs) k files file c.self.invariant.files found lived).1 in
    let long : length c.self.inside.dead.items ≡ length (picked (is_dead hs) files) = ap length c.self.invariant.dead in
    omega (arith, c.self.invariant.room, c.self.inside.dead.ok)

pub invariant_of-self : goal.invariant_of-self
invariant_of-self c =
    let k = c.in-Some.opened.ino in
    let files = c.self.inside.files.entries in
    let hs = c.self.inside.handles in
    let it = some_opened (open_of hs c.args.client c.args.handle) c.in-Some.opened c.in-Some.ensures in
    let file = c.in-Some-use_of.file in
    let found : found_in files k ≡ Some file = sym c.in-Some-use_of.ensures in
    let lived : is_dead hs (k.0, file) ≡ false = open_lives hs k.0 file (subst (λ (i : Ino). is_open hs i.0 ≡ true) it.2 (open_found (is_handle c.args.client c.args.handle) hs it.0 it.1)) in
    let same : (ino : ℕ) → (ino == k.0) ≡ false → is_open c.remove.new.self ino ≡ is_open hs ino = λ ino off. c.remove.ensures.others it.0 it.1 ino (subst (λ (i : Ino). (ino == i.0) ≡ false) (sym it.2) off) in
    record {
      files = c.self.invariant.files;
      dead = c.note.ensures.items ∙ ap (λ (inos : List Ino). cond c.is_dead-is_dead.result (with_ino k inos) inos) c.self.invariant.dead
          ∙ buried_same files hs c.remove.new.self k c.self.invariant.files same file c.is_dead-is_dead.result found (sym c.is_dead-is_dead.ensures) lived;
      room = omega (arith, c.self.invariant.room, c.note.ensures.capacity);
    }

pub invariant_of-self-in_default-use_of : goal.invariant_of-self-in_default-use_of
invariant_of-self-in_default-use_of c =
    let k = c.in-Some.opened.ino in
    let files = c.self.inside.files.entries in
    let hs = c.self.inside.handles in
    let it = some_opened (open_of hs c.args.client c.args.handle) c.in-Some.opened c.in-Some.ensures in
    let same : (ino : ℕ) → (ino == k.0) ≡ false → is_open c.remove.new.self ino ≡ is_open hs ino = λ ino off. c.remove.ensures.others it.0 it.1 ino (subst (λ (i : Ino). (ino == i.0) ≡ false) (sym it.2) off) in
    record {
      files = c.self.invariant.files;
      dead = c.self.invariant.dead ∙ missing_same files hs c.remove.new.self k c.self.invariant.files same (sym c.in_default-use_of.ensures);
      room = c.self.invariant.room;
    }

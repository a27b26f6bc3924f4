use Rattle.std.proofs.Common.{◌≡◌, ℕ, List, length, Some, refl, sym, ap, subst, ◌∙◌, arith}
use Rattle.file_uses.specs.declared.files.FileUse.{FileUse}
use Rattle.file_uses.specs.Uses.{Uses, is_dead, linked, changed, one_more}
use Rattle.file_uses.specs.Rising.{KeysRise, Rises, without}
use Rattle.file_uses.proofs.Deaths.{picked, picked_rise, set_changed, changed_rise, changed_count}
use Rattle.file_uses.proofs.Steps.{found_in, more_lives, raised}
use Rattle.file_uses.proofs.uses.FileUses.linked.Goals as goal

pub take_out-requires : goal.take_out-requires
take_out-requires c = subst Rises (sym c.self.invariant.dead) (picked_rise (is_dead c.self.inside.handles) c.self.inside.files.entries c.self.invariant.files)

pub invariant_of-self : goal.invariant_of-self
invariant_of-self c =
    let k = c.args.ino in
    let files = c.self.inside.files.entries in
    let hs = c.self.inside.handles in
    let file = c.in-Some.file in
    let found : found_in files k ≡ Some file = sym c.in-Some.ensures in
    let entries : c.set.new.files.entries ≡ changed k one_more files = c.set.ensures.entries ∙ set_changed k one_more file files c.self.invariant.files found in
    let long : length c.set.new.files.entries ≡ length files = ap length entries ∙ changed_count k one_more files in
    record {
      files = subst KeysRise (sym entries) (changed_rise k one_more files c.self.invariant.files);
      dead = c.take_out.ensures.items ∙ ap (without k) c.self.invariant.dead
          ∙ raised files hs hs k one_more file c.self.invariant.files found (λ ino off. refl) (more_lives hs k.0 file) ∙ ap (picked (is_dead hs)) (sym entries);
      room = omega (arith, c.self.invariant.room, c.take_out.ensures.capacity);
    }

pub returns-clause-linked : goal.returns-clause-linked
returns-clause-linked c =
    let k = c.args.ino in
    let files = c.self.inside.files.entries in
    let found : found_in files k ≡ Some c.in-Some.file = sym c.in-Some.ensures in
    let entries : c.set.new.files.entries ≡ changed k one_more files = c.set.ensures.entries ∙ set_changed k one_more c.in-Some.file files c.self.invariant.files found in
    ap (λ (es : List (ℕ × FileUse)). let u : Uses = record { files = es; handles = c.self.inside.handles } in u) entries ∙ ap (linked k) c.self.view_is

use Rattle.std.proofs.Common.{◌≡◌, ℕ, ◌+◌, false, List, length, None, refl, sym, ap, ◌∙◌, arith}
use Rattle.file_uses.specs.declared.files.FileUse.{FileUse}
use Rattle.file_uses.specs.Uses.{Uses, use_of, is_dead, made, with_new, new_use}
use Rattle.file_uses.proofs.Deaths.{picked, picked_new, inserted_new, new_count, keys_rise}
use Rattle.file_uses.proofs.Steps.{found_in}
use Rattle.file_uses.proofs.uses.FileUses.made.Goals as goal

pub invariant_of-self-2 : goal.invariant_of-self-2
invariant_of-self-2 c =
    let k = c.args.ino in
    let files = c.self.inside.files.entries in
    let hs = c.self.inside.handles in
    let none : found_in files k ≡ None = ap (λ (u : Uses). use_of u k) c.self.view_is ∙ c.requires.absent in
    let entries : c.insert.new.self.entries ≡ with_new k files = c.in_ok-insert.ensures.entries ∙ inserted_new k files none in
    let lives : is_dead hs (k.0, new_use) ≡ false = refl in
    let long : length c.insert.new.self.entries ≡ length files + 1 = ap length entries ∙ new_count (is_dead hs) k lives files in
    record {
      files = keys_rise c.insert.new.self.entries c.insert.ensures.ordered;
      dead = c.reserve.ensures.items ∙ c.self.invariant.dead ∙ sym (picked_new (is_dead hs) k lives files) ∙ ap (picked (is_dead hs)) (sym entries);
      room = omega (arith, c.in_ok-reserve.ensures.ok, c.len.ensures.len);
    }

pub returns-clause-made : goal.returns-clause-made
returns-clause-made c =
    let k = c.args.ino in
    let files = c.self.inside.files.entries in
    let none : found_in files k ≡ None = ap (λ (u : Uses). use_of u k) c.self.view_is ∙ c.requires.absent in
    let entries : c.insert.new.self.entries ≡ with_new k files = c.in_ok-insert.ensures.entries ∙ inserted_new k files none in
    ap (λ (es : List (ℕ × FileUse)). let u : Uses = record { files = es; handles = c.self.inside.handles } in u) entries ∙ ap (made k) c.self.view_is

use Rattle.std.proofs.Common.{ℕ, BTreeMap, sym, ap, ◌∙◌}
use Rattle.std.specs.Ordering.{nat_cmp}
use Rattle.std.specs.BTreeMap.{is_at}
use Rattle.file_uses.specs.declared.files.FileUse.{FileUse}
use Rattle.file_uses.proofs.Deaths.{set_missing}
use Rattle.file_uses.proofs.files.set.Goals as goal

pub returns-in_default-clause-entries : goal.returns-in_default-clause-entries
returns-in_default-clause-entries c =
    ap (λ (m : BTreeMap ℕ FileUse). m.entries) c.get_mut.follows.holds-at-none
    ∙ sym (set_missing (is_at (nat_cmp c.args.ino.0)) c.args.files.now.entries c.args.file (sym c.in_default.ensures.value))

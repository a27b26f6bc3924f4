use Rattle.std.proofs.Common.{◌≡◌, true, false, not, sym, ap, ◌∙◌}
use Rattle.snap_realm.proofs.Values.{global_is}
use Rattle.rename_split.proofs.Ends.{stays}
use Rattle.rename_split.proofs.plan.fate_of.Goals as goal

pub opens-requires-clause-no_root : goal.opens-requires-clause-no_root
opens-requires-clause-no_root c = c.requires.no_root (sym c.if-not-global.ensures)

pub opens-requires-clause-apart : goal.opens-requires-clause-apart
opens-requires-clause-apart c = c.requires.apart (sym c.if-not-global.ensures)

pub returns-then-not-global-clause-opens : goal.returns-then-not-global-clause-opens
returns-then-not-global-clause-opens c = λ family stands. c.opens.ensures family stands

pub returns-else-not-global-clause-opens : goal.returns-else-not-global-clause-opens
returns-else-not-global-clause-opens c = λ family stands.
    ap not (c.is_in_global-global.ensures ∙ sym c.if-not-global.ensures) ∙ sym (stays family c.args.ino c.args.dir (sym (global_is c.args.realms.now family stands c.args.ino c.requires.there) ∙ sym c.if-not-global.ensures))

pub returns-then-not-global-clause-global : goal.returns-then-not-global-clause-global
returns-then-not-global-clause-global c = λ family stands. c.is_in_global-global.ensures ∙ global_is c.args.realms.now family stands c.args.ino c.requires.there

pub returns-else-not-global-clause-global : goal.returns-else-not-global-clause-global
returns-else-not-global-clause-global c = λ family stands. c.is_in_global-global.ensures ∙ global_is c.args.realms.now family stands c.args.ino c.requires.there

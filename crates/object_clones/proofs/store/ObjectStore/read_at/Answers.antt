use Rattle.std.proofs.Common.{◌≡◌, true, false, sym, ◌∙◌, refl, ap}
use Rattle.object_log.specs.Bytes.{was_purged}
use Rattle.object_clones.specs.Purged.{has_id}
use Rattle.object_clones.specs.Store.{Shown}
use Rattle.object_clones.proofs.Answered.{snapshot_read, served_read}
use Rattle.object_clones.proofs.store.ObjectStore.read_at.Goals as goal

pub returns-then-has-clause-gone : goal.returns-then-has-clause-gone
returns-then-has-clause-gone c = λ object taken st.
    let is : was_purged c.args.s taken ≡ true = sym (st.purged c.args.s) ∙ sym (ap (λ (v : Shown). has_id v.purged c.args.s) c.self.view_is) ∙ sym c.has.ensures ∙ c.if-has.true in
    (λ h. is, λ h. refl)

pub returns-in-Ok-clause-served : goal.returns-in-Ok-clause-served
returns-in-Ok-clause-served c = λ object taken st.
    c.in-Ok.ensures ∙ served_read c.args.self.now object taken c.args.ino c.args.size c.args.s st

pub returns-in-Ok-clause-bytes : goal.returns-in-Ok-clause-bytes
returns-in-Ok-clause-bytes c = λ object taken st known.
    let kept : was_purged c.args.s taken ≡ false = sym (st.purged c.args.s) ∙ sym (ap (λ (v : Shown). has_id v.purged c.args.s) c.self.view_is) ∙ sym c.has.ensures ∙ c.if-has.false in
    c.in-Ok.ensures ∙ snapshot_read c.args.self.now object taken c.args.ino c.args.size c.args.s st kept known

pub returns-in-Ok-clause-gone : goal.returns-in-Ok-clause-gone
returns-in-Ok-clause-gone c = λ object taken st.
    let kept : was_purged c.args.s taken ≡ false = sym (st.purged c.args.s) ∙ sym (ap (λ (v : Shown). has_id v.purged c.args.s) c.self.view_is) ∙ sym c.has.ensures ∙ c.if-has.false in
    (λ h. cc, λ h. cc)

pub returns-in-Err-clause-gone : goal.returns-in-Err-clause-gone
returns-in-Err-clause-gone c = λ object taken st.
    let kept : was_purged c.args.s taken ≡ false = sym (st.purged c.args.s) ∙ sym (ap (λ (v : Shown). has_id v.purged c.args.s) c.self.view_is) ∙ sym c.has.ensures ∙ c.if-has.false in
    (λ h. cc, λ h. cc)

use Rattle.std.proofs.Common.{◌≡◌, sym, subst, ap, ◌∙◌, List, ℕ, ◌∷◌, arith}
use Rattle.mds_journal.specs.Stops.{IsOpened, IsClosed}
use Rattle.journal_format.proofs.Formats.{IsBytes, IsBytes-rest}
use Rattle.mds_journal.proofs.Bodies.{no_body, no_entries, batch_is, decoded}
use Rattle.mds_journal.proofs.scan.next_batch.Goals as goal

pub returns-in_default-take_body : goal.returns-in_default-take_body
returns-in_default-take_body c =
    let is : c.args.bytes.now ≡ 1 ∷ c.in-Some.rest.now = c.in-Some.ensures.some ∙ ap (λ (g : ℕ). g ∷ c.in-Some.rest.now) c.if-gate-ne1.false in
    subst (λ (l : List ℕ). (IsOpened l → ⊥) × (IsClosed l → ⊥)) (sym is) (no_body c.in-Some.rest.now (sym c.in_default-take_body.ensures))

pub returns-in-Ok-None : goal.returns-in-Ok-None
returns-in-Ok-None c =
    let is : c.args.bytes.now ≡ 1 ∷ c.in-Some.rest.now = c.in-Some.ensures.some ∙ ap (λ (g : ℕ). g ∷ c.in-Some.rest.now) c.if-gate-ne1.false in
    subst (λ (l : List ℕ). (IsOpened l → ⊥) × (IsClosed l → ⊥)) (sym is) (no_entries c.in-Some.rest.now c.in-Some-take_body.body.now c.in-Some-take_body.behind.now (sym c.in-Some-take_body.ensures)
    (λ entries within bytes_are. cc (c.in-Ok-None.ensures.only entries within bytes_are, c.in-Ok-None.field-0-is)))

pub returns-in-Ok-Some : goal.returns-in-Ok-Some
returns-in-Ok-Some c =
    let is : c.args.bytes.now ≡ 1 ∷ c.in-Some.rest.now = c.in-Some.ensures.some ∙ ap (λ (g : ℕ). g ∷ c.in-Some.rest.now) c.if-gate-ne1.false in
    let read = decoded c.in-Ok-Some.field-0 c.in-Ok-Some.batch c.in-Some-take_body.body.now c.in-Ok-Some.field-0-is c.in-Ok-Some.ensures.found in
    let found = batch_is c.in-Some.rest.now c.in-Some-take_body.body.now c.in-Some-take_body.behind.now c.in-Ok-Some.batch (IsBytes-rest 1 c.in-Some.rest.now (subst IsBytes is (λ i. omega (arith, c.type_inv.bytes i)))) (sym c.in-Some-take_body.ensures) read.0 read.1 in
    (found.0, is ∙ found.1)

use Rattle.std.proofs.Common.{List, None, Some, ◌∙◌, ap, sym, subst}
use Rattle.snap_ids.specs.declared.id.SnapId.{SnapId}
use Rattle.snap_table.specs.declared.op.TableOp.TheVariants.{Create, Destroy}
use Rattle.snap_table.specs.declared.table.SnapTable.TheInside.{Inside}
use Rattle.snap_table.specs.Rising.{without}
use Rattle.snap_table.specs.Table.{WellFormed}
use Rattle.snap_table.specs.Fields.{table_of}
use Rattle.snap_table.proofs.Steps.{well_formed-after}
use Rattle.snap_table.proofs.table.SnapTable.commit.Goals as goal
use Rattle.snap_table.proofs.table.SnapTable.commit.Goals.{in-Create, in-Destroy}

-- what an operation leaves, with nothing outstanding
abbrev idle : Inside → Type 0
idle fields = WellFormed (record { last = fields.last; live = fields.live.items; unpurged = fields.unpurged.items; outstanding = None })

pub invariant_of-self : goal.invariant_of-self
invariant_of-self c =
    let with : List SnapId → List SnapId → Type 0 = λ live unpurged. WellFormed (record { last = c.self.inside.last; live = live; unpurged = unpurged; outstanding = None }) in
    let table : idle c.match-op.self-inside =
    elim c.match-op.branch [
      | in-Create w ↦
          subst idle (sym w.self-inside-is)
          (subst (λ live. with live c.self.inside.unpurged.items) (sym w.put.ensures)
          (well_formed-after (table_of c.self.inside) (Create w.in-Create.id) (c.in_ok-op.was ∙ ap Some w.in-Create.is) c.self.invariant.table))
      | in-Destroy w ↦
          subst idle (sym w.self-inside-is)
          (subst (λ live. with live w.put-in-Destroy.new.ids.items) (sym w.take_out.ensures.items)
          (subst (λ unpurged. with (without w.in-Destroy.id c.self.inside.live.items) unpurged) (sym w.put-in-Destroy.ensures)
          (well_formed-after (table_of c.self.inside) (Destroy w.in-Destroy.id) (c.in_ok-op.was ∙ ap Some w.in-Destroy.is) c.self.invariant.table)))
    ] in
    record { table = table; room = tt }

use Rattle.std.proofs.Common.{Bool, false, [], ◌∷◌, refl, sym, subst, ◌∙◌}
use Rattle.std.specs.Prelude.{if◌then◌else◌}
use Rattle.plain_types.specs.declared.entry.Entry.{Entry}
use Rattle.plain_types.specs.declared.entry.What.TheVariants.{Purgedone}
use Rattle.step_table.specs.Acts.{Buffer, act, own_entry}
use Rattle.mds_state.specs.Acted.{Acted}
use Rattle.mds_state.specs.Stands.{MayFollow, StandsFor}
use Rattle.mds_flushes.proofs.Follows.{purge_follows}
use Rattle.mds_flushes.proofs.Taken.{stands_by}
use Rattle.mds_flushes.proofs.report.note_purged.Goals as goal

pub buffer-requires : goal.buffer-requires
buffer-requires c =
    let is = c.requires in
    record {
      may = record {
        taken = is.taken;
        state = is.state;
        stands = is.stands;
        may =
            subst (λ (e : Entry). MayFollow is.state.clients is.state.entries e) (sym c.own_entry.ensures)
            (purge_follows is.state c.args.id (sym (c.is_to_purge.ensures is.state is.taken is.stands) ∙ c.if-is_to_purge.true));
      };
    }

pub returns-then-is_to_purge-clause-acts : goal.returns-then-is_to_purge-clause-acts
returns-then-is_to_purge-clause-acts c = λ s stands.
    let so = sym (c.is_to_purge.ensures s s.hand stands) ∙ c.if-is_to_purge.true in
    subst (λ (b : Bool). Acted c.buffer.new.self s (if b then Buffer (own_entry (Purgedone c.args.id)) ∷ [] else []) false) (sym so) (
      stands_by c.buffer.new.self s.hand _
          (subst (λ (e : Entry). StandsFor c.buffer.new.self s.hand (act s (Buffer e))) c.own_entry.ensures
          (c.in_ok-buffer.ensures.table s s.hand stands (subst (λ (e : Entry). MayFollow s.clients s.entries e) (sym c.own_entry.ensures) (purge_follows s c.args.id so)))),
      refl,
    )

pub returns-clause-acts : goal.returns-clause-acts
returns-clause-acts c = λ s stands.
    subst (λ (b : Bool). Acted c.args.state.now s (if b then Buffer (own_entry (Purgedone c.args.id)) ∷ [] else []) false)
    (sym c.if-is_to_purge.false ∙ c.is_to_purge.ensures s s.hand stands) (stands, refl)

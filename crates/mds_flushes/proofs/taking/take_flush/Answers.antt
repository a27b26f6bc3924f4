use Rattle.std.proofs.Common.{Bool, ℕ, ◌≤◌, ap, sym, subst, ◌∙◌}
use Rattle.std.specs.List.{list_any}
use Rattle.plain_types.specs.declared.entry.Entry.{Entry}
use Rattle.step_table.specs.Acts.{Buffer, act, acts}
use Rattle.step_table.specs.Flushes.{flush_settles}
use Rattle.step_table.specs.Requests.{opens}
use Rattle.mds_state.specs.Stands.{MayFollow, StandsFor}
use Rattle.mds_flushes.proofs.Follows.{flush_follows}
use Rattle.mds_flushes.proofs.Taken.{opens_new, taken_if}
use Rattle.mds_flushes.proofs.taking.take_flush.Goals as goal

pub returns-then-was_taken-clause-opened : goal.returns-then-was_taken-clause-opened
returns-then-was_taken-clause-opened c = λ s taken stands.
    ap (λ (b : Bool). list_any opens (taken_if c.args.client c.args.flush.now b)) (sym c.if-was_taken.true ∙ c.was_taken.ensures s taken stands)

pub returns-then-was_taken-clause-table : goal.returns-then-was_taken-clause-table
returns-then-was_taken-clause-table c = λ s taken stands known.
    subst (λ (b : Bool). StandsFor c.args.state.now taken (acts s (taken_if c.args.client c.args.flush.now b)))
    (sym c.if-was_taken.true ∙ c.was_taken.ensures s taken stands) stands

pub buffer-requires : goal.buffer-requires
buffer-requires c =
    let is = c.requires.known in
    record {
      may = record {
        taken = is.taken;
        state = is.state;
        stands = is.stands;
        may =
            subst (λ (e : Entry). MayFollow is.state.clients is.state.entries e) (sym c.entry_of.ensures)
            (flush_follows is.state c.args.client c.args.flush.now c.requires.from_one
            (subst (λ (n : ℕ). c.args.client ≤ n) is.stands.clients c.requires.upto) is.known c.requires.fits
            (sym (c.was_taken.ensures is.state is.taken is.stands) ∙ c.if-was_taken.false));
      };
    }

pub returns-clause-opened : goal.returns-clause-opened
returns-clause-opened c = λ s taken stands.
    opens_new c.args.client c.args.flush.now
    ∙ ap (λ (b : Bool). list_any opens (taken_if c.args.client c.args.flush.now b)) (sym c.if-was_taken.false ∙ c.was_taken.ensures s taken stands)

pub returns-clause-table : goal.returns-clause-table
returns-clause-table c = λ s taken stands known.
    let new = sym (c.was_taken.ensures s taken stands) ∙ c.if-was_taken.false in
    let follows =
    flush_follows s c.args.client c.args.flush.now c.requires.from_one
    (subst (λ (n : ℕ). c.args.client ≤ n) stands.clients c.requires.upto) known c.requires.fits new in
    subst (λ (b : Bool). StandsFor c.settle.new.state taken (acts s (taken_if c.args.client c.args.flush.now b))) (sym new)
    (subst (λ (e : Entry). StandsFor c.settle.new.state taken (act (act s (Buffer e)) (flush_settles c.args.client c.args.flush.now))) c.entry_of.ensures
    (c.settle.ensures.table _ taken
    (c.in_ok-buffer.ensures.table s taken stands (subst (λ (e : Entry). MayFollow s.clients s.entries e) (sym c.entry_of.ensures) follows))))

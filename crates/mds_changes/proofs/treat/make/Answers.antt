use Rattle.std.proofs.Common.{◌≡◌, List, None, Some, ◌∙◌, sym, subst}
use Rattle.step_table.specs.Acts.{Act, acts}
use Rattle.mds_state.specs.Stands.{StandsFor}
use Rattle.mds_changes.specs.Decided.{prepared_in}
use Rattle.mds_changes.proofs.Follows.{can_prepare, entry_is, made_follows, may_make}
use Rattle.mds_changes.proofs.Makes.{table_made, tree_made}
use Rattle.mds_changes.proofs.treat.make.Goals as goal

pub prepare-requires : goal.prepare-requires
prepare-requires c =
    let may = c.requires.may in
    record {
      may = record {
        state = may.state;
        stands = may.stands;
        fit = may.fit;
        can = can_prepare may.state c.args.asked may.made c.args.entry.what c.in-Some.what may.is.comes may.is.written.says (sym c.prepared_by.ensures ∙ c.in-Some.is);
      };
    }

pub make_effect-requires-clause-may : goal.make_effect-requires-clause-may
make_effect-requires-clause-may c = may_make c.args.state.now c.args.asked c.args.entry c.requires.may (sym c.prepared_by.ensures ∙ c.in-None.is)

pub returns-in_ok-prepare-in-Some-clause-table : goal.returns-in_ok-prepare-in-Some-clause-table
returns-in_ok-prepare-in-Some-clause-table c = λ s made stands fit is.
    let prepared : prepared_in c.args.entry.what ≡ Some c.in-Some.what = sym c.prepared_by.ensures ∙ c.in-Some.is in
    subst (λ (list : List Act). StandsFor c.prepare.new.state None (acts s list)) (sym (table_made c.args.alone s c.args.entry.what c.in-Some.what made is.written.says prepared))
    (c.in_ok-prepare-in-Some.ensures.table s stands fit (can_prepare s c.args.asked made c.args.entry.what c.in-Some.what is.comes is.written.says prepared))

pub returns-in_ok-make_effect-in-None-clause-table : goal.returns-in_ok-make_effect-in-None-clause-table
returns-in_ok-make_effect-in-None-clause-table c = λ s made stands fit is.
    let none : prepared_in c.args.entry.what ≡ None = sym c.prepared_by.ensures ∙ c.in-None.is in
    subst (λ (list : List Act). StandsFor c.make_effect.new.state None (acts s list)) (sym (tree_made c.args.alone s c.args.entry.what made is.written.says none))
    (c.in_ok-make_effect-in-None.ensures.table s made stands (made_follows s c.args.asked made c.args.entry fit is none) is.written.says (entry_is s c.args.asked made c.args.entry is))

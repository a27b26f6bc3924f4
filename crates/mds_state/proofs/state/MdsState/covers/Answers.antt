use Rattle.std.proofs.Common.{◌≡◌, true, rules, ◌&&◌, Bool, ap, sym, ◌∙◌}
use Rattle.snap_ids.specs.Context.{Context, is_listed}
use Rattle.plain_journal.specs.Coverage.{covering}
use Rattle.plain_journal.specs.Entries.{state_after}
use Rattle.plain_journal.specs.Legal.{is_made_file}
use Rattle.mds_state.proofs.Owed.{listed_is}
use Rattle.mds_state.proofs.state.MdsState.covers.Goals as goal

pub returns : goal.returns
returns c = λ s taken stands fresh.
    let known : c.knows_file.result ≡ true = search rules in
    let file : is_made_file (state_after s.entries) c.args.ino ≡ true = sym (c.knows_file.ensures s taken stands) ∙ known in
    c.knows.ensures
    ∙ ap (λ (seen : Context). is_listed c.args.id seen.ids) (c.in_ok-seen.ensures s taken stands file)
    ∙ listed_is s.entries c.args.id c.args.ino fresh
    ∙ ap (λ (b : Bool). b && is_listed c.args.id (covering s.entries c.args.ino)) (sym file)

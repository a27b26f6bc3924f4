use Rattle.std.proofs.Common.{ap, ◌∙◌}
use Rattle.snap_ids.specs.Context.{Context}
use Rattle.snap_ids.specs.Traces.{from_id}
use Rattle.realm_story.specs.Family.{birth_of}
use Rattle.snap_realm.proofs.Values.{effective_law}
use Rattle.snap_realm.proofs.tree.RealmTree.effective.Goals as goal

pub returns-clause-story : goal.returns-clause-story
returns-clause-story c = λ family stands.
    ap (from_id (birth_of family c.args.ino)) (c.from_vec.ensures ∙ c.in_ok-ids.ensures ∙ c.ids-listed.ensures.ids ∙ ap (λ (x : Context). x.ids) c.in_ok-context.ensures.records)
    ∙ effective_law c.args.self.now family stands c.args.ino c.requires.there

pub returns-clause-records : goal.returns-clause-records
returns-clause-records c = c.from_vec.ensures ∙ c.in_ok-ids.ensures ∙ c.ids-listed.ensures.ids ∙ ap (λ (x : Context). x.ids) c.in_ok-context.ensures.records

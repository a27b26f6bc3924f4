use Rattle.std.proofs.Common.{map, ap, sym, ◌∙◌}
use Rattle.snap_ids.specs.Traces.{context_of}
use Rattle.realm_story.specs.Family.{birth_of}
use Rattle.snap_realm.specs.Tree.{trace_of}
use Rattle.snap_realm.proofs.Values.{trace_law}
use Rattle.snap_realm.proofs.Infos.{own_part, realms_law}
use Rattle.snap_realm.proofs.tree.RealmTree.trace.Goals as goal

pub returns-clause-story : goal.returns-clause-story
returns-clause-story c = λ family stands.
    ap (λ t. context_of t (birth_of family c.args.ino)) (c.from_vec.ensures ∙ c.in_ok-realms.ensures.records)
    ∙ ap (context_of (trace_of c.args.self.now c.args.ino)) (sym (stands.births c.args.ino))
    ∙ trace_law c.args.self.now family stands c.args.ino c.requires

pub returns-clause-realms : goal.returns-clause-realms
returns-clause-realms c = λ family stands. ap (map own_part) (c.from_vec.ensures ∙ c.in_ok-realms.ensures.records) ∙ realms_law c.args.self.now family stands c.args.ino c.requires

use Rattle.std.proofs.Common.{◌≡◌, ◌≤◌, ap, ◌∙◌, arith}
use Rattle.snap_ids.specs.declared.id.SnapId.{SnapId}
use Rattle.snap_ids.specs.Traces.{context_of}
use Rattle.snap_realm.specs.Tree.{Tree, trace_of, birth_of}
use Rattle.snap_realm.proofs.Values.{trace_law}
use Rattle.snap_realm.proofs.tree.RealmTree.context.Goals as goal

pub returns-clause-story : goal.returns-clause-story
returns-clause-story c = λ family stands.
    let known : c.birth-birth.result ≡ birth_of c.args.self.now c.args.ino = c.birth-birth.ensures ∙ ap (λ t. birth_of t c.args.ino) c.self.view_is in
    let low : c.birth-birth.result.0 ≤ 4611686018427387904 = omega (arith, ap (λ (s : SnapId). s.0) (known ∙ stands.births c.args.ino), stands.born c.args.ino, c.self.invariant, ap (λ (t : Tree). t.applied.0) c.self.view_is) in
    c.in_ok-context.ensures.records
    ∙ ap (context_of (trace_of c.args.self.now c.args.ino)) (c.capped-first.ensures.same low ∙ known)
    ∙ trace_law c.args.self.now family stands c.args.ino c.requires.there

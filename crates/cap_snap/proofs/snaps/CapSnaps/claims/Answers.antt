use Rattle.std.proofs.Common.{◌≡◌, length, ap, arith}
use Rattle.held_files.specs.Files.{HeldFiles}
use Rattle.cap_snap.proofs.Stands.{one_claim}
use Rattle.cap_snap.proofs.snaps.CapSnaps.claims.Goals as goal

pub loop-at-preserved : goal.loop-at-preserved
loop-at-preserved c =
    let same : length c.self.inside.files.entries ≡ length c.args.self.now = ap (λ (files : HeldFiles). length files) c.self.view_is in
    one_claim c.args.self.now c.loop-at.at c.loop-at.list.items c.push_claim.new.list.items (omega (arith, same, c.loop-at-test.true, c.len-at-end.ensures.len))
    c.loop-at.invariant c.in_ok-push_claim.ensures

use Rattle.std.proofs.Common.{ap, ◌∙◌}
use Rattle.held_files.specs.Files.{file_of}
use Rattle.cap_snap.proofs.Stands.{found_held}
use Rattle.cap_snap.proofs.snaps.CapSnaps.file.Goals as goal

pub returns-clause-none : goal.returns-clause-none
returns-clause-none c = found_held (file_of c.args.ino c.args.self.now) c.in_ok-file.file.now
    (c.in_ok-file.ensures.value ∙ ap (file_of c.args.ino) c.self.view_is)

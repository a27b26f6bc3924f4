use Rattle.std.proofs.Common.{ap, ◌∙◌}
use Rattle.held_files.specs.Files.{is_writer}
use Rattle.step_table.specs.ClientState.{Client}
use Rattle.client_state.proofs.Changed.{is_granted, now_written}
use Rattle.client_state.proofs.state.ClientState.grant.Goals as goal

pub hold-requires : goal.hold-requires
hold-requires c = ap (λ (s : Client). is_writer c.args.ino s.files) c.self.view_is ∙ c.requires.not_held

pub returns-clause-granted : goal.returns-clause-granted
returns-clause-granted c = is_granted _ c.args.self.now c.self.view_is c.args.ino c.args.mode c.args.size c.args.settled c.args.file.now _ _
    c.in_ok-hold.ensures.held c.in_ok-grant.ensures

pub returns-clause-writes : goal.returns-clause-writes
returns-clause-writes c = now_written c.args.ino c.args.mode c.args.size c.args.settled _ _ c.in_ok-hold.ensures.held

use Rattle.held_files.specs.Files.{recalled}
use Rattle.client_state.proofs.Changed.{file_changed}
use Rattle.client_state.proofs.state.ClientState.recalled.Goals as goal

pub returns : goal.returns
returns c = file_changed _ c.args.self.now c.self.view_is c.args.ino recalled _ c.recall.ensures

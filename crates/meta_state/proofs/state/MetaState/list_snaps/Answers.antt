use Rattle.journal_realms.specs.Told.{family_of}
use Rattle.meta_state.proofs.Walks.{directory_there, realms_there, realms_outside}
use Rattle.meta_state.proofs.Lives.{inside_stands, snaps_said}
use Rattle.meta_state.proofs.state.MetaState.list_snaps.Goals as goal

-- src/answer.rt
pub names-requires-clause-there : goal.names-requires-clause-there
names-requires-clause-there c =
    let is = c.requires.directory in
    realms_there is.entries is.stands.journal c.self.inside.realms (inside_stands _ c.args.self.now is.entries c.self.view_is is.stands) c.args.dir (directory_there is.entries is.stands.journal c.args.dir is.there)

pub names-requires-clause-outside : goal.names-requires-clause-outside
names-requires-clause-outside c =
    let is = c.requires.directory in
    realms_outside is.entries is.stands.journal c.self.inside.realms (inside_stands _ c.args.self.now is.entries c.self.view_is is.stands) c.args.dir is.there

pub returns-in-Ok : goal.returns-in-Ok
returns-in-Ok c entries stands =
    snaps_said c.args.self.now entries stands c.args.dir c.in-Ok.entries c.requires.directory
    (c.in-Ok.ensures.story (family_of entries) (inside_stands _ c.args.self.now entries c.self.view_is stands))

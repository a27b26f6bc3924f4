use Rattle.journal_realms.specs.Told.{family_of}
use Rattle.meta_state.proofs.Lives.{inode_inside, inside_stands, realm_said}
use Rattle.meta_state.proofs.state.MetaState.realm_of.Goals as goal

-- src/answer.rt
pub context-requires : goal.context-requires
context-requires c = record { there = inode_inside _ c.args.self.now c.args.ino c.self.view_is c.requires.there }

pub realm_of-requires : goal.realm_of-requires
realm_of-requires c = inode_inside _ c.args.self.now c.args.ino c.self.view_is c.requires.there

pub returns-in-Ok : goal.returns-in-Ok
returns-in-Ok c entries stands =
    let inside = inside_stands _ c.args.self.now entries c.self.view_is stands in
    realm_said c.args.self.now entries stands c.args.ino c.realm_of.result c.in-Ok.context c.requires.there (c.realm_of.ensures (family_of entries) inside) (c.in-Ok.ensures.story (family_of entries) inside)

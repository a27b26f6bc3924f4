use Rattle.std.proofs.Common.{◌∙◌, subst, sym}
use Rattle.snap_realm.specs.Tree.{StandsFor as IsOfStory}
use Rattle.journal_realms.specs.Told.{family_of}
use Rattle.meta_state.specs.Stands.{Tables}
use Rattle.meta_state.proofs.Walks.{directory_there, realms_there, realms_outside}
use Rattle.meta_state.proofs.Finds.{snap_named_is}
use Rattle.meta_state.proofs.state.MetaState.snap_named.Goals as goal

-- src/find.rt
pub snap_named-requires-clause-there : goal.snap_named-requires-clause-there
snap_named-requires-clause-there c =
    let is = c.requires.directory in
    realms_there is.entries is.stands.journal c.self.inside.realms (subst (λ (tables : Tables). IsOfStory tables.realms (family_of is.entries)) (sym c.self.view_is) is.stands.realms) c.args.dir (directory_there is.entries is.stands.journal c.args.dir is.there)

pub snap_named-requires-clause-outside : goal.snap_named-requires-clause-outside
snap_named-requires-clause-outside c =
    let is = c.requires.directory in
    realms_outside is.entries is.stands.journal c.self.inside.realms (subst (λ (tables : Tables). IsOfStory tables.realms (family_of is.entries)) (sym c.self.view_is) is.stands.realms) c.args.dir is.there

pub returns : goal.returns
returns c entries stands =
    snap_named_is c.args.self.now entries stands c.args.dir c.requires.directory c.args.name.now
    ∙ sym (c.snap_named.ensures (family_of entries) (subst (λ (tables : Tables). IsOfStory tables.realms (family_of entries)) (sym c.self.view_is) stands.realms))

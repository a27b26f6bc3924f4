use Rattle.std.proofs.Common.{rules, refl}
use Rattle.dentry_tree.proofs.Steps.{puts_at}
use Rattle.dentry_tree.proofs.places.put.Goals as goal

pub returns-clause-puts : goal.returns-clause-puts
returns-clause-puts c = search (rules, puts_at c.args.applied c.args.dir c.args.name c.args.ino c.args.dentries.now.items c.args.place c.requires.before_nosnap c.requires.dentries c.requires.newest c.requires.place _ refl c.requires.free)

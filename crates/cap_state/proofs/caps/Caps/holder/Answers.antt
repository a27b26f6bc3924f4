use Rattle.std.proofs.Common.{rules, ◌≡◌, subst}
use Rattle.cap_state.specs.Table.{IsTable, writer_of}
use Rattle.cap_state.proofs.Writers.{writer_alone}
use Rattle.cap_state.proofs.caps.Caps.holder.Goals as goal

pub returns-clause-alone : goal.returns-clause-alone
returns-clause-alone c =
    let is : c.writer.result ≡ writer_of c.args.ino c.args.self.now = search rules in
    writer_alone c.args.ino c.args.self.now (subst IsTable c.self.view_is c.self.invariant) c.writer.result is

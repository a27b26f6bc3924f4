use Rattle.server_holders.proofs.Changes.{settles}
use Rattle.server_holders.proofs.acts.a_flush_settles.Goals as goal

pub returns : goal.returns
returns c held marks s client ino upto stands = settles held marks s.holders stands client ino upto

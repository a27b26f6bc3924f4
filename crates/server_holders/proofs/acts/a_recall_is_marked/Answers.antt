use Rattle.server_holders.proofs.Changes.{is_marked}
use Rattle.server_holders.proofs.acts.a_recall_is_marked.Goals as goal

pub returns : goal.returns
returns c held marks s client ino stands = is_marked held marks s.holders stands client ino

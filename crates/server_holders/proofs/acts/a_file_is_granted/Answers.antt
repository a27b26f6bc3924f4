use Rattle.server_holders.proofs.Grants.{gives}
use Rattle.server_holders.proofs.acts.a_file_is_granted.Goals as goal

pub returns : goal.returns
returns c held marks s client ino mode tab one stands none = gives held marks s client ino mode tab one stands none

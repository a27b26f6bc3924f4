use Rattle.server_holders.proofs.Claims.{comes_back}
use Rattle.server_holders.proofs.acts.a_client_comes_back.Goals as goal

pub returns : goal.returns
returns c held marks s client claims stands = comes_back held marks s client claims stands

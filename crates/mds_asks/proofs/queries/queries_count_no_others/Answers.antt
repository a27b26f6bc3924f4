use Rattle.mds_asks.proofs.Asked.{counts_no_others}
use Rattle.mds_asks.proofs.queries.queries_count_no_others.Goals as goal

pub returns : goal.returns
returns c alone s a asked is = counts_no_others alone s a asked is

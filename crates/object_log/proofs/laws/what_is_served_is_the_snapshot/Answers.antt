use Rattle.object_log.proofs.Agrees.{served_agrees}
use Rattle.object_log.proofs.laws.what_is_served_is_the_snapshot.Goals as goal

pub returns : goal.returns
returns c object size taken f s some well known kept = served_agrees object taken f size s some well known kept

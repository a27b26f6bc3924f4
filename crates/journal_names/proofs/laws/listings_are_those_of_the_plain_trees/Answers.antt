use Rattle.journal_names.proofs.Seen.{listing_is}
use Rattle.journal_names.proofs.laws.listings_are_those_of_the_plain_trees.Goals as goal

-- src/laws.rt
pub returns : goal.returns
returns c tree entries legal stands s asked dir = listing_is tree entries legal stands s asked dir

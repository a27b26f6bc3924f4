use Rattle.std.proofs.Common.{◌≡◌, ◌++◌, length}
use Rattle.std.specs.List.{AllByRecursion, filter_map}
use Rattle.client_realms.specs.Contexts.{IsBorn}
use Rattle.client_realms.specs.Fresh.{growth, fresh_of}
use Rattle.client_realms.proofs.realms.ClientRealms.news.Given as goal

abbrev pub invariant-loop-file : goal.invariant-loop-file
invariant-loop-file l = record {
  fresh : l.news.fresh.items ++ filter_map (fresh_of l.self) l.left ≡ filter_map (fresh_of l.self) l.files;
  grown : l.news.grown.items ++ filter_map (growth l.self) l.left ≡ filter_map (growth l.self) l.files;
  born : AllByRecursion IsBorn l.left;
}

abbrev pub decreases-loop-file : goal.decreases-loop-file
decreases-loop-file l = length l.left

use Rattle.std.proofs.Common.{◌+◌, ◌^◌, rules}
use Rattle.std.proofs.lemmas.List.Sorted.{answers_always}
use Rattle.removal_runs.specs.IdSets.{PeerCounters, node_of_counters}
use Rattle.removal_runs.proofs.Placing.{is_place_of}
use Rattle.removal_runs.proofs.ranges.place_of.Goals as goal

pub returns : goal.returns
returns c =
    is_place_of node_of_counters (λ (p : PeerCounters). p.node + 1) 0 c.args.peers.now (2 ^ 16) c.args.node c.binary_search_by_key.result c.requires c.binary_search_by_key.ensures.bound
    (c.binary_search_by_key.ensures.position node_of_counters (answers_always _ _ _ (λ f a r g called. search rules)))

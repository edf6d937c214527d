-- Sets of ids, kept as ranges of counters.
use Rattle.std.specs.Prelude.{◌≡◌, ℕ, ◌+◌, ◌-◌, ◌≤◌, ◌^◌, List, Some, map, slice_get}
use Rattle.std.specs.List.{range_with_len}
use Rattle.change_ops.specs.declared.id.OpId.{OpId}
use Rattle.removal_runs.specs.Apart.{AreApart}
use Rattle.removal_runs.specs.declared.peer_ranges.Range.{Range}

-- a peer's node, and counters of its operations
pub record PeerCounters : Type 0 where
  pub node : ℕ
  pub counters : List ℕ

abbrev pub begin_of_range : Range → ℕ
begin_of_range range = range.first

abbrev pub end_of_range : Range → ℕ
end_of_range range = range.last + 1

-- the counters from the first to the last
abbrev pub counters_in : Range → List ℕ
counters_in range = range_with_len range.first (range.last + 1 - range.first)

abbrev pub AreRanges : List Range → Type 0
AreRanges ranges = AreApart begin_of_range end_of_range 0 ranges (2 ^ 48)

-- the counter follows the range before the place
pub record JoinsBefore (ranges : List Range) (place counter : ℕ) : Type 0 where
  pub range : Range
  pub some : 1 ≤ place
  pub at : slice_get ranges (place - 1) ≡ Some range
  pub next : range.last + 1 ≡ counter

-- the range at the place follows the counter
pub record JoinsBehind (ranges : List Range) (place counter : ℕ) : Type 0 where
  pub range : Range
  pub at : slice_get ranges place ≡ Some range
  pub next : range.first ≡ counter + 1

abbrev pub id_at : ℕ → ℕ → OpId
id_at node counter = record { counter = counter; node = node }

abbrev pub ids_of_peer : PeerCounters → List OpId
ids_of_peer peer = map (id_at peer.node) peer.counters

abbrev pub node_of_counters : PeerCounters → ℕ
node_of_counters peer = peer.node

-- the peers stand in the order of their nodes
abbrev pub AreCounters : List PeerCounters → Type 0
AreCounters peers = AreApart node_of_counters (λ peer. peer.node + 1) 0 peers (2 ^ 16)

use Rattle.std.proofs.Common.{◌≡◌, ◌+◌, ◌*◌, ◌≤◌, drop}
use Rattle.block_layout.specs.Rooms.{above}
use Rattle.block_layout.proofs.spread.above.Given as goal

abbrev pub invariant-loop-slot : goal.invariant-loop-slot
invariant-loop-slot l = record {
  sum : l.total + above (drop l.slot l.ranks) (drop l.slot l.rooms) l.rank ≡ above l.ranks l.rooms l.rank;
  few : l.total ≤ 3 * l.slot;
}

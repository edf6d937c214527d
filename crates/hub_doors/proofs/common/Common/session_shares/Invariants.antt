use Rattle.std.proofs.Common.{◌≡◌, ◌+◌, ◌≤◌, vec_len, vec_capacity, length}
use Rattle.std.specs.Prelude.{All}
use Rattle.std.specs.Vec.Iter.{into_iter_items}
use Rattle.hub_doors.specs.Serving.{IsBegun}
use Rattle.hub_doors.proofs.common.Common.session_shares.Given as goal

-- those that are made and those that are left are all
abbrev pub invariant-loop-share : goal.invariant-loop-share
invariant-loop-share g l = record {
  all : vec_len l.made + length (into_iter_items l.share-iterator) ≡ length (into_iter_items l.initial.share-iterator);
  room : length (into_iter_items l.initial.share-iterator) ≤ vec_capacity l.made;
  begun : All (IsBegun g.N.Naming.size) (into_iter_items l.share-iterator);
}

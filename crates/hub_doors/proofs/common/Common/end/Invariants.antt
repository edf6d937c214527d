use Rattle.std.proofs.Common.{◌+◌, ◌≤◌, vec_len, vec_capacity}
use Rattle.std.specs.Prelude.{All}
use Rattle.hub_doors.specs.Serving.{IsOfSessions}
use Rattle.hub_doors.proofs.common.Common.end.Given as goal

-- there is room for all that may come back
abbrev pub invariant-loop-place : goal.invariant-loop-place
invariant-loop-place g l = record {
  room : vec_len l.back + l.shares ≤ vec_capacity l.back;
  sessions : All (IsOfSessions g.N.Naming.size g.N.Keeping.kept) l.back.items;
}

abbrev pub decreases-loop-place : goal.decreases-loop-place
decreases-loop-place g l = l.shares

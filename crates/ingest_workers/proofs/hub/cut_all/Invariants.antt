use Rattle.std.proofs.Common.{◌≡◌, ◌+◌, ◌≤◌, vec_len, vec_capacity}
use Rattle.std.specs.Prelude.{All}
use Rattle.ingest_workers.specs.Holdings.{IsIdle}
use Rattle.ingest_workers.proofs.hub.cut_all.Given as goal

abbrev pub invariant-loop-i : goal.invariant-loop-i
invariant-loop-i g l = record {
  seen : l.share.seen ≡ l.fn.share.seen;
  own : l.share.own ≡ l.fn.share.own;
  parts : l.share.parts + l._i ≡ l.count + 1;
  given : vec_len l.given ≡ vec_len l.fn.given + l._i;
  room : vec_len l.fn.given + l.count ≤ vec_capacity l.given;
  idle : All (IsIdle g.N.Naming.size) l.fn.given.items → All (IsIdle g.N.Naming.size) l.given.items;
}

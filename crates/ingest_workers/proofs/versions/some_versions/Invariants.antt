use Rattle.std.proofs.Common.{◌≡◌, ◌≤◌, take, drop, length}
use Rattle.ingest_workers.proofs.versions.some_versions.Given as goal

abbrev pub invariant-loop-index : goal.invariant-loop-index
invariant-loop-index g l = record {
  some : l.some.items ≡ take l.index (drop l.from l.core.versions);
  few : l.index ≤ length l.core.versions;
}

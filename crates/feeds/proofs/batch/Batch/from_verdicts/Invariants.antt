use Rattle.std.proofs.Common.{◌≡◌, ◌≤◌, ◌++◌, map, drop, vec_len}
use Rattle.feeds.specs.Batches.{item_of, hits_from}
use Rattle.feeds.proofs.batch.Batch.from_verdicts.Given as goal

abbrev pub invariant-loop-span : goal.invariant-loop-span
invariant-loop-span g l = record {
  few : vec_len l.items ≤ l.span;
  whole : l.items.items ++ map (item_of l.job.program l.job.version) (hits_from l.number l.span (drop l.span l.verdicts))
      ≡ map (item_of l.job.program l.job.version) (hits_from l.number 0 l.verdicts);
}

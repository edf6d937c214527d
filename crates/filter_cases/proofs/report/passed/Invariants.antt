use Rattle.std.proofs.Common.{◌≡◌, ◌+◌, ◌≤◌, drop}
use Rattle.filter_cases.specs.Report.{passed}
use Rattle.filter_cases.proofs.report.passed.Given as goal

abbrev pub invariant-loop-tried : goal.invariant-loop-tried
invariant-loop-tried l = record {
  counted : l.count + passed (drop l.tried-index l.all) ≡ passed l.all;
  few : l.count ≤ l.tried-index;
}

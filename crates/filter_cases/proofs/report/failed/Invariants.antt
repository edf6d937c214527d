use Rattle.std.proofs.Common.{◌≡◌, ◌+◌, ◌≤◌, drop}
use Rattle.filter_cases.specs.Report.{failed}
use Rattle.filter_cases.proofs.report.failed.Given as goal

abbrev pub invariant-loop-tried : goal.invariant-loop-tried
invariant-loop-tried l = record {
  counted : l.count + failed (drop l.tried-index l.all) ≡ failed l.all;
  few : l.count ≤ l.tried-index;
}

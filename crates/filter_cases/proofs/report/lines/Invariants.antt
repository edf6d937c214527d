use Rattle.std.proofs.Common.{◌≡◌, ◌++◌, drop, string_bytes}
use Rattle.std.specs.List.{flat_map}
use Rattle.filter_cases.specs.Report.{line_of}
use Rattle.filter_cases.proofs.report.lines.Given as goal

abbrev pub invariant-loop-tried : goal.invariant-loop-tried
invariant-loop-tried l = string_bytes l.text ++ flat_map line_of (drop l.tried-index l.all) ≡ flat_map line_of l.all

use Rattle.std.proofs.Common.{◌≡◌, ◌++◌, drop, string_bytes}
use Rattle.std.specs.List.{flat_map}
use Rattle.filter_cases.specs.Report.{element_of}
use Rattle.filter_cases.proofs.report.elements.Given as goal

abbrev pub invariant-loop-tried : goal.invariant-loop-tried
invariant-loop-tried l = string_bytes l.text ++ flat_map element_of (drop l.tried-index l.all) ≡ flat_map element_of l.all

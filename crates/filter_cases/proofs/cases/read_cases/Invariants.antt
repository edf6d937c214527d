use Rattle.std.proofs.Common.{◌+◌, ◌≤◌, length}
use Rattle.filter_cases.specs.Cases.{Begins}
use Rattle.filter_cases.proofs.cases.read_cases.Given as goal

abbrev pub invariant-loop-rest : goal.invariant-loop-rest
invariant-loop-rest l = record {
  begins : Begins l.fn.input l.cases.items l.number l.rest;
  counted : l.number + length l.rest ≤ length l.fn.input + 1;
}

abbrev pub decreases-loop-rest : goal.decreases-loop-rest
decreases-loop-rest l = length l.rest

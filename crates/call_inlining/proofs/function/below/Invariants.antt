use Rattle.std.proofs.Common.{◌≡◌, ◌+◌, drop}
use Rattle.inlined_calls.specs.Calls.{below}
use Rattle.call_inlining.proofs.function.below.Given as goal

-- what is counted, and what the calls that are left add, is all
abbrev pub invariant-loop-caller : goal.invariant-loop-caller
invariant-loop-caller l = l.bytes + below l.functions (drop l.caller-index l.callers) ≡ below l.functions l.callers

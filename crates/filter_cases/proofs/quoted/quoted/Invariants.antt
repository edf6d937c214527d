use Rattle.std.proofs.Common.{length}
use Rattle.filter_cases.proofs.Quotes.{Reading}
use Rattle.filter_cases.proofs.quoted.quoted.Given as goal

abbrev pub invariant-loop-first : goal.invariant-loop-first
invariant-loop-first l = Reading l.fn.input l.text.items l.rest

abbrev pub decreases-loop-first : goal.decreases-loop-first
decreases-loop-first l = length l.rest

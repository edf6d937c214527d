use Rattle.std.proofs.Common.{◌/◌}
use Rattle.abstract_state.proofs.Widths.{tails_lower, loses}
use Rattle.std.proofs.Math.Nat.{div-le_self}
use Rattle.abstract_state.proofs.quantity.Quantity.tails_over.Goals as goal

pub returns-then-not-has_more_rules-clause-contains : goal.returns-then-not-has_more_rules-clause-contains
returns-then-not-has_more_rules-clause-contains c = λ lengths x a. tails_lower _ lengths x _ a.tails (div-le_self x c.args.divisor)

pub returns-clause-contains : goal.returns-clause-contains
returns-clause-contains c = λ lengths x a.
    c.raised.ensures.contains lengths (x / c.args.divisor) x a.tails (loses c.args.self.range.low x c.args.divisor a.range.low c.requires)

use Rattle.state_inclusion.proofs.BitsWithin.{within_from, contains_on}
use Rattle.state_inclusion.proofs.numbers.are_bits_within.Goals as goal

pub returns-then-has : goal.returns-then-has
returns-then-has c = (
  λ yes. within_from c.args.a c.args.b c.least.result c.greatest.result c.least.ensures.value c.greatest.ensures.value (c.has.ensures.0 c.if-has.true) (c.has-then-has.ensures.0 yes),
  λ within. c.has-then-has.ensures.1 (contains_on c.args.a c.args.b c.greatest.result within c.greatest.ensures.contained),
)
